-- What is read at an index of a world's lists.
use Rattle.std.proofs.Common.{◌≡◌, ℕ, ◌<◌, List, [], length, get_or, Some}
use Rattle.std.specs.Prelude.{slice_get}
use Rattle.std.proofs.lemmas.List.{get_or_read}
use Rattle.std.proofs.lemmas.Option.{slice_get_read}
use Rattle.shard.specs.Mails.{MailBook}
use Rattle.shard.specs.Stand.{Seating}
use Rattle.world.specs.declared.home.Desk.{Desk}
use Rattle.world.specs.Places.{shard_at, deque_at}

pub shard_read : (shards : List (Seating MailBook)) {i : ℕ} {x : Seating MailBook} → i < length shards → x ≡ get_or shards i x → x ≡ shard_at shards i
shard_read shards {i} {x} within read = get_or_read shards i x within read (record { seats = []; clock = 0 })

pub deque_read : (deques : List (List ℕ)) {i : ℕ} {x : List ℕ} → i < length deques → x ≡ get_or deques i x → x ≡ deque_at deques i
deque_read deques {i} {x} within read = get_or_read deques i x within read []

pub desk_read : (desks : List Desk) {n : ℕ} {d : Desk} → n < length desks → d ≡ get_or desks n d → slice_get desks n ≡ Some d
desk_read desks {n} {d} within read = slice_get_read desks (length desks) n d (λ i. length desks) within read
