use Rattle.std.proofs.Common.{◌≡◌, ℕ, ◌≤◌, ◌<◌, [], length, None, refl, sym, ◌∙◌, arith, subst}
use Rattle.std.proofs.lemmas.List.{get_or_read}
use Rattle.shard.specs.Mails.{MailBook}
use Rattle.shard.specs.Stand.{Seating, seat_at}
use Rattle.world.specs.Places.{shard_at}
use Rattle.shard.specs.Posts.{ChangedMail, Reads}
use Rattle.world.proofs.Lists.{set_same}
use Rattle.world.proofs.Sitting.{nobody_past}
use Rattle.world.proofs.ReadFacts.{no_life, nobody_sits, not_read, same_mail}
use Rattle.world.proofs.home.Home.read.Goals as goal

pub returns-then-shard-len-clause-no : goal.returns-then-shard-len-clause-no
returns-then-shard-len-clause-no g c = λ f.
    let shards = c.args.shards.now in
    let i : ℕ = c.in-Seated.shard in
    let slot : ℕ = c.in-Seated.slot in
    let past : length shards.items ≤ i = omega (arith, c.if-shard-len.true, c.len.ensures, shards.ok.0) in
    (sym c.in-Seated.is, refl, λ life e. absurd (no_life shards.items c.args.self.now i slot life c.in-Seated.is (nobody_past shards.items i slot past) e))

pub returns-in_default-read-clause-no : goal.returns-in_default-read-clause-no
returns-in_default-read-clause-no g c = λ f.
    let shards = c.args.shards.now in
    let i : ℕ = c.in-Seated.shard in
    let slot : ℕ = c.in-Seated.slot in
    let within : i < length shards.items = omega (arith, c.if-shard-len.false, c.len.ensures, shards.ok.0) in
    let read : c.index_mut.result.now ≡ shard_at shards.items i = get_or_read shards.items i c.index_mut.result.now within c.index_mut.ensures.value (record { seats = []; clock = 0 }) in
    let sh : Seating MailBook = c.read-in-Seated.new.self in
    let h = c.in_default-read.ensures in
    let none : seat_at (shard_at shards.items i).seats slot ≡ None = subst (λ x. seat_at x.seats slot ≡ None) read h.vacant in
    (sym c.in-Seated.is, set_same shards.items i sh (record { seats = []; clock = 0 }) (h.err ∙ read), λ life e. absurd (no_life shards.items c.args.self.now i slot life c.in-Seated.is (nobody_sits shards.items i slot none) e))

pub returns-in_default-letter-clause-no : goal.returns-in_default-letter-clause-no
returns-in_default-letter-clause-no g c = λ f.
    let shards = c.args.shards.now in
    let i : ℕ = c.in-Seated.shard in
    let slot : ℕ = c.in-Seated.slot in
    let within : i < length shards.items = omega (arith, c.if-shard-len.false, c.len.ensures, shards.ok.0) in
    let read : c.index_mut.result.now ≡ shard_at shards.items i = get_or_read shards.items i c.index_mut.result.now within c.index_mut.ensures.value (record { seats = []; clock = 0 }) in
    let sh : Seating MailBook = c.read-in-Seated.new.self in
    let h = c.in-Ok.ensures.ok in
    let none : Reads None h.0.stand.mail h.1 = subst (λ o. Reads o h.0.stand.mail h.1) c.in_default-letter.is h.2 in
    let changed : ChangedMail (shard_at shards.items i) sh slot h.0 h.1 = subst (λ x. ChangedMail x sh slot h.0 h.1) read h.3 in
    (sym c.in-Seated.is, set_same shards.items i sh (record { seats = []; clock = 0 }) (same_mail (shard_at shards.items i) sh slot h.0 h.1 changed none.1), not_read shards.items c.args.self.now i slot h.0 c.in-Seated.is changed.was none.0)
