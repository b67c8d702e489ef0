-- A new world, and a new name.
use Rattle.std.proofs.Common.{zero, suc, ◌≡◌, ℕ, false, List, [], ◌∷◌, ◌++◌, length, Some, None, refl, sym, ap, ◌∙◌, arith}
use Rattle.std.specs.Prelude.{option_map, slice_get, count_by, ◌==◌}
use Rattle.std.proofs.lemmas.Option.{slice_get_past}
use Rattle.shard.specs.Mails.{MailBook, mail_seen, posted_of}
use Rattle.shard.specs.Stand.{Stand, Seating, IsTold, seat_at, opened_stand}
use Rattle.emu_model.specs.declared.commands.Spec.{Spec}
use Rattle.world.specs.declared.home.Home.TheVariants.{Handed, Seated}
use Rattle.world.specs.declared.home.Desk.{Desk}
use Rattle.world.specs.declared.home.Place.TheVariants.{HandedOut}
use Rattle.world.specs.Tenants.{Standing}
use Rattle.world.specs.Places.{Places, shard_at, deque_at, stand_at, home_at}
use Rattle.world.specs.Kept.{IsKept, IsWorld, waits_of}
use Rattle.world.proofs.Sitting.{sitting, nobody_sat, stand_at-is}
use Rattle.world.proofs.KeptFacts.{kept_standing}
use Rattle.world.proofs.WorldFacts.{Steps, desk_push, sits_nowhere, waits_same, keeps, no_tenant}
use Rattle.world.proofs.StepFacts.{tenant_with}

-- one more shard without residents
pub vacant_more : (shards : List (Seating MailBook)) (sh : Seating MailBook) → ((i k : ℕ) → stand_at shards i k ≡ None) → ((k : ℕ) → seat_at sh.seats k ≡ None) → (i k : ℕ) → stand_at (shards ++ sh ∷ []) i k ≡ None
vacant_more shards sh all none i k = stand_at-is (shards ++ sh ∷ []) i k ∙ go shards (λ j. sym (stand_at-is shards j k) ∙ all j k) i
  where
    go : (l : List (Seating MailBook)) → ((j : ℕ) → sitting (shard_at l j) k ≡ None) → (j : ℕ) → sitting (shard_at (l ++ sh ∷ []) j) k ≡ None
    go [] h zero = nobody_sat sh k (none k)
    go [] h (suc j) = refl
    go (x ∷ xs) h zero = h 0
    go (x ∷ xs) h (suc j) = go xs (λ m. h (suc m)) j

pub vacant_none : (i k : ℕ) → stand_at [] i k ≡ None
vacant_none i k = stand_at-is [] i k

pub empty_more : (deques : List (List ℕ)) → ((i : ℕ) → deque_at deques i ≡ []) → (i : ℕ) → deque_at (deques ++ [] ∷ []) i ≡ []
empty_more [] h zero = refl
empty_more [] h (suc i) = refl
empty_more (x ∷ xs) h zero = h 0
empty_more (x ∷ xs) h (suc i) = empty_more xs (λ j. h (suc j)) i

-- a world without names
pub IsWorld-new : (desks : List Desk) (shards : List (Seating MailBook)) (deques : List (List ℕ)) → desks ≡ [] → ((i k : ℕ) → stand_at shards i k ≡ None) → ((i : ℕ) → deque_at deques i ≡ []) → length deques ≡ length shards → IsWorld (record { desks = desks; shards = shards; deques = deques })
IsWorld-new desks shards deques none vacant empty many =
    let w : Places = record { desks = desks; shards = shards; deques = deques } in
    let nobody : (n : ℕ) → slice_get desks n ≡ None = λ n. ap (λ l. slice_get l n) none in
    record {
      sits = λ n i k e. let x : None ≡ Some (Seated i k) = sym (ap (option_map (λ (d : Desk). d.home)) (nobody n)) ∙ e in absurd (cc);
      sits_there = λ n i k e. let x : None ≡ Some n = sym (ap (option_map (λ (s : Stand MailBook). s.name)) (vacant i k)) ∙ e in absurd (cc);
      waits = λ n i. ap (count_by (λ m. m == n)) (empty i) ∙ sym (ap (λ o. waits_of (option_map (λ (d : Desk). d.home) o) i) (nobody n));
      each = λ n t e. let x : None ≡ Some t = sym (no_tenant w n (nobody n)) ∙ e in absurd (cc);
      as_many = many;
    }

-- one more name is handed out
pub registered : (w : Places) (p : Stand MailBook) (spec : Spec) (mail : MailBook) → IsWorld w → p ≡ opened_stand (length w.desks) spec mail → mail ≡ record { given = []; waiting = []; read = []; unread = [] } → IsTold mail_seen p → IsWorld (record w { desks = w.desks ++ record { home = Handed p; closed = false; last = 0 } ∷ [] })
registered w p spec mail h is new told =
    let n : ℕ = length w.desks in
    let e : Desk = record { home = Handed p; closed = false; last = 0 } in
    let v : Places = record w { desks = w.desks ++ e ∷ [] } in
    let none : slice_get w.desks n ≡ None = slice_get_past w.desks n (omega arith) in
    let before : home_at w.desks n ≡ None = ap (option_map (λ (d : Desk). d.home)) none in
    let posted : posted_of p.mail ≡ [] = ap (λ (s : Stand MailBook). posted_of s.mail) is ∙ ap posted_of new in
    let kept : IsKept n (tenant_with e HandedOut (Standing p)) = kept_standing n p HandedOut false 0 [] (ap (λ (s : Stand MailBook). s.name) is) told posted (record { rising = refl; last_is = refl }) in
    let c : Steps w v n e = record {
      desk = desk_push w.desks e;
      sits = sits_nowhere w w.shards n e h (λ i k. refl) (λ j k q. let x : None ≡ Some (Seated j k) = sym before ∙ q in cc) (λ j k q. cc);
      waits = waits_same w n e h (λ i. ap (λ o. waits_of o i) before);
      as_many = h.as_many;
    } in
    keeps w v n e (tenant_with e HandedOut (Standing p)) h c refl kept
