-- Each move keeps the account of names.
use Rattle.std.proofs.Common.{◌≡◌, ◌+◌, ◌==◌, ℕ, cond, List, [], ◌∷◌, ◌++◌, ap, sym, ◌∙◌, arith, subst}
use Rattle.std.proofs.lemmas.List.Sums.{sum_by-append}
use Rattle.shard.specs.Stand.{Stand, Seat, Seating}
use Rattle.shard.specs.declared.shard.TakeInError.{TakeInError}
use Rattle.shard.specs.Turns.{TakenIn, ComesBack}
use Rattle.bench.specs.declared.mail.RingMail.{RingMail}
use Rattle.bench.specs.declared.bench.Bench.{Bench}
use Rattle.bench.specs.declared.hand.Hand.{Hand}
use Rattle.bench.specs.declared.hand.Stamp.{Stamp}
use Rattle.bench.specs.Custody.{times, named, seated, hand, stamp, Kept, AreResidents}
use Rattle.bench.specs.Benches.{bench_view, SameBench, Takes}
use Rattle.bench.proofs.Seatings.{one_of, times-push, LacksOne}

-- one more stamp at the end
named-push : (x : ℕ) (ss : List Stamp) (s : Stamp) → named x (ss ++ s ∷ []) ≡ named x ss + one_of x s.name
named-push x ss s = let a = sum_by-append (λ (s : Stamp). cond (s.name == x) 1 0) ss (s ∷ []) in omega arith

module _ (b : Bench) (n : ℕ) where
  pub admitted_kept : (ad' re' : List ℕ) → ad' ≡ b.admitted.items ++ n ∷ [] → re' ≡ b.resident.items ++ n ∷ [] → Kept ad' b.adopted.items b.ended.items re' b.handed_out.items (bench_view b)
  admitted_kept ad' re' a r x = let i = times-push x b.admitted.items ad' n a in let j = times-push x b.resident.items re' n r in let k = b.kept x in omega arith

  pub adopted_kept : (ap' re' : List ℕ) → ap' ≡ b.adopted.items ++ n ∷ [] → re' ≡ b.resident.items ++ n ∷ [] → Kept b.admitted.items ap' b.ended.items re' b.handed_out.items (bench_view b)
  adopted_kept ap' re' a r x = let i = times-push x b.adopted.items ap' n a in let j = times-push x b.resident.items re' n r in let k = b.kept x in omega arith

  pub passed_kept : (ap' ho' : List ℕ) → ap' ≡ b.adopted.items ++ n ∷ [] → ho' ≡ b.handed_out.items ++ n ∷ [] → Kept b.admitted.items ap' b.ended.items b.resident.items ho' (bench_view b)
  passed_kept ap' ho' a h x = let i = times-push x b.adopted.items ap' n a in let j = times-push x b.handed_out.items ho' n h in let k = b.kept x in omega arith

  pub ended_kept : (en' re' : List ℕ) → en' ≡ b.ended.items ++ n ∷ [] → LacksOne n b.resident.items re' → Kept b.admitted.items b.adopted.items en' re' b.handed_out.items (bench_view b)
  ended_kept en' re' e r x = let i = times-push x b.ended.items en' n e in let j = r x in let k = b.kept x in omega arith

  pub out_kept : (ho' re' : List ℕ) (w : Hand) → w ≡ bench_view b → ho' ≡ b.handed_out.items ++ n ∷ [] → LacksOne n b.resident.items re' → Kept b.admitted.items b.adopted.items b.ended.items re' ho' w
  out_kept ho' re' w e h r x =
      let i = times-push x b.handed_out.items ho' n h in
      let pushed = ap (λ (u : Hand). named x u.pushed) e in
      let taken = ap (λ (u : Hand). named x u.taken) e in
      let j = r x in
      let k = b.kept x in
      omega arith

  module _ (p : Stand RingMail) (is : n ≡ p.name) (w : Hand) where
    name_is : (x : ℕ) → one_of x n ≡ one_of x p.name
    name_is x = ap (one_of x) is

    pub pushed_kept : (ho' re' : List ℕ) → ho' ≡ b.handed_out.items → w ≡ hand ((bench_view b).pushed ++ stamp p ∷ []) (bench_view b).taken → LacksOne n b.resident.items re' →
        Kept b.admitted.items b.adopted.items b.ended.items re' ho' w
    pushed_kept ho' re' h e r x =
        let o = ap (times x) h in
        let i = ap (λ (u : Hand). named x u.pushed) e in
        let t = ap (λ (u : Hand). named x u.taken) e in
        let g = named-push x (bench_view b).pushed (stamp p) in
        let s = name_is x in
        let j = r x in
        let k = b.kept x in
        omega arith

    pub retaken_kept : (re' : List ℕ) → w ≡ hand (bench_view b).pushed ((bench_view b).taken ++ stamp p ∷ []) → re' ≡ b.resident.items ++ n ∷ [] → Kept b.admitted.items b.adopted.items b.ended.items re' b.handed_out.items w
    retaken_kept re' e r x =
        let i = ap (λ (u : Hand). named x u.pushed) e in
        let t = ap (λ (u : Hand). named x u.taken) e in
        let g = named-push x (bench_view b).taken (stamp p) in
        let s = name_is x in
        let j = times-push x b.resident.items re' n r in
        let k = b.kept x in
        omega arith

    pub returned_kept : (ho' : List ℕ) → w ≡ hand (bench_view b).pushed ((bench_view b).taken ++ stamp p ∷ []) → ho' ≡ b.handed_out.items ++ n ∷ [] → Kept b.admitted.items b.adopted.items b.ended.items b.resident.items ho' w
    returned_kept ho' e h x =
        let i = ap (λ (u : Hand). named x u.pushed) e in
        let t = ap (λ (u : Hand). named x u.taken) e in
        let g = named-push x (bench_view b).taken (stamp p) in
        let s = name_is x in
        let j = times-push x b.handed_out.items ho' n h in
        let k = b.kept x in
        omega arith

-- a parcel that came after room was made came
pub sits_from : (p : Stand RingMail) (a' a : Bench) (new : Seating RingMail) (slot : ℕ) (s : Seat RingMail) → SameBench a a' → TakenIn p a'.shard new slot s →
    (k : ℕ) × (t : Seat RingMail) × TakenIn p a.shard new k t
sits_from p a' a new slot s same t = let P : Seating RingMail → Type 0 = λ g. TakenIn p g new slot s in (slot, s, subst P same.0 t)

-- one that was taken after room was made was taken
pub takes_from : (p : Stand RingMail) (a' a : Bench) (w : Hand) → SameBench a a' → w ≡ hand (bench_view a').pushed ((bench_view a').taken ++ stamp p ∷ []) → Takes p (bench_view a) w
takes_from p a' a w same e = e ∙ ap (λ (u : Hand). hand u.pushed (u.taken ++ stamp p ∷ [])) same.1

-- one that comes back after room was made comes back
pub back_from : (p : Stand RingMail) (a' a : Bench) (e : TakeInError RingMail) → SameBench a a' → ComesBack p a'.shard e → ComesBack p a.shard e
back_from p a' a e same h = let P : Seating RingMail → Type 0 = λ g. ComesBack p g e in subst P same.0 h

-- where nobody came the residents stay
pub stays : (names : List ℕ) (old new : Seating RingMail) → AreResidents names old.seats → new ≡ old → AreResidents names new.seats
stays names old new sits e x = sits x ∙ sym (ap (λ (g : Seating RingMail). seated x g.seats) e)
