use Rattle.std.proofs.Common.{◌≡◌, ◌*◌, ◌<◌, length, true, refl, subst, inl, inr}
use Rattle.std.proofs.lemmas.Bool.{both_ways}
use Rattle.emu_model.specs.Reno.{with_segment, missing}
use Rattle.reno_core.specs.Kept.{Reception, filled, contains, most_segments}
use Rattle.reno_core.proofs.Receiving.{next_is, next_again, before_again, present_again, no_multiple, Placed, inserted, not_full, full_length, next_absent, other_absent, other_next}
use Rattle.reno_core.proofs.receiver.Receiver.take.Goals as goal
use Rattle.reno_core.proofs.receiver.Receiver.take.Goals.{else-first-next-via-then-first-next+else-first-smss-eq0, else-first-next-via-else-first-next}

pub returns-then-first-smss-eq0-clause-upto : goal.returns-then-first-smss-eq0-clause-upto
returns-then-first-smss-eq0-clause-upto c =
    let P : Reception → Type 0 = λ r. c.self.inside.in_order * c.from-smss.result ≡ missing r.smss r.came in
    subst P c.self.view_is (next_is _ _ _ _ (cc) c.self.invariant)

pub returns-then-first-smss-eq0-clause-came : goal.returns-then-first-smss-eq0-clause-came
returns-then-first-smss-eq0-clause-came c =
    let P : Reception → Type 0 = λ r. r.came ≡ with_segment c.args.first r.came in
    subst P c.self.view_is
    (before_again _ _ _ _ _ (cc) c.self.invariant.least c.if-first-next.true c.if-first-smss-eq0.true)

pub returns-then-first-next-2-clause-upto : goal.returns-then-first-next-2-clause-upto
returns-then-first-next-2-clause-upto c =
    let P : Reception → Type 0 = λ r. c.absorb-self-inside.result * c.from-smss.result ≡ missing r.smss (filled c.self.inside.smss c.absorb-self-inside.result c.absorb-self-inside.new.others.items) in
    subst P c.self.view_is (next_again _ _ _ _ (cc) c.absorb-self-inside.ensures.kept)

pub returns-in_default-clause-upto : goal.returns-in_default-clause-upto
returns-in_default-clause-upto c =
    let P : Reception → Type 0 = λ r. c.self.inside.in_order * c.from-smss.result ≡ missing r.smss r.came in
    subst P c.self.view_is (next_is _ _ _ _ (cc) c.self.invariant)

pub returns-in_default-clause-came : goal.returns-in_default-clause-came
returns-in_default-clause-came c =
    let P : Reception → Type 0 = λ r. r.came ≡ with_segment c.args.first r.came in
    subst P c.self.view_is (present_again _ _ _ _ _ c.self.invariant c.in_default.ensures.position)

-- the segment that was kept past the gap
kept : (c : goal.In_ok-insert) → Placed c.self.inside.smss c.self.inside.in_order c.args.first c.self.inside.others.items c.insert.new.self.items
kept c = inserted _ _ _ _ _ _ c.self.invariant
    (not_full _ c.if-is_full-2.ensures)
    (no_multiple _ c.from-smss.result _ _ (cc) c.self.invariant.least
    (elim c.else-first-next.branch [
      | else-first-next-via-then-first-next+else-first-smss-eq0 w ↦ inl (w.if-first-next.true, w.if-first-smss-eq0.false)
      | else-first-next-via-else-first-next w ↦ inr w.if-first-next.false
    ])
    c.if-first-next-2.false)
    c.in-Err.ensures.position c.in_ok-insert.ensures.items

pub returns-in_ok-insert-clause-upto : goal.returns-in_ok-insert-clause-upto
returns-in_ok-insert-clause-upto c =
    let P : Reception → Type 0 = λ r. c.self.inside.in_order * c.from-smss.result ≡ missing r.smss (filled c.self.inside.smss c.self.inside.in_order c.insert.new.self.items) in
    subst P c.self.view_is (next_is _ _ _ _ (cc) (kept c).kept)

pub returns-in_ok-insert-clause-came : goal.returns-in_ok-insert-clause-came
returns-in_ok-insert-clause-came c =
    let P : Reception → Type 0 = λ r. filled c.self.inside.smss c.self.inside.in_order c.insert.new.self.items ≡ with_segment c.args.first r.came in
    subst P c.self.view_is (kept c).came

pub invariant_of-self-in-Continue-1 : goal.invariant_of-self-in-Continue-1
invariant_of-self-in-Continue-1 c = (kept c).kept

pub returns-then-is_full-clause-next : goal.returns-then-is_full-clause-next
returns-then-is_full-clause-next c =
    let P : Reception → Type 0 = λ r. length r.came < most_segments → ⊥ in
    λ _ few. absurd (subst P c.self.view_is (full_length _ _ _ c.self.invariant (c.if-is_full.ensures.0 refl)) few)

pub returns-then-is_full-clause-again : goal.returns-then-is_full-clause-again
returns-then-is_full-clause-again c =
    let P : Reception → Type 0 = λ r. contains c.args.first r.came ≡ true → ⊥ in
    λ there. absurd (subst P c.self.view_is (both_ways _ (next_absent _ _ _ _ _ (cc) c.self.invariant c.if-first-next-2.true)) there)

pub returns-then-is_full-2-clause-next : goal.returns-then-is_full-2-clause-next
returns-then-is_full-2-clause-next c =
    let P : Reception → Type 0 = λ r. c.args.first ≡ missing r.smss r.came → ⊥ in
    λ is _. absurd (subst P c.self.view_is (other_next _ c.from-smss.result _ _ _ (cc) c.self.invariant c.if-first-next-2.false) is)

pub returns-then-is_full-2-clause-again : goal.returns-then-is_full-2-clause-again
returns-then-is_full-2-clause-again c =
    let P : Reception → Type 0 = λ r. contains c.args.first r.came ≡ true → ⊥ in
    λ there. absurd (subst P c.self.view_is (both_ways _ (other_absent _ _ _ _ _ c.self.invariant
    (no_multiple _ c.from-smss.result _ _ (cc) c.self.invariant.least
    (elim c.else-first-next.branch [
      | else-first-next-via-then-first-next+else-first-smss-eq0 w ↦ inl (w.if-first-next.true, w.if-first-smss-eq0.false)
      | else-first-next-via-else-first-next w ↦ inr w.if-first-next.false
    ])
    c.if-first-next-2.false)
    c.in-Err.ensures.position)) there)

pub returns-in_err-insert-clause-next : goal.returns-in_err-insert-clause-next
returns-in_err-insert-clause-next c =
    let P : Reception → Type 0 = λ r. c.args.first ≡ missing r.smss r.came → ⊥ in
    λ is _. absurd (subst P c.self.view_is (other_next _ c.from-smss.result _ _ _ (cc) c.self.invariant c.if-first-next-2.false) is)

pub returns-in_err-insert-clause-again : goal.returns-in_err-insert-clause-again
returns-in_err-insert-clause-again c =
    let P : Reception → Type 0 = λ r. contains c.args.first r.came ≡ true → ⊥ in
    λ there. absurd (subst P c.self.view_is (both_ways _ (other_absent _ _ _ _ _ c.self.invariant
    (no_multiple _ c.from-smss.result _ _ (cc) c.self.invariant.least
    (elim c.else-first-next.branch [
      | else-first-next-via-then-first-next+else-first-smss-eq0 w ↦ inl (w.if-first-next.true, w.if-first-smss-eq0.false)
      | else-first-next-via-else-first-next w ↦ inr w.if-first-next.false
    ])
    c.if-first-next-2.false)
    c.in-Err.ensures.position)) there)
