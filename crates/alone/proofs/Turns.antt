-- The commands in their turns.
use Rattle.std.proofs.Common.{◌≡◌, ℕ, zero, suc, ◌+◌, ◌^◌, ◌≤◌, ◌<◌, inl, inr, refl, sym, ap, ◌∙◌, List, [], ◌∷◌, ◌++◌, length, take, drop, Bool, true, false, Option, Some, None, IsSome, arith}
use Rattle.std.specs.Prelude.{slice_index_or, is_some}
use Rattle.std.proofs.lemmas.List.{take_more, take-append-drop, drop_all}
use Rattle.emu_model.specs.declared.commands.Timed.{Timed}
use Rattle.emu_model.specs.declared.records.Ending.{Ending}
use Rattle.experiment.specs.Kept.{KeptExperiment, shown_ending, last_moment}
use Rattle.control.specs.Order.{AreInOrder}
use Rattle.alone.specs.Runs.{IsAtRest}

at-turn : (m : ℕ) (cs : List Timed) (k : ℕ) (c : Timed) → AreInOrder m cs → k < length cs → c ≡ slice_index_or cs k c →
    (c.moment ≤ 10 ^ 15) × (last_moment m (take k cs) ≤ c.moment)
at-turn m [] k c order below is = absurd (omega (arith, below))
at-turn m (d ∷ cs) zero c order below is = (omega (arith, order.1, ap (λ (t : Timed). t.moment) is), omega (arith, order.0, ap (λ (t : Timed). t.moment) is))
at-turn m (d ∷ cs) (suc k) c order below is = at-turn d.moment cs k c order.2 (omega (arith, below)) is

pub early : (cs : List Timed) (k : ℕ) (c : Timed) → AreInOrder 0 cs → k < length cs → c ≡ slice_index_or cs k c → c.moment ≤ 10 ^ 15
early cs k c order below is = (at-turn 0 cs k c order below is).0

pub not-before : (cs consumed : List Timed) (k : ℕ) (c : Timed) → AreInOrder 0 cs → k < length cs → c ≡ slice_index_or cs k c → consumed ≡ take k cs →
    c.moment < last_moment 0 consumed → ⊥
not-before cs consumed k c order below is all earlier =
    omega (arith, (at-turn 0 cs k c order below is).1, earlier, ap (last_moment 0) all)

pub one-more : (cs consumed : List Timed) (k : ℕ) (c : Timed) → k < length cs → c ≡ slice_index_or cs k c → consumed ≡ take k cs →
    consumed ++ c ∷ [] ≡ take (k + 1) cs
one-more cs consumed k c below is all =
    ap (λ l. l ++ c ∷ []) all ∙ ap (λ (t : Timed). take k cs ++ t ∷ []) is ∙ sym (take_more cs k c below)

no-some : (o : Option Ending) → IsSome (shown_ending o) → o ≡ None → ⊥
no-some None some is = absurd (cc)
no-some (Some e) some is = cc

-- it goes on
pub goes-on : (e : KeptExperiment) → IsAtRest e → e.ending ≡ None → e.next ≡ None
goes-on e (inl ended) going = absurd (no-some e.ending ended going)
goes-on e (inr idle) going = idle.1

-- it has ended
pub has-ended : (e : KeptExperiment) → IsAtRest e → IsSome e.ending → IsSome (shown_ending e.ending)
has-ended e (inl ended) some = ended
has-ended e (inr idle) some = absurd (none-some e.ending idle.0 some)
  where
    none-some : (o : Option Ending) → o ≡ None → IsSome o → ⊥
    none-some None is s = cc
    none-some (Some x) is s = cc

pub played-all : (cs consumed : List Timed) (k : ℕ) → consumed ≡ take k cs → cs ≡ consumed ++ drop k cs
played-all cs consumed k all = sym (take-append-drop k cs) ∙ ap (λ l. l ++ drop k cs) (sym all)

pub is-none : {A : Type 0} (o : Option A) (b : Bool) → b ≡ false → b ≡ is_some o → o ≡ None
is-none None b f e = refl
is-none (Some x) b f e = absurd (cc)

pub is-some : {A : Type 0} (o : Option A) (b : Bool) → b ≡ true → b ≡ is_some o → IsSome o
is-some None b t e = absurd (cc)
is-some (Some x) b t e = refl

pub drop-end : (k : ℕ) (cs : List Timed) → length cs ≤ k → drop k cs ≡ []
drop-end k cs past = drop_all k cs past
