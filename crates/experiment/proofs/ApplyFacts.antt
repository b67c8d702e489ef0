-- A command comes, and a step is counted: what holds of an experiment holds still.
use Rattle.std.proofs.Common.{◌≡◌, ℕ, ◌^◌, ◌≤◌, false, refl, sym, ap, ◌∙◌, List, [], ◌∷◌, ◌++◌, length, Option, Some, None, arith}
use Rattle.std.specs.Prelude.{is_some, option_to_list}
use Rattle.std.specs.List.{AllByRecursion}
use Rattle.std.proofs.lemmas.List.{length_push}
use Rattle.emu_model.specs.declared.commands.Timed.{Timed}
use Rattle.emu_model.specs.DueLaws.{AreRising, IsInRange, IsEarly}
use Rattle.packet_store.specs.Pocket.{empty_pocket}
use Rattle.pipe_core.specs.Uses.{total, uses, one_at}
use Rattle.network.specs.Kept.{KeptNet, net_keys, IsHoused}
use Rattle.experiment.specs.Kept.{KeptExperiment, IsSound, last_moment}

pub is_none : {A : Type 0} (o : Option A) → is_some o ≡ false → o ≡ None
is_none None e = refl
is_none (Some x) e = absurd (cc)

last-push : (m : ℕ) (cs : List Timed) (c : Timed) → last_moment m (cs ++ c ∷ []) ≡ c.moment
last-push m [] c = refl
last-push m (d ∷ cs) c = last-push d.moment cs c

-- the moments rise still where the last one rises
rising-push : (low : ℕ) (cs : List Timed) (c : Timed) → AreRising low cs → last_moment low cs ≤ c.moment → AreRising low (cs ++ c ∷ [])
rising-push low [] c r h = (h, tt)
rising-push low (d ∷ cs) c r h = (r.0, rising-push d.moment cs c r.1 h)

-- and all are early still where the last one is
early-push : (cs : List Timed) (c : Timed) → AllByRecursion IsEarly cs → IsEarly c → AllByRecursion IsEarly (cs ++ c ∷ [])
early-push [] c all e = (e, tt)
early-push (d ∷ cs) c all e = (all.0, early-push cs c all.1 e)

pub sound-apply : (e : KeptExperiment) (latest held spare : ℕ) (c : Timed) → IsSound e latest held → e.next ≡ None → c.moment ≤ 10 ^ 15 → IsInRange c.command → latest ≤ c.moment →
    IsSound (record e { next = Some c; consumed = e.consumed ++ c ∷ []; spare = spare }) c.moment held
sound-apply e latest held spare c s none early ranged later = record {
  counted = omega (arith, s.counted, ap (λ (o : Option Timed). length (option_to_list o)) none, length_push e.consumed c);
  latest_is = sym (last-push 0 e.consumed c);
  rising = rising-push 0 e.consumed c s.rising (omega (arith, s.latest_is, later));
  early_all = early-push e.consumed c s.early_all (early, ranged);
  early = early;
  seed = s.seed;
  made = s.made;
  taken_few = s.taken_few;
  steps_left = s.steps_left;
  steps_few = s.steps_few;
  budget_few = s.budget_few;
  held_is = s.held_is;
}

total-nil : (g : ℕ → ℕ) → total g [] ≡ 0
unfolding total
total-nil g = refl

-- nothing is on the shelf, and nothing stands in the net
pub housed-new : (budget : ℕ) (n : KeptNet) → net_keys n ≡ [] → IsHoused (empty_pocket budget) n
housed-new budget n none = record {
  each = λ k. ap (uses k) none ∙ total-nil (one_at k);
  count = sym (ap length none);
}
