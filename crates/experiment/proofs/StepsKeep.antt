-- What holds of an experiment holds after a step, and after one that was refused.
use Rattle.std.proofs.Common.{◌≡◌, ◌≢◌, ℕ, ◌+◌, ◌≤◌, ◌<◌, Bool, true, false, nat_eq, refl, sym, ap, ◌∙◌, ◌++◌, length, map, Option, Some, None, arith}
use Rattle.std.specs.Prelude.{◌==◌, option_to_list}
use Rattle.std.proofs.lemmas.Bool.Decides.{nat_tests}
use Rattle.emu_model.specs.declared.commands.Timed.{Timed}
use Rattle.emu_model.specs.declared.records.Ending.{Ending}
use Rattle.emu_model.specs.declared.records.Ending.TheVariants.{Halted}
use Rattle.emu_model.specs.Net.{Net}
use Rattle.packet_store.specs.Pocket.{Pocket}
use Rattle.pipe_core.specs.Uses.{uses}
use Rattle.network.specs.Kept.{KeptNet, net_of, net_keys, IsHoused}
use Rattle.network.specs.Changes.{Becomes, IsStill}
use Rattle.experiment.specs.Kept.{KeptExperiment, shown_ending, IsSound}
use Rattle.experiment.specs.Moves.{Closes, Halts}
use Rattle.experiment.proofs.StepFacts.{closed_ending, close-ending}

-- closing a step moves no packet
record IsSame (old new : KeptNet) : Type 0 where
  keys : net_keys new ≡ net_keys old
  seed : new.table.seed ≡ old.table.seed
  made : new.made ≡ old.made

closes-same : (e : Option Ending) (b : Bool) (now : ℕ) (old new : KeptNet) (r : Option Ending) → Closes e b now old new r → IsSame old new
closes-same (Some x) b now old new r c = record { keys = ap net_keys c.0; seed = ap (λ (n : KeptNet). n.table.seed) c.0; made = ap (λ (n : KeptNet). n.made) c.0 }
closes-same None true now old new r c =
    record { keys = ap net_keys c.0.rest; seed = ap (λ (n : KeptNet). n.table.seed) c.0.rest; made = ap (λ (n : KeptNet). n.made) c.0.rest }
closes-same None false now old new r c = record { keys = ap net_keys c.0; seed = ap (λ (n : KeptNet). n.table.seed) c.0; made = ap (λ (n : KeptNet). n.made) c.0 }

housed-same : (q : Pocket) (old new : KeptNet) → net_keys new ≡ net_keys old → IsHoused q old → IsHoused q new
housed-same q old new keys h = record {
  each = λ k. ap (uses k) keys ∙ h.each k;
  count = h.count ∙ ap length (sym keys);
}

pub housed-closed : (e : Option Ending) (b : Bool) (now : ℕ) (q : Pocket) (mid new : KeptNet) (r : Option Ending) → Closes e b now mid new r →
    IsHoused q mid → IsHoused q new
housed-closed e b now q mid new r c h = housed-same q mid new (closes-same e b now mid new r c).keys h

-- what is left of the budget of steps
left-after : (steps budget : ℕ) (e r : Option Ending) → steps < budget → r ≡ closed_ending e (steps + 1 == budget) → r ≡ None → steps + 1 < budget
left-after steps budget e r left is none = go e (steps + 1 == budget) refl (sym is ∙ none)
  where
    go : (o : Option Ending) (b : Bool) → (steps + 1 == budget) ≡ b → closed_ending o b ≡ None → steps + 1 < budget
    go (Some x) b same f = absurd (cc)
    go None true same f = absurd (cc)
    go None false same f =
        let other : steps + 1 ≢ budget = λ h. let yes : nat_eq (steps + 1) budget ≡ true = grind (arith, nat_tests, h) in absurd (cc) in
        omega (arith, left, other)

-- a step's net, and what it was counted as
module _ (old : KeptExperiment) (latest held : ℕ) (s : IsSound old latest held) (going : old.ending ≡ None) (target : Net) (p q : Pocket)
    (mid new : KeptNet) (e : Option Ending) (r : Option Ending) (clock : ℕ) (becomes : Becomes 1 target p q old.net mid)
    (closes : Closes e (old.steps + 1 == old.spec.budget.steps) clock mid new r) where
  same : IsSame mid new
  same = closes-same e (old.steps + 1 == old.spec.budget.steps) clock mid new r closes

  r-is : r ≡ closed_ending e (old.steps + 1 == old.spec.budget.steps)
  r-is = close-ending e (old.steps + 1 == old.spec.budget.steps) clock mid new r closes

  pub sound-event : IsSound (record old { net = new; clock = clock; steps = old.steps + 1; ending = r }) latest q.count
  sound-event = record {
    counted = s.counted;
    latest_is = s.latest_is;
    rising = s.rising;
    early_all = s.early_all;
    early = s.early;
    seed = same.seed ∙ becomes.seed ∙ s.seed;
    made = omega (arith, same.made, becomes.made, s.made);
    taken_few = omega (arith, s.taken_few);
    steps_left = left-after old.steps old.spec.budget.steps e r (s.steps_left going) r-is;
    steps_few = omega (arith, s.steps_left going);
    budget_few = s.budget_few;
    held_is = becomes.housed.count ∙ ap length (sym same.keys);
  }

  pub sound-command : (c : Timed) → old.next ≡ Some c →
      IsSound (record old { net = new; next = None; taken = old.taken + 1; clock = clock; steps = old.steps + 1; ending = r }) latest q.count
  sound-command c next = record {
    counted = omega (arith, s.counted, ap (λ (o : Option Timed). length (option_to_list o)) next);
    latest_is = s.latest_is;
    rising = s.rising;
    early_all = s.early_all;
    early = tt;
    seed = same.seed ∙ becomes.seed ∙ s.seed;
    made = omega (arith, same.made, becomes.made, s.made);
    taken_few = omega (arith, s.taken_few);
    steps_left = left-after old.steps old.spec.budget.steps e r (s.steps_left going) r-is;
    steps_few = omega (arith, s.steps_left going);
    budget_few = s.budget_few;
    held_is = becomes.housed.count ∙ ap length (sym same.keys);
  }

  pub housed-step : old.spec.budget.packets ≤ p.budget → IsHoused q new × (old.spec.budget.packets ≤ q.budget)
  housed-step room =
      (housed-same q mid new same.keys becomes.housed, omega (arith, room, becomes.budget))

-- a step that was refused
still-keys : (old new : KeptNet) → IsStill old new → net_keys new ≡ net_keys old
still-keys old new s = λ i. map (λ x. x.item) (s.line i).in_flight ++ s.keys i

pub halts : (p q : Pocket) (old : KeptExperiment) (new : KeptNet) → old.ending ≡ None → IsStill old.net new → q ≡ p →
    Halts p old q (record old { net = new; ending = Some Halted })
halts p q old new going still pocket = record {
  shown = λ i. record {
    spec = old.spec;
    left = option_to_list old.next;
    taken = old.taken;
    clock = old.clock;
    steps = old.steps;
    net = (ap (λ o. net_of o new) pocket ∙ still.shown p) i;
    ending = sym (ap shown_ending going) i;
  };
  pocket = pocket;
  ending = refl;
}

pub sound-halted : (old : KeptExperiment) (latest held : ℕ) (new : KeptNet) (p : Pocket) → IsSound old latest held → IsStill old.net new →
    IsSound (record old { net = new; ending = Some Halted }) latest held
sound-halted old latest held new p s still = record {
  counted = s.counted;
  latest_is = s.latest_is;
  rising = s.rising;
  early_all = s.early_all;
  early = s.early;
  seed = still.seed ∙ s.seed;
  made = omega (arith, ap (λ (n : Net). n.made) (still.shown p), s.made);
  taken_few = s.taken_few;
  steps_left = λ none. absurd (cc);
  steps_few = s.steps_few;
  budget_few = s.budget_few;
  held_is = s.held_is ∙ ap length (sym (still-keys old.net new still));
}

pub housed-halted : (q : Pocket) (old new : KeptNet) → IsStill old new → IsHoused q old → IsHoused q new
housed-halted q old new still h = housed-same q old new (still-keys old new still) h
