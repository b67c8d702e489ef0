-- One step of an experiment, over plain values.
use Rattle.std.proofs.Common.{◌≡◌, ◌≢◌, ℕ, ◌+◌, Bool, true, false, refl, sym, ap, ◌∙◌, subst, List, [], Option, Some, None, IsSome}
use Rattle.std.specs.Prelude.{◌==◌, if◌then◌else◌, is_some, option_to_list}
use Rattle.emu_model.specs.declared.commands.Timed.{Timed}
use Rattle.emu_model.specs.declared.sources.Due.{Due}
use Rattle.emu_model.specs.declared.sources.Class.{Class}
use Rattle.emu_model.specs.declared.sources.Class.TheVariants.{NextCommand, Exit, Finish, Expiry, Emission}
use Rattle.emu_model.specs.declared.records.Ending.{Ending}
use Rattle.emu_model.specs.declared.records.Ending.TheVariants.{Ended, Spent}
use Rattle.emu_model.specs.declared.records.Record.TheVariants.{StepsSpent}
use Rattle.emu_model.specs.Net.{Net, note}
use Rattle.emu_model.specs.Commands.{obey, is_end}
use Rattle.emu_model.specs.Events.{event_of}
use Rattle.emu_model.specs.Step.{State, setting, take_command, take_event, take_class, spend, is_last_step, count_step}
use Rattle.packet_store.specs.Pocket.{Pocket}
use Rattle.network.specs.Kept.{KeptNet, net_of}
use Rattle.experiment.specs.Kept.{KeptExperiment, view, shown_ending}
use Rattle.experiment.specs.Moves.{Closes, Steps}

-- what a step leaves of a net and an ending
abbrev pub closed_net : Option Ending → Bool → ℕ → Net → Net
closed_net (Some e) last now n = n
closed_net None true now n = note (StepsSpent now) n
closed_net None false now n = n

abbrev pub closed_ending : Option Ending → Bool → Option Ending
closed_ending (Some e) last = Some e
closed_ending None true = Some Spent
closed_ending None false = None

-- a counted step, part by part
pub counted : (t : State) (e : Option Ending) (b : Bool) → t.ending ≡ e → (t.steps + 1 == t.spec.budget.steps) ≡ b →
    count_step t ≡ record t { steps = t.steps + 1; net = closed_net e b t.clock t.net; ending = closed_ending e b }
counted t e b is last =
    ap (λ o. if is_some o then (record t { steps = t.steps + 1 }) else (if is_last_step (record t { steps = t.steps + 1 }) then spend (record t { steps = t.steps + 1 }) else record t { steps = t.steps + 1 })) is
    ∙ go e b is last
  where
    go : (o : Option Ending) (c : Bool) → t.ending ≡ o → (t.steps + 1 == t.spec.budget.steps) ≡ c →
        (if is_some o then (record t { steps = t.steps + 1 }) else (if is_last_step (record t { steps = t.steps + 1 }) then spend (record t { steps = t.steps + 1 }) else record t { steps = t.steps + 1 }))
        ≡ record t { steps = t.steps + 1; net = closed_net o c t.clock t.net; ending = closed_ending o c }
    go (Some x) c is last = λ i. record t { steps = t.steps + 1; ending = is i }
    go None true is last =
        (λ i. if last i then spend (record t { steps = t.steps + 1 }) else record t { steps = t.steps + 1 })
    go None false is last =
        (λ i. if last i then spend (record t { steps = t.steps + 1 }) else record t { steps = t.steps + 1 })
        ∙ (λ i. record t { steps = t.steps + 1; ending = is i })

-- what `close` leaves is that
pub close-net : (q : Pocket) (e : Option Ending) (b : Bool) (now : ℕ) (old new : KeptNet) (r : Option Ending) → Closes e b now old new r →
    net_of q new ≡ closed_net e b now (net_of q old)
close-net q (Some x) b now old new r c = ap (net_of q) c.0
close-net q None true now old new r c =
    ap (net_of q) c.0.rest ∙ (λ i. record (net_of q old) { records = c.0.records i })
close-net q None false now old new r c = ap (net_of q) c.0

pub close-ending : (e : Option Ending) (b : Bool) (now : ℕ) (old new : KeptNet) (r : Option Ending) → Closes e b now old new r → r ≡ closed_ending e b
close-ending (Some x) b now old new r c = c.1
close-ending None true now old new r c = c.1
close-ending None false now old new r c = c.1

-- a due that isn't the next command's is an event's
pub event-class : (class : Class) (d : Due) (c : Timed) (rest : List Timed) (s : State) → class ≢ NextCommand →
    take_class class d c rest s ≡ take_event d.moment class d.source.number s
event-class NextCommand d c rest s other = absurd (other refl)
event-class Exit d c rest s other = refl
event-class Finish d c rest s other = refl
event-class Expiry d c rest s other = refl
event-class Emission d c rest s other = refl

shown-closed : (x b : Bool) → shown_ending (closed_ending (if x then Some Ended else None) b) ≡ closed_ending (if x then Some Ended else None) b
shown-closed true b = refl
shown-closed false true = refl
shown-closed false false = refl

some-shown : (x b : Bool) (r : Option Ending) → r ≡ closed_ending (if x then Some Ended else None) b → IsSome r → IsSome (shown_ending r)
some-shown x b r e some = subst IsSome (e ∙ sym (shown-closed x b) ∙ ap shown_ending (sym e)) some

-- the next command was taken, and the step closed
pub step-command : (p q : Pocket) (old : KeptExperiment) (d : Due) (c : Timed) (mid new : KeptNet) (r : Option Ending) →
    old.next ≡ Some c → d.source.class ≡ NextCommand →
    net_of q mid ≡ obey (setting old.spec d.moment) old.taken c.command (net_of p old.net) →
    Closes (if is_end c.command then Some Ended else None) (old.steps + 1 == old.spec.budget.steps) d.moment mid new r →
    Steps d c p old q (record old { net = new; next = None; taken = old.taken + 1; clock = d.moment; steps = old.steps + 1; ending = r })
step-command p q old d c mid new r next class becomes closes =
    let b : Bool = old.steps + 1 == old.spec.budget.steps in
    let e : Option Ending = if is_end c.command then Some Ended else None in
    let t : State = take_command d.moment c [] (view p old) in
    record {
      stepped =
          (λ i. record {
            spec = old.spec;
            left = [];
            taken = old.taken + 1;
            clock = d.moment;
            steps = old.steps + 1;
            net = (close-net q e b d.moment mid new r closes ∙ ap (closed_net e b d.moment) becomes) i;
            ending = (ap shown_ending (close-ending e b d.moment mid new r closes) ∙ shown-closed (is_end c.command) b) i;
          })
          ∙ sym (counted t e b refl refl)
          ∙ (λ i. count_step (take_class (sym class i) d c [] (view p old)));
      counted = refl;
      ending = some-shown (is_end c.command) b r (close-ending e b d.moment mid new r closes);
    }

-- something else that was due came, and the step closed
pub step-event : (p q : Pocket) (old : KeptExperiment) (d : Due) (c : Timed) (mid new : KeptNet) (r : Option Ending) →
    old.ending ≡ None → d.source.class ≢ NextCommand →
    net_of q mid ≡ event_of (setting old.spec d.moment) d.source.class d.source.number (net_of p old.net) →
    Closes None (old.steps + 1 == old.spec.budget.steps) d.moment mid new r →
    Steps d c p old q (record old { net = new; clock = d.moment; steps = old.steps + 1; ending = r })
step-event p q old d c mid new r going class becomes closes =
    let b : Bool = old.steps + 1 == old.spec.budget.steps in
    let t : State = take_event d.moment d.source.class d.source.number (view p old) in
    record {
      stepped =
          (λ i. record {
            spec = old.spec;
            left = option_to_list old.next;
            taken = old.taken;
            clock = d.moment;
            steps = old.steps + 1;
            net = (close-net q None b d.moment mid new r closes ∙ ap (closed_net None b d.moment) becomes) i;
            ending = (ap shown_ending (close-ending None b d.moment mid new r closes) ∙ shown-closed false b) i;
          })
          ∙ sym (counted t None b (ap shown_ending going) refl)
          ∙ sym (ap count_step (event-class d.source.class d c [] (view p old) class));
      counted = refl;
      ending = some-shown false b r (close-ending None b d.moment mid new r closes);
    }
