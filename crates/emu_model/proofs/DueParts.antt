-- The moments of all dues of a net, part by part.
use Rattle.std.proofs.Common.{◌≡◌, ℕ, ◌+◌, ◌*◌, List, [], ◌∷◌, ◌++◌, Bool, true, false, refl, Option, Some, None}
use Rattle.std.specs.Prelude.{if◌then◌else◌, nat_lt, flat_map, option_map, option_to_list}
use Rattle.std.specs.List.{AllByRecursion}
use Rattle.emu_model.specs.Types.{Packet, Exit, Finish, Expiry, Emission}
use Rattle.emu_model.specs.declared.sources.Due.{Due}
use Rattle.emu_model.specs.Delay.{InFlight, Line, first_exit}
use Rattle.emu_model.specs.Reno.{may_emit}
use Rattle.emu_model.specs.Pipes.{InService, Instance}
use Rattle.emu_model.specs.Net.{Net, FlowState, TrainState}
use Rattle.emu_model.specs.Dues.{due, line_dues, service_dues, instances_dues, pipe_dues, flow_dues, train_dues, dues_of}
use Rattle.emu_model.proofs.AllFacts.{each_joined, each_front, each_back}
use Rattle.emu_model.proofs.Holding.{Facts, Holds}

-- what is said of a moment is said of the first exit, of a finish, of a timer that is set
abbrev pub ExitDue : (ℕ → Type 0) → List (InFlight Packet) → Type 0
ExitDue D [] = Unit {0}
ExitDue D (x ∷ xs) = D x.exit

abbrev pub FinishDue : (ℕ → Type 0) → Option (InService Packet) → Type 0
FinishDue D None = Unit {0}
FinishDue D (Some s) = D s.period.finish

abbrev pub TimerDue : (ℕ → Type 0) → Option ℕ → Type 0
TimerDue D None = Unit {0}
TimerDue D (Some t) = D t

pub record InstanceDue (D : ℕ → Type 0) (i : Instance) : Type 0 where
  pub line : ExitDue D i.line.in_flight
  pub service : FinishDue D i.service

pub record FlowDue (D : ℕ → Type 0) (clock : ℕ) (f : FlowState) : Type 0 where
  pub timer : f.stopped ≡ false → TimerDue D f.sender.timer
  pub segment : f.stopped ≡ false → may_emit f.flow f.sender ≡ true → D clock

abbrev pub TrainDue : (ℕ → Type 0) → TrainState → Type 0
TrainDue D t = nat_lt t.sent t.train.count ≡ true → D (t.start + t.sent * t.train.gap)

-- what is said of the moments of all dues of each part
abbrev pub timely : (ℕ → Type 0) → ℕ → Facts
timely D clock = record {
  packet = λ p. Unit {0};
  line = λ l. ExitDue D l.in_flight;
  pipe = λ p. AllByRecursion (InstanceDue D) p.instances;
  flow = FlowDue D clock;
  train = TrainDue D;
}

-- where a Bool is true, and where it is false
of_true : {A : Type 0} (P : A → Type 0) (b : Bool) (xs : List A) → (b ≡ true → AllByRecursion P xs) →
    AllByRecursion P (if b then xs else [])
of_true P true xs h = h refl
of_true P false xs h = tt

of_false : {A : Type 0} (P : A → Type 0) (b : Bool) (xs : List A) → (b ≡ false → AllByRecursion P xs) →
    AllByRecursion P (if b then [] else xs)
of_false P true xs h = tt
of_false P false xs h = h refl

at_true : {A : Type 0} (P : A → Type 0) (b : Bool) (xs : List A) → AllByRecursion P (if b then xs else []) →
    b ≡ true → AllByRecursion P xs
at_true P true xs h e = h
at_true P false xs h e = absurd (cc e)

at_false : {A : Type 0} (P : A → Type 0) (b : Bool) (xs : List A) → AllByRecursion P (if b then [] else xs) →
    b ≡ false → AllByRecursion P xs
at_false P true xs h e = absurd (cc e)
at_false P false xs h e = h

-- what is said of the dues of each item of a list
each-to : {A : Type 0} (P : A → Type 0) (Q : Due → Type 0) (dues : A → List Due) →
    ((a : A) → P a → AllByRecursion Q (dues a)) → (xs : List A) → AllByRecursion P xs →
    AllByRecursion Q (flat_map dues xs)
each-to P Q dues h [] p = tt
each-to P Q dues h (x ∷ xs) p = each_joined Q (dues x) (flat_map dues xs) (h x p.0) (each-to P Q dues h xs p.1)

each-from : {A : Type 0} (P : A → Type 0) (Q : Due → Type 0) (dues : A → List Due) →
    ((a : A) → AllByRecursion Q (dues a) → P a) → (xs : List A) → AllByRecursion Q (flat_map dues xs) →
    AllByRecursion P xs
each-from P Q dues h [] d = tt
each-from P Q dues h (x ∷ xs) d = (
  h x (each_front Q (dues x) (flat_map dues xs) d),
  each-from P Q dues h xs (each_back Q (dues x) (flat_map dues xs) d),
)

-- what a sender may send, now
sends : ℕ → FlowState → List Due
sends clock f = if may_emit f.flow f.sender then due Emission f.number clock ∷ [] else []

timers : FlowState → List Due
timers f = option_to_list (option_map (due Expiry f.number) f.sender.timer)

module _ (D : ℕ → Type 0) where
  abbrev IsDue : Due → Type 0
  IsDue d = D d.moment

  line-to : (k : ℕ) (l : Line Packet) → ExitDue D l.in_flight → AllByRecursion IsDue (line_dues k l)
  line-to k l h = go l.in_flight h
    where
      go : (xs : List (InFlight Packet)) → ExitDue D xs →
          AllByRecursion IsDue (option_to_list (option_map (due Exit k) (first_exit xs)))
      go [] r = tt
      go (x ∷ xs) r = (r, tt)

  line-from : (k : ℕ) (l : Line Packet) → AllByRecursion IsDue (line_dues k l) → ExitDue D l.in_flight
  line-from k l d = go l.in_flight d
    where
      go : (xs : List (InFlight Packet)) →
          AllByRecursion IsDue (option_to_list (option_map (due Exit k) (first_exit xs))) → ExitDue D xs
      go [] q = tt
      go (x ∷ xs) q = q.0

  service-to : (k : ℕ) (o : Option (InService Packet)) → FinishDue D o →
      AllByRecursion IsDue (option_to_list (option_map (λ s. due Finish k s.period.finish) o))
  service-to k None h = tt
  service-to k (Some s) h = (h, tt)

  service-from : (k : ℕ) (o : Option (InService Packet)) →
      AllByRecursion IsDue (option_to_list (option_map (λ s. due Finish k s.period.finish) o)) → FinishDue D o
  service-from k None d = tt
  service-from k (Some s) d = d.0

  instances-to : (k : ℕ) (is : List Instance) → AllByRecursion (InstanceDue D) is →
      AllByRecursion IsDue (instances_dues k is)
  instances-to k [] h = tt
  instances-to k (i ∷ is) h =
      each_joined IsDue (line_dues k i.line ++ service_dues k i) (instances_dues (k + 1) is)
      (each_joined IsDue (line_dues k i.line) (service_dues k i) (line-to k i.line h.0.line)
      (service-to k i.service h.0.service)) (instances-to (k + 1) is h.1)

  instances-from : (k : ℕ) (is : List Instance) → AllByRecursion IsDue (instances_dues k is) →
      AllByRecursion (InstanceDue D) is
  instances-from k [] d = tt
  instances-from k (i ∷ is) d =
      let first : AllByRecursion IsDue (line_dues k i.line ++ service_dues k i) =
      each_front IsDue (line_dues k i.line ++ service_dues k i) (instances_dues (k + 1) is) d in (
        record {
          line = line-from k i.line (each_front IsDue (line_dues k i.line) (service_dues k i) first);
          service = service-from k i.service (each_back IsDue (line_dues k i.line) (service_dues k i) first);
        },
        instances-from (k + 1) is
            (each_back IsDue (line_dues k i.line ++ service_dues k i) (instances_dues (k + 1) is) d),
      )

  timer-to : (k : ℕ) (o : Option ℕ) → TimerDue D o →
      AllByRecursion IsDue (option_to_list (option_map (due Expiry k) o))
  timer-to k None h = tt
  timer-to k (Some t) h = (h, tt)

  timer-from : (k : ℕ) (o : Option ℕ) → AllByRecursion IsDue (option_to_list (option_map (due Expiry k) o)) →
      TimerDue D o
  timer-from k None d = tt
  timer-from k (Some t) d = d.0

  flow-to : (clock : ℕ) (f : FlowState) → FlowDue D clock f → AllByRecursion IsDue (flow_dues clock f)
  unfolding sends timers
  flow-to clock f h =
      of_false IsDue f.stopped (timers f ++ sends clock f)
      (λ e. each_joined IsDue (timers f) (sends clock f) (timer-to f.number f.sender.timer (h.timer e))
      (of_true IsDue (may_emit f.flow f.sender) (due Emission f.number clock ∷ []) (λ g. (h.segment e g, tt))))

  flow-from : (clock : ℕ) (f : FlowState) → AllByRecursion IsDue (flow_dues clock f) → FlowDue D clock f
  unfolding sends timers
  flow-from clock f d = record {
    timer = λ e. timer-from f.number f.sender.timer (each_front IsDue (timers f) (sends clock f) (goes e));
    segment = λ e g. (at_true IsDue (may_emit f.flow f.sender) (due Emission f.number clock ∷ [])
        (each_back IsDue (timers f) (sends clock f) (goes e)) g).0;
  }
    where
      goes : f.stopped ≡ false → AllByRecursion IsDue (timers f ++ sends clock f)
      goes e = at_false IsDue f.stopped (timers f ++ sends clock f) d e

  train-to : (t : TrainState) → TrainDue D t → AllByRecursion IsDue (train_dues t)
  train-to t h =
      of_true IsDue (nat_lt t.sent t.train.count) (due Emission t.number (t.start + t.sent * t.train.gap) ∷ [])
      (λ e. (h e, tt))

  train-from : (t : TrainState) → AllByRecursion IsDue (train_dues t) → TrainDue D t
  train-from t d e =
      (at_true IsDue (nat_lt t.sent t.train.count) (due Emission t.number (t.start + t.sent * t.train.gap) ∷ []) d e).0

  module _ (clock : ℕ) (n : Net) where
    direct : List Due
    direct = line_dues 0 n.direct

    pipes : List Due
    pipes = flat_map pipe_dues n.pipes

    flows : List Due
    flows = flat_map (flow_dues clock) n.flows

    trains : List Due
    trains = flat_map train_dues n.trains

    pub all_dues : Holds (timely D clock) n → AllByRecursion IsDue (dues_of clock n)
    unfolding direct pipes flows trains
    all_dues h =
        each_joined IsDue (direct ++ pipes ++ flows) trains
        (each_joined IsDue (direct ++ pipes) flows
        (each_joined IsDue direct pipes (line-to 0 n.direct h.direct)
        (each-to (λ p. AllByRecursion (InstanceDue D) p.instances) IsDue pipe_dues
        (λ p q. instances-to (p.number * 256) p.instances q) n.pipes h.pipes))
        (each-to (FlowDue D clock) IsDue (flow_dues clock) (λ f q. flow-to clock f q) n.flows h.flows))
        (each-to (TrainDue D) IsDue train_dues (λ t q. train-to t q) n.trains h.trains)

    pub all_parts : AllByRecursion IsDue (dues_of clock n) → Holds (timely D clock) n
    unfolding direct pipes flows trains
    all_parts d = record {
      direct = line-from 0 n.direct (each_front IsDue direct pipes below_flows);
      pipes = each-from (λ p. AllByRecursion (InstanceDue D) p.instances) IsDue pipe_dues
          (λ p q. instances-from (p.number * 256) p.instances q) n.pipes (each_back IsDue direct pipes below_flows);
      flows = each-from (FlowDue D clock) IsDue (flow_dues clock) (λ f q. flow-from clock f q) n.flows
          (each_back IsDue (direct ++ pipes) flows below_trains);
      trains = each-from (TrainDue D) IsDue train_dues (λ t q. train-from t q) n.trains
          (each_back IsDue (direct ++ pipes ++ flows) trains d);
    }
      where
        below_trains : AllByRecursion IsDue (direct ++ pipes ++ flows)
        below_trains = each_front IsDue (direct ++ pipes ++ flows) trains d

        below_flows : AllByRecursion IsDue (direct ++ pipes)
        below_flows = each_front IsDue (direct ++ pipes) flows below_trains
