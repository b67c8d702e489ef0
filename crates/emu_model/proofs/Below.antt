-- Dues stay below twice what the moment of a command can be.
use Rattle.std.proofs.Common.{◌≡◌, ℕ, zero, suc, ◌+◌, ◌*◌, ◌/◌, ◌%◌, ◌^◌, ◌≤◌, ◌<◌, List, [], ◌∷◌, Bool, true, false, refl, sym, subst, Option, Some, None, arith}
use Rattle.std.specs.Prelude.{if◌then◌else◌, ◌==◌, nat_lt, min, max, is_none, is_some, slice_get}
use Rattle.std.specs.List.{AllByRecursion}
use Rattle.std.proofs.lemmas.Bool.{ltb-true, lt-ltb}
use Rattle.emu_model.specs.Types.{Packet, Spec, Timed, Class, NextCommand, Exit, Finish, Expiry, Emission, FlowSpec, Timing, Fixed, Adaptive, Command, Add, Delete, Config, PipeDelete, PipeShow, Show, Inject, Train, Flow, Stop, OnePass, Trace, End}
use Rattle.emu_model.specs.declared.sources.Due.{Due}
use Rattle.emu_model.specs.Delay.{InFlight, Line}
use Rattle.emu_model.specs.Reno.{Sender, Estimate, timeout_at, most_rto, ack, ack_new, ack_duplicate, is_new, is_duplicate, enter_recovery, emit, expire, started_timer, round_trip, timeout_after, estimated_timeout, new_estimate, bounded}
use Rattle.emu_model.specs.Pipes.{InService, Instance, PipeState}
use Rattle.emu_model.specs.Net.{Net, EventContext, FlowState, TrainState, find_pipe, find_train}
use Rattle.emu_model.specs.Dues.{dues_of}
use Rattle.emu_model.specs.Step.{State, setting, take_class, take_due, take_event, count_step, spend, is_last_step, next_event, step_with, step}
use Rattle.emu_model.specs.Alone.{alone}
use Rattle.emu_model.specs.RunLaws.{ConfiguresPipe}
use Rattle.emu_model.specs.DueLaws.{AreRising, IsAhead, IsTimingInRange, IsInRange, IsEarly, DuesStayBelow}
use Rattle.emu_model.proofs.AllFacts.{either, each_weaker}
use Rattle.emu_model.proofs.Holding.{Facts, Holds, Keeps, Fits, same_parts, both_hold, event-holds, obey-holds}
use Rattle.emu_model.proofs.DueParts.{ExitDue, FinishDue, TimerDue, InstanceDue, TrainDue, timely, all_dues}
use Rattle.emu_model.proofs.CallerLemmas.{next_event_by_command, next_event_from}
use Rattle.emu_model.proofs.SourceDues.{OneEach, finish_moment, packet_moment}
use Rattle.emu_model.proofs.Single.{dues_differ}
use Rattle.emu_model.proofs.Ahead.{dues_stay_ahead}
use Rattle.emu_model.proofs.Near.{reach, IsSmall, LeavesNear, LineNear, entered-near, left-near, leaving-small, ServiceNear, InstanceNear, PipeNear, pipe_arrive-near, pipe_finish-near, pipe_exit-near, flying-small, pipe_configure-near, line-later, pipe-later}

-- a retransmission time within reach, and a timer that is near m
record SenderNear (m : ℕ) (s : Sender) : Type 0 where
  time : s.rto ≤ reach
  timer : TimerDue (λ t. t ≤ m + reach) s.timer

record FlowNear (m : ℕ) (f : FlowState) : Type 0 where
  segment : f.flow.smss ≤ 1460
  timing : IsTimingInRange f.flow.timing
  sender : SenderNear m f.sender

if-timer : (m : ℕ) (b : Bool) (x y : Option ℕ) → TimerDue (λ t. t ≤ m) x → TimerDue (λ t. t ≤ m) y →
    TimerDue (λ t. t ≤ m) (if b then x else y)
if-timer m b x y p q = either (TimerDue (λ t. t ≤ m)) b x y p q

first-time : (t : Timing) → IsTimingInRange t → timeout_at t ≤ reach
first-time (Fixed ms) h = omega (arith, h)
first-time Adaptive h = omega arith

next-time : (t : Timing) (r : Option ℕ) (s : Sender) → IsTimingInRange t → s.rto ≤ reach → timeout_after t r s ≤ reach
next-time (Fixed ms) r s h p = omega (arith, h)
next-time Adaptive None s h p = p
next-time Adaptive (Some r) s h p = bound (new_estimate r s.estimate)
  where
    least : (a b : ℕ) → min a b ≤ b
    least a b = omega arith

    bound : (e : Estimate) → estimated_timeout e ≤ reach
    bound e = omega (arith, least (max (e.srtt + max 1 (4 * e.rttvar)) (10 ^ 9)) most_rto)

ack-near : (f : FlowSpec) (now upto : ℕ) (s : Sender) → IsTimingInRange f.timing → SenderNear now s →
    SenderNear now (ack f now upto s)
ack-near f now upto s t h =
    either (SenderNear now) (is_new f upto s) (ack_new f now upto s) (if is_duplicate upto s then ack_duplicate f s else s)
    (record {
      time = time;
      timer = if-timer (now + reach) (nat_lt upto s.snd_max)
          (Some (now + timeout_after f.timing (round_trip now upto s.sample) s)) None (omega (arith, time)) tt;
    })
    (either (SenderNear now) (is_duplicate upto s) (ack_duplicate f s) s duplicate h)
  where
    time : timeout_after f.timing (round_trip now upto s.sample) s ≤ reach
    time = next-time f.timing (round_trip now upto s.sample) s t h.time

    same : (x : Sender) → x.rto ≡ s.rto → x.timer ≡ s.timer → SenderNear now x
    same x p q = record {
      time = omega (arith, p, h.time);
      timer = subst (TimerDue (λ y. y ≤ now + reach)) (sym q) h.timer;
    }

    counted : Sender
    counted = record s { duplicates = bounded (s.duplicates + 1) }

    duplicate : SenderNear now (ack_duplicate f s)
    duplicate =
        either (SenderNear now) s.recovery (record counted { cwnd = bounded (s.cwnd + f.smss) })
        (if counted.duplicates == 3 then enter_recovery f counted else counted)
        (same (record counted { cwnd = bounded (s.cwnd + f.smss) }) refl refl)
        (either (SenderNear now) (counted.duplicates == 3) (enter_recovery f counted) counted
        (same (enter_recovery f counted) refl refl) (same counted refl refl))

started-near : (now : ℕ) (s : Sender) → SenderNear now s → TimerDue (λ t. t ≤ now + reach) (started_timer now s)
started-near now s h =
    if-timer (now + reach) (is_none s.timer) (Some (now + s.rto)) s.timer (omega (arith, h.time)) h.timer

emit-near : (f : FlowSpec) (now : ℕ) (s : Sender) → SenderNear now s → SenderNear now (emit f now s)
emit-near f now s h =
    either (SenderNear now) s.resend (record s { resend = false; timer = started_timer now s }) _
    (record { time = h.time; timer = started-near now s h }) (record { time = h.time; timer = started-near now s h })

expire-near : (f : FlowSpec) (now : ℕ) (s : Sender) → SenderNear now (expire f now s)
expire-near f now s = record { time = doubled; timer = omega (arith, doubled) }
  where
    doubled : min (2 * s.rto) most_rto ≤ reach
    doubled = omega arith

record TrainNear (m : ℕ) (t : TrainState) : Type 0 where
  size : t.train.packet.size ≤ 1500
  gap : t.train.gap ≤ 10 ^ 12
  next : TrainDue (λ x. x ≤ m + reach) t

-- a train sends its next packet when it is due
sent-near : (m : ℕ) (t : TrainState) →
    (nat_lt t.sent t.train.count ≡ true → m ≡ t.start + t.sent * t.train.gap) →
    TrainNear m t → TrainNear m (record t { sent = t.sent + 1 })
sent-near m t now h = record { size = h.size; gap = h.gap; next = λ e. after (still e) }
  where
    still : nat_lt (t.sent + 1) t.train.count ≡ true → nat_lt t.sent t.train.count ≡ true
    still e = lt-ltb t.sent t.train.count (omega (arith, ltb-true (t.sent + 1) t.train.count e))

    more : (a b : ℕ) → (a + 1) * b ≡ a * b + b
    more a b = omega arith

    after : nat_lt t.sent t.train.count ≡ true → t.start + (t.sent + 1) * t.train.gap ≤ m + reach
    after e = omega (arith, now e, h.gap, more t.sent t.train.gap)

abbrev near : ℕ → Facts
near m = record {
  packet = IsSmall;
  line = LineNear m;
  pipe = PipeNear m;
  flow = FlowNear m;
  train = TrainNear m;
}

keeps-near : (at : EventContext) → Keeps (near at.now) at
keeps-near at = record {
  placed = λ p place h. h;
  segment = λ l k f h. omega (arith, h.segment);
  reply = λ l k f h. omega arith;
  one_of_train = λ l k t h. h.size;
  entered = λ p l small h. entered-near at.now 0 p l (omega arith) small h;
  left = λ l h. left-near at.now l h;
  leaving = λ p l e h. leaving-small at.now p l e h;
  arrived = λ p q small h. pipe_arrive-near at.seed at.now p q small h;
  pipe_left = λ k q h. pipe_exit-near at.now k q h;
  pipe_leaving = λ k p q e h. flying-small at.now k p q e h;
  came = λ came f h. record { segment = h.segment; timing = h.timing; sender = h.sender };
  acked = λ upto f h. record {
    segment = h.segment;
    timing = h.timing;
    sender = ack-near f.flow at.now upto f.sender h.timing h.sender;
  };
  expired = λ f h.
      record { segment = h.segment; timing = h.timing; sender = expire-near f.flow at.now f.sender };
  emitted = λ f h.
      record { segment = h.segment; timing = h.timing; sender = emit-near f.flow at.now f.sender h.sender };
  stopped = λ f h. record { segment = h.segment; timing = h.timing; sender = h.sender };
}

fits-near : (now : ℕ) (c : Command) → IsInRange c → Fits (near now) now c
fits-near now (Add r) w = tt
fits-near now (Delete k) w = tt
fits-near now (Config k config) w =
    (λ p h. pipe_configure-near now config p w.1 h, record { delay = w.1; each = tt })
fits-near now (PipeDelete k) w = tt
fits-near now PipeShow w = tt
fits-near now Show w = tt
fits-near now (Inject send) w = λ l k. w
fits-near now (Train k t) w = record { size = w.0; gap = w.1; next = λ e. omega arith }
fits-near now (Flow k f) w =
    record { segment = w.0; timing = w.1; sender = record { time = first-time f.timing w.1; timer = tt } }
fits-near now (Stop k) w = tt
fits-near now (OnePass b) w = tt
fits-near now (Trace b) w = tt
fits-near now End w = tt

flow-later : (low m : ℕ) (f : FlowState) → low ≤ m → FlowNear low f → FlowNear m f
flow-later low m f e h = record {
  segment = h.segment;
  timing = h.timing;
  sender = record { time = h.sender.time; timer = go f.sender.timer h.sender.timer };
}
  where
    go : (o : Option ℕ) → TimerDue (λ t. t ≤ low + reach) o → TimerDue (λ t. t ≤ m + reach) o
    go None q = tt
    go (Some t) q = omega (arith, q)

later : (low m : ℕ) (n : Net) → low ≤ m → Holds (near low) n → Holds (near m) n
later low m n e h =
    both_hold (near low) (near low) (near m) (λ l p q. line-later low m l e p) (λ x p q. pipe-later low m x e p)
    (λ f p q. flow-later low m f e p)
    (λ t p q. record { size = p.size; gap = p.gap; next = λ g. omega (arith, p.next g) }) n h h

line-due : (m : ℕ) (l : Line Packet) → LineNear m l → ExitDue (λ x. x ≤ m + reach) l.in_flight
line-due m l h = go l.in_flight h.in_flight
  where
    go : (xs : List (InFlight Packet)) → AllByRecursion (LeavesNear m) xs → ExitDue (λ x. x ≤ m + reach) xs
    go [] q = tt
    go (x ∷ xs) q = q.0.0

instance-due : (m bw : ℕ) (i : Instance) → InstanceNear m bw i → InstanceDue (λ x. x ≤ m + reach) i
instance-due m bw i h = record { line = line-due m i.line h.line; service = go i.service h.service }
  where
    go : (o : Option (InService Packet)) → ServiceNear m bw o → FinishDue (λ x. x ≤ m + reach) o
    go None q = tt
    go (Some s) q = q.period.near

dues-near : (m : ℕ) (n : Net) → Holds (near m) n → AllByRecursion (λ d. d.moment ≤ m + reach) (dues_of m n)
dues-near m n h =
    all_dues (λ x. x ≤ m + reach) m n
    (both_hold (near m) (near m) (timely (λ x. x ≤ m + reach) m) (λ l p q. line-due m l p)
    (λ x p q. each_weaker (InstanceNear m x.config.bw) (InstanceDue (λ y. y ≤ m + reach))
    (λ i. instance-due m x.config.bw i) x.instances p.each)
    (λ f p q. record { timer = λ e. p.sender.timer; segment = λ e g. omega arith }) (λ t p q. p.next) n h h)

-- a state whose dues are near its clock, which commands in range brought
record Near (s : State) : Type 0 where
  net : Holds (near s.clock) s.net
  left : AllByRecursion IsEarly s.left
  clock : s.clock ≤ 10 ^ 15

count_step-near : (s : State) → Near s → Near (count_step s)
count_step-near s g =
    let t : State = record s { steps = s.steps + 1 } in
    let h : Near t = record { net = g.net; left = g.left; clock = g.clock } in
    either Near (is_some s.ending) t (if is_last_step t then spend t else t) h
    (either Near (is_last_step t) (spend t) t
    (record {
      net = same_parts (near s.clock) s.net (spend t).net refl refl refl refl g.net;
      left = g.left;
      clock = g.clock;
    }) h)

-- where the next event is due when its source is
record IsTimely (class : Class) (m k : ℕ) (n : Net) : Type 0 where
  served : class ≡ Finish → (p : PipeState) (i : Instance) (o : InService Packet) → find_pipe (k / 256) n ≡ Some p →
      slice_get p.instances (k % 256) ≡ Some i → i.service ≡ Some o → m ≡ o.period.finish
  sent : class ≡ Emission → (t : TrainState) → find_train k n ≡ Some t → nat_lt t.sent t.train.count ≡ true →
      m ≡ t.start + t.sent * t.train.gap

take_event-near : (class : Class) (k m : ℕ) (s : State) → m ≤ 10 ^ 15 → AllByRecursion IsEarly s.left →
    IsTimely class m k s.net → Holds (near m) s.net → Near (take_event m class k s)
take_event-near class k m s b l i h =
    let at : EventContext = setting s.spec m in
    record {
      net = event-holds (near m) at (keeps-near at) class k s.net
          (λ p a e q. pipe_finish-near m (k % 256) p (λ j o f g. omega (arith, i.served a p j o e f g)) q)
          (λ t a e q. sent-near m t (i.sent a t e) q) h;
      left = l;
      clock = b;
    }

take_class-near : (class : Class) (e : Due) (c : Timed) (rest : List Timed) (s : State) → e.moment ≤ 10 ^ 15 →
    AllByRecursion IsEarly s.left → IsInRange c.command → AllByRecursion IsEarly rest →
    IsTimely class e.moment e.source.number s.net → Holds (near e.moment) s.net →
    Near (take_class class e c rest s)
take_class-near NextCommand e c rest s b l w r i h =
    let at : EventContext = setting s.spec e.moment in
    record {
      net = obey-holds (near e.moment) at (keeps-near at) s.taken c.command s.net (fits-near e.moment c.command w) h;
      left = r;
      clock = b;
    }
take_class-near Exit e c rest s b l w r i h = take_event-near Exit e.source.number e.moment s b l i h
take_class-near Finish e c rest s b l w r i h = take_event-near Finish e.source.number e.moment s b l i h
take_class-near Expiry e c rest s b l w r i h = take_event-near Expiry e.source.number e.moment s b l i h
take_class-near Emission e c rest s b l w r i h = take_event-near Emission e.source.number e.moment s b l i h

step-near : (s : State) → IsAhead s → OneEach s → Near s → Near (step s)
step-near s a one g = either Near (is_some s.ending) s (step_with s.left s) g (go s.left refl)
  where
    go : (l : List Timed) → s.left ≡ l → Near (step_with l s)
    go [] e = g
    go (c ∷ rest) e =
        let d : Due = next_event s c in
        let early : AllByRecursion IsEarly (c ∷ rest) = subst (AllByRecursion IsEarly) e g.left in
        let rises : AreRising s.clock (c ∷ rest) = subst (AreRising s.clock) e a.0 in
        let from : s.clock ≤ d.moment = next_event_from s.clock s c rises.0 a.1 in
        count_step-near (take_due d c rest s)
        (take_class-near d.source.class d c rest s (omega (arith, next_event_by_command s c, early.0.0)) g.left
        early.0.1 early.1
        (record {
          served = λ q p i o. finish_moment s c one q p i o;
          sent = λ q t. packet_moment s c one q t;
        }) (later s.clock d.moment s.net from g.net))

configures : (c : Command) → IsInRange c → ConfiguresPipe c
configures (Add r) w = tt
configures (Delete k) w = tt
configures (Config k config) w = w.0
configures (PipeDelete k) w = tt
configures PipeShow w = tt
configures Show w = tt
configures (Inject send) w = tt
configures (Train k t) w = tt
configures (Flow k f) w = tt
configures (Stop k) w = tt
configures (OnePass b) w = tt
configures (Trace b) w = tt
configures End w = tt

alone-near : (spec : Spec) (c : List Timed) (n : ℕ) → AreRising 0 c → AllByRecursion IsEarly c → Near (alone spec c n)
alone-near spec c zero r w = record {
  net = record { direct = record { last = omega arith; in_flight = tt }; pipes = tt; flows = tt; trains = tt };
  left = w;
  clock = omega arith;
}
alone-near spec c (suc n) r w =
    step-near (alone spec c n) (dues_stay_ahead spec c n r)
    (λ k. dues_differ spec c n k (each_weaker IsEarly (λ t. ConfiguresPipe t.command)
    (λ t q. configures t.command q.1) c w)) (alone-near spec c n r w)

pub dues_stay_below : DuesStayBelow
dues_stay_below spec c n r w =
    let s : State = alone spec c n in
    let g : Near s = alone-near spec c n r w in (
      g.clock,
      each_weaker (λ d. d.moment ≤ s.clock + reach) (λ d. d.moment < 2 * 10 ^ 15)
          (λ d q. omega (arith, q, g.clock)) (dues_of s.clock s.net) (dues-near s.clock s.net g.net),
    )
