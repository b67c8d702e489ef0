-- Nothing is due below the moment of the last event.
use Rattle.std.proofs.Common.{◌≡◌, ℕ, zero, suc, ◌+◌, ◌-◌, ◌*◌, ◌/◌, ◌%◌, ◌^◌, ◌≤◌, List, [], ◌∷◌, ◌++◌, Bool, true, false, refl, sym, subst, Option, Some, None, arith}
use Rattle.std.specs.Prelude.{if◌then◌else◌, ◌==◌, nat_lt, is_none, is_some, option_map}
use Rattle.std.specs.List.{AllByRecursion}
use Rattle.std.proofs.Math.Nat.{div-eq_of_lt, div-mul-le_self}
use Rattle.std.proofs.lemmas.Nat.{le-div}
use Rattle.std.proofs.lemmas.Bool.{ltb-true, lt-ltb}
use Rattle.emu_model.specs.Moments.{milliseconds}
use Rattle.emu_model.specs.Types.{Spec, Timed, Packet, Class, NextCommand, Exit, Finish, Expiry, Emission, PipeConfig, FlowSpec, Lost, Full, Command, Add, Delete, Config, PipeDelete, PipeShow, Show, Inject, Train, Flow, Stop, OnePass, Trace, End}
use Rattle.emu_model.specs.declared.sources.Due.{Due}
use Rattle.emu_model.specs.Lists.{tail}
use Rattle.emu_model.specs.Rate.{div_ceil, finish_at, Period, follow, begin, cut_period}
use Rattle.emu_model.specs.Delay.{exit_after, InFlight, Line, enter, leave}
use Rattle.emu_model.specs.Reno.{Sender, ack, ack_new, ack_duplicate, is_new, is_duplicate, enter_recovery, emit, started_timer, round_trip, timeout_after, bounded}
use Rattle.emu_model.specs.DropTail.{Queued, accepts}
use Rattle.emu_model.specs.Codel.{Dequeued}
use Rattle.emu_model.specs.Pipes.{InService, Instance, PipeState, After, dequeue, period_with, serve_next, no_drop, drop_one, enqueue, accept, drawn_one, instance_arrive, pipe_arrive, send_off, instance_finish, pipe_finish, pipe_exit, instance_configure, pipe_configure, cut_service}
use Rattle.emu_model.specs.Net.{Net, EventContext, FlowState, TrainState}
use Rattle.emu_model.specs.Dues.{dues_of}
use Rattle.emu_model.specs.Step.{State, setting, take_class, take_due, take_event, count_step, spend, is_last_step, next_event, step_with, step}
use Rattle.emu_model.specs.Alone.{alone}
use Rattle.emu_model.specs.DueLaws.{AreRising, DuesStayAhead}
use Rattle.emu_model.proofs.AllFacts.{either, each_both, each_weaker, each_mapped, each_changed}
use Rattle.emu_model.proofs.Holding.{Facts, Holds, Keeps, Fits, same_parts, both_hold, event-holds, obey-holds}
use Rattle.emu_model.proofs.PipeParts.{InPipe, change_one-each, pipe_arrive-each}
use Rattle.emu_model.proofs.DueParts.{ExitDue, FinishDue, TimerDue, InstanceDue, TrainDue, timely, all_dues, all_parts}
use Rattle.emu_model.proofs.CallerLemmas.{next_event_by_command, next_event_by_dues}

-- exits from `low` on, none below the one before, and none above `last`
abbrev RisesTo : ℕ → ℕ → List (InFlight Packet) → Type 0
RisesTo low last [] = Unit {0}
RisesTo low last (x ∷ xs) = (low ≤ x.exit) × (x.exit ≤ last) × RisesTo x.exit last xs

abbrev LineAhead : ℕ → Line Packet → Type 0
LineAhead m l = RisesTo m l.last l.in_flight

rises-lower : (m low last : ℕ) (xs : List (InFlight Packet)) → m ≤ low → RisesTo low last xs → RisesTo m last xs
rises-lower m low last [] h r = tt
rises-lower m low last (x ∷ xs) h r = (omega (arith, r.0), r.1, r.2)

rises-joined : (low last exit : ℕ) (p : Packet) (xs : List (InFlight Packet)) → low ≤ exit → last ≤ exit →
    RisesTo low last xs → RisesTo low exit (xs ++ record { item = p; exit = exit } ∷ [])
rises-joined low last exit p [] h g r = (h, omega arith, tt)
rises-joined low last exit p (x ∷ xs) h g r =
    (r.0, omega (arith, r.1), rises-joined x.exit last exit p xs (omega (arith, r.1)) g r.2)

entered-ahead : (now delay : ℕ) (p : Packet) (l : Line Packet) → LineAhead now l → LineAhead now (enter p now delay l)
entered-ahead now delay p l r =
    rises-joined now l.last (exit_after l.last now delay) p l.in_flight (omega arith) (omega arith) r

line-from : (low m : ℕ) (l : Line Packet) → LineAhead low l → ExitDue (λ x. m ≤ x) l.in_flight → LineAhead m l
line-from low m l h d = go l.in_flight h d
  where
    go : (xs : List (InFlight Packet)) → RisesTo low l.last xs → ExitDue (λ x. m ≤ x) xs → RisesTo m l.last xs
    go [] r q = tt
    go (x ∷ xs) r q = (q, r.1, r.2)

line-due : (m : ℕ) (l : Line Packet) → LineAhead m l → ExitDue (λ x. m ≤ x) l.in_flight
line-due m l h = go l.in_flight h
  where
    go : (xs : List (InFlight Packet)) → RisesTo m l.last xs → ExitDue (λ x. m ≤ x) xs
    go [] r = tt
    go (x ∷ xs) r = r.0

left-ahead : (m : ℕ) (l : Line Packet) → LineAhead m l → LineAhead m (leave l)
left-ahead m l r = go l.in_flight r
  where
    go : (xs : List (InFlight Packet)) → RisesTo m l.last xs → RisesTo m l.last (tail xs)
    go [] h = tt
    go (x ∷ xs) h = rises-lower m x.exit l.last xs h.0 h.2

-- a finish is what its period says, and no earlier than m
record PeriodAhead (m bw : ℕ) (p : Period) : Type 0 where
  from : m ≤ p.finish
  at : p.finish ≡ finish_at bw p.start p.sum

pub div-rises : (a b d : ℕ) → a ≤ b → a / suc d ≤ b / suc d
div-rises a b d h = le-div (a / suc d) b (suc d) (omega arith) (omega (arith, h, div-mul-le_self a (suc d)))

-- nothing is rounded up to 0
quotient_up_none : (d : ℕ) → div_ceil (8 * 10 ^ 9 * 0) (suc d) ≡ 0
quotient_up_none d = div-eq_of_lt (omega arith)

pub finish_at-none : (bw start : ℕ) → start ≡ finish_at bw start 0
finish_at-none zero start = refl
finish_at-none (suc bw) start = omega (arith, quotient_up_none bw)

-- one packet more finishes no earlier
finish_at-rises : (bw start sum size : ℕ) → finish_at bw start sum ≤ finish_at bw start (sum + size)
finish_at-rises zero start sum size = omega arith
finish_at-rises (suc bw) start sum size =
    omega (
      arith,
      div-rises (8 * 10 ^ 9 * sum + (suc bw - 1)) (8 * 10 ^ 9 * (sum + size) + (suc bw - 1)) bw (omega arith),
    )

follow-ahead : (m bw size : ℕ) (p : Period) → PeriodAhead m bw p → PeriodAhead m bw (follow bw size p)
follow-ahead m zero size p h = record { from = omega (arith, h.from, h.at); at = refl }
follow-ahead m (suc bw) size p h = record {
  from = omega (arith, h.from, h.at, finish_at-rises (suc bw) p.start p.sum size);
  at = refl;
}

begin-ahead : (bw now size : ℕ) → PeriodAhead now bw (begin bw now size)
begin-ahead bw now size =
    follow-ahead now bw size (record { start = now; sum = 0; finish = now })
    (record { from = omega arith; at = finish_at-none bw now })

cut-ahead : (m old bw : ℕ) (p : Period) → PeriodAhead m old p → PeriodAhead m bw (cut_period p)
cut-ahead m old bw p h = record { from = h.from; at = finish_at-none bw p.finish }

abbrev ServiceAhead : ℕ → ℕ → Option (InService Packet) → Type 0
ServiceAhead m bw None = Unit {0}
ServiceAhead m bw (Some s) = PeriodAhead m bw s.period

record InstanceAhead (m bw : ℕ) (i : Instance) : Type 0 where
  line : LineAhead m i.line
  service : ServiceAhead m bw i.service

abbrev PipeAhead : ℕ → PipeState → Type 0
PipeAhead m p = AllByRecursion (InstanceAhead m p.config.bw) p.instances

period_with-ahead : (bw now size : ℕ) (o : Option (InService Packet)) → ServiceAhead now bw o →
    PeriodAhead now bw (period_with bw now size o)
period_with-ahead bw now size None h = begin-ahead bw now size
period_with-ahead bw now size (Some s) h = follow-ahead now bw size s.period h

serve_next-ahead : (config : PipeConfig) (now : ℕ) (i : Instance) → InstanceAhead now config.bw i →
    InstanceAhead now config.bw (serve_next config now i).state
serve_next-ahead config now i h =
    let d : Dequeued Packet = dequeue config.discipline now i.control i.waiting in
    record { line = h.line; service = go d.given }
  where
    go : (o : Option (Queued Packet)) → ServiceAhead now config.bw (option_map (λ w. record {
      item = w.item;
      period = period_with config.bw now w.size i.service;
    }) o)
    go None = tt
    go (Some w) = period_with-ahead config.bw now w.size i.service h.service

same-instance : (m bw : ℕ) (i j : Instance) → j.line ≡ i.line → j.service ≡ i.service → InstanceAhead m bw i →
    InstanceAhead m bw j
same-instance m bw i j l s h = record {
  line = subst (LineAhead m) (sym l) h.line;
  service = subst (ServiceAhead m bw) (sym s) h.service;
}

instance_arrive-ahead : (config : PipeConfig) (now : ℕ) (p : Packet) (lost : Bool) (i : Instance) →
    InstanceAhead now config.bw i → InstanceAhead now config.bw (instance_arrive config now p lost i).state
instance_arrive-ahead config now p lost i h =
    either P lost (drop_one i p Lost)
    (if accepts config.queue i.waiting p.size then accept config now p i else drop_one i p Full) h
    (either P (accepts config.queue i.waiting p.size) (accept config now p i) (drop_one i p Full)
    (either P (is_some i.service) (no_drop (enqueue now p i)) (serve_next config now (enqueue now p i)) waits
    (serve_next-ahead config now (enqueue now p i) waits)) h)
  where
    P : After Instance → Type 0
    P a = InstanceAhead now config.bw a.state

    waits : InstanceAhead now config.bw (enqueue now p i)
    waits = same-instance now config.bw i (enqueue now p i) refl refl h

pipe-ahead : (m : ℕ) (config : PipeConfig) (p : PipeState) → InPipe (InstanceAhead m config.bw) config p → PipeAhead m p
pipe-ahead m config p h =
    subst (λ c. AllByRecursion (InstanceAhead m c.bw) p.instances) (sym h.config) h.each

pipe_arrive-ahead : (seed now : ℕ) (packet : Packet) (p : PipeState) → PipeAhead now p →
    PipeAhead now (pipe_arrive seed now packet p).state
pipe_arrive-ahead seed now packet p h =
    pipe-ahead now p.config (pipe_arrive seed now packet p).state
    (pipe_arrive-each (InstanceAhead now p.config.bw) seed now packet p
    (λ id. record { line = tt; service = tt })
    (λ lost i q. instance_arrive-ahead p.config now packet lost (drawn_one i)
    (same-instance now p.config.bw i (drawn_one i) refl refl q)) h)

send_off-ahead : (config : PipeConfig) (now : ℕ) (o : Option (InService Packet)) (l : Line Packet) → LineAhead now l →
    LineAhead now (send_off config now o l)
send_off-ahead config now None l h = h
send_off-ahead config now (Some s) l h = entered-ahead now (milliseconds config.delay) s.item l h

pipe_finish-ahead : (now k : ℕ) (p : PipeState) → PipeAhead now p → PipeAhead now (pipe_finish now k p).state
pipe_finish-ahead now k p h =
    pipe-ahead now p.config (pipe_finish now k p).state
    (change_one-each (InstanceAhead now p.config.bw) p.config k (instance_finish p.config now) p
    (record { config = refl; each = h })
    (λ i e q. serve_next-ahead p.config now (record i { line = send_off p.config now i.service i.line })
    (record { line = send_off-ahead p.config now i.service i.line q.line; service = q.service })))

pipe_exit-ahead : (m k : ℕ) (p : PipeState) → PipeAhead m p → PipeAhead m (pipe_exit k p)
pipe_exit-ahead m k p h =
    each_changed (InstanceAhead m p.config.bw) (λ i. record i { line = leave i.line }) k p.instances
    (λ i q. record { line = left-ahead m i.line q.line; service = q.service }) h

pipe_configure-ahead : (m : ℕ) (config : PipeConfig) (p : PipeState) → PipeAhead m p →
    PipeAhead m (pipe_configure config p)
pipe_configure-ahead m config p h =
    each_mapped (InstanceAhead m p.config.bw) (InstanceAhead m config.bw) (instance_configure p.config config)
    (λ i q. record { line = q.line; service = cut i.service q.service }) p.instances h
  where
    cut : (o : Option (InService Packet)) → ServiceAhead m p.config.bw o → ServiceAhead m config.bw (option_map cut_service o)
    cut None q = tt
    cut (Some s) q = cut-ahead m p.config.bw config.bw s.period q

abbrev TimerAhead : ℕ → Option ℕ → Type 0
TimerAhead m o = TimerDue (λ t. m ≤ t) o

abbrev FlowAhead : ℕ → FlowState → Type 0
FlowAhead m f = f.stopped ≡ false → TimerAhead m f.sender.timer

ack-ahead : (f : FlowSpec) (now upto : ℕ) (s : Sender) → TimerAhead now s.timer → TimerAhead now (ack f now upto s).timer
ack-ahead f now upto s h =
    either P (is_new f upto s) (ack_new f now upto s) (if is_duplicate upto s then ack_duplicate f s else s)
    (either (TimerAhead now) (nat_lt upto s.snd_max)
    (Some (now + timeout_after f.timing (round_trip now upto s.sample) s)) None
    (omega arith) tt)
    (either P (is_duplicate upto s) (ack_duplicate f s) s duplicate h)
  where
    P : Sender → Type 0
    P t = TimerAhead now t.timer

    counted : Sender
    counted = record s { duplicates = bounded (s.duplicates + 1) }

    duplicate : P (ack_duplicate f s)
    duplicate =
        either P s.recovery (record counted { cwnd = bounded (s.cwnd + f.smss) })
        (if counted.duplicates == 3 then enter_recovery f counted else counted) h
        (either P (counted.duplicates == 3) (enter_recovery f counted) counted h h)

started-ahead : (now : ℕ) (s : Sender) → TimerAhead now s.timer → TimerAhead now (started_timer now s)
started-ahead now s h =
    either (TimerAhead now) (is_none s.timer) (Some (now + s.rto)) s.timer (omega arith) h

emit-ahead : (f : FlowSpec) (now : ℕ) (s : Sender) → TimerAhead now s.timer → TimerAhead now (emit f now s).timer
emit-ahead f now s h =
    either (λ t. TimerAhead now t.timer) s.resend (record s { resend = false; timer = started_timer now s }) _
    (started-ahead now s h) (started-ahead now s h)

-- the next packet of a train that has one left is due no earlier than m
abbrev TrainAhead : ℕ → TrainState → Type 0
TrainAhead m t = TrainDue (λ x. m ≤ x) t

sent-ahead : (m : ℕ) (t : TrainState) → TrainAhead m t → TrainAhead m (record t { sent = t.sent + 1 })
sent-ahead m t h e =
    let still : nat_lt t.sent t.train.count ≡ true =
    lt-ltb t.sent t.train.count (omega (arith, ltb-true (t.sent + 1) t.train.count e)) in
    omega (arith, h still)

abbrev ahead : ℕ → Facts
ahead m = record {
  packet = λ p. Unit {0};
  line = LineAhead m;
  pipe = PipeAhead m;
  flow = FlowAhead m;
  train = TrainAhead m;
}

keeps-ahead : (at : EventContext) → Keeps (ahead at.now) at
keeps-ahead at = record {
  placed = λ p place h. tt;
  segment = λ l k f h. tt;
  reply = λ l k f h. tt;
  one_of_train = λ l k t h. tt;
  entered = λ p l fits h. entered-ahead at.now 0 p l h;
  left = λ l h. left-ahead at.now l h;
  leaving = λ p l e h. tt;
  arrived = λ p q fits h. pipe_arrive-ahead at.seed at.now p q h;
  pipe_left = λ k q h. pipe_exit-ahead at.now k q h;
  pipe_leaving = λ k p q e h. tt;
  came = λ came f h. h;
  acked = λ upto f h e. ack-ahead f.flow at.now upto f.sender (h e);
  expired = λ f h e. omega arith;
  emitted = λ f h e. emit-ahead f.flow at.now f.sender (h e);
  stopped = λ f h e. absurd (cc e);
}

fits-ahead : (now : ℕ) (c : Command) → Fits (ahead now) now c
fits-ahead now (Add r) = tt
fits-ahead now (Delete k) = tt
fits-ahead now (Config k config) = (λ p h. pipe_configure-ahead now config p h, tt)
fits-ahead now (PipeDelete k) = tt
fits-ahead now PipeShow = tt
fits-ahead now Show = tt
fits-ahead now (Inject send) = λ l k. tt
fits-ahead now (Train k t) = λ e. omega arith
fits-ahead now (Flow k f) = λ e. tt
fits-ahead now (Stop k) = tt
fits-ahead now (OnePass b) = tt
fits-ahead now (Trace b) = tt
fits-ahead now End = tt

-- an instance whose dues are no earlier than m
instance-from : (low m bw : ℕ) (i : Instance) → InstanceAhead low bw i → InstanceDue (λ x. m ≤ x) i →
    InstanceAhead m bw i
instance-from low m bw i h d =
    record { line = line-from low m i.line h.line d.line; service = go i.service h.service d.service }
  where
    go : (o : Option (InService Packet)) → ServiceAhead low bw o → FinishDue (λ x. m ≤ x) o → ServiceAhead m bw o
    go None h d = tt
    go (Some s) h d = record { from = d; at = h.at }

instance-due : (m bw : ℕ) (i : Instance) → InstanceAhead m bw i → InstanceDue (λ x. m ≤ x) i
instance-due m bw i h = record { line = line-due m i.line h.line; service = go i.service h.service }
  where
    go : (o : Option (InService Packet)) → ServiceAhead m bw o → FinishDue (λ x. m ≤ x) o
    go None h = tt
    go (Some s) h = h.from

-- at m, if nothing is due below it
rebased : (low m : ℕ) (n : Net) → Holds (ahead low) n →
    AllByRecursion (λ d. m ≤ d.moment) (dues_of low n) → Holds (ahead m) n
rebased low m n h d =
    both_hold (ahead low) (timely (λ x. m ≤ x) low) (ahead m) (λ l p q. line-from low m l p q)
    (λ x p q. each_both (InstanceAhead low x.config.bw) (InstanceDue (λ y. m ≤ y)) (InstanceAhead m x.config.bw)
    (λ i. instance-from low m x.config.bw i) x.instances p q) (λ f p q. q.timer) (λ t p q. q) n h
    (all_parts (λ x. m ≤ x) low n d)

dues-ahead : (m : ℕ) (n : Net) → Holds (ahead m) n → AllByRecursion (λ d. m ≤ d.moment) (dues_of m n)
dues-ahead m n h =
    all_dues (λ x. m ≤ x) m n
    (both_hold (ahead m) (ahead m) (timely (λ x. m ≤ x) m) (λ l p q. line-due m l p)
    (λ x p q. each_weaker (InstanceAhead m x.config.bw) (InstanceDue (λ y. m ≤ y))
    (λ i. instance-due m x.config.bw i) x.instances p)
    (λ f p q. record { timer = p; segment = λ e g. omega arith }) (λ t p q. p) n h h)

-- a state at whose clock nothing was due before, and whose commands rise from there
record Ahead (s : State) : Type 0 where
  net : Holds (ahead s.clock) s.net
  left : AreRising s.clock s.left

rising-lower : (m low : ℕ) (c : List Timed) → m ≤ low → AreRising low c → AreRising m c
rising-lower m low [] h r = tt
rising-lower m low (c ∷ cs) h r = (omega (arith, r.0), r.1)

count_step-ahead : (s : State) → Ahead s → Ahead (count_step s)
count_step-ahead s g =
    let t : State = record s { steps = s.steps + 1 } in
    let h : Ahead t = record { net = g.net; left = g.left } in
    either Ahead (is_some s.ending) t (if is_last_step t then spend t else t) h
    (either Ahead (is_last_step t) (spend t) t
    (record { net = same_parts (ahead s.clock) s.net (spend t).net refl refl refl refl g.net; left = g.left }) h)

-- an event other than the next command
take_event-ahead : (class : Class) (k m : ℕ) (c : Timed) (rest : List Timed) (s : State) → s.left ≡ c ∷ rest →
    m ≤ c.moment → AreRising c.moment rest → Holds (ahead m) s.net → Ahead (take_event m class k s)
take_event-ahead class k m c rest s l b r h =
    let at : EventContext = setting s.spec m in
    record {
      net = event-holds (ahead m) at (keeps-ahead at) class k s.net (λ p e g q. pipe_finish-ahead m (k % 256) p q)
          (λ t e g q. sent-ahead m t q) h;
      left = subst (AreRising m) (sym l) (b, r);
    }

take_class-ahead : (class : Class) (e : Due) (c : Timed) (rest : List Timed) (s : State) → s.left ≡ c ∷ rest →
    e.moment ≤ c.moment → AreRising c.moment rest → Holds (ahead e.moment) s.net →
    Ahead (take_class class e c rest s)
take_class-ahead NextCommand e c rest s l b r h =
    let at : EventContext = setting s.spec e.moment in
    record {
      net = obey-holds (ahead e.moment) at (keeps-ahead at) s.taken c.command s.net (fits-ahead e.moment c.command) h;
      left = rising-lower e.moment c.moment rest b r;
    }
take_class-ahead Exit e c rest s l b r h = take_event-ahead Exit e.source.number e.moment c rest s l b r h
take_class-ahead Finish e c rest s l b r h = take_event-ahead Finish e.source.number e.moment c rest s l b r h
take_class-ahead Expiry e c rest s l b r h = take_event-ahead Expiry e.source.number e.moment c rest s l b r h
take_class-ahead Emission e c rest s l b r h = take_event-ahead Emission e.source.number e.moment c rest s l b r h

step-ahead : (s : State) → Ahead s → Ahead (step s)
step-ahead s g = either Ahead (is_some s.ending) s (step_with s.left s) g (go s.left refl)
  where
    go : (l : List Timed) → s.left ≡ l → Ahead (step_with l s)
    go [] e = g
    go (c ∷ rest) e =
        let d : Due = next_event s c in
        let r : AreRising s.clock (c ∷ rest) = subst (AreRising s.clock) e g.left in
        count_step-ahead (take_due d c rest s)
        (take_class-ahead d.source.class d c rest s e (next_event_by_command s c) r.1
        (rebased s.clock d.moment s.net g.net (next_event_by_dues s c)))

alone-ahead : (spec : Spec) (c : List Timed) (n : ℕ) → AreRising 0 c → Ahead (alone spec c n)
alone-ahead spec c zero r =
    record { net = record { direct = tt; pipes = tt; flows = tt; trains = tt }; left = r }
alone-ahead spec c (suc n) r = step-ahead (alone spec c n) (alone-ahead spec c n r)

pub dues_stay_ahead : DuesStayAhead
dues_stay_ahead spec c n r =
    let s : State = alone spec c n in
    let g : Ahead s = alone-ahead spec c n r in
    (g.left, dues-ahead s.clock s.net g.net)
