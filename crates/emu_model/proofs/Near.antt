-- No due lies far above the moment of the last event.
use Rattle.std.proofs.Common.{◌≡◌, ℕ, zero, suc, ◌+◌, ◌-◌, ◌*◌, ◌^◌, ◌≤◌, List, [], ◌∷◌, ◌++◌, Bool, refl, sym, subst, Option, Some, None, arith}
use Rattle.std.specs.Prelude.{if◌then◌else◌, is_some, slice_get, option_map, option_to_list, option_and_then}
use Rattle.std.specs.List.{AllByRecursion}
use Rattle.std.proofs.Math.Nat.{add-mul-div_right}
use Rattle.std.proofs.lemmas.Nat.{mul-le}
use Rattle.emu_model.specs.Moments.{milliseconds}
use Rattle.emu_model.specs.Types.{Packet, PipeConfig, Lost, Full}
use Rattle.emu_model.specs.Lists.{tail}
use Rattle.emu_model.specs.Rate.{finish_at, Period, follow, cut_period}
use Rattle.emu_model.specs.Delay.{exit_after, InFlight, Line, enter, leave, first_item}
use Rattle.emu_model.specs.DropTail.{Queued, accepts}
use Rattle.emu_model.specs.Codel.{Dequeued}
use Rattle.emu_model.specs.Pipes.{InService, Instance, PipeState, After, dequeue, period_with, serve_next, no_drop, drop_one, enqueue, accept, drawn_one, instance_arrive, pipe_arrive, send_off, instance_finish, pipe_finish, pipe_exit, instance_configure, pipe_configure, cut_service}
use Rattle.emu_model.specs.Events.{flying_in}
use Rattle.emu_model.proofs.AllFacts.{either, each_joined, each_front, each_back, each_weaker, each_mapped, each_got, each_changed}
use Rattle.emu_model.proofs.PipeParts.{InPipe, change_one-each, pipe_arrive-each}
use Rattle.emu_model.proofs.Cuts.{IsCut}
use Rattle.emu_model.proofs.Disciplines.{dequeue-cut}
use Rattle.emu_model.proofs.Ahead.{div-rises, finish_at-none}

-- how far a due can lie above the moment of the last event: 1500 bytes at one bit a second
abbrev pub reach : ℕ
reach = 12 * 10 ^ 12

abbrev pub IsSmall : Packet → Type 0
IsSmall p = p.size ≤ 1500

abbrev pub LeavesNear : ℕ → InFlight Packet → Type 0
LeavesNear m x = (x.exit ≤ m + reach) × IsSmall x.item

pub record LineNear (m : ℕ) (l : Line Packet) : Type 0 where
  pub last : l.last ≤ m + reach
  pub in_flight : AllByRecursion (LeavesNear m) l.in_flight

pub entered-near : (now delay : ℕ) (p : Packet) (l : Line Packet) → delay ≤ reach → IsSmall p → LineNear now l →
    LineNear now (enter p now delay l)
entered-near now delay p l d small h =
    let exit : exit_after l.last now delay ≤ now + reach = omega (arith, h.last, d) in
    record {
      last = exit;
      in_flight = each_joined (LeavesNear now) l.in_flight
          (record { item = p; exit = exit_after l.last now delay } ∷ []) h.in_flight ((exit, small), tt);
    }

pub left-near : (m : ℕ) (l : Line Packet) → LineNear m l → LineNear m (leave l)
left-near m l h = record { last = h.last; in_flight = go l.in_flight h.in_flight }
  where
    go : (xs : List (InFlight Packet)) → AllByRecursion (LeavesNear m) xs → AllByRecursion (LeavesNear m) (tail xs)
    go [] q = tt
    go (x ∷ xs) q = q.1

pub leaving-small : (m : ℕ) (p : Packet) (l : Line Packet) → first_item l.in_flight ≡ Some p → LineNear m l → IsSmall p
leaving-small m p l e h = go l.in_flight e h.in_flight
  where
    go : (xs : List (InFlight Packet)) → first_item xs ≡ Some p → AllByRecursion (LeavesNear m) xs → IsSmall p
    go [] g q = absurd (cc g)
    go (x ∷ xs) g q =
        let same : x.item ≡ p = cc g in
        subst IsSmall same q.0.1

-- a finish is what its period says, and near m
pub record PeriodNear (m bw : ℕ) (p : Period) : Type 0 where
  pub near : p.finish ≤ m + reach
  pub at : p.finish ≡ finish_at bw p.start p.sum

-- one packet more takes at most a second for each of its bits
finish_at-near : (bw start sum size : ℕ) →
    finish_at bw start (sum + size) ≤ finish_at bw start sum + 8 * 10 ^ 9 * size
finish_at-near zero start sum size = omega arith
finish_at-near (suc bw) start sum size =
    let more : ℕ = 8 * 10 ^ 9 * size in
    let before : ℕ = 8 * 10 ^ 9 * sum + (suc bw - 1) in
    let wide : more ≤ more * suc bw = le-mul more bw in
    omega (
      arith,
      div-rises (8 * 10 ^ 9 * (sum + size) + (suc bw - 1)) (before + more * suc bw) bw (omega arith),
      add-mul-div_right before more {z = suc bw} (omega arith),
    )
  where
    le-mul : (a b : ℕ) → a ≤ a * suc b
    le-mul a b = omega (arith, mul-le a 1 a (suc b) (omega arith) (omega arith))

-- the period of a packet that is served from now on, where the one before it has finished
follow-near : (now bw size : ℕ) (p : Period) → size ≤ 1500 → p.finish ≤ now →
    p.finish ≡ finish_at bw p.start p.sum → PeriodNear now bw (follow bw size p)
follow-near now zero size p small f e = record { near = omega (arith, f, e); at = refl }
follow-near now (suc bw) size p small f e = record {
  near = omega (arith, small, f, e, finish_at-near (suc bw) p.start p.sum size);
  at = refl;
}

cut-near : (m old bw : ℕ) (p : Period) → PeriodNear m old p → PeriodNear m bw (cut_period p)
cut-near m old bw p h = record { near = h.near; at = finish_at-none bw p.finish }

pub record ServedNear (m bw : ℕ) (s : InService Packet) : Type 0 where
  pub packet : IsSmall s.item
  pub period : PeriodNear m bw s.period

abbrev pub ServiceNear : ℕ → ℕ → Option (InService Packet) → Type 0
ServiceNear m bw None = Unit {0}
ServiceNear m bw (Some s) = ServedNear m bw s

abbrev pub WaitsSmall : Queued Packet → Type 0
WaitsSmall w = (w.size ≤ 1500) × IsSmall w.item

pub record InstanceNear (m bw : ℕ) (i : Instance) : Type 0 where
  pub line : LineNear m i.line
  pub service : ServiceNear m bw i.service
  pub waiting : AllByRecursion WaitsSmall i.waiting

pub record PipeNear (m : ℕ) (p : PipeState) : Type 0 where
  pub delay : p.config.delay ≤ 60000
  pub each : AllByRecursion (InstanceNear m p.config.bw) p.instances

-- a server that rests, or has finished by now
abbrev IsReady : ℕ → ℕ → Option (InService Packet) → Type 0
IsReady now bw None = Unit {0}
IsReady now bw (Some s) = (s.period.finish ≤ now) × (s.period.finish ≡ finish_at bw s.period.start s.period.sum)

period_with-near : (bw now size : ℕ) (o : Option (InService Packet)) → size ≤ 1500 → IsReady now bw o →
    PeriodNear now bw (period_with bw now size o)
period_with-near bw now size None small h =
    follow-near now bw size (record { start = now; sum = 0; finish = now }) small (omega arith) (finish_at-none bw now)
period_with-near bw now size (Some s) small h = follow-near now bw size s.period small h.0 h.1

-- what is given, and what still waits, waited before
record GivesSmall (d : Dequeued Packet) : Type 0 where
  given : AllByRecursion WaitsSmall (option_to_list d.given)
  rest : AllByRecursion WaitsSmall d.rest

in-order : (d : Dequeued Packet) (ws : List (Queued Packet)) → IsCut ws d → AllByRecursion WaitsSmall ws → GivesSmall d
in-order d ws cut h =
    let given : List (Queued Packet) = option_to_list d.given in
    let kept : AllByRecursion WaitsSmall (given ++ d.rest) =
    each_back WaitsSmall d.dropped (given ++ d.rest) (subst (AllByRecursion WaitsSmall) cut.whole h) in
    record {
      given = each_front WaitsSmall given d.rest kept;
      rest = each_back WaitsSmall given d.rest kept;
    }

serve_next-near : (config : PipeConfig) (now : ℕ) (i : Instance) → LineNear now i.line →
    IsReady now config.bw i.service → AllByRecursion WaitsSmall i.waiting →
    InstanceNear now config.bw (serve_next config now i).state
serve_next-near config now i line ready waits =
    let d : Dequeued Packet = dequeue config.discipline now i.control i.waiting in
    let small : GivesSmall d = in-order d i.waiting (dequeue-cut config.discipline now i.control i.waiting) waits in
    record { line = line; service = go d.given small.given; waiting = small.rest }
  where
    go : (o : Option (Queued Packet)) → AllByRecursion WaitsSmall (option_to_list o) →
        ServiceNear now config.bw (option_map (λ w. record {
          item = w.item;
          period = period_with config.bw now w.size i.service;
        }) o)
    go None h = tt
    go (Some w) h =
        record { packet = h.0.1; period = period_with-near config.bw now w.size i.service h.0.0 ready }

instance_arrive-near : (config : PipeConfig) (now : ℕ) (p : Packet) (lost : Bool) (i : Instance) → IsSmall p →
    InstanceNear now config.bw i → InstanceNear now config.bw (instance_arrive config now p lost i).state
instance_arrive-near config now p lost i small h =
    either P lost (drop_one i p Lost)
    (if accepts config.queue i.waiting p.size then accept config now p i else drop_one i p Full) h
    (either P (accepts config.queue i.waiting p.size) (accept config now p i) (drop_one i p Full)
    (taken i.service refl) h)
  where
    P : After Instance → Type 0
    P a = InstanceNear now config.bw a.state

    waits : AllByRecursion WaitsSmall (enqueue now p i).waiting
    waits =
        each_joined WaitsSmall i.waiting (record { item = p; size = p.size; stamp = now } ∷ []) h.waiting
        ((small, small), tt)

    taken : (o : Option (InService Packet)) → i.service ≡ o →
        P (if is_some o then no_drop (enqueue now p i) else serve_next config now (enqueue now p i))
    taken None e =
        serve_next-near config now (enqueue now p i) h.line (subst (IsReady now config.bw) (sym e) tt) waits
    taken (Some s) e = record { line = h.line; service = h.service; waiting = waits }

pub pipe-near : (m : ℕ) (config : PipeConfig) (p : PipeState) → config.delay ≤ 60000 →
    InPipe (InstanceNear m config.bw) config p → PipeNear m p
pipe-near m config p d h = record {
  delay = subst (λ c. c.delay ≤ 60000) (sym h.config) d;
  each = subst (λ c. AllByRecursion (InstanceNear m c.bw) p.instances) (sym h.config) h.each;
}

pub pipe_arrive-near : (seed now : ℕ) (packet : Packet) (p : PipeState) → IsSmall packet → PipeNear now p →
    PipeNear now (pipe_arrive seed now packet p).state
pipe_arrive-near seed now packet p small h =
    pipe-near now p.config (pipe_arrive seed now packet p).state h.delay
    (pipe_arrive-each (InstanceNear now p.config.bw) seed now packet p
    (λ id. record { line = record { last = omega arith; in_flight = tt }; service = tt; waiting = tt })
    (λ lost i q. instance_arrive-near p.config now packet lost (drawn_one i) small
    (record { line = q.line; service = q.service; waiting = q.waiting })) h.each)

send_off-near : (config : PipeConfig) (now bw : ℕ) (o : Option (InService Packet)) (l : Line Packet) → config.delay ≤ 60000 →
    ServiceNear now bw o → LineNear now l → LineNear now (send_off config now o l)
send_off-near config now bw None l d s h = h
send_off-near config now bw (Some x) l d s h =
    entered-near now (milliseconds config.delay) x.item l (omega (arith, d)) s.packet h

-- where what instance k serves has finished by now
pub pipe_finish-near : (now k : ℕ) (p : PipeState) →
    ((i : Instance) (s : InService Packet) → slice_get p.instances k ≡ Some i → i.service ≡ Some s → s.period.finish ≤ now) →
    PipeNear now p → PipeNear now (pipe_finish now k p).state
pipe_finish-near now k p done h =
    pipe-near now p.config (pipe_finish now k p).state h.delay
    (change_one-each (InstanceNear now p.config.bw) p.config k (instance_finish p.config now) p
    (record { config = refl; each = h.each })
    (λ i e q. serve_next-near p.config now (record i { line = send_off p.config now i.service i.line })
    (send_off-near p.config now p.config.bw i.service i.line h.delay q.service q.line)
    (ready i.service q.service (λ s g. done i s e g)) q.waiting))
  where
    ready : (o : Option (InService Packet)) → ServiceNear now p.config.bw o → ((s : InService Packet) → o ≡ Some s → s.period.finish ≤ now) →
        IsReady now p.config.bw o
    ready None q g = tt
    ready (Some s) q g = (g s refl, q.period.at)

pub pipe_exit-near : (m k : ℕ) (p : PipeState) → PipeNear m p → PipeNear m (pipe_exit k p)
pipe_exit-near m k p h = record {
  delay = h.delay;
  each = each_changed (InstanceNear m p.config.bw) (λ i. record i { line = leave i.line }) k p.instances
      (λ i q. record { line = left-near m i.line q.line; service = q.service; waiting = q.waiting }) h.each;
}

pub flying-small : (m k : ℕ) (q : Packet) (p : PipeState) → flying_in k p ≡ Some q → PipeNear m p → IsSmall q
flying-small m k q p e h = go (slice_get p.instances k) refl e
  where
    go : (o : Option Instance) → slice_get p.instances k ≡ o →
        option_and_then (λ i. first_item i.line.in_flight) o ≡ Some q → IsSmall q
    go None g f = absurd (cc f)
    go (Some i) g f =
        leaving-small m q i.line f (each_got (InstanceNear m p.config.bw) i p.instances k g h.each).line

pub pipe_configure-near : (m : ℕ) (config : PipeConfig) (p : PipeState) → config.delay ≤ 60000 → PipeNear m p →
    PipeNear m (pipe_configure config p)
pipe_configure-near m config p d h = record {
  delay = d;
  each = each_mapped (InstanceNear m p.config.bw) (InstanceNear m config.bw) (instance_configure p.config config)
      (λ i q. record { line = q.line; service = cut i.service q.service; waiting = q.waiting }) p.instances h.each;
}
  where
    cut : (o : Option (InService Packet)) → ServiceNear m p.config.bw o → ServiceNear m config.bw (option_map cut_service o)
    cut None q = tt
    cut (Some s) q = record { packet = q.packet; period = cut-near m p.config.bw config.bw s.period q.period }

-- what is near m is near a later moment
pub line-later : (low m : ℕ) (l : Line Packet) → low ≤ m → LineNear low l → LineNear m l
line-later low m l e h = record {
  last = omega (arith, h.last);
  in_flight = each_weaker (LeavesNear low) (LeavesNear m) (λ x q. (omega (arith, q.0), q.1)) l.in_flight h.in_flight;
}

instance-later : (low m bw : ℕ) (i : Instance) → low ≤ m → InstanceNear low bw i → InstanceNear m bw i
instance-later low m bw i e h =
    record { line = line-later low m i.line e h.line; service = go i.service h.service; waiting = h.waiting }
  where
    go : (o : Option (InService Packet)) → ServiceNear low bw o → ServiceNear m bw o
    go None q = tt
    go (Some s) q = record {
      packet = q.packet;
      period = record { near = omega (arith, q.period.near); at = q.period.at };
    }

pub pipe-later : (low m : ℕ) (p : PipeState) → low ≤ m → PipeNear low p → PipeNear m p
pipe-later low m p e h = record {
  delay = h.delay;
  each = each_weaker (InstanceNear low p.config.bw) (InstanceNear m p.config.bw)
      (λ i. instance-later low m p.config.bw i e) p.instances h.each;
}
