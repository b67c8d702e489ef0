-- A packet that is held leaves no sooner than at a moment: on a delay line by its exit, elsewhere since the clock is
-- there already. What changes of instances and pipes keep it.
use Rattle.std.proofs.Common.{◌≡◌, ℕ, ◌≤◌, List, [], ◌∷◌, ◌++◌, Bool, refl, subst, Option, Some, None, arith}
use Rattle.std.specs.Prelude.{if◌then◌else◌, is_some, slice_get, option_map, option_to_list, option_and_then}
use Rattle.std.specs.List.{AllByRecursion}
use Rattle.emu_laws.proofs.Types.{Packet, PipeConfig, Lost, Full}
use Rattle.emu_model.specs.Lists.{tail}
use Rattle.emu_model.specs.Moments.{milliseconds}
use Rattle.emu_model.specs.Delay.{InFlight, Line, enter, leave, first_exit, first_item}
use Rattle.emu_model.specs.DropTail.{Queued, accepts}
use Rattle.emu_model.specs.Codel.{Dequeued}
use Rattle.emu_model.specs.Pipes.{InService, Instance, PipeState, After, dequeue, period_with, serve_next, no_drop, drop_one, enqueue, accept, drawn_one, instance_arrive, send_off, instance_finish, instance_configure, cut_service, pipe_arrive, pipe_finish, pipe_exit, pipe_configure}
use Rattle.emu_model.specs.Events.{flying_in}
use Rattle.emu_model.proofs.CallerLemmas.{dequeue-cut}
use Rattle.emu_laws.proofs.AckedCame.{ServesOf, OnWay}
use Rattle.emu_laws.proofs.EachOf.{either, each_joined, each_front, each_back, each_weaker, each_mapped, each_got, each_changed}
use Rattle.emu_laws.proofs.ExitsDue.{IsOut}
use Rattle.emu_laws.proofs.PipesKept.{change_one-each, pipe_arrive-each}

-- where it is this packet, the moment is there
abbrev pub Is : ℕ → ℕ → ℕ → Packet → Type 0
Is moment packet now p = p.number ≡ packet → moment ≤ now

-- where it is this packet, it leaves no sooner
abbrev pub LeavesFrom : ℕ → ℕ → InFlight Packet → Type 0
LeavesFrom moment packet l = l.item.number ≡ packet → moment ≤ l.exit

pub record HoldsFrom (moment packet now : ℕ) (i : Instance) : Type 0 where
  pub in_flight : AllByRecursion (LeavesFrom moment packet) i.line.in_flight
  pub service : ServesOf (Is moment packet now) i.service
  pub waiting : AllByRecursion (λ w. Is moment packet now w.item) i.waiting

module _ (moment packet now : ℕ) where
  abbrev pub T : Packet → Type 0
  T p = Is moment packet now p

  abbrev pub F : InFlight Packet → Type 0
  F l = LeavesFrom moment packet l

  pub entered-from : (delay : ℕ) (p : Packet) (l : Line Packet) → T p → AllByRecursion F l.in_flight →
      AllByRecursion F (enter p now delay l).in_flight
  entered-from delay p l q h = each_joined F l.in_flight _ h ((λ e. omega (arith, q e)), tt)

  pub left-from : (xs : List (InFlight Packet)) → AllByRecursion F xs → AllByRecursion F (tail xs)
  left-from [] h = tt
  left-from (x ∷ xs) h = h.1

  -- the first that leaves is out
  pub first-from : (xs : List (InFlight Packet)) → ((exit : ℕ) → first_exit xs ≡ Some exit → exit ≤ now) →
      AllByRecursion F xs → OnWay T (first_item xs)
  first-from [] out h = tt
  first-from (x ∷ xs) out h = λ e. omega (arith, h.0 e, out x.exit refl)

  given-from : (bw : ℕ) (i : Instance) (o : Option (Queued Packet)) → AllByRecursion (λ w. T w.item) (option_to_list o) →
      ServesOf T (option_map (λ w. record { item = w.item; period = period_with bw now w.size i.service }) o)
  given-from bw i None h = tt
  given-from bw i (Some w) h = h.0

  pub next-from : (config : PipeConfig) (i : Instance) → AllByRecursion F i.line.in_flight →
      AllByRecursion (λ w. T w.item) i.waiting → HoldsFrom moment packet now (serve_next config now i).state
  next-from config i line h =
      let d : Dequeued Packet = dequeue config.discipline now i.control i.waiting in
      let W : Queued Packet → Type 0 = λ w. T w.item in
      let all : AllByRecursion W (d.dropped ++ (option_to_list d.given ++ d.rest)) =
      subst (AllByRecursion W) (dequeue-cut config.discipline now i.control i.waiting).whole h in
      let later : AllByRecursion W (option_to_list d.given ++ d.rest) = each_back W d.dropped (option_to_list d.given ++ d.rest) all in
      record {
        in_flight = line;
        service = given-from config.bw i d.given (each_front W (option_to_list d.given) d.rest later);
        waiting = each_back W (option_to_list d.given) d.rest later;
      }

  arrive-from : (config : PipeConfig) (p : Packet) (lost : Bool) (i : Instance) → T p → HoldsFrom moment packet now i →
      HoldsFrom moment packet now (instance_arrive config now p lost i).state
  arrive-from config p lost i q h =
      either P lost (drop_one i p Lost)
      (if accepts config.queue i.waiting p.size then accept config now p i else drop_one i p Full) h
      (either P (accepts config.queue i.waiting p.size) (accept config now p i) (drop_one i p Full)
      (either P (is_some i.service) (no_drop (enqueue now p i)) (serve_next config now (enqueue now p i))
      (record { in_flight = h.in_flight; service = h.service; waiting = more })
      (next-from config (enqueue now p i) h.in_flight more)) h)
    where
      P : After Instance → Type 0
      P a = HoldsFrom moment packet now a.state

      more : AllByRecursion (λ w. T w.item) (enqueue now p i).waiting
      more = each_joined (λ w. T w.item) i.waiting _ h.waiting (q, tt)

  sent-from : (config : PipeConfig) (o : Option (InService Packet)) (l : Line Packet) → ServesOf T o →
      AllByRecursion F l.in_flight → AllByRecursion F (send_off config now o l).in_flight
  sent-from config None l s h = h
  sent-from config (Some x) l s h = entered-from (milliseconds config.delay) x.item l s h

  cut-from : (o : Option (InService Packet)) → ServesOf T o → ServesOf T (option_map cut_service o)
  cut-from None h = tt
  cut-from (Some s) h = h

  abbrev pub PipeFrom : PipeState → Type 0
  PipeFrom p = AllByRecursion (HoldsFrom moment packet now) p.instances

  pub pipe_arrive-from : (seed : ℕ) (q : Packet) (p : PipeState) → T q → PipeFrom p →
      PipeFrom (pipe_arrive seed now q p).state
  pipe_arrive-from seed q p t h =
      (pipe_arrive-each (HoldsFrom moment packet now) seed now q p
      (λ id. record { in_flight = tt; service = tt; waiting = tt })
      (λ lost i r. arrive-from p.config q lost (drawn_one i) t
      (record { in_flight = r.in_flight; service = r.service; waiting = r.waiting })) h).each

  pub pipe_finish-from : (k : ℕ) (p : PipeState) → PipeFrom p → PipeFrom (pipe_finish now k p).state
  pipe_finish-from k p h =
      (change_one-each (HoldsFrom moment packet now) p.number p.config k (instance_finish p.config now) p
      (record { number = refl; config = refl; each = h })
      (λ i q. next-from p.config (record i { line = send_off p.config now i.service i.line })
      (sent-from p.config i.service i.line q.service q.in_flight) q.waiting)).each

  pub pipe_exit-from : (k : ℕ) (p : PipeState) → PipeFrom p → PipeFrom (pipe_exit k p)
  pipe_exit-from k p h =
      each_changed (HoldsFrom moment packet now) (λ i. record i { line = leave i.line }) k p.instances
      (λ i q. record { in_flight = left-from i.line.in_flight q.in_flight; service = q.service; waiting = q.waiting }) h

  pub flying-from : (k : ℕ) (p : PipeState) →
      ((i : Instance) → slice_get p.instances k ≡ Some i → IsOut now i.line) → PipeFrom p → OnWay T (flying_in k p)
  flying-from k p out h = go (slice_get p.instances k) refl
    where
      go : (o : Option Instance) → slice_get p.instances k ≡ o → OnWay T (option_and_then (λ i. first_item i.line.in_flight) o)
      go None e = tt
      go (Some i) e =
          first-from i.line.in_flight (out i e) (each_got (HoldsFrom moment packet now) i p.instances k e h).in_flight

  pub pipe_configure-from : (config : PipeConfig) (p : PipeState) → PipeFrom p → PipeFrom (pipe_configure config p)
  pipe_configure-from config p h =
      each_mapped (HoldsFrom moment packet now) (HoldsFrom moment packet now) (instance_configure p.config config)
      (λ i q. record { in_flight = q.in_flight; service = cut-from i.service q.service; waiting = q.waiting }) p.instances h

-- a later clock
pub later-holds : (moment packet before now : ℕ) → before ≤ now → (i : Instance) → HoldsFrom moment packet before i →
    HoldsFrom moment packet now i
later-holds moment packet before now b i h = record {
  in_flight = h.in_flight;
  service = serves i.service h.service;
  waiting = each_weaker (λ w. Is moment packet before w.item) (λ w. Is moment packet now w.item)
      (λ w q e. omega (arith, b, q e)) i.waiting h.waiting;
}
  where
    serves : (o : Option (InService Packet)) → ServesOf (Is moment packet before) o → ServesOf (Is moment packet now) o
    serves None q = tt
    serves (Some s) q = λ e. omega (arith, b, q e)
