-- The finish of what is in service, through all changes of an instance.
use Rattle.std.proofs.Common.{◌≡◌, ℕ, zero, suc, ◌*◌, ◌^◌, ◌<◌, Bool, refl, subst, Option, Some, None, arith}
use Rattle.std.specs.Prelude.{if◌then◌else◌, is_some, option_map}
use Rattle.std.specs.List.{AllByRecursion}
use Rattle.emu_laws.proofs.Types.{Packet, PipeConfig, Lost, Full}
use Rattle.emu_model.specs.Rate.{div_ceil, finish_at, Period, follow}
use Rattle.emu_model.specs.DropTail.{Queued, accepts}
use Rattle.emu_model.specs.Pipes.{InService, Instance, After, dequeue, period_with, serve_next, no_drop, drop_one, enqueue, accept, drawn_one, instance_arrive, send_off, cut_service}
use Rattle.emu_model.specs.Alone.{alone}
use Rattle.emu_laws.proofs.EachOf.{either, each_weaker}
use Rattle.emu_laws.proofs.FlowsKept.{Anything, anything}
use Rattle.emu_laws.proofs.MissingFacts.{fewer}
use Rattle.emu_laws.proofs.PipeRate.{Covers, covers}
use Rattle.emu_laws.proofs.PipesKept.{InstanceKeeps, Each, alone-pipes}
use Rattle.emu_laws.specs.ServiceMoments.{IsOnTime, ServiceIsOnTime}

abbrev OnTime : ℕ → Period → Type 0
OnTime bw p = p.finish ≡ finish_at bw p.start p.sum

abbrev ServesOnTime : ℕ → Option (InService Packet) → Type 0
ServesOnTime bw None = Unit {0}
ServesOnTime bw (Some s) = OnTime bw s.period

follow-time : (bw size : ℕ) (p : Period) → OnTime bw (follow bw size p)
follow-time zero size p = refl
follow-time (suc bw) size p = refl

-- no byte takes no time
none-time : (bw start : ℕ) → start ≡ finish_at bw start 0
none-time zero start = refl
none-time (suc bw) start =
    let q : ℕ = div_ceil (8 * 10 ^ 9 * 0) (suc bw) in
    let c : Covers (8 * 10 ^ 9 * 0) bw q = covers (8 * 10 ^ 9 * 0) bw in
    let low : q < 1 = fewer q 1 (suc bw) (omega (arith, c.close)) in
    omega (arith, low)

with-time : (bw now size : ℕ) (o : Option (InService Packet)) → OnTime bw (period_with bw now size o)
with-time bw now size None = follow-time bw size (record { start = now; sum = 0; finish = now })
with-time bw now size (Some s) = follow-time bw size s.period

next-time : (config : PipeConfig) (now : ℕ) (i : Instance) → ServesOnTime config.bw (serve_next config now i).state.service
next-time config now i = go (dequeue config.discipline now i.control i.waiting).given
  where
    go : (o : Option (Queued Packet)) → ServesOnTime config.bw (option_map (λ w. record {
      item = w.item;
      period = period_with config.bw now w.size i.service;
    }) o)
    go None = tt
    go (Some w) = with-time config.bw now w.size i.service

arrive-time : (config : PipeConfig) (now : ℕ) (p : Packet) (lost : Bool) (i : Instance) → ServesOnTime config.bw i.service →
    ServesOnTime config.bw (instance_arrive config now p lost i).state.service
arrive-time config now p lost i h =
    either P lost (drop_one i p Lost)
    (if accepts config.queue i.waiting p.size then accept config now p i else drop_one i p Full) h
    (either P (accepts config.queue i.waiting p.size) (accept config now p i) (drop_one i p Full)
    (either P (is_some i.service) (no_drop (enqueue now p i)) (serve_next config now (enqueue now p i)) h
    (next-time config now (enqueue now p i))) h)
  where
    P : After Instance → Type 0
    P a = ServesOnTime config.bw a.state.service

cut-time : (old new : ℕ) (o : Option (InService Packet)) → ServesOnTime old o → ServesOnTime new (option_map cut_service o)
cut-time old new None h = tt
cut-time old new (Some s) h = none-time new s.period.finish

abbrev ServesSo : ℕ → PipeConfig → Instance → Type 0
ServesSo k config i = ServesOnTime config.bw i.service

abbrev Any : ℕ → PipeConfig → Type 0
Any k config = Unit {0}

time-kept : InstanceKeeps Anything Any ServesSo
time-kept = record {
  config = λ k config ok. tt;
  opened = λ k config id. tt;
  arrived = λ k config now packet lost i c h. arrive-time config now packet lost (drawn_one i) h;
  finished = λ k config now i c h. next-time config now (record i { line = send_off config now i.service i.line });
  left = λ k config i h. h;
  configured = λ k old new i h. cut-time old.bw new.bw i.service h;
}

on_time : (bw : ℕ) (i : Instance) → ServesOnTime bw i.service → IsOnTime bw i
on_time bw i h s e = subst (ServesOnTime bw) e h

pub service_is_on_time : ServiceIsOnTime
service_is_on_time spec c n =
    each_weaker (Each Anything Any ServesSo time-kept) (λ p. AllByRecursion (IsOnTime p.config.bw) p.instances)
    (λ p h. each_weaker (ServesSo p.number p.config) (IsOnTime p.config.bw) (on_time p.config.bw) p.instances h.instances)
    (alone spec c n).net.pipes (alone-pipes Anything Any ServesSo time-kept spec c n (anything c))
