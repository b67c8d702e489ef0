-- What a packet takes through an instance.
use Rattle.std.proofs.Common.{◌≡◌, ℕ, zero, suc, ◌+◌, ◌*◌, ◌^◌, ◌≤◌, [], ◌∷◌, ◌++◌, Bool, true, false, refl, sym, ◌∙◌, ap, subst, Option, Some, None, arith, zero-add}
use Rattle.std.specs.Prelude.{if◌then◌else◌, is_some, option_map}
use Rattle.emu_laws.proofs.Types.{Packet, PipeConfig, Discipline, Full}
use Rattle.emu_model.specs.Moments.{milliseconds}
use Rattle.emu_model.specs.Delay.{Line, exit_after, enter}
use Rattle.emu_model.specs.DropTail.{Queued, accepts}
use Rattle.emu_model.specs.Codel.{CodelState}
use Rattle.emu_model.specs.Rate.{div_ceil, begin}
use Rattle.emu_model.specs.Pipes.{InService, Instance, After, dequeue, period_with, serve_next, no_drop, drop_one, enqueue, accept, instance_arrive, send_off}
use Rattle.emu_model.proofs.CallerLemmas.{lone_dequeue}
use Rattle.emu_laws.specs.PipeDelay.{propagation, transmission, DelayIsKept, IdleTakesItsTime}

-- what was served enters the line
sent_off : (config : PipeConfig) (now : ℕ) (s : InService Packet) (i : Instance) (o : Option (InService Packet)) →
    o ≡ Some s → send_off config now o i.line ≡ enter s.item now (milliseconds config.delay) i.line
sent_off config now s i None e = absurd (cc e)
sent_off config now s i (Some x) e = ap (λ y. enter y.item now (milliseconds config.delay) i.line) (is e)
  where
    is : Some x ≡ Some s → x ≡ s
    is g = cc g

pub delay_is_kept : DelayIsKept
delay_is_kept config now s i e = record {
  exit = exit_after i.line.last now (milliseconds config.delay);
  entered = ap (λ l. l.in_flight) (sent_off config now s i i.service e);
  no_sooner = omega arith;
  exactly = λ h. omega (arith, h);
}

-- one alone that waits is given
given_alone : (d : Discipline) (now : ℕ) (c : CodelState) (w : Queued Packet) →
    (dequeue d now c (w ∷ [])).given ≡ Some w
given_alone d now c w = ap (λ q. q.given) (lone_dequeue d now c w)

begins : (bw now size : ℕ) → (begin bw now size).finish ≡ now + transmission bw size
begins zero now size = omega arith
begins (suc bw) now size = ap (λ n. now + div_ceil (8 * 10 ^ 9 * n) (suc bw)) (zero-add size)

-- an idle instance serves at once what comes
served_at_once : (config : PipeConfig) (now : ℕ) (p : Packet) (i : Instance) →
    accepts {A = Packet} config.queue [] p.size ≡ true →
    (instance_arrive config now p false (record i { waiting = []; service = None })).state.service
    ≡ Some (record { item = p; period = begin config.bw now p.size })
served_at_once config now p i ok =
    let w : Queued Packet = record { item = p; size = p.size; stamp = now } in
    let j : Instance = record i { waiting = []; service = None } in
    ap (λ b. (if b then accept config now p j else drop_one j p Full).state.service) ok
    ∙ ap (λ o. option_map (λ v. record { item = v.item; period = period_with {A = Packet} config.bw now v.size None }) o)
    (given_alone config.discipline now i.control w)

line_stays : (config : PipeConfig) (now : ℕ) (p : Packet) (i : Instance) →
    (instance_arrive config now p false i).state.line ≡ i.line
line_stays config now p i = go (accepts config.queue i.waiting p.size) (is_some i.service)
  where
    -- the line of what comes
    line : After Instance → Line Packet
    line a = a.state.line

    go : (a b : Bool) → line (if a then (if b then no_drop (enqueue now p i) else serve_next config now (enqueue now p i)) else drop_one i p Full) ≡ i.line
    go true true = refl
    go true false = refl
    go false b = refl

pub idle_takes_its_time : IdleTakesItsTime
idle_takes_its_time config now p i idle ok =
    let room : accepts {A = Packet} config.queue [] p.size ≡ true =
    subst (λ ws. accepts config.queue ws p.size ≡ true) idle.waiting ok in
    let came : Instance = (instance_arrive config now p false i).state in
    let served : came.service ≡ Some (record { item = p; period = begin config.bw now p.size }) =
    subst (λ ws. (instance_arrive config now p false (record i { waiting = ws })).state.service
    ≡ Some (record { item = p; period = begin config.bw now p.size })) (sym idle.waiting)
    (subst (λ o. (instance_arrive config now p false (record i { waiting = []; service = o })).state.service
    ≡ Some (record { item = p; period = begin config.bw now p.size })) (sym idle.service)
    (served_at_once config now p i room)) in
    let finish : ℕ = now + transmission config.bw p.size in
    let kept = delay_is_kept config finish (record { item = p; period = begin config.bw now p.size }) came served in
    let line : came.line ≡ i.line = line_stays config now p i in
    record {
      served = served;
      finish = begins config.bw now p.size;
      leaves = record {
        exit = kept.exit;
        entered = kept.entered ∙ ap (λ l. l.in_flight ++ record { item = p; exit = kept.exit } ∷ []) line;
        no_sooner = kept.no_sooner;
        exactly = λ h. kept.exactly (subst (λ l. l.last ≤ finish + propagation config) (sym line) h);
      };
    }
