-- What waits in an instance: a server takes the next as soon as it can, and nothing is accepted beyond the limit.
use Rattle.std.proofs.Common.{◌≡◌, ℕ, ◌+◌, ◌*◌, List, [], ◌∷◌, ◌++◌, length, Bool, true, refl, ◌∙◌, subst, Option, Some, None, arith}
use Rattle.std.specs.Prelude.{if◌then◌else◌, is_some, option_map, option_to_list}
use Rattle.std.proofs.lemmas.Bool.{ltb-true, leb-true}
use Rattle.std.proofs.lemmas.List.{length-append}
use Rattle.std.proofs.lemmas.List.Sums.{sum-map, sum_by-append, sum_by-cons}
use Rattle.emu_laws.proofs.Types.{Packet, PipeConfig, QueueLimit, Slots, KBytes, Lost, Full}
use Rattle.emu_model.specs.DropTail.{Queued, bytes_of, accepts}
use Rattle.emu_model.specs.Codel.{Dequeued}
use Rattle.emu_model.specs.Pipes.{InService, Instance, After, dequeue, period_with, serve_next, no_drop, drop_one, enqueue, accept, drawn_one, instance_arrive, send_off, cut_service}
use Rattle.emu_model.specs.ComponentLaws.{IsWithin}
use Rattle.emu_model.specs.Alone.{alone}
use Rattle.emu_model.proofs.CallerLemmas.{dequeue-cut}
use Rattle.emu_laws.proofs.EachOf.{either, each_weaker, of_choice}
use Rattle.emu_laws.proofs.PipesKept.{InstanceKeeps, Each, alone-pipes}
use Rattle.emu_laws.proofs.FlowsKept.{Anything, anything}
use Rattle.emu_laws.specs.NeverIdle.{IsWorkConserving, NeverIdle}
use Rattle.emu_laws.specs.QueueBound.{IsAtMost, LimitsPipe, QueuesAreBounded}

-- an option put through f is none where it is none
none_of : {A B : Type 0} (f : A → B) (o : Option A) → option_map f o ≡ None → o ≡ None
none_of f None e = refl
none_of f (Some a) e = absurd (cc e)

-- once the next is taken, or none was there
next-busy : (config : PipeConfig) (now : ℕ) (i : Instance) → IsWorkConserving (serve_next config now i).state
next-busy config now i e =
    let d : Dequeued Packet = dequeue config.discipline now i.control i.waiting in
    (dequeue-cut config.discipline now i.control i.waiting).last
    (none_of (λ w. record { item = w.item; period = period_with config.bw now w.size i.service }) d.given e)

some_served : (o : Option (InService Packet)) → is_some o ≡ true → o ≡ None → ⊥
some_served None e g = cc e
some_served (Some s) e g = cc g

arrive-busy : (config : PipeConfig) (now : ℕ) (p : Packet) (lost : Bool) (i : Instance) → IsWorkConserving i →
    IsWorkConserving (instance_arrive config now p lost i).state
arrive-busy config now p lost i h =
    either P lost (drop_one i p Lost)
    (if accepts config.queue i.waiting p.size then accept config now p i else drop_one i p Full) h
    (either P (accepts config.queue i.waiting p.size) (accept config now p i) (drop_one i p Full)
    (of_choice P (is_some i.service) (no_drop (enqueue now p i)) (serve_next config now (enqueue now p i))
    (λ s e. absurd (some_served i.service s e)) (λ s. next-busy config now (enqueue now p i))) h)
  where
    P : After Instance → Type 0
    P a = IsWorkConserving a.state

busy-kept : InstanceKeeps Anything (λ k config. Unit {0}) (λ k config i. IsWorkConserving i)
busy-kept = record {
  config = λ k config ok. tt;
  opened = λ k config id e. refl;
  arrived = λ k config now packet lost i c h. arrive-busy config now packet lost (drawn_one i) h;
  finished = λ k config now i c h. next-busy config now (record i { line = send_off config now i.service i.line });
  left = λ k config i h. h;
  configured = λ k old new i h e. h (none_of cut_service i.service e);
}

pub never_idle : NeverIdle
never_idle spec c n =
    each_weaker (Each Anything (λ k config. Unit {0}) (λ k config i. IsWorkConserving i) busy-kept) _ (λ p h. h.instances)
    (alone spec c n).net.pipes
    (alone-pipes Anything (λ k config. Unit {0}) (λ k config i. IsWorkConserving i) busy-kept spec c n (anything c))

pub bytes-append : (xs ys : List (Queued Packet)) → bytes_of (xs ++ ys) ≡ bytes_of xs + bytes_of ys
bytes-append xs ys =
    sum-map (λ w. w.size) (xs ++ ys) ∙ sum_by-append (λ w. w.size) xs ys
    ∙ omega (arith, sum-map (λ (w : Queued Packet). w.size) xs, sum-map (λ (w : Queued Packet). w.size) ys)

pub bytes-one : (w : Queued Packet) → bytes_of (w ∷ []) ≡ w.size
bytes-one w = sum-map (λ v. v.size) (w ∷ []) ∙ sum_by-cons (λ v. v.size) w [] ∙ omega arith

-- one that is accepted is within a limit that is no less
accepted : (queue limit : QueueLimit) (ws : List (Queued Packet)) (w : Queued Packet) → IsAtMost queue limit →
    accepts queue ws w.size ≡ true → IsWithin limit (ws ++ w ∷ [])
accepted (Slots m) (Slots n) ws w h e =
    omega (arith, h, ltb-true (length ws) m e, length-append ws (w ∷ []))
accepted (KBytes m) (KBytes n) ws w h e =
    omega (arith, h, leb-true (bytes_of ws + w.size) (1024 * m) e, bytes-append ws (w ∷ []), bytes-one w)
accepted (Slots m) (KBytes n) ws w h e = absurd h
accepted (KBytes m) (Slots n) ws w h e = absurd h

-- what is left of what waits is within it
fewer-within : (limit : QueueLimit) (xs ys : List (Queued Packet)) → IsWithin limit (xs ++ ys) → IsWithin limit ys
fewer-within (Slots n) xs ys h = omega (arith, h, length-append xs ys)
fewer-within (KBytes n) xs ys h = omega (arith, h, bytes-append xs ys)

none-within : (limit : QueueLimit) → IsWithin limit []
none-within (Slots n) = omega arith
none-within (KBytes n) = omega arith

next-within : (limit : QueueLimit) (config : PipeConfig) (now : ℕ) (i : Instance) → IsWithin limit i.waiting →
    IsWithin limit (serve_next config now i).state.waiting
next-within limit config now i h =
    let d : Dequeued Packet = dequeue config.discipline now i.control i.waiting in
    let whole : i.waiting ≡ d.dropped ++ (option_to_list d.given ++ d.rest) =
    (dequeue-cut config.discipline now i.control i.waiting).whole in
    fewer-within limit (option_to_list d.given) d.rest
    (fewer-within limit d.dropped (option_to_list d.given ++ d.rest) (subst (IsWithin limit) whole h))

arrive-within : (limit : QueueLimit) (config : PipeConfig) (now : ℕ) (p : Packet) (lost : Bool) (i : Instance) →
    IsAtMost config.queue limit → IsWithin limit i.waiting →
    IsWithin limit (instance_arrive config now p lost i).state.waiting
arrive-within limit config now p lost i c h =
    either P lost (drop_one i p Lost)
    (if accepts config.queue i.waiting p.size then accept config now p i else drop_one i p Full) h
    (of_choice P (accepts config.queue i.waiting p.size) (accept config now p i) (drop_one i p Full)
    (λ e. taken (accepted config.queue limit i.waiting (record { item = p; size = p.size; stamp = now }) c e)) (λ e. h))
  where
    P : After Instance → Type 0
    P a = IsWithin limit a.state.waiting

    taken : IsWithin limit (enqueue now p i).waiting → P (accept config now p i)
    taken q =
        either P (is_some i.service) (no_drop (enqueue now p i)) (serve_next config now (enqueue now p i)) q
        (next-within limit config now (enqueue now p i) q)

module _ (pipe : ℕ) (limit : QueueLimit) where
  abbrev Limited : ℕ → PipeConfig → Type 0
  Limited k config = k ≡ pipe → IsAtMost config.queue limit

  abbrev Within : ℕ → PipeConfig → Instance → Type 0
  Within k config i = k ≡ pipe → IsWithin limit i.waiting

  within-kept : InstanceKeeps (LimitsPipe pipe limit) Limited Within
  within-kept = record {
    config = λ k config ok. ok;
    opened = λ k config id e. none-within limit;
    arrived = λ k config now packet lost i c h e.
        arrive-within limit config now packet lost (drawn_one i) (c e) (h e);
    finished = λ k config now i c h e.
        next-within limit config now (record i { line = send_off config now i.service i.line }) (h e);
    left = λ k config i h. h;
    configured = λ k old new i h. h;
  }

pub queues_are_bounded : QueuesAreBounded
queues_are_bounded spec c n pipe limit ok =
    each_weaker (Each (LimitsPipe pipe limit) (Limited pipe limit) (Within pipe limit) (within-kept pipe limit)) _
    (λ p h e. each_weaker (Within pipe limit p.number p.config) (λ i. IsWithin limit i.waiting) (λ i q. q e) p.instances h.instances)
    (alone spec c n).net.pipes
    (alone-pipes (LimitsPipe pipe limit) (Limited pipe limit) (Within pipe limit) (within-kept pipe limit) spec c n ok)
