-- What an instance does to its keys shows what the definitions do to their packets.
use Rattle.std.proofs.Common.{◌≡◌, ℕ, ◌+◌, ◌<◌, ◌∙◌, ap, sym, refl, Option, Some, None, List, [], ◌∷◌, ◌++◌, map, subst, arith}
use Rattle.std.specs.Prelude.{true, false, is_some, option_map, option_to_list}
use Rattle.std.proofs.lemmas.List.{map-append}
use Rattle.emu_model.specs.Moments.{milliseconds}
use Rattle.emu_model.specs.declared.packets.Packet.{Packet}
use Rattle.emu_model.specs.declared.pipes.PipeConfig.{PipeConfig}
use Rattle.emu_model.specs.FlowIds.{FlowId}
use Rattle.emu_model.specs.DropTail.{Queued}
use Rattle.emu_model.specs.Codel.{Dequeued}
use Rattle.emu_model.proofs.CodelParts.{give_head}
use Rattle.emu_model.specs.Rate.{begin}
use Rattle.emu_model.specs.Delay.{Line, InFlight, enter, exit_after}
use Rattle.emu_model.specs.Pipes.{InService, Instance, After, dequeue, period_with, codel_drops, no_drop, accept, send_off, instance_finish, cut_service, instance_configure}
use Rattle.queue_disc.specs.Queues.{put_last, passed}
use Rattle.pipe_core.specs.KeyedInstance.{KeyedQueue, KeyedInstance, seen_waiting, seen_leaving, seen_line, seen_service, seen_instance, keys_in, IsTuned, IsSameSetting}
use Rattle.pipe_core.specs.Serving.{next_service, after_service}
use Rattle.pipe_core.specs.Turns.{configured, IsAccept, IsFinish}
use Rattle.pipe_core.specs.Uses.{total, uses, one_at}
use Rattle.pipe_core.proofs.UseCounts.{total-nil, total-append, total-one, total-three, one_at-same, map-agree}
use Rattle.emu_model.proofs.CallerLemmas.{IsCut, dequeue-cut, lone_dequeue}
use Rattle.pipe_core.proofs.Dequeues.{seen_dequeued, dequeue-seen}

-- a key that was accepted, by what is in service
abbrev accepted_by : ℕ → ℕ → ℕ → KeyedInstance → Option (InService ℕ) → KeyedInstance
accepted_by now key size i (Some s) = record i { queue = put_last now key size i.queue }
accepted_by now key size i None = record i {
  queue = passed now i.queue;
  service = record i.service {
    busy = Some (record { item = key; period = begin i.service.bw now size });
  };
}

abbrev accepted : ℕ → ℕ → ℕ → KeyedInstance → KeyedInstance
accepted now key size i = accepted_by now key size i i.service.busy

abbrev with_busy : KeyedInstance → Option (InService ℕ) → KeyedInstance
with_busy i busy = record i { service = record i.service { busy = busy } }

waiting-put : (f : ℕ → Packet) (now key size : ℕ) (ws : List (Queued ℕ)) → (f key).size ≡ size →
    map (seen_waiting f) ws ++ record { item = f key; size = (f key).size; stamp = now } ∷ []
    ≡ map (seen_waiting f) (ws ++ record { item = key; size = size; stamp = now } ∷ [])
waiting-put f now key size ws is =
    (λ j. map (seen_waiting f) ws ++ record { item = f key; size = is j; stamp = now } ∷ [])
    ∙ sym (map-append (seen_waiting f) ws (record { item = key; size = size; stamp = now } ∷ []))

-- the state after a dequeue by the server, over packets
abbrev after_dequeue : ℕ → ℕ → Instance → Option (InService Packet) → Line Packet → Dequeued Packet → After Instance
after_dequeue bw now i served line d = record {
  state = record i {
    waiting = d.rest;
    control = d.control;
    service = option_map (λ w. record {
      item = w.item;
      period = period_with bw now w.size served;
    }) d.given;
    line = line;
  };
  dropped = codel_drops d.dropped;
}

accept-by : (f : ℕ → Packet) (id : FlowId) (config : PipeConfig) (now key size : ℕ) (i : KeyedInstance) (busy : Option (InService ℕ)) →
    IsTuned config i → (f key).size ≡ size → (busy ≡ None → i.queue.waiting ≡ []) →
    accept config now (f key) (seen_instance f id (with_busy i busy))
    ≡ no_drop (seen_instance f id (accepted now key size (with_busy i busy)))
accept-by f id config now key size i (Some s) tuned is idle =
    λ j. no_drop (record (seen_instance f id (with_busy i (Some s))) { waiting = waiting-put f now key size i.queue.waiting is j })
accept-by f id config now key size i None tuned is idle =
    let none : i.queue.waiting ≡ [] = idle refl in
    let shown : Instance = seen_instance f id (with_busy i None) in
    let w : Queued Packet = record { item = f key; size = size; stamp = now } in
    let d : dequeue config.discipline now i.queue.control (map (seen_waiting f) i.queue.waiting ++ record { item = f key; size = (f key).size; stamp = now } ∷ [])
    ≡ give_head (dequeue {A = ℕ} i.queue.discipline now i.queue.control []).control w [] =
    (λ j. dequeue (sym tuned.discipline j) now i.queue.control (map (seen_waiting f) (none j) ++ record { item = f key; size = is j; stamp = now } ∷ []))
    ∙ lone_dequeue i.queue.discipline now i.queue.control w in
    (λ j. after_dequeue (sym tuned.bw j) now shown None shown.line (d j))
    ∙ (λ j. no_drop (record (seen_instance f id (accepted now key size (with_busy i None))) { waiting = map (seen_waiting f) (sym none j) }))

accept-shown : (f : ℕ → Packet) (id : FlowId) (config : PipeConfig) (now key size : ℕ) (i : KeyedInstance) →
    IsTuned config i → (f key).size ≡ size → (i.service.busy ≡ None → i.queue.waiting ≡ []) →
    accept config now (f key) (seen_instance f id i)
    ≡ no_drop (seen_instance f id (accepted now key size i))
accept-shown f id config now key size i = accept-by f id config now key size i i.service.busy

items-put : {A : Type 0} (ws : List (Queued A)) (w : Queued A) → map (λ v. v.item) (ws ++ w ∷ []) ≡ map (λ v. v.item) ws ++ w.item ∷ []
items-put ws w = map-append (λ v. v.item) ws (w ∷ [])

accept-keys-by : (g : ℕ → ℕ) (now key size : ℕ) (i : KeyedInstance) (busy : Option (InService ℕ)) →
    total g (keys_in (accepted now key size (with_busy i busy))) ≡ g key + total g (keys_in (with_busy i busy))
accept-keys-by g now key size i (Some s) =
    let line : List ℕ = map (λ x. x.item) i.delay_line.line.in_flight in
    let ws : List ℕ = map (λ w. w.item) i.queue.waiting in
    omega (
      arith,
      total-three g line (s.item ∷ []) (map (λ w. w.item) (i.queue.waiting ++ record { item = key; size = size; stamp = now } ∷ [])),
      total-three g line (s.item ∷ []) ws,
      ap (total g) (items-put i.queue.waiting (record { item = key; size = size; stamp = now })),
      total-append g ws (key ∷ []),
      total-one g key,
    )
accept-keys-by g now key size i None =
    let line : List ℕ = map (λ x. x.item) i.delay_line.line.in_flight in
    let ws : List ℕ = map (λ w. w.item) i.queue.waiting in
    omega (arith, total-three g line (key ∷ []) ws, total-three g line [] ws, total-one g key, total-nil g)

accept-keys : (g : ℕ → ℕ) (now key size : ℕ) (i : KeyedInstance) →
    total g (keys_in (accepted now key size i)) ≡ g key + total g (keys_in i)
accept-keys g now key size i = accept-keys-by g now key size i i.service.busy

accept-setting-by : (now key size : ℕ) (i : KeyedInstance) (busy : Option (InService ℕ)) →
    IsSameSetting (with_busy i busy) (accepted now key size (with_busy i busy))
accept-setting-by now key size i (Some s) = record { limit = refl; discipline = refl; bw = refl; draws = refl }
accept-setting-by now key size i None = record { limit = refl; discipline = refl; bw = refl; draws = refl }

accept-setting : (now key size : ℕ) (i : KeyedInstance) → IsSameSetting i (accepted now key size i)
accept-setting now key size i = accept-setting-by now key size i i.service.busy

accept-room-by : (now key size : ℕ) (i : KeyedInstance) (busy : Option (InService ℕ)) →
    (accepted_by now key size i busy).queue.capacity ≡ i.queue.capacity
accept-room-by now key size i (Some s) = refl
accept-room-by now key size i None = refl

accept-spare-by : (now key size : ℕ) (i : KeyedInstance) (busy : Option (InService ℕ)) →
    (accepted_by now key size i busy).delay_line.spare ≡ i.delay_line.spare
accept-spare-by now key size i (Some s) = refl
accept-spare-by now key size i None = refl

accept-is : (now key size : ℕ) (old new : KeyedInstance) → (old.service.busy ≡ None → old.queue.waiting ≡ []) →
    new ≡ accepted now key size old → IsAccept now key size old new
accept-is now key size old new idle e =
    subst (IsAccept now key size old) (sym e) (record {
      shown = λ f id config tuned is. accept-shown f id config now key size old tuned is idle;
      keys = λ g. accept-keys g now key size old;
      setting = accept-setting now key size old;
      capacity = accept-room-by now key size old old.service.busy;
      spare = accept-spare-by now key size old old.service.busy;
    })

waits-by : (now key size : ℕ) (i : KeyedInstance) (busy : Option (InService ℕ)) → is_some busy ≡ true →
    record i { queue = put_last now key size i.queue } ≡ accepted_by now key size i busy
waits-by now key size i (Some s) e = refl
waits-by now key size i None e = absurd (cc)

served-by-none : (now key size : ℕ) (i : KeyedInstance) (busy : Option (InService ℕ)) → is_some busy ≡ false →
    accepted_by now key size i None ≡ accepted_by now key size i busy
served-by-none now key size i (Some s) e = absurd (cc)
served-by-none now key size i None e = refl

-- what is accepted waits where the server is busy, and else is served
pub accept-waits : (now key size : ℕ) (old new : KeyedInstance) → (old.service.busy ≡ None → old.queue.waiting ≡ []) →
    is_some old.service.busy ≡ true → new ≡ record old { queue = put_last now key size old.queue } →
    IsAccept now key size old new
accept-waits now key size old new idle busy e =
    accept-is now key size old new idle (e ∙ waits-by now key size old old.service.busy busy)

pub accept-served : (now key size : ℕ) (old new : KeyedInstance) → (old.service.busy ≡ None → old.queue.waiting ≡ []) →
    is_some old.service.busy ≡ false →
    new ≡ record old {
      queue = passed now old.queue;
      service = record old.service {
        busy = Some (record { item = key; period = begin old.service.bw now size });
      };
    } →
    IsAccept now key size old new
accept-served now key size old new idle busy e =
    accept-is now key size old new idle (e ∙ served-by-none now key size old old.service.busy busy)

-- a finish
abbrev pub finished : ℕ → ℕ → ℕ → Dequeued ℕ → ℕ → KeyedInstance → KeyedInstance
finished now delay key d spare i = record i {
  queue = record i.queue { waiting = d.rest; control = d.control };
  service = record i.service { busy = after_service i.service.bw i.service.busy d.given };
  delay_line = record { line = enter key now (milliseconds delay) i.delay_line.line; spare = spare };
}

enter-seen : (f : ℕ → Packet) (key now delay : ℕ) (l : Line ℕ) → enter (f key) now delay (seen_line f l) ≡ seen_line f (enter key now delay l)
enter-seen f key now delay l =
    let exit : ℕ = exit_after l.last now delay in
    λ j. record { in_flight = sym (map-append (seen_leaving f) l.in_flight (record { item = key; exit = exit } ∷ [])) j; last = exit }

service-seen : (f : ℕ → Packet) (bw now : ℕ) (s : InService ℕ) (given : Option (Queued ℕ)) →
    option_map (λ w. record { item = w.item; period = period_with bw now w.size (Some (seen_service f s)) }) (option_map (seen_waiting f) given)
    ≡ option_map (seen_service f) (option_map (next_service bw s) given)
service-seen f bw now s None = refl
service-seen f bw now s (Some w) = refl

finish-shown : (f : ℕ → Packet) (id : FlowId) (config : PipeConfig) (now delay spare : ℕ) (i : KeyedInstance) (s : InService ℕ) (d : Dequeued ℕ) →
    i.service.busy ≡ Some s → d ≡ dequeue i.queue.discipline now i.queue.control i.queue.waiting → IsTuned config i → delay ≡ config.delay →
    instance_finish config now (seen_instance f id i)
    ≡ record { state = seen_instance f id (finished now delay s.item d spare i); dropped = codel_drops (map (seen_waiting f) d.dropped) }
finish-shown f id config now delay spare i s d busy is tuned late =
    let shown : Instance = seen_instance f id i in
    let line : Line ℕ = enter s.item now (milliseconds delay) i.delay_line.line in
    let q : dequeue config.discipline now i.queue.control (map (seen_waiting f) i.queue.waiting) ≡ seen_dequeued f d =
    (λ j. dequeue (sym tuned.discipline j) now i.queue.control (map (seen_waiting f) i.queue.waiting))
    ∙ dequeue-seen f i.queue.discipline now i.queue.control i.queue.waiting ∙ ap (seen_dequeued f) (sym is) in
    (λ j. after_dequeue (sym tuned.bw j) now shown (option_map (seen_service f) (busy j))
    (send_off config now (option_map (seen_service f) (busy j)) shown.line) (q j))
    ∙ (λ j. after_dequeue i.service.bw now shown (Some (seen_service f s)) (enter (f s.item) now (milliseconds (sym late j)) shown.line) (seen_dequeued f d))
    ∙ (λ j. after_dequeue i.service.bw now shown (Some (seen_service f s)) (enter-seen f s.item now (milliseconds delay) i.delay_line.line j) (seen_dequeued f d))
    ∙ (λ j. record {
      state = record shown {
        waiting = map (seen_waiting f) d.rest;
        control = d.control;
        service = service-seen f i.service.bw now s d.given j;
        line = seen_line f line;
      };
      dropped = codel_drops (map (seen_waiting f) d.dropped);
    })
    ∙ (λ j. record {
      state = record shown {
        waiting = map (seen_waiting f) d.rest;
        control = d.control;
        service = option_map (seen_service f) (after_service i.service.bw (sym busy j) d.given);
        line = seen_line f line;
      };
      dropped = codel_drops (map (seen_waiting f) d.dropped);
    })

total-given : (g : ℕ → ℕ) (bw : ℕ) (s : InService ℕ) (given : Option (Queued ℕ)) →
    total g (option_to_list (option_map (λ t. t.item) (option_map (next_service bw s) given)))
    ≡ total g (map (λ w. w.item) (option_to_list given))
total-given g bw s None = refl
total-given g bw s (Some w) = refl

total-cut : (g : ℕ → ℕ) (ws : List (Queued ℕ)) (d : Dequeued ℕ) → IsCut ws d →
    total g (map (λ w. w.item) ws)
    ≡ total g (map (λ w. w.item) d.dropped) + total g (map (λ w. w.item) (option_to_list d.given)) + total g (map (λ w. w.item) d.rest)
total-cut g ws d h =
    omega (
      arith,
      ap (λ vs. total g (map (λ w. w.item) vs)) h.whole,
      ap (total g) (map-append (λ w. w.item) d.dropped (option_to_list d.given ++ d.rest)),
      ap (total g) (map-append (λ w. w.item) (option_to_list d.given) d.rest),
      total-append g (map (λ w. w.item) d.dropped) (map (λ w. w.item) (option_to_list d.given ++ d.rest)),
      total-append g (map (λ w. w.item) (option_to_list d.given)) (map (λ w. w.item) d.rest),
    )

finish-keys : (g : ℕ → ℕ) (now delay spare : ℕ) (i : KeyedInstance) (s : InService ℕ) (d : Dequeued ℕ) →
    i.service.busy ≡ Some s → d ≡ dequeue i.queue.discipline now i.queue.control i.queue.waiting →
    total g (keys_in i) ≡ total g (map (λ w. w.item) d.dropped) + total g (keys_in (finished now delay s.item d spare i))
finish-keys g now delay spare i s d busy is =
    let line : List ℕ = map (λ x. x.item) i.delay_line.line.in_flight in
    let ws : List ℕ = map (λ w. w.item) i.queue.waiting in
    let entered : InFlight ℕ = record { item = s.item; exit = exit_after i.delay_line.line.last now (milliseconds delay) } in
    let cut : IsCut i.queue.waiting d = subst (IsCut i.queue.waiting) (sym is) (dequeue-cut i.queue.discipline now i.queue.control i.queue.waiting) in
    omega (
      arith,
      total-three g line (option_to_list (option_map (λ t. t.item) i.service.busy)) ws,
      ap (λ b. total g (option_to_list (option_map (λ t. t.item) b))) busy,
      total-one g s.item,
      total-three g (map (λ x. x.item) (i.delay_line.line.in_flight ++ entered ∷ [])) (option_to_list (option_map (λ t. t.item) (after_service i.service.bw i.service.busy d.given))) (map (λ w. w.item) d.rest),
      ap (total g) (map-append (λ x. x.item) i.delay_line.line.in_flight (entered ∷ [])),
      total-append g line (s.item ∷ []),
      ap (λ b. total g (option_to_list (option_map (λ t. t.item) (after_service i.service.bw b d.given)))) busy,
      total-given g i.service.bw s d.given,
      total-cut g i.queue.waiting d cut,
    )

pub finish-is : (now delay spare : ℕ) (old new : KeyedInstance) (s : InService ℕ) (d : Dequeued ℕ) →
    old.service.busy ≡ Some s → d ≡ dequeue old.queue.discipline now old.queue.control old.queue.waiting →
    new ≡ finished now delay s.item d spare old → IsFinish now delay s.item d.dropped old new
finish-is now delay spare old new s d busy is e =
    subst (IsFinish now delay s.item d.dropped old) (sym e) (record {
      served = ap (λ b. option_map (λ t. t.item) b) busy;
      dropped_are = ap (λ t. t.dropped) is;
      shown = λ f id config tuned late. finish-shown f id config now delay spare old s d busy is tuned late;
      keys = λ g. finish-keys g now delay spare old s d busy is;
      setting = record { limit = refl; discipline = refl; bw = refl; draws = refl };
    })

cut-seen : (f : ℕ → Packet) (busy : Option (InService ℕ)) → option_map (seen_service f) (option_map cut_service busy) ≡ option_map cut_service (option_map (seen_service f) busy)
cut-seen f None = refl
cut-seen f (Some s) = refl

pub configure-shown : (f : ℕ → Packet) (id : FlowId) (old new : PipeConfig) (i : KeyedInstance) →
    seen_instance f id (configured old new i) ≡ instance_configure old new (seen_instance f id i)
configure-shown f id old new i =
    λ j. record (instance_configure old new (seen_instance f id i)) { service = cut-seen f i.service.busy j }

cut-key : (busy : Option (InService ℕ)) → option_map (λ s. s.item) (option_map cut_service busy) ≡ option_map (λ s. s.item) busy
cut-key None = refl
cut-key (Some s) = refl

pub configure-keys : (old new : PipeConfig) (i : KeyedInstance) → keys_in (configured old new i) ≡ keys_in i
configure-keys old new i =
    ap (λ o. map (λ x. x.item) i.delay_line.line.in_flight ++ option_to_list o ++ map (λ w. w.item) i.queue.waiting) (cut-key i.service.busy)

-- names that agree on an instance's keys show it alike
agree-service : (f g : ℕ → Packet) (busy : Option (InService ℕ)) →
    ((k : ℕ) → 0 < uses k (option_to_list (option_map (λ s. s.item) busy)) → g k ≡ f k) →
    option_map (seen_service g) busy ≡ option_map (seen_service f) busy
agree-service f g None same = refl
agree-service f g (Some s) same =
    λ j. Some (record { item = same s.item (omega (arith, total-one (one_at s.item) s.item, one_at-same s.item)) j; period = s.period })

pub seen_instance-agree : (f g : ℕ → Packet) (id : FlowId) (i : KeyedInstance) →
    ((k : ℕ) → 0 < uses k (keys_in i) → g k ≡ f k) → seen_instance g id i ≡ seen_instance f id i
seen_instance-agree f g id i same =
    let line : List ℕ = map (λ x. x.item) i.delay_line.line.in_flight in
    let served : List ℕ = option_to_list (option_map (λ s. s.item) i.service.busy) in
    let ws : List ℕ = map (λ w. w.item) i.queue.waiting in
    let in_flight : map (seen_leaving g) i.delay_line.line.in_flight ≡ map (seen_leaving f) i.delay_line.line.in_flight =
    map-agree (λ x. x.item) (seen_leaving f) (seen_leaving g) i.delay_line.line.in_flight
    (λ k x within is. λ j. record { item = (ap g is ∙ same k (omega (arith, within, total-three (one_at k) line served ws)) ∙ sym (ap f is)) j; exit = x.exit }) in
    let busy : option_map (seen_service g) i.service.busy ≡ option_map (seen_service f) i.service.busy =
    agree-service f g i.service.busy (λ k within. same k (omega (arith, within, total-three (one_at k) line served ws))) in
    let waiting : map (seen_waiting g) i.queue.waiting ≡ map (seen_waiting f) i.queue.waiting =
    map-agree (λ w. w.item) (seen_waiting f) (seen_waiting g) i.queue.waiting
    (λ k w within is. λ j. record { item = (ap g is ∙ same k (omega (arith, within, total-three (one_at k) line served ws)) ∙ sym (ap f is)) j; size = w.size; stamp = w.stamp }) in
    λ j. record {
      id = id;
      waiting = waiting j;
      control = i.queue.control;
      service = busy j;
      line = record { in_flight = in_flight j; last = i.delay_line.line.last };
      drawn = i.draws.drawn;
    }

-- a finish, from what the calls of its body promise
served-by : (now : ℕ) (key : ℕ) (busy : Option (InService ℕ)) → Some key ≡ option_map (λ s. s.item) busy →
    (s : InService ℕ) × ((busy ≡ Some s) × (key ≡ s.item))
served-by now key None e = absurd (cc)
served-by now key (Some s) e = (s, (refl, cc))

pub finish-by : (now delay key spare : ℕ) (old new : KeyedInstance) (d : Dequeued ℕ) →
    Some key ≡ option_map (λ s. s.item) old.service.busy →
    d ≡ dequeue old.queue.discipline now old.queue.control old.queue.waiting →
    new ≡ finished now delay key d spare old → IsFinish now delay key d.dropped old new
finish-by now delay key spare old new d served is e =
    let at : (s : InService ℕ) × ((old.service.busy ≡ Some s) × (key ≡ s.item)) = served-by now key old.service.busy served in
    subst (λ k. IsFinish now delay k d.dropped old new) (sym at.1.1)
    (finish-is now delay spare old new at.0 d at.1.0 is (e ∙ ap (λ k. finished now delay k d spare old) at.1.1))

-- nothing waits where nothing is served next
pub idle-by : (bw : ℕ) (busy : Option (InService ℕ)) (now key : ℕ) (q : KeyedQueue) (d : Dequeued ℕ) (waiting : List (Queued ℕ)) →
    Some key ≡ option_map (λ s. s.item) busy → d ≡ dequeue q.discipline now q.control q.waiting → waiting ≡ d.rest →
    after_service bw busy d.given ≡ None → waiting ≡ []
idle-by bw None now key q d waiting served is w none = absurd (cc)
idle-by bw (Some s) now key q d waiting served is w none =
    w ∙ (subst (IsCut q.waiting) (sym is) (dequeue-cut q.discipline now q.control q.waiting)).last (no_given d.given none)
  where
    no_given : (given : Option (Queued ℕ)) → option_map (next_service bw s) given ≡ None → given ≡ None
    no_given None e = refl
    no_given (Some w) e = absurd (cc)
