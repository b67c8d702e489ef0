-- A packet that comes to an instance.
use Rattle.std.proofs.Common.{◌≡◌, ℕ, ◌+◌, Bool, true, false, refl, sym, ap, ◌∙◌, subst, List, map, Some, None}
use Rattle.std.specs.Prelude.{min, ◌-◌, ◌^◌, ◌*◌, nat_lt, nat_le, if◌then◌else◌, unwrap_or}
use Rattle.pipe_core.specs.Uses.{total}
use Rattle.std.proofs.lemmas.List.{length-map}
use Rattle.emu_model.specs.declared.packets.Packet.{Packet}
use Rattle.emu_model.specs.declared.pipes.PipeConfig.{PipeConfig}
use Rattle.emu_model.specs.declared.pipes.QueueLimit.{QueueLimit}
use Rattle.emu_model.specs.declared.pipes.QueueLimit.TheVariants.{Slots, KBytes}
use Rattle.emu_model.specs.declared.records.DropCause.TheVariants.{Lost, Full}
use Rattle.emu_model.specs.FlowIds.{FlowId}
use Rattle.emu_model.specs.Loss.{is_lost}
use Rattle.emu_model.specs.DropTail.{Queued, accepts}
use Rattle.emu_model.specs.Pipes.{Instance, After, accept, drop_one, drawn_one, instance_arrive}
use Rattle.packet_store.specs.Pocket.{Pocket, with_packet}
use Rattle.pipe_core.specs.KeyedInstance.{KeyedInstance, seen_waiting, seen_instance, keys_in, IsTuned}
use Rattle.pipe_core.specs.Turns.{IsAccept}
use Rattle.pipe_core.proofs.Dequeues.{bytes-seen}
use Rattle.pipe_core.specs.declared.slot.Slot.{Slot}
use Rattle.pipe_core.specs.Moves.{some_packet, packet_at}
use Rattle.pipe_core.specs.Keyed.{seen_slot}
use Rattle.pipe_core.specs.Steps.{Arrives, IsSamePlace}
use Rattle.pipe_core.proofs.KeyMoves.{Keeps-put, Keeps-same, stays-put, at_same}

-- with one loss word drawn more
abbrev pub drawn_more : KeyedInstance → KeyedInstance
drawn_more i = record i { draws = record i.draws { drawn = min (i.draws.drawn + 1) (2 ^ 128 - 1) } }

accepts-seen : (f : ℕ → Packet) (limit : QueueLimit) (ws : List (Queued ℕ)) (size : ℕ) →
    accepts limit (map (seen_waiting f) ws) size ≡ accepts limit ws size
accepts-seen f (Slots n) ws size = ap (λ m. nat_lt m n) (length-map ws (seen_waiting f))
accepts-seen f (KBytes n) ws size = ap (λ m. nat_le (m + size) (1024 * n)) (bytes-seen f ws)

abbrev pub word : PipeConfig → KeyedInstance → Bool
word config i = is_lost i.draws.seed i.draws.pipe i.draws.instance i.draws.drawn config.plr

abbrev slot : FlowId → KeyedInstance → Slot
slot id i = record { id = id; instance = i }

drawn-place : (id : FlowId) (i : KeyedInstance) → IsSamePlace (slot id i) (slot id (drawn_more i))
drawn-place id i = record { id = refl; limit = refl; discipline = refl; bw = refl; seed = refl; pipe = refl; number = refl }

pub arrive-lost : (config : PipeConfig) (now : ℕ) (packet : Packet) (p : Pocket) (id : FlowId) (i j : KeyedInstance) (lost : Bool) →
    lost ≡ word config i → lost ≡ true → j ≡ drawn_more i → Arrives config now packet (Some Lost) p p (slot id i) (slot id j)
arrive-lost config now packet p id i j lost is hit e =
    subst (λ n. Arrives config now packet (Some Lost) p p (slot id i) (slot id n)) (sym e) (record {
      shown = ap (λ b. instance_arrive config now packet b (drawn_one (seen_slot (packet_at p.find) (slot id i)))) (sym is ∙ hit);
      keys = Keeps-same p (keys_in i) (keys_in i) refl;
      stays = λ k some. refl;
      place = drawn-place id i;
    })

-- what the limit says of the packet, as the definition asks it
admits : (config : PipeConfig) (f : ℕ → Packet) (i : KeyedInstance) (size : ℕ) → IsTuned config i →
    accepts config.queue (map (seen_waiting f) i.queue.waiting) size ≡ accepts i.queue.limit i.queue.waiting size
admits config f i size tuned =
    ap (λ l. accepts l (map (seen_waiting f) i.queue.waiting) size) (sym tuned.limit)
    ∙ accepts-seen f i.queue.limit i.queue.waiting size

-- the arrival, by what its word and the limit say
unfoldable arrive_by : PipeConfig → ℕ → Packet → Instance → Bool → Bool → After Instance
arrive_by config now packet i lost room =
    if lost then drop_one i packet Lost
    else (if room then accept config now packet i else drop_one i packet Full)

pub arrive-full : (config : PipeConfig) (now : ℕ) (packet : Packet) (p : Pocket) (id : FlowId) (i j : KeyedInstance) (lost room : Bool) →
    lost ≡ word config i → lost ≡ false → j ≡ drawn_more i → IsTuned config i →
    room ≡ accepts j.queue.limit j.queue.waiting packet.size → room ≡ false →
    Arrives config now packet (Some Full) p p (slot id i) (slot id j)
unfolding arrive_by
arrive-full config now packet p id i j lost room is missed e tuned says none =
    subst (λ n. Arrives config now packet (Some Full) p p (slot id i) (slot id n)) (sym e) (record {
      shown =
          (λ k. arrive_by config now packet (drawn_one (seen_slot (packet_at p.find) (slot id i))) ((sym is ∙ missed) k)
          ((admits config (packet_at p.find) i packet.size tuned
          ∙ ap (λ (m : KeyedInstance). accepts m.queue.limit m.queue.waiting packet.size) (sym e) ∙ sym says ∙ none) k));
      keys = Keeps-same p (keys_in i) (keys_in i) refl;
      stays = λ k some. refl;
      place = drawn-place id i;
    })

named_so : (p q : Pocket) (key : ℕ) (packet : Packet) → q ≡ with_packet p key packet → packet_at q.find key ≡ packet
named_so p q key packet put =
    ap (λ (r : Pocket). packet_at r.find key) put
    ∙ ap (λ o. unwrap_or o some_packet) (at_same key (Some packet) (p.find key))

pub arrive-in : (config : PipeConfig) (now : ℕ) (packet : Packet) (p q : Pocket) (id : FlowId) (i j l : KeyedInstance) (lost room : Bool) (key : ℕ) →
    lost ≡ word config i → lost ≡ false → j ≡ drawn_more i → IsTuned config i →
    room ≡ accepts j.queue.limit j.queue.waiting packet.size → room ≡ true →
    p.find key ≡ None → q ≡ with_packet p key packet → IsAccept now key packet.size j l →
    Arrives config now packet None p q (slot id i) (slot id l)
unfolding arrive_by
arrive-in config now packet p q id i j l lost room key is missed e tuned says some none put came =
    let f : ℕ → Packet = packet_at q.find in
    let named : f key ≡ packet = named_so p q key packet put in
    let tuned_too : IsTuned config j = subst (IsTuned config) (sym e) (record { limit = tuned.limit; discipline = tuned.discipline; bw = tuned.bw }) in
    let setting = came.setting in
    record {
      shown =
          (λ t. arrive_by config now packet (drawn_one (seen_slot f (slot id i))) ((sym is ∙ missed) t)
          ((admits config f i packet.size tuned
          ∙ ap (λ (m : KeyedInstance). accepts m.queue.limit m.queue.waiting packet.size) (sym e) ∙ sym says ∙ some) t))
          ∙ (λ t. accept config now (sym named t) (seen_instance f id (sym e t)))
          ∙ came.shown f id config tuned_too (ap (λ (r : Packet). r.size) named);
      keys = Keeps-put p q key packet (keys_in i) (keys_in l) none put
          (λ g. came.keys g ∙ ap (λ m. g key + total g (keys_in m)) e);
      stays = stays-put p q key packet none put;
      place = record {
        id = refl;
        limit = setting.limit ∙ ap (λ (m : KeyedInstance). m.queue.limit) e;
        discipline = setting.discipline ∙ ap (λ (m : KeyedInstance). m.queue.discipline) e;
        bw = setting.bw ∙ ap (λ (m : KeyedInstance). m.service.bw) e;
        seed = ap (λ d. d.seed) setting.draws ∙ ap (λ (m : KeyedInstance). m.draws.seed) e;
        pipe = ap (λ d. d.pipe) setting.draws ∙ ap (λ (m : KeyedInstance). m.draws.pipe) e;
        number = ap (λ d. d.instance) setting.draws ∙ ap (λ (m : KeyedInstance). m.draws.instance) e;
      };
    }
