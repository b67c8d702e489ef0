-- A packet that comes where one is in service changes nothing of what is due.
use Rattle.std.proofs.Common.{◌≡◌, ℕ, ◌+◌, ◌*◌, Bool, true, false, refl, sym, ap, ◌∙◌, List, map, get_or, set, Option, Some}
use Rattle.std.specs.Prelude.{if◌then◌else◌, is_some, option_map, option_and_then, slice_get}
use Rattle.std.proofs.lemmas.Option.{slice_get-map}
use Rattle.emu_model.specs.declared.packets.Packet.{Packet}
use Rattle.emu_model.specs.declared.pipes.PipeConfig.{PipeConfig}
use Rattle.emu_model.specs.declared.records.DropCause.{DropCause}
use Rattle.emu_model.specs.declared.records.DropCause.TheVariants.{Full}
use Rattle.emu_model.specs.declared.sources.Due.{Due}
use Rattle.emu_model.specs.declared.sources.Class.TheVariants.{Exit, Finish}
use Rattle.emu_model.specs.Delay.{first_exit}
use Rattle.emu_model.specs.DropTail.{accepts}
use Rattle.emu_model.specs.Dues.{due}
use Rattle.emu_model.specs.Loss.{is_lost}
use Rattle.emu_model.specs.Pipes.{Instance, After, no_drop, drop_one, drawn_one, enqueue, serve_next, accept, instance_arrive}
use Rattle.due_index.specs.Least.{lesser}
use Rattle.due_index.specs.Places.{Places}
use Rattle.packet_store.specs.Pocket.{Pocket}
use Rattle.pipe_core.specs.declared.slot.Slot.{Slot}
use Rattle.pipe_core.specs.Moves.{packet_at}
use Rattle.pipe_core.specs.Keyed.{KeyedPipe, seen_slot, AreSlots}
use Rattle.pipe_core.specs.Steps.{Arrives}
use Rattle.pipe_core.specs.Leaves.{instance_number, slot_due, AreLeaves, pipe_due}
use Rattle.pipe_core.proofs.PipeFacts.{first_exit-seen, finish-seen, is_some-seen}
use Rattle.pipe_core.proofs.InstancePlaces.{IsPlace, seen_at, get_at}
use Rattle.pipe_core.proofs.DueLeaves.{leaves_same, pipe_least}

abbrev KeepsMoving : Instance → Instance → Type 0
KeepsMoving i j = (j.line ≡ i.line) × (j.service ≡ i.service)

arrive-busy : (config : PipeConfig) (now : ℕ) (p : Packet) (lost : Bool) (i : Instance) → is_some i.service ≡ true →
    KeepsMoving i (instance_arrive config now p lost i).state
arrive-busy config now p true i busy = (refl, refl)
arrive-busy config now p false i busy = go (accepts config.queue i.waiting p.size)
  where
    go : (b : Bool) → KeepsMoving i (if b then accept config now p i else drop_one i p Full).state
    go true = (
      ap (λ t. (if t then no_drop (enqueue now p i) else serve_next config now (enqueue now p i)).state.line) busy,
      ap (λ t. (if t then no_drop (enqueue now p i) else serve_next config now (enqueue now p i)).state.service) busy,
    )
    go false = (refl, refl)

-- what is due of an instance, by when it exits and finishes
abbrev due_by : ℕ → Option ℕ → Option ℕ → Option Due
due_by number exit finish =
    lesser (option_map (due Exit number) exit) (option_map (due Finish number) finish)

pub due-busy : (config : PipeConfig) (now : ℕ) (packet : Packet) (answer : Option DropCause) (p q : Pocket) (x y : Slot) →
    is_some x.instance.service.busy ≡ true → Arrives config now packet answer p q x y → slot_due y ≡ slot_due x
due-busy config now packet answer p q x y busy came =
    let f : ℕ → Packet = packet_at q.find in
    let d = x.instance.draws in
    let lost : Bool = is_lost d.seed d.pipe d.instance d.drawn config.plr in
    let kept = arrive-busy config now packet lost (drawn_one (seen_slot f x)) (is_some-seen f x.instance.service.busy ∙ busy) in
    let line : (seen_slot f y).line ≡ (seen_slot f x).line = sym (ap (λ (a : After Instance). a.state.line) came.shown) ∙ kept.0 in
    let service : (seen_slot f y).service ≡ (seen_slot f x).service = sym (ap (λ (a : After Instance). a.state.service) came.shown) ∙ kept.1 in
    let number : instance_number y ≡ instance_number x = λ t. came.place.pipe t * 256 + came.place.number t in
    let exit : first_exit y.instance.delay_line.line.in_flight ≡ first_exit x.instance.delay_line.line.in_flight =
    sym (first_exit-seen f y.instance.delay_line.line.in_flight) ∙ ap (λ l. first_exit l.in_flight) line ∙ first_exit-seen f x.instance.delay_line.line.in_flight in
    let finish : option_map (λ b. b.period.finish) y.instance.service.busy ≡ option_map (λ b. b.period.finish) x.instance.service.busy =
    sym (finish-seen f y.instance.service.busy) ∙ ap (option_map (λ s. s.period.finish)) service ∙ finish-seen f x.instance.service.busy in
    λ t. due_by (number t) (exit t) (finish t)

-- the service of an instance, as the pipe shows it
pub busy-at : (k : ℕ) (slots : List Slot) (x : Slot) → IsPlace k slots x → (f : ℕ → Packet) →
    is_some (option_and_then (λ (i : Instance). i.service) (slice_get (map (seen_slot f) slots) k)) ≡ is_some x.instance.service.busy
busy-at k slots x at f =
    ap (λ o. is_some (option_and_then (λ (i : Instance). i.service) o)) (seen_at k slots x at f) ∙ is_some-seen f x.instance.service.busy

-- so is the pipe's
pub pipe-same : (f : ℕ → Packet) (old new : KeyedPipe) (k : ℕ) (x y : Slot) → new ≡ record old { slots = set old.slots k y } →
    x ≡ get_or old.slots k x → AreSlots old.config old.seed old.number 0 old.slots → AreSlots old.config old.seed old.number 0 (set old.slots k y) →
    slot_due y ≡ slot_due x → pipe_due f new ≡ pipe_due f old
pipe-same f old new k x y is at a b same =
    let leaves : Places = record { leaves = map slot_due old.slots; spare = 0 } in
    ap (pipe_due f) is
    ∙ sym (pipe_least f (record old { slots = set old.slots k y }) leaves b (leaves_same old.slots k x y leaves at same refl))
    ∙ pipe_least f old leaves a refl

-- what is due there stands there
pub leaf_there : (slots : List Slot) (x : Places) (k : ℕ) (a b : Slot) → IsPlace k slots a → AreLeaves slots x →
    slot_due b ≡ slot_due a → slice_get x.leaves k ≡ Some (slot_due b)
leaf_there slots x k a b at h same =
    ap (λ l. slice_get l k) h ∙ slice_get-map slot_due slots k ∙ ap (option_map slot_due) (get_at k slots a at)
    ∙ ap (λ d. Some d) (sym same)
