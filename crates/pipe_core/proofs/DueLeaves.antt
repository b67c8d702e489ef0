-- The index of what instances have due, as they change.
use Rattle.std.proofs.Common.{◌≡◌, ℕ, ◌+◌, ◌*◌, ◌<◌, ◌≤◌, zero, suc, refl, sym, ap, ◌∙◌, List, [], ◌∷◌, ◌++◌, length, map, take, drop, get_or, set, Option, Some, None, arith}
use Rattle.std.specs.Prelude.{option_map, slice_get}
use Rattle.std.proofs.Math.ListN.{get_or-map}
use Rattle.std.proofs.lemmas.Bool.Decides.{nat_tests}
use Rattle.std.proofs.lemmas.List.{append_assoc, map-append, map-set, set-get_or, set_at, drop_more, length-map, length-take-le}
use Rattle.std.proofs.lemmas.List.{take_more}
use Rattle.emu_model.specs.declared.packets.Packet.{Packet}
use Rattle.emu_model.specs.declared.pipes.PipeConfig.{PipeConfig}
use Rattle.emu_model.specs.declared.sources.Due.{Due}
use Rattle.emu_model.specs.declared.sources.Class.TheVariants.{Exit, Finish}
use Rattle.emu_model.specs.Delay.{InFlight, first_exit}
use Rattle.emu_model.specs.Dues.{due, line_dues, service_dues, instances_dues, pipe_dues}
use Rattle.emu_model.specs.FlowIds.{FlowId}
use Rattle.emu_model.specs.Pipes.{InService, Instance, initial_instance}
use Rattle.due_index.specs.Least.{dues_in, least_of, lesser}
use Rattle.due_index.specs.Places.{Places}
use Rattle.due_index.proofs.CallerLemmas.{least_all, least_of-all, least_all-append, least_all-option, least_leaf, least_of-leaf}
use Rattle.pipe_core.specs.KeyedInstance.{KeyedInstance, seen_instance, seen_service}
use Rattle.pipe_core.specs.Blanks.{blank_leaving, blank_service}
use Rattle.pipe_core.specs.declared.slot.Slot.{Slot}
use Rattle.pipe_core.specs.Moves.{some_packet}
use Rattle.pipe_core.specs.Keyed.{KeyedPipe, seen_slot, seen_pipe, IsSlot, AreSlots}
use Rattle.pipe_core.specs.Steps.{IsSamePlace}
use Rattle.pipe_core.specs.Rehousing.{blank_slot}
use Rattle.pipe_core.specs.Leaves.{instance_number, slot_due, AreLeaves, pipe_due}
use Rattle.pipe_core.proofs.PipeFacts.{first_exit-seen, finish-seen}

-- what is due of an instance, by when it exits and finishes
abbrev due_by : ℕ → Option ℕ → Option ℕ → Option Due
due_by number exit finish =
    lesser (option_map (due Exit number) exit) (option_map (due Finish number) finish)

-- an exit comes before a finish at the same time
pub exit_first : (n e f : ℕ) → e ≤ f → lesser (Some (due Exit n e)) (Some (due Finish n f)) ≡ Some (due Exit n e)
exit_first n e f h = grind (arith, nat_tests)

pub finish_first : (n e f : ℕ) → f < e → lesser (Some (due Exit n e)) (Some (due Finish n f)) ≡ Some (due Finish n f)
finish_first n e f h = grind (arith, nat_tests)

pub exit_alone : (o : Option Due) → lesser o None ≡ o
exit_alone None = refl
exit_alone (Some d) = refl

-- an instance was set anew
pub leaves_set : (slots : List Slot) (k : ℕ) (y : Slot) (x z : Places) (d : Option Due) →
    AreLeaves slots x →
    d ≡ slot_due y → z ≡ record x { leaves = set x.leaves k d } → AreLeaves (set slots k y) z
leaves_set slots k y x z d h is e =
    ap (λ (p : Places). p.leaves) e ∙ (λ t. set (h t) k (is t)) ∙ sym (map-set slot_due slots k y)

pub leaves_within : (slots : List Slot) (x : Places) (k : ℕ) → AreLeaves slots x →
    k < length slots → k < length x.leaves
leaves_within slots x k h l = omega (arith, l, ap length h, length-map slots slot_due)

-- an instance changed in nothing that is due
pub leaves_same : (slots : List Slot) (k : ℕ) (x y : Slot) (d : Places) → x ≡ get_or slots k x →
    slot_due y ≡ slot_due x →
    AreLeaves slots d → AreLeaves (set slots k y) d
leaves_same slots k x y d at same h =
    h ∙ sym (map-set slot_due slots k y
    ∙ ap (set (map slot_due slots) k) (same ∙ ap slot_due at ∙ sym (get_or-map slot_due slots k x))
    ∙ set-get_or (map slot_due slots) k (slot_due x))

-- an instance more, to which nothing came
initial_due : (id : FlowId) (i : KeyedInstance) →
    ((f : ℕ → Packet) (id : FlowId) → seen_instance f id i ≡ initial_instance id) →
    slot_due (record { id = id; instance = i }) ≡ None
initial_due id i opening =
    let f : ℕ → Packet = λ k. some_packet in
    let s : Slot = record { id = id; instance = i } in
    let exit : first_exit i.delay_line.line.in_flight ≡ None =
    sym (first_exit-seen f i.delay_line.line.in_flight)
    ∙ ap (λ (j : Instance). first_exit j.line.in_flight) (opening f id) in
    let finish : option_map (λ s. s.period.finish) i.service.busy ≡ None =
    sym (finish-seen f i.service.busy)
    ∙ ap (λ (j : Instance). option_map (λ s. s.period.finish) j.service) (opening f id) in
    (λ t. due_by (instance_number s) (exit t) (finish t))

pub leaves_push : (slots : List Slot) (id : FlowId) (i : KeyedInstance) (x z : Places) (n : ℕ) →
    AreLeaves slots x →
    ((f : ℕ → Packet) (id : FlowId) → seen_instance f id i ≡ initial_instance id) →
    z ≡ record { leaves = x.leaves ++ None ∷ []; spare = n } →
    AreLeaves (slots ++ record { id = id; instance = i } ∷ []) z
leaves_push slots id i x z n h opening e =
    ap (λ (p : Places). p.leaves) e ∙ (λ t. h t ++ sym (initial_due id i opening) t ∷ [])
    ∙ sym (map-append slot_due slots (record { id = id; instance = i } ∷ []))

-- keys have no part in what is due
exit-blank : (in_flight : List (InFlight ℕ)) → first_exit (map blank_leaving in_flight) ≡ first_exit in_flight
exit-blank [] = refl
exit-blank (x ∷ xs) = refl

finish-blank : (busy : Option (InService ℕ)) →
    option_map (λ s. s.period.finish) (option_map blank_service busy)
    ≡ option_map (λ s. s.period.finish) busy
finish-blank None = refl
finish-blank (Some s) = refl

due-blank : (slots : List Slot) → map slot_due (map blank_slot slots) ≡ map slot_due slots
due-blank [] = refl
due-blank (s ∷ ss) = λ t.
    due_by (instance_number s) (exit-blank s.instance.delay_line.line.in_flight t)
    (finish-blank s.instance.service.busy t)
    ∷ due-blank ss t

pub leaves_blank : (slots new : List Slot) (x : Places) →
    map blank_slot new ≡ map blank_slot slots → AreLeaves slots x →
    AreLeaves new x
leaves_blank slots new x blanks h =
    h ∙ sym (due-blank slots) ∙ ap (map slot_due) (sym blanks) ∙ due-blank new

-- the number of an instance, by its place
pub number_at : (config : PipeConfig) (seed number k : ℕ) (x y : Slot) →
    IsSlot config seed number k x → IsSamePlace x y →
    number * 256 + k ≡ instance_number y
number_at config seed number k x y s same =
    λ t. sym (same.pipe ∙ s.pipe_is) t * 256 + sym (same.number ∙ s.number_is) t

pub numbers_at : (config : PipeConfig) (seed number k : ℕ) (slots : List Slot) →
    AreSlots config seed number k slots →
    (i : ℕ) (s : Slot) → slice_get slots i ≡ Some s → number * 256 + (k + i) ≡ instance_number s
unfolding AreSlots
numbers_at config seed number k [] a i s e = absurd (cc e)
numbers_at config seed number k (x ∷ xs) a zero s e =
    let same : x ≡ s = cc e in
    let here : k + 0 ≡ k = omega arith in
    (λ t. number * 256 + here t) ∙ (λ t. sym a.0.pipe_is t * 256 + sym a.0.number_is t)
    ∙ ap instance_number same
numbers_at config seed number k (x ∷ xs) a (suc i) s e =
    let here : k + suc i ≡ (k + 1) + i = omega arith in
    (λ t. number * 256 + here t) ∙ numbers_at config seed number (k + 1) xs a.1 i s e

service-due : (f : ℕ → Packet) (n : ℕ) (busy : Option (InService ℕ)) →
    option_map (λ s. due Finish n s.period.finish) (option_map (seen_service f) busy)
    ≡ option_map (due Finish n) (option_map (λ s. s.period.finish) busy)
service-due f n None = refl
service-due f n (Some s) = refl

-- the least of an instance's dues
instance_least : (f : ℕ → Packet) (n : ℕ) (s : Slot) → n ≡ instance_number s →
    least_all (line_dues n (seen_slot f s).line ++ service_dues n (seen_slot f s)) ≡ slot_due s
instance_least f n s own =
    let i : Instance = seen_slot f s in
    let exit : Option Due = option_map (due Exit n) (first_exit i.line.in_flight) in
    let finish : Option Due = option_map (λ s. due Finish n s.period.finish) i.service in
    let parts : least_all (line_dues n i.line ++ service_dues n i) ≡ lesser exit finish =
    least_all-append (line_dues n i.line) (service_dues n i)
    ∙ (λ t. lesser (least_all-option exit t) (least_all-option finish t)) in
    let shown : lesser exit finish ≡ due_by n (first_exit s.instance.delay_line.line.in_flight)
    (option_map (λ b. b.period.finish) s.instance.service.busy) =
    λ t. lesser (option_map (due Exit n) (first_exit-seen f s.instance.delay_line.line.in_flight t))
    (service-due f n s.instance.service.busy t) in
    parts ∙ shown
    ∙ (λ t. due_by (own t) (first_exit s.instance.delay_line.line.in_flight)
    (option_map (λ b. b.period.finish) s.instance.service.busy))

-- the least of a pipe's dues is that of its instances
instances_least : (f : ℕ → Packet) (config : PipeConfig) (seed number k n : ℕ) (slots : List Slot) →
    AreSlots config seed number k slots → n ≡ number * 256 + k →
    least_all (instances_dues n (map (seen_slot f) slots)) ≡ least_leaf (map slot_due slots)
unfolding AreSlots
instances_least f config seed number k n [] a e = refl
instances_least f config seed number k n (s ∷ ss) a e =
    let i : Instance = seen_slot f s in
    let rest : List Due = instances_dues (n + 1) (map (seen_slot f) ss) in
    let own : n ≡ instance_number s = e ∙ (λ t. sym a.0.pipe_is t * 256 + sym a.0.number_is t) in
    let first : least_all (line_dues n i.line ++ service_dues n i) ≡ slot_due s =
    instance_least f n s own in
    let more : least_all rest ≡ least_leaf (map slot_due ss) =
    instances_least f config seed number (k + 1) (n + 1) ss a.1 (omega arith) in
    least_all-append (line_dues n i.line ++ service_dues n i) rest
    ∙ (λ t. lesser (first t) (more t))

pub pipe_least : (f : ℕ → Packet) (p : KeyedPipe) (x : Places) →
    AreSlots p.config p.seed p.number 0 p.slots →
    AreLeaves p.slots x → least_of (dues_in x.leaves) ≡ pipe_due f p
pipe_least f p x a h =
    least_of-leaf x.leaves ∙ ap least_leaf h
    ∙ sym (instances_least f p.config p.seed p.number 0 (p.number * 256) p.slots a (omega arith))
    ∙ sym (least_of-all (pipe_dues (seen_pipe f p)))

-- places that are set one after the other
pub filled : {X : Type 0} (all from : List X) (i : ℕ) (v : X) → length all ≡ length from →
    i < length from →
    v ≡ get_or all i v → set (take i all ++ drop i from) i v ≡ take (i + 1) all ++ drop (i + 1) from
filled all from i v long within is =
    ap (λ l. set (take i all ++ l) i v) (drop_more from i v within)
    ∙ set_at (take i all) (get_or from i v) (drop (i + 1) from) v i
    (length-take-le i all (omega arith))
    ∙ sym (append_assoc (take i all) (v ∷ []) (drop (i + 1) from))
    ∙ ap (λ l. l ++ drop (i + 1) from) (ap (λ w. take i all ++ w ∷ []) is
    ∙ sym (take_more all i v (omega arith)))
