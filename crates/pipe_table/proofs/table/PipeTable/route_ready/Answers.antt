use Rattle.std.proofs.Common.{◌≡◌, ℕ, ◌<◌, List, length, set, Some, sym, ap, ◌∙◌, subst}
use Rattle.std.specs.Prelude.{slice_get}
use Rattle.emu_model.specs.declared.packets.Packet.{Packet}
use Rattle.pipe_core.specs.Moves.{some_packet}
use Rattle.pipe_core.specs.Keyed.{KeyedPipe}
use Rattle.pipe_table.specs.Table.{Table, HasRoomIn}
use Rattle.pipe_table.specs.Places.{StandsAt}
use Rattle.pipe_table.proofs.At.{sound-at, grown-set, ready-set, pipe-at}
use Rattle.pipe_table.proofs.Indexes.{indexed-shown}
use Rattle.pipe_table.proofs.PlaceFacts.{get-is, get-set, stands-within, led-set, kept-grown, room-there}
use Rattle.std.proofs.Common.{position}
use Rattle.std.specs.Prelude.{unwrap_or, Result, Ok, Err, OnOk, IfOk}
use Rattle.emu_model.specs.FlowIds.{flow_id, same_flow}
use Rattle.pipe_core.specs.declared.pipe.TheConstants.{NO_INSTANCE}
use Rattle.pipe_core.specs.Keyed.{ids_of}
use Rattle.pipe_table.proofs.table.PipeTable.route_ready.Goals as goal

on_ok : {T E A B : Type 0} (r : Result T E) → (A → B) → OnOk r A → OnOk r B
on_ok (Ok t) h a = h a
on_ok (Err e) h a = a

if_ok_by : {T E : Type 0} {P Q : T → Type 0} (r : Result T E) → ((t : T) → P t → Q t) → IfOk r P → IfOk r Q
if_ok_by (Ok t) h a = h t a
if_ok_by (Err e) h a = a

pub invariant_of-self : goal.invariant_of-self
invariant_of-self g c =
    let s = c.self.inside in
    let ps : List KeyedPipe = s.pipes.items in
    let i : ℕ = c.args.place in
    let x : KeyedPipe = c.index_mut.result.now in
    let read = c.index_mut.ensures.value in
    let k : ℕ = c.requires.0 in
    let here : StandsAt k i ps = subst (λ (t : Table). StandsAt k i t.pipes) (sym c.self.view_is) c.requires.1 in
    let within : i < length ps = stands-within k i ps here in (
      sound-at k i ps x here read s.seed c.route_ready.new.self c.self.invariant.0 (ap (λ (p : KeyedPipe). p.seed) c.route_ready.ensures.grown.same) (ap (λ (p : KeyedPipe). p.number) c.route_ready.ensures.grown.same),
      (let f : ℕ → Packet = λ n. some_packet in
          indexed-shown f f ps (set ps i c.route_ready.new.self) s.dues ((grown-set k i ps x here read c.route_ready.new.self c.route_ready.ensures.grown).shown f) c.self.invariant.1),
      led-set ps i x c.route_ready.new.self s.places within read (ap (λ (p : KeyedPipe). p.number) c.route_ready.ensures.grown.same) c.self.invariant.2,
    )

pub returns-clause-grown : goal.returns-clause-grown
returns-clause-grown g c =
    let s = c.self.inside in
    let ps : List KeyedPipe = s.pipes.items in
    let i : ℕ = c.args.place in
    let x : KeyedPipe = c.index_mut.result.now in
    let read = c.index_mut.ensures.value in
    let k : ℕ = c.requires.0 in
    let here : StandsAt k i ps = subst (λ (t : Table). StandsAt k i t.pipes) (sym c.self.view_is) c.requires.1 in
    let within : i < length ps = stands-within k i ps here in
    rw (← c.self.view_is) (grown-set k i ps x here read c.route_ready.new.self c.route_ready.ensures.grown)

pub returns-clause-places : goal.returns-clause-places
returns-clause-places g c =
    let s = c.self.inside in
    let ps : List KeyedPipe = s.pipes.items in
    let i : ℕ = c.args.place in
    let x : KeyedPipe = c.index_mut.result.now in
    let read = c.index_mut.ensures.value in
    let k : ℕ = c.requires.0 in
    let here : StandsAt k i ps = subst (λ (t : Table). StandsAt k i t.pipes) (sym c.self.view_is) c.requires.1 in
    let within : i < length ps = stands-within k i ps here in
    rw (← c.self.view_is) (kept-grown ps (set ps i c.route_ready.new.self) (grown-set k i ps x here read c.route_ready.new.self c.route_ready.ensures.grown))

pub returns-clause-ready : goal.returns-clause-ready
returns-clause-ready g c =
    let s = c.self.inside in
    let ps : List KeyedPipe = s.pipes.items in
    let i : ℕ = c.args.place in
    let x : KeyedPipe = c.index_mut.result.now in
    let read = c.index_mut.ensures.value in
    on_ok c.route_ready.result (λ room k stands.
    let here : StandsAt k i ps = subst (λ (t : Table). StandsAt k i t.pipes) (sym c.self.view_is) stands in
    ready-set k i ps x here read c.route_ready.new.self c.args.packet.now (ap (λ (p : KeyedPipe). p.number) c.route_ready.ensures.grown.same) room) c.route_ready.ensures.ready

pub returns-clause-succeeds : goal.returns-clause-succeeds
returns-clause-succeeds g c = λ k stands room has.
    let s = c.self.inside in
    let ps : List KeyedPipe = s.pipes.items in
    let i : ℕ = c.args.place in
    let x : KeyedPipe = c.index_mut.result.now in
    let read = c.index_mut.ensures.value in
    let here : StandsAt k i ps = subst (λ (t : Table). StandsAt k i t.pipes) (sym c.self.view_is) stands in
    c.route_ready.ensures.succeeds room (subst (λ (t : Table). HasRoomIn k c.args.packet.now t.pipes) (sym c.self.view_is) has x (pipe-at k i ps x here read))

pub returns-clause-place : goal.returns-clause-place
returns-clause-place g c =
    let s = c.self.inside in
    let ps : List KeyedPipe = s.pipes.items in
    let i : ℕ = c.args.place in
    let x : KeyedPipe = c.index_mut.result.now in
    let read = c.index_mut.ensures.value in
    if_ok_by c.route_ready.result (λ j is p there.
    let there_too : slice_get ps i ≡ Some p = ap (λ (t : Table). slice_get t.pipes i) c.self.view_is ∙ there in
    let same : p ≡ x = get-is ps i x p read there_too in
    is ∙ ap (λ (z : KeyedPipe). unwrap_or (position (same_flow (flow_id z.config.mask c.args.packet.now)) (ids_of z.slots)) NO_INSTANCE) (sym same)) c.route_ready.ensures.place

pub returns-clause-known : goal.returns-clause-known
returns-clause-known g c =
    let s = c.self.inside in
    let ps : List KeyedPipe = s.pipes.items in
    let i : ℕ = c.args.place in
    let x : KeyedPipe = c.index_mut.result.now in
    let read = c.index_mut.ensures.value in
    if_ok_by c.route_ready.result (λ j known some k stands.
    let here : StandsAt k i ps = subst (λ (t : Table). StandsAt k i t.pipes) (sym c.self.view_is) stands in
    let within : i < length ps = stands-within k i ps here in
    let y : KeyedPipe = c.route_ready.new.self in
    let h = known some in
    let number : y.number ≡ x.number = ap (λ (p : KeyedPipe). p.number) c.route_ready.ensures.grown.same in (
      record {
        stands = here ∙ sym ((kept-grown ps (set ps i y) (grown-set k i ps x here read y c.route_ready.ensures.grown)).places k);
        pipe = y;
        there = get-set ps i y within;
        inside = h.inside;
        its = h.its;
      },
      room-there (set ps i y) i c.args.packet.now.size j y (get-set ps i y within) h.ready,
    )) c.route_ready.ensures.known
