use Rattle.std.proofs.Common.{◌≡◌, length, nat_eq, true, refl, sym, ap, ◌∙◌, position, arith}
use Rattle.std.proofs.lemmas.Bool.Decides.{nat_tests}
use Rattle.std.proofs.lemmas.List.{length-map}
use Rattle.emu_model.specs.FlowIds.{flow_id, same_flow}
use Rattle.pipe_core.specs.declared.slot.Slot.{Slot}
use Rattle.pipe_core.specs.Keyed.{KeyedPipe, ids_of}
use Rattle.pipe_core.proofs.MaskFacts.{only-first}
use Rattle.pipe_core.proofs.pipe.Pipe.has_one.Goals as goal

pub returns-then-self : goal.returns-then-self
returns-then-self c = λ one packet.
    let s = c.self.inside in
    let test : nat_eq c.len.result 1 ≡ true = one in
    let lone : c.len.result ≡ 1 = grind (arith, nat_tests, test) in
    let few : length s.ids.ids ≡ 1 =
    omega (arith, lone, c.len.ensures, s.slots.ok.0, ap length c.self.invariant.0.ids_are, length-map s.slots.items (λ (t : Slot). t.id)) in
    let found = only-first s.unmasked s.config.mask s.ids.ids (flow_id s.config.mask packet) c.self.invariant.2 c.if-self.true few (packet, refl) in
    ap (λ (z : KeyedPipe). position (same_flow (flow_id z.config.mask packet)) (ids_of z.slots)) (sym c.self.view_is)
    ∙ ap (position (same_flow (flow_id s.config.mask packet))) (sym c.self.invariant.0.ids_are) ∙ found
