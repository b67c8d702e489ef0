use Rattle.std.proofs.Common.{◌≡◌, ℕ, ◌<◌, List, length, get_or, set, sym, ap, ◌∙◌, add-one, arith}
use Rattle.pipe_core.specs.declared.slot.Slot.{Slot}
use Rattle.pipe_core.specs.Steps.{configured_slot}
use Rattle.pipe_core.proofs.PipeFacts.{done, done-get, done-more}
use Rattle.pipe_core.proofs.pipe.configure_all.Goals as goal

pub loop-slot-preserved : goal.loop-slot-preserved
loop-slot-preserved c =
    let f : Slot → Slot = configured_slot c.args.old.now c.args.new.now in
    let all : List Slot = c.args.slots.now in
    let i : ℕ = c.loop-slot.slot-index in
    let x : Slot = c.slot-item.result in
    let within : i < length all = omega arith in
    let was : get_or c.loop-slot.slots i x ≡ get_or all i x = ap (λ ss. get_or ss i x) c.loop-slot.invariant ∙ done-get f all i x in
    let here : Slot = record { id = (get_or c.loop-slot.slots i x).id; instance = c.configure.new.self } in
    let is : here ≡ f (get_or all i x) =
    (λ t. record { id = (get_or c.loop-slot.slots i x).id; instance = c.configure.ensures.exact t }) ∙ ap f was in
    (λ t. set (c.loop-slot.invariant t) i (is t)) ∙ done-more f all i x within ∙ ap (done f all) (sym (add-one i))
