use Rattle.std.proofs.Common.{◌≡◌, ℕ, ◌<◌, nat_lt, true, length, get_or, Some, sym, ap, ◌∙◌, arith}
use Rattle.std.specs.Prelude.{option_map}
use Rattle.std.proofs.lemmas.Bool.Decides.{nat_tests}
use Rattle.pipe_core.specs.declared.slot.Slot.{Slot}
use Rattle.pipe_core.specs.Keyed.{shown_of}
use Rattle.pipe_core.proofs.PipeFacts.{numbers-seen}
use Rattle.pipe_core.proofs.InstancePlaces.{IsPlace, place_of, seen_at}
use Rattle.pipe_core.proofs.pipe.Pipe.shown.Goals as goal

pub returns : goal.returns
returns c =
    let slots = c.self.inside.slots.items in
    let k : ℕ = c.args.instance in
    let x : Slot = c.in_ok-slot.slot.now in
    let h = c.in_ok-slot.ensures.lookup in
    let test : nat_lt k (length slots) ≡ true = ap (λ ss. nat_lt k (length ss)) (sym c.deref.ensures.value) ∙ sym h.0 in
    let within : k < length slots = grind (arith, nat_tests) in
    let at : IsPlace k slots x = place_of slots k x (h.1 ∙ ap (λ ss. get_or ss k x) c.deref.ensures.value) within in
    rw (← c.self.view_is) (λ f. ap (λ n. Some n) (c.shown.ensures ∙ sym (numbers-seen f x))
    ∙ ap (option_map shown_of) (sym (seen_at k slots x at f)))
