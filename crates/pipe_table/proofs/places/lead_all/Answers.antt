use Rattle.std.proofs.Common.{◌≡◌, ◌+◌, ◌<◌, length, take, set, Some, refl, sym, ap, ◌∙◌, subst, arith}
use Rattle.std.proofs.lemmas.List.{take_all, length-set}
use Rattle.pipe_table.specs.Places.{AreLed}
use Rattle.pipe_table.proofs.PlaceFacts.{get-there, led-none, led-more}
use Rattle.pipe_table.proofs.places.lead_all.Goals as goal

pub loop-place-init : goal.loop-place-init
loop-place-init c = record { led = led-none c.args.pipes.now c.args.places.now; long = refl }

pub set-requires-clause-entry : goal.set-requires-clause-entry
set-requires-clause-entry c =
    let ps = c.args.pipes.now in
    let i = c.loop-place.place in
    let x = c.index-pipes-place.result in
    omega (
      arith,
      c.requires.entries i x (get-there ps i x (omega arith) c.index-pipes-place.is),
      c.loop-place.invariant.long,
      c.get.ensures.value,
      c.number.ensures,
    )

pub loop-place-preserved : goal.loop-place-preserved
loop-place-preserved c =
    let ps = c.args.pipes.now in
    let i = c.loop-place.place in
    let t = c.loop-place.places in
    let x = c.index-pipes-place.result in
    let within : i < length ps = omega arith in
    let is = c.index-pipes-place.is in
    let entry : x.number < length t = omega (arith, c.requires.entries i x (get-there ps i x within is), c.loop-place.invariant.long) in
    let number : c.get.result ≡ x.number = c.get.ensures.value ∙ c.number.ensures in
    record {
      led = subst (AreLed (take (i + 1) ps)) (sym (c.set.ensures ∙ ap (λ n. set t n (Some i)) number))
          (led-more c.requires.sorted.0 ps i x t c.requires.sorted.1 within is entry c.loop-place.invariant.led);
      long = omega (arith, ap length c.set.ensures, length-set t c.get.result (Some i), c.loop-place.invariant.long);
    }

pub returns : goal.returns
returns c =
    subst (λ qs. AreLed qs c.loop-place.places) (take_all c.loop-place.place c.args.pipes.now (omega arith)) c.loop-place.invariant.led
