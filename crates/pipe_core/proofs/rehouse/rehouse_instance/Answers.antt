use Rattle.std.proofs.Common.{◌≡◌, ◌+◌, ◌<◌, ◌∙◌, ℕ, List, length, refl, sym, subst, arith}
use Rattle.packet_store.specs.Pocket.{Pocket}
use Rattle.pipe_core.specs.KeyedInstance.{keys_in}
use Rattle.pipe_core.proofs.Halves.{IsHalf, half_none, half_there, half_named, half_next, half_all}
use Rattle.pipe_core.proofs.rehouse.rehouse_instance.Goals as goal

pub loop-place-init : goal.loop-place-init
loop-place-init g c = record {
  half = half_none (g.S.Shelf.pocket c.args.from.now c.args.owner) (g.T.Shelf.pocket c.args.to.now c.args.other) (keys_in c.args.instance.now);
  blank = refl;
  end = c.key_count-place-end.ensures;
  room = omega arith;
  others_from = λ o differs. refl;
  others_to = λ o differs. refl;
}

pub unreachable-requires : goal.unreachable-requires
unreachable-requires g c =
    let all : List ℕ = keys_in c.args.instance.now in
    let within : c.loop-place.place < length all = omega (arith, c.loop-place-test.true, c.loop-place.invariant.end) in
    half_there _ _ _ _ all (keys_in c.loop-place.instance) c.loop-place.place within c.loop-place.invariant.half c.in_default.ensures

pub rehouse_one-there-requires-clause-named : goal.rehouse_one-there-requires-clause-named
rehouse_one-there-requires-clause-named g c =
    let all : List ℕ = keys_in c.args.instance.now in
    let within : c.loop-place.place < length all = omega (arith, c.loop-place-test.true, c.loop-place.invariant.end) in
    half_named _ _ _ _ all (keys_in c.loop-place.instance) c.loop-place.place c.in-Some.key c.requires.named within c.in-Some.ensures c.loop-place.invariant.half

pub loop-place-preserved : goal.loop-place-preserved
loop-place-preserved g c =
    let i = c.loop-place.invariant in
    let p : Pocket = g.S.Shelf.pocket c.args.from.now c.args.owner in
    let q : Pocket = g.S.Shelf.pocket c.loop-place.from c.args.owner in
    let t : Pocket = g.S.Shelf.pocket c.rehouse_one-there.new.from c.args.owner in
    let r : Pocket = g.T.Shelf.pocket c.args.to.now c.args.other in
    let s : Pocket = g.T.Shelf.pocket c.loop-place.to c.args.other in
    let u : Pocket = g.T.Shelf.pocket c.rehouse_one-there.new.to c.args.other in
    let n : ℕ = c.loop-place.place in
    let all : List ℕ = keys_in c.args.instance.now in
    let within : n < length all = omega (arith, c.loop-place-test.true, i.end) in
    let next = half_next p q t r s u all (keys_in c.loop-place.instance) n c.in-Some.key c.rehouse_one-there.result c.requires.named within c.in-Some.ensures i.half c.rehouse_one-there.ensures.moved in
    record {
      half = subst (λ now. IsHalf p t r u all now (n + 1)) (sym c.replace_key.ensures.keys) next;
      blank = c.replace_key.ensures.blank ∙ i.blank;
      end = i.end;
      room = omega (arith, i.room, c.rehouse_one-there.ensures.room);
      others_from = λ o differs. c.rehouse_one-there.ensures.others_from o differs ∙ i.others_from o differs;
      others_to = λ o differs. c.rehouse_one-there.ensures.others_to o differs ∙ i.others_to o differs;
    }

pub returns-clause-moved : goal.returns-clause-moved
returns-clause-moved g c =
    let i = c.loop-place.invariant in
    let all : List ℕ = keys_in c.args.instance.now in
    let last : c.loop-place.place ≡ length all = omega (arith, c.loop-place-test.false, i.end) in
    half_all _ _ _ _ all (keys_in c.loop-place.instance) c.loop-place.place last i.half
