use Rattle.std.proofs.Common.{◌≡◌, ◌+◌, ◌<◌, ◌∙◌, ℕ, List, map, length, refl, sym, ap, subst, arith}
use Rattle.std.proofs.lemmas.List.{length-map}
use Rattle.packet_store.specs.Pocket.{Pocket}
use Rattle.pipe_core.specs.Blanks.{blank_line}
use Rattle.pipe_core.proofs.Blanked.{line-items, line-blank, seen_line-same}
use Rattle.pipe_core.specs.Moves.{packet_at}
use Rattle.pipe_core.proofs.Halves.{IsHalf, half_none, half_there, half_named, half_next, half_all}
use Rattle.pipe_core.proofs.rehouse.rehouse_line.Goals as goal

pub loop-place-init : goal.loop-place-init
loop-place-init g c =
    let in_flight = c.args.line.now.line.in_flight in
    record {
      half = half_none (g.S.Shelf.pocket c.args.from.now c.args.owner) (g.T.Shelf.pocket c.args.to.now c.args.other) (map (λ x. x.item) in_flight);
      blank = refl;
      spare = refl;
      end = omega (arith, c.in_flight-place-end.ensures.in_flight, length-map in_flight (λ x. x.item));
      room = omega arith;
      others_from = λ o differs. refl;
      others_to = λ o differs. refl;
    }

pub unreachable-requires : goal.unreachable-requires
unreachable-requires g c =
    let all : List ℕ = map (λ x. x.item) c.args.line.now.line.in_flight in
    let within : c.loop-place.place < length all = omega (arith, c.loop-place-test.true, c.loop-place.invariant.end) in
    half_there _ _ _ _ all (map (λ x. x.item) c.loop-place.line.line.in_flight) c.loop-place.place within c.loop-place.invariant.half c.in_default.ensures

pub rehouse_one-there-requires-clause-named : goal.rehouse_one-there-requires-clause-named
rehouse_one-there-requires-clause-named g c =
    let all : List ℕ = map (λ x. x.item) c.args.line.now.line.in_flight in
    let within : c.loop-place.place < length all = omega (arith, c.loop-place-test.true, c.loop-place.invariant.end) in
    half_named _ _ _ _ all (map (λ x. x.item) c.loop-place.line.line.in_flight) c.loop-place.place c.in-Some.key c.requires.named within c.in-Some.ensures c.loop-place.invariant.half

pub loop-place-preserved : goal.loop-place-preserved
loop-place-preserved g c =
    let i = c.loop-place.invariant in
    let p : Pocket = g.S.Shelf.pocket c.args.from.now c.args.owner in
    let q : Pocket = g.S.Shelf.pocket c.loop-place.from c.args.owner in
    let t : Pocket = g.S.Shelf.pocket c.rehouse_one-there.new.from c.args.owner in
    let r : Pocket = g.T.Shelf.pocket c.args.to.now c.args.other in
    let s : Pocket = g.T.Shelf.pocket c.loop-place.to c.args.other in
    let u : Pocket = g.T.Shelf.pocket c.rehouse_one-there.new.to c.args.other in
    let n : ℕ = c.loop-place.place in
    let there : ℕ = c.rehouse_one-there.result in
    let all : List ℕ = map (λ x. x.item) c.args.line.now.line.in_flight in
    let in_flight = c.loop-place.line.line.in_flight in
    let within : n < length all = omega (arith, c.loop-place-test.true, i.end) in
    let next = half_next p q t r s u all (map (λ x. x.item) in_flight) n c.in-Some.key there c.requires.named within c.in-Some.ensures i.half c.rehouse_one-there.ensures.moved in
    let items = ap (λ l. map (λ x. x.item) l.line.in_flight) c.replace.ensures ∙ line-items in_flight n there in
    record {
      half = subst (λ now. IsHalf p t r u all now (n + 1)) (sym items) next;
      blank = ap (λ l. blank_line l.line) c.replace.ensures ∙ (λ j. record (blank_line c.loop-place.line.line) { in_flight = line-blank in_flight n there j }) ∙ i.blank;
      spare = ap (λ l. l.spare) c.replace.ensures ∙ i.spare;
      end = i.end;
      room = omega (arith, i.room, c.rehouse_one-there.ensures.room);
      others_from = λ o differs. c.rehouse_one-there.ensures.others_from o differs ∙ i.others_from o differs;
      others_to = λ o differs. c.rehouse_one-there.ensures.others_to o differs ∙ i.others_to o differs;
    }

pub returns-clause-shown : goal.returns-clause-shown
returns-clause-shown g c =
    let i = c.loop-place.invariant in
    let p : Pocket = g.S.Shelf.pocket c.args.from.now c.args.owner in
    let s : Pocket = g.T.Shelf.pocket c.loop-place.to c.args.other in
    let all : List ℕ = map (λ x. x.item) c.args.line.now.line.in_flight in
    let last : c.loop-place.place ≡ length all = omega (arith, c.loop-place-test.false, i.end) in
    let moved = half_all _ _ _ _ all (map (λ x. x.item) c.loop-place.line.line.in_flight) c.loop-place.place last i.half in
    seen_line-same (packet_at p.find) (packet_at s.find) c.args.line.now.line c.loop-place.line.line i.blank moved.same

pub returns-clause-moved : goal.returns-clause-moved
returns-clause-moved g c =
    let i = c.loop-place.invariant in
    let all : List ℕ = map (λ x. x.item) c.args.line.now.line.in_flight in
    let last : c.loop-place.place ≡ length all = omega (arith, c.loop-place-test.false, i.end) in
    half_all _ _ _ _ all (map (λ x. x.item) c.loop-place.line.line.in_flight) c.loop-place.place last i.half
