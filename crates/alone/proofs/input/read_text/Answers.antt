use Rattle.std.proofs.Common.{◌≡◌, ℕ, List, [], ◌++◌, refl, sym, ap, ◌∙◌, subst, append-nil, arith, take, length-take}
use Rattle.alone.proofs.ReadFacts.{few_more}
use Rattle.alone.proofs.input.read_text.Goals.{else-loop-chunk-test, then-loop-chunk-test+in-Ok+then-count-eq0}
use Rattle.alone.proofs.input.read_text.Goals as goal

pub returns-in_default-extend_from_slice-clause-taken : goal.returns-in_default-extend_from_slice-clause-taken
returns-in_default-extend_from_slice-clause-taken g c =
    few_more (g.R.Inlet.remaining c.args.reader.now) (g.R.Inlet.remaining c.loop-chunk.reader) (g.R.Inlet.remaining c.read_some.new.reader)
    c.loop-chunk.text.items (take c.in-Ok.count c.read_some.new.room) c.loop-chunk.invariant.first c.in-Ok.ensures.bytes.0
    (omega (arith, length-take c.in-Ok.count c.read_some.new.room, length-take c.min-room.result c.loop-chunk.chunk, c.read_some.auto.room, c.in-Ok.ensures.bound, c.loop-chunk.text.ok.0, c.loop-chunk-test.true, c.len.ensures, c.len-in-loop-chunk.ensures, c.min-room.ensures))

pub returns-in_default-clause-gives : goal.returns-in_default-clause-gives
returns-in_default-clause-gives g c = (
  c.loop-chunk.text.items ++ [],
  g.met.R.Inlet.gives_both c.args.reader.now c.loop-chunk.reader c.read_some.new.reader c.loop-chunk.text.items [] c.loop-chunk.invariant.gives c.in_default.ensures.gives,
  tt,
)

pub returns-in_default-extend_from_slice-clause-gives : goal.returns-in_default-extend_from_slice-clause-gives
returns-in_default-extend_from_slice-clause-gives g c =
    let bytes = take c.in-Ok.count c.read_some.new.room in (
      c.loop-chunk.text.items ++ bytes,
      g.met.R.Inlet.gives_both c.args.reader.now c.loop-chunk.reader c.read_some.new.reader c.loop-chunk.text.items bytes c.loop-chunk.invariant.gives c.in-Ok.ensures.gives,
      tt,
    )

pub returns-clause-gives : goal.returns-clause-gives
returns-clause-gives g c =
    let text = c.loop-chunk.text.items in
    let gives = g.R.Inlet.gives c.args.reader.now in (
      text,
      elim c.loop-chunk-test.branch [
        | else-loop-chunk-test w ↦ subst (gives text) (sym w.reader-is) c.loop-chunk.invariant.gives
        | then-loop-chunk-test+in-Ok+then-count-eq0 w ↦
            let none : w.in-Ok.count ≡ 0 = w.if-count-eq0.true in
            let bytes = take w.in-Ok.count w.read_some.new.room in
            let all : text ++ bytes ≡ text = ap (λ (n : ℕ). text ++ take n w.read_some.new.room) none ∙ append-nil text in
            subst (gives text) (sym w.reader-is) (subst (λ (l : List ℕ). gives l w.read_some.new.reader) all
            (g.met.R.Inlet.gives_both c.args.reader.now c.loop-chunk.reader w.read_some.new.reader text bytes c.loop-chunk.invariant.gives w.in-Ok.ensures.gives))
      ],
      refl,
    )
