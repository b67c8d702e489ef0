use Rattle.std.proofs.Common.{◌≡◌, ◌+◌, suc, [], ◌∷◌, ◌++◌, map, take, ap, ◌∙◌, arith}
use Rattle.std.proofs.lemmas.List.{append_assoc}
use Rattle.emu_model.specs.Commands.{instance_lines}
use Rattle.pipe_core.specs.Keyed.{seen_slot}
use Rattle.pipe_core.specs.Moves.{some_packet}
use Rattle.pipe_table.proofs.LineFacts.{line_of, lines-more, shown-there}
use Rattle.pipe_table.proofs.lines.show_pipe.Goals as goal

pub unreachable-requires : goal.unreachable-requires
unreachable-requires c =
    shown-there (λ k. some_packet) c.args.pipe.now c.loop-index.index
    (omega (arith, c.loop-index-test.true, c.instances-index-end.ensures.instances)) (c.in_default.ensures (λ k. some_packet))

pub loop-index-preserved : goal.loop-index-preserved
loop-index-preserved c =
    let pipe = c.args.pipe.now in
    let i = c.loop-index.index in
    let next : suc i ≡ i + 1 = omega arith in (
      (λ f.
          c.note-in-loop-index.ensures.records
          ∙ (λ z. c.loop-index.invariant.0 f z ++ (c.instance_line.ensures ∙ ap (λ n. line_of n i c.in-Some.shown) c.number-number.ensures) z ∷ [])
          ∙ append_assoc c.note.new.self.records (instance_lines pipe.number 0 (take i (map (seen_slot f) pipe.slots))) (line_of pipe.number i c.in-Some.shown ∷ [])
          ∙ ap (λ l. c.note.new.self.records ++ l)
          (lines-more f pipe i c.in-Some.shown (c.in-Some.ensures f) ∙ ap (λ n. instance_lines pipe.number 0 (take n (map (seen_slot f) pipe.slots))) next)),
      omega (arith, c.loop-index.invariant.1, c.note-in-loop-index.ensures.room),
    )
