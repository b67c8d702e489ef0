use Rattle.std.proofs.Common.{◌≡◌, ◌+◌, drop, eqb}
use Rattle.std.specs.List.{position_or_len}
use Rattle.explain.proofs.span.word_end.Given as goal

abbrev pub invariant-loop-b : goal.invariant-loop-b
invariant-loop-b l = record {
  index : l.count ≡ l.b-index;
  rest : l.count + position_or_len (λ b. eqb b 32) (drop l.b-index l.bytes) ≡ position_or_len (λ b. eqb b 32) l.bytes;
}
