use Rattle.std.proofs.Common.{◌≡◌, ◌+◌, drop, eqb}
use Rattle.std.specs.List.{prefix_len}
use Rattle.explain.proofs.span.leading_spaces.Given as goal

abbrev pub invariant-loop-b : goal.invariant-loop-b
invariant-loop-b l = record {
  index : l.count ≡ l.b-index;
  rest : l.count + prefix_len (λ b. eqb b 32) (drop l.b-index l.bytes) ≡ prefix_len (λ b. eqb b 32) l.bytes;
}
