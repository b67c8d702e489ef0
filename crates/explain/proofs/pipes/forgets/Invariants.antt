use Rattle.std.proofs.Common.{◌≡◌, ℕ, ◌++◌, take, drop}
use Rattle.due_index.specs.Table.{place_in}
use Rattle.explain.specs.Pipes.{decoded, state, forgets_from, forgets as all_forgotten}
use Rattle.explain.proofs.pipes.forgets.Given as goal

-- the table has what the commands so far say; what is told so far, and what is told from here on, is all
abbrev pub invariant-loop-number : goal.invariant-loop-number
invariant-loop-number l = record {
  table : (n : ℕ) → decoded (place_in l.table n) ≡ state l.setting (take l.number l.commands) n;
  same : l.out.items ++ forgets_from l.setting l.commands l.number (drop l.number l.commands) ≡ all_forgotten l.setting l.commands;
}
