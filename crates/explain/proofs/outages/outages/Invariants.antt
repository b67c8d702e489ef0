use Rattle.std.proofs.Common.{◌≡◌, ℕ, ◌++◌, take, drop}
use Rattle.explain.specs.Outages.{held_in, held, outages_from, outages as all_outages, largest}
use Rattle.explain.proofs.outages.outages.Given as goal

-- the rates are those after the commands so far; the doubts so far, and those from here on, are all
abbrev pub invariant-loop-number : goal.invariant-loop-number
invariant-loop-number l = record {
  rates : (n : ℕ) → held_in l.rates.items n ≡ held (take l.number l.commands) n;
  same : l.out.items ++ outages_from (largest l.commands) l.commands l.number (drop l.number l.commands) ≡ all_outages l.commands;
}
