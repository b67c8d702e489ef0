use Rattle.std.proofs.Common.{◌≡◌, length}
use Rattle.std.specs.Prelude.{All, None}
use Rattle.lab.proofs.joined.Joined.new.Given as goal

abbrev pub invariant-loop : goal.invariant-loop
invariant-loop l = record {
  len : length l.dossiers.items ≡ l.counter;
  none : All (λ o. o ≡ None) l.dossiers.items;
}
