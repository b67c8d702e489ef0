use Rattle.std.proofs.Common.{◌≡◌, ◌-◌, None, true, false, length}
use Rattle.std.specs.List.{last_or}
use Rattle.emu_model.specs.Rules.{the_rules, matched_places}
use Rattle.emu_rules.proofs.Alone.{FirstGoesOn, Lasts}
use Rattle.emu_rules.proofs.search.search.Given as goal

abbrev pub invariant-loop-place : goal.invariant-loop-place
invariant-loop-place l = record {
  lasts : Lasts l.packet (the_rules l.rules) l.from l.last (last_or None (matched_places l.start l.packet (the_rules l.rules)));
  first : l.is_first ≡ true → l.from ≡ l.start;
  later : l.is_first ≡ false → FirstGoesOn l.start l.packet l.rules;
}

abbrev pub decreases-loop-place : goal.decreases-loop-place
decreases-loop-place l = length l.rules - l.from
