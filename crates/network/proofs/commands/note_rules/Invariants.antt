use Rattle.std.proofs.Common.{◌≡◌, ◌+◌, ◌≤◌, ◌++◌, map, take}
use Rattle.emu_model.specs.declared.records.Record.TheVariants.{RuleLine}
use Rattle.network.proofs.commands.note_rules.Given as goal

abbrev pub invariant-loop-place : goal.invariant-loop-place
invariant-loop-place l = record {
  book : l.book ≡ l.initial.book;
  records : l.log.records ≡ l.initial.log.records ++ map (λ c. RuleLine c.rule c.packets c.bytes) (take l.place l.initial.book.rules);
  room : l.initial.log.spare ≤ l.log.spare + l.place;
}
