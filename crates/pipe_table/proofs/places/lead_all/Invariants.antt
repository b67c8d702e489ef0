use Rattle.std.proofs.Common.{◌≡◌, length, take}
use Rattle.pipe_table.specs.Places.{AreLed}
use Rattle.pipe_table.proofs.places.lead_all.Given as goal

-- the pipes so far are led
abbrev pub invariant-loop-place : goal.invariant-loop-place
invariant-loop-place l = record {
  led : AreLed (take l.place l.pipes) l.places;
  long : length l.places ≡ length l.initial.places;
}
