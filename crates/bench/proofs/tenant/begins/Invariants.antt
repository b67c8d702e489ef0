use Rattle.std.proofs.Common.{◌≡◌, take}
use Rattle.bench.proofs.tenant.begins.Given as goal

abbrev pub invariant-loop-place : goal.invariant-loop-place
invariant-loop-place l = take l.place l.dossier.records ≡ take l.place l.first
