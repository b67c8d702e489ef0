use Rattle.std.proofs.Common.{◌≡◌, ◌+◌, ◌<◌, take}
use Rattle.due_index.specs.Tree.{leaves_of}
use Rattle.due_index.proofs.index.DueIndex.push_ready.Given as goal

-- the first places have come over
abbrev pub invariant-loop-place : goal.invariant-loop-place
invariant-loop-place l = record {
  leaves : l.grown.leaves ≡ take l.place (leaves_of l.self-inside.nodes.items l.self-inside.half l.self-inside.places);
  spare : l.grown.spare + l.place ≡ l.initial.grown.spare;
  wide : l.place-end < l.initial.grown.spare;
}
