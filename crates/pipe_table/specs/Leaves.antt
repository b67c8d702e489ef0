-- The earliest due of each pipe, and an index of these dues.
use Rattle.std.specs.Prelude.{◌≡◌, ℕ, ◌≤◌, Option, List, map, length}
use Rattle.std.specs.List.{All}
use Rattle.emu_model.specs.declared.packets.Packet.{Packet}
use Rattle.emu_model.specs.declared.sources.Due.{Due}
use Rattle.emu_model.specs.Dues.{pipe_dues}
use Rattle.emu_model.specs.Pipes.{PipeState}
use Rattle.due_index.specs.Least.{least_of}
use Rattle.due_index.specs.Places.{Places}
use Rattle.pipe_core.specs.Keyed.{KeyedPipe}
use Rattle.pipe_table.specs.Table.{seen_pipes, IsPipeNumber}

abbrev pub leaf_of : PipeState → Option Due
leaf_of s = least_of (pipe_dues s)

-- the ranges of a pipe's number and of the number of its instances
pub record IsFit (s : PipeState) : Type 0 where
  pub number : IsPipeNumber s.number
  pub few : length s.instances ≤ 256

pub record IsIndexed (ss : List PipeState) (x : Places) : Type 0 where
  pub leaves : x.leaves ≡ map leaf_of ss
  pub fit : All IsFit ss

-- the index has the dues of these pipes, whatever packets their keys refer to
abbrev pub AreIndexed : List KeyedPipe → Places → Type 0
AreIndexed ps x = (f : ℕ → Packet) → IsIndexed (seen_pipes f ps) x
