-- The happenings at the pipes of an experiment, and those that an instance sees (our choice). No definition of the model uses them: they
-- name what the steps of an experiment do to its pipes.
use Rattle.std.specs.Prelude.{ℕ, Bool, false, ◌&&◌, ◌==◌, if◌then◌else◌, Option, None, List, [], ◌∷◌, ◌++◌, map, find, slice_get}
use Rattle.std.specs.Option.{option_map_or}
use Rattle.emu_model.specs.declared.packets.Packet.{Packet}
use Rattle.emu_model.specs.declared.pipes.PipeConfig.{PipeConfig}
use Rattle.emu_model.specs.declared.records.DropCause.TheVariants.{Deleted}
use Rattle.emu_model.specs.declared.records.Record.{Record}
use Rattle.emu_model.specs.declared.records.Record.TheVariants.{PacketFinished}
use Rattle.emu_model.specs.Lists.{replace_first, remove_first}
use Rattle.emu_model.specs.Pipes.{Instance, PipeState, held_in, pipe_packets, instance_for, pipe_arrive, pipe_finish, pipe_exit, pipe_configure}
use Rattle.emu_model.specs.Net.{drop_record}
use Rattle.emu_model.specs.Commands.{with_pipe}
use Rattle.emu_model.specs.Events.{flying_in, served_in}

-- a happening at a pipe: a packet arrives, the packet in service in an instance finishes, the first packet in an instance's delay line leaves,
-- the pipe is configured (and created if it doesn't exist), or it is deleted; arrivals, finishes and deletions have a time
pub data Happening : Type 0 where
  Coming : ℕ → ℕ → Packet → Happening
  Finishing : ℕ → ℕ → ℕ → Happening
  InFlight : ℕ → ℕ → Happening
  Configuring : ℕ → PipeConfig → Happening
  Deleting : ℕ → ℕ → Happening

abbrev pub pipe_in : ℕ → List PipeState → Option PipeState
pipe_in pipe ps = find (λ p. p.number == pipe) ps

abbrev pub put_in : ℕ → PipeState → List PipeState → List PipeState
put_in pipe p ps = replace_first (λ q. q.number == pipe) p ps

-- the pipes after a happening
abbrev pub happen : ℕ → Happening → List PipeState → List PipeState
happen seed (Coming now pipe packet) ps =
    option_map_or (λ p. put_in pipe (pipe_arrive seed now packet p).state ps) (pipe_in pipe ps) ps
happen seed (Finishing now pipe k) ps =
    option_map_or (λ p. put_in pipe (pipe_finish now k p).state ps) (pipe_in pipe ps) ps
happen seed (InFlight pipe k) ps = option_map_or (λ p. put_in pipe (pipe_exit k p) ps) (pipe_in pipe ps) ps
happen seed (Configuring pipe config) ps =
    option_map_or (λ p. put_in pipe (pipe_configure config p) ps) (pipe_in pipe ps)
    (with_pipe (record { number = pipe; config = config; instances = [] }) ps)
happen seed (Deleting now pipe) ps = remove_first (λ p. p.number == pipe) ps

abbrev pub after_all : ℕ → List Happening → List PipeState → List PipeState
after_all seed [] ps = ps
after_all seed (h ∷ hs) ps = after_all seed hs (happen seed h ps)

-- the results of a happening: the packet that leaves an instance, and the records of a packet that finishes and of packets
-- that are dropped
pub record Known : Type 0 where
  pub left : Option Packet
  pub lines : List Record

abbrev pub nothing : Known
nothing = record { left = None; lines = [] }

abbrev pub only_lines : List Record → Known
only_lines rs = record { left = None; lines = rs }

abbrev pub finish_lines : ℕ → ℕ → ℕ → PipeState → List Record
finish_lines now pipe k p =
    option_map_or (λ s. PacketFinished now s.item.number pipe k ∷ []) (served_in k p) []

abbrev pub deleted_lines : ℕ → List Packet → List Record
deleted_lines now qs = map (λ d. drop_record now d) (map (λ q. record { packet = q; cause = Deleted }) qs)

abbrev pub known : ℕ → Happening → List PipeState → Known
known seed (Coming now pipe packet) ps =
    only_lines (option_map_or (λ p. map (drop_record now) (pipe_arrive seed now packet p).dropped) (pipe_in pipe ps) [])
known seed (Finishing now pipe k) ps =
    only_lines (option_map_or (λ p. finish_lines now pipe k p ++ map (drop_record now) (pipe_finish now k p).dropped)
    (pipe_in pipe ps) [])
known seed (InFlight pipe k) ps =
    record { left = option_map_or (flying_in k) (pipe_in pipe ps) None; lines = [] }
known seed (Configuring pipe config) ps = nothing
known seed (Deleting now pipe) ps =
    only_lines (option_map_or (λ p. deleted_lines now (pipe_packets p)) (pipe_in pipe ps) [])

-- the records of all happenings
abbrev pub lines_of : ℕ → List Happening → List PipeState → List Record
lines_of seed [] ps = []
lines_of seed (h ∷ hs) ps = (known seed h ps).lines ++ lines_of seed hs (happen seed h ps)

-- tests whether an optional number is k
abbrev pub is_number : ℕ → Option ℕ → Bool
is_number k o = option_map_or (λ j. j == k) o false

-- tests for a happening at instance k of a pipe: a packet arrives at the instance of its flow, even if it creates it; a pipe is configured
-- or deleted at each of its instances
abbrev pub is_at : ℕ → ℕ → Happening → List PipeState → Bool
is_at pipe k (Coming now j packet) ps =
    j == pipe && is_number k (option_map_or (instance_for packet) (pipe_in j ps) None)
is_at pipe k (Finishing now j i) ps = j == pipe && i == k
is_at pipe k (InFlight j i) ps = j == pipe && i == k
is_at pipe k (Configuring j config) ps = j == pipe
is_at pipe k (Deleting now j) ps = j == pipe

-- the state of an instance: the configuration of its pipe, and the instance, if it was created
pub record Standing : Type 0 where
  pub config : PipeConfig
  pub instance : Option Instance

-- the state of instance k in each pipe with this number; in the states of a run no two pipes have the same number, so there
-- is at most one
abbrev pub standing : ℕ → ℕ → List PipeState → List Standing
standing pipe k [] = []
standing pipe k (p ∷ ps) =
    if p.number == pipe then record { config = p.config; instance = slice_get p.instances k } ∷ standing pipe k ps
    else standing pipe k ps

-- the packets that an instance holds, which are dropped with its pipe
abbrev pub held_by : Standing → List Packet
held_by s = option_map_or (λ i. held_in i) s.instance []

abbrev pub first_held : List Standing → List Packet
first_held [] = []
first_held (s ∷ ss) = held_by s

-- the results of a happening at instance k for that instance
abbrev pub known_of : ℕ → ℕ → ℕ → Happening → List PipeState → Known
known_of seed pipe k (Deleting now j) ps = only_lines (deleted_lines now (first_held (standing pipe k ps)))
known_of seed pipe k h ps = known seed h ps

-- the happenings at instance k, in order
abbrev pub history : ℕ → ℕ → ℕ → List Happening → List PipeState → List Happening
history seed pipe k [] ps = []
history seed pipe k (h ∷ hs) ps =
    if is_at pipe k h ps then h ∷ history seed pipe k hs (happen seed h ps)
    else history seed pipe k hs (happen seed h ps)

-- the results of these happenings for instance k, in order
abbrev pub told_of : ℕ → ℕ → ℕ → List Happening → List PipeState → List Known
told_of seed pipe k [] ps = []
told_of seed pipe k (h ∷ hs) ps =
    if is_at pipe k h ps then known_of seed pipe k h ps ∷ told_of seed pipe k hs (happen seed h ps)
    else told_of seed pipe k hs (happen seed h ps)
