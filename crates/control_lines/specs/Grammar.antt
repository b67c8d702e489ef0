-- The grammar of lines: each form is defined by its words, whatever the numbers are.
use Rattle.std.specs.Prelude.{◌≡◌, ℕ, List, [], ◌∷◌, ◌++◌, Option, Some, None}
use lib.Chars.{codes}
use Rattle.control_words.specs.Words.{Words}
use Rattle.control_words.specs.Numbers.{number_of}
use Rattle.control_words.specs.Addresses.{protocol_of, match_of, address_of, prefix_of, ports_of, name_of}
use Rattle.control_words.specs.Grammar.{IsPair, AreOptions, AreFlowOptions}
use Rattle.control_lines.specs.declared.raw.RawAction.{RawAction}
use Rattle.control_lines.specs.declared.raw.RawAction.TheVariants.{Allow, Deny, Count, SkipTo, Pipe}
use Rattle.control_words.specs.declared.raw.RawPorts.{RawPorts}
use Rattle.control_lines.specs.declared.raw.RawRule.{RawRule}
use Rattle.control_lines.specs.declared.raw.RawEnds.{RawEnds}
use Rattle.control_lines.specs.declared.raw.RawSend.{RawSend}
use Rattle.control_lines.specs.declared.raw.RawTrain.{RawTrain}
use Rattle.control_lines.specs.declared.raw.RawFlow.{RawFlow}
use Rattle.control_lines.specs.declared.raw.RawCommand.{RawCommand}
use Rattle.control_lines.specs.declared.raw.RawCommand.TheVariants as commands
use Rattle.control_lines.specs.declared.raw.RawTimed.{RawTimed}

-- ---- rules
abbrev pub IsAction : Words → RawAction → Type 0
IsAction ws Allow = ws ≡ codes "allow" ∷ []
IsAction ws Deny = ws ≡ codes "deny" ∷ []
IsAction ws Count = ws ≡ codes "count" ∷ []
IsAction ws (SkipTo n) = IsPair (codes "skipto") number_of ws n
IsAction ws (Pipe n) = IsPair (codes "pipe") number_of ws n

-- [PORTS]
abbrev pub ArePorts : Words → Option RawPorts → Type 0
ArePorts ws None = ws ≡ []
ArePorts ws (Some ports) = (w : List ℕ) × (ws ≡ w ∷ []) × (ports_of w ≡ Some ports)

abbrev pub IsRule : Words → RawRule → Type 0
IsRule ws rule = (number proto src dst : List ℕ) × (action sports dports : Words)
    × (ws ≡ number
    ∷ (action ++ proto ∷ codes "from" ∷ src ∷ (sports ++ codes "to" ∷ dst ∷ dports)))
    × (number_of number ≡ Some rule.number) × IsAction action rule.action
    × (match_of proto ≡ Some rule.proto)
    × (prefix_of src ≡ Some rule.src) × ArePorts sports rule.sports
    × (prefix_of dst ≡ Some rule.dst) × ArePorts dports rule.dports

-- ---- lines that send
-- A PORT A PORT
abbrev pub IsEnds : Words → RawEnds → Type 0
IsEnds ws ends = (src sport dst dport : List ℕ) × (ws ≡ src ∷ sport ∷ dst ∷ dport ∷ [])
    × (address_of src ≡ Some ends.src) × (number_of sport ≡ Some ends.sport)
    × (address_of dst ≡ Some ends.dst) × (number_of dport ≡ Some ends.dport)

abbrev pub IsSend : Words → RawSend → Type 0
IsSend ws send = (proto size : List ℕ) × (ends : Words) × (ws ≡ proto ∷ (ends ++ size ∷ []))
    × (protocol_of proto ≡ Some send.proto) × IsEnds ends send.ends
    × (number_of size ≡ Some send.size)

abbrev pub IsTrain : Words → RawTrain → Type 0
IsTrain ws train = (number count gap : List ℕ) × (packet : Words)
    × (ws ≡ number ∷ (packet ++ codes "count" ∷ count ∷ codes "gap" ∷ gap ∷ []))
    × (number_of number ≡ Some train.number) × IsSend packet train.packet
    × (number_of count ≡ Some train.count) × (number_of gap ≡ Some train.gap)

abbrev pub IsFlow : Words → RawFlow → Type 0
IsFlow ws flow = (number smss segments : List ℕ) × (ends options : Words)
    × (ws ≡ number ∷ (ends ++ codes "smss" ∷ smss ∷ codes "segments" ∷ segments ∷ options))
    × (number_of number ≡ Some flow.number) × IsEnds ends flow.ends
    × (number_of smss ≡ Some flow.smss) × (number_of segments ≡ Some flow.segments)
    × AreFlowOptions options flow.options

-- ---- lines
abbrev pub IsCommand : Words → RawCommand → Type 0
IsCommand ws (commands.Add rule) = (rest : Words) × (ws ≡ codes "add" ∷ rest) × IsRule rest rule
IsCommand ws (commands.Delete n) = IsPair (codes "delete") number_of ws n
IsCommand ws (commands.Config n config) = (v : List ℕ) × (options : Words)
    × (ws ≡ codes "pipe" ∷ v ∷ codes "config" ∷ options) × (number_of v ≡ Some n)
    × AreOptions options config
IsCommand ws (commands.PipeDelete n) = (v : List ℕ) × (ws ≡ codes "pipe" ∷ codes "delete" ∷ v ∷ [])
    × (number_of v ≡ Some n)
IsCommand ws commands.PipeShow = ws ≡ codes "pipe" ∷ codes "show" ∷ []
IsCommand ws commands.Show = ws ≡ codes "show" ∷ []
IsCommand ws (commands.Inject send) = (rest : Words) × (ws ≡ codes "inject" ∷ rest)
    × IsSend rest send
IsCommand ws (commands.Train train) = (rest : Words) × (ws ≡ codes "train" ∷ rest)
    × IsTrain rest train
IsCommand ws (commands.Flow flow) = (rest : Words) × (ws ≡ codes "flow" ∷ rest) × IsFlow rest flow
IsCommand ws (commands.Stop n) = IsPair (codes "stop") number_of ws n
IsCommand ws (commands.OnePass n) = IsPair (codes "one_pass") number_of ws n
IsCommand ws (commands.Trace n) = IsPair (codes "trace") number_of ws n
IsCommand ws commands.End = ws ≡ codes "end" ∷ []

abbrev pub AreSteps : Words → Option ℕ → Type 0
AreSteps ws None = ws ≡ []
AreSteps ws (Some n) = IsPair (codes "steps") number_of ws n

-- the line of an experiment, without its place in memory
pub record Header : Type 0 where
  pub name : List ℕ
  pub seed : ℕ
  pub budget : ℕ
  pub steps : Option ℕ

pub data Line : Type 0 where
  Experiment : Header → Line
  Command : RawTimed → Line

abbrev pub IsLine : Words → Line → Type 0
IsLine ws (Experiment h) = (seed budget : List ℕ) × (rest : Words)
    × (ws ≡ codes "experiment" ∷ h.name ∷ codes "seed" ∷ seed ∷ codes "budget" ∷ budget ∷ rest)
    × (name_of h.name ≡ Some h.name) × (number_of seed ≡ Some h.seed)
    × (number_of budget ≡ Some h.budget) × AreSteps rest h.steps
IsLine ws (Command c) = (v : List ℕ) × (rest : Words) × (ws ≡ (64 ∷ v) ∷ rest)
    × (number_of v ≡ Some c.moment) × IsCommand rest c.command
