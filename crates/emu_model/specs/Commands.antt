-- The effects of commands (our choice, with the words of ipfw(8)).
use Rattle.std.specs.Prelude.{ℕ, ◌+◌, ◌-◌, ◌^◌, min, Bool, true, false, ◌||◌, ◌==◌, nat_lt, if◌then◌else◌, Option, Some, None, is_some, List, [], ◌∷◌, ◌++◌, map, length, flat_map}
use Rattle.std.specs.List.{list_any}
use Rattle.std.specs.Option.{option_map_or}
use Rattle.emu_model.specs.Lists.{remove_first}
use Rattle.emu_model.specs.Types.{ByCommand, PipeConfig, Timed, Command, Add, Delete, Config, PipeDelete, PipeShow, Show, Inject, Train, Flow, Stop, OnePass, Trace, End, TrainSpec, FlowSpec, Deleted, Refusal, NoSuchPipe, MaskFixed, FlowThere, NoFlow, TooManyPipes, TooManyFlows, Record, CommandDone, CommandRefused, RuleLine, PipeLine, InstanceLine}
use Rattle.emu_model.specs.Rules.{add_refusal, delete_refusal, book_with, book_without}
use Rattle.emu_model.specs.DropTail.{bytes_of}
use Rattle.emu_model.specs.Reno.{initial_sender}
use Rattle.emu_model.specs.Pipes.{Instance, PipeState, is_fixed, pipe_configure, pipe_packets}
use Rattle.emu_model.specs.Net.{Net, EventContext, FlowState, note, note_all, note_drops, find_pipe, put_pipe, find_flow, put_flow, make}

abbrev pub rule_lines : Net → List Record
rule_lines n = map (λ c. RuleLine c.rule c.packets c.bytes) n.book.rules

-- the number of loss words drawn, as a listing prints it; no budget of steps allows more than 64 bits hold
abbrev pub shown_words : ℕ → ℕ
shown_words drawn = min drawn (2 ^ 64 - 1)

abbrev pub instance_line : ℕ → ℕ → Instance → Record
instance_line pipe k i =
    InstanceLine pipe k (length i.waiting) (bytes_of i.waiting) (is_some i.service)
    (length i.line.in_flight) (shown_words i.drawn)

abbrev pub instance_lines : ℕ → ℕ → List Instance → List Record
instance_lines pipe k [] = []
instance_lines pipe k (i ∷ is) = instance_line pipe k i ∷ instance_lines pipe (k + 1) is

abbrev pub pipe_lines : PipeState → List Record
pipe_lines p = PipeLine p.number p.config ∷ instance_lines p.number 0 p.instances

-- inserts a pipe into a list that is ordered by number
abbrev pub with_pipe : PipeState → List PipeState → List PipeState
with_pipe p [] = p ∷ []
with_pipe p (q ∷ qs) = if nat_lt p.number q.number then p ∷ q ∷ qs else q ∷ with_pipe p qs

abbrev pub new_pipe_refusal : Net → Option Refusal
new_pipe_refusal n = if nat_lt (length n.pipes) 64 then None else Some TooManyPipes

abbrev pub mask_refusal : PipeConfig → PipeState → Option Refusal
mask_refusal config p = if is_fixed config p then Some MaskFixed else None

abbrev pub config_refusal : ℕ → PipeConfig → Net → Option Refusal
config_refusal k config n =
    option_map_or (mask_refusal config) (find_pipe k n) (new_pipe_refusal n)

abbrev pub new_pipe : ℕ → PipeConfig → Net → Net
new_pipe k config n =
    record n { pipes = with_pipe (record { number = k; config = config; instances = [] }) n.pipes }

abbrev pub configure : ℕ → PipeConfig → Net → Net
configure k config n =
    option_map_or (λ p. put_pipe k (pipe_configure config p) n) (find_pipe k n) (new_pipe k config n)

abbrev pub without_pipe : ℕ → Net → Net
without_pipe k n = record n { pipes = remove_first (λ q. q.number == k) n.pipes }

-- deletes a pipe, and drops all packets that it holds
abbrev pub delete_pipe : ℕ → ℕ → Net → PipeState → Net
delete_pipe now k n p =
    note_drops now (map (λ q. record { packet = q; cause = Deleted }) (pipe_packets p))
    (without_pipe k n)

-- tests whether a flow or a train has this number: they share one set of numbers
abbrev pub is_in_use : ℕ → Net → Bool
is_in_use k n =
    list_any (λ f. f.number == k) n.flows || list_any (λ t. t.number == k) n.trains

abbrev pub source_refusal : ℕ → Net → Option Refusal
source_refusal k n =
    if is_in_use k n then Some FlowThere
    else (if nat_lt (length n.flows + length n.trains) 256 then None else Some TooManyFlows)

abbrev pub start_flow : ℕ → FlowSpec → Net → Net
start_flow k f n = record n {
  flows = n.flows ++ record {
    number = k;
    flow = f;
    sender = initial_sender f;
    stopped = false;
    came = [];
  } ∷ [];
}

abbrev pub start_train : ℕ → ℕ → TrainSpec → Net → Net
start_train now k t n = record n {
  trains = n.trains ++ record { number = k; train = t; start = now; sent = 0 } ∷ [];
}

abbrev pub stop_flow : Net → FlowState → Net
stop_flow n f = put_flow (record f { stopped = true }) n

-- the reason for which a command is refused, if it is refused
abbrev pub refusal_of : Command → Net → Option Refusal
refusal_of (Add r) n = add_refusal r n.book
refusal_of (Delete k) n = delete_refusal k n.book
refusal_of (Config k config) n = config_refusal k config n
refusal_of (PipeDelete k) n = if is_some (find_pipe k n) then None else Some NoSuchPipe
refusal_of (Train k t) n = source_refusal k n
refusal_of (Flow k f) n = source_refusal k n
refusal_of (Stop k) n = if is_some (find_flow k n) then None else Some NoFlow
refusal_of _ n = None

-- the effect of the command numbered k, if it is not refused
abbrev pub effect_of : EventContext → ℕ → Command → Net → Net
effect_of at k (Add r) n = record n { book = book_with r n.book }
effect_of at k (Delete j) n = record n { book = book_without j n.book }
effect_of at k (Config j config) n = configure j config n
effect_of at k (PipeDelete j) n = option_map_or (delete_pipe at.now j n) (find_pipe j n) n
effect_of at k PipeShow n = note_all (flat_map pipe_lines n.pipes) n
effect_of at k Show n = note_all (rule_lines n) n
effect_of at k (Inject send) n = make at (ByCommand k) send n
effect_of at k (Train j t) n = start_train at.now j t n
effect_of at k (Flow j f) n = start_flow j f n
effect_of at k (Stop j) n = option_map_or (stop_flow n) (find_flow j n) n
effect_of at k (OnePass b) n = record n { one_pass = b }
effect_of at k (Trace b) n = record n { trace = b }
effect_of at k End n = n

-- executes or refuses the command numbered k
abbrev pub obey : EventContext → ℕ → Command → Net → Net
obey at k c n =
    option_map_or (λ r. note (CommandRefused at.now k r) n) (refusal_of c n)
    (effect_of at k c (note (CommandDone at.now k) n))

abbrev pub is_end : Command → Bool
is_end End = true
is_end _ = false

-- tests whether an `end` is among the commands
abbrev pub has_end : List Timed → Bool
has_end cs = list_any (λ c. is_end c.command) cs
