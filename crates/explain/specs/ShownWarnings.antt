-- What is printed of a warning, each part behind what stands before.
use Rattle.std.specs.Prelude.{ℕ, ◌/◌, ◌%◌, List, [], ◌++◌, true, false, Option, Some, None, codes, decimal}
use Rattle.emu_model.specs.declared.packets.Protocol.{Protocol}
use Rattle.emu_model.specs.declared.packets.Protocol.TheVariants.{Tcp, Udp}
use Rattle.explain.specs.ShownFindings.{row}
use Rattle.explain.specs.declared.refused.Stand.{Stand}
use Rattle.explain.specs.declared.ends.Ends.{Ends}
use Rattle.explain.specs.declared.warning.Sent.{Sent}
use Rattle.explain.specs.declared.warning.Sent.TheVariants.{Packets, Segments, Acks}
use Rattle.explain.specs.declared.warning.Concern.{Concern}
use Rattle.explain.specs.declared.warning.Concern.TheVariants.{Spent, OverBudget, PipeGone, Denied, UnusedSeed, NoPipe, NoWay}

-- an address with its points
abbrev pub with_address : List ℕ → ℕ → List ℕ
with_address out a =
    out ++ decimal (a / 16777216) ++ codes "." ++ decimal (a / 65536 % 256) ++ codes "." ++ decimal (a / 256 % 256) ++ codes "." ++ decimal (a % 256)

abbrev pub protocol_word : Protocol → List ℕ
protocol_word Tcp = codes "tcp"
protocol_word Udp = codes "udp"

-- as a rule says it: tcp from A PORT to A PORT
abbrev pub with_ends : List ℕ → Ends → List ℕ
with_ends out e =
    with_address (with_address (out ++ protocol_word e.proto ++ codes " from ") e.src ++ codes " " ++ decimal e.sport ++ codes " to ") e.dst
    ++ codes " " ++ decimal e.dport

abbrev pub sent_word : Sent → List ℕ
sent_word Packets = codes "packets"
sent_word Segments = codes "segments"
sent_word Acks = codes "acknowledgements"

abbrev pub with_spent : List ℕ → ℕ → ℕ → List ℕ
with_spent out moment end = out ++ codes "its steps were used up at " ++ decimal moment ++ codes " ns, before its `end` at " ++ decimal end ++ codes " ns"

-- which packets, how many, and when first
abbrev pub with_dropped : List ℕ → List ℕ → ℕ → ℕ → List ℕ
with_dropped out packets count first = out ++ packets ++ decimal count ++ codes ", the first at " ++ decimal first ++ codes " ns"

abbrev pub with_denied : List ℕ → ℕ → List ℕ
with_denied out count = out ++ codes "the rules denied " ++ decimal count ++ codes " of its "

abbrev pub with_count : List ℕ → Option ℕ → List ℕ
with_count out None = out ++ codes "the rules that stand then deny its "
with_count out (Some count) = with_denied out count

abbrev pub with_way : List ℕ → Ends → Sent → Option ℕ → List ℕ
with_way out ends sent count = with_ends (with_count out count ++ sent_word sent ++ codes ": ") ends

-- what a warning means
abbrev pub with_meaning : List ℕ → Concern → List ℕ
with_meaning out (Spent moment end) = with_spent out moment end
with_meaning out (OverBudget first count) = with_dropped out (codes "packets dropped for the budget: ") count first
with_meaning out (PipeGone first count) = with_dropped out (codes "packets dropped since a rule hands them to a pipe that isn't there: ") count first
with_meaning out (Denied first count) = with_dropped out (codes "packets of trains and injects that the rules denied: ") count first
with_meaning out UnusedSeed = out ++ codes "nothing uses its seed: no pipe has a `plr` above 0"
with_meaning out (NoPipe pipe) = out ++ codes "no command of its experiment configures pipe " ++ decimal pipe
with_meaning out (NoWay ends sent count other) = with_way out ends sent count

abbrev pub with_advice : List ℕ → List ℕ → Ends → List ℕ
with_advice out advice ends = with_ends (out ++ advice ++ codes ": add R allow ") ends

-- what to do about it
abbrev pub with_hint : List ℕ → Concern → List ℕ
with_hint out (Spent moment end) = out ++ codes "a greater `steps` behind `budget`, at most 10000000, goes further"
with_hint out (OverBudget first count) = out ++ codes "`budget` is how many packets may be under way at once, at most 65535"
with_hint out (PipeGone first count) = out ++ codes "configure that pipe before they come, or name another: `pipe show` lists the pipes"
with_hint out (Denied first count) = out ++ codes "what no rule matches is denied too: `show` counts what each rule matched, `trace 1` names each packet"
with_hint out UnusedSeed = out ++ codes "a seed draws losses alone: give a pipe a `plr`, or write `seed 0`"
with_hint out (NoPipe pipe) = out ++ codes "what comes to it is dropped: configure that pipe, or name another"
with_hint out (NoWay ends sent count true) = with_advice out (codes "a rule lets the other direction through, and each needs one of its own") ends
with_hint out (NoWay ends sent count false) = with_advice out (codes "what no rule matches is denied, and here the other direction too") ends

abbrev pub kind_word : Concern → List ℕ
kind_word (Spent moment end) = codes ": spent\n"
kind_word (OverBudget first count) = codes ": budget\n"
kind_word (PipeGone first count) = codes ": nopipe\n"
kind_word (Denied first count) = codes ": denied\n"
kind_word UnusedSeed = codes ": seed\n"
kind_word (NoPipe pipe) = codes ": nopipe\n"
kind_word (NoWay ends sent count other) = codes ": denied\n"

-- the line that it is about, and its experiment
abbrev pub with_heading : List ℕ → Concern → Stand → List ℕ
with_heading out concern s =
    out ++ codes "line " ++ decimal s.number ++ kind_word concern ++ row (codes "  ") s.line.now ++ row (codes "  experiment: ") s.experiment.now

abbrev pub warning_text : Concern → Stand → List ℕ
warning_text concern s =
    with_hint (with_meaning (with_heading [] concern s ++ codes "  means: ") concern ++ codes "\n  hint: ") concern ++ codes "\n"
