-- What the theorems are written with: makings of commands and records, with their fields in order, and lists that go
-- on alike. No definition stands here.
use Rattle.std.specs.Prelude.{ℕ, zero, suc, ◌+◌, Option, Some, None, List, [], ◌∷◌, ◌++◌, false}
use Rattle.emu_model.specs.Spans.{AddressSpan, PortSpan}
use Rattle.emu_model.specs.declared.packets.Protocol.{Protocol}
use Rattle.emu_model.specs.declared.rules.Action.{Action}
use Rattle.emu_model.specs.declared.rules.ProtocolMatch.{ProtocolMatch}
use Rattle.emu_model.specs.declared.rules.Rule.{Rule}
use Rattle.emu_model.specs.declared.pipes.QueueLimit.{QueueLimit}
use Rattle.emu_model.specs.declared.pipes.Discipline.{Discipline}
use Rattle.emu_model.specs.declared.pipes.Mask.{Mask}
use Rattle.emu_model.specs.declared.pipes.PipeConfig.{PipeConfig}
use Rattle.emu_model.specs.declared.sources.SendSpec.{SendSpec}
use Rattle.emu_model.specs.declared.sources.TrainSpec.{TrainSpec}
use Rattle.emu_model.specs.declared.sources.Timing.{Timing}
use Rattle.emu_model.specs.declared.sources.FlowSpec.{FlowSpec}
use Rattle.emu_model.specs.declared.commands.Spec.{Spec}
use Rattle.emu_model.specs.declared.commands.Command.{Command}
use Rattle.emu_model.specs.declared.commands.Timed.{Timed}
use Rattle.emu_model.specs.declared.records.Counters.{Counters}

-- f 0, f 1 and so on, n of them, one behind the other
abbrev pub runs_from : {A : Type 0} → ℕ → ℕ → (ℕ → List A) → List A
runs_from k zero f = []
runs_from k (suc n) f = f k ++ runs_from (k + 1) n f

abbrev pub runs : {A : Type 0} → ℕ → (ℕ → List A) → List A
runs n f = runs_from 0 n f

abbrev pub spec : ℕ → ℕ → ℕ → Spec
spec seed packets steps =
    record { seed = seed; budget = record { packets = packets; steps = steps }; traced = false }

abbrev pub at : ℕ → Command → Timed
at moment command = record { moment = moment; command = command }

abbrev pub anywhere : AddressSpan
anywhere = record { address = 0; len = 0 }

abbrev pub ports : ℕ → ℕ → Option PortSpan
ports first last = Some (record { first = first; last = last })

abbrev pub rule : ℕ → Action → ProtocolMatch → AddressSpan → Option PortSpan → AddressSpan →
    Option PortSpan → Rule
rule number action proto src sports dst dports = record {
  number = number;
  action = action;
  proto = proto;
  src = src;
  sports = sports;
  dst = dst;
  dports = dports;
}

abbrev pub rule_for_all : ℕ → Action → ProtocolMatch → Rule
rule_for_all number action proto = rule number action proto anywhere None anywhere None

abbrev pub masked : ℕ → ℕ → ℕ → ℕ → ℕ → Mask
masked proto src dst sport dport =
    record { proto = proto; src = src; dst = dst; sport = sport; dport = dport }

abbrev pub unmasked : Mask
unmasked = masked 0 0 0 0 0

abbrev pub pipe_with : ℕ → ℕ → QueueLimit → ℕ → Mask → Discipline → PipeConfig
pipe_with bw delay queue plr mask discipline = record {
  bw = bw;
  delay = delay;
  queue = queue;
  plr = plr;
  mask = mask;
  discipline = discipline;
}

abbrev pub packet : Protocol → ℕ → ℕ → ℕ → ℕ → ℕ → SendSpec
packet proto src sport dst dport size = record {
  proto = proto;
  src = src;
  sport = sport;
  dst = dst;
  dport = dport;
  size = size;
}

abbrev pub train : SendSpec → ℕ → ℕ → TrainSpec
train packet count gap = record { packet = packet; count = count; gap = gap }

abbrev pub flow : ℕ → ℕ → ℕ → ℕ → ℕ → ℕ → ℕ → ℕ → Timing → FlowSpec
flow src sport dst dport smss segments ssthresh rwnd timing = record {
  src = src;
  sport = sport;
  dst = dst;
  dport = dport;
  smss = smss;
  segments = segments;
  ssthresh = ssthresh;
  rwnd = rwnd;
  timing = timing;
}

abbrev pub counted : ℕ → ℕ → ℕ → ℕ → ℕ → ℕ → ℕ → ℕ → ℕ → ℕ → ℕ → Counters
counted made delivered held denied nopipe noinstance lost full codel deleted budget = record {
  made = made;
  delivered = delivered;
  held = held;
  drops = denied ∷ nopipe ∷ noinstance ∷ lost ∷ full ∷ codel ∷ deleted ∷ budget ∷ [];
}
