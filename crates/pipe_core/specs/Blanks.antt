-- Instances without their keys: each key is replaced by 0.
use Rattle.std.specs.Prelude.{ℕ, option_map, map}
use Rattle.emu_model.specs.DropTail.{Queued}
use Rattle.emu_model.specs.Delay.{InFlight, Line}
use Rattle.emu_model.specs.Pipes.{InService}
use Rattle.pipe_core.specs.KeyedInstance.{KeyedInstance}

abbrev pub blank_waiting : Queued ℕ → Queued ℕ
blank_waiting w = record w { item = 0 }

abbrev pub blank_leaving : InFlight ℕ → InFlight ℕ
blank_leaving x = record x { item = 0 }

abbrev pub blank_service : InService ℕ → InService ℕ
blank_service s = record s { item = 0 }

abbrev pub blank_line : Line ℕ → Line ℕ
blank_line l = record l { in_flight = map blank_leaving l.in_flight }

abbrev pub blank : KeyedInstance → KeyedInstance
blank i = record {
  queue = record i.queue { waiting = map blank_waiting i.queue.waiting };
  service = record i.service { busy = option_map blank_service i.service.busy };
  delay_line = record i.delay_line { line = blank_line i.delay_line.line };
  draws = i.draws;
}
