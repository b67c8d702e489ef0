-- The packets in a drop-tail queue are served in turn, within the busy period of the packet in service.
use Rattle.std.specs.Prelude.{◌≡◌, ℕ, zero, suc, Some, option_map, option_to_list, List, [], ◌++◌, map, length}
use Rattle.std.specs.Option.{option_map_or}
use Rattle.emu_model.specs.declared.packets.Packet.{Packet}
use Rattle.emu_model.specs.declared.pipes.PipeConfig.{PipeConfig}
use Rattle.emu_model.specs.declared.pipes.Discipline.TheVariants.{TailDrop}
use Rattle.emu_model.specs.Rate.{finishes}
use Rattle.emu_model.specs.Pipes.{InService, Instance, instance_finish}

-- the finish of the packet in service
abbrev pub finish_of : Instance → ℕ
finish_of i = option_map_or (λ s. s.period.finish) i.service 0

-- the finishes of n waiting packets, each of which is served when the one before it finishes
abbrev pub drained : ℕ → PipeConfig → Instance → List ℕ
drained zero config i = []
drained (suc n) config i =
    let after = (instance_finish config (finish_of i) i).state in
    option_to_list (option_map (λ s. s.period.finish) after.service) ++ drained n config after

-- these are the finishes of one busy period, which continues from the packet in service
abbrev pub QueueIsServedInTurn : Type 0
QueueIsServedInTurn = (config : PipeConfig) (i : Instance) (s : InService Packet) → config.discipline ≡ TailDrop →
    i.service ≡ Some s →
    drained (length i.waiting) config i
    ≡ finishes config.bw s.period.start s.period.sum (map (λ w. w.size) i.waiting)
