-- An instance that holds keys instead of packets, and its view, in which each key is replaced by its packet.
use Rattle.std.specs.Prelude.{◌≡◌, ℕ, Option, option_map, List, map}
use Rattle.emu_model.specs.declared.packets.Packet.{Packet}
use Rattle.emu_model.specs.declared.pipes.PipeConfig.{PipeConfig}
use Rattle.emu_model.specs.FlowIds.{FlowId}
use Rattle.emu_model.specs.DropTail.{Queued}
use Rattle.emu_model.specs.Delay.{InFlight, Line}
use Rattle.emu_model.specs.Pipes.{InService, InstanceOf, Instance, held_in}
use Rattle.queue_disc.specs.Queues.{DisciplinedQueue}
use Rattle.link_core.specs.Lane.{Lane}
use Rattle.loss_stream.specs.Draws.{Draws}

abbrev pub KeyedQueue : Type 0
KeyedQueue = DisciplinedQueue ℕ

-- the rate in bit/s, and the key in service with its busy period, if any
pub record KeyedService : Type 0 where
  pub bw : ℕ
  pub busy : Option (InService ℕ)

pub record KeyedInstance : Type 0 where
  pub queue : KeyedQueue
  pub service : KeyedService
  pub delay_line : Lane ℕ
  pub draws : Draws

abbrev pub seen_waiting : (ℕ → Packet) → Queued ℕ → Queued Packet
seen_waiting f w = record { item = f w.item; size = w.size; stamp = w.stamp }

abbrev pub seen_leaving : (ℕ → Packet) → InFlight ℕ → InFlight Packet
seen_leaving f x = record { item = f x.item; exit = x.exit }

abbrev pub seen_line : (ℕ → Packet) → Line ℕ → Line Packet
seen_line f l = record { in_flight = map (seen_leaving f) l.in_flight; last = l.last }

abbrev pub seen_service : (ℕ → Packet) → InService ℕ → InService Packet
seen_service f s = record { item = f s.item; period = s.period }

-- the view of an instance, where f maps each key to its packet
abbrev pub seen : (ℕ → Packet) → InstanceOf ℕ → Instance
seen f i = record {
  id = i.id;
  waiting = map (seen_waiting f) i.waiting;
  control = i.control;
  service = option_map (seen_service f) i.service;
  line = seen_line f i.line;
  drawn = i.drawn;
}

-- the instance in the form of the definitions, with keys instead of packets
abbrev pub kept : FlowId → KeyedInstance → InstanceOf ℕ
kept id i = record {
  id = id;
  waiting = i.queue.waiting;
  control = i.queue.control;
  service = i.service.busy;
  line = i.delay_line.line;
  drawn = i.draws.drawn;
}

abbrev pub seen_instance : (ℕ → Packet) → FlowId → KeyedInstance → Instance
seen_instance f id i = seen f (kept id i)

-- the keys in an instance, whatever its flow: those in flight, the one in service, and those that wait
abbrev pub keys_in : KeyedInstance → List ℕ
keys_in i = held_in (kept (record { proto = 0; src = 0; dst = 0; sport = 0; dport = 0 }) i)

-- the instance has the queue limit, the discipline and the rate of this configuration
pub record IsTuned (config : PipeConfig) (i : KeyedInstance) : Type 0 where
  pub limit : i.queue.limit ≡ config.queue
  pub discipline : i.queue.discipline ≡ config.discipline
  pub bw : i.service.bw ≡ config.bw

-- the parts that neither an accepted packet nor a finish changes: the limit, the discipline, the rate and the loss
-- stream
pub record IsSameSetting (old new : KeyedInstance) : Type 0 where
  pub limit : new.queue.limit ≡ old.queue.limit
  pub discipline : new.queue.discipline ≡ old.queue.discipline
  pub bw : new.service.bw ≡ old.service.bw
  pub draws : new.draws ≡ old.draws
