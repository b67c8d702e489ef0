-- The steps of an instance, over keys.
use Rattle.std.specs.Prelude.{◌≡◌, ℕ, ◌+◌, Some, option_map, List, map}
use Rattle.emu_model.specs.declared.packets.Packet.{Packet}
use Rattle.emu_model.specs.declared.pipes.PipeConfig.{PipeConfig}
use Rattle.emu_model.specs.FlowIds.{FlowId}
use Rattle.emu_model.specs.DropTail.{Queued}
use Rattle.emu_model.specs.Pipes.{dequeue, cut_service, accept, no_drop, instance_finish, codel_drops, configured_control}
use Rattle.pipe_core.specs.KeyedInstance.{KeyedInstance, seen_instance, seen_waiting, keys_in, IsTuned, IsSameSetting}
use Rattle.pipe_core.specs.Uses.{total}

-- a key that the limit accepts entered: it waits, or is served at once
pub record IsAccept (now key size : ℕ) (old new : KeyedInstance) : Type 0 where
  pub shown : (f : ℕ → Packet) (id : FlowId) (config : PipeConfig) → IsTuned config old → (f key).size ≡ size →
      accept config now (f key) (seen_instance f id old) ≡ no_drop (seen_instance f id new)
  pub keys : (weight : ℕ → ℕ) → total weight (keys_in new) ≡ weight key + total weight (keys_in old)
  pub setting : IsSameSetting old new
  pub capacity : new.queue.capacity ≡ old.queue.capacity
  pub spare : new.delay_line.spare ≡ old.delay_line.spare

-- a finish: `key` entered the delay line, and `dropped` were dropped
pub record IsFinish (now delay : ℕ) (key : ℕ) (dropped : List (Queued ℕ)) (old new : KeyedInstance) : Type 0 where
  pub served : option_map (λ s. s.item) old.service.busy ≡ Some key
  pub dropped_are : dropped ≡ (dequeue old.queue.discipline now old.queue.control old.queue.waiting).dropped
  pub shown : (f : ℕ → Packet) (id : FlowId) (config : PipeConfig) → IsTuned config old → delay ≡ config.delay →
      instance_finish config now (seen_instance f id old)
      ≡ record { state = seen_instance f id new; dropped = codel_drops (map (seen_waiting f) dropped) }
  pub keys : (weight : ℕ → ℕ) → total weight (keys_in old) ≡ total weight (map (λ w. w.item) dropped) + total weight (keys_in new)
  pub setting : IsSameSetting old new

-- the instance after a change of its configuration
abbrev pub configured : PipeConfig → PipeConfig → KeyedInstance → KeyedInstance
configured old new i = record i {
  queue = record i.queue {
    limit = new.queue;
    discipline = new.discipline;
    control = configured_control old.discipline new.discipline i.queue.control;
  };
  service = record { bw = new.bw; busy = option_map cut_service i.service.busy };
}
