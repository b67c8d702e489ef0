-- What holds of each instance of a pipe, kept by what the pipe does to one of them.
use Rattle.std.proofs.Common.{◌≡◌, ℕ, [], ◌∷◌, ◌++◌, Bool, refl, Some}
use Rattle.std.specs.Prelude.{nat_lt, length, map, slice_get}
use Rattle.std.specs.List.{AllByRecursion}
use Rattle.emu_model.specs.Types.{Packet, PipeConfig, NoInstance}
use Rattle.emu_model.specs.FlowIds.{FlowId, flow_id, instance_of}
use Rattle.emu_model.specs.Pipes.{Instance, PipeState, After, initial_instance, no_drop, drop_one, drawn_one, instance_arrive, put_instance, change_one, with_instance, draw, arrive_at, pipe_arrive}
use Rattle.emu_model.proofs.AllFacts.{either, some_or, each_joined, each_got, each_changed}

-- a pipe of this configuration, of each instance of which this holds
pub record InPipe (P : Instance → Type 0) (c : PipeConfig) (p : PipeState) : Type 0 where
  pub config : p.config ≡ c
  pub each : AllByRecursion P p.instances

-- instance k put through f, which keeps what is said of it
pub change_one-each : (P : Instance → Type 0) (config : PipeConfig) (k : ℕ) (f : Instance → After Instance)
    (p : PipeState) → InPipe P config p →
    ((i : Instance) → slice_get p.instances k ≡ Some i → P i → P (f i).state) →
    InPipe P config (change_one k f p).state
change_one-each P config k f p h keeps =
    some_or (λ a. InPipe P config a.state) (λ i. put_instance k p (f i)) (slice_get p.instances k) (no_drop p)
    (λ i e. record {
      config = h.config;
      each = each_changed P (λ j. (f i).state) k p.instances
          (λ j q. keeps i e (each_got P i p.instances k e h.each)) h.each;
    }) h

-- a packet that comes, where it keeps what is said of an instance, and that holds of a new one
pub pipe_arrive-each : (P : Instance → Type 0) (seed now : ℕ) (packet : Packet) (p : PipeState) →
    ((id : FlowId) → P (initial_instance id)) →
    ((lost : Bool) (i : Instance) → P i → P (instance_arrive p.config now packet lost (drawn_one i)).state) →
    AllByRecursion P p.instances → InPipe P p.config (pipe_arrive seed now packet p).state
pipe_arrive-each P seed now packet p opens comes h =
    some_or (λ a. InPipe P p.config a.state) (arrive_at seed now packet p)
    (instance_of (map (λ i. i.id) p.instances) (flow_id p.config.mask packet)) (drop_one p packet NoInstance)
    (λ k e. change_one-each P p.config k
    (λ i. instance_arrive p.config now packet (draw seed p k i) (drawn_one i)) (with_instance id k p) (opened k)
    (λ i g q. comes (draw seed p k i) i q)) same
  where
    id : FlowId
    id = flow_id p.config.mask packet

    new : PipeState
    new = record p { instances = p.instances ++ initial_instance id ∷ [] }

    same : InPipe P p.config p
    same = record { config = refl; each = h }

    opened : (k : ℕ) → InPipe P p.config (with_instance id k p)
    opened k =
        either (InPipe P p.config) (nat_lt k (length p.instances)) p new same
        (record { config = refl; each = each_joined P p.instances (initial_instance id ∷ []) h (opens id, tt) })
