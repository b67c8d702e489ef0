-- What is kept of each instance by each change of it holds of each instance in every state of a run.
use Rattle.std.proofs.Common.{◌≡◌, ℕ, List, [], ◌∷◌, ◌++◌, Bool, refl, sym, subst, Some}
use Rattle.std.specs.Prelude.{nat_lt, ◌==◌, length, map, slice_get}
use Rattle.std.specs.List.{AllByRecursion}
use Rattle.std.proofs.lemmas.Bool.{eqb-true}
use Rattle.emu_model.specs.Lists.{replace_first}
use Rattle.emu_laws.proofs.Types.{Spec, Timed, Packet, PipeConfig, NoInstance, Command, Config}
use Rattle.emu_model.specs.FlowIds.{FlowId, flow_id, instance_of}
use Rattle.emu_model.specs.Delay.{leave}
use Rattle.emu_model.specs.Pipes.{Instance, PipeState, After, initial_instance, no_drop, drop_one, drawn_one, instance_arrive, instance_finish, instance_configure, put_instance, change_one, with_instance, draw, arrive_at, pipe_arrive, pipe_finish, pipe_exit, pipe_configure}
use Rattle.emu_model.specs.Net.{Net, find_pipe}
use Rattle.emu_model.specs.Commands.{with_pipe}
use Rattle.emu_model.specs.Alone.{alone}
use Rattle.emu_laws.proofs.EachOf.{either, some_or, each_joined, each_mapped, each_got, each_changed, each_found, each_replaced, each_removed}
use Rattle.emu_laws.proofs.EachChange.{Keeps, steps_keep, found-passes}

-- a pipe of this number and configuration, of each instance of which this holds
pub record InPipe (P : Instance → Type 0) (k : ℕ) (c : PipeConfig) (p : PipeState) : Type 0 where
  pub number : p.number ≡ k
  pub config : p.config ≡ c
  pub each : AllByRecursion P p.instances

-- instance k put through f, which keeps what is said of it
pub change_one-each : (P : Instance → Type 0) (number : ℕ) (config : PipeConfig) (k : ℕ) (f : Instance → After Instance)
    (p : PipeState) → InPipe P number config p → ((i : Instance) → P i → P (f i).state) →
    InPipe P number config (change_one k f p).state
change_one-each P number config k f p h keeps =
    some_or (λ a. InPipe P number config a.state) (λ i. put_instance k p (f i)) (slice_get p.instances k) (no_drop p)
    (λ i e. record {
      number = h.number;
      config = h.config;
      each = each_changed P (λ j. (f i).state) k p.instances
          (λ j q. keeps i (each_got P i p.instances k e h.each)) h.each;
    }) h

-- a packet that comes, where it keeps what is said of an instance, and that holds of a new one
pub pipe_arrive-each : (P : Instance → Type 0) (seed now : ℕ) (packet : Packet) (p : PipeState) →
    ((id : FlowId) → P (initial_instance id)) →
    ((lost : Bool) (i : Instance) → P i → P (instance_arrive p.config now packet lost (drawn_one i)).state) →
    AllByRecursion P p.instances → InPipe P p.number p.config (pipe_arrive seed now packet p).state
pipe_arrive-each P seed now packet p opens comes h =
    some_or (λ a. InPipe P p.number p.config a.state) (arrive_at seed now packet p)
    (instance_of (map (λ i. i.id) p.instances) (flow_id p.config.mask packet)) (drop_one p packet NoInstance)
    (λ k e. change_one-each P p.number p.config k
    (λ i. instance_arrive p.config now packet (draw seed p k i) (drawn_one i)) (with_instance id k p) (opened k)
    (λ i q. comes (draw seed p k i) i q)) same
  where
    id : FlowId
    id = flow_id p.config.mask packet

    new : PipeState
    new = record p { instances = p.instances ++ initial_instance id ∷ [] }

    same : InPipe P p.number p.config p
    same = record { number = refl; config = refl; each = h }

    opened : (k : ℕ) → InPipe P p.number p.config (with_instance id k p)
    opened k =
        either (InPipe P p.number p.config) (nat_lt k (length p.instances)) p new same
        (record {
          number = refl;
          config = refl;
          each = each_joined P p.instances (initial_instance id ∷ []) h (opens id, tt);
        })

pub with_pipe-each : (P : PipeState → Type 0) (p : PipeState) (ps : List PipeState) → P p → AllByRecursion P ps →
    AllByRecursion P (with_pipe p ps)
with_pipe-each P p [] q s = (q, tt)
with_pipe-each P p (x ∷ xs) q s =
    either (AllByRecursion P) (nat_lt p.number x.number) (p ∷ x ∷ xs) (x ∷ with_pipe p xs) (q, s)
    (s.0, with_pipe-each P p xs q s.1)

-- what each change of an instance keeps of it, and what its pipe's configuration is
pub record InstanceKeeps (Allowed : Command → Type 0) (C : ℕ → PipeConfig → Type 0) (I : ℕ → PipeConfig → Instance → Type 0) : Type 0 where
  pub config : (k : ℕ) (config : PipeConfig) → Allowed (Config k config) → C k config
  pub opened : (k : ℕ) (config : PipeConfig) (id : FlowId) → I k config (initial_instance id)
  pub arrived : (k : ℕ) (config : PipeConfig) (now : ℕ) (packet : Packet) (lost : Bool) (i : Instance) →
      C k config → I k config i → I k config (instance_arrive config now packet lost (drawn_one i)).state
  pub finished : (k : ℕ) (config : PipeConfig) (now : ℕ) (i : Instance) → C k config → I k config i →
      I k config (instance_finish config now i).state
  pub left : (k : ℕ) (config : PipeConfig) (i : Instance) → I k config i → I k config (record i { line = leave i.line })
  pub configured : (k : ℕ) (old new : PipeConfig) (i : Instance) → I k old i → I k new (instance_configure old new i)

module _ (Allowed : Command → Type 0) (C : ℕ → PipeConfig → Type 0) (I : ℕ → PipeConfig → Instance → Type 0)
    (keeps : InstanceKeeps Allowed C I) where
  pub record Each (p : PipeState) : Type 0 where
    pub config : C p.number p.config
    pub instances : AllByRecursion (I p.number p.config) p.instances

  in-pipe : (k : ℕ) (c : PipeConfig) (p : PipeState) → C k c → InPipe (I k c) k c p → Each p
  in-pipe k c p d h = record {
    config = subst (λ j. C j p.config) (sym h.number) (subst (λ x. C k x) (sym h.config) d);
    instances = subst (λ j. AllByRecursion (I j p.config) p.instances) (sym h.number)
        (subst (λ x. AllByRecursion (I k x) p.instances) (sym h.config) h.each);
  }

  arrive : (seed now : ℕ) (packet : Packet) (p : PipeState) → Each p → Each (pipe_arrive seed now packet p).state
  arrive seed now packet p h =
      in-pipe p.number p.config (pipe_arrive seed now packet p).state h.config
      (pipe_arrive-each (I p.number p.config) seed now packet p (keeps.opened p.number p.config)
      (λ lost i q. keeps.arrived p.number p.config now packet lost i h.config q) h.instances)

  finish : (now k : ℕ) (p : PipeState) → Each p → Each (pipe_finish now k p).state
  finish now k p h =
      in-pipe p.number p.config (pipe_finish now k p).state h.config
      (change_one-each (I p.number p.config) p.number p.config k (instance_finish p.config now) p
      (record { number = refl; config = refl; each = h.instances })
      (λ i q. keeps.finished p.number p.config now i h.config q))

  exit : (k : ℕ) (p : PipeState) → Each p → Each (pipe_exit k p)
  exit k p h = record {
    config = h.config;
    instances = each_changed (I p.number p.config) (λ i. record i { line = leave i.line }) k p.instances
        (λ i q. keeps.left p.number p.config i q) h.instances;
  }

  configure : (k : ℕ) (config : PipeConfig) (p : PipeState) → p.number ≡ k → Allowed (Config k config) → Each p →
      Each (pipe_configure config p)
  configure k config p e ok h = record {
    config = subst (λ j. C j config) (sym e) (keeps.config k config ok);
    instances = each_mapped (I p.number p.config) (I p.number config) (instance_configure p.config config)
        (λ i q. keeps.configured p.number p.config config i q) p.instances h.instances;
  }

  found : (k : ℕ) (p : PipeState) (n : Net) → find_pipe k n ≡ Some p → AllByRecursion Each n.pipes → Each p
  found k p n e h = each_found Each (λ q. q.number == k) p n.pipes e h

  put : (k : ℕ) (p : PipeState) (n : Net) → Each p → AllByRecursion Each n.pipes →
      AllByRecursion Each (replace_first (λ q. q.number == k) p n.pipes)
  put k p n q h = each_replaced Each (λ x. x.number == k) p n.pipes q h

  pipes-keep : (b : ℕ) → Keeps b (λ f. Unit {0}) Allowed (λ o n. AllByRecursion Each n.pipes)
  pipes-keep b = record {
    quiet = λ o n m a h. subst (AllByRecursion Each) (sym a.pipes) h;
    lost = λ p n h. h;
    made = λ number l send n few true_of h. h;
    placed = λ place p n h. h;
    entered = λ now p n h. h;
    left = λ n h. h;
    arrived = λ seed now k p q n e h. put k (pipe_arrive seed now p q).state n (arrive seed now p q (found k q n e h)) h;
    finished = λ now pipe k p n e h. put pipe (pipe_finish now k p).state n (finish now k p (found pipe p n e h)) h;
    pipe_left = λ pipe k p n e h. put pipe (pipe_exit k p) n (exit k p (found pipe p n e h)) h;
    configured = λ k config p n ok e h. put k (pipe_configure config p) n
        (configure k config p (eqb-true p.number k (found-passes (λ q. q.number == k) p n.pipes e)) ok
        (found k p n e h)) h;
    opened = λ k config n ok e h. with_pipe-each Each (record { number = k; config = config; instances = [] }) n.pipes
        (record { config = keeps.config k config ok; instances = tt }) h;
    deleted = λ k p n e h. each_removed Each (λ q. q.number == k) n.pipes h;
    came = λ k first p f n is e h. h;
    acked = λ now k upto p f n is e h. h;
    expired = λ now k f n e h. h;
    emitted = λ now k f n e sends h. h;
    stopped = λ k f n e h. h;
    started = λ k f n ok new h. h;
  }

  pub alone-pipes : (spec : Spec) (c : List Timed) (n : ℕ) → AllByRecursion (λ t. Allowed t.command) c →
      AllByRecursion Each (alone spec c n).net.pipes
  alone-pipes spec c n ok =
      steps_keep (λ f. Unit {0}) Allowed (λ o m. AllByRecursion Each m.pipes) spec c (pipes-keep spec.budget.packets)
      (λ k t h e none f there. tt) ok tt n
