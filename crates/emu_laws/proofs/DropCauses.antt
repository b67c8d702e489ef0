-- Why packets are dropped in whole runs: what each change of a net may say of a cause.
use Rattle.std.proofs.Common.{◌≡◌, ℕ, zero, suc, ◌+◌, ◌<◌, ◌≤◌, List, [], ◌∷◌, ◌++◌, length, Bool, true, false, refl, sym, ◌∙◌, ap, subst, Option, Some, None, arith}
use Rattle.std.specs.Prelude.{if◌then◌else◌, ◌&&◌, ◌||◌, nat_lt, ◌==◌, find, map, slice_get, sum_by, count_by}
use Rattle.std.specs.List.{AllByRecursion}
use Rattle.std.proofs.lemmas.Bool.{lt-ltb, ne_eqb}
use Rattle.std.proofs.lemmas.List.Sums.{sum_by-cons}
use Rattle.emu_laws.proofs.Types.{SendSpec, Plain, Seg, Ack, Tcp, Load, Spec, Timed, Packet, QueueLimit, Slots, KBytes, Discipline, TailDrop, PipeConfig, DropCause, Denied, NoPipe, NoInstance, Lost, Full, Codel, Deleted, Budget, Command, Config, PipeDelete, Record, PacketDelivered, PacketDropped, Origin}
use Rattle.emu_model.specs.FlowIds.{flow_id}
use Rattle.emu_model.specs.Delay.{first_item, leave}
use Rattle.emu_model.specs.Loss.{loss_word, is_below_rate}
use Rattle.emu_model.specs.DropTail.{Queued, accepts}
use Rattle.emu_model.specs.Pipes.{Instance, PipeState, After, Drop, pipe_packets, may_drop, dequeue, codel_drops, serve_next, no_drop, drop_one, enqueue, drawn_one, instance_arrive, instance_finish, put_instance, with_instance, draw, instance_for, arrive_at, pipe_arrive, pipe_finish, pipe_exit, pipe_configure}
use Rattle.emu_model.specs.Net.{Net, initial_net, note, note_traced, make_record, note_all, note_drops, drop_record, packet_of, held, cause_number, is_drop_of, drops_of, find_pipe, put_after, put_pipe, load_by}
use Rattle.emu_model.specs.Commands.{new_pipe, without_pipe, delete_pipe}
use Rattle.emu_model.specs.Events.{flying_in}
use Rattle.emu_model.specs.TraceLaws.{drops, EachPacketOnce}
use Rattle.emu_model.specs.Alone.{alone}
use Rattle.emu_model.proofs.CallerLemmas.{none_dropped}
use Rattle.emu_laws.specs.Losses.{turns_away, IsLossless, NothingIsLost, IsDropTail, CodelDropsNothing, TakesAll, IsRoomy, NoQueueIsFull, KeepsPipes, NothingGoesWithPipes, SparesPackets, is_refusal, refuses_ack, AcksPassTheBudget, turned_away, PipesDropNothing}
use Rattle.emu_laws.proofs.Counts.{one_if, count-cons}
use Rattle.emu_laws.proofs.FlowsKept.{anything}
use Rattle.emu_laws.proofs.EachOf.{either, some_or, each_joined, each_mapped, each_weaker, each_found, each_replaced, each_removed}
use Rattle.emu_laws.proofs.HeldWeights.{each_one, as-many, size, load, size_is, load_is, weigh_is, made-load, held_is, weigh-same, weigh-opened}
use Rattle.emu_laws.proofs.HeldBudget.{Within, within-keeps, none-weighs}
use Rattle.emu_laws.proofs.PipeDrops.{instance_arrive-drops, pipe_arrive-drops, pipe_finish-drops}
use Rattle.emu_laws.proofs.PipesKept.{with_pipe-each}
use Rattle.emu_laws.proofs.EachChange.{Keeps}
use Rattle.emu_laws.proofs.EachRecord.{IsSent, Phase, starting, leaving, moving, handed, counted, came, owed, ended, flying, IsSilent, Tells, steps_tell}

-- what is known of each pipe's configuration, and what may be said of a cause
pub record Causes (b : ℕ) (Allowed : Command → Type 0) (C : PipeConfig → Type 0) (D : Load → DropCause → Type 0) : Type 0 where
  pub config : (k : ℕ) (config : PipeConfig) → Allowed (Config k config) → C config
  pub turned : (l : Load) (cause : DropCause) → turns_away cause ≡ true → (cause ≡ Budget → ⊥) → D l cause
  pub refused : (l : Load) → ((k upto : ℕ) → l ≡ Ack k upto → ⊥) → D l Budget
  pub lost : (config : PipeConfig) → C config → (config.plr ≡ 0 → ⊥) → (l : Load) → D l Lost
  pub full : (config : PipeConfig) (ws : List (Queued Packet)) (size : ℕ) → C config → length ws < b →
      accepts config.queue ws size ≡ false → (l : Load) → D l Full
  pub codel : (config : PipeConfig) → C config → (config.discipline ≡ TailDrop → ⊥) → (l : Load) → D l Codel
  pub deleted : (k : ℕ) → Allowed (PipeDelete k) → (l : Load) → D l Deleted

-- where a record says that a packet is dropped, this is said of its load and the cause
abbrev pub IsCaused : (Load → DropCause → Type 0) → Record → Type 0
IsCaused D (PacketDropped moment packet load cause) = D load cause
IsCaused D _ = Unit {0}

silent-caused : (D : Load → DropCause → Type 0) (r : Record) → IsSilent r → IsCaused D r
silent-caused D (PacketDropped moment packet load cause) e = absurd (cc e)
silent-caused D _ e = tt

pub found-le : {A : Type 0} (f : A → ℕ) (test : A → Bool) (x : A) (xs : List A) → find test xs ≡ Some x →
    f x ≤ sum_by f xs
found-le f test x [] e = absurd (cc e)
found-le f test x (z ∷ zs) e = go (test z) e (λ g. found-le f test x zs g)
  where
    go : (b : Bool) → (if b then Some z else find test zs) ≡ Some x → (find test zs ≡ Some x → f x ≤ sum_by f zs) →
        f x ≤ sum_by f (z ∷ zs)
    go true g later =
        let same : z ≡ x = cc g in
        omega (arith, ap f same, sum_by-cons f z zs)
    go false g later = omega (arith, later g, sum_by-cons f z zs)

pub got-le : {A : Type 0} (f : A → ℕ) (x : A) (xs : List A) (k : ℕ) → slice_get xs k ≡ Some x → f x ≤ sum_by f xs
got-le f x [] k e = absurd (cc e)
got-le f x (y ∷ ys) zero e =
    let same : y ≡ x = cc e in
    omega (arith, ap f same, sum_by-cons f y ys)
got-le f x (y ∷ ys) (suc k) e = omega (arith, sum_by-cons f y ys, got-le f x ys k e)

waiting-size : (i : Instance) → length i.waiting ≤ size each_one i
waiting-size i = omega (arith, size_is each_one i, as-many (λ (v : Queued Packet). v.item) i.waiting)

-- loss rate 0 loses nothing
rate-above : (plr word : ℕ) → is_below_rate plr word ≡ true → plr ≡ 0 → ⊥
rate-above zero word e g = absurd (cc e)
rate-above (suc plr) word e g = absurd (omega (arith, g))

may-not-both : (d : Discipline) → may_drop d ≡ true → d ≡ TailDrop → ⊥
may-not-both d may tail = clash (sym may ∙ ap may_drop tail)
  where
    clash : true ≡ false → ⊥
    clash e = cc e

-- what a pipe does changes no configuration
arrive-config : (seed now : ℕ) (packet : Packet) (p : PipeState) → (pipe_arrive seed now packet p).state.config ≡ p.config
arrive-config seed now packet p =
    some_or (λ a. a.state.config ≡ p.config) (arrive_at seed now packet p) (instance_for packet p)
    (drop_one p packet NoInstance)
    (λ k e.
    let q : PipeState = with_instance (flow_id p.config.mask packet) k p in
    some_or (λ a. a.state.config ≡ p.config)
    (λ i. put_instance k q (instance_arrive p.config now packet (draw seed p k i) (drawn_one i)))
    (slice_get q.instances k) (no_drop q) (λ i g. made k) (made k)) refl
  where
    made : (k : ℕ) → (with_instance (flow_id p.config.mask packet) k p).config ≡ p.config
    made k = either (λ q. q.config ≡ p.config) (nat_lt k (length p.instances)) p _ refl refl

finish-config : (now k : ℕ) (p : PipeState) → (pipe_finish now k p).state.config ≡ p.config
finish-config now k p =
    some_or (λ a. a.state.config ≡ p.config) (λ i. put_instance k p (instance_finish p.config now i))
    (slice_get p.instances k) (no_drop p) (λ i e. refl) refl

-- what is held is within the budget, also once rules, flows and records are other
pub within-alike : (b : ℕ) (o : Option Packet) (n m : Net) → m.direct ≡ n.direct → m.pipes ≡ n.pipes → Within b o n →
    Within b o m
unfolding Within
within-alike b o n m d p h = omega (arith, h, weigh-same each_one n m d p)

within-made : (b : ℕ) (p : Packet) (n : Net) → held n < b → Within b (Some p) n
unfolding Within
within-made b p n few = omega (arith, few, held_is n)

within-load : (b k : ℕ) (p : Packet) (q : PipeState) (n : Net) → find_pipe k n ≡ Some q → Within b (Some p) n →
    load each_one q < b
unfolding Within
within-load b k p q n e h =
    omega (arith, h, weigh_is each_one n, found-le (load each_one) (λ x. x.number == k) q n.pipes e)

within-opened : (b k : ℕ) (config : PipeConfig) (n : Net) → Within b None n → Within b None (new_pipe k config n)
unfolding Within
within-opened b k config n h = omega (arith, h, weigh-opened each_one k config n)

none-within : (b : ℕ) → Within b None initial_net
unfolding Within
none-within b = omega (arith, none-weighs)

-- the packet that an acknowledgement answers has left, so one more may be held
nobody : Packet
nobody = packet_of Plain (record { proto = Tcp; src = 0; sport = 0; dst = 0; dport = 0; size = 0 }) 0

within-any : (b : ℕ) (p q : Packet) (n : Net) → Within b (Some p) n → Within b (Some q) n
unfolding Within
within-any b p q n h = omega (arith, h)

within-few : (b : ℕ) (p : Packet) (n : Net) → Within b (Some p) n → held n < b
unfolding Within
within-few b p n h = omega (arith, h, held_is n)

-- the packet that a phase holds
abbrev packet_in : Phase → Option Packet
packet_in starting = None
packet_in ended = None
packet_in (leaving p) = Some p
packet_in (moving start p) = Some p
packet_in (handed k p) = Some p
packet_in (came now p) = Some p
packet_in (owed now (Ack k upto) send) = Some nobody
packet_in (owed now l send) = None

module _ (b : ℕ) (Allowed : Command → Type 0) (C : PipeConfig → Type 0) (D : Load → DropCause → Type 0)
    (causes : Causes b Allowed C D) where
  abbrev EachCaused : List Drop → Type 0
  EachCaused ds = AllByRecursion (λ d. D d.packet.load d.cause) ds

  codel-caused : ((l : Load) → D l Codel) → (ws : List (Queued Packet)) → EachCaused (codel_drops ws)
  codel-caused d [] = tt
  codel-caused d (w ∷ ws) = (d w.item.load, codel-caused d ws)

  next-caused : (config : PipeConfig) (now : ℕ) (i : Instance) → C config →
      EachCaused (serve_next config now i).dropped
  next-caused config now i c = go (may_drop config.discipline) refl
    where
      dropped : List (Queued Packet)
      dropped = (dequeue config.discipline now i.control i.waiting).dropped

      go : (b : Bool) → may_drop config.discipline ≡ b → EachCaused (codel_drops dropped)
      go false e =
          subst (λ ws. EachCaused (codel_drops ws)) (sym (none_dropped config.discipline now i.control i.waiting e)) tt
      go true e = codel-caused (causes.codel config c (may-not-both config.discipline e)) dropped

  pipe_arrive-caused : (seed now : ℕ) (packet : Packet) (p : PipeState) → C p.config → load each_one p < b →
      EachCaused (pipe_arrive seed now packet p).dropped
  pipe_arrive-caused seed now packet p c few =
      pipe_arrive-drops (λ d. D d.packet.load d.cause) seed now packet p
      (λ none. causes.turned packet.load NoInstance refl (λ g. cc g))
      (λ k i there e.
      let q : PipeState = with_instance (flow_id p.config.mask packet) k p in
      instance_arrive-drops (λ d. D d.packet.load d.cause) p.config now packet (draw seed p k i) (drawn_one i)
      (λ lost. causes.lost p.config c (rate-above p.config.plr (loss_word seed p.number k i.drawn) lost) packet.load)
      (λ refused. causes.full p.config i.waiting packet.size c
      (omega (
        arith,
        few,
        made-load each_one (flow_id p.config.mask packet) k p,
        load_is each_one q,
        got-le (size each_one) i q.instances k e,
        waiting-size i,
      )) refused packet.load) (λ idle. next-caused p.config now (enqueue now packet (drawn_one i)) c))

  pipe_finish-caused : (now k : ℕ) (p : PipeState) → C p.config → EachCaused (pipe_finish now k p).dropped
  pipe_finish-caused now k p c =
      pipe_finish-drops (λ d. D d.packet.load d.cause) now k p (λ i. next-caused p.config now i c)

  all-deleted : ((l : Load) → D l Deleted) → (ps : List Packet) → EachCaused (map (λ q. record { packet = q; cause = Deleted }) ps)
  all-deleted d [] = tt
  all-deleted d (p ∷ ps) = (d p.load, all-deleted d ps)

  record Told (o : Phase) (n : Net) : Type 0 where
    within : Within b (packet_in o) n
    configs : AllByRecursion (λ p. C p.config) n.pipes
    drops : AllByRecursion (IsCaused D) n.records

  drops-told : (now : ℕ) (ds : List Drop) (rs : List Record) → EachCaused ds → AllByRecursion (IsCaused D) rs →
      AllByRecursion (IsCaused D) (rs ++ map (drop_record now) ds)
  drops-told now ds rs e h =
      each_joined (IsCaused D) rs (map (drop_record now) ds) h
      (each_mapped (λ (d : Drop). D d.packet.load d.cause) (IsCaused D) (drop_record now) (λ d q. q) ds e)

  kept : Keeps b (λ f. Unit {0}) (λ c. Unit {0}) (Within b)
  kept = within-keeps b

  -- a pipe of the same configuration is put in its place
  put-configs : (k : ℕ) (p : PipeState) (n : Net) → C p.config → AllByRecursion (λ q. C q.config) n.pipes →
      AllByRecursion (λ q. C q.config) (put_pipe k p n).pipes
  put-configs k p n c h = each_replaced (λ q. C q.config) (λ q. q.number == k) p n.pipes c h

  same-packet : (o : Option Packet) → packet_in (flying o) ≡ o
  same-packet None = refl
  same-packet (Some p) = refl

  -- once packets were dropped that were not lost on the way
  dropped-told : (now : ℕ) (ds : List Drop) (n : Net) → EachCaused ds → Told ended n →
      Told ended (note_drops now ds n)
  dropped-told now ds n e h = record {
    within = within-alike b None n (note_drops now ds n) refl refl h.within;
    configs = h.configs;
    drops = drops-told now ds n.records e h.drops;
  }

  arrived-told : (seed now k : ℕ) (p : Packet) (q : PipeState) (n : Net) → find_pipe k n ≡ Some q → Told (handed k p) n →
      Told ended (put_after now k (pipe_arrive seed now p q) n)
  arrived-told seed now k p q n e h =
      let a : After PipeState = pipe_arrive seed now p q in
      let c : C q.config = each_found (λ x. C x.config) (λ x. x.number == k) q n.pipes e h.configs in
      dropped-told now a.dropped (put_pipe k a.state n)
      (pipe_arrive-caused seed now p q c (within-load b k p q n e h.within))
      (record {
        within = kept.arrived seed now k p q n e h.within;
        configs = put-configs k a.state n (subst C (sym (arrive-config seed now p q)) c) h.configs;
        drops = h.drops;
      })

  finished-told : (now pipe k : ℕ) (p : PipeState) (n : Net) → find_pipe pipe n ≡ Some p → Told starting n →
      Told ended (put_after now pipe (pipe_finish now k p) n)
  finished-told now pipe k p n e h =
      let a : After PipeState = pipe_finish now k p in
      let c : C p.config = each_found (λ x. C x.config) (λ x. x.number == pipe) p n.pipes e h.configs in
      dropped-told now a.dropped (put_pipe pipe a.state n) (pipe_finish-caused now k p c)
      (record {
        within = kept.finished now pipe k p n e h.within;
        configs = put-configs pipe a.state n (subst C (sym (finish-config now k p)) c) h.configs;
        drops = h.drops;
      })

  deleted-told : (now k : ℕ) (p : PipeState) (n : Net) → Allowed (PipeDelete k) → find_pipe k n ≡ Some p →
      Told starting n → Told ended (delete_pipe now k n p)
  deleted-told now k p n ok e h =
      dropped-told now (map (λ q. record { packet = q; cause = Deleted }) (pipe_packets p)) (without_pipe k n)
      (all-deleted (causes.deleted k ok) (pipe_packets p))
      (record {
        within = kept.deleted k p n e h.within;
        configs = each_removed (λ q. C q.config) (λ q. q.number == k) n.pipes h.configs;
        drops = h.drops;
      })

  -- a packet was made, which a traced run records
  abbrev begun : ℕ → Origin → Packet → Net → Net
  begun now l p n = note_traced (make_record now l p ∷ []) (record n { made = n.made + 1 })

  made-told : (now : ℕ) (l : Origin) (p : Packet) (n : Net) → AllByRecursion (IsCaused D) n.records →
      AllByRecursion (IsCaused D) (begun now l p n).records
  made-told now l p n h =
      each_joined (IsCaused D) n.records (if n.trace then make_record now l p ∷ [] else []) h
      (either (AllByRecursion (IsCaused D)) n.trace (make_record now l p ∷ []) [] (tt, tt) tt)

  within-owed : (now : ℕ) (l : Load) (send : SendSpec) (n : Net) → Within b (packet_in (owed now l send)) n → Within b None n
  within-owed now Plain send n h = h
  within-owed now (Seg k first) send n h = h
  within-owed now (Ack k upto) send n h = kept.lost nobody n h

  within-sent : (now : ℕ) (l : Load) (send : SendSpec) (n : Net) → IsSent Allowed l send n → Within b None n → Within b (packet_in (owed now l send)) n
  within-sent now Plain send n e h = h
  within-sent now (Seg k first) send n e h = h
  within-sent now (Ack k upto) send n e h = absurd e

  -- what is refused is no acknowledgement
  refused-caused : (l : Load) (send : SendSpec) (now : ℕ) (n : Net) → b ≤ held n → Within b (packet_in (owed now l send)) n → D l Budget
  refused-caused Plain send now n many h = causes.refused Plain (λ k upto e. cc e)
  refused-caused (Seg k first) send now n many h = causes.refused (Seg k first) (λ j upto e. cc e)
  refused-caused (Ack k upto) send now n many h = absurd (omega (arith, many, within-few b nobody n h))

  told-tells : (seed : ℕ) → Tells seed b Allowed Told
  told-tells seed = record {
    stood = λ n h. record { within = h.within; configs = h.configs; drops = h.drops };
    quiet = λ o n m late a h. record {
      within = within-alike b (packet_in o) n m a.direct a.pipes h.within;
      configs = subst (AllByRecursion (λ q. C q.config)) (sym a.pipes) h.configs;
      drops = subst (AllByRecursion (IsCaused D)) (sym a.records) h.drops;
    };
    said = λ o rs n a e h. record {
      within = within-alike b (packet_in o) n (note_all rs n) refl refl h.within;
      configs = h.configs;
      drops = each_joined (IsCaused D) n.records rs h.drops (each_weaker IsSilent (IsCaused D) (silent-caused D) rs e);
    };
    sent = λ now l send n e h. record { within = within-sent now l send n e h.within; configs = h.configs; drops = h.drops };
    answered = λ now k first upto send p n e there h. record { within = within-any b p nobody n h.within; configs = h.configs; drops = h.drops };
    made = λ now l send n few h.
        let p : Packet = packet_of (load_by l) send n.made in
        record {
          within = within-alike b (Some p) n (begun now l p n) refl refl (within-made b p n few);
          configs = h.configs;
          drops = made-told now l p n h.drops;
        };
    refused = λ now l send n many h.
        let p : Packet = packet_of (load_by l) send n.made in
        dropped-told now (record { packet = p; cause = Budget } ∷ []) (begun now l p n)
        (refused-caused (load_by l) send now n many h.within, tt)
        (record {
          within = within-alike b None n (begun now l p n) refl refl (within-owed now (load_by l) send n h.within);
          configs = h.configs;
          drops = made-told now l p n h.drops;
        });
    goes_on = λ p n h. record { within = h.within; configs = h.configs; drops = h.drops };
    denied = λ now start p n is h.
        dropped-told now (record { packet = p; cause = Denied } ∷ []) (counted start p n)
        (causes.turned p.load Denied refl (λ g. cc g), tt)
        (record {
          within = within-alike b None n (counted start p n) refl refl (kept.lost p n h.within);
          configs = h.configs;
          drops = h.drops;
        });
    entered = λ now start p n h.
        let m : Net = counted start p n in
        record {
          within = kept.entered now p m (within-alike b (Some p) n m refl refl h.within);
          configs = h.configs;
          drops = h.drops;
        };
    piped = λ start k place p n is h. record {
      within = within-alike b (Some (record p { place = place })) n (counted start p n) refl refl
          (kept.placed place p n h.within);
      configs = h.configs;
      drops = h.drops;
    };
    unpiped = λ now k p n none h.
        dropped-told now (record { packet = p; cause = NoPipe } ∷ []) n
        (causes.turned p.load NoPipe refl (λ g. cc g), tt)
        (record { within = kept.lost p n h.within; configs = h.configs; drops = h.drops });
    left = λ n h. record {
      within = subst (λ o. Within b o (record n { direct = leave n.direct })) (sym (same-packet (first_item n.direct.in_flight)))
          (kept.left n h.within);
      configs = h.configs;
      drops = h.drops;
    };
    delivered = λ now p n h. record {
      within = within-alike b (Some p) n (note (PacketDelivered now p.number p.load) n) refl refl h.within;
      configs = h.configs;
      drops = each_joined (IsCaused D) n.records _ h.drops (tt, tt);
    };
    taken = λ now p n e h. record { within = kept.lost p n h.within; configs = h.configs; drops = h.drops };
    arrived = arrived-told seed;
    finished = finished-told;
    pipe_left = λ pipe k p n e h. record {
      within = subst (λ o. Within b o (put_pipe pipe (pipe_exit k p) n)) (sym (same-packet (flying_in k p)))
          (kept.pipe_left pipe k p n e h.within);
      configs = put-configs pipe (pipe_exit k p) n
          (each_found (λ x. C x.config) (λ x. x.number == pipe) p n.pipes e h.configs) h.configs;
      drops = h.drops;
    };
    configured = λ k config p n ok e h. record {
      within = kept.configured k config p n tt e h.within;
      configs = put-configs k (pipe_configure config p) n (causes.config k config ok) h.configs;
      drops = h.drops;
    };
    opened = λ k config n ok h. record {
      within = within-opened b k config n h.within;
      configs = with_pipe-each (λ q. C q.config) (record { number = k; config = config; instances = [] }) n.pipes
          (causes.config k config ok) h.configs;
      drops = h.drops;
    };
    ruled = λ book n h. record {
      within = within-alike b None n (record n { book = book }) refl refl h.within;
      configs = h.configs;
      drops = h.drops;
    };
    deleted = deleted-told;
  }

-- in every state each drop has a cause of which this may be said
pub all-caused : (Allowed : Command → Type 0) (C : PipeConfig → Type 0) (D : Load → DropCause → Type 0) (spec : Spec)
    (c : List Timed) → Causes spec.budget.packets Allowed C D → AllByRecursion (λ t. Allowed t.command) c → (n : ℕ) →
    AllByRecursion (IsCaused D) (alone spec c n).net.records
all-caused Allowed C D spec c causes ok n =
    (steps_tell Allowed (Told spec.budget.packets Allowed C D causes) spec c
    (told-tells spec.budget.packets Allowed C D causes spec.seed)
    (λ m h. record { within = h.within; configs = h.configs; drops = h.drops }) ok
    (record { within = none-within spec.budget.packets; configs = tt; drops = tt }) n).drops

-- a cause other than x
abbrev IsOther : DropCause → DropCause → Type 0
IsOther x cause = (cause_number cause == cause_number x) ≡ false

none-dropped : (x : DropCause) (rs : List Record) → AllByRecursion (IsCaused (λ l. IsOther x)) rs → drops_of rs x ≡ 0
none-dropped x [] h = refl
none-dropped x (r ∷ rs) h =
    omega (arith, count-cons (is_drop_of x) r rs, one r h.0, none-dropped x rs h.1)
  where
    one : (r : Record) → IsCaused (λ l. IsOther x) r → one_if (is_drop_of x r) ≡ 0
    one (PacketDropped moment packet l cause) e = ap one_if e
    one _ e = refl

-- whether a cause turns away, by its number
by_number : ℕ → Bool
by_number n = (n == 1) || (n == 2) || (n == 3) || (n == 8)

turns-by_number : (cause : DropCause) → turns_away cause ≡ by_number (cause_number cause)
unfolding by_number
turns-by_number Denied = refl
turns-by_number NoPipe = refl
turns-by_number NoInstance = refl
turns-by_number Lost = refl
turns-by_number Full = refl
turns-by_number Codel = refl
turns-by_number Deleted = refl
turns-by_number Budget = refl

-- a cause that turns away is none that doesn't
turned-other : (x : DropCause) → turns_away x ≡ false → (cause : DropCause) → turns_away cause ≡ true → IsOther x cause
turned-other x e cause h =
    ne_eqb (cause_number cause) (cause_number x) (λ g.
    let same : turns_away cause ≡ turns_away x =
    turns-by_number cause ∙ ap by_number g ∙ sym (turns-by_number x) in
    absurd (clash (sym h ∙ same ∙ e)))
  where
    clash : true ≡ false → ⊥
    clash g = cc g

lost-causes : (b : ℕ) → Causes b IsLossless (λ config. config.plr ≡ 0) (λ l. IsOther Lost)
lost-causes b = record {
  config = λ k config ok. ok;
  turned = λ l cause e other. turned-other Lost refl cause e;
  refused = λ l e. refl;
  lost = λ config c e. absurd (e c);
  full = λ config ws size c few e l. refl;
  codel = λ config c e l. refl;
  deleted = λ k ok l. refl;
}

pub nothing_is_lost : NothingIsLost
nothing_is_lost spec c n ok =
    none-dropped Lost (alone spec c n).net.records
    (all-caused IsLossless (λ config. config.plr ≡ 0) (λ l. IsOther Lost) spec c (lost-causes spec.budget.packets) ok n)

codel-causes : (b : ℕ) → Causes b IsDropTail (λ config. config.discipline ≡ TailDrop) (λ l. IsOther Codel)
codel-causes b = record {
  config = λ k config ok. ok;
  turned = λ l cause e other. turned-other Codel refl cause e;
  refused = λ l e. refl;
  lost = λ config c e l. refl;
  full = λ config ws size c few e l. refl;
  codel = λ config c e. absurd (e c);
  deleted = λ k ok l. refl;
}

pub codel_drops_nothing : CodelDropsNothing
codel_drops_nothing spec c n ok =
    none-dropped Codel (alone spec c n).net.records
    (all-caused IsDropTail (λ config. config.discipline ≡ TailDrop) (λ l. IsOther Codel) spec c
    (codel-causes spec.budget.packets) ok n)

-- it accepts, while fewer wait than may be held
takes-all : (b : ℕ) (q : QueueLimit) (ws : List (Queued Packet)) (size : ℕ) → TakesAll b q → length ws < b →
    accepts q ws size ≡ false → ⊥
takes-all b (Slots n) ws size h few e = clash (sym (lt-ltb (length ws) n (omega (arith, h, few))) ∙ e)
  where
    clash : true ≡ false → ⊥
    clash g = cc g
takes-all b (KBytes n) ws size h few e = h

full-causes : (b : ℕ) → Causes b (IsRoomy b) (λ config. TakesAll b config.queue) (λ l. IsOther Full)
full-causes b = record {
  config = λ k config ok. ok;
  turned = λ l cause e other. turned-other Full refl cause e;
  refused = λ l e. refl;
  lost = λ config c e l. refl;
  full = λ config ws size c few e. absurd (takes-all b config.queue ws size c few e);
  codel = λ config c e l. refl;
  deleted = λ k ok l. refl;
}

pub no_queue_is_full : NoQueueIsFull
no_queue_is_full spec c n ok =
    none-dropped Full (alone spec c n).net.records
    (all-caused (IsRoomy spec.budget.packets) (λ config. TakesAll spec.budget.packets config.queue) (λ l. IsOther Full) spec c
    (full-causes spec.budget.packets) ok n)

deleted-causes : (b : ℕ) → Causes b KeepsPipes (λ config. Unit {0}) (λ l. IsOther Deleted)
deleted-causes b = record {
  config = λ k config ok. tt;
  turned = λ l cause e other. turned-other Deleted refl cause e;
  refused = λ l e. refl;
  lost = λ config c e l. refl;
  full = λ config ws size c few e l. refl;
  codel = λ config c e l. refl;
  deleted = λ k ok. absurd ok;
}

pub nothing_goes_with_pipes : NothingGoesWithPipes
nothing_goes_with_pipes spec c n ok =
    none-dropped Deleted (alone spec c n).net.records
    (all-caused KeepsPipes (λ config. Unit {0}) (λ l. IsOther Deleted) spec c (deleted-causes spec.budget.packets) ok n)

-- a configuration with which a pipe drops nothing but at its limit
record Spares (config : PipeConfig) : Type 0 where
  lossless : config.plr ≡ 0
  drop_tail : config.discipline ≡ TailDrop

-- it is turned away, or finds its queue full
abbrev turned_or_full : DropCause → Bool
turned_or_full Full = true
turned_or_full cause = turns_away cause

only-turned : (cause : DropCause) → turns_away cause ≡ true → turned_or_full cause ≡ true
only-turned Full e = refl
only-turned Denied e = refl
only-turned NoPipe e = refl
only-turned NoInstance e = refl
only-turned Budget e = refl
only-turned Lost e = e
only-turned Codel e = e
only-turned Deleted e = e

few-causes : (b : ℕ) → Causes b SparesPackets Spares (λ l cause. turned_or_full cause ≡ true)
few-causes b = record {
  config = λ k config ok. record { lossless = ok.lossless; drop_tail = ok.drop_tail };
  turned = λ l cause e other. only-turned cause e;
  refused = λ l e. refl;
  lost = λ config c e. absurd (e c.lossless);
  full = λ config ws size c few e l. refl;
  codel = λ config c e. absurd (e c.drop_tail);
  deleted = λ k ok. absurd ok.kept;
}

-- where none is full, what is dropped is turned away
all-turned : (k : ℕ) (rs : List Record) → AllByRecursion (IsCaused (λ l cause. turned_or_full cause ≡ true)) rs →
    drops_of rs Full ≡ 0 → count_by (drops k) rs ≡ count_by (turned_away k) rs
all-turned k [] h e = refl
all-turned k (r ∷ rs) h e =
    let parts : one_if (is_drop_of Full r) + drops_of rs Full ≡ 0 = sym (count-cons (is_drop_of Full) r rs) ∙ e in
    omega (
      arith,
      count-cons (drops k) r rs,
      count-cons (turned_away k) r rs,
      one r h.0 (omega (arith, parts)),
      all-turned k rs h.1 (omega (arith, parts)),
    )
  where
    turned : (cause : DropCause) → turned_or_full cause ≡ true → one_if (cause_number cause == cause_number Full) ≡ 0 →
        turns_away cause ≡ true
    turned Full e none = absurd (omega (arith, none))
    turned Denied e none = e
    turned NoPipe e none = e
    turned NoInstance e none = e
    turned Budget e none = e
    turned Lost e none = e
    turned Codel e none = e
    turned Deleted e none = e

    one : (r : Record) → IsCaused (λ l cause. turned_or_full cause ≡ true) r → one_if (is_drop_of Full r) ≡ 0 →
        one_if (drops k r) ≡ one_if (turned_away k r)
    one (PacketDropped moment packet l cause) e none =
        ap (λ b. one_if (b && (packet == k))) (sym (turned cause e none))
    one _ e none = refl

pub pipes_drop_nothing : EachPacketOnce → PipesDropNothing
pipes_drop_nothing once spec c n k ok none =
    let net : Net = (alone spec c n).net in
    omega (
      arith,
      once spec c n k,
      all-turned k net.records
          (all-caused SparesPackets Spares (λ l cause. turned_or_full cause ≡ true) spec c
          (few-causes spec.budget.packets) ok n) none,
    )

ack-causes : (b : ℕ) →
    Causes b (λ c. Unit {0}) (λ config. Unit {0}) (λ l cause. is_refusal cause l ≡ false)
ack-causes b = record {
  config = λ k config ok. tt;
  turned = other;
  refused = no_ack;
  lost = λ config c e l. refl;
  full = λ config ws size c few e l. refl;
  codel = λ config c e l. refl;
  deleted = λ k ok l. refl;
}
  where
    other : (l : Load) (cause : DropCause) → turns_away cause ≡ true → (cause ≡ Budget → ⊥) → is_refusal cause l ≡ false
    other l Budget e g = absurd (g refl)
    other l _ e g = refl

    no_ack : (l : Load) → ((k upto : ℕ) → l ≡ Ack k upto → ⊥) → is_refusal Budget l ≡ false
    no_ack (Ack k upto) e = absurd (e k upto refl)
    no_ack _ e = refl

none-refused : (rs : List Record) → AllByRecursion (IsCaused (λ l cause. is_refusal cause l ≡ false)) rs →
    count_by refuses_ack rs ≡ 0
none-refused [] h = refl
none-refused (r ∷ rs) h =
    omega (arith, count-cons refuses_ack r rs, one r h.0, none-refused rs h.1)
  where
    one : (r : Record) → IsCaused (λ l cause. is_refusal cause l ≡ false) r → one_if (refuses_ack r) ≡ 0
    one (PacketDropped moment packet l cause) e = ap one_if e
    one _ e = refl

pub acks_pass_the_budget : AcksPassTheBudget
acks_pass_the_budget spec c n =
    none-refused (alone spec c n).net.records
    (all-caused (λ x. Unit {0}) (λ config. Unit {0}) (λ l cause. is_refusal cause l ≡ false) spec c
    (ack-causes spec.budget.packets) (anything c) n)
