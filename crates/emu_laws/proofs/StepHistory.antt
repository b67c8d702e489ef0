-- What a step does to the pipes is a history, which tells all that finishes in them and is dropped by them.
use Rattle.std.proofs.Common.{◌≡◌, ℕ, zero, suc, ◌+◌, List, [], ◌∷◌, ◌++◌, Bool, true, false, refl, sym, ◌∙◌, ap, subst, Option, Some, None, append_assoc, append-nil, add-one}
use Rattle.std.specs.Prelude.{if◌then◌else◌, is_some, nat_lt, map, flat_map, length, slice_get, ◌==◌}
use Rattle.std.specs.Option.{option_map_or}
use Rattle.std.specs.List.{AllByRecursion}
use Rattle.emu_laws.proofs.Types.{EventContext, Spec, Timed, Packet, PipeConfig, Lost, Full, Deleted, NoInstance, Record, PacketArrived, PacketFinished, PacketDelivered, PacketPassed, PacketDropped, Command, Class, NextCommand, Exit, Finish, Expiry, Emission}
use Rattle.emu_model.specs.Lists.{replace_first}
use Rattle.emu_model.specs.FlowIds.{flow_id}
use Rattle.emu_model.specs.Delay.{Line, leave}
use Rattle.emu_model.specs.DropTail.{Queued, accepts}
use Rattle.emu_model.specs.Pipes.{Instance, PipeState, After, Drop, InService, no_drop, drop_one, drawn_one, instance_arrive, instance_finish, serve_next, enqueue, accept, codel_drops, dequeue, put_instance, change_one, with_instance, draw, arrive_at, instance_for, pipe_arrive, pipe_finish, pipe_exit, pipe_configure, pipe_packets}
use Rattle.emu_model.specs.Net.{Net, initial_net, note, note_all, note_traced, drop_record, drop_packet, arrive_records, arrivals, identify_record, make_record, packet_of, find_pipe, put_pipe, put_after, to_direct, load_by, opening_net}
use Rattle.emu_model.specs.Commands.{with_pipe, new_pipe, delete_pipe}
use Rattle.emu_model.specs.Events.{served_in, note_finish}
use Rattle.emu_model.specs.declared.sources.Due.{Due}
use Rattle.emu_model.specs.Step.{State, setting, take_class, count_step, spend, is_last_step, next_event, step}
use Rattle.emu_model.specs.Alone.{alone}
use Rattle.emu_laws.specs.Happenings.{Happening, Coming, Finishing, InFlight, Configuring, Deleting, put_in, happen, after_all, known, finish_lines, deleted_lines, lines_of}
use Rattle.emu_laws.specs.RunHistories.{is_by_pipe, by_pipe, finishes_of, GoesOn, StepsAreHistories, RunsAreHistories}
use Rattle.emu_laws.proofs.EachOf.{either, some_or}
use Rattle.emu_laws.proofs.FinishLines.{finishes-by_pipe, finishes-told}
use Rattle.emu_laws.proofs.EventWalks.{IsSilent, IsQuietAt, Keeps, IsReadyAt, step_walks, step_or}

-- ---- what pipes drop

abbrev IsByPipe : Drop → Type 0
IsByPipe d = is_by_pipe d.cause ≡ true

codel-by_pipe : (ws : List (Queued Packet)) → AllByRecursion IsByPipe (codel_drops ws)
codel-by_pipe [] = tt
codel-by_pipe (w ∷ ws) = (refl, codel-by_pipe ws)

arrive-by_pipe : (config : PipeConfig) (now : ℕ) (p : Packet) (lost : Bool) (i : Instance) →
    AllByRecursion IsByPipe (instance_arrive config now p lost i).dropped
arrive-by_pipe config now p lost i =
    either P lost (drop_one i p Lost)
    (if accepts config.queue i.waiting p.size then accept config now p i else drop_one i p Full) (refl, tt)
    (either P (accepts config.queue i.waiting p.size) (accept config now p i) (drop_one i p Full)
    (either P (is_some i.service) (no_drop (enqueue now p i)) (serve_next config now (enqueue now p i)) tt
    (codel-by_pipe (dequeue config.discipline now i.control (enqueue now p i).waiting).dropped)) (refl, tt))
  where
    P : After Instance → Type 0
    P a = AllByRecursion IsByPipe a.dropped

change_one-by_pipe : (k : ℕ) (f : Instance → After Instance) (p : PipeState) →
    ((i : Instance) → AllByRecursion IsByPipe (f i).dropped) → AllByRecursion IsByPipe (change_one k f p).dropped
change_one-by_pipe k f p h =
    some_or (λ a. AllByRecursion IsByPipe a.dropped) (λ i. put_instance k p (f i)) (slice_get p.instances k) (no_drop p)
    (λ i e. h i) tt

pipe_arrive-by_pipe : (seed now : ℕ) (packet : Packet) (p : PipeState) →
    AllByRecursion IsByPipe (pipe_arrive seed now packet p).dropped
pipe_arrive-by_pipe seed now packet p =
    some_or (λ a. AllByRecursion IsByPipe a.dropped) (arrive_at seed now packet p) (instance_for packet p)
    (drop_one p packet NoInstance)
    (λ k e. change_one-by_pipe k (λ i. instance_arrive p.config now packet (draw seed p k i) (drawn_one i))
    (with_instance (flow_id p.config.mask packet) k p)
    (λ i. arrive-by_pipe p.config now packet (draw seed p k i) (drawn_one i))) (refl, tt)

pipe_finish-by_pipe : (now k : ℕ) (p : PipeState) → AllByRecursion IsByPipe (pipe_finish now k p).dropped
pipe_finish-by_pipe now k p =
    change_one-by_pipe k (instance_finish p.config now) p
    (λ i. codel-by_pipe (dequeue p.config.discipline now i.control i.waiting).dropped)

-- ---- what of records is by pipes

by_pipe-append : (rs ss : List Record) → flat_map by_pipe (rs ++ ss) ≡ flat_map by_pipe rs ++ flat_map by_pipe ss
by_pipe-append [] ss = refl
by_pipe-append (r ∷ rs) ss =
    ap (λ xs. by_pipe r ++ xs) (by_pipe-append rs ss)
    ∙ sym (append_assoc (by_pipe r) (flat_map by_pipe rs) (flat_map by_pipe ss))

dropped-by_pipe : (now : ℕ) (ds : List Drop) → AllByRecursion IsByPipe ds →
    flat_map by_pipe (map (drop_record now) ds) ≡ map (drop_record now) ds
dropped-by_pipe now [] h = refl
dropped-by_pipe now (d ∷ ds) h =
    ap (λ b. (if b then drop_record now d ∷ [] else []) ++ flat_map by_pipe (map (drop_record now) ds)) h.0
    ∙ ap (λ xs. drop_record now d ∷ xs) (dropped-by_pipe now ds h.1)

silent-by_pipe : (r : Record) → IsSilent r → by_pipe r ≡ []
silent-by_pipe (PacketFinished m p pipe k) h = absurd (cc h)
silent-by_pipe (PacketDropped m p l c) h = absurd (cc h)
silent-by_pipe _ h = refl

quiet-by_pipe : (now : ℕ) (rs : List Record) → AllByRecursion (IsQuietAt now) rs → flat_map by_pipe rs ≡ []
quiet-by_pipe now [] h = refl
quiet-by_pipe now (r ∷ rs) h =
    ap (λ xs. xs ++ flat_map by_pipe rs) (silent-by_pipe r h.0.silent) ∙ quiet-by_pipe now rs h.1

arrivals-by_pipe : (now : ℕ) (p : Packet) (q : PipeState) → flat_map by_pipe (arrivals now p q) ≡ []
arrivals-by_pipe now p q =
    some_or (λ rs. flat_map by_pipe rs ≡ []) (arrive_records now p q) (instance_for p q) []
    (λ k e. came k (nat_lt k (length q.instances))) refl
  where
    came : (k : ℕ) (b : Bool) → flat_map by_pipe (if b then PacketArrived now p.number q.number k ∷ []
        else identify_record now q.number k (flow_id q.config.mask p) ∷ PacketArrived now p.number q.number k ∷ []) ≡ []
    came k true = refl
    came k false = refl

if-none : (b : Bool) (rs : List Record) → flat_map by_pipe rs ≡ [] → flat_map by_pipe (if b then rs else []) ≡ []
if-none true rs h = h
if-none false rs h = refl

-- ---- histories one after another

pub after-append : (seed : ℕ) (hs js : List Happening) (ps : List PipeState) →
    after_all seed (hs ++ js) ps ≡ after_all seed js (after_all seed hs ps)
after-append seed [] js ps = refl
after-append seed (h ∷ hs) js ps = after-append seed hs js (happen seed h ps)

pub lines-append : (seed : ℕ) (hs js : List Happening) (ps : List PipeState) →
    lines_of seed (hs ++ js) ps ≡ lines_of seed hs ps ++ lines_of seed js (after_all seed hs ps)
lines-append seed [] js ps = refl
lines-append seed (h ∷ hs) js ps =
    ap (λ xs. (known seed h ps).lines ++ xs) (lines-append seed hs js (happen seed h ps))
    ∙ sym (append_assoc (known seed h ps).lines (lines_of seed hs (happen seed h ps))
    (lines_of seed js (after_all seed hs (happen seed h ps))))

-- one history goes on with another
going-on : (seed : ℕ) (l n m : Net) → GoesOn seed l n → GoesOn seed n m → GoesOn seed l m
going-on seed l n m g h = record {
  happenings = g.happenings ++ h.happenings;
  pipes = h.pipes ∙ ap (after_all seed h.happenings) g.pipes
      ∙ sym (after-append seed g.happenings h.happenings l.pipes);
  more = g.more ++ h.more;
  records = h.records ∙ ap (λ xs. xs ++ h.more) g.records ∙ append_assoc l.records g.more h.more;
  told = by_pipe-append g.more h.more
      ∙ ap (λ xs. xs ++ flat_map by_pipe h.more) g.told
      ∙ ap (λ xs. lines_of seed g.happenings l.pipes ++ xs)
      (h.told ∙ ap (lines_of seed h.happenings) g.pipes)
      ∙ sym (lines-append seed g.happenings h.happenings l.pipes);
}

-- pipes are as they were, and none of this is by them
nothing-by_pipe : (seed : ℕ) (n m : Net) (rs : List Record) → m.pipes ≡ n.pipes → m.records ≡ n.records ++ rs →
    flat_map by_pipe rs ≡ [] → GoesOn seed n m
nothing-by_pipe seed n m rs p r e = record { happenings = []; pipes = p; more = rs; records = r; told = e }

same-by_pipe : (seed : ℕ) (n m : Net) → m.pipes ≡ n.pipes → m.records ≡ n.records → GoesOn seed n m
same-by_pipe seed n m p r = nothing-by_pipe seed n m [] p (r ∙ sym (append-nil n.records)) refl

-- one happening
one-goes : (seed : ℕ) (h : Happening) (n m : Net) (rs : List Record) → m.pipes ≡ happen seed h n.pipes →
    m.records ≡ n.records ++ rs → flat_map by_pipe rs ≡ (known seed h n.pipes).lines → GoesOn seed n m
one-goes seed h n m rs p r e = record {
  happenings = h ∷ [];
  pipes = p;
  more = rs;
  records = r;
  told = e ∙ sym (append-nil (known seed h n.pipes).lines);
}

-- ---- each change goes on

arrived-goes : (seed now k : ℕ) (p : Packet) (q : PipeState) (n : Net) → find_pipe k n ≡ Some q →
    GoesOn seed n (put_after now k (pipe_arrive seed now p q) (note_traced (arrivals now p q) n))
arrived-goes seed now k p q n e =
    let come : List Record = if n.trace then arrivals now p q else [] in
    let ds : List Drop = (pipe_arrive seed now p q).dropped in
    one-goes seed (Coming now k p) n (put_after now k (pipe_arrive seed now p q) (note_traced (arrivals now p q) n))
    (come ++ map (drop_record now) ds)
    (ap (λ o. option_map_or (λ x. put_in k (pipe_arrive seed now p x).state n.pipes) o n.pipes) (sym e))
    (append_assoc n.records come (map (drop_record now) ds))
    (by_pipe-append come (map (drop_record now) ds)
    ∙ ap (λ xs. xs ++ flat_map by_pipe (map (drop_record now) ds))
    (if-none n.trace (arrivals now p q) (arrivals-by_pipe now p q))
    ∙ dropped-by_pipe now ds (pipe_arrive-by_pipe seed now p q)
    ∙ ap (λ o. option_map_or (λ x. map (drop_record now) (pipe_arrive seed now p x).dropped) o []) (sym e))

finished-goes : (seed now pipe k : ℕ) (p : PipeState) (n : Net) → find_pipe pipe n ≡ Some p →
    GoesOn seed n (put_after now pipe (pipe_finish now k p) (note_finish now pipe k (served_in k p) n))
finished-goes seed now pipe k p n e =
    go (served_in k p) (finish_lines now pipe k p) refl
    (ap (λ o. option_map_or (λ x. finish_lines now pipe k x ++ map (drop_record now) (pipe_finish now k x).dropped) o [])
    (sym e))
  where
    ds : List Record
    ds = map (drop_record now) (pipe_finish now k p).dropped

    pipes : replace_first (λ q. q.number == pipe) (pipe_finish now k p).state n.pipes ≡ happen seed (Finishing now pipe k) n.pipes
    pipes = ap (λ o. option_map_or (λ x. put_in pipe (pipe_finish now k x).state n.pipes) o n.pipes) (sym e)

    drops : flat_map by_pipe ds ≡ ds
    drops = dropped-by_pipe now (pipe_finish now k p).dropped (pipe_finish-by_pipe now k p)

    go : (o : Option (InService Packet)) (line : List Record) →
        option_map_or (λ s. PacketFinished now s.item.number pipe k ∷ []) o [] ≡ line →
        line ++ ds ≡ (known seed (Finishing now pipe k) n.pipes).lines →
        GoesOn seed n (put_after now pipe (pipe_finish now k p) (note_finish now pipe k o n))
    go None line f g =
        one-goes seed (Finishing now pipe k) n (put_after now pipe (pipe_finish now k p) n) ds pipes refl
        (drops ∙ ap (λ xs. xs ++ ds) f ∙ g)
    go (Some s) line f g =
        let r : Record = PacketFinished now s.item.number pipe k in
        one-goes seed (Finishing now pipe k) n (put_after now pipe (pipe_finish now k p) (note r n)) (r ∷ ds) pipes
        (append_assoc n.records (r ∷ []) ds) (ap (λ xs. r ∷ xs) drops ∙ ap (λ xs. xs ++ ds) f ∙ g)

deleted-goes : (seed now k : ℕ) (p : PipeState) (n : Net) → find_pipe k n ≡ Some p →
    GoesOn seed n (delete_pipe now k n p)
deleted-goes seed now k p n e =
    one-goes seed (Deleting now k) n (delete_pipe now k n p) (deleted_lines now (pipe_packets p)) refl refl
    (dropped-by_pipe now (map (λ q. record { packet = q; cause = Deleted }) (pipe_packets p)) (all (pipe_packets p))
    ∙ ap (λ o. option_map_or (λ x. deleted_lines now (pipe_packets x)) o []) (sym e))
  where
    all : (qs : List Packet) → AllByRecursion IsByPipe (map (λ q. record { packet = q; cause = Deleted }) qs)
    all [] = tt
    all (q ∷ qs) = (refl, all qs)

left-goes : (seed pipe k : ℕ) (p : PipeState) (n : Net) → find_pipe pipe n ≡ Some p →
    GoesOn seed n (put_pipe pipe (pipe_exit k p) n)
left-goes seed pipe k p n e =
    one-goes seed (InFlight pipe k) n (put_pipe pipe (pipe_exit k p) n) []
    (ap (λ o. option_map_or (λ x. put_in pipe (pipe_exit k x) n.pipes) o n.pipes) (sym e))
    (sym (append-nil n.records)) refl

configured-goes : (seed k : ℕ) (config : PipeConfig) (p : PipeState) (n : Net) → find_pipe k n ≡ Some p →
    GoesOn seed n (put_pipe k (pipe_configure config p) n)
configured-goes seed k config p n e =
    one-goes seed (Configuring k config) n (put_pipe k (pipe_configure config p) n) []
    (ap (λ o. option_map_or (λ x. put_in k (pipe_configure config x) n.pipes) o
    (with_pipe (record { number = k; config = config; instances = [] }) n.pipes)) (sym e))
    (sym (append-nil n.records)) refl

opened-goes : (seed k : ℕ) (config : PipeConfig) (n : Net) → find_pipe k n ≡ None → GoesOn seed n (new_pipe k config n)
opened-goes seed k config n e =
    one-goes seed (Configuring k config) n (new_pipe k config n) []
    (ap (λ o. option_map_or (λ x. put_in k (pipe_configure config x) n.pipes) o
    (with_pipe (record { number = k; config = config; instances = [] }) n.pipes)) (sym e))
    (sym (append-nil n.records)) refl

-- any line is ready, and any command allowed
abbrev pub AnyLine : Line Packet → Type 0
AnyLine l = Unit {0}

abbrev pub AnyNet : Net → Type 0
AnyNet n = Unit {0}

abbrev pub AnyCommand : Command → Type 0
AnyCommand c = Unit {0}

goes-keeps : (at : EventContext) (l : Net) → Keeps at AnyLine AnyNet AnyCommand (λ o m. GoesOn at.seed l m)
goes-keeps at l = record {
  quiet = λ o n m a g. on n m g (same-by_pipe at.seed n m a.pipes a.records);
  traced = λ b n g. on n (record n { trace = b }) g (same-by_pipe at.seed n (record n { trace = b }) refl refl);
  said = λ rs n h g. on n (note_all rs n) g
      (nothing-by_pipe at.seed n (note_all rs n) rs refl refl (quiet-by_pipe at.now rs h));
  made = λ o send n g.
      let r : Record = make_record at.now o (packet_of (load_by o) send n.made) in
      let m : Net = note_traced (r ∷ []) (record n { made = n.made + 1 }) in
      on n m g (nothing-by_pipe at.seed n m (if n.trace then r ∷ [] else []) refl refl (if-none n.trace (r ∷ []) refl));
  placed = λ place p n g. g;
  dropped = λ cause p n e g. on n (drop_packet at.now cause p n) g
      (nothing-by_pipe at.seed n (drop_packet at.now cause p n) (PacketDropped at.now p.number p.load cause ∷ []) refl refl
      (ap (λ b. (if b then PacketDropped at.now p.number p.load cause ∷ [] else []) ++ []) e));
  entered = λ p n g. on n (to_direct at.now p n) g (same-by_pipe at.seed n (to_direct at.now p n) refl refl);
  left = λ n ready g. on n (record n { direct = leave n.direct }) g
      (same-by_pipe at.seed n (record n { direct = leave n.direct }) refl refl);
  delivered = λ p n g. on n (note (PacketDelivered at.now p.number p.load) n) g
      (nothing-by_pipe at.seed n (note (PacketDelivered at.now p.number p.load) n)
      (PacketDelivered at.now p.number p.load ∷ []) refl refl refl);
  arrived = λ k p q n e g. on n
      (put_after at.now k (pipe_arrive at.seed at.now p q) (note_traced (arrivals at.now p q) n)) g
      (arrived-goes at.seed at.now k p q n e);
  finished = λ pipe k p n known e g. on n
      (put_after at.now pipe (pipe_finish at.now k p) (note_finish at.now pipe k (served_in k p) n)) g
      (finished-goes at.seed at.now pipe k p n e);
  pipe_left = λ pipe k p n e ready g. on n (put_pipe pipe (pipe_exit k p) n) g (left-goes at.seed pipe k p n e);
  passed = λ pipe k q p n e ready f g.
      let there : Net = put_pipe pipe (pipe_exit k p) n in
      let r : Record = PacketPassed at.now q.number pipe k in
      on there (note r there) (on n there g (left-goes at.seed pipe k p n e))
      (nothing-by_pipe at.seed there (note r there) (r ∷ []) refl refl refl);
  configured = λ k config p n ok e g. on n (put_pipe k (pipe_configure config p) n) g
      (configured-goes at.seed k config p n e);
  opened = λ k config n ok e g. on n (new_pipe k config n) g (opened-goes at.seed k config n e);
  deleted = λ k p n e g. on n (delete_pipe at.now k n p) g (deleted-goes at.seed at.now k p n e);
}
  where
    on : (n m : Net) → GoesOn at.seed l n → GoesOn at.seed n m → GoesOn at.seed l m
    on n m g h = going-on at.seed l n m g h

pub always : (k : ℕ) (n : Net) → IsReadyAt AnyLine k n
always zero n = tt
always (suc k) n = λ p e i f. tt

step-goes : (s : State) → GoesOn s.spec.seed s.net (step s).net
step-goes s =
    step_or (λ t. GoesOn s.spec.seed s.net t.net) s (same-by_pipe s.spec.seed s.net s.net refl refl)
    (λ c rest e. step_walks AnyLine AnyNet AnyCommand (λ o m. GoesOn s.spec.seed s.net m) s c rest
    (goes-keeps (setting s.spec (next_event s c).moment) s.net) (λ x. always (next_event s c).source.number s.net) tt tt
    (same-by_pipe s.spec.seed s.net s.net refl refl))

-- the specification stays
taken-spec : (class : Class) (e : Due) (c : Timed) (rest : List Timed) (s : State) →
    (take_class class e c rest s).spec ≡ s.spec
taken-spec NextCommand e c rest s = refl
taken-spec Exit e c rest s = refl
taken-spec Finish e c rest s = refl
taken-spec Expiry e c rest s = refl
taken-spec Emission e c rest s = refl

counted-spec : (t : State) → (count_step t).spec ≡ t.spec
counted-spec t =
    let u : State = record t { steps = t.steps + 1 } in
    either (λ x. x.spec ≡ t.spec) (is_some t.ending) u (if is_last_step u then spend u else u) refl
    (either (λ x. x.spec ≡ t.spec) (is_last_step u) (spend u) u refl refl)

pub step-spec : (s : State) → (step s).spec ≡ s.spec
step-spec s =
    step_or (λ t. t.spec ≡ s.spec) s refl
    (λ c rest e.
    let d : Due = next_event s c in
    counted-spec (take_class d.source.class d c rest s) ∙ taken-spec d.source.class d c rest s)

pub alone-spec : (spec : Spec) (c : List Timed) (n : ℕ) → (alone spec c n).spec ≡ spec
alone-spec spec c zero = refl
alone-spec spec c (suc n) = step-spec (alone spec c n) ∙ alone-spec spec c n

next-goes : (spec : Spec) (c : List Timed) (n : ℕ) → GoesOn spec.seed (alone spec c n).net (alone spec c (suc n)).net
next-goes spec c n =
    subst (λ x. GoesOn x.seed (alone spec c n).net (alone spec c (suc n)).net) (alone-spec spec c n)
    (step-goes (alone spec c n))

pub steps_are_histories : StepsAreHistories
steps_are_histories spec c n = rw add-one (next-goes spec c n)

from-start : (spec : Spec) (c : List Timed) (n : ℕ) → GoesOn spec.seed initial_net (alone spec c n).net
from-start spec c zero = same-by_pipe spec.seed initial_net (opening_net spec.traced) refl refl
from-start spec c (suc n) =
    going-on spec.seed initial_net (alone spec c n).net (alone spec c (suc n)).net (from-start spec c n) (next-goes spec c n)

pub runs_are_histories : RunsAreHistories
runs_are_histories spec c n =
    let g : GoesOn spec.seed initial_net (alone spec c n).net = from-start spec c n in
    record {
      happenings = g.happenings;
      pipes = g.pipes;
      told = told g;
      finishes = λ pipe k.
          finishes-by_pipe pipe k (alone spec c n).net.records ∙ ap (finishes_of pipe k) (told g)
          ∙ finishes-told pipe k spec.seed g.happenings [];
    }
  where
    told : (g : GoesOn spec.seed initial_net (alone spec c n).net) →
        flat_map by_pipe (alone spec c n).net.records ≡ lines_of spec.seed g.happenings []
    told g = ap (flat_map by_pipe) g.records ∙ g.told
