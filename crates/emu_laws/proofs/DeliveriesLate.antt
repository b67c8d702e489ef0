-- What is delivered waited for the delay of the pipes in which it finished, through all changes of a run.
use Rattle.std.proofs.Common.{◌≡◌, ℕ, zero, suc, ◌+◌, ◌<◌, ◌≤◌, List, [], ◌∷◌, ◌++◌, Bool, true, false, refl, sym, ◌∙◌, subst, Option, Some, None, append_assoc, append-nil, arith}
use Rattle.std.specs.Prelude.{if◌then◌else◌, ◌==◌, nat_lt, max, count_by, map, length, slice_get}
use Rattle.std.specs.List.{AllByRecursion}
use Rattle.std.proofs.lemmas.Bool.{eqb-true, eq-eqb, ltb-true}
use Rattle.emu_laws.proofs.Types.{EventContext, Spec, Timed, Packet, SendSpec, PipeConfig, DropCause, Deleted, Record, PacketArrived, PacketFinished, PacketDelivered, PacketPassed, PacketDropped, Command, Origin}
use Rattle.emu_model.specs.Lists.{replace_first}
use Rattle.emu_model.specs.FlowIds.{flow_id}
use Rattle.emu_model.specs.Moments.{milliseconds}
use Rattle.emu_model.specs.Delay.{first_item, leave}
use Rattle.emu_model.specs.Pipes.{InService, Instance, PipeState, Drop, instance_for, pipe_arrive, pipe_finish, pipe_exit, pipe_configure, pipe_packets}
use Rattle.emu_model.specs.Net.{Net, note, note_all, note_traced, drop_record, drop_packet, arrive_records, arrivals, identify_record, make_record, packet_of, find_pipe, put_pipe, put_after, to_direct, load_by}
use Rattle.emu_model.specs.Commands.{new_pipe, delete_pipe}
use Rattle.emu_model.specs.Events.{flying_in, served_in, note_finish}
use Rattle.emu_model.specs.RunLaws.{ConfiguresPipe, DuesDiffer}
use Rattle.emu_model.specs.DueLaws.{AreRising, DuesStayAhead}
use Rattle.emu_model.specs.TraceLaws.{delivers, drops, held_packets, once_made, EachPacketOnce}
use Rattle.emu_model.specs.Step.{State, setting, next_event, step_with}
use Rattle.emu_model.specs.Alone.{alone}
use Rattle.emu_laws.specs.DeliveryDelay.{DelaysPipe, DeliversFrom, WaitsInPipe, DeliveriesWait}
use Rattle.emu_laws.proofs.AckedCame.{OnWay}
use Rattle.emu_laws.proofs.EachOf.{some_or, each_joined, each_weaker, each_found, each_replaced, each_removed}
use Rattle.emu_laws.proofs.EachChange.{found-passes}
use Rattle.emu_laws.proofs.EventWalks.{IsSilent, IsQuietAt, Keeps, step_walks, step_or}
use Rattle.emu_laws.proofs.ExitsDue.{none-pass, IsOut, line_is_out}
use Rattle.emu_laws.proofs.HeldFrom.{Is, LeavesFrom, HoldsFrom, PipeFrom, entered-from, left-from, first-from, pipe_arrive-from, pipe_finish-from, pipe_exit-from, flying-from, pipe_configure-from, later-holds}
use Rattle.emu_laws.proofs.HeldOnce.{Serves, serves, served-held, FinishesLate, finishes_late}
use Rattle.emu_laws.proofs.PipesKept.{InstanceKeeps, Each, alone-pipes, with_pipe-each}
use Rattle.emu_laws.proofs.RecordsInOrder.{moved-clock, next-later}

-- ---- records that are neither a finish nor a delivery

is_plain : Record → Bool
is_plain (PacketFinished moment packet pipe instance) = false
is_plain (PacketDelivered moment packet load) = false
is_plain _ = true

abbrev IsPlain : Record → Type 0
IsPlain r = is_plain r ≡ true

silent-plain : (r : Record) → IsSilent r → IsPlain r
unfolding is_plain
silent-plain (PacketFinished moment packet pipe instance) h = absurd (cc h)
silent-plain (PacketDelivered moment packet load) h = absurd (cc h)
silent-plain _ h = refl

plain-from : (moment packet : ℕ) (r : Record) → IsPlain r → DeliversFrom moment packet r
unfolding is_plain
plain-from moment packet (PacketDelivered at number load) h = absurd (cc h)
plain-from moment packet _ h = tt

drops-plain : (now : ℕ) (ds : List Drop) → AllByRecursion IsPlain (map (drop_record now) ds)
unfolding is_plain
drops-plain now [] = tt
drops-plain now (d ∷ ds) = (refl, drops-plain now ds)

if-plain : (b : Bool) (rs : List Record) → AllByRecursion IsPlain rs → AllByRecursion IsPlain (if b then rs else [])
if-plain true rs h = h
if-plain false rs h = tt

arrivals-plain : (now : ℕ) (p : Packet) (q : PipeState) → AllByRecursion IsPlain (arrivals now p q)
unfolding is_plain
arrivals-plain now p q =
    some_or (AllByRecursion IsPlain) (arrive_records now p q) (instance_for p q) []
    (λ k e. came k (nat_lt k (length q.instances))) tt
  where
    came : (k : ℕ) (b : Bool) → AllByRecursion IsPlain (if b then PacketArrived now p.number q.number k ∷ []
        else identify_record now q.number k (flow_id q.config.mask p) ∷ PacketArrived now p.number q.number k ∷ [])
    came k true = (refl, tt)
    came k false = (refl, (refl, tt))

made-plain : (now : ℕ) (l : Origin) (p : Packet) → IsPlain (make_record now l p)
unfolding is_plain
made-plain now l p = refl

dropped-plain : (now : ℕ) (p : Packet) (cause : DropCause) → IsPlain (PacketDropped now p.number p.load cause)
unfolding is_plain
dropped-plain now p cause = refl

passed-plain : (now pipe k number : ℕ) → IsPlain (PacketPassed now number pipe k)
unfolding is_plain
passed-plain now pipe k number = refl

-- ---- a packet that finished

-- all that is held of it leaves no sooner than at a moment
record Held (moment packet now : ℕ) (o : Option Packet) (n : Net) : Type 0 where
  direct : AllByRecursion (LeavesFrom moment packet) n.direct.in_flight
  pipes : AllByRecursion (PipeFrom moment packet now) n.pipes
  way : OnWay (Is moment packet now) o

-- it was made, is delivered no sooner, and leaves no sooner
record Since (moment packet now : ℕ) (o : Option Packet) (n : Net) : Type 0 where
  made : packet < n.made
  told : AllByRecursion (DeliversFrom moment packet) n.records
  held : Held moment packet now o n

module _ (pipe delay : ℕ) where
  -- the time that a packet is on its way at least
  time : ℕ
  time = max (milliseconds delay) 1

  abbrev OfRecord : ℕ → Option Packet → Net → Record → Type 0
  OfRecord now o n (PacketFinished moment packet p instance) = p ≡ pipe → Since (moment + time) packet now o n
  OfRecord now o n _ = Unit {0}

  -- so it is with each packet that finished in the pipe
  All : ℕ → Option Packet → Net → Type 0
  All now o n = AllByRecursion (OfRecord now o n) n.records

  plain-of : (now : ℕ) (o : Option Packet) (n : Net) (r : Record) → IsPlain r → OfRecord now o n r
  unfolding is_plain
  plain-of now o n (PacketFinished moment packet p instance) h = absurd (cc h)
  plain-of now o n _ h = tt

  of-record : (before now : ℕ) (o j : Option Packet) (n m : Net) →
      ((moment packet : ℕ) → Since moment packet before o n → Since moment packet now j m) →
      (r : Record) → OfRecord before o n r → OfRecord now j m r
  of-record before now o j n m h (PacketFinished moment packet p instance) q = λ e. h (moment + time) packet (q e)
  of-record before now o j n m h _ q = tt

  -- more is recorded, and what holds of a packet that finished stays
  advance : (now : ℕ) (rs : List Record) (o j : Option Packet) (n m : Net) → m.records ≡ n.records ++ rs →
      AllByRecursion (OfRecord now j m) rs →
      ((moment packet : ℕ) → Since moment packet now o n → Since moment packet now j m) → All now o n → All now j m
  unfolding All
  advance now rs o j n m e new h a =
      subst (AllByRecursion (OfRecord now j m)) (sym e)
      (each_joined (OfRecord now j m) n.records rs
      (each_weaker (OfRecord now o n) (OfRecord now j m) (of-record now now o j n m h) n.records a) new)

  -- and what is recorded is plain
  advance-plain : (now : ℕ) (rs : List Record) (o j : Option Packet) (n m : Net) → m.records ≡ n.records ++ rs →
      AllByRecursion IsPlain rs → n.made ≤ m.made →
      ((moment packet : ℕ) → packet < n.made → Held moment packet now o n → Held moment packet now j m) →
      All now o n → All now j m
  advance-plain now rs o j n m e plain more h a =
      advance now rs o j n m e (each_weaker IsPlain (OfRecord now j m) (plain-of now j m) rs plain)
      (λ moment packet s. record {
        made = omega (arith, s.made, more);
        told = subst (AllByRecursion (DeliversFrom moment packet)) (sym e)
            (each_joined (DeliversFrom moment packet) n.records rs s.told
            (each_weaker IsPlain (DeliversFrom moment packet) (plain-from moment packet) rs plain));
        held = h moment packet s.made s.held;
      }) a

  advance-same : (now : ℕ) (o j : Option Packet) (n m : Net) → m.records ≡ n.records → m.made ≡ n.made →
      ((moment packet : ℕ) → Held moment packet now o n → Held moment packet now j m) → All now o n → All now j m
  advance-same now o j n m e made h a =
      advance-plain now [] o j n m (e ∙ sym (append-nil n.records)) tt (omega (arith, made)) (λ moment packet b. h moment packet) a

  -- ---- what is known where a finish begins

  -- each packet is delivered, dropped or held once, and the pipe gives the delay
  record Known (n : Net) : Type 0 where
    once : (x : ℕ) → count_by (delivers x) n.records + count_by (drops x) n.records
        + count_by (λ p. p.number == x) (held_packets n) ≡ once_made x n
    delays : AllByRecursion (λ p. p.number ≡ pipe → delay ≤ p.config.delay) n.pipes

  -- one that is held was made, and wasn't delivered
  made-once : (x : ℕ) (n : Net) → 1 ≤ once_made x n → x < n.made
  made-once x n h = go (nat_lt x n.made) refl h
    where
      go : (b : Bool) → nat_lt x n.made ≡ b → 1 ≤ (if b then 1 else 0) → x < n.made
      go true e g = ltb-true x n.made e
      go false e g = absurd (omega (arith, g))

  at_most_once : (x : ℕ) (n : Net) → once_made x n ≤ 1
  at_most_once x n = go (nat_lt x n.made)
    where
      go : (b : Bool) → (if b then 1 else 0) ≤ 1
      go true = omega arith
      go false = omega arith

  undelivered : (moment x : ℕ) (r : Record) → (delivers x r ≡ true → ⊥) → DeliversFrom moment x r
  undelivered moment x (PacketDelivered at number load) h = λ e. absurd (h (eq-eqb number x e))
  undelivered moment x _ h = tt

  finish-since : (now number k : ℕ) (p : PipeState) (s : InService Packet) (n m : Net) → Known n →
      find_pipe number n ≡ Some p → Serves k p s → number ≡ pipe → m.direct ≡ n.direct →
      m.pipes ≡ replace_first (λ q. q.number == number) (pipe_finish now k p).state n.pipes → m.made ≡ n.made →
      (rs : List Record) → m.records ≡ n.records ++ rs → AllByRecursion (DeliversFrom (now + time) s.item.number) rs →
      Since (now + time) s.item.number now None m
  unfolding time
  finish-since now number k p s n m known e r is direct pipes made rs records new =
      let x : ℕ = s.item.number in
      let held : 1 ≤ count_by (λ q. q.number == x) (held_packets n) = served-held number k p s n e r in
      let gives : delay ≤ p.config.delay =
      each_found (λ q. q.number ≡ pipe → delay ≤ q.config.delay) (λ q. q.number == number) p n.pipes e known.delays
      (eqb-true p.number number (found-passes (λ q. q.number == number) p n.pipes e) ∙ is) in
      let late : FinishesLate (now + max (milliseconds delay) 1) x now n
      (replace_first (λ q. q.number == number) (pipe_finish now k p).state n.pipes) =
      finishes_late now delay number k p s n e r gives (omega (arith, known.once x, at_most_once x n)) in
      record {
        made = subst (λ j. x < j) (sym made) (made-once x n (omega (arith, known.once x, held)));
        told = subst (AllByRecursion (DeliversFrom (now + max (milliseconds delay) 1) x)) (sym records)
            (each_joined (DeliversFrom (now + max (milliseconds delay) 1) x) n.records rs
            (each_weaker (λ y. delivers x y ≡ true → ⊥) (DeliversFrom (now + max (milliseconds delay) 1) x)
            (undelivered (now + max (milliseconds delay) 1) x) n.records
            (none-pass (delivers x) n.records (omega (arith, known.once x, at_most_once x n, held)))) new);
        held = record {
          direct = subst (λ l. AllByRecursion (LeavesFrom (now + max (milliseconds delay) 1) x) l.in_flight) (sym direct) late.direct;
          pipes = subst (AllByRecursion (PipeFrom (now + max (milliseconds delay) 1) x now)) (sym pipes) late.pipes;
          way = tt;
        };
      }

  -- ---- each change

  found : (moment packet now k : ℕ) (o : Option Packet) (p : PipeState) (n : Net) → find_pipe k n ≡ Some p →
      Held moment packet now o n → PipeFrom moment packet now p
  found moment packet now k o p n e h = each_found (PipeFrom moment packet now) (λ q. q.number == k) p n.pipes e h.pipes

  put : (moment packet now k : ℕ) (o j : Option Packet) (p : PipeState) (n m : Net) → m.direct ≡ n.direct →
      m.pipes ≡ replace_first (λ q. q.number == k) p n.pipes → PipeFrom moment packet now p →
      OnWay (Is moment packet now) j → Held moment packet now o n → Held moment packet now j m
  put moment packet now k o j p n m d e q w h = record {
    direct = subst (λ l. AllByRecursion (LeavesFrom moment packet) l.in_flight) (sym d) h.direct;
    pipes = subst (AllByRecursion (PipeFrom moment packet now)) (sym e)
        (each_replaced (PipeFrom moment packet now) (λ x. x.number == k) p n.pipes q h.pipes);
    way = w;
  }

  -- all that was held stays as it was
  stays : (moment packet now : ℕ) (o j : Option Packet) (n m : Net) → m.direct ≡ n.direct → m.pipes ≡ n.pipes →
      OnWay (Is moment packet now) j → Held moment packet now o n → Held moment packet now j m
  stays moment packet now o j n m d e w h = record {
    direct = subst (λ l. AllByRecursion (LeavesFrom moment packet) l.in_flight) (sym d) h.direct;
    pipes = subst (AllByRecursion (PipeFrom moment packet now)) (sym e) h.pipes;
    way = w;
  }

  delivered-all : (now : ℕ) (p : Packet) (n : Net) → All now (Some p) n →
      All now None (note (PacketDelivered now p.number p.load) n)
  delivered-all now p n a =
      let m : Net = note (PacketDelivered now p.number p.load) n in
      advance now (PacketDelivered now p.number p.load ∷ []) (Some p) None n m refl (tt, tt)
      (λ moment packet s. record {
        made = s.made;
        told = each_joined (DeliversFrom moment packet) n.records _ s.told (s.held.way, tt);
        held = stays moment packet now (Some p) None n m refl refl tt s.held;
      }) a

  finished-all : (now number k : ℕ) (p : PipeState) (n : Net) → Known n → find_pipe number n ≡ Some p → All now None n →
      All now None (put_after now number (pipe_finish now k p) (note_finish now number k (served_in k p) n))
  finished-all now number k p n known e a = go (served_in k p) refl
    where
      ds : List Record
      ds = map (drop_record now) (pipe_finish now k p).dropped

      kept : (moment packet : ℕ) (o : Option (InService Packet)) → Held moment packet now None n →
          Held moment packet now None (put_after now number (pipe_finish now k p) (note_finish now number k o n))
      kept moment packet None h =
          put moment packet now number None None (pipe_finish now k p).state n
          (put_after now number (pipe_finish now k p) n) refl refl
          (pipe_finish-from moment packet now k p (found moment packet now number None p n e h)) tt h
      kept moment packet (Some s) h =
          put moment packet now number None None (pipe_finish now k p).state n
          (put_after now number (pipe_finish now k p) (note_finish now number k (Some s) n)) refl refl
          (pipe_finish-from moment packet now k p (found moment packet now number None p n e h)) tt h

      go : (o : Option (InService Packet)) → served_in k p ≡ o →
          All now None (put_after now number (pipe_finish now k p) (note_finish now number k o n))
      go None f =
          advance-plain now (map (drop_record now) (pipe_finish now k p).dropped) None None n
          (put_after now number (pipe_finish now k p) n) refl (drops-plain now (pipe_finish now k p).dropped) (omega arith)
          (λ moment packet b h. kept moment packet None h) a
      go (Some s) f =
          let r : Record = PacketFinished now s.item.number number k in
          let rs : List Record = map (drop_record now) (pipe_finish now k p).dropped in
          let m : Net = put_after now number (pipe_finish now k p) (note r n) in
          let records : m.records ≡ n.records ++ (r ∷ rs) = append_assoc n.records (r ∷ []) rs in
          let plain : AllByRecursion IsPlain rs = drops-plain now (pipe_finish now k p).dropped in
          advance now (r ∷ rs) None None n m records (
            λ is. finish-since now number k p s n m known e (serves k p s f) is refl refl refl (r ∷ rs) records
                (tt, each_weaker IsPlain (DeliversFrom (now + time) s.item.number) (plain-from (now + time) s.item.number) rs plain),
            each_weaker IsPlain (OfRecord now None m) (plain-of now None m) rs plain,
          )
          (λ moment packet q. record {
            made = q.made;
            told = subst (AllByRecursion (DeliversFrom moment packet)) (sym records)
                (each_joined (DeliversFrom moment packet) n.records (r ∷ rs) q.told
                (tt, each_weaker IsPlain (DeliversFrom moment packet) (plain-from moment packet) rs plain));
            held = kept moment packet (Some s) q.held;
          }) a

  arrived-all : (seed now k : ℕ) (p : Packet) (q : PipeState) (n : Net) → find_pipe k n ≡ Some q → All now (Some p) n →
      All now None (put_after now k (pipe_arrive seed now p q) (note_traced (arrivals now p q) n))
  arrived-all seed now k p q n e a =
      let come : List Record = if n.trace then arrivals now p q else [] in
      let ds : List Drop = (pipe_arrive seed now p q).dropped in
      let m : Net = put_after now k (pipe_arrive seed now p q) (note_traced (arrivals now p q) n) in
      advance-plain now (come ++ map (drop_record now) ds) (Some p) None n m
      (append_assoc n.records come (map (drop_record now) ds))
      (each_joined IsPlain come (map (drop_record now) ds) (if-plain n.trace (arrivals now p q) (arrivals-plain now p q))
      (drops-plain now ds)) (omega arith)
      (λ moment packet b h.
      put moment packet now k (Some p) None (pipe_arrive seed now p q).state n m refl refl
      (pipe_arrive-from moment packet now seed p q h.way (found moment packet now k (Some p) q n e h)) tt h) a

  -- the first packet under way in an instance leaves
  pipe_left-all : (now number k : ℕ) (p : PipeState) (n : Net) → find_pipe number n ≡ Some p →
      ((i : Instance) → slice_get p.instances k ≡ Some i → IsOut now i.line) → All now None n →
      All now (flying_in k p) (put_pipe number (pipe_exit k p) n)
  pipe_left-all now number k p n e out a =
      advance-same now None (flying_in k p) n (put_pipe number (pipe_exit k p) n) refl refl
      (λ moment packet h.
      let q : PipeFrom moment packet now p = found moment packet now number None p n e h in
      put moment packet now number None (flying_in k p) (pipe_exit k p) n (put_pipe number (pipe_exit k p) n) refl refl
      (pipe_exit-from moment packet now k p q) (flying-from moment packet now k p out q) h) a

  passed-all : (now number k : ℕ) (q : Packet) (p : PipeState) (n : Net) → find_pipe number n ≡ Some p →
      ((i : Instance) → slice_get p.instances k ≡ Some i → IsOut now i.line) → flying_in k p ≡ Some q → All now None n →
      All now (Some q) (note (PacketPassed now q.number number k) (put_pipe number (pipe_exit k p) n))
  passed-all now number k q p n e out f a =
      let there : Net = put_pipe number (pipe_exit k p) n in
      let r : Record = PacketPassed now q.number number k in
      advance-plain now (r ∷ []) (Some q) (Some q) there (note r there) refl (passed-plain now number k q.number, tt)
      (omega arith) (λ moment packet b h. stays moment packet now (Some q) (Some q) there (note r there) refl refl h.way h)
      (subst (λ o. All now o there) f (pipe_left-all now number k p n e out a))

  -- the number of a packet that is made is new
  made-all : (now : ℕ) (l : Origin) (send : SendSpec) (n : Net) → All now None n →
      All now (Some (packet_of (load_by l) send n.made))
      (note_traced (make_record now l (packet_of (load_by l) send n.made) ∷ []) (record n { made = n.made + 1 }))
  made-all now l send n a =
      let p : Packet = packet_of (load_by l) send n.made in
      let r : Record = make_record now l p in
      let m : Net = note_traced (r ∷ []) (record n { made = n.made + 1 }) in
      advance-plain now (if n.trace then r ∷ [] else []) None (Some p) n m refl
      (if-plain n.trace (r ∷ []) (made-plain now l p, tt)) (omega arith)
      (λ moment packet b h. stays moment packet now None (Some p) n m refl refl (λ e. absurd (omega (arith, e, b))) h) a

  deleted-all : (now k : ℕ) (p : PipeState) (n : Net) → All now None n → All now None (delete_pipe now k n p)
  deleted-all now k p n a =
      let ds : List Drop = map (λ q. record { packet = q; cause = Deleted }) (pipe_packets p) in
      advance-plain now (map (drop_record now) ds) None None n (delete_pipe now k n p) refl (drops-plain now ds) (omega arith)
      (λ moment packet b h. record {
        direct = h.direct;
        pipes = each_removed (PipeFrom moment packet now) (λ q. q.number == k) n.pipes h.pipes;
        way = tt;
      }) a

  opened-all : (now k : ℕ) (config : PipeConfig) (n : Net) → All now None n → All now None (new_pipe k config n)
  opened-all now k config n a =
      advance-same now None None n (new_pipe k config n) refl refl
      (λ moment packet h. record {
        direct = h.direct;
        pipes = with_pipe-each (PipeFrom moment packet now) (record { number = k; config = config; instances = [] }) n.pipes
            tt h.pipes;
        way = tt;
      }) a

  AnyCommand : Command → Type 0
  AnyCommand c = Unit {0}

  all-keeps : (at : EventContext) → Keeps at (IsOut at.now) Known AnyCommand (All at.now)
  all-keeps at = record {
    quiet = λ o n m same a. advance-same at.now o o n m same.records same.made
        (λ moment packet h. stays moment packet at.now o o n m same.direct same.pipes h.way h) a;
    traced = λ b n a. advance-same at.now None None n (record n { trace = b }) refl refl
        (λ moment packet h. stays moment packet at.now None None n (record n { trace = b }) refl refl tt h) a;
    said = λ rs n q a. advance-plain at.now rs None None n (note_all rs n) refl
        (each_weaker (IsQuietAt at.now) IsPlain (λ r x. silent-plain r x.silent) rs q) (omega arith)
        (λ moment packet b h. stays moment packet at.now None None n (note_all rs n) refl refl tt h) a;
    made = λ l send n a. made-all at.now l send n a;
    placed = λ place p n a. advance-same at.now (Some p) (Some (record p { place = place })) n n refl refl
        (λ moment packet h. stays moment packet at.now (Some p) (Some (record p { place = place })) n n refl refl h.way h) a;
    dropped = λ cause p n e a.
        advance-plain at.now (PacketDropped at.now p.number p.load cause ∷ []) (Some p) None n (drop_packet at.now cause p n)
        refl (dropped-plain at.now p cause, tt) (omega arith)
        (λ moment packet b h. stays moment packet at.now (Some p) None n (drop_packet at.now cause p n) refl refl tt h) a;
    entered = λ p n a. advance-same at.now (Some p) None n (to_direct at.now p n) refl refl
        (λ moment packet h. record {
          direct = entered-from moment packet at.now 0 p n.direct h.way h.direct;
          pipes = h.pipes;
          way = tt;
        }) a;
    left = λ n out a. advance-same at.now None (first_item n.direct.in_flight) n (record n { direct = leave n.direct }) refl refl
        (λ moment packet h. record {
          direct = left-from moment packet at.now n.direct.in_flight h.direct;
          pipes = h.pipes;
          way = first-from moment packet at.now n.direct.in_flight out h.direct;
        }) a;
    delivered = λ p n a. delivered-all at.now p n a;
    arrived = λ k p q n e a. arrived-all at.seed at.now k p q n e a;
    finished = λ number k p n known e a. finished-all at.now number k p n known e a;
    pipe_left = λ number k p n e out a. pipe_left-all at.now number k p n e out a;
    passed = λ number k q p n e out f a. passed-all at.now number k q p n e out f a;
    configured = λ k config p n ok e a.
        advance-same at.now None None n (put_pipe k (pipe_configure config p) n) refl refl
        (λ moment packet h.
        put moment packet at.now k None None (pipe_configure config p) n (put_pipe k (pipe_configure config p) n) refl refl
        (pipe_configure-from moment packet at.now config p (found moment packet at.now k None p n e h)) tt h) a;
    opened = λ k config n ok e a. opened-all at.now k config n a;
    deleted = λ k p n e a. deleted-all at.now k p n a;
  }

  -- ---- steps

  -- the clock goes on
  later-all : (before now : ℕ) (n : Net) → before ≤ now → All before None n → All now None n
  unfolding All
  later-all before now n b a =
      each_weaker (OfRecord before None n) (OfRecord now None n) (of-record before now None None n n
      (λ moment packet s. record {
        made = s.made;
        told = s.told;
        held = record {
          direct = s.held.direct;
          pipes = each_weaker (PipeFrom moment packet before) (PipeFrom moment packet now)
              (λ p q. each_weaker (HoldsFrom moment packet before) (HoldsFrom moment packet now)
              (later-holds moment packet before now b) p.instances q) n.pipes s.held.pipes;
          way = tt;
        };
      })) n.records a

  abbrev Gives : ℕ → PipeConfig → Type 0
  Gives k config = k ≡ pipe → delay ≤ config.delay

  abbrev Anyhow : ℕ → PipeConfig → Instance → Type 0
  Anyhow k config i = Unit {0}

  gives-kept : InstanceKeeps (DelaysPipe pipe delay) Gives Anyhow
  gives-kept = record {
    config = λ k config ok. ok;
    opened = λ k config id. tt;
    arrived = λ k config now packet lost i c h. tt;
    finished = λ k config now i c h. tt;
    left = λ k config i h. tt;
    configured = λ k old new i h. tt;
  }

  known-alone : EachPacketOnce → (spec : Spec) (c : List Timed) (n : ℕ) →
      AllByRecursion (λ t. DelaysPipe pipe delay t.command) c → Known (alone spec c n).net
  known-alone once spec c n gives = record {
    once = once spec c n;
    delays = each_weaker (Each (DelaysPipe pipe delay) Gives Anyhow gives-kept) (λ p. p.number ≡ pipe → delay ≤ p.config.delay)
        (λ p h. h.config) (alone spec c n).net.pipes
        (alone-pipes (DelaysPipe pipe delay) Gives Anyhow gives-kept spec c n gives);
  }

  none-yet : (spec : Spec) (c : List Timed) → All 0 None (alone spec c zero).net
  unfolding All
  none-yet spec c = tt

  alone-all : DuesStayAhead → DuesDiffer → EachPacketOnce → (spec : Spec) (c : List Timed) (n : ℕ) → AreRising 0 c →
      AllByRecursion (λ t. ConfiguresPipe t.command) c → AllByRecursion (λ t. DelaysPipe pipe delay t.command) c →
      All (alone spec c n).clock None (alone spec c n).net
  unfolding AnyCommand
  alone-all ahead differ once spec c zero rising numbers gives = none-yet spec c
  alone-all ahead differ once spec c (suc n) rising numbers gives =
      let s : State = alone spec c n in
      let before : All s.clock None s.net = alone-all ahead differ once spec c n rising numbers gives in
      step_or (λ t. All t.clock None t.net) s before
      (λ d rest e.
      let now : ℕ = (next_event s d).moment in
      subst (λ k. All k None (step_with (d ∷ rest) s).net) (sym (moved-clock s d rest))
      (step_walks (IsOut now) Known AnyCommand (All now) s d rest (all-keeps (setting s.spec now))
      (line_is_out s d (λ x. differ spec c n x numbers)) (known-alone once spec c n gives) tt
      (later-all s.clock now s.net (next-later s d rest (ahead spec c n rising) e) before)))

  waits : (now : ℕ) (n : Net) (r : Record) → OfRecord now None n r →
      WaitsInPipe pipe (max (milliseconds delay) 1) n.records r
  unfolding time
  waits now n (PacketFinished moment packet p instance) h = λ e. (h e).told
  waits now n _ h = tt

pub deliveries_wait : DuesStayAhead → DuesDiffer → EachPacketOnce → DeliveriesWait
unfolding All
deliveries_wait ahead differ once spec c n pipe delay rising numbers gives =
    let s : State = alone spec c n in
    each_weaker (OfRecord pipe delay s.clock None s.net)
    (WaitsInPipe pipe (max (milliseconds delay) 1) s.net.records) (waits pipe delay s.clock s.net) s.net.records
    (alone-all pipe delay ahead differ once spec c n rising numbers gives)
