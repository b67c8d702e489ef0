-- Records come in order of their moments: each step's are of its moment, and no step is earlier than the one before.
use Rattle.std.proofs.Common.{◌≡◌, ℕ, zero, suc, ◌+◌, ◌≤◌, List, [], ◌∷◌, ◌++◌, Bool, true, false, refl, sym, ◌∙◌, ap, subst, Option, Some, None, append_assoc, append-nil, arith}
use Rattle.std.specs.Prelude.{if◌then◌else◌, is_some, nat_lt, map, length}
use Rattle.std.specs.List.{AllByRecursion}
use Rattle.emu_laws.proofs.Types.{EventContext, Spec, Timed, Packet, Deleted, Record, PacketArrived, PacketFinished, PacketDelivered, PacketPassed, PacketDropped, Class, NextCommand, Exit, Finish, Expiry, Emission}
use Rattle.emu_model.specs.FlowIds.{flow_id}
use Rattle.emu_model.specs.Delay.{leave}
use Rattle.emu_model.specs.Pipes.{InService, PipeState, Drop, instance_for, pipe_arrive, pipe_finish, pipe_exit, pipe_configure, pipe_packets}
use Rattle.emu_model.specs.Net.{Net, note, note_all, note_traced, drop_record, drop_packet, arrive_records, arrivals, identify_record, make_record, packet_of, put_pipe, put_after, to_direct, load_by}
use Rattle.emu_model.specs.Commands.{new_pipe, delete_pipe}
use Rattle.emu_model.specs.Events.{served_in, note_finish}
use Rattle.emu_model.specs.declared.sources.Due.{Due}
use Rattle.emu_model.specs.DueLaws.{AreRising, IsAhead, DuesStayAhead}
use Rattle.emu_model.specs.Step.{State, setting, take_class, count_step, spend, is_last_step, next_event, step_with, step}
use Rattle.emu_model.specs.Alone.{alone}
use Rattle.emu_model.proofs.CallerLemmas.{next_event_from}
use Rattle.emu_laws.specs.RecordOrder.{moment_of, moments_of, NeverFall, RecordsAreInOrder}
use Rattle.emu_laws.proofs.EachOf.{either, some_or, each_joined, each_weaker}
use Rattle.emu_laws.proofs.EventWalks.{IsAt, IsQuietAt, Keeps, step_walks, step_or}
use Rattle.emu_laws.proofs.StepHistory.{AnyLine, AnyNet, AnyCommand, always}

-- more was recorded, all of one moment
pub record Adds (now : ℕ) (l n : Net) : Type 0 where
  pub more : List Record
  pub records : n.records ≡ l.records ++ more
  pub moments : AllByRecursion (IsAt now) more

add : (now : ℕ) (rs : List Record) (l n m : Net) → m.records ≡ n.records ++ rs → AllByRecursion (IsAt now) rs →
    Adds now l n → Adds now l m
add now rs l n m e h a = record {
  more = a.more ++ rs;
  records = e ∙ ap (λ xs. xs ++ rs) a.records ∙ append_assoc l.records a.more rs;
  moments = each_joined (IsAt now) a.more rs a.moments h;
}

add-none : (now : ℕ) (l n m : Net) → m.records ≡ n.records → Adds now l n → Adds now l m
add-none now l n m e a = add now [] l n m (e ∙ sym (append-nil n.records)) tt a

if-at : (now : ℕ) (b : Bool) (rs : List Record) → AllByRecursion (IsAt now) rs → AllByRecursion (IsAt now) (if b then rs else [])
if-at now true rs h = h
if-at now false rs h = tt

drops-at : (now : ℕ) (ds : List Drop) → AllByRecursion (IsAt now) (map (drop_record now) ds)
drops-at now [] = tt
drops-at now (d ∷ ds) = ((refl, tt), drops-at now ds)

arrivals-at : (now : ℕ) (p : Packet) (q : PipeState) → AllByRecursion (IsAt now) (arrivals now p q)
arrivals-at now p q =
    some_or (AllByRecursion (IsAt now)) (arrive_records now p q) (instance_for p q) []
    (λ k e. came k (nat_lt k (length q.instances))) tt
  where
    came : (k : ℕ) (b : Bool) → AllByRecursion (IsAt now) (if b then PacketArrived now p.number q.number k ∷ []
        else identify_record now q.number k (flow_id q.config.mask p) ∷ PacketArrived now p.number q.number k ∷ [])
    came k true = ((refl, tt), tt)
    came k false = ((refl, tt), ((refl, tt), tt))

finish-adds : (now pipe k : ℕ) (o : Option (InService Packet)) (l n : Net) → Adds now l n →
    Adds now l (note_finish now pipe k o n)
finish-adds now pipe k None l n a = a
finish-adds now pipe k (Some s) l n a =
    add now (PacketFinished now s.item.number pipe k ∷ []) l n (note_finish now pipe k (Some s) n) refl ((refl, tt), tt) a

pub adds-keeps : (at : EventContext) (l : Net) → Keeps at AnyLine AnyNet AnyCommand (λ o m. Adds at.now l m)
adds-keeps at l = record {
  quiet = λ o n m a h. add-none at.now l n m a.records h;
  traced = λ b n h. add-none at.now l n (record n { trace = b }) refl h;
  said = λ rs n q h. add at.now rs l n (note_all rs n) refl
      (each_weaker (IsQuietAt at.now) (IsAt at.now) (λ r x. x.moment) rs q) h;
  made = λ o send n h.
      let r : Record = make_record at.now o (packet_of (load_by o) send n.made) in
      add at.now (if n.trace then r ∷ [] else []) l n (note_traced (r ∷ []) (record n { made = n.made + 1 })) refl
      (if-at at.now n.trace (r ∷ []) ((refl, tt), tt)) h;
  placed = λ place p n h. h;
  dropped = λ cause p n e h.
      add at.now (PacketDropped at.now p.number p.load cause ∷ []) l n (drop_packet at.now cause p n) refl ((refl, tt), tt) h;
  entered = λ p n h. add-none at.now l n (to_direct at.now p n) refl h;
  left = λ n ready h. add-none at.now l n (record n { direct = leave n.direct }) refl h;
  delivered = λ p n h.
      add at.now (PacketDelivered at.now p.number p.load ∷ []) l n (note (PacketDelivered at.now p.number p.load) n) refl
      ((refl, tt), tt) h;
  arrived = λ k p q n e h.
      let m : Net = note_traced (arrivals at.now p q) n in
      let ds : List Drop = (pipe_arrive at.seed at.now p q).dropped in
      add at.now (map (drop_record at.now) ds) l m (put_after at.now k (pipe_arrive at.seed at.now p q) m) refl
      (drops-at at.now ds)
      (add at.now (if n.trace then arrivals at.now p q else []) l n m refl
      (if-at at.now n.trace (arrivals at.now p q) (arrivals-at at.now p q)) h);
  finished = λ pipe k p n known e h.
      let m : Net = note_finish at.now pipe k (served_in k p) n in
      let ds : List Drop = (pipe_finish at.now k p).dropped in
      add at.now (map (drop_record at.now) ds) l m (put_after at.now pipe (pipe_finish at.now k p) m) refl
      (drops-at at.now ds) (finish-adds at.now pipe k (served_in k p) l n h);
  pipe_left = λ pipe k p n e ready h. add-none at.now l n (put_pipe pipe (pipe_exit k p) n) refl h;
  passed = λ pipe k q p n e ready f h.
      add at.now (PacketPassed at.now q.number pipe k ∷ []) l n
      (note (PacketPassed at.now q.number pipe k) (put_pipe pipe (pipe_exit k p) n)) refl ((refl, tt), tt) h;
  configured = λ k config p n ok e h. add-none at.now l n (put_pipe k (pipe_configure config p) n) refl h;
  opened = λ k config n ok e h. add-none at.now l n (new_pipe k config n) refl h;
  deleted = λ k p n e h.
      let ds : List Drop = map (λ q. record { packet = q; cause = Deleted }) (pipe_packets p) in
      add at.now (map (drop_record at.now) ds) l n (delete_pipe at.now k n p) refl (drops-at at.now ds) h;
}

pub moments-append : (rs ss : List Record) → moments_of (rs ++ ss) ≡ moments_of rs ++ moments_of ss
moments-append [] ss = refl
moments-append (r ∷ rs) ss =
    ap (λ xs. moment_of r ++ xs) (moments-append rs ss)
    ∙ sym (append_assoc (moment_of r) (moments_of rs) (moments_of ss))

pub moments-at : (now : ℕ) (rs : List Record) → AllByRecursion (IsAt now) rs → AllByRecursion (λ m. m ≡ now) (moments_of rs)
moments-at now [] h = tt
moments-at now (r ∷ rs) h = each_joined (λ m. m ≡ now) (moment_of r) (moments_of rs) h.0 (moments-at now rs h.1)

all-at : (low now : ℕ) (ms : List ℕ) → low ≤ now → AllByRecursion (λ m. m ≡ now) ms → NeverFall low ms
all-at low now [] b h = tt
all-at low now (m ∷ ms) b h = (omega (arith, b, h.0), all-at m now ms (omega (arith, h.0)) h.1)

-- more of a moment that none is beyond
rise : (low now : ℕ) (ms ns : List ℕ) → low ≤ now → NeverFall low ms → AllByRecursion (λ m. m ≤ now) ms →
    AllByRecursion (λ m. m ≡ now) ns → NeverFall low (ms ++ ns)
rise low now [] ns b p q h = all-at low now ns b h
rise low now (m ∷ ms) ns b p q h = (p.0, rise m now ms ns q.0 p.1 q.1 h)

-- the records so far, none of which is later than the clock
record Ordered (clock : ℕ) (rs : List Record) : Type 0 where
  rising : NeverFall 0 (moments_of rs)
  below : AllByRecursion (λ m. m ≤ clock) (moments_of rs)

later : (clock now : ℕ) (rs ss : List Record) → clock ≤ now → AllByRecursion (IsAt now) ss → Ordered clock rs →
    Ordered now (rs ++ ss)
later clock now rs ss b h o =
    let at : AllByRecursion (λ m. m ≡ now) (moments_of ss) = moments-at now ss h in
    let old : AllByRecursion (λ m. m ≤ now) (moments_of rs) =
    each_weaker (λ m. m ≤ clock) (λ m. m ≤ now) (λ m x. omega (arith, x, b)) (moments_of rs) o.below in
    record {
      rising = subst (NeverFall 0) (sym (moments-append rs ss))
          (rise 0 now (moments_of rs) (moments_of ss) (omega arith) o.rising old at);
      below = subst (AllByRecursion (λ m. m ≤ now)) (sym (moments-append rs ss))
          (each_joined (λ m. m ≤ now) (moments_of rs) (moments_of ss) old
          (each_weaker (λ m. m ≡ now) (λ m. m ≤ now) (λ m x. omega (arith, x)) (moments_of ss) at));
    }

-- the clock after a step
taken-clock : (class : Class) (e : Due) (c : Timed) (rest : List Timed) (s : State) →
    (take_class class e c rest s).clock ≡ e.moment
taken-clock NextCommand e c rest s = refl
taken-clock Exit e c rest s = refl
taken-clock Finish e c rest s = refl
taken-clock Expiry e c rest s = refl
taken-clock Emission e c rest s = refl

counted-clock : (t : State) → (count_step t).clock ≡ t.clock
counted-clock t =
    let u : State = record t { steps = t.steps + 1 } in
    either (λ x. x.clock ≡ t.clock) (is_some t.ending) u (if is_last_step u then spend u else u) refl
    (either (λ x. x.clock ≡ t.clock) (is_last_step u) (spend u) u refl refl)

pub moved-clock : (s : State) (c : Timed) (rest : List Timed) → (step_with (c ∷ rest) s).clock ≡ (next_event s c).moment
moved-clock s c rest =
    let d : Due = next_event s c in
    counted-clock (take_class d.source.class d c rest s) ∙ taken-clock d.source.class d c rest s

-- the next event is no earlier than the last one
pub next-later : (s : State) (c : Timed) (rest : List Timed) → IsAhead s → s.left ≡ c ∷ rest →
    s.clock ≤ (next_event s c).moment
next-later s c rest ahead e =
    let left : AreRising s.clock (c ∷ rest) = subst (AreRising s.clock) e ahead.0 in
    next_event_from s.clock s c left.0 ahead.1

step-ordered : (s : State) → IsAhead s → Ordered s.clock s.net.records → Ordered (step s).clock (step s).net.records
step-ordered s ahead h =
    step_or (λ t. Ordered t.clock t.net.records) s h
    (λ c rest e.
    let now : ℕ = (next_event s c).moment in
    let a : Adds now s.net (step_with (c ∷ rest) s).net =
    step_walks AnyLine AnyNet AnyCommand (λ o m. Adds now s.net m) s c rest (adds-keeps (setting s.spec now) s.net)
    (λ x. always (next_event s c).source.number s.net) tt tt
    (record { more = []; records = sym (append-nil s.net.records); moments = tt }) in
    subst (λ k. Ordered k (step_with (c ∷ rest) s).net.records) (sym (moved-clock s c rest))
    (subst (Ordered now) (sym a.records)
    (later s.clock now s.net.records a.more (next-later s c rest ahead e) a.moments h)))

alone-ordered : DuesStayAhead → (spec : Spec) (c : List Timed) (n : ℕ) → AreRising 0 c →
    Ordered (alone spec c n).clock (alone spec c n).net.records
alone-ordered ahead spec c zero rising = record { rising = tt; below = tt }
alone-ordered ahead spec c (suc n) rising =
    step-ordered (alone spec c n) (ahead spec c n rising) (alone-ordered ahead spec c n rising)

pub records_are_in_order : DuesStayAhead → RecordsAreInOrder
records_are_in_order ahead spec c n rising = (alone-ordered ahead spec c n rising).rising
