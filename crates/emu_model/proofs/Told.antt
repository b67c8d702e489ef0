-- A traced run tells of each packet: its `make` first and once.
use Rattle.std.proofs.Common.{◌≡◌, ℕ, zero, suc, ◌+◌, ◌≤◌, ◌<◌, List, [], ◌∷◌, ◌++◌, Bool, true, false, refl, sym, ◌∙◌, ap, subst, Option, Some, None, inl, inr, add-one, arith}
use Rattle.std.specs.Prelude.{if◌then◌else◌, ◌⊎◌, ◌≢◌, nat_lt, map, length, sum_by, count_by, slice_get, option_and_then, ◌==◌}
use Rattle.std.specs.Option.{option_map_or}
use Rattle.std.specs.List.{AllByRecursion}
use Rattle.std.proofs.lemmas.List.Sums.{sum_by-cons, sum_by-append}
use Rattle.std.proofs.lemmas.Bool.{eqb-true, cases_lt}
use Rattle.emu_model.specs.Types.{Spec, Timed, Packet, Load, Origin, SendSpec, DropCause, Deleted, Trace, Command, Record, PacketMade, PacketArrived, PacketFinished, PacketDelivered, PacketPassed, PacketDropped}
use Rattle.emu_model.specs.FlowIds.{flow_id}
use Rattle.emu_model.specs.Delay.{first_item, leave}
use Rattle.emu_model.specs.Pipes.{Instance, InService, PipeState, After, Drop, pipe_packets, instance_for, pipe_arrive, pipe_finish, pipe_exit, pipe_configure}
use Rattle.emu_model.specs.Net.{Net, EventContext, opening_net, note, note_all, drop_record, drop_packet, note_traced, arrive_records, identify_record, arrivals, make_record, load_by, packet_of, find_pipe, put_pipe, put_after, to_direct}
use Rattle.emu_model.specs.Commands.{new_pipe, delete_pipe, obey}
use Rattle.emu_model.specs.Events.{flying_in, served_in, note_finish}
use Rattle.emu_model.specs.Alone.{alone}
use Rattle.emu_model.specs.Step.{initial_state}
use Rattle.emu_model.specs.TraceLaws.{IsTraced, makes, tells_of, EachMakeOnce, MakeComesFirst}
use Rattle.emu_model.proofs.Sums.{sum_some, removed-sum}
use Rattle.emu_model.proofs.Numbers.{one_if, count-cons}
use Rattle.emu_model.proofs.PacketsKept.{flown, fallen, size}
use Rattle.emu_model.proofs.PipeKeeping.{load}
use Rattle.emu_model.proofs.Conserved.{total, weight, gone, balance, Balanced, balanced-keeps, drops-gone}
use Rattle.emu_model.proofs.OneByOne.{one_at, here, none_below, one_below, once}
use Rattle.emu_model.proofs.ChangesWalk.{IsSilent, Keeps, Fits as Suits, walks, walks_on}

-- a record behind m makes: a make is that of packet m, and what else tells of a packet tells of an
-- earlier one
Fits : ℕ → Record → Type 0
Fits m (PacketMade now packet origin proto src sport dst dport size) = packet ≡ m
Fits m r = (k : ℕ) → tells_of k r ≡ true → k < m

next : Record → ℕ → ℕ
next (PacketMade now packet origin proto src sport dst dport size) m = suc m
next r m = m

-- records of which each fits, behind m makes; then there are n
Told : ℕ → List Record → ℕ → Type 0
Told m [] n = n ≡ m
Told m (r ∷ rs) n = Fits m r × Told (next r m) rs n

joined : (a b c : ℕ) (rs ss : List Record) → Told a rs b → Told b ss c → Told a (rs ++ ss) c
unfolding Told
joined a b c [] ss p q = subst (λ x. Told x ss c) p q
joined a b c (r ∷ rs) ss p q = (p.0, joined (next r a) b c rs ss p.1 q)

-- a packet below m is told of
below : (j k m : ℕ) → j < m → (j == k) ≡ true → k < m
below j k m b e = omega (arith, eqb-true j k e)

silent-fits : (m : ℕ) (r : Record) → IsSilent r → Fits m r × (next r m ≡ m)
unfolding Fits next
silent-fits m (PacketMade now p l t s o d q z) h = absurd (cc h)
silent-fits m (PacketArrived now p pipe k) h = absurd (cc h)
silent-fits m (PacketFinished now p pipe k) h = absurd (cc h)
silent-fits m (PacketDelivered now p l) h = absurd (cc h)
silent-fits m (PacketPassed now p pipe k) h = absurd (cc h)
silent-fits m (PacketDropped now p l c) h = absurd (cc h)
silent-fits m _ h = (λ k e. absurd (cc e), refl)

silent-told : (m : ℕ) (rs : List Record) → AllByRecursion IsSilent rs → Told m rs m
unfolding Told
silent-told m [] h = refl
silent-told m (r ∷ rs) h =
    let f : Fits m r × (next r m ≡ m) = silent-fits m r h.0 in
    (f.0, subst (λ x. Told x rs m) (sym f.1) (silent-told m rs h.1))

-- drops of packets that were made
drops-told : (now m : ℕ) (ds : List Drop) → ((j : ℕ) → m ≤ j → fallen (one_at j) ds ≡ 0) →
    Told m (map (drop_record now) ds) m
unfolding Told Fits next fallen
drops-told now m [] h = refl
drops-told now m (d ∷ ds) h = (first, drops-told now m ds later)
  where
    each : (j : ℕ) → sum_by {X = Drop} (λ x. one_at j x.packet.number) (d ∷ ds)
        ≡ one_at j d.packet.number + sum_by {X = Drop} (λ x. one_at j x.packet.number) ds
    each j = sum_by-cons {X = Drop} (λ x. one_at j x.packet.number) d ds

    later : (j : ℕ) → m ≤ j → sum_by {X = Drop} (λ x. one_at j x.packet.number) ds ≡ 0
    later j b = omega (arith, h j b, each j)

    first : (k : ℕ) → (d.packet.number == k) ≡ true → k < m
    first k e = go (cases_lt k m)
      where
        go : (k < m) ⊎ (m ≤ k) → k < m
        go (inl b) = b
        go (inr b) = omega (arith, h k b, each k, here d.packet.number k (eqb-true d.packet.number k e))

arrivals-told : (now m : ℕ) (p : Packet) (q : PipeState) → p.number < m → Told m (arrivals now p q) m
unfolding Told Fits next
arrivals-told now m p q b = go (instance_for p q)
  where
    came : (k : ℕ) (c : Bool) → Told m (if c then PacketArrived now p.number q.number k ∷ []
        else identify_record now q.number k (flow_id q.config.mask p) ∷ PacketArrived now p.number q.number k ∷ []) m
    came k true = (λ j e. below p.number j m b e, refl)
    came k false = (λ j e. absurd (cc e), (λ j e. below p.number j m b e, refl))

    go : (o : Option ℕ) → Told m (option_map_or (arrive_records now p q) o []) m
    go None = refl
    go (Some k) = came k (nat_lt k (length q.instances))

-- a net of a traced run
record Traced (o : Option Packet) (n : Net) : Type 0 where
  trace : n.trace ≡ true
  told : Told 0 n.records n.made
  even : (w : ℕ → ℕ) → Balanced w o n

-- the packet on its way was made
known : (p : Packet) (n : Net) → ((w : ℕ → ℕ) → Balanced w (Some p) n) → p.number < n.made
unfolding Balanced sum_some
known p n even = go (cases_lt p.number n.made)
  where
    go : (p.number < n.made) ⊎ (n.made ≤ p.number) → p.number < n.made
    go (inl b) = b
    go (inr b) =
        omega (arith, even (one_at p.number), none_below p.number n.made b, here p.number p.number refl)

got-le : (f : Instance → ℕ) (x : Instance) (xs : List Instance) (k : ℕ) → slice_get xs k ≡ Some x → f x ≤ sum_by f xs
got-le f x [] k e = absurd (cc e)
got-le f x (y ∷ ys) zero e =
    let same : f y ≡ f x = ap f (cc e) in
    omega (arith, sum_by-cons f y ys)
got-le f x (y ∷ ys) (suc k) e = omega (arith, sum_by-cons f y ys, got-le f x ys k e)

-- the packet in service was made
served-known : (pipe k : ℕ) (p : PipeState) (s : InService Packet) (n : Net) → find_pipe pipe n ≡ Some p →
    served_in k p ≡ Some s → ((w : ℕ → ℕ) → Balanced w None n) → s.item.number < n.made
unfolding Balanced balance sum_some load size
served-known pipe k p s n e g even = go (slice_get p.instances k) refl g
  where
    w : ℕ → ℕ
    w = one_at s.item.number

    within : (i : Instance) → slice_get p.instances k ≡ Some i → i.service ≡ Some s →
        (s.item.number < n.made) ⊎ (n.made ≤ s.item.number) → s.item.number < n.made
    within i h x (inl b) = b
    within i h x (inr b) =
        let v : ℕ → ℕ = one_at s.item.number in
        let served : sum_some (λ y. v y.item.number) i.service ≡ v s.item.number = ap (sum_some (λ y. v y.item.number)) x in
        omega (
          arith,
          even v,
          none_below s.item.number n.made b,
          here s.item.number s.item.number refl,
          removed-sum (load v) (λ q. q.number == pipe) p n.pipes e,
          got-le (size v) i p.instances k h,
        )

    go : (o : Option Instance) → slice_get p.instances k ≡ o → option_and_then (λ i. i.service) o ≡ Some s →
        s.item.number < n.made
    go None h x = absurd (cc x)
    go (Some i) h x = within i h x (cases_lt s.item.number n.made)

-- what is dropped was made
drops-known : (now : ℕ) (rs : List Record) (m : Net) (ds : List Drop) → m.records ≡ rs ++ map (drop_record now) ds →
    ((w : ℕ → ℕ) → Balanced w None m) → (j : ℕ) → m.made ≤ j → fallen (one_at j) ds ≡ 0
unfolding Balanced balance sum_some gone
drops-known now rs m ds e even j b =
    let w : ℕ → ℕ = one_at j in
    let same : gone w m.records ≡ gone w (rs ++ map (drop_record now) ds) = ap (gone w) e in
    omega (
      arith,
      even w,
      none_below j m.made b,
      sum_by-append (weight w) rs (map (drop_record now) ds),
      drops-gone w now ds,
    )

-- more is recorded, and the rest of the net is as the balance says
more : (rs : List Record) (o j : Option Packet) (n m : Net) → Traced o n → m.trace ≡ n.trace →
    m.records ≡ n.records ++ rs → Told n.made rs m.made → ((w : ℕ → ℕ) → Balanced w j m) → Traced j m
more rs o j n m h t e told even = record {
  trace = t ∙ h.trace;
  told = subst (λ x. Told 0 x m.made) (sym e) (joined 0 n.made m.made n.records rs h.told told);
  even = even;
}

-- nothing more is recorded
same : (o j : Option Packet) (n m : Net) → Traced o n → m.trace ≡ n.trace → m.records ≡ n.records →
    m.made ≡ n.made → ((w : ℕ → ℕ) → Balanced w j m) → Traced j m
same o j n m h t e i even = record {
  trace = t ∙ h.trace;
  told = subst (λ x. Told 0 x m.made) (sym e) (subst (Told 0 n.records) (sym i) h.told);
  even = even;
}

if-told : (b : Bool) (a c : ℕ) (rs : List Record) → b ≡ true → Told a rs c → Told a (if b then rs else []) c
if-told true a c rs e h = h
if-told false a c rs e h = absurd (cc e)

-- drops are recorded too
dropping : (now : ℕ) (ds : List Drop) (o : Option Packet) (n m : Net) → Traced o n → m.trace ≡ n.trace →
    m.records ≡ n.records ++ map (drop_record now) ds → m.made ≡ n.made →
    ((w : ℕ → ℕ) → Balanced w None m) → Traced None m
dropping now ds o n m h t e i even =
    more (map (drop_record now) ds) o None n m h t e
    (subst (λ x. Told x (map (drop_record now) ds) m.made) i
    (drops-told now m.made ds (drops-known now n.records m ds e even))) even

arrived-traced : (at : EventContext) (k : ℕ) (p : Packet) (q : PipeState) (n : Net) → find_pipe k n ≡ Some q →
    Traced (Some p) n →
    Traced None (put_after at.now k (pipe_arrive at.seed at.now p q) (note_traced (arrivals at.now p q) n))
arrived-traced at k p q n e h =
    let a : After PipeState = pipe_arrive at.seed at.now p q in
    let come : List Record = if n.trace then arrivals at.now p q else [] in
    let m : Net = note_all come n in
    let even : (w : ℕ → ℕ) → Balanced w None (put_after at.now k a m) =
    λ w. (balanced-keeps w).arrived at k p q n e (h.even w) in
    let told : Told n.made come n.made =
    if-told n.trace n.made n.made (arrivals at.now p q) h.trace
    (arrivals-told at.now n.made p q (known p n h.even)) in
    record {
      trace = h.trace;
      told = joined 0 n.made n.made m.records (map (drop_record at.now) a.dropped)
          (joined 0 n.made n.made n.records come h.told told)
          (drops-told at.now n.made a.dropped
          (drops-known at.now m.records (put_after at.now k a m) a.dropped refl even));
      even = even;
    }

finished-traced : (now pipe k : ℕ) (p : PipeState) (n : Net) → find_pipe pipe n ≡ Some p → Traced None n →
    Traced None (put_after now pipe (pipe_finish now k p) (note_finish now pipe k (served_in k p) n))
unfolding Told Fits next
finished-traced now pipe k p n e h = go (served_in k p) refl (λ w. (balanced-keeps w).finished now pipe k p n e (h.even w))
  where
    go : (o : Option (InService Packet)) → served_in k p ≡ o →
        ((w : ℕ → ℕ) → Balanced w None (put_after now pipe (pipe_finish now k p) (note_finish now pipe k o n))) →
        Traced None (put_after now pipe (pipe_finish now k p) (note_finish now pipe k o n))
    go None g even =
        dropping now (pipe_finish now k p).dropped None n (put_after now pipe (pipe_finish now k p) n) h refl refl refl even
    go (Some s) g even =
        let a : After PipeState = pipe_finish now k p in
        let r : Record = PacketFinished now s.item.number pipe k in
        let m : Net = note r n in
        let one : Told n.made (r ∷ []) n.made = (λ j b. below s.item.number j n.made (served-known pipe k p s n e g h.even) b, refl) in
        record {
          trace = h.trace;
          told = joined 0 n.made n.made m.records (map (drop_record now) a.dropped)
              (joined 0 n.made n.made n.records (r ∷ []) h.told one)
              (drops-told now n.made a.dropped (drops-known now m.records (put_after now pipe a m) a.dropped refl even));
          even = even;
        }

made-traced : (now : ℕ) (l : Origin) (send : SendSpec) (n : Net) → Traced None n →
    Traced (Some (packet_of (load_by l) send n.made))
    (note_traced (make_record now l (packet_of (load_by l) send n.made) ∷ []) (record n { made = n.made + 1 }))
unfolding Told Fits next
made-traced now l send n h =
    let r : Record = make_record now l (packet_of (load_by l) send n.made) in
    let m : Net = note_traced (r ∷ []) (record n { made = n.made + 1 }) in
    let one : Told n.made (r ∷ []) (n.made + 1) = (refl, add-one n.made) in
    more (if n.trace then r ∷ [] else []) None (Some (packet_of (load_by l) send n.made)) n m h refl refl
    (if-told n.trace n.made (n.made + 1) (r ∷ []) h.trace one) (λ w. (balanced-keeps w).made now l send n (h.even w))

-- one record of a packet that was made
telling : (r : Record) (o j : Option Packet) (n m : Net) → Traced o n → Told n.made (r ∷ []) n.made →
    m.trace ≡ n.trace → m.records ≡ n.records ++ r ∷ [] → m.made ≡ n.made →
    ((w : ℕ → ℕ) → Balanced w j m) → Traced j m
telling r o j n m h told t e i even =
    more (r ∷ []) o j n m h t e (subst (Told n.made (r ∷ [])) (sym i) told) even

dropped-traced : (now : ℕ) (cause : DropCause) (p : Packet) (n : Net) → Traced (Some p) n →
    Traced None (drop_packet now cause p n)
unfolding Told Fits next
dropped-traced now cause p n h =
    telling (PacketDropped now p.number p.load cause) (Some p) None n (drop_packet now cause p n) h
    (λ k e. below p.number k n.made (known p n h.even) e, refl) refl refl refl
    (λ w. (balanced-keeps w).dropped now cause p n (h.even w))

delivered-traced : (now : ℕ) (p : Packet) (n : Net) → Traced (Some p) n →
    Traced None (note (PacketDelivered now p.number p.load) n)
unfolding Told Fits next
delivered-traced now p n h =
    let r : Record = PacketDelivered now p.number p.load in
    telling r (Some p) None n (note r n) h
    (λ k e. below p.number k n.made (known p n h.even) e, refl) refl refl refl
    (λ w. (balanced-keeps w).delivered now p n (h.even w))

passed-traced : (now pipe k : ℕ) (q : Packet) (p : PipeState) (n : Net) → find_pipe pipe n ≡ Some p →
    flying_in k p ≡ Some q → Traced None n →
    Traced (Some q) (note (PacketPassed now q.number pipe k) (put_pipe pipe (pipe_exit k p) n))
unfolding Told Fits next
passed-traced now pipe k q p n e g h =
    let r : Record = PacketPassed now q.number pipe k in
    let m : Net = note r (put_pipe pipe (pipe_exit k p) n) in
    let even : (w : ℕ → ℕ) → Balanced w (Some q) m = λ w. (balanced-keeps w).passed now pipe k q p n e g (h.even w) in
    telling r None (Some q) n m h (λ j b. below q.number j n.made (known q m even) b, refl) refl refl refl even

traced-keeps : Keeps Traced
traced-keeps = record {
  quiet = λ o n m a h.
      same o o n m h a.trace a.records a.made (λ w. (balanced-keeps w).quiet o n m a (h.even w));
  said = λ rs n e h.
      more rs None None n (note_all rs n) h refl refl (silent-told n.made rs e)
      (λ w. (balanced-keeps w).said rs n e (h.even w));
  made = made-traced;
  placed = λ place p n h.
      same (Some p) (Some (record p { place = place })) n n h refl refl refl
      (λ w. (balanced-keeps w).placed place p n (h.even w));
  dropped = dropped-traced;
  entered = λ now p n h.
      same (Some p) None n (to_direct now p n) h refl refl refl (λ w. (balanced-keeps w).entered now p n (h.even w));
  left = λ n h.
      same None (first_item n.direct.in_flight) n (record n { direct = leave n.direct }) h refl refl refl
      (λ w. (balanced-keeps w).left n (h.even w));
  delivered = delivered-traced;
  arrived = arrived-traced;
  finished = finished-traced;
  pipe_left = λ pipe k p n e h.
      same None (flying_in k p) n (put_pipe pipe (pipe_exit k p) n) h refl refl refl
      (λ w. (balanced-keeps w).pipe_left pipe k p n e (h.even w));
  passed = passed-traced;
  configured = λ k config p n e h.
      same None None n (put_pipe k (pipe_configure config p) n) h refl refl refl
      (λ w. (balanced-keeps w).configured k config p n e (h.even w));
  opened = λ k config n e h.
      same None None n (new_pipe k config n) h refl refl refl (λ w. (balanced-keeps w).opened k config n e (h.even w));
  deleted = λ now k p n e h.
      dropping now (map (λ q. record { packet = q; cause = Deleted }) (pipe_packets p)) None n (delete_pipe now k n p) h
      refl refl refl (λ w. (balanced-keeps w).deleted now k p n e (h.even w));
}

-- `trace 1` keeps it
trace-suits : (c : Command) → c ≢ Trace false → Suits Traced c
unfolding Balanced balance
trace-suits (Trace true) h = λ n t. record { trace = refl; told = t.told; even = t.even }
trace-suits (Trace false) h = absurd (h refl)
trace-suits _ h = tt

all-suit : (ts : List Timed) → AllByRecursion (λ u. u.command ≢ Trace false) ts →
    AllByRecursion (λ u. Suits Traced u.command) ts
all-suit [] h = tt
all-suit (t ∷ ts) h = (trace-suits t.command h.0, all-suit ts h.1)

-- it begins with the first command
begun : (at : EventContext) (b : Bool) → Traced None (obey at 0 (Trace true) (opening_net b))
unfolding Told Fits next Balanced balance gone flown sum_some total weight
begun at b = record { trace = refl; told = (λ k e. absurd (cc e), refl); even = λ w. refl }

-- or it is on from the first event
opened : Traced None (opening_net true)
unfolding Told Fits next Balanced balance gone flown sum_some total weight
opened = record { trace = refl; told = refl; even = λ w. refl }

-- what is told in a traced run
all-told : (spec : Spec) (c : List Timed) (n : ℕ) → IsTraced spec.traced c →
    Told 0 (alone spec c n).net.records (alone spec c n).net.made
unfolding Told
all-told spec c n h = go spec.traced refl c n h
  where
    go : (b : Bool) → spec.traced ≡ b → (c : List Timed) (n : ℕ) → IsTraced b c →
        Told 0 (alone spec c n).net.records (alone spec c n).net.made
    go true e c n h =
        (walks Traced traced-keeps n (initial_state spec c) (all-suit c h)
        (subst (λ x. Traced None (opening_net x)) (sym e) opened)).told
    go false e c zero h = refl
    go false e [] (suc n) h = absurd h
    go false e (t ∷ ts) (suc n) h =
        (walks_on Traced traced-keeps spec t ts n (all-suit ts h.1)
        (λ at. subst (λ x. Traced None (obey at 0 x (opening_net spec.traced))) (sym h.0) (begun at spec.traced))).told

one-make : (k m : ℕ) (r : Record) → Fits m r → total (one_at k) (next r m) ≡ total (one_at k) m + one_if (makes k r)
unfolding Fits next total
one-make k m (PacketMade now packet l t s o d p z) h =
    let bit : one_if (packet == k) ≡ one_if (m == k) = ap (λ x. one_if (x == k)) h in
    omega (arith, bit)
one-make k m _ h = omega arith

-- there are as many makes as were made
makes-counted : (k a b : ℕ) (rs : List Record) → Told a rs b →
    total (one_at k) a + count_by (makes k) rs ≡ total (one_at k) b
unfolding Told
makes-counted k a b [] h =
    let same : total (one_at k) b ≡ total (one_at k) a = ap (total (one_at k)) h in
    let none : count_by (makes k) [] ≡ 0 = refl in
    omega arith
makes-counted k a b (r ∷ rs) h =
    omega (arith, count-cons (makes k) r rs, one-make k a r h.0, makes-counted k (next r a) b rs h.1)

none_yet : (k : ℕ) → total (one_at k) 0 ≡ 0
unfolding total
none_yet k = refl

pub each_make_once : EachMakeOnce
each_make_once spec c n k h =
    let net : Net = (alone spec c n).net in
    omega (arith, makes-counted k 0 net.made net.records (all-told spec c n h), none_yet k, once k net)

-- records that are told of are so in two parts
record Parts (a b : ℕ) (rs ss : List Record) : Type 0 where
  between : ℕ
  first : Told a rs between
  second : Told between ss b

parts : (a b : ℕ) (rs ss : List Record) → Told a (rs ++ ss) b → Parts a b rs ss
unfolding Told
parts a b [] ss h = record { between = a; first = refl; second = h }
parts a b (r ∷ rs) ss h =
    let p : Parts (next r a) b rs ss = parts (next r a) b rs ss h.1 in
    record { between = p.between; first = (h.0, p.first); second = p.second }

told-below : (k m : ℕ) (r : Record) → Fits m r → tells_of k r ≡ true → k < m
unfolding Fits
told-below k m (PacketMade now packet l t s o d p z) h e = absurd (cc e)
told-below k m _ h e = h k e

pub make_comes_first : MakeComesFirst
unfolding Told
make_comes_first spec c n k before after r h e t =
    let net : Net = (alone spec c n).net in
    let p : Parts 0 net.made before (r ∷ after) =
    parts 0 net.made before (r ∷ after) (subst (λ x. Told 0 x net.made) e (all-told spec c n h)) in
    omega (
      arith,
      makes-counted k 0 p.between before p.first,
      none_yet k,
      one_below k p.between (told-below k p.between r p.second.0 t),
    )
