-- As many acknowledgements are made as segments are delivered: a flow that has sent one is there when it comes.
use Rattle.std.proofs.Common.{◌≡◌, ℕ, ◌+◌, ◌≤◌, List, [], ◌∷◌, ◌++◌, Bool, true, false, refl, sym, ◌∙◌, ap, subst, Option, Some, None, inl, inr, append-nil, arith}
use Rattle.std.specs.Prelude.{if◌then◌else◌, ◌⊎◌, ◌==◌, map, count_by}
use Rattle.std.specs.List.{AllByRecursion}
use Rattle.std.proofs.lemmas.Bool.{eqb-true}
use Rattle.std.proofs.lemmas.List.Sums.{sum_by-cons}
use Rattle.emu_laws.proofs.Types.{SendSpec, Packet, Load, Plain, Seg, Ack, Record, PacketDelivered, PacketDropped, DropCause, Denied, NoPipe, Budget, Deleted, Origin}
use Rattle.emu_model.specs.Pipes.{Drop, PipeState, After, pipe_packets, pipe_arrive, pipe_finish, pipe_exit, pipe_configure}
use Rattle.emu_model.specs.Net.{Net, initial_net, note, note_all, note_drops, to_direct, put_pipe, put_after, find_pipe, note_traced, make_record, drop_record, packet_of, load_by}
use Rattle.emu_model.specs.Rules.{start_behind}
use Rattle.emu_model.specs.Delay.{first_item, leave}
use Rattle.emu_model.specs.Commands.{new_pipe, without_pipe, delete_pipe}
use Rattle.emu_model.specs.Events.{flying_in}
use Rattle.emu_model.specs.Alone.{alone}
use Rattle.emu_model.specs.TraceLaws.{held_packets}
use Rattle.emu_laws.proofs.Counts.{one_if, count-cons, count-append}
use Rattle.emu_laws.proofs.FlowsKept.{Anything, anything}
use Rattle.emu_laws.proofs.HeldWeights.{some, fallen, weigh, weigh-same, weigh-entered, weigh-left, weigh-arrived, weigh-finished, weigh-exited, weigh-configured, weigh-opened, weigh-deleted}
use Rattle.emu_laws.proofs.EachRecord.{Phase, starting, leaving, moving, handed, came, owed, ended, flying, counted, HasFlow, IsSilent, IsSent, Tells, steps_tell}
use Rattle.emu_laws.specs.AcksCounted.{is_segment, is_ack, brings_segment, ends_ack, AcksMatchSegments}

module _ (k : ℕ) where
  -- 1 for an acknowledgement of flow k, and for a segment
  acks_of : Packet → ℕ
  acks_of p = one_if (is_ack k p.load)

  segs_of : Packet → ℕ
  segs_of p = one_if (is_segment k p.load)

  -- what a phase adds: a segment that was delivered is to be acknowledged
  abbrev adds_acks : Phase → ℕ
  adds_acks starting = 0
  adds_acks (leaving p) = one_if (is_ack k p.load)
  adds_acks (moving start p) = one_if (is_ack k p.load)
  adds_acks (handed j p) = one_if (is_ack k p.load)
  adds_acks (came now p) = one_if (is_segment k p.load)
  adds_acks (owed now l send) = one_if (is_ack k l)
  adds_acks ended = 0

  abbrev adds_segs : Phase → ℕ
  adds_segs starting = 0
  adds_segs (leaving p) = one_if (is_segment k p.load)
  adds_segs (moving start p) = one_if (is_segment k p.load)
  adds_segs (handed j p) = one_if (is_segment k p.load)
  adds_segs (came now p) = one_if (is_segment k p.load)
  adds_segs (owed now l send) = one_if (is_segment k l)
  adds_segs ended = 0

  -- by the records
  abbrev over : List Record → ℕ
  over rs = count_by (ends_ack k) rs

  abbrev brought : List Record → ℕ
  brought rs = count_by (brings_segment k) rs

  -- acknowledgements are as many as segments came, and segments are only those of a flow that is there
  record Even (o : Phase) (n : Net) : Type 0 where
    acks : over n.records + weigh acks_of n + adds_acks o ≡ brought n.records
    segs : HasFlow k n ⊎ (weigh segs_of n + adds_segs o ≡ 0)

  -- after a change that records rs
  changed : (rs : List Record) (o j : Phase) (n m : Net) → m.records ≡ n.records ++ rs →
      over rs + weigh acks_of m + adds_acks j ≡ weigh acks_of n + adds_acks o + brought rs →
      (HasFlow k n → HasFlow k m) → weigh segs_of m + adds_segs j ≤ weigh segs_of n + adds_segs o →
      Even o n → Even j m
  changed rs o j n m e acks flows segs h = record {
    acks = omega (
      arith,
      acks,
      h.acks,
      ap over e ∙ count-append (ends_ack k) n.records rs,
      ap brought e ∙ count-append (brings_segment k) n.records rs,
    );
    segs = go h.segs;
  }
    where
      go : HasFlow k n ⊎ (weigh segs_of n + adds_segs o ≡ 0) → HasFlow k m ⊎ (weigh segs_of m + adds_segs j ≡ 0)
      go (inl there) = inl (flows there)
      go (inr none) = inr (omega (arith, segs, none))

  -- after one that records nothing
  same : (o j : Phase) (n m : Net) → m.records ≡ n.records →
      weigh acks_of m + adds_acks j ≡ weigh acks_of n + adds_acks o →
      (HasFlow k n → HasFlow k m) → weigh segs_of m + adds_segs j ≤ weigh segs_of n + adds_segs o →
      Even o n → Even j m
  same o j n m e acks flows segs h =
      changed [] o j n m (e ∙ sym (append-nil n.records))
      (omega (arith, acks, none (ends_ack k), none (brings_segment k))) flows segs h
    where
      none : (test : Record → Bool) → count_by test [] ≡ 0
      none test = refl

  drops-over : (now : ℕ) (ds : List Drop) → over (map (drop_record now) ds) ≡ fallen acks_of ds
  unfolding fallen acks_of
  drops-over now [] = refl
  drops-over now (d ∷ ds) =
      omega (
        arith,
        count-cons (ends_ack k) (drop_record now d) (map (drop_record now) ds),
        sum_by-cons {X = Drop} (λ x. acks_of x.packet) d ds,
        drops-over now ds,
      )

  drops-brought : (now : ℕ) (ds : List Drop) → brought (map (drop_record now) ds) ≡ 0
  drops-brought now [] = refl
  drops-brought now (d ∷ ds) =
      omega (
        arith,
        count-cons (brings_segment k) (drop_record now d) (map (drop_record now) ds),
        drops-brought now ds,
      )

  -- after one that drops packets
  dropping : (now : ℕ) (ds : List Drop) (o j : Phase) (n m : Net) → m.records ≡ n.records ++ map (drop_record now) ds →
      weigh acks_of m + fallen acks_of ds + adds_acks j ≡ weigh acks_of n + adds_acks o →
      (HasFlow k n → HasFlow k m) → weigh segs_of m + adds_segs j ≤ weigh segs_of n + adds_segs o →
      Even o n → Even j m
  dropping now ds o j n m e acks flows segs h =
      changed (map (drop_record now) ds) o j n m e (omega (arith, acks, drops-over now ds, drops-brought now ds)) flows segs h

  one-over : (cause : DropCause) (p : Packet) → fallen acks_of (record { packet = p; cause = cause } ∷ []) ≡ one_if (is_ack k p.load)
  unfolding fallen acks_of
  one-over cause p = omega (arith, sum_by-cons {X = Drop} (λ x. acks_of x.packet) (record { packet = p; cause = cause }) [])

  silent-none : (test : Record → Bool) → ((r : Record) → IsSilent r → test r ≡ false) → (rs : List Record) →
      AllByRecursion IsSilent rs → count_by test rs ≡ 0
  silent-none test so [] h = refl
  silent-none test so (r ∷ rs) h =
      omega (arith, count-cons test r rs, ap one_if (so r h.0), silent-none test so rs h.1)

  silent-over : (r : Record) → IsSilent r → ends_ack k r ≡ false
  silent-over (PacketDelivered moment packet l) e = absurd (cc e)
  silent-over (PacketDropped moment packet l cause) e = absurd (cc e)
  silent-over _ e = refl

  silent-brought : (r : Record) → IsSilent r → brings_segment k r ≡ false
  silent-brought (PacketDelivered moment packet l) e = absurd (cc e)
  silent-brought _ e = refl

  -- a phase in which a packet is on its way adds its weight
  flying-acks : (o : Option Packet) → adds_acks (flying o) ≡ some acks_of o
  unfolding acks_of
  flying-acks None = refl
  flying-acks (Some p) = refl

  flying-segs : (o : Option Packet) → adds_segs (flying o) ≡ some segs_of o
  unfolding segs_of
  flying-segs None = refl
  flying-segs (Some p) = refl

  -- where a packet was delivered that isn't a segment of a flow that is there, it is none of flow k
  taken-none : (n : Net) (p : Packet) → ((j first : ℕ) → p.load ≡ Seg j first → HasFlow j n → ⊥) →
      HasFlow k n ⊎ (weigh segs_of n + one_if (is_segment k p.load) ≡ 0) → one_if (is_segment k p.load) ≡ 0
  taken-none n p none_there (inr none) = omega (arith, none)
  taken-none n p none_there (inl there) = go p.load refl
    where
      go : (l : Load) → p.load ≡ l → one_if (is_segment k l) ≡ 0
      go Plain e = refl
      go (Ack j upto) e = refl
      go (Seg j first) e = here (j == k) refl
        where
          here : (b : Bool) → (j == k) ≡ b → one_if b ≡ 0
          here true g = absurd (none_there j first e (subst (λ x. HasFlow x n) (sym (eqb-true j k g)) there))
          here false g = refl

  sent-acks : (l : Load) (send : SendSpec) (n : Net) → IsSent Anything l send n → one_if (is_ack k l) ≡ 0
  sent-acks Plain send n h = refl
  sent-acks (Seg j first) send n h = refl
  sent-acks (Ack j upto) send n h = absurd h

  -- a segment that is sent is one of a flow that is there
  sent-segs : (l : Load) (send : SendSpec) (n : Net) → IsSent Anything l send n →
      HasFlow k n ⊎ (weigh segs_of n + 0 ≡ 0) → HasFlow k n ⊎ (weigh segs_of n + one_if (is_segment k l) ≡ 0)
  sent-segs Plain send n h (inl there) = inl there
  sent-segs Plain send n h (inr none) = inr none
  sent-segs (Ack j upto) send n h g = absurd h
  sent-segs (Seg j first) send n h (inl there) = inl there
  sent-segs (Seg j first) send n h (inr none) = here (j == k) refl
    where
      has : HasFlow j n
      has e = some_is (sym h.there ∙ e)
        where
          some_is : {A : Type 0} {a : A} → Some a ≡ None → ⊥
          some_is u = cc u

      here : (b : Bool) → (j == k) ≡ b → HasFlow k n ⊎ (weigh segs_of n + one_if b ≡ 0)
      here true g = inl (subst (λ x. HasFlow x n) (eqb-true j k g) has)
      here false g = inr none

  acks-is : (p : Packet) → acks_of p ≡ one_if (is_ack k p.load)
  unfolding acks_of
  acks-is p = refl

  segs-is : (p : Packet) → segs_of p ≡ one_if (is_segment k p.load)
  unfolding segs_of
  segs-is p = refl

  -- a packet was made, which a traced run records
  abbrev begun : ℕ → Origin → Packet → Net → Net
  begun now l p n = note_traced (make_record now l p ∷ []) (record n { made = n.made + 1 })

  traced-none : (test : Record → Bool) (now : ℕ) (l : Origin) (p : Packet) (b : Bool) → test (make_record now l p) ≡ false →
      count_by test (if b then make_record now l p ∷ [] else []) ≡ 0
  traced-none test now l p true e = omega (arith, count-cons test (make_record now l p) [], ap one_if e, none)
    where
      none : count_by test [] ≡ 0
      none = refl
  traced-none test now l p false e = refl

  made-even : (now : ℕ) (l : Origin) (send : SendSpec) (n : Net) → Even (owed now (load_by l) send) n →
      Even (moving 0 (packet_of (load_by l) send n.made)) (begun now l (packet_of (load_by l) send n.made) n)
  made-even now l send n h =
      let p : Packet = packet_of (load_by l) send n.made in
      let m : Net = begun now l p n in
      changed (if n.trace then make_record now l p ∷ [] else []) (owed now (load_by l) send) (moving 0 p) n m refl
      (omega (
        arith,
        weigh-same acks_of n m refl refl,
        traced-none (ends_ack k) now l p n.trace refl,
        traced-none (brings_segment k) now l p n.trace refl,
      )) (λ there. there) (omega (arith, weigh-same segs_of n m refl refl)) h

  -- one packet that is on its way is dropped
  one-dropped : (now : ℕ) (cause : DropCause) (p : Packet) (n : Net) → Even (moving 0 p) n →
      Even ended (note_drops now (record { packet = p; cause = cause } ∷ []) n)
  one-dropped now cause p n h =
      let m : Net = note_drops now (record { packet = p; cause = cause } ∷ []) n in
      dropping now (record { packet = p; cause = cause } ∷ []) (moving 0 p) ended n m refl
      (omega (arith, weigh-same acks_of n m refl refl, one-over cause p)) (λ there. there)
      (omega (arith, weigh-same segs_of n m refl refl)) h

  delivered-even : (now : ℕ) (p : Packet) (n : Net) → Even (leaving p) n →
      Even (came now p) (note (PacketDelivered now p.number p.load) n)
  delivered-even now p n h =
      let r : Record = PacketDelivered now p.number p.load in
      let m : Net = note r n in
      changed (r ∷ []) (leaving p) (came now p) n m refl
      (omega (
        arith,
        weigh-same acks_of n m refl refl,
        count-cons (ends_ack k) r [],
        count-cons (brings_segment k) r [],
        none (ends_ack k),
        none (brings_segment k),
      )) (λ there. there) (omega (arith, weigh-same segs_of n m refl refl)) h
    where
      none : (test : Record → Bool) → count_by test [] ≡ 0
      none test = refl

  arrived-even : (seed now pipe : ℕ) (p : Packet) (q : PipeState) (n : Net) → find_pipe pipe n ≡ Some q →
      Even (handed pipe p) n → Even ended (put_after now pipe (pipe_arrive seed now p q) n)
  arrived-even seed now pipe p q n e h =
      let a : After PipeState = pipe_arrive seed now p q in
      let there : Net = put_pipe pipe a.state n in
      let m : Net = put_after now pipe a n in
      dropping now a.dropped (handed pipe p) ended n m refl
      (omega (arith, weigh-arrived acks_of seed now pipe p q n e, weigh-same acks_of there m refl refl, acks-is p))
      (λ there. there)
      (omega (arith, weigh-arrived segs_of seed now pipe p q n e, weigh-same segs_of there m refl refl, segs-is p)) h

  finished-even : (now pipe i : ℕ) (q : PipeState) (n : Net) → find_pipe pipe n ≡ Some q → Even starting n →
      Even ended (put_after now pipe (pipe_finish now i q) n)
  finished-even now pipe i q n e h =
      let a : After PipeState = pipe_finish now i q in
      let there : Net = put_pipe pipe a.state n in
      let m : Net = put_after now pipe a n in
      dropping now a.dropped starting ended n m refl
      (omega (arith, weigh-finished acks_of now pipe i q n e, weigh-same acks_of there m refl refl)) (λ there. there)
      (omega (arith, weigh-finished segs_of now pipe i q n e, weigh-same segs_of there m refl refl)) h

  deleted-even : (now pipe : ℕ) (q : PipeState) (n : Net) → find_pipe pipe n ≡ Some q → Even starting n →
      Even ended (delete_pipe now pipe n q)
  deleted-even now pipe q n e h =
      let ds : List Drop = map (λ x. record { packet = x; cause = Deleted }) (pipe_packets q) in
      let there : Net = without_pipe pipe n in
      let m : Net = delete_pipe now pipe n q in
      dropping now ds starting ended n m refl
      (omega (arith, weigh-deleted acks_of pipe q n e, weigh-same acks_of there m refl refl)) (λ there. there)
      (omega (arith, weigh-deleted segs_of pipe q n e, weigh-same segs_of there m refl refl)) h

  -- nothing moves
  still : (o j : Phase) (n m : Net) → m.direct ≡ n.direct → m.pipes ≡ n.pipes → m.records ≡ n.records →
      (HasFlow k n → HasFlow k m) → adds_acks j ≡ adds_acks o → adds_segs j ≤ adds_segs o → Even o n → Even j m
  still o j n m d p r flows acks segs h =
      same o j n m r (omega (arith, weigh-same acks_of n m d p, acks)) flows (omega (arith, weigh-same segs_of n m d p, segs)) h

  even-tells : (seed b : ℕ) → Tells seed b Anything Even
  even-tells seed b = record {
    stood = λ n h. still starting ended n n refl refl refl (λ there. there) refl (omega arith) h;
    quiet = λ o n m late a h. still o o n m a.direct a.pipes a.records (a.flows k) refl (omega arith) h;
    said = λ o rs n a e h.
        let m : Net = note_all rs n in
        changed rs o o n m refl
        (omega (
          arith,
          weigh-same acks_of n m refl refl,
          silent-none (ends_ack k) silent-over rs e,
          silent-none (brings_segment k) silent-brought rs e,
        )) (λ there. there) (omega (arith, weigh-same segs_of n m refl refl)) h;
    sent = λ now l send n e h. record {
      acks = omega (arith, h.acks, sent-acks l send n e);
      segs = sent-segs l send n e h.segs;
    };
    answered = λ now j first upto send p n is there h.
        let here : one_if (is_segment k p.load) ≡ one_if (j == k) = ap (λ l. one_if (is_segment k l)) is in
        still (came now p) (owed now (Ack j upto) send) n n refl refl refl (λ there. there) (sym here) (omega arith) h;
    made = λ now l send n few h. made-even now l send n h;
    refused = λ now l send n many h.
        let p : Packet = packet_of (load_by l) send n.made in
        one-dropped now Budget p (begun now l p n) (made-even now l send n h);
    goes_on = λ p n h. still (leaving p) (moving (start_behind p.place n.book.rules) p) n n refl refl refl (λ there. there) refl (omega arith) h;
    denied = λ now start p n is h.
        one-dropped now Denied p (counted start p n)
        (still (moving start p) (moving 0 p) n (counted start p n) refl refl refl (λ there. there) refl (omega arith) h);
    entered = λ now start p n h.
        let m : Net = counted start p n in
        same (moving start p) ended n (to_direct now p m) refl
        (omega (arith, weigh-entered acks_of now p m, weigh-same acks_of n m refl refl, acks-is p)) (λ there. there)
        (omega (arith, weigh-entered segs_of now p m, weigh-same segs_of n m refl refl, segs-is p)) h;
    piped = λ start j place p n is h.
        still (moving start p) (handed j (record p { place = place })) n (counted start p n) refl refl refl (λ there. there) refl
        (omega arith) h;
    unpiped = λ now j p n none h.
        one-dropped now NoPipe p n
        (still (handed j p) (moving 0 p) n n refl refl refl (λ there. there) refl (omega arith) h);
    left = λ n h.
        let m : Net = record n { direct = leave n.direct } in
        same starting (flying (first_item n.direct.in_flight)) n m refl
        (omega (arith, weigh-left acks_of n, flying-acks (first_item n.direct.in_flight))) (λ there. there)
        (omega (arith, weigh-left segs_of n, flying-segs (first_item n.direct.in_flight))) h;
    delivered = delivered-even;
    taken = λ now p n none h.
        still (came now p) ended n n refl refl refl (λ there. there) (sym (taken-none n p none h.segs)) (omega arith) h;
    arrived = arrived-even seed;
    finished = finished-even;
    pipe_left = λ pipe i q n e h.
        let m : Net = put_pipe pipe (pipe_exit i q) n in
        same starting (flying (flying_in i q)) n m refl
        (omega (arith, weigh-exited acks_of pipe i q n e, flying-acks (flying_in i q))) (λ there. there)
        (omega (arith, weigh-exited segs_of pipe i q n e, flying-segs (flying_in i q))) h;
    configured = λ pipe config q n ok e h.
        same starting ended n (put_pipe pipe (pipe_configure config q) n) refl
        (omega (arith, weigh-configured acks_of pipe config q n e)) (λ there. there)
        (omega (arith, weigh-configured segs_of pipe config q n e)) h;
    opened = λ pipe config n ok h.
        same starting ended n (new_pipe pipe config n) refl (omega (arith, weigh-opened acks_of pipe config n))
        (λ there. there) (omega (arith, weigh-opened segs_of pipe config n)) h;
    ruled = λ book n h. still starting ended n (record n { book = book }) refl refl refl (λ there. there) refl (omega arith) h;
    deleted = λ now pipe q n ok e h. deleted-even now pipe q n e h;
  }

begin-even : (k : ℕ) → Even k starting initial_net
unfolding weigh
begin-even k = record { acks = refl; segs = inr refl }

weigh-acks : (k : ℕ) (n : Net) → weigh (acks_of k) n ≡ count_by (λ p. is_ack k p.load) (held_packets n)
unfolding weigh acks_of
weigh-acks k n = refl

pub acks_match_segments : AcksMatchSegments
acks_match_segments spec c n k =
    omega (
      arith,
      (steps_tell Anything (Even k) spec c (even-tells k spec.seed spec.budget.packets)
          (λ m h. still k ended starting m m refl refl refl (λ there. there) refl (omega arith) h) (anything c) (begin-even k) n).acks,
      weigh-acks k (alone spec c n).net,
    )
