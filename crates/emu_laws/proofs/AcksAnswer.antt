-- An acknowledgement is made as a segment was delivered.
use Rattle.std.proofs.Common.{◌≡◌, ℕ, ◌+◌, List, [], ◌∷◌, ◌++◌, refl, sym, subst, Option, Some, None}
use Rattle.std.specs.Prelude.{if◌then◌else◌, map}
use Rattle.std.specs.List.{AllByRecursion}
use Rattle.emu_laws.proofs.Types.{SendSpec, Packet, Load, Plain, Seg, Ack, Record, PacketMade, PacketDelivered, Denied, NoPipe, Budget, Deleted, ByReceiver, Origin, ByCommand, ByTrain, BySender}
use Rattle.emu_model.specs.Pipes.{Drop, PipeState, After, pipe_packets, pipe_arrive, pipe_finish, pipe_exit, pipe_configure}
use Rattle.emu_model.specs.Net.{Net, note, note_all, note_drops, to_direct, put_pipe, note_traced, make_record, drop_record, packet_of, load_by}
use Rattle.emu_model.specs.Rules.{start_behind}
use Rattle.emu_model.specs.Delay.{first_item, leave}
use Rattle.emu_model.specs.Commands.{new_pipe, without_pipe}
use Rattle.emu_model.specs.Events.{flying_in}
use Rattle.emu_laws.proofs.EachOf.{either, each_weaker}
use Rattle.emu_laws.proofs.FlowsKept.{Anything, anything}
use Rattle.emu_laws.proofs.EachRecord.{Phase, starting, leaving, moving, handed, counted, came, owed, ended, flying, IsOpen, IsSilent, IsSent, Tells, steps_tell}
use Rattle.emu_laws.specs.AcksAnswer.{DeliversSegment, Answers, EachAnswers, AcksAnswerSegments}

-- the last record, if there is one
last_of : Option Record → List Record → Option Record
last_of before [] = before
last_of before (r ∷ rs) = last_of (Some r) rs

last-more : (before : Option Record) (rs : List Record) (r : Record) → last_of before (rs ++ r ∷ []) ≡ Some r
unfolding last_of
last-more before [] r = refl
last-more before (x ∷ xs) r = last-more (Some x) xs r

joined : (before : Option Record) (rs ss : List Record) → EachAnswers before rs → EachAnswers (last_of before rs) ss →
    EachAnswers before (rs ++ ss)
unfolding last_of
joined before [] ss h g = g
joined before (r ∷ rs) ss h g = (h.0, joined (Some r) rs ss h.1 g)

-- no making of an acknowledgement
abbrev IsNoAck : Record → Type 0
IsNoAck (PacketMade moment number (ByReceiver j upto) proto src sport dst dport size) = ⊥
IsNoAck r = Unit {0}

answers-any : (before : Option Record) (r : Record) → IsNoAck r → Answers before r
answers-any before (PacketMade moment packet (ByReceiver k upto) proto src sport dst dport size) h = absurd h
answers-any before (PacketMade moment packet _ proto src sport dst dport size) h = tt
answers-any before _ h = tt

all-answer : (before : Option Record) (rs : List Record) → AllByRecursion IsNoAck rs → EachAnswers before rs
all-answer before [] h = tt
all-answer before (r ∷ rs) h = (answers-any before r h.0, all-answer (Some r) rs h.1)

silent-no-ack : (r : Record) → IsSilent r → IsNoAck r
silent-no-ack (PacketMade moment packet origin proto src sport dst dport size) e = absurd (cc e)
silent-no-ack _ e = tt

drops-no-ack : (now : ℕ) (ds : List Drop) → AllByRecursion IsNoAck (map (drop_record now) ds)
drops-no-ack now [] = tt
drops-no-ack now (d ∷ ds) = (tt, drops-no-ack now ds)

-- the last record as a packet was just delivered, and as an acknowledgement is to be made
abbrev Last : Phase → List Record → Type 0
Last (came now p) rs = last_of None rs ≡ Some (PacketDelivered now p.number p.load)
Last (owed now (Ack k upto) send) rs = (r : Record) × (last_of None rs ≡ Some r) × DeliversSegment k now r
Last _ rs = Unit {0}

open-last : (o : Phase) (rs : List Record) → IsOpen o → Last o rs
open-last starting rs h = tt
open-last (leaving p) rs h = tt
open-last (moving start p) rs h = tt
open-last (handed k p) rs h = tt
open-last (came now p) rs h = absurd h
open-last (owed now l send) rs h = absurd h
open-last ended rs h = tt

flying-last : (o : Option Packet) (rs : List Record) → Last (flying o) rs
flying-last None rs = tt
flying-last (Some p) rs = tt

sent-last : (now : ℕ) (l : Load) (send : SendSpec) (n : Net) (rs : List Record) → IsSent Anything l send n →
    Last (owed now l send) rs
sent-last now Plain send n rs h = tt
sent-last now (Seg k first) send n rs h = tt
sent-last now (Ack k upto) send n rs h = absurd h

made-answers : (now number : ℕ) (l : Origin) (send : SendSpec) (rs : List Record) → Last (owed now (load_by l) send) rs →
    Answers (last_of None rs) (make_record now l (packet_of (load_by l) send number))
made-answers now number (ByCommand k) send rs h = tt
made-answers now number (ByTrain k) send rs h = tt
made-answers now number (BySender k first) send rs h = tt
made-answers now number (ByReceiver k upto) send rs h = h

record Answering (o : Phase) (n : Net) : Type 0 where
  each : EachAnswers None n.records
  last : Last o n.records

-- once more was recorded, no making of an acknowledgement
noted : (rs : List Record) (o j : Phase) (n m : Net) → m.records ≡ n.records ++ rs → AllByRecursion IsNoAck rs →
    Last j m.records → Answering o n → Answering j m
noted rs o j n m e none last h = record {
  each = subst (EachAnswers None) (sym e)
      (joined None n.records rs h.each (all-answer (last_of None n.records) rs none));
  last = last;
}

-- nothing was recorded
unnoted : (o j : Phase) (n m : Net) → m.records ≡ n.records → Last j m.records → Answering o n → Answering j m
unnoted o j n m e last h = record { each = subst (EachAnswers None) (sym e) h.each; last = last }

dropped-answers : (now : ℕ) (ds : List Drop) (o : Phase) (n : Net) → Answering o n → Answering ended (note_drops now ds n)
dropped-answers now ds o n h =
    noted (map (drop_record now) ds) o ended n (note_drops now ds n) refl (drops-no-ack now ds) tt h

made-each : (now : ℕ) (l : Origin) (send : SendSpec) (n : Net) → Answering (owed now (load_by l) send) n →
    EachAnswers None (n.records ++ (if n.trace then make_record now l (packet_of (load_by l) send n.made) ∷ [] else []))
made-each now l send n h =
    let told : List Record = make_record now l (packet_of (load_by l) send n.made) ∷ [] in
    joined None n.records (if n.trace then told else []) h.each
    (either (EachAnswers (last_of None n.records)) n.trace told [] (made-answers now n.made l send n.records h.last, tt) tt)

answering-tells : (seed b : ℕ) → Tells seed b Anything Answering
answering-tells seed b = record {
  stood = λ n h. unnoted starting ended n n refl tt h;
  quiet = λ o n m late a h. unnoted o o n m a.records (subst (Last o) (sym a.records) h.last) h;
  said = λ o rs n a e h.
      noted rs o o n (note_all rs n) refl (each_weaker IsSilent IsNoAck silent-no-ack rs e)
      (open-last o (n.records ++ rs) a) h;
  sent = λ now l send n e h.
      unnoted starting (owed now l send) n n refl (sent-last now l send n n.records e) h;
  answered = λ now k first upto send p n is there h.
      unnoted (came now p) (owed now (Ack k upto) send) n n refl (
        PacketDelivered now p.number p.load,
        h.last,
        subst (λ l. DeliversSegment k now (PacketDelivered now p.number l)) (sym is) (refl, refl),
      ) h;
  made = λ now l send n few h. record { each = made-each now l send n h; last = tt };
  refused = λ now l send n many h.
      let p : Packet = packet_of (load_by l) send n.made in
      let m : Net = note_traced (make_record now l p ∷ []) (record n { made = n.made + 1 }) in
      dropped-answers now (record { packet = p; cause = Budget } ∷ []) (moving 0 p) m
      (record { each = made-each now l send n h; last = tt });
  goes_on = λ p n h. unnoted (leaving p) (moving (start_behind p.place n.book.rules) p) n n refl tt h;
  denied = λ now start p n is h.
      dropped-answers now (record { packet = p; cause = Denied } ∷ []) (moving start p) (counted start p n)
      (unnoted (moving start p) (moving start p) n (counted start p n) refl tt h);
  entered = λ now start p n h. unnoted (moving start p) ended n (to_direct now p (counted start p n)) refl tt h;
  piped = λ start k place p n is h.
      unnoted (moving start p) (handed k (record p { place = place })) n (counted start p n) refl tt h;
  unpiped = λ now k p n none h. dropped-answers now (record { packet = p; cause = NoPipe } ∷ []) (handed k p) n h;
  left = λ n h.
      let m : Net = record n { direct = leave n.direct } in
      unnoted starting (flying (first_item n.direct.in_flight)) n m refl (flying-last (first_item n.direct.in_flight) m.records) h;
  delivered = λ now p n h.
      let r : Record = PacketDelivered now p.number p.load in
      noted (r ∷ []) (leaving p) (came now p) n (note r n) refl (tt, tt) (last-more None n.records r) h;
  taken = λ now p n e h. unnoted (came now p) ended n n refl tt h;
  arrived = λ now k p q n e h.
      let a : After PipeState = pipe_arrive seed now p q in
      dropped-answers now a.dropped ended (put_pipe k a.state n)
      (unnoted (handed k p) ended n (put_pipe k a.state n) refl tt h);
  finished = λ now pipe k p n e h.
      let a : After PipeState = pipe_finish now k p in
      dropped-answers now a.dropped starting (put_pipe pipe a.state n)
      (unnoted starting starting n (put_pipe pipe a.state n) refl tt h);
  pipe_left = λ pipe k p n e h.
      let m : Net = put_pipe pipe (pipe_exit k p) n in
      unnoted starting (flying (flying_in k p)) n m refl (flying-last (flying_in k p) m.records) h;
  configured = λ k config p n ok e h. unnoted starting ended n (put_pipe k (pipe_configure config p) n) refl tt h;
  opened = λ k config n ok h. unnoted starting ended n (new_pipe k config n) refl tt h;
  ruled = λ book n h. unnoted starting ended n (record n { book = book }) refl tt h;
  deleted = λ now k p n ok e h.
      dropped-answers now (map (λ q. record { packet = q; cause = Deleted }) (pipe_packets p)) starting (without_pipe k n)
      (unnoted starting starting n (without_pipe k n) refl tt h);
}

pub acks_answer_segments : AcksAnswerSegments
acks_answer_segments spec c n =
    (steps_tell Anything Answering spec c (answering-tells spec.seed spec.budget.packets)
    (λ m h. unnoted ended starting m m refl tt h) (anything c) (record { each = tt; last = tt }) n).each
