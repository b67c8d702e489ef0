-- What each change of the rule list keeps of it holds in every state of an experiment: a search counts, and a command that
-- isn't refused adds or deletes.
use Rattle.std.proofs.Common.{◌≡◌, ℕ, zero, suc, ◌+◌, ◌/◌, ◌%◌, List, [], ◌∷◌, Option, Some, None}
use Rattle.std.specs.Prelude.{is_some, nat_lt, if◌then◌else◌}
use Rattle.std.specs.Option.{option_map_or}
use Rattle.emu_laws.proofs.Types.{EventContext, Spec, Timed, Class, NextCommand, Exit, Finish, Expiry, Emission, Packet, Load, Plain, Seg, Ack, Verdict, OverTheLink, Dropped, IntoPipe, Rule, SendSpec, NoPipe, Budget, Command, Add, Delete, Config, PipeDelete, PipeShow, Show, Inject, Train, Flow, Stop, OnePass, Trace, End, CommandDone, CommandRefused, PacketDelivered, PacketPassed, AckTaken, ByCommand, ByReceiver, BySender, ByTrain, Origin}
use Rattle.emu_model.specs.Rules.{RuleBook, initial_book, verdict, start_behind, counted_book, add_refusal, delete_refusal, book_with, book_without}
use Rattle.emu_model.specs.Delay.{first_item, leave}
use Rattle.emu_model.specs.Reno.{Sender, ack, with_segment, missing, emitted, emit}
use Rattle.emu_model.specs.Pipes.{InService, PipeState, pipe_arrive, pipe_exit, pipe_configure}
use Rattle.emu_model.specs.Net.{Net, FlowState, TrainState, note, note_traced, note_arrival, enter_pipe, drop_packet, by_verdict, pass_rules_from, pass_rules, reinject, packet_of, make_record, make, held, data_send, ack_send, find_pipe, put_pipe, put_after, find_flow, put_flow, find_train, put_train, take_segment, take_ack, take_load, deliver, load_by}
use Rattle.emu_model.specs.Commands.{new_pipe, delete_pipe, stop_flow, refusal_of, effect_of, obey}
use Rattle.emu_model.specs.Events.{direct_exit, deliver_some, flying_in, leave_pipe_some, pipe_exits, served_in, note_finish, pipe_finishes, expire_flow, emit_segment, emit_packet, event_of}
use Rattle.emu_model.specs.declared.sources.Due.{Due}
use Rattle.emu_model.specs.Step.{State, setting, take_class, take_due, count_step, spend, is_last_step, next_event, step_with, step}
use Rattle.emu_model.specs.Alone.{alone}
use Rattle.emu_laws.proofs.EachOf.{either, some_or}
use Rattle.emu_laws.proofs.EachChange.{found_or}

-- P is kept by each change of the rule list
pub record KeepsBook (P : RuleBook → Type 0) : Type 0 where
  pub searched : (start : ℕ) (p : Packet) (b : RuleBook) → P b → P (counted_book start p b)
  pub added : (r : Rule) (b : RuleBook) → add_refusal r b ≡ None → P b → P (book_with r b)
  pub deleted : (k : ℕ) (b : RuleBook) → delete_refusal k b ≡ None → P b → P (book_without k b)

module _ (P : RuleBook → Type 0) (keeps : KeepsBook P) where
  abbrev Keeps : Net → Type 0
  Keeps n = P n.book

  enter_pipe-keeps : (at : EventContext) (k : ℕ) (p : Packet) (n : Net) → Keeps n → Keeps (enter_pipe at k p n)
  enter_pipe-keeps at k p n h =
      some_or Keeps (λ q. put_after at.now k (pipe_arrive at.seed at.now p q) n) (find_pipe k n)
      (drop_packet at.now NoPipe p n) (λ q e. h) h

  by_verdict-keeps : (at : EventContext) (v : Verdict) (p : Packet) (n : Net) → Keeps n → Keeps (by_verdict at v p n)
  by_verdict-keeps at OverTheLink p n h = h
  by_verdict-keeps at Dropped p n h = h
  by_verdict-keeps at (IntoPipe k place) p n h =
      enter_pipe-keeps at k (record p { place = place }) (note_arrival at.now k (record p { place = place }) n) h

  pass_rules_from-keeps : (at : EventContext) (start : ℕ) (p : Packet) (n : Net) → Keeps n → Keeps (pass_rules_from at start p n)
  pass_rules_from-keeps at start p n h =
      by_verdict-keeps at (verdict start p n.book.rules) p (record n { book = counted_book start p n.book })
      (keeps.searched start p n.book h)

  make-keeps : (at : EventContext) (l : Origin) (send : SendSpec) (n : Net) → Keeps n → Keeps (make at l send n)
  make-keeps at l send n h =
      let p : Packet = packet_of (load_by l) send n.made in
      let m : Net = note_traced (make_record at.now l p ∷ []) (record n { made = n.made + 1 }) in
      either Keeps (nat_lt (held n) at.packet_budget) (pass_rules at p m) (drop_packet at.now Budget p m)
      (pass_rules_from-keeps at 0 p m h) h

  take_segment-keeps : (at : EventContext) (first : ℕ) (n : Net) (f : FlowState) → Keeps n → Keeps (take_segment at first n f)
  take_segment-keeps at first n f h =
      let came : List ℕ = with_segment first f.came in
      make-keeps at (ByReceiver f.number (missing f.flow.smss came)) (ack_send f.flow) (put_flow (record f { came = came }) n) h

  take_ack-keeps : (now upto : ℕ) (n : Net) (f : FlowState) → Keeps n → Keeps (take_ack now upto n f)
  take_ack-keeps now upto n f h =
      let t : Sender = ack f.flow now upto f.sender in
      either Keeps f.stopped n (note (AckTaken now f.number t.cwnd t.ssthresh) (put_flow (record f { sender = t }) n)) h h

  take_load-keeps : (at : EventContext) (l : Load) (n : Net) → Keeps n → Keeps (take_load at l n)
  take_load-keeps at Plain n h = h
  take_load-keeps at (Seg k first) n h =
      some_or Keeps (take_segment at first n) (find_flow k n) n (λ f e. take_segment-keeps at first n f h) h
  take_load-keeps at (Ack k upto) n h =
      some_or Keeps (take_ack at.now upto n) (find_flow k n) n (λ f e. take_ack-keeps at.now upto n f h) h

  deliver-keeps : (at : EventContext) (p : Packet) (n : Net) → Keeps n → Keeps (deliver at p n)
  deliver-keeps at p n h = take_load-keeps at p.load (note (PacketDelivered at.now p.number p.load) n) h

  direct_exit-keeps : (at : EventContext) (n : Net) → Keeps n → Keeps (direct_exit at n)
  direct_exit-keeps at n h = go (first_item n.direct.in_flight)
    where
      go : (o : Option Packet) → Keeps (deliver_some at o (record n { direct = leave n.direct }))
      go None = h
      go (Some p) = deliver-keeps at p (record n { direct = leave n.direct }) h

  pipe_exits-keeps : (at : EventContext) (pipe k : ℕ) (n : Net) (p : PipeState) → Keeps n → Keeps (pipe_exits at pipe k n p)
  pipe_exits-keeps at pipe k n p h = go (flying_in k p)
    where
      go : (o : Option Packet) → Keeps (leave_pipe_some at pipe k o (put_pipe pipe (pipe_exit k p) n))
      go None = h
      go (Some x) =
          let there : Net = put_pipe pipe (pipe_exit k p) n in
          let told : Net = note (PacketPassed at.now x.number pipe k) there in
          either Keeps n.one_pass (deliver at x there) (reinject at x told) (deliver-keeps at x there h)
          (pass_rules_from-keeps at (start_behind x.place told.book.rules) x told h)

  note_finish-keeps : (now pipe k : ℕ) (o : Option (InService Packet)) (n : Net) → Keeps n → Keeps (note_finish now pipe k o n)
  note_finish-keeps now pipe k None n h = h
  note_finish-keeps now pipe k (Some i) n h = h

  emit_segment-keeps : (at : EventContext) (n : Net) (f : FlowState) → Keeps n → Keeps (emit_segment at n f)
  emit_segment-keeps at n f h =
      make-keeps at (BySender f.number (emitted f.sender)) (data_send f.flow)
      (put_flow (record f { sender = emit f.flow at.now f.sender }) n) h

  emit_packet-keeps : (at : EventContext) (n : Net) (t : TrainState) → Keeps n → Keeps (emit_packet at n t)
  emit_packet-keeps at n t h = make-keeps at (ByTrain t.number) t.train.packet (put_train (record t { sent = t.sent + 1 }) n) h

  event-keeps : (at : EventContext) (class : Class) (k : ℕ) (n : Net) → Keeps n → Keeps (event_of at class k n)
  event-keeps at NextCommand k n h = h
  event-keeps at Exit zero n h = direct_exit-keeps at n h
  event-keeps at Exit (suc k) n h =
      some_or Keeps (pipe_exits at (suc k / 256) (suc k % 256) n) (find_pipe (suc k / 256) n) n
      (λ p e. pipe_exits-keeps at (suc k / 256) (suc k % 256) n p h) h
  event-keeps at Finish k n h =
      some_or Keeps (pipe_finishes at (k / 256) (k % 256) n) (find_pipe (k / 256) n) n
      (λ p e. note_finish-keeps at.now (k / 256) (k % 256) (served_in (k % 256) p) n h) h
  event-keeps at Expiry k n h = some_or Keeps (expire_flow at n) (find_flow k n) n (λ f e. h) h
  event-keeps at Emission k n h =
      some_or Keeps (emit_packet at n) (find_train k n) (option_map_or (emit_segment at n) (find_flow k n) n)
      (λ t e. emit_packet-keeps at n t h)
      (some_or Keeps (emit_segment at n) (find_flow k n) n (λ f e. emit_segment-keeps at n f h) h)

  effect-keeps : (at : EventContext) (j : ℕ) (c : Command) (n : Net) → refusal_of c n ≡ None → Keeps n →
      Keeps (effect_of at j c n)
  effect-keeps at j (Add r) n e h = keeps.added r n.book e h
  effect-keeps at j (Delete k) n e h = keeps.deleted k n.book e h
  effect-keeps at j (Config k config) n e h =
      some_or Keeps (λ p. put_pipe k (pipe_configure config p) n) (find_pipe k n) (new_pipe k config n) (λ p g. h) h
  effect-keeps at j (PipeDelete k) n e h = some_or Keeps (delete_pipe at.now k n) (find_pipe k n) n (λ p g. h) h
  effect-keeps at j PipeShow n e h = h
  effect-keeps at j Show n e h = h
  effect-keeps at j (Inject send) n e h = make-keeps at (ByCommand j) send n h
  effect-keeps at j (Train k t) n e h = h
  effect-keeps at j (Flow k f) n e h = h
  effect-keeps at j (Stop k) n e h = some_or Keeps (stop_flow n) (find_flow k n) n (λ f g. h) h
  effect-keeps at j (OnePass c) n e h = h
  effect-keeps at j (Trace c) n e h = h
  effect-keeps at j End n e h = h

  -- a command is refused or not, whether or not it is noted as done
  noted : (c : Command) (now k : ℕ) (n : Net) → refusal_of c n ≡ None → refusal_of c (note (CommandDone now k) n) ≡ None
  noted (Add r) now k n e = e
  noted (Delete j) now k n e = e
  noted (Config j config) now k n e = e
  noted (PipeDelete j) now k n e = e
  noted PipeShow now k n e = e
  noted Show now k n e = e
  noted (Inject send) now k n e = e
  noted (Train j t) now k n e = e
  noted (Flow j f) now k n e = e
  noted (Stop j) now k n e = e
  noted (OnePass c) now k n e = e
  noted (Trace c) now k n e = e
  noted End now k n e = e

  obey-keeps : (at : EventContext) (k : ℕ) (c : Command) (n : Net) → Keeps n → Keeps (obey at k c n)
  obey-keeps at k c n h =
      let m : Net = note (CommandDone at.now k) n in
      found_or Keeps (λ r. note (CommandRefused at.now k r) n) (refusal_of c n) (effect_of at k c m) (λ r e. h)
      (λ e. effect-keeps at k c m (noted c at.now k n e) h)

  counted-keeps : (t : State) → Keeps t.net → Keeps (count_step t).net
  counted-keeps t h =
      let u : State = record t { steps = t.steps + 1 } in
      either (λ s. Keeps s.net) (is_some t.ending) u (if is_last_step u then spend u else u) h
      (either (λ s. Keeps s.net) (is_last_step u) (spend u) u h h)

  taken-keeps : (class : Class) (e : Due) (c : Timed) (rest : List Timed) (s : State) → Keeps s.net →
      Keeps (take_class class e c rest s).net
  taken-keeps NextCommand e c rest s h = obey-keeps (setting s.spec e.moment) s.taken c.command s.net h
  taken-keeps Exit e c rest s h = event-keeps (setting s.spec e.moment) Exit e.source.number s.net h
  taken-keeps Finish e c rest s h = event-keeps (setting s.spec e.moment) Finish e.source.number s.net h
  taken-keeps Expiry e c rest s h = event-keeps (setting s.spec e.moment) Expiry e.source.number s.net h
  taken-keeps Emission e c rest s h = event-keeps (setting s.spec e.moment) Emission e.source.number s.net h

  step-keeps : (s : State) → Keeps s.net → Keeps (step s).net
  step-keeps s h = either (λ t. Keeps t.net) (is_some s.ending) s (step_with s.left s) h (go s.left)
    where
      go : (l : List Timed) → Keeps (step_with l s).net
      go [] = h
      go (c ∷ rest) =
          let e : Due = next_event s c in
          counted-keeps (take_due e c rest s) (taken-keeps e.source.class e c rest s h)

  alone-books : P initial_book → (spec : Spec) (c : List Timed) (n : ℕ) → P (alone spec c n).net.book
  alone-books h spec c zero = h
  alone-books h spec c (suc n) = step-keeps (alone spec c n) (alone-books h spec c n)

-- what each change of the rule list keeps holds of it in every state of a run
pub books_keep : (P : RuleBook → Type 0) → KeepsBook P → P initial_book → (spec : Spec) (c : List Timed) (n : ℕ) →
    P (alone spec c n).net.book
books_keep P keeps h spec c n = alone-books P keeps h spec c n
