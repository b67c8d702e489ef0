-- What was recorded before is not read: more records in front change nothing of what an event or a command does.
use Rattle.std.proofs.Common.{◌≡◌, ℕ, zero, suc, ◌+◌, ◌/◌, ◌%◌, List, [], ◌∷◌, ◌++◌, Bool, true, false, refl, ◌∙◌, ap, Option, Some, None, append_assoc}
use Rattle.std.specs.Prelude.{if◌then◌else◌, is_some, nat_lt}
use Rattle.std.specs.Option.{option_map_or}
use Rattle.emu_model.specs.Types.{Timed, Class, NextCommand, Exit, Finish, Expiry, Emission, Packet, Load, Origin, ByCommand, ByTrain, BySender, ByReceiver, Plain, Seg, Ack, Verdict, OverTheLink, Dropped, IntoPipe, SendSpec, NoPipe, Budget, Command, Add, Delete, Config, PipeDelete, PipeShow, Show, Inject, Train, Flow, Stop, OnePass, Trace, End, Record, CommandDone, CommandRefused, PacketFinished, PacketDelivered, PacketPassed, AckTaken}
use Rattle.emu_model.specs.declared.sources.Due.{Due}
use Rattle.emu_model.specs.Rules.{verdict, start_behind, counted_book}
use Rattle.emu_model.specs.Delay.{first_item, leave}
use Rattle.emu_model.specs.Reno.{with_segment, missing, ack, emitted, emit, expire}
use Rattle.emu_model.specs.Pipes.{After, InService, PipeState, pipe_arrive, pipe_finish, pipe_exit, pipe_configure}
use Rattle.emu_model.specs.Net.{Net, EventContext, FlowState, note, note_all, note_traced, drop_packet, arrivals, to_pipe, enter_pipe, by_verdict, pass_rules_from, reinject, packet_of, load_by, make_record, make, held, data_send, ack_send, find_pipe, put_pipe, put_after, find_flow, put_flow, find_train, put_train, take_segment, take_ack, take_load, deliver}
use Rattle.emu_model.specs.Commands.{new_pipe, delete_pipe, stop_flow, refusal_of, effect_of, obey}
use Rattle.emu_model.specs.Events.{direct_exit, flying_in, leave_pipe, pipe_exits, served_in, note_finish, pipe_finishes, expire_flow, emit_segment, emit_packet, emission, event_of}
use Rattle.emu_model.specs.Step.{State, setting, take_command, take_class, take_due, count_step, spend, is_last_step, next_event, step_with, step}
use Rattle.emu_model.specs.RunLaws.{with_earlier, RecordsAreNotRead}

module _ (rs : List Record) where
  -- the net with these records before its own
  abbrev E : Net → Net
  E n = record n { records = rs ++ n.records }

  -- a change of a net is the same behind them
  abbrev Same : (Net → Net) → Type 0
  Same f = (n : Net) → f (E n) ≡ E (f n)

  both : (f g : Net → Net) → Same f → Same g → Same (λ n. g (f n))
  both f g sf sg n = ap g (sf n) ∙ sg (f n)

  noted : (qs : List Record) → Same (note_all qs)
  noted qs n = ap (λ x. record n { records = x }) (append_assoc rs n.records qs)

  noted-traced : (qs : List Record) → Same (note_traced qs)
  noted-traced qs n = noted (if n.trace then qs else []) n

  put-after : (now k : ℕ) (a : After PipeState) → Same (put_after now k a)
  put-after now k a n = noted _ (put_pipe k a.state n)

  -- with what is found in the net, as it was found before
  found : {A : Type 0} (f : A → Net → Net) (g : Net → Net) (o : Option A) → ((a : A) → Same (f a)) → Same g →
      (n : Net) → option_map_or (λ a. f a (E n)) o (g (E n)) ≡ E (option_map_or (λ a. f a n) o (g n))
  found f g None sf sg n = sg n
  found f g (Some a) sf sg n = sf a n

  chosen : (f g : Net → Net) (b : Bool) → Same f → Same g →
      (n : Net) → (if b then f (E n) else g (E n)) ≡ E (if b then f n else g n)
  chosen f g true sf sg n = sf n
  chosen f g false sf sg n = sg n

  to-pipe : (at : EventContext) (k : ℕ) (p : Packet) → Same (to_pipe at k p)
  to-pipe at k p n =
      let come : List Record = option_map_or (arrivals at.now p) (find_pipe k n) [] in
      let m : Net = note_traced come n in
      ap (enter_pipe at k p) (noted-traced come n)
      ∙ found (λ pipe. put_after at.now k (pipe_arrive at.seed at.now p pipe)) (drop_packet at.now NoPipe p)
      (find_pipe k m) (λ pipe. put-after at.now k (pipe_arrive at.seed at.now p pipe)) (noted _) m

  by-verdict : (at : EventContext) (v : Verdict) (p : Packet) → Same (by_verdict at v p)
  by-verdict at OverTheLink p n = refl
  by-verdict at Dropped p n = noted _ n
  by-verdict at (IntoPipe k place) p n = to-pipe at k (record p { place = place }) n

  pass-rules : (at : EventContext) (start : ℕ) (p : Packet) → Same (pass_rules_from at start p)
  pass-rules at start p n =
      by-verdict at (verdict start p n.book.rules) p (record n { book = counted_book start p n.book })

  goes-on : (at : EventContext) (p : Packet) → Same (reinject at p)
  goes-on at p n = pass-rules at (start_behind p.place n.book.rules) p n

  making : (at : EventContext) (o : Origin) (send : SendSpec) → Same (make at o send)
  making at o send n =
      let p : Packet = packet_of (load_by o) send n.made in
      let line : List Record = make_record at.now o p ∷ [] in
      let m : Net = record n { made = n.made + 1 } in
      ap (λ x. if nat_lt (held n) at.packet_budget then pass_rules_from at 0 p x else drop_packet at.now Budget p x)
      (noted-traced line m)
      ∙ chosen (pass_rules_from at 0 p) (drop_packet at.now Budget p) (nat_lt (held n) at.packet_budget)
      (pass-rules at 0 p) (noted _) (note_traced line m)

  -- a flow of the net, put through
  taking-segment : (at : EventContext) (first : ℕ) (f : FlowState) → Same (λ n. take_segment at first n f)
  taking-segment at first f n =
      let came : List ℕ = with_segment first f.came in
      making at (ByReceiver f.number (missing f.flow.smss came)) (ack_send f.flow) (put_flow (record f { came = came }) n)

  taking-ack : (now upto : ℕ) (f : FlowState) → Same (λ n. take_ack now upto n f)
  taking-ack now upto f n = go f.stopped
    where
      go : (b : Bool) →
          (if b then E n else note (AckTaken now f.number (ack f.flow now upto f.sender).cwnd (ack f.flow now upto f.sender).ssthresh) (E (put_flow (record f { sender = ack f.flow now upto f.sender }) n)))
          ≡ E (if b then n else note (AckTaken now f.number (ack f.flow now upto f.sender).cwnd (ack f.flow now upto f.sender).ssthresh) (put_flow (record f { sender = ack f.flow now upto f.sender }) n))
      go true = refl
      go false = noted _ (put_flow (record f { sender = ack f.flow now upto f.sender }) n)

  same : Same (λ n. n)
  same n = refl

  taking-load : (at : EventContext) (l : Load) → Same (take_load at l)
  taking-load at Plain n = refl
  taking-load at (Seg k first) n =
      found (λ f n. take_segment at first n f) (λ n. n) (find_flow k n) (taking-segment at first) same n
  taking-load at (Ack k upto) n =
      found (λ f n. take_ack at.now upto n f) (λ n. n) (find_flow k n) (taking-ack at.now upto) same n

  delivered : (at : EventContext) (p : Packet) → Same (deliver at p)
  delivered at p =
      both (note (PacketDelivered at.now p.number p.load)) (take_load at p.load) (noted _) (taking-load at p.load)

  -- events
  exits-direct : (at : EventContext) → Same (direct_exit at)
  exits-direct at n =
      found (λ q. deliver at q) (λ n. n) (first_item n.direct.in_flight) (delivered at) same (record n { direct = leave n.direct })

  leaves-pipe : (at : EventContext) (pipe k : ℕ) (q : Packet) → Same (leave_pipe at pipe k q)
  leaves-pipe at pipe k q n =
      chosen (deliver at q) (λ n. reinject at q (note (PacketPassed at.now q.number pipe k) n)) n.one_pass
      (delivered at q) (both (note (PacketPassed at.now q.number pipe k)) (reinject at q) (noted _) (goes-on at q)) n

  exits-pipe : (at : EventContext) (pipe k : ℕ) (p : PipeState) → Same (λ n. pipe_exits at pipe k n p)
  exits-pipe at pipe k p n =
      found (λ q. leave_pipe at pipe k q) (λ n. n) (flying_in k p) (leaves-pipe at pipe k) same (put_pipe pipe (pipe_exit k p) n)

  notes-finish : (now pipe k : ℕ) (s : Option (InService Packet)) → Same (note_finish now pipe k s)
  notes-finish now pipe k s n =
      found (λ i. note (PacketFinished now i.item.number pipe k)) (λ n. n) s (λ i. noted _) same n

  finishes-pipe : (at : EventContext) (pipe k : ℕ) (p : PipeState) → Same (λ n. pipe_finishes at pipe k n p)
  finishes-pipe at pipe k p =
      both (note_finish at.now pipe k (served_in k p)) (put_after at.now pipe (pipe_finish at.now k p))
      (notes-finish at.now pipe k (served_in k p)) (put-after at.now pipe (pipe_finish at.now k p))

  emits : (at : EventContext) (k : ℕ) → Same (emission at k)
  emits at k n =
      found (λ t n. emit_packet at n t) (λ n. option_map_or (emit_segment at n) (find_flow k n) n) (find_train k n)
      (λ t n. making at (ByTrain t.number) t.train.packet (put_train (record t { sent = t.sent + 1 }) n))
      (λ n. found (λ f n. emit_segment at n f) (λ n. n) (find_flow k n) (λ f n. making at (BySender f.number (emitted f.sender)) (data_send f.flow)
      (put_flow (record f { sender = emit f.flow at.now f.sender }) n)) same n) n

  event-same : (at : EventContext) (class : Class) (k : ℕ) → Same (event_of at class k)
  event-same at NextCommand k n = refl
  event-same at Exit zero n = exits-direct at n
  event-same at Exit (suc k) n =
      found (λ p n. pipe_exits at (suc k / 256) (suc k % 256) n p) (λ n. n) (find_pipe (suc k / 256) n)
      (exits-pipe at (suc k / 256) (suc k % 256)) same n
  event-same at Finish k n =
      found (λ p n. pipe_finishes at (k / 256) (k % 256) n p) (λ n. n) (find_pipe (k / 256) n)
      (finishes-pipe at (k / 256) (k % 256)) same n
  event-same at Expiry k n =
      found (λ f n. expire_flow at n f) (λ n. n) (find_flow k n)
      (λ f n. noted _ (put_flow (record f { sender = expire f.flow at.now f.sender }) n)) same n
  event-same at Emission k n = emits at k n

  -- commands
  refusal-same : (c : Command) (n : Net) → refusal_of c (E n) ≡ refusal_of c n
  refusal-same (Add r) n = refl
  refusal-same (Delete k) n = refl
  refusal-same (Config k config) n = refl
  refusal-same (PipeDelete k) n = refl
  refusal-same PipeShow n = refl
  refusal-same Show n = refl
  refusal-same (Inject send) n = refl
  refusal-same (Train k t) n = refl
  refusal-same (Flow k f) n = refl
  refusal-same (Stop k) n = refl
  refusal-same (OnePass b) n = refl
  refusal-same (Trace b) n = refl
  refusal-same End n = refl

  effect-same : (at : EventContext) (j : ℕ) (c : Command) → Same (effect_of at j c)
  effect-same at j (Add r) n = refl
  effect-same at j (Delete k) n = refl
  effect-same at j (Config k config) n =
      found (λ p. put_pipe k (pipe_configure config p)) (new_pipe k config) (find_pipe k n) (λ p n. refl) (λ n. refl) n
  effect-same at j (PipeDelete k) n =
      found (λ p n. delete_pipe at.now k n p) (λ n. n) (find_pipe k n) (λ p n. noted _ _) same n
  effect-same at j PipeShow n = noted _ n
  effect-same at j Show n = noted _ n
  effect-same at j (Inject send) n = making at (ByCommand j) send n
  effect-same at j (Train k t) n = refl
  effect-same at j (Flow k f) n = refl
  effect-same at j (Stop k) n =
      found (λ f n. stop_flow n f) (λ n. n) (find_flow k n) (λ f n. refl) same n
  effect-same at j (OnePass b) n = refl
  effect-same at j (Trace b) n = refl
  effect-same at j End n = refl

  obey-same : (at : EventContext) (k : ℕ) (c : Command) → Same (obey at k c)
  obey-same at k c n =
      ap (λ o. option_map_or (λ r. note (CommandRefused at.now k r) (E n)) o
      (effect_of at k c (note (CommandDone at.now k) (E n)))) (refusal-same c n)
      ∙ found (λ r. note (CommandRefused at.now k r)) (λ n. effect_of at k c (note (CommandDone at.now k) n))
      (refusal_of c n) (λ r. noted _)
      (both (note (CommandDone at.now k)) (effect_of at k c) (noted _) (effect-same at k c)) n

  -- steps
  abbrev W : State → State
  W = with_earlier rs

  take-class : (class : Class) (d : Due) (c : Timed) (rest : List Timed) (s : State) →
      take_class class d c rest (W s) ≡ W (take_class class d c rest s)
  take-class NextCommand d c rest s =
      ap (λ m. record (take_command d.moment c rest s) { net = m }) (obey-same (setting s.spec d.moment) s.taken c.command s.net)
  take-class Exit d c rest s =
      ap (λ m. record s { clock = d.moment; net = m }) (event-same (setting s.spec d.moment) Exit d.source.number s.net)
  take-class Finish d c rest s =
      ap (λ m. record s { clock = d.moment; net = m }) (event-same (setting s.spec d.moment) Finish d.source.number s.net)
  take-class Expiry d c rest s =
      ap (λ m. record s { clock = d.moment; net = m }) (event-same (setting s.spec d.moment) Expiry d.source.number s.net)
  take-class Emission d c rest s =
      ap (λ m. record s { clock = d.moment; net = m }) (event-same (setting s.spec d.moment) Emission d.source.number s.net)

  spends : (s : State) → spend (W s) ≡ W (spend s)
  spends s = ap (λ m. record (spend s) { net = m }) (noted _ s.net)

  choice : (b : Bool) (x y z : State) → x ≡ W y → (if b then x else W z) ≡ W (if b then y else z)
  choice true x y z e = e
  choice false x y z e = refl

  ended : (b : Bool) (x y z : State) → y ≡ W z → (if b then W x else y) ≡ W (if b then x else z)
  ended true x y z e = refl
  ended false x y z e = e

  counts : (s : State) → count_step (W s) ≡ W (count_step s)
  counts s =
      let t : State = record s { steps = s.steps + 1 } in
      ended (is_some s.ending) t (if is_last_step t then spend (W t) else W t) (if is_last_step t then spend t else t)
      (choice (is_last_step t) (spend (W t)) (spend t) t (spends t))

  steps-with : (l : List Timed) (s : State) → step_with l (W s) ≡ W (step_with l s)
  steps-with [] s = refl
  steps-with (c ∷ rest) s =
      let d : Due = next_event s c in
      ap count_step (take-class d.source.class d c rest s) ∙ counts (take_due d c rest s)

  steps : (s : State) → step (W s) ≡ W (step s)
  steps s = ended (is_some s.ending) s (step_with s.left (W s)) (step_with s.left s) (steps-with s.left s)

pub records_are_not_read : RecordsAreNotRead
records_are_not_read rs s = steps rs s
