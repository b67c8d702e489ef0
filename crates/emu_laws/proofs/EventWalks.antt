-- What is kept by each change of a net at one moment is kept by the event or the command of that moment, and so by a step.
-- It may speak of what was recorded, and of a packet that is on its way from one part of the net to another.
use Rattle.std.proofs.Common.{◌≡◌, ℕ, zero, suc, ◌+◌, ◌/◌, ◌%◌, List, [], ◌∷◌, ◌++◌, Bool, true, false, refl, Option, Some, None, append-nil}
use Rattle.std.specs.Prelude.{if◌then◌else◌, is_some, nat_lt, map, flat_map, slice_get}
use Rattle.std.specs.Option.{option_map_or}
use Rattle.std.specs.List.{AllByRecursion}
use Rattle.emu_laws.proofs.Types.{EventContext, Timed, Class, NextCommand, Exit, Finish, Expiry, Emission, Place, Packet, Load, Plain, Seg, Ack, Verdict, OverTheLink, Dropped, IntoPipe, SendSpec, PipeConfig, DropCause, Denied, NoPipe, Budget, Command, Add, Delete, Config, PipeDelete, PipeShow, Show, Inject, Train, Flow, Stop, OnePass, Trace, End, Record, CommandDone, CommandRefused, PacketMade, PacketArrived, PacketFinished, PacketDelivered, PacketPassed, PacketDropped, AckTaken, TimerExpired, StepsSpent, RuleLine, ByCommand, ByReceiver, BySender, ByTrain, Origin}
use Rattle.emu_model.specs.Rules.{Counted, verdict, start_behind, counted_book}
use Rattle.emu_model.specs.Delay.{Line, first_item, leave}
use Rattle.emu_model.specs.Reno.{Sender, ack, with_segment, missing, emitted, emit, expire}
use Rattle.emu_model.specs.Pipes.{Instance, PipeState, pipe_arrive, pipe_finish, pipe_exit, pipe_configure}
use Rattle.emu_model.specs.Net.{Net, FlowState, TrainState, note, note_all, note_traced, drop_packet, arrivals, to_pipe, to_direct, by_verdict, pass_rules_from, pass_rules, reinject, packet_of, make_record, make, held, data_send, ack_send, find_pipe, put_pipe, put_after, find_flow, put_flow, find_train, put_train, take_segment, take_ack, take_load, deliver, load_by}
use Rattle.emu_model.specs.Commands.{rule_lines, instance_lines, pipe_lines, new_pipe, delete_pipe, stop_flow, refusal_of, effect_of, obey}
use Rattle.emu_model.specs.Events.{direct_exit, deliver_some, flying_in, leave_pipe_some, pipe_exits, served_in, note_finish, pipe_finishes, expire_flow, emit_segment, emit_packet, event_of}
use Rattle.emu_model.specs.declared.sources.Due.{Due}
use Rattle.emu_model.specs.Step.{State, setting, take_class, count_step, spend, is_last_step, next_event, step_with, step}
use Rattle.emu_laws.specs.RecordOrder.{moment_of}
use Rattle.emu_laws.specs.RunHistories.{is_by_pipe}
use Rattle.emu_laws.proofs.EachOf.{either, some_or, each_joined}

-- a record that names a packet
abbrev pub names_packet : Record → Bool
names_packet (PacketMade moment packet origin proto src sport dst dport size) = true
names_packet (PacketArrived moment packet pipe instance) = true
names_packet (PacketFinished moment packet pipe instance) = true
names_packet (PacketDelivered moment packet load) = true
names_packet (PacketPassed moment packet pipe instance) = true
names_packet (PacketDropped moment packet load cause) = true
names_packet _ = false

abbrev pub IsSilent : Record → Type 0
IsSilent r = names_packet r ≡ false

-- the same but for the rule list, flows, trains and `one_pass`
pub record Alike (n m : Net) : Type 0 where
  pub direct : m.direct ≡ n.direct
  pub pipes : m.pipes ≡ n.pipes
  pub made : m.made ≡ n.made
  pub trace : m.trace ≡ n.trace
  pub records : m.records ≡ n.records

-- a record of this moment, or a line that has none
abbrev pub IsAt : ℕ → Record → Type 0
IsAt now r = AllByRecursion (λ m. m ≡ now) (moment_of r)

-- such a record that names no packet
pub record IsQuietAt (now : ℕ) (r : Record) : Type 0 where
  pub silent : IsSilent r
  pub moment : IsAt now r

-- the changes of a net at a moment, P being kept by each; the option is the packet on its way. A delay line that is
-- taken from is ready, what is known at the start is known where a packet finishes, and what is commanded is allowed.
pub record Keeps (at : EventContext) (Ready : Line Packet → Type 0) (Known : Net → Type 0) (Allowed : Command → Type 0)
    (P : Option Packet → Net → Type 0) : Type 0 where
  pub quiet : (o : Option Packet) (n m : Net) → Alike n m → P o n → P o m
  pub traced : (b : Bool) (n : Net) → P None n → P None (record n { trace = b })
  pub said : (rs : List Record) (n : Net) → AllByRecursion (IsQuietAt at.now) rs → P None n → P None (note_all rs n)
  pub made : (l : Origin) (send : SendSpec) (n : Net) → P None n →
      P (Some (packet_of (load_by l) send n.made))
      (note_traced (make_record at.now l (packet_of (load_by l) send n.made) ∷ []) (record n { made = n.made + 1 }))
  pub placed : (place : Place) (p : Packet) (n : Net) → P (Some p) n → P (Some (record p { place = place })) n
  pub dropped : (cause : DropCause) (p : Packet) (n : Net) → is_by_pipe cause ≡ false → P (Some p) n →
      P None (drop_packet at.now cause p n)
  pub entered : (p : Packet) (n : Net) → P (Some p) n → P None (to_direct at.now p n)
  pub left : (n : Net) → Ready n.direct → P None n → P (first_item n.direct.in_flight) (record n { direct = leave n.direct })
  pub delivered : (p : Packet) (n : Net) → P (Some p) n → P None (note (PacketDelivered at.now p.number p.load) n)
  pub arrived : (k : ℕ) (p : Packet) (q : PipeState) (n : Net) → find_pipe k n ≡ Some q → P (Some p) n →
      P None (put_after at.now k (pipe_arrive at.seed at.now p q) (note_traced (arrivals at.now p q) n))
  pub finished : (pipe k : ℕ) (p : PipeState) (n : Net) → Known n → find_pipe pipe n ≡ Some p → P None n →
      P None (put_after at.now pipe (pipe_finish at.now k p) (note_finish at.now pipe k (served_in k p) n))
  pub pipe_left : (pipe k : ℕ) (p : PipeState) (n : Net) → find_pipe pipe n ≡ Some p →
      ((i : Instance) → slice_get p.instances k ≡ Some i → Ready i.line) → P None n →
      P (flying_in k p) (put_pipe pipe (pipe_exit k p) n)
  pub passed : (pipe k : ℕ) (q : Packet) (p : PipeState) (n : Net) → find_pipe pipe n ≡ Some p →
      ((i : Instance) → slice_get p.instances k ≡ Some i → Ready i.line) → flying_in k p ≡ Some q → P None n →
      P (Some q) (note (PacketPassed at.now q.number pipe k) (put_pipe pipe (pipe_exit k p) n))
  pub configured : (k : ℕ) (config : PipeConfig) (p : PipeState) (n : Net) → Allowed (Config k config) →
      find_pipe k n ≡ Some p → P None n → P None (put_pipe k (pipe_configure config p) n)
  pub opened : (k : ℕ) (config : PipeConfig) (n : Net) → Allowed (Config k config) → find_pipe k n ≡ None →
      P None n → P None (new_pipe k config n)
  pub deleted : (k : ℕ) (p : PipeState) (n : Net) → find_pipe k n ≡ Some p → P None n →
      P None (delete_pipe at.now k n p)

rules-quiet : (now : ℕ) (cs : List Counted) →
    AllByRecursion (IsQuietAt now) (map (λ c. RuleLine c.rule c.packets c.bytes) cs)
rules-quiet now [] = tt
rules-quiet now (c ∷ cs) = (record { silent = refl; moment = tt }, rules-quiet now cs)

instances-quiet : (now pipe k : ℕ) (is : List Instance) → AllByRecursion (IsQuietAt now) (instance_lines pipe k is)
instances-quiet now pipe k [] = tt
instances-quiet now pipe k (i ∷ is) = (record { silent = refl; moment = tt }, instances-quiet now pipe (k + 1) is)

pipes-quiet : (now : ℕ) (ps : List PipeState) → AllByRecursion (IsQuietAt now) (flat_map pipe_lines ps)
pipes-quiet now [] = tt
pipes-quiet now (p ∷ ps) =
    each_joined (IsQuietAt now) (pipe_lines p) (flat_map pipe_lines ps)
    (record { silent = refl; moment = tt }, instances-quiet now p.number 0 p.instances) (pipes-quiet now ps)

nothing_more : (b : Bool) (rs : List Record) → rs ++ (if b then [] else []) ≡ rs
nothing_more true rs = append-nil rs
nothing_more false rs = append-nil rs

-- what is known of the delay line from which the next event takes
abbrev pub IsReadyAt : (Line Packet → Type 0) → ℕ → Net → Type 0
IsReadyAt Ready zero n = Ready n.direct
IsReadyAt Ready (suc k) n =
    (p : PipeState) → find_pipe (suc k / 256) n ≡ Some p →
    (i : Instance) → slice_get p.instances (suc k % 256) ≡ Some i → Ready i.line

module _ (at : EventContext) (Ready : Line Packet → Type 0) (Known : Net → Type 0) (Allowed : Command → Type 0)
    (P : Option Packet → Net → Type 0)
    (keeps : Keeps at Ready Known Allowed P) where
  -- only the rule list, flows, trains or `one_pass` are other
  alike : (o : Option Packet) (n m : Net) → m.direct ≡ n.direct → m.pipes ≡ n.pipes → m.made ≡ n.made →
      m.trace ≡ n.trace → m.records ≡ n.records → P o n → P o m
  alike o n m d p k t r h =
      keeps.quiet o n m (record { direct = d; pipes = p; made = k; trace = t; records = r }) h

  said_one : (r : Record) (n : Net) → IsQuietAt at.now r → P None n → P None (note r n)
  said_one r n e h = keeps.said (r ∷ []) n (e, tt) h

  to_pipe-walks : (k : ℕ) (p : Packet) (n : Net) → P (Some p) n → P None (to_pipe at k p n)
  to_pipe-walks k p n h = go (find_pipe k n) refl
    where
      come : Option PipeState → Net
      come o = note_traced (option_map_or (arrivals at.now p) o []) n

      go : (o : Option PipeState) → find_pipe k n ≡ o →
          P None (option_map_or (λ q. put_after at.now k (pipe_arrive at.seed at.now p q) (come o)) o
          (drop_packet at.now NoPipe p (come o)))
      go None e =
          keeps.dropped NoPipe p (come None) refl
          (alike (Some p) n (come None) refl refl refl refl (nothing_more n.trace n.records) h)
      go (Some q) e = keeps.arrived k p q n e h

  by_verdict-walks : (v : Verdict) (p : Packet) (n : Net) → P (Some p) n →
      P None (by_verdict at v p n)
  by_verdict-walks OverTheLink p n h = keeps.entered p n h
  by_verdict-walks Dropped p n h = keeps.dropped Denied p n refl h
  by_verdict-walks (IntoPipe k place) p n h =
      to_pipe-walks k (record p { place = place }) n (keeps.placed place p n h)

  pub pass_rules_from-walks : (start : ℕ) (p : Packet) (n : Net) → P (Some p) n →
      P None (pass_rules_from at start p n)
  pass_rules_from-walks start p n h =
      let m : Net = record n { book = counted_book start p n.book } in
      by_verdict-walks (verdict start p n.book.rules) p m (alike (Some p) n m refl refl refl refl refl h)

  make-walks : (l : Origin) (send : SendSpec) (n : Net) → P None n → P None (make at l send n)
  make-walks l send n h =
      let p : Packet = packet_of (load_by l) send n.made in
      let m : Net = note_traced (make_record at.now l p ∷ []) (record n { made = n.made + 1 }) in
      let made : P (Some p) m = keeps.made l send n h in
      either (P None) (nat_lt (held n) at.packet_budget) (pass_rules at p m) (drop_packet at.now Budget p m)
      (pass_rules_from-walks 0 p m made) (keeps.dropped Budget p m refl made)

  take_segment-walks : (first : ℕ) (n : Net) (f : FlowState) → P None n →
      P None (take_segment at first n f)
  take_segment-walks first n f h =
      let came : List ℕ = with_segment first f.came in
      let m : Net = put_flow (record f { came = came }) n in
      make-walks (ByReceiver f.number (missing f.flow.smss came)) (ack_send f.flow) m
      (alike None n m refl refl refl refl refl h)

  take_ack-walks : (upto : ℕ) (n : Net) (f : FlowState) → P None n → P None (take_ack at.now upto n f)
  take_ack-walks upto n f h =
      let t : Sender = ack f.flow at.now upto f.sender in
      let m : Net = put_flow (record f { sender = t }) n in
      either (P None) f.stopped n (note (AckTaken at.now f.number t.cwnd t.ssthresh) m) h
      (said_one (AckTaken at.now f.number t.cwnd t.ssthresh) m (record { silent = refl; moment = (refl, tt) })
      (alike None n m refl refl refl refl refl h))

  pub take_load-walks : (l : Load) (n : Net) → P None n → P None (take_load at l n)
  take_load-walks Plain n h = h
  take_load-walks (Seg k first) n h =
      some_or (P None) (take_segment at first n) (find_flow k n) n (λ f e. take_segment-walks first n f h) h
  take_load-walks (Ack k upto) n h =
      some_or (P None) (take_ack at.now upto n) (find_flow k n) n (λ f e. take_ack-walks upto n f h) h

  deliver-walks : (p : Packet) (n : Net) → P (Some p) n → P None (deliver at p n)
  deliver-walks p n h =
      take_load-walks p.load (note (PacketDelivered at.now p.number p.load) n) (keeps.delivered p n h)

  direct_exit-walks : (n : Net) → Ready n.direct → P None n → P None (direct_exit at n)
  direct_exit-walks n ready h = go (first_item n.direct.in_flight) (keeps.left n ready h)
    where
      go : (o : Option Packet) → P o (record n { direct = leave n.direct }) →
          P None (deliver_some at o (record n { direct = leave n.direct }))
      go None q = q
      go (Some p) q = deliver-walks p (record n { direct = leave n.direct }) q

  pipe_exits-walks : (pipe k : ℕ) (n : Net) (p : PipeState) → find_pipe pipe n ≡ Some p →
      ((i : Instance) → slice_get p.instances k ≡ Some i → Ready i.line) → P None n → P None (pipe_exits at pipe k n p)
  pipe_exits-walks pipe k n p e ready h = go (flying_in k p) refl (keeps.pipe_left pipe k p n e ready h)
    where
      m : Net
      m = put_pipe pipe (pipe_exit k p) n

      go : (o : Option Packet) → flying_in k p ≡ o → P o (put_pipe pipe (pipe_exit k p) n) →
          P None (leave_pipe_some at pipe k o (put_pipe pipe (pipe_exit k p) n))
      go None g q = q
      go (Some x) g q =
          let there : Net = put_pipe pipe (pipe_exit k p) n in
          let told : Net = note (PacketPassed at.now x.number pipe k) there in
          either (P None) n.one_pass (deliver at x there) (reinject at x told) (deliver-walks x there q)
          (pass_rules_from-walks (start_behind x.place told.book.rules) x told
          (keeps.passed pipe k x p n e ready g h))

  expire_flow-walks : (n : Net) (f : FlowState) → P None n → P None (expire_flow at n f)
  expire_flow-walks n f h =
      let t : Sender = expire f.flow at.now f.sender in
      let m : Net = put_flow (record f { sender = t }) n in
      said_one (TimerExpired at.now f.number t.cwnd t.ssthresh) m (record { silent = refl; moment = (refl, tt) })
      (alike None n m refl refl refl refl refl h)

  emit_packet-walks : (n : Net) (t : TrainState) → P None n → P None (emit_packet at n t)
  emit_packet-walks n t h =
      let m : Net = put_train (record t { sent = t.sent + 1 }) n in
      make-walks (ByTrain t.number) t.train.packet m (alike None n m refl refl refl refl refl h)

  emit_segment-walks : (n : Net) (f : FlowState) → P None n → P None (emit_segment at n f)
  emit_segment-walks n f h =
      let m : Net = put_flow (record f { sender = emit f.flow at.now f.sender }) n in
      make-walks (BySender f.number (emitted f.sender)) (data_send f.flow) m
      (alike None n m refl refl refl refl refl h)

  event-walks : (class : Class) (k : ℕ) (n : Net) → (class ≡ Exit → IsReadyAt Ready k n) → Known n →
      P None n → P None (event_of at class k n)
  event-walks NextCommand k n ready known h = h
  event-walks Exit zero n ready known h = direct_exit-walks n (ready refl) h
  event-walks Exit (suc k) n ready known h =
      some_or (P None) (pipe_exits at (suc k / 256) (suc k % 256) n) (find_pipe (suc k / 256) n) n
      (λ p e. pipe_exits-walks (suc k / 256) (suc k % 256) n p e (ready refl p e) h) h
  event-walks Finish k n ready known h =
      some_or (P None) (pipe_finishes at (k / 256) (k % 256) n) (find_pipe (k / 256) n) n
      (λ p e. keeps.finished (k / 256) (k % 256) p n known e h) h
  event-walks Expiry k n ready known h =
      some_or (P None) (expire_flow at n) (find_flow k n) n (λ f e. expire_flow-walks n f h) h
  event-walks Emission k n ready known h =
      some_or (P None) (emit_packet at n) (find_train k n) (option_map_or (emit_segment at n) (find_flow k n) n)
      (λ t e. emit_packet-walks n t h)
      (some_or (P None) (emit_segment at n) (find_flow k n) n (λ f e. emit_segment-walks n f h) h)

  found_or : (o : Option PipeState) (f : PipeState → Net) (d : Net) → ((p : PipeState) → o ≡ Some p → P None (f p)) →
      (o ≡ None → P None d) → P None (option_map_or f o d)
  found_or None f d p q = q refl
  found_or (Some x) f d p q = p x refl

  effect-walks : (j : ℕ) (c : Command) (n : Net) → Allowed c → P None n → P None (effect_of at j c n)
  effect-walks j (Add r) n ok h = alike None n (effect_of at j (Add r) n) refl refl refl refl refl h
  effect-walks j (Delete k) n ok h = alike None n (effect_of at j (Delete k) n) refl refl refl refl refl h
  effect-walks j (Config k config) n ok h =
      found_or (find_pipe k n) (λ p. put_pipe k (pipe_configure config p) n) (new_pipe k config n)
      (λ p e. keeps.configured k config p n ok e h) (λ e. keeps.opened k config n ok e h)
  effect-walks j (PipeDelete k) n ok h =
      some_or (P None) (delete_pipe at.now k n) (find_pipe k n) n (λ p e. keeps.deleted k p n e h) h
  effect-walks j PipeShow n ok h = keeps.said (flat_map pipe_lines n.pipes) n (pipes-quiet at.now n.pipes) h
  effect-walks j Show n ok h = keeps.said (rule_lines n) n (rules-quiet at.now n.book.rules) h
  effect-walks j (Inject send) n ok h = make-walks (ByCommand j) send n h
  effect-walks j (Train k t) n ok h = alike None n (effect_of at j (Train k t) n) refl refl refl refl refl h
  effect-walks j (Flow k f) n ok h = alike None n (effect_of at j (Flow k f) n) refl refl refl refl refl h
  effect-walks j (Stop k) n ok h =
      some_or (P None) (stop_flow n) (find_flow k n) n
      (λ f e. alike None n (stop_flow n f) refl refl refl refl refl h) h
  effect-walks j (OnePass b) n ok h = alike None n (effect_of at j (OnePass b) n) refl refl refl refl refl h
  effect-walks j (Trace b) n ok h = keeps.traced b n h
  effect-walks j End n ok h = h

  obey-walks : (k : ℕ) (c : Command) (n : Net) → Allowed c → P None n → P None (obey at k c n)
  obey-walks k c n ok h =
      let m : Net = note (CommandDone at.now k) n in
      some_or (P None) (λ r. note (CommandRefused at.now k r) n) (refusal_of c n) (effect_of at k c m)
      (λ r e. said_one (CommandRefused at.now k r) n (record { silent = refl; moment = (refl, tt) }) h)
      (effect-walks k c m ok (said_one (CommandDone at.now k) n (record { silent = refl; moment = (refl, tt) }) h))

  counted-walks : (t : State) → t.clock ≡ at.now → P None t.net → P None (count_step t).net
  counted-walks t clock h =
      let u : State = record t { steps = t.steps + 1 } in
      either (λ x. P None x.net) (is_some t.ending) u (if is_last_step u then spend u else u) h
      (either (λ x. P None x.net) (is_last_step u) (spend u) u
      (said_one (StepsSpent u.clock) t.net (record { silent = refl; moment = (clock, tt) }) h) h)

taken-walks : (Ready : Line Packet → Type 0) (Known : Net → Type 0) (Allowed : Command → Type 0)
    (P : Option Packet → Net → Type 0)
    (class : Class) (e : Due) (c : Timed) (rest : List Timed) (s : State) →
    Keeps (setting s.spec e.moment) Ready Known Allowed P → (class ≡ Exit → IsReadyAt Ready e.source.number s.net) →
    Known s.net → Allowed c.command → P None s.net → P None (count_step (take_class class e c rest s)).net
taken-walks Ready Known Allowed P NextCommand e c rest s keeps ready known ok h =
    counted-walks (setting s.spec e.moment) Ready Known Allowed P keeps (take_class NextCommand e c rest s) refl
    (obey-walks (setting s.spec e.moment) Ready Known Allowed P keeps s.taken c.command s.net ok h)
taken-walks Ready Known Allowed P Exit e c rest s keeps ready known ok h =
    counted-walks (setting s.spec e.moment) Ready Known Allowed P keeps (take_class Exit e c rest s) refl
    (event-walks (setting s.spec e.moment) Ready Known Allowed P keeps Exit e.source.number s.net ready known h)
taken-walks Ready Known Allowed P Finish e c rest s keeps ready known ok h =
    counted-walks (setting s.spec e.moment) Ready Known Allowed P keeps (take_class Finish e c rest s) refl
    (event-walks (setting s.spec e.moment) Ready Known Allowed P keeps Finish e.source.number s.net ready known h)
taken-walks Ready Known Allowed P Expiry e c rest s keeps ready known ok h =
    counted-walks (setting s.spec e.moment) Ready Known Allowed P keeps (take_class Expiry e c rest s) refl
    (event-walks (setting s.spec e.moment) Ready Known Allowed P keeps Expiry e.source.number s.net ready known h)
taken-walks Ready Known Allowed P Emission e c rest s keeps ready known ok h =
    counted-walks (setting s.spec e.moment) Ready Known Allowed P keeps (take_class Emission e c rest s) refl
    (event-walks (setting s.spec e.moment) Ready Known Allowed P keeps Emission e.source.number s.net ready known h)

-- what each change at the moment of the next event keeps is kept by the step
pub step_walks : (Ready : Line Packet → Type 0) (Known : Net → Type 0) (Allowed : Command → Type 0)
    (P : Option Packet → Net → Type 0)
    (s : State) (c : Timed) (rest : List Timed) →
    Keeps (setting s.spec (next_event s c).moment) Ready Known Allowed P →
    ((next_event s c).source.class ≡ Exit → IsReadyAt Ready (next_event s c).source.number s.net) →
    Known s.net → Allowed c.command → P None s.net → P None (step_with (c ∷ rest) s).net
step_walks Ready Known Allowed P s c rest keeps ready known ok h =
    taken-walks Ready Known Allowed P (next_event s c).source.class (next_event s c) c rest s keeps ready known ok h

-- a state that has ended, or has no next command, stands still
pub step_or : (Q : State → Type 0) (s : State) → Q s →
    ((c : Timed) (rest : List Timed) → s.left ≡ c ∷ rest → Q (step_with (c ∷ rest) s)) → Q (step s)
step_or Q s still goes = either Q (is_some s.ending) s (step_with s.left s) still (go s.left refl)
  where
    go : (l : List Timed) → s.left ≡ l → Q (step_with l s)
    go [] e = still
    go (c ∷ rest) e = goes c rest e
