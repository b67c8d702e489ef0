-- What is kept by each change of a net is kept by each event and each command, and so by each run. It
-- may speak of a packet that is on its way from one part of the net to another.
use Rattle.std.proofs.Common.{◌≡◌, ℕ, zero, suc, ◌+◌, ◌/◌, ◌%◌, List, [], ◌∷◌, ◌++◌, Bool, true, false, refl, sym, ap, subst, Option, Some, None, append-nil}
use Rattle.std.specs.Prelude.{if◌then◌else◌, is_some, nat_lt, map, flat_map}
use Rattle.std.specs.Option.{option_map_or}
use Rattle.std.specs.List.{AllByRecursion}
use Rattle.emu_model.specs.Types.{Spec, Timed, Class, NextCommand, Exit, Finish, Expiry, Emission, Place, Packet, Load, Origin, ByCommand, ByTrain, BySender, ByReceiver, Plain, Seg, Ack, Verdict, OverTheLink, Dropped, IntoPipe, SendSpec, PipeConfig, DropCause, Denied, NoPipe, Budget, Command, Add, Delete, Config, PipeDelete, PipeShow, Show, Inject, Train, Flow, Stop, OnePass, Trace, End, Record, CommandDone, CommandRefused, PacketMade, PacketArrived, PacketFinished, PacketDelivered, PacketPassed, PacketDropped, AckTaken, TimerExpired, StepsSpent, RuleLine}
use Rattle.emu_model.specs.Rules.{Counted, verdict, start_behind, counted_book}
use Rattle.emu_model.specs.Delay.{first_item, leave}
use Rattle.emu_model.specs.Reno.{Sender, ack, with_segment, missing, emitted, emit, expire}
use Rattle.emu_model.specs.Pipes.{Instance, PipeState, pipe_arrive, pipe_finish, pipe_exit, pipe_configure}
use Rattle.emu_model.specs.Net.{Net, EventContext, opening_net, FlowState, TrainState, note, note_all, note_traced, drop_packet, arrivals, to_pipe, to_direct, by_verdict, pass_rules_from, pass_rules, reinject, packet_of, load_by, make_record, make, held, data_send, ack_send, find_pipe, put_pipe, put_after, find_flow, put_flow, find_train, put_train, take_segment, take_ack, take_load, deliver}
use Rattle.emu_model.specs.Commands.{rule_lines, instance_lines, pipe_lines, new_pipe, delete_pipe, stop_flow, refusal_of, effect_of, obey}
use Rattle.emu_model.specs.Events.{direct_exit, deliver_some, flying_in, leave_pipe_some, pipe_exits, served_in, note_finish, pipe_finishes, expire_flow, emit_segment, emit_packet, event_of}
use Rattle.emu_model.specs.declared.sources.Due.{Due}
use Rattle.emu_model.specs.Step.{State, initial_state, setting, take_command, take_class, take_due, count_step, spend, is_last_step, next_event, step_with, step}
use Rattle.emu_model.specs.Alone.{after_steps, alone}
use Rattle.emu_model.proofs.AllFacts.{either, some_or, each_joined}

-- a record that names a packet
abbrev pub names_packet : Record → Bool
names_packet (PacketMade moment packet origin proto src sport dst dport size) = true
names_packet (PacketArrived moment packet pipe instance) = true
names_packet (PacketFinished moment packet pipe instance) = true
names_packet (PacketDelivered moment packet load) = true
names_packet (PacketPassed moment packet pipe instance) = true
names_packet (PacketDropped moment packet load cause) = true
names_packet _ = false

abbrev pub IsSilent : Record → Type 0
IsSilent r = names_packet r ≡ false

-- the same but for the rule list, flows, trains and `one_pass`
pub record Alike (n m : Net) : Type 0 where
  pub direct : m.direct ≡ n.direct
  pub pipes : m.pipes ≡ n.pipes
  pub made : m.made ≡ n.made
  pub trace : m.trace ≡ n.trace
  pub records : m.records ≡ n.records

-- the changes of a net, P being kept by each; the option is the packet on its way
pub record Keeps (P : Option Packet → Net → Type 0) : Type 0 where
  pub quiet : (o : Option Packet) (n m : Net) → Alike n m → P o n → P o m
  pub said : (rs : List Record) (n : Net) → AllByRecursion IsSilent rs → P None n → P None (note_all rs n)
  pub made : (now : ℕ) (l : Origin) (send : SendSpec) (n : Net) → P None n →
      P (Some (packet_of (load_by l) send n.made))
      (note_traced (make_record now l (packet_of (load_by l) send n.made) ∷ []) (record n { made = n.made + 1 }))
  pub placed : (place : Place) (p : Packet) (n : Net) → P (Some p) n → P (Some (record p { place = place })) n
  pub dropped : (now : ℕ) (cause : DropCause) (p : Packet) (n : Net) → P (Some p) n →
      P None (drop_packet now cause p n)
  pub entered : (now : ℕ) (p : Packet) (n : Net) → P (Some p) n → P None (to_direct now p n)
  pub left : (n : Net) → P None n → P (first_item n.direct.in_flight) (record n { direct = leave n.direct })
  pub delivered : (now : ℕ) (p : Packet) (n : Net) → P (Some p) n →
      P None (note (PacketDelivered now p.number p.load) n)
  pub arrived : (at : EventContext) (k : ℕ) (p : Packet) (q : PipeState) (n : Net) → find_pipe k n ≡ Some q →
      P (Some p) n →
      P None (put_after at.now k (pipe_arrive at.seed at.now p q) (note_traced (arrivals at.now p q) n))
  pub finished : (now pipe k : ℕ) (p : PipeState) (n : Net) → find_pipe pipe n ≡ Some p → P None n →
      P None (put_after now pipe (pipe_finish now k p) (note_finish now pipe k (served_in k p) n))
  pub pipe_left : (pipe k : ℕ) (p : PipeState) (n : Net) → find_pipe pipe n ≡ Some p → P None n →
      P (flying_in k p) (put_pipe pipe (pipe_exit k p) n)
  pub passed : (now pipe k : ℕ) (q : Packet) (p : PipeState) (n : Net) → find_pipe pipe n ≡ Some p →
      flying_in k p ≡ Some q → P None n →
      P (Some q) (note (PacketPassed now q.number pipe k) (put_pipe pipe (pipe_exit k p) n))
  pub configured : (k : ℕ) (config : PipeConfig) (p : PipeState) (n : Net) → find_pipe k n ≡ Some p →
      P None n → P None (put_pipe k (pipe_configure config p) n)
  pub opened : (k : ℕ) (config : PipeConfig) (n : Net) → find_pipe k n ≡ None → P None n →
      P None (new_pipe k config n)
  pub deleted : (now k : ℕ) (p : PipeState) (n : Net) → find_pipe k n ≡ Some p → P None n →
      P None (delete_pipe now k n p)

-- what remains to be known of a command: `trace` changes what is recorded
abbrev pub Fits : (Option Packet → Net → Type 0) → Command → Type 0
Fits P (Trace b) = (n : Net) → P None n → P None (record n { trace = b })
Fits P _ = Unit {0}

rules-silent : (cs : List Counted) → AllByRecursion IsSilent (map (λ c. RuleLine c.rule c.packets c.bytes) cs)
rules-silent [] = tt
rules-silent (c ∷ cs) = (refl, rules-silent cs)

instances-silent : (pipe k : ℕ) (is : List Instance) → AllByRecursion IsSilent (instance_lines pipe k is)
instances-silent pipe k [] = tt
instances-silent pipe k (i ∷ is) = (refl, instances-silent pipe (k + 1) is)

pipes-silent : (ps : List PipeState) → AllByRecursion IsSilent (flat_map pipe_lines ps)
pipes-silent [] = tt
pipes-silent (p ∷ ps) =
    each_joined IsSilent (pipe_lines p) (flat_map pipe_lines ps)
    (refl, instances-silent p.number 0 p.instances) (pipes-silent ps)

nothing_more : (b : Bool) (rs : List Record) → rs ++ (if b then [] else []) ≡ rs
nothing_more true rs = append-nil rs
nothing_more false rs = append-nil rs

-- the first step comes before the others
shifted : (n : ℕ) (s : State) → after_steps (suc n) s ≡ after_steps n (step s)
shifted zero s = refl
shifted (suc n) s = ap step (shifted n s)

module _ (P : Option Packet → Net → Type 0) (keeps : Keeps P) where
  -- only the rule list, flows, trains or `one_pass` are other
  alike : (o : Option Packet) (n m : Net) → m.direct ≡ n.direct → m.pipes ≡ n.pipes → m.made ≡ n.made →
      m.trace ≡ n.trace → m.records ≡ n.records → P o n → P o m
  alike o n m d p k t r h =
      keeps.quiet o n m (record { direct = d; pipes = p; made = k; trace = t; records = r }) h

  said_one : (r : Record) (n : Net) → IsSilent r → P None n → P None (note r n)
  said_one r n e h = keeps.said (r ∷ []) n (e, tt) h

  to_pipe-walks : (at : EventContext) (k : ℕ) (p : Packet) (n : Net) → P (Some p) n → P None (to_pipe at k p n)
  to_pipe-walks at k p n h = go (find_pipe k n) refl
    where
      come : Option PipeState → Net
      come o = note_traced (option_map_or (arrivals at.now p) o []) n

      go : (o : Option PipeState) → find_pipe k n ≡ o →
          P None (option_map_or (λ q. put_after at.now k (pipe_arrive at.seed at.now p q) (come o)) o
          (drop_packet at.now NoPipe p (come o)))
      go None e =
          keeps.dropped at.now NoPipe p (come None)
          (alike (Some p) n (come None) refl refl refl refl (nothing_more n.trace n.records) h)
      go (Some q) e = keeps.arrived at k p q n e h

  by_verdict-walks : (at : EventContext) (v : Verdict) (p : Packet) (n : Net) → P (Some p) n →
      P None (by_verdict at v p n)
  by_verdict-walks at OverTheLink p n h = keeps.entered at.now p n h
  by_verdict-walks at Dropped p n h = keeps.dropped at.now Denied p n h
  by_verdict-walks at (IntoPipe k place) p n h =
      to_pipe-walks at k (record p { place = place }) n (keeps.placed place p n h)

  pass_rules_from-walks : (at : EventContext) (start : ℕ) (p : Packet) (n : Net) → P (Some p) n →
      P None (pass_rules_from at start p n)
  pass_rules_from-walks at start p n h =
      let m : Net = record n { book = counted_book start p n.book } in
      by_verdict-walks at (verdict start p n.book.rules) p m (alike (Some p) n m refl refl refl refl refl h)

  make-walks : (at : EventContext) (l : Origin) (send : SendSpec) (n : Net) → P None n → P None (make at l send n)
  make-walks at l send n h =
      let p : Packet = packet_of (load_by l) send n.made in
      let m : Net = note_traced (make_record at.now l p ∷ []) (record n { made = n.made + 1 }) in
      let made : P (Some p) m = keeps.made at.now l send n h in
      either (P None) (nat_lt (held n) at.packet_budget) (pass_rules at p m) (drop_packet at.now Budget p m)
      (pass_rules_from-walks at 0 p m made) (keeps.dropped at.now Budget p m made)

  take_segment-walks : (at : EventContext) (first : ℕ) (n : Net) (f : FlowState) → P None n →
      P None (take_segment at first n f)
  take_segment-walks at first n f h =
      let came : List ℕ = with_segment first f.came in
      let m : Net = put_flow (record f { came = came }) n in
      make-walks at (ByReceiver f.number (missing f.flow.smss came)) (ack_send f.flow) m
      (alike None n m refl refl refl refl refl h)

  take_ack-walks : (now upto : ℕ) (n : Net) (f : FlowState) → P None n → P None (take_ack now upto n f)
  take_ack-walks now upto n f h =
      let t : Sender = ack f.flow now upto f.sender in
      let m : Net = put_flow (record f { sender = t }) n in
      either (P None) f.stopped n (note (AckTaken now f.number t.cwnd t.ssthresh) m) h
      (said_one (AckTaken now f.number t.cwnd t.ssthresh) m refl (alike None n m refl refl refl refl refl h))

  take_load-walks : (at : EventContext) (l : Load) (n : Net) → P None n → P None (take_load at l n)
  take_load-walks at Plain n h = h
  take_load-walks at (Seg k first) n h =
      some_or (P None) (take_segment at first n) (find_flow k n) n (λ f e. take_segment-walks at first n f h) h
  take_load-walks at (Ack k upto) n h =
      some_or (P None) (take_ack at.now upto n) (find_flow k n) n (λ f e. take_ack-walks at.now upto n f h) h

  deliver-walks : (at : EventContext) (p : Packet) (n : Net) → P (Some p) n → P None (deliver at p n)
  deliver-walks at p n h =
      take_load-walks at p.load (note (PacketDelivered at.now p.number p.load) n) (keeps.delivered at.now p n h)

  direct_exit-walks : (at : EventContext) (n : Net) → P None n → P None (direct_exit at n)
  direct_exit-walks at n h = go (first_item n.direct.in_flight) (keeps.left n h)
    where
      go : (o : Option Packet) → P o (record n { direct = leave n.direct }) →
          P None (deliver_some at o (record n { direct = leave n.direct }))
      go None q = q
      go (Some p) q = deliver-walks at p (record n { direct = leave n.direct }) q

  pipe_exits-walks : (at : EventContext) (pipe k : ℕ) (n : Net) (p : PipeState) → find_pipe pipe n ≡ Some p →
      P None n → P None (pipe_exits at pipe k n p)
  pipe_exits-walks at pipe k n p e h = go (flying_in k p) refl (keeps.pipe_left pipe k p n e h)
    where
      m : Net
      m = put_pipe pipe (pipe_exit k p) n

      go : (o : Option Packet) → flying_in k p ≡ o → P o (put_pipe pipe (pipe_exit k p) n) →
          P None (leave_pipe_some at pipe k o (put_pipe pipe (pipe_exit k p) n))
      go None g q = q
      go (Some x) g q =
          let there : Net = put_pipe pipe (pipe_exit k p) n in
          let told : Net = note (PacketPassed at.now x.number pipe k) there in
          either (P None) n.one_pass (deliver at x there) (reinject at x told) (deliver-walks at x there q)
          (pass_rules_from-walks at (start_behind x.place told.book.rules) x told
          (keeps.passed at.now pipe k x p n e g h))

  expire_flow-walks : (at : EventContext) (n : Net) (f : FlowState) → P None n → P None (expire_flow at n f)
  expire_flow-walks at n f h =
      let t : Sender = expire f.flow at.now f.sender in
      let m : Net = put_flow (record f { sender = t }) n in
      said_one (TimerExpired at.now f.number t.cwnd t.ssthresh) m refl (alike None n m refl refl refl refl refl h)

  emit_packet-walks : (at : EventContext) (n : Net) (t : TrainState) → P None n → P None (emit_packet at n t)
  emit_packet-walks at n t h =
      let m : Net = put_train (record t { sent = t.sent + 1 }) n in
      make-walks at (ByTrain t.number) t.train.packet m (alike None n m refl refl refl refl refl h)

  emit_segment-walks : (at : EventContext) (n : Net) (f : FlowState) → P None n → P None (emit_segment at n f)
  emit_segment-walks at n f h =
      let m : Net = put_flow (record f { sender = emit f.flow at.now f.sender }) n in
      make-walks at (BySender f.number (emitted f.sender)) (data_send f.flow) m
      (alike None n m refl refl refl refl refl h)

  event-walks : (at : EventContext) (class : Class) (k : ℕ) (n : Net) → P None n → P None (event_of at class k n)
  event-walks at NextCommand k n h = h
  event-walks at Exit zero n h = direct_exit-walks at n h
  event-walks at Exit (suc k) n h =
      some_or (P None) (pipe_exits at (suc k / 256) (suc k % 256) n) (find_pipe (suc k / 256) n) n
      (λ p e. pipe_exits-walks at (suc k / 256) (suc k % 256) n p e h) h
  event-walks at Finish k n h =
      some_or (P None) (pipe_finishes at (k / 256) (k % 256) n) (find_pipe (k / 256) n) n
      (λ p e. keeps.finished at.now (k / 256) (k % 256) p n e h) h
  event-walks at Expiry k n h =
      some_or (P None) (expire_flow at n) (find_flow k n) n (λ f e. expire_flow-walks at n f h) h
  event-walks at Emission k n h =
      some_or (P None) (emit_packet at n) (find_train k n) (option_map_or (emit_segment at n) (find_flow k n) n)
      (λ t e. emit_packet-walks at n t h)
      (some_or (P None) (emit_segment at n) (find_flow k n) n (λ f e. emit_segment-walks at n f h) h)

  found_or : (o : Option PipeState) (f : PipeState → Net) (d : Net) → ((p : PipeState) → o ≡ Some p → P None (f p)) →
      (o ≡ None → P None d) → P None (option_map_or f o d)
  found_or None f d p q = q refl
  found_or (Some x) f d p q = p x refl

  effect-walks : (at : EventContext) (j : ℕ) (c : Command) (n : Net) → Fits P c → P None n → P None (effect_of at j c n)
  effect-walks at j (Add r) n fits h = alike None n (effect_of at j (Add r) n) refl refl refl refl refl h
  effect-walks at j (Delete k) n fits h = alike None n (effect_of at j (Delete k) n) refl refl refl refl refl h
  effect-walks at j (Config k config) n fits h =
      found_or (find_pipe k n) (λ p. put_pipe k (pipe_configure config p) n) (new_pipe k config n)
      (λ p e. keeps.configured k config p n e h) (λ e. keeps.opened k config n e h)
  effect-walks at j (PipeDelete k) n fits h =
      some_or (P None) (delete_pipe at.now k n) (find_pipe k n) n (λ p e. keeps.deleted at.now k p n e h) h
  effect-walks at j PipeShow n fits h = keeps.said (flat_map pipe_lines n.pipes) n (pipes-silent n.pipes) h
  effect-walks at j Show n fits h = keeps.said (rule_lines n) n (rules-silent n.book.rules) h
  effect-walks at j (Inject send) n fits h = make-walks at (ByCommand j) send n h
  effect-walks at j (Train k t) n fits h = alike None n (effect_of at j (Train k t) n) refl refl refl refl refl h
  effect-walks at j (Flow k f) n fits h = alike None n (effect_of at j (Flow k f) n) refl refl refl refl refl h
  effect-walks at j (Stop k) n fits h =
      some_or (P None) (stop_flow n) (find_flow k n) n
      (λ f e. alike None n (stop_flow n f) refl refl refl refl refl h) h
  effect-walks at j (OnePass b) n fits h = alike None n (effect_of at j (OnePass b) n) refl refl refl refl refl h
  effect-walks at j (Trace b) n fits h = fits n h
  effect-walks at j End n fits h = h

  obey-walks : (at : EventContext) (k : ℕ) (c : Command) (n : Net) → Fits P c → P None n → P None (obey at k c n)
  obey-walks at k c n fits h =
      let m : Net = note (CommandDone at.now k) n in
      some_or (P None) (λ r. note (CommandRefused at.now k r) n) (refusal_of c n) (effect_of at k c m)
      (λ r e. said_one (CommandRefused at.now k r) n refl h)
      (effect-walks at k c m fits (said_one (CommandDone at.now k) n refl h))

  -- all commands that are left fit
  record Stands (s : State) : Type 0 where
    net : P None s.net
    fits : AllByRecursion (λ t. Fits P t.command) s.left

  counted-stands : (t : State) → Stands t → Stands (count_step t)
  counted-stands t h =
      let u : State = record t { steps = t.steps + 1 } in
      let same : Stands u = record { net = h.net; fits = h.fits } in
      either Stands (is_some t.ending) u (if is_last_step u then spend u else u) same
      (either Stands (is_last_step u) (spend u) u
      (record { net = said_one (StepsSpent u.clock) t.net refl h.net; fits = h.fits }) same)

  taken-stands : (class : Class) (e : Due) (c : Timed) (rest : List Timed) (s : State) → P None s.net →
      Fits P c.command → AllByRecursion (λ t. Fits P t.command) s.left →
      AllByRecursion (λ t. Fits P t.command) rest → Stands (take_class class e c rest s)
  taken-stands NextCommand e c rest s h fits all later =
      record { net = obey-walks (setting s.spec e.moment) s.taken c.command s.net fits h; fits = later }
  taken-stands Exit e c rest s h fits all later =
      record { net = event-walks (setting s.spec e.moment) Exit e.source.number s.net h; fits = all }
  taken-stands Finish e c rest s h fits all later =
      record { net = event-walks (setting s.spec e.moment) Finish e.source.number s.net h; fits = all }
  taken-stands Expiry e c rest s h fits all later =
      record { net = event-walks (setting s.spec e.moment) Expiry e.source.number s.net h; fits = all }
  taken-stands Emission e c rest s h fits all later =
      record { net = event-walks (setting s.spec e.moment) Emission e.source.number s.net h; fits = all }

  step-stands : (s : State) → Stands s → Stands (step s)
  step-stands s h = either Stands (is_some s.ending) s (step_with s.left s) h (go s.left h.fits)
    where
      go : (l : List Timed) → AllByRecursion (λ t. Fits P t.command) l → Stands (step_with l s)
      go [] fits = h
      go (c ∷ rest) fits =
          let e : Due = next_event s c in
          counted-stands (take_due e c rest s) (taken-stands e.source.class e c rest s h.net fits.0 h.fits fits.1)

  steps-stand : (n : ℕ) (s : State) → Stands s → Stands (after_steps n s)
  steps-stand zero s h = h
  steps-stand (suc n) s h = step-stands (after_steps n s) (steps-stand n s h)

  -- what holds at the start holds after any number of steps
  pub walks : (n : ℕ) (s : State) → AllByRecursion (λ t. Fits P t.command) s.left → P None s.net →
      P None (after_steps n s).net
  walks n s fits h = (steps-stand n s (record { net = h; fits = fits })).net

  -- what holds once the first command is obeyed holds after any number of steps from then on
  pub walks_on : (spec : Spec) (t : Timed) (ts : List Timed) (n : ℕ) →
      AllByRecursion (λ u. Fits P u.command) ts → ((at : EventContext) → P None (obey at 0 t.command (opening_net spec.traced))) →
      P None (alone spec (t ∷ ts) (suc n)).net
  walks_on spec t ts n fits h =
      subst (λ s. P None s.net) (sym (shifted n (initial_state spec (t ∷ ts))))
      (steps-stand n (step (initial_state spec (t ∷ ts)))
      (counted-stands (take_command t.moment t ts (initial_state spec (t ∷ ts)))
      (record { net = h (setting spec t.moment); fits = fits }))).net

  -- where `trace` keeps it too, all commands fit
  pub all_fit : ((b : Bool) (n : Net) → P None n → P None (record n { trace = b })) → (cs : List Timed) →
      AllByRecursion (λ t. Fits P t.command) cs
  all_fit traced [] = tt
  all_fit traced (c ∷ cs) = (go c.command, all_fit traced cs)
    where
      go : (d : Command) → Fits P d
      go (Trace b) = traced b
      go _ = tt
