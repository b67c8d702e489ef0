-- What is kept by each change of what a net holds is kept by each step of an experiment. It may speak of a packet
-- that is on its way from one part of the net to another, and of what is known of a flow that sends.
use Rattle.std.proofs.Common.{◌≡◌, ℕ, zero, suc, ◌+◌, ◌/◌, ◌%◌, ◌<◌, ◌≤◌, List, [], ◌∷◌, Bool, true, false, refl, ◌∙◌, ap, subst, Option, Some, None, arith}
use Rattle.std.specs.Prelude.{if◌then◌else◌, is_some, nat_lt, ◌==◌, find, length}
use Rattle.std.specs.Option.{option_map_or}
use Rattle.std.specs.List.{AllByRecursion, list_any}
use Rattle.std.proofs.lemmas.Bool.{ltb-true, eqb-true, eq-eqb, or_parts}
use Rattle.emu_model.specs.Lists.{replace_first}
use Rattle.emu_laws.proofs.Types.{EventContext, Spec, Timed, Class, NextCommand, Exit, Finish, Expiry, Emission, Place, Packet, Load, Plain, Seg, Ack, Verdict, OverTheLink, Dropped, IntoPipe, SendSpec, PipeConfig, FlowSpec, DropCause, Denied, NoPipe, Budget, FlowThere, TooManyFlows, Command, Add, Delete, Config, PipeDelete, PipeShow, Show, Inject, Train, Flow, Stop, OnePass, Trace, End, CommandDone, CommandRefused, PacketDelivered, PacketPassed, AckTaken, TimerExpired, ByCommand, ByReceiver, BySender, ByTrain, Origin}
use Rattle.emu_model.specs.Rules.{verdict, start_behind, counted_book}
use Rattle.emu_model.specs.Delay.{first_item, leave}
use Rattle.emu_model.specs.Reno.{Sender, ack, with_segment, missing, emitted, emit, expire}
use Rattle.emu_model.specs.Pipes.{InService, PipeState, After, pipe_arrive, pipe_finish, pipe_exit, pipe_configure}
use Rattle.emu_model.specs.Net.{Net, initial_net, FlowState, TrainState, note, note_traced, note_arrival, enter_pipe, drop_packet, to_pipe, to_direct, by_verdict, pass_rules_from, pass_rules, reinject, packet_of, make_record, make, held, data_send, ack_send, find_pipe, put_pipe, put_after, find_flow, put_flow, find_train, put_train, take_segment, take_ack, take_load, deliver, opening_net, load_by}
use Rattle.emu_model.specs.Commands.{new_pipe, without_pipe, delete_pipe, start_flow, stop_flow, is_in_use, source_refusal, refusal_of, effect_of, obey}
use Rattle.emu_model.specs.Events.{direct_exit, deliver_some, flying_in, leave_pipe_some, pipe_exits, served_in, note_finish, pipe_finishes, expire_flow, emit_segment, emit_packet, event_of}
use Rattle.emu_model.specs.declared.sources.Due.{Due}
use Rattle.emu_model.specs.Step.{State, setting, take_class, take_due, count_step, spend, is_last_step, next_event, step_with, step}
use Rattle.emu_model.specs.Alone.{alone}
use Rattle.emu_laws.proofs.EachOf.{either, some_or, of_choice}

-- the same link of `allow`, pipes and flows
pub record Alike (n m : Net) : Type 0 where
  pub direct : m.direct ≡ n.direct
  pub pipes : m.pipes ≡ n.pipes
  pub flows : m.flows ≡ n.flows

-- an acknowledgement is one of a flow, of no more than what came there
abbrev pub IsTrueOf : Load → List FlowState → Type 0
IsTrueOf Plain fs = Unit {0}
IsTrueOf (Seg k first) fs = Unit {0}
IsTrueOf (Ack k upto) fs =
    (f : FlowState) × (find (λ g. g.number == k) fs ≡ Some f) × (upto ≤ missing f.flow.smss f.came)

-- the changes of what a net holds, P being kept by each; the option is the packet on its way. At most b packets are
-- held where one is made, a flow that sends may do so, and what is commanded is allowed.
pub record Keeps (b : ℕ) (Sends : FlowState → Type 0) (Allowed : Command → Type 0) (P : Option Packet → Net → Type 0) : Type 0 where
  pub quiet : (o : Option Packet) (n m : Net) → Alike n m → P o n → P o m
  pub lost : (p : Packet) (n : Net) → P (Some p) n → P None n
  pub made : (number : ℕ) (l : Load) (send : SendSpec) (n : Net) → held n < b → IsTrueOf l n.flows → P None n →
      P (Some (packet_of l send number)) n
  pub placed : (place : Place) (p : Packet) (n : Net) → P (Some p) n → P (Some (record p { place = place })) n
  pub entered : (now : ℕ) (p : Packet) (n : Net) → P (Some p) n → P None (to_direct now p n)
  pub left : (n : Net) → P None n → P (first_item n.direct.in_flight) (record n { direct = leave n.direct })
  pub arrived : (seed now k : ℕ) (p : Packet) (q : PipeState) (n : Net) → find_pipe k n ≡ Some q → P (Some p) n →
      P None (put_pipe k (pipe_arrive seed now p q).state n)
  pub finished : (now pipe k : ℕ) (p : PipeState) (n : Net) → find_pipe pipe n ≡ Some p → P None n →
      P None (put_pipe pipe (pipe_finish now k p).state n)
  pub pipe_left : (pipe k : ℕ) (p : PipeState) (n : Net) → find_pipe pipe n ≡ Some p → P None n →
      P (flying_in k p) (put_pipe pipe (pipe_exit k p) n)
  pub configured : (k : ℕ) (config : PipeConfig) (p : PipeState) (n : Net) → Allowed (Config k config) →
      find_pipe k n ≡ Some p → P None n → P None (put_pipe k (pipe_configure config p) n)
  pub opened : (k : ℕ) (config : PipeConfig) (n : Net) → Allowed (Config k config) → find_pipe k n ≡ None →
      P None n → P None (new_pipe k config n)
  pub deleted : (k : ℕ) (p : PipeState) (n : Net) → find_pipe k n ≡ Some p → P None n → P None (without_pipe k n)
  pub came : (k first : ℕ) (p : Packet) (f : FlowState) (n : Net) → p.load ≡ Seg k first → find_flow k n ≡ Some f →
      P (Some p) n → P None (put_flow (record f { came = with_segment first f.came }) n)
  pub acked : (now k upto : ℕ) (p : Packet) (f : FlowState) (n : Net) → p.load ≡ Ack k upto →
      find_flow k n ≡ Some f → P (Some p) n →
      P None (put_flow (record f { sender = ack f.flow now upto f.sender }) n)
  pub expired : (now k : ℕ) (f : FlowState) (n : Net) → find_flow k n ≡ Some f → P None n →
      P None (put_flow (record f { sender = expire f.flow now f.sender }) n)
  pub emitted : (now k : ℕ) (f : FlowState) (n : Net) → find_flow k n ≡ Some f → Sends f → P None n →
      P None (put_flow (record f { sender = emit f.flow now f.sender }) n)
  pub stopped : (k : ℕ) (f : FlowState) (n : Net) → find_flow k n ≡ Some f → P None n →
      P None (put_flow (record f { stopped = true }) n)
  pub started : (k : ℕ) (f : FlowSpec) (n : Net) → Allowed (Flow k f) →
      list_any (λ g. g.number == k) n.flows ≡ false → P None n → P None (start_flow k f n)

-- of what an option gives, and of what stands in for none
pub found_or : {A B : Type 0} (P : B → Type 0) (f : A → B) (o : Option A) (d : B) →
    ((a : A) → o ≡ Some a → P (f a)) → (o ≡ None → P d) → P (option_map_or f o d)
found_or P f None d p q = q refl
found_or P f (Some a) d p q = p a refl

pub found-passes : {A : Type 0} (test : A → Bool) (x : A) (xs : List A) → find test xs ≡ Some x → test x ≡ true
found-passes test x [] e = absurd (cc e)
found-passes test x (z ∷ zs) e = go (test z) refl e (λ g. found-passes test x zs g)
  where
    go : (b : Bool) → test z ≡ b → (if b then Some z else find test zs) ≡ Some x →
        (find test zs ≡ Some x → test x ≡ true) → test x ≡ true
    go true h g later = subst (λ y. test y ≡ true) (cc g) h
    go false h g later = later g

-- what is put in place of what a test finds is found, if it passes
pub found_put : {A : Type 0} (test : A → Bool) (x y : A) (xs : List A) → find test xs ≡ Some x → test y ≡ true →
    find test (replace_first test y xs) ≡ Some y
found_put test x y [] e t = absurd (cc e)
found_put test x y (z ∷ zs) e t = go (test z) refl e (λ g. found_put test x y zs g t)
  where
    go : (b : Bool) → test z ≡ b → (if b then Some z else find test zs) ≡ Some x →
        (find test zs ≡ Some x → find test (replace_first test y zs) ≡ Some y) →
        find test (if b then y ∷ zs else z ∷ replace_first test y zs) ≡ Some y
    go true h g later = rw t refl
    go false h g later = rw h (later g)

-- what is known of a flow whose segment is the next event
abbrev pub KnowsSends : (FlowState → Type 0) → State → Timed → Type 0
KnowsSends Sends s c =
    (next_event s c).source.class ≡ Emission → find_train (next_event s c).source.number s.net ≡ None →
    (f : FlowState) → find_flow (next_event s c).source.number s.net ≡ Some f → Sends f

module _ (b : ℕ) (Sends : FlowState → Type 0) (Allowed : Command → Type 0) (P : Option Packet → Net → Type 0)
    (keeps : Keeps b Sends Allowed P) where
  -- only the rule list, trains, counts and records are other
  alike : (o : Option Packet) (n m : Net) → m.direct ≡ n.direct → m.pipes ≡ n.pipes → m.flows ≡ n.flows → P o n → P o m
  alike o n m d p f h = keeps.quiet o n m (record { direct = d; pipes = p; flows = f }) h

  put_after-walks : (now k : ℕ) (a : After PipeState) (n : Net) → P None (put_pipe k a.state n) →
      P None (put_after now k a n)
  put_after-walks now k a n h = alike None (put_pipe k a.state n) (put_after now k a n) refl refl refl h

  dropped-walks : (now : ℕ) (cause : DropCause) (p : Packet) (n : Net) → P (Some p) n →
      P None (drop_packet now cause p n)
  dropped-walks now cause p n h = alike None n (drop_packet now cause p n) refl refl refl (keeps.lost p n h)

  enter_pipe-walks : (at : EventContext) (k : ℕ) (p : Packet) (n : Net) → P (Some p) n → P None (enter_pipe at k p n)
  enter_pipe-walks at k p n h =
      some_or (P None) (λ q. put_after at.now k (pipe_arrive at.seed at.now p q) n) (find_pipe k n)
      (drop_packet at.now NoPipe p n)
      (λ q e. put_after-walks at.now k (pipe_arrive at.seed at.now p q) n (keeps.arrived at.seed at.now k p q n e h))
      (dropped-walks at.now NoPipe p n h)

  to_pipe-walks : (at : EventContext) (k : ℕ) (p : Packet) (n : Net) → P (Some p) n → P None (to_pipe at k p n)
  to_pipe-walks at k p n h =
      let m : Net = note_arrival at.now k p n in
      enter_pipe-walks at k p m (alike (Some p) n m refl refl refl h)

  by_verdict-walks : (at : EventContext) (v : Verdict) (p : Packet) (n : Net) → P (Some p) n →
      P None (by_verdict at v p n)
  by_verdict-walks at OverTheLink p n h = keeps.entered at.now p n h
  by_verdict-walks at Dropped p n h = dropped-walks at.now Denied p n h
  by_verdict-walks at (IntoPipe k place) p n h =
      to_pipe-walks at k (record p { place = place }) n (keeps.placed place p n h)

  pass_rules_from-walks : (at : EventContext) (start : ℕ) (p : Packet) (n : Net) → P (Some p) n →
      P None (pass_rules_from at start p n)
  pass_rules_from-walks at start p n h =
      let m : Net = record n { book = counted_book start p n.book } in
      by_verdict-walks at (verdict start p n.book.rules) p m (alike (Some p) n m refl refl refl h)

  make-walks : (at : EventContext) → at.packet_budget ≡ b → (o : Origin) (send : SendSpec) (n : Net) →
      IsTrueOf (load_by o) n.flows →
      P None n → P None (make at o send n)
  make-walks at e o send n tells h =
      let p : Packet = packet_of (load_by o) send n.made in
      let m : Net = note_traced (make_record at.now o p ∷ []) (record n { made = n.made + 1 }) in
      let here : P None m = alike None n m refl refl refl h in
      of_choice (P None) (nat_lt (held n) at.packet_budget) (pass_rules at p m) (drop_packet at.now Budget p m)
      (λ r. pass_rules_from-walks at 0 p m
      (keeps.made n.made (load_by o) send m (subst (λ k. held n < k) e (ltb-true (held n) at.packet_budget r)) tells here))
      (λ r. alike None m (drop_packet at.now Budget p m) refl refl refl here)

  take_segment-walks : (at : EventContext) → at.packet_budget ≡ b → (k first : ℕ) (p : Packet) (n : Net) (f : FlowState) →
      p.load ≡ Seg k first → find_flow k n ≡ Some f → P (Some p) n → P None (take_segment at first n f)
  take_segment-walks at e k first p n f is there h =
      let came : List ℕ = with_segment first f.came in
      let g : FlowState = record f { came = came } in
      let number : f.number ≡ k = eqb-true f.number k (found-passes (λ x. x.number == k) f n.flows there) in
      let same : find_flow f.number n ≡ Some f = ap (λ j. find_flow j n) number ∙ there in
      make-walks at e (ByReceiver f.number (missing f.flow.smss came)) (ack_send f.flow) (put_flow g n)
      (g, found_put (λ x. x.number == f.number) f g n.flows same (eq-eqb f.number f.number refl), omega arith)
      (keeps.came k first p f n is there h)

  take_ack-walks : (now k upto : ℕ) (p : Packet) (n : Net) (f : FlowState) → p.load ≡ Ack k upto →
      find_flow k n ≡ Some f → P (Some p) n → P None (take_ack now upto n f)
  take_ack-walks now k upto p n f is there h =
      let t : Sender = ack f.flow now upto f.sender in
      let m : Net = put_flow (record f { sender = t }) n in
      either (P None) f.stopped n (note (AckTaken now f.number t.cwnd t.ssthresh) m) (keeps.lost p n h)
      (alike None m (note (AckTaken now f.number t.cwnd t.ssthresh) m) refl refl refl
      (keeps.acked now k upto p f n is there h))

  take_load-walks : (at : EventContext) → at.packet_budget ≡ b → (l : Load) (p : Packet) (n : Net) → p.load ≡ l →
      P (Some p) n → P None (take_load at l n)
  take_load-walks at e Plain p n is h = keeps.lost p n h
  take_load-walks at e (Seg k first) p n is h =
      some_or (P None) (take_segment at first n) (find_flow k n) n
      (λ f there. take_segment-walks at e k first p n f is there h) (keeps.lost p n h)
  take_load-walks at e (Ack k upto) p n is h =
      some_or (P None) (take_ack at.now upto n) (find_flow k n) n
      (λ f there. take_ack-walks at.now k upto p n f is there h) (keeps.lost p n h)

  deliver-walks : (at : EventContext) → at.packet_budget ≡ b → (p : Packet) (n : Net) → P (Some p) n → P None (deliver at p n)
  deliver-walks at e p n h =
      let m : Net = note (PacketDelivered at.now p.number p.load) n in
      take_load-walks at e p.load p m refl (alike (Some p) n m refl refl refl h)

  direct_exit-walks : (at : EventContext) → at.packet_budget ≡ b → (n : Net) → P None n → P None (direct_exit at n)
  direct_exit-walks at e n h = go (first_item n.direct.in_flight) (keeps.left n h)
    where
      go : (o : Option Packet) → P o (record n { direct = leave n.direct }) →
          P None (deliver_some at o (record n { direct = leave n.direct }))
      go None q = q
      go (Some p) q = deliver-walks at e p (record n { direct = leave n.direct }) q

  pipe_exits-walks : (at : EventContext) → at.packet_budget ≡ b → (pipe k : ℕ) (n : Net) (p : PipeState) →
      find_pipe pipe n ≡ Some p → P None n → P None (pipe_exits at pipe k n p)
  pipe_exits-walks at b' pipe k n p e h = go (flying_in k p) (keeps.pipe_left pipe k p n e h)
    where
      go : (o : Option Packet) → P o (put_pipe pipe (pipe_exit k p) n) →
          P None (leave_pipe_some at pipe k o (put_pipe pipe (pipe_exit k p) n))
      go None q = q
      go (Some x) q =
          let there : Net = put_pipe pipe (pipe_exit k p) n in
          let told : Net = note (PacketPassed at.now x.number pipe k) there in
          either (P None) n.one_pass (deliver at x there) (reinject at x told) (deliver-walks at b' x there q)
          (pass_rules_from-walks at (start_behind x.place told.book.rules) x told
          (alike (Some x) there told refl refl refl q))

  note_finish-walks : (now pipe k : ℕ) (o : Option (InService Packet)) (n : Net) → P None n → P None (note_finish now pipe k o n)
  note_finish-walks now pipe k None n h = h
  note_finish-walks now pipe k (Some i) n h = alike None n (note_finish now pipe k (Some i) n) refl refl refl h

  same-pipes : (now pipe k : ℕ) (o : Option (InService Packet)) (n : Net) → (note_finish now pipe k o n).pipes ≡ n.pipes
  same-pipes now pipe k None n = refl
  same-pipes now pipe k (Some i) n = refl

  pipe_finishes-walks : (at : EventContext) (pipe k : ℕ) (n : Net) (p : PipeState) → find_pipe pipe n ≡ Some p →
      P None n → P None (pipe_finishes at pipe k n p)
  pipe_finishes-walks at pipe k n p e h =
      let m : Net = note_finish at.now pipe k (served_in k p) n in
      put_after-walks at.now pipe (pipe_finish at.now k p) m
      (keeps.finished at.now pipe k p m
      (ap (find (λ q. q.number == pipe)) (same-pipes at.now pipe k (served_in k p) n) ∙ e)
      (note_finish-walks at.now pipe k (served_in k p) n h))

  expire_flow-walks : (at : EventContext) (k : ℕ) (n : Net) (f : FlowState) → find_flow k n ≡ Some f → P None n →
      P None (expire_flow at n f)
  expire_flow-walks at k n f e h =
      let t : Sender = expire f.flow at.now f.sender in
      let m : Net = put_flow (record f { sender = t }) n in
      alike None m (note (TimerExpired at.now f.number t.cwnd t.ssthresh) m) refl refl refl
      (keeps.expired at.now k f n e h)

  emit_packet-walks : (at : EventContext) → at.packet_budget ≡ b → (n : Net) (t : TrainState) → P None n → P None (emit_packet at n t)
  emit_packet-walks at e n t h =
      let m : Net = put_train (record t { sent = t.sent + 1 }) n in
      make-walks at e (ByTrain t.number) t.train.packet m tt (alike None n m refl refl refl h)

  emit_segment-walks : (at : EventContext) → at.packet_budget ≡ b → (k : ℕ) (n : Net) (f : FlowState) →
      find_flow k n ≡ Some f → Sends f → P None n → P None (emit_segment at n f)
  emit_segment-walks at e k n f there sends h =
      make-walks at e (BySender f.number (emitted f.sender)) (data_send f.flow)
      (put_flow (record f { sender = emit f.flow at.now f.sender }) n) tt (keeps.emitted at.now k f n there sends h)

  -- the flow that is found with this number, where no train is, may send
  abbrev SendsAt : ℕ → Net → Type 0
  SendsAt k n = find_train k n ≡ None → (f : FlowState) → find_flow k n ≡ Some f → Sends f

  event-walks : (at : EventContext) → at.packet_budget ≡ b → (class : Class) (k : ℕ) (n : Net) →
      (class ≡ Emission → SendsAt k n) → P None n → P None (event_of at class k n)
  event-walks at b' NextCommand k n sends h = h
  event-walks at b' Exit zero n sends h = direct_exit-walks at b' n h
  event-walks at b' Exit (suc k) n sends h =
      some_or (P None) (pipe_exits at (suc k / 256) (suc k % 256) n) (find_pipe (suc k / 256) n) n
      (λ p e. pipe_exits-walks at b' (suc k / 256) (suc k % 256) n p e h) h
  event-walks at b' Finish k n sends h =
      some_or (P None) (pipe_finishes at (k / 256) (k % 256) n) (find_pipe (k / 256) n) n
      (λ p e. pipe_finishes-walks at (k / 256) (k % 256) n p e h) h
  event-walks at b' Expiry k n sends h =
      some_or (P None) (expire_flow at n) (find_flow k n) n (λ f e. expire_flow-walks at k n f e h) h
  event-walks at b' Emission k n sends h =
      found_or (P None) (emit_packet at n) (find_train k n) (option_map_or (emit_segment at n) (find_flow k n) n)
      (λ t e. emit_packet-walks at b' n t h)
      (λ none. some_or (P None) (emit_segment at n) (find_flow k n) n
      (λ f e. emit_segment-walks at b' k n f e (sends refl none f e) h) h)

  -- a number that isn't refused is no flow's
  new_number : (k : ℕ) (n : Net) → source_refusal k n ≡ None → list_any (λ f. f.number == k) n.flows ≡ false
  new_number k n e = go (is_in_use k n) refl e
    where
      go : (c : Bool) → is_in_use k n ≡ c →
          (if c then Some FlowThere else (if nat_lt (length n.flows + length n.trains) 256 then None else Some TooManyFlows)) ≡ None →
          list_any (λ f. f.number == k) n.flows ≡ false
      go true h g = absurd (cc g)
      go false h g =
          (or_parts (list_any (λ f. f.number == k) n.flows) (list_any (λ t. t.number == k) n.trains) h).0

  effect-walks : (at : EventContext) → at.packet_budget ≡ b → (j : ℕ) (c : Command) (n : Net) → refusal_of c n ≡ None →
      Allowed c → P None n → P None (effect_of at j c n)
  effect-walks at b' j (Add r) n e ok h = alike None n (effect_of at j (Add r) n) refl refl refl h
  effect-walks at b' j (Delete k) n e ok h = alike None n (effect_of at j (Delete k) n) refl refl refl h
  effect-walks at b' j (Config k config) n e ok h =
      found_or (P None) (λ p. put_pipe k (pipe_configure config p) n) (find_pipe k n) (new_pipe k config n)
      (λ p g. keeps.configured k config p n ok g h) (λ g. keeps.opened k config n ok g h)
  effect-walks at b' j (PipeDelete k) n e ok h =
      some_or (P None) (delete_pipe at.now k n) (find_pipe k n) n
      (λ p g. alike None (without_pipe k n) (delete_pipe at.now k n p) refl refl refl (keeps.deleted k p n g h)) h
  effect-walks at b' j PipeShow n e ok h = alike None n (effect_of at j PipeShow n) refl refl refl h
  effect-walks at b' j Show n e ok h = alike None n (effect_of at j Show n) refl refl refl h
  effect-walks at b' j (Inject send) n e ok h = make-walks at b' (ByCommand j) send n tt h
  effect-walks at b' j (Train k t) n e ok h = alike None n (effect_of at j (Train k t) n) refl refl refl h
  effect-walks at b' j (Flow k f) n e ok h = keeps.started k f n ok (new_number k n e) h
  effect-walks at b' j (Stop k) n e ok h =
      some_or (P None) (stop_flow n) (find_flow k n) n (λ f g. keeps.stopped k f n g h) h
  effect-walks at b' j (OnePass c) n e ok h = alike None n (effect_of at j (OnePass c) n) refl refl refl h
  effect-walks at b' j (Trace c) n e ok h = alike None n (effect_of at j (Trace c) n) refl refl refl h
  effect-walks at b' j End n e ok h = h

  noted-refusal : (c : Command) (now k : ℕ) (n : Net) → refusal_of c (note (CommandDone now k) n) ≡ refusal_of c n
  noted-refusal (Add r) now k n = refl
  noted-refusal (Delete j) now k n = refl
  noted-refusal (Config j config) now k n = refl
  noted-refusal (PipeDelete j) now k n = refl
  noted-refusal PipeShow now k n = refl
  noted-refusal Show now k n = refl
  noted-refusal (Inject send) now k n = refl
  noted-refusal (Train j t) now k n = refl
  noted-refusal (Flow j f) now k n = refl
  noted-refusal (Stop j) now k n = refl
  noted-refusal (OnePass c) now k n = refl
  noted-refusal (Trace c) now k n = refl
  noted-refusal End now k n = refl

  obey-walks : (at : EventContext) → at.packet_budget ≡ b → (k : ℕ) (c : Command) (n : Net) → Allowed c → P None n →
      P None (obey at k c n)
  obey-walks at b' k c n ok h =
      let m : Net = note (CommandDone at.now k) n in
      found_or (P None) (λ r. note (CommandRefused at.now k r) n) (refusal_of c n) (effect_of at k c m)
      (λ r e. alike None n (note (CommandRefused at.now k r) n) refl refl refl h)
      (λ e. effect-walks at b' k c m (noted-refusal c at.now k n ∙ e) ok (alike None n m refl refl refl h))

  -- all commands that are left are allowed
  record Stands (s : State) : Type 0 where
    net : P None s.net
    budget : s.spec.budget.packets ≡ b
    left : AllByRecursion (λ t. Allowed t.command) s.left

  counted-stands : (t : State) → Stands t → Stands (count_step t)
  counted-stands t h =
      let u : State = record t { steps = t.steps + 1 } in
      let same : Stands u = record { net = h.net; budget = h.budget; left = h.left } in
      either Stands (is_some t.ending) u (if is_last_step u then spend u else u) same
      (either Stands (is_last_step u) (spend u) u
      (record { net = alike None t.net (spend u).net refl refl refl h.net; budget = h.budget; left = h.left }) same)

  taken-stands : (class : Class) (e : Due) (c : Timed) (rest : List Timed) (s : State) → Stands s →
      Allowed c.command → AllByRecursion (λ t. Allowed t.command) rest →
      (class ≡ Emission → SendsAt e.source.number s.net) → Stands (take_class class e c rest s)
  taken-stands NextCommand e c rest s h ok later sends = record {
    net = obey-walks (setting s.spec e.moment) h.budget s.taken c.command s.net ok h.net;
    budget = h.budget;
    left = later;
  }
  taken-stands Exit e c rest s h ok later sends = record {
    net = event-walks (setting s.spec e.moment) h.budget Exit e.source.number s.net sends h.net;
    budget = h.budget;
    left = h.left;
  }
  taken-stands Finish e c rest s h ok later sends = record {
    net = event-walks (setting s.spec e.moment) h.budget Finish e.source.number s.net sends h.net;
    budget = h.budget;
    left = h.left;
  }
  taken-stands Expiry e c rest s h ok later sends = record {
    net = event-walks (setting s.spec e.moment) h.budget Expiry e.source.number s.net sends h.net;
    budget = h.budget;
    left = h.left;
  }
  taken-stands Emission e c rest s h ok later sends = record {
    net = event-walks (setting s.spec e.moment) h.budget Emission e.source.number s.net sends h.net;
    budget = h.budget;
    left = h.left;
  }

  step-stands : (s : State) → ((c : Timed) → KnowsSends Sends s c) → Stands s → Stands (step s)
  step-stands s knows h = either Stands (is_some s.ending) s (step_with s.left s) h (go s.left h.left)
    where
      go : (l : List Timed) → AllByRecursion (λ t. Allowed t.command) l → Stands (step_with l s)
      go [] ok = h
      go (c ∷ rest) ok =
          let e : Due = next_event s c in
          counted-stands (take_due e c rest s) (taken-stands e.source.class e c rest s h ok.0 ok.1 (knows c))

-- what holds at the start holds after any number of steps
pub steps_keep : (Sends : FlowState → Type 0) (Allowed : Command → Type 0) (P : Option Packet → Net → Type 0)
    (spec : Spec) (c : List Timed) → Keeps spec.budget.packets Sends Allowed P →
    ((n : ℕ) (t : Timed) → P None (alone spec c n).net → KnowsSends Sends (alone spec c n) t) →
    AllByRecursion (λ t. Allowed t.command) c → P None initial_net → (n : ℕ) → P None (alone spec c n).net
steps_keep Sends Allowed P spec c keeps knows ok h n = (go n).net
  where
    go : (n : ℕ) → Stands spec.budget.packets Sends Allowed P keeps (alone spec c n)
    go zero =
        record {
          net = keeps.quiet None initial_net (opening_net spec.traced) (record { direct = refl; pipes = refl; flows = refl }) h;
          budget = refl;
          left = ok;
        }
    go (suc n) =
        step-stands spec.budget.packets Sends Allowed P keeps (alone spec c n) (λ t. knows n t (go n).net) (go n)
