-- What holds of each part of a net: each event and each command keeps what its parts keep.
use Rattle.std.proofs.Common.{◌≡◌, true, false, ℕ, zero, suc, ◌+◌, ◌/◌, ◌%◌, List, [], ◌∷◌, refl, sym, subst, Option, Some, None}
use Rattle.std.specs.Prelude.{nat_lt, ◌==◌}
use Rattle.std.specs.Option.{option_map_or}
use Rattle.std.specs.List.{AllByRecursion}
use Rattle.emu_model.specs.Types.{Class, NextCommand, Exit, Finish, Expiry, Emission, Place, Packet, Load, Origin, ByCommand, ByTrain, BySender, ByReceiver, Plain, Seg, Ack, Verdict, OverTheLink, Dropped, IntoPipe, SendSpec, PipeConfig, NoPipe, Budget, Command, Add, Delete, Config, PipeDelete, PipeShow, Show, Inject, Train, Flow, Stop, OnePass, Trace, End, CommandDone, CommandRefused, PacketDelivered, PacketPassed}
use Rattle.emu_model.specs.Rules.{verdict, start_behind, counted_book}
use Rattle.emu_model.specs.Delay.{Line, first_item, enter, leave}
use Rattle.emu_model.specs.Reno.{ack, expire, with_segment, missing, emitted, emit, initial_sender}
use Rattle.emu_model.specs.Pipes.{InService, PipeState, After, pipe_arrive, pipe_finish, pipe_exit, pipe_configure}
use Rattle.emu_model.specs.Net.{Net, EventContext, FlowState, TrainState, note, note_traced, note_arrival, enter_pipe, make_record, load_by, held, drop_packet, find_pipe, put_pipe, put_after, to_pipe, by_verdict, pass_rules_from, pass_rules, reinject, packet_of, make, data_send, ack_send, put_flow, put_train, find_flow, find_train, note_ack, take_segment, take_ack, take_load, deliver}
use Rattle.emu_model.specs.Commands.{with_pipe, new_pipe, delete_pipe, stop_flow, refusal_of, effect_of, obey}
use Rattle.emu_model.specs.Events.{direct_exit, flying_in, leave_pipe, pipe_exits, served_in, note_finish, pipe_finishes, expire_flow, emit_segment, emit_packet, event_of}
use Rattle.emu_model.proofs.AllFacts.{either, some_or, each_both, each_joined, each_found, each_replaced, each_removed}

-- what is said of each packet that comes to the rules, of the link of `allow`, and of each pipe,
-- flow and train
pub record Facts : Type 1 where
  pub packet : Packet → Type 0
  pub line : Line Packet → Type 0
  pub pipe : PipeState → Type 0
  pub flow : FlowState → Type 0
  pub train : TrainState → Type 0

pub record Holds (h : Facts) (n : Net) : Type 0 where
  pub direct : h.line n.direct
  pub pipes : AllByRecursion h.pipe n.pipes
  pub flows : AllByRecursion h.flow n.flows
  pub trains : AllByRecursion h.train n.trains

-- what an event does to one part keeps what is said of it
pub record Keeps (h : Facts) (at : EventContext) : Type 0 where
  pub placed : (p : Packet) (place : Place) → h.packet p → h.packet (record p { place = place })
  pub segment : (l : Load) (k : ℕ) (f : FlowState) → h.flow f → h.packet (packet_of l (data_send f.flow) k)
  pub reply : (l : Load) (k : ℕ) (f : FlowState) → h.flow f → h.packet (packet_of l (ack_send f.flow) k)
  pub one_of_train : (l : Load) (k : ℕ) (t : TrainState) → h.train t → h.packet (packet_of l t.train.packet k)
  pub entered : (p : Packet) (l : Line Packet) → h.packet p → h.line l → h.line (enter p at.now 0 l)
  pub left : (l : Line Packet) → h.line l → h.line (leave l)
  pub leaving : (p : Packet) (l : Line Packet) → first_item l.in_flight ≡ Some p → h.line l → h.packet p
  pub arrived : (p : Packet) (q : PipeState) → h.packet p → h.pipe q → h.pipe (pipe_arrive at.seed at.now p q).state
  pub pipe_left : (k : ℕ) (q : PipeState) → h.pipe q → h.pipe (pipe_exit k q)
  pub pipe_leaving : (k : ℕ) (p : Packet) (q : PipeState) → flying_in k q ≡ Some p → h.pipe q → h.packet p
  pub came : (came : List ℕ) (f : FlowState) → h.flow f → h.flow (record f { came = came })
  pub acked : (upto : ℕ) (f : FlowState) → h.flow f → h.flow (record f { sender = ack f.flow at.now upto f.sender })
  pub expired : (f : FlowState) → h.flow f → h.flow (record f { sender = expire f.flow at.now f.sender })
  pub emitted : (f : FlowState) → h.flow f → h.flow (record f { sender = emit f.flow at.now f.sender })
  pub stopped : (f : FlowState) → h.flow f → h.flow (record f { stopped = true })

-- what a command does to one part, or puts there, keeps what is said of it
abbrev pub Fits : Facts → ℕ → Command → Type 0
Fits h now (Config k config) =
    ((p : PipeState) → h.pipe p → h.pipe (pipe_configure config p))
    × h.pipe (record { number = k; config = config; instances = [] })
Fits h now (Inject send) = (l : Load) (k : ℕ) → h.packet (packet_of l send k)
Fits h now (Train k t) = h.train (record { number = k; train = t; start = now; sent = 0 })
Fits h now (Flow k f) =
    h.flow (record { number = k; flow = f; sender = initial_sender f; stopped = false; came = [] })
Fits h now _ = Unit {0}

-- what holds of each part by two other facts of it
pub both_hold : (g h j : Facts) → ((l : Line Packet) → g.line l → h.line l → j.line l) →
    ((p : PipeState) → g.pipe p → h.pipe p → j.pipe p) → ((f : FlowState) → g.flow f → h.flow f → j.flow f) →
    ((t : TrainState) → g.train t → h.train t → j.train t) → (n : Net) → Holds g n → Holds h n → Holds j n
both_hold g h j l p f t n x y = record {
  direct = l n.direct x.direct y.direct;
  pipes = each_both g.pipe h.pipe j.pipe p n.pipes x.pipes y.pipes;
  flows = each_both g.flow h.flow j.flow f n.flows x.flows y.flows;
  trains = each_both g.train h.train j.train t n.trains x.trains y.trains;
}

module _ (h : Facts) where
  -- records, the rule list and counts say nothing of the parts
  pub same_parts : (n m : Net) → m.direct ≡ n.direct → m.pipes ≡ n.pipes → m.flows ≡ n.flows →
      m.trains ≡ n.trains → Holds h n → Holds h m
  same_parts n m d p f t s = record {
    direct = subst h.line (sym d) s.direct;
    pipes = subst (AllByRecursion h.pipe) (sym p) s.pipes;
    flows = subst (AllByRecursion h.flow) (sym f) s.flows;
    trains = subst (AllByRecursion h.train) (sym t) s.trains;
  }

  direct-put : (l : Line Packet) (n : Net) → h.line l → Holds h n → Holds h (record n { direct = l })
  direct-put l n p s = record { direct = p; pipes = s.pipes; flows = s.flows; trains = s.trains }

  pipe-put : (k : ℕ) (p : PipeState) (n : Net) → h.pipe p → Holds h n → Holds h (put_pipe k p n)
  pipe-put k p n q s = record {
    direct = s.direct;
    pipes = each_replaced h.pipe (λ x. x.number == k) p n.pipes q s.pipes;
    flows = s.flows;
    trains = s.trains;
  }

  flow-put : (f : FlowState) (n : Net) → h.flow f → Holds h n → Holds h (put_flow f n)
  flow-put f n p s = record {
    direct = s.direct;
    pipes = s.pipes;
    flows = each_replaced h.flow (λ g. g.number == f.number) f n.flows p s.flows;
    trains = s.trains;
  }

  train-put : (t : TrainState) (n : Net) → h.train t → Holds h n → Holds h (put_train t n)
  train-put t n p s = record {
    direct = s.direct;
    pipes = s.pipes;
    flows = s.flows;
    trains = each_replaced h.train (λ u. u.number == t.number) t n.trains p s.trains;
  }

  pipe-found : (k : ℕ) (p : PipeState) (n : Net) → find_pipe k n ≡ Some p → Holds h n → h.pipe p
  pipe-found k p n e s = each_found h.pipe (λ x. x.number == k) p n.pipes e s.pipes

  flow-found : (k : ℕ) (f : FlowState) (n : Net) → find_flow k n ≡ Some f → Holds h n → h.flow f
  flow-found k f n e s = each_found h.flow (λ x. x.number == k) f n.flows e s.flows

  train-found : (k : ℕ) (t : TrainState) (n : Net) → find_train k n ≡ Some t → Holds h n → h.train t
  train-found k t n e s = each_found h.train (λ x. x.number == k) t n.trains e s.trains

  after-put : (now k : ℕ) (a : After PipeState) (n : Net) → h.pipe a.state → Holds h n →
      Holds h (put_after now k a n)
  after-put now k a n p s =
      same_parts (put_pipe k a.state n) (put_after now k a n) refl refl refl refl (pipe-put k a.state n p s)

module _ (h : Facts) (at : EventContext) (keeps : Keeps h at) where
  enter_pipe-holds : (k : ℕ) (p : Packet) (n : Net) → h.packet p → Holds h n → Holds h (enter_pipe at k p n)
  enter_pipe-holds k p n fits s =
      some_or (Holds h) (λ q. put_after at.now k (pipe_arrive at.seed at.now p q) n) (find_pipe k n)
      (drop_packet at.now NoPipe p n)
      (λ q e. after-put h at.now k (pipe_arrive at.seed at.now p q) n
      (keeps.arrived p q fits (pipe-found h k q n e s)) s)
      (same_parts h n (drop_packet at.now NoPipe p n) refl refl refl refl s)

  to_pipe-holds : (k : ℕ) (p : Packet) (n : Net) → h.packet p → Holds h n → Holds h (to_pipe at k p n)
  to_pipe-holds k p n fits s =
      let m : Net = note_arrival at.now k p n in
      enter_pipe-holds k p m fits (same_parts h n m refl refl refl refl s)

  by_verdict-holds : (v : Verdict) (p : Packet) (n : Net) → h.packet p → Holds h n → Holds h (by_verdict at v p n)
  by_verdict-holds OverTheLink p n fits s = direct-put h (enter p at.now 0 n.direct) n (keeps.entered p n.direct fits s.direct) s
  by_verdict-holds Dropped p n fits s = same_parts h n (by_verdict at Dropped p n) refl refl refl refl s
  by_verdict-holds (IntoPipe k place) p n fits s =
      to_pipe-holds k (record p { place = place }) n (keeps.placed p place fits) s

  pass_rules_from-holds : (start : ℕ) (p : Packet) (n : Net) → h.packet p → Holds h n →
      Holds h (pass_rules_from at start p n)
  pass_rules_from-holds start p n fits s =
      let m : Net = record n { book = counted_book start p n.book } in
      by_verdict-holds (verdict start p n.book.rules) p m fits (same_parts h n m refl refl refl refl s)

  make-holds : (l : Origin) (send : SendSpec) (n : Net) → h.packet (packet_of (load_by l) send n.made) → Holds h n →
      Holds h (make at l send n)
  make-holds l send n fits s =
      let p : Packet = packet_of (load_by l) send n.made in
      let m : Net = note_traced (make_record at.now l p ∷ []) (record n { made = n.made + 1 }) in
      either (Holds h) (nat_lt (held n) at.packet_budget) (pass_rules at p m) (drop_packet at.now Budget p m)
      (pass_rules_from-holds 0 p m fits (same_parts h n m refl refl refl refl s))
      (same_parts h n (drop_packet at.now Budget p m) refl refl refl refl s)

  take_segment-holds : (first : ℕ) (n : Net) (f : FlowState) → h.flow f → Holds h n →
      Holds h (take_segment at first n f)
  take_segment-holds first n f p s =
      let came : List ℕ = with_segment first f.came in
      let g : FlowState = record f { came = came } in
      make-holds (ByReceiver f.number (missing f.flow.smss came)) (ack_send f.flow) (put_flow g n)
      (keeps.reply (Ack f.number (missing f.flow.smss came)) n.made f p)
      (flow-put h g n (keeps.came came f p) s)

  take_ack-holds : (upto : ℕ) (n : Net) (f : FlowState) → h.flow f → Holds h n → Holds h (take_ack at.now upto n f)
  take_ack-holds upto n f p s =
      let g : FlowState = record f { sender = ack f.flow at.now upto f.sender } in
      either (Holds h) f.stopped n (note_ack at.now f.number g.sender (put_flow g n)) s
      (same_parts h (put_flow g n) (note_ack at.now f.number g.sender (put_flow g n)) refl refl refl refl
      (flow-put h g n (keeps.acked upto f p) s))

  take_load-holds : (l : Load) (n : Net) → Holds h n → Holds h (take_load at l n)
  take_load-holds Plain n s = s
  take_load-holds (Seg k first) n s =
      some_or (Holds h) (take_segment at first n) (find_flow k n) n
      (λ f e. take_segment-holds first n f (flow-found h k f n e s) s) s
  take_load-holds (Ack k upto) n s =
      some_or (Holds h) (take_ack at.now upto n) (find_flow k n) n
      (λ f e. take_ack-holds upto n f (flow-found h k f n e s) s) s

  deliver-holds : (p : Packet) (n : Net) → Holds h n → Holds h (deliver at p n)
  deliver-holds p n s =
      let m : Net = note (PacketDelivered at.now p.number p.load) n in
      take_load-holds p.load m (same_parts h n m refl refl refl refl s)

  direct_exit-holds : (n : Net) → Holds h n → Holds h (direct_exit at n)
  direct_exit-holds n s =
      let m : Net = record n { direct = leave n.direct } in
      let left : Holds h m = direct-put h (leave n.direct) n (keeps.left n.direct s.direct) s in
      some_or (Holds h) (λ q. deliver at q m) (first_item n.direct.in_flight) m
      (λ q e. deliver-holds q m left) left

  leave_pipe-holds : (pipe k : ℕ) (q : Packet) (n : Net) → h.packet q → Holds h n → Holds h (leave_pipe at pipe k q n)
  leave_pipe-holds pipe k q n fits s =
      let m : Net = note (PacketPassed at.now q.number pipe k) n in
      either (Holds h) n.one_pass (deliver at q n) (reinject at q m) (deliver-holds q n s)
      (pass_rules_from-holds (start_behind q.place m.book.rules) q m fits (same_parts h n m refl refl refl refl s))

  pipe_exits-holds : (pipe k : ℕ) (n : Net) (p : PipeState) → h.pipe p → Holds h n →
      Holds h (pipe_exits at pipe k n p)
  pipe_exits-holds pipe k n p fits s =
      let m : Net = put_pipe pipe (pipe_exit k p) n in
      let left : Holds h m = pipe-put h pipe (pipe_exit k p) n (keeps.pipe_left k p fits) s in
      some_or (Holds h) (λ q. leave_pipe at pipe k q m) (flying_in k p) m
      (λ q e. leave_pipe-holds pipe k q m (keeps.pipe_leaving k q p e fits) left) left

  note_finish-holds : (pipe k : ℕ) (o : Option (InService Packet)) (n : Net) → Holds h n →
      Holds h (note_finish at.now pipe k o n)
  note_finish-holds pipe k None n s = s
  note_finish-holds pipe k (Some i) n s = same_parts h n (note_finish at.now pipe k (Some i) n) refl refl refl refl s

  expire_flow-holds : (n : Net) (f : FlowState) → h.flow f → Holds h n → Holds h (expire_flow at n f)
  expire_flow-holds n f p s =
      let g : FlowState = record f { sender = expire f.flow at.now f.sender } in
      same_parts h (put_flow g n) (expire_flow at n f) refl refl refl refl
      (flow-put h g n (keeps.expired f p) s)

  emit_segment-holds : (n : Net) (f : FlowState) → h.flow f → Holds h n → Holds h (emit_segment at n f)
  emit_segment-holds n f p s =
      let g : FlowState = record f { sender = emit f.flow at.now f.sender } in
      make-holds (BySender f.number (emitted f.sender)) (data_send f.flow) (put_flow g n)
      (keeps.segment (Seg f.number (emitted f.sender)) n.made f p)
      (flow-put h g n (keeps.emitted f p) s)

  emit_packet-holds : (n : Net) (t : TrainState) → h.train t → h.train (record t { sent = t.sent + 1 }) →
      Holds h n → Holds h (emit_packet at n t)
  emit_packet-holds n t p q s =
      let u : TrainState = record t { sent = t.sent + 1 } in
      make-holds (ByTrain t.number) t.train.packet (put_train u n) (keeps.one_of_train Plain n.made t p) (train-put h u n q s)

  -- an event keeps what it keeps of the pipe whose packet finishes, and of the train that sends
  pub event-holds : (class : Class) (k : ℕ) (n : Net) →
      ((p : PipeState) → class ≡ Finish → find_pipe (k / 256) n ≡ Some p → h.pipe p →
      h.pipe (pipe_finish at.now (k % 256) p).state) →
      ((t : TrainState) → class ≡ Emission → find_train k n ≡ Some t → h.train t →
      h.train (record t { sent = t.sent + 1 })) →
      Holds h n → Holds h (event_of at class k n)
  event-holds NextCommand k n served sent s = s
  event-holds Exit zero n served sent s = direct_exit-holds n s
  event-holds Exit (suc k) n served sent s =
      some_or (Holds h) (pipe_exits at (suc k / 256) (suc k % 256) n) (find_pipe (suc k / 256) n) n
      (λ p e. pipe_exits-holds (suc k / 256) (suc k % 256) n p (pipe-found h (suc k / 256) p n e s) s) s
  event-holds Finish k n served sent s =
      some_or (Holds h) (pipe_finishes at (k / 256) (k % 256) n) (find_pipe (k / 256) n) n
      (λ p e.
      let m : Net = note_finish at.now (k / 256) (k % 256) (served_in (k % 256) p) n in
      after-put h at.now (k / 256) (pipe_finish at.now (k % 256) p) m
      (served p refl e (pipe-found h (k / 256) p n e s))
      (note_finish-holds (k / 256) (k % 256) (served_in (k % 256) p) n s)) s
  event-holds Expiry k n served sent s =
      some_or (Holds h) (expire_flow at n) (find_flow k n) n
      (λ f e. expire_flow-holds n f (flow-found h k f n e s) s) s
  event-holds Emission k n served sent s =
      some_or (Holds h) (emit_packet at n) (find_train k n)
      (option_map_or (emit_segment at n) (find_flow k n) n)
      (λ t e. emit_packet-holds n t (train-found h k t n e s) (sent t refl e (train-found h k t n e s)) s)
      (some_or (Holds h) (emit_segment at n) (find_flow k n) n
      (λ f e. emit_segment-holds n f (flow-found h k f n e s) s) s)

  with_pipe-each : (p : PipeState) (ps : List PipeState) → h.pipe p → AllByRecursion h.pipe ps →
      AllByRecursion h.pipe (with_pipe p ps)
  with_pipe-each p [] q s = (q, tt)
  with_pipe-each p (x ∷ xs) q s =
      either (AllByRecursion h.pipe) (nat_lt p.number x.number) (p ∷ x ∷ xs) (x ∷ with_pipe p xs)
      (q, s) (s.0, with_pipe-each p xs q s.1)

  new_pipe-holds : (k : ℕ) (config : PipeConfig) (n : Net) →
      h.pipe (record { number = k; config = config; instances = [] }) → Holds h n → Holds h (new_pipe k config n)
  new_pipe-holds k config n fits s = record {
    direct = s.direct;
    pipes = with_pipe-each (record { number = k; config = config; instances = [] }) n.pipes fits s.pipes;
    flows = s.flows;
    trains = s.trains;
  }

  delete_pipe-holds : (k : ℕ) (n : Net) (p : PipeState) → Holds h n → Holds h (delete_pipe at.now k n p)
  delete_pipe-holds k n p s = record {
    direct = s.direct;
    pipes = each_removed h.pipe (λ q. q.number == k) n.pipes s.pipes;
    flows = s.flows;
    trains = s.trains;
  }

  effect-holds : (j : ℕ) (c : Command) (n : Net) → Fits h at.now c → Holds h n → Holds h (effect_of at j c n)
  effect-holds j (Add r) n fits s = same_parts h n (effect_of at j (Add r) n) refl refl refl refl s
  effect-holds j (Delete k) n fits s = same_parts h n (effect_of at j (Delete k) n) refl refl refl refl s
  effect-holds j (Config k config) n fits s =
      some_or (Holds h) (λ p. put_pipe k (pipe_configure config p) n) (find_pipe k n) (new_pipe k config n)
      (λ p e. pipe-put h k (pipe_configure config p) n (fits.0 p (pipe-found h k p n e s)) s)
      (new_pipe-holds k config n fits.1 s)
  effect-holds j (PipeDelete k) n fits s =
      some_or (Holds h) (delete_pipe at.now k n) (find_pipe k n) n (λ p e. delete_pipe-holds k n p s) s
  effect-holds j PipeShow n fits s = same_parts h n (effect_of at j PipeShow n) refl refl refl refl s
  effect-holds j Show n fits s = same_parts h n (effect_of at j Show n) refl refl refl refl s
  effect-holds j (Inject send) n fits s = make-holds (ByCommand j) send n (fits Plain n.made) s
  effect-holds j (Train k t) n fits s = record {
    direct = s.direct;
    pipes = s.pipes;
    flows = s.flows;
    trains = each_joined h.train n.trains _ s.trains (fits, tt);
  }
  effect-holds j (Flow k f) n fits s = record {
    direct = s.direct;
    pipes = s.pipes;
    flows = each_joined h.flow n.flows _ s.flows (fits, tt);
    trains = s.trains;
  }
  effect-holds j (Stop k) n fits s =
      some_or (Holds h) (stop_flow n) (find_flow k n) n
      (λ f e. flow-put h (record f { stopped = true }) n (keeps.stopped f (flow-found h k f n e s)) s) s
  effect-holds j (OnePass b) n fits s = same_parts h n (effect_of at j (OnePass b) n) refl refl refl refl s
  effect-holds j (Trace b) n fits s = same_parts h n (effect_of at j (Trace b) n) refl refl refl refl s
  effect-holds j End n fits s = s

  pub obey-holds : (k : ℕ) (c : Command) (n : Net) → Fits h at.now c → Holds h n → Holds h (obey at k c n)
  obey-holds k c n fits s =
      let m : Net = note (CommandDone at.now k) n in
      some_or (Holds h) (λ r. note (CommandRefused at.now k r) n) (refusal_of c n) (effect_of at k c m)
      (λ r e. same_parts h n (note (CommandRefused at.now k r) n) refl refl refl refl s)
      (effect-holds k c m fits (same_parts h n m refl refl refl refl s))
