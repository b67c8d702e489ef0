-- How many records a step makes: what is recorded and held, taken together, rises by six at most, since a packet that
-- is dropped is held no more.
use Rattle.std.proofs.Common.{◌≡◌, ℕ, zero, suc, ◌+◌, ◌*◌, ◌/◌, ◌%◌, ◌≤◌, List, [], ◌∷◌, ◌++◌, length, true, refl, ◌∙◌, ap, Option, Some, None, arith}
use Rattle.std.specs.Prelude.{if◌then◌else◌, not, is_some, nat_lt, ◌==◌, find, map, flat_map}
use Rattle.std.specs.Option.{option_map_or}
use Rattle.std.proofs.lemmas.List.{length-map}
use Rattle.std.proofs.lemmas.List.Sums.{sum_by-cons, sum_by-append, count_by-le-length}
use Rattle.emu_laws.proofs.Types.{EventContext, Spec, Timed, Class, NextCommand, Exit, Finish, Expiry, Emission, Packet, Load, Plain, Seg, Ack, Verdict, OverTheLink, Dropped, IntoPipe, SendSpec, PipeConfig, DropCause, Denied, NoPipe, Budget, Deleted, Command, Add, Delete, Config, PipeDelete, PipeShow, Show, Inject, Train, Flow, Stop, OnePass, Trace, End, Record, CommandDone, CommandRefused, PacketArrived, PacketDelivered, PacketFinished, PacketPassed, AckTaken, TimerExpired, StepsSpent, RuleLine, PipeLine, ByCommand, ByReceiver, BySender, ByTrain, Origin}
use Rattle.emu_model.specs.Rules.{Counted, verdict, start_behind, counted_book}
use Rattle.emu_model.specs.Delay.{first_item, leave}
use Rattle.emu_model.specs.Reno.{Sender, ack, with_segment, missing, emitted, emit, expire}
use Rattle.emu_model.specs.Pipes.{Drop, InService, Instance, PipeState, After, pipe_packets, instance_for, pipe_arrive, pipe_finish, pipe_exit, pipe_configure}
use Rattle.emu_model.specs.Net.{Net, FlowState, TrainState, note, note_all, note_traced, held, arrive_records, arrivals, note_arrival, enter_pipe, drop_packet, drop_record, to_pipe, by_verdict, pass_rules_from, pass_rules, reinject, packet_of, make_record, make, data_send, ack_send, find_pipe, put_pipe, put_after, find_flow, put_flow, find_train, put_train, take_segment, take_ack, take_load, deliver, load_by, initial_net, opening_net}
use Rattle.emu_model.specs.Commands.{without_pipe, rule_lines, instance_line, instance_lines, pipe_lines, new_pipe, delete_pipe, stop_flow, refusal_of, effect_of, obey}
use Rattle.emu_model.specs.Events.{direct_exit, deliver_some, flying_in, leave_pipe_some, pipe_exits, served_in, note_finish, pipe_finishes, expire_flow, emit_segment, emit_packet, event_of}
use Rattle.emu_model.specs.declared.sources.Due.{Due}
use Rattle.emu_model.specs.Step.{State, setting, take_class, take_due, count_step, spend, is_last_step, next_event, step_with, step}
use Rattle.emu_model.specs.Alone.{alone}
use Rattle.emu_laws.proofs.EachOf.{either, some_or}
use Rattle.emu_laws.proofs.HeldBudget.{one_of, some-is, none-weighs}
use Rattle.emu_laws.proofs.HeldWeights.{fallen, weigh, each_one, as-many-fallen, held_is, weigh-same, weigh-entered, weigh-left, weigh-arrived, weigh-finished, weigh-exited, weigh-configured, weigh-opened, weigh-deleted}
use Rattle.emu_laws.specs.WorkBound.{is_listing, told, RecordsAreBounded}

-- what is recorded and held
unfoldable sum_of : Net → ℕ
sum_of n = told n.records + weigh each_one n

told-append : (xs ys : List Record) → told (xs ++ ys) ≡ told xs + told ys
told-append xs ys = sum_by-append (λ r. if not (is_listing r) then 1 else 0) xs ys

noted : (rs : List Record) (n : Net) → sum_of (note_all rs n) ≤ sum_of n + length rs
unfolding sum_of
noted rs n =
    omega (
      arith,
      told-append n.records rs,
      count_by-le-length (λ r. not (is_listing r)) rs,
      weigh-same each_one n (note_all rs n) refl refl,
    )

noted_one : (r : Record) (n : Net) → sum_of (note r n) ≤ sum_of n + 1
noted_one r n = omega (arith, noted (r ∷ []) n)

still : (n m : Net) → m.direct ≡ n.direct → m.pipes ≡ n.pipes → m.records ≡ n.records → sum_of m ≡ sum_of n
unfolding sum_of
still n m d p r =
    let c : told m.records ≡ told n.records = ap told r in
    omega (arith, c, weigh-same each_one n m d p)

traced : (rs : List Record) (n : Net) → sum_of (note_traced rs n) ≤ sum_of n + length rs
traced rs n =
    omega (
      arith,
      noted (if n.trace then rs else []) n,
      either (λ xs. length xs ≤ length rs) n.trace rs [] (omega arith) (omega arith),
    )

dropped_one : (now : ℕ) (cause : DropCause) (p : Packet) (n : Net) → sum_of (drop_packet now cause p n) ≤ sum_of n + 1
dropped_one now cause p n = omega (arith, noted (drop_record now (record { packet = p; cause = cause }) ∷ []) n)

-- a pipe is put in place of the one that was found, and drops are noted
put_after-sum : (now k d : ℕ) (a : After PipeState) (n : Net) →
    weigh each_one (put_pipe k a.state n) + fallen each_one a.dropped ≤ weigh each_one n + d →
    sum_of (put_after now k a n) ≤ sum_of n + d
unfolding sum_of
put_after-sum now k d a n h =
    omega (
      arith,
      h,
      told-append n.records (map (drop_record now) a.dropped),
      count_by-le-length (λ r. not (is_listing r)) (map (drop_record now) a.dropped),
      length-map a.dropped (drop_record now),
      as-many-fallen a.dropped,
      weigh-same each_one (put_pipe k a.state n) (put_after now k a n) refl refl,
    )

arrivals-few : (now : ℕ) (p : Packet) (q : PipeState) → length (arrivals now p q) ≤ 2
arrivals-few now p q =
    some_or (λ rs. length rs ≤ 2) (arrive_records now p q) (instance_for p q) []
    (λ k e. either (λ rs. length rs ≤ 2) (nat_lt k (length q.instances)) (PacketArrived now p.number q.number k ∷ []) _
    (omega arith) (omega arith)) (omega arith)

note_arrival-sum : (now k : ℕ) (p : Packet) (n : Net) → sum_of (note_arrival now k p n) ≤ sum_of n + 2
note_arrival-sum now k p n =
    omega (
      arith,
      traced (option_map_or (arrivals now p) (find_pipe k n) []) n,
      some_or (λ rs. length rs ≤ 2) (arrivals now p) (find_pipe k n) [] (λ q e. arrivals-few now p q) (omega arith),
    )

module _ (at : EventContext) where
  enter_pipe-sum : (k : ℕ) (p : Packet) (n : Net) → sum_of (enter_pipe at k p n) ≤ sum_of n + 1
  enter_pipe-sum k p n =
      some_or (λ m. sum_of m ≤ sum_of n + 1) (λ q. put_after at.now k (pipe_arrive at.seed at.now p q) n) (find_pipe k n)
      (drop_packet at.now NoPipe p n)
      (λ q e. put_after-sum at.now k 1 (pipe_arrive at.seed at.now p q) n
      (omega (arith, weigh-arrived each_one at.seed at.now k p q n e)))
      (dropped_one at.now NoPipe p n)

  to_pipe-sum : (k : ℕ) (p : Packet) (n : Net) → sum_of (to_pipe at k p n) ≤ sum_of n + 3
  to_pipe-sum k p n =
      omega (arith, enter_pipe-sum k p (note_arrival at.now k p n), note_arrival-sum at.now k p n)

  by_verdict-sum : (v : Verdict) (p : Packet) (n : Net) → sum_of (by_verdict at v p n) ≤ sum_of n + 3
  unfolding sum_of
  by_verdict-sum OverTheLink p n = omega (arith, weigh-entered each_one at.now p n)
  by_verdict-sum Dropped p n = omega (arith, dropped_one at.now Denied p n)
  by_verdict-sum (IntoPipe k place) p n = to_pipe-sum k (record p { place = place }) n

  pass_rules_from-sum : (start : ℕ) (p : Packet) (n : Net) → sum_of (pass_rules_from at start p n) ≤ sum_of n + 3
  pass_rules_from-sum start p n =
      let m : Net = record n { book = counted_book start p n.book } in
      omega (arith, by_verdict-sum (verdict start p n.book.rules) p m, still n m refl refl refl)

  make-sum : (l : Origin) (send : SendSpec) (n : Net) → sum_of (make at l send n) ≤ sum_of n + 4
  make-sum l send n =
      let p : Packet = packet_of (load_by l) send n.made in
      let k : Net = record n { made = n.made + 1 } in
      let m : Net = note_traced (make_record at.now l p ∷ []) k in
      let made : sum_of m ≤ sum_of n + 1 = omega (arith, traced (make_record at.now l p ∷ []) k, still n k refl refl refl) in
      either (λ x. sum_of x ≤ sum_of n + 4) (nat_lt (held n) at.packet_budget) (pass_rules at p m)
      (drop_packet at.now Budget p m) (omega (arith, made, pass_rules_from-sum 0 p m))
      (omega (arith, made, dropped_one at.now Budget p m))

  take_segment-sum : (first : ℕ) (n : Net) (f : FlowState) → sum_of (take_segment at first n f) ≤ sum_of n + 4
  take_segment-sum first n f =
      let came : List ℕ = with_segment first f.came in
      let m : Net = put_flow (record f { came = came }) n in
      omega (
        arith,
        make-sum (ByReceiver f.number (missing f.flow.smss came)) (ack_send f.flow) m,
        still n m refl refl refl,
      )

  take_ack-sum : (upto : ℕ) (n : Net) (f : FlowState) → sum_of (take_ack at.now upto n f) ≤ sum_of n + 4
  take_ack-sum upto n f =
      let t : Sender = ack f.flow at.now upto f.sender in
      let m : Net = put_flow (record f { sender = t }) n in
      either (λ x. sum_of x ≤ sum_of n + 4) f.stopped n (note (AckTaken at.now f.number t.cwnd t.ssthresh) m) (omega arith)
      (omega (arith, noted_one (AckTaken at.now f.number t.cwnd t.ssthresh) m, still n m refl refl refl))

  take_load-sum : (l : Load) (n : Net) → sum_of (take_load at l n) ≤ sum_of n + 4
  take_load-sum Plain n = omega arith
  take_load-sum (Seg k first) n =
      some_or (λ x. sum_of x ≤ sum_of n + 4) (take_segment at first n) (find_flow k n) n
      (λ f e. take_segment-sum first n f) (omega arith)
  take_load-sum (Ack k upto) n =
      some_or (λ x. sum_of x ≤ sum_of n + 4) (take_ack at.now upto n) (find_flow k n) n
      (λ f e. take_ack-sum upto n f) (omega arith)

  deliver-sum : (p : Packet) (n : Net) → sum_of (deliver at p n) ≤ sum_of n + 5
  deliver-sum p n =
      let m : Net = note (PacketDelivered at.now p.number p.load) n in
      omega (arith, take_load-sum p.load m, noted_one (PacketDelivered at.now p.number p.load) n)

  -- what leaves is held no more
  left-sum : (n : Net) → sum_of (record n { direct = leave n.direct }) + one_of (first_item n.direct.in_flight) ≡ sum_of n
  unfolding sum_of
  left-sum n = omega (arith, weigh-left each_one n, some-is (first_item n.direct.in_flight))

  direct_exit-sum : (n : Net) → sum_of (direct_exit at n) ≤ sum_of n + 4
  direct_exit-sum n = go (first_item n.direct.in_flight) (left-sum n)
    where
      m : Net
      m = record n { direct = leave n.direct }

      go : (o : Option Packet) → sum_of (record n { direct = leave n.direct }) + one_of o ≡ sum_of n →
          sum_of (deliver_some at o (record n { direct = leave n.direct })) ≤ sum_of n + 4
      go None h = omega (arith, h)
      go (Some p) h = omega (arith, h, deliver-sum p (record n { direct = leave n.direct }))

  exited-sum : (pipe k : ℕ) (n : Net) (p : PipeState) → find_pipe pipe n ≡ Some p →
      sum_of (put_pipe pipe (pipe_exit k p) n) + one_of (flying_in k p) ≤ sum_of n
  unfolding sum_of
  exited-sum pipe k n p e = omega (arith, weigh-exited each_one pipe k p n e, some-is (flying_in k p))

  pipe_exits-sum : (pipe k : ℕ) (n : Net) (p : PipeState) → find_pipe pipe n ≡ Some p →
      sum_of (pipe_exits at pipe k n p) ≤ sum_of n + 4
  pipe_exits-sum pipe k n p e = go (flying_in k p) (exited-sum pipe k n p e)
    where
      go : (o : Option Packet) → sum_of (put_pipe pipe (pipe_exit k p) n) + one_of o ≤ sum_of n →
          sum_of (leave_pipe_some at pipe k o (put_pipe pipe (pipe_exit k p) n)) ≤ sum_of n + 4
      go None h = omega (arith, h)
      go (Some q) h =
          let m : Net = put_pipe pipe (pipe_exit k p) n in
          let passed : Net = note (PacketPassed at.now q.number pipe k) m in
          either (λ x. sum_of x ≤ sum_of n + 4) n.one_pass (deliver at q m) (reinject at q passed)
          (omega (arith, h, deliver-sum q m))
          (omega (
            arith,
            h,
            pass_rules_from-sum (start_behind q.place passed.book.rules) q passed,
            noted_one (PacketPassed at.now q.number pipe k) m,
          ))

  note_finish-sum : (pipe k : ℕ) (o : Option (InService Packet)) (n : Net) →
      sum_of (note_finish at.now pipe k o n) ≤ sum_of n + 1
  note_finish-sum pipe k None n = omega arith
  note_finish-sum pipe k (Some i) n = noted_one (PacketFinished at.now i.item.number pipe k) n

  same-pipes : (pipe k : ℕ) (o : Option (InService Packet)) (n : Net) → (note_finish at.now pipe k o n).pipes ≡ n.pipes
  same-pipes pipe k None n = refl
  same-pipes pipe k (Some i) n = refl

  pipe_finishes-sum : (pipe k : ℕ) (n : Net) (p : PipeState) → find_pipe pipe n ≡ Some p →
      sum_of (pipe_finishes at pipe k n p) ≤ sum_of n + 4
  pipe_finishes-sum pipe k n p e =
      let m : Net = note_finish at.now pipe k (served_in k p) n in
      omega (
        arith,
        note_finish-sum pipe k (served_in k p) n,
        put_after-sum at.now pipe 0 (pipe_finish at.now k p) m
            (omega (
              arith,
              weigh-finished each_one at.now pipe k p m
                  (ap (find (λ q. q.number == pipe)) (same-pipes pipe k (served_in k p) n) ∙ e),
            )),
      )

  expire_flow-sum : (n : Net) (f : FlowState) → sum_of (expire_flow at n f) ≤ sum_of n + 4
  expire_flow-sum n f =
      let t : Sender = expire f.flow at.now f.sender in
      let m : Net = put_flow (record f { sender = t }) n in
      omega (arith, noted_one (TimerExpired at.now f.number t.cwnd t.ssthresh) m, still n m refl refl refl)

  emit_segment-sum : (n : Net) (f : FlowState) → sum_of (emit_segment at n f) ≤ sum_of n + 4
  emit_segment-sum n f =
      let m : Net = put_flow (record f { sender = emit f.flow at.now f.sender }) n in
      omega (arith, make-sum (BySender f.number (emitted f.sender)) (data_send f.flow) m, still n m refl refl refl)

  emit_packet-sum : (n : Net) (t : TrainState) → sum_of (emit_packet at n t) ≤ sum_of n + 4
  emit_packet-sum n t =
      let m : Net = put_train (record t { sent = t.sent + 1 }) n in
      omega (arith, make-sum (ByTrain t.number) t.train.packet m, still n m refl refl refl)

  event-sum : (class : Class) (k : ℕ) (n : Net) → sum_of (event_of at class k n) ≤ sum_of n + 4
  event-sum NextCommand k n = omega arith
  event-sum Exit zero n = direct_exit-sum n
  event-sum Exit (suc k) n =
      some_or (λ x. sum_of x ≤ sum_of n + 4) (pipe_exits at (suc k / 256) (suc k % 256) n) (find_pipe (suc k / 256) n) n
      (λ p e. pipe_exits-sum (suc k / 256) (suc k % 256) n p e) (omega arith)
  event-sum Finish k n =
      some_or (λ x. sum_of x ≤ sum_of n + 4) (pipe_finishes at (k / 256) (k % 256) n) (find_pipe (k / 256) n) n
      (λ p e. pipe_finishes-sum (k / 256) (k % 256) n p e) (omega arith)
  event-sum Expiry k n =
      some_or (λ x. sum_of x ≤ sum_of n + 4) (expire_flow at n) (find_flow k n) n (λ f e. expire_flow-sum n f)
      (omega arith)
  event-sum Emission k n =
      some_or (λ x. sum_of x ≤ sum_of n + 4) (emit_packet at n) (find_train k n)
      (option_map_or (emit_segment at n) (find_flow k n) n) (λ t e. emit_packet-sum n t)
      (some_or (λ x. sum_of x ≤ sum_of n + 4) (emit_segment at n) (find_flow k n) n (λ f e. emit_segment-sum n f)
      (omega arith))

  configured-sum : (k : ℕ) (config : PipeConfig) (n : Net) (p : PipeState) → find_pipe k n ≡ Some p →
      sum_of (put_pipe k (pipe_configure config p) n) ≤ sum_of n
  unfolding sum_of
  configured-sum k config n p e = omega (arith, weigh-configured each_one k config p n e)

  new_pipe-sum : (k : ℕ) (config : PipeConfig) (n : Net) → sum_of (new_pipe k config n) ≤ sum_of n
  unfolding sum_of
  new_pipe-sum k config n = omega (arith, weigh-opened each_one k config n)

  -- as many are dropped as the pipe held
  deleted-sum : (k : ℕ) (n : Net) (p : PipeState) → find_pipe k n ≡ Some p → sum_of (delete_pipe at.now k n p) ≤ sum_of n
  unfolding sum_of
  deleted-sum k n p e =
      let ds : List Drop = map (λ q. record { packet = q; cause = Deleted }) (pipe_packets p) in
      omega (
        arith,
        told-append n.records (map (drop_record at.now) ds),
        count_by-le-length (λ r. not (is_listing r)) (map (drop_record at.now) ds),
        length-map ds (drop_record at.now),
        as-many-fallen ds,
        weigh-deleted each_one k p n e,
        weigh-same each_one (without_pipe k n) (delete_pipe at.now k n p) refl refl,
      )

  -- listings aren't counted
  untold : (r : Record) (rs : List Record) → is_listing r ≡ true → told (r ∷ rs) ≡ told rs
  untold r rs e =
      sum_by-cons (λ x. if not (is_listing x) then 1 else 0) r rs
      ∙ ap (λ b. (if not b then 1 else 0) + told rs) e ∙ omega arith

  rules-untold : (cs : List Counted) → told (map (λ c. RuleLine c.rule c.packets c.bytes) cs) ≡ 0
  rules-untold [] = refl
  rules-untold (c ∷ cs) = untold (RuleLine c.rule c.packets c.bytes) (map (λ x. RuleLine x.rule x.packets x.bytes) cs) refl ∙ rules-untold cs

  instances-untold : (pipe k : ℕ) (is : List Instance) → told (instance_lines pipe k is) ≡ 0
  instances-untold pipe k [] = refl
  instances-untold pipe k (i ∷ is) = untold (instance_line pipe k i) (instance_lines pipe (k + 1) is) refl ∙ instances-untold pipe (k + 1) is

  pipes-untold : (ps : List PipeState) → told (flat_map pipe_lines ps) ≡ 0
  pipes-untold [] = refl
  pipes-untold (p ∷ ps) =
      omega (
        arith,
        told-append (pipe_lines p) (flat_map pipe_lines ps),
        untold (PipeLine p.number p.config) (instance_lines p.number 0 p.instances) refl,
        instances-untold p.number 0 p.instances,
        pipes-untold ps,
      )

  listed-sum : (rs : List Record) (n : Net) → told rs ≡ 0 → sum_of (note_all rs n) ≤ sum_of n
  unfolding sum_of
  listed-sum rs n e =
      omega (arith, told-append n.records rs, e, weigh-same each_one n (note_all rs n) refl refl)

  same : (n m : Net) → m.direct ≡ n.direct → m.pipes ≡ n.pipes → m.records ≡ n.records → sum_of m ≤ sum_of n + 4
  same n m d p r = omega (arith, still n m d p r)

  effect-sum : (j : ℕ) (c : Command) (n : Net) → sum_of (effect_of at j c n) ≤ sum_of n + 4
  effect-sum j (Add r) n = same n (effect_of at j (Add r) n) refl refl refl
  effect-sum j (Delete k) n = same n (effect_of at j (Delete k) n) refl refl refl
  effect-sum j (Config k config) n =
      some_or (λ x. sum_of x ≤ sum_of n + 4) (λ p. put_pipe k (pipe_configure config p) n) (find_pipe k n)
      (new_pipe k config n) (λ p e. omega (arith, configured-sum k config n p e)) (omega (arith, new_pipe-sum k config n))
  effect-sum j (PipeDelete k) n =
      some_or (λ x. sum_of x ≤ sum_of n + 4) (delete_pipe at.now k n) (find_pipe k n) n
      (λ p e. omega (arith, deleted-sum k n p e)) (omega arith)
  effect-sum j PipeShow n = omega (arith, listed-sum (flat_map pipe_lines n.pipes) n (pipes-untold n.pipes))
  effect-sum j Show n = omega (arith, listed-sum (rule_lines n) n (rules-untold n.book.rules))
  effect-sum j (Inject send) n = make-sum (ByCommand j) send n
  effect-sum j (Train k t) n = same n (effect_of at j (Train k t) n) refl refl refl
  effect-sum j (Flow k f) n = same n (effect_of at j (Flow k f) n) refl refl refl
  effect-sum j (Stop k) n =
      some_or (λ x. sum_of x ≤ sum_of n + 4) (stop_flow n) (find_flow k n) n
      (λ f e. same n (stop_flow n f) refl refl refl) (omega arith)
  effect-sum j (OnePass b) n = same n (effect_of at j (OnePass b) n) refl refl refl
  effect-sum j (Trace b) n = same n (effect_of at j (Trace b) n) refl refl refl
  effect-sum j End n = omega arith

  obey-sum : (k : ℕ) (c : Command) (n : Net) → sum_of (obey at k c n) ≤ sum_of n + 5
  obey-sum k c n =
      let m : Net = note (CommandDone at.now k) n in
      some_or (λ x. sum_of x ≤ sum_of n + 5) (λ r. note (CommandRefused at.now k r) n) (refusal_of c n) (effect_of at k c m)
      (λ r e. omega (arith, noted_one (CommandRefused at.now k r) n))
      (omega (arith, effect-sum k c m, noted_one (CommandDone at.now k) n))

taken-sum : (class : Class) (e : Due) (c : Timed) (rest : List Timed) (s : State) →
    sum_of (take_class class e c rest s).net ≤ sum_of s.net + 5
taken-sum NextCommand e c rest s = obey-sum (setting s.spec e.moment) s.taken c.command s.net
taken-sum Exit e c rest s = omega (arith, event-sum (setting s.spec e.moment) Exit e.source.number s.net)
taken-sum Finish e c rest s = omega (arith, event-sum (setting s.spec e.moment) Finish e.source.number s.net)
taken-sum Expiry e c rest s = omega (arith, event-sum (setting s.spec e.moment) Expiry e.source.number s.net)
taken-sum Emission e c rest s = omega (arith, event-sum (setting s.spec e.moment) Emission e.source.number s.net)

counted-sum : (t : State) → sum_of (count_step t).net ≤ sum_of t.net + 1
counted-sum t =
    let u : State = record t { steps = t.steps + 1 } in
    either (λ x. sum_of x.net ≤ sum_of t.net + 1) (is_some t.ending) u (if is_last_step u then spend u else u) (omega arith)
    (either (λ x. sum_of x.net ≤ sum_of t.net + 1) (is_last_step u) (spend u) u (noted_one (StepsSpent u.clock) t.net)
    (omega arith))

step-sum : (s : State) → sum_of (step s).net ≤ sum_of s.net + 6
step-sum s =
    either (λ x. sum_of x.net ≤ sum_of s.net + 6) (is_some s.ending) s (step_with s.left s) (omega arith) (go s.left)
  where
    go : (l : List Timed) → sum_of (step_with l s).net ≤ sum_of s.net + 6
    go [] = omega arith
    go (c ∷ rest) =
        let e : Due = next_event s c in
        omega (arith, counted-sum (take_due e c rest s), taken-sum e.source.class e c rest s)

alone-sum : (spec : Spec) (c : List Timed) (n : ℕ) → sum_of (alone spec c n).net ≤ 6 * n
unfolding sum_of
alone-sum spec c zero = omega (arith, none-weighs, weigh-same each_one initial_net (opening_net spec.traced) refl refl)
alone-sum spec c (suc n) = omega (arith, alone-sum spec c n, step-sum (alone spec c n))

pub records_are_bounded : RecordsAreBounded
unfolding sum_of
records_are_bounded = record {
  in_a_step = λ spec c n.
      let s : State = alone spec c n in
      omega (arith, step-sum s, held_is s.net, held_is (step s).net);
  in_all = λ spec c n. omega (arith, alone-sum spec c n, held_is (alone spec c n).net);
}
