-- What is kept by each change of a net, with the drops and deliveries that it records, holds in every state of an
-- experiment. It may speak of a packet that is between two changes, and of a load that is to be sent.
use Rattle.std.proofs.Common.{◌≡◌, ℕ, zero, suc, ◌+◌, ◌/◌, ◌%◌, ◌<◌, ◌≤◌, List, [], ◌∷◌, ◌++◌, Bool, true, false, refl, sym, ◌∙◌, ap, subst, Option, Some, None, inl, inr}
use Rattle.std.specs.Prelude.{if◌then◌else◌, ◌⊎◌, is_some, nat_lt, ◌==◌, find, map, flat_map}
use Rattle.std.specs.Option.{option_map_or}
use Rattle.std.specs.List.{AllByRecursion}
use Rattle.std.proofs.lemmas.Bool.{ltb-true, ltb-false, eqb-true, eq-eqb}
use Rattle.emu_laws.proofs.Types.{PacketMade, EventContext, Spec, Timed, Class, NextCommand, Exit, Finish, Expiry, Emission, Place, Packet, Load, Plain, Seg, Ack, Verdict, OverTheLink, Dropped, IntoPipe, SendSpec, PipeConfig, Denied, NoPipe, Budget, Command, Add, Delete, Config, PipeDelete, PipeShow, Show, Inject, Train, Flow, Stop, OnePass, Trace, End, Record, CommandDone, CommandRefused, PacketDelivered, PacketDropped, PacketPassed, AckTaken, TimerExpired, StepsSpent, RuleLine, ByCommand, ByReceiver, BySender, ByTrain, Origin}
use Rattle.emu_model.specs.Lists.{replace_first}
use Rattle.emu_model.specs.Rules.{RuleBook, book_with, book_without, Counted, verdict, start_behind, counted_book}
use Rattle.emu_model.specs.Delay.{first_item, leave}
use Rattle.emu_model.specs.Reno.{Sender, ack, with_segment, missing, emitted, emit, expire}
use Rattle.emu_model.specs.Pipes.{Instance, InService, PipeState, pipe_arrive, pipe_finish, pipe_exit, pipe_configure, instance_for}
use Rattle.emu_model.specs.Net.{Net, initial_net, FlowState, TrainState, note, note_all, note_traced, arrive_records, arrivals, note_arrival, drop_packet, to_pipe, to_direct, by_verdict, pass_rules_from, pass_rules, reinject, packet_of, make_record, make, held, data_send, ack_send, find_pipe, put_pipe, put_after, find_flow, put_flow, find_train, put_train, take_segment, take_ack, take_load, deliver, opening_net, load_by}
use Rattle.emu_model.specs.Commands.{rule_lines, instance_lines, pipe_lines, new_pipe, delete_pipe, stop_flow, refusal_of, effect_of, obey}
use Rattle.emu_model.specs.Events.{direct_exit, deliver_some, flying_in, leave_pipe_some, pipe_exits, served_in, note_finish, pipe_finishes, expire_flow, emit_segment, emit_packet, event_of}
use Rattle.emu_model.specs.declared.sources.Due.{Due}
use Rattle.emu_model.specs.Step.{State, setting, take_class, take_due, count_step, spend, is_last_step, next_event, step_with, step}
use Rattle.emu_model.specs.Alone.{alone}
use Rattle.emu_laws.proofs.EachOf.{either, some_or, of_choice, each_joined}
use Rattle.emu_laws.specs.StepPackets.{IsNext, IsOfTrain, IsOfFlow}
use Rattle.emu_laws.proofs.EachChange.{found_or, found-passes}

-- where a step stands: it begins, or a packet has left a line, or is to pass the rules from a place on, or was handed
-- to a pipe, or was delivered at a moment and its load is still to be taken, or one of a load is to be made, or all is
-- done
pub data Phase : Type 0 where
  starting : Phase
  leaving : Packet → Phase
  moving : ℕ → Packet → Phase
  handed : ℕ → Packet → Phase
  came : ℕ → Packet → Phase
  owed : ℕ → Load → SendSpec → Phase
  ended : Phase

-- a packet that left, if there was one
abbrev pub flying : Option Packet → Phase
flying None = ended
flying (Some p) = leaving p

-- where records may be made besides
abbrev pub IsOpen : Phase → Type 0
IsOpen (came now p) = ⊥
IsOpen (owed now l send) = ⊥
IsOpen _ = Unit {0}

-- where flows, trains and what is asked of each packet may change
abbrev pub IsLate : Phase → Type 0
IsLate (owed now l send) = Unit {0}
IsLate ended = Unit {0}
IsLate _ = ⊥

-- a record that says where a packet begins or ends
abbrev pub bounds_packet : Record → Bool
bounds_packet (PacketMade moment packet origin proto src sport dst dport size) = true
bounds_packet (PacketDelivered moment packet load) = true
bounds_packet (PacketDropped moment packet load cause) = true
bounds_packet _ = false

abbrev pub IsSilent : Record → Type 0
IsSilent r = bounds_packet r ≡ false

abbrev pub HasFlow : ℕ → Net → Type 0
HasFlow k n = find_flow k n ≡ None → ⊥

-- the same but for the state of flows, trains, and what is asked of each packet
pub record Alike (n m : Net) : Type 0 where
  pub book : m.book ≡ n.book
  pub direct : m.direct ≡ n.direct
  pub pipes : m.pipes ≡ n.pipes
  pub made : m.made ≡ n.made
  pub records : m.records ≡ n.records
  pub flows : (k : ℕ) → HasFlow k n → HasFlow k m

-- a packet is counted by the rules that it meets
abbrev pub counted : ℕ → Packet → Net → Net
counted start p n = record n { book = counted_book start p n.book }

-- what an `inject`, a train or a flow sends
abbrev pub IsSent : (Command → Type 0) → Load → SendSpec → Net → Type 0
IsSent Allowed Plain send n = Allowed (Inject send) ⊎ IsOfTrain send n
IsSent Allowed (Seg k first) send n = IsOfFlow data_send k send n
IsSent Allowed (Ack k upto) send n = ⊥

-- the changes of a net, P being kept by each. At most b packets are held where one is made, the loss words are those of
-- the seed, and what is commanded is allowed.
pub record Tells (seed b : ℕ) (Allowed : Command → Type 0) (P : Phase → Net → Type 0) : Type 0 where
  pub stood : (n : Net) → P starting n → P ended n
  pub quiet : (o : Phase) (n m : Net) → IsLate o → Alike n m → P o n → P o m
  pub said : (o : Phase) (rs : List Record) (n : Net) → IsOpen o → AllByRecursion IsSilent rs → P o n →
      P o (note_all rs n)
  pub sent : (now : ℕ) (l : Load) (send : SendSpec) (n : Net) → IsSent Allowed l send n → P starting n →
      P (owed now l send) n
  pub answered : (now k first upto : ℕ) (send : SendSpec) (p : Packet) (n : Net) → p.load ≡ Seg k first →
      IsOfFlow ack_send k send n → P (came now p) n → P (owed now (Ack k upto) send) n
  pub made : (now : ℕ) (l : Origin) (send : SendSpec) (n : Net) → held n < b → P (owed now (load_by l) send) n →
      P (moving 0 (packet_of (load_by l) send n.made))
      (note_traced (make_record now l (packet_of (load_by l) send n.made) ∷ []) (record n { made = n.made + 1 }))
  pub refused : (now : ℕ) (l : Origin) (send : SendSpec) (n : Net) → b ≤ held n → P (owed now (load_by l) send) n →
      P ended (drop_packet now Budget (packet_of (load_by l) send n.made)
      (note_traced (make_record now l (packet_of (load_by l) send n.made) ∷ []) (record n { made = n.made + 1 })))
  pub goes_on : (p : Packet) (n : Net) → P (leaving p) n → P (moving (start_behind p.place n.book.rules) p) n
  pub denied : (now start : ℕ) (p : Packet) (n : Net) → verdict start p n.book.rules ≡ Dropped → P (moving start p) n →
      P ended (drop_packet now Denied p (counted start p n))
  pub entered : (now start : ℕ) (p : Packet) (n : Net) → P (moving start p) n → P ended (to_direct now p (counted start p n))
  pub piped : (start k : ℕ) (place : Place) (p : Packet) (n : Net) →
      verdict start p n.book.rules ≡ IntoPipe k place → P (moving start p) n →
      P (handed k (record p { place = place })) (counted start p n)
  pub unpiped : (now k : ℕ) (p : Packet) (n : Net) → find_pipe k n ≡ None → P (handed k p) n →
      P ended (drop_packet now NoPipe p n)
  pub left : (n : Net) → P starting n → P (flying (first_item n.direct.in_flight)) (record n { direct = leave n.direct })
  pub delivered : (now : ℕ) (p : Packet) (n : Net) → P (leaving p) n →
      P (came now p) (note (PacketDelivered now p.number p.load) n)
  pub taken : (now : ℕ) (p : Packet) (n : Net) →
      ((k first : ℕ) → p.load ≡ Seg k first → HasFlow k n → ⊥) → P (came now p) n → P ended n
  pub arrived : (now k : ℕ) (p : Packet) (q : PipeState) (n : Net) → find_pipe k n ≡ Some q → P (handed k p) n →
      P ended (put_after now k (pipe_arrive seed now p q) n)
  pub finished : (now pipe k : ℕ) (p : PipeState) (n : Net) → find_pipe pipe n ≡ Some p → P starting n →
      P ended (put_after now pipe (pipe_finish now k p) n)
  pub pipe_left : (pipe k : ℕ) (p : PipeState) (n : Net) → find_pipe pipe n ≡ Some p → P starting n →
      P (flying (flying_in k p)) (put_pipe pipe (pipe_exit k p) n)
  pub configured : (k : ℕ) (config : PipeConfig) (p : PipeState) (n : Net) → Allowed (Config k config) →
      find_pipe k n ≡ Some p → P starting n → P ended (put_pipe k (pipe_configure config p) n)
  pub opened : (k : ℕ) (config : PipeConfig) (n : Net) → Allowed (Config k config) → P starting n →
      P ended (new_pipe k config n)
  pub ruled : (book : RuleBook) (n : Net) → P starting n → P ended (record n { book = book })
  pub deleted : (now k : ℕ) (p : PipeState) (n : Net) → Allowed (PipeDelete k) → find_pipe k n ≡ Some p →
      P starting n → P ended (delete_pipe now k n p)

-- a flow that is put in place of another is there, and so are the others
flow-put : (f : FlowState) (fs : List FlowState) (k : ℕ) → (find (λ g. g.number == k) fs ≡ None → ⊥) →
    find (λ g. g.number == k) (replace_first (λ g. g.number == f.number) f fs) ≡ None → ⊥
flow-put f [] k h e = h e
flow-put f (x ∷ xs) k h e =
    go (x.number == f.number) (x.number == k) refl refl (λ there. flow-put f xs k there) h e
  where
    found : (b : Bool) (o : Option FlowState) → b ≡ true → (if b then Some f else o) ≡ None → ⊥
    found true o t g = cc g
    found false o t g = cc t

    go : (b c : Bool) → (x.number == f.number) ≡ b → (x.number == k) ≡ c →
        ((find (λ g. g.number == k) xs ≡ None → ⊥) →
        find (λ g. g.number == k) (replace_first (λ g. g.number == f.number) f xs) ≡ None → ⊥) →
        ((if c then Some x else find (λ g. g.number == k) xs) ≡ None → ⊥) →
        find (λ g. g.number == k)
        (if b then f ∷ xs else x ∷ replace_first (λ g. g.number == f.number) f xs) ≡ None → ⊥
    go true true a d later there g =
        found (f.number == k) (find (λ y. y.number == k) xs)
        (eq-eqb f.number k (sym (eqb-true x.number f.number a) ∙ eqb-true x.number k d)) g
    go true false a d later there g = none (f.number == k) there g
      where
        none : (b : Bool) → (find (λ y. y.number == k) xs ≡ None → ⊥) →
            (if b then Some f else find (λ y. y.number == k) xs) ≡ None → ⊥
        none true t u = cc u
        none false t u = t u
    go false true a d later there g =
        some (x.number == k) d g
      where
        some : (b : Bool) → b ≡ true →
            (if b then Some x else find (λ y. y.number == k) (replace_first (λ y. y.number == f.number) f xs)) ≡ None → ⊥
        some true t u = cc u
        some false t u = cc t
    go false false a d later there g = later there (none (x.number == k) d g)
      where
        none : (b : Bool) → b ≡ false →
            (if b then Some x else find (λ y. y.number == k) (replace_first (λ y. y.number == f.number) f xs)) ≡ None →
            find (λ y. y.number == k) (replace_first (λ y. y.number == f.number) f xs) ≡ None
        none true t u = absurd (cc t)
        none false t u = u

-- and so are those before one that is added
flow-more : (f : FlowState) (fs : List FlowState) (k : ℕ) → (find (λ g. g.number == k) fs ≡ None → ⊥) →
    find (λ g. g.number == k) (fs ++ f ∷ []) ≡ None → ⊥
flow-more f [] k h e = h refl
flow-more f (x ∷ xs) k h e = go (x.number == k) (λ there. flow-more f xs k there) h e
  where
    go : (b : Bool) → ((find (λ g. g.number == k) xs ≡ None → ⊥) → find (λ g. g.number == k) (xs ++ f ∷ []) ≡ None → ⊥) →
        ((if b then Some x else find (λ g. g.number == k) xs) ≡ None → ⊥) →
        (if b then Some x else find (λ g. g.number == k) (xs ++ f ∷ [])) ≡ None → ⊥
    go true later there g = cc g
    go false later there g = later there g

rules-silent : (cs : List Counted) → AllByRecursion IsSilent (map (λ c. RuleLine c.rule c.packets c.bytes) cs)
rules-silent [] = tt
rules-silent (c ∷ cs) = (refl, rules-silent cs)

instances-silent : (pipe k : ℕ) (is : List Instance) → AllByRecursion IsSilent (instance_lines pipe k is)
instances-silent pipe k [] = tt
instances-silent pipe k (i ∷ is) = (refl, instances-silent pipe (k + 1) is)

pipes-silent : (ps : List PipeState) → AllByRecursion IsSilent (flat_map pipe_lines ps)
pipes-silent [] = tt
pipes-silent (p ∷ ps) =
    each_joined IsSilent (pipe_lines p) (flat_map pipe_lines ps)
    (refl, instances-silent p.number 0 p.instances) (pipes-silent ps)

if-silent : (b : Bool) (rs : List Record) → AllByRecursion IsSilent rs →
    AllByRecursion IsSilent (if b then rs else [])
if-silent true rs h = h
if-silent false rs h = tt

arrivals-silent : (now : ℕ) (p : Packet) (q : PipeState) → AllByRecursion IsSilent (arrivals now p q)
arrivals-silent now p q =
    some_or (AllByRecursion IsSilent) (arrive_records now p q) (instance_for p q) []
    (λ k e. either (AllByRecursion IsSilent) (nat_lt k _) _ _ (refl, tt) (refl, (refl, tt))) tt

module _ (seed b : ℕ) (Allowed : Command → Type 0) (P : Phase → Net → Type 0) (keeps : Tells seed b Allowed P) where
  -- an event of this seed and budget
  record IsSet (at : EventContext) : Type 0 where
    seed_is : at.seed ≡ seed
    budget_is : at.packet_budget ≡ b

  -- only trains and settings are other
  alike : (o : Phase) (n m : Net) → IsLate o → m.book ≡ n.book → m.direct ≡ n.direct → m.pipes ≡ n.pipes →
      m.made ≡ n.made → m.records ≡ n.records → m.flows ≡ n.flows → P o n → P o m
  alike o n m late k d p i r f h =
      keeps.quiet o n m late (record {
        book = k;
        direct = d;
        pipes = p;
        made = i;
        records = r;
        flows = λ k there. subst (λ fs. find (λ g. g.number == k) fs ≡ None → ⊥) (sym f) there;
      }) h

  -- a flow is put in place of the one of its number
  flow_put : (o : Phase) (f : FlowState) (n : Net) → IsLate o → P o n → P o (put_flow f n)
  flow_put o f n late h =
      keeps.quiet o n (put_flow f n) late (record {
        book = refl;
        direct = refl;
        pipes = refl;
        made = refl;
        records = refl;
        flows = λ k there. flow-put f n.flows k there;
      }) h

  said_one : (o : Phase) (r : Record) (n : Net) → IsOpen o → IsSilent r → P o n → P o (note r n)
  said_one o r n a e h = keeps.said o (r ∷ []) n a (e, tt) h

  to_pipe-walks : (at : EventContext) → IsSet at → (k : ℕ) (p : Packet) (n : Net) → P (handed k p) n →
      P ended (to_pipe at k p n)
  to_pipe-walks at e k p n h =
      let told : List Record = option_map_or (arrivals at.now p) (find_pipe k n) [] in
      let m : Net = note_arrival at.now k p n in
      let here : P (handed k p) m =
      keeps.said (handed k p) (if n.trace then told else []) n tt
      (if-silent n.trace told
      (some_or (AllByRecursion IsSilent) (arrivals at.now p) (find_pipe k n) [] (λ q g. arrivals-silent at.now p q) tt)) h in
      found_or (P ended) (λ q. put_after at.now k (pipe_arrive at.seed at.now p q) m) (find_pipe k m)
      (drop_packet at.now NoPipe p m)
      (λ q g. subst (λ x. P ended (put_after at.now k (pipe_arrive x at.now p q) m)) (sym e.seed_is)
      (keeps.arrived at.now k p q m g here)) (λ none. keeps.unpiped at.now k p m none here)

  by_verdict-walks : (at : EventContext) → IsSet at → (start : ℕ) (v : Verdict) (p : Packet) (n : Net) →
      verdict start p n.book.rules ≡ v → P (moving start p) n → P ended (by_verdict at v p (counted start p n))
  by_verdict-walks at e start OverTheLink p n is h = keeps.entered at.now start p n h
  by_verdict-walks at e start Dropped p n is h = keeps.denied at.now start p n is h
  by_verdict-walks at e start (IntoPipe k place) p n is h =
      to_pipe-walks at e k (record p { place = place }) (counted start p n) (keeps.piped start k place p n is h)

  pass_rules_from-walks : (at : EventContext) → IsSet at → (start : ℕ) (p : Packet) (n : Net) → P (moving start p) n →
      P ended (pass_rules_from at start p n)
  pass_rules_from-walks at e start p n h = by_verdict-walks at e start (verdict start p n.book.rules) p n refl h

  make-walks : (at : EventContext) → IsSet at → (l : Origin) (send : SendSpec) (n : Net) →
      P (owed at.now (load_by l) send) n →
      P ended (make at l send n)
  make-walks at e l send n h =
      let p : Packet = packet_of (load_by l) send n.made in
      let m : Net = note_traced (make_record at.now l p ∷ []) (record n { made = n.made + 1 }) in
      of_choice (P ended) (nat_lt (held n) at.packet_budget) (pass_rules at p m) (drop_packet at.now Budget p m)
      (λ few. pass_rules_from-walks at e 0 p m
      (keeps.made at.now l send n (subst (λ x. held n < x) e.budget_is (ltb-true (held n) at.packet_budget few)) h))
      (λ many. keeps.refused at.now l send n
      (subst (λ x. x ≤ held n) e.budget_is (ltb-false (held n) at.packet_budget many)) h)

  take_segment-walks : (at : EventContext) → IsSet at → (k first : ℕ) (p : Packet) (n : Net) (f : FlowState) →
      p.load ≡ Seg k first → find_flow k n ≡ Some f → P (came at.now p) n → P ended (take_segment at first n f)
  take_segment-walks at e k first p n f is there h =
      let set : List ℕ = with_segment first f.came in
      let g : FlowState = record f { came = set } in
      let upto : ℕ = missing f.flow.smss set in
      let number : f.number ≡ k = eqb-true f.number k (found-passes (λ x. x.number == k) f n.flows there) in
      make-walks at e (ByReceiver f.number upto) (ack_send f.flow) (put_flow g n)
      (flow_put (owed at.now (Ack f.number upto) (ack_send f.flow)) g n tt
      (subst (λ j. P (owed at.now (Ack j upto) (ack_send f.flow)) n) (sym number)
      (keeps.answered at.now k first upto (ack_send f.flow) p n is (record { flow = f; there = there; sends = refl }) h)))

  take_ack-walks : (now upto : ℕ) (n : Net) (f : FlowState) → P ended n → P ended (take_ack now upto n f)
  take_ack-walks now upto n f h =
      let t : Sender = ack f.flow now upto f.sender in
      let m : Net = put_flow (record f { sender = t }) n in
      either (P ended) f.stopped n (note (AckTaken now f.number t.cwnd t.ssthresh) m) h
      (said_one ended (AckTaken now f.number t.cwnd t.ssthresh) m tt refl
      (flow_put ended (record f { sender = t }) n tt h))

  take_load-walks : (at : EventContext) → IsSet at → (l : Load) (p : Packet) (n : Net) → p.load ≡ l →
      P (came at.now p) n → P ended (take_load at l n)
  take_load-walks at e Plain p n is h = keeps.taken at.now p n (λ k first g. absurd (plain (sym is ∙ g))) h
    where
      plain : {k first : ℕ} → Plain ≡ Seg k first → ⊥
      plain g = cc g
  take_load-walks at e (Seg k first) p n is h =
      found_or (P ended) (take_segment at first n) (find_flow k n) n
      (λ f there. take_segment-walks at e k first p n f is there h)
      (λ none. keeps.taken at.now p n (λ j u g there. there (subst (λ x. find_flow x n ≡ None) (number (sym is ∙ g)) none)) h)
    where
      number : {j u : ℕ} → Seg k first ≡ Seg j u → k ≡ j
      number g = cc g
  take_load-walks at e (Ack k upto) p n is h =
      let here : P ended n = keeps.taken at.now p n (λ j first g. absurd (other (sym is ∙ g))) h in
      some_or (P ended) (take_ack at.now upto n) (find_flow k n) n
      (λ f there. take_ack-walks at.now upto n f here) here
    where
      other : {j first : ℕ} → Ack k upto ≡ Seg j first → ⊥
      other g = cc g

  deliver-walks : (at : EventContext) → IsSet at → (p : Packet) (n : Net) → P (leaving p) n →
      P ended (deliver at p n)
  deliver-walks at e p n h =
      take_load-walks at e p.load p (note (PacketDelivered at.now p.number p.load) n) refl
      (keeps.delivered at.now p n h)

  direct_exit-walks : (at : EventContext) → IsSet at → (n : Net) → P starting n → P ended (direct_exit at n)
  direct_exit-walks at e n h = go (first_item n.direct.in_flight) (keeps.left n h)
    where
      go : (o : Option Packet) → P (flying o) (record n { direct = leave n.direct }) →
          P ended (deliver_some at o (record n { direct = leave n.direct }))
      go None q = q
      go (Some p) q = deliver-walks at e p (record n { direct = leave n.direct }) q

  pipe_exits-walks : (at : EventContext) → IsSet at → (pipe k : ℕ) (n : Net) (p : PipeState) →
      find_pipe pipe n ≡ Some p → P starting n → P ended (pipe_exits at pipe k n p)
  pipe_exits-walks at b' pipe k n p e h = go (flying_in k p) (keeps.pipe_left pipe k p n e h)
    where
      go : (o : Option Packet) → P (flying o) (put_pipe pipe (pipe_exit k p) n) →
          P ended (leave_pipe_some at pipe k o (put_pipe pipe (pipe_exit k p) n))
      go None q = q
      go (Some x) q =
          let there : Net = put_pipe pipe (pipe_exit k p) n in
          let told : Net = note (PacketPassed at.now x.number pipe k) there in
          either (P ended) n.one_pass (deliver at x there) (reinject at x told) (deliver-walks at b' x there q)
          (pass_rules_from-walks at b' (start_behind x.place told.book.rules) x told
          (said_one (moving (start_behind x.place there.book.rules) x) (PacketPassed at.now x.number pipe k) there tt refl (keeps.goes_on x there q)))

  note_finish-walks : (now pipe k : ℕ) (o : Option (InService Packet)) (n : Net) → P starting n →
      P starting (note_finish now pipe k o n)
  note_finish-walks now pipe k None n h = h
  note_finish-walks now pipe k (Some i) n h = said_one starting _ n tt refl h

  same-pipes : (now pipe k : ℕ) (o : Option (InService Packet)) (n : Net) → (note_finish now pipe k o n).pipes ≡ n.pipes
  same-pipes now pipe k None n = refl
  same-pipes now pipe k (Some i) n = refl

  pipe_finishes-walks : (at : EventContext) (pipe k : ℕ) (n : Net) (p : PipeState) → find_pipe pipe n ≡ Some p →
      P starting n → P ended (pipe_finishes at pipe k n p)
  pipe_finishes-walks at pipe k n p e h =
      let m : Net = note_finish at.now pipe k (served_in k p) n in
      keeps.finished at.now pipe k p m
      (ap (find (λ q. q.number == pipe)) (same-pipes at.now pipe k (served_in k p) n) ∙ e)
      (note_finish-walks at.now pipe k (served_in k p) n h)

  expire_flow-walks : (at : EventContext) (n : Net) (f : FlowState) → P starting n → P ended (expire_flow at n f)
  expire_flow-walks at n f h =
      let t : Sender = expire f.flow at.now f.sender in
      let g : FlowState = record f { sender = t } in
      said_one ended (TimerExpired at.now f.number t.cwnd t.ssthresh) (put_flow g n) tt refl
      (flow_put ended g n tt (keeps.stood n h))

  emit_packet-walks : (at : EventContext) → IsSet at → (k : ℕ) (n : Net) (t : TrainState) → find_train k n ≡ Some t →
      P starting n → P ended (emit_packet at n t)
  emit_packet-walks at e k n t there h =
      let m : Net = put_train (record t { sent = t.sent + 1 }) n in
      make-walks at e (ByTrain t.number) t.train.packet m
      (alike (owed at.now Plain t.train.packet) n m tt refl refl refl refl refl refl
      (keeps.sent at.now Plain t.train.packet n
      (inr (record { number = k; train = t; there = there; sends = refl })) h))

  emit_segment-walks : (at : EventContext) → IsSet at → (k : ℕ) (n : Net) (f : FlowState) → find_flow k n ≡ Some f →
      P starting n → P ended (emit_segment at n f)
  emit_segment-walks at e k n f there h =
      let g : FlowState = record f { sender = emit f.flow at.now f.sender } in
      let l : Load = Seg f.number (emitted f.sender) in
      let number : f.number ≡ k = eqb-true f.number k (found-passes (λ x. x.number == k) f n.flows there) in
      make-walks at e (BySender f.number (emitted f.sender)) (data_send f.flow) (put_flow g n)
      (flow_put (owed at.now l (data_send f.flow)) g n tt
      (keeps.sent at.now l (data_send f.flow) n
      (record { flow = f; there = ap (λ j. find_flow j n) number ∙ there; sends = refl }) h))

  event-walks : (at : EventContext) → IsSet at → (class : Class) (k : ℕ) (n : Net) → P starting n →
      P ended (event_of at class k n)
  event-walks at b' NextCommand k n h = keeps.stood n h
  event-walks at b' Exit zero n h = direct_exit-walks at b' n h
  event-walks at b' Exit (suc k) n h =
      some_or (P ended) (pipe_exits at (suc k / 256) (suc k % 256) n) (find_pipe (suc k / 256) n) n
      (λ p e. pipe_exits-walks at b' (suc k / 256) (suc k % 256) n p e h) (keeps.stood n h)
  event-walks at b' Finish k n h =
      some_or (P ended) (pipe_finishes at (k / 256) (k % 256) n) (find_pipe (k / 256) n) n
      (λ p e. pipe_finishes-walks at (k / 256) (k % 256) n p e h) (keeps.stood n h)
  event-walks at b' Expiry k n h =
      some_or (P ended) (expire_flow at n) (find_flow k n) n (λ f e. expire_flow-walks at n f h) (keeps.stood n h)
  event-walks at b' Emission k n h =
      some_or (P ended) (emit_packet at n) (find_train k n) (option_map_or (emit_segment at n) (find_flow k n) n)
      (λ t e. emit_packet-walks at b' k n t e h)
      (some_or (P ended) (emit_segment at n) (find_flow k n) n (λ f e. emit_segment-walks at b' k n f e h)
      (keeps.stood n h))

  -- what touches no packet
  done : (n m : Net) → m.book ≡ n.book → m.direct ≡ n.direct → m.pipes ≡ n.pipes → m.made ≡ n.made →
      m.records ≡ n.records → m.flows ≡ n.flows →
      P starting n → P ended m
  done n m k d p i r f h = alike ended n m tt k d p i r f (keeps.stood n h)

  effect-walks : (at : EventContext) → IsSet at → (i : ℕ) (c : Command) (n : Net) → Allowed c → P starting n →
      P ended (effect_of at i c n)
  effect-walks at b' i (Add r) n ok h = keeps.ruled (book_with r n.book) n h
  effect-walks at b' i (Delete k) n ok h = keeps.ruled (book_without k n.book) n h
  effect-walks at b' i (Config k config) n ok h =
      some_or (P ended) (λ p. put_pipe k (pipe_configure config p) n) (find_pipe k n) (new_pipe k config n)
      (λ p g. keeps.configured k config p n ok g h) (keeps.opened k config n ok h)
  effect-walks at b' i (PipeDelete k) n ok h =
      some_or (P ended) (delete_pipe at.now k n) (find_pipe k n) n (λ p g. keeps.deleted at.now k p n ok g h)
      (keeps.stood n h)
  effect-walks at b' i PipeShow n ok h =
      keeps.said ended (flat_map pipe_lines n.pipes) n tt (pipes-silent n.pipes) (keeps.stood n h)
  effect-walks at b' i Show n ok h =
      keeps.said ended (rule_lines n) n tt (rules-silent n.book.rules) (keeps.stood n h)
  effect-walks at b' i (Inject send) n ok h = make-walks at b' (ByCommand i) send n (keeps.sent at.now Plain send n (inl ok) h)
  effect-walks at b' i (Train k t) n ok h = done n (effect_of at i (Train k t) n) refl refl refl refl refl refl h
  effect-walks at b' i (Flow k f) n ok h =
      keeps.quiet ended n (effect_of at i (Flow k f) n) tt (record {
        book = refl;
        direct = refl;
        pipes = refl;
        made = refl;
        records = refl;
        flows = λ j there. flow-more _ n.flows j there;
      }) (keeps.stood n h)
  effect-walks at b' i (Stop k) n ok h =
      some_or (P ended) (stop_flow n) (find_flow k n) n
      (λ f g. flow_put ended (record f { stopped = true }) n tt (keeps.stood n h)) (keeps.stood n h)
  effect-walks at b' i (OnePass c) n ok h = done n (effect_of at i (OnePass c) n) refl refl refl refl refl refl h
  effect-walks at b' i (Trace c) n ok h = done n (effect_of at i (Trace c) n) refl refl refl refl refl refl h
  effect-walks at b' i End n ok h = keeps.stood n h

  obey-walks : (at : EventContext) → IsSet at → (k : ℕ) (c : Command) (n : Net) → Allowed c → P starting n →
      P ended (obey at k c n)
  obey-walks at b' k c n ok h =
      let m : Net = note (CommandDone at.now k) n in
      some_or (P ended) (λ r. note (CommandRefused at.now k r) n) (refusal_of c n) (effect_of at k c m)
      (λ r e. said_one ended (CommandRefused at.now k r) n tt refl (keeps.stood n h))
      (effect-walks at b' k c m ok (said_one starting (CommandDone at.now k) n tt refl h))

  counted-ends : (t : State) → P ended t.net → P ended (count_step t).net
  counted-ends t h =
      let u : State = record t { steps = t.steps + 1 } in
      either (λ s. P ended s.net) (is_some t.ending) u (if is_last_step u then spend u else u) h
      (either (λ s. P ended s.net) (is_last_step u) (spend u) u
      (said_one ended (StepsSpent u.clock) t.net tt refl h) h)

  taken-ends : (class : Class) (e : Due) (c : Timed) (rest : List Timed) (s : State) → IsSet (setting s.spec e.moment) →
      P starting s.net → Allowed c.command → P ended (take_class class e c rest s).net
  taken-ends NextCommand e c rest s b' h ok = obey-walks (setting s.spec e.moment) b' s.taken c.command s.net ok h
  taken-ends Exit e c rest s b' h ok = event-walks (setting s.spec e.moment) b' Exit e.source.number s.net h
  taken-ends Finish e c rest s b' h ok = event-walks (setting s.spec e.moment) b' Finish e.source.number s.net h
  taken-ends Expiry e c rest s b' h ok = event-walks (setting s.spec e.moment) b' Expiry e.source.number s.net h
  taken-ends Emission e c rest s b' h ok = event-walks (setting s.spec e.moment) b' Emission e.source.number s.net h

  -- what holds as a step begins, holds as it ends, if its command is allowed
  pub step-ends : (s : State) → s.spec.seed ≡ seed → s.spec.budget.packets ≡ b →
      ((c : Command) → IsNext c s → Allowed c) → P starting s.net → P ended (step s).net
  step-ends s seed_is budget_is ok h =
      either (λ t. P ended t.net) (is_some s.ending) s (step_with s.left s) (keeps.stood s.net h) (go s.left refl)
    where
      go : (l : List Timed) → s.left ≡ l → P ended (step_with l s).net
      go [] is = keeps.stood s.net h
      go (c ∷ rest) is =
          let e : Due = next_event s c in
          counted-ends (take_due e c rest s) (taken-ends e.source.class e c rest s
          (record { seed_is = seed_is; budget_is = budget_is }) h
          (ok c.command (record { moment = c.moment; later = rest; is = is })))

-- the commands that are left are some of those that were given
record Stays (Allowed : Command → Type 0) (spec : Spec) (s : State) : Type 0 where
  spec_is : s.spec ≡ spec
  left : AllByRecursion (λ t. Allowed t.command) s.left

counted-stays : (Allowed : Command → Type 0) (spec : Spec) (t : State) → Stays Allowed spec t →
    Stays Allowed spec (count_step t)
counted-stays Allowed spec t h =
    let u : State = record t { steps = t.steps + 1 } in
    let same : Stays Allowed spec u = record { spec_is = h.spec_is; left = h.left } in
    either (Stays Allowed spec) (is_some t.ending) u (if is_last_step u then spend u else u) same
    (either (Stays Allowed spec) (is_last_step u) (spend u) u (record { spec_is = h.spec_is; left = h.left }) same)

taken-stays : (Allowed : Command → Type 0) (spec : Spec) (class : Class) (e : Due) (c : Timed) (rest : List Timed) (s : State) →
    Stays Allowed spec s → AllByRecursion (λ t. Allowed t.command) rest → Stays Allowed spec (take_class class e c rest s)
taken-stays Allowed spec NextCommand e c rest s h later = record { spec_is = h.spec_is; left = later }
taken-stays Allowed spec Exit e c rest s h later = record { spec_is = h.spec_is; left = h.left }
taken-stays Allowed spec Finish e c rest s h later = record { spec_is = h.spec_is; left = h.left }
taken-stays Allowed spec Expiry e c rest s h later = record { spec_is = h.spec_is; left = h.left }
taken-stays Allowed spec Emission e c rest s h later = record { spec_is = h.spec_is; left = h.left }

step-stays : (Allowed : Command → Type 0) (spec : Spec) (s : State) → Stays Allowed spec s → Stays Allowed spec (step s)
step-stays Allowed spec s h =
    either (Stays Allowed spec) (is_some s.ending) s (step_with s.left s) h (go s.left h.left)
  where
    go : (l : List Timed) → AllByRecursion (λ t. Allowed t.command) l → Stays Allowed spec (step_with l s)
    go [] ok = h
    go (c ∷ rest) ok =
        let e : Due = next_event s c in
        counted-stays Allowed spec (take_due e c rest s) (taken-stays Allowed spec e.source.class e c rest s h ok.1)

alone-stays : (Allowed : Command → Type 0) (spec : Spec) (c : List Timed) → AllByRecursion (λ t. Allowed t.command) c →
    (n : ℕ) → Stays Allowed spec (alone spec c n)
alone-stays Allowed spec c ok zero = record { spec_is = refl; left = ok }
alone-stays Allowed spec c ok (suc n) = step-stays Allowed spec (alone spec c n) (alone-stays Allowed spec c ok n)

-- what holds as one step begins, holds as it ends
pub one_step : (s : State) (P : Phase → Net → Type 0) → Tells s.spec.seed s.spec.budget.packets (λ c. IsNext c s) P →
    P starting s.net → P ended (step s).net
one_step s P keeps h =
    step-ends s.spec.seed s.spec.budget.packets (λ c. IsNext c s) P keeps s refl refl (λ c next. next) h

-- the next command is allowed, as all are
next-allowed : (Allowed : Command → Type 0) (s : State) → AllByRecursion (λ t. Allowed t.command) s.left → (c : Command) →
    IsNext c s → Allowed c
next-allowed Allowed s ok c next = (subst (AllByRecursion (λ t. Allowed t.command)) next.is ok).0

-- what holds at the start holds after any number of steps, where a step ends as the next one begins
pub steps_tell : (Allowed : Command → Type 0) (P : Phase → Net → Type 0) (spec : Spec) (c : List Timed) →
    Tells spec.seed spec.budget.packets Allowed P → ((n : Net) → P ended n → P starting n) →
    AllByRecursion (λ t. Allowed t.command) c → P starting initial_net → (n : ℕ) → P ended (alone spec c n).net
steps_tell Allowed P spec c keeps again ok h zero =
    keeps.quiet ended initial_net (opening_net spec.traced) tt (record {
      book = refl;
      direct = refl;
      pipes = refl;
      made = refl;
      records = refl;
      flows = λ k there. there;
    }) (keeps.stood initial_net h)
steps_tell Allowed P spec c keeps again ok h (suc n) =
    let s : State = alone spec c n in
    let stays : Stays Allowed spec s = alone-stays Allowed spec c ok n in
    step-ends spec.seed spec.budget.packets Allowed P keeps s (ap (λ x. x.seed) stays.spec_is)
    (ap (λ x. x.budget.packets) stays.spec_is) (next-allowed Allowed s stays.left)
    (again s.net (steps_tell Allowed P spec c keeps again ok h n))
