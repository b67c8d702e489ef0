-- Each drop of a step has its cause in the state in which the step begins: until a packet comes to a pipe, all that the
-- step has changed in pipes is what is on its way.
use Rattle.std.proofs.Common.{Bool, true, inl, inr, ◌≡◌, ℕ, zero, suc, ◌+◌, ◌≤◌, List, [], ◌∷◌, ◌++◌, length, false, refl, sym, ◌∙◌, ap, subst, Option, Some, None, add-one, append_assoc, arith}
use Rattle.std.specs.Prelude.{flat_map, option_and_then, option_map, option_to_list, if◌then◌else◌, ◌==◌, nat_lt, is_some, find, map, slice_get}
use Rattle.std.specs.List.{AllByRecursion}
use Rattle.std.proofs.lemmas.List.{length-append}
use Rattle.emu_laws.proofs.Types.{SendSpec, Plain, Seg, PipeDelete, Dropped, IntoPipe, Denied, NoPipe, NoInstance, QueueLimit, Slots, KBytes, Packet, Load, Ack, Record, PacketDelivered, PacketDropped, Discipline, PipeConfig, Lost, Full, Codel, Deleted, Budget, Origin}
use Rattle.emu_model.specs.declared.pipes.Discipline.TheVariants.{TailDrop, ControlledDelay}
use Rattle.emu_model.specs.FlowIds.{FlowId, flow_id}
use Rattle.emu_model.specs.Delay.{InFlight, first_item, leave}
use Rattle.emu_model.specs.DropTail.{Queued}
use Rattle.emu_model.specs.ComponentLaws.{IsWithin}
use Rattle.emu_model.specs.Codel.{Times, CodelState, codel_dequeue}
use Rattle.emu_model.specs.Pipes.{held_in, Instance, PipeState, After, Drop, no_drop, instance_finish, put_instance, dequeue, codel_drops, serve_next, enqueue, drawn_one, initial_instance, with_instance, draw, instance_for, pipe_packets, pipe_arrive, pipe_finish, pipe_exit, pipe_configure}
use Rattle.emu_model.specs.Net.{drop_packet, Net, held, is_drop_of, drops_of, note, note_all, note_drops, to_direct, put_pipe, put_after, find_pipe, note_traced, make_record, drop_record, packet_of, load_by}
use Rattle.emu_model.specs.Commands.{delete_pipe, new_pipe, without_pipe}
use Rattle.emu_model.specs.Events.{flying_in}
use Rattle.emu_model.specs.Alone.{alone}
use Rattle.emu_laws.proofs.EachOf.{either, some_or, each_joined, each_mapped, each_weaker, each_found, each_got, each_changed, each_replaced}
use Rattle.emu_laws.proofs.FlowsKept.{Anything}
use Rattle.emu_laws.proofs.QueuesKept.{never_idle, bytes-append, bytes-one}
use Rattle.emu_laws.proofs.PipeDrops.{instance_arrive-drops, pipe_arrive-drops}
use Rattle.emu_laws.proofs.LossCauses.{at_limit, below_rate}
use Rattle.emu_model.proofs.CallerLemmas.{lone_dequeue}
use Rattle.emu_laws.proofs.CodelCauses.{codel_drops_by_control}
use Rattle.emu_laws.proofs.EachRecord.{Phase, starting, leaving, moving, handed, counted, came, owed, ended, flying, IsOpen, IsLate, IsSilent, IsSent, Alike, Tells}
use Rattle.emu_laws.proofs.StepRecords.{Follows, noted, unnoted, whole_step}
use Rattle.emu_laws.specs.Losses.{HasRoom, QueuesHaveRoom, RoomDropsNothing}
use Rattle.emu_laws.proofs.DropCauses.{within-alike}
use Rattle.emu_laws.proofs.Counts.{one_if, count-cons, count-append}
use Rattle.emu_laws.proofs.HeldBudget.{Within, within-keeps}
use Rattle.emu_laws.proofs.HeldWeights.{held_is}
use Rattle.emu_laws.proofs.EachChange.{Keeps}
use Rattle.emu_laws.proofs.PipesAtRest.{at_rest, Was, was, none-was, none-for-was, over-was, below-was, exit-rested, put-rested}
use Rattle.emu_model.specs.Rules.{verdict, start_behind}
use Rattle.emu_model.specs.TraceLaws.{held_packets}
use Rattle.emu_model.specs.Step.{State, step}
use Rattle.emu_laws.specs.NeverIdle.{IsWorkConserving}
use Rattle.emu_laws.specs.LossCauses.{waiting_in, IsOverLimit, IsBelowLossRate}
use Rattle.emu_laws.specs.CodelCauses.{EachMayBe}
use Rattle.emu_laws.specs.StepPackets.{IsOfStep, IsNext, MaySend, IsIn, IsMade, EntersRules}
use Rattle.emu_laws.specs.RunCauses.{Comes, IsSentTo, HasCause, RecordsCauses, DropsHaveCauses}

silent-has : (s : State) (r : Record) → IsSilent r → HasCause s r
silent-has s (PacketDropped now number load cause) e = absurd (cc e)
silent-has s _ e = tt

-- each instance of a pipe has something in service while something waits
abbrev IsBusy : PipeState → Type 0
IsBusy p = AllByRecursion IsWorkConserving p.instances

-- a packet that waits alone isn't dropped
one-spared : (d : Discipline) (now : ℕ) (c : CodelState) (w : Queued Packet) → (dequeue d now c (w ∷ [])).dropped ≡ []
one-spared d now c w = ap (λ q. q.dropped) (lone_dequeue d now c w)

no-service : {A : Type 0} (o : Option A) → is_some o ≡ false → o ≡ None
no-service None e = refl
no-service (Some a) e = absurd (cc e)

-- so where a packet comes, CoDel drops nothing
spared : (config : PipeConfig) (now : ℕ) (packet : Packet) (i : Instance) → IsWorkConserving i →
    is_some i.service ≡ false → (serve_next config now (enqueue now packet (drawn_one i))).dropped ≡ []
spared config now packet i busy idle =
    let w : Queued Packet = record { item = packet; size = packet.size; stamp = now } in
    ap (λ ws. codel_drops (dequeue config.discipline now i.control (ws ++ w ∷ [])).dropped)
    (busy (no-service i.service idle))
    ∙ ap codel_drops (one-spared config.discipline now i.control w)

busy-with : (id : FlowId) (k : ℕ) (p : PipeState) → IsBusy p → IsBusy (with_instance id k p)
busy-with id k p h =
    either IsBusy (nat_lt k (length p.instances)) p (record p { instances = p.instances ++ initial_instance id ∷ [] }) h
    (each_joined IsWorkConserving p.instances (initial_instance id ∷ []) h ((λ e. refl), tt))

-- one of a list is one of a list that has more before it, or behind
in-front : (p : Packet) (xs ys : List Packet) → IsIn p xs → IsIn p (xs ++ ys)
in-front p xs ys h = record {
  before = h.before;
  after = h.after ++ ys;
  is = ap (λ zs. zs ++ ys) h.is ∙ append_assoc h.before (p ∷ h.after) ys;
}

in-back : (p : Packet) (xs ys : List Packet) → IsIn p ys → IsIn p (xs ++ ys)
in-back p xs ys h = record {
  before = xs ++ h.before;
  after = h.after;
  is = ap (λ zs. xs ++ zs) h.is ∙ sym (append_assoc xs h.before (p ∷ h.after));
}

first-in : (p : Packet) (xs : List (InFlight Packet)) → first_item xs ≡ Some p → IsIn p (map (λ x. x.item) xs)
first-in p [] e = absurd (cc e)
first-in p (x ∷ xs) e =
    let same : x.item ≡ p = cc e in
    record { before = []; after = map (λ y. y.item) xs; is = ap (λ q. q ∷ map (λ y. y.item) xs) same }

flying-is-in : (k : ℕ) (p : Packet) (is : List Instance) →
    option_and_then (λ i. first_item i.line.in_flight) (slice_get is k) ≡ Some p → IsIn p (flat_map held_in is)
flying-is-in k p [] e = absurd (cc e)
flying-is-in zero p (i ∷ is) e =
    in-front p (held_in i) (flat_map held_in is)
    (in-front p (map (λ x. x.item) i.line.in_flight ++ option_to_list (option_map (λ s. s.item) i.service))
    (map (λ w. w.item) i.waiting)
    (in-front p (map (λ x. x.item) i.line.in_flight) (option_to_list (option_map (λ s. s.item) i.service))
    (first-in p i.line.in_flight e)))
flying-is-in (suc k) p (i ∷ is) e = in-back p (held_in i) (flat_map held_in is) (flying-is-in k p is e)

pipe-is-in : (pipe : ℕ) (p : Packet) (q : PipeState) (ps : List PipeState) →
    find (λ x. x.number == pipe) ps ≡ Some q → IsIn p (pipe_packets q) → IsIn p (flat_map pipe_packets ps)
pipe-is-in pipe p q [] e h = absurd (cc e)
pipe-is-in pipe p q (x ∷ xs) e h = go (x.number == pipe) e (λ g. pipe-is-in pipe p q xs g h)
  where
    go : (b : Bool) → (if b then Some x else find (λ y. y.number == pipe) xs) ≡ Some q →
        (find (λ y. y.number == pipe) xs ≡ Some q → IsIn p (flat_map pipe_packets xs)) →
        IsIn p (flat_map pipe_packets (x ∷ xs))
    go true g later =
        in-front p (pipe_packets x) (flat_map pipe_packets xs) (subst (λ y. IsIn p (pipe_packets y)) (sym (same g)) h)
      where
        same : Some x ≡ Some q → x ≡ q
        same u = cc u
    go false g later = in-back p (pipe_packets x) (flat_map pipe_packets xs) (later g)

-- in a step that began with m: nothing has moved yet
record Unmoved (m n : Net) : Type 0 where
  book : n.book ≡ m.book
  direct : n.direct ≡ m.direct
  pipes : n.pipes ≡ m.pipes
  flows : n.flows ≡ m.flows
  trains : n.trains ≡ m.trains
  made : n.made ≡ m.made

-- pipes are as they were but for what is on its way, and no more is held
record Rested (m n : Net) : Type 0 where
  book : n.book ≡ m.book
  same : map at_rest n.pipes ≡ map at_rest m.pipes
  busy : AllByRecursion IsBusy n.pipes
  within : Within (held m) None n

-- a packet has left a line, or was delivered
record Left (m : Net) (n : Net) : Type 0 where
  rested : Rested m n
  flows : n.flows ≡ m.flows
  made : n.made ≡ m.made

-- a packet that was held
record Leaves (m : Net) (p : Packet) (n : Net) : Type 0 where
  left : Left m n
  was : IsIn p (held_packets m)

-- one is to be made
record Owes (s : State) (l : Load) (send : SendSpec) (n : Net) : Type 0 where
  rested : Rested s.net n
  made : n.made ≡ s.net.made
  sent : MaySend s l send

-- one is to pass the rules
record Passes (s : State) (start : ℕ) (p : Packet) (n : Net) : Type 0 where
  rested : Rested s.net n
  enters : EntersRules s start p

-- a rule sent it into a pipe
record Handed (s : State) (pipe : ℕ) (p : Packet) (n : Net) : Type 0 where
  same : map at_rest n.pipes ≡ map at_rest s.net.pipes
  busy : AllByRecursion IsBusy n.pipes
  sent : IsSentTo pipe p s

abbrev Place : State → Phase → Net → Type 0
Place s starting n = Unmoved s.net n
Place s (leaving p) n = Leaves s.net p n
Place s (moving start p) n = Passes s start p n
Place s (handed k p) n = Handed s k p n
Place s (came now p) n = Left s.net n
Place s (owed now l send) n = Owes s l send n
Place s ended n = Unit {0}

rested-alike : (m n k : Net) → k.book ≡ n.book → k.direct ≡ n.direct → k.pipes ≡ n.pipes → Rested m n → Rested m k
rested-alike m n k b d e h = record {
  book = b ∙ h.book;
  same = ap (map at_rest) e ∙ h.same;
  busy = subst (AllByRecursion IsBusy) (sym e) h.busy;
  within = within-alike (held m) None n k d e h.within;
}

late-place : (s : State) (o : Phase) (n k : Net) → IsLate o → Alike n k → Place s o n → Place s o k
late-place s starting n k late a h = absurd late
late-place s (leaving p) n k late a h = absurd late
late-place s (moving start p) n k late a h = absurd late
late-place s (handed j p) n k late a h = absurd late
late-place s (came now p) n k late a h = absurd late
late-place s (owed now l send) n k late a h = record {
  rested = rested-alike s.net n k a.book a.direct a.pipes h.rested;
  made = a.made ∙ h.made;
  sent = h.sent;
}
late-place s ended n k late a h = tt

said-place : (s : State) (o : Phase) (rs : List Record) (n : Net) → IsOpen o → Place s o n → Place s o (note_all rs n)
said-place s starting rs n may h = record {
  book = h.book;
  direct = h.direct;
  pipes = h.pipes;
  flows = h.flows;
  trains = h.trains;
  made = h.made;
}
said-place s (leaving p) rs n may h = record {
  left = record {
    rested = rested-alike s.net n (note_all rs n) refl refl refl h.left.rested;
    flows = h.left.flows;
    made = h.left.made;
  };
  was = h.was;
}
said-place s (moving start p) rs n may h =
    record { rested = rested-alike s.net n (note_all rs n) refl refl refl h.rested; enters = h.enters }
said-place s (handed j p) rs n may h = record { same = h.same; busy = h.busy; sent = h.sent }
said-place s (came now p) rs n may h = absurd may
said-place s (owed now l send) rs n may h = absurd may
said-place s ended rs n may h = tt

flying-place : (s : State) (o : Option Packet) (n : Net) → Left s.net n →
    ((p : Packet) → o ≡ Some p → IsIn p (held_packets s.net)) → Place s (flying o) n
flying-place s None n h was = tt
flying-place s (Some p) n h was = record { left = h; was = was p refl }

-- what is sent, once the net is known to be as it was
sent-as : (s : State) (l : Load) (send : SendSpec) (n : Net) → Unmoved s.net n → IsSent (λ c. IsNext c s) l send n →
    MaySend s l send
sent-as s Plain send n h (inl next) = inl next
sent-as s Plain send n h (inr t) = inr (record {
  number = t.number;
  train = t.train;
  there = subst (λ ts. find (λ x. x.number == t.number) ts ≡ Some t.train) h.trains t.there;
  sends = t.sends;
})
sent-as s (Seg k first) send n h f = record {
  flow = f.flow;
  there = subst (λ fs. find (λ x. x.number == k) fs ≡ Some f.flow) h.flows f.there;
  sends = f.sends;
}
sent-as s (Ack k upto) send n h f = absurd f

-- what is held is within what is held
within-self : (m : Net) → Within (held m) None m
unfolding Within
within-self m = omega (arith, held_is m)

within-less : (b : ℕ) (o : Option Packet) (n : Net) → Within b o n → Within b None n
unfolding Within
within-less b o n h = omega (arith, h)

within-held : (b : ℕ) (n : Net) → Within b None n → held n ≤ b
unfolding Within
within-held b n h = omega (arith, h, held_is n)

module _ (s : State) (busy : AllByRecursion IsBusy s.net.pipes) where
  abbrev Told : Phase → Net → Type 0
  Told = Follows (HasCause s) (Place s) s.net

  abbrev Has : ℕ → Drop → Type 0
  Has now d = HasCause s (drop_record now d)

  begun-rested : (n : Net) → Unmoved s.net n → Rested s.net n
  begun-rested n h = record {
    book = h.book;
    same = ap (map at_rest) h.pipes;
    busy = subst (AllByRecursion IsBusy) (sym h.pipes) busy;
    within = within-alike (held s.net) None s.net n h.direct h.pipes (within-self s.net);
  }

  -- drops are recorded that have their cause
  dropped-told : (now : ℕ) (ds : List Drop) (o : Phase) (n : Net) → AllByRecursion (Has now) ds → Told o n →
      Told ended (note_drops now ds n)
  dropped-told now ds o n so h =
      noted (HasCause s) (Place s) s.net (map (drop_record now) ds) o ended n (note_drops now ds n) refl
      (each_mapped (Has now) (HasCause s) (drop_record now) (λ d q. q) ds so) tt h

  moved : (o : Phase) (n k : Net) → k.records ≡ n.records → Told o n → Told ended k
  moved o n k e h = unnoted (HasCause s) (Place s) s.net o ended n k e tt h

  arrived-has : (now k : ℕ) (p : Packet) (q : PipeState) → IsSentTo k p s → Was k q s.net.pipes → IsBusy q →
      AllByRecursion (Has now) (pipe_arrive s.spec.seed now p q).dropped
  arrived-has now k p q sent w b =
      pipe_arrive-drops (Has now) s.spec.seed now p q
      (λ none. comes (λ x y. instance_for x y ≡ None) (none-for-was p w.pipe q w.same none))
      (λ j i there e. instance_arrive-drops (Has now) q.config now p (draw s.spec.seed q j i) (drawn_one i)
      (λ lost. comes (IsBelowLossRate s.spec.seed)
      (below-was s.spec.seed p w.pipe q w.same (below_rate s.spec.seed p q j i there e lost)))
      (λ refused. comes (IsOverLimit now) (over-was now p w.pipe q w.same (at_limit now p q j i there e refused)))
      (λ idle. subst (AllByRecursion (Has now))
      (sym (spared q.config now p i
      (each_got IsWorkConserving i (with_instance (flow_id q.config.mask p) j q).instances j e
      (busy-with (flow_id q.config.mask p) j q b)) idle)) tt))
    where
      comes : (Cause : Packet → PipeState → Type 0) → Cause p w.pipe → Comes Cause p.number s
      comes Cause g = record {
        packet = p;
        number_is = refl;
        pipe = k;
        sent = sent;
        state = w.pipe;
        there = w.there;
        cause = g;
      }

  arrived-told : (now k : ℕ) (p : Packet) (q : PipeState) (n : Net) → find_pipe k n ≡ Some q → Told (handed k p) n →
      Told ended (put_after now k (pipe_arrive s.spec.seed now p q) n)
  arrived-told now k p q n e h =
      let a : After PipeState = pipe_arrive s.spec.seed now p q in
      dropped-told now a.dropped ended (put_pipe k a.state n)
      (arrived-has now k p q h.place.sent (was k q n.pipes s.net.pipes h.place.same e)
      (each_found IsBusy (λ x. x.number == k) q n.pipes e h.place.busy))
      (moved (handed k p) n (put_pipe k a.state n) refl h)

  -- what a dequeue in an instance drops
  codel-has : (now pipe k target interval : ℕ) (q : PipeState) (i : Instance) → find_pipe pipe s.net ≡ Some q →
      slice_get q.instances k ≡ Some i → q.config.discipline ≡ ControlledDelay target interval →
      (before ds ws : List (Queued Packet)) → i.waiting ≡ before ++ ws →
      EachMayBe (record { target = target; interval = interval }) now i.control ds ws →
      AllByRecursion (Has now) (codel_drops ds)
  codel-has now pipe k target interval q i there is_there is before [] ws e h = tt
  codel-has now pipe k target interval q i there is_there is before (d ∷ ds) [] e h = absurd h
  codel-has now pipe k target interval q i there is_there is before (d ∷ ds) (w ∷ behind) e h = (
    record {
      pipe = pipe;
      state = q;
      there = there;
      target = target;
      interval = interval;
      discipline = is;
      instance = k;
      inside = i;
      is_there = is_there;
      before = before;
      waiting = w;
      behind = behind;
      waits = e;
      number_is = ap (λ x. x.item.number) (sym h.0);
      due = h.1;
    },
    codel-has now pipe k target interval q i there is_there is (before ++ w ∷ []) ds behind
        (e ∙ sym (append_assoc before (w ∷ []) behind)) h.2,
  )

  finished-has : (now pipe k : ℕ) (q : PipeState) → find_pipe pipe s.net ≡ Some q →
      AllByRecursion (Has now) (pipe_finish now k q).dropped
  finished-has now pipe k q there =
      some_or (λ a. AllByRecursion (Has now) a.dropped) (λ i. put_instance k q (instance_finish q.config now i))
      (slice_get q.instances k) (no_drop q) (λ i e. go i e q.config.discipline refl i.waiting refl) tt
    where
      go : (i : Instance) → slice_get q.instances k ≡ Some i → (d : Discipline) → q.config.discipline ≡ d →
          (ws : List (Queued Packet)) → i.waiting ≡ ws →
          AllByRecursion (Has now) (codel_drops (dequeue d now i.control ws).dropped)
      go i e TailDrop is [] w = tt
      go i e TailDrop is (v ∷ ws) w = tt
      go i e (ControlledDelay target interval) is ws w =
          let times : Times = record { target = target; interval = interval } in
          codel-has now pipe k target interval q i there e is [] (codel_dequeue times now i.control ws).dropped ws w
          (codel_drops_by_control times now i.control ws)

  finished-told : (now pipe k : ℕ) (p : PipeState) (n : Net) → find_pipe pipe n ≡ Some p → Told starting n →
      Told ended (put_after now pipe (pipe_finish now k p) n)
  finished-told now pipe k p n e h =
      let a : After PipeState = pipe_finish now k p in
      dropped-told now a.dropped ended (put_pipe pipe a.state n)
      (finished-has now pipe k p (subst (λ ps. find (λ q. q.number == pipe) ps ≡ Some p) h.place.pipes e))
      (moved starting n (put_pipe pipe a.state n) refl h)

  -- what a pipe holds is dropped with it
  all-deleted : (now k : ℕ) (q : PipeState) → IsNext (PipeDelete k) s → find_pipe k s.net ≡ Some q →
      (before ps : List Packet) → pipe_packets q ≡ before ++ ps →
      AllByRecursion (Has now) (map (λ p. record { packet = p; cause = Deleted }) ps)
  all-deleted now k q next there before [] e = tt
  all-deleted now k q next there before (p ∷ ps) e = (
    record {
      pipe = k;
      next = next;
      state = q;
      there = there;
      packet = p;
      number_is = refl;
      holds = record { before = before; after = ps; is = e };
    },
    all-deleted now k q next there (before ++ p ∷ []) ps (e ∙ sym (append_assoc before (p ∷ []) ps)),
  )

  deleted-told : (now k : ℕ) (p : PipeState) (n : Net) → IsNext (PipeDelete k) s → find_pipe k n ≡ Some p →
      Told starting n → Told ended (delete_pipe now k n p)
  deleted-told now k p n next e h =
      dropped-told now (map (λ q. record { packet = q; cause = Deleted }) (pipe_packets p)) ended (without_pipe k n)
      (all-deleted now k p next (subst (λ ps. find (λ q. q.number == k) ps ≡ Some p) h.place.pipes e) [] (pipe_packets p)
      refl) (moved starting n (without_pipe k n) refl h)

  -- a packet was made, which a traced run records
  abbrev begun : ℕ → Origin → Packet → Net → Net
  begun now l p n = note_traced (make_record now l p ∷ []) (record n { made = n.made + 1 })

  is-made : (l : Load) (send : SendSpec) (n : Net) → Owes s l send n → IsMade s (packet_of l send n.made)
  is-made l send n h = record { load = l; send = send; is = ap (packet_of l send) h.made; sent = h.sent }

  made-told : (now : ℕ) (l : Origin) (send : SendSpec) (n : Net) → Told (owed now (load_by l) send) n →
      Told (moving 0 (packet_of (load_by l) send n.made)) (begun now l (packet_of (load_by l) send n.made) n)
  made-told now l send n h =
      let p : Packet = packet_of (load_by l) send n.made in
      noted (HasCause s) (Place s) s.net (if n.trace then make_record now l p ∷ [] else []) (owed now (load_by l) send)
      (moving 0 p) n (begun now l p n) refl
      (either (AllByRecursion (HasCause s)) n.trace (make_record now l p ∷ []) [] (tt, tt) tt)
      (record {
        rested = rested-alike s.net n (begun now l p n) refl refl refl h.place.rested;
        enters = inr (is-made (load_by l) send n h.place, refl);
      }) h

  refused-told : (now : ℕ) (l : Origin) (send : SendSpec) (n : Net) → s.spec.budget.packets ≤ held n →
      Told (owed now (load_by l) send) n →
      Told ended (drop_packet now Budget (packet_of (load_by l) send n.made)
      (begun now l (packet_of (load_by l) send n.made) n))
  refused-told now l send n many h =
      let p : Packet = packet_of (load_by l) send n.made in
      dropped-told now (record { packet = p; cause = Budget } ∷ []) (moving 0 p) (begun now l p n) (
        record {
          packet = p;
          number_is = refl;
          made = is-made (load_by l) send n h.place;
          spent = omega (arith, many, within-held (held s.net) n h.place.rested.within);
        },
        tt,
      ) (made-told now l send n h)

  kept : Keeps (held s.net) (λ f. Unit {0}) Anything (Within (held s.net))
  kept = within-keeps (held s.net)

  direct-left : (n : Net) → Unmoved s.net n → Left s.net (record n { direct = leave n.direct })
  direct-left n h =
      let r : Rested s.net n = begun-rested n h in
      record {
        rested = record {
          book = h.book;
          same = r.same;
          busy = r.busy;
          within = within-less (held s.net) (first_item n.direct.in_flight) (record n { direct = leave n.direct })
              (kept.left n r.within);
        };
        flows = h.flows;
        made = h.made;
      }

  pipe-left : (pipe k : ℕ) (p : PipeState) (n : Net) → find_pipe pipe n ≡ Some p → Unmoved s.net n →
      Left s.net (put_pipe pipe (pipe_exit k p) n)
  pipe-left pipe k p n e h =
      let r : Rested s.net n = begun-rested n h in
      record {
        rested = record {
          book = h.book;
          same = put-rested (λ q. q.number == pipe) p (pipe_exit k p) n.pipes e (exit-rested k p) ∙ r.same;
          busy = each_replaced IsBusy (λ q. q.number == pipe) (pipe_exit k p) n.pipes
              (each_changed IsWorkConserving (λ i. record i { line = leave i.line }) k p.instances (λ i q. q)
              (each_found IsBusy (λ q. q.number == pipe) p n.pipes e r.busy)) r.busy;
          within = within-less (held s.net) (flying_in k p) (put_pipe pipe (pipe_exit k p) n)
              (kept.pipe_left pipe k p n e r.within);
        };
        flows = h.flows;
        made = h.made;
      }

  told-tells : Tells s.spec.seed s.spec.budget.packets (λ c. IsNext c s) Told
  told-tells = record {
    stood = λ n h. moved starting n n refl h;
    quiet = λ o n k late a h.
        unnoted (HasCause s) (Place s) s.net o o n k a.records (late-place s o n k late a h.place) h;
    said = λ o rs n may e h.
        noted (HasCause s) (Place s) s.net rs o o n (note_all rs n) refl
        (each_weaker IsSilent (HasCause s) (silent-has s) rs e) (said-place s o rs n may h.place) h;
    sent = λ now l send n e h.
        unnoted (HasCause s) (Place s) s.net starting (owed now l send) n n refl
        (record { rested = begun-rested n h.place; made = h.place.made; sent = sent-as s l send n h.place e }) h;
    answered = λ now k first upto send p n is f h.
        unnoted (HasCause s) (Place s) s.net (came now p) (owed now (Ack k upto) send) n n refl
        (record {
          rested = h.place.rested;
          made = h.place.made;
          sent = record {
            flow = f.flow;
            there = subst (λ fs. find (λ x. x.number == k) fs ≡ Some f.flow) h.place.flows f.there;
            sends = f.sends;
          };
        }) h;
    made = λ now l send n few h. made-told now l send n h;
    refused = refused-told;
    goes_on = λ p n h.
        unnoted (HasCause s) (Place s) s.net (leaving p) (moving (start_behind p.place n.book.rules) p) n n refl
        (record {
          rested = h.place.left.rested;
          enters = inl (h.place.was, ap (λ b. start_behind p.place b.rules) h.place.left.rested.book);
        }) h;
    denied = λ now start p n is h.
        dropped-told now (record { packet = p; cause = Denied } ∷ []) ended (counted start p n) (
          record {
            packet = p;
            number_is = refl;
            start = start;
            enters = h.place.enters;
            rule = subst (λ x. verdict start p x.rules ≡ Dropped) h.place.rested.book is;
          },
          tt,
        ) (moved (moving start p) n (counted start p n) refl h);
    entered = λ now start p n h. moved (moving start p) n (to_direct now p (counted start p n)) refl h;
    piped = λ start k place p n is h.
        unnoted (HasCause s) (Place s) s.net (moving start p) (handed k (record p { place = place })) n
        (counted start p n) refl
        (record {
          same = h.place.rested.same;
          busy = h.place.rested.busy;
          sent = record {
            unsent = p;
            start = start;
            enters = h.place.enters;
            place = place;
            rule = subst (λ x. verdict start p x.rules ≡ IntoPipe k place) h.place.rested.book is;
            is = refl;
          };
        }) h;
    unpiped = λ now k p n none h.
        dropped-told now (record { packet = p; cause = NoPipe } ∷ []) (handed k p) n (
          record {
            packet = p;
            number_is = refl;
            pipe = k;
            sent = h.place.sent;
            none = none-was k n.pipes s.net.pipes h.place.same none;
          },
          tt,
        ) h;
    left = λ n h.
        let k : Net = record n { direct = leave n.direct } in
        unnoted (HasCause s) (Place s) s.net starting (flying (first_item n.direct.in_flight)) n k refl
        (flying-place s (first_item n.direct.in_flight) k (direct-left n h.place) (λ p e.
        in-front p (map (λ x. x.item) s.net.direct.in_flight) (flat_map pipe_packets s.net.pipes)
        (subst (λ d. IsIn p (map (λ x. x.item) d.in_flight)) h.place.direct (first-in p n.direct.in_flight e)))) h;
    delivered = λ now p n h.
        let r : Record = PacketDelivered now p.number p.load in
        noted (HasCause s) (Place s) s.net (r ∷ []) (leaving p) (came now p) n (note r n) refl (tt, tt)
        (record {
          rested = rested-alike s.net n (note r n) refl refl refl h.place.left.rested;
          flows = h.place.left.flows;
          made = h.place.left.made;
        }) h;
    taken = λ now p n e h. moved (came now p) n n refl h;
    arrived = arrived-told;
    finished = finished-told;
    pipe_left = λ pipe k p n e h.
        let there : Net = put_pipe pipe (pipe_exit k p) n in
        unnoted (HasCause s) (Place s) s.net starting (flying (flying_in k p)) n there refl
        (flying-place s (flying_in k p) there (pipe-left pipe k p n e h.place) (λ x g.
        in-back x (map (λ y. y.item) s.net.direct.in_flight) (flat_map pipe_packets s.net.pipes)
        (pipe-is-in pipe x p s.net.pipes (subst (λ ps. find (λ q. q.number == pipe) ps ≡ Some p) h.place.pipes e)
        (flying-is-in k x p.instances g)))) h;
    configured = λ k config p n ok e h. moved starting n (put_pipe k (pipe_configure config p) n) refl h;
    opened = λ k config n ok h. moved starting n (new_pipe k config n) refl h;
    ruled = λ book n h. moved starting n (record n { book = book }) refl h;
    deleted = deleted-told;
  }

pub drops_have_causes : DropsHaveCauses
drops_have_causes spec c n =
    subst (λ j. RecordsCauses (alone spec c n) (alone spec c j).net) (sym (add-one n))
    (record { more = told.more; grows = told.grows; each = told.each })
  where
    told : Follows (HasCause (alone spec c n)) (Place (alone spec c n)) (alone spec c n).net ended
        (step (alone spec c n)).net
    told =
        whole_step (HasCause (alone spec c n)) (Place (alone spec c n)) (alone spec c n)
        (told-tells (alone spec c n) (never_idle spec c n))
        (record { book = refl; direct = refl; pipes = refl; flows = refl; trains = refl; made = refl })

-- a queue with room takes one more
room-within : (s : State) (limit : QueueLimit) (ws : List (Queued Packet)) (p q : Packet) (now : ℕ) →
    HasRoom s limit ws → IsOfStep s p → q.size ≡ p.size →
    IsWithin limit (ws ++ record { item = q; size = q.size; stamp = now } ∷ [])
room-within s (Slots n) ws p q now h of e =
    omega (arith, h, length-append ws (record { item = q; size = q.size; stamp = now } ∷ []))
room-within s (KBytes n) ws p q now h of e =
    let w : Queued Packet = record { item = q; size = q.size; stamp = now } in
    omega (arith, h p of, e, bytes-append ws (w ∷ []), bytes-one w)

of-step : (s : State) (start : ℕ) (p : Packet) → EntersRules s start p → IsOfStep s p
of-step s start p (inl h) = inl h.0
of-step s start p (inr h) = inr h.0

-- a pipe with room is at no limit
room-spares : (s : State) (now pipe : ℕ) (packet : Packet) (q : PipeState) → HasRoom s q.config.queue [] →
    AllByRecursion (λ i. HasRoom s q.config.queue i.waiting) q.instances → IsSentTo pipe packet s →
    IsOverLimit now packet q → ⊥
room-spares s now pipe packet q new each sent h =
    h.over
    (room-within s q.config.queue (waiting_in h.instance q) sent.unsent packet now
    (some_or (HasRoom s q.config.queue) (λ i. i.waiting) (slice_get q.instances h.instance) []
    (λ i e. each_got (λ j. HasRoom s q.config.queue j.waiting) i q.instances h.instance e each) new)
    (of-step s sent.start sent.unsent sent.enters) (ap (λ x. x.size) sent.is))

none-full : (s : State) (rs : List Record) → QueuesHaveRoom s → AllByRecursion (HasCause s) rs → drops_of rs Full ≡ 0
none-full s [] room h = refl
none-full s (r ∷ rs) room h =
    omega (arith, count-cons (is_drop_of Full) r rs, one r h.0, none-full s rs room h.1)
  where
    full : (now number : ℕ) → Comes (IsOverLimit now) number s → ⊥
    full now number c =
        let found = each_found
        (λ p. HasRoom s p.config.queue [] × AllByRecursion (λ i. HasRoom s p.config.queue i.waiting) p.instances)
        (λ p. p.number == c.pipe) c.state s.net.pipes c.there room in
        room-spares s now c.pipe c.packet c.state found.0 found.1 c.sent c.cause

    one : (r : Record) → HasCause s r → one_if (is_drop_of Full r) ≡ 0
    one (PacketDropped now number load Full) e = absurd (full now number e)
    one (PacketDropped now number load Denied) e = refl
    one (PacketDropped now number load NoPipe) e = refl
    one (PacketDropped now number load NoInstance) e = refl
    one (PacketDropped now number load Lost) e = refl
    one (PacketDropped now number load Codel) e = refl
    one (PacketDropped now number load Deleted) e = refl
    one (PacketDropped now number load Budget) e = refl
    one _ e = refl

pub room_drops_nothing : RoomDropsNothing
room_drops_nothing spec c zero room = refl
room_drops_nothing spec c (suc n) room =
    go (subst (λ j. RecordsCauses (alone spec c n) (alone spec c j).net) (add-one n)
    (drops_have_causes spec c n)) (room_drops_nothing spec c n (λ m few. room m (omega (arith, few))))
    (room n (omega arith))
  where
    go : RecordsCauses (alone spec c n) (alone spec c (suc n)).net →
        drops_of (alone spec c n).net.records Full ≡ 0 → QueuesHaveRoom (alone spec c n) →
        drops_of (alone spec c (suc n)).net.records Full ≡ 0
    go s before here =
        ap (λ rs. drops_of rs Full) s.grows
        ∙ count-append (is_drop_of Full) (alone spec c n).net.records s.more
        ∙ omega (arith, before, none-full (alone spec c n) s.more here s.each)
