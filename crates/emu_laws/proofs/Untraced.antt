-- Tracing only adds records: without them, each change of a net is the one with tracing off.
use Rattle.std.proofs.Common.{◌≡◌, ℕ, zero, suc, ◌+◌, ◌/◌, ◌%◌, List, [], ◌∷◌, ◌++◌, Bool, true, false, refl, sym, ◌∙◌, ap, Option, Some, None, arith}
use Rattle.std.specs.Prelude.{if◌then◌else◌, not, is_some, nat_lt, map, flat_map, length, count_by}
use Rattle.std.specs.Option.{option_map_or}
use Rattle.std.specs.List.{filter}
use Rattle.std.proofs.lemmas.List.Elements.{filter-append}
use Rattle.emu_laws.proofs.Types.{EventContext, Spec, Timed, Class, NextCommand, Exit, Finish, Expiry, Emission, Packet, Load, Plain, Seg, Ack, Origin, ByCommand, ByTrain, BySender, ByReceiver, Verdict, OverTheLink, Dropped, IntoPipe, SendSpec, DropCause, NoPipe, Denied, Budget, Deleted, Command, Add, Delete, Config, PipeDelete, PipeShow, Show, Inject, Train, Flow, Stop, OnePass, Trace, End, Record, CommandDone, CommandRefused, PacketFinished, PacketDelivered, PacketDropped, PacketPassed, AckTaken, TimerExpired, StepsSpent, RuleLine, PipeLine}
use Rattle.emu_model.specs.declared.sources.Due.{Due}
use Rattle.emu_model.specs.declared.records.Ending.TheVariants.{Ended}
use Rattle.emu_model.specs.Rules.{Counted, verdict, start_behind, counted_book}
use Rattle.emu_model.specs.Delay.{first_item, leave}
use Rattle.emu_model.specs.Reno.{with_segment, missing, ack, emitted, emit, expire}
use Rattle.emu_model.specs.Pipes.{After, Drop, Instance, InService, PipeState, pipe_packets, instance_for, pipe_arrive, pipe_finish, pipe_exit, pipe_configure}
use Rattle.emu_model.specs.Net.{Net, FlowState, note, note_all, note_traced, drop_record, drop_packet, arrive_records, arrivals, to_pipe, enter_pipe, by_verdict, pass_rules_from, reinject, packet_of, load_by, make_record, make, held, data_send, ack_send, find_pipe, put_pipe, put_after, find_flow, put_flow, find_train, put_train, take_segment, take_ack, take_load, deliver, is_delivery, is_drop_of, drops_of, all_causes, counters_of}
use Rattle.emu_model.specs.Commands.{rule_lines, instance_line, instance_lines, pipe_lines, new_pipe, delete_pipe, without_pipe, stop_flow, refusal_of, effect_of, obey, is_end}
use Rattle.emu_model.specs.Events.{direct_exit, flying_in, leave_pipe, pipe_exits, served_in, note_finish, pipe_finishes, expire_flow, emit_segment, emit_packet, emission, event_of}
use Rattle.emu_model.specs.Step.{State, setting, take_command, take_class, take_due, count_step, spend, is_last_step, next_event, step_with, step}
use Rattle.emu_model.specs.Alone.{alone}
use Rattle.emu_laws.proofs.Counts.{one_if, count-cons}
use Rattle.emu_laws.proofs.EachOf.{either, some_or}
use Rattle.emu_laws.specs.Tracing.{trace_on, traced_command, traced_spec, trace_off, untraced_command, untraced_spec, is_trace, untraced_records, untraced_state, untraced_run, traced_run, TracingOnlyAdds}

-- a record that stays
abbrev stays : Record → Bool
stays r = not (is_trace r)

-- the net with tracing off, without the records that tracing added
abbrev U : Net → Net
U n = record n { trace = false; records = untraced_records n.records }

-- a change of a net is the same with tracing off
abbrev Same : (Net → Net) → Type 0
Same f = (n : Net) → f (U n) ≡ U (f n)

both : (f g : Net → Net) → Same f → Same g → Same (λ n. g (f n))
both f g sf sg n = ap g (sf n) ∙ sg (f n)

-- records that stay are added
noted : (rs : List Record) → untraced_records rs ≡ rs → Same (note_all rs)
noted rs e n =
    ap (λ x. record n { trace = false; records = x })
    (sym (filter-append stays n.records rs ∙ ap (λ x. untraced_records n.records ++ x) e))

-- and records that tracing adds
noted-traced : (rs : List Record) → untraced_records rs ≡ [] → Same (note_traced rs)
noted-traced rs e n =
    ap (λ x. record n { trace = false; records = x })
    (sym (filter-append stays n.records (if n.trace then rs else [])
    ∙ ap (λ x. untraced_records n.records ++ x)
    (either (λ x. untraced_records x ≡ []) n.trace rs [] e refl)))

arrivals-go : (now : ℕ) (p : Packet) (q : PipeState) → untraced_records (arrivals now p q) ≡ []
arrivals-go now p q =
    some_or (λ rs. untraced_records rs ≡ []) (arrive_records now p q) (instance_for p q) []
    (λ k e. either (λ rs. untraced_records rs ≡ []) (nat_lt k (length q.instances)) _ _ refl refl) refl

drops-stay : (now : ℕ) (ds : List Drop) → untraced_records (map (drop_record now) ds) ≡ map (drop_record now) ds
drops-stay now [] = refl
drops-stay now (d ∷ ds) = ap (λ rs. drop_record now d ∷ rs) (drops-stay now ds)

rules-stay : (cs : List Counted) →
    untraced_records (map (λ c. RuleLine c.rule c.packets c.bytes) cs) ≡ map (λ c. RuleLine c.rule c.packets c.bytes) cs
rules-stay [] = refl
rules-stay (c ∷ cs) = ap (λ rs. RuleLine c.rule c.packets c.bytes ∷ rs) (rules-stay cs)

instances-stay : (pipe k : ℕ) (is : List Instance) →
    untraced_records (instance_lines pipe k is) ≡ instance_lines pipe k is
instances-stay pipe k [] = refl
instances-stay pipe k (i ∷ is) = ap (λ rs. instance_line pipe k i ∷ rs) (instances-stay pipe (k + 1) is)

pipes-stay : (ps : List PipeState) → untraced_records (flat_map pipe_lines ps) ≡ flat_map pipe_lines ps
pipes-stay [] = refl
pipes-stay (p ∷ ps) =
    filter-append stays (pipe_lines p) (flat_map pipe_lines ps)
    ∙ ap (λ rs. (PipeLine p.number p.config ∷ rs) ++ untraced_records (flat_map pipe_lines ps)) (instances-stay p.number 0 p.instances)
    ∙ ap (λ rs. pipe_lines p ++ rs) (pipes-stay ps)

dropped : (now : ℕ) (cause : DropCause) (p : Packet) → Same (drop_packet now cause p)
dropped now cause p = noted (PacketDropped now p.number p.load cause ∷ []) refl

put-after : (now k : ℕ) (a : After PipeState) → Same (put_after now k a)
put-after now k a n = noted (map (drop_record now) a.dropped) (drops-stay now a.dropped) (put_pipe k a.state n)

-- with what is found in the net, as it was found before
found : {A : Type 0} (f : A → Net → Net) (g : Net → Net) (o : Option A) → ((a : A) → Same (f a)) → Same g →
    (n : Net) → option_map_or (λ a. f a (U n)) o (g (U n)) ≡ U (option_map_or (λ a. f a n) o (g n))
found f g None sf sg n = sg n
found f g (Some a) sf sg n = sf a n

chosen : (f g : Net → Net) (b : Bool) → Same f → Same g →
    (n : Net) → (if b then f (U n) else g (U n)) ≡ U (if b then f n else g n)
chosen f g true sf sg n = sf n
chosen f g false sf sg n = sg n

to-pipe : (at : EventContext) (k : ℕ) (p : Packet) → Same (to_pipe at k p)
to-pipe at k p n =
    let come : List Record = option_map_or (arrivals at.now p) (find_pipe k n) [] in
    let m : Net = note_traced come n in
    ap (enter_pipe at k p)
    (noted-traced come
    (some_or (λ rs. untraced_records rs ≡ []) (arrivals at.now p) (find_pipe k n) [] (λ q e. arrivals-go at.now p q) refl) n)
    ∙ found (λ pipe. put_after at.now k (pipe_arrive at.seed at.now p pipe)) (drop_packet at.now NoPipe p)
    (find_pipe k m) (λ pipe. put-after at.now k (pipe_arrive at.seed at.now p pipe)) (dropped at.now NoPipe p) m

by-verdict : (at : EventContext) (v : Verdict) (p : Packet) → Same (by_verdict at v p)
by-verdict at OverTheLink p n = refl
by-verdict at Dropped p n = dropped at.now Denied p n
by-verdict at (IntoPipe k place) p n = to-pipe at k (record p { place = place }) n

pass-rules : (at : EventContext) (start : ℕ) (p : Packet) → Same (pass_rules_from at start p)
pass-rules at start p n =
    by-verdict at (verdict start p n.book.rules) p (record n { book = counted_book start p n.book })

goes-on : (at : EventContext) (p : Packet) → Same (reinject at p)
goes-on at p n = pass-rules at (start_behind p.place n.book.rules) p n

making : (at : EventContext) (o : Origin) (send : SendSpec) → Same (make at o send)
making at o send n =
    let p : Packet = packet_of (load_by o) send n.made in
    let line : List Record = make_record at.now o p ∷ [] in
    let m : Net = record n { made = n.made + 1 } in
    ap (λ x. if nat_lt (held n) at.packet_budget then pass_rules_from at 0 p x else drop_packet at.now Budget p x)
    (noted-traced line refl m)
    ∙ chosen (pass_rules_from at 0 p) (drop_packet at.now Budget p) (nat_lt (held n) at.packet_budget)
    (pass-rules at 0 p) (dropped at.now Budget p) (note_traced line m)

-- a flow of the net, put through
taking-segment : (at : EventContext) (first : ℕ) (f : FlowState) → Same (λ n. take_segment at first n f)
taking-segment at first f n =
    let came : List ℕ = with_segment first f.came in
    making at (ByReceiver f.number (missing f.flow.smss came)) (ack_send f.flow) (put_flow (record f { came = came }) n)

taking-ack : (now upto : ℕ) (f : FlowState) → Same (λ n. take_ack now upto n f)
taking-ack now upto f n = go f.stopped
  where
    go : (b : Bool) →
        (if b then U n else note (AckTaken now f.number (ack f.flow now upto f.sender).cwnd (ack f.flow now upto f.sender).ssthresh) (U (put_flow (record f { sender = ack f.flow now upto f.sender }) n)))
        ≡ U (if b then n else note (AckTaken now f.number (ack f.flow now upto f.sender).cwnd (ack f.flow now upto f.sender).ssthresh) (put_flow (record f { sender = ack f.flow now upto f.sender }) n))
    go true = refl
    go false =
        noted (AckTaken now f.number (ack f.flow now upto f.sender).cwnd (ack f.flow now upto f.sender).ssthresh ∷ []) refl
        (put_flow (record f { sender = ack f.flow now upto f.sender }) n)

same : Same (λ n. n)
same n = refl

taking-load : (at : EventContext) (l : Load) → Same (take_load at l)
taking-load at Plain n = refl
taking-load at (Seg k first) n =
    found (λ f n. take_segment at first n f) (λ n. n) (find_flow k n) (taking-segment at first) same n
taking-load at (Ack k upto) n =
    found (λ f n. take_ack at.now upto n f) (λ n. n) (find_flow k n) (taking-ack at.now upto) same n

delivered : (at : EventContext) (p : Packet) → Same (deliver at p)
delivered at p =
    both (note (PacketDelivered at.now p.number p.load)) (take_load at p.load)
    (noted (PacketDelivered at.now p.number p.load ∷ []) refl) (taking-load at p.load)

-- events
exits-direct : (at : EventContext) → Same (direct_exit at)
exits-direct at n =
    found (λ q. deliver at q) (λ n. n) (first_item n.direct.in_flight) (delivered at) same (record n { direct = leave n.direct })

leaves-pipe : (at : EventContext) (pipe k : ℕ) (q : Packet) → Same (leave_pipe at pipe k q)
leaves-pipe at pipe k q n =
    chosen (deliver at q) (λ n. reinject at q (note (PacketPassed at.now q.number pipe k) n)) n.one_pass
    (delivered at q)
    (both (note (PacketPassed at.now q.number pipe k)) (reinject at q)
    (noted (PacketPassed at.now q.number pipe k ∷ []) refl) (goes-on at q)) n

exits-pipe : (at : EventContext) (pipe k : ℕ) (p : PipeState) → Same (λ n. pipe_exits at pipe k n p)
exits-pipe at pipe k p n =
    found (λ q. leave_pipe at pipe k q) (λ n. n) (flying_in k p) (leaves-pipe at pipe k) same (put_pipe pipe (pipe_exit k p) n)

notes-finish : (now pipe k : ℕ) (s : Option (InService Packet)) → Same (note_finish now pipe k s)
notes-finish now pipe k s n =
    found (λ i. note (PacketFinished now i.item.number pipe k)) (λ n. n) s
    (λ i. noted (PacketFinished now i.item.number pipe k ∷ []) refl) same n

finishes-pipe : (at : EventContext) (pipe k : ℕ) (p : PipeState) → Same (λ n. pipe_finishes at pipe k n p)
finishes-pipe at pipe k p =
    both (note_finish at.now pipe k (served_in k p)) (put_after at.now pipe (pipe_finish at.now k p))
    (notes-finish at.now pipe k (served_in k p)) (put-after at.now pipe (pipe_finish at.now k p))

expires : (at : EventContext) (f : FlowState) → Same (λ n. expire_flow at n f)
expires at f n =
    noted (TimerExpired at.now f.number (expire f.flow at.now f.sender).cwnd (expire f.flow at.now f.sender).ssthresh ∷ []) refl
    (put_flow (record f { sender = expire f.flow at.now f.sender }) n)

emits : (at : EventContext) (k : ℕ) → Same (emission at k)
emits at k n =
    found (λ t n. emit_packet at n t) (λ n. option_map_or (emit_segment at n) (find_flow k n) n) (find_train k n)
    (λ t n. making at (ByTrain t.number) t.train.packet (put_train (record t { sent = t.sent + 1 }) n))
    (λ n. found (λ f n. emit_segment at n f) (λ n. n) (find_flow k n)
    (λ f n. making at (BySender f.number (emitted f.sender)) (data_send f.flow)
    (put_flow (record f { sender = emit f.flow at.now f.sender }) n)) same n) n

event-same : (at : EventContext) (class : Class) (k : ℕ) → Same (event_of at class k)
event-same at NextCommand k n = refl
event-same at Exit zero n = exits-direct at n
event-same at Exit (suc k) n =
    found (λ p n. pipe_exits at (suc k / 256) (suc k % 256) n p) (λ n. n) (find_pipe (suc k / 256) n)
    (exits-pipe at (suc k / 256) (suc k % 256)) same n
event-same at Finish k n =
    found (λ p n. pipe_finishes at (k / 256) (k % 256) n p) (λ n. n) (find_pipe (k / 256) n)
    (finishes-pipe at (k / 256) (k % 256)) same n
event-same at Expiry k n =
    found (λ f n. expire_flow at n f) (λ n. n) (find_flow k n) (expires at) same n
event-same at Emission k n = emits at k n

-- commands
refusal-same : (c : Command) (n : Net) → refusal_of (trace_off c) (U n) ≡ refusal_of c n
refusal-same (Add r) n = refl
refusal-same (Delete k) n = refl
refusal-same (Config k config) n = refl
refusal-same (PipeDelete k) n = refl
refusal-same PipeShow n = refl
refusal-same Show n = refl
refusal-same (Inject send) n = refl
refusal-same (Train k t) n = refl
refusal-same (Flow k f) n = refl
refusal-same (Stop k) n = refl
refusal-same (OnePass b) n = refl
refusal-same (Trace b) n = refl
refusal-same End n = refl

end-same : (c : Command) → is_end (trace_off c) ≡ is_end c
end-same (Add r) = refl
end-same (Delete k) = refl
end-same (Config k config) = refl
end-same (PipeDelete k) = refl
end-same PipeShow = refl
end-same Show = refl
end-same (Inject send) = refl
end-same (Train k t) = refl
end-same (Flow k f) = refl
end-same (Stop k) = refl
end-same (OnePass b) = refl
end-same (Trace b) = refl
end-same End = refl

deleting : (now k : ℕ) (p : PipeState) → Same (λ n. delete_pipe now k n p)
deleting now k p n =
    let ds : List Drop = map (λ q. record { packet = q; cause = Deleted }) (pipe_packets p) in
    noted (map (drop_record now) ds) (drops-stay now ds) (without_pipe k n)

effect-same : (at : EventContext) (j : ℕ) (c : Command) (n : Net) →
    effect_of at j (trace_off c) (U n) ≡ U (effect_of at j c n)
effect-same at j (Add r) n = refl
effect-same at j (Delete k) n = refl
effect-same at j (Config k config) n =
    found (λ p. put_pipe k (pipe_configure config p)) (new_pipe k config) (find_pipe k n) (λ p n. refl) (λ n. refl) n
effect-same at j (PipeDelete k) n =
    found (λ p n. delete_pipe at.now k n p) (λ n. n) (find_pipe k n) (deleting at.now k) same n
effect-same at j PipeShow n = noted (flat_map pipe_lines n.pipes) (pipes-stay n.pipes) n
effect-same at j Show n = noted (rule_lines n) (rules-stay n.book.rules) n
effect-same at j (Inject send) n = making at (ByCommand j) send n
effect-same at j (Train k t) n = refl
effect-same at j (Flow k f) n = refl
effect-same at j (Stop k) n =
    found (λ f n. stop_flow n f) (λ n. n) (find_flow k n) (λ f n. refl) same n
effect-same at j (OnePass b) n = refl
effect-same at j (Trace b) n = refl
effect-same at j End n = refl

obey-same : (at : EventContext) (k : ℕ) (c : Command) (n : Net) → obey at k (trace_off c) (U n) ≡ U (obey at k c n)
obey-same at k c n =
    ap (λ o. option_map_or (λ r. note (CommandRefused at.now k r) (U n)) o
    (effect_of at k (trace_off c) (note (CommandDone at.now k) (U n)))) (refusal-same c n)
    ∙ ap (λ x. option_map_or (λ r. note (CommandRefused at.now k r) (U n)) (refusal_of c n) x)
    (ap (effect_of at k (trace_off c)) (noted (CommandDone at.now k ∷ []) refl n)
    ∙ effect-same at k c (note (CommandDone at.now k) n))
    ∙ refused (refusal_of c n)
  where
    refused : (o : Option _) →
        option_map_or (λ r. note (CommandRefused at.now k r) (U n)) o (U (effect_of at k c (note (CommandDone at.now k) n)))
        ≡ U (option_map_or (λ r. note (CommandRefused at.now k r) n) o (effect_of at k c (note (CommandDone at.now k) n)))
    refused None = refl
    refused (Some r) = noted (CommandRefused at.now k r ∷ []) refl n

-- steps
abbrev W : State → State
W = untraced_state

take-class : (class : Class) (d : Due) (c : Timed) (rest : List Timed) (s : State) →
    take_class class d (untraced_command c) (map untraced_command rest) (W s) ≡ W (take_class class d c rest s)
take-class NextCommand d c rest s =
    ap (λ m. record (take_command d.moment (untraced_command c) (map untraced_command rest) (W s)) { net = m })
    (obey-same (setting s.spec d.moment) s.taken c.command s.net)
    ∙ ap (λ b. record (W (take_command d.moment c rest s)) { ending = if b then Some Ended else None }) (end-same c.command)
take-class Exit d c rest s =
    ap (λ m. record (W s) { clock = d.moment; net = m }) (event-same (setting s.spec d.moment) Exit d.source.number s.net)
take-class Finish d c rest s =
    ap (λ m. record (W s) { clock = d.moment; net = m }) (event-same (setting s.spec d.moment) Finish d.source.number s.net)
take-class Expiry d c rest s =
    ap (λ m. record (W s) { clock = d.moment; net = m }) (event-same (setting s.spec d.moment) Expiry d.source.number s.net)
take-class Emission d c rest s =
    ap (λ m. record (W s) { clock = d.moment; net = m }) (event-same (setting s.spec d.moment) Emission d.source.number s.net)

spends : (s : State) → spend (W s) ≡ W (spend s)
spends s = ap (λ m. record (W (spend s)) { net = m }) (noted (StepsSpent s.clock ∷ []) refl s.net)

choice : (b : Bool) (x y z : State) → x ≡ W y → (if b then x else W z) ≡ W (if b then y else z)
choice true x y z e = e
choice false x y z e = refl

ended : (b : Bool) (x y z : State) → y ≡ W z → (if b then W x else y) ≡ W (if b then x else z)
ended true x y z e = refl
ended false x y z e = e

counts : (s : State) → count_step (W s) ≡ W (count_step s)
counts s =
    let t : State = record s { steps = s.steps + 1 } in
    ended (is_some s.ending) t (if is_last_step t then spend (W t) else W t) (if is_last_step t then spend t else t)
    (choice (is_last_step t) (spend (W t)) (spend t) t (spends t))

steps-with : (l : List Timed) (s : State) → step_with (map untraced_command l) (W s) ≡ W (step_with l s)
steps-with [] s = refl
steps-with (c ∷ rest) s =
    let d : Due = next_event s c in
    ap count_step (take-class d.source.class d c rest s) ∙ counts (take_due d c rest s)

steps : (s : State) → step (W s) ≡ W (step s)
steps s =
    ended (is_some s.ending) s (step_with (map untraced_command s.left) (W s)) (step_with s.left s) (steps-with s.left s)

-- a run, without the records that tracing added
untraced : (spec : Spec) (c : List Timed) (n : ℕ) → untraced_run spec c n ≡ W (alone spec c n)
untraced spec c zero = refl
untraced spec c (suc n) = ap step (untraced spec c n) ∙ steps (alone spec c n)

off-on : (c : Command) → trace_off (trace_on c) ≡ trace_off c
off-on (Add r) = refl
off-on (Delete k) = refl
off-on (Config k config) = refl
off-on (PipeDelete k) = refl
off-on PipeShow = refl
off-on Show = refl
off-on (Inject send) = refl
off-on (Train k t) = refl
off-on (Flow k f) = refl
off-on (Stop k) = refl
off-on (OnePass b) = refl
off-on (Trace b) = refl
off-on End = refl

all-off : (ts : List Timed) → map untraced_command (map traced_command ts) ≡ map untraced_command ts
all-off [] = refl
all-off (t ∷ ts) =
    ap (λ c. record t { command = c } ∷ map untraced_command (map traced_command ts)) (off-on t.command)
    ∙ ap (λ us. untraced_command t ∷ us) (all-off ts)

untraced-traced : (spec : Spec) (c : List Timed) (n : ℕ) → untraced_state (traced_run spec c n) ≡ untraced_run spec c n
untraced-traced spec c n =
    sym (untraced (traced_spec spec) (map traced_command c) n) ∙ ap (λ l. alone (untraced_spec spec) l n) (all-off c)

-- what stays is counted as before by a test that no record of tracing passes
counted-stays : (test : Record → Bool) → ((r : Record) → is_trace r ≡ true → test r ≡ false) → (rs : List Record) →
    count_by test (untraced_records rs) ≡ count_by test rs
counted-stays test none [] = refl
counted-stays test none (r ∷ rs) = go (is_trace r) refl (counted-stays test none rs)
  where
    go : (b : Bool) → is_trace r ≡ b → count_by test (untraced_records rs) ≡ count_by test rs →
        count_by test (if not b then r ∷ untraced_records rs else untraced_records rs) ≡ count_by test (r ∷ rs)
    go true e later = omega (arith, later, count-cons test r rs, ap one_if (none r e))
    go false e later = omega (arith, later, count-cons test r rs, count-cons test r (untraced_records rs))

no-delivery : (r : Record) → is_trace r ≡ true → is_delivery r ≡ false
no-delivery (PacketDelivered moment packet load) e = absurd (cc e)
no-delivery _ e = refl

no-drop : (cause : DropCause) (r : Record) → is_trace r ≡ true → is_drop_of cause r ≡ false
no-drop cause (PacketDropped moment packet load other) e = absurd (cc e)
no-drop cause _ e = refl

drops-same : (rs : List Record) (causes : List DropCause) →
    map (drops_of (untraced_records rs)) causes ≡ map (drops_of rs) causes
drops-same rs [] = refl
drops-same rs (x ∷ xs) =
    ap (λ k. k ∷ map (drops_of (untraced_records rs)) xs) (counted-stays (is_drop_of x) (no-drop x) rs)
    ∙ ap (λ ks. drops_of rs x ∷ ks) (drops-same rs xs)

counters-same : (n : Net) → counters_of (U n) ≡ counters_of n
counters-same n =
    ap (λ k. record (counters_of (U n)) { delivered = k }) (counted-stays is_delivery no-delivery n.records)
    ∙ ap (λ ks. record (counters_of n) { drops = ks }) (drops-same n.records all_causes)

pub tracing_only_adds : TracingOnlyAdds
tracing_only_adds = record {
  of_any = λ spec c n. sym (untraced spec c n);
  of_both = untraced-traced;
  counted = λ spec c n.
      sym (counters-same (traced_run spec c n).net) ∙ ap (λ s. counters_of s.net) (untraced-traced spec c n);
}
