-- No record is later than the latest command, and each packet that one names was created, by a step of its own.
use Rattle.std.proofs.Common.{◌≡◌, ℕ, zero, suc, ◌+◌, ◌^◌, ◌<◌, ◌≤◌, List, [], ◌∷◌, ◌++◌, Bool, true, false, refl, sym, ◌∙◌, ap, subst, Option, Some, None, append-nil, arith, inl, inr}
use Rattle.std.specs.Prelude.{if◌then◌else◌, ◌⊎◌, is_some, nat_lt, ◌==◌, map, length, find, slice_get, sum_by, option_and_then}
use Rattle.std.specs.List.{AllByRecursion}
use Rattle.std.proofs.lemmas.Bool.{lt-ltb, ltb-true, eqb-false}
use Rattle.std.proofs.lemmas.List.Sums.{sum_by-cons}
use Rattle.emu_laws.proofs.Types.{EventContext, Spec, Timed, Class, NextCommand, Exit, Finish, Expiry, Emission, Packet, Origin, SendSpec, Deleted, Command, Record, PacketMade, PacketArrived, PacketFinished, PacketDelivered, PacketPassed, PacketDropped}
use Rattle.emu_model.specs.declared.sources.Due.{Due}
use Rattle.emu_model.specs.Delay.{first_item}
use Rattle.emu_model.specs.Pipes.{After, Drop, Instance, InService, PipeState, pipe_packets, instance_for, pipe_arrive, pipe_finish, pipe_exit}
use Rattle.emu_model.specs.Net.{Net, note, note_all, note_traced, drop_record, drop_packet, arrive_records, arrivals, make_record, packet_of, load_by, find_pipe, put_pipe, put_after}
use Rattle.emu_model.specs.Commands.{without_pipe, delete_pipe}
use Rattle.emu_model.specs.Events.{flying_in, served_in, note_finish}
use Rattle.emu_model.specs.Step.{State, setting, take_class, count_step, spend, is_last_step, next_event, step_with, step}
use Rattle.emu_model.specs.TraceLaws.{held_packets}
use Rattle.emu_model.specs.Alone.{alone}
use Rattle.emu_model.proofs.CallerLemmas.{next_event_by_command}
use Rattle.emu_laws.proofs.EachOf.{either, some_or, of_choice, each_joined, each_weaker}
use Rattle.emu_laws.proofs.HeldWeights.{some, serves, fallen, size, load, weigh, size_is, load_is, weigh_is, weigh-same, weigh-entered, weigh-left, weigh-arrived, weigh-finished, weigh-exited, weigh-configured, weigh-opened, weigh-deleted}
use Rattle.emu_laws.proofs.DropCauses.{found-le, got-le}
use Rattle.emu_laws.proofs.EventWalks.{IsSilent, IsQuietAt, Keeps, step_walks, step_or}
use Rattle.emu_laws.proofs.StepHistory.{AnyLine, AnyNet, AnyCommand, always}
use Rattle.emu_laws.proofs.RecordsInOrder.{Adds, adds-keeps, moments-append, moments-at}
use Rattle.emu_laws.proofs.EachRecord.{Phase, moving, handed, ended, flying, Tells, one_step}
use Rattle.emu_laws.specs.RecordOrder.{moments_of}
use Rattle.emu_laws.specs.NumberBounds as bounds
use Rattle.emu_laws.specs.NumberBounds.{packets_of, NumbersAreBounded}

-- ---- times

-- no command that is left, and no record, is later
record NoLater (latest : ℕ) (s : State) : Type 0 where
  left : AllByRecursion (λ t. t.moment ≤ latest) s.left
  told : AllByRecursion (λ m. m ≤ latest) (moments_of s.net.records)

-- what is left after a step
taken-left : (P : List Timed → Type 0) (class : Class) (e : Due) (c : Timed) (rest : List Timed) (s : State) → P s.left →
    P rest → P (take_class class e c rest s).left
taken-left P NextCommand e c rest s h g = g
taken-left P Exit e c rest s h g = h
taken-left P Finish e c rest s h g = h
taken-left P Expiry e c rest s h g = h
taken-left P Emission e c rest s h g = h

counted-left : (P : List Timed → Type 0) (t : State) → P t.left → P (count_step t).left
counted-left P t h =
    let u : State = record t { steps = t.steps + 1 } in
    either (λ x. P x.left) (is_some t.ending) u (if is_last_step u then spend u else u) h
    (either (λ x. P x.left) (is_last_step u) (spend u) u h h)

step-no-later : (latest : ℕ) (s : State) → NoLater latest s → NoLater latest (step s)
step-no-later latest s h =
    step_or (NoLater latest) s h
    (λ c rest e.
    let d : Due = next_event s c in
    let a : Adds d.moment s.net (step_with (c ∷ rest) s).net =
    step_walks AnyLine AnyNet AnyCommand (λ o m. Adds d.moment s.net m) s c rest (adds-keeps (setting s.spec d.moment) s.net)
    (λ x. always d.source.number s.net) tt tt
    (record { more = []; records = sym (append-nil s.net.records); moments = tt }) in
    let left : AllByRecursion (λ t. t.moment ≤ latest) (c ∷ rest) =
    subst (AllByRecursion (λ t. t.moment ≤ latest)) e h.left in
    let now : d.moment ≤ latest = omega (arith, next_event_by_command s c, left.0) in
    record {
      left = counted-left (AllByRecursion (λ t. t.moment ≤ latest)) (take_class d.source.class d c rest s)
          (taken-left (AllByRecursion (λ t. t.moment ≤ latest)) d.source.class d c rest s h.left left.1);
      told = subst (λ rs. AllByRecursion (λ m. m ≤ latest) (moments_of rs)) (sym a.records)
          (subst (AllByRecursion (λ m. m ≤ latest)) (sym (moments-append s.net.records a.more))
          (each_joined (λ m. m ≤ latest) (moments_of s.net.records) (moments_of a.more) h.told
          (each_weaker (λ m. m ≡ d.moment) (λ m. m ≤ latest) (λ m x. omega (arith, x, now)) (moments_of a.more)
          (moments-at d.moment a.more a.moments))));
    })

no-later : (spec : Spec) (c : List Timed) (n latest : ℕ) → AllByRecursion (λ t. t.moment ≤ latest) c →
    NoLater latest (alone spec c n)
no-later spec c zero latest h = record { left = h; told = tt }
no-later spec c (suc n) latest h = step-no-later latest (alone spec c n) (no-later spec c n latest h)

-- ---- steps

taken-steps : (class : Class) (e : Due) (c : Timed) (rest : List Timed) (s : State) →
    (take_class class e c rest s).steps ≡ s.steps
taken-steps NextCommand e c rest s = refl
taken-steps Exit e c rest s = refl
taken-steps Finish e c rest s = refl
taken-steps Expiry e c rest s = refl
taken-steps Emission e c rest s = refl

counted-steps : (t : State) → (count_step t).steps ≡ t.steps + 1
counted-steps t =
    let u : State = record t { steps = t.steps + 1 } in
    either (λ x. x.steps ≡ t.steps + 1) (is_some t.ending) u (if is_last_step u then spend u else u) refl
    (either (λ x. x.steps ≡ t.steps + 1) (is_last_step u) (spend u) u refl refl)

-- a step is counted, unless nothing happens
step-counts : (s : State) → (step s ≡ s) ⊎ ((step s).steps ≡ s.steps + 1)
step-counts s =
    step_or (λ t. (t ≡ s) ⊎ (t.steps ≡ s.steps + 1)) s (inl refl)
    (λ c rest e.
    let d : Due = next_event s c in
    inr (counted-steps (take_class d.source.class d c rest s) ∙ ap (λ k. k + 1) (taken-steps d.source.class d c rest s)))

-- no more than the budget, and fewer before the end
record Within (spec : Spec) (s : State) : Type 0 where
  spec_is : s.spec ≡ spec
  most : s.steps ≤ spec.budget.steps
  fewer : is_some s.ending ≡ false → s.steps < spec.budget.steps

taken-spec : (class : Class) (e : Due) (c : Timed) (rest : List Timed) (s : State) →
    (take_class class e c rest s).spec ≡ s.spec
taken-spec NextCommand e c rest s = refl
taken-spec Exit e c rest s = refl
taken-spec Finish e c rest s = refl
taken-spec Expiry e c rest s = refl
taken-spec Emission e c rest s = refl

counted-within : (spec : Spec) (t : State) → t.spec ≡ spec → t.steps < spec.budget.steps → Within spec (count_step t)
counted-within spec t e few =
    of_choice (Within spec) (is_some t.ending) u (if is_last_step u then spend u else u)
    (λ r. record { spec_is = e; most = omega (arith, few); fewer = λ g. clash (sym r ∙ g) })
    (λ r. of_choice (Within spec) (is_last_step u) (spend u) u
    (λ q. record { spec_is = e; most = omega (arith, few); fewer = λ g. clash g })
    (λ q. record { spec_is = e; most = omega (arith, few); fewer = λ g. less q }))
  where
    u : State
    u = record t { steps = t.steps + 1 }

    clash : {A : Type 0} → true ≡ false → A
    clash g = absurd (cc g)

    less : is_last_step (record t { steps = t.steps + 1 }) ≡ false → t.steps + 1 < spec.budget.steps
    less q =
        let other : t.steps + 1 ≡ t.spec.budget.steps → ⊥ = eqb-false (t.steps + 1) t.spec.budget.steps q in
        let same : t.spec.budget.steps ≡ spec.budget.steps = ap (λ x. x.budget.steps) e in
        omega (arith, few, same, other)

step-within : (spec : Spec) (s : State) → Within spec s → Within spec (step s)
step-within spec s h =
    of_choice (Within spec) (is_some s.ending) s (step_with s.left s) (λ r. h) (λ r. go s.left r)
  where
    go : (l : List Timed) → is_some s.ending ≡ false → Within spec (step_with l s)
    go [] r = h
    go (c ∷ rest) r =
        let d : Due = next_event s c in
        counted-within spec (take_class d.source.class d c rest s) (taken-spec d.source.class d c rest s ∙ h.spec_is)
        (omega (arith, taken-steps d.source.class d c rest s, h.fewer r))

within-budget : (spec : Spec) (c : List Timed) (n : ℕ) → 1 ≤ spec.budget.steps → Within spec (alone spec c n)
within-budget spec c zero h = record { spec_is = refl; most = omega arith; fewer = λ e. omega (arith, h) }
within-budget spec c (suc n) h = step-within spec (alone spec c n) (within-budget spec c n h)

-- ---- creations

-- how many may have been made where a step stands: one more once one was made
most-made : ℕ → Phase → ℕ
most-made k (moving start p) = k + 1
most-made k (handed j p) = k + 1
most-made k ended = k + 1
most-made k _ = k

FewMade : ℕ → Phase → Net → Type 0
FewMade k o n = n.made ≤ most-made k o

flying-made : (k : ℕ) (o : Option Packet) → k ≤ most-made k (flying o)
unfolding most-made
flying-made k None = omega arith
flying-made k (Some p) = omega arith

made-tells : (seed b k : ℕ) (Allowed : Command → Type 0) → Tells seed b Allowed (FewMade k)
unfolding FewMade most-made
made-tells seed b k Allowed = record {
  stood = λ n h. omega (arith, h);
  quiet = λ o n m late a h. omega (arith, h, a.made);
  said = λ o rs n a e h. h;
  sent = λ now l send n e h. h;
  answered = λ now j first upto send p n is there h. h;
  made = λ now l send n few h. omega (arith, h);
  refused = λ now l send n many h. omega (arith, h);
  goes_on = λ p n h. omega (arith, h);
  denied = λ now start p n is h. h;
  entered = λ now start p n h. h;
  piped = λ start j place p n is h. h;
  unpiped = λ now j p n none h. h;
  left = λ n h. omega (arith, h, flying-made k (first_item n.direct.in_flight));
  delivered = λ now p n h. h;
  taken = λ now p n e h. omega (arith, h);
  arrived = λ now j p q n e h. h;
  finished = λ now pipe j p n e h. omega (arith, h);
  pipe_left = λ pipe j p n e h. omega (arith, h, flying-made k (flying_in j p));
  configured = λ j config p n ok e h. omega (arith, h);
  opened = λ j config n ok h. omega (arith, h);
  ruled = λ book n h. omega (arith, h);
  deleted = λ now j p n ok e h. omega (arith, h);
}

step-makes : (s : State) → (step s).net.made ≤ s.net.made + 1
unfolding FewMade most-made
step-makes s = one_step s (FewMade s.net.made) (made-tells s.spec.seed s.spec.budget.packets s.net.made _) (omega arith)

made-in-steps : (spec : Spec) (c : List Timed) (n : ℕ) → (alone spec c n).net.made ≤ (alone spec c n).steps
made-in-steps spec c zero = omega arith
made-in-steps spec c (suc n) = go (step-counts (alone spec c n)) (made-in-steps spec c n)
  where
    s : State
    s = alone spec c n

    go : (step (alone spec c n) ≡ alone spec c n) ⊎ ((step (alone spec c n)).steps ≡ (alone spec c n).steps + 1) →
        (alone spec c n).net.made ≤ (alone spec c n).steps → (step (alone spec c n)).net.made ≤ (step (alone spec c n)).steps
    go (inl e) h = subst (λ t. t.net.made ≤ t.steps) (sym e) h
    go (inr e) h = omega (arith, e, h, step-makes (alone spec c n))

-- ---- numbers

abbrev one_unless : Bool → ℕ
one_unless b = if b then 0 else 1

-- 1 for a packet that wasn't created yet
abbrev beyond : ℕ → Packet → ℕ
beyond b p = one_unless (nat_lt p.number b)

-- a record that names only packets of lesser numbers
abbrev IsBelow : ℕ → Record → Type 0
IsBelow b r = AllByRecursion (λ k. k < b) (bounds.packet_of r)

not-beyond : (b : ℕ) (p : Packet) → p.number < b → beyond b p ≡ 0
not-beyond b p h = ap one_unless (lt-ltb p.number b h)

is-created : (b : ℕ) (p : Packet) → beyond b p ≡ 0 → p.number < b
is-created b p h = go (nat_lt p.number b) refl h
  where
    go : (x : Bool) → nat_lt p.number b ≡ x → one_unless x ≡ 0 → p.number < b
    go true e g = ltb-true p.number b e
    go false e g = absurd (cc g)

-- fewer are beyond a greater number
less-beyond : (b : ℕ) (p : Packet) → beyond (b + 1) p ≤ beyond b p
less-beyond b p = go (nat_lt p.number b) refl
  where
    go : (x : Bool) → nat_lt p.number b ≡ x → beyond (b + 1) p ≤ one_unless x
    go true e = omega (arith, not-beyond (b + 1) p (omega (arith, ltb-true p.number b e)))
    go false e = either (λ k. k ≤ 1) (nat_lt p.number (b + 1)) 0 1 (omega arith) (omega arith)

less-sum : (b : ℕ) (ps : List Packet) → sum_by (beyond (b + 1)) ps ≤ sum_by (beyond b) ps
less-sum b [] = omega arith
less-sum b (p ∷ ps) =
    omega (arith, less-sum b ps, less-beyond b p, sum_by-cons (beyond (b + 1)) p ps, sum_by-cons (beyond b) p ps)

less-weighs : (b : ℕ) (n : Net) → weigh (beyond (b + 1)) n ≤ weigh (beyond b) n
unfolding weigh
less-weighs b n = less-sum b (held_packets n)

more-below : (b : ℕ) (r : Record) → IsBelow b r → IsBelow (b + 1) r
more-below b r h = each_weaker (λ k. k < b) (λ k. k < b + 1) (λ k x. omega (arith, x)) (bounds.packet_of r) h

silent-below : (b : ℕ) (r : Record) → IsSilent r → IsBelow b r
silent-below b (PacketMade moment packet origin proto src sport dst dport size) e = absurd (cc e)
silent-below b (PacketArrived moment packet pipe instance) e = absurd (cc e)
silent-below b (PacketFinished moment packet pipe instance) e = absurd (cc e)
silent-below b (PacketDelivered moment packet load) e = absurd (cc e)
silent-below b (PacketPassed moment packet pipe instance) e = absurd (cc e)
silent-below b (PacketDropped moment packet load cause) e = absurd (cc e)
silent-below b _ e = tt

drops-below : (b now : ℕ) (ds : List Drop) → fallen (beyond b) ds ≡ 0 →
    AllByRecursion (IsBelow b) (map (drop_record now) ds)
unfolding fallen
drops-below b now [] h = tt
drops-below b now (d ∷ ds) h =
    let sum : fallen (beyond b) (d ∷ ds) ≡ beyond b d.packet + fallen (beyond b) ds =
    sum_by-cons {X = Drop} (λ x. beyond b x.packet) d ds in
    ((is-created b d.packet (omega (arith, h, sum)), tt), drops-below b now ds (omega (arith, h, sum)))

arrivals-below : (b now : ℕ) (p : Packet) (q : PipeState) → p.number < b → AllByRecursion (IsBelow b) (arrivals now p q)
arrivals-below b now p q h =
    some_or (AllByRecursion (IsBelow b)) (arrive_records now p q) (instance_for p q) []
    (λ k e. either (AllByRecursion (IsBelow b)) (nat_lt k (length q.instances)) _ _ ((h, tt), tt) (tt, ((h, tt), tt))) tt

-- each packet on its way, held or recorded was created
record Created (o : Option Packet) (n : Net) : Type 0 where
  way : some (beyond n.made) o ≡ 0
  held : weigh (beyond n.made) n ≡ 0
  told : AllByRecursion (IsBelow n.made) n.records

-- the packet in service
served-below : (b k : ℕ) (o : Option (InService Packet)) (p : PipeState) → served_in k p ≡ o → load (beyond b) p ≡ 0 →
    (now pipe : ℕ) (n : Net) → AllByRecursion (IsBelow b) n.records → AllByRecursion (IsBelow b) (note_finish now pipe k o n).records
served-below b k None p e h now pipe n told = told
served-below b k (Some s) p e h now pipe n told =
    each_joined (IsBelow b) n.records (PacketFinished now s.item.number pipe k ∷ []) told
    ((is-created b s.item (go (slice_get p.instances k) refl e), tt), tt)
  where
    served : (i : Instance) → i.service ≡ Some s → size (beyond b) i ≡ 0 → beyond b s.item ≡ 0
    served i g z = omega (arith, size_is (beyond b) i, z, ap (serves (beyond b)) g, sum_by-cons (beyond b) s.item [])

    go : (i : Option Instance) → slice_get p.instances k ≡ i → option_and_then (λ i. i.service) i ≡ Some s →
        beyond b s.item ≡ 0
    go None there g = absurd (cc g)
    go (Some i) there g =
        served i g (omega (arith, load_is (beyond b) p, h, got-le (size (beyond b)) i p.instances k there))

pipe-below : (b k : ℕ) (p : PipeState) (n : Net) → find_pipe k n ≡ Some p → weigh (beyond b) n ≡ 0 → load (beyond b) p ≡ 0
pipe-below b k p n e h =
    omega (arith, weigh_is (beyond b) n, h, found-le (load (beyond b)) (λ q. q.number == k) p n.pipes e)

finish-same : (now pipe k : ℕ) (o : Option (InService Packet)) (n : Net) →
    ((note_finish now pipe k o n).made ≡ n.made) × (((note_finish now pipe k o n).direct ≡ n.direct)
    × ((note_finish now pipe k o n).pipes ≡ n.pipes))
finish-same now pipe k None n = (refl, (refl, refl))
finish-same now pipe k (Some s) n = (refl, (refl, refl))

alike : (o : Option Packet) (n m : Net) → m.made ≡ n.made → m.direct ≡ n.direct → m.pipes ≡ n.pipes →
    AllByRecursion (IsBelow n.made) m.records → Created o n → Created o m
alike o n m k d p told h = record {
  way = subst (λ b. some (beyond b) o ≡ 0) (sym k) h.way;
  held = subst (λ b. weigh (beyond b) m ≡ 0) (sym k) (omega (arith, h.held, weigh-same (beyond n.made) n m d p));
  told = subst (λ b. AllByRecursion (IsBelow b) m.records) (sym k) told;
}

-- drops of what was created are recorded
dropping : (now : ℕ) (ds : List Drop) (n m : Net) → m.made ≡ n.made → m.records ≡ n.records ++ map (drop_record now) ds →
    AllByRecursion (IsBelow n.made) n.records → weigh (beyond n.made) m ≡ 0 → fallen (beyond n.made) ds ≡ 0 → Created None m
dropping now ds n m k r told held none = record {
  way = refl;
  held = subst (λ b. weigh (beyond b) m ≡ 0) (sym k) held;
  told = subst (λ b. AllByRecursion (IsBelow b) m.records) (sym k)
      (subst (AllByRecursion (IsBelow n.made)) (sym r)
      (each_joined (IsBelow n.made) n.records (map (drop_record now) ds) told (drops-below n.made now ds none)));
}

made-created : (now : ℕ) (l : Origin) (send : SendSpec) (n : Net) → Created None n →
    Created (Some (packet_of (load_by l) send n.made))
    (note_traced (make_record now l (packet_of (load_by l) send n.made) ∷ []) (record n { made = n.made + 1 }))
made-created now l send n h =
    let p : Packet = packet_of (load_by l) send n.made in
    let r : Record = make_record now l p in
    let m : Net = note_traced (r ∷ []) (record n { made = n.made + 1 }) in
    record {
      way = not-beyond (n.made + 1) p (omega arith);
      held = omega (arith, h.held, less-weighs n.made n, weigh-same (beyond (n.made + 1)) n m refl refl);
      told = each_joined (IsBelow (n.made + 1)) n.records (if n.trace then r ∷ [] else [])
          (each_weaker (IsBelow n.made) (IsBelow (n.made + 1)) (more-below n.made) n.records h.told)
          (either (AllByRecursion (IsBelow (n.made + 1))) n.trace (r ∷ []) [] ((omega arith, tt), tt) tt);
    }

arrived-created : (seed now k : ℕ) (p : Packet) (q : PipeState) (n : Net) → find_pipe k n ≡ Some q → Created (Some p) n →
    Created None (put_after now k (pipe_arrive seed now p q) (note_traced (arrivals now p q) n))
arrived-created seed now k p q n e h =
    let a : After PipeState = pipe_arrive seed now p q in
    let m : Net = note_traced (arrivals now p q) n in
    let w : Packet → ℕ = beyond n.made in
    dropping now a.dropped m (put_after now k a m) refl refl
    (each_joined (IsBelow n.made) n.records (if n.trace then arrivals now p q else []) h.told
    (either (AllByRecursion (IsBelow n.made)) n.trace (arrivals now p q) []
    (arrivals-below n.made now p q (is-created n.made p h.way)) tt))
    (omega (
      arith,
      h.way,
      h.held,
      weigh-arrived w seed now k p q m e,
      weigh-same w n m refl refl,
      weigh-same w (put_pipe k a.state m) (put_after now k a m) refl refl,
    ))
    (omega (arith, h.way, h.held, weigh-arrived w seed now k p q m e, weigh-same w n m refl refl))

finished-created : (now pipe k : ℕ) (p : PipeState) (n : Net) → find_pipe pipe n ≡ Some p → Created None n →
    Created None (put_after now pipe (pipe_finish now k p) (note_finish now pipe k (served_in k p) n))
finished-created now pipe k p n e h = go (note_finish now pipe k (served_in k p) n) (finish-same now pipe k (served_in k p) n)
    (served-below n.made k (served_in k p) p refl (pipe-below n.made pipe p n e h.held) now pipe n h.told)
  where
    go : (m : Net) → ((m.made ≡ n.made) × ((m.direct ≡ n.direct) × (m.pipes ≡ n.pipes))) →
        AllByRecursion (IsBelow n.made) m.records → Created None (put_after now pipe (pipe_finish now k p) m)
    go m same told =
        let a : After PipeState = pipe_finish now k p in
        let c : Created None m = alike None n m same.0 same.1.0 same.1.1 told h in
        let there : find_pipe pipe m ≡ Some p = ap (find (λ q. q.number == pipe)) same.1.1 ∙ e in
        let w : Packet → ℕ = beyond m.made in
        dropping now a.dropped m (put_after now pipe a m) refl refl c.told
        (omega (
          arith,
          c.held,
          weigh-finished w now pipe k p m there,
          weigh-same w (put_pipe pipe a.state m) (put_after now pipe a m) refl refl,
        ))
        (omega (arith, c.held, weigh-finished w now pipe k p m there))

created-keeps : (at : EventContext) → Keeps at AnyLine AnyNet AnyCommand Created
created-keeps at = record {
  quiet = λ o n m a h. alike o n m a.made a.direct a.pipes (subst (AllByRecursion (IsBelow n.made)) (sym a.records) h.told) h;
  traced = λ b n h. alike None n (record n { trace = b }) refl refl refl h.told h;
  said = λ rs n q h. alike None n (note_all rs n) refl refl refl
      (each_joined (IsBelow n.made) n.records rs h.told
      (each_weaker (IsQuietAt at.now) (IsBelow n.made) (λ r x. silent-below n.made r x.silent) rs q)) h;
  made = λ l send n h. made-created at.now l send n h;
  placed = λ place p n h. record { way = h.way; held = h.held; told = h.told };
  dropped = λ cause p n e h.
      let ds : List Drop = record { packet = p; cause = cause } ∷ [] in
      let m : Net = drop_packet at.now cause p n in
      record {
        way = refl;
        held = omega (arith, h.held, weigh-same (beyond n.made) n m refl refl);
        told = each_joined (IsBelow n.made) n.records (map (drop_record at.now) ds) h.told
            ((is-created n.made p h.way, tt), tt);
      };
  entered = λ p n h. record {
    way = refl;
    held = omega (arith, h.held, h.way, weigh-entered (beyond n.made) at.now p n);
    told = h.told;
  };
  left = λ n ready h. record {
    way = omega (arith, h.held, weigh-left (beyond n.made) n);
    held = omega (arith, h.held, weigh-left (beyond n.made) n);
    told = h.told;
  };
  delivered = λ p n h.
      let r : Record = PacketDelivered at.now p.number p.load in
      record {
        way = refl;
        held = omega (arith, h.held, weigh-same (beyond n.made) n (note r n) refl refl);
        told = each_joined (IsBelow n.made) n.records (r ∷ []) h.told ((is-created n.made p h.way, tt), tt);
      };
  arrived = λ k p q n e h. arrived-created at.seed at.now k p q n e h;
  finished = λ pipe k p n known e h. finished-created at.now pipe k p n e h;
  pipe_left = λ pipe k p n e ready h. record {
    way = omega (arith, h.held, weigh-exited (beyond n.made) pipe k p n e);
    held = omega (arith, h.held, weigh-exited (beyond n.made) pipe k p n e);
    told = h.told;
  };
  passed = λ pipe k q p n e ready f h.
      let there : Net = put_pipe pipe (pipe_exit k p) n in
      let r : Record = PacketPassed at.now q.number pipe k in
      let way : beyond n.made q ≡ 0 =
      subst (λ o. some (beyond n.made) o ≡ 0) f (omega (arith, h.held, weigh-exited (beyond n.made) pipe k p n e)) in
      record {
        way = way;
        held = omega (
          arith,
          h.held,
          weigh-exited (beyond n.made) pipe k p n e,
          weigh-same (beyond n.made) there (note r there) refl refl,
        );
        told = each_joined (IsBelow n.made) n.records (r ∷ []) h.told ((is-created n.made q way, tt), tt);
      };
  configured = λ k config p n ok e h. record {
    way = refl;
    held = omega (arith, h.held, weigh-configured (beyond n.made) k config p n e);
    told = h.told;
  };
  opened = λ k config n ok e h. record {
    way = refl;
    held = omega (arith, h.held, weigh-opened (beyond n.made) k config n);
    told = h.told;
  };
  deleted = λ k p n e h.
      let ds : List Drop = map (λ q. record { packet = q; cause = Deleted }) (pipe_packets p) in
      let w : Packet → ℕ = beyond n.made in
      dropping at.now ds n (delete_pipe at.now k n p) refl refl h.told
      (omega (
        arith,
        h.held,
        weigh-deleted w k p n e,
        weigh-same w (without_pipe k n) (delete_pipe at.now k n p) refl refl,
      ))
      (omega (arith, h.held, weigh-deleted w k p n e));
}

created : (spec : Spec) (c : List Timed) (n : ℕ) → Created None (alone spec c n).net
unfolding weigh
created spec c zero = record { way = refl; held = refl; told = tt }
created spec c (suc n) =
    let s : State = alone spec c n in
    step_or (λ t. Created None t.net) s (created spec c n)
    (λ d rest e. step_walks AnyLine AnyNet AnyCommand Created s d rest (created-keeps (setting s.spec (next_event s d).moment))
    (λ x. always (next_event s d).source.number s.net) tt tt (created spec c n))

all-below : (b : ℕ) (rs : List Record) → AllByRecursion (IsBelow b) rs → AllByRecursion (λ k. k < b) (packets_of rs)
all-below b [] h = tt
all-below b (r ∷ rs) h = each_joined (λ k. k < b) (bounds.packet_of r) (packets_of rs) h.0 (all-below b rs h.1)

numbered : (spec : Spec) (c : List Timed) (n : ℕ) →
    AllByRecursion (λ k. k < (alone spec c n).net.made) (packets_of (alone spec c n).net.records)
numbered spec c n = all-below (alone spec c n).net.made (alone spec c n).net.records (created spec c n).told

pub numbers_are_bounded : NumbersAreBounded
numbers_are_bounded = record {
  moments = λ spec c n latest h. (no-later spec c n latest h).told;
  in_a_step = λ spec c n. step-makes (alone spec c n);
  made = made-in-steps;
  steps = λ spec c n h. (within-budget spec c n h).most;
  packets = numbered;
  in_columns = λ spec c n some few early.
      let s : State = alone spec c n in (
        each_weaker (λ m. m ≤ 10 ^ 15) (λ m. m < 2 ^ 63) (λ m x. omega (arith, x)) (moments_of s.net.records)
            (no-later spec c n (10 ^ 15) early).told,
        each_weaker (λ k. k < s.net.made) (λ k. k < 2 ^ 32)
            (λ k x. omega (arith, x, few, made-in-steps spec c n, (within-budget spec c n some).most))
            (packets_of s.net.records) (numbered spec c n),
      );
}
