-- What is delivered in a step was held as the step began.
use Rattle.std.proofs.Common.{◌≡◌, ℕ, zero, suc, ◌+◌, ◌<◌, ◌≤◌, List, [], ◌∷◌, ◌++◌, Bool, true, false, refl, sym, ◌∙◌, ap, subst, Option, Some, None, inl, inr, add-one, arith}
use Rattle.std.specs.Prelude.{if◌then◌else◌, ◌⊎◌, ◌==◌, nat_lt, find, map, flat_map, slice_get, option_to_list, option_map, option_and_then, count_by}
use Rattle.std.specs.List.{AllByRecursion}
use Rattle.std.proofs.lemmas.Bool.{eqb-true, ltb-false, eq-eqb, cases_lt}
use Rattle.emu_laws.proofs.Types.{SendSpec, Command, Ack, Packet, Spec, Timed, Record, PacketDelivered, PacketDropped, Denied, NoPipe, Budget, Deleted, Origin}
use Rattle.emu_model.specs.Pipes.{Drop, Instance, PipeState, After, held_in, pipe_packets, pipe_arrive, pipe_finish, pipe_exit, pipe_configure}
use Rattle.emu_model.specs.Net.{Net, note, note_all, note_drops, to_direct, put_pipe, note_traced, make_record, drop_record, packet_of, load_by}
use Rattle.emu_model.specs.Rules.{start_behind}
use Rattle.emu_model.specs.Delay.{InFlight, first_item, leave}
use Rattle.emu_model.specs.Commands.{new_pipe, without_pipe}
use Rattle.emu_model.specs.Events.{flying_in}
use Rattle.emu_model.specs.Alone.{alone}
use Rattle.emu_model.specs.TraceLaws.{delivers, drops, held_packets, once_made, EachPacketOnce}
use Rattle.emu_laws.proofs.Counts.{one_if, count-cons, count-append}
use Rattle.emu_laws.proofs.EachOf.{either, each_weaker}
use Rattle.emu_laws.proofs.EachRecord.{Phase, starting, leaving, moving, handed, counted, came, owed, ended, flying, IsSilent, Alike, Tells}
use Rattle.emu_laws.proofs.StepRecords.{Follows, noted, unnoted, whole_step}
use Rattle.emu_laws.specs.StepPackets.{IsNext}
use Rattle.emu_laws.specs.EndsHeld.{held_of, EndsOnce, EndsWereHeld}

-- one of this number is in a list
abbrev pub Holds : ℕ → List Packet → Type 0
Holds k ps = 0 < count_by (λ p. p.number == k) ps

holds-front : (k : ℕ) (xs ys : List Packet) → Holds k xs → Holds k (xs ++ ys)
holds-front k xs ys h = omega (arith, h, count-append (λ (p : Packet). p.number == k) xs ys)

pub holds-back : (k : ℕ) (xs ys : List Packet) → Holds k ys → Holds k (xs ++ ys)
holds-back k xs ys h = omega (arith, h, count-append (λ (p : Packet). p.number == k) xs ys)

pub holds-first : (p : Packet) (ps : List Packet) → Holds p.number (p ∷ ps)
holds-first p ps =
    omega (
      arith,
      count-cons (λ (q : Packet). q.number == p.number) p ps,
      ap one_if (eq-eqb p.number p.number refl),
    )

first-held : (p : Packet) (xs : List (InFlight Packet)) → first_item xs ≡ Some p → Holds p.number (map (λ x. x.item) xs)
first-held p [] e = absurd (cc e)
first-held p (x ∷ xs) e =
    let same : x.item ≡ p = cc e in
    let here : (x.item.number == p.number) ≡ true = eq-eqb x.item.number p.number (ap (λ q. q.number) same) in
    omega (
      arith,
      count-cons (λ (q : Packet). q.number == p.number) x.item (map (λ y. y.item) xs),
      ap one_if here,
    )

flying-held : (k : ℕ) (p : Packet) (is : List Instance) →
    option_and_then (λ i. first_item i.line.in_flight) (slice_get is k) ≡ Some p → Holds p.number (flat_map held_in is)
flying-held k p [] e = absurd (cc e)
flying-held zero p (i ∷ is) e =
    holds-front p.number (held_in i) (flat_map held_in is)
    (holds-front p.number
    (map (λ x. x.item) i.line.in_flight ++ option_to_list (option_map (λ s. s.item) i.service)) (map (λ w. w.item) i.waiting)
    (holds-front p.number (map (λ x. x.item) i.line.in_flight) (option_to_list (option_map (λ s. s.item) i.service))
    (first-held p i.line.in_flight e)))
flying-held (suc k) p (i ∷ is) e = holds-back p.number (held_in i) (flat_map held_in is) (flying-held k p is e)

pipe-held : (pipe j : ℕ) (q : PipeState) (ps : List PipeState) → find (λ p. p.number == pipe) ps ≡ Some q →
    Holds j (pipe_packets q) → Holds j (flat_map pipe_packets ps)
pipe-held pipe j q [] e h = absurd (cc e)
pipe-held pipe j q (p ∷ ps) e h = go (p.number == pipe) e (λ g. pipe-held pipe j q ps g h)
  where
    go : (b : Bool) → (if b then Some p else find (λ x. x.number == pipe) ps) ≡ Some q →
        (find (λ x. x.number == pipe) ps ≡ Some q → Holds j (flat_map pipe_packets ps)) →
        Holds j (flat_map pipe_packets (p ∷ ps))
    go true g later =
        holds-front j (pipe_packets p) (flat_map pipe_packets ps) (subst (λ x. Holds j (pipe_packets x)) (sym (same g)) h)
      where
        same : Some p ≡ Some q → p ≡ q
        same u = cc u
    go false g later = holds-back j (pipe_packets p) (flat_map pipe_packets ps) (later g)

-- a delivery is of a packet that was held as the step began
abbrev IsOfHeld : Net → Record → Type 0
IsOfHeld m (PacketDelivered moment packet load) = Holds packet (held_packets m)
IsOfHeld m r = Unit {0}

silent-held : (m : Net) (r : Record) → IsSilent r → IsOfHeld m r
silent-held m (PacketDelivered moment packet load) e = absurd (cc e)
silent-held m _ e = tt

drops-held : (m : Net) (now : ℕ) (ds : List Drop) → AllByRecursion (IsOfHeld m) (map (drop_record now) ds)
drops-held m now [] = tt
drops-held m now (d ∷ ds) = (tt, drops-held m now ds)

-- where a step that began with m stands: nothing has moved yet, or what has left was held
record Unmoved (m n : Net) : Type 0 where
  direct : n.direct ≡ m.direct
  pipes : n.pipes ≡ m.pipes

abbrev Place : Net → Phase → Net → Type 0
Place m starting n = Unmoved m n
Place m (leaving p) n = Holds p.number (held_packets m)
Place m o n = Unit {0}

module _ (m : Net) where
  abbrev Told : Phase → Net → Type 0
  Told = Follows (IsOfHeld m) (Place m) m

  alike-place : (o : Phase) (n k : Net) → Alike n k → Place m o n → Place m o k
  alike-place starting n k a h = record { direct = a.direct ∙ h.direct; pipes = a.pipes ∙ h.pipes }
  alike-place (leaving p) n k a h = h
  alike-place (moving start p) n k a h = tt
  alike-place (handed j p) n k a h = tt
  alike-place (came now p) n k a h = tt
  alike-place (owed now l send) n k a h = tt
  alike-place ended n k a h = tt

  said-place : (o : Phase) (rs : List Record) (n : Net) → Place m o n → Place m o (note_all rs n)
  said-place starting rs n h = record { direct = h.direct; pipes = h.pipes }
  said-place (leaving p) rs n h = h
  said-place (moving start p) rs n h = tt
  said-place (handed j p) rs n h = tt
  said-place (came now p) rs n h = tt
  said-place (owed now l send) rs n h = tt
  said-place ended rs n h = tt

  -- what left was held
  left-place : (o : Option Packet) (k : Net) → ((p : Packet) → o ≡ Some p → Holds p.number (held_packets m)) →
      Place m (flying o) k
  left-place None k h = tt
  left-place (Some p) k h = h p refl

  dropped-follows : (now : ℕ) (ds : List Drop) (o : Phase) (n : Net) → Told o n → Told ended (note_drops now ds n)
  dropped-follows now ds o n h =
      noted (IsOfHeld m) (Place m) m (map (drop_record now) ds) o ended n (note_drops now ds n) refl (drops-held m now ds) tt h

  -- a packet was made, which a traced run records
  abbrev begun : ℕ → Origin → Packet → Net → Net
  begun now l p n = note_traced (make_record now l p ∷ []) (record n { made = n.made + 1 })

  made-follows : (now : ℕ) (l : Origin) (send : SendSpec) (p : Packet) (n : Net) → Told (owed now (load_by l) send) n →
      Told (moving 0 p) (begun now l p n)
  made-follows now l send p n h =
      noted (IsOfHeld m) (Place m) m (if n.trace then make_record now l p ∷ [] else []) (owed now (load_by l) send) (moving 0 p) n
      (begun now l p n) refl
      (either (AllByRecursion (IsOfHeld m)) n.trace (make_record now l p ∷ []) [] (tt, tt) tt) tt h

  moved : (o : Phase) (n k : Net) → k.records ≡ n.records → Told o n → Told ended k
  moved o n k e h = unnoted (IsOfHeld m) (Place m) m o ended n k e tt h

  follows-tells : (seed b : ℕ) (Allowed : Command → Type 0) → Tells seed b Allowed Told
  follows-tells seed b Allowed = record {
    stood = λ n h. moved starting n n refl h;
    quiet = λ o n k late a h. unnoted (IsOfHeld m) (Place m) m o o n k a.records (alike-place o n k a h.place) h;
    said = λ o rs n a e h.
        noted (IsOfHeld m) (Place m) m rs o o n (note_all rs n) refl (each_weaker IsSilent (IsOfHeld m) (silent-held m) rs e)
        (said-place o rs n h.place) h;
    sent = λ now l send n e h. unnoted (IsOfHeld m) (Place m) m starting (owed now l send) n n refl tt h;
    answered = λ now k first upto send p n is there h.
        unnoted (IsOfHeld m) (Place m) m (came now p) (owed now (Ack k upto) send) n n refl tt h;
    made = λ now l send n few h. made-follows now l send (packet_of (load_by l) send n.made) n h;
    refused = λ now l send n many h.
        let p : Packet = packet_of (load_by l) send n.made in
        dropped-follows now (record { packet = p; cause = Budget } ∷ []) (moving 0 p) (begun now l p n)
        (made-follows now l send p n h);
    goes_on = λ p n h. unnoted (IsOfHeld m) (Place m) m (leaving p) (moving (start_behind p.place n.book.rules) p) n n refl tt h;
    denied = λ now start p n is h.
        dropped-follows now (record { packet = p; cause = Denied } ∷ []) ended (counted start p n)
        (moved (moving start p) n (counted start p n) refl h);
    entered = λ now start p n h. moved (moving start p) n (to_direct now p (counted start p n)) refl h;
    piped = λ start k place p n is h.
        unnoted (IsOfHeld m) (Place m) m (moving start p) (handed k (record p { place = place })) n (counted start p n) refl tt h;
    unpiped = λ now k p n none h. dropped-follows now (record { packet = p; cause = NoPipe } ∷ []) (handed k p) n h;
    left = λ n h.
        let k : Net = record n { direct = leave n.direct } in
        unnoted (IsOfHeld m) (Place m) m starting (flying (first_item n.direct.in_flight)) n k refl
        (left-place (first_item n.direct.in_flight) k (λ p e.
        holds-front p.number (map (λ x. x.item) m.direct.in_flight) (flat_map pipe_packets m.pipes)
        (subst (λ d. Holds p.number (map (λ x. x.item) d.in_flight)) h.place.direct (first-held p n.direct.in_flight e)))) h;
    delivered = λ now p n h.
        let r : Record = PacketDelivered now p.number p.load in
        noted (IsOfHeld m) (Place m) m (r ∷ []) (leaving p) (came now p) n (note r n) refl (h.place, tt) tt h;
    taken = λ now p n e h. moved (came now p) n n refl h;
    arrived = λ now k p q n e h.
        let a : After PipeState = pipe_arrive seed now p q in
        dropped-follows now a.dropped ended (put_pipe k a.state n) (moved (handed k p) n (put_pipe k a.state n) refl h);
    finished = λ now pipe k p n e h.
        let a : After PipeState = pipe_finish now k p in
        dropped-follows now a.dropped ended (put_pipe pipe a.state n) (moved starting n (put_pipe pipe a.state n) refl h);
    pipe_left = λ pipe k p n e h.
        let there : Net = put_pipe pipe (pipe_exit k p) n in
        unnoted (IsOfHeld m) (Place m) m starting (flying (flying_in k p)) n there refl
        (left-place (flying_in k p) there (λ x g.
        holds-back x.number (map (λ y. y.item) m.direct.in_flight) (flat_map pipe_packets m.pipes)
        (pipe-held pipe x.number p m.pipes (subst (λ ps. find (λ q. q.number == pipe) ps ≡ Some p) h.place.pipes e)
        (flying-held k x p.instances g)))) h;
    configured = λ k config p n ok e h. moved starting n (put_pipe k (pipe_configure config p) n) refl h;
    opened = λ k config n ok h. moved starting n (new_pipe k config n) refl h;
    ruled = λ book n h. moved starting n (record n { book = book }) refl h;
    deleted = λ now k p n ok e h.
        dropped-follows now (map (λ q. record { packet = q; cause = Deleted }) (pipe_packets p)) ended (without_pipe k n)
        (moved starting n (without_pipe k n) refl h);
  }

-- a step is told of by records of what was held
follows : (spec : Spec) (c : List Timed) (n : ℕ) → Told (alone spec c n).net ended (alone spec c (suc n)).net
follows spec c n =
    let m : Net = (alone spec c n).net in
    whole_step (IsOfHeld m) (Place m) (alone spec c n)
    (follows-tells m (alone spec c n).spec.seed (alone spec c n).spec.budget.packets (λ x. IsNext x (alone spec c n)))
    (record { direct = refl; pipes = refl })

-- where a number is delivered in a step, it was held
delivered-held : (k : ℕ) (m : Net) (rs : List Record) → AllByRecursion (IsOfHeld m) rs → 0 < count_by (delivers k) rs →
    Holds k (held_packets m)
delivered-held k m [] h some = absurd (omega (arith, some))
delivered-held k m (r ∷ rs) h some =
    go (delivers k r) refl (omega (arith, some, count-cons (delivers k) r rs)) (λ g. delivered-held k m rs h.1 g)
  where
    here : (r : Record) → delivers k r ≡ true → IsOfHeld m r → Holds k (held_packets m)
    here (PacketDelivered moment packet load) e g = subst (λ j. Holds j (held_packets m)) (eqb-true packet k e) g
    here (PacketDropped moment packet load cause) e g = absurd (cc e)
    here _ e g = absurd (cc e)

    go : (b : Bool) → delivers k r ≡ b → 0 < one_if b + count_by (delivers k) rs →
        (0 < count_by (delivers k) rs → Holds k (held_packets m)) → Holds k (held_packets m)
    go true e g later = here r e h.0
    go false e g later = later (omega (arith, g))

made-once : (k : ℕ) (n : Net) → once_made k n ≤ 1
made-once k n = either (λ x. x ≤ 1) (nat_lt k n.made) 1 0 (omega arith) (omega arith)

-- what isn't held, and hasn't ended, is still to be made
still-unmade : (k : ℕ) (n : Net) → once_made k n ≡ 0 → n.made ≤ k
still-unmade k n e = go (nat_lt k n.made) refl e
  where
    go : (b : Bool) → nat_lt k n.made ≡ b → one_if b ≡ 0 → n.made ≤ k
    go true g h = absurd (omega (arith, h))
    go false g h = ltb-false k n.made g

pub ends_were_held : EachPacketOnce → EndsWereHeld
ends_were_held each spec c n k =
    subst (λ j. EndsOnce k (alone spec c n).net (alone spec c j).net) (sym (add-one n)) (step (follows spec c n))
  where
    before : Net
    before = (alone spec c n).net

    after : Net
    after = (alone spec c (suc n)).net

    step : Told (alone spec c n).net ended (alone spec c (suc n)).net →
        EndsOnce k (alone spec c n).net (alone spec c (suc n)).net
    step f =
        let told : count_by (delivers k) after.records ≡ count_by (delivers k) before.records + count_by (delivers k) f.more =
        ap (count_by (delivers k)) f.grows ∙ count-append (delivers k) before.records f.more in
        let lost : count_by (drops k) after.records ≡ count_by (drops k) before.records + count_by (drops k) f.more =
        ap (count_by (drops k)) f.grows ∙ count-append (drops k) before.records f.more in
        record {
          once = omega (arith, each spec c (suc n) k, made-once k after);
          delivered = λ h.
              let there : Holds k (held_packets before) =
              delivered-held k before f.more f.each (omega (arith, h, told)) in
              omega (arith, there, each spec c n k, made-once k before);
          dropped = λ h.
              go (cases_lt 0 (held_of k before))
              (omega (arith, h, told, lost, each spec c n k, each spec c (suc n) k, made-once k after))
              (each spec c n k) (made-once k before);
        }
      where
        go : (0 < held_of k before) ⊎ (held_of k before ≤ 0) →
            count_by (delivers k) before.records + count_by (drops k) before.records ≤ 0 →
            count_by (delivers k) before.records + count_by (drops k) before.records + held_of k before ≡ once_made k before →
            once_made k before ≤ 1 → (held_of k before ≡ 1) ⊎ (before.made ≤ k)
        go (inl some) none sum few = inl (omega (arith, some, none, sum, few))
        go (inr free) none sum few = inr (still-unmade k before (omega (arith, free, none, sum)))
