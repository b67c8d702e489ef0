-- What is due below a moment happens whatever comes then or later.
use Rattle.std.proofs.Common.{◌≡◌, ◌≢◌, Option, Some, None, ℕ, ◌+◌, ◌≤◌, ◌<◌, List, [], ◌∷◌, ◌++◌, Bool, true, false, refl, sym, ◌∙◌, ap, arith, subst, inl, inr, add-one, suc}
use Rattle.std.specs.Prelude.{if◌then◌else◌, is_some, nat_lt, ◌==◌, ◌&&◌, ◌||◌, ◌⊎◌}
use Rattle.std.specs.List.{best_of}
use Rattle.std.proofs.lemmas.Bool.{ltb-true, ltb-false, eqb-true, and_parts, or_cases, or_parts}
use Rattle.emu_model.specs.declared.commands.Spec.{Spec}
use Rattle.emu_model.specs.declared.commands.Timed.{Timed}
use Rattle.emu_model.specs.declared.sources.Class.{Class}
use Rattle.emu_model.specs.declared.sources.Class.TheVariants.{NextCommand, Exit, Finish, Expiry, Emission}
use Rattle.emu_model.specs.declared.sources.Due.{Due}
use Rattle.emu_model.specs.declared.records.Ending.{Ending}
use Rattle.emu_model.specs.Dues.{due, dues_of, is_before, least_due, rank}
use Rattle.emu_model.specs.Step.{State, take_class, take_event, take_command, take_due, count_step, spend, is_last_step, next_event, step_with, step}
use Rattle.emu_model.specs.Alone.{alone}
use Rattle.emu_model.specs.declared.records.Record.{Record}
use Rattle.emu_model.specs.declared.commands.Command.TheVariants.{End}
use Rattle.emu_model.specs.RunLaws.{with_more, with_earlier, LaterCommandsWait, RecordsAreNotRead}
use Rattle.experiment.specs.Waits.{event_of_class, event_at, step_before, IsAloneUntil, StepsBeforeWait, WaitsAgree, WaitsPassEvents, WaitsReadNoRecords, CommandsComeAlone, WaitsBegin, WaitsRise, CommandsGoOn, GoesOn}

-- what is before a command is due below its moment
before-command : (z : Due) (m : ℕ) → is_before z (due NextCommand 0 m) ≡ true → z.moment < m
before-command z m e = go (or_cases _ _ e)
  where
    none : (r n : ℕ) → (nat_lt r 0 || (r == 0 && nat_lt n 0)) ≡ true → ⊥
    none r n h = go2 (or_cases _ _ h)
      where
        go2 : (nat_lt r 0 ≡ true) ⊎ ((r == 0 && nat_lt n 0) ≡ true) → ⊥
        go2 (inl x) = let y : r < 0 = ltb-true r 0 x in omega (arith, y)
        go2 (inr x) = let y : n < 0 = ltb-true n 0 (and_parts _ _ x).1 in omega (arith, y)

    go : (nat_lt z.moment m ≡ true) ⊎ ((z.moment == m && (nat_lt (rank z.source.class) 0 || (rank z.source.class == 0 && nat_lt z.source.number 0))) ≡ true) → z.moment < m
    go (inl h) = ltb-true z.moment m h
    go (inr h) = absurd (none (rank z.source.class) z.source.number (and_parts _ _ h).1)

earlier : (z y : Due) → z.moment < y.moment → is_before z y ≡ true
earlier z y h = go (nat_lt z.moment y.moment) refl
  where
    go : (b : Bool) → nat_lt z.moment y.moment ≡ b → is_before z y ≡ true
    go true e = ap (λ b. b || (z.moment == y.moment && (nat_lt (rank z.source.class) (rank y.source.class) || (rank z.source.class == rank y.source.class && nat_lt z.source.number y.source.number)))) e
    go false e = let n : y.moment ≤ z.moment = ltb-false z.moment y.moment e in absurd (omega arith)

late : (z : Due) (m : ℕ) → is_before z (due NextCommand 0 m) ≡ false → m ≤ z.moment
late z m e = ltb-false z.moment m (or_parts _ _ e).0

-- what is least beside a command, and isn't that command, is least beside whatever is due then or later
raised : (m : ℕ) (y : Due) (ds : List Due) → m ≤ y.moment →
    (best_of is_before (due NextCommand 0 m) ds).source.class ≢ NextCommand →
    best_of is_before y ds ≡ best_of is_before (due NextCommand 0 m) ds
raised m y [] h other = absurd (other refl)
raised m y (z ∷ zs) h other = go (is_before z (due NextCommand 0 m)) refl (λ x k o. raised m x zs k o)
  where
    goes : (b : Bool) → m ≤ z.moment → m ≤ (if b then z else y).moment
    goes true l = l
    goes false l = h

    go : (b : Bool) → is_before z (due NextCommand 0 m) ≡ b →
        ((x : Due) → m ≤ x.moment → (best_of is_before (due NextCommand 0 m) zs).source.class ≢ NextCommand →
        best_of is_before x zs ≡ best_of is_before (due NextCommand 0 m) zs) →
        best_of is_before (if is_before z y then z else y) zs
        ≡ best_of is_before (if is_before z (due NextCommand 0 m) then z else due NextCommand 0 m) zs
    go true e again =
        let first : z.moment < m = before-command z m e in
        let both : is_before z y ≡ true = earlier z y (omega (arith, first, h)) in
        (λ i. best_of is_before (if both i then z else y) zs)
        ∙ sym (λ i. best_of is_before (if e i then z else due NextCommand 0 m) zs)
    go false e again =
        again (if is_before z y then z else y) (goes (is_before z y) (late z m e))
        (λ same. other ((λ i. (best_of is_before (if e i then z else due NextCommand 0 m) zs).source.class) ∙ same))
        ∙ sym (λ i. best_of is_before (if e i then z else due NextCommand 0 m) zs)

-- what is due below a moment is least beside a command at that moment too
lowered : (u : ℕ) (x : Due) (ds : List Due) → u ≤ x.moment → (best_of is_before x ds).moment < u →
    best_of is_before (due NextCommand 0 u) ds ≡ best_of is_before x ds
lowered u x [] h below = absurd (omega (arith, h, below))
lowered u x (z ∷ zs) h below = go (is_before z (due NextCommand 0 u)) refl (λ y k b. lowered u y zs k b)
  where
    goes : (b : Bool) → u ≤ z.moment → u ≤ (if b then z else x).moment
    goes true l = l
    goes false l = h

    go : (b : Bool) → is_before z (due NextCommand 0 u) ≡ b →
        ((y : Due) → u ≤ y.moment → (best_of is_before y zs).moment < u →
        best_of is_before (due NextCommand 0 u) zs ≡ best_of is_before y zs) →
        best_of is_before (if is_before z (due NextCommand 0 u) then z else due NextCommand 0 u) zs
        ≡ best_of is_before (if is_before z x then z else x) zs
    go true e again =
        let first : z.moment < u = before-command z u e in
        let both : is_before z x ≡ true = earlier z x (omega (arith, first, h)) in
        (λ i. best_of is_before (if e i then z else due NextCommand 0 u) zs)
        ∙ sym (λ i. best_of is_before (if both i then z else x) zs)
    go false e again =
        (λ i. best_of is_before (if e i then z else due NextCommand 0 u) zs)
        ∙ again (if is_before z x then z else x) (goes (is_before z x) (late z u e)) below

if-more : (d : List Timed) (b : Bool) (x y : State) →
    (if b then with_more d x else with_more d y) ≡ with_more d (if b then x else y)
if-more d true x y = refl
if-more d false x y = refl

count_step-more : (d : List Timed) (t : State) → count_step (with_more d t) ≡ with_more d (count_step t)
count_step-more d t =
    let u : State = record t { steps = t.steps + 1 } in
    ap (λ x. if is_some t.ending then with_more d u else x) (if-more d (is_last_step u) (spend u) u)
    ∙ if-more d (is_some t.ending) u (if is_last_step u then spend u else u)

if-steps : (b : Bool) (x y : State) (n : ℕ) → x.steps ≡ n → y.steps ≡ n → (if b then x else y).steps ≡ n
if-steps true x y n p q = p
if-steps false x y n p q = q

count_step-steps : (t : State) → (count_step t).steps ≡ t.steps + 1
count_step-steps t =
    let u : State = record t { steps = t.steps + 1 } in
    if-steps (is_some t.ending) u (if is_last_step u then spend u else u) (t.steps + 1) refl
    (if-steps (is_last_step u) (spend u) u (t.steps + 1) refl refl)

-- an event that isn't a command's sees no command
event-more : (k : Class) (e : Due) (c : Timed) (rest : List Timed) (s : State) → k ≢ NextCommand →
    count_step (take_class k e c rest (with_more (c ∷ rest) s)) ≡ with_more (c ∷ rest) (event_of_class k e s)
event-more NextCommand e c rest s other = absurd (other refl)
event-more Exit e c rest s other = count_step-more (c ∷ rest) (take_event e.moment Exit e.source.number s)
event-more Finish e c rest s other = count_step-more (c ∷ rest) (take_event e.moment Finish e.source.number s)
event-more Expiry e c rest s other = count_step-more (c ∷ rest) (take_event e.moment Expiry e.source.number s)
event-more Emission e c rest s other = count_step-more (c ∷ rest) (take_event e.moment Emission e.source.number s)

event-steps : (k : Class) (e : Due) (s : State) → k ≢ NextCommand → (event_of_class k e s).steps ≡ s.steps + 1
event-steps NextCommand e s other = absurd (other refl)
event-steps Exit e s other = count_step-steps (take_event e.moment Exit e.source.number s)
event-steps Finish e s other = count_step-steps (take_event e.moment Finish e.source.number s)
event-steps Expiry e s other = count_step-steps (take_event e.moment Expiry e.source.number s)
event-steps Emission e s other = count_step-steps (take_event e.moment Emission e.source.number s)

-- which class it is
command-or-not : (k : Class) → (k ≡ NextCommand) ⊎ (k ≢ NextCommand)
command-or-not NextCommand = inl refl
command-or-not Exit = inr (λ e. absurd (cc))
command-or-not Finish = inr (λ e. absurd (cc))
command-or-not Expiry = inr (λ e. absurd (cc))
command-or-not Emission = inr (λ e. absurd (cc))

module _ (t : ℕ) (spec : Spec) (came : List Timed) (s : State) (none : s.left ≡ []) (waits : IsAloneUntil t spec came s) where
  abbrev d : Due
  d = least_due t (dues_of s.clock s.net)

  -- the event, whatever comes
  made : s.ending ≡ None → d.source.class ≢ NextCommand → IsAloneUntil t spec came (event_at d s)
  made going other c rest late_enough =
      let n : ℕ = s.steps in
      let same : next_event s c ≡ d = raised t (due NextCommand 0 c.moment) (dues_of s.clock s.net) late_enough other in
      let stepped : step (with_more (c ∷ rest) s) ≡ with_more (c ∷ rest) (event_at d s) =
      (λ i. if is_some (going i) then with_more (c ∷ rest) s else step_with (none i ++ c ∷ rest) (with_more (c ∷ rest) s))
      ∙ (λ i. count_step (take_due (same i) c rest (with_more (c ∷ rest) s)))
      ∙ event-more d.source.class d c rest s other in
      sym stepped
      ∙ ap step (waits c rest late_enough)
      ∙ sym (ap (alone spec (came ++ c ∷ rest)) (event-steps d.source.class d s other ∙ add-one s.steps))

  happens : (k : (d.source.class ≡ NextCommand) ⊎ (d.source.class ≢ NextCommand)) → s.ending ≡ None → IsAloneUntil t spec came (event_at d s)
  happens (inl is) going = subst (λ k. IsAloneUntil t spec came (event_of_class k d s)) (sym is) waits
  happens (inr other) going = made going other

  any : (e : Option Ending) → s.ending ≡ e → IsAloneUntil t spec came (if is_some e then s else event_at d s)
  any None going = happens (command-or-not d.source.class) going
  any (Some x) going = waits

pub steps_before_wait : StepsBeforeWait
steps_before_wait t spec came s none waits = any t spec came s none waits s.ending refl

pub commands_come_alone : CommandsComeAlone
commands_come_alone t spec came s c h waits = waits c [] h

pub waits_begin : LaterCommandsWait → WaitsBegin
waits_begin law spec came n t takes c rest h =
    sym (law spec came (c ∷ rest) n takes) ∙ sym (ap (alone spec (came ++ c ∷ rest)) takes)

pub waits_rise : WaitsRise
waits_rise t u spec came s up waits c rest h = waits c rest (omega (arith, up, h))

if-left : (b : Bool) (x y : State) (l : List Timed) → x.left ≡ l → y.left ≡ l → (if b then x else y).left ≡ l
if-left true x y l p q = p
if-left false x y l p q = q

pub count_step-left : (t : State) → (count_step t).left ≡ t.left
count_step-left t =
    let u : State = record t { steps = t.steps + 1 } in
    if-left (is_some t.ending) u (if is_last_step u then spend u else u) t.left refl
    (if-left (is_last_step u) (spend u) u t.left refl refl)

pub commands_go_on : LaterCommandsWait → CommandsGoOn
commands_go_on law t spec came s c none going h settled waits =
    let u : State = with_more (c ∷ []) s in
    let stepped : step u ≡ count_step (take_command c.moment c [] u) =
    (λ i. if is_some (going i) then u else step_with (none i ++ c ∷ []) u)
    ∙ (λ i. count_step (take_due (settled i) c [] u)) in
    let steps : (step u).steps ≡ suc s.steps =
    ap (λ (x : State). x.steps) stepped ∙ count_step-steps (take_command c.moment c [] u) ∙ add-one s.steps in
    let is : step u ≡ alone spec (came ++ c ∷ []) (suc s.steps) = ap step (waits c [] h) in
    let takes : (alone spec (came ++ c ∷ []) (suc s.steps)).steps ≡ suc s.steps =
    ap (λ (x : State). x.steps) (sym is) ∙ steps in
    record {
      none = ap (λ (x : State). x.left) stepped ∙ count_step-left (take_command c.moment c [] u);
      waits = subst (λ x. IsAloneUntil c.moment spec (came ++ c ∷ []) x) (sym is)
          (waits_begin law spec (came ++ c ∷ []) (suc s.steps) c.moment takes);
      alone_is = is ∙ sym (ap (alone spec (came ++ c ∷ [])) steps);
    }

pub event-left : (k : Class) (e : Due) (s : State) → (event_of_class k e s).left ≡ s.left
event-left NextCommand e s = refl
event-left Exit e s = count_step-left (take_event e.moment Exit e.source.number s)
event-left Finish e s = count_step-left (take_event e.moment Finish e.source.number s)
event-left Expiry e s = count_step-left (take_event e.moment Expiry e.source.number s)
event-left Emission e s = count_step-left (take_event e.moment Emission e.source.number s)

module _ (law : RecordsAreNotRead) (t : ℕ) (rs : List Record) (s : State) (none : s.left ≡ []) where
  abbrev least : Due
  least = least_due t (dues_of s.clock s.net)

  abbrev last : Timed
  last = record { moment = t; command = End }

  -- beside a command that is due at the moment, an event is a step
  stepped : (x : State) → x.left ≡ [] → x.ending ≡ None → least_due t (dues_of x.clock x.net) ≡ least →
      least.source.class ≢ NextCommand →
      step (with_more (last ∷ []) x) ≡ with_more (last ∷ []) (event_at least x)
  stepped x nothing going same other =
      (λ i. if is_some (going i) then with_more (last ∷ []) x else step_with (nothing i ++ last ∷ []) (with_more (last ∷ []) x))
      ∙ (λ i. count_step (take_due (same i) last [] (with_more (last ∷ []) x)))
      ∙ event-more least.source.class least last [] x other

  moved : s.ending ≡ None → least.source.class ≢ NextCommand → event_at least (with_earlier rs s) ≡ with_earlier rs (event_at least s)
  moved going other =
      let x : State = event_at least (with_earlier rs s) in
      let y : State = event_at least s in
      let x-left : x.left ≡ [] = event-left least.source.class least (with_earlier rs s) ∙ none in
      let y-left : y.left ≡ [] = event-left least.source.class least s ∙ none in
      let same : with_more (last ∷ []) x ≡ with_earlier rs (with_more (last ∷ []) y) =
      sym (stepped (with_earlier rs s) none going refl other)
      ∙ law rs (with_more (last ∷ []) s)
      ∙ ap (with_earlier rs) (stepped s none going refl other) in
      (λ i. record x { left = x-left i })
      ∙ ap (λ (z : State). record z { left = [] }) same
      ∙ sym (λ i. with_earlier rs (record y { left = y-left i }))

  kept : (k : (least.source.class ≡ NextCommand) ⊎ (least.source.class ≢ NextCommand)) → s.ending ≡ None →
      event_at least (with_earlier rs s) ≡ with_earlier rs (event_at least s)
  kept (inl is) going =
      (λ i. event_of_class (is i) least (with_earlier rs s)) ∙ sym (λ i. with_earlier rs (event_of_class (is i) least s))
  kept (inr other) going = moved going other

  either : (e : Option Ending) → s.ending ≡ e →
      (if is_some e then with_earlier rs s else event_at least (with_earlier rs s))
      ≡ with_earlier rs (if is_some e then s else event_at least s)
  either None going = kept (command-or-not least.source.class) going
  either (Some x) going = refl

pub waits_read_no_records : RecordsAreNotRead → WaitsReadNoRecords
waits_read_no_records law t rs s none = either law t rs s none s.ending refl

pub waits_agree : WaitsAgree
waits_agree t u s up below =
    ap (λ (d : Due). if is_some s.ending then s else event_at d s)
    (lowered u (due NextCommand 0 t) (dues_of s.clock s.net) up below)

not-later : (z x : Due) → is_before z x ≡ true → z.moment ≤ x.moment
not-later z x e = go (or_cases _ _ e)
  where
    go : (nat_lt z.moment x.moment ≡ true) ⊎ ((z.moment == x.moment && (nat_lt (rank z.source.class) (rank x.source.class) || (rank z.source.class == rank x.source.class && nat_lt z.source.number x.source.number))) ≡ true) → z.moment ≤ x.moment
    go (inl h) = let l : z.moment < x.moment = ltb-true z.moment x.moment h in omega arith
    go (inr h) = let l : z.moment ≡ x.moment = eqb-true z.moment x.moment (and_parts _ _ h).0 in omega arith

-- the least beside what is due below a moment is due below it
stays-below : (t : ℕ) (x : Due) (ds : List Due) → x.moment < t → (best_of is_before x ds).moment < t
stays-below t x [] h = h
stays-below t x (z ∷ zs) h = go (is_before z x) refl (λ y k. stays-below t y zs k)
  where
    go : (b : Bool) → is_before z x ≡ b → ((y : Due) → y.moment < t → (best_of is_before y zs).moment < t) →
        (best_of is_before (if is_before z x then z else x) zs).moment < t
    go true e again =
        let l : z.moment ≤ x.moment = not-later z x e in
        let m : z.moment < t = omega (arith, l, h) in
        subst (λ (b : Bool). (best_of is_before (if b then z else x) zs).moment < t) (sym e) (again z m)
    go false e again = subst (λ (b : Bool). (best_of is_before (if b then z else x) zs).moment < t) (sym e) (again x h)

passes-events : (t : ℕ) (ds : List Due) → (best_of is_before (due NextCommand 0 t) ds).source.class ≢ NextCommand →
    (best_of is_before (due NextCommand 0 t) ds).moment < t
passes-events t [] other = absurd (other refl)
passes-events t (z ∷ zs) other = go (is_before z (due NextCommand 0 t)) refl (λ o. passes-events t zs o)
  where
    go : (b : Bool) → is_before z (due NextCommand 0 t) ≡ b →
        ((best_of is_before (due NextCommand 0 t) zs).source.class ≢ NextCommand → (best_of is_before (due NextCommand 0 t) zs).moment < t) →
        (best_of is_before (if is_before z (due NextCommand 0 t) then z else due NextCommand 0 t) zs).moment < t
    go true e again =
        subst (λ (b : Bool). (best_of is_before (if b then z else due NextCommand 0 t) zs).moment < t) (sym e)
        (stays-below t z zs (before-command z t e))
    go false e again =
        subst (λ (b : Bool). (best_of is_before (if b then z else due NextCommand 0 t) zs).moment < t) (sym e)
        (again (λ same. other ((λ i. (best_of is_before (if e i then z else due NextCommand 0 t) zs).source.class) ∙ same)))

pub waits_pass_events : WaitsPassEvents
waits_pass_events t ds other = passes-events t ds other
