-- A command below the moment that is told of an experiment whose steps are spent would have come in place of the last event.
use Rattle.std.proofs.Common.{◌≡◌, None, ℕ, ◌+◌, ◌≤◌, ◌<◌, List, [], ◌∷◌, Bool, true, false, refl, sym, ◌∙◌, ap, arith, subst, inl, inr, ◌⊎◌}
use Rattle.std.specs.Prelude.{if◌then◌else◌, is_some, nat_lt, ◌==◌, ◌&&◌, ◌||◌}
use Rattle.std.specs.List.{best_of}
use Rattle.std.proofs.lemmas.Bool.{ltb-true, ltb-false, eqb-true, and_parts, or_cases, or_parts}
use Rattle.emu_model.specs.declared.sources.Class.{Class}
use Rattle.emu_model.specs.declared.sources.Class.TheVariants.{NextCommand, Exit, Finish, Expiry, Emission}
use Rattle.emu_model.specs.declared.sources.Due.{Due}
use Rattle.emu_model.specs.Dues.{due, dues_of, is_before, least_due, rank}
use Rattle.emu_model.specs.Step.{State, take_event, count_step, spend, is_last_step}
use Rattle.emu_model.specs.RunLaws.{RecordsAreNotRead}
use Rattle.experiment.specs.Waits.{event_of_class, event_at, step_before, CommandsGoOn, WaitsSettle}
use Rattle.experiment.specs.Kept.{shown_ending}
use Rattle.session.specs.Runs.{KeptRun, IsQuiet, state_of}
use Rattle.session.specs.RunLaws.{EarlierCommandsCome}
use Rattle.session.proofs.RunFacts.{comes-next}

-- ---- which due is least
before-le : (z y : Due) → is_before z y ≡ true → z.moment ≤ y.moment
before-le z y e = go (or_cases _ _ e)
  where
    go : (nat_lt z.moment y.moment ≡ true) ⊎ ((z.moment == y.moment && (nat_lt (rank z.source.class) (rank y.source.class) || (rank z.source.class == rank y.source.class && nat_lt z.source.number y.source.number))) ≡ true) → z.moment ≤ y.moment
    go (inl h) = let l : z.moment < y.moment = ltb-true z.moment y.moment h in omega (arith, l)
    go (inr h) = let l : z.moment ≡ y.moment = eqb-true z.moment y.moment (and_parts _ _ h).0 in omega (arith, l)

after-le : (z y : Due) → is_before z y ≡ false → y.moment ≤ z.moment
after-le z y e = ltb-false z.moment y.moment (or_parts _ _ e).0

-- nothing that is due at a command's moment or later is before it
behind : (z : Due) (m : ℕ) → m ≤ z.moment → is_before z (due NextCommand 0 m) ≡ false
behind z m h = go (is_before z (due NextCommand 0 m)) refl
  where
    none : (r n : ℕ) → (nat_lt r 0 || (r == 0 && nat_lt n 0)) ≡ true → ⊥
    none r n e = go2 (or_cases _ _ e)
      where
        go2 : (nat_lt r 0 ≡ true) ⊎ ((r == 0 && nat_lt n 0) ≡ true) → ⊥
        go2 (inl x) = let y : r < 0 = ltb-true r 0 x in omega (arith, y)
        go2 (inr x) = let y : n < 0 = ltb-true n 0 (and_parts (r == 0) (nat_lt n 0) x).1 in omega (arith, y)

    first : (nat_lt z.moment m ≡ true) ⊎ ((z.moment == m && (nat_lt (rank z.source.class) 0 || (rank z.source.class == 0 && nat_lt z.source.number 0))) ≡ true) → ⊥
    first (inl x) = let l : z.moment < m = ltb-true z.moment m x in omega (arith, l, h)
    first (inr x) = none (rank z.source.class) z.source.number (and_parts _ _ x).1

    go : (b : Bool) → is_before z (due NextCommand 0 m) ≡ b → is_before z (due NextCommand 0 m) ≡ false
    go true e = absurd (first (or_cases _ _ e))
    go false e = e

-- the least is no later than any
least-le : (y : Due) (ds : List Due) → (best_of is_before y ds).moment ≤ y.moment
least-le y [] = omega arith
least-le y (z ∷ zs) = go (is_before z y) refl (λ x. least-le x zs)
  where
    go : (b : Bool) → is_before z y ≡ b → ((x : Due) → (best_of is_before x zs).moment ≤ x.moment) →
        (best_of is_before (if is_before z y then z else y) zs).moment ≤ y.moment
    go true e le = let l = before-le z y e in let k = le z in subst (λ x. (best_of is_before (if x then z else y) zs).moment ≤ y.moment) (sym e) (omega (arith, l, k))
    go false e le = subst (λ x. (best_of is_before (if x then z else y) zs).moment ≤ y.moment) (sym e) (le y)

-- a command that is no later than the least is the least beside it
least-command : (m : ℕ) (y : Due) (ds : List Due) → m ≤ (best_of is_before y ds).moment → best_of is_before (due NextCommand 0 m) ds ≡ due NextCommand 0 m
least-command m y [] h = refl
least-command m y (z ∷ zs) h = go (is_before z y) refl (λ x k. least-command m x zs k)
  where
    kept : m ≤ z.moment → best_of is_before (due NextCommand 0 m) zs ≡ due NextCommand 0 m →
        best_of is_before (if is_before z (due NextCommand 0 m) then z else due NextCommand 0 m) zs ≡ due NextCommand 0 m
    kept l is = (λ i. best_of is_before (if behind z m l i then z else due NextCommand 0 m) zs) ∙ is

    go : (b : Bool) → is_before z y ≡ b →
        ((x : Due) → m ≤ (best_of is_before x zs).moment → best_of is_before (due NextCommand 0 m) zs ≡ due NextCommand 0 m) →
        best_of is_before (if is_before z (due NextCommand 0 m) then z else due NextCommand 0 m) zs ≡ due NextCommand 0 m
    go true e again =
        let here : m ≤ (best_of is_before z zs).moment = subst (λ x. m ≤ (best_of is_before (if x then z else y) zs).moment) e h in
        let l = least-le z zs in
        kept (omega (arith, here, l)) (again z here)
    go false e again =
        let here : m ≤ (best_of is_before y zs).moment = subst (λ x. m ≤ (best_of is_before (if x then z else y) zs).moment) e h in
        let l = least-le y zs in
        let k = after-le z y e in
        kept (omega (arith, here, l, k)) (again y here)

-- where the least isn't due below that moment
pub quiet-past : (t : ℕ) (r : KeptRun) → t ≤ (least_due t (dues_of (state_of r).clock (state_of r).net)).moment → IsQuiet t r
quiet-past t r late = least-command t (due NextCommand 0 t) (dues_of (state_of r).clock (state_of r).net) late

-- ---- the moment of an event
if-clock : (b : Bool) (x y : State) (n : ℕ) → x.clock ≡ n → y.clock ≡ n → (if b then x else y).clock ≡ n
if-clock true x y n p q = p
if-clock false x y n p q = q

count_step-clock : (t : State) → (count_step t).clock ≡ t.clock
count_step-clock t =
    let u : State = record t { steps = t.steps + 1 } in
    if-clock (is_some t.ending) u (if is_last_step u then spend u else u) t.clock refl
    (if-clock (is_last_step u) (spend u) u t.clock refl refl)

event-clock : (k : Class) (d : Due) (s : State) → (k ≡ NextCommand → ⊥) → (event_of_class k d s).clock ≡ d.moment
event-clock NextCommand d s other = absurd (other refl)
event-clock Exit d s other = count_step-clock (take_event d.moment Exit d.source.number s)
event-clock Finish d s other = count_step-clock (take_event d.moment Finish d.source.number s)
event-clock Expiry d s other = count_step-clock (take_event d.moment Expiry d.source.number s)
event-clock Emission d s other = count_step-clock (take_event d.moment Emission d.source.number s)

command-or-not : (k : Class) → (k ≡ NextCommand) ⊎ (k ≡ NextCommand → ⊥)
command-or-not NextCommand = inl refl
command-or-not Exit = inr (λ e. absurd (cc))
command-or-not Finish = inr (λ e. absurd (cc))
command-or-not Expiry = inr (λ e. absurd (cc))
command-or-not Emission = inr (λ e. absurd (cc))

-- an event that is made is no later than the least due; where none is, that is the moment that is waited for
within-least : WaitsSettle → (t m : ℕ) (s : State) → s.ending ≡ None → m ≤ t → m ≤ (step_before t s).clock → m ≤ (least_due t (dues_of s.clock s.net)).moment
within-least settle t m s none le below = go (command-or-not d.source.class)
  where
    d : Due
    d = least_due t (dues_of s.clock s.net)

    there : m ≤ (event_at d s).clock
    there = subst (λ o. m ≤ (if is_some o then s else event_at d s).clock) none below

    go : (d.source.class ≡ NextCommand) ⊎ (d.source.class ≡ NextCommand → ⊥) → m ≤ d.moment
    go (inl is) = subst (λ (x : Due). m ≤ x.moment) (sym (settle t s is)) le
    go (inr other) = subst (λ n. m ≤ n) (event-clock d.source.class d s other) there

pub earlier_commands_come : CommandsGoOn → RecordsAreNotRead → WaitsSettle → EarlierCommandsCome
earlier_commands_come goes unread settle t limit earlier r c at going up within below =
    let s : State = state_of r in
    let reached : c.moment ≤ (step_before limit s).clock = omega (arith, up, below) in
    comes-next goes unread t earlier r c at going up
    (least-command c.moment (due NextCommand 0 limit) (dues_of s.clock s.net) (within-least settle limit c.moment s (ap shown_ending going) within reached))
