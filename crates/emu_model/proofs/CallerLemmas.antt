-- For crates above: what a dequeue cuts, the control law's number, where the clock of an experiment goes, the
-- next event against all dues, and orders by one number after another.
use Rattle.std.proofs.Common.{◌≡◌, ℕ, ◌+◌, ◌≤◌, List, [], ◌∷◌, Bool, true, false, refl, sym, subst, ◌∙◌, inl, inr, Option, Some, None, arith}
use Rattle.std.specs.Prelude.{if◌then◌else◌, ◌==◌, ◌&&◌, ◌⊎◌, nat_lt, is_some}
use Rattle.std.specs.List.{AllByRecursion, best_of}
use Rattle.std.proofs.lemmas.Bool.{ltb-true, ltb-false, eqb-true, and_parts, or_cases, or_parts}
use Rattle.emu_model.specs.Types.{Timed, Class, NextCommand, Exit, Finish, Expiry, Emission, Ending}
use Rattle.emu_model.specs.declared.sources.Due.{Due}
use Rattle.emu_model.specs.Dues.{due, dues_of, is_before}
use Rattle.emu_model.specs.Step.{State, take_class, take_due, count_step, spend, is_last_step, next_event, step_with, step}
pub use Rattle.emu_model.proofs.ControlRoot.{control_step_is}
pub use Rattle.emu_model.proofs.FirstBy.{first_by, first_by-order, NotBefore, not_before, both_ways_equal}
pub use Rattle.emu_model.proofs.Cuts.{IsCut, codel_dequeue-cut}
pub use Rattle.emu_model.proofs.Renamed.{bytes-renamed, renamed_dequeue}
pub use Rattle.emu_model.proofs.Disciplines.{dequeue-cut, dequeue-renamed, lone_dequeue, none_dropped}

before-le : (a b : Due) → is_before a b ≡ true → a.moment ≤ b.moment
before-le a b e = go _ (or_cases _ _ e)
  where
    go : (later : Bool) → (nat_lt a.moment b.moment ≡ true) ⊎ ((a.moment == b.moment && later) ≡ true) →
        a.moment ≤ b.moment
    go later (inl h) = omega (arith, ltb-true a.moment b.moment h)
    go later (inr h) = omega (arith, eqb-true a.moment b.moment (and_parts _ _ h).0)

not_before-le : (a b : Due) → is_before a b ≡ false → b.moment ≤ a.moment
not_before-le a b e = ltb-false a.moment b.moment (or_parts _ _ e).0

-- the earlier of two is due no later than either
earlier-le : (x a : Due) → let d = if is_before x a then x else a in
    (d.moment ≤ x.moment) × (d.moment ≤ a.moment)
earlier-le x a = go (is_before x a) refl
  where
    go : (b : Bool) → is_before x a ≡ b →
        let d = if b then x else a in (d.moment ≤ x.moment) × (d.moment ≤ a.moment)
    go true e = (omega arith, before-le x a e)
    go false e = (not_before-le x a e, omega arith)

best-le : (a : Due) (ds : List Due) → (best_of is_before a ds).moment ≤ a.moment
best-le a [] = omega arith
best-le a (x ∷ xs) =
    let d : Due = if is_before x a then x else a in
    omega (arith, best-le d xs, (earlier-le x a).1)

best-each : (a : Due) (ds : List Due) →
    AllByRecursion (λ d. (best_of is_before a ds).moment ≤ d.moment) ds
best-each a [] = tt
best-each a (x ∷ xs) =
    let d : Due = if is_before x a then x else a in
    (omega (arith, best-le d xs, (earlier-le x a).0), best-each d xs)

-- what holds of a due and of all others holds of the least of them
pub of_best : (P : Due → Type 0) (a : Due) (ds : List Due) → P a → AllByRecursion P ds →
    P (best_of is_before a ds)
of_best P a [] p q = p
of_best P a (x ∷ xs) p q = of_best P (if is_before x a then x else a) xs (go (is_before x a)) q.1
  where
    go : (b : Bool) → P (if b then x else a)
    go true = q.0
    go false = p

-- what holds of the next command's due and of all others holds of the next event
pub of_next_event : (P : Due → Type 0) (s : State) (c : Timed) → P (due NextCommand 0 c.moment) →
    AllByRecursion P (dues_of s.clock s.net) → P (next_event s c)
of_next_event P s c p q = of_best P (due NextCommand 0 c.moment) (dues_of s.clock s.net) p q

-- the next event comes no later than the next command
pub next_event_by_command : (s : State) (c : Timed) → (next_event s c).moment ≤ c.moment
next_event_by_command s c = best-le (due NextCommand 0 c.moment) (dues_of s.clock s.net)

-- the next event comes no later than anything that is due
pub next_event_by_dues : (s : State) (c : Timed) →
    AllByRecursion (λ d. (next_event s c).moment ≤ d.moment) (dues_of s.clock s.net)
next_event_by_dues s c = best-each (due NextCommand 0 c.moment) (dues_of s.clock s.net)

-- the next event comes no earlier than the next command and all dues
pub next_event_from : (m : ℕ) (s : State) (c : Timed) → m ≤ c.moment →
    AllByRecursion (λ d. m ≤ d.moment) (dues_of s.clock s.net) → m ≤ (next_event s c).moment
next_event_from m s c p q = of_next_event (λ d. m ≤ d.moment) s c p q

count_step-clock : (t : State) → (count_step t).clock ≡ t.clock
count_step-clock t =
    let u : State = record t { steps = t.steps + 1 } in
    choice (is_some t.ending) u (if is_last_step u then spend u else u) refl
    (choice (is_last_step u) (spend u) u refl refl)
  where
    choice : (b : Bool) (x y : State) → x.clock ≡ t.clock → y.clock ≡ t.clock →
        (if b then x else y).clock ≡ t.clock
    choice true x y p q = p
    choice false x y p q = q

take_class-clock : (class : Class) (e : Due) (c : Timed) (rest : List Timed) (s : State) →
    (take_class class e c rest s).clock ≡ e.moment
take_class-clock NextCommand e c rest s = refl
take_class-clock Exit e c rest s = refl
take_class-clock Finish e c rest s = refl
take_class-clock Expiry e c rest s = refl
take_class-clock Emission e c rest s = refl

-- a step of a state that goes on sets the clock to the moment of the next event
pub step_moves_clock : (s : State) (c : Timed) (rest : List Timed) → s.ending ≡ None →
    s.left ≡ c ∷ rest → (step s).clock ≡ (next_event s c).moment
step_moves_clock s c rest e l = go s.ending e
  where
    e' : Due
    e' = next_event s c

    moved : (step_with (c ∷ rest) s).clock ≡ e'.moment
    moved = count_step-clock (take_due e' c rest s) ∙ take_class-clock e'.source.class e' c rest s

    go : (o : Option Ending) → o ≡ None → (if is_some o then s else step_with s.left s).clock ≡ e'.moment
    go None h = subst (λ x. (step_with x s).clock ≡ e'.moment) (sym l) moved
    go (Some x) h = absurd (cc h)

-- a state that has ended, or has no next command, stands still
pub step_stands_still : (s : State) (x : Ending) → s.ending ≡ Some x → step s ≡ s
step_stands_still s x e = go s.ending e
  where
    go : (o : Option Ending) → o ≡ Some x → (if is_some o then s else step_with s.left s) ≡ s
    go None h = absurd (cc h)
    go (Some y) h = refl
