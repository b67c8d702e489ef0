-- Two worlds agree on a name.
use Rattle.std.proofs.Common.{zero, suc, ◌≡◌, ℕ, ◌+◌, ◌-◌, ◌≤◌, Bool, true, false, List, [], ◌∷◌, ◌++◌, refl, sym, ap, ◌∙◌, arith, subst, inl, inr}
use Rattle.std.specs.Prelude.{◌⊎◌, if◌then◌else◌, is_some}
use Rattle.std.proofs.lemmas.List.{append-nil, append_assoc}
use Rattle.emu_model.specs.declared.commands.Spec.{Spec}
use Rattle.emu_model.specs.declared.commands.Timed.{Timed}
use Rattle.emu_model.specs.declared.records.Record.{Record}
use Rattle.emu_model.specs.declared.sources.Class.{Class}
use Rattle.emu_model.specs.declared.sources.Class.TheVariants.{NextCommand, Exit, Finish, Expiry, Emission}
use Rattle.emu_model.specs.declared.sources.Due.{Due}
use Rattle.emu_model.specs.Step.{State, step, step_with, count_step, take_class, take_due, is_last_step, spend, next_event}
use Rattle.emu_model.specs.Net.{counters_of}
use Rattle.emu_model.specs.Alone.{alone}
use Rattle.emu_model.specs.RunLaws.{IsExtendedBy, RecordsGrow, LaterCommandsWait, TakesSteps}
use Rattle.world.specs.Tenants.{Shown, shown}
use Rattle.world.specs.Places.{Places}
use Rattle.world.specs.Kept.{IsAlone, IsKept, IsWorld, AreFollowedBy, AgreeUpTo, AgreeOnNames}

-- a step counts at most one
if-steps : (b : Bool) (x y : State) (n : ℕ) → x.steps ≡ n → y.steps ≡ n → (if b then x else y).steps ≡ n
if-steps true x y n p q = p
if-steps false x y n p q = q

count-steps : (t : State) → (count_step t).steps ≡ t.steps + 1
count-steps t =
    let u : State = record t { steps = t.steps + 1 } in
    if-steps (is_some t.ending) u (if is_last_step u then spend u else u) (t.steps + 1) refl
    (if-steps (is_last_step u) (spend u) u (t.steps + 1) refl refl)

class-steps : (class : Class) (e : Due) (c : Timed) (rest : List Timed) (s : State) → (take_class class e c rest s).steps ≡ s.steps
class-steps NextCommand e c rest s = refl
class-steps Exit e c rest s = refl
class-steps Finish e c rest s = refl
class-steps Expiry e c rest s = refl
class-steps Emission e c rest s = refl

with-steps : (l : List Timed) (s : State) → (step_with l s).steps ≤ s.steps + 1
with-steps [] s = omega arith
with-steps (c ∷ rest) s =
    let e : Due = next_event s c in
    let a : (step_with (c ∷ rest) s).steps ≡ (take_due e c rest s).steps + 1 = count-steps (take_due e c rest s) in
    let b : (take_due e c rest s).steps ≡ s.steps = class-steps e.source.class e c rest s in
    omega (arith, a, b)

step-steps : (s : State) → (step s).steps ≤ s.steps + 1
step-steps s = go (is_some s.ending)
  where
    go : (b : Bool) → (if b then s else step_with s.left s).steps ≤ s.steps + 1
    go true = omega arith
    go false = with-steps s.left s

-- no more steps are made than were asked for
few-steps : (spec : Spec) (c : List Timed) (n : ℕ) → (alone spec c n).steps ≤ n
few-steps spec c zero = omega arith
few-steps spec c (suc n) = omega (arith, few-steps spec c n, step-steps (alone spec c n))

-- who takes n steps without standing still takes each lesser number
takes-less : (spec : Spec) (c : List Timed) (n k : ℕ) → TakesSteps spec c (n + k) → TakesSteps spec c n
takes-less spec c n zero h = let e : n + 0 ≡ n = omega arith in subst (TakesSteps spec c) e h
takes-less spec c n (suc k) h =
    let e : n + suc k ≡ suc (n + k) = omega arith in
    let h' : (alone spec c (suc (n + k))).steps ≡ suc (n + k) = subst (TakesSteps spec c) e h in
    takes-less spec c n k (omega (arith, h', few-steps spec c (n + k), step-steps (alone spec c (n + k))))

-- records after more steps begin with those after fewer
grow : RecordsGrow → (spec : Spec) (c : List Timed) (n k : ℕ) → IsExtendedBy (alone spec c n).net.records (alone spec c (n + k)).net.records
grow law spec c n zero =
    let e : n + 0 ≡ n = omega arith in
    ([], ap (λ m. (alone spec c m).net.records) e ∙ sym (append-nil (alone spec c n).net.records))
grow law spec c n (suc k) =
    let f = grow law spec c n k in
    let g = law spec c (n + k) in
    let e : n + suc k ≡ (n + k) + 1 = omega arith in
    (f.0 ++ g.0, ap (λ m. (alone spec c m).net.records) e ∙ g.1 ∙ ap (λ l. l ++ g.0) f.1 ∙ append_assoc (alone spec c n).net.records f.0 g.0)

-- what later commands leave of the records
waits : LaterCommandsWait → (spec : Spec) (c d more : List Timed) (n : ℕ) → d ≡ c ++ more → TakesSteps spec c n → (alone spec d n).net.records ≡ (alone spec c n).net.records
waits law spec c d more n e h =
    ap (λ l. (alone spec l n).net.records) e ∙ ap (λ (s : State). s.net.records) (law spec c more n h)

-- and of the counters
waits-counters : LaterCommandsWait → (spec : Spec) (c d more : List Timed) (n : ℕ) → d ≡ c ++ more → TakesSteps spec c n → counters_of (alone spec d n).net ≡ counters_of (alone spec c n).net
waits-counters law spec c d more n e h =
    ap (λ l. counters_of (alone spec l n).net) e ∙ ap (λ (s : State). counters_of s.net) (law spec c more n h)

-- how far two records go
pub record Told (v : Shown) : Type 0 where
  pub is_alone : IsAlone v
  pub takes : TakesSteps v.spec v.commands v.events

extended : (xs ys zs : List Record) → ys ≡ xs → IsExtendedBy xs zs → IsExtendedBy ys zs
extended xs ys zs e f = (f.0, f.1 ∙ ap (λ l. l ++ f.0) (sym e))

-- the commands of one are the first of the other's
agree_first : RecordsGrow → LaterCommandsWait → (v w : Shown) → Told v → Told w → v.spec ≡ w.spec → AreFollowedBy v.commands w.commands → AgreeUpTo v w
agree_first grows later v w a b spec c = record {
  fewer = λ le. fewer (w.events - v.events) (omega (arith, le));
  more = λ le. more (v.events - w.events) (omega (arith, le));
  as_many = λ e. (
    a.is_alone.records ∙ sym (waits later v.spec v.commands w.commands c.0 v.events c.1 a.takes) ∙ ap (λ n. (alone v.spec w.commands n).net.records) e ∙ ap (λ s. (alone s w.commands w.events).net.records) spec ∙ sym b.is_alone.records,
    a.is_alone.counters ∙ sym (waits-counters later v.spec v.commands w.commands c.0 v.events c.1 a.takes) ∙ ap (λ n. counters_of (alone v.spec w.commands n).net) e ∙ ap (λ s. counters_of (alone s w.commands w.events).net) spec ∙ sym b.is_alone.counters,
  );
}
  where
    its : w.records ≡ (alone v.spec w.commands w.events).net.records
    its = b.is_alone.records ∙ ap (λ s. (alone s w.commands w.events).net.records) (sym spec)

    fewer : (k : ℕ) → w.events ≡ v.events + k → IsExtendedBy v.records w.records
    fewer k e =
        let g = grow grows v.spec w.commands v.events k in
        let same : v.records ≡ (alone v.spec w.commands v.events).net.records = a.is_alone.records ∙ sym (waits later v.spec v.commands w.commands c.0 v.events c.1 a.takes) in
        (g.0, its ∙ ap (λ n. (alone v.spec w.commands n).net.records) e ∙ g.1 ∙ ap (λ l. l ++ g.0) (sym same))

    more : (k : ℕ) → v.events ≡ w.events + k → IsExtendedBy w.records v.records
    more k e =
        let g = grow grows v.spec v.commands w.events k in
        let takes : TakesSteps v.spec v.commands w.events = takes-less v.spec v.commands w.events k (subst (TakesSteps v.spec v.commands) e a.takes) in
        let same : w.records ≡ (alone v.spec v.commands w.events).net.records = its ∙ waits later v.spec v.commands w.commands c.0 w.events c.1 takes in
        (g.0, a.is_alone.records ∙ ap (λ n. (alone v.spec v.commands n).net.records) e ∙ g.1 ∙ ap (λ l. l ++ g.0) (sym same))

agree : RecordsGrow → LaterCommandsWait → (v w : Shown) → Told v → Told w → v.spec ≡ w.spec → AreFollowedBy v.commands w.commands ⊎ AreFollowedBy w.commands v.commands → AgreeUpTo v w
agree grows later v w a b spec (inl c) = agree_first grows later v w a b spec c
agree grows later v w a b spec (inr c) =
    let o : AgreeUpTo w v = agree_first grows later w v b a (sym spec) c in
    record { fewer = o.more; more = o.fewer; as_many = λ e. (let x = o.as_many (sym e) in (sym x.0, sym x.1)) }

pub agree_on_names : RecordsGrow → LaterCommandsWait → (one other : Places) → IsWorld one → IsWorld other → AgreeOnNames one other
agree_on_names grows later one other h k n m s t a b spec c =
    let x : IsKept n s = h.each n s a in
    let y : IsKept m t = k.each m t b in
    agree grows later (shown s.life) (shown t.life) (record { is_alone = x.is_alone; takes = x.takes }) (record { is_alone = y.is_alone; takes = y.takes }) spec c
