-- What has been read so far, against the lines before.
use Rattle.std.proofs.Common.{◌≡◌, ◌⊎◌, inl, inr, ℕ, ◌<◌, ◌≤◌, Bool, true, false, ◌||◌, cond, eqb, ltb, List, [], ◌∷◌, ◌++◌, length, Option, Some, None, Result, Ok, Err, refl, sym, ap, subst, ◌∙◌, arith, length-append}
use Rattle.std.specs.Prelude.{nat_le, option_map, is_some}
use Rattle.std.specs.List.{list_any}
use Rattle.std.specs.Str.{bytes_eq}
use Rattle.std.proofs.lemmas.Bool.{ltb-true, leb-true, eqb-true, lt-ltb, le-leb}
use Rattle.std.proofs.lemmas.List.Folds.{list_any-append}
use Rattle.emu_model.specs.declared.commands.Spec.{Spec}
use Rattle.emu_model.specs.declared.commands.Timed.{Timed}
use Rattle.control_lines.specs.Entries.{Entry, Nothing, Begins, Does}
use Rattle.control.specs.declared.fault.Cause.{Cause}
use Rattle.control.specs.declared.fault.Cause.TheVariants.{NoEnd, TooMany, SameName, NoExperiment, AfterEnd, Backwards}
use Rattle.control.specs.declared.scenario.Experiment.{Experiment}
use Rattle.emu_model.specs.Commands.{is_end, has_end}
use Rattle.control.specs.Scenario.{names, commands, IsRunning, FaultsBegin, FaultsDo, FaultsEntry, rank, begun, with_command, with_last, experiments}
use Rattle.control.specs.Steps.{Sofar, has_name, begin, add, step}

pub record Names (done : List Experiment) (ns : List (List ℕ)) : Type 0 where
  pub any : (n : List ℕ) → list_any (has_name n) done ≡ list_any (λ o. bytes_eq o n) ns
  pub count : length done ≡ length ns

abbrev pub first_moment : List Timed → ℕ
first_moment [] = 0
first_moment (c ∷ cs) = c.moment

pub record Idle (done : List Experiment) (before : List Entry) : Type 0 where
  pub known : Names done (names before)
  pub past : ((commands before ≡ None) × (length done ≡ 0)) ⊎ ((cs : List Timed) × (commands before ≡ Some cs) × (has_end cs ≡ true) × (0 < length done))
  pub said : experiments before ≡ done

pub record Busy (done : List Experiment) (e : Experiment) (latest : ℕ) (before : List Entry) : Type 0 where
  pub others : List (List ℕ)
  pub all : names before ≡ e.name ∷ others
  pub known : Names done others
  pub cs : List Timed
  pub are : commands before ≡ Some cs
  pub unended : has_end cs ≡ false
  pub last : latest ≡ first_moment cs
  pub said : experiments before ≡ done ++ e ∷ []

abbrev pub MatchesAt : List Experiment → Option Experiment → ℕ → List Entry → Type 0
MatchesAt done None latest before = Idle done before
MatchesAt done (Some e) latest before = Busy done e latest before

abbrev pub Matches : Sofar → List Entry → Type 0
Matches s before = MatchesAt s.done s.running s.latest before

pub nothing_before : Idle [] []
nothing_before = record { known = record { any = λ n. refl; count = refl }; past = inl (refl, refl); said = refl }

-- the step's result, in the words of the definition
abbrev pub Told : List Entry → Entry → Result Sofar Cause → Type 0
Told before e (Err c) = FaultsEntry c before e
Told before e (Ok t) = Matches t (e ∷ before)

skipped : (done : List Experiment) (running : Option Experiment) (latest : ℕ) (before : List Entry) → MatchesAt done running latest before → MatchesAt done running latest (Nothing ∷ before)
skipped done None latest before m = record { known = m.known; past = m.past; said = m.said }
skipped done (Some e) latest before m = record { others = m.others; all = m.all; known = m.known; cs = m.cs; are = m.are; unended = m.unended; last = m.last; said = m.said }

began_named : (done : List Experiment) (before : List Entry) (name : List ℕ) (spec : Spec) → Idle done before → (b : Bool) → list_any (has_name name) done ≡ b → Told before (Begins name spec) (cond b (Err SameName) (Ok (record { done = done; running = Some (begun name spec); latest = 0 })))
began_named done before name spec m true e = sym (m.known.any name) ∙ e
began_named done before name spec m false e = record { others = names before; all = refl; known = m.known; cs = []; are = refl; unended = refl; last = refl; said = ap (λ (x : List Experiment). x ++ begun name spec ∷ []) m.said }

began_many : (done : List Experiment) (before : List Entry) (name : List ℕ) (spec : Spec) → Idle done before → (b : Bool) → nat_le 256 (length done) ≡ b → Told before (Begins name spec) (cond b (Err TooMany) (cond (list_any (has_name name) done) (Err SameName) (Ok (record { done = done; running = Some (begun name spec); latest = 0 }))))
began_many done before name spec m true e = omega (arith, leb-true 256 (length done) e, m.known.count)
began_many done before name spec m false e = began_named done before name spec m (list_any (has_name name) done) refl

began : (done : List Experiment) (running : Option Experiment) (latest : ℕ) (before : List Entry) (name : List ℕ) (spec : Spec) → MatchesAt done running latest before → Told before (Begins name spec) (begin (record { done = done; running = running; latest = latest }) name spec)
unfolding begin
began done (Some e) latest before name spec m = (m.cs, m.are, m.unended)
began done None latest before name spec m = began_many done before name spec m (nat_le 256 (length done)) refl

idle_at : (done : List Experiment) (before : List Entry) (c : Timed) → Idle done before → (b : Bool) → eqb (length done) 0 ≡ b → Told before (Does c) (cond b (Err NoExperiment) (Err AfterEnd))
idle_at done before c m true e = elim m.past [
  | inl p ↦ p.0
  | inr q ↦ let zero : length done ≡ 0 = eqb-true (length done) 0 e in absurd (omega (arith, q.3))
]
idle_at done before c m false e = elim m.past [
  | inl p ↦ let t : eqb 0 0 ≡ false = subst (λ (k : ℕ). eqb k 0 ≡ false) p.1 e in absurd cc
  | inr q ↦ (q.0, q.1, q.2)
]

back_at : (before : List Entry) (c : Timed) (cs : List Timed) → commands before ≡ Some cs → c.moment < first_moment cs → FaultsDo Backwards before c
back_at before c [] are lt = absurd (omega arith)
back_at before c (last ∷ cs) are lt = (last, cs, are, lt)

or_end : (a b c : Bool) → c ≡ b → (c || (a || false)) ≡ (a || b)
or_end true true c e = rw e refl
or_end true false c e = rw e refl
or_end false true c e = rw e refl
or_end false false c e = rw e refl

ended_names : (done : List Experiment) (e : Experiment) (latest : ℕ) (c : Timed) (before : List Entry) (m : Busy done e latest before) → Names (done ++ with_command e c ∷ []) (names before)
ended_names done e latest c before m = record {
  any = λ n. list_any-append (has_name n) done (with_command e c ∷ []) ∙ or_end (bytes_eq e.name n) (list_any (λ o. bytes_eq o n) m.others) (list_any (has_name n) done) (m.known.any n) ∙ ap (list_any (λ o. bytes_eq o n)) (sym m.all);
  count = omega (arith, length-append done (with_command e c ∷ []), m.known.count, ap length m.all);
}

pub with_last_is : (done : List Experiment) (e : Experiment) (c : Timed) → with_last (done ++ e ∷ []) c ≡ done ++ with_command e c ∷ []
with_last_is [] e c = refl
with_last_is (x ∷ []) e c = refl
with_last_is (x ∷ y ∷ more) e c = ap (λ (l : List Experiment). x ∷ l) (with_last_is (y ∷ more) e c)

added_end : (done : List Experiment) (e : Experiment) (latest : ℕ) (before : List Entry) (c : Timed) → Busy done e latest before → (b : Bool) → is_end c.command ≡ b → Told before (Does c) (cond b (Ok (record { done = done ++ with_command e c ∷ []; running = None; latest = c.moment })) (Ok (record { done = done; running = Some (with_command e c); latest = c.moment })))
added_end done e latest before c m true end = record {
  known = ended_names done e latest c before m;
  past = inr (c ∷ m.cs, ap (option_map (λ cs. c ∷ cs)) m.are, ap (λ b. b || has_end m.cs) end, omega (arith, length-append done (with_command e c ∷ [])));
  said = ap (λ (x : List Experiment). with_last x c) m.said ∙ with_last_is done e c;
}
added_end done e latest before c m false end = record {
  others = m.others;
  all = m.all;
  known = m.known;
  cs = c ∷ m.cs;
  are = ap (option_map (λ cs. c ∷ cs)) m.are;
  unended = ap (λ b. b || has_end m.cs) end ∙ m.unended;
  last = refl;
  said = ap (λ (x : List Experiment). with_last x c) m.said ∙ with_last_is done e c;
}

added_at : (done : List Experiment) (e : Experiment) (latest : ℕ) (before : List Entry) (c : Timed) → Busy done e latest before → (b : Bool) → ltb c.moment latest ≡ b → Told before (Does c) (cond b (Err Backwards) (cond (is_end c.command) (Ok (record { done = done ++ with_command e c ∷ []; running = None; latest = c.moment })) (Ok (record { done = done; running = Some (with_command e c); latest = c.moment }))))
added_at done e latest before c m true lt = back_at before c m.cs m.are (omega (arith, ltb-true c.moment latest lt, m.last))
added_at done e latest before c m false lt = added_end done e latest before c m (is_end c.command) refl

added : (done : List Experiment) (running : Option Experiment) (latest : ℕ) (before : List Entry) (c : Timed) → MatchesAt done running latest before → Told before (Does c) (add (record { done = done; running = running; latest = latest }) c)
unfolding add
added done None latest before c m = idle_at done before c m (eqb (length done) 0) refl
added done (Some e) latest before c m = added_at done e latest before c m (ltb c.moment latest) refl

-- a step's cause stands, and a step that passes leaves what the lines say
pub told : (s : Sofar) (before : List Entry) (e : Entry) → Matches s before → Told before e (step s e)
told s before Nothing m = skipped s.done s.running s.latest before m
told s before (Begins name spec) m = began s.done s.running s.latest before name spec m
told s before (Does c) m = added s.done s.running s.latest before c m

-- ---- where a cause stands, the step fails by it or by one before it
abbrev pub Seen : Result Sofar Cause → ℕ → Type 0
Seen r k = (c : Cause) × (r ≡ Err c) × (rank c ≤ k)

none_some : {A : Type 0} (x : A) → None ≡ Some x → ⊥
none_some x e = cc

same_some : {A : Type 0} (x y : A) → Some x ≡ Some y → x ≡ y
same_some x y e = cc

true_false : true ≡ false → ⊥
true_false e = cc

unended_idle : (done : List Experiment) (before : List Entry) → Idle done before → IsRunning before → ⊥
unended_idle done before m r = elim m.past [
  | inl p ↦ none_some r.0 (sym p.0 ∙ r.1)
  | inr q ↦ true_false (sym q.2 ∙ ap has_end (same_some q.0 r.0 (sym q.1 ∙ r.1)) ∙ r.2)
]

named_seen : (done : List Experiment) (name : List ℕ) (spec : Spec) (b : Bool) → b ≡ true → Seen (cond b (Err SameName) (Ok (record { done = done; running = Some (begun name spec); latest = 0 }))) 8
named_seen done name spec true e = (SameName, refl, omega arith)
named_seen done name spec false e = absurd cc

many_or_named : (done : List Experiment) (name : List ℕ) (spec : Spec) (a b : Bool) → b ≡ true → Seen (cond a (Err TooMany) (cond b (Err SameName) (Ok (record { done = done; running = Some (begun name spec); latest = 0 })))) 8
many_or_named done name spec true b e = (TooMany, refl, omega arith)
many_or_named done name spec false b e = named_seen done name spec b e

begin_seen : (done : List Experiment) (running : Option Experiment) (latest : ℕ) (before : List Entry) (name : List ℕ) (spec : Spec) (c : Cause) → MatchesAt done running latest before → FaultsBegin c before name → Seen (begin (record { done = done; running = running; latest = latest }) name spec) (rank c)
unfolding begin
begin_seen done (Some e) latest before name spec NoEnd m h = (NoEnd, refl, omega arith)
begin_seen done (Some e) latest before name spec TooMany m h = (NoEnd, refl, omega arith)
begin_seen done (Some e) latest before name spec SameName m h = (NoEnd, refl, omega arith)
begin_seen done None latest before name spec NoEnd m h = absurd (unended_idle done before m h)
begin_seen done None latest before name spec TooMany m h =
    let many : nat_le 256 (length done) ≡ true = le-leb 256 (length done) (omega (arith, h, m.known.count)) in
    rw many (TooMany, refl, omega arith)
begin_seen done None latest before name spec SameName m h = many_or_named done name spec (nat_le 256 (length done)) (list_any (has_name name) done) (m.known.any name ∙ h)
begin_seen done running latest before name spec _ m h = absurd h

idle_first : (done : List Experiment) (before : List Entry) → Idle done before → commands before ≡ None → Seen (cond (eqb (length done) 0) (Err NoExperiment) (Err AfterEnd)) 9
idle_first done before m e = elim m.past [
  | inl p ↦ rw p.1 (NoExperiment, refl, omega arith)
  | inr q ↦ absurd (none_some q.0 (sym e ∙ q.1))
]

idle_any : (k : ℕ) (b : Bool) → 10 ≤ k → Seen (cond b (Err NoExperiment) (Err AfterEnd)) k
idle_any k true le = (NoExperiment, refl, omega (arith, le))
idle_any k false le = (AfterEnd, refl, le)

back_seen : (c : Timed) (latest : ℕ) (r : Result Sofar Cause) → c.moment < latest → Seen (cond (ltb c.moment latest) (Err Backwards) r) 11
back_seen c latest r lt = let t : ltb c.moment latest ≡ true = lt-ltb c.moment latest lt in rw t (Backwards, refl, omega arith)

add_seen : (done : List Experiment) (running : Option Experiment) (latest : ℕ) (before : List Entry) (c : Timed) (cause : Cause) → MatchesAt done running latest before → FaultsDo cause before c → Seen (add (record { done = done; running = running; latest = latest }) c) (rank cause)
unfolding add
add_seen done None latest before c NoExperiment m h = idle_first done before m h
add_seen done None latest before c AfterEnd m h = idle_any 10 (eqb (length done) 0) (omega arith)
add_seen done None latest before c Backwards m h = idle_any 11 (eqb (length done) 0) (omega arith)
add_seen done (Some e) latest before c NoExperiment m h = absurd (none_some m.cs (sym h ∙ m.are))
add_seen done (Some e) latest before c AfterEnd m h = absurd (true_false (sym h.2 ∙ ap has_end (same_some h.0 m.cs (sym h.1 ∙ m.are)) ∙ m.unended))
add_seen done (Some e) latest before c Backwards m h = back_seen c latest _ (omega (arith, h.3, m.last, ap first_moment (same_some m.cs (h.0 ∷ h.1) (sym m.are ∙ h.2))))
add_seen done running latest before c _ m h = absurd h

pub seen : (s : Sofar) (before : List Entry) (e : Entry) (c : Cause) → Matches s before → FaultsEntry c before e → Seen (step s e) (rank c)
seen s before Nothing c m h = absurd h
seen s before (Begins name spec) c m h = begin_seen s.done s.running s.latest before name spec c m h
seen s before (Does t) c m h = add_seen s.done s.running s.latest before t c m h

-- ---- at the end of the text
busy_at : (done : List Experiment) (running : Option Experiment) (latest : ℕ) (before : List Entry) → MatchesAt done running latest before → is_some running ≡ true → IsRunning before
busy_at done None latest before m e = absurd cc
busy_at done (Some x) latest before m e = (m.cs, m.are, m.unended)

pub busy_runs : (s : Sofar) (before : List Entry) → Matches s before → is_some s.running ≡ true → IsRunning before
busy_runs s before m e = busy_at s.done s.running s.latest before m e

idle_is : (done : List Experiment) (running : Option Experiment) (latest : ℕ) (before : List Entry) → MatchesAt done running latest before → is_some running ≡ false → Idle done before
idle_is done None latest before m e = m
idle_is done (Some x) latest before m e = absurd cc

pub idle_ends : (s : Sofar) (before : List Entry) → Matches s before → is_some s.running ≡ false → (IsRunning before → ⊥) × (experiments before ≡ s.done)
idle_ends s before m e =
    let i = idle_is s.done s.running s.latest before m e in
    (unended_idle s.done before i, i.said)
