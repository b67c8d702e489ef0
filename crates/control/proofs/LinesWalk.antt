-- The lines one after the other: what is found of the rest is found of all.
use Rattle.std.proofs.Common.{IfOk, IfErr, ◌≡◌, ◌⊎◌, inl, inr, ℕ, ◌+◌, ◌<◌, ◌≤◌, Bool, true, false, cond, eqb, List, [], ◌∷◌, length, None, Result, Ok, Err, refl, sym, ap, subst, ◌∙◌, arith}
use Rattle.std.specs.Prelude.{is_some}
use Rattle.std.specs.List.{onto_first}
use Rattle.std.proofs.lemmas.Bool.{eqb-true}
use Rattle.std.proofs.lemmas.List.{nil_from_length}
use Rattle.control_words.specs.Text.{lines}
use Rattle.control_lines.specs.Entries.{Entry, Nothing, Begins, Does, Says, StandsAlone, place, IsFirstAlone, IsEntry}
use Rattle.control_lines.specs.declared.line.LineFault.{LineFault}
use Rattle.control_lines.specs.declared.line.LineFault.TheVariants as alone
use Rattle.control.specs.declared.fault.Cause.{Cause}
use Rattle.control.specs.declared.fault.Cause.TheVariants.{TooBig, Cut, TooLong, BadByte, BadWord, OutOfRange, NoEnd, TooMany, SameName, NoExperiment, AfterEnd, Backwards}
use Rattle.control.specs.declared.fault.Fault.{Fault}
use Rattle.control.specs.declared.fault.LineError.{LineError}
use Rattle.control.specs.declared.fault.LineError.TheVariants as line_error
use Rattle.control.specs.declared.fault.ParseError.TheVariants as errors
use Rattle.control.specs.declared.scenario.Experiment.{Experiment}
use Rattle.control.specs.Scenario.{FaultsEntry, Stands, rank, IsFirst, IsFine, IsFault, AreSpelled, Spells, Grows, NeedRoom}
use Rattle.control.specs.Steps.{cause_in_line, error_at, Sofar, step}
use Rattle.control.specs.Builder.{Passes, GivesStep, OnMemory, Taken}
use Rattle.control.specs.Answer.{Answer, IsFaultOf, IsFound, IsReading}
use Rattle.control.proofs.LinesRead.{Matches, Told, told, seen, busy_runs, idle_ends, nothing_before}

-- ---- one line
abbrev failed : Cause → Result Sofar Cause
failed c = Err c

abbrev passed : Sofar → Result Sofar Cause
passed t = Ok t

same_cause : (a b : Cause) → failed a ≡ failed b → a ≡ b
same_cause a b e = cc

no_cause : (a : Cause) (t : Sofar) → failed a ≡ passed t → ⊥
no_cause a t e = cc

stands_by : (c : Cause) (before : List Entry) (line : List ℕ) (e : Entry) → Says line e → FaultsEntry c before e → Stands c before line
stands_by NoEnd before line e says h = (e, says, h)
stands_by TooMany before line e says h = (e, says, h)
stands_by SameName before line e says h = (e, says, h)
stands_by NoExperiment before line e says h = (e, says, h)
stands_by AfterEnd before line e says h = (e, says, h)
stands_by Backwards before line e says h = (e, says, h)
stands_by c before line Nothing says h = absurd h
stands_by c before line (Begins name spec) says h = absurd h
stands_by c before line (Does t) says h = absurd h

-- in a line that says e alone, a cause that stands is one of the order
order_of : (line : List ℕ) (before : List Entry) (e : Entry) (c : Cause) → IsEntry line e → Stands c before line → FaultsEntry c before e
order_of line before e TooBig i h = absurd h
order_of line before e Cut i h = absurd h
order_of line before e TooLong i h = absurd (i.fine alone.TooLong h)
order_of line before e BadByte i h = absurd (i.fine alone.BadByte h)
order_of line before e BadWord i h = absurd (i.fine alone.BadWord h)
order_of line before e OutOfRange i h = absurd (i.fine alone.OutOfRange h)
order_of line before e NoEnd i h = subst (λ (x : Entry). FaultsEntry NoEnd before x) (i.only h.0 h.1) h.2
order_of line before e TooMany i h = subst (λ (x : Entry). FaultsEntry TooMany before x) (i.only h.0 h.1) h.2
order_of line before e SameName i h = subst (λ (x : Entry). FaultsEntry SameName before x) (i.only h.0 h.1) h.2
order_of line before e NoExperiment i h = subst (λ (x : Entry). FaultsEntry NoExperiment before x) (i.only h.0 h.1) h.2
order_of line before e AfterEnd i h = subst (λ (x : Entry). FaultsEntry AfterEnd before x) (i.only h.0 h.1) h.2
order_of line before e Backwards i h = subst (λ (x : Entry). FaultsEntry Backwards before x) (i.only h.0 h.1) h.2

-- no cause stands in a line that is taken
fine_in : (s t : Sofar) (before : List Entry) (line : List ℕ) (e : Entry) → Matches s before → IsEntry line e → step s e ≡ Ok t → IsFine before line
fine_in s t before line e m i is c h =
    let r = seen s before e c m (order_of line before e c i h) in
    no_cause r.0 t (sym r.1 ∙ is)

-- the cause of a step is the first
first_in : (s : Sofar) (before : List Entry) (line : List ℕ) (e : Entry) (c : Cause) → Matches s before → IsEntry line e → step s e ≡ Err c → IsFirst c before line
first_in s before line e c m i is =
    let t : FaultsEntry c before e = subst (λ (r : Result Sofar Cause). Told before e r) is (told s before e m) in (
      stands_by c before line e i.says t,
      λ other lt h.
          let r = seen s before e other m (order_of line before e other i h) in
          omega (arith, r.2, lt, ap rank (same_cause r.0 c (sym r.1 ∙ is))),
    )

rank_alone : (f : LineFault) → rank (cause_in_line f) ≡ place f + 2
rank_alone alone.TooLong = refl
rank_alone alone.BadByte = refl
rank_alone alone.BadWord = refl
rank_alone alone.OutOfRange = refl

place_small : (f : LineFault) → place f ≤ 3
place_small alone.TooLong = omega arith
place_small alone.BadByte = omega arith
place_small alone.BadWord = omega arith
place_small alone.OutOfRange = omega arith

stands_alone : (f : LineFault) (before : List Entry) (line : List ℕ) → StandsAlone f line → Stands (cause_in_line f) before line
stands_alone alone.TooLong before line h = h
stands_alone alone.BadByte before line h = h
stands_alone alone.BadWord before line h = h
stands_alone alone.OutOfRange before line h = h

lower_alone : (f : LineFault) (before : List Entry) (line : List ℕ) → IsFirstAlone f line → (other : Cause) → rank other < rank (cause_in_line f) → Stands other before line → ⊥
lower_alone f before line i TooBig lt h = h
lower_alone f before line i Cut lt h = h
lower_alone f before line i TooLong lt h = i.1 alone.TooLong (omega (arith, lt, rank_alone f)) h
lower_alone f before line i BadByte lt h = i.1 alone.BadByte (omega (arith, lt, rank_alone f)) h
lower_alone f before line i BadWord lt h = i.1 alone.BadWord (omega (arith, lt, rank_alone f)) h
lower_alone f before line i OutOfRange lt h = i.1 alone.OutOfRange (omega (arith, lt, rank_alone f)) h
lower_alone f before line i NoEnd lt h = omega (arith, lt, rank_alone f, place_small f)
lower_alone f before line i TooMany lt h = omega (arith, lt, rank_alone f, place_small f)
lower_alone f before line i SameName lt h = omega (arith, lt, rank_alone f, place_small f)
lower_alone f before line i NoExperiment lt h = omega (arith, lt, rank_alone f, place_small f)
lower_alone f before line i AfterEnd lt h = omega (arith, lt, rank_alone f, place_small f)
lower_alone f before line i Backwards lt h = omega (arith, lt, rank_alone f, place_small f)

first_alone : (f : LineFault) (before : List Entry) (line : List ℕ) → IsFirstAlone f line → IsFirst (cause_in_line f) before line
first_alone f before line i = (stands_alone f before line i.0, lower_alone f before line i)

-- there is one first cause
cause_at : ℕ → Cause
cause_at n = cond (eqb n 0) TooBig (cond (eqb n 1) Cut (cond (eqb n 2) TooLong (cond (eqb n 3) BadByte (cond (eqb n 4) BadWord (cond (eqb n 5) OutOfRange (cond (eqb n 6) NoEnd (cond (eqb n 7) TooMany (cond (eqb n 8) SameName (cond (eqb n 9) NoExperiment (cond (eqb n 10) AfterEnd Backwards))))))))))

cause_of_rank : (c : Cause) → cause_at (rank c) ≡ c
unfolding cause_at
cause_of_rank TooBig = refl
cause_of_rank Cut = refl
cause_of_rank TooLong = refl
cause_of_rank BadByte = refl
cause_of_rank BadWord = refl
cause_of_rank OutOfRange = refl
cause_of_rank NoEnd = refl
cause_of_rank TooMany = refl
cause_of_rank SameName = refl
cause_of_rank NoExperiment = refl
cause_of_rank AfterEnd = refl
cause_of_rank Backwards = refl

order_two : (m n : ℕ) → (m < n) ⊎ ((n < m) ⊎ (m ≡ n))
order_two m n = grind arith

one_first : (c d : Cause) (before : List Entry) (line : List ℕ) → IsFirst c before line → IsFirst d before line → c ≡ d
one_first c d before line i j = elim (order_two (rank c) (rank d)) [
  | inl lt ↦ absurd (j.1 c lt i.0)
  | inr p ↦ elim p [
    | inl lt ↦ absurd (i.1 d lt j.0)
    | inr e ↦ sym (cause_of_rank c) ∙ ap cause_at e ∙ cause_of_rank d
  ]
]

-- ---- the lines before
-- what is found of these parts, from number n on and behind the lines before, is found of all
pub record Past (n : ℕ) (before : List Entry) (parts all : List (List ℕ)) : Type 0 where
  pub faults : (f : Fault) → IsFault n before parts f → IsFault 1 [] all f
  pub faulted : (f : Fault) → IsFault 1 [] all f → IsFault n before parts f
  pub spelled : (s : List Experiment) → AreSpelled before parts s → AreSpelled [] all s
  pub spells : (s : List Experiment) → AreSpelled [] all s → AreSpelled before parts s
  pub rooms : NeedRoom before parts → NeedRoom [] all

pub past_none : (all : List (List ℕ)) → Past 1 [] all all
past_none all = record { faults = λ f h. h; faulted = λ f h. h; spelled = λ s h. h; spells = λ s h. h; rooms = λ h. h }

past_step : (n : ℕ) (before : List Entry) (line m : List ℕ) (ms all : List (List ℕ)) (e : Entry) → Past n before (line ∷ m ∷ ms) all → IsEntry line e → IsFine before line → Past (n + 1) (e ∷ before) (m ∷ ms) all
past_step n before line m ms all e p i fine = record {
  faults = λ f h. p.faults f (inr (e, fine, i.says, h));
  faulted = λ f h. elim (p.faulted f h) [
    | inl a ↦ absurd (fine f.cause a.1.0)
    | inr a ↦ subst (λ (x : Entry). IsFault (n + 1) (x ∷ before) (m ∷ ms) f) (i.only a.0 a.2) a.3
  ];
  spelled = λ s h. p.spelled s (e, fine, i.says, h);
  spells = λ s h. let a = p.spells s h in subst (λ (x : Entry). AreSpelled (x ∷ before) (m ∷ ms) s) (i.only a.0 a.2) a.3;
  rooms = λ h. p.rooms (e, fine, i.says, inr h);
}

made : (b : Bool) (x : ℕ) (ls : List (List ℕ)) → (m : List ℕ) × (ms : List (List ℕ)) × (cond b ([] ∷ ls) (onto_first x ls) ≡ m ∷ ms)
made true x ls = ([], ls, refl)
made false x [] = (x ∷ [], [], refl)
made false x (l ∷ ls) = (x ∷ l, ls, refl)

-- there is a line, if only an empty one
some_line : (xs : List ℕ) → (m : List ℕ) × (ms : List (List ℕ)) × (lines xs ≡ m ∷ ms)
some_line [] = ([], [], refl)
some_line (x ∷ xs) = made (eqb x 10) x (lines xs)

-- the builder has what the lines before say
pub record Holds (n : ℕ) (s : Sofar) (rest bytes : List ℕ) : Type 0 where
  pub before : List Entry
  pub matches : Matches s before
  pub past : Past n before (lines rest) (lines bytes)

abbrev at_first : List Experiment → Sofar
at_first done = record { done = done; running = None; latest = 0 }

pub holds_first : (bytes : List ℕ) (done : List Experiment) → done ≡ [] → Holds 1 (at_first done) bytes bytes
holds_first bytes done e = subst (λ (x : List Experiment). Holds 1 (at_first x) bytes bytes) (sym e) (record { before = []; matches = nothing_before; past = past_none (lines bytes) })

cut_past : (n : ℕ) (before : List Entry) (rest line after : List ℕ) (all : List (List ℕ)) → Past n before (lines rest) all → lines rest ≡ line ∷ lines after → (m : List ℕ) × (ms : List (List ℕ)) × (lines after ≡ m ∷ ms) × Past n before (line ∷ m ∷ ms) all
cut_past n before rest line after all p e =
    let m = some_line after in
    (m.0, m.1, m.2, subst (λ (ls : List (List ℕ)). Past n before ls all) (e ∙ ap (λ (ls : List (List ℕ)). line ∷ ls) m.2) p)

pub holds_next : (n : ℕ) (s t : Sofar) (rest line after bytes : List ℕ) → lines rest ≡ line ∷ lines after → Holds n s rest bytes → (e : Entry) × IsEntry line e × (step s e ≡ Ok t) → Holds (n + 1) t after bytes
holds_next n s t rest line after bytes is h taken =
    let c = cut_past n h.before rest line after (lines bytes) h.past is in
    let fine = fine_in s t h.before line taken.0 h.matches taken.1 taken.2 in
    record {
      before = taken.0 ∷ h.before;
      matches = subst (λ (r : Result Sofar Cause). Told h.before taken.0 r) taken.2 (told s h.before taken.0 h.matches);
      past = subst (λ (ls : List (List ℕ)). Past (n + 1) (taken.0 ∷ h.before) ls (lines bytes)) (sym c.2) (past_step n h.before line c.0 c.1 (lines bytes) taken.0 c.3 taken.1 fine);
    }

-- ---- the ways out
abbrev faulted_with : Fault → Answer
faulted_with f = Err (errors.Fault f)

abbrev fault_of : ℕ → Cause → Fault
fault_of n c = record { line = n; cause = c }

same_faults : (n : ℕ) (c : Cause) (f : Fault) → n ≡ f.line → c ≡ f.cause → fault_of n c ≡ f
same_faults n c f e d = rw (e, d) refl

-- a first cause in the next line
line_faulty : (n : ℕ) (before : List Entry) (line m : List ℕ) (ms : List (List ℕ)) (bytes : List ℕ) (c : Cause) → length bytes ≤ 16777216 → Past n before (line ∷ m ∷ ms) (lines bytes) → IsFirst c before line → IsReading bytes (faulted_with (fault_of n c))
line_faulty n before line m ms bytes c small p first = record {
  found = inr (small, p.faults (fault_of n c) (inl (refl, first)));
  only = λ s h. let a = p.spells s h.1 in a.1 c first.0;
  faulty = λ f h. elim h [
    | inl big ↦ absurd (omega (arith, big.0, small))
    | inr k ↦ elim (p.faulted f k.1) [
      | inl a ↦ same_faults n c f (sym a.0) (one_first c f.cause before line first a.1)
      | inr a ↦ absurd (a.1 c first.0)
    ]
  ];
}

no_room : (n : ℕ) (before : List Entry) (line m : List ℕ) (ms : List (List ℕ)) (bytes : List ℕ) (e : Entry) → length bytes ≤ 16777216 → Past n before (line ∷ m ∷ ms) (lines bytes) → IsEntry line e → IsFine before line → Grows e → IsReading bytes (Err errors.NoMemory)
no_room n before line m ms bytes e small p i fine grows = record {
  found = (small, p.rooms (e, fine, i.says, inl grows));
  only = λ s h. tt;
  faulty = λ f h. tt;
}

passes_ok : (r : Result Sofar Cause) → Passes r → (t : Sofar) × (r ≡ Ok t)
passes_ok (Ok t) h = (t, refl)
passes_ok (Err c) h = absurd h

-- a line that isn't taken
pub line_fails : (X : Type 0) (n : ℕ) (s t : Sofar) (rest line after bytes : List ℕ) (error : LineError) → length bytes ≤ 16777216 → lines rest ≡ line ∷ lines after → Holds n s rest bytes → Taken {X = X} s line (Err error) t → IsReading bytes (Err (error_at error n))
line_fails X n s t rest line after bytes line_error.Memory small is h taken =
    let c = cut_past n h.before rest line after (lines bytes) h.past is in
    let ok = passes_ok (step s taken.0) taken.2 in
    no_room n h.before line c.0 c.1 bytes taken.0 small c.3 taken.1 (fine_in s ok.0 h.before line taken.0 h.matches taken.1 ok.1) taken.3
line_fails X n s t rest line after bytes (line_error.Cause cause) small is h (inl alone) =
    let c = cut_past n h.before rest line after (lines bytes) h.past is in
    line_faulty n h.before line c.0 c.1 bytes cause small c.3 (subst (λ (x : Cause). IsFirst x h.before line) alone.2 (first_alone alone.0 h.before line alone.1))
line_fails X n s t rest line after bytes (line_error.Cause cause) small is h (inr taken) =
    let c = cut_past n h.before rest line after (lines bytes) h.past is in
    line_faulty n h.before line c.0 c.1 bytes cause small c.3 (first_in s h.before line taken.0 cause h.matches taken.1 taken.2)

-- what follows the last line feed
last_past : (n : ℕ) (before : List Entry) (rest : List ℕ) (all : List (List ℕ)) → Past n before (lines rest) all → lines rest ≡ rest ∷ [] → Past n before (rest ∷ []) all
last_past n before rest all p e = subst (λ (ls : List (List ℕ)). Past n before ls all) e p

positive : (xs : List ℕ) → eqb (length xs) 0 ≡ false → 0 < length xs
positive [] e = absurd cc
positive (x ∷ xs) e = omega arith

pub is_cut : (n : ℕ) (s : Sofar) (rest bytes : List ℕ) → length bytes ≤ 16777216 → lines rest ≡ rest ∷ [] → Holds n s rest bytes → eqb (length rest) 0 ≡ false → IsReading bytes (faulted_with (fault_of n Cut))
is_cut n s rest bytes small is h some =
    let p = last_past n h.before rest (lines bytes) h.past is in
    let pos = positive rest some in
    record {
      found = inr (small, p.faults (fault_of n Cut) (inr (pos, refl)));
      only = λ x k. let a = p.spells x k.1 in omega (arith, pos, ap length a.0);
      faulty = λ f k. elim k [
        | inl big ↦ absurd (omega (arith, big.0, small))
        | inr b ↦ elim (p.faulted f b.1) [
          | inl a ↦ absurd (omega (arith, pos, ap length a.0))
          | inr a ↦ sym a.1
        ]
      ];
    }

pub has_no_end : (n : ℕ) (s : Sofar) (rest bytes : List ℕ) → length bytes ≤ 16777216 → lines rest ≡ rest ∷ [] → Holds n s rest bytes → eqb (length rest) 0 ≡ true → is_some s.running ≡ true → IsReading bytes (faulted_with (fault_of n NoEnd))
has_no_end n s rest bytes small is h none runs =
    let p = last_past n h.before rest (lines bytes) h.past is in
    let nil = nil_from_length rest (eqb-true (length rest) 0 none) in
    let running = busy_runs s h.before h.matches runs in
    record {
      found = inr (small, p.faults (fault_of n NoEnd) (inl (nil, running, refl)));
      only = λ x k. let a = p.spells x k.1 in a.1 running;
      faulty = λ f k. elim k [
        | inl big ↦ absurd (omega (arith, big.0, small))
        | inr b ↦ elim (p.faulted f b.1) [
          | inl a ↦ sym a.2
          | inr a ↦ absurd (omega (arith, a.0, ap length nil))
        ]
      ];
    }

pub is_done : (n : ℕ) (s : Sofar) (rest bytes : List ℕ) → length bytes ≤ 16777216 → lines rest ≡ rest ∷ [] → Holds n s rest bytes → eqb (length rest) 0 ≡ true → is_some s.running ≡ false → IsReading bytes (Ok s.done)
is_done n s rest bytes small is h none idle =
    let p = last_past n h.before rest (lines bytes) h.past is in
    let nil = nil_from_length rest (eqb-true (length rest) 0 none) in
    let ends = idle_ends s h.before h.matches idle in
    record {
      found = (small, p.spelled s.done (nil, ends.0, ends.1));
      only = λ x k. let a = p.spells x k.1 in sym ends.1 ∙ a.2;
      faulty = λ f k. elim k [
        | inl big ↦ omega (arith, big.0, small)
        | inr b ↦ elim (p.faulted f b.1) [
          | inl a ↦ ends.0 a.1
          | inr a ↦ omega (arith, a.0, ap length nil)
        ]
      ];
    }

pub is_too_big : (bytes : List ℕ) → 16777216 < length bytes → IsReading bytes (faulted_with (fault_of 0 TooBig))
is_too_big bytes big = record {
  found = inl (big, refl);
  only = λ s h. omega (arith, h.0, big);
  faulty = λ f h. elim h [ inl a ↦ sym a.1 | inr a ↦ absurd (omega (arith, a.0, big)) ];
}

-- the answer of a line
pub taken_by : {X : Type 0} (old new : Sofar) (line : List ℕ) (e : Entry) (r : Result X LineError) → IsEntry line e → GivesStep new r (step old e) → OnMemory r (Grows e) → Taken old line r new
taken_by old new line e (Ok x) i g m = (e, i, g)
taken_by old new line e (Err line_error.Memory) i g m = (e, i, g, m)
taken_by old new line e (Err (line_error.Cause c)) i g m = inr (e, i, g)

-- ---- the answer's two clauses
pub is_spelled : (bytes : List ℕ) (r : Answer) → IsFound bytes r → IfOk r (λ s. Spells bytes s)
is_spelled bytes (Ok s) h = h
is_spelled bytes (Err e) h = tt

pub is_faulty : (bytes : List ℕ) (r : Answer) → IsFound bytes r → IfErr r (λ e. IsFaultOf bytes e)
is_faulty bytes (Ok s) h = tt
is_faulty bytes (Err e) h = h
