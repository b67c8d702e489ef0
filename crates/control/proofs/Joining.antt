-- Lines behind the lines of a whole text: what they say by themselves, they say there.
use Rattle.std.proofs.Common.{◌≡◌, ◌≢◌, ◌⊎◌, inl, inr, ℕ, ◌+◌, ◌<◌, ◌≤◌, Bool, true, false, ◌||◌, cond, eqb, List, [], ◌∷◌, ◌++◌, length, length-append, Some, None, refl, sym, ap, subst, ◌∙◌, arith, append_assoc}
use Rattle.std.specs.Prelude.{All, option_map}
use Rattle.std.specs.List.{list_any, onto_first, AllByRecursion}
use Rattle.std.specs.Str.{bytes_eq}
use Rattle.std.proofs.lemmas.List.{append-nil}
use Rattle.std.proofs.lemmas.List.Elements.{recursion_from_All}
use Rattle.std.proofs.lemmas.List.Folds.{list_any-append}
use Rattle.std.proofs.lemmas.Slice.Eq.{bytes_eq-Decides}
use Rattle.emu_model.specs.declared.commands.Spec.{Spec}
use Rattle.emu_model.specs.declared.commands.Timed.{Timed}
use Rattle.control_words.specs.Text.{lines}
use Rattle.control_lines.specs.Entries.{Entry, Nothing, Begins, Does, Says}
use Rattle.control_lines.specs.LinesSayOne.{LinesSayOne}
use Rattle.control.specs.declared.fault.Cause.{Cause}
use Rattle.control.specs.declared.fault.Cause.TheVariants.{TooBig, Cut, TooLong, BadByte, BadWord, OutOfRange, NoEnd, TooMany, SameName, NoExperiment, AfterEnd, Backwards}
use Rattle.control.specs.declared.scenario.Experiment.{Experiment}
use Rattle.control.specs.TextLaws.{HaveOtherNames}
use Rattle.control.specs.Scenario.{names, commands, IsRunning, FaultsEntry, IsFine, begun, with_last, experiments, AreSpelled, Spells}
use Rattle.control.specs.Steps.{has_name}

true_false : true ≡ false → ⊥
true_false e = cc

pub none_some : {A : Type 0} (x : A) → None ≡ Some x → ⊥
none_some x e = cc

either : (a b : Bool) → (a || b) ≡ true → (a ≡ true) ⊎ (b ≡ true)
either true b e = inl refl
either false b e = inr e

pub or-left : (a b : Bool) → a ≡ true → (a || b) ≡ true
or-left true b e = refl
or-left false b e = absurd (true_false (sym e))

or-right : (a b : Bool) → b ≡ true → (a || b) ≡ true
or-right true b e = refl
or-right false b e = e

-- ---- what the lines of two texts are
-- the last part goes on with the first of the others
abbrev pub onto : List ℕ → List (List ℕ) → List (List ℕ)
onto p [] = p ∷ []
onto p (q ∷ qs) = (p ++ q) ∷ qs

abbrev pub glue : List (List ℕ) → List (List ℕ) → List (List ℕ)
glue [] qs = qs
glue (p ∷ []) qs = onto p qs
glue (p ∷ o ∷ ps) qs = p ∷ glue (o ∷ ps) qs

made : (b : Bool) (x : ℕ) (ls : List (List ℕ)) → (m : List ℕ) × (ms : List (List ℕ)) × (cond b ([] ∷ ls) (onto_first x ls) ≡ m ∷ ms)
made true x ls = ([], ls, refl)
made false x [] = (x ∷ [], [], refl)
made false x (l ∷ ls) = (x ∷ l, ls, refl)

pub some_line : (xs : List ℕ) → (m : List ℕ) × (ms : List (List ℕ)) × (lines xs ≡ m ∷ ms)
some_line [] = ([], [], refl)
some_line (x ∷ xs) = made (eqb x 10) x (lines xs)

onto-none : (m : List ℕ) (ms : List (List ℕ)) → onto [] (m ∷ ms) ≡ m ∷ ms
onto-none m ms = refl

onto-longer : (x : ℕ) (m : List ℕ) (qs : List (List ℕ)) → onto_first x (onto m qs) ≡ onto (x ∷ m) qs
onto-longer x m [] = refl
onto-longer x m (q ∷ qs) = refl

glue-longer : (x : ℕ) (m : List ℕ) (ms qs : List (List ℕ)) → onto_first x (glue (m ∷ ms) qs) ≡ glue (onto_first x (m ∷ ms)) qs
glue-longer x m [] qs = onto-longer x m qs
glue-longer x m (o ∷ ms) qs = refl

glue-line : (x : ℕ) (b : Bool) (m : List ℕ) (ms qs : List (List ℕ)) → cond b ([] ∷ glue (m ∷ ms) qs) (onto_first x (glue (m ∷ ms) qs)) ≡ glue (cond b ([] ∷ m ∷ ms) (onto_first x (m ∷ ms))) qs
glue-line x true m ms qs = refl
glue-line x false m ms qs = glue-longer x m ms qs

pub lines-glue : (a b : List ℕ) → lines (a ++ b) ≡ glue (lines a) (lines b)
lines-glue [] b = let l = some_line b in l.2 ∙ ap (onto []) (sym l.2)
lines-glue (x ∷ a) b =
    let l = some_line a in
    let now : lines (a ++ b) ≡ glue (l.0 ∷ l.1) (lines b) = lines-glue a b ∙ ap (λ (ls : List (List ℕ)). glue ls (lines b)) l.2 in
    ap (λ (ls : List (List ℕ)). cond (eqb x 10) ([] ∷ ls) (onto_first x ls)) now
    ∙ glue-line x (eqb x 10) l.0 l.1 (lines b)
    ∙ ap (λ (ls : List (List ℕ)). glue (cond (eqb x 10) ([] ∷ ls) (onto_first x ls)) (lines b)) (sym l.2)

-- ---- names
named-last : (n : List ℕ) (es : List Experiment) (c : Timed) → list_any (has_name n) (with_last es c) ≡ list_any (has_name n) es
named-last n [] c = refl
named-last n (e ∷ []) c = refl
named-last n (e ∷ f ∷ more) c = ap (λ b. bytes_eq e.name n || b) (named-last n (f ∷ more) c)

or-end : (a b : Bool) → (b || (a || false)) ≡ (a || b)
or-end true true = refl
or-end true false = refl
or-end false true = refl
or-end false false = refl

-- the experiments that the lines say have the names that they say
named : (d : List Entry) (n : List ℕ) → list_any (has_name n) (experiments d) ≡ list_any (λ o. bytes_eq o n) (names d)
named [] n = refl
named (Nothing ∷ d) n = named d n
named (Begins name spec ∷ d) n =
    list_any-append (has_name n) (experiments d) (begun name spec ∷ [])
    ∙ or-end (bytes_eq name n) (list_any (has_name n) (experiments d))
    ∙ ap (λ b. bytes_eq name n || b) (named d n)
named (Does c ∷ d) n = named-last n (experiments d) c ∙ named d n

length-last : (es : List Experiment) (c : Timed) → length (with_last es c) ≡ length es
length-last [] c = refl
length-last (e ∷ []) c = refl
length-last (e ∷ f ∷ more) c = omega (arith, length-last (f ∷ more) c)

counted : (d : List Entry) → length (experiments d) ≡ length (names d)
counted [] = refl
counted (Nothing ∷ d) = counted d
counted (Begins name spec ∷ d) = omega (arith, length-append (experiments d) (begun name spec ∷ []), counted d)
counted (Does c ∷ d) = length-last (experiments d) c ∙ counted d

pub names-behind : (d before : List Entry) → names (d ++ before) ≡ names d ++ names before
names-behind [] before = refl
names-behind (Nothing ∷ d) before = names-behind d before
names-behind (Begins name spec ∷ d) before = ap (λ (ns : List (List ℕ)). name ∷ ns) (names-behind d before)
names-behind (Does c ∷ d) before = names-behind d before

-- what has been named is among the experiments in the end
pub record Kept (d : List Entry) (t : List Experiment) : Type 0 where
  pub few : length (names d) ≤ length t
  pub any : (n : List ℕ) → list_any (λ o. bytes_eq o n) (names d) ≡ true → list_any (has_name n) t ≡ true

kept-less : (e : Entry) (d : List Entry) (t : List Experiment) → Kept (e ∷ d) t → Kept d t
kept-less Nothing d t k = record { few = k.few; any = k.any }
kept-less (Begins name spec) d t k = record { few = omega (arith, k.few); any = λ n h. k.any n (or-right (bytes_eq name n) (list_any (λ o. bytes_eq o n) (names d)) h) }
kept-less (Does c) d t k = record { few = k.few; any = k.any }

kept : (d : List Entry) (ls : List (List ℕ)) (t : List Experiment) → AreSpelled d ls t → Kept d t
kept d [] t spelled = absurd spelled
kept d (line ∷ []) t spelled = record {
  few = omega (arith, counted d, ap length spelled.2);
  any = λ n h. ap (list_any (has_name n)) (sym spelled.2) ∙ named d n ∙ h;
}
kept d (line ∷ more ∷ rest) t spelled = kept-less spelled.0 d t (kept (spelled.0 ∷ d) (more ∷ rest) t spelled.3)

-- no name stands in both
unnamed : (t : List Experiment) (name n : List ℕ) → AllByRecursion (λ f. name ≢ f.name) t → name ≡ n → list_any (has_name n) t ≡ true → ⊥
unnamed [] name n other is h = true_false (sym h)
unnamed (f ∷ t) name n other is h = elim (either (bytes_eq f.name n) (list_any (has_name n) t) h) [
  | inl e ↦ other.0 (is ∙ sym ((bytes_eq-Decides f.name n).0 e))
  | inr e ↦ unnamed t name n other.1 is e
]

apart-by : (s t : List Experiment) (n : List ℕ) → AllByRecursion (λ e. All (λ f. e.name ≢ f.name) t) s → list_any (has_name n) s ≡ true → list_any (has_name n) t ≡ true → ⊥
apart-by [] t n other h k = true_false (sym h)
apart-by (e ∷ s) t n other h k = elim (either (bytes_eq e.name n) (list_any (has_name n) s) h) [
  | inl is ↦ unnamed t e.name n (recursion_from_All (λ f. e.name ≢ f.name) t other.0) ((bytes_eq-Decides e.name n).0 is) k
  | inr is ↦ apart-by s t n other.1 is k
]

apart : (s t : List Experiment) (n : List ℕ) → HaveOtherNames s t → list_any (has_name n) s ≡ true → list_any (has_name n) t ≡ true → ⊥
apart s t n other h k = apart-by s t n (recursion_from_All (λ e. All (λ f. e.name ≢ f.name) t) s other) h k

-- ---- the second text's lines so far, behind all of the first text's
-- no experiment has begun, or the last that began is the second text's
pub data Begun (before d : List Entry) : Type 0 where
  NotYet : commands d ≡ None → commands (d ++ before) ≡ commands before → experiments d ≡ [] → Begun before d
  Since : (cs : List Timed) → commands d ≡ Some cs → commands (d ++ before) ≡ Some cs → 0 < length (experiments d) → Begun before d

pub record Behind (before d : List Entry) : Type 0 where
  pub begun : Begun before d
  pub said : experiments (d ++ before) ≡ experiments before ++ experiments d

pub behind_none : (before : List Entry) → Behind before []
behind_none before = record { begun = NotYet refl refl refl; said = sym (append-nil (experiments before)) }

with_last-append : (xs ys : List Experiment) (c : Timed) → 0 < length ys → with_last (xs ++ ys) c ≡ xs ++ with_last ys c
with_last-append [] ys c some = refl
with_last-append (x ∷ []) [] c some = absurd (omega (arith, some))
with_last-append (x ∷ []) (y ∷ ys) c some = refl
with_last-append (x ∷ o ∷ xs) ys c some = ap (λ (l : List Experiment). x ∷ l) (with_last-append (o ∷ xs) ys c some)

begun_nothing : (before d : List Entry) → Begun before d → Begun before (Nothing ∷ d)
begun_nothing before d (NotYet a b c) = NotYet a b c
begun_nothing before d (Since cs a b c) = Since cs a b c

does_behind : (before d : List Entry) (line : List ℕ) (c : Timed) → Begun before d → experiments (d ++ before) ≡ experiments before ++ experiments d → IsFine d line → Says line (Does c) → Behind before (Does c ∷ d)
does_behind before d line c (NotYet a b e) said fine says = absurd (fine NoExperiment (Does c, says, a))
does_behind before d line c (Since cs a b some) said fine says = record {
  begun = Since (c ∷ cs) (ap (option_map (λ xs. c ∷ xs)) a) (ap (option_map (λ xs. c ∷ xs)) b) (omega (arith, some, length-last (experiments d) c));
  said = ap (λ (x : List Experiment). with_last x c) said ∙ with_last-append (experiments before) (experiments d) c some;
}

pub behind-entry : (before d : List Entry) (line : List ℕ) (e : Entry) → Behind before d → IsFine d line → Says line e → Behind before (e ∷ d)
behind-entry before d line Nothing b fine says = record { begun = begun_nothing before d b.begun; said = b.said }
behind-entry before d line (Begins name spec) b fine says = record {
  begun = Since [] refl refl (omega (arith, length-append (experiments d) (begun name spec ∷ [])));
  said = ap (λ (x : List Experiment). x ++ begun name spec ∷ []) b.said ∙ append_assoc (experiments before) (experiments d) (begun name spec ∷ []);
}
behind-entry before d line (Does c) b fine says = does_behind before d line c b.begun b.said fine says

runs_behind : (before d : List Entry) → Begun before d → (IsRunning before → ⊥) → IsRunning (d ++ before) → IsRunning d
runs_behind before d (NotYet a b e) ended r = absurd (ended (r.0, sym b ∙ r.1, r.2))
runs_behind before d (Since cs a b some) ended r = (r.0, a ∙ sym b ∙ r.1, r.2)

-- there is room for what the line says
abbrev HasRoom : List Entry → List Entry → Entry → Type 0
HasRoom before d Nothing = Unit {0}
HasRoom before d (Begins name spec) = (length (names d) + length (names before) < 256) × (list_any (λ o. bytes_eq o name) (names before) ≡ true → ⊥)
HasRoom before d (Does c) = Unit {0}

has_room : (before d : List Entry) (e : Entry) (s t : List Experiment) → experiments before ≡ s → HaveOtherNames s t → length s + length t ≤ 256 → Kept (e ∷ d) t → HasRoom before d e
has_room before d Nothing s t is other few k = tt
has_room before d (Begins name spec) s t is other few k = (
  omega (arith, k.few, few, counted before, ap length is),
  λ h. apart s t name other (ap (list_any (has_name name)) (sym is) ∙ named before name ∙ h) (k.any name (or-left (bytes_eq name name) (list_any (λ o. bytes_eq o name) (names d)) ((bytes_eq-Decides name name).1 refl))),
)
has_room before d (Does c) s t is other few k = tt

-- a command's cause, behind the first text's lines too
does_fine : (cause : Cause) (before d : List Entry) (line : List ℕ) (c : Timed) → Begun before d → IsFine d line → Says line (Does c) → FaultsEntry cause (d ++ before) (Does c) → ⊥
does_fine cause before d line c (NotYet a b e) fine says h = fine NoExperiment (Does c, says, a)
does_fine NoExperiment before d line c (Since cs a b some) fine says h = none_some cs (sym h ∙ b)
does_fine AfterEnd before d line c (Since cs a b some) fine says h = fine AfterEnd (Does c, says, (h.0, a ∙ sym b ∙ h.1, h.2))
does_fine Backwards before d line c (Since cs a b some) fine says h = fine Backwards (Does c, says, (h.0, h.1, a ∙ sym b ∙ h.2, h.3))
does_fine _ before d line c (Since cs a b some) fine says h = h

begins_fine : (cause : Cause) (before d : List Entry) (line name : List ℕ) (spec : Spec) → Begun before d → (IsRunning before → ⊥) → IsFine d line → Says line (Begins name spec) → HasRoom before d (Begins name spec) → FaultsEntry cause (d ++ before) (Begins name spec) → ⊥
begins_fine NoEnd before d line name spec b ended fine says room h = fine NoEnd (Begins name spec, says, runs_behind before d b ended h)
begins_fine TooMany before d line name spec b ended fine says room h = omega (arith, h, room.0, ap length (names-behind d before), length-append (names d) (names before))
begins_fine SameName before d line name spec b ended fine says room h =
    elim (either (list_any (λ o. bytes_eq o name) (names d)) (list_any (λ o. bytes_eq o name) (names before)) (sym (list_any-append (λ o. bytes_eq o name) (names d) (names before)) ∙ ap (list_any (λ o. bytes_eq o name)) (sym (names-behind d before)) ∙ h)) [
      | inl e ↦ fine SameName (Begins name spec, says, e)
      | inr e ↦ room.1 e
    ]
begins_fine _ before d line name spec b ended fine says room h = h

entry_fine : (cause : Cause) (before d : List Entry) (line : List ℕ) (e : Entry) → Begun before d → (IsRunning before → ⊥) → IsFine d line → Says line e → HasRoom before d e → FaultsEntry cause (d ++ before) e → ⊥
entry_fine cause before d line Nothing b ended fine says room h = h
entry_fine cause before d line (Begins name spec) b ended fine says room h = begins_fine cause before d line name spec b ended fine says room h
entry_fine cause before d line (Does c) b ended fine says room h = does_fine cause before d line c b fine says h

fine_behind : LinesSayOne → (before d : List Entry) (line : List ℕ) (e : Entry) → Begun before d → (IsRunning before → ⊥) → IsFine d line → Says line e → HasRoom before d e → IsFine (d ++ before) line
fine_behind one before d line e b ended fine says room TooBig h = h
fine_behind one before d line e b ended fine says room Cut h = h
fine_behind one before d line e b ended fine says room TooLong h = fine TooLong h
fine_behind one before d line e b ended fine says room BadByte h = fine BadByte h
fine_behind one before d line e b ended fine says room BadWord h = fine BadWord h
fine_behind one before d line e b ended fine says room OutOfRange h = fine OutOfRange h
fine_behind one before d line e b ended fine says room NoEnd h = entry_fine NoEnd before d line e b ended fine says room (subst (FaultsEntry NoEnd (d ++ before)) (one line h.0 e h.1 says) h.2)
fine_behind one before d line e b ended fine says room TooMany h = entry_fine TooMany before d line e b ended fine says room (subst (FaultsEntry TooMany (d ++ before)) (one line h.0 e h.1 says) h.2)
fine_behind one before d line e b ended fine says room SameName h = entry_fine SameName before d line e b ended fine says room (subst (FaultsEntry SameName (d ++ before)) (one line h.0 e h.1 says) h.2)
fine_behind one before d line e b ended fine says room NoExperiment h = entry_fine NoExperiment before d line e b ended fine says room (subst (FaultsEntry NoExperiment (d ++ before)) (one line h.0 e h.1 says) h.2)
fine_behind one before d line e b ended fine says room AfterEnd h = entry_fine AfterEnd before d line e b ended fine says room (subst (FaultsEntry AfterEnd (d ++ before)) (one line h.0 e h.1 says) h.2)
fine_behind one before d line e b ended fine says room Backwards h = entry_fine Backwards before d line e b ended fine says room (subst (FaultsEntry Backwards (d ++ before)) (one line h.0 e h.1 says) h.2)

-- ---- the second text
spelled_behind : LinesSayOne → (before d : List Entry) (ls : List (List ℕ)) (s t : List Experiment) → (IsRunning before → ⊥) → experiments before ≡ s → HaveOtherNames s t → length s + length t ≤ 256 → Behind before d → AreSpelled d ls t → AreSpelled (d ++ before) ls (s ++ t)
spelled_behind one before d [] s t ended is other few b spelled = absurd spelled
spelled_behind one before d (line ∷ []) s t ended is other few b spelled = (
  spelled.0,
  λ r. spelled.1 (runs_behind before d b.begun ended r),
  b.said ∙ ap (λ (x : List Experiment). x ++ experiments d) is ∙ ap (λ (x : List Experiment). s ++ x) spelled.2,
)
spelled_behind one before d (line ∷ more ∷ rest) s t ended is other few b spelled =
    let room = has_room before d spelled.0 s t is other few (kept (spelled.0 ∷ d) (more ∷ rest) t spelled.3) in (
      spelled.0,
      fine_behind one before d line spelled.0 b.begun ended spelled.1 spelled.2 room,
      spelled.2,
      spelled_behind one before (spelled.0 ∷ d) (more ∷ rest) s t ended is other few (behind-entry before d line spelled.0 b spelled.1 spelled.2) spelled.3,
    )

-- ---- the first text, and what follows it
pub glue-some : (p : List ℕ) (ps qs : List (List ℕ)) → (m : List ℕ) × (ms : List (List ℕ)) × (glue (p ∷ ps) qs ≡ m ∷ ms)
glue-some p [] [] = (p, [], refl)
glue-some p [] (q ∷ qs) = (p ++ q, qs, refl)
glue-some p (o ∷ ps) qs = (p, glue (o ∷ ps) qs, refl)

spelled_first : (d : List Entry) (ls : List (List ℕ)) (m : List ℕ) (ms : List (List ℕ)) (s u : List Experiment) → ((before : List Entry) → (IsRunning before → ⊥) → experiments before ≡ s → AreSpelled before (m ∷ ms) u) → AreSpelled d ls s → AreSpelled d (glue ls (m ∷ ms)) u
spelled_first d [] m ms s u then spelled = absurd spelled
spelled_first d (line ∷ []) m ms s u then spelled = subst (λ (l : List ℕ). AreSpelled d (onto l (m ∷ ms)) u) (sym spelled.0) (then d spelled.1 spelled.2)
spelled_first d (line ∷ more ∷ rest) m ms s u then spelled =
    let g = glue-some more rest (m ∷ ms) in
    subst (λ (ls : List (List ℕ)). AreSpelled d (line ∷ ls) u) (sym g.2) (
      spelled.0,
      spelled.1,
      spelled.2,
      subst (λ (ls : List (List ℕ)). AreSpelled (spelled.0 ∷ d) ls u) g.2 (spelled_first (spelled.0 ∷ d) (more ∷ rest) m ms s u then spelled.3),
    )

pub joined : LinesSayOne → (a b : List ℕ) (s t : List Experiment) → Spells a s → Spells b t → HaveOtherNames s t → length a + length b ≤ 16777216 → length s + length t ≤ 256 → Spells (a ++ b) (s ++ t)
joined one a b s t first second other small few =
    let l = some_line b in
    let rest : AreSpelled [] (l.0 ∷ l.1) t = subst (λ (ls : List (List ℕ)). AreSpelled [] ls t) l.2 second.1 in
    let whole : AreSpelled [] (glue (lines a) (l.0 ∷ l.1)) (s ++ t) = spelled_first [] (lines a) l.0 l.1 s (s ++ t) (λ before ended is. spelled_behind one before [] (l.0 ∷ l.1) s t ended is other few (behind_none before) rest) first.1 in (
      omega (arith, small, length-append a b),
      subst (λ (ls : List (List ℕ)). AreSpelled [] ls (s ++ t)) (sym (lines-glue a b ∙ ap (glue (lines a)) l.2)) whole,
    )

-- ---- one scenario
one_spelled : LinesSayOne → (d : List Entry) (ls : List (List ℕ)) (s t : List Experiment) → AreSpelled d ls s → AreSpelled d ls t → s ≡ t
one_spelled one d [] s t h k = absurd h
one_spelled one d (line ∷ []) s t h k = sym h.2 ∙ k.2
one_spelled one d (line ∷ more ∷ rest) s t h k =
    one_spelled one (k.0 ∷ d) (more ∷ rest) s t (subst (λ (e : Entry). AreSpelled (e ∷ d) (more ∷ rest) s) (one line h.0 k.0 h.2 k.2) h.3) k.3

pub spells_one : LinesSayOne → (text : List ℕ) (s t : List Experiment) → Spells text s → Spells text t → s ≡ t
spells_one one text s t h k = one_spelled one [] (lines text) s t h.1 k.1
