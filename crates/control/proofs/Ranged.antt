-- What is read has its range: an experiment's line a name, and the lines of a text few experiments.
use Rattle.std.proofs.Common.{◌≡◌, inl, inr, ℕ, ◌≤◌, Bool, true, false, if◌then◌else◌, eqb, ltb, List, [], ◌∷◌, length, length-append, Option, Some, None, Ok, Err, IfOk, refl, sym, ap, subst, ◌∙◌, arith}
use Rattle.std.specs.Prelude.{option_and_then}
use Rattle.std.specs.List.{list_all}
use Rattle.std.proofs.lemmas.Bool.{eqb-false, ltb-true, ltb-false}
use Rattle.emu_model.specs.declared.commands.Spec.{Spec}
use Rattle.emu_model.specs.declared.commands.Timed.{Timed}
use Rattle.control_words.specs.Text.{lines, words}
use Rattle.control_words.specs.Addresses.{is_name_byte, name_of}
use Rattle.control_lines.specs.Grammar.{Line, Experiment as Heading, Command, IsLine}
use Rattle.control_lines.specs.Ranges.{spec_within, timed_within}
use Rattle.control_lines.specs.Entries.{Entry, Nothing, Begins, Does, Says, line_within}
use Rattle.control.specs.declared.fault.Cause.TheVariants.{TooMany}
use Rattle.control.specs.declared.scenario.Experiment.{Experiment}
use Rattle.control.specs.Scenario.{names, IsFine, with_last, experiments, AreSpelled, Spells}
use Rattle.control.specs.Builder.{IsNamed}
use Rattle.control.specs.Answer.{Answer}
use Rattle.control.specs.Names.{IsName}
use Rattle.control.specs.Ranges.{IsScenario}
use Rattle.control.proofs.InOrder.{in-order}

same-some : {A : Type 0} (x y : A) → Some x ≡ Some y → x ≡ y
same-some x y e = cc

-- ---- names
name-by : (word : List ℕ) (none long all : Bool) → eqb (length word) 0 ≡ none → ltb 32 (length word) ≡ long → list_all is_name_byte word ≡ all →
    (if none then None else if long then None else if all then Some word else None) ≡ Some word → IsName word
name-by word true long all n l a e = absurd cc
name-by word false true all n l a e = absurd cc
name-by word false false false n l a e = absurd cc
name-by word false false true n l a e = record {
  least = omega (arith, eqb-false (length word) 0 n);
  most = ltb-false 32 (length word) l;
  letters = a;
}

name-is : (word : List ℕ) → name_of word ≡ Some word → IsName word
unfolding name_of
name-is word e = name-by word (eqb (length word) 0) (ltb 32 (length word)) (list_all is_name_byte word) refl refl refl e

begins-named : (o : Option Spec) (name : List ℕ) (e : Entry) → IsName name → option_and_then (λ x. Some (Begins name x)) o ≡ Some e → IsNamed e
begins-named None name e is w = absurd cc
begins-named (Some x) name e is w = subst IsNamed (same-some (Begins name x) e w) is

does-named : (o : Option Timed) (e : Entry) → option_and_then (λ x. Some (Does x)) o ≡ Some e → IsNamed e
does-named None e w = absurd cc
does-named (Some x) e w = subst IsNamed (same-some (Does x) e w) tt

line-named : (ws : List (List ℕ)) (l : Line) (e : Entry) → IsLine ws l → line_within l ≡ Some e → IsNamed e
unfolding line_within
line-named ws (Heading h) e is w = begins-named (spec_within h) h.name e (name-is h.name is.4) w
line-named ws (Command c) e is w = does-named (timed_within c) e w

-- where a line begins an experiment, its name has the form of one
pub says-named : (line : List ℕ) (e : Entry) → Says line e → IsNamed e
says-named line e (inl p) = subst IsNamed (sym p.1) tt
says-named line e (inr p) = line-named (words line) p.0 e p.1 p.2

-- ---- how many there are
last-length : (es : List Experiment) (c : Timed) → length (with_last es c) ≡ length es
last-length [] c = refl
last-length (e ∷ []) c = refl
last-length (e ∷ f ∷ more) c = omega (arith, last-length (f ∷ more) c)

-- each name is that of one experiment
as-many : (before : List Entry) → length (experiments before) ≡ length (names before)
as-many [] = refl
as-many (Nothing ∷ before) = as-many before
as-many (Begins name spec ∷ before) = omega (arith, as-many before, length-append (experiments before) (record { name = name; spec = spec; commands = [] } ∷ []))
as-many (Does c ∷ before) = last-length (experiments before) c ∙ as-many before

few-entry : (before : List Entry) (line : List ℕ) (e : Entry) → length (experiments before) ≤ 256 → IsFine before line → Says line e → length (experiments (e ∷ before)) ≤ 256
few-entry before line Nothing few fine says = few
few-entry before line (Does c) few fine says = omega (arith, last-length (experiments before) c)
few-entry before line (Begins name spec) few fine says = by (ltb (length (names before)) 256) refl
  where
    by : (b : Bool) → ltb (length (names before)) 256 ≡ b → length (experiments (Begins name spec ∷ before)) ≤ 256
    by true e = omega (arith, ltb-true (length (names before)) 256 e, as-many (Begins name spec ∷ before))
    by false e = absurd (fine TooMany (Begins name spec, says, ltb-false (length (names before)) 256 e))

spelled-few : (before : List Entry) (ls : List (List ℕ)) (s : List Experiment) → length (experiments before) ≤ 256 → AreSpelled before ls s → length s ≤ 256
spelled-few before [] s few spelled = absurd spelled
spelled-few before (line ∷ []) s few spelled = omega (arith, ap length spelled.2)
spelled-few before (line ∷ more ∷ rest) s few spelled =
    spelled-few (spelled.0 ∷ before) (more ∷ rest) s (few-entry before line spelled.0 few spelled.1 spelled.2) spelled.3

-- what a text spells has the range of a scenario
pub is-scenario : (bytes : List ℕ) (s : List Experiment) → Spells bytes s → IsScenario s
is-scenario bytes s spells = record { few = spelled-few [] (lines bytes) s (omega arith) spells.1; in_order = in-order bytes s spells }

pub read-scenario : (bytes : List ℕ) (r : Answer) → IfOk r (λ s. Spells bytes s) → IfOk r (λ s. IsScenario s)
read-scenario bytes (Ok s) spells = is-scenario bytes s spells
read-scenario bytes (Err e) spells = tt
