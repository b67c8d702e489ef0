-- What was read, against all that was left to read.
use Rattle.std.proofs.Common.{◌≡◌, inl, inr, ℕ, ◌+◌, ◌<◌, ◌≤◌, List, [], ◌∷◌, ◌++◌, length, length-append, take, map, Option, Some, None, IfSome, sym, ap, subst, ◌∙◌, arith, append-nil}
use Rattle.std.specs.Prelude.{sum, slice_index_or}
use Rattle.std.proofs.lemmas.List.Sums.{sum_by_push, sum_by-take-le}
use Rattle.std.specs.List.{take-map}
use Rattle.std.proofs.lemmas.List.{map_more}
use Rattle.control.specs.declared.scenario.Experiment.{Experiment}
use Rattle.control.specs.declared.fault.Fault.{Fault}
use Rattle.control.specs.Scenario.{Spells, HasFault}
use Rattle.std.specs.Io.KnownBytes.{Consumes, Keeps}
use Rattle.std.proofs.KnownBytes.{Consumes-kept, Consumes-trans}
use Rattle.alone.specs.Bytes.{IsRead, TakesFew, limit}

-- all of a text within the limit was read
whole : (xs ys text : List ℕ) → xs ≡ text ++ ys → ys ≡ [] → text ≡ xs
whole xs ys text is none = sym (append-nil text) ∙ ap (λ l. text ++ l) (sym none) ∙ sym is

pub read_spells : (old new : Option (List ℕ)) (text : List ℕ) (es : List Experiment) → IsRead old new text → Spells text es → IfSome old (λ t. Spells t es)
read_spells None new text es r spells = tt
read_spells (Some xs) None text es r spells = absurd r.first
read_spells (Some xs) (Some ys) text es r spells = subst (λ t. Spells t es) (whole xs ys text r.first (r.all spells.0)) spells

faulty : (xs ys text : List ℕ) (f : Fault) → IsRead (Some xs) (Some ys) text → HasFault text f → HasFault xs f
faulty xs ys text f r (inl big) = inl (omega (arith, big.0, ap length r.first, length-append text ys), big.1)
faulty xs ys text f r (inr fault) = subst (λ t. HasFault t f) (whole xs ys text r.first (r.all fault.0)) (inr fault)

pub read_faults : (old new : Option (List ℕ)) (text : List ℕ) (f : Fault) → IsRead old new text → HasFault text f → IfSome old (λ t. HasFault t f)
read_faults None new text f r fault = tt
read_faults (Some xs) None text f r fault = absurd r.first
read_faults (Some xs) (Some ys) text f r fault = faulty xs ys text f r fault

-- so much was read, and then a call more was made
pub few_left : (a b : Option (List ℕ)) (bytes : List ℕ) → Consumes a b bytes → length bytes ≤ limit + 1 → TakesFew a b
unfolding TakesFew
few_left a b bytes took few = (bytes, took, few)

pub few_kept : (a b c : Option (List ℕ)) (bytes : List ℕ) → Consumes a b bytes → Keeps b c → length bytes ≤ limit + 1 → TakesFew a c
unfolding TakesFew
few_kept a b c bytes took keeps few = (bytes, Consumes-kept a b c bytes took keeps, few)

pub few_more : (a b c : Option (List ℕ)) (bytes more : List ℕ) → Consumes a b bytes → Consumes b c more → length bytes + length more ≤ limit + 1 → TakesFew a c
unfolding TakesFew
few_more a b c bytes more took next few = (bytes ++ more, Consumes-trans a b c bytes more took next, omega (arith, length-append bytes more, few))

-- the commands that were counted
abbrev pub commands_of : Experiment → ℕ
commands_of e = length e.commands

abbrev counts : List Experiment → List ℕ
counts es = map (λ e. length e.commands) es

pub count_more : (es : List Experiment) (i n : ℕ) (e : Experiment) → i < length es → e ≡ slice_index_or es i e → n ≡ sum (counts (take i es)) →
    n + length e.commands ≡ sum (counts (take (i + 1) es))
count_more es i n e below is counted =
    let more : counts (take (i + 1) es) ≡ counts (take i es) ++ length e.commands ∷ []
    = map_more (λ (x : Experiment). length x.commands) es i e below ∙ ap (λ (x : Experiment). counts (take i es) ++ length x.commands ∷ []) (sym is) in
    omega (arith, counted, ap sum more, sum_by_push (λ x. x) (counts (take i es)) (length e.commands))

pub count_few : (es : List Experiment) (i n : ℕ) (e : Experiment) → i < length es → e ≡ slice_index_or es i e → n ≡ sum (counts (take i es)) →
    sum (counts es) ≤ 16777216 → n + length e.commands ≤ 16777216
count_few es i n e below is counted few =
    omega (arith, count_more es i n e below is counted, few, sum_by-take-le (λ x. x) (counts es) (i + 1), ap sum (take-map (λ (x : Experiment). length x.commands) (i + 1) es))
