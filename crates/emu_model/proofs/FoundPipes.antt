-- The pipe of a number, once a pipe is put in place of another, comes or goes.
use Rattle.std.proofs.Common.{◌≡◌, ℕ, ◌≤◌, List, [], ◌∷◌, Bool, true, false, refl, sym, ◌∙◌, ap, Option, Some, None, arith}
use Rattle.std.specs.Prelude.{if◌then◌else◌, ◌==◌, nat_lt, count_by, find}
use Rattle.std.specs.Option.{option_map_or}
use Rattle.std.proofs.lemmas.Bool.{eq-eqb, eqb-true, ne_eqb}
use Rattle.emu_model.specs.Lists.{replace_first, remove_first}
use Rattle.emu_model.specs.Pipes.{PipeState}
use Rattle.emu_model.specs.Commands.{with_pipe}
use Rattle.emu_model.proofs.Numbers.{one_if, count-cons}

abbrev pub find_in : ℕ → List PipeState → Option PipeState
find_in j ps = find (λ q. q.number == j) ps

-- what is said of the pipe of a number, if it is there
abbrev pub in_pipe : (PipeState → List ℕ) → ℕ → List PipeState → List ℕ
in_pipe h j ps = option_map_or h (find_in j ps) []

pub found-number : (j : ℕ) (p : PipeState) (ps : List PipeState) → find_in j ps ≡ Some p → p.number ≡ j
found-number j p [] e = absurd (cc e)
found-number j p (x ∷ xs) e = go (x.number == j) refl e (λ g. found-number j p xs g)
  where
    go : (b : Bool) → (x.number == j) ≡ b → (if b then Some x else find_in j xs) ≡ Some p →
        (find_in j xs ≡ Some p → p.number ≡ j) → p.number ≡ j
    go true h g later =
        let same : x ≡ p = cc g in
        ap (λ q. q.number) (sym same) ∙ eqb-true x.number j h
    go false h g later = later g

-- the first item is another's
skip-first : (j : ℕ) (x : PipeState) (xs : List PipeState) → (x.number ≡ j → ⊥) → find_in j (x ∷ xs) ≡ find_in j xs
skip-first j x xs h = ap (λ b. if b then Some x else find_in j xs) (ne_eqb x.number j h)

take-first : (j : ℕ) (x : PipeState) (xs : List PipeState) → x.number ≡ j → find_in j (x ∷ xs) ≡ Some x
take-first j x xs h = ap (λ b. if b then Some x else find_in j xs) (eq-eqb x.number j h)

pub replaced-here : (j : ℕ) (p y : PipeState) (ps : List PipeState) → find_in j ps ≡ Some p → y.number ≡ j →
    find_in j (replace_first (λ q. q.number == j) y ps) ≡ Some y
replaced-here j p y [] e h = absurd (cc e)
replaced-here j p y (x ∷ xs) e h = go (x.number == j) refl e (λ g. replaced-here j p y xs g h)
  where
    go : (b : Bool) → (x.number == j) ≡ b → (if b then Some x else find_in j xs) ≡ Some p →
        (find_in j xs ≡ Some p → find_in j (replace_first (λ q. q.number == j) y xs) ≡ Some y) →
        find_in j (if b then y ∷ xs else x ∷ replace_first (λ q. q.number == j) y xs) ≡ Some y
    go true f g later = take-first j y xs h
    go false f g later =
        ap (λ b. if b then Some x else find_in j (replace_first (λ q. q.number == j) y xs)) f ∙ later g

pub replaced-other : (i j : ℕ) (y : PipeState) (ps : List PipeState) → (i ≡ j → ⊥) → y.number ≡ i →
    find_in j (replace_first (λ q. q.number == i) y ps) ≡ find_in j ps
replaced-other i j y [] h e = refl
replaced-other i j y (x ∷ xs) h e = go (x.number == i) refl (replaced-other i j y xs h e)
  where
    go : (b : Bool) → (x.number == i) ≡ b →
        find_in j (replace_first (λ q. q.number == i) y xs) ≡ find_in j xs →
        find_in j (if b then y ∷ xs else x ∷ replace_first (λ q. q.number == i) y xs) ≡ find_in j (x ∷ xs)
    go true f later =
        skip-first j y xs (λ g. h (sym e ∙ g)) ∙ sym (skip-first j x xs (λ g. h (sym (eqb-true x.number i f) ∙ g)))
    go false f later = ap (λ o. if x.number == j then Some x else o) later

pub removed-other : (i j : ℕ) (ps : List PipeState) → (i ≡ j → ⊥) →
    find_in j (remove_first (λ q. q.number == i) ps) ≡ find_in j ps
removed-other i j [] h = refl
removed-other i j (x ∷ xs) h = go (x.number == i) refl (removed-other i j xs h)
  where
    go : (b : Bool) → (x.number == i) ≡ b → find_in j (remove_first (λ q. q.number == i) xs) ≡ find_in j xs →
        find_in j (if b then xs else x ∷ remove_first (λ q. q.number == i) xs) ≡ find_in j (x ∷ xs)
    go true f later = sym (skip-first j x xs (λ g. h (sym (eqb-true x.number i f) ∙ g)))
    go false f later = ap (λ o. if x.number == j then Some x else o) later

-- what isn't counted isn't found
uncounted : (j : ℕ) (ps : List PipeState) → count_by (λ q. q.number == j) ps ≡ 0 → find_in j ps ≡ None
uncounted j [] h = refl
uncounted j (x ∷ xs) h = go (x.number == j) refl (λ g. uncounted j xs g)
  where
    go : (b : Bool) → (x.number == j) ≡ b → (count_by (λ q. q.number == j) xs ≡ 0 → find_in j xs ≡ None) →
        (if b then Some x else find_in j xs) ≡ None
    go true f later =
        let bit : one_if (x.number == j) ≡ 1 = ap one_if f in
        absurd (omega (arith, h, count-cons (λ q. q.number == j) x xs))
    go false f later = later (omega (arith, h, count-cons (λ q. q.number == j) x xs))

-- where a number stands once at most, it goes
pub removed-here : (j : ℕ) (ps : List PipeState) → count_by (λ q. q.number == j) ps ≤ 1 →
    find_in j (remove_first (λ q. q.number == j) ps) ≡ None
removed-here j [] h = refl
removed-here j (x ∷ xs) h = go (x.number == j) refl (λ g. removed-here j xs g)
  where
    go : (b : Bool) → (x.number == j) ≡ b →
        (count_by (λ q. q.number == j) xs ≤ 1 → find_in j (remove_first (λ q. q.number == j) xs) ≡ None) →
        find_in j (if b then xs else x ∷ remove_first (λ q. q.number == j) xs) ≡ None
    go true f later =
        let bit : one_if (x.number == j) ≡ 1 = ap one_if f in
        uncounted j xs (omega (arith, h, count-cons (λ q. q.number == j) x xs))
    go false f later =
        ap (λ b. if b then Some x else find_in j (remove_first (λ q. q.number == j) xs)) f
        ∙ later (omega (arith, h, count-cons (λ q. q.number == j) x xs))

-- a pipe of which nothing is said comes
pub inserted-same : (h : PipeState → List ℕ) (j : ℕ) (p : PipeState) (ps : List PipeState) → h p ≡ [] →
    find_in p.number ps ≡ None → in_pipe h j (with_pipe p ps) ≡ in_pipe h j ps
inserted-same h j p [] e f = go (p.number == j)
  where
    go : (b : Bool) → option_map_or h (if b then Some p else None) [] ≡ []
    go true = e
    go false = refl
inserted-same h j p (x ∷ xs) e f =
    place (nat_lt p.number x.number) (inserted-same h j p xs e (later (x.number == p.number) f))
  where
    later : (b : Bool) → (if b then Some x else find_in p.number xs) ≡ None → find_in p.number xs ≡ None
    later true g = absurd (cc g)
    later false g = g

    front : (b : Bool) → (p.number == j) ≡ b →
        option_map_or h (if b then Some p else find_in j (x ∷ xs)) [] ≡ in_pipe h j (x ∷ xs)
    front true g = e ∙ ap (λ o. option_map_or h o []) (sym f ∙ ap (λ i. find_in i (x ∷ xs)) (eqb-true p.number j g))
    front false g = refl

    behind : (b : Bool) → in_pipe h j (with_pipe p xs) ≡ in_pipe h j xs →
        option_map_or h (if b then Some x else find_in j (with_pipe p xs)) []
        ≡ option_map_or h (if b then Some x else find_in j xs) []
    behind true g = refl
    behind false g = g

    place : (b : Bool) → in_pipe h j (with_pipe p xs) ≡ in_pipe h j xs →
        in_pipe h j (if b then p ∷ x ∷ xs else x ∷ with_pipe p xs) ≡ in_pipe h j (x ∷ xs)
    place true g = front (p.number == j) refl
    place false g = behind (x.number == j) g
