-- What is made of items one after the other, beside what each left.
use Rattle.std.proofs.Common.{◌≡◌, ℕ, zero, suc, ◌+◌, ◌<◌, List, [], ◌∷◌, ◌++◌, length, map, take, drop, refl, sym, ap, ◌∙◌, arith, add-one, subst}
use Rattle.std.specs.Prelude.{slice_index_or}

pub nothing_left : {X : Type 0} (l : List X) → length l ≡ 0 → l ≡ []
nothing_left [] h = refl
nothing_left (x ∷ xs) h = absurd (omega arith)

abbrev first_of : {X : Type 0} → X → List X → X
first_of d [] = d
first_of d (t ∷ ts) = t

abbrev rest_of : {X : Type 0} → List X → List X
rest_of [] = []
rest_of (t ∷ ts) = ts

module _ {A B : Type 0} (f : A → B) where
  -- the next one is that of the next item
  pub next_within : (es : List A) (k : ℕ) (t : B) (ts : List B) → map f (drop k es) ≡ t ∷ ts → k < length es
  next_within [] zero t ts h = absurd (cc)
  next_within [] (suc k) t ts h = absurd (cc)
  next_within (e ∷ es) zero t ts h = omega arith
  next_within (e ∷ es) (suc k) t ts h = let r = next_within es k t ts h in omega arith

  pub next_one : (es : List A) (k : ℕ) (e : A) (t : B) (ts : List B) → e ≡ slice_index_or es k e → map f (drop k es) ≡ t ∷ ts → t ≡ f e
  next_one [] zero e t ts is h = absurd (cc)
  next_one [] (suc k) e t ts is h = absurd (cc)
  next_one (x ∷ es) zero e t ts is h = sym (ap (first_of t) h) ∙ ap f (sym is)
  next_one (x ∷ es) (suc k) e t ts is h = next_one es k e t ts is h

  next_rest_suc : (es : List A) (k : ℕ) (t : B) (ts : List B) → map f (drop k es) ≡ t ∷ ts → ts ≡ map f (drop (suc k) es)
  next_rest_suc [] zero t ts h = absurd (cc)
  next_rest_suc [] (suc k) t ts h = absurd (cc)
  next_rest_suc (e ∷ es) zero t ts h = sym (ap rest_of h)
  next_rest_suc (e ∷ es) (suc k) t ts h = next_rest_suc es k t ts h

  pub next_rest : (es : List A) (k : ℕ) (t : B) (ts : List B) → map f (drop k es) ≡ t ∷ ts → ts ≡ map f (drop (k + 1) es)
  next_rest es k t ts h = subst (λ n. ts ≡ map f (drop n es)) (sym (add-one k)) (next_rest_suc es k t ts h)

  map_more : (es : List A) (k : ℕ) (e : A) → k < length es → e ≡ slice_index_or es k e → map f (take k es) ++ f e ∷ [] ≡ map f (take (suc k) es)
  map_more [] k e below is = absurd (omega (arith, below))
  map_more (x ∷ es) zero e below is = ap (λ (y : A). f y ∷ []) is
  map_more (x ∷ es) (suc k) e below is = ap (λ (l : List B). f x ∷ l) (map_more es k e (omega (arith, below)) is)

  -- one more was made
  pub one_made : (es : List A) (k : ℕ) (made more : List B) (e : A) (b : B) → made ≡ map f (take k es) → k < length es → e ≡ slice_index_or es k e → b ≡ f e → more ≡ made ++ b ∷ [] → more ≡ map f (take (k + 1) es)
  one_made es k made more e b so below is said now =
      subst (λ n. more ≡ map f (take n es)) (sym (add-one k)) (now ∙ ap (λ l. l ++ b ∷ []) so ∙ ap (λ x. map f (take k es) ++ x ∷ []) said ∙ map_more es k e below is)

  -- nothing is behind, so all were made
  pub none_behind : (es : List A) (k : ℕ) → map f (drop k es) ≡ [] → take k es ≡ es
  none_behind [] zero h = refl
  none_behind [] (suc k) h = refl
  none_behind (e ∷ es) zero h = absurd (cc)
  none_behind (e ∷ es) (suc k) h = ap (λ l. e ∷ l) (none_behind es k h)

  -- two parts
  joined : (es : List A) (k : ℕ) → map f (take k es) ++ map f (drop k es) ≡ map f es
  joined [] zero = refl
  joined [] (suc k) = refl
  joined (e ∷ es) zero = refl
  joined (e ∷ es) (suc k) = ap (λ (l : List B). f e ∷ l) (joined es k)

  pub both_parts : (es : List A) (k : ℕ) (front behind all : List B) → front ≡ map f (take k es) → behind ≡ map f (drop k es) → all ≡ front ++ behind → all ≡ map f es
  both_parts es k front behind all g h is = is ∙ (λ i. g i ++ h i) ∙ joined es k

  pub first_part : (es : List A) (k : ℕ) → take k (map f es) ≡ map f (take k es)
  first_part [] zero = refl
  first_part [] (suc k) = refl
  first_part (e ∷ es) zero = refl
  first_part (e ∷ es) (suc k) = ap (λ (l : List B). f e ∷ l) (first_part es k)

  pub last_part : (es : List A) (k : ℕ) → drop k (map f es) ≡ map f (drop k es)
  last_part [] zero = refl
  last_part [] (suc k) = refl
  last_part (e ∷ es) zero = refl
  last_part (e ∷ es) (suc k) = last_part es k
