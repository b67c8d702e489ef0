-- A list round the first item that passes a test.
use Rattle.std.proofs.Common.{◌≡◌, ℕ, zero, suc, ◌<◌, Bool, true, false, cond, refl, sym, ap, ◌∙◌, List, [], ◌∷◌, ◌++◌, map, length, Some, None, take, drop, get_or, position, arith, ◌≤◌}
use Rattle.std.specs.Prelude.{is_some, slice_get, option_map}
use Rattle.std.specs.List.{find, position_or_len}
use Rattle.std.proofs.lemmas.Grind.{common_steps}
use Rattle.std.proofs.lemmas.List.Folds.{find_at}
use Rattle.std.proofs.lemmas.List.{set_split, set-get_or}
use Rattle.std.proofs.lemmas.List.Quantifiers.{position-Some}
use Rattle.emu_model.specs.Lists.{replace_first, remove_first}

module _ {A : Type 0} (p : A → Bool) where
  unpassed : (d : A) (xs : List A) (i : ℕ) → ((k : ℕ) → k < i → p (get_or xs k d) ≡ false) → find p (take i xs) ≡ None
  unpassed d [] zero f = refl
  unpassed d [] (suc i) f = refl
  unpassed d (x ∷ xs) zero f = refl
  unpassed d (x ∷ xs) (suc i) f = go (p x) (f 0 (omega arith)) (unpassed d xs i (λ k l. f (suc k) (omega (arith, l))))
    where
      go : (b : Bool) → b ≡ false → find p (take i xs) ≡ None → cond b (Some x) (find p (take i xs)) ≡ None
      go true e h = absurd (cc)
      go false e h = h

  pub find-behind : (xs ys : List A) → find p xs ≡ None → find p (xs ++ ys) ≡ find p ys
  find-behind [] ys h = refl
  find-behind (x ∷ xs) ys h = go (find-behind xs ys) (p x) h
    where
      go : (find p xs ≡ None → find p (xs ++ ys) ≡ find p ys) → (b : Bool) → cond b (Some x) (find p xs) ≡ None → cond b (Some x) (find p (xs ++ ys)) ≡ find p ys
      go rest true e = absurd (cc)
      go rest false e = rest e

  pub replace-behind : (xs ys : List A) (y : A) → find p xs ≡ None → replace_first p y (xs ++ ys) ≡ xs ++ replace_first p y ys
  replace-behind [] ys y h = refl
  replace-behind (x ∷ xs) ys y h = go (replace-behind xs ys y) (p x) h
    where
      go : (find p xs ≡ None → replace_first p y (xs ++ ys) ≡ xs ++ replace_first p y ys) → (b : Bool) → cond b (Some x) (find p xs) ≡ None → cond b (y ∷ (xs ++ ys)) (x ∷ replace_first p y (xs ++ ys)) ≡ x ∷ (xs ++ replace_first p y ys)
      go rest true e = absurd (cc)
      go rest false e = ap (λ l. x ∷ l) (rest e)

  pub remove-behind : (xs ys : List A) → find p xs ≡ None → remove_first p (xs ++ ys) ≡ xs ++ remove_first p ys
  remove-behind [] ys h = refl
  remove-behind (x ∷ xs) ys h = go (remove-behind xs ys) (p x) h
    where
      go : (find p xs ≡ None → remove_first p (xs ++ ys) ≡ xs ++ remove_first p ys) → (b : Bool) → cond b (Some x) (find p xs) ≡ None → cond b (xs ++ ys) (x ∷ remove_first p (xs ++ ys)) ≡ x ∷ (xs ++ remove_first p ys)
      go rest true e = absurd (cc)
      go rest false e = ap (λ l. x ∷ l) (rest e)

  -- the place of the first that passes
  pub position-within : (xs : List A) (i : ℕ) (x : A) → Some i ≡ position p xs → i < length xs
  position-within xs i x h = (position-Some p xs i x (sym h)).0

  pub position-passes : (xs : List A) (i : ℕ) (x : A) → Some i ≡ position p xs → x ≡ get_or xs i x → p x ≡ true
  position-passes xs i x h read = ap p read ∙ (position-Some p xs i x (sym h)).1

  pub position-first : (xs : List A) (i : ℕ) (x : A) → Some i ≡ position p xs → find p (take i xs) ≡ None
  position-first xs i x h = unpassed x xs i (position-Some p xs i x (sym h)).2

  pub position-whole : (xs : List A) (i : ℕ) (x : A) → Some i ≡ position p xs → x ≡ get_or xs i x → xs ≡ take i xs ++ x ∷ drop (suc i) xs
  position-whole xs i x h read =
      sym (set-get_or xs i x) ∙ set_split xs i (get_or xs i x) (position-within xs i x h)
      ∙ ap (λ y. take i xs ++ y ∷ drop (suc i) xs) (sym read)

  beyond : (xs : List A) (n : ℕ) → length xs ≤ n → slice_get xs n ≡ None
  beyond [] n le = refl
  beyond (x ∷ xs) zero le = absurd (omega (arith, le))
  beyond (x ∷ xs) (suc n) le = beyond xs n (omega (arith, le))

  pub position-none : (xs : List A) → None ≡ position p xs → find p xs ≡ None
  position-none xs h =
      let outside : length xs ≤ position_or_len p xs = grind (arith, common_steps) in
      find_at p xs ∙ beyond xs (position_or_len p xs) outside

  inside-some : (xs : List A) (n : ℕ) → n < length xs → is_some (slice_get xs n) ≡ true
  inside-some [] n lt = absurd (omega (arith, lt))
  inside-some (x ∷ xs) zero lt = refl
  inside-some (x ∷ xs) (suc n) lt = inside-some xs n (omega (arith, lt))

  pub position-some : (xs : List A) (i : ℕ) → Some i ≡ position p xs → is_some (find p xs) ≡ true
  position-some xs i h =
      let within : position_or_len p xs < length xs = grind (arith, common_steps) in
      ap is_some (find_at p xs) ∙ inside-some xs (position_or_len p xs) within

  pub position-len : (xs : List A) (i : ℕ) → Some i ≡ position p xs → i ≡ position_or_len p xs
  position-len xs i h = grind (arith, common_steps)

  pub none-len : (xs : List A) → position_or_len p xs ≤ length xs → None ≡ position p xs → length xs ≡ position_or_len p xs
  none-len xs le h =
      let outside : length xs ≤ position_or_len p xs = grind (arith, common_steps) in omega (arith, le, outside)

pub find-map : {A B : Type 0} (p : A → Bool) (q : B → Bool) (h : A → B) → ((a : A) → q (h a) ≡ p a) → (xs : List A) →
    find q (map h xs) ≡ option_map h (find p xs)
find-map p q h same [] = refl
find-map p q h same (x ∷ xs) = (λ i. cond (same x i) (Some (h x)) (find-map p q h same xs i)) ∙ go (p x)
  where
    go : (b : Bool) → cond b (Some (h x)) (option_map h (find p xs)) ≡ option_map h (cond b (Some x) (find p xs))
    go true = refl
    go false = refl
