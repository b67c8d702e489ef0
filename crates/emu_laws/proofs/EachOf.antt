-- What holds of each item of a list, and of a choice, once one of them is changed.
use Rattle.std.proofs.Common.{◌≡◌, ℕ, zero, suc, List, [], ◌∷◌, ◌++◌, Bool, true, false, refl, Option, Some, None, subst}
use Rattle.std.specs.Prelude.{if◌then◌else◌, find, slice_get, map}
use Rattle.std.specs.Option.{option_map_or}
use Rattle.std.specs.List.{AllByRecursion}
use Rattle.emu_model.specs.Lists.{replace_first, remove_first, change_at}

-- of both of two
pub either : {A : Type 0} (P : A → Type 0) (b : Bool) (x y : A) → P x → P y →
    P (if b then x else y)
either P true x y p q = p
either P false x y p q = q

-- of both of two, where the choice is known
pub of_choice : {A : Type 0} (P : A → Type 0) (b : Bool) (x y : A) → (b ≡ true → P x) → (b ≡ false → P y) →
    P (if b then x else y)
of_choice P true x y p q = p refl
of_choice P false x y p q = q refl

-- of what an option gives, and of what stands in for none
pub some_or : {A B : Type 0} (P : B → Type 0) (f : A → B) (o : Option A) (d : B) →
    ((a : A) → o ≡ Some a → P (f a)) → P d → P (option_map_or f o d)
some_or P f None d p q = q
some_or P f (Some a) d p q = p a refl

pub each_joined : {A : Type 0} (P : A → Type 0) (xs ys : List A) → AllByRecursion P xs →
    AllByRecursion P ys → AllByRecursion P (xs ++ ys)
each_joined P [] ys p q = q
each_joined P (x ∷ xs) ys p q = (p.0, each_joined P xs ys p.1 q)

pub each_front : {A : Type 0} (P : A → Type 0) (xs ys : List A) → AllByRecursion P (xs ++ ys) →
    AllByRecursion P xs
each_front P [] ys p = tt
each_front P (x ∷ xs) ys p = (p.0, each_front P xs ys p.1)

pub each_back : {A : Type 0} (P : A → Type 0) (xs ys : List A) → AllByRecursion P (xs ++ ys) →
    AllByRecursion P ys
each_back P [] ys p = p
each_back P (x ∷ xs) ys p = each_back P xs ys p.1

pub each_weaker : {A : Type 0} (P Q : A → Type 0) → ((x : A) → P x → Q x) → (xs : List A) →
    AllByRecursion P xs → AllByRecursion Q xs
each_weaker P Q h [] p = tt
each_weaker P Q h (x ∷ xs) p = (h x p.0, each_weaker P Q h xs p.1)

pub each_both : {A : Type 0} (P Q R : A → Type 0) → ((x : A) → P x → Q x → R x) → (xs : List A) →
    AllByRecursion P xs → AllByRecursion Q xs → AllByRecursion R xs
each_both P Q R h [] p q = tt
each_both P Q R h (x ∷ xs) p q = (h x p.0 q.0, each_both P Q R h xs p.1 q.1)

pub each_mapped : {A B : Type 0} (P : A → Type 0) (Q : B → Type 0) (f : A → B) →
    ((x : A) → P x → Q (f x)) → (xs : List A) → AllByRecursion P xs → AllByRecursion Q (map f xs)
each_mapped P Q f h [] p = tt
each_mapped P Q f h (x ∷ xs) p = (h x p.0, each_mapped P Q f h xs p.1)

pub each_found : {A : Type 0} (P : A → Type 0) (test : A → Bool) (x : A) (xs : List A) →
    find test xs ≡ Some x → AllByRecursion P xs → P x
each_found P test x [] e p = absurd (cc e)
each_found P test x (z ∷ zs) e p = go (test z) e (λ g. each_found P test x zs g p.1)
  where
    go : (b : Bool) → (if b then Some z else find test zs) ≡ Some x → (find test zs ≡ Some x → P x) → P x
    go true g later = subst P (cc g) p.0
    go false g later = later g

pub each_replaced : {A : Type 0} (P : A → Type 0) (test : A → Bool) (y : A) (xs : List A) → P y →
    AllByRecursion P xs → AllByRecursion P (replace_first test y xs)
each_replaced P test y [] q p = tt
each_replaced P test y (x ∷ xs) q p =
    either (AllByRecursion P) (test x) (y ∷ xs) (x ∷ replace_first test y xs) (q, p.1)
    (p.0, each_replaced P test y xs q p.1)

pub each_removed : {A : Type 0} (P : A → Type 0) (test : A → Bool) (xs : List A) →
    AllByRecursion P xs → AllByRecursion P (remove_first test xs)
each_removed P test [] p = tt
each_removed P test (x ∷ xs) p =
    either (AllByRecursion P) (test x) xs (x ∷ remove_first test xs) p.1
    (p.0, each_removed P test xs p.1)

pub each_got : {A : Type 0} (P : A → Type 0) (x : A) (xs : List A) (k : ℕ) →
    slice_get xs k ≡ Some x → AllByRecursion P xs → P x
each_got P x [] k e p = absurd (cc e)
each_got P x (z ∷ zs) zero e p = subst P (cc e) p.0
each_got P x (z ∷ zs) (suc k) e p = each_got P x zs k e p.1

pub each_changed : {A : Type 0} (P : A → Type 0) (f : A → A) (k : ℕ) (xs : List A) →
    ((x : A) → P x → P (f x)) → AllByRecursion P xs → AllByRecursion P (change_at k f xs)
each_changed P f k [] h p = tt
each_changed P f zero (x ∷ xs) h p = (h x p.0, p.1)
each_changed P f (suc k) (x ∷ xs) h p = (p.0, each_changed P f k xs h p.1)
