-- What is read of one word after the other.
use Rattle.std.proofs.Common.{◌≡◌, ◌⊎◌, inl, inr, Bool, true, false, cond, List, [], ◌∷◌, Option, Some, None, refl, ap, ◌∙◌, ℕ}
use Rattle.std.specs.Str.{bytes_eq}
use Rattle.control_words.specs.Words.{Words, ◌>>=◌, after, none_left}
pub use Rattle.control_words.proofs.CallerLemmas.{key_is, value_is, said_is}

pub bind_some : {A B : Type 0} (o : Option A) (f : A → Option B) (y : B) → (o >>= f) ≡ Some y → (x : A) × (o ≡ Some x) × (f x ≡ Some y)
bind_some None f y e = absurd cc
bind_some (Some x) f y e = (x, refl, e)

pub chosen : {A : Type 0} (b : Bool) (x y z : A) → cond b x y ≡ z → ((b ≡ true) × (x ≡ z)) ⊎ ((b ≡ false) × (y ≡ z))
chosen true x y z e = inl (refl, e)
chosen false x y z e = inr (refl, e)

after_at : {B : Type 0} (w text : List ℕ) (ws : Words) (f : Words → Option B) (y : B) (b : Bool) → bytes_eq w text ≡ b → (cond b (Some ws) None >>= f) ≡ Some y → (rest : Words) × (w ∷ ws ≡ text ∷ rest) × (f rest ≡ Some y)
after_at w text ws f y true k e = (ws, ap (λ (x : List ℕ). x ∷ ws) (key_is w text k), e)
after_at w text ws f y false k e = absurd cc

-- the next word is this text, and f goes on
pub after_is : {B : Type 0} (text : List ℕ) (ws : Words) (f : Words → Option B) (y : B) → (after text ws >>= f) ≡ Some y → (rest : Words) × (ws ≡ text ∷ rest) × (f rest ≡ Some y)
after_is text [] f y e = absurd cc
after_is text (w ∷ ws) f y e = after_at w text ws f y (bytes_eq w text) refl e

-- no word is left, and f goes on
pub end_is : {B : Type 0} (ws : Words) (f : Words → Option B) (y : B) → (none_left ws >>= f) ≡ Some y → (ws ≡ []) × (f [] ≡ Some y)
end_is [] f y e = (refl, e)
end_is (w ∷ ws) f y e = absurd cc
