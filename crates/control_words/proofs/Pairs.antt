-- What is read of one word after the other.
use Rattle.std.proofs.Common.{◌≡◌, ℕ, true, List, [], ◌∷◌, length, Option, Some, None, refl, sym, ap, subst, ◌∙◌, arith}
use Rattle.std.specs.Str.{bytes_eq}
use Rattle.std.proofs.lemmas.Option.{some_pair_parts}
use Rattle.std.proofs.lemmas.Slice.Eq.{bytes_eq-Decides}
use Rattle.control_words.specs.Words.{Words, ◌>>=◌, value, said}
use Rattle.control_words.proofs.Phrases.{Finds, Shrinks}

pub key_is : (k text : List ℕ) → bytes_eq k text ≡ true → k ≡ text
key_is k text e = (bytes_eq-Decides k text).0 e

abbrev with_rest : {A : Type 0} → Words → A → Option (A × Words)
with_rest ws a = Some (a, ws)

value_at : {A B : Type 0} (o : Option A) (ws : Words) (f : A × Words → Option B) (y : B) → ((o >>= with_rest ws) >>= f) ≡ Some y → (a : A) × (o ≡ Some a) × (f (a, ws) ≡ Some y)
value_at None ws f y e = absurd cc
value_at (Some a) ws f y e = (a, refl, e)

-- the next word says a, and f goes on
pub value_is : {A B : Type 0} (says : List ℕ → Option A) (ws : Words) (f : A × Words → Option B) (y : B) → (value says ws >>= f) ≡ Some y → (w : List ℕ) × (rest : Words) × (a : A) × (ws ≡ w ∷ rest) × (says w ≡ Some a) × (f (a, rest) ≡ Some y)
value_is says [] f y e = absurd cc
value_is says (w ∷ ws) f y e =
    let a = value_at (says w) ws f y e in
    (w, ws, a.0, refl, a.1, a.2)

-- the next word says a thing
pub said_is : {A B : Type 0} (says : List ℕ → Option A) (thing : A → B) (ws : Words) (b : B) (rest : Words) → said says thing ws ≡ Some (b, rest) → (v : List ℕ) × (a : A) × (ws ≡ v ∷ rest) × (says v ≡ Some a) × (thing a ≡ b)
said_is {B = B} says thing ws b rest e =
    let end : B × Words = (b, rest) in
    let v = value_is says ws (λ a. Some (thing a.0, a.1)) end e in
    let p = some_pair_parts (thing v.2) b v.1 rest v.5 in
    (v.0, v.2, v.3 ∙ ap (λ (x : Words). v.0 ∷ x) p.1, v.4, p.0)

-- what is read as a pair is one
abbrev pub FindsPairs : {A : Type 0} → (Words → A → Type 0) → (List ℕ → Words → Option (A × Words)) → Type 0
FindsPairs {A = A} P one = (k : List ℕ) (ws : Words) (a : A) (rest : Words) → one k ws ≡ Some (a, rest) → (v : List ℕ) × (ws ≡ v ∷ rest) × P (k ∷ v ∷ []) a

pub pair_found : {A B : Type 0} (key : List ℕ) (says : List ℕ → Option A) (thing : A → B) (P : Words → B → Type 0) (k : List ℕ) (ws : Words) (b : B) (rest : Words) → ((v : List ℕ) (a : A) → says v ≡ Some a → P (key ∷ v ∷ []) (thing a)) → bytes_eq k key ≡ true → said says thing ws ≡ Some (b, rest) → (v : List ℕ) × (ws ≡ v ∷ rest) × P (k ∷ v ∷ []) b
pair_found key says thing P k ws b rest holds is e =
    let v = said_is says thing ws b rest e in
    (v.0, v.2, subst (λ x. P (k ∷ v.0 ∷ []) x) v.4 (subst (λ (x : List ℕ). P (x ∷ v.0 ∷ []) (thing v.1)) (sym (key_is k key is)) (holds v.0 v.1 v.3)))

pub shrinks_by : {A : Type 0} (P : Words → A → Type 0) (one : List ℕ → Words → Option (A × Words)) → FindsPairs P one → Shrinks one
shrinks_by P one finds k ws a rest e =
    let p = finds k ws a rest e in
    omega (arith, ap length p.1)

pub finds_by : {A : Type 0} (P : Words → A → Type 0) (one : List ℕ → Words → Option (A × Words)) → FindsPairs P one → Finds P one
finds_by P one finds k ws a rest e =
    let p = finds k ws a rest e in
    (k ∷ p.0 ∷ [], ap (λ (x : Words). k ∷ x) p.1, p.2)
