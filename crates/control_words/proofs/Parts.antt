-- A word in parts, one part too many.
use Rattle.std.proofs.Common.{◌≡◌, ℕ, Bool, true, false, cond, eqb, List, [], ◌∷◌, None, refl}
use Rattle.std.specs.List.{onto_first}
use Rattle.std.specs.Str.{bytes_eq}
use lib.Chars.{codes}
use Rattle.control_words.specs.Text.{parts}
use Rattle.control_words.specs.Addresses.{address_of, prefix_of, ports_of}

made : (b : Bool) (x : ℕ) (ls : List (List ℕ)) → (m : List ℕ) × (ms : List (List ℕ)) × (cond b ([] ∷ ls) (onto_first x ls) ≡ m ∷ ms)
made true x ls = ([], ls, refl)
made false x [] = (x ∷ [], [], refl)
made false x (l ∷ ls) = (x ∷ l, ls, refl)

-- there is a part, if only an empty one
pub some_part : (s : ℕ) (xs : List ℕ) → (m : List ℕ) × (ms : List (List ℕ)) × (parts s xs ≡ m ∷ ms)
some_part s [] = ([], [], refl)
some_part s (x ∷ xs) = made (eqb x s) x (parts s xs)

pub five : (word a b c d r1 r2 r3 e : List ℕ) → parts 46 word ≡ a ∷ parts 46 r1 → parts 46 r1 ≡ b ∷ parts 46 r2 → parts 46 r2 ≡ c ∷ parts 46 r3 → parts 46 r3 ≡ d ∷ parts 46 e → None ≡ address_of word
unfolding address_of
five word a b c d r1 r2 r3 e e1 e2 e3 e4 = let m = some_part 46 e in rw (e1, e2, e3, e4, m.2) refl

pub three_bits : (word a b r1 e : List ℕ) → bytes_eq word (codes "any") ≡ false → parts 47 word ≡ a ∷ parts 47 r1 → parts 47 r1 ≡ b ∷ parts 47 e → None ≡ prefix_of word
unfolding prefix_of
three_bits word a b r1 e any e1 e2 = let m = some_part 47 e in rw (any, e1, e2, m.2) refl

pub three_ports : (word a b r1 e : List ℕ) → parts 45 word ≡ a ∷ parts 45 r1 → parts 45 r1 ≡ b ∷ parts 45 e → None ≡ ports_of word
unfolding ports_of
three_ports word a b r1 e e1 e2 = let m = some_part 45 e in rw (e1, e2, m.2) refl
