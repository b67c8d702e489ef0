-- What is put in parts, one behind the other.
use Rattle.std.proofs.Common.{◌≡◌, ℕ, List, [], ◌++◌, append_assoc, refl}

pub three_parts : (a0 a1 a2 a3 p q r : List ℕ) → a1 ≡ a0 ++ p → a2 ≡ a1 ++ q → a3 ≡ a2 ++ r → a3 ≡ a0 ++ (p ++ (q ++ r))
three_parts a0 a1 a2 a3 p q r e1 e2 e3 = rw (e3, e2, e1) (simp append_assoc)

pub five_parts : (a0 a1 a2 a3 a4 a5 p q r s t : List ℕ) → a0 ≡ [] → a1 ≡ a0 ++ p → a2 ≡ a1 ++ q → a3 ≡ a2 ++ r → a4 ≡ a3 ++ s → a5 ≡ a4 ++ t → a5 ≡ (((p ++ q) ++ r) ++ s) ++ t
five_parts a0 a1 a2 a3 a4 a5 p q r s t e0 e1 e2 e3 e4 e5 = rw (e5, e4, e3, e2, e1, e0) refl
