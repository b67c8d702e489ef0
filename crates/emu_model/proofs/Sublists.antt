-- Lists of which another has some items, in their order.
use Rattle.std.proofs.Common.{◌≡◌, ℕ, List, [], ◌∷◌, ◌++◌, refl, ◌∙◌, subst, inl, inr, append-nil}
use Rattle.emu_model.specs.TraceLaws.{IsSublist}

pub sub-refl : (xs : List ℕ) → IsSublist xs xs
sub-refl [] = tt
sub-refl (x ∷ xs) = inl (refl, sub-refl xs)

pub sub-same : (xs ys : List ℕ) → xs ≡ ys → IsSublist xs ys
sub-same xs ys e = subst (IsSublist xs) e (sub-refl xs)

sub-skip : (xs ys : List ℕ) (y : ℕ) → IsSublist xs ys → IsSublist xs (y ∷ ys)
sub-skip [] ys y h = tt
sub-skip (x ∷ xs) ys y h = inr h

pub sub-trans : (xs ys zs : List ℕ) → IsSublist xs ys → IsSublist ys zs → IsSublist xs zs
sub-trans [] ys zs p q = tt
sub-trans (x ∷ xs) [] zs p q = absurd p
sub-trans (x ∷ xs) (y ∷ ys) [] p q = absurd q
sub-trans (x ∷ xs) (y ∷ ys) (z ∷ zs) p (inr q) = inr (sub-trans (x ∷ xs) (y ∷ ys) zs p q)
sub-trans (x ∷ xs) (y ∷ ys) (z ∷ zs) (inl p) (inl q) = inl (p.0 ∙ q.0, sub-trans xs ys zs p.1 q.1)
sub-trans (x ∷ xs) (y ∷ ys) (z ∷ zs) (inr p) (inl q) = inr (sub-trans (x ∷ xs) ys zs p q.1)

pub sub-joined : (xs ys us vs : List ℕ) → IsSublist xs ys → IsSublist us vs → IsSublist (xs ++ us) (ys ++ vs)
sub-joined [] [] us vs p q = q
sub-joined [] (y ∷ ys) us vs p q = sub-skip us (ys ++ vs) y (sub-joined [] ys us vs tt q)
sub-joined (x ∷ xs) [] us vs p q = absurd p
sub-joined (x ∷ xs) (y ∷ ys) us vs (inl p) q = inl (p.0, sub-joined xs ys us vs p.1 q)
sub-joined (x ∷ xs) (y ∷ ys) us vs (inr p) q = inr (sub-joined (x ∷ xs) ys us vs p q)

-- the front of a list, and its back
pub sub-front : (xs ys : List ℕ) → IsSublist xs (xs ++ ys)
sub-front xs ys = subst (λ zs. IsSublist zs (xs ++ ys)) (append-nil xs) (sub-joined xs xs [] ys (sub-refl xs) tt)

pub sub-back : (xs ys : List ℕ) → IsSublist ys (xs ++ ys)
sub-back xs ys = sub-joined [] xs ys ys tt (sub-refl ys)
