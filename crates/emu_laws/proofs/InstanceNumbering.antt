-- The different identifiers of a list that begins with another begin with those of the other.
use Rattle.std.proofs.Common.{inl, inr, ◌≡◌, Bool, true, false, cond, List, [], ◌∷◌, ◌++◌, length, refl, sym, ap, ◌∙◌, append_assoc, append-nil, eq-eqb, arith}
use Rattle.std.specs.Prelude.{◌||◌, nat_lt, Some, position}
use Rattle.std.specs.List.{list_any, position_or_len}
use Rattle.std.proofs.lemmas.Bool.{cases_Bool, lt-ltb}
use Rattle.std.proofs.lemmas.List.{length-append}
use Rattle.std.proofs.lemmas.List.Folds.{list_any-append}
use Rattle.emu_model.specs.FlowIds.{FlowId, same_flow, different, instance_of}
use Rattle.emu_laws.specs.InstanceNumbers.{NumbersCountIdentifiers}

neither : (a b : Bool) → (a || b) ≡ false → (a ≡ false) × (b ≡ false)
neither true b h = cc
neither false b h = (refl, h)

same : (i : FlowId) → same_flow i i ≡ true
same i =
    rw (
      eq-eqb i.proto i.proto refl,
      eq-eqb i.src i.src refl,
      eq-eqb i.dst i.dst refl,
      eq-eqb i.sport i.sport refl,
      eq-eqb i.dport i.dport refl,
    ) refl

reinject : (seen before rest : List FlowId) →
    different seen (before ++ rest) ≡ different (different seen before) rest
reinject seen [] rest = refl
reinject seen (i ∷ is) rest = reinject (cond (list_any (same_flow i) seen) seen (seen ++ i ∷ [])) is rest

-- what is seen stands first
begins : (seen is : List FlowId) → (more : List FlowId) × (different seen is ≡ seen ++ more)
begins seen [] = ([], sym (append-nil seen))
begins seen (i ∷ is) = elim (cases_Bool (list_any (same_flow i) seen)) [
  | inl t ↦ let b = begins seen is in (b.0, rw t b.1)
  | inr f ↦ let b = begins (seen ++ i ∷ []) is in
      (i ∷ b.0, rw f (b.1 ∙ append_assoc seen (i ∷ []) b.0))
]

-- what isn't among identifiers isn't among the different ones
absent : (p : FlowId → Bool) (seen is : List FlowId) → list_any p seen ≡ false → list_any p is ≡ false →
    list_any p (different seen is) ≡ false
absent p seen [] h k = h
absent p seen (i ∷ is) h k =
    let parts = neither (p i) (list_any p is) k in
    elim (cases_Bool (list_any (same_flow i) seen)) [
      | inl t ↦ rw t (absent p seen is h parts.1)
      | inr f ↦ rw f (absent p (seen ++ i ∷ []) is
          (list_any-append p seen (i ∷ []) ∙ rw (h, parts.0) refl) parts.1)
    ]

behind : (p : FlowId → Bool) (made more : List FlowId) (i : FlowId) → list_any p made ≡ false → p i ≡ true →
    position_or_len p (made ++ i ∷ more) ≡ length made
behind p [] more i h is = rw is refl
behind p (j ∷ js) more i h is =
    let parts = neither (p j) (list_any p js) h in
    rw parts.0 (omega (arith, behind p js more i parts.1 is))

found : (p : FlowId → Bool) (made more : List FlowId) (i : FlowId) → list_any p made ≡ false → p i ≡ true →
    position p (made ++ i ∷ more) ≡ Some (length made)
found p made more i h is =
    let at = behind p made more i h is in
    let low : nat_lt (position_or_len p (made ++ i ∷ more)) (length (made ++ i ∷ more)) ≡ true =
    lt-ltb _ _ (omega (arith, at, length-append made (i ∷ more))) in
    rw low (ap Some at)

pub numbers_count_identifiers : NumbersCountIdentifiers
numbers_count_identifiers before after i new =
    let made : List FlowId = different [] before in
    let apart : list_any (same_flow i) made ≡ false = absent (same_flow i) [] before refl new in
    let rest = begins (made ++ i ∷ []) after in
    let all : different [] (before ++ i ∷ after) ≡ made ++ i ∷ rest.0 =
    reinject [] before (i ∷ after) ∙ rw apart (rest.1 ∙ append_assoc made (i ∷ []) rest.0) in
    ap (λ ids. instance_of ids i) all ∙ rw (found (same_flow i) made rest.0 i apart (same i)) refl
