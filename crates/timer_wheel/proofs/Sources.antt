-- When two sources are the same.
use Rattle.std.proofs.Common.{inl, inr, ◌≡◌, ℕ, true, ◌==◌, if◌then◌else◌, refl, sym, ap, subst, ◌∙◌, eq-eqb}
use Rattle.std.proofs.lemmas.Bool.{eqb-true, and_parts, and_from, cases_Bool, true≢false}
use Rattle.emu_model.specs.declared.sources.Class.{Class}
use Rattle.emu_model.specs.declared.sources.Class.TheVariants.{NextCommand, Exit, Finish, Expiry, Emission}
use Rattle.emu_model.specs.declared.sources.Source.{Source}
use Rattle.emu_model.specs.Dues.{rank}
use Rattle.emu_model.specs.RunLaws.{same_source}
use Rattle.timer_wheel.specs.declared.Entry.{Entry}
use Rattle.timer_wheel.specs.Rows.{is_of}

abbrev class_at : ℕ → Class
class_at n =
    if n == 0 then NextCommand else if n == 1 then Exit else if n == 2 then Finish else if n == 3 then Expiry else Emission

class_at-rank : (c : Class) → class_at (rank c) ≡ c
class_at-rank NextCommand = refl
class_at-rank Exit = refl
class_at-rank Finish = refl
class_at-rank Expiry = refl
class_at-rank Emission = refl

pub same_source-true : (a b : Source) → same_source a b ≡ true → a ≡ b
same_source-true a b h =
    let p : (rank a.class == rank b.class ≡ true) × (a.number == b.number ≡ true) = and_parts (rank a.class == rank b.class) (a.number == b.number) h in
    let c : a.class ≡ b.class = sym (class_at-rank a.class) ∙ ap class_at (eqb-true _ _ p.0) ∙ class_at-rank b.class in
    let n : a.number ≡ b.number = eqb-true _ _ p.1 in
    λ i. record { class = c i; number = n i }

pub same_source-self : (a : Source) → same_source a a ≡ true
same_source-self a =
    and_from (rank a.class == rank a.class) (a.number == a.number) (eq-eqb (rank a.class) (rank a.class) refl) (eq-eqb a.number a.number refl)

pub same_source-sym : (a b : Source) → same_source a b ≡ same_source b a
same_source-sym a b =
    elim (cases_Bool (same_source a b)) [
      | inl t ↦ t ∙ sym (subst (λ x. same_source x a ≡ true) (same_source-true a b t) (same_source-self a))
      | inr f ↦ elim (cases_Bool (same_source b a)) [
        | inl t ↦ absurd (true≢false (sym (subst (λ x. same_source x b ≡ true) (same_source-true b a t) (same_source-self b)) ∙ f))
        | inr g ↦ f ∙ sym g
      ]
    ]

pub is_of-true : (o : ℕ) (s : Source) (e : Entry) → is_of o s e ≡ true → (e.owner ≡ o) × (e.source ≡ s)
is_of-true o s e h =
    let p : (e.owner == o ≡ true) × (same_source e.source s ≡ true) = and_parts (e.owner == o) (same_source e.source s) h in
    (eqb-true _ _ p.0, same_source-true _ _ p.1)

pub is_of-self : (e : Entry) → is_of e.owner e.source e ≡ true
is_of-self e =
    and_from (e.owner == e.owner) (same_source e.source e.source) (eq-eqb e.owner e.owner refl) (same_source-self e.source)
