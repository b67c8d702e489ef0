-- The lesser of two dues, in any order and in any grouping; and the least of many by it.
use Rattle.std.proofs.Common.{inl, inr, ◌≡◌, cond, List, [], ◌∷◌, ◌++◌, refl, sym, ap, ◌∙◌}
use Rattle.std.specs.Prelude.{Option, Some, None, option_to_list}
use Rattle.std.specs.List.{best_of}
use Rattle.std.proofs.lemmas.Bool.{cases_Bool, cond-true, cond-false, false≢true}
use Rattle.emu_model.specs.declared.sources.Due.{Due}
use Rattle.emu_model.specs.Dues.{is_before}
use Rattle.due_index.specs.Least.{dues_in, least_of, lesser}
use Rattle.due_index.proofs.DueOrder.{is_before-order, same_due}

abbrev pub sooner : Due → Due → Due
sooner a b = cond (is_before b a) b a

sooner-comm : (a b : Due) → sooner a b ≡ sooner b a
sooner-comm a b = elim (cases_Bool (is_before b a)) [
  | inl t ↦ cond-true _ b a t ∙ sym (cond-false _ a b (is_before-order.one_way b a t))
  | inr f ↦ elim (cases_Bool (is_before a b)) [
    | inl t ↦ cond-false _ b a f ∙ sym (cond-true _ a b t)
    | inr g ↦ cond-false _ b a f ∙ same_due a b g f ∙ sym (cond-false _ a b g)
  ]
]

sooner-assoc : (a b c : Due) → sooner (sooner a b) c ≡ sooner a (sooner b c)
sooner-assoc a b c = elim (cases_Bool (is_before b a)) [
  | inl t ↦ ap (λ d. sooner d c) (cond-true _ b a t)
      ∙ (elim (cases_Bool (is_before c b)) [
        | inl s ↦ elim (cases_Bool (is_before c a)) [
          | inl r ↦ cond-true _ c b s ∙ sym (cond-true _ c a r)
              ∙ sym (ap (sooner a) (cond-true _ c b s))
          | inr r ↦ absurd (false≢true
              (sym (is_before-order.chain c a b r (is_before-order.one_way b a t)) ∙ s))
        ]
        | inr s ↦ cond-false _ c b s ∙ sym (cond-true _ b a t)
            ∙ sym (ap (sooner a) (cond-false _ c b s))
      ])
  | inr f ↦ ap (λ d. sooner d c) (cond-false _ b a f)
      ∙ (elim (cases_Bool (is_before c b)) [
        | inl s ↦ sym (ap (sooner a) (cond-true _ c b s))
        | inr s ↦ cond-false _ c a (is_before-order.chain c b a s f) ∙ sym (cond-false _ b a f)
            ∙ sym (ap (sooner a) (cond-false _ c b s))
      ])
]

pub lesser-none : (a : Option Due) → lesser a None ≡ a
lesser-none None = refl
lesser-none (Some a) = refl

pub lesser-comm : (a b : Option Due) → lesser a b ≡ lesser b a
lesser-comm None b = sym (lesser-none b)
lesser-comm (Some a) None = refl
lesser-comm (Some a) (Some b) = ap Some (sooner-comm a b)

pub lesser-assoc : (a b c : Option Due) → lesser (lesser a b) c ≡ lesser a (lesser b c)
lesser-assoc None b c = refl
lesser-assoc (Some a) None c = refl
lesser-assoc (Some a) (Some b) None = refl
lesser-assoc (Some a) (Some b) (Some c) = ap Some (sooner-assoc a b c)

-- the least of dues, one by one
abbrev pub least_all : List Due → Option Due
least_all [] = None
least_all (d ∷ ds) = lesser (Some d) (least_all ds)

pub best_of-least : (b : Due) (ds : List Due) →
    Some (best_of is_before b ds) ≡ lesser (Some b) (least_all ds)
best_of-least b [] = refl
best_of-least b (d ∷ ds) = best_of-least (sooner b d) ds
    ∙ lesser-assoc (Some b) (Some d) (least_all ds)

pub least_of-all : (ds : List Due) → least_of ds ≡ least_all ds
least_of-all [] = refl
least_of-all (d ∷ ds) = best_of-least d ds

pub least_all-append : (xs ys : List Due) →
    least_all (xs ++ ys) ≡ lesser (least_all xs) (least_all ys)
least_all-append [] ys = refl
least_all-append (x ∷ xs) ys =
    ap (lesser (Some x)) (least_all-append xs ys)
    ∙ sym (lesser-assoc (Some x) (least_all xs) (least_all ys))

pub least_all-option : (o : Option Due) → least_all (option_to_list o) ≡ o
least_all-option None = refl
least_all-option (Some d) = refl

-- the least of dues that may be there
abbrev pub least_leaf : List (Option Due) → Option Due
least_leaf [] = None
least_leaf (o ∷ os) = lesser o (least_leaf os)

pub least_leaf-dues : (os : List (Option Due)) → least_all (dues_in os) ≡ least_leaf os
least_leaf-dues [] = refl
least_leaf-dues (o ∷ os) =
    least_all-append (option_to_list o) (dues_in os)
    ∙ ap (λ p. lesser p (least_all (dues_in os))) (least_all-option o)
    ∙ ap (lesser o) (least_leaf-dues os)

pub least_of-leaf : (os : List (Option Due)) → least_of (dues_in os) ≡ least_leaf os
least_of-leaf os = least_of-all (dues_in os) ∙ least_leaf-dues os

-- two pairs of dues, by twos in the other way
pub lesser-swap : (a b c d : Option Due) →
    lesser (lesser a b) (lesser c d) ≡ lesser (lesser a c) (lesser b d)
lesser-swap a b c d =
    lesser-assoc a b (lesser c d)
    ∙ ap (lesser a) (sym (lesser-assoc b c d) ∙ ap (λ o. lesser o d) (lesser-comm b c)
    ∙ lesser-assoc c b d)
    ∙ sym (lesser-assoc a c (lesser b d))
