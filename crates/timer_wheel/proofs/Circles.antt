-- Circles of links, two of which are crossed.
use Rattle.std.proofs.Common.{inl, inr, ◌≡◌, ◌≢◌, ℕ, ◌<◌, ◌==◌, cond, refl, sym, ap, subst, ◌∙◌, eq-eqb}
use Rattle.std.proofs.lemmas.Bool.{cases_eq, ne_eqb}
use Rattle.timer_wheel.specs.Rings.{AreLinked}

pub pick_same : (q b x z : ℕ) → q ≡ b → cond (q == b) x z ≡ x
pick_same q b x z e = ap (λ t. cond t x z) (eq-eqb q b e)

pub pick_other : (q b x z : ℕ) → q ≢ b → cond (q == b) x z ≡ z
pick_other q b x z ne = ap (λ t. cond t x z) (ne_eqb q b ne)

pub record AreCircles (n : ℕ) (next prev : ℕ → ℕ) : Type 0 where
  pub next_in : (q : ℕ) → q < n → next q < n
  pub prev_in : (q : ℕ) → q < n → prev q < n
  pub back : (q : ℕ) → q < n → prev (next q) ≡ q
  pub forth : (q : ℕ) → q < n → next (prev q) ≡ q

pub circles : (n : ℕ) (next prev list height : ℕ → ℕ) (top : ℕ) → AreLinked n next prev list height top → AreCircles n next prev
circles n next prev list height top w = record { next_in = w.next_in; prev_in = w.prev_in; back = w.back; forth = w.forth }

pub record Crosses (next prev next' prev' : ℕ → ℕ) (a b : ℕ) : Type 0 where
  pub next_is : (q : ℕ) → next' q ≡ cond (q == b) (next a) (cond (q == a) (next b) (next q))
  pub prev_is : (q : ℕ) → prev' q ≡ cond (q == next a) b (cond (q == next b) a (prev q))

module _ (n : ℕ) (next prev next' prev' : ℕ → ℕ) (a b : ℕ) (a_in : a < n) (b_in : b < n) (w : AreCircles n next prev) (x : Crosses next prev next' prev' a b) where
  alike : (q r : ℕ) → q < n → r < n → next q ≡ next r → q ≡ r
  alike q r h k e = sym (w.back q h) ∙ ap prev e ∙ w.back r k

  pub next_at_b : (q : ℕ) → q ≡ b → next' q ≡ next a
  next_at_b q e = x.next_is q ∙ pick_same q b _ _ e

  pub next_at_a : (q : ℕ) → q ≢ b → q ≡ a → next' q ≡ next b
  next_at_a q ne e = x.next_is q ∙ pick_other q b _ _ ne ∙ pick_same q a _ _ e

  pub next_else : (q : ℕ) → q ≢ b → q ≢ a → next' q ≡ next q
  next_else q ne nf = x.next_is q ∙ pick_other q b _ _ ne ∙ pick_other q a _ _ nf

  pub prev_at_a : (q : ℕ) → q ≡ next a → prev' q ≡ b
  prev_at_a q e = x.prev_is q ∙ pick_same q (next a) _ _ e

  pub prev_at_b : (q : ℕ) → q ≢ next a → q ≡ next b → prev' q ≡ a
  prev_at_b q ne e = x.prev_is q ∙ pick_other q (next a) _ _ ne ∙ pick_same q (next b) _ _ e

  pub prev_else : (q : ℕ) → q ≢ next a → q ≢ next b → prev' q ≡ prev q
  prev_else q ne nf = x.prev_is q ∙ pick_other q (next a) _ _ ne ∙ pick_other q (next b) _ _ nf

  crossed_back : (q : ℕ) → q < n → prev' (next' q) ≡ q
  crossed_back q h =
      elim (cases_eq q b) [
        | inl e ↦ ap prev' (next_at_b q e) ∙ prev_at_a (next a) refl ∙ sym e
        | inr ne ↦ elim (cases_eq q a) [
          | inl e ↦ ap prev' (next_at_a q ne e) ∙ prev_at_b (next b) (λ k. ne (e ∙ sym (alike b a b_in a_in k))) refl ∙ sym e
          | inr nf ↦ ap prev' (next_else q ne nf) ∙ prev_else (next q) (λ k. nf (alike q a h a_in k)) (λ k. ne (alike q b h b_in k)) ∙ w.back q h
        ]
      ]

  crossed_forth : (q : ℕ) → q < n → next' (prev' q) ≡ q
  crossed_forth q h =
      elim (cases_eq q (next a)) [
        | inl e ↦ ap next' (prev_at_a q e) ∙ next_at_b b refl ∙ sym e
        | inr ne ↦ elim (cases_eq q (next b)) [
          | inl e ↦ ap next' (prev_at_b q ne e) ∙ next_at_a a (λ k. ne (e ∙ ap next (sym k))) refl ∙ sym e
          | inr nf ↦ ap next' (prev_else q ne nf) ∙ next_else (prev q) (λ k. nf (sym (w.forth q h) ∙ ap next k)) (λ k. ne (sym (w.forth q h) ∙ ap next k)) ∙ w.forth q h
        ]
      ]

  below : (y z : ℕ) → z ≡ y → y < n → z < n
  below y z e h = subst (λ v. v < n) (sym e) h

  pub crossed : AreCircles n next' prev'
  crossed =
      record {
        next_in = λ q h.
            elim (cases_eq q b) [
              | inl e ↦ below (next a) _ (next_at_b q e) (w.next_in a a_in)
              | inr ne ↦ elim (cases_eq q a) [
                | inl e ↦ below (next b) _ (next_at_a q ne e) (w.next_in b b_in)
                | inr nf ↦ below (next q) _ (next_else q ne nf) (w.next_in q h)
              ]
            ];
        prev_in = λ q h.
            elim (cases_eq q (next a)) [
              | inl e ↦ below b _ (prev_at_a q e) b_in
              | inr ne ↦ elim (cases_eq q (next b)) [
                | inl e ↦ below a _ (prev_at_b q ne e) a_in
                | inr nf ↦ below (prev q) _ (prev_else q ne nf) (w.prev_in q h)
              ]
            ];
        back = crossed_back;
        forth = crossed_forth;
      }

  -- where both links are in one list, each link's list stays that of the next
  pub crossed_same : (list : ℕ → ℕ) → list a ≡ list b → ((q : ℕ) → q < n → list (next q) ≡ list q) → (q : ℕ) → q < n → list (next' q) ≡ list q
  crossed_same list level same q h =
      elim (cases_eq q b) [
        | inl e ↦ ap list (next_at_b q e) ∙ same a a_in ∙ level ∙ ap list (sym e)
        | inr ne ↦ elim (cases_eq q a) [
          | inl e ↦ ap list (next_at_a q ne e) ∙ same b b_in ∙ sym level ∙ ap list (sym e)
          | inr nf ↦ ap list (next_else q ne nf) ∙ same q h
        ]
      ]
