-- A key that leaves its list, and one that comes into a list.
use Rattle.std.proofs.Common.{inl, inr, ◌⊎◌, ◌≡◌, ◌≢◌, ℕ, zero, suc, ◌+◌, ◌<◌, ◌≤◌, ◌==◌, cond, refl, sym, ap, subst, ◌∙◌, arith}
use Rattle.std.proofs.lemmas.Bool.{cases_eq, cases_lt}
use Rattle.timer_wheel.specs.Rings.{AreLinked}
use Rattle.timer_wheel.proofs.Circles.{pick_same, pick_other, AreCircles, Crosses, circles, crossed, crossed_same, next_at_b, prev_at_a, prev_at_b, prev_else}

-- as AreLinked, but for one key, which stands alone
pub record AreLoose (n : ℕ) (next prev list height : ℕ → ℕ) (top k : ℕ) : Type 0 where
  pub long : 2051 ≤ n
  pub circle : AreCircles n next prev
  pub alone : next k ≡ k
  pub lonely : prev k ≡ k
  pub same : (q : ℕ) → q < n → list (next q) ≡ list q
  pub heads : (q : ℕ) → q < 2051 → list q ≡ q
  pub within : (q : ℕ) → q < n → list q < 2051
  pub falls : (q : ℕ) → 2051 ≤ q → q < n → q ≢ k → (prev q < 2051) ⊎ (height q < height (prev q))
  pub bound : (q : ℕ) → height q < top

-- a key leaves its list
module _ (n : ℕ) (next prev list height : ℕ → ℕ) (top : ℕ) (w : AreLinked n next prev list height top)
    (k : ℕ) (low : 2051 ≤ k) (k_in : k < n) (next' prev' list' : ℕ → ℕ) (x : Crosses next prev next' prev' (prev k) k) (lists : (q : ℕ) → list' q ≡ list q) where
  old : AreCircles n next prev
  old = circles n next prev list height top w

  p_in : prev k < n
  p_in = w.prev_in k k_in

  level : list (prev k) ≡ list k
  level = sym (w.same (prev k) p_in) ∙ ap list (w.forth k k_in)

  left_falls : (q : ℕ) → 2051 ≤ q → q < n → q ≢ k → (prev' q < 2051) ⊎ (height q < height (prev' q))
  left_falls q h hn ne =
      let not_after : q ≢ next (prev k) = λ e. ne (e ∙ w.forth k k_in) in
      elim (cases_eq q (next k)) [
        | inl e ↦ let now : prev' q ≡ prev k = prev_at_b n next prev next' prev' (prev k) k p_in k_in old x q not_after e in
            let was : prev q ≡ k = ap prev e ∙ w.back k k_in in
            elim (w.falls k low k_in) [
              | inl l ↦ inl (subst (λ v. v < 2051) (sym now) l)
              | inr f ↦ elim (w.falls q h hn) [
                | inl bad ↦ absurd (omega (arith, was))
                | inr g ↦ let g' : height q < height k = subst (λ v. height q < height v) was g in
                    let r : height q < height (prev k) = omega arith in
                    inr (subst (λ v. height q < height v) (sym now) r)
              ]
            ]
        | inr nf ↦ let now : prev' q ≡ prev q = prev_else n next prev next' prev' (prev k) k p_in k_in old x q not_after nf in
            subst (λ v. (v < 2051) ⊎ (height q < height v)) (sym now) (w.falls q h hn)
      ]

  pub left : AreLoose n next' prev' list' height top k
  left =
      record {
        long = w.long;
        circle = crossed n next prev next' prev' (prev k) k p_in k_in old x;
        alone = next_at_b n next prev next' prev' (prev k) k p_in k_in old x k refl ∙ w.forth k k_in;
        lonely = prev_at_a n next prev next' prev' (prev k) k p_in k_in old x k (sym (w.forth k k_in));
        same = λ q h. lists (next' q) ∙ crossed_same n next prev next' prev' (prev k) k p_in k_in old x list level w.same q h ∙ sym (lists q);
        heads = λ q h. lists q ∙ w.heads q h;
        within = λ q h. subst (λ v. v < 2051) (sym (lists q)) (w.within q h);
        falls = left_falls;
        bound = w.bound;
      }

-- its list is another
module _ (n : ℕ) (next prev list height : ℕ → ℕ) (top k : ℕ) (w : AreLoose n next prev list height top k)
    (low : 2051 ≤ k) (k_in : k < n) (c : ℕ) (c_in : c < 2051) (next' prev' list' : ℕ → ℕ)
    (nexts : (q : ℕ) → next' q ≡ next q) (prevs : (q : ℕ) → prev' q ≡ prev q)
    (lists : (q : ℕ) → list' q ≡ cond (q == k) c (list q)) where
  other : (q : ℕ) → q ≢ k → list' q ≡ list q
  other q ne = lists q ∙ pick_other q k c (list q) ne

  next_other : (q : ℕ) → q < n → q ≢ k → next q ≢ k
  next_other q h ne e = ne (sym (w.circle.back q h) ∙ ap prev e ∙ w.lonely)

  below : (m y z : ℕ) → z ≡ y → y < m → z < m
  below m y z e h = subst (λ v. v < m) (sym e) h

  pub relisted : AreLoose n next' prev' list' height top k
  relisted =
      record {
        long = w.long;
        circle = record {
          next_in = λ q h. below n _ _ (nexts q) (w.circle.next_in q h);
          prev_in = λ q h. below n _ _ (prevs q) (w.circle.prev_in q h);
          back = λ q h. prevs (next' q) ∙ ap prev (nexts q) ∙ w.circle.back q h;
          forth = λ q h. nexts (prev' q) ∙ ap next (prevs q) ∙ w.circle.forth q h;
        };
        alone = nexts k ∙ w.alone;
        lonely = prevs k ∙ w.lonely;
        same = λ q h.
            elim (cases_eq q k) [
              | inl e ↦ ap list' (nexts q ∙ ap next e ∙ w.alone ∙ sym e)
              | inr ne ↦ ap list' (nexts q) ∙ other (next q) (next_other q h ne) ∙ w.same q h ∙ sym (other q ne)
            ];
        heads = λ q h. other q (λ e. omega arith) ∙ w.heads q h;
        within = λ q h.
            elim (cases_eq q k) [
              | inl e ↦ below 2051 _ _ (lists q ∙ pick_same q k c (list q) e) c_in
              | inr ne ↦ below 2051 _ _ (other q ne) (w.within q h)
            ];
        falls = λ q h hn ne. subst (λ v. (v < 2051) ⊎ (height q < height v)) (sym (prevs q)) (w.falls q h hn ne);
        bound = w.bound;
      }

-- one link more, which stands alone
module _ (n : ℕ) (next prev list height : ℕ → ℕ) (top : ℕ) (w : AreLinked n next prev list height top)
    (c : ℕ) (c_in : c < 2051) (next' prev' list' : ℕ → ℕ)
    (nexts : (q : ℕ) → q < n → next' q ≡ next q) (prevs : (q : ℕ) → q < n → prev' q ≡ prev q) (lists : (q : ℕ) → q < n → list' q ≡ list q)
    (next_is : next' n ≡ n) (prev_is : prev' n ≡ n) (list_is : list' n ≡ c) where
  rise : (y z : ℕ) → z ≡ y → y < n → z < n + 1
  rise y z e h = omega arith

  pub grown : AreLoose (n + 1) next' prev' list' height top n
  grown =
      record {
        long = let l : 2051 ≤ n = w.long in omega arith;
        circle = record {
          next_in = λ q h. elim (cases_lt q n) [
            | inl l ↦ rise _ _ (nexts q l) (w.next_in q l)
            | inr g ↦ let e : q ≡ n = omega arith in let f : next' q ≡ n = ap next' e ∙ next_is in omega arith
          ];
          prev_in = λ q h. elim (cases_lt q n) [
            | inl l ↦ rise _ _ (prevs q l) (w.prev_in q l)
            | inr g ↦ let e : q ≡ n = omega arith in let f : prev' q ≡ n = ap prev' e ∙ prev_is in omega arith
          ];
          back = λ q h. elim (cases_lt q n) [
            | inl l ↦ ap prev' (nexts q l) ∙ prevs (next q) (w.next_in q l) ∙ w.back q l
            | inr g ↦ let e : q ≡ n = omega arith in ap prev' (ap next' e ∙ next_is) ∙ prev_is ∙ sym e
          ];
          forth = λ q h. elim (cases_lt q n) [
            | inl l ↦ ap next' (prevs q l) ∙ nexts (prev q) (w.prev_in q l) ∙ w.forth q l
            | inr g ↦ let e : q ≡ n = omega arith in ap next' (ap prev' e ∙ prev_is) ∙ next_is ∙ sym e
          ];
        };
        alone = next_is;
        lonely = prev_is;
        same = λ q h. elim (cases_lt q n) [
          | inl l ↦ ap list' (nexts q l) ∙ lists (next q) (w.next_in q l) ∙ w.same q l ∙ sym (lists q l)
          | inr g ↦ let e : q ≡ n = omega arith in ap list' (ap next' e ∙ next_is ∙ sym e)
        ];
        heads = λ q h. let l : q < n = (let l0 : 2051 ≤ n = w.long in omega arith) in lists q l ∙ w.heads q h;
        within = λ q h. elim (cases_lt q n) [
          | inl l ↦ let k : list q < 2051 = w.within q l in let e : list' q ≡ list q = lists q l in omega arith
          | inr g ↦ let e : q ≡ n = omega arith in let f : list' q ≡ c = ap list' e ∙ list_is in omega arith
        ];
        falls = λ q h hn ne. let l : q < n = omega arith in subst (λ v. (v < 2051) ⊎ (height q < height v)) (sym (prevs q l)) (w.falls q h l);
        bound = w.bound;
      }

-- a key comes into its list
module _ (n : ℕ) (next prev list height : ℕ → ℕ) (top k : ℕ) (w : AreLoose n next prev list height top k)
    (low : 2051 ≤ k) (k_in : k < n) (c : ℕ) (c_in : c < 2051) (is : list k ≡ c) (next' prev' list' : ℕ → ℕ)
    (x : Crosses next prev next' prev' c k) (lists : (q : ℕ) → list' q ≡ list q) where
  c_within : c < n
  c_within = let l : 2051 ≤ n = w.long in omega arith

  higher : ℕ → ℕ
  higher q = cond (q == k) top (height q)

  at_k : (q : ℕ) → q ≡ k → higher q ≡ top
  unfolding higher
  at_k q e = pick_same q k top (height q) e

  at_other : (q : ℕ) → q ≢ k → higher q ≡ height q
  unfolding higher
  at_other q ne = pick_other q k top (height q) ne

  up_to : (q : ℕ) → higher q < top + 1
  up_to q =
      elim (cases_eq q k) [
        | inl e ↦ let f : higher q ≡ top = at_k q e in omega arith
        | inr ne ↦ let f : higher q ≡ height q = at_other q ne in let g : height q < top = w.bound q in omega arith
      ]

  -- what is below a height is below the new height
  raised : (q y : ℕ) → q ≢ k → height q < height y → higher q < higher y
  raised q y ne h =
      let f : higher q ≡ height q = at_other q ne in
      elim (cases_eq y k) [
        | inl e ↦ let g : higher y ≡ top = at_k y e in let b : height q < top = w.bound q in omega arith
        | inr nf ↦ let g : higher y ≡ height y = at_other y nf in omega arith
      ]

  even : list c ≡ list k
  even = w.heads c c_in ∙ sym is

  joined_falls : (q : ℕ) → 2051 ≤ q → q < n → (prev' q < 2051) ⊎ (higher q < higher (prev' q))
  joined_falls q h hn =
      elim (cases_eq q (next c)) [
        | inl e ↦ let now : prev' q ≡ k = prev_at_a n next prev next' prev' c k c_within k_in w.circle x q e in
            elim (cases_eq q k) [
              | inl self ↦ let bad : c ≡ k = sym (w.circle.back c c_within) ∙ ap prev (sym e ∙ self) ∙ w.lonely in absurd (omega arith)
              | inr ne ↦ let f : higher q ≡ height q = at_other q ne in let b : height q < top = w.bound q in
                  let g : higher (prev' q) ≡ top = at_k (prev' q) now in
                  inr (omega arith)
            ]
        | inr ne ↦ elim (cases_eq q (next k)) [
          | inl e ↦ let now : prev' q ≡ c = prev_at_b n next prev next' prev' c k c_within k_in w.circle x q ne e in inl (omega arith)
          | inr nf ↦ let now : prev' q ≡ prev q = prev_else n next prev next' prev' c k c_within k_in w.circle x q ne nf in
              let nk : q ≢ k = λ s. nf (s ∙ sym w.alone) in
              elim (w.falls q h hn nk) [
                | inl l ↦ inl (omega arith)
                | inr f ↦ inr (subst (λ v. higher q < higher v) (sym now) (raised q (prev q) nk f))
              ]
        ]
      ]

  pub joined_up : (h : ℕ → ℕ) × (t : ℕ) × AreLinked n next' prev' list' h t
  joined_up = (
    higher,
    top + 1,
    record {
      long = w.long;
      next_in = circle.next_in;
      prev_in = circle.prev_in;
      back = circle.back;
      forth = circle.forth;
      same = λ q h. lists (next' q) ∙ crossed_same n next prev next' prev' c k c_within k_in w.circle x list even w.same q h ∙ sym (lists q);
      heads = λ q h. lists q ∙ w.heads q h;
      within = λ q h. subst (λ v. v < 2051) (sym (lists q)) (w.within q h);
      falls = joined_falls;
      bound = up_to;
    },
  )
    where
      circle : AreCircles n next' prev'
      circle = crossed n next prev next' prev' c k c_within k_in w.circle x

-- a list whose head comes behind itself has no key
module _ (n : ℕ) (next prev list height : ℕ → ℕ) (top : ℕ) (w : AreLinked n next prev list height top) (c : ℕ) (c_in : c < 2051) (empty : next c < 2051) where
  head_in : c < n
  head_in = let l : 2051 ≤ n = w.long in omega arith

  own : next c ≡ c
  own = sym (w.heads (next c) empty) ∙ w.same c head_in ∙ w.heads c c_in

  climb : (fuel q : ℕ) → top ≤ height q + fuel → 2051 ≤ q → q < n → list q ≡ c → ⊥
  climb zero q f h hn is = let b : height q < top = w.bound q in omega arith
  climb (suc fuel) q f h hn is =
      let there : list (prev q) ≡ c = sym (w.same (prev q) (w.prev_in q hn)) ∙ ap list (w.forth q hn) ∙ is in
      elim (cases_lt (prev q) 2051) [
        | inl l ↦ let k : prev q ≡ c = sym (w.heads (prev q) l) ∙ there in
            let e : q ≡ c = sym (w.forth q hn) ∙ ap next k ∙ own in
            omega arith
        | inr g ↦ elim (w.falls q h hn) [
          | inl l ↦ omega arith
          | inr up ↦ climb fuel (prev q) (omega arith) (omega arith) (w.prev_in q hn) there
        ]
      ]

  pub none_there : (q : ℕ) → 2051 ≤ q → q < n → list q ≡ c → ⊥
  none_there q h hn is = climb top q (omega arith) h hn is

-- a list that has the same behind its head and before it has no two keys
module _ (n : ℕ) (next prev list height : ℕ → ℕ) (top : ℕ) (w : AreLinked n next prev list height top) (c : ℕ) (c_in : c < 2051) (single : next c ≡ prev c) where
  single_in : c < n
  single_in = let l : 2051 ≤ n = w.long in omega arith

  -- what comes behind the only key is the head again
  back_again : next (next c) ≡ c
  back_again = ap next single ∙ w.forth c single_in

  back_from : (fuel q : ℕ) → top ≤ height q + fuel → 2051 ≤ q → q < n → list q ≡ c → q ≡ next c
  back_from zero q f h hn is = let b : height q < top = w.bound q in absurd (omega arith)
  back_from (suc fuel) q f h hn is =
      let there : list (prev q) ≡ c = sym (w.same (prev q) (w.prev_in q hn)) ∙ ap list (w.forth q hn) ∙ is in
      elim (cases_lt (prev q) 2051) [
        | inl l ↦ sym (w.forth q hn) ∙ ap next (sym (w.heads (prev q) l) ∙ there)
        | inr g ↦ elim (w.falls q h hn) [
          | inl l ↦ absurd (omega arith)
          | inr up ↦ let e : prev q ≡ next c = back_from fuel (prev q) (omega arith) (omega arith) (w.prev_in q hn) there in
              let bad : q ≡ c = sym (w.forth q hn) ∙ ap next e ∙ back_again in
              absurd (omega arith)
        ]
      ]

  pub only_key : (q : ℕ) → 2051 ≤ q → q < n → list q ≡ c → q ≡ next c
  only_key q h hn is = back_from top q (omega arith) h hn is
