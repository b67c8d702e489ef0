-- The rows of a list of entries.
use Rattle.std.proofs.Common.{inl, inr, ◌≡◌, ◌≢◌, ℕ, zero, suc, ◌<◌, ◌≤◌, Bool, true, false, not, ◌==◌, ◌&&◌, nat_lt, cond, if◌then◌else◌, List, [], ◌∷◌, ◌++◌, length, get_or, Option, Some, None, filter, refl, sym, ap, subst, ◌∙◌, eq-eqb, arith}
use Rattle.std.specs.List.{All, IsFirstBest, best_of, list_any}
use Rattle.std.proofs.lemmas.List.Elements.{All-head, All-tail, All-from_get_or}
use Rattle.std.proofs.lemmas.List.MinMax.{IsFirstBest-from_best_of}
use Rattle.std.proofs.lemmas.Bool.{cases_Bool, eqb-true, eqb-false, ne_eqb, ltb-true, ltb-false}
use Rattle.emu_model.specs.declared.sources.Source.{Source}
use Rattle.emu_model.specs.RunLaws.{same_source}
use Rattle.timer_wheel.specs.declared.Entry.{Entry}
use Rattle.timer_wheel.specs.Rows.{no_dues, with_due, without_due, is_before, is_of, lesser, row_of, IsAtOrAbove, least_of}
use Rattle.timer_wheel.proofs.Sources.{same_source-sym, is_of-true, is_of-self}
use Rattle.timer_wheel.proofs.EntryOrder.{is_before-order, is_before-low}

none_either : (b : Bool) → (let r : Option ℕ = cond b None None in r) ≡ None
none_either true = refl
none_either false = refl

row_of-nil : (o : ℕ) (s : Source) → row_of [] o s ≡ None
unfolding row_of
row_of-nil o s = refl

row_of-hit : (e : Entry) (es : List Entry) (o : ℕ) (s : Source) → is_of o s e ≡ true → row_of (e ∷ es) o s ≡ Some (lesser e.due (row_of es o s))
unfolding row_of
row_of-hit e es o s h = ap (λ b. cond b (Some (lesser e.due (row_of es o s))) (row_of es o s)) h

row_of-miss : (e : Entry) (es : List Entry) (o : ℕ) (s : Source) → is_of o s e ≡ false → row_of (e ∷ es) o s ≡ row_of es o s
unfolding row_of
row_of-miss e es o s h = ap (λ b. cond b (Some (lesser e.due (row_of es o s))) (row_of es o s)) h

-- what stays by owner and source
pub row_of-filter : (p : ℕ → Source → Bool) (es : List Entry) (o : ℕ) (s : Source) → row_of (filter (λ e. p e.owner e.source) es) o s ≡ cond (p o s) (row_of es o s) None
row_of-filter p [] o s = row_of-nil o s ∙ sym (ap (λ r. cond (p o s) r None) (row_of-nil o s) ∙ none_either (p o s))
row_of-filter p (e ∷ es) o s =
    let ih : row_of (filter (λ e. p e.owner e.source) es) o s ≡ cond (p o s) (row_of es o s) None = row_of-filter p es o s in
    elim (cases_Bool (is_of o s e)) [
      | inl t ↦ let same : (e.owner ≡ o) × (e.source ≡ s) = is_of-true o s e t in
          let k : p e.owner e.source ≡ p o s = λ i. p (same.0 i) (same.1 i) in
          elim (cases_Bool (p o s)) [
            | inl y ↦ let y' : p e.owner e.source ≡ true = k ∙ y in
                rw y' (row_of-hit e _ o s t ∙ ap (λ r. Some (lesser e.due r)) (ih ∙ ap (λ b. cond b (row_of es o s) None) y) ∙ sym (ap (λ b. cond b (row_of (e ∷ es) o s) None) y ∙ row_of-hit e es o s t))
            | inr n ↦ let n' : p e.owner e.source ≡ false = k ∙ n in
                rw n' (ih ∙ ap (λ b. cond b (row_of es o s) None) n ∙ sym (ap (λ b. cond b (row_of (e ∷ es) o s) None) n))
          ]
      | inr f ↦ let back : cond (p o s) (row_of es o s) None ≡ cond (p o s) (row_of (e ∷ es) o s) None = ap (λ r. cond (p o s) r None) (sym (row_of-miss e es o s f)) in
          elim (cases_Bool (p e.owner e.source)) [
            | inl y ↦ rw y (row_of-miss e _ o s f ∙ ih ∙ back)
            | inr n ↦ rw n (ih ∙ back)
          ]
    ]

-- a new entry of a source that had none
pub row_of-push : (es : List Entry) (e : Entry) (o : ℕ) (s : Source) → row_of es e.owner e.source ≡ None → row_of (es ++ e ∷ []) o s ≡ cond (is_of o s e) (Some e.due) (row_of es o s)
row_of-push [] e o s h =
    elim (cases_Bool (is_of o s e)) [
      | inl t ↦ rw t (row_of-hit e [] o s t ∙ ap (λ r. Some (lesser e.due r)) (row_of-nil o s))
      | inr f ↦ rw f (row_of-miss e [] o s f)
    ]
row_of-push (x ∷ es) e o s h =
    elim (cases_Bool (is_of e.owner e.source x)) [
      | inl t ↦ let bad : Some (lesser x.due (row_of es e.owner e.source)) ≡ None = sym (row_of-hit x es e.owner e.source t) ∙ h in cc
      | inr f ↦ let ih : row_of (es ++ e ∷ []) o s ≡ cond (is_of o s e) (Some e.due) (row_of es o s) = row_of-push es e o s (sym (row_of-miss x es e.owner e.source f) ∙ h) in
          elim (cases_Bool (is_of o s e)) [
            | inl t ↦ let same : (e.owner ≡ o) × (e.source ≡ s) = is_of-true o s e t in
                let apart : is_of o s x ≡ false = sym (λ i. is_of (same.0 i) (same.1 i) x) ∙ f in
                rw t (row_of-miss x _ o s apart ∙ ih ∙ ap (λ b. cond b (Some e.due) (row_of es o s)) t)
            | inr g ↦ let ih' : row_of (es ++ e ∷ []) o s ≡ row_of es o s = ih ∙ ap (λ b. cond b (Some e.due) (row_of es o s)) g in
                elim (cases_Bool (is_of o s x)) [
                  | inl y ↦ rw g (row_of-hit x _ o s y ∙ ap (λ r. Some (lesser x.due r)) ih' ∙ sym (row_of-hit x es o s y))
                  | inr n ↦ rw g (row_of-miss x _ o s n ∙ ih' ∙ sym (row_of-miss x es o s n))
                ]
          ]
    ]

lesser-some : (P : ℕ → Type 0) (d x : ℕ) → P d → P x → P (lesser d (Some x))
lesser-some P d x p q = elim (nat_lt x d) as (λ b. P (if b then x else d)) [ true ↦ q | false ↦ p ]

lesser-low : (d x : ℕ) → (lesser d (Some x) ≤ d) × (lesser d (Some x) ≤ x)
lesser-low d x =
    elim (cases_Bool (nat_lt x d)) [
      | inl t ↦ let l : x < d = ltb-true x d t in
          let e : lesser d (Some x) ≡ x = rw t in
          (omega arith, omega arith)
      | inr f ↦ let l : d ≤ x = ltb-false x d f in
          let e : lesser d (Some x) ≡ d = rw f in
          (omega arith, omega arith)
    ]

pick : (P : Entry → Type 0) (d o : ℕ) (s : Source) (r : Option ℕ) → P (record { due = d; owner = o; source = s }) → ((c : ℕ) → r ≡ Some c → P (record { due = c; owner = o; source = s })) → P (record { due = lesser d r; owner = o; source = s })
pick P d o s None head rest = head
pick P d o s (Some x) head rest = lesser-some (λ c. P (record { due = c; owner = o; source = s })) d x head (rest x refl)

-- what is true of all entries is true of what the rows say
pub row_of-all : (P : Entry → Type 0) (es : List Entry) → All P es → (o : ℕ) (s : Source) (d : ℕ) → row_of es o s ≡ Some d → P (record { due = d; owner = o; source = s })
row_of-all P [] all o s d h = let bad : None ≡ Some d = sym (row_of-nil o s) ∙ h in cc
row_of-all P (x ∷ es) all o s d h =
    elim (cases_Bool (is_of o s x)) [
      | inl t ↦ let same : (x.owner ≡ o) × (x.source ≡ s) = is_of-true o s x t in
          let head : P (record { due = x.due; owner = o; source = s }) =
          subst P (λ i. record { due = x.due; owner = same.0 i; source = same.1 i }) (All-head P x es all) in
          let found : Some (lesser x.due (row_of es o s)) ≡ Some d = sym (row_of-hit x es o s t) ∙ h in
          let is : lesser x.due (row_of es o s) ≡ d = cc in
          let ih : (c : ℕ) → row_of es o s ≡ Some c → P (record { due = c; owner = o; source = s }) = λ c. row_of-all P es (All-tail P x es all) o s c in
          subst (λ c. P (record { due = c; owner = o; source = s })) is (pick P x.due o s (row_of es o s) head ih)
      | inr f ↦ row_of-all P es (All-tail P x es all) o s d (sym (row_of-miss x es o s f) ∙ h)
    ]

lesser_le : (d : ℕ) (r : Option ℕ) → lesser d r ≤ d
lesser_le d None = omega arith
lesser_le d (Some x) = (lesser-low d x).0

lesser_le_some : (d x : ℕ) (r : Option ℕ) → r ≡ Some x → lesser d r ≤ x
lesser_le_some d x r e = subst (λ q. lesser d q ≤ x) (sym e) ((lesser-low d x).1)

-- a source that has an entry has a due, which is no later
pub row_of-low : (es : List Entry) (k : ℕ) (z x : Entry) → k < length es → x ≡ get_or es k z → (d : ℕ) × (row_of es x.owner x.source ≡ Some d) × (d ≤ x.due)
row_of-low [] k z x h e = absurd (omega arith)
row_of-low (y ∷ es) zero z x h e =
    subst (λ (w : Entry). (d : ℕ) × (row_of (y ∷ es) w.owner w.source ≡ Some d) × (d ≤ w.due)) (sym e)
    (lesser y.due (row_of es y.owner y.source), row_of-hit y es y.owner y.source (is_of-self y), lesser_le y.due (row_of es y.owner y.source))
row_of-low (y ∷ es) (suc k) z x h e =
    let ih : (d : ℕ) × (row_of es x.owner x.source ≡ Some d) × (d ≤ x.due) = row_of-low es k z x (omega arith) e in
    let low : ih.0 ≤ x.due = ih.2 in
    elim (cases_Bool (is_of x.owner x.source y)) [
      | inl t ↦ let l : lesser y.due (row_of es x.owner x.source) ≤ ih.0 = lesser_le_some y.due ih.0 _ ih.1 in
          (lesser y.due (row_of es x.owner x.source), row_of-hit y es x.owner x.source t, omega arith)
      | inr f ↦ (ih.0, row_of-miss y es x.owner x.source f ∙ ih.1, low)
    ]

pub record IsLeastOf (es : List Entry) (e : Entry) : Type 0 where
  pub first : All (λ x. is_before x e ≡ false) es
  pub there : (k : ℕ) × (z : Entry) × (k < length es) × (e ≡ get_or es k z)

pub least_is : (es : List Entry) (e : Entry) → least_of es ≡ Some e → IsLeastOf es e
least_is [] e h = let bad : None ≡ Some e = h in cc
least_is (x ∷ es) e h =
    let is : best_of is_before x es ≡ e = cc in
    let b : (b : ℕ) × IsFirstBest is_before (x ∷ es) (length (x ∷ es)) b × (get_or (x ∷ es) b x ≡ best_of is_before x es) =
    IsFirstBest-from_best_of is_before-order x es in
    record {
      first = All-from_get_or (λ y. is_before y e ≡ false) (x ∷ es) x (λ k l.
          subst (λ (y : Entry). is_before (get_or (x ∷ es) k x) y ≡ false) (b.2 ∙ is) (b.1.1 k x l));
      there = (b.0, x, b.1.0, sym (b.2 ∙ is));
    }

module _ (es : List Entry) (e : Entry) (h : least_of es ≡ Some e) where
  pub least-first : (o : ℕ) (s : Source) (d : ℕ) → row_of es o s ≡ Some d → is_before (record { due = d; owner = o; source = s }) e ≡ false
  least-first = row_of-all (λ x. is_before x e ≡ false) es ((least_is es e h).first)

  pub least-was : row_of es e.owner e.source ≡ Some e.due
  least-was =
      let there : (k : ℕ) × (z : Entry) × (k < length es) × (e ≡ get_or es k z) = (least_is es e h).there in
      let f : (d : ℕ) × (row_of es e.owner e.source ≡ Some d) × (d ≤ e.due) = row_of-low es there.0 there.1 e there.2 there.3 in
      let g : e.due ≤ f.0 = is_before-low (record { due = f.0; owner = e.owner; source = e.source }) e (least-first e.owner e.source f.0 f.1) in
      let le : f.0 ≤ e.due = f.2 in
      let same : f.0 ≡ e.due = omega arith in
      f.1 ∙ ap Some same

pub row_of-none : (es : List Entry) → least_of es ≡ None → (o : ℕ) → row_of es o ≡ no_dues
row_of-none [] h o = λ i s. row_of-nil o s i
row_of-none (x ∷ es) h o = let bad : Some (best_of is_before x es) ≡ None = h in cc

pub rows-nil : (o : ℕ) → row_of [] o ≡ no_dues
rows-nil o = λ i s. row_of-nil o s i

eqb-flip : (a b : ℕ) → (a == b) ≡ (b == a)
eqb-flip a b =
    elim (cases_Bool (a == b)) [
      | inl t ↦ t ∙ sym (eq-eqb b a (sym (eqb-true a b t)))
      | inr f ↦ f ∙ sym (ne_eqb b a (λ e. eqb-false a b f (sym e)))
    ]

cond-not : (b : Bool) (x y : Option ℕ) → cond (not b) x y ≡ cond b y x
cond-not true x y = refl
cond-not false x y = refl

cond-twice : (b : Bool) (x y z : Option ℕ) → cond b x (cond b y z) ≡ cond b x z
cond-twice true x y z = refl
cond-twice false x y z = refl

cond-kept : (b : Bool) (r : Option ℕ) (d : ℕ) → cond b r None ≡ Some d → r ≡ Some d
cond-kept true r d h = h
cond-kept false r d h = let bad : None ≡ Some d = h in cc

abbrev pub without_entry : ℕ → Source → List Entry → List Entry
without_entry o s es = filter (λ e. not (is_of o s e)) es

abbrev pub entry : ℕ → Source → ℕ → Entry
entry o s d = record { due = d; owner = o; source = s }

removed_at : (es : List Entry) (o : ℕ) (s : Source) (p : ℕ) (q : Source) → row_of (without_entry o s es) p q ≡ cond (p == o && same_source q s) None (row_of es p q)
removed_at es o s p q =
    row_of-filter (λ a t. not (a == o && same_source t s)) es p q ∙ cond-not (p == o && same_source q s) (row_of es p q) None

pub removed-here : (es : List Entry) (o : ℕ) (s : Source) → row_of (without_entry o s es) o ≡ without_due (row_of es o) s
removed-here es o s = λ i q. (removed_at es o s o q ∙ ap (λ b. cond (b && same_source q s) None (row_of es o q)) (eq-eqb o o refl)) i

pub removed-there : (es : List Entry) (o : ℕ) (s : Source) (p : ℕ) → p ≢ o → row_of (without_entry o s es) p ≡ row_of es p
removed-there es o s p ne = λ i q. (removed_at es o s p q ∙ ap (λ b. cond (b && same_source q s) None (row_of es p q)) (ne_eqb p o ne)) i

set_at : (es : List Entry) (o : ℕ) (s : Source) (d p : ℕ) (q : Source) → row_of (without_entry o s es ++ entry o s d ∷ []) p q ≡ cond (p == o && same_source q s) (Some d) (row_of es p q)
set_at es o s d p q =
    let none : row_of (without_entry o s es) o s ≡ None =
    removed_at es o s o s ∙ ap (λ b. cond b None (row_of es o s)) (is_of-self (entry o s d)) in
    let flip : (o == p && same_source s q) ≡ (p == o && same_source q s) = λ i. eqb-flip o p i && same_source-sym s q i in
    row_of-push (without_entry o s es) (entry o s d) p q none
    ∙ ap (λ b. cond b (Some d) (row_of (without_entry o s es) p q)) flip
    ∙ ap (λ r. cond (p == o && same_source q s) (Some d) r) (removed_at es o s p q)
    ∙ cond-twice (p == o && same_source q s) (Some d) None (row_of es p q)

pub set-here : (es : List Entry) (o : ℕ) (s : Source) (d : ℕ) → row_of (without_entry o s es ++ entry o s d ∷ []) o ≡ with_due (row_of es o) s d
set-here es o s d = λ i q. (set_at es o s d o q ∙ ap (λ b. cond (b && same_source q s) (Some d) (row_of es o q)) (eq-eqb o o refl)) i

pub set-there : (es : List Entry) (o : ℕ) (s : Source) (d p : ℕ) → p ≢ o → row_of (without_entry o s es ++ entry o s d ∷ []) p ≡ row_of es p
set-there es o s d p ne = λ i q. (set_at es o s d p q ∙ ap (λ b. cond (b && same_source q s) (Some d) (row_of es p q)) (ne_eqb p o ne)) i

pub owner_cleared-here : (es : List Entry) (o : ℕ) → row_of (filter (λ e. not (e.owner == o)) es) o ≡ no_dues
owner_cleared-here es o = λ i q. (row_of-filter (λ a t. not (a == o)) es o q ∙ ap (λ b. cond (not b) (row_of es o q) None) (eq-eqb o o refl)) i

pub owner_cleared-there : (es : List Entry) (o p : ℕ) → p ≢ o → row_of (filter (λ e. not (e.owner == o)) es) p ≡ row_of es p
owner_cleared-there es o p ne = λ i q. (row_of-filter (λ a t. not (a == o)) es p q ∙ ap (λ b. cond (not b) (row_of es p q) None) (ne_eqb p o ne)) i

-- no due is below the clock, still
pub above-nil : (clock : ℕ) → IsAtOrAbove clock (row_of [])
above-nil clock o s d h = let bad : None ≡ Some d = sym (row_of-nil o s) ∙ h in cc

above-filter : (p : ℕ → Source → Bool) (clock : ℕ) (es : List Entry) → IsAtOrAbove clock (row_of es) → IsAtOrAbove clock (row_of (filter (λ e. p e.owner e.source) es))
above-filter p clock es above o s d h = above o s d (cond-kept (p o s) (row_of es o s) d (sym (row_of-filter p es o s) ∙ h))

pub above-removed : (clock : ℕ) (es : List Entry) (o : ℕ) (s : Source) → IsAtOrAbove clock (row_of es) → IsAtOrAbove clock (row_of (without_entry o s es))
above-removed clock es o s = above-filter (λ a t. not (a == o && same_source t s)) clock es

pub above-owner_cleared : (clock : ℕ) (es : List Entry) (o : ℕ) → IsAtOrAbove clock (row_of es) → IsAtOrAbove clock (row_of (filter (λ e. not (e.owner == o)) es))
above-owner_cleared clock es o = above-filter (λ a t. not (a == o)) clock es

set_cases : (clock d x : ℕ) (b : Bool) (r : Option ℕ) → clock ≤ d → (r ≡ Some x → clock ≤ x) → cond b (Some d) r ≡ Some x → clock ≤ x
set_cases clock d x true r low above h = let same : d ≡ x = cc in omega arith
set_cases clock d x false r low above h = above h

pub above-set : (clock : ℕ) (es : List Entry) (o : ℕ) (s : Source) (d : ℕ) → clock ≤ d → IsAtOrAbove clock (row_of es) → IsAtOrAbove clock (row_of (without_entry o s es ++ entry o s d ∷ []))
above-set clock es o s d low above p q x h =
    let found : cond (p == o && same_source q s) (Some d) (row_of es p q) ≡ Some x = sym (set_at es o s d p q) ∙ h in
    set_cases clock d x (p == o && same_source q s) (row_of es p q) low (above p q x) found

-- moved to the least
pub above-least : (es : List Entry) (e : Entry) → least_of es ≡ Some e → IsAtOrAbove e.due (row_of es)
above-least es e least o s d was = is_before-low (entry o s d) e (least-first es e least o s d was)

pub above-popped : (es : List Entry) (e : Entry) → least_of es ≡ Some e → IsAtOrAbove e.due (row_of (without_entry e.owner e.source es))
above-popped es e least o s d h =
    let was : row_of es o s ≡ Some d =
    cond-kept (not (o == e.owner && same_source s e.source)) (row_of es o s) d (sym (row_of-filter (λ a t. not (a == e.owner && same_source t e.source)) es o s) ∙ h) in
    is_before-low (entry o s d) e (least-first es e least o s d was)

-- where there is an entry of a source, those of others are fewer
pub filter-fewer : (p : Entry → Bool) (es : List Entry) → list_any p es ≡ true → length (filter (λ e. not (p e)) es) < length es
filter-fewer p [] h = let bad : false ≡ true = h in cc
filter-fewer p (e ∷ es) h =
    elim (cases_Bool (p e)) [
      | inl t ↦ rw t (let l : length (filter (λ e. not (p e)) es) ≤ length es = filter-most (λ e. not (p e)) es in omega arith)
      | inr f ↦ rw f (let l : length (filter (λ e. not (p e)) es) < length es = filter-fewer p es (rw f at h) in omega arith)
    ]
  where
    filter-most : (q : Entry → Bool) (xs : List Entry) → length (filter q xs) ≤ length xs
    filter-most q [] = omega arith
    filter-most q (x ∷ xs) =
        elim (cases_Bool (q x)) [
          | inl t ↦ rw t (let l : length (filter q xs) ≤ length xs = filter-most q xs in omega arith)
          | inr f ↦ rw f (let l : length (filter q xs) ≤ length xs = filter-most q xs in omega arith)
        ]

-- and where there is none, it has no due
pub row_of-absent : (o : ℕ) (s : Source) (es : List Entry) → list_any (is_of o s) es ≡ false → row_of es o s ≡ None
row_of-absent o s [] h = row_of-nil o s
row_of-absent o s (e ∷ es) h =
    elim (cases_Bool (is_of o s e)) [
      | inl t ↦ let bad : true ≡ false = rw t at h in cc
      | inr f ↦ row_of-miss e es o s f ∙ row_of-absent o s es (rw f at h)
    ]
