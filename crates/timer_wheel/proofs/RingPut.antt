-- A key goes from its list to another.
use Rattle.std.proofs.Common.{◌≡◌, ℕ, ◌+◌, ◌<◌, ◌≤◌, ◌==◌, cond, List, [], ◌∷◌, ◌++◌, length, set, get_or, refl, ap, subst, ◌∙◌, arith, length-append}
use Rattle.std.proofs.Math.ListN.{get_or-append}
use Rattle.std.proofs.Common.{inl, inr}
use Rattle.std.proofs.lemmas.Bool.{cases_lt}
use Rattle.timer_wheel.specs.declared.ring.Link.{Link}
use Rattle.timer_wheel.specs.Rings.{blank, next_of, prev_of, list_of, lists_in, AreLinked, IsLinked}
use Rattle.timer_wheel.proofs.Circles.{Crosses, pick_same}
use Rattle.timer_wheel.proofs.RingFacts.{AreLoose, left, relisted, grown, joined_up}
use Rattle.timer_wheel.proofs.RingViews.{lists_set, lists_push}

pub record AreCrossed (old new : List Link) (a b : ℕ) : Type 0 where
  pub cross : Crosses (next_of old) (prev_of old) (next_of new) (prev_of new) a b
  pub list : (q : ℕ) → list_of new q ≡ list_of old q
  pub len : length new ≡ length old

pub record IsRelisted (old new : List Link) (k c : ℕ) : Type 0 where
  pub next : (q : ℕ) → next_of new q ≡ next_of old q
  pub prev : (q : ℕ) → prev_of new q ≡ prev_of old q
  pub list : (q : ℕ) → list_of new q ≡ cond (q == k) c (list_of old q)
  pub len : length new ≡ length old

-- links as many as others
along : (n m : ℕ) (next prev list height : ℕ → ℕ) (top k : ℕ) → m ≡ n → AreLoose n next prev list height top k → AreLoose m next prev list height top k
along n m next prev list height top k e w = rw e w

-- taken out
pub out : (old new : List Link) (w : IsLinked old) (k : ℕ) → 2051 ≤ k → k < length old → AreCrossed old new (prev_of old k) k
    → AreLoose (length new) (next_of new) (prev_of new) (list_of new) w.height w.top k
out old new w k low k_in x =
    along (length old) (length new) (next_of new) (prev_of new) (list_of new) w.height w.top k x.len
    (left (length old) (next_of old) (prev_of old) (list_of old) w.height w.top w.linked k low k_in (next_of new) (prev_of new) (list_of new) x.cross x.list)

pub named : (old new : List Link) (height : ℕ → ℕ) (top k : ℕ) → AreLoose (length old) (next_of old) (prev_of old) (list_of old) height top k
    → 2051 ≤ k → k < length old → (c : ℕ) → c < 2051 → IsRelisted old new k c
    → AreLoose (length new) (next_of new) (prev_of new) (list_of new) height top k
named old new height top k w low k_in c c_in r =
    along (length old) (length new) (next_of new) (prev_of new) (list_of new) height top k r.len
    (relisted (length old) (next_of old) (prev_of old) (list_of old) height top k w low k_in c c_in (next_of new) (prev_of new) (list_of new) r.next r.prev r.list)

pub into : (old new : List Link) (height : ℕ → ℕ) (top k : ℕ) → AreLoose (length old) (next_of old) (prev_of old) (list_of old) height top k
    → 2051 ≤ k → k < length old → (c : ℕ) → c < 2051 → list_of old k ≡ c → AreCrossed old new c k → IsLinked new
into old new height top k w low k_in c c_in is x =
    let j : (h : ℕ → ℕ) × (t : ℕ) × AreLinked (length old) (next_of new) (prev_of new) (list_of new) h t =
    joined_up (length old) (next_of old) (prev_of old) (list_of old) height top k w low k_in c c_in is (next_of new) (prev_of new) (list_of new) x.cross x.list in
    record { height = j.0; top = j.1; linked = rw x.len j.2 }

-- the first two steps of `put`
module _ (l0 l1 l2 : List Link) (w : IsLinked l0) (key c p : ℕ) (k_in : 2051 + key < length l0) (c_in : c < 2051) (is : p ≡ prev_of l0 (2051 + key))
    (x : AreCrossed l0 l1 p (2051 + key)) (r : IsRelisted l1 l2 (2051 + key) c) where
  loose1 : AreLoose (length l1) (next_of l1) (prev_of l1) (list_of l1) w.height w.top (2051 + key)
  loose1 = out l0 l1 w (2051 + key) (omega arith) k_in (rw is at x)

  k_in1 : 2051 + key < length l1
  k_in1 = let e : length l1 ≡ length l0 = x.len in omega arith

  k_in2 : 2051 + key < length l2
  k_in2 = let e : length l2 ≡ length l1 = r.len in let h : 2051 + key < length l1 = k_in1 in omega arith

  loose2 : AreLoose (length l2) (next_of l2) (prev_of l2) (list_of l2) w.height w.top (2051 + key)
  loose2 = named l1 l2 w.height w.top (2051 + key) loose1 (omega arith) k_in1 c c_in r

  pub c_below : c < length l2
  c_below = let l : 2051 ≤ length l2 = loose2.long in omega arith

  pub after_c : next_of l2 c < length l2
  after_c = loose2.circle.next_in c c_below

  pub after_alone : next_of l2 (2051 + key) < length l2
  after_alone = loose2.circle.next_in (2051 + key) k_in2

  now_c : list_of l2 (2051 + key) ≡ c
  now_c = r.list (2051 + key) ∙ pick_same (2051 + key) (2051 + key) c _ refl

  -- and the third
  pub put_linked : (l3 : List Link) → AreCrossed l2 l3 c (2051 + key) → IsLinked l3
  put_linked l3 y = into l2 l3 w.height w.top (2051 + key) loose2 (omega arith) k_in2 c c_in now_c y

  pub put_lists : (l3 : List Link) → AreCrossed l2 l3 c (2051 + key) → lists_in l3 ≡ set (lists_in l0) key c
  put_lists l3 y = lists_set l0 l3 key c (y.len ∙ r.len ∙ x.len) k_in (λ q. y.list q ∙ r.list q ∙ ap (cond (q == 2051 + key) c) (x.list q))

last_link : (links : List Link) (l d : Link) → get_or (links ++ l ∷ []) (length links) d ≡ l
last_link [] l d = refl
last_link (x ∷ links) l d = last_link links l d

-- one key more, which comes into a list
module _ (l0 l1 : List Link) (w : IsLinked l0) (c : ℕ) (c_in : c < 2051)
    (is : l1 ≡ l0 ++ record { list = c; next = length l0; prev = length l0 } ∷ []) where
  link : (q : ℕ) → q < length l0 → get_or l1 q blank ≡ get_or l0 q blank
  link q h = ap (λ ls. get_or ls q blank) is ∙ get_or-append l0 (record { list = c; next = length l0; prev = length l0 } ∷ []) blank q h

  own : get_or l1 (length l0) blank ≡ record { list = c; next = length l0; prev = length l0 }
  own = ap (λ ls. get_or ls (length l0) blank) is ∙ last_link l0 (record { list = c; next = length l0; prev = length l0 }) blank

  len : length l1 ≡ length l0 + 1
  len = ap length is ∙ length-append l0 (record { list = c; next = length l0; prev = length l0 } ∷ [])

  long : 2051 ≤ length l0
  long = w.linked.long

  more : AreLoose (length l1) (next_of l1) (prev_of l1) (list_of l1) w.height w.top (length l0)
  more =
      along (length l0 + 1) (length l1) (next_of l1) (prev_of l1) (list_of l1) w.height w.top (length l0) len
      (grown (length l0) (next_of l0) (prev_of l0) (list_of l0) w.height w.top w.linked c c_in (next_of l1) (prev_of l1) (list_of l1) (λ q h i. (link q h i).next) (λ q h i. (link q h i).prev) (λ q h i. (link q h i).list) (λ i. (own i).next) (λ i. (own i).prev) (λ i. (own i).list))

  pub more_after_c : next_of l1 c < length l1
  more_after_c = more.circle.next_in c (omega (arith, long, len))

  pub more_after_new : next_of l1 (length l0) < length l1
  more_after_new = more.circle.next_in (length l0) (omega (arith, len))

  pub add_linked : (l2 : List Link) → AreCrossed l1 l2 c (length l0) → IsLinked l2
  add_linked l2 y = into l1 l2 w.height w.top (length l0) more long (omega (arith, len)) c c_in (λ i. (own i).list) y

  pub add_lists : (l2 : List Link) → AreCrossed l1 l2 c (length l0) → lists_in l2 ≡ lists_in l0 ++ c ∷ []
  add_lists l2 y = lists_push l0 l2 c long (y.len ∙ len) (λ q h. y.list q ∙ (λ i. (link q h i).list)) (y.list (length l0) ∙ (λ i. (own i).list))

-- the heads alone
pub heads_linked : (links : List Link) → length links ≡ 2051 → ((q : ℕ) → q < 2051 → get_or links q blank ≡ record { list = q; next = q; prev = q }) → IsLinked links
heads_linked links long own =
    record {
      height = λ q. 0;
      top = 1;
      linked = record {
        long = omega arith;
        next_in = λ q h. let e : next_of links q ≡ q = (λ i. (own q (omega arith) i).next) in omega arith;
        prev_in = λ q h. let e : prev_of links q ≡ q = (λ i. (own q (omega arith) i).prev) in omega arith;
        back = λ q h. ap (prev_of links) (λ i. (own q (omega arith) i).next) ∙ (λ i. (own q (omega arith) i).prev);
        forth = λ q h. ap (next_of links) (λ i. (own q (omega arith) i).prev) ∙ (λ i. (own q (omega arith) i).next);
        same = λ q h. ap (list_of links) (λ i. (own q (omega arith) i).next);
        heads = λ q h. (λ i. (own q h i).list);
        within = λ q h. let e : list_of links q ≡ q = (λ i. (own q (omega arith) i).list) in omega arith;
        falls = λ q h hn. absurd (omega arith);
        bound = λ q. omega arith;
      };
    }

pub heads_more : (links new : List Link) (n : ℕ) → length links ≡ n → new ≡ links ++ record { list = n; next = n; prev = n } ∷ []
    → ((q : ℕ) → q < n → get_or links q blank ≡ record { list = q; next = q; prev = q })
    → (q : ℕ) → q < n + 1 → get_or new q blank ≡ record { list = q; next = q; prev = q }
heads_more links new n long is own q h =
    ap (λ ls. get_or ls q blank) is ∙
    elim (cases_lt q n) [
      | inl l ↦ get_or-append links (record { list = n; next = n; prev = n } ∷ []) blank q (omega arith) ∙ own q l
      | inr g ↦ let e : q ≡ length links = omega arith in
          let f : n ≡ q = omega arith in
          ap (λ v. get_or (links ++ record { list = n; next = n; prev = n } ∷ []) v blank) e ∙ last_link links (record { list = n; next = n; prev = n }) blank ∙ (λ i. record { list = f i; next = f i; prev = f i })
    ]

-- the same, where the new key's place goes by a name of its own
module _ (l0 l1 l2 : List Link) (w : IsLinked l0) (c at : ℕ) (c_in : c < 2051) (at_is : at ≡ length l0)
    (is : l1 ≡ l0 ++ record { list = c; next = at; prev = at } ∷ []) (y : AreCrossed l1 l2 c at) where
  pushed_is : l1 ≡ l0 ++ record { list = c; next = length l0; prev = length l0 } ∷ []
  pushed_is = is ∙ ap (λ a. l0 ++ record { list = c; next = a; prev = a } ∷ []) at_is

  crossed_is : AreCrossed l1 l2 c (length l0)
  crossed_is = subst (AreCrossed l1 l2 c) at_is y

  pub pushed_linked : IsLinked l2
  pushed_linked = add_linked l0 l1 w c c_in pushed_is l2 crossed_is

  pub pushed_lists : lists_in l2 ≡ lists_in l0 ++ c ∷ []
  pushed_lists = add_lists l0 l1 w c c_in pushed_is l2 crossed_is
