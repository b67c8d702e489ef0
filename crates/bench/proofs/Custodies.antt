-- Each move keeps the rule of a deque.
use Rattle.std.proofs.Common.{◌≡◌, ◌≤◌, ◌<◌, ◌+◌, ℕ, zero, suc, List, [], ◌∷◌, ◌++◌, length, set, get_or, sym, refl, ap, ◌∙◌, arith, Result, Ok, Err, MatchResult}
use Rattle.std.specs.List.{sum_by}
use Rattle.std.proofs.lemmas.List.Sums.{sum_by-set, sum_by-append, sum_by-cons, get_or-le-sum_by}
use Rattle.crossbeam_deque.proofs.Lists.{set_here}
use mathlib.Core.Option.{some, some-ne-none}
use lib.ListN.{get_elem?}
use Rattle.shard.specs.Stand.{Stand}
use Rattle.crossbeam_deque.specs.Tasks.{Takes}
use Rattle.bench.specs.declared.mail.RingMail.{RingMail}
use Rattle.bench.specs.declared.hand.Hand.{Hand}
use Rattle.bench.specs.declared.hand.Stamp.{Stamp}
use Rattle.std.proofs.lemmas.List.{map-append, get_or-set_other}
use Rattle.std.proofs.Math.Seq.{map-set_same}
use Rattle.std.proofs.Math.ListN.{get_or-map}
use Rattle.bench.specs.Custody.{hand, stamp, stamps, Balanced, TookLess}

-- what is at a place
at_place : {A : Type 0} (l : List A) (i : ℕ) (a d : A) → get_elem? l i ≡ some a → (i < length l) × (get_or l i d ≡ a)
at_place [] i a d e = absurd (some-ne-none a (sym e))
at_place (x ∷ xs) zero a d e = (omega arith, cc)
at_place (x ∷ xs) (suc i) a d e = let r = at_place xs i a d e in (omega arith, r.1)

-- a total after a change of one pass
total_set : (f : Hand → ℕ) (views : List Hand) (port : ℕ) (v w : Hand) → get_elem? views port ≡ some v → sum_by f (set views port w) + f v ≡ sum_by f views + f w
total_set f views port v w e =
    let r = at_place views port v v e in
    let s = sum_by-set f views port w v r.0 in
    rw r.1 at s

-- what a pass has pushed stays where a change of it pushes nothing
same_pushed : (views : List Hand) (port : ℕ) (v w d : Hand) → get_elem? views port ≡ some v → w.pushed ≡ v.pushed → (k : ℕ) → (get_or (set views port w) k d).pushed ≡ (get_or views k d).pushed
same_pushed views port v w d at e k =
    let r = at_place views port v d at in
    let pushed : Hand → List Stamp = λ u. u.pushed in
    let m = map-set_same pushed views port w d (e ∙ ap pushed (sym r.1)) in
    sym (get_or-map pushed (set views port w) k d) ∙ ap (λ l. get_or l k (pushed d)) m ∙ get_or-map pushed views k d

-- a sum of which each term is 0
none : (f : Hand → ℕ) (views : List Hand) (d : Hand) → ((k : ℕ) → f (get_or views k d) ≡ 0) → sum_by f views ≡ 0
none f [] d z = refl
none f (u ∷ us) d z = let r = none f us d (λ k. z (suc k)) in let a = z 0 in omega (arith, sum_by-cons f u us)

-- where only the pass at place 0 has any, the total is its own
only : (f : Hand → ℕ) (views : List Hand) (v d : Hand) → get_elem? views 0 ≡ some v → ((k : ℕ) → 0 < k → f (get_or views k d) ≡ 0) → sum_by f views ≡ f v
only f [] v d at z = absurd (some-ne-none v (sym at))
only f (u ∷ us) v d at z =
    let is : u ≡ v = cc in
    let r = none f us d (λ k. z (suc k) (omega arith)) in
    let a = ap f is in
    omega (arith, sum_by-cons f u us)

pub keeps : (port : ℕ) (v : Hand) (xs items : List (Stand RingMail)) (views : List Hand) → Balanced (xs ++ items) views → get_elem? views port ≡ some v → Balanced items (set views port (hand v.pushed (v.taken ++ stamps xs)))
keeps port v xs items views h at =
    let w : Hand = hand v.pushed (v.taken ++ stamps xs) in (
      (λ f.
          let p = total_set (λ u. sum_by f u.pushed) views port v w at in
          let t = total_set (λ u. sum_by f u.taken) views port v w at in
          let b = h.0 f in
          let a = sum_by-append f v.taken (stamps xs) in
          let c : sum_by f (stamps (xs ++ items)) ≡ sum_by f (stamps xs) + sum_by f (stamps items) = rw (map-append stamp xs items) (sum_by-append f (stamps xs) (stamps items)) in
          omega arith),
      λ k pos. same_pushed views port v w (hand [] []) at refl k ∙ h.1 k pos,
    )

pub takes : (port : ℕ) (v : Hand) → Takes {T = Stand RingMail} Balanced port v 1 (λ xs w. w ≡ hand v.pushed (v.taken ++ stamps xs))
takes port v xs items views some_ few h at = (hand v.pushed (v.taken ++ stamps xs), keeps port v xs items views h at, refl)

-- the owner has taken no more than it has pushed
pub less : (v : Hand) (items : List (Stand RingMail)) (views : List Hand) → Balanced items views → get_elem? views 0 ≡ some v → TookLess v
less v items views h at f =
    let p = only (λ u. sum_by f u.pushed) views v (hand [] []) at (λ k pos. ap (λ l. sum_by f l) (h.1 k pos)) in
    let r = at_place views 0 v (hand [] []) at in
    let t = get_or-le-sum_by (λ (u : Hand). sum_by f u.taken) views 0 (hand [] []) r.0 in
    let g = ap (λ (u : Hand). sum_by f u.taken) r.1 in
    let b = h.0 f in
    omega arith

pub retakes : (v : Hand) → Takes {T = Stand RingMail} Balanced 0 v 1 (λ xs w. (w ≡ hand v.pushed (v.taken ++ stamps xs)) × TookLess w)
retakes v xs items views some_ few h at =
    let w : Hand = hand v.pushed (v.taken ++ stamps xs) in
    let kept = keeps 0 v xs items views h at in
    (w, kept, (refl, less w items (set views 0 w) kept (set_here views 0 w (at_place views 0 v w at).0)))

-- the owner pushes one more
pub pushes : (v : Hand) (p : Stand RingMail) (items : List (Stand RingMail)) (views : List Hand) → Balanced items views → get_elem? views 0 ≡ some v →
    (w : Hand) × Balanced (items ++ p ∷ []) (set views 0 w) × (w ≡ hand (v.pushed ++ stamp p ∷ []) v.taken)
pushes v p items views h at =
    let w : Hand = hand (v.pushed ++ stamp p ∷ []) v.taken in (
      w,
      (
        (λ f.
            let b = h.0 f in
            let old = total_set (λ u. sum_by f u.pushed) views 0 v w at in
            let same = total_set (λ u. sum_by f u.taken) views 0 v w at in
            let a = sum_by-append f v.pushed (stamp p ∷ []) in
            let c : sum_by f (stamps (items ++ p ∷ [])) ≡ sum_by f (stamps items) + sum_by f (stamp p ∷ []) = rw (map-append stamp items (p ∷ [])) (sum_by-append f (stamps items) (stamp p ∷ [])) in
            omega arith),
        (λ k pos. ap (λ (u : Hand). u.pushed) (get_or-set_other views 0 k w (hand [] []) (λ e. absurd (omega arith))) ∙ h.1 k pos),
      ),
      refl,
    )

-- and has taken no more than it has pushed then
pub less_push : (v : Hand) (p : Stand RingMail) → TookLess v → TookLess (hand (v.pushed ++ stamp p ∷ []) v.taken)
less_push v p h f = let a = sum_by-append f v.pushed (stamp p ∷ []) in let b = h f in omega arith

-- so it has after a push, whatever its answer is
pub less_pushed : {A B : Type 0} (r : Result A B) {P : A → Type 0} {Q : B → Type 0} (v w : Hand) (p : Stand RingMail) → MatchResult r P Q →
    ((a : A) → P a → w ≡ hand (v.pushed ++ stamp p ∷ []) v.taken) → ((b : B) → Q b → w ≡ v) → TookLess v → TookLess w
less_pushed (Ok a) v w p h more same less = rw (more a h) (less_push v p less)
less_pushed (Err b) v w p h more same less = rw (same b h) less

ones : (ss : List Stamp) → sum_by (λ (s : Stamp). 1) ss ≡ length ss
ones [] = refl
ones (s ∷ ss) = let r = ones ss in omega (arith, sum_by-cons (λ (s : Stamp). 1) s ss)

-- so it took no more pieces
pub fewer : (v : Hand) → TookLess v → length v.taken ≤ length v.pushed
fewer v h = let a = h (λ s. 1) in let p = ones v.pushed in let t = ones v.taken in omega arith
