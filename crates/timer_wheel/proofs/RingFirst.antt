-- The key behind the head of a list.
use Rattle.std.proofs.Common.{◌≡◌, ◌≢◌, ℕ, ◌+◌, ◌-◌, ◌<◌, ◌≤◌, List, length, slice_get, Some, ap, ◌∙◌, arith}
use Rattle.std.proofs.lemmas.Option.{slice_get_within}
use Rattle.timer_wheel.specs.declared.ring.Link.{Link}
use Rattle.timer_wheel.specs.Rings.{next_of, prev_of, list_of, lists_in, IsLinked}
use Rattle.timer_wheel.proofs.RingFacts.{none_there, only_key}
use Rattle.timer_wheel.proofs.RingViews.{get_lists, from_lists}

module _ (links : List Link) (w : IsLinked links) (c n : ℕ) (c_in : c < 2051) (is : n ≡ next_of links c) where
  c_below : c < length links
  c_below = let l : 2051 ≤ length links = w.linked.long in omega arith

  pub first_some : 2051 ≤ n → slice_get (lists_in links) (n - 2051) ≡ Some c
  first_some h =
      let m : n < length links = rw is (w.linked.next_in c c_below) in
      let at : 2051 + (n - 2051) ≡ n = omega arith in
      get_lists links (n - 2051) (omega arith) ∙ ap Some (ap (list_of links) (at ∙ is) ∙ w.linked.same c c_below ∙ w.linked.heads c c_in)

  pub first_within : 2051 ≤ n → n - 2051 < length (lists_in links)
  first_within h = slice_get_within (lists_in links) (n - 2051) c (first_some h)

  pub first_none : n < 2051 → (k : ℕ) → slice_get (lists_in links) k ≢ Some c
  first_none h k e =
      let f : (2051 + k < length links) × (list_of links (2051 + k) ≡ c) = from_lists links k c e in
      none_there (length links) (next_of links) (prev_of links) (list_of links) w.height w.top w.linked c c_in (rw (← is) h) (2051 + k) (omega arith) f.0 f.1

-- no two keys are in a list that has the same behind its head and before it
pub alone_there : (links : List Link) → IsLinked links → (c : ℕ) → c < 2051 → next_of links c ≡ prev_of links c →
    (j k : ℕ) → slice_get (lists_in links) j ≡ Some c → slice_get (lists_in links) k ≡ Some c → j ≡ k
alone_there links w c c_in single j k at_j at_k =
    let f : (2051 + j < length links) × (list_of links (2051 + j) ≡ c) = from_lists links j c at_j in
    let g : (2051 + k < length links) × (list_of links (2051 + k) ≡ c) = from_lists links k c at_k in
    let a : 2051 + j ≡ next_of links c = only_key (length links) (next_of links) (prev_of links) (list_of links) w.height w.top w.linked c c_in single (2051 + j) (omega arith) f.0 f.1 in
    let b : 2051 + k ≡ next_of links c = only_key (length links) (next_of links) (prev_of links) (list_of links) w.height w.top w.linked c c_in single (2051 + k) (omega arith) g.0 g.1 in
    omega arith
