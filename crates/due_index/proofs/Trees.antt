-- A tree whose node k changes, and what its leaves are then.
use Rattle.std.proofs.Common.{inl, inr, ◌≡◌, ◌≢◌, ℕ, zero, suc, ◌+◌, ◌*◌, ◌-◌, ◌/◌, ◌<◌, List, [], ◌∷◌, ◌++◌, length, take, drop, set, get_or, replicate, refl, sym, ap, ◌∙◌, subst, add-one, arith}
use Rattle.std.specs.Prelude.{Option, None}
use Rattle.std.proofs.lemmas.Bool.{cases_eq}
use Rattle.std.proofs.Math.Seq.{take-suc, take-set-lt}
use Rattle.std.proofs.lemmas.List.{get_or-set_same, get_or-set_other, get_or-drop, get_or-take, get_or_past, length-drop, length-set, length-take-le}
use Rattle.emu_model.specs.declared.sources.Due.{Due}
use Rattle.due_index.specs.Least.{dues_in, least_of, lesser}
use Rattle.due_index.specs.Tree.{node_at, below, leaves_of, IsTree, IsTreeBut, IsIndex}
use Rattle.due_index.proofs.LeastDues.{least_of-leaf}
use Rattle.due_index.proofs.Runs.{run, leaf, frontier, run-moved, run-list, least-take}

module _ (xs : List (Option Due)) (k : ℕ) (v : Option Due) where
  here : k < length xs → node_at (set xs k v) k ≡ v
  here within = get_or-set_same xs k v None within

  stays : (i : ℕ) → i ≢ k → node_at (set xs k v) i ≡ node_at xs i
  stays i other = get_or-set_other xs k i v None other

  -- a node that isn't the changed one, nor above it
  still : (i : ℕ) → i ≢ k → 2 * i ≢ k → 2 * i + 1 ≢ k → node_at xs i ≡ below xs i →
      node_at (set xs k v) i ≡ below (set xs k v) i
  still i at left right h =
      stays i at ∙ h ∙ (λ t. lesser (sym (stays (2 * i) left) t) (sym (stays (2 * i + 1) right) t))

  -- a node that is set to what those below it come to
  pub mended : IsTreeBut k xs → v ≡ below xs k → k < length xs → 0 < k → IsTreeBut (k / 2) (set xs k v)
  mended h is within low i apart pos inside = elim (cases_eq i k) [
    | inl same ↦ subst (λ j. node_at (set xs k v) j ≡ below (set xs k v) j) (sym same)
        (here within ∙ is
        ∙ (λ t. lesser (sym (stays (2 * k) (λ e. omega (arith, e, low))) t)
        (sym (stays (2 * k + 1) (λ e. omega (arith, e))) t)))
    | inr differs ↦ still i differs (λ e. apart (omega (arith, e))) (λ e. apart (omega (arith, e)))
        (h i differs pos (omega (arith, inside, length-set xs k v)))
  ]

-- nothing changes, and so nothing is left to do
pub stopped : (xs : List (Option Due)) (k : ℕ) → IsTreeBut k xs → node_at xs k ≡ below xs k → IsTree xs
stopped xs k h e i low inside = elim (cases_eq i k) [
  | inl same ↦ subst (λ j. node_at xs j ≡ below xs j) (sym same) e
  | inr differs ↦ h i differs low inside
]

pub whole : (xs : List (Option Due)) (k : ℕ) → k ≡ 0 → IsTreeBut k xs → IsTree xs
whole xs k root h i low inside = h i (λ e. omega (arith, low, e, root)) low inside

-- nothing is due anywhere
none_at : (n i : ℕ) → node_at (replicate n None) i ≡ None
none_at zero i = refl
none_at (suc n) zero = refl
none_at (suc n) (suc i) = none_at n i

module _ (xs : List (Option Due)) (half places : ℕ) (h : IsIndex xs half places) where
  bottom_long : length (drop half xs) ≡ half
  bottom_long = omega (arith, length-drop half xs, h.long)

  pub leaves_long : length (leaves_of xs half places) ≡ places
  leaves_long = length-take-le places (drop half xs) (omega (arith, h.within, bottom_long))

  -- a leaf, as it stands in the list
  pub leaf_at : (place : ℕ) → place < places → get_or (leaves_of xs half places) place None ≡ node_at xs (half + place)
  leaf_at place low = get_or-take places (drop half xs) place None low ∙ get_or-drop half xs place None

  pub more_leaves : places < half → leaves_of xs half (places + 1) ≡ leaves_of xs half places ++ None ∷ []
  more_leaves room =
      ap (λ n. take n (drop half xs)) (add-one places)
      ∙ take-suc (drop half xs) places None (omega (arith, room, bottom_long))
      ∙ ap (λ o. leaves_of xs half places ++ o ∷ []) (h.rest places (omega arith))

  -- the leaf of a place is set
  module _ (ys : List (Option Due)) (place : ℕ) (due : Option Due) (low : place < places)
      (tree : IsTree ys) (long : length ys ≡ length xs) (is : drop half ys ≡ set (drop half xs) place due) where
    pub set_index : IsIndex ys half places
    set_index = record {
      tree = tree;
      long = long ∙ h.long;
      within = h.within;
      rest = λ i l.
          ap (λ os. node_at os i) is ∙ get_or-set_other (drop half xs) place i due None (λ e. omega (arith, e, l, low))
          ∙ h.rest i l;
    }

    pub set_leaves : leaves_of ys half places ≡ set (leaves_of xs half places) place due
    set_leaves = ap (take places) is ∙ take-set-lt places (drop half xs) place due low

  -- the root is the least of all
  root_row : (half : ℕ) → length xs ≡ 2 * half → node_at xs 1 ≡ run (node_at xs) half half
  root_row zero long = get_or_past xs 1 None (omega (arith, long))
  root_row (suc i) long =
      frontier (node_at xs) (suc i) (λ j low inside. h.tree j low (omega (arith, long, inside))) i (omega arith)

  pub root_least : node_at xs 1 ≡ least_of (dues_in (leaves_of xs half places))
  root_least =
      let os : List (Option Due) = drop half xs in
      let many : half ≡ length os = sym bottom_long in
      root_row half h.long
      ∙ run-moved (node_at xs) (leaf os) half 0 half (λ i.
      let same : i ≡ 0 + i = omega arith in sym (get_or-drop half xs i None) ∙ ap (leaf os) same)
      ∙ ap (run (leaf os) 0) many ∙ run-list os (leaf os) (λ i. refl)
      ∙ least-take places os h.rest
      ∙ sym (least_of-leaf (leaves_of xs half places))
