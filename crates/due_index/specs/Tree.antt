-- A tree in a list of twice `half` nodes: node i is the earlier of the nodes 2 i and 2 i + 1, and the leaves begin at
-- node `half`. Node 0 is not used; past the end nothing is due.
use Rattle.std.specs.Prelude.{◌≡◌, ◌≢◌, ℕ, ◌+◌, ◌*◌, ◌<◌, ◌≤◌, Option, None, List, length, take, drop, slice_index_or}
use Rattle.emu_model.specs.declared.sources.Due.{Due}
use Rattle.due_index.specs.Least.{lesser}

abbrev pub node_at : List (Option Due) → ℕ → Option Due
node_at xs i = slice_index_or xs i None

-- the earlier of a node's two children
abbrev pub below : List (Option Due) → ℕ → Option Due
below xs i = lesser (node_at xs (2 * i)) (node_at xs (2 * i + 1))

abbrev pub IsTree : List (Option Due) → Type 0
IsTree xs = (i : ℕ) → 0 < i → 2 * i + 1 < length xs → node_at xs i ≡ below xs i

-- each node except node k is the earlier of its children
abbrev pub IsTreeBut : ℕ → List (Option Due) → Type 0
IsTreeBut k xs = (i : ℕ) → i ≢ k → 0 < i → 2 * i + 1 < length xs → node_at xs i ≡ below xs i

-- the leaves that are places; nothing is due at the others
abbrev pub leaves_of : List (Option Due) → ℕ → ℕ → List (Option Due)
leaves_of xs half places = take places (drop half xs)

pub record IsIndex (xs : List (Option Due)) (half places : ℕ) : Type 0 where
  pub tree : IsTree xs
  pub long : length xs ≡ 2 * half
  pub within : places ≤ half
  pub rest : (i : ℕ) → places ≤ i → node_at (drop half xs) i ≡ None
