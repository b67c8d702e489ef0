-- The order of the table by number.
use Rattle.std.proofs.Common.{◌≡◌, ℕ, suc, ◌+◌, ◌<◌, ◌≤◌, Bool, true, false, nat_lt, nat_eq, cond, refl, sym, ap, ◌∙◌, subst, List, [], ◌∷◌, ◌++◌, length, take, drop, Some, None, ◌⊎◌, inl, inr, arith}
use Rattle.std.specs.Prelude.{if◌then◌else◌}
use Rattle.std.specs.List.{position_or_len}
use Rattle.std.proofs.lemmas.Bool.{cases_eq}
use Rattle.std.proofs.lemmas.Bool.Decides.{nat_tests}
use Rattle.std.proofs.lemmas.List.Recursion.{is_position_or_len}
use Rattle.emu_model.specs.declared.packets.Packet.{Packet}
use Rattle.emu_model.specs.Pipes.{PipeState}
use Rattle.emu_model.specs.Commands.{with_pipe}
use Rattle.pipe_core.specs.Keyed.{KeyedPipe, seen_pipe}
use Rattle.pipe_table.specs.Table.{seen_pipes, pipe_of, is_above, IsTable}

-- the place of the first pipe of a greater number
abbrev pub place : ℕ → List KeyedPipe → ℕ
place k [] = 0
place k (p ∷ ps) = cond (nat_lt k p.number) 0 (suc (place k ps))

pub place-is : (k : ℕ) (ps : List KeyedPipe) → place k ps ≡ position_or_len (is_above k) ps
place-is k ps = is_position_or_len (place k) (is_above k) refl (λ x xs. ap (λ n. cond (nat_lt k x.number) 0 n) (let e : suc (place k xs) ≡ 1 + place k xs = omega arith in e)) ps

pub place-within : (k : ℕ) (ps : List KeyedPipe) → place k ps ≤ length ps
place-within k [] = omega arith
place-within k (p ∷ ps) = go (nat_lt k p.number) (place-within k ps)
  where
    go : (b : Bool) → place k ps ≤ length ps → cond b 0 (suc (place k ps)) ≤ suc (length ps)
    go true h = omega arith
    go false h = omega (arith, h)

-- a pipe is put before the first of a greater number
pub with_pipe-at : (f : ℕ → Packet) (s : PipeState) (k : ℕ) (ps : List KeyedPipe) → s.number ≡ k →
    with_pipe s (seen_pipes f ps) ≡ seen_pipes f (take (place k ps) ps) ++ s ∷ seen_pipes f (drop (place k ps) ps)
with_pipe-at f s k [] e = refl
with_pipe-at f s k (p ∷ ps) e =
    ap (λ n. if nat_lt n p.number then s ∷ seen_pipes f (p ∷ ps) else seen_pipe f p ∷ with_pipe s (seen_pipes f ps)) e
    ∙ go (nat_lt k p.number) (with_pipe-at f s k ps e)
  where
    go : (b : Bool) → with_pipe s (seen_pipes f ps) ≡ seen_pipes f (take (place k ps) ps) ++ s ∷ seen_pipes f (drop (place k ps) ps) →
        (if b then s ∷ seen_pipes f (p ∷ ps) else seen_pipe f p ∷ with_pipe s (seen_pipes f ps))
        ≡ seen_pipes f (take (cond b 0 (suc (place k ps))) (p ∷ ps)) ++ s ∷ seen_pipes f (drop (cond b 0 (suc (place k ps))) (p ∷ ps))
    go true h = refl
    go false h = ap (λ l. seen_pipe f p ∷ l) h

cases_lt : (a b : ℕ) → (a < b) ⊎ (b ≤ a)
cases_lt a b = go (nat_lt a b) refl
  where
    go : (c : Bool) → nat_lt a b ≡ c → (a < b) ⊎ (b ≤ a)
    go true e = inl (grind (arith, nat_tests, e))
    go false e = inr (grind (arith, nat_tests, e))

IsTable-low : (seed low lower : ℕ) (ps : List KeyedPipe) → lower ≤ low → IsTable seed low ps → IsTable seed lower ps
unfolding IsTable
IsTable-low seed low lower [] le t = t
IsTable-low seed low lower (p ∷ ps) le t = (t.0, omega (arith, le, t.1), t.2)

-- a new pipe in its place
pub IsTable-insert : (seed low k : ℕ) (new : KeyedPipe) (ps : List KeyedPipe) → new.seed ≡ seed → new.number ≡ k → low ≤ k →
    pipe_of k ps ≡ None → IsTable seed low ps → IsTable seed low (take (place k ps) ps ++ new ∷ drop (place k ps) ps)
unfolding IsTable
IsTable-insert seed low k new [] s n le none t = (s, omega (arith, n, le), tt)
IsTable-insert seed low k new (p ∷ ps) s n le none t = elim (cases_eq p.number k) [
  | inl same ↦
      let yes : nat_eq p.number k ≡ true = grind (arith, nat_tests, same) in
      let some : Some p ≡ None = sym (ap (λ c. cond c (Some p) (pipe_of k ps)) yes) ∙ none in
      absurd (cc)
  | inr differs ↦
      let other : nat_eq p.number k ≡ false = grind (arith, nat_tests, differs) in
      let none_too : pipe_of k ps ≡ None = sym (ap (λ c. cond c (Some p) (pipe_of k ps)) other) ∙ none in
      elim (cases_lt k p.number) [
        | inl above ↦
            let b : nat_lt k p.number ≡ true = grind (arith, nat_tests, above) in
            subst (λ c. IsTable seed low (take (cond c 0 (suc (place k ps))) (p ∷ ps) ++ new ∷ drop (cond c 0 (suc (place k ps))) (p ∷ ps))) (sym b)
            (s, omega (arith, n, le), (t.0, omega (arith, n, above), t.2))
        | inr below ↦
            let b : nat_lt k p.number ≡ false = grind (arith, nat_tests, below) in
            subst (λ c. IsTable seed low (take (cond c 0 (suc (place k ps))) (p ∷ ps) ++ new ∷ drop (cond c 0 (suc (place k ps))) (p ∷ ps))) (sym b)
            (t.0, t.1, IsTable-insert seed (p.number + 1) k new ps s n (omega (arith, below, differs)) none_too t.2)
      ]
]

-- a pipe changes, and keeps its number
pub IsTable-change : (seed low : ℕ) (before behind : List KeyedPipe) (x y : KeyedPipe) → y.seed ≡ x.seed → y.number ≡ x.number →
    IsTable seed low (before ++ x ∷ behind) → IsTable seed low (before ++ y ∷ behind)
unfolding IsTable
IsTable-change seed low [] behind x y s n t =
    (s ∙ t.0, subst (λ k. low ≤ k) (sym n) t.1, subst (λ k. IsTable seed (k + 1) behind) (sym n) t.2)
IsTable-change seed low (b ∷ before) behind x y s n t =
    (t.0, t.1, IsTable-change seed (b.number + 1) before behind x y s n t.2)

-- a pipe goes
pub IsTable-remove : (seed low : ℕ) (before behind : List KeyedPipe) (x : KeyedPipe) →
    IsTable seed low (before ++ x ∷ behind) → IsTable seed low (before ++ behind)
unfolding IsTable
IsTable-remove seed low [] behind x t = IsTable-low seed (x.number + 1) low behind (omega (arith, t.1)) t.2
IsTable-remove seed low (b ∷ before) behind x t = (t.0, t.1, IsTable-remove seed (b.number + 1) before behind x t.2)

-- the seed of a pipe
pub IsTable-seed : (seed low : ℕ) (before behind : List KeyedPipe) (x : KeyedPipe) →
    IsTable seed low (before ++ x ∷ behind) → x.seed ≡ seed
unfolding IsTable
IsTable-seed seed low [] behind x t = t.0
IsTable-seed seed low (b ∷ before) behind x t = IsTable-seed seed (b.number + 1) before behind x t.2

-- each pipe is the first of its number
pub first-of-number : (seed low : ℕ) (before behind : List KeyedPipe) (x : KeyedPipe) →
    IsTable seed low (before ++ x ∷ behind) → (low ≤ x.number) × (pipe_of x.number before ≡ None)
unfolding IsTable
first-of-number seed low [] behind x t = (t.1, refl)
first-of-number seed low (b ∷ before) behind x t =
    let rest = first-of-number seed (b.number + 1) before behind x t.2 in
    let other : nat_eq b.number x.number ≡ false = grind (arith, nat_tests, rest.0) in
    (omega (arith, t.1, rest.0), ap (λ c. cond c (Some b) (pipe_of x.number before)) other ∙ rest.1)
