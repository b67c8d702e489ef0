-- The lines of a listing, pipe by pipe and instance by instance.
use Rattle.std.proofs.Common.{◌≡◌, ℕ, zero, suc, ◌+◌, ◌<◌, ◌≤◌, refl, sym, ap, ◌∙◌, List, [], ◌∷◌, ◌++◌, map, length, take, get_or, Some, None, arith}
use Rattle.std.specs.Prelude.{option_map, slice_get, flat_map, sum_by}
use Rattle.std.proofs.lemmas.Grind.{flat_map-append}
use Rattle.std.proofs.lemmas.List.Sums.{sum_by-append, sum_by-cons, sum_by-take-drop}
use Rattle.std.proofs.lemmas.List.{length-map, length-append, map-append, append-nil}
use Rattle.std.proofs.Math.Seq.{take-suc}
use Rattle.emu_model.specs.declared.packets.Packet.{Packet}
use Rattle.emu_model.specs.declared.records.Record.{Record}
use Rattle.emu_model.specs.declared.records.Record.TheVariants.{InstanceLine}
use Rattle.emu_model.specs.Commands.{instance_line, instance_lines, pipe_lines}
use Rattle.emu_model.specs.Pipes.{Instance}
use Rattle.pipe_core.specs.Keyed.{KeyedPipe, seen_pipe, seen_slot, shown_of}
use Rattle.pipe_core.specs.declared.instance.Shown.{Shown}
use Rattle.pipe_table.specs.Table.{seen_pipes}

abbrev pub line_of : ℕ → ℕ → Shown → Record
line_of pipe k s = InstanceLine pipe k s.waiting s.bytes s.busy s.in_flight s.drawn

more : (n k : ℕ) (xs : List Instance) (i : ℕ) (s : Shown) → Some s ≡ option_map shown_of (slice_get xs i) →
    instance_lines n k (take i xs) ++ line_of n (k + i) s ∷ [] ≡ instance_lines n k (take (suc i) xs)
more n k [] i s h = absurd (cc)
more n k (x ∷ xs) zero s h =
    let same : k + 0 ≡ k = omega arith in
    let is : s ≡ shown_of x = cc in
    λ z. line_of n (same z) (is z) ∷ []
more n k (x ∷ xs) (suc i) s h =
    let same : k + suc i ≡ (k + 1) + i = omega arith in
    (λ z. instance_line n k x ∷ (instance_lines n (k + 1) (take i xs) ++ line_of n (same z) s ∷ []))
    ∙ ap (λ l. instance_line n k x ∷ l) (more n (k + 1) xs i s h)

-- the lines of the first instances, and of one more
pub lines-more : (f : ℕ → Packet) (pipe : KeyedPipe) (i : ℕ) (s : Shown) → Some s ≡ option_map shown_of (slice_get (seen_pipe f pipe).instances i) →
    instance_lines pipe.number 0 (take i (map (seen_slot f) pipe.slots)) ++ line_of pipe.number i s ∷ []
    ≡ instance_lines pipe.number 0 (take (suc i) (map (seen_slot f) pipe.slots))
lines-more f pipe i s h =
    let same : i ≡ 0 + i = omega arith in
    (λ z. instance_lines pipe.number 0 (take i (map (seen_slot f) pipe.slots)) ++ line_of pipe.number (same z) s ∷ [])
    ∙ more pipe.number 0 (map (seen_slot f) pipe.slots) i s h

-- how many lines there are
abbrev pub lines_of : List KeyedPipe → ℕ
lines_of ps = sum_by (λ p. 1 + length p.slots) ps

length-lines : (n k : ℕ) (xs : List Instance) → length (instance_lines n k xs) ≡ length xs
length-lines n k [] = refl
length-lines n k (x ∷ xs) = ap suc (length-lines n (k + 1) xs)

pub lines-count : (f : ℕ → Packet) (ps : List KeyedPipe) → length (flat_map pipe_lines (seen_pipes f ps)) ≡ lines_of ps
lines-count f [] = refl
lines-count f (p ∷ ps) =
    omega (
      arith,
      lines-count f ps,
      length-append (pipe_lines (seen_pipe f p)) (flat_map pipe_lines (seen_pipes f ps)),
      length-lines p.number 0 (map (seen_slot f) p.slots),
      length-map p.slots (seen_slot f),
      sum_by-cons (λ (q : KeyedPipe). 1 + length q.slots) p ps,
    )

-- the lines of the first pipes, and of one more
pub pipes-more : (f : ℕ → Packet) (ps : List KeyedPipe) (i : ℕ) (x : KeyedPipe) → i < length ps → x ≡ get_or ps i x →
    flat_map pipe_lines (seen_pipes f (take i ps)) ++ pipe_lines (seen_pipe f x) ≡ flat_map pipe_lines (seen_pipes f (take (suc i) ps))
pipes-more f ps i x within read =
    ap (λ l. flat_map pipe_lines (seen_pipes f (take i ps)) ++ l) (sym (append-nil (pipe_lines (seen_pipe f x))))
    ∙ sym (flat_map-append pipe_lines (seen_pipes f (take i ps)) (seen_pipes f (x ∷ [])))
    ∙ ap (flat_map pipe_lines) (sym (map-append (seen_pipe f) (take i ps) (x ∷ [])))
    ∙ ap (λ l. flat_map pipe_lines (seen_pipes f l)) (ap (λ y. take i ps ++ y ∷ []) read ∙ sym (take-suc ps i x within))

pub count-more : (ps : List KeyedPipe) (i : ℕ) (x : KeyedPipe) → i < length ps → x ≡ get_or ps i x →
    lines_of (take (suc i) ps) ≡ lines_of (take i ps) + (1 + length x.slots)
count-more ps i x within read =
    ap lines_of (take-suc ps i x within ∙ ap (λ y. take i ps ++ y ∷ []) (sym read))
    ∙ sum_by-append (λ (p : KeyedPipe). 1 + length p.slots) (take i ps) (x ∷ [])
    ∙ (let same : lines_of (take i ps) + (0 + (1 + length x.slots)) ≡ lines_of (take i ps) + (1 + length x.slots) = omega arith in same)

-- an instance that is there is shown
pub shown-there : (f : ℕ → Packet) (pipe : KeyedPipe) (i : ℕ) → i < length pipe.slots →
    None ≡ option_map shown_of (slice_get (seen_pipe f pipe).instances i) → ⊥
shown-there f pipe i within none = go (map (seen_slot f) pipe.slots) i (omega (arith, within, length-map pipe.slots (seen_slot f))) none
  where
    go : (xs : List Instance) (j : ℕ) → j < length xs → None ≡ option_map shown_of (slice_get xs j) → ⊥
    go [] j h e = absurd (omega (arith, h))
    go (x ∷ xs) zero h e = absurd (cc)
    go (x ∷ xs) (suc j) h e = go xs j (omega (arith, h)) e

-- the lines of the first pipes are no more than those of all, and those of one more are among them
pub count-within : (ps : List KeyedPipe) (i : ℕ) (x : KeyedPipe) → i < length ps → x ≡ get_or ps i x →
    lines_of (take i ps) + (1 + length x.slots) ≤ lines_of ps
count-within ps i x within read =
    omega (arith, count-more ps i x within read, sum_by-take-drop (λ (p : KeyedPipe). 1 + length p.slots) ps (suc i))

pub take-end : {A : Type 0} (xs : List A) (i : ℕ) → length xs ≤ i → take i xs ≡ xs
take-end [] zero h = refl
take-end [] (suc i) h = refl
take-end (x ∷ xs) zero h = absurd (omega (arith, h))
take-end (x ∷ xs) (suc i) h = ap (λ l. x ∷ l) (take-end xs i (omega (arith, h)))
