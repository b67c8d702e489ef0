-- The `finish` lines of an instance are those that its own part of a history tells.
use Rattle.std.proofs.Common.{◌≡◌, ℕ, List, [], ◌∷◌, ◌++◌, Bool, true, false, refl, sym, ◌∙◌, ap, Option, Some, None, append_assoc, append-nil}
use Rattle.std.specs.Prelude.{if◌then◌else◌, ◌&&◌, ◌==◌, map, flat_map}
use Rattle.std.specs.Option.{option_map_or}
use Rattle.emu_laws.proofs.Types.{Packet, Deleted, Record, PacketFinished, PacketDropped}
use Rattle.emu_model.specs.Pipes.{InService, PipeState, Drop, pipe_arrive, pipe_finish, pipe_packets}
use Rattle.emu_model.specs.Net.{drop_record}
use Rattle.emu_model.specs.Events.{served_in}
use Rattle.emu_laws.specs.Happenings.{Happening, Coming, Finishing, InFlight, Configuring, Deleting, pipe_in, happen, finish_lines, deleted_lines, known, lines_of, is_at, standing, first_held, known_of, told_of}
use Rattle.emu_laws.specs.RunHistories.{is_by_pipe, by_pipe, finish_of, finishes_of, finishes_told}

module _ (pipe k : ℕ) where
  finishes-append : (rs ss : List Record) → finishes_of pipe k (rs ++ ss) ≡ finishes_of pipe k rs ++ finishes_of pipe k ss
  finishes-append [] ss = refl
  finishes-append (r ∷ rs) ss =
      ap (λ xs. finish_of pipe k r ++ xs) (finishes-append rs ss)
      ∙ sym (append_assoc (finish_of pipe k r) (finishes_of pipe k rs) (finishes_of pipe k ss))

  drops-none : (now : ℕ) (ds : List Drop) → finishes_of pipe k (map (drop_record now) ds) ≡ []
  drops-none now [] = refl
  drops-none now (d ∷ ds) = drops-none now ds

  deleted-none : (now : ℕ) (qs : List Packet) → finishes_of pipe k (deleted_lines now qs) ≡ []
  deleted-none now qs = drops-none now (map (λ q. record { packet = q; cause = Deleted }) qs)

  found-none : (f : PipeState → List Record) → ((p : PipeState) → finishes_of pipe k (f p) ≡ []) →
      (o : Option PipeState) → finishes_of pipe k (option_map_or f o []) ≡ []
  found-none f none None = refl
  found-none f none (Some p) = none p

  deleting-none : (seed now j : ℕ) (ps : List PipeState) → finishes_of pipe k (known seed (Deleting now j) ps).lines ≡ []
  deleting-none seed now j ps =
      found-none (λ p. deleted_lines now (pipe_packets p)) (λ p. deleted-none now (pipe_packets p)) (pipe_in j ps)

  -- a finish at another instance
  other-finish : (now j i : ℕ) (p : PipeState) → (j == pipe && i == k) ≡ false → finishes_of pipe k (finish_lines now j i p) ≡ []
  other-finish now j i p e = go (served_in i p)
    where
      go : (o : Option (InService Packet)) →
          finishes_of pipe k (option_map_or (λ s. PacketFinished now s.item.number j i ∷ []) o []) ≡ []
      go None = refl
      go (Some s) = ap (λ b. (if b then PacketFinished now s.item.number j i ∷ [] else []) ++ []) e

  -- a happening at another instance tells no finish of this one
  others-none : (seed : ℕ) (h : Happening) (ps : List PipeState) → is_at pipe k h ps ≡ false →
      finishes_of pipe k (known seed h ps).lines ≡ []
  others-none seed (Coming now j packet) ps e =
      found-none (λ p. map (drop_record now) (pipe_arrive seed now packet p).dropped)
      (λ p. drops-none now (pipe_arrive seed now packet p).dropped) (pipe_in j ps)
  others-none seed (Finishing now j i) ps e =
      found-none (λ p. finish_lines now j i p ++ map (drop_record now) (pipe_finish now i p).dropped)
      (λ p. finishes-append (finish_lines now j i p) (map (drop_record now) (pipe_finish now i p).dropped)
      ∙ ap (λ xs. xs ++ finishes_of pipe k (map (drop_record now) (pipe_finish now i p).dropped)) (other-finish now j i p e)
      ∙ drops-none now (pipe_finish now i p).dropped) (pipe_in j ps)
  others-none seed (InFlight j i) ps e = refl
  others-none seed (Configuring j config) ps e = refl
  others-none seed (Deleting now j) ps e = deleting-none seed now j ps

  own-same : (seed : ℕ) (h : Happening) (ps : List PipeState) →
      finishes_of pipe k (known seed h ps).lines ≡ finishes_of pipe k (known_of seed pipe k h ps).lines
  own-same seed (Coming now j packet) ps = refl
  own-same seed (Finishing now j i) ps = refl
  own-same seed (InFlight j i) ps = refl
  own-same seed (Configuring j config) ps = refl
  own-same seed (Deleting now j) ps =
      deleting-none seed now j ps ∙ sym (deleted-none now (first_held (standing pipe k ps)))

  pub finishes-told : (seed : ℕ) (hs : List Happening) (ps : List PipeState) →
      finishes_of pipe k (lines_of seed hs ps) ≡ finishes_told pipe k (told_of seed pipe k hs ps)
  finishes-told seed [] ps = refl
  finishes-told seed (h ∷ hs) ps =
      finishes-append (known seed h ps).lines (lines_of seed hs (happen seed h ps))
      ∙ go (is_at pipe k h ps) refl (finishes-told seed hs (happen seed h ps))
    where
      later : List Record
      later = finishes_of pipe k (lines_of seed hs (happen seed h ps))

      go : (b : Bool) → is_at pipe k h ps ≡ b →
          finishes_of pipe k (lines_of seed hs (happen seed h ps)) ≡ finishes_told pipe k (told_of seed pipe k hs (happen seed h ps)) →
          finishes_of pipe k (known seed h ps).lines ++ later
          ≡ finishes_told pipe k (if b then known_of seed pipe k h ps ∷ told_of seed pipe k hs (happen seed h ps)
          else told_of seed pipe k hs (happen seed h ps))
      go true e rest = ap (λ xs. xs ++ later) (own-same seed h ps) ∙ ap (λ xs. finishes_of pipe k (known_of seed pipe k h ps).lines ++ xs) rest
      go false e rest = ap (λ xs. xs ++ later) (others-none seed h ps e) ∙ rest

  -- what is by pipes has all finishes
  one-by_pipe : (r : Record) → finish_of pipe k r ≡ finishes_of pipe k (by_pipe r)
  one-by_pipe (PacketFinished moment packet p i) = sym (append-nil (finish_of pipe k (PacketFinished moment packet p i)))
  one-by_pipe (PacketDropped moment packet load cause) = go (is_by_pipe cause)
    where
      go : (b : Bool) → [] ≡ finishes_of pipe k (if b then PacketDropped moment packet load cause ∷ [] else [])
      go true = refl
      go false = refl
  one-by_pipe _ = refl

  pub finishes-by_pipe : (rs : List Record) → finishes_of pipe k rs ≡ finishes_of pipe k (flat_map by_pipe rs)
  finishes-by_pipe [] = refl
  finishes-by_pipe (r ∷ rs) =
      ap (λ xs. xs ++ finishes_of pipe k rs) (one-by_pipe r)
      ∙ ap (λ xs. finishes_of pipe k (by_pipe r) ++ xs) (finishes-by_pipe rs)
      ∙ sym (finishes-append (by_pipe r) (flat_map by_pipe rs))
