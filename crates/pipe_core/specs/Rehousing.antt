-- The move of packets from one shelf to another, stated by their keys on each.
use Rattle.std.specs.Prelude.{◌≡◌, ℕ, ◌+◌, IsSome, List, length, map}
use Rattle.packet_store.specs.Pocket.{Pocket}
use Rattle.pipe_core.specs.Uses.{uses}
use Rattle.pipe_core.specs.Blanks.{blank}
use Rattle.pipe_core.specs.declared.slot.Slot.{Slot}
use Rattle.pipe_core.specs.Moves.{packet_at, found, Takes}

-- packets were put under these keys, and those that were there stay
pub record Gives (p q : Pocket) (keys : List ℕ) : Type 0 where
  pub came : (k : ℕ) → found (q.find k) ≡ uses k keys + found (p.find k)
  pub stays : (k : ℕ) → IsSome (p.find k) → q.find k ≡ p.find k
  pub count : q.count ≡ p.count + length keys
  pub budget : q.budget ≡ p.budget

-- the packets of the old keys left one pocket (p, then q), and are under the new keys, in the same order, in another
-- (r, then s)
pub record Rehouses (p q : Pocket) (r s : Pocket) (old new : List ℕ) : Type 0 where
  pub takes : Takes p q old
  pub gives : Gives r s new
  pub same : map (packet_at s.find) new ≡ map (packet_at p.find) old

-- a slot without its keys: each key is replaced by 0
abbrev pub blank_slot : Slot → Slot
blank_slot s = record { id = s.id; instance = blank s.instance }
