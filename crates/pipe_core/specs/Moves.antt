-- The effect of a call on an owner's packets on a shelf, stated by the keys in a list before and after it.
use Rattle.std.specs.Prelude.{◌≡◌, ℕ, ◌+◌, ◌≤◌, Option, Some, None, IsSome, List, ◌++◌, length, unwrap_or, map}
use Rattle.emu_model.specs.declared.packets.Packet.{Packet}
use Rattle.emu_model.specs.declared.packets.Protocol.TheVariants.{Udp}
use Rattle.emu_model.specs.declared.packets.Load.TheVariants.{Plain}
use Rattle.packet_store.specs.Pocket.{Pocket}
use Rattle.pipe_core.specs.Uses.{uses}

abbrev pub some_packet : Packet
some_packet = record {
  proto = Udp;
  src = 0;
  sport = 0;
  dst = 0;
  dport = 0;
  size = 40;
  number = 0;
  load = Plain;
  place = record { number = 0; order = 0 };
}

-- the packet of a key, or `some_packet` if there is none
abbrev pub packet_at : (ℕ → Option Packet) → ℕ → Packet
packet_at find key = unwrap_or (find key) some_packet

abbrev pub found : Option Packet → ℕ
found None = 0
found (Some p) = 1

-- each key in the list is that of a packet in the pocket, and occurs once
pub record AreNamed (pocket : Pocket) (keys : List ℕ) : Type 0 where
  pub each : (k : ℕ) → uses k keys ≤ found (pocket.find k)
  pub within : length keys ≤ pocket.count

-- packets whose keys entered the list were put into the pocket, and those whose keys left it were taken; the owner's
-- other packets stay
pub record Keeps (p q : Pocket) (old new : List ℕ) : Type 0 where
  pub balance : (k : ℕ) → uses k new + found (p.find k) ≡ uses k old + found (q.find k)
  pub kept : (k : ℕ) → uses k old ≡ 0 → IsSome (p.find k) → q.find k ≡ p.find k
  pub count : q.count + length old ≡ p.count + length new
  pub budget : q.budget ≡ p.budget

-- the packets of these keys were taken; the others stay
pub record Takes (p q : Pocket) (keys : List ℕ) : Type 0 where
  pub gone : (k : ℕ) → uses k keys + found (q.find k) ≡ found (p.find k)
  pub kept : (k : ℕ) → uses k keys ≡ 0 → q.find k ≡ p.find k
  pub stays : (k : ℕ) → IsSome (q.find k) → q.find k ≡ p.find k
  pub count : q.count + length keys ≡ p.count
  pub budget : q.budget ≡ p.budget

-- the packets of the keys in `all` before those in `left` were taken, and appended to a list, in order
pub record Taking (p q : Pocket) (all left : List ℕ) (before now : List Packet) : Type 0 where
  pub gone : List ℕ
  pub whole : all ≡ gone ++ left
  pub takes : Takes p q gone
  pub came : now ≡ before ++ map (packet_at p.find) gone
