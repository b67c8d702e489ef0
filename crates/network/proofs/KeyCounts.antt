-- How often keys stand in lists, and what a put and a take do to them.
use Rattle.std.proofs.Common.{◌≡◌, ℕ, ◌+◌, refl, ap, List, [], ◌∷◌, ◌++◌, Option, Some, None, arith}
use Rattle.emu_model.specs.declared.packets.Packet.{Packet}
use Rattle.packet_store.specs.Pocket.{Pocket, with_packet, without}
use Rattle.pipe_core.specs.Uses.{total, uses, one_at}
use Rattle.pipe_core.specs.Moves.{found, AreNamed, Keeps}
use Rattle.pipe_core.proofs.CallerLemmas.{total-nil, total-cons, total-append}
use Rattle.pipe_core.proofs.CallerLemmas.{Keeps-put as Keeps-more, Keeps-taken, Takes-first}
pub use Rattle.pipe_core.proofs.CallerLemmas.{one_at-same}
pub use Rattle.pipe_core.proofs.CallerLemmas.{at_same, at_other, found-le, found-some, one_at-other}

pub uses-cons : (k x : ℕ) (xs : List ℕ) → uses k (x ∷ xs) ≡ one_at k x + uses k xs
uses-cons k x xs = total-cons (one_at k) x xs

pub uses-append : (k : ℕ) (xs ys : List ℕ) → uses k (xs ++ ys) ≡ uses k xs + uses k ys
uses-append k xs ys = total-append (one_at k) xs ys

pub not-found : (o : Option Packet) → found o ≡ 0 → o ≡ None
not-found None h = refl
not-found (Some p) h = absurd (omega (arith, h))

-- a packet that was put, under a key that stands last
pub Keeps-put : (p q : Pocket) (key : ℕ) (packet : Packet) (old new : List ℕ) →
    p.find key ≡ None → q ≡ with_packet p key packet → new ≡ old ++ key ∷ [] → Keeps p q old new
Keeps-put p q key packet old new none put last =
    Keeps-more p q key packet old new none put (λ g. omega (
      arith,
      ap (total g) last,
      total-append g old (key ∷ []),
      total-cons g key [],
      total-nil g,
    ))

-- a packet that was taken, of the key that stood first
pub Keeps-first : (p q : Pocket) (key : ℕ) (keys : List ℕ) → AreNamed p (key ∷ keys) → q ≡ without p key →
    Keeps p q (key ∷ keys) keys
Keeps-first p q key keys named taken =
    Keeps-taken p q (key ∷ []) (key ∷ keys) keys (Takes-first p q key keys named taken)
    (λ g. omega (arith, total-cons g key keys, total-cons g key [], total-nil g))
