-- The shelves of a store, each with a place for every packet of its budget.
use Rattle.std.proofs.Common.{◌≡◌, ℕ, zero, suc, ◌<◌, ◌≤◌, set, get_or, List, [], ◌∷◌, Option, Some, None, ap, arith}
use Rattle.std.specs.Prelude.{IfSome, IfNone, OnSome}
use Rattle.emu_model.specs.declared.packets.Packet.{Packet}
use Rattle.packet_store.specs.Pocket.{Pocket, without}
use Rattle.packet_store.specs.Own.{Own, own_pocket}
use Rattle.packet_store.specs.Books.{HasAll}

-- one shelf that changes leaves the others what they were
pub set-all : (P : Own → Type 0) (xs : List (Option Own)) (i o : ℕ) (v : Own) → P v → IfSome (get_or xs o None) P → IfSome (get_or (set xs i (Some v)) o None) P
set-all P [] i o v p h = h
set-all P (x ∷ xs) zero zero v p h = p
set-all P (x ∷ xs) zero (suc o) v p h = h
set-all P (x ∷ xs) (suc i) zero v p h = h
set-all P (x ∷ xs) (suc i) (suc o) v p h = set-all P xs i o v p h

-- a packet that is taken leaves its place
pub has_all-take : (old new : Own) (r : Option Packet) (key : ℕ) → HasAll old → OnSome r (own_pocket new ≡ without (own_pocket old) key) → IfNone r (own_pocket new ≡ own_pocket old) → old.spare ≤ new.spare → OnSome r (old.spare < new.spare) → HasAll new
has_all-take old new None key has some none room more = omega (arith, has, room, ap (λ (p : Pocket). p.count) none, ap (λ (p : Pocket). p.budget) none)
has_all-take old new (Some p) key has some none room more = omega (arith, has, more, ap (λ (q : Pocket). q.count) some, ap (λ (q : Pocket). q.budget) some)
