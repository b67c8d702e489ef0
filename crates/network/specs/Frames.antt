-- The parts of an owner's net that a call leaves unchanged.
use Rattle.std.specs.Prelude.{◌≡◌, ℕ, ◌+◌, ◌<◌, ◌≤◌, Result, OnOk, OnErr}
use Rattle.packet_store.specs.Pocket.{Pocket, OthersStay}
use Rattle.network.specs.Kept.{KeptNet}
use Rattle.network.specs.Changes.{IsStill}

-- after success there is room for one more record; after an error only spare capacity has changed; other owners'
-- packets stay
pub record Frame {A B : Type 0} (result : Result A B) (owner : ℕ) (p q : ℕ → Pocket) (old new : KeptNet) : Type 0 where
  pub room : OnOk result (0 < new.log.spare)
  pub refused : OnErr result (IsStill old new)
  pub pocket : OnErr result (q owner ≡ p owner)
  pub others : OthersStay owner p q

-- the call used the room of at most `most` records, and other owners' packets stay
pub record TakesRoom (most owner : ℕ) (p q : ℕ → Pocket) (old new : KeptNet) : Type 0 where
  pub log : old.log.spare ≤ new.log.spare + most
  pub others : OthersStay owner p q
