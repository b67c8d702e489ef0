-- Pockets as what they answer.
use Rattle.std.proofs.Common.{◌≡◌, ℕ}
use Rattle.packet_store.specs.Pocket.{Pocket}

-- two pockets that answer alike are one
pub pocket_ext : {p q : Pocket} → ((k : ℕ) → p.find k ≡ q.find k) → p.count ≡ q.count → p.budget ≡ q.budget → p ≡ q
pocket_ext f c b = λ i. record { find = λ k. f k i; count = c i; budget = b i }
