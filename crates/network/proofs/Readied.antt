-- A net in which room was made, seen from within: n over p shows what old showed over o.
use Rattle.std.proofs.Common.{◌≡◌, ℕ, sym, ap, ◌∙◌, subst, arith}
use Rattle.emu_model.specs.Net.{Net}
use Rattle.packet_store.specs.Pocket.{Pocket}
use Rattle.network.specs.Kept.{KeptNet, net_of, IsHoused}
use Rattle.network.specs.Changes.{Becomes, IsStill}
use Rattle.network.proofs.Steps.{still-housed}

pub record Readied (o p : Pocket) (old n : KeptNet) : Type 0 where
  pub housed : IsHoused p n
  pub shown : net_of p n ≡ net_of o old
  pub seed : n.table.seed ≡ old.table.seed
  pub made : n.made ≡ old.made
  pub budget : p.budget ≡ o.budget

pub readied : {o p : Pocket} {old mid n : KeptNet} → IsHoused o old → IsStill old mid → p ≡ o → n ≡ mid → Readied o p old n
readied {o = o} {old = old} {mid = mid} {n = n} h still same is =
    let shown : net_of o n ≡ net_of o old = ap (net_of o) is ∙ still.shown o in
    let housed : IsHoused o n = subst (IsHoused o) (sym is) (still-housed o old mid h still) in
    subst (λ (x : Pocket). Readied o x old n) (sym same) (record {
      housed = housed;
      shown = shown;
      seed = ap (λ (m : KeptNet). m.table.seed) is ∙ still.seed;
      made = ap (λ (m : Net). m.made) shown;
      budget = λ i. o.budget;
    })

-- what becomes of it became of the old one
pub from_readied : {o p : Pocket} {old n : KeptNet} → Readied o p old n → (f : Net → Net) (c : ℕ) (q : Pocket) (new : KeptNet) →
    Becomes c (f (net_of p n)) p q n new → Becomes c (f (net_of o old)) o q old new
from_readied r f c q new b = record {
  shown = b.shown ∙ ap f r.shown;
  housed = b.housed;
  budget = b.budget ∙ r.budget;
  seed = b.seed ∙ r.seed;
  made = omega (arith, b.made, r.made);
}
