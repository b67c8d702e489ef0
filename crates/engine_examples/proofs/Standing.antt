-- When a net stands at a moment at which an event may come.
use Rattle.std.proofs.Common.{◌≡◌, ℕ, ◌+◌, ◌≤◌, sym, ap, ◌∙◌, [], length, arith}
use Rattle.emu_model.specs.Moments.{IsMoment}
use Rattle.emu_model.specs.declared.sources.Due.{Due}
use Rattle.emu_model.specs.declared.sources.Class.TheVariants.{NextCommand, Exit, Finish, Expiry, Emission}
use Rattle.emu_model.specs.declared.commands.Spec.{Spec}
use Rattle.emu_model.specs.Net.{Net}
use Rattle.emu_model.specs.Step.{setting}
use Rattle.emu_model.specs.Dues.{due}
use Rattle.packet_store.specs.Pocket.{Pocket, empty_pocket}
use Rattle.pipe_core.specs.Uses.{uses, one_at}
use Rattle.pipe_core.proofs.CallerLemmas.{total-nil}
use Rattle.pipe_core.specs.Moves.{found}
use Rattle.network.specs.Kept.{KeptNet, net_keys, IsHoused, Stands}
use Rattle.network.specs.Changes.{IsStill}
use Rattle.network.specs.Due.{IsDue}

pub stands_at : (spec : Spec) (room now : ℕ) (p : Pocket) (n : KeptNet) → (spec.seed ≡ 0) × (spec.budget.packets ≡ room) →
    IsMoment now → room ≤ p.budget → n.table.seed ≡ 0 → IsHoused p n → Stands (setting spec now) p n
stands_at spec room now p n is early fits seed housed = record {
  early = early;
  seed = is.0 ∙ sym seed;
  room = omega (arith, is.1, fits);
  housed = housed;
}

-- nothing is on the shelf, and nothing stands in the net
pub housed_new : (budget : ℕ) (p : Pocket) (n : KeptNet) → p ≡ empty_pocket budget → net_keys n ≡ [] → IsHoused p n
housed_new budget p n is none = record {
  each = λ k. ap (uses k) none ∙ total-nil (one_at k) ∙ sym (ap (λ (q : Pocket). found (q.find k)) is);
  count = ap (λ (q : Pocket). q.count) is ∙ sym (ap length none);
}

-- a command asks nothing of a net
pub next_is_due : (d : Due) (moment : ℕ) (n : KeptNet) → d ≡ due NextCommand 0 moment → IsDue d n
next_is_due d moment n is =
    let f : d.source.class ≡ NextCommand = ap (λ (x : Due). x.source.class) is in
    record {
      finishing = λ c. absurd (let g : NextCommand ≡ Finish = sym f ∙ c in cc);
      leaving = λ c some. absurd (let g : NextCommand ≡ Exit = sym f ∙ c in cc);
      allowed = λ c. absurd (let g : NextCommand ≡ Emission = sym f ∙ c in cc);
      numbered = (λ c. absurd (let g : NextCommand ≡ Expiry = sym f ∙ c in cc), λ c. absurd (let g : NextCommand ≡ Emission = sym f ∙ c in cc));
      piped = (λ c. absurd (let g : NextCommand ≡ Exit = sym f ∙ c in cc), λ c. absurd (let g : NextCommand ≡ Finish = sym f ∙ c in cc));
    }

-- where only room has changed, no packet was made
pub refused_made : (old new : KeptNet) → IsStill old new → new.made ≤ old.made + 1
refused_made old new still =
    let e : new.made ≡ old.made = ap (λ (n : Net). n.made) (still.shown (empty_pocket 0)) in
    omega (arith, e)
