-- A shelf beside a pipe whose keys it names.
use Rattle.std.proofs.Common.{◌≡◌, ℕ, List, [], ◌∷◌, None, ap, ◌∙◌, sym, subst, arith}
use Rattle.emu_model.specs.declared.packets.Packet.{Packet}
use Rattle.packet_store.specs.Pocket.{Pocket, empty_pocket, with_packet}
use Rattle.pipe_core.proofs.CallerLemmas.{total-nil}
use Rattle.pipe_core.specs.Uses.{one_at}
use Rattle.pipe_core.specs.declared.slot.Slot.{Slot}
use Rattle.pipe_core.specs.Moves.{AreNamed, Keeps}
use Rattle.pipe_core.specs.Keyed.{keys_of}
use Rattle.pipe_core.proofs.CallerLemmas.{AreNamed-given, AreNamed-kept, Gives-put, keys_of-nil}

pub bench_new : (p : Pocket) (slots : List Slot) (budget : ℕ) → p ≡ empty_pocket budget → slots ≡ [] →
    AreNamed p (keys_of slots) × (p.budget ≡ budget)
bench_new p slots budget e none =
    let named : AreNamed p [] = record { each = λ k. omega (arith, total-nil (one_at k)); within = omega arith } in (
      subst (AreNamed p) (sym (ap keys_of none ∙ keys_of-nil)) named,
      ap (λ (q : Pocket). q.budget) e,
    )

pub bench_moves : (p q : Pocket) (old new : List ℕ) (budget : ℕ) → AreNamed p old × (p.budget ≡ budget) → Keeps p q old new →
    AreNamed q new × (q.budget ≡ budget)
bench_moves p q old new budget n k = (AreNamed-kept p q old new n.0 k, k.budget ∙ n.1)

-- a packet that was put is named
pub bench_put : (p q : Pocket) (key : ℕ) (packet : Packet) → p.find key ≡ None → q ≡ with_packet p key packet → AreNamed q (key ∷ [])
bench_put p q key packet none put = AreNamed-given p q (key ∷ []) (Gives-put p q key packet none put)

-- neither pocket nor keys have changed
pub bench_stays : (p q : Pocket) (old new : List ℕ) (budget : ℕ) → AreNamed p old × (p.budget ≡ budget) → q ≡ p → new ≡ old →
    AreNamed q new × (q.budget ≡ budget)
bench_stays p q old new budget n same keys =
    (subst (λ (r : Pocket). AreNamed r new) (sym same) (subst (AreNamed p) (sym keys) n.0), ap (λ (r : Pocket). r.budget) same ∙ n.1)
