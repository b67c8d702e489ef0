-- Lemmas for callers: one turn is many turns of which no further ones were asked for.
use Rattle.std.proofs.Common.{◌≡◌, ℕ, zero, suc, ap, ◌∙◌, arith, subst}
use Rattle.std.specs.Prelude.{Bool}
use Rattle.shard.specs.Seen.{Seen, IsToldMore}
use Rattle.shard.specs.declared.shard.Turned.{Turned}
use Rattle.shard.specs.declared.shard.Turned.TheVariants.{Ran, Ended, Idle}
use Rattle.shard.specs.Stand.{Stand, Seating, Final}
use Rattle.shard.specs.Turns.{IsTurn, IsEnd, AreTurns, TurnsFirst, TurnsSettled, ManyTurns, ManyTurnsSettled}

module _ {M : Type 0} (seen : M → Seen) where
  pub told_trans : (a b c : M) → IsToldMore seen a b → IsToldMore seen b c → IsToldMore seen a c
  told_trans a b c g h = h ∙ ap (λ (x : Seen). record x { letters = (seen c).letters; full = (seen c).full }) g

  -- turns leave the name
  pub turns_name : (n : ℕ) (s t : Stand M) → AreTurns seen n s t → t.name ≡ s.name
  turns_name zero s t h = ap (λ (x : Stand M). x.name) h
  turns_name (suc n) s u h = h.2.name ∙ turns_name n s h.0 h.1

  -- one turn, where no further ones were asked for
  turn_of : (n : ℕ) (s t : Stand M) → n ≡ 1 → AreTurns seen n s t → IsTurn seen s t
  turn_of zero s t e h = absurd (omega (arith, e))
  turn_of (suc zero) s t e h = subst (λ u. IsTurn seen u t) h.1 h.2
  turn_of (suc (suc n)) s t e h = absurd (omega (arith, e))

  end_of : (n : ℕ) (s t : Stand M) (d : Final M) → n ≡ 0 → AreTurns seen n s t → IsEnd seen t d → IsEnd seen s d
  end_of zero s t d e h end = subst (λ u. IsEnd seen u d) h end
  end_of (suc n) s t d e h end = absurd (omega (arith, e))

  single : (a : Turned M) (may_refuse : Bool) (n : ℕ) (old new : Seating M) → ManyTurns seen may_refuse 0 n a old new → TurnsFirst seen a old new
  single (Ran name) may_refuse n old new h =
      let r = h.2.4 in (
        h.2.0,
        h.2.1,
        h.2.2,
        record { was = r.was; name_is = r.name_is; ready = r.ready; turn = turn_of n _ _ (omega (arith, h.0, h.1)) r.turns; entered = r.entered; others = r.others },
        r.first,
      )
  single (Ended d) may_refuse n old new h =
      let r = h.1.3 in (
        h.1.0,
        h.1.1,
        record { was = r.was; ready = r.ready; end = end_of n _ _ d (omega (arith, h.0)) r.turns r.end; others = r.others },
        r.first,
      )
  single Idle may_refuse n old new h = (h.1, h.2)

  pub single_settled : (a : Turned M) (may_refuse : Bool) (n : ℕ) (old new : Seating M) → ManyTurnsSettled seen may_refuse 0 n a old new → TurnsSettled seen a old new
  single_settled a may_refuse n old new h = (h.0, h.1, single a may_refuse n h.0 new h.2)
