-- What a step has recorded so far, of each of which this is so, and where the step stands.
use Rattle.std.proofs.Common.{◌≡◌, List, [], ◌++◌, sym, ◌∙◌, ap, append_assoc, append-nil}
use Rattle.std.specs.List.{AllByRecursion}
use Rattle.emu_laws.proofs.Types.{Record}
use Rattle.emu_model.specs.Net.{Net}
use Rattle.emu_model.specs.Step.{State, step}
use Rattle.emu_laws.specs.StepPackets.{IsNext}
use Rattle.emu_laws.proofs.EachOf.{each_joined}
use Rattle.emu_laws.proofs.EachRecord.{Phase, starting, ended, Tells, one_step}

-- m is the net before the step, n the one in it
pub record Follows (R : Record → Type 0) (Place : Phase → Net → Type 0) (m : Net) (o : Phase) (n : Net) : Type 0 where
  pub more : List Record
  pub grows : n.records ≡ m.records ++ more
  pub each : AllByRecursion R more
  pub place : Place o n

module _ (R : Record → Type 0) (Place : Phase → Net → Type 0) (m : Net) where
  -- more was recorded
  pub noted : (rs : List Record) (o j : Phase) (n k : Net) → k.records ≡ n.records ++ rs → AllByRecursion R rs →
      Place j k → Follows R Place m o n → Follows R Place m j k
  noted rs o j n k e so place h = record {
    more = h.more ++ rs;
    grows = e ∙ ap (λ xs. xs ++ rs) h.grows ∙ append_assoc m.records h.more rs;
    each = each_joined R h.more rs h.each so;
    place = place;
  }

  -- nothing was
  pub unnoted : (o j : Phase) (n k : Net) → k.records ≡ n.records → Place j k → Follows R Place m o n →
      Follows R Place m j k
  unnoted o j n k e place h = record { more = h.more; grows = e ∙ h.grows; each = h.each; place = place }

-- so it is of a whole step
pub whole_step : (R : Record → Type 0) (Place : Phase → Net → Type 0) (s : State) →
    Tells s.spec.seed s.spec.budget.packets (λ c. IsNext c s) (Follows R Place s.net) → Place starting s.net →
    Follows R Place s.net ended (step s).net
whole_step R Place s tells place =
    one_step s (Follows R Place s.net) tells
    (record { more = []; grows = sym (append-nil s.net.records); each = tt; place = place })
