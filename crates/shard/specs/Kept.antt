-- What holds of a resident or a parcel over its packets.
use Rattle.std.specs.Prelude.{◌≡◌, ℕ, ◌≤◌, ◌<◌, Option, None, [], length, take}
use Rattle.emu_model.specs.declared.commands.Spec.{Spec}
use Rattle.emu_model.specs.Step.{initial_state}
use Rattle.packet_store.specs.Pocket.{Pocket}
use Rattle.packet_store.specs.Pocket.{empty_pocket}
use Rattle.emu_model.specs.declared.sources.Due.{Due}
use Rattle.experiment.specs.Kept.{KeptExperiment, view, IsHousedIn, IsAlone}
use Rattle.experiment.specs.Dues.{next_due_in}
use Rattle.shard.specs.Seen.{Seen}
use Rattle.shard.specs.Stand.{Stand, heard_from}

-- an experiment over its packets, as a contract sees it
abbrev pub stand_of : {M : Type 0} → Pocket → ℕ → KeptExperiment → ℕ → M → Stand M
stand_of p name e published mail = record {
  name = name;
  spec = e.spec;
  consumed = e.consumed;
  state = view p e;
  published = published;
  mail = mail;
}

pub record IsKept {M : Type 0} (seen : M → Seen) (p : Pocket) (e : KeptExperiment) (published : ℕ) (mail : M) : Type 0 where
  pub housed : IsHousedIn p e
  pub budget : p.budget ≡ e.spec.budget.packets
  pub some : 0 < e.spec.budget.packets
  pub alone : IsAlone p e
  pub told : (seen mail).letters ≡ take published e.net.log.records
  pub short : published ≤ length e.net.log.records
  pub heard : e.consumed ≡ heard_from [] (seen mail).given
  pub few : e.steps ≤ e.spec.budget.steps

-- the next event, which does not depend on packets, so any pocket will do
abbrev pub next_kept : KeptExperiment → Option Due
next_kept e = next_due_in (view (empty_pocket 0) e)

-- an experiment that has not ended
pub record IsGoing {M : Type 0} (seen : M → Seen) (p : Pocket) (e : KeptExperiment) (published : ℕ) (mail : M) : Type 0 where
  pub kept : IsKept seen p e published mail
  pub going : e.ending ≡ None

-- an experiment to which no command has come
pub record IsNew (spec : Spec) (e : KeptExperiment) : Type 0 where
  pub shown : (p : Pocket) → view p e ≡ initial_state spec []
  pub alone : (p : Pocket) → IsAlone p e
  pub housed : (budget : ℕ) → spec.budget.packets ≤ budget → IsHousedIn (empty_pocket budget) e
  pub spec_is : e.spec ≡ spec
  pub consumed : e.consumed ≡ []
  pub going : e.ending ≡ None
  pub steps : e.steps ≡ 0
