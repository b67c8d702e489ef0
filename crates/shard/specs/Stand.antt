-- A contract's view of a resident or a parcel: no keys, no owner, no entry of an agenda.
use Rattle.std.specs.Prelude.{◌≡◌, ℕ, ◌≤◌, List, [], ◌∷◌, ◌++◌, length, take, map, Option, Some, None, option_map, if◌then◌else◌, nat_lt, slice_index_or}
use Rattle.emu_model.specs.declared.commands.Spec.{Spec}
use Rattle.emu_model.specs.declared.commands.Timed.{Timed}
use Rattle.emu_model.specs.declared.records.Record.{Record}
use Rattle.emu_model.specs.declared.records.Ending.{Ending}
use Rattle.emu_model.specs.declared.records.Counters.{Counters}
use Rattle.emu_model.specs.Net.{counters_of}
use Rattle.emu_model.specs.Step.{State, initial_state}
use Rattle.emu_model.specs.Alone.{alone}
use Rattle.experiment.specs.Kept.{last_moment, shown_ending}
use Rattle.shard.specs.Seen.{Seen}

-- a resident or a parcel: its name, its spec, the commands that have come, the state that it shows, the
-- number of published records, and its mail
pub record Stand (M : Type 0) : Type 0 where
  pub name : ℕ
  pub spec : Spec
  pub consumed : List Timed
  pub state : State
  pub published : ℕ
  pub mail : M

-- a resident, and the offset of its entry in the agenda; a resident without an offset is parked
pub record Seat (M : Type 0) : Type 0 where
  pub stand : Stand M
  pub offset : Option ℕ

-- an experiment that has ended or was halted
pub record Final (M : Type 0) : Type 0 where
  pub name : ℕ
  pub spec : Spec
  pub commands : List Timed
  pub records : List Record
  pub counters : Counters
  pub ending : Ending
  pub events : ℕ
  pub mail : M

-- the residents of a shard by slot, and the clock of its agenda
pub record Seating (M : Type 0) : Type 0 where
  pub seats : List (Option (Seat M))
  pub clock : ℕ

-- the commands consumed out of those delivered: a command whose time is before that of the last one is not consumed
abbrev pub heard_from : List Timed → List Timed → List Timed
heard_from consumed [] = consumed
heard_from consumed (t ∷ ts) =
    heard_from (if nat_lt t.moment (last_moment 0 consumed) then consumed else consumed ++ t ∷ []) ts

module _ {M : Type 0} where
  abbrev pub seat_at : List (Option (Seat M)) → ℕ → Option (Seat M)
  seat_at seats slot = slice_index_or seats slot None

  -- the resident of each slot, without the offset of its entry
  abbrev pub stand_in : Option (Seat M) → Option (Stand M)
  stand_in o = option_map (λ s. s.stand) o

  abbrev pub stands_of : List (Option (Seat M)) → List (Option (Stand M))
  stands_of seats = map stand_in seats

  -- it shows the state of running it alone on the commands that have come; its mail has delivered these commands, and has
  -- accepted the first records
  pub record IsTold (seen : M → Seen) (s : Stand M) : Type 0 where
    pub shown : s.state ≡ alone s.spec s.consumed s.state.steps
    pub told : (seen s.mail).letters ≡ take s.published s.state.net.records
    pub short : s.published ≤ length s.state.net.records
    pub heard : s.consumed ≡ heard_from [] (seen s.mail).given
    pub few : s.state.steps ≤ s.spec.budget.steps

  -- the dossier of an ended experiment: its records and counters are those of running it alone
  pub record IsFinal (seen : M → Seen) (d : Final M) (published : ℕ) : Type 0 where
    pub records : d.records ≡ (alone d.spec d.commands d.events).net.records
    pub counters : d.counters ≡ counters_of (alone d.spec d.commands d.events).net
    pub ending : shown_ending (Some d.ending) ≡ (alone d.spec d.commands d.events).ending
    pub told : (seen d.mail).letters ≡ take published d.records
    pub short : published ≤ length d.records
    pub heard : d.commands ≡ heard_from [] (seen d.mail).given
    pub few : d.events ≤ d.spec.budget.steps
    pub made : (alone d.spec d.commands d.events).steps ≡ d.events

-- an experiment to which no command has come
abbrev pub opened_stand : {M : Type 0} → ℕ → Spec → M → Stand M
opened_stand name spec mail = record {
  name = name;
  spec = spec;
  consumed = [];
  state = initial_state spec [];
  published = 0;
  mail = mail;
}
