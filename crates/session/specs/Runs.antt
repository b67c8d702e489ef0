-- An experiment whose commands arrive one by one, and what was written of it (our choice).
use Rattle.std.specs.Prelude.{◌≡◌, ℕ, ◌*◌, ◌^◌, ◌≤◌, Bool, true, false, IsSome, None, ◌⊎◌, List, [], ◌∷◌, ◌++◌, flat_map}
use Rattle.std.specs.List.{filter}
use Rattle.emu_model.specs.declared.commands.Timed.{Timed}
use Rattle.emu_model.specs.declared.records.Record.{Record}
use Rattle.packet_store.specs.Pocket.{Pocket}
use Rattle.packet_store.specs.Own.{Own, own_pocket}
use Rattle.experiment.specs.Kept.{KeptExperiment, view, IsHousedIn, IsWaiting, IsAloneAfter, last_moment, shown_ending}
use Rattle.report.specs.Lines.{line_of}
use Rattle.report.specs.Lines as lines
use Rattle.emu_model.specs.Net.{counters_of}
use Rattle.emu_model.specs.Dues.{dues_of, least_due}
use Rattle.emu_model.specs.Step.{State}
use Rattle.experiment.specs.Waits.{IsSettled}
use Rattle.experiment.specs.Written.{Written, Counts}
use Rattle.session.specs.Fates.{concerns}
use Rattle.session.specs.Marking.{Marks}

-- the experiment with its own packets, what was written and not yet passed on, whether all records are written, and which
-- packets were injected
pub record KeptRun : Type 0 where
  pub experiment : KeptExperiment
  pub shelf : Own
  pub report : Written
  pub shows_all : Bool
  pub mine : Marks

-- its steps are within its budget, and no failed allocation has halted it
pub record IsProper (e : KeptExperiment) : Type 0 where
  pub few : e.steps ≤ e.spec.budget.steps
  pub ends : IsSome e.ending → IsSome (shown_ending e.ending)

-- these records were reported, and time has reached `t`; whatever arrives at `t` or later finds the experiment in the state
-- of running it alone
pub record IsAt (t : ℕ) (earlier : List Record) (r : KeptRun) : Type 0 where
  pub housed : IsHousedIn (own_pocket r.shelf) r.experiment
  pub counts : Counts earlier r.report
  pub waits : IsWaiting t earlier (own_pocket r.shelf) r.experiment
  pub latest : last_moment 0 r.experiment.consumed ≤ t
  pub proper : IsProper r.experiment

-- like `IsAt`, right after its commands were processed
pub record IsAfter (earlier : List Record) (r : KeptRun) : Type 0 where
  pub housed : IsHousedIn (own_pocket r.shelf) r.experiment
  pub counts : Counts earlier r.report
  pub alone : IsAloneAfter earlier (own_pocket r.shelf) r.experiment
  pub proper : IsProper r.experiment

-- the records that are written, among these
abbrev pub picked : Bool → Marks → List Record → List Record
picked true mine rs = rs
picked false mine rs = filter (concerns mine) rs

abbrev pub chosen : KeptRun → List Record → List Record
chosen r rs = picked r.shows_all r.mine rs

-- the text that is written for these records
abbrev pub Tells : List Record → KeptRun → KeptRun → Type 0
Tells more old new = new.report.text ≡ old.report.text ++ flat_map line_of (chosen old more)

-- from one time to another: what happened was reported, and no command arrived
pub record Goes (t u : ℕ) (old new : KeptRun) : Type 0 where
  pub spec : new.experiment.spec ≡ old.experiment.spec
  pub consumed : new.experiment.consumed ≡ old.experiment.consumed
  pub shows : new.shows_all ≡ old.shows_all
  pub mine : new.mine ≡ old.mine
  pub tells : (earlier : List Record) → IsAt t earlier old →
      (more : List Record) × IsAt u (earlier ++ more) new × Tells more old new

-- the records were reported, and are discarded
pub record Forgets (old new : KeptRun) : Type 0 where
  pub experiment : new.experiment ≡ record old.experiment { net = record old.experiment.net { log = new.experiment.net.log } }
  pub records : new.experiment.net.log.records ≡ []
  pub shelf : new.shelf ≡ old.shelf
  pub shows : new.shows_all ≡ old.shows_all
  pub mine : new.mine ≡ old.mine
  pub tells : Tells old.experiment.net.log.records old new
  pub counts : (rs : List Record) → Counts rs old.report → Counts (rs ++ old.experiment.net.log.records) new.report
  pub housed : (p : Pocket) → IsHousedIn p old.experiment → IsHousedIn p new.experiment
  pub after : (earlier : List Record) (p : Pocket) → IsAloneAfter earlier p old.experiment →
      IsAloneAfter (earlier ++ old.experiment.net.log.records) p new.experiment
  pub waits : (t : ℕ) (earlier : List Record) (p : Pocket) → IsWaiting t earlier p old.experiment →
      IsWaiting t (earlier ++ old.experiment.net.log.records) p new.experiment

-- a command arrived, and was done or refused; what happened is not reported yet
pub record Takes (c : Timed) (old new : KeptRun) : Type 0 where
  pub spec : new.experiment.spec ≡ old.experiment.spec
  pub consumed : new.experiment.consumed ≡ old.experiment.consumed ++ c ∷ []
  pub shows : new.shows_all ≡ old.shows_all
  pub report : new.report ≡ old.report
  pub after : (t : ℕ) (earlier : List Record) → IsAt t earlier old → t ≤ c.moment → IsAfter earlier new
  pub at : (t : ℕ) (earlier : List Record) → IsAt t earlier old → t ≤ c.moment → new.experiment.ending ≡ None →
      IsAt c.moment earlier new

-- the state that the run shows
abbrev pub state_of : KeptRun → State
state_of r = view (own_pocket r.shelf) r.experiment

-- the line of the counters
abbrev pub closing_of : KeptRun → List ℕ
closing_of r = lines.counters_of (record (counters_of (view (own_pocket r.shelf) r.experiment).net) {
  delivered = r.report.delivered;
  drops = r.report.drops;
})

-- the time of the event that is due first; every event is due before 2 * 10^15 ns
abbrev pub first_moment : KeptRun → ℕ
first_moment r =
    let s : State = state_of r in
    (least_due (2 * 10 ^ 15) (dues_of s.clock s.net)).moment

-- the number of packets that were created
abbrev pub made_of : KeptRun → ℕ
made_of r = (state_of r).net.made

-- nothing is due before a time
abbrev pub IsQuiet : ℕ → KeptRun → Type 0
IsQuiet t r = IsSettled t (state_of r)

-- if no event occurred after which the run continues, it has ended, or time has reached the limit and nothing is due before it
abbrev pub IsQuietAfter : ℕ → (Bool × ℕ) → KeptRun → Type 0
IsQuietAfter limit (true, u) r = Unit {0}
IsQuietAfter limit (false, u) r = IsSome r.experiment.ending ⊎ ((u ≡ limit) × IsQuiet limit r)
