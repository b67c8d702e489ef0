-- The effect of a step on a resident.
use Rattle.std.specs.Prelude.{◌≡◌, ℕ, ◌+◌, ◌^◌, ◌<◌, ◌≤◌, Bool, Some, IsSome, IfSome}
use Rattle.emu_model.specs.Moments.{end_of_time}
use Rattle.emu_model.specs.declared.records.Ending.{Ending}
use Rattle.emu_model.specs.declared.sources.Source.{Source}
use Rattle.packet_store.specs.Pocket.{Pocket}
use Rattle.timer_wheel.specs.Rows.{Row}
use Rattle.experiment.specs.declared.experiment.Event.{Event}
use Rattle.experiment.specs.declared.experiment.Event.TheVariants.{Ran, Ended, Halted, Still}
use Rattle.experiment.specs.Kept.{view}
use Rattle.shard.specs.Seen.{Seen, IsToldMore, IsPublished}
use Rattle.shard.specs.Bodies.{Residence as Resident}
use Rattle.shard.specs.Entries.{entries_of, row_at}
use Rattle.shard.specs.Kept.{IsKept, IsGoing, next_kept}
use Rattle.shard.specs.Seats.{standing, IsSeated}
use Rattle.shard.specs.Turns.{IsTurn, AreTurns, Heard, SaidYes, LeavesOff, last_state}

-- the watcher has returned true for this many turns, except perhaps for the last one if the resident continues
abbrev pub HeardAt : {W : Type 0} → (ℕ → Bool → W → W → Type 0) → Event → ℕ → ℕ → W → W → Type 0
HeardAt {W} hears Ran name n v w = Heard hears name n v w
HeardAt {W} hears Ended name n v w = SaidYes hears name n v w
HeardAt {W} hears Halted name n v w = SaidYes hears name n v w
HeardAt {W} hears Still name n v w = SaidYes hears name n v w

module _ {M : Type 0} where
  -- a resident whose entry is the first of the agenda
  pub record IsLeast (seen : M → Seen) (p : Pocket) (row : Row) (clock : ℕ) (r : Resident M) : Type 0 where
    pub going : IsGoing seen p r.experiment r.published r.mail
    pub next : IsSome r.experiment.next
    pub entries : (s : Source) → row s ≡ entries_of r.offset (next_kept r.experiment) s
    pub ready : IsSome r.offset
    pub late : IfSome r.offset (λ o. o ≤ clock)
    pub early : clock < 2 ^ 62 + end_of_time

  -- a resident that has made a step, and whose entry is still the one from before the step
  pub record IsStale (seen : M → Seen) (p : Pocket) (row : Row) (clock : ℕ) (r : Resident M) : Type 0 where
    pub going : IsGoing seen p r.experiment r.published r.mail
    pub was : ℕ
    pub entries : (s : Source) → row s ≡ row_at was s
    pub ready : IsSome r.offset
    pub late : IfSome r.offset (λ o. o ≤ clock)
    pub early : clock < 2 ^ 62 + end_of_time

  -- a resident whose experiment has ended
  pub record IsLeaving (seen : M → Seen) (p q : Pocket) (ending : Ending) (old new : Resident M) : Type 0 where
    pub kept : IsKept seen q new.experiment new.published new.mail
    pub name : new.name ≡ old.name
    pub owner : new.owner ≡ old.owner
    pub spec : new.experiment.spec ≡ old.experiment.spec
    pub consumed : new.experiment.consumed ≡ old.experiment.consumed
    pub state : view q new.experiment ≡ last_state ending (view p old.experiment)
    pub ending_is : new.experiment.ending ≡ Some ending
    pub mail : IsToldMore seen old.mail new.mail
    pub published : IsPublished seen new.experiment.net.log.records new.mail

  -- a step, which leaves the entry unchanged
  abbrev pub Advances : (M → Seen) → Event → Pocket → Resident M → Pocket → Resident M → Type 0
  Advances seen Ran p old q new =
      IsGoing seen q new.experiment new.published new.mail × IsTurn seen (standing p old) (standing q new)
  Advances seen Ended p old q new = (e : Ending) × IsLeaving seen p q e old new
  Advances seen Halted p old q new = (e : Ending) × IsLeaving seen p q e old new
  Advances seen Still p old q new = ⊥

  -- it made n turns and is still a resident; `more` turns after the first were requested
  pub record HasStayed (seen : M → Seen) (may_refuse : Bool) (more n : ℕ) (p : Pocket) (old : Resident M) (q : Pocket) (new : Resident M) : Type 0 where
    pub some : 1 ≤ n
    pub few : n ≤ more + 1
    pub left_off : LeavesOff may_refuse more n (standing q new)
    pub turns : AreTurns seen n (standing p old) (standing q new)

  -- it made n turns, after which it was `last`, and ended in the next turn
  pub record HasLeft (seen : M → Seen) (more n : ℕ) (p : Pocket) (old : Resident M) (q : Pocket) (new : Resident M) : Type 0 where
    pub few : n ≤ more
    pub pocket : Pocket
    pub last : Resident M
    pub owner : last.owner ≡ old.owner
    pub turns : AreTurns seen n (standing p old) (standing pocket last)
    pub ending : Ending
    pub leaving : IsLeaving seen pocket q ending last new

  -- many turns, which leave the entry unchanged
  abbrev pub RunsOn : (M → Seen) → Bool → ℕ → ℕ → Event → Pocket → Resident M → Pocket → Resident M → Type 0
  RunsOn seen may_refuse more n Ran p old q new =
      HasStayed seen may_refuse more n p old q new × IsGoing seen q new.experiment new.published new.mail
  RunsOn seen may_refuse more n Ended p old q new = HasLeft seen more n p old q new
  RunsOn seen may_refuse more n Halted p old q new = HasLeft seen more n p old q new
  RunsOn seen may_refuse more n Still p old q new = ⊥

  -- many turns, after which the entry is that of the next event; there is an entry if there is a next command
  abbrev pub Runs : (M → Seen) → Bool → ℕ → ℕ → Event → Pocket → Resident M → Pocket → Row → ℕ → Resident M → Type 0
  Runs seen may_refuse more n Ran p old q row clock new =
      HasStayed seen may_refuse more n p old q new × IsSeated seen q row clock new × (new.owner ≡ old.owner)
      × (IsSome new.experiment.next → IsSome new.offset)
  Runs seen may_refuse more n Ended p old q row clock new = HasLeft seen more n p old q new
  Runs seen may_refuse more n Halted p old q row clock new = HasLeft seen more n p old q new
  Runs seen may_refuse more n Still p old q row clock new = ⊥
