-- Where time stops on its way to a given time (our choice).
use Rattle.std.specs.Prelude.{◌≡◌, ℕ, zero, suc, ◌+◌, min, max, Bool, true, false, IsSome, ◌⊎◌, List, ◌++◌, length, drop, Option, Some, None}
use Rattle.emu_model.specs.declared.records.Record.{Record}
use Rattle.emu_model.specs.declared.records.Ending.{Ending}
use Rattle.emu_model.specs.RunLaws.{with_earlier}
use Rattle.emu_model.specs.Step.{State}
use Rattle.experiment.specs.Waits.{step_before, IsSettled}
use Rattle.packet_store.specs.Own.{own_pocket}
use Rattle.experiment.specs.Kept.{view, shown_ending}
use Rattle.experiment.specs.Written.{Counts}
use Rattle.session.specs.declared.fates.Stop.{Stop}
use Rattle.session.specs.declared.fates.Stop.TheVariants.{Moment}
use Rattle.session.specs.Marking.{Marks}
use Rattle.session.specs.Fates.{first_hold}
use Rattle.session.specs.Runs.{KeptRun, Tells}

-- the injected packets, what stops time, the time reached so far, and the time to reach unless something stops it
pub record Way : Type 0 where
  pub mine : Marks
  pub stop : Stop
  pub reached : ℕ
  pub last : ℕ

-- a record stops time this long after its event, once
abbrev pub held : Option ℕ → ℕ → Way → Way
held None clock w = w
held (Some hold) clock w = record w { stop = Moment; last = min w.last (max w.reached (clock + hold)) }

-- the way after an event that led from one state to another
abbrev pub passed : State → State → Way → Way
passed s t w = held (first_hold w.mine w.stop (drop (length s.net.records) t.net.records)) t.clock (record w { reached = max w.reached (t.clock + 1) })

abbrev pub by_ending : Option Ending → Type 0 → Type 0 → Type 0
by_ending None on over = on
by_ending (Some e) on over = over

-- this many events occur, each the first that is due; then nothing is due before the time to reach, or the last event
-- ended the experiment
abbrev pub Stops : ℕ → Way → State → ℕ → State → Type 0
Stops zero w s u t = (t ≡ s) × (u ≡ w.last) × (IsSome s.ending ⊎ IsSettled w.last s)
Stops (suc n) w s u t =
    by_ending (step_before w.last s).ending
    (Stops n (passed s (step_before w.last s) w) (step_before w.last s) u t)
    ((n ≡ 0) × (t ≡ step_before w.last s) × (u ≡ max w.reached ((step_before w.last s).clock + 1)))

-- the state that is shown, with the records from before
abbrev pub shown_behind : List Record → KeptRun → State
shown_behind earlier r = with_earlier earlier (view (own_pocket r.shelf) r.experiment)

abbrev pub way_of : Marks → Stop → ℕ → ℕ → Way
way_of mine stop reached last = record { mine = mine; stop = stop; reached = reached; last = last }

-- time passes from `from` to at most `limit`, and reaches `u`; these records were reported on the way, and counted
abbrev pub StopsAt : Stop → ℕ → ℕ → ℕ → KeptRun → KeptRun → Type 0
StopsAt stop from limit u old new = (earlier : List Record) → (told : List Record) × Tells told old new
    × (Counts earlier old.report → Counts (earlier ++ told) new.report) × (n : ℕ)
    × Stops n (way_of old.mine stop from limit) (shown_behind earlier old) u (shown_behind (earlier ++ told) new)

-- ---- on the way
-- an event occurred
pub record IsMade (limit : ℕ) (old new : KeptRun) : Type 0 where
  pub stepped : (earlier : List Record) → shown_behind earlier new ≡ step_before limit (shown_behind earlier old)
  pub report : new.report ≡ old.report
  pub shows : new.shows_all ≡ old.shows_all
  pub mine : new.mine ≡ old.mine

-- nothing happened
pub record IsStill (old new : KeptRun) : Type 0 where
  pub stays : (earlier : List Record) → shown_behind earlier new ≡ shown_behind earlier old
  pub report : new.report ≡ old.report

-- an event occurred and the run continues; or none was due, or the run was over; or the event ended the run
abbrev pub IsEvent : ℕ → ℕ → (Bool × ℕ) → KeptRun → KeptRun → Type 0
IsEvent reached limit (true, u) old new = IsMade limit old new × (shown_ending new.experiment.ending ≡ None) × (u ≡ max reached (new.experiment.clock + 1))
IsEvent reached limit (false, u) old new =
    (IsStill old new × (u ≡ limit) × (IsSome (shown_ending old.experiment.ending) ⊎ IsSettled limit (view (own_pocket old.shelf) old.experiment)))
    ⊎ (IsMade limit old new × IsSome (shown_ending new.experiment.ending) × (u ≡ max reached (new.experiment.clock + 1)))

-- records may have been reported and discarded
pub record Keeps (old new : KeptRun) : Type 0 where
  pub told : List Record
  pub tells : Tells told old new
  pub counts : (rs : List Record) → Counts rs old.report → Counts (rs ++ told) new.report
  pub stays : (earlier : List Record) → shown_behind (earlier ++ told) new ≡ shown_behind earlier old
  pub shows : new.shows_all ≡ old.shows_all
  pub mine : new.mine ≡ old.mine
