-- What moves as one shows the experiment with all its records, wherever these are.
use Rattle.std.proofs.Common.{◌≡◌, ℕ, ◌+◌, ◌≤◌, List, [], ◌∷◌, ◌++◌, length, take, None, IsSome, refl, sym, ap, ◌∙◌, subst, arith, append-nil, ⊎_elim}
use Rattle.std.specs.Prelude.{Option, Some, IfSome, Result, Ok, Err, OnOk, OnErr, option_to_list}
use Rattle.std.proofs.lemmas.List.{take-append-le, length-append}
use Rattle.emu_model.specs.declared.records.Record.{Record}
use Rattle.emu_model.specs.declared.commands.Timed.{Timed}
use Rattle.emu_model.specs.declared.sources.Due.{Due}
use Rattle.emu_model.specs.DueLaws.{AreRising, IsAhead, DuesStayAhead}
use Rattle.emu_model.proofs.CallerLemmas.{of_next_event}
use Rattle.emu_model.specs.Alone.{alone}
use Rattle.emu_model.specs.RunLaws.{RecordsGrow, RecordsAreNotRead, IsExtendedBy, with_earlier}
use Rattle.emu_model.specs.Step.{State}
use Rattle.packet_store.specs.Pocket.{Pocket}
use Rattle.experiment.specs.declared.experiment.Event.{Event}
use Rattle.experiment.specs.declared.experiment.Event.TheVariants.{Ran, Ended, Halted, Still}
use Rattle.experiment.specs.Dues.{first_due, next_due_in}
use Rattle.experiment.specs.Kept.{KeptExperiment, view, IsAlone, IsAloneAfter, IsHousedIn, last_moment}
use Rattle.experiment.specs.Moves.{Makes}
use Rattle.shard.specs.Seen.{Seen}
use Rattle.shard.specs.Stand.{heard_from}
use Rattle.shard.specs.Bodies.{Moved, behind}
use Rattle.shard.specs.Kept.{IsKept, IsGoing}

-- its packets are where they were
pub housed_behind : (rs : List Record) (p : Pocket) (e : KeptExperiment) → IsHousedIn p e → IsHousedIn p (behind rs e)
housed_behind rs p e h = record { housed = record { each = h.housed.each; count = h.housed.count }; room = h.room }

pub housed_before : (rs : List Record) (p : Pocket) (e : KeptExperiment) → IsHousedIn p (behind rs e) → IsHousedIn p e
housed_before rs p e h = record { housed = record { each = h.housed.each; count = h.housed.count }; room = h.room }

-- an event, whatever was recorded before
pub makes_behind : RecordsAreNotRead → (rs : List Record) (a : Event) (p q : Pocket) (old new : KeptExperiment) → IsSome old.next → old.ending ≡ None →
    Makes a p old q new → Makes a p (behind rs old) q (behind rs new)
makes_behind law rs Ran p q old new next going m =
    (record { stepped = ap (with_earlier rs) m.0.stepped ∙ sym (law rs (view p old)); counted = m.0.counted; going = going }, m.1)
makes_behind law rs Ended p q old new next going m =
    (record { stepped = ap (with_earlier rs) m.0.stepped ∙ sym (law rs (view p old)); counted = m.0.counted; going = going }, m.1)
makes_behind law rs Halted p q old new next going m = record { shown = ap (with_earlier rs) m.shown; pocket = m.pocket; ending = m.ending }
makes_behind law rs Still p q old new next going m =
    ⊎_elim (λ (e : old.next ≡ None). absurd (cc)) (λ (e : IsSome old.ending). absurd (cc)) m.2

-- what is recorded only grows
pub grown : RecordsGrow → (a : Event) (p q : Pocket) (old new : KeptExperiment) → IsSome old.next → old.ending ≡ None → IsAlone p old → IsAlone q new →
    new.spec ≡ old.spec → new.consumed ≡ old.consumed → Makes a p old q new → IsExtendedBy old.net.log.records new.net.log.records
grown law a p q old new next going was is spec consumed m = by a m
  where
    more : new.steps ≡ old.steps + 1 → IsExtendedBy old.net.log.records new.net.log.records
    more counted =
        let g : IsExtendedBy (alone old.spec old.consumed old.steps).net.records (alone old.spec old.consumed (old.steps + 1)).net.records =
        law old.spec old.consumed old.steps in (
          g.0,
          ap (λ (s : State). s.net.records) (is ∙ (λ i. alone (spec i) (consumed i) (counted i)))
              ∙ g.1
              ∙ ap (λ (s : State). s.net.records ++ g.0) (sym was),
        )

    by : (a : Event) → Makes a p old q new → IsExtendedBy old.net.log.records new.net.log.records
    by Ran m = more m.0.counted
    by Ended m = more m.0.counted
    by Halted m = ([], ap (λ (s : State). s.net.records) m.shown ∙ sym (append-nil old.net.log.records))
    by Still m = ⊎_elim (λ (e : old.next ≡ None). absurd (cc)) (λ (e : IsSome old.ending). absurd (cc)) m.2

pub told_more : (letters old new : List Record) (published : ℕ) → letters ≡ take published old → published ≤ length old → IsExtendedBy old new →
    letters ≡ take published new
told_more letters old new published told short x = told ∙ sym (take-append-le published old x.0 short) ∙ ap (take published) (sym x.1)

pub short_more : (old new : List Record) (published : ℕ) → published ≤ length old → IsExtendedBy old new → published ≤ length new
short_more old new published short x = omega (arith, short, ap length x.1, length-append old x.0)

-- the same with other room for records
abbrev pub with_spare : ℕ → KeptExperiment → KeptExperiment
with_spare n e = record e { net = record e.net { log = record e.net.log { spare = n } } }

-- records are kept elsewhere, in their order
pub moved_over : (rs qs : List Record) (e f : KeptExperiment) → f ≡ record e { net = record e.net { log = f.net.log } } →
    qs ++ f.net.log.records ≡ rs ++ e.net.log.records → behind qs f ≡ with_spare f.net.log.spare (behind rs e)
moved_over rs qs e f rest same =
    ap (λ (x : KeptExperiment). record x { net = record x.net { log = record { records = qs ++ f.net.log.records; spare = f.net.log.spare } } }) rest
    ∙ ap (λ (l : List Record). record e { net = record e.net { log = record { records = l; spare = f.net.log.spare } } }) same

pub makes_spared : (n : ℕ) (a : Event) (p q : Pocket) (old new : KeptExperiment) → IsSome old.next → old.ending ≡ None →
    Makes a p old q new → Makes a p old q (with_spare n new)
makes_spared n Ran p q old new next going m = (record { stepped = m.0.stepped; counted = m.0.counted; going = going }, m.1)
makes_spared n Ended p q old new next going m = (record { stepped = m.0.stepped; counted = m.0.counted; going = going }, m.1)
makes_spared n Halted p q old new next going m = record { shown = m.shown; pocket = m.pocket; ending = m.ending }
makes_spared n Still p q old new next going m =
    ⊎_elim (λ (e : old.next ≡ None). absurd (cc)) (λ (e : IsSome old.ending). absurd (cc)) m.2

pub kept_spared : {M : Type 0} (seen : M → Seen) (n : ℕ) (p : Pocket) (e : KeptExperiment) (published : ℕ) (mail other : M) → seen other ≡ seen mail →
    IsKept seen p e published mail → IsKept seen p (with_spare n e) published other
kept_spared seen n p e published mail other same k = record {
  housed = record { housed = record { each = k.housed.housed.each; count = k.housed.housed.count }; room = k.housed.room };
  budget = k.budget;
  some = k.some;
  alone = k.alone;
  told = ap (λ (x : Seen). x.letters) same ∙ k.told;
  short = k.short;
  heard = k.heard ∙ sym (ap (λ (x : Seen). heard_from [] x.given) same);
  few = k.few;
}

-- the moments of the commands that came don't fall
pub rising_push : (low : ℕ) (cs : List Timed) (c : Timed) → AreRising low cs → last_moment low cs ≤ c.moment → AreRising low (cs ++ c ∷ [])
rising_push low [] c r h = (h, tt)
rising_push low (d ∷ cs) c r h = (r.0, rising_push d.moment cs c r.1 h)

-- what comes next doesn't rest on what was recorded
pub same_due : (rs : List Record) (p : Pocket) (e : KeptExperiment) → next_due_in (view p e) ≡ next_due_in (view p (behind rs e))
same_due rs p e = by e.next
  where
    by : (n : Option Timed) → first_due (option_to_list n) (view p e) ≡ first_due (option_to_list n) (view p (behind rs e))
    by None = refl
    by (Some c) = refl

-- so what comes next isn't below the moment of the last event
pub comes_ahead : DuesStayAhead → (p : Pocket) (e : KeptExperiment) (d : Option Due) → AreRising 0 e.consumed → IsAlone p e → d ≡ next_due_in (view p e) →
    IfSome d (λ x. e.clock ≤ x.moment)
comes_ahead law p e d rising is same =
    subst (λ (o : Option Due). IfSome o (λ x. e.clock ≤ x.moment)) (sym same) (by e.next refl)
  where
    ahead : IsAhead (view p e)
    ahead = subst IsAhead (sym is) (law e.spec e.consumed e.steps rising)

    by : (n : Option Timed) → e.next ≡ n → IfSome (next_due_in (view p e)) (λ x. e.clock ≤ x.moment)
    by None none = subst (λ (n : Option Timed). IfSome (first_due (option_to_list n) (view p e)) (λ x. e.clock ≤ x.moment)) (sym none) tt
    by (Some c) some =
        let first = subst (λ (n : Option Timed). AreRising e.clock (option_to_list n)) some ahead.0 in
        subst (λ (n : Option Timed). IfSome (first_due (option_to_list n) (view p e)) (λ x. e.clock ≤ x.moment)) (sym some)
        (of_next_event (λ (d : Due). e.clock ≤ d.moment) (view p e) c first.0 ahead.1)

pub rising_applied : {E : Type 0} (r : Result (Unit {0}) E) (old new : KeptExperiment) (t : Timed) → AreRising 0 old.consumed →
    OnOk r (new ≡ record old { next = Some t; consumed = old.consumed ++ t ∷ []; spare = new.spare }) →
    OnOk r ((old.ending ≡ None) × (old.next ≡ None) × (last_moment 0 old.consumed ≤ t.moment)) → OnErr r (new ≡ old) → AreRising 0 new.consumed
rising_applied (Ok _) old new t rising ok free err =
    subst (AreRising 0) (sym (ap (λ (e : KeptExperiment). e.consumed) ok)) (rising_push 0 old.consumed t rising free.2)
rising_applied (Err _) old new t rising ok free err = subst (AreRising 0) (sym (ap (λ (e : KeptExperiment). e.consumed) err)) rising

-- an event of an experiment with records before its own
pub record Stepped (rs : List Record) (a : Event) (p q : Pocket) (old new : KeptExperiment) : Type 0 where
  pub makes : Makes a p (behind rs old) q (behind rs new)
  pub grows : IsExtendedBy (rs ++ old.net.log.records) (rs ++ new.net.log.records)

pub stepped : RecordsGrow → RecordsAreNotRead → {M : Type 0} (seen : M → Seen) (rs : List Record) (a : Event) (p q : Pocket) (old new : KeptExperiment) (published : ℕ) (mail : M) →
    IsGoing seen p (behind rs old) published mail → IsSome old.next → Makes a p old q new → (IsAloneAfter rs p old → IsAloneAfter rs q new) →
    new.spec ≡ old.spec → new.consumed ≡ old.consumed → Stepped rs a p q old new
stepped grow read seen rs a p q old new published mail g next m after spec consumed =
    let makes : Makes a p (behind rs old) q (behind rs new) = makes_behind read rs a p q old new next g.going m in
    record {
      makes = makes;
      grows = grown grow a p q (behind rs old) (behind rs new) next g.going g.kept.alone (after g.kept.alone) spec consumed makes;
    }

-- records were published, room was made, and a command was taken out
pub taken_out : {M : Type 0} (v b c d : Moved M) → b ≡ record v { mail = b.mail; published = b.published } →
    c ≡ record b { experiment = record b.experiment { spare = c.experiment.spare } } → d ≡ record c { mail = d.mail } →
    d ≡ record v { experiment = record v.experiment { spare = c.experiment.spare }; mail = d.mail; published = b.published }
taken_out v b c d first second third =
    third ∙ ap (λ (x : Moved _). record x { mail = d.mail }) second
    ∙ ap (λ (x : Moved _). record x { experiment = record x.experiment { spare = c.experiment.spare }; mail = d.mail }) first
