-- What an experiment shows is the state of the experiment by itself.
use Rattle.std.proofs.Common.{◌≡◌, ℕ, ◌+◌, sym, subst, ap, ◌∙◌, List, [], ◌∷◌, ◌++◌, Some, None, add-one}
use Rattle.std.specs.Prelude.{option_to_list, is_some, if◌then◌else◌}
use Rattle.std.specs.List.{best_of}
use Rattle.std.proofs.lemmas.List.{append-nil}
use Rattle.emu_model.specs.declared.commands.Timed.{Timed}
use Rattle.emu_model.specs.declared.records.Record.{Record}
use Rattle.emu_model.specs.declared.sources.Due.{Due}
use Rattle.emu_model.specs.declared.sources.Class.TheVariants.{NextCommand}
use Rattle.emu_model.specs.Dues.{due, is_before, dues_of}
use Rattle.emu_model.specs.Step.{State, step, step_with, next_event}
use Rattle.emu_model.specs.Alone.{alone}
use Rattle.emu_model.specs.RunLaws.{LaterCommandsWait, RecordsGrow, RecordsAreNotRead, IsExtendedBy, with_more, with_earlier}
use Rattle.packet_store.specs.Pocket.{Pocket}
use Rattle.network.specs.Kept.{KeptNet, net_of}
use Rattle.experiment.specs.Kept.{KeptExperiment, view, IsAlone, IsAloneAfter, shown_ending}
use Rattle.experiment.specs.Moves.{Steps}

-- a command that came behind all others waits
pub alone-applied : LaterCommandsWait → (p : Pocket) (e : KeptExperiment) (c : Timed) (spare : ℕ) → e.next ≡ None → IsAlone p e →
    IsAlone p (record e { next = Some c; consumed = e.consumed ++ c ∷ []; spare = spare })
alone-applied law p e c spare none is =
    (λ i. record (view p e) { left = option_to_list (sym none i) ++ c ∷ [] })
    ∙ ap (with_more (c ∷ [])) is
    ∙ sym (law e.spec e.consumed (c ∷ []) e.steps (sym (ap (λ (s : State). s.steps) is)))

-- the step of what was due first, beside the next command, whose due is `first`
pub steps_of : (p q : Pocket) (old new e : KeptExperiment) (c : Timed) (d first : Due) (n : KeptNet) → e ≡ old → n ≡ e.net →
    d ≡ best_of is_before first (dues_of e.clock (net_of p e.net)) → first ≡ due NextCommand 0 c.moment →
    Steps d c p (record e { net = n }) q new → Steps (next_event (view p old) c) c p old q new
steps_of p q old new e c d first n is same least at s =
    subst (λ (x : Due). Steps x c p old q new)
    (least ∙ ap (λ (z : KeptExperiment). best_of is_before first (dues_of z.clock (net_of p z.net))) is
    ∙ ap (λ b. best_of is_before b (dues_of old.clock (net_of p old.net))) at)
    (subst (λ (z : KeptExperiment). Steps d c p z q new) (ap (λ m. record e { net = m }) same ∙ is) s)

-- a step, the next command being known
pub alone_counted : (p q : Pocket) (old new : KeptExperiment) (c : Timed) → Steps (next_event (view p old) c) c p old q new →
    old.next ≡ Some c → old.ending ≡ None → new.spec ≡ old.spec → new.consumed ≡ old.consumed → IsAlone p old → IsAlone q new
alone_counted p q old new c s next going spec consumed is =
    let stepped : view q new ≡ step (view p old) =
    s.stepped
    ∙ sym (λ i. if is_some (shown_ending (going i)) then view p old else step_with (option_to_list (next i)) (view p old)) in
    stepped ∙ ap step is
    ∙ sym (λ i. alone (spec i) (consumed i) ((s.counted ∙ add-one old.steps) i))

-- the same where what was recorded before was forgotten
pub after-applied : LaterCommandsWait → (rs : List Record) (p : Pocket) (e : KeptExperiment) (c : Timed) (spare : ℕ) →
    e.next ≡ None → IsAloneAfter rs p e →
    IsAloneAfter rs p (record e { next = Some c; consumed = e.consumed ++ c ∷ []; spare = spare })
after-applied law rs p e c spare none is =
    (λ i. with_earlier rs (record (view p e) { left = option_to_list (sym none i) ++ c ∷ [] }))
    ∙ ap (with_more (c ∷ [])) is
    ∙ sym (law e.spec e.consumed (c ∷ []) e.steps (sym (ap (λ (s : State). s.steps) is)))

pub after_counted : RecordsAreNotRead → (rs : List Record) (p q : Pocket) (old new : KeptExperiment) (c : Timed) →
    Steps (next_event (view p old) c) c p old q new → old.next ≡ Some c → old.ending ≡ None → new.spec ≡ old.spec →
    new.consumed ≡ old.consumed → IsAloneAfter rs p old → IsAloneAfter rs q new
after_counted law rs p q old new c s next going spec consumed is =
    let stepped : view q new ≡ step (view p old) =
    s.stepped
    ∙ sym (λ i. if is_some (shown_ending (going i)) then view p old else step_with (option_to_list (next i)) (view p old)) in
    ap (with_earlier rs) stepped
    ∙ sym (law rs (view p old))
    ∙ ap step is
    ∙ sym (λ i. alone (spec i) (consumed i) ((s.counted ∙ add-one old.steps) i))

-- the records are forgotten, and stand before those to come
pub after_forgotten : (rs : List Record) (p : Pocket) (old new : KeptExperiment) →
    new ≡ record old { net = record old.net { log = new.net.log } } → new.net.log.records ≡ [] →
    IsAloneAfter rs p old → IsAloneAfter (rs ++ old.net.log.records) p new
after_forgotten rs p old new rest none is =
    let all : List Record = rs ++ old.net.log.records in
    let kept : view p new ≡ record (view p old) { net = record (view p old).net { records = new.net.log.records } } =
    ap (view p) rest in
    ap (with_earlier all) kept
    ∙ ap (λ qs. record (view p old) { net = record (view p old).net { records = all ++ qs } }) none
    ∙ ap (λ qs. record (view p old) { net = record (view p old).net { records = qs } }) (append-nil all)
    ∙ is
    ∙ sym (λ i. alone (rest i).spec (rest i).consumed (rest i).steps)

-- one step more of the same experiment has the records of before in front
pub alone_grows : RecordsGrow → (p q : Pocket) (old new : KeptExperiment) → IsAlone p old → IsAlone q new →
    new.spec ≡ old.spec → new.consumed ≡ old.consumed → new.steps ≡ old.steps + 1 →
    (more : List Record) × (new.net.log.records ≡ old.net.log.records ++ more)
alone_grows law p q old new was is spec consumed steps =
    let grown : IsExtendedBy (alone old.spec old.consumed old.steps).net.records (alone old.spec old.consumed (old.steps + 1)).net.records =
    law old.spec old.consumed old.steps in (
      grown.0,
      ap (λ (s : State). s.net.records) (is ∙ (λ i. alone (spec i) (consumed i) (steps i)))
          ∙ grown.1
          ∙ ap (λ (s : State). s.net.records ++ grown.0) (sym was),
    )

-- where no step was made, none came
pub no_more : (old new : List Record) → new ≡ old → (more : List Record) × (new ≡ old ++ more)
no_more old new same = ([], same ∙ sym (append-nil old))
