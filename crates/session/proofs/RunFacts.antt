-- What was told of an experiment whose commands come one by one.
use Rattle.std.proofs.Common.{◌≡◌, ℕ, ◌≤◌, Bool, true, false, length, List, [], ◌∷◌, ◌++◌, Option, Some, None, ◌⊎◌, inl, inr, refl, sym, ap, ◌∙◌, subst, append_assoc, append-nil, arith}
use Rattle.std.specs.Prelude.{flat_map, IfSome, is_some, option_map, option_to_list, get_or, slice_get, ltb}
use Rattle.std.proofs.lemmas.Bool.{ltb-true, ltb-false}
use Rattle.std.proofs.lemmas.Option.{slice_get_past, slice_get_read}
use Rattle.std.proofs.lemmas.List.Concat.{flat_map-append}
use Rattle.std.proofs.lemmas.List.Elements.{filter-append}
use Rattle.emu_model.specs.declared.commands.Timed.{Timed}
use Rattle.emu_model.specs.declared.records.Record.{Record}
use Rattle.emu_model.specs.declared.records.Ending.{Ending}
use Rattle.emu_model.specs.Step.{State, step}
use Rattle.emu_model.specs.RunLaws.{PacketsAddUp, RecordsAreNotRead, with_earlier, with_more}
use Rattle.experiment.specs.Waits.{IsAloneUntil, WaitsBegin, CommandsGoOn, GoesOn, IsSettled}
use Rattle.packet_store.specs.Pocket.{Pocket}
use Rattle.packet_store.specs.Own.{Own, own_pocket}
use Rattle.experiment.specs.Kept.{KeptExperiment, view, IsHousedIn, IsWaiting, IsAloneAfter, last_moment}
use Rattle.report.specs.Lines.{line_of}
use Rattle.experiment.specs.Written.{Written, Counts, CanWrite}
use Rattle.experiment.proofs.CallerLemmas.{adds_alone, adds_waiting}
use Rattle.std.specs.Prelude.{IsSome}
use Rattle.experiment.specs.Kept.{shown_ending}
use Rattle.experiment.specs.Moves.{Passes}
use Rattle.experiment.specs.declared.experiment.Event.{Event}
use Rattle.experiment.specs.declared.experiment.Event.TheVariants as events
use Rattle.session.specs.Marking.{Marks}
use Rattle.session.specs.Fates.{concerns, first_hold}
use Rattle.session.specs.declared.fates.Stop.{Stop}
use Rattle.session.specs.declared.fates.Stop.TheVariants.{Moment}
use Rattle.session.specs.Runs.{KeptRun, IsProper, IsAt, IsAfter, IsQuiet, IsQuietAfter, state_of, Goes, Takes, Tells, Forgets, picked, chosen}

-- ---- what is written of records
picked-both : (all : Bool) (mine : Marks) (rs more : List Record) → picked all mine (rs ++ more) ≡ picked all mine rs ++ picked all mine more
picked-both true mine rs more = refl
picked-both false mine rs more = filter-append (concerns mine) rs more

pub picked-none : (all : Bool) (mine : Marks) → picked all mine [] ≡ []
picked-none true mine = refl
picked-none false mine = refl

picked-same : (a b : KeptRun) (rs : List Record) → a.shows_all ≡ b.shows_all → a.mine ≡ b.mine → chosen a rs ≡ chosen b rs
picked-same a b rs shows mine = ap (λ all. picked all a.mine rs) shows ∙ ap (λ (m : Marks). picked b.shows_all m rs) mine

-- all are, where all are shown
pub tells-all : (old new : KeptRun) (rs : List Record) → old.shows_all ≡ true → Tells rs old new → new.report.text ≡ old.report.text ++ flat_map line_of rs
tells-all old new rs shows tells = tells ∙ ap (λ all. old.report.text ++ flat_map line_of (picked all old.mine rs)) shows

pub tells-none : (old new : KeptRun) → new.report.text ≡ old.report.text → Tells [] old new
tells-none old new same =
    same ∙ sym (append-nil old.report.text) ∙ ap (λ (rs : List Record). old.report.text ++ flat_map line_of rs) (sym (picked-none old.shows_all old.mine))

pub tells-both : (was old new : KeptRun) (more rs : List Record) → Tells more was old → Tells rs old new → old.shows_all ≡ was.shows_all → old.mine ≡ was.mine → Tells (more ++ rs) was new
tells-both was old new more rs first then shows mine =
    then ∙ ap (λ (l : List ℕ). l ++ flat_map line_of (chosen old rs)) first
    ∙ append_assoc was.report.text (flat_map line_of (chosen was more)) (flat_map line_of (chosen old rs))
    ∙ ap (λ (l : List Record). was.report.text ++ (flat_map line_of (chosen was more) ++ flat_map line_of l)) (picked-same old was rs shows mine)
    ∙ ap (λ (l : List ℕ). was.report.text ++ l)
    (sym (ap (flat_map line_of) (picked-both was.shows_all was.mine more rs) ∙ flat_map-append line_of (chosen was more) (chosen was rs)))

-- ---- what is due
pub quiet-forgets : (t : ℕ) (old new : KeptRun) → Forgets old new → IsQuiet t old → IsQuiet t new
quiet-forgets t old new f h =
    subst (λ (s : Own). IsQuiet t (record new { shelf = s })) (sym f.shelf)
    (subst (λ (e : KeptExperiment). IsQuiet t (record new { shelf = old.shelf; experiment = e })) (sym f.experiment) h)

-- one that goes on wasn't halted
pub not_ended : (e : KeptExperiment) → e.ending ≡ None → IsSome e.ending → IsSome (shown_ending e.ending)
not_ended e none = subst (λ o. IsSome o → IsSome (shown_ending o)) (sym none) (λ x. x)

abbrev pub IsNoHalt : Event → Type 0
IsNoHalt events.Halted = ⊥
IsNoHalt _ = Unit {0}

pub proper-passed : (t : ℕ) (e : Event) (p q : Pocket) (old new : KeptExperiment) → IsNoHalt e → Passes t e p old q new →
    new.steps ≤ new.spec.budget.steps → IsProper old → IsProper new
proper-passed t events.Ran p q old new well h few was = record { few = few; ends = not_ended new h.1 }
proper-passed t events.Ended p q old new well h few was = record { few = few; ends = λ some. h.1 }
proper-passed t events.Halted p q old new well h few was = absurd well
proper-passed t events.Still p q old new well h few was = subst IsProper (sym h.0) was

pub proper-forgets : (old new : KeptRun) → Forgets old new → IsProper old.experiment → IsProper new.experiment
proper-forgets old new f h = subst IsProper (sym f.experiment) (record { few = h.few; ends = h.ends })

-- the counts alone matter
pub can_write_same : (t u : Written) (e : KeptExperiment) → u ≡ record t { text = u.text } → CanWrite t e → CanWrite u e
can_write_same t u e same h = record {
  pocket = h.pocket;
  housed = h.housed;
  earlier = h.earlier;
  counts = record {
    delivered = ap (λ (w : Written). w.delivered) same ∙ h.counts.delivered;
    drops = ap (λ (w : Written). w.drops) same ∙ h.counts.drops;
  };
  adds = h.adds;
}

pub can_write_at : PacketsAddUp → (t : ℕ) (earlier : List Record) (r : KeptRun) → IsAt t earlier r → CanWrite r.report r.experiment
can_write_at law t earlier r h = record {
  pocket = own_pocket r.shelf;
  housed = h.housed;
  earlier = earlier;
  counts = h.counts;
  adds = adds_waiting law t earlier (own_pocket r.shelf) r.experiment h.waits;
}

-- one without a next command waits for any
pub waiting_begins : WaitsBegin → (t : ℕ) (rs : List Record) (p : Pocket) (e : KeptExperiment) → e.next ≡ None → IsAloneAfter rs p e → IsWaiting t rs p e
waiting_begins law t rs p e none after = record {
  none = none;
  alone = subst (λ (s : State). IsAloneUntil t e.spec e.consumed s) (sym after)
      (law e.spec e.consumed e.steps t (ap (λ (s : State). s.steps) (sym after)));
}

-- what was recorded since is told too
pub goes-written : (t u : ℕ) (was old new : KeptRun) → Goes t u was old → Forgets old new → Goes t u was new
goes-written t u was old new g f = record {
  spec = ap (λ (e : KeptExperiment). e.spec) f.experiment ∙ g.spec;
  consumed = ap (λ (e : KeptExperiment). e.consumed) f.experiment ∙ g.consumed;
  shows = f.shows ∙ g.shows;
  mine = f.mine ∙ g.mine;
  tells = λ earlier at.
      let h = g.tells earlier at in
      let more : List Record = h.0 in
      let rs : List Record = old.experiment.net.log.records in
      let all : (earlier ++ more) ++ rs ≡ earlier ++ (more ++ rs) = append_assoc earlier more rs in (
        more ++ rs,
        record {
          housed = subst (λ (s : Own). IsHousedIn (own_pocket s) new.experiment) (sym f.shelf) (f.housed (own_pocket old.shelf) h.1.housed);
          counts = subst (λ (l : List Record). Counts l new.report) all (f.counts (earlier ++ more) h.1.counts);
          waits = subst (λ (l : List Record). IsWaiting u l (own_pocket new.shelf) new.experiment) all
              (subst (λ (s : Own). IsWaiting u ((earlier ++ more) ++ rs) (own_pocket s) new.experiment) (sym f.shelf)
              (f.waits u (earlier ++ more) (own_pocket old.shelf) h.1.waits));
          latest = subst (λ (l : List Timed). last_moment 0 l ≤ u) (sym (ap (λ (e : KeptExperiment). e.consumed) f.experiment)) h.1.latest;
          proper = proper-forgets old new f h.1.proper;
        },
        tells-both was old new more rs h.2 f.tells g.shows g.mine,
      );
}

-- nothing is told of an event yet
pub goes-event : (t u v : ℕ) (was old new : KeptRun) → Goes t u was old → u ≤ v →
    new.report ≡ old.report → new.shows_all ≡ old.shows_all → new.mine ≡ old.mine → new.experiment.spec ≡ old.experiment.spec →
    new.experiment.consumed ≡ old.experiment.consumed → IsHousedIn (own_pocket new.shelf) new.experiment →
    (IsProper old.experiment → IsProper new.experiment) →
    ((earlier : List Record) → IsWaiting u earlier (own_pocket old.shelf) old.experiment → IsWaiting v earlier (own_pocket new.shelf) new.experiment) →
    Goes t v was new
goes-event t u v was old new g up report shows mine spec consumed housed proper waits = record {
  spec = spec ∙ g.spec;
  consumed = consumed ∙ g.consumed;
  shows = shows ∙ g.shows;
  mine = mine ∙ g.mine;
  tells = λ earlier at.
      let h = g.tells earlier at in (
        h.0,
        record {
          housed = housed;
          counts = subst (λ (w : Written). Counts (earlier ++ h.0) w) (sym report) h.1.counts;
          waits = waits (earlier ++ h.0) h.1.waits;
          latest = let same = ap (last_moment 0) consumed in omega (arith, h.1.latest, up, same);
          proper = proper h.1.proper;
        },
        ap (λ (w : Written). w.text) report ∙ h.2,
      );
}

-- nothing happened
pub goes-nowhere : (t : ℕ) (r : KeptRun) → Goes t t r r
goes-nowhere t r = record {
  spec = refl;
  consumed = refl;
  shows = refl;
  mine = refl;
  tells = λ earlier at. ([], subst (λ (l : List Record). IsAt t l r) (sym (append-nil earlier)) at, tells-none r r refl);
}

-- where it stands after that
pub stands : (t u : ℕ) (old new : KeptRun) → ((earlier : List Record) × IsAt t earlier old) → Goes t u old new →
    (earlier : List Record) × IsAt u earlier new
stands t u old new at g = let h = g.tells at.0 at.1 in (at.0 ++ h.0, h.1)

last-push : (m : ℕ) (cs : List Timed) (c : Timed) → last_moment m (cs ++ c ∷ []) ≡ c.moment
last-push m [] c = refl
last-push m (d ∷ cs) c = last-push d.moment cs c

-- a command was taken, and the experiment waits again, where it goes on
pub takes-all : WaitsBegin → (c : Timed) (was new : KeptRun) → new.experiment.spec ≡ was.experiment.spec →
    new.experiment.consumed ≡ was.experiment.consumed ++ c ∷ [] → new.shows_all ≡ was.shows_all → new.report ≡ was.report →
    ((t : ℕ) (earlier : List Record) → IsAt t earlier was → t ≤ c.moment → IsAfter earlier new) →
    (new.experiment.ending ≡ None → new.experiment.next ≡ None) → Takes c was new
takes-all begins c was new spec consumed shows report after rests = record {
  spec = spec;
  consumed = consumed;
  shows = shows;
  report = report;
  after = after;
  at = λ t earlier at up going.
      let now : IsAfter earlier new = after t earlier at up in
      record {
        housed = now.housed;
        counts = now.counts;
        waits = waiting_begins begins c.moment earlier (own_pocket new.shelf) new.experiment (rests going) now.alone;
        latest = let same = ap (last_moment 0) consumed ∙ last-push 0 was.experiment.consumed c in omega (arith, same);
        proper = now.proper;
      };
}

-- ---- a command is the next step
-- it was given to one without a next command
pub applied-is : (p : Pocket) (old new : KeptExperiment) (c : Timed) → old.next ≡ None →
    new ≡ record old { next = Some c; consumed = old.consumed ++ c ∷ []; spare = new.spare } → view p new ≡ with_more (c ∷ []) (view p old)
applied-is p old new c none is = ap (view p) is ∙ (λ i. record (view p old) { left = option_to_list (sym none i) ++ c ∷ [] })

-- where nothing is due before it, no command is left behind that step
pub comes-next : CommandsGoOn → RecordsAreNotRead → (t : ℕ) (earlier : List Record) (r : KeptRun) (c : Timed) → IsAt t earlier r →
    r.experiment.ending ≡ None → t ≤ c.moment → IsQuiet c.moment r → (step (with_more (c ∷ []) (state_of r))).left ≡ []
comes-next goes unread t earlier r c at going up quiet =
    let s : State = state_of r in
    let on : GoesOn r.experiment.spec r.experiment.consumed c (step (with_more (c ∷ []) (with_earlier earlier s))) =
    goes t r.experiment.spec r.experiment.consumed (with_earlier earlier s) c (ap option_to_list at.waits.none) (ap shown_ending going) up quiet at.waits.alone in
    sym (ap (λ (x : State). x.left) (unread earlier (with_more (c ∷ []) s))) ∙ on.none

-- where that step leaves none, a next command is none that stands after it
pub none-next : (p : Pocket) (e : KeptExperiment) (s : State) → view p e ≡ s → s.left ≡ [] → is_some e.next ≡ true → ⊥
none-next p e s is none some = by e.next (ap (λ (x : State). x.left) is ∙ none) some
  where
    by : (o : Option Timed) → option_to_list o ≡ [] → is_some o ≡ true → ⊥
    by None l some = absurd (cc)
    by (Some x) l some = absurd (cc)

-- and one that has a next command, and goes on, doesn't stand still
pub no-still : (p q : Pocket) (e f : KeptExperiment) → view p e ≡ view q f → IsProper e → f.ending ≡ None → IsSome f.next → (e.next ≡ None) ⊎ IsSome e.ending → ⊥
no-still p q e f same proper going some (inl none) = by f.next (sym (ap (λ (x : State). x.left) same) ∙ ap option_to_list none) some
  where
    by : (o : Option Timed) → option_to_list o ≡ [] → is_some o ≡ true → ⊥
    by None l some = absurd (cc)
    by (Some x) l some = absurd (cc)
no-still p q e f same proper going some (inr ended) =
    let shown : is_some (shown_ending e.ending) ≡ true = proper.ends ended in
    let none : shown_ending e.ending ≡ None = ap (λ (x : State). x.ending) same ∙ ap shown_ending going in
    cc

-- what was recorded since is told too
pub at-written : (t : ℕ) (earlier : List Record) (old new : KeptRun) → IsAt t earlier old → Forgets old new → IsAt t (earlier ++ old.experiment.net.log.records) new
at-written t earlier old new h f = record {
  housed = subst (λ (s : Own). IsHousedIn (own_pocket s) new.experiment) (sym f.shelf) (f.housed (own_pocket old.shelf) h.housed);
  counts = f.counts earlier h.counts;
  waits = subst (λ (s : Own). IsWaiting t (earlier ++ old.experiment.net.log.records) (own_pocket s) new.experiment) (sym f.shelf)
      (f.waits t earlier (own_pocket old.shelf) h.waits);
  latest = subst (λ (l : List Timed). last_moment 0 l ≤ t) (sym (ap (λ (e : KeptExperiment). e.consumed) f.experiment)) h.latest;
  proper = proper-forgets old new f h.proper;
}

-- the same of one whose commands were taken
pub after-written : (earlier : List Record) (old new : KeptRun) → IsAfter earlier old → Forgets old new → IsAfter (earlier ++ old.experiment.net.log.records) new
after-written earlier old new h f = record {
  housed = subst (λ (s : Own). IsHousedIn (own_pocket s) new.experiment) (sym f.shelf) (f.housed (own_pocket old.shelf) h.housed);
  counts = f.counts earlier h.counts;
  alone = subst (λ (s : Own). IsAloneAfter (earlier ++ old.experiment.net.log.records) (own_pocket s) new.experiment) (sym f.shelf)
      (f.after earlier (own_pocket old.shelf) h.alone);
  proper = proper-forgets old new f h.proper;
}

pub can_write_after : PacketsAddUp → (earlier : List Record) (r : KeptRun) → IsAfter earlier r → CanWrite r.report r.experiment
can_write_after law earlier r h = record {
  pocket = own_pocket r.shelf;
  housed = h.housed;
  earlier = earlier;
  counts = h.counts;
  adds = adds_alone law earlier (own_pocket r.shelf) r.experiment h.alone;
}

-- what was written and handed out is told still
pub at-handed : (t : ℕ) (earlier : List Record) (old new : KeptRun) → IsAt t earlier old → new ≡ record old { report = record old.report { text = [] } } →
    IsAt t earlier new
at-handed t earlier old new h same =
    subst (IsAt t earlier) (sym same) (record { housed = h.housed; counts = record { delivered = h.counts.delivered; drops = h.counts.drops }; waits = h.waits; latest = h.latest; proper = h.proper })

-- ---- nothing is due
ended-some : (e : Option Ending) → IsSome (shown_ending e) → IsSome e
ended-some None some = some
ended-some (Some e) some = refl

pub quiet-still : (limit u : ℕ) (r : KeptRun) (p : Pocket) (old : KeptExperiment) → u ≡ limit → Passes limit events.Still p old (own_pocket r.shelf) r.experiment → IsQuietAfter limit (false, u) r
quiet-still limit u r p old same (kept, pocket, h) =
    turned (subst (λ (e : KeptExperiment). IsSettled limit (view (own_pocket r.shelf) e) ⊎ IsSome e.ending) (sym kept)
    (subst (λ (q : Pocket). IsSettled limit (view q old) ⊎ IsSome old.ending) (sym pocket) h))
  where
    turned : IsQuiet limit r ⊎ IsSome r.experiment.ending → IsQuietAfter limit (false, u) r
    turned (inl quiet) = inr (same, quiet)
    turned (inr ended) = inl ended

pub quiet-ended : (limit u : ℕ) (r : KeptRun) (p : Pocket) (old : KeptExperiment) → Passes limit events.Ended p old (own_pocket r.shelf) r.experiment → IsQuietAfter limit (false, u) r
quiet-ended limit u r p old h = inl (ended-some r.experiment.ending h.1)

never-some : (e : Option Ending) → IsSome e → e ≡ None → ⊥
never-some None some none = cc
never-some (Some e) some none = absurd (cc)

-- at the end of a wait
pub quiet-at : (limit u : ℕ) (r : KeptRun) → IsQuietAfter limit (false, u) r → r.experiment.ending ≡ None → (u ≡ limit) × IsQuiet u r
quiet-at limit u r (inl ended) none = absurd (never-some r.experiment.ending ended none)
quiet-at limit u r (inr (same, quiet)) none = (same, subst (λ n. IsQuiet n r) (sym same) quiet)

-- a moment alone holds nothing
holds-none : (mine : Marks) (rs : List Record) → first_hold mine Moment rs ≡ None
holds-none mine [] = refl
holds-none mine (r ∷ rs) = holds-none mine rs

pub no-hold : (mine : Marks) (rs : List Record) (stop : Stop) (hold : ℕ) → stop ≡ Moment → Some hold ≡ first_hold mine stop rs → ⊥
no-hold mine rs stop hold moment some = let none = some ∙ ap (λ s. first_hold mine s rs) moment ∙ holds-none mine rs in cc

-- what is read at a place
pub read-at : {B : Type 0} (now : B → Record) (r : Option B) (rs : List Record) (n : ℕ) → is_some r ≡ ltb n (length rs) → IfSome r (λ x. now x ≡ get_or rs n (now x)) → option_map now r ≡ slice_get rs n
read-at now None rs n some read = sym (slice_get_past rs n (ltb-false n (length rs) (sym some)))
read-at now (Some x) rs n some read = sym (slice_get_read rs (length rs) n (now x) refl (ltb-true n (length rs) (sym some)) read)
