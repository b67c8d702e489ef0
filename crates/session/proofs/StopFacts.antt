-- Where time stops on its way to a moment.
use Rattle.std.proofs.Common.{◌≡◌, ℕ, zero, suc, ◌+◌, min, max, ◌≤◌, Bool, true, false, List, [], ◌++◌, length, length-append, drop, Option, Some, None, ◌⊎◌, inl, inr, refl, sym, ap, ◌∙◌, subst, append_assoc, append-nil, arith}
use Rattle.std.specs.Prelude.{IsSome, option_to_list}
use Rattle.std.proofs.Math.Seq.{drop-append-add}
use Rattle.emu_model.specs.declared.records.Record.{Record}
use Rattle.emu_model.specs.declared.records.Ending.{Ending}
use Rattle.emu_model.specs.Step.{State}
use Rattle.emu_model.specs.RunLaws.{with_earlier}
use Rattle.experiment.specs.Waits.{step_before, IsSettled, WaitsReadNoRecords}
use Rattle.packet_store.specs.Own.{Own, own_pocket}
use Rattle.packet_store.specs.Pocket.{Pocket}
use Rattle.experiment.specs.Kept.{view, shown_ending}
use Rattle.experiment.specs.Moves.{Passes, IsPassed}
use Rattle.experiment.specs.declared.experiment.Event.TheVariants as events
use Rattle.experiment.specs.Written.{Written, Counts}
use Rattle.session.specs.declared.fates.Stop.{Stop}
use Rattle.session.specs.declared.fates.Stop.TheVariants.{Moment}
use Rattle.session.specs.Marking.{Marks}
use Rattle.session.specs.Fates.{first_hold}
use Rattle.session.specs.Runs.{KeptRun, IsProper, Tells, Forgets}
use Rattle.session.specs.Stops.{Way, held, passed, by_ending, Stops, IsMade, IsEvent, Keeps, shown_behind, way_of}
use Rattle.session.proofs.RunFacts.{tells-none, tells-both}

-- ---- steps
pub stop-more : (n : ℕ) (w : Way) (s next : State) (u : ℕ) (t : State) → step_before w.last s ≡ next → next.ending ≡ None → Stops n (passed s next w) next u t → Stops (suc n) w s u t
stop-more n w s next u t step none h =
    subst (λ (x : State). by_ending x.ending (Stops n (passed s x w) x u t) ((n ≡ 0) × (t ≡ x) × (u ≡ max w.reached (x.clock + 1)))) (sym step)
    (subst (λ o. by_ending o (Stops n (passed s next w) next u t) ((n ≡ 0) × (t ≡ next) × (u ≡ max w.reached (next.clock + 1)))) (sym none) h)

by-some : (o : Option Ending) (A B : Type 0) → IsSome o → B → by_ending o A B
by-some None A B some b = absurd (cc)
by-some (Some e) A B some b = b

pub stop-over : (n : ℕ) (w : Way) (s next : State) (u : ℕ) → n ≡ 0 → step_before w.last s ≡ next → IsSome next.ending → u ≡ max w.reached (next.clock + 1) → Stops (suc n) w s u next
stop-over n w s next u none step over is =
    subst (λ (x : State). by_ending x.ending (Stops n (passed s x w) x u next) ((n ≡ 0) × (next ≡ x) × (u ≡ max w.reached (x.clock + 1)))) (sym step)
    (by-some next.ending (Stops n (passed s next w) next u next) ((n ≡ 0) × (next ≡ next) × (u ≡ max w.reached (next.clock + 1))) over (none, refl, is))

-- ---- what is kept
pub keeps-same : (r : KeptRun) → Keeps r r
keeps-same r = record {
  told = [];
  tells = tells-none r r refl;
  counts = λ rs h. subst (λ (l : List Record). Counts l r.report) (sym (append-nil rs)) h;
  stays = λ earlier. ap (λ (l : List Record). shown_behind l r) (append-nil earlier);
  shows = refl;
  mine = refl;
}

pub keeps-written : (old new : KeptRun) → Forgets old new → Keeps old new
keeps-written old new f = record {
  told = old.experiment.net.log.records;
  tells = f.tells;
  counts = f.counts;
  stays = λ earlier.
      let all : List Record = earlier ++ old.experiment.net.log.records in
      let p : Pocket = own_pocket old.shelf in
      let kept : view p new.experiment ≡ record (view p old.experiment) { net = record (view p old.experiment).net { records = new.experiment.net.log.records } } = ap (view p) f.experiment in
      ap (λ (s : Own). with_earlier all (view (own_pocket s) new.experiment)) f.shelf
      ∙ ap (with_earlier all) kept
      ∙ ap (λ qs. record (view p old.experiment) { net = record (view p old.experiment).net { records = all ++ qs } }) f.records
      ∙ ap (λ qs. record (view p old.experiment) { net = record (view p old.experiment).net { records = qs } }) (append-nil all);
  shows = f.shows;
  mine = f.mine;
}

-- ---- on the way
-- whatever is still to come, it comes from the beginning
pub record Leads (v : Way) (old : KeptRun) (w : Way) (new : KeptRun) (earlier : List Record) : Type 0 where
  pub told : List Record
  pub tells : Tells told old new
  pub counts : Counts earlier old.report → Counts (earlier ++ told) new.report
  pub shows : new.shows_all ≡ old.shows_all
  pub mine : new.mine ≡ old.mine
  pub goes : (n u : ℕ) (t : State) → Stops n w (shown_behind (earlier ++ told) new) u t → (k : ℕ) × Stops k v (shown_behind earlier old) u t

pub leads-none : (w : Way) (r : KeptRun) (earlier : List Record) → Leads w r w r earlier
leads-none w r earlier = record {
  told = [];
  tells = tells-none r r refl;
  counts = λ h. subst (λ (l : List Record). Counts l r.report) (sym (append-nil earlier)) h;
  shows = refl;
  mine = refl;
  goes = λ n u t h. (n, subst (λ (l : List Record). Stops n w (shown_behind l r) u t) (append-nil earlier) h);
}

pub leads-kept : (v : Way) (old : KeptRun) (w : Way) (mid new : KeptRun) (earlier : List Record) → Leads v old w mid earlier → Keeps mid new → Leads v old w new earlier
leads-kept v old w mid new earlier l k = record {
  told = l.told ++ k.told;
  tells = tells-both old mid new l.told k.told l.tells k.tells l.shows l.mine;
  counts = λ h. subst (λ (a : List Record). Counts a new.report) (append_assoc earlier l.told k.told) (k.counts (earlier ++ l.told) (l.counts h));
  shows = k.shows ∙ l.shows;
  mine = k.mine ∙ l.mine;
  goes = λ n u t h. l.goes n u t (subst (λ (s : State). Stops n w s u t)
      (ap (λ (a : List Record). shown_behind a new) (sym (append_assoc earlier l.told k.told)) ∙ k.stays (earlier ++ l.told)) h);
}

tells-made : (old mid new : KeptRun) (told : List Record) → Tells told old mid → new.report ≡ mid.report → Tells told old new
tells-made old mid new told tells same = ap (λ (w : Written). w.text) same ∙ tells

counts-made : (rs : List Record) (mid new : KeptRun) → new.report ≡ mid.report → Counts rs mid.report → Counts rs new.report
counts-made rs mid new same = subst (Counts rs) (sym same)

-- of an event, those records are new that are new without what was recorded before
fresh-is : (earlier : List Record) (old new : KeptRun) → drop (length (shown_behind earlier old).net.records) (shown_behind earlier new).net.records ≡ drop (length old.experiment.net.log.records) new.experiment.net.log.records
fresh-is earlier old new =
    ap (λ n. drop n (earlier ++ new.experiment.net.log.records)) (length-append earlier old.experiment.net.log.records)
    ∙ drop-append-add earlier new.experiment.net.log.records (length old.experiment.net.log.records)

pub leads-event : (v : Way) (old : KeptRun) (w now : Way) (mid new : KeptRun) (earlier : List Record) → Leads v old w mid earlier → IsMade w.last mid new → shown_ending new.experiment.ending ≡ None →
    held (first_hold w.mine w.stop (drop (length mid.experiment.net.log.records) new.experiment.net.log.records)) new.experiment.clock (record w { reached = max w.reached (new.experiment.clock + 1) }) ≡ now →
    Leads v old now new earlier
leads-event v old w now mid new earlier l made none is = record {
  told = l.told;
  tells = tells-made old mid new l.told l.tells made.report;
  counts = λ h. counts-made (earlier ++ l.told) mid new made.report (l.counts h);
  shows = made.shows ∙ l.shows;
  mine = made.mine ∙ l.mine;
  goes = λ n u t h.
      let before : List Record = earlier ++ l.told in
      let s : State = shown_behind before mid in
      let next : State = shown_behind before new in
      let way : passed s next w ≡ now =
      ap (λ (rs : List Record). held (first_hold w.mine w.stop rs) new.experiment.clock (record w { reached = max w.reached (new.experiment.clock + 1) })) (fresh-is before mid new) ∙ is in
      l.goes (suc n) u t (stop-more n w s next u t (sym (made.stepped before)) none (subst (λ (x : Way). Stops n x next u t) (sym way) h));
}

quiet-shown : (earlier : List Record) (r : KeptRun) (limit : ℕ) → IsSome (shown_ending r.experiment.ending) ⊎ IsSettled limit (view (own_pocket r.shelf) r.experiment) →
    IsSome (shown_behind earlier r).ending ⊎ IsSettled limit (shown_behind earlier r)
quiet-shown earlier r limit (inl some) = inl some
quiet-shown earlier r limit (inr quiet) = inr quiet

-- at the end
pub leads-end : (v : Way) (old : KeptRun) (w : Way) (mid new : KeptRun) (earlier : List Record) (u : ℕ) → Leads v old w mid earlier → IsEvent w.reached w.last (false, u) mid new →
    (told : List Record) × Tells told old new × (Counts earlier old.report → Counts (earlier ++ told) new.report) × (n : ℕ) × Stops n v (shown_behind earlier old) u (shown_behind (earlier ++ told) new)
leads-end v old w mid new earlier u l (inl (still, is, quiet)) =
    let before : List Record = earlier ++ l.told in
    let h = l.goes 0 u (shown_behind before new) (still.stays before, is, quiet-shown before mid w.last quiet) in
    (l.told, tells-made old mid new l.told l.tells still.report, λ k. counts-made before mid new still.report (l.counts k), h.0, h.1)
leads-end v old w mid new earlier u l (inr (made, over, is)) =
    let before : List Record = earlier ++ l.told in
    let h = l.goes 1 u (shown_behind before new) (stop-over zero w (shown_behind before mid) (shown_behind before new) u refl (sym (made.stepped before)) over is) in
    (l.told, tells-made old mid new l.told l.tells made.report, λ k. counts-made before mid new made.report (l.counts k), h.0, h.1)

-- ---- an event
pub made-by : WaitsReadNoRecords → (limit : ℕ) (old new : KeptRun) → old.experiment.next ≡ None → IsPassed limit (own_pocket old.shelf) old.experiment (own_pocket new.shelf) new.experiment →
    new.report ≡ old.report → new.shows_all ≡ old.shows_all → new.mine ≡ old.mine → IsMade limit old new
made-by law limit old new none p report shows mine = record {
  stepped = λ earlier. ap (with_earlier earlier) p.passed ∙ sym (law limit earlier (view (own_pocket old.shelf) old.experiment) (ap option_to_list none));
  report = report;
  shows = shows;
  mine = mine;
}

-- the moment at which a hold ends is never too great for its type
pub held-last : (last reached clock hold after big now : ℕ) → after ≡ min (clock + hold) big → last ≤ big → now ≡ min last (max reached after) → min last (max reached (clock + hold)) ≡ now
held-last last reached clock hold after big now is fits now_is = omega (arith, is, fits, now_is)

pub event-still : (reached limit u : ℕ) (old new : KeptRun) → IsProper old.experiment → u ≡ limit → new.report ≡ old.report →
    Passes limit events.Still (own_pocket old.shelf) old.experiment (own_pocket new.shelf) new.experiment → IsEvent reached limit (false, u) old new
event-still reached limit u old new proper is report (same, pocket, h) =
    inl (record { stays = λ earlier i. with_earlier earlier (view (pocket i) (same i)); report = report }, is, by h)
  where
    by : IsSettled limit (view (own_pocket old.shelf) old.experiment) ⊎ IsSome old.experiment.ending → IsSome (shown_ending old.experiment.ending) ⊎ IsSettled limit (view (own_pocket old.shelf) old.experiment)
    by (inl quiet) = inr quiet
    by (inr ended) = inl (proper.ends ended)

pub event-goes : (reached limit u : ℕ) (b : Bool) (old new : KeptRun) → b ≡ true → IsEvent reached limit (b, u) old new →
    IsMade limit old new × (shown_ending new.experiment.ending ≡ None) × (u ≡ max reached (new.experiment.clock + 1))
event-goes reached limit u true old new is h = h
event-goes reached limit u false old new is h = absurd (cc)

-- the marks stay, and what was seen are the records
pub held-seen : (was mine : Marks) (stop : Stop) (old seen new : List Record) → seen ≡ old → mine ≡ was → first_hold was stop (drop (length old) new) ≡ first_hold mine stop (drop (length seen) new)
held-seen was mine stop old seen new same marks = ap (λ (m : Marks). first_hold m stop (drop (length old) new)) (sym marks) ∙ ap (λ (l : List Record). first_hold mine stop (drop (length l) new)) (sym same)

-- the way behind an event that holds time
pub way-held : (old new : KeptRun) (stop : Stop) (reached last now hold end : ℕ) (o : Option ℕ) → new.mine ≡ old.mine → o ≡ Some hold → now ≡ max reached (new.experiment.clock + 1) →
    min last (max now (new.experiment.clock + hold)) ≡ end →
    held o new.experiment.clock (record { mine = old.mine; stop = stop; reached = max reached (new.experiment.clock + 1); last = last }) ≡ way_of new.mine Moment now end
way-held old new stop reached last now hold end o mine some is ends =
    ap (λ x. held x new.experiment.clock (record { mine = old.mine; stop = stop; reached = max reached (new.experiment.clock + 1); last = last })) some
    ∙ ap (λ r. held (Some hold) new.experiment.clock (record { mine = old.mine; stop = stop; reached = r; last = last })) (sym is)
    ∙ (λ i. record { mine = sym mine i; stop = Moment; reached = now; last = ends i })

-- and behind one that doesn't
pub way-free : (old new : KeptRun) (stop : Stop) (reached last now : ℕ) (o : Option ℕ) → new.mine ≡ old.mine → o ≡ None → now ≡ max reached (new.experiment.clock + 1) →
    held o new.experiment.clock (record { mine = old.mine; stop = stop; reached = max reached (new.experiment.clock + 1); last = last }) ≡ way_of new.mine stop now last
way-free old new stop reached last now o mine none is =
    ap (λ x. held x new.experiment.clock (record { mine = old.mine; stop = stop; reached = max reached (new.experiment.clock + 1); last = last })) none
    ∙ (λ i. record { mine = sym mine i; stop = stop; reached = sym is i; last = last })
