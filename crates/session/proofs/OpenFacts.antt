-- What was told of an experiment of a session, from one call to the next.
use Rattle.std.proofs.Common.{◌≡◌, ℕ, ◌≤◌, ◌<◌, ◌*◌, ◌^◌, Bool, List, [], ◌∷◌, ◌++◌, Option, Some, None, inl, inr, true, false, refl, sym, ap, ◌∙◌, subst, append_assoc, append-nil}
use Rattle.std.specs.Prelude.{flat_map, IsSome, IfSome}
use Rattle.std.proofs.lemmas.List.Concat.{flat_map-append}
use Rattle.emu_model.specs.declared.commands.Timed.{Timed}
use Rattle.emu_model.specs.declared.records.Record.{Record}
use Rattle.emu_model.specs.declared.records.Ending.{Ending}
use Rattle.emu_model.specs.declared.records.Ending.TheVariants.{Ended, Spent, Halted}
use Rattle.emu_model.specs.Commands.{is_end}
use Rattle.experiment.specs.Kept.{KeptExperiment, shown_ending}
use Rattle.report.specs.Lines.{heading_of, line_of}
use Rattle.session.specs.declared.open.Phase.TheVariants.{Going, Over, Lost}
use Rattle.session.specs.declared.open.Phase.{Phase}
use Rattle.session.specs.Runs.{KeptRun, IsProper, IsAt, IsAfter, IsQuiet, state_of, first_moment, Forgets, Goes, closing_of}
use Rattle.session.specs.Runs as runs
use Rattle.experiment.specs.Written.{Written}
use Rattle.session.specs.declared.fates.Stop.{Stop}
use Rattle.session.specs.declared.fates.Stop.TheVariants.{Moment}
use Rattle.session.specs.Stops.{StopsAt}
use Rattle.session.specs.declared.answer.Answer.{Answer}
use Rattle.session.specs.declared.answer.Answer.TheVariants as answers
use Rattle.session.specs.Effects.{IsNext, ShowsSame, IsPassed, Comes, Commanded, IsObeyed, answer_of, phase_of, closing_in, closes_in, said_in}
use Rattle.session.specs.declared.fates.Taken.{Taken}
use Rattle.session.specs.RunLaws.{IsDone, told_of, report_of_commands, EndedRunsAreReports, SpentRunsAreReports}
use Rattle.session.specs.Opens.{KeptOpen, IsGoing, IsOver, IsWhole, IsToldIn, IsTakenIn, Tells, Takes, Settles}
use Rattle.session.proofs.RunFacts.{at-written, at-handed, after-written, tells-all, quiet-forgets}

-- what was told and what is not handed out yet are the heading and the lines of these records
abbrev pub IsPending : List ℕ → List Record → List ℕ → KeptRun → Type 0
IsPending name earlier told r = told ++ r.report.text ≡ heading_of name ++ flat_map line_of earlier

pub pending-more : (name told : List ℕ) (earlier more : List Record) (old new : KeptRun) → IsPending name earlier told old →
    new.report.text ≡ old.report.text ++ flat_map line_of more → IsPending name (earlier ++ more) told new
pending-more name told earlier more old new h e =
    ap (λ (l : List ℕ). told ++ l) e
    ∙ sym (append_assoc told old.report.text (flat_map line_of more))
    ∙ ap (λ (l : List ℕ). l ++ flat_map line_of more) h
    ∙ append_assoc (heading_of name) (flat_map line_of earlier) (flat_map line_of more)
    ∙ ap (λ (l : List ℕ). heading_of name ++ l) (sym (flat_map-append line_of earlier more))

-- one that goes on after it settled
pub settled-going : (a b : KeptOpen) (bytes : List ℕ) (s : Settles a b bytes) (earlier : List Record) (told : List ℕ) →
    IsAt a.reached earlier a.run → a.run.shows_all ≡ true → a.is_closed ≡ false → IsPending a.name earlier told a.run → b.phase ≡ Going →
    IsGoing a.run.experiment.consumed (told ++ bytes) b
settled-going a b bytes s earlier told at shows unclosed pending going =
    let f = s.forgets in
    let rs : List Record = a.run.experiment.net.log.records in
    let handed : KeptRun = record s.written { report = record s.written.report { text = [] } } in
    subst (IsGoing a.run.experiment.consumed (told ++ bytes)) (sym s.is) (record {
      shows = f.shows ∙ shows;
      unclosed = unclosed;
      consumed = ap (λ (e : KeptExperiment). e.consumed) f.experiment;
      earlier = earlier ++ rs;
      at = at-handed a.reached (earlier ++ rs) s.written handed (at-written a.reached earlier a.run s.written at f) refl;
      lines = ap (λ (l : List ℕ). told ++ l) (s.going going).1 ∙ pending-more a.name told earlier rs a.run s.written pending (tells-all a.run s.written rs shows f.tells);
    })

-- what was told of one that is over, with its counters
pub settled-told : (a b : KeptOpen) (bytes : List ℕ) (s : Settles a b bytes) (earlier : List Record) (told : List ℕ) →
    a.run.shows_all ≡ true → IsPending a.name earlier told a.run → b.phase ≡ Over →
    told ++ bytes ≡ told_of a.name (earlier ++ a.run.experiment.net.log.records) s.written
settled-told a b bytes s earlier told shows pending over =
    let f = s.forgets in
    let rs : List Record = a.run.experiment.net.log.records in
    ap (λ (l : List ℕ). told ++ l) (s.over over).1
    ∙ sym (append_assoc told s.written.report.text (closing_of s.written))
    ∙ ap (λ (l : List ℕ). l ++ closing_of s.written) (pending-more a.name told earlier rs a.run s.written pending (tells-all a.run s.written rs shows f.tells))

none-both : (b : Bool) → b ≡ false → b ≡ true → ⊥
none-both false f t = absurd (cc)
none-both true f t = absurd (cc)

by-rest : (o : KeptOpen) (came : List Timed) (told : List ℕ) → o.is_closed ≡ false →
    ((c : Timed) (rest : List Timed) → o.reached ≤ c.moment → told ≡ report_of_commands o.name o.run.experiment.spec (came ++ c ∷ rest)) → IsOver came told o
by-rest o came told unclosed f [] may = absurd (none-both o.is_closed unclosed may)
by-rest o came told unclosed f (c ∷ rest) may = f c rest may

-- one that ended while time passed
pub settled-over : SpentRunsAreReports → (a b : KeptOpen) (bytes : List ℕ) (s : Settles a b bytes) (earlier : List Record) (told : List ℕ) →
    IsAt a.reached earlier a.run → a.run.shows_all ≡ true → IsPending a.name earlier told a.run → a.is_closed ≡ false → b.phase ≡ Over →
    IsOver a.run.experiment.consumed (told ++ bytes) b
settled-over law a b bytes s earlier told at shows pending unclosed over =
    let f = s.forgets in
    let rs : List Record = a.run.experiment.net.log.records in
    let now : IsAt a.reached (earlier ++ rs) s.written = at-written a.reached earlier a.run s.written at f in
    let done : IsDone s.written = record { ended = now.proper.ends (s.over over).0; told = f.records; few = now.proper.few } in
    let came = ap (λ (e : KeptExperiment). e.consumed) f.experiment in
    subst (IsOver a.run.experiment.consumed (told ++ bytes)) (sym s.is)
    (by-rest (record a { phase = b.phase; run = record s.written { report = record s.written.report { text = [] } } }) a.run.experiment.consumed (told ++ bytes) unclosed
    (λ c more later.
    settled-told a b bytes s earlier told shows pending over
    ∙ law a.name a.reached (earlier ++ rs) s.written c more now done later
    ∙ ap (λ (l : List Timed). report_of_commands a.name s.written.experiment.spec (l ++ c ∷ more)) came))

-- one that a command ended
pub settled-whole : EndedRunsAreReports → (a b : KeptOpen) (bytes : List ℕ) (s : Settles a b bytes) (earlier : List Record) (told : List ℕ) →
    IsAfter earlier a.run → a.run.shows_all ≡ true → IsPending a.name earlier told a.run → b.phase ≡ Over →
    IsWhole a.run.experiment.consumed (told ++ bytes) b
settled-whole law a b bytes s earlier told after shows pending over =
    let f = s.forgets in
    let rs : List Record = a.run.experiment.net.log.records in
    let now : IsAfter (earlier ++ rs) s.written = after-written earlier a.run s.written after f in
    let done : IsDone s.written = record { ended = now.proper.ends (s.over over).0; told = f.records; few = now.proper.few } in
    let came = ap (λ (e : KeptExperiment). e.consumed) f.experiment in
    subst (IsWhole a.run.experiment.consumed (told ++ bytes)) (sym s.is) (λ rest.
    settled-told a b bytes s earlier told shows pending over
    ∙ law a.name (earlier ++ rs) s.written rest now done
    ∙ ap (λ (l : List Timed). report_of_commands a.name s.written.experiment.spec (l ++ rest)) came)

either : (e : Option Ending) (p : Phase) → (e ≡ None → p ≡ Going) → (IsSome e → p ≡ Over) → p ≡ Lost → ⊥
either None Going f g lost = absurd (cc)
either None Over f g lost = absurd (cc)
either None Lost f g lost = absurd (let h = f refl in cc)
either (Some x) Going f g lost = absurd (cc)
either (Some x) Over f g lost = absurd (cc)
either (Some x) Lost f g lost = absurd (let h = g refl in cc)

-- by how it stands
told-in : (p : Phase) (came : List Timed) (told : List ℕ) (o : KeptOpen) → (p ≡ Going → IsGoing came told o) → (p ≡ Over → IsOver came told o) → (p ≡ Lost → ⊥) → IsToldIn p came told o
told-in Going came told o going over lost = going refl
told-in Over came told o going over lost = over refl
told-in Lost came told o going over lost = absurd (lost refl)

taken-in : (p : Phase) (came : List Timed) (told : List ℕ) (o : KeptOpen) → (p ≡ Going → IsGoing came told o) → (p ≡ Over → IsWhole came told o) → (p ≡ Lost → ⊥) → IsTakenIn p came told o
taken-in Going came told o going over lost = going refl
taken-in Over came told o going over lost = over refl
taken-in Lost came told o going over lost = absurd (lost refl)

-- one that settled goes on or is over
settled : (a b : KeptOpen) (bytes : List ℕ) (s : Settles a b bytes) → b.phase ≡ Lost → ⊥
settled a b bytes s lost = either s.written.experiment.ending b.phase s.goes_on s.ends lost

-- what is pending once time has passed
record Passed (was a : KeptOpen) (r : KeptRun) (came : List Timed) (told : List ℕ) : Type 0 where
  earlier : List Record
  at : IsAt a.reached earlier r
  shows : r.shows_all ≡ true
  consumed : r.experiment.consumed ≡ came
  pending : IsPending a.name earlier told r

-- time passed, and no command came
pub passed : SpentRunsAreReports → (was a b : KeptOpen) (bytes : List ℕ) → Settles a b bytes → was.phase ≡ Going → a.name ≡ was.name → a.is_closed ≡ false →
    was.run.report.text ≡ [] → Goes was.reached a.reached was.run a.run → Tells [] bytes was b
passed law was a b bytes s going name unclosed empty g came told h =
    let here : IsGoing came told was = subst (λ p. IsToldIn p came told was) going h in
    let t = g.tells here.earlier here.at in
    let all : List Record = here.earlier ++ t.0 in
    let first : IsPending a.name here.earlier told was.run =
    ap (λ (l : List ℕ). told ++ l) empty ∙ append-nil told ∙ here.lines ∙ ap (λ (n : List ℕ). heading_of n ++ flat_map line_of here.earlier) (sym name) in
    let pending : IsPending a.name all told a.run = pending-more a.name told here.earlier t.0 was.run a.run first (tells-all was.run a.run t.0 here.shows t.2) in
    let shows = g.shows ∙ here.shows in
    subst (λ (cs : List Timed). IsToldIn b.phase cs (told ++ bytes) b) (g.consumed ∙ here.consumed ∙ sym (append-nil came))
    (told-in b.phase a.run.experiment.consumed (told ++ bytes) b
    (λ p. settled-going a b bytes s all told t.1 shows unclosed pending p)
    (λ p. settled-over law a b bytes s all told t.1 shows pending unclosed p)
    (settled a b bytes s))

-- time passed, and then a command came
pub took : EndedRunsAreReports → (was a b : KeptOpen) (mid : KeptRun) (u : ℕ) (c : Timed) (bytes : List ℕ) → Settles a b bytes → was.phase ≡ Going → a.name ≡ was.name → a.is_closed ≡ false →
    was.run.report.text ≡ [] → Goes was.reached u was.run mid → u ≤ c.moment → runs.Takes c mid a.run → a.reached ≡ c.moment → Takes c bytes was b
took law was a b mid u c bytes s going name unclosed empty g up k reached came told h =
    let here : IsGoing came told was = subst (λ p. IsToldIn p came told was) going h in
    let t = g.tells here.earlier here.at in
    let all : List Record = here.earlier ++ t.0 in
    let first : IsPending a.name here.earlier told was.run =
    ap (λ (l : List ℕ). told ++ l) empty ∙ append-nil told ∙ here.lines ∙ ap (λ (n : List ℕ). heading_of n ++ flat_map line_of here.earlier) (sym name) in
    let middle : IsPending a.name all told mid = pending-more a.name told here.earlier t.0 was.run mid first (tells-all was.run mid t.0 here.shows t.2) in
    let pending : IsPending a.name all told a.run = ap (λ (w : Written). told ++ w.text) k.report ∙ middle in
    let shows = k.shows ∙ g.shows ∙ here.shows in
    let consumed = k.consumed ∙ ap (λ (cs : List Timed). cs ++ c ∷ []) (g.consumed ∙ here.consumed) in
    subst (λ (cs : List Timed). IsTakenIn b.phase cs (told ++ bytes) b) consumed
    (taken-in b.phase a.run.experiment.consumed (told ++ bytes) b
    (λ p. settled-going a b bytes s all told
    (subst (λ m. IsAt m all a.run) (sym reached)
    (k.at u all t.1 up (sym (ap (λ (e : KeptExperiment). e.ending) s.forgets.experiment) ∙ (s.going p).0))) shows unclosed pending p)
    (λ p. settled-whole law a b bytes s all told (k.after u all t.1 up) shows pending p)
    (settled a b bytes s))

-- a command came to one that is over
pub passed-by : (a b : KeptOpen) (c : Timed) → a.phase ≡ Over → b.phase ≡ Over → b.name ≡ a.name → b.run ≡ a.run → a.reached ≤ c.moment → Tells (c ∷ []) [] a b
passed-by a b c over still name run later came told h =
    let was : IsOver came told a = subst (λ p. IsToldIn p came told a) over h in
    subst (λ p. IsToldIn p (came ++ c ∷ []) (told ++ []) b) (sym still) (λ rest may.
    append-nil told ∙ was (c ∷ rest) later
    ∙ ap (λ (n : List ℕ). report_of_commands n a.run.experiment.spec (came ++ c ∷ rest)) (sym name)
    ∙ ap (λ (r : KeptRun). report_of_commands b.name r.experiment.spec (came ++ c ∷ rest)) (sym run)
    ∙ ap (λ (l : List Timed). report_of_commands b.name b.run.experiment.spec l) (sym (append_assoc came (c ∷ []) rest)))

-- one that a command ended, whatever may come
pub ended-by : (c : Timed) (bytes : List ℕ) (was a b : KeptOpen) → Takes c bytes was a → a.phase ≡ Over → b.phase ≡ Over → b.name ≡ a.name → b.run ≡ a.run → Tells (c ∷ []) bytes was b
ended-by c bytes was a b k over still name run came told h =
    let whole : IsWhole (came ++ c ∷ []) (told ++ bytes) a = subst (λ p. IsTakenIn p (came ++ c ∷ []) (told ++ bytes) a) over (k came told h) in
    subst (λ p. IsToldIn p (came ++ c ∷ []) (told ++ bytes) b) (sym still) (λ rest may.
    whole rest
    ∙ ap (λ (n : List ℕ). report_of_commands n a.run.experiment.spec ((came ++ c ∷ []) ++ rest)) (sym name)
    ∙ ap (λ (r : KeptRun). report_of_commands b.name r.experiment.spec ((came ++ c ∷ []) ++ rest)) (sym run))

-- one that goes on
pub goes-on : (p : Phase) (came : List Timed) (told : List ℕ) (o : KeptOpen) → (p ≡ Over → ⊥) → IsTakenIn p came told o → IsToldIn p came told o
goes-on Going came told o never h = h
goes-on Over came told o never h = absurd (never refl)
goes-on Lost came told o never h = h

-- ---- nothing is due
none-before : (a b : KeptOpen) (bytes : List ℕ) (s : Settles a b bytes) → b.phase ≡ Going → a.run.experiment.ending ≡ None
none-before a b bytes s going = sym (ap (λ (e : KeptExperiment). e.ending) s.forgets.experiment) ∙ (s.going going).0

told-by : (a b : KeptOpen) (bytes : List ℕ) (s : Settles a b bytes) (p : Phase) → b.phase ≡ p → bytes ≡ s.written.report.text ++ closing_in p s.written
told-by a b bytes s Going is = (s.going is).1 ∙ sym (append-nil s.written.report.text)
told-by a b bytes s Over is = (s.over is).1
told-by a b bytes s Lost is = absurd (settled a b bytes s is)

-- one that has ended wasn't halted
phase-by : (e : Option Ending) (p : Phase) → (e ≡ None → p ≡ Going) → (IsSome e → p ≡ Over) → (IsSome e → IsSome (shown_ending e)) → p ≡ phase_of (shown_ending e)
phase-by None p goes ends shown = goes refl
phase-by (Some Ended) p goes ends shown = ends refl
phase-by (Some Spent) p goes ends shown = ends refl
phase-by (Some Halted) p goes ends shown = absurd (let h = shown refl in cc)

settled-phase : (a b : KeptOpen) (bytes : List ℕ) (s : Settles a b bytes) → IsProper a.run.experiment → b.phase ≡ phase_of (state_of a.run).ending
settled-phase a b bytes s proper =
    let same : s.written.experiment.ending ≡ a.run.experiment.ending = ap (λ (e : KeptExperiment). e.ending) s.forgets.experiment in
    phase-by a.run.experiment.ending b.phase (λ none. s.goes_on (same ∙ none)) (λ some. s.ends (subst IsSome (sym same) some)) proper.ends

-- time passed
pub settled-passed : (was a b : KeptOpen) (bytes : List ℕ) (limit : ℕ) (stop : Stop) (s : Settles a b bytes) →
    record a { reached = was.reached; phase = was.phase; run = was.run } ≡ was → was.run.report.text ≡ [] → a.is_closed ≡ was.is_closed →
    StopsAt stop was.reached limit a.reached was.run a.run → Goes was.reached a.reached was.run a.run →
    (a.run.experiment.ending ≡ None → IsQuiet a.reached a.run) → (a.run.experiment.ending ≡ None → stop ≡ Moment → a.reached ≡ limit) →
    IsProper a.run.experiment → IsPassed limit stop bytes was b
settled-passed was a b bytes limit stop s from clean closed stops goes quiet whole proper =
    let reached : b.reached ≡ a.reached = ap (λ (o : KeptOpen). o.reached) s.is in
    let handed : KeptRun = record s.written { report = record s.written.report { text = [] } } in
    record {
      clean = clean;
      ran = a.run;
      stopped = subst (λ u. StopsAt stop was.reached limit u was.run a.run) (sym reached) stops;
      same = record { shows = goes.shows; mine = goes.mine };
      phase = settled-phase a b bytes s proper;
      wrote = s.written;
      forgets = s.forgets;
      is = s.is ∙ (λ i. record (from i) { reached = sym reached i; phase = b.phase; run = handed });
      told = told-by a b bytes s b.phase refl;
      quiet = λ going. subst (λ (o : KeptOpen). IsQuiet o.reached o.run) (sym s.is) (quiet-forgets a.reached a.run s.written s.forgets (quiet (none-before a b bytes s going)));
      whole = λ going moment. reached ∙ whole (none-before a b bytes s going) moment;
    }

-- and then a command came
pub settled-done : (was a b : KeptOpen) (bytes : List ℕ) (c : Timed) (t : Taken) (before : KeptRun) (s : Settles a b bytes) →
    record a { reached = was.reached; phase = was.phase; run = was.run } ≡ was → was.run.report.text ≡ [] →
    StopsAt Moment was.reached c.moment c.moment was.run before → ShowsSame was.run before → Comes c t before a.run → a.reached ≡ c.moment →
    IsProper a.run.experiment → Commanded c t bytes was b
settled-done was a b bytes c t before s from clean stops same comes reached proper =
    let handed : KeptRun = record s.written { report = record s.written.report { text = [] } } in
    record {
      clean = clean;
      before = before;
      stopped = stops;
      same = same;
      after = a.run;
      comes = comes;
      phase = settled-phase a b bytes s proper;
      wrote = s.written;
      forgets = s.forgets;
      is = s.is ∙ (λ i. record (from i) { reached = reached i; phase = b.phase; run = handed });
      told = told-by a b bytes s b.phase refl;
    }

-- ---- what a command does
-- it was over before
pub obeyed-late : (c : Timed) (bytes : List ℕ) (a : Answer) (o q p : KeptOpen) → IsPassed c.moment Moment bytes o q → q.phase ≡ Over →
    p ≡ record q { reached = c.moment; is_closed = is_end c.command } → a ≡ answers.Over c.moment → IsObeyed c bytes a o p
obeyed-late c bytes a o q p h over is said =
    (q, is ∙ (λ i. record q { reached = c.moment; is_closed = closes_in (sym over i) c }), inl (h, over, said))

-- the command ended it
pub obeyed-over : (c : Timed) (t : Taken) (bytes : List ℕ) (a : Answer) (o q p : KeptOpen) → Commanded c t bytes o q → q.phase ≡ Over →
    p ≡ record q { reached = c.moment; is_closed = is_end c.command } → a ≡ answers.Over c.moment → IsObeyed c bytes a o p
obeyed-over c t bytes a o q p h over is said =
    (q, is ∙ (λ i. record q { reached = c.moment; is_closed = closes_in (sym over i) c }), inr (t, h, said ∙ sym (ap (λ x. said_in x c t) over)))

still-going : (p : Phase) (e : Option Ending) → p ≡ phase_of e → (p ≡ Over → ⊥) → p ≡ Going
still-going p None is never = is
still-going p (Some e) is never = absurd (never is)

-- it goes on
pub obeyed-going : (c : Timed) (t : Taken) (bytes : List ℕ) (a : Answer) (o p : KeptOpen) → Commanded c t bytes o p → (p.phase ≡ Over → ⊥) →
    p.reached ≡ c.moment → p.is_closed ≡ false → a ≡ answer_of t → IsObeyed c bytes a o p
obeyed-going c t bytes a o p h never reached unclosed said =
    let going : p.phase ≡ Going = still-going p.phase (state_of h.after).ending h.phase never in
    let closed : p.is_closed ≡ closes_in p.phase c = unclosed ∙ sym (ap (λ x. closes_in x c) going) in
    (p, (λ i. record p { reached = reached i; is_closed = closed i }), inr (t, h, said ∙ sym (ap (λ x. said_in x c t) going)))

pub next-is : (o : KeptOpen) (m : Option ℕ) → IfSome m (λ n. (n ≡ first_moment o.run) × (n < 2 * 10 ^ 15)) → (m ≡ None → IsQuiet (2 * 10 ^ 15) o.run) → IsNext o m
next-is o None some none = none refl
next-is o (Some n) some none = some
