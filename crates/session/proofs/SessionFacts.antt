-- What was told by a session, from one line to the next.
use Rattle.std.proofs.Common.{◌≡◌, ◌⊎◌, inl, inr, ℕ, ◌+◌, ◌<◌, ◌≤◌, cond, eqb, Bool, true, false, List, [], ◌∷◌, ◌++◌, length, length-append, map, refl, sym, ap, ◌∙◌, subst, append_assoc, append-nil, arith}
use Rattle.std.specs.Prelude.{flat_map, set, get_or, slice_get, codes, Option, Some, None, IsSome, Result, Ok, Err, IfOk}
use Rattle.std.specs.declared.alloc.AllocError.{AllocError}
use Rattle.std.specs.List.{AllByRecursion, filter, onto_first}
use Rattle.std.proofs.lemmas.List.{length-map, set-get_or}
use Rattle.std.proofs.lemmas.Option.{slice_get-get_or}
use Rattle.std.proofs.lemmas.List.Concat.{flat_map-append}
use Rattle.std.proofs.Math.Seq.{set-append_seam, get_or-append_seam}
use Rattle.emu_model.specs.declared.commands.Spec.{Spec}
use Rattle.emu_model.specs.declared.commands.Timed.{Timed}
use Rattle.control.specs.declared.scenario.Experiment.{Experiment}
use Rattle.control.specs.Scenario.{begun, with_last, with_command, experiments}
use Rattle.control.specs.declared.fault.Cause.{Cause}
use Rattle.control.proofs.LinesRead.{with_last_is}
use Rattle.control_lines.specs.Entries.{Entry, Nothing, Begins, Does, IsEntry, is_skipped}
use Rattle.control_lines.specs.LinesSayOne.{LinesSayOne}
use Rattle.control_words.specs.Text.{parts, words, is_word}
use Rattle.session.specs.Requests.{Asked, Until, UntilMine, UntilAny, Next, AddNext, Use, Show, Trace, Help, asked_of, request_of}
use Rattle.session.specs.Tracing.{run_as, spec_as, command_as}
use Rattle.control.specs.Traced.{traced_command}
use Rattle.session.specs.Effects.{Moves, IsSaid, IsAdded}
use Rattle.session.specs.Faults.{Answers, of_current, current_of}
use Rattle.session.specs.declared.answer.Answer.{Answer}
use Rattle.session.specs.declared.answer.Answer.TheVariants as answers
use Rattle.session.specs.declared.open.Phase.{Phase}
use Rattle.session.specs.declared.open.Phase.TheVariants.{Going, Over, Lost}
use Rattle.session.specs.Lines.{answer_with, help_lines, fault_of}
use Rattle.session.specs.Opens.{KeptOpen, IsTold, IsToldIn, MayCome, IsFault, IsSame, Tells}
use Rattle.session.specs.Sessions.{KeptSession, Stand, IsSoFar, TellsAll, Grows, Asks, TurnsBy, TurnsIn, Hears, Takes, Piece, Told, Answered, AnsweredBoth, Helped, IsPlain, written, told}

abbrev its : Stand → Experiment
its x = x.experiment

abbrev text_of : Stand → List ℕ
text_of x = x.text

abbrev kept_of : Stand → KeptOpen
kept_of x = x.kept

map-app : {A B : Type 0} (f : A → B) (xs ys : List A) → map f (xs ++ ys) ≡ map f xs ++ map f ys
map-app f [] ys = refl
map-app f (x ∷ xs) ys = ap (λ l. f x ∷ l) (map-app f xs ys)

first_all : {A : Type 0} (P : A → Type 0) (xs : List A) (x : A) → AllByRecursion P (xs ++ x ∷ []) → AllByRecursion P xs
first_all P [] x h = tt
first_all P (y ∷ xs) x h = (h.0, first_all P xs x h.1)

last_all : {A : Type 0} (P : A → Type 0) (xs : List A) (x : A) → AllByRecursion P (xs ++ x ∷ []) → P x
last_all P [] x h = h.0
last_all P (y ∷ xs) x h = last_all P xs x h.1

push_all : {A : Type 0} (P : A → Type 0) (xs : List A) (x : A) → AllByRecursion P xs → P x → AllByRecursion P (xs ++ x ∷ [])
push_all P [] x h p = (p, tt)
push_all P (y ∷ xs) x h p = (h.0, push_all P xs x h.1 p)

split_more : (x : Stand) (xs : List Stand) → (first : List Stand) × (y : Stand) × (x ∷ xs ≡ first ++ y ∷ [])
split_more x [] = ([], x, refl)
split_more x (y ∷ ys) = let h = split_more y ys in (x ∷ h.0, h.1, ap (λ l. x ∷ l) h.2)

split : (xs : List Stand) → (xs ≡ []) ⊎ ((first : List Stand) × (x : Stand) × (xs ≡ first ++ x ∷ []))
split [] = inl refl
split (x ∷ xs) = inr (split_more x xs)

by-split : (on : Bool) (old new : KeptSession) (o p : KeptOpen) (bytes : List ℕ) (f : Experiment → Experiment) (more : List Experiment → List Experiment) →
    new.opened ≡ set old.opened old.current p → new.current ≡ old.current → new.traces ≡ old.traces → old.current < length old.opened → get_or old.opened old.current o ≡ o →
    ((x : Stand) → x.kept ≡ o → IsSoFar on x → IsSoFar on (record { experiment = f x.experiment; text = x.text ++ bytes; kept = p })) →
    ((done : List Experiment) (e : Experiment) → more (done ++ e ∷ []) ≡ done ++ f e ∷ []) →
    (es : List Experiment) (text : List ℕ) (h : TellsAll on es text old) → (h.stands ≡ []) ⊎ ((first : List Stand) × (x : Stand) × (h.stands ≡ first ++ x ∷ [])) →
    TellsAll on (more es) (text ++ bytes) new
by-split on old new o p bytes f more opened current traces within found so_far law es text h (inl none) =
    let len : length old.opened ≡ 0 = ap length h.opened_are ∙ length-map h.stands kept_of ∙ ap length none in
    absurd (omega (arith, within, len))
by-split on old new o p bytes f more opened current traces within found so_far law es text h (inr (first, x, is)) =
    let y : Stand = record { experiment = f x.experiment; text = x.text ++ bytes; kept = p } in
    let all : List Stand = first ++ y ∷ [] in
    let keeps : old.opened ≡ map kept_of first ++ x.kept ∷ [] = h.opened_are ∙ ap (map kept_of) is ∙ map-app kept_of first (x ∷ []) in
    let many : length h.stands ≡ length first + 1 = ap length is ∙ length-append first (x ∷ []) in
    let place : old.current ≡ length (map kept_of first) = let same = length-map first kept_of in let was = h.last in omega (arith, same, was, many) in
    let there : x.kept ≡ o =
    sym (get_or-append_seam (map kept_of first) x.kept [] o) ∙ ap (λ n. get_or (map kept_of first ++ x.kept ∷ []) n o) (sym place)
    ∙ ap (λ (l : List KeptOpen). get_or l old.current o) (sym keeps) ∙ found in
    record {
      stands = all;
      experiments_are = ap more (h.experiments_are ∙ ap (map its) is ∙ map-app its first (x ∷ [])) ∙ law (map its first) x.experiment ∙ sym (map-app its first (y ∷ []));
      text_is = ap (λ (l : List ℕ). l ++ bytes) (h.text_is ∙ ap (flat_map text_of) is ∙ flat_map-append text_of first (x ∷ []))
          ∙ append_assoc (flat_map text_of first) (x.text ++ []) bytes
          ∙ ap (λ (l : List ℕ). flat_map text_of first ++ l) (ap (λ (l : List ℕ). l ++ bytes) (append-nil x.text) ∙ sym (append-nil (x.text ++ bytes)))
          ∙ sym (flat_map-append text_of first (y ∷ []));
      opened_are = opened ∙ ap (λ (l : List KeptOpen). set l old.current p) keeps ∙ ap (λ n. set (map kept_of first ++ x.kept ∷ []) n p) place
          ∙ set-append_seam (map kept_of first) x.kept [] p ∙ sym (map-app kept_of first (y ∷ []));
      each = let was : AllByRecursion (IsSoFar on) (first ++ x ∷ []) = subst (AllByRecursion (IsSoFar on)) is h.each in
          push_all (IsSoFar on) first y (first_all (IsSoFar on) first x was) (so_far x there (last_all (IsSoFar on) first x was));
      last = let now = length-append first (y ∷ []) in let was = h.last in omega (arith, current, was, many, now);
      traces = traces ∙ h.traces;
    }

-- the last experiment went on
pub grows-last : (old new : KeptSession) (o p : KeptOpen) (bytes : List ℕ) (f : Experiment → Experiment) (more : List Experiment → List Experiment) →
    new.opened ≡ set old.opened old.current p → new.current ≡ old.current → new.traces ≡ old.traces → old.current < length old.opened → get_or old.opened old.current o ≡ o →
    ((on : Bool) (x : Stand) → x.kept ≡ o → IsSoFar on x → IsSoFar on (record { experiment = f x.experiment; text = x.text ++ bytes; kept = p })) →
    ((done : List Experiment) (e : Experiment) → more (done ++ e ∷ []) ≡ done ++ f e ∷ []) →
    Grows more bytes old new
grows-last old new o p bytes f more opened current traces within found so_far law on es text h =
    by-split on old new o p bytes f more opened current traces within found (so_far on) law es text h (split h.stands)

-- an experiment began
begun-so-far : (on : Bool) (o : KeptOpen) (bytes name : List ℕ) (spec : Spec) → o.name ≡ name → o.traced ≡ on → o.run.experiment.spec ≡ spec_as on spec → IsTold [] bytes o →
    IsSoFar on (record { experiment = begun name spec; text = bytes; kept = o })
begun-so-far true o bytes name spec named traced is told = record { name = named; traced = traced; spec = is; told = told }
begun-so-far false o bytes name spec named traced is told = record { name = named; traced = traced; spec = is; told = told }

pub grows-begun : (old new : KeptSession) (o : KeptOpen) (bytes name : List ℕ) (spec : Spec) →
    new.opened ≡ old.opened ++ o ∷ [] → new.current ≡ length old.opened → new.traces ≡ old.traces →
    o.name ≡ name → o.traced ≡ old.traces → o.run.experiment.spec ≡ spec_as old.traces spec → IsTold [] bytes o →
    Grows (λ es. es ++ begun name spec ∷ []) bytes old new
grows-begun old new o bytes name spec opened current traces named traced is told on es text h =
    let e : Experiment = begun name spec in
    let y : Stand = record { experiment = e; text = bytes; kept = o } in
    let so_far : IsSoFar on y = begun-so-far on o bytes name spec named (traced ∙ h.traces) (is ∙ ap (λ (b : Bool). spec_as b spec) h.traces) told in
    record {
      stands = h.stands ++ y ∷ [];
      experiments_are = ap (λ (l : List Experiment). l ++ e ∷ []) h.experiments_are ∙ sym (map-app its h.stands (y ∷ []));
      text_is = ap (λ (l : List ℕ). l ++ bytes) h.text_is ∙ ap (λ (l : List ℕ). flat_map text_of h.stands ++ l) (sym (append-nil bytes))
          ∙ sym (flat_map-append text_of h.stands (y ∷ []));
      opened_are = opened ∙ ap (λ (l : List KeptOpen). l ++ o ∷ []) h.opened_are ∙ sym (map-app kept_of h.stands (y ∷ []));
      each = push_all (IsSoFar on) h.stands y h.each so_far;
      last = let now = length-append h.stands (y ∷ []) in let len : length old.opened ≡ length h.stands = ap length h.opened_are ∙ length-map h.stands kept_of in omega (arith, current, now, len);
      traces = traces ∙ h.traces;
    }

-- the commands of an experiment as it runs, and its spec, by one more command
commands-as : (on : Bool) (e : Experiment) (c : Timed) → (run_as on e).commands ++ command_as on c ∷ [] ≡ (run_as on (with_command e c)).commands
commands-as true e c = sym (map-app traced_command e.commands (c ∷ []))
commands-as false e c = refl

specs-as : (on : Bool) (e : Experiment) (c : Timed) → (run_as on e).spec ≡ (run_as on (with_command e c)).spec
specs-as true e c = refl
specs-as false e c = refl

-- a command came to the last experiment
pub grows-command : (old new : KeptSession) (o p : KeptOpen) (bytes : List ℕ) (c : Timed) →
    new.opened ≡ set old.opened old.current p → new.current ≡ old.current → new.traces ≡ old.traces → old.current < length old.opened → get_or old.opened old.current o ≡ o →
    IsSame o p → Tells (command_as o.traced c ∷ []) bytes o p → Grows (λ es. with_last es c) bytes old new
grows-command old new o p bytes c opened current traces within found same tells =
    grows-last old new o p bytes (λ e. with_command e c) (λ es. with_last es c) opened current traces within found
    (λ on x is was.
    let traced : o.traced ≡ on = ap (λ (k : KeptOpen). k.traced) (sym is) ∙ was.traced in
    record {
      name = same.name ∙ ap (λ (k : KeptOpen). k.name) (sym is) ∙ was.name;
      traced = same.traced ∙ traced;
      spec = same.spec ∙ ap (λ (k : KeptOpen). k.run.experiment.spec) (sym is) ∙ was.spec ∙ specs-as on x.experiment c;
      told = subst (λ (cs : List Timed). IsTold cs (x.text ++ bytes) p)
          (ap (λ (b : Bool). (run_as on x.experiment).commands ++ command_as b c ∷ []) traced ∙ commands-as on x.experiment c)
          (tells (run_as on x.experiment).commands x.text (subst (IsTold (run_as on x.experiment).commands x.text) is was.told));
    })
    (λ done e. with_last_is done e c)

-- time passed in the last experiment
pub grows-time : (old new : KeptSession) (o p : KeptOpen) (bytes : List ℕ) →
    new.opened ≡ set old.opened old.current p → new.current ≡ old.current → new.traces ≡ old.traces → old.current < length old.opened → get_or old.opened old.current o ≡ o →
    IsSame o p → Tells [] bytes o p → Grows (λ es. es) bytes old new
grows-time old new o p bytes opened current traces within found same tells =
    grows-last old new o p bytes (λ e. e) (λ es. es) opened current traces within found
    (λ on x is was. record {
      name = same.name ∙ ap (λ (k : KeptOpen). k.name) (sym is) ∙ was.name;
      traced = same.traced ∙ ap (λ (k : KeptOpen). k.traced) (sym is) ∙ was.traced;
      spec = same.spec ∙ ap (λ (k : KeptOpen). k.run.experiment.spec) (sym is) ∙ was.spec;
      told = subst (λ (cs : List Timed). IsTold cs (x.text ++ bytes) p) (append-nil (run_as on x.experiment).commands)
          (tells (run_as on x.experiment).commands x.text (subst (IsTold (run_as on x.experiment).commands x.text) is was.told));
    })
    (λ done e. refl)

-- nothing was told
pub grows-none : (old new : KeptSession) → new ≡ old → Grows (λ es. es) [] old new
grows-none old new same on es text h =
    subst (TellsAll on es (text ++ [])) (sym same) (subst (λ (l : List ℕ). TellsAll on es l old) (sym (append-nil text)) h)

pub by-fault : (a : Answer) (A : Type 0) → (IsFault a → A) → ((IsFault a → ⊥) → A) → A
by-fault answers.Done A f g = g (λ h. h)
by-fault (answers.Packet n) A f g = g (λ h. h)
by-fault (answers.Refused n) A f g = g (λ h. h)
by-fault (answers.Now n) A f g = g (λ h. h)
by-fault (answers.Next n) A f g = g (λ h. h)
by-fault (answers.Over n) A f g = g (λ h. h)
by-fault (answers.Fault c) A f g = f tt

pub shows-all : (all : Bool) → (all ≡ false → ⊥) → all ≡ true
shows-all true other = refl
shows-all false other = absurd (other refl)

-- what was told of an experiment stays so where something of it is set
pub grows-set : (old new : KeptSession) (o p q : KeptOpen) → p ≡ q → IsSame o q → ((came : List Timed) (text : List ℕ) → IsTold came text o → IsTold came text q) →
    new.opened ≡ set old.opened old.current p → new.current ≡ old.current → new.traces ≡ old.traces → old.current < length old.opened → get_or old.opened old.current o ≡ o →
    Grows (λ es. es) [] old new
grows-set old new o p q is same stays opened current traces within found =
    grows-time old new o q [] (opened ∙ ap (λ (k : KeptOpen). set old.opened old.current k) is) current traces within found same
    (λ came text h. subst (λ (l : List ℕ). IsTold (came ++ []) l q) (sym (append-nil text))
    (subst (λ (cs : List Timed). IsTold cs text q) (sym (append-nil came)) (stays came text h)))

comes : (o q : KeptOpen) (rest : List Timed) → q.is_closed ≡ o.is_closed → q.reached ≡ o.reached → MayCome q rest → MayCome o rest
comes o q [] closed reached may = sym closed ∙ may
comes o q (c ∷ cs) closed reached may = subst (λ t. t ≤ c.moment) reached may

-- all is told again of an experiment
shown : (p : Phase) (came : List Timed) (text : List ℕ) (o : KeptOpen) → IsToldIn p came text o → IsToldIn p came text (record o { run = record o.run { shows_all = true } })
shown Going came text o h = record {
  shows = refl;
  unclosed = h.unclosed;
  consumed = h.consumed;
  earlier = h.earlier;
  at = record { housed = h.at.housed; counts = h.at.counts; waits = h.at.waits; latest = h.at.latest; proper = h.at.proper };
  lines = h.lines;
}
shown Over came text o h = λ rest may. h rest (comes o (record o { run = record o.run { shows_all = true } }) rest refl refl may)
shown Lost came text o h = h

pub grows-shown : (old new : KeptSession) (o p : KeptOpen) (all : Bool) → p ≡ record o { run = record o.run { shows_all = all } } → all ≡ true →
    new.opened ≡ set old.opened old.current p → new.current ≡ old.current → new.traces ≡ old.traces → old.current < length old.opened → get_or old.opened old.current o ≡ o →
    Grows (λ es. es) [] old new
grows-shown old new o p all is every opened current traces within found =
    grows-set old new o p (record o { run = record o.run { shows_all = true } }) (is ∙ ap (λ b. record o { run = record o.run { shows_all = b } }) every)
    (record { name = refl; spec = refl; traced = refl }) (λ came text h. shown o.phase came text o h) opened current traces within found

-- the answer to `next` is added to others, or no longer
added : (p : Phase) (came : List Timed) (text : List ℕ) (o : KeptOpen) (on : Bool) → IsToldIn p came text o → IsToldIn p came text (record o { adds_next = on })
added Going came text o on h =
    record { shows = h.shows; unclosed = h.unclosed; consumed = h.consumed; earlier = h.earlier; at = h.at; lines = h.lines }
added Over came text o on h = λ rest may. h rest (comes o (record o { adds_next = on }) rest refl refl may)
added Lost came text o on h = h

pub grows-added : (old new : KeptSession) (o p : KeptOpen) (on : Bool) → p ≡ record o { adds_next = on } →
    new.opened ≡ set old.opened old.current p → new.current ≡ old.current → new.traces ≡ old.traces → old.current < length old.opened → get_or old.opened old.current o ≡ o →
    Grows (λ es. es) [] old new
grows-added old new o p on is opened current traces within found =
    grows-set old new o p (record o { adds_next = on }) is (record { name = refl; spec = refl; traced = refl }) (λ came text h. added o.phase came text o on h)
    opened current traces within found

-- what was told, and a line that tells nothing of a report
answered-by : (old new : KeptSession) (p : Piece) → told p ≡ [] → (more : List Experiment → List Experiment) (first mid last : List ℕ) →
    ((bytes : List ℕ) × (mid ≡ first ++ bytes) × Grows more bytes old new) → last ≡ mid ++ written p →
    (ps : List Piece) × (last ≡ first ++ flat_map written ps) × (AllByRecursion IsPlain ps → Grows more (flat_map told ps) old new)
answered-by old new p silent more first mid last (bytes, is, grows) e = (
  Told bytes ∷ p ∷ [],
  e ∙ ap (λ (l : List ℕ). l ++ written p) is ∙ append_assoc first bytes (written p)
      ∙ ap (λ (l : List ℕ). first ++ (bytes ++ l)) (sym (append-nil (written p))),
  λ plain. subst (λ (l : List ℕ). Grows more l old new) (sym (append-nil bytes) ∙ ap (λ (l : List ℕ). bytes ++ (l ++ [])) (sym silent)) grows,
)

-- what was told, and the line that answers
pub answered-grows : (old new : KeptSession) (a : Answer) (add : Option Answer) (more : List Experiment → List Experiment) (first mid last : List ℕ) →
    ((bytes : List ℕ) × (mid ≡ first ++ bytes) × ((¬ IsFault a) → Grows more bytes old new)) → last ≡ mid ++ answer_with a add → (IsFault a → ⊥) →
    (ps : List Piece) × (last ≡ first ++ flat_map written ps) × (AllByRecursion IsPlain ps → Grows more (flat_map told ps) old new)
answered-grows old new a None more first mid last (bytes, is, grows) e fine = answered-by old new (Answered a) refl more first mid last (bytes, is, grows fine) e
answered-grows old new a (Some b) more first mid last (bytes, is, grows) e fine = answered-by old new (AnsweredBoth a b) refl more first mid last (bytes, is, grows fine) e

-- a request that changes neither what is told nor tracing
abbrev pub IsQuiet : Asked → Type 0
IsQuiet (Show all) = all ≡ true
IsQuiet (Trace on) = ⊥
IsQuiet _ = Unit {0}

quiet-turns : (q : Asked) (was on : Bool) → IsQuiet q → TurnsBy (Ok q) was on → was ≡ on
quiet-turns (Until limit) was on quiet turns = turns
quiet-turns (UntilMine limit hold) was on quiet turns = turns
quiet-turns (UntilAny limit hold) was on quiet turns = turns
quiet-turns Next was on quiet turns = turns
quiet-turns (AddNext add) was on quiet turns = turns
quiet-turns (Use name) was on quiet turns = turns
quiet-turns (Show true) was on quiet turns = turns
quiet-turns (Show false) was on quiet turns = absurd turns
quiet-turns (Trace new) was on quiet turns = absurd quiet
quiet-turns Help was on quiet turns = turns

pub asks-quiet : (q : Asked) (bytes : List ℕ) (old new : KeptSession) → IsQuiet q → Grows (λ es. es) bytes old new → Asks (Ok q) bytes old new
asks-quiet q bytes old new quiet grows was on es text turns early h =
    subst (λ (b : Bool). TellsAll b es (text ++ bytes) new) (quiet-turns q was on quiet turns) (grows was es text h)

-- what is shown is all, or else what was told before need not go on
pub asks-show : (all : Bool) (old new : KeptSession) → ((all ≡ false → ⊥) → Grows (λ es. es) [] old new) → Asks (Ok (Show all)) [] old new
asks-show true old new grows = asks-quiet (Show true) [] old new refl (grows (λ is. absurd (cc)))
asks-show false old new grows = λ was on es text turns early h. absurd turns

-- tracing is turned on or off
no-stands : (xs : List Stand) → [] ≡ map its xs → xs ≡ []
no-stands [] is = refl
no-stands (x ∷ xs) is = absurd (cc)

traced-tells : (was on : Bool) (es : List Experiment) (text : List ℕ) (old new : KeptSession) → new ≡ record old { traces = on } → (was ≡ on) ⊎ (es ≡ []) → TellsAll was es text old →
    TellsAll on es text new
traced-tells was on es text old new is (inl same) h = subst (TellsAll on es text) (sym is) (record {
  stands = h.stands;
  experiments_are = h.experiments_are;
  text_is = h.text_is;
  opened_are = h.opened_are;
  each = subst (λ (b : Bool). AllByRecursion (IsSoFar b) h.stands) same h.each;
  last = h.last;
  traces = refl;
})
traced-tells was on es text old new is (inr none) h = subst (TellsAll on es text) (sym is) (record {
  stands = h.stands;
  experiments_are = h.experiments_are;
  text_is = h.text_is;
  opened_are = h.opened_are;
  each = subst (AllByRecursion (IsSoFar on)) (sym (no-stands h.stands (sym none ∙ h.experiments_are))) tt;
  last = h.last;
  traces = refl;
})

pub asks-trace : (on : Bool) (old new : KeptSession) → new ≡ record old { traces = on } → Asks (Ok (Trace on)) [] old new
asks-trace on old new is was next es text turns early h =
    subst (λ (l : List ℕ). TellsAll next es l new) (sym (append-nil text))
    (traced-tells was next es text old new (is ∙ ap (λ (b : Bool). record old { traces = b }) turns) early h)

-- what can be asked is told
pub helped : (old : KeptSession) (first last : List ℕ) → last ≡ first ++ help_lines → (ps : List Piece) × (last ≡ first ++ flat_map written ps) × Grows (λ es. es) (flat_map told ps) old old
helped old first last is = (Helped ∷ [], is ∙ ap (λ (l : List ℕ). first ++ l) (sym (append-nil help_lines)), grows-none old old refl)

-- what an experiment told
pub asked-told : (q : Asked) (old new : KeptSession) (first last : List ℕ) (r : Result Answer AllocError) → IsQuiet q →
    IfOk r (λ a. (bytes : List ℕ) × (last ≡ first ++ bytes) × Grows (λ es. es) bytes old new) →
    IfOk r (λ a. (ps : List Piece) × (last ≡ first ++ flat_map written ps) × ((IsFault a → ⊥) → AllByRecursion IsPlain ps → Asks (Ok q) (flat_map told ps) old new))
asked-told q old new first last (Ok a) quiet (bytes, is, grows) = (
  Told bytes ∷ [],
  is ∙ ap (λ (l : List ℕ). first ++ l) (sym (append-nil bytes)),
  λ fine plain. asks-quiet q (bytes ++ []) old new quiet (subst (λ (l : List ℕ). Grows (λ es. es) l old new) (sym (append-nil bytes)) grows),
)
asked-told q old new first last (Err e) quiet h = h

requested-by : (old new : KeptSession) (p : Piece) → told p ≡ [] → (asked first mid last : List ℕ) →
    ((ps : List Piece) × (mid ≡ first ++ flat_map written ps) × (AllByRecursion IsPlain ps → Asks (request_of asked) (flat_map told ps) old new)) →
    last ≡ mid ++ written p →
    (ps : List Piece) × (last ≡ first ++ flat_map written ps) × (AllByRecursion IsPlain ps → Asks (request_of asked) (flat_map told ps) old new)
requested-by old new p silent asked first mid last (ps, is, grows) e = (
  ps ++ p ∷ [],
  e ∙ ap (λ (l : List ℕ). l ++ written p) is ∙ append_assoc first (flat_map written ps) (written p)
      ∙ ap (λ (l : List ℕ). first ++ (flat_map written ps ++ l)) (sym (append-nil (written p)))
      ∙ ap (λ (l : List ℕ). first ++ l) (sym (flat_map-append written ps (p ∷ []))),
  λ plain.
      subst (λ (l : List ℕ). Asks (request_of asked) l old new)
      (sym (append-nil (flat_map told ps)) ∙ ap (λ (l : List ℕ). flat_map told ps ++ (l ++ [])) (sym silent) ∙ sym (flat_map-append told ps (p ∷ [])))
      (grows (first_all IsPlain ps p plain)),
)

-- a request's line that answers
pub requested : (old new : KeptSession) (a : Answer) (add : Option Answer) (asked first mid last : List ℕ) →
    ((ps : List Piece) × (mid ≡ first ++ flat_map written ps) × ((IsFault a → ⊥) → AllByRecursion IsPlain ps → Asks (request_of asked) (flat_map told ps) old new)) →
    last ≡ mid ++ answer_with a add → (IsFault a → ⊥) →
    (ps : List Piece) × (last ≡ first ++ flat_map written ps) × (AllByRecursion IsPlain ps → Asks (request_of asked) (flat_map told ps) old new)
requested old new a None asked first mid last (ps, is, grows) e fine = requested-by old new (Answered a) refl asked first mid last (ps, is, grows fine) e
requested old new a (Some b) asked first mid last (ps, is, grows) e fine = requested-by old new (AnsweredBoth a b) refl asked first mid last (ps, is, grows fine) e

-- ---- faults
pub if_ok : {T E : Type 0} (P Q : T → Type 0) (r : Result T E) → ((x : T) → P x → Q x) → IfOk r P → IfOk r Q
if_ok P Q (Ok x) f h = f x h
if_ok P Q (Err e) f h = h

-- nothing changes by a fault
pub faulty : (f : Option Cause) (a : Answer) (same : Type 0) → Answers f a same → IsFault a → same
faulty None a same fine fault = absurd (fine fault)
faulty (Some c) a same h fault = h.1

pub no-fault : (a : Answer) → fault_of a ≡ None → IsFault a → ⊥
no-fault (answers.Fault c) none fault = absurd (cc)
no-fault answers.Done none fault = fault
no-fault (answers.Packet n) none fault = fault
no-fault (answers.Refused n) none fault = fault
no-fault (answers.Now n) none fault = fault
no-fault (answers.Next n) none fault = fault
no-fault (answers.Over n) none fault = fault

fault-none : (a : Answer) → (IsFault a → ⊥) → fault_of a ≡ None
fault-none answers.Done fine = refl
fault-none (answers.Packet n) fine = refl
fault-none (answers.Refused n) fine = refl
fault-none (answers.Now n) fine = refl
fault-none (answers.Next n) fine = refl
fault-none (answers.Over n) fine = refl
fault-none (answers.Fault c) fine = absurd (fine tt)

-- a fault is handed back where there is one
pub fault-said : (fault f : Option Cause) (a : Answer) (old new : KeptSession) (first mid last : List ℕ) → Answers fault a ((new ≡ old) × (mid ≡ first)) →
    f ≡ fault_of a → (IsFault a → last ≡ mid) → (f ≡ fault) × (IsSome f → (new ≡ old) × (last ≡ first))
fault-said None f a old new first mid last fine is silent =
    let none : f ≡ None = is ∙ fault-none a fine in (none, λ some. absurd (let h = subst IsSome none some in cc))
fault-said (Some c) f a old new first mid last (is_fault, (same, kept)) is silent = (
  is ∙ ap fault_of is_fault,
  λ some. (same, silent (subst IsFault (sym is_fault) tt) ∙ kept),
)

-- ---- what a line does
get-some : {A : Type 0} (xs : List A) (i : ℕ) (x : A) → i < length xs → get_or xs i x ≡ x → slice_get xs i ≡ Some x
get-some xs i x within is = slice_get-get_or xs i x within ∙ ap Some is

-- the experiment that lines are for became another
pub moves : (P : Answer → KeptOpen → KeptOpen → Type 0) (a : Answer) (old new : KeptSession) (o p : KeptOpen) →
    new.opened ≡ set old.opened old.current p → new.current ≡ old.current → new.left ≡ old.left → new.traces ≡ old.traces → old.current < length old.opened → get_or old.opened old.current o ≡ o →
    P a o p → Moves P a old new
moves P a old new o p opened current left traces within found by = record {
  before = o;
  after = p;
  current = get-some old.opened old.current o within found;
  moved = λ i. record { opened = opened i; current = current i; left = left i; traces = traces i };
  by = by;
}

same-by : (f : Option Cause) (a : Answer) (P Q : Type 0) → (P → Q) → Answers f a P → Answers f a Q
same-by None a P Q g h = h
same-by (Some c) a P Q g h = (h.0, g h.1)

-- a fault of the experiment that lines are for
pub current-fault : (f : KeptOpen → Option Cause) (a : Answer) (old : KeptSession) (o p : KeptOpen) (kept : Type 0) → old.current < length old.opened → get_or old.opened old.current o ≡ o →
    Answers (f o) a ((p ≡ o) × kept) → Answers (of_current f (current_of old)) a ((record { opened = set old.opened old.current p; current = old.current; left = old.left; traces = old.traces } ≡ old) × kept)
current-fault f a old o p kept within found h =
    let back : p ≡ o → record { opened = set old.opened old.current p; current = old.current; left = old.left; traces = old.traces } ≡ old = λ same.
    ap (λ (l : List KeptOpen). record { opened = l; current = old.current; left = old.left; traces = old.traces })
    (ap (λ (q : KeptOpen). set old.opened old.current q) (same ∙ sym found) ∙ set-get_or old.opened old.current o) in
    subst (λ (c : Option KeptOpen). Answers (of_current f c) a ((record { opened = set old.opened old.current p; current = old.current; left = old.left; traces = old.traces } ≡ old) × kept))
    (sym (get-some old.opened old.current o within found))
    (same-by (f o) a ((p ≡ o) × kept) ((record { opened = set old.opened old.current p; current = old.current; left = old.left; traces = old.traces } ≡ old) × kept) (λ (x : (p ≡ o) × kept). (back x.0, x.1)) h)

-- what is said where a line is taken
abbrev pub Says : Answer → KeptSession → List ℕ → List ℕ → Type 0
Says a s mid last = (more : Option Answer) × (last ≡ mid ++ answer_with a more) × IsAdded (current_of s) a more

-- what was said of a line that was taken
pub does-said : (f : Option Cause) (a : Answer) (s : KeptSession) (first mid last : List ℕ) (P : List ℕ → Answer → Type 0) →
    ((IsFault a → ⊥) → (bytes : List ℕ) × (mid ≡ first ++ bytes) × P bytes a) → f ≡ fault_of a → ((IsFault a → ⊥) → Says a s mid last) → f ≡ None →
    (said : List ℕ) × (last ≡ first ++ said) × IsSaid said s P
does-said f a s first mid last P did is says none =
    let fine : IsFault a → ⊥ = no-fault a (sym is ∙ none) in
    let h = did fine in
    let m = says fine in (
      h.0 ++ answer_with a m.0,
      m.1 ∙ ap (λ (l : List ℕ). l ++ answer_with a m.0) h.1 ∙ append_assoc first h.0 (answer_with a m.0),
      (h.0, a, m.0, refl, m.2, h.2),
    )

-- ---- what a line says
pub hears-nothing : (line : List ℕ) (s : KeptSession) → IsEntry line Nothing → Hears line [] s s
hears-nothing line s is on e before text says h =
    subst (λ (x : Entry). TellsAll on (experiments (x ∷ before)) (text ++ []) s) (sym (is.only e says))
    (subst (λ (l : List ℕ). TellsAll on (experiments before) l s) (sym (append-nil text)) h)

hears-begin : (line name : List ℕ) (spec : Spec) (bytes : List ℕ) (old new : KeptSession) → IsEntry line (Begins name spec) →
    Grows (λ es. es ++ begun name spec ∷ []) bytes old new → Hears line bytes old new
hears-begin line name spec bytes old new is grows on e before text says h =
    subst (λ (x : Entry). TellsAll on (experiments (x ∷ before)) (text ++ bytes) new) (sym (is.only e says)) (grows on (experiments before) text h)

hears-command : (line : List ℕ) (c : Timed) (bytes : List ℕ) (old new : KeptSession) → IsEntry line (Does c) →
    Grows (λ es. with_last es c) bytes old new → Hears line bytes old new
hears-command line c bytes old new is grows on e before text says h =
    subst (λ (x : Entry). TellsAll on (experiments (x ∷ before)) (text ++ bytes) new) (sym (is.only e says)) (grows on (experiments before) text h)

pub heard-begin : {T : Type 0} (P : T → Type 0) (line name : List ℕ) (spec : Spec) (old new : KeptSession) (first last : List ℕ) (r : Result T AllocError) → IsEntry line (Begins name spec) →
    IfOk r (λ f. P f → (ps : List Piece) × (last ≡ first ++ flat_map written ps) × (AllByRecursion IsPlain ps → Grows (λ es. es ++ begun name spec ∷ []) (flat_map told ps) old new)) →
    IfOk r (λ f. P f → (ps : List Piece) × (last ≡ first ++ flat_map written ps) × (AllByRecursion IsPlain ps → Hears line (flat_map told ps) old new))
heard-begin P line name spec old new first last (Ok x) is h = λ p. let g = h p in (g.0, g.1, λ plain. hears-begin line name spec (flat_map told g.0) old new is (g.2 plain))
heard-begin P line name spec old new first last (Err x) is h = h

pub heard-command : {T : Type 0} (P : T → Type 0) (line : List ℕ) (c : Timed) (old new : KeptSession) (first last : List ℕ) (r : Result T AllocError) → IsEntry line (Does c) →
    IfOk r (λ f. P f → (ps : List Piece) × (last ≡ first ++ flat_map written ps) × (AllByRecursion IsPlain ps → Grows (λ es. with_last es c) (flat_map told ps) old new)) →
    IfOk r (λ f. P f → (ps : List Piece) × (last ≡ first ++ flat_map written ps) × (AllByRecursion IsPlain ps → Hears line (flat_map told ps) old new))
heard-command P line c old new first last (Ok x) is h = λ p. let g = h p in (g.0, g.1, λ plain. hears-command line c (flat_map told g.0) old new is (g.2 plain))
heard-command P line c old new first last (Err x) is h = h

-- ---- taking a line
made : (b : Bool) (x : ℕ) (ls : List (List ℕ)) → (m : List ℕ) × (ms : List (List ℕ)) × (cond b ([] ∷ ls) (onto_first x ls) ≡ m ∷ ms)
made true x ls = ([], ls, refl)
made false x [] = (x ∷ [], [], refl)
made false x (l ∷ ls) = (x ∷ l, ls, refl)

some_part : (xs : List ℕ) → (m : List ℕ) × (ms : List (List ℕ)) × (parts 32 xs ≡ m ∷ ms)
some_part [] = ([], [], refl)
some_part (x ∷ xs) = made (eqb x 32) x (parts 32 xs)

skipped : (rest : List ℕ) → is_skipped (words (35 ∷ 62 ∷ rest)) ≡ true
skipped rest = let p = some_part rest in ap (λ (ps : List (List ℕ)). is_skipped (filter is_word (onto_first 35 (onto_first 62 ps)))) p.2

pub taken-request : LinesSayOne → (line asked : List ℕ) (old new : KeptSession) (first last : List ℕ) → line ≡ codes "#>" ++ asked → Some asked ≡ asked_of line →
    ((ps : List Piece) × (last ≡ first ++ flat_map written ps) × (AllByRecursion IsPlain ps → Asks (request_of asked) (flat_map told ps) old new)) →
    (ps : List Piece) × (last ≡ first ++ flat_map written ps) × Takes line ps old new
taken-request one line asked old new first last is asks (ps, wrote, grows) = (
  ps,
  wrote,
  record {
    hears = λ plain was on e before text turns early says h.
        subst (λ (x : Entry). TellsAll on (experiments (x ∷ before)) (text ++ flat_map told ps) new)
        (one line Nothing e (inl (ap (λ (l : List ℕ). is_skipped (words l)) is ∙ skipped asked, refl)) says)
        (grows plain was on (experiments before) text (subst (λ (o : Option (List ℕ)). TurnsIn o was on) (sym asks) turns) early h);
  },
)

pub taken-line : (line : List ℕ) (old new : KeptSession) (first last : List ℕ) → None ≡ asked_of line →
    ((ps : List Piece) × (last ≡ first ++ flat_map written ps) × (AllByRecursion IsPlain ps → Hears line (flat_map told ps) old new)) →
    (ps : List Piece) × (last ≡ first ++ flat_map written ps) × Takes line ps old new
taken-line line old new first last asks (ps, wrote, hears) = (
  ps,
  wrote,
  record {
    hears = λ plain was on e before text turns early says h.
        subst (λ (b : Bool). TellsAll b (experiments (e ∷ before)) (text ++ flat_map told ps) new)
        (subst (λ (o : Option (List ℕ)). TurnsIn o was on) (sym asks) turns)
        (hears plain was e before text says h);
  },
)
