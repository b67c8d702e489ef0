-- What was told of a whole text is the reports of its scenario.
use Rattle.std.proofs.Common.{◌≡◌, inl, inr, ℕ, map, Bool, true, false, List, [], ◌∷◌, ◌++◌, refl, sym, ap, ◌∙◌, subst, append-nil}
use Rattle.std.specs.Prelude.{flat_map, All, Ok, Option, Some, None}
use Rattle.std.specs.List.{AllByRecursion}
use Rattle.std.proofs.lemmas.List.Elements.{recursion_from_All}
use Rattle.std.specs.Io.KnownBytes.{Appends, Consumes, IsAtEnd}
use Rattle.std.proofs.KnownBytes.{Consumes-trans}
use Rattle.emu_model.specs.declared.commands.Spec.{Spec}
use Rattle.emu_model.specs.declared.commands.Timed.{Timed}
use Rattle.control.specs.declared.scenario.Experiment.{Experiment as Script}
use Rattle.control.specs.Scenario.{experiments, AreSpelled, Spells}
use Rattle.control_lines.specs.Entries.{Entry}
use Rattle.control_words.specs.Text.{lines}
use Rattle.session.specs.declared.open.Phase.{Phase}
use Rattle.session.specs.declared.open.Phase.TheVariants.{Going, Over, Lost}
use Rattle.session.specs.RunLaws.{report_of_commands}
use Rattle.session.specs.Opens.{KeptOpen, IsToldIn}
use Rattle.session.specs.Requests.{asked_of}
use Rattle.session.specs.Sessions.{Piece, IsPlain, Stand, IsSoFar, TellsAll, Turns, told, written}
use Rattle.session.specs.Tracing.{run_as, run_all_as}
use Rattle.control.specs.Traced.{traced}
use Rattle.alone.specs.Conversations.{Hinting, with_earlier}
use Rattle.alone.specs.Reports.{report_alone, reports}
use Rattle.alone.specs.Talks.{KeptTalk, AsksForAll, Say, TurnsAll, Heard, IsEnding, IsKept}
use Rattle.alone.proofs.Talking.{never}
use Rattle.alone.proofs.Hearing.{HasRead, all_written}

-- what the lines of a scenario say, one after the other
spelled : (done : List (List ℕ)) (l : List ℕ) (ls : List (List ℕ)) (es : List Script) → AreSpelled [] (with_earlier done (l ∷ ls)) es →
    (before : List Entry) × Say done before × AreSpelled before (l ∷ ls) es
spelled [] l ls es h = ([], tt, h)
spelled (line ∷ done) l ls es h =
    let k = spelled done line (l ∷ ls) es h in
    let e = k.2 in
    (e.0 ∷ k.0, (e.2, k.1), e.3)

spelled_done : (before : List Entry) (es : List Script) → AreSpelled before ([] ∷ []) es → experiments before ≡ es
spelled_done before es h = h.2

-- the experiment of a stand as it runs
abbrev ran : Bool → Stand → Script
ran on x = run_as on x.experiment

named-as : (on : Bool) (e : Script) → e.name ≡ (run_as on e).name
named-as true e = refl
named-as false e = refl

by-phase : (on : Bool) (x : Stand) (p : Phase) → x.kept.phase ≡ p → IsSoFar on x → x.kept.is_closed ≡ true → IsToldIn p (ran on x).commands x.text x.kept → x.text ≡ report_alone (ran on x)
by-phase on x Going is h closed t = absurd (never x.kept.is_closed closed t.unclosed)
by-phase on x Over is h closed t =
    t [] closed
    ∙ ap (λ (n : List ℕ). report_of_commands n x.kept.run.experiment.spec ((ran on x).commands ++ [])) (h.name ∙ named-as on x.experiment)
    ∙ ap (λ (s : Spec). report_of_commands (ran on x).name s ((ran on x).commands ++ [])) h.spec
    ∙ ap (λ (cs : List Timed). report_of_commands (ran on x).name (ran on x).spec cs) (append-nil (ran on x).commands)
by-phase on x Lost is h closed t = absurd t

closed-report : (on : Bool) (x : Stand) → IsSoFar on x → x.kept.is_closed ≡ true → x.text ≡ report_alone (ran on x)
closed-report on x h closed = by-phase on x x.kept.phase refl h closed h.told

whole-reports : (on : Bool) (xs : List Stand) → AllByRecursion (IsSoFar on) xs → AllByRecursion (λ (o : KeptOpen). o.is_closed ≡ true) (map (λ (x : Stand). x.kept) xs) →
    flat_map (λ (x : Stand). x.text) xs ≡ reports (map (ran on) xs)
whole-reports on [] h closed = refl
whole-reports on (x ∷ xs) h closed =
    ap (λ (l : List ℕ). l ++ flat_map (λ (y : Stand). y.text) xs) (closed-report on x h.0 closed.0)
    ∙ ap (λ (l : List ℕ). report_alone (ran on x) ++ l) (whole-reports on xs h.1 closed.1)

-- the experiments of stands as they run
traced-all : (xs : List Stand) → map (λ (x : Stand). traced x.experiment) xs ≡ map traced (map (λ (x : Stand). x.experiment) xs)
traced-all [] = refl
traced-all (x ∷ xs) = ap (λ (l : List Script). traced x.experiment ∷ l) (traced-all xs)

ran-all : (on : Bool) (xs : List Stand) → map (ran on) xs ≡ run_all_as on (map (λ (x : Stand). x.experiment) xs)
ran-all true xs = traced-all xs
ran-all false xs = refl

-- tracing after each line, by the lines of the text
turned-off : (done ls : List (List ℕ)) (before : List Entry) → Say done before → AllByRecursion (λ (line : List ℕ). Turns line false false) (with_earlier done ls) →
    TurnsAll false done before × AllByRecursion (λ (line : List ℕ). Turns line false false) ls
turned-off [] ls before say h = (refl, h)
turned-off (line ∷ done) ls [] say h = absurd say
turned-off (line ∷ done) ls (e ∷ before) say h =
    let k = turned-off done (line ∷ ls) before say.1 h in ((false, k.1.0, inl refl, k.0), k.1.1)

turned-on : (line : List ℕ) (done ls : List (List ℕ)) (before : List Entry) → Say (line ∷ done) before → AsksForAll true (with_earlier (line ∷ done) ls) →
    TurnsAll true (line ∷ done) before × AllByRecursion (λ (line : List ℕ). Turns line true true) ls
turned-on line done ls [] say h = absurd say
turned-on line [] ls (e ∷ []) say h = ((false, h.0, inr refl, refl), h.1)
turned-on line [] ls (e ∷ f ∷ before) say h = absurd say.1
turned-on line (later ∷ done) ls (e ∷ before) say h =
    let k = turned-on later done (line ∷ ls) before say.1 h in ((true, k.1.0, inl refl, k.0), k.1.1)

never-on : false ≡ true → ⊥
never-on is = absurd (cc)

turned : (on : Bool) (done : List (List ℕ)) (before : List Entry) → Say done before → AsksForAll on (with_earlier done ([] ∷ [])) → TurnsAll on done before
unfolding asked_of
turned false done before say h = (turned-off done ([] ∷ []) before say h).0
turned true [] before say h = absurd (never-on h.0)
turned true (line ∷ done) before say h = (turned-on line done ([] ∷ []) before say h).0

-- of a whole text the reports were told
told-reports : (hinting : Hinting) (steps : Option ℕ) (text : List ℕ) (ps : List Piece) (t : KeptTalk) → Heard hinting steps text ps t → t.part ≡ [] → t.is_skipping ≡ false →
    All (λ (o : KeptOpen). o.is_closed ≡ true) t.session.opened →
    (es : List Script) (on : Bool) → Spells text es → AsksForAll on (lines text) → AllByRecursion IsPlain ps → flat_map told ps ≡ reports (run_all_as on es)
told-reports hinting steps text ps t h none takes closed es on spells asks plain =
    let c = h.says in
    let all : lines text ≡ with_earlier c.done ([] ∷ []) = c.lines_are ∙ ap (λ (l : List ℕ). with_earlier c.done (l ∷ [])) (last_none t.is_skipping c.last t.part h.kept takes none) in
    let said = spelled c.done [] [] es (subst (λ (ls : List (List ℕ)). AreSpelled [] ls es) all spells.1) in
    let turns : TurnsAll on c.done said.0 = turned on c.done said.0 said.1 (subst (AsksForAll on) all asks) in
    let tells : TellsAll on (experiments said.0) (flat_map told ps) t.session = h.heard on said.0 said.1 turns plain in
    let ended : AllByRecursion (λ (o : KeptOpen). o.is_closed ≡ true) (map (λ (x : Stand). x.kept) tells.stands) =
    subst (AllByRecursion (λ (o : KeptOpen). o.is_closed ≡ true)) tells.opened_are (recursion_from_All (λ (o : KeptOpen). o.is_closed ≡ true) t.session.opened closed) in
    tells.text_is ∙ whole-reports on tells.stands tells.each ended
    ∙ ap reports (ran-all on tells.stands ∙ ap (run_all_as on) (sym tells.experiments_are ∙ spelled_done said.0 es said.2))
  where
    last_none : (b : Bool) (last part : List ℕ) → IsKept b last part → b ≡ false → part ≡ [] → last ≡ []
    last_none false last part kept takes none = sym kept.1 ∙ none
    last_none true last part kept takes none = absurd (cc)

of_some : Option (List ℕ) → List ℕ
of_some None = []
of_some (Some xs) = xs

same : (xs ys : List ℕ) → Some xs ≡ Some ys → xs ≡ ys
unfolding of_some
same xs ys e = ap of_some e

whole : (unread left : Option (List ℕ)) (text bytes : List ℕ) → unread ≡ Some text → Consumes unread left bytes → IsAtEnd left → bytes ≡ text
whole None left text bytes is took end = absurd (cc)
whole (Some xs) None text bytes is took end = absurd took
whole (Some xs) (Some ys) text bytes is took end = sym (append-nil bytes) ∙ ap (λ (l : List ℕ). bytes ++ l) (sym end) ∙ sym took ∙ same xs text is

-- all was read
pub tells-all : {A : Type 0} (gives : A → List ℕ → A → Type 0) (hinting : Hinting) (steps : Option ℕ) (first now : A) (unread rest left v w : Option (List ℕ)) (t : KeptTalk) (n : ℕ) (text : List ℕ) →
    HasRead gives hinting steps first now unread rest v w t n → unread ≡ Some text → Consumes rest left [] → IsAtEnd left → IsEnding t (Ok tt) →
    (ps : List Piece) × Appends v w (flat_map written ps) × ((es : List Script) (on : Bool) → Spells text es → AsksForAll on (lines text) → AllByRecursion IsPlain ps → flat_map told ps ≡ reports (run_all_as on es))
tells-all gives hinting steps first now unread rest left v w t n text h is took end ending =
    let all : h.text ≡ text = whole unread left text h.text is (subst (Consumes unread left) (append-nil h.text) (Consumes-trans unread rest left h.text [] h.took took)) end in (
      h.ps,
      all_written gives hinting steps first unread v w h.ps h.puts,
      told-reports hinting steps text h.ps t (subst (λ (l : List ℕ). Heard hinting steps l h.ps t) all h.heard) ending.0 ending.1 ending.2,
    )
