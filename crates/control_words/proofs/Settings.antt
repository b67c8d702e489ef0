-- Options are read as just those options.
use Rattle.std.proofs.Common.{◌≡◌, inl, inr, ℕ, ◌≤◌, Bool, true, false, List, [], ◌∷◌, ◌++◌, length, Option, Some, None, refl, sym, ap, subst, ◌∙◌, arith, append_assoc, length-append, append-nil}
use Rattle.std.specs.Str.{bytes_eq}
use Rattle.std.proofs.lemmas.Option.{same_Some, none-some, some_pair_parts}
use lib.Chars.{codes}
use Rattle.control_words.specs.Words.{Words, ◌>>=◌, said}
use Rattle.control_words.specs.Numbers.{rate_of, delay_of, queue_of, fraction_of}
use Rattle.control_words.specs.Phrases.{next_phrase, phrases}
use Rattle.control_words.specs.Options.{is_time, time_at, put_time, no_times, times_of, is_field, field_at, put_field, no_fields, some_fields, mask_fields_of, mask_of, mask_at, codel_at, bare_of, bare_at, setting_at, put_setting, no_options, any_word, options_of, flow_setting_at, put_flow_setting, no_flow_options, flow_options_of}
use Rattle.control_words.specs.Grammar.{Are, IsTime, HasTimes, IsField, IsMask, bare_word, IsSetting, AreOptions, IsFlowSetting, AreFlowOptions}
use Rattle.control_words.proofs.Phrases.{bind_some, chosen, put_all, Finds, Shrinks, phrase_is, phrases_found, nothing_left, phrases_again}
use Rattle.control_words.proofs.Pairs.{key_is, pair_found}
use Rattle.control_words.proofs.PhraseKinds.{time_shrinks, time_finds, time_again, has_times, puts_times, field_shrinks, field_finds, field_again, has_fields, puts_fields, has_settings, puts_settings, flow_setting_shrinks, flow_setting_finds, flow_setting_again, has_flow_settings, puts_flow_settings}
use Rattle.control_words.specs.declared.raw_options.Time.{Time}
use Rattle.control_words.specs.declared.raw_options.RawCodel.{RawCodel}
use Rattle.control_words.specs.declared.raw_options.Field.{Field}
use Rattle.control_words.specs.declared.raw_options.RawFields.{RawFields}
use Rattle.control_words.specs.declared.raw_options.RawMask.{RawMask}
use Rattle.control_words.specs.declared.raw_options.RawMask.TheVariants.{Everything, Fields}
use Rattle.control_words.specs.declared.raw_options.BareDiscipline.{BareDiscipline}
use Rattle.control_words.specs.declared.raw_options.BareDiscipline.TheVariants.{TailDrop}
use Rattle.control_words.specs.declared.raw_options.RawDiscipline.TheVariants.{Bare, ControlledDelay}
use Rattle.control_words.specs.declared.raw_options.Setting.{Setting}
use Rattle.control_words.specs.declared.raw_options.Setting.TheVariants.{Bw, Delay, Queue, Plr, Mask, Discipline}
use Rattle.control_words.specs.declared.raw_options.RawConfig.{RawConfig}
use Rattle.control_words.specs.declared.raw_options.RawFlowOptions.{RawFlowOptions}

-- ---- found
abbrev some_pair : {A B : Type 0} → A → B → Option (A × B)
some_pair a b = Some (a, b)

-- a mask in front of the words
abbrev MaskFound : Words → RawMask → Words → Type 0
MaskFound ws m rest = (front : Words) × (ws ≡ front ++ rest) × IsMask front m

fields_found : (ws : Words) (m : RawMask) (rest : Words) → mask_fields_of ws ≡ Some (m, rest) → MaskFound ws m rest
fields_found ws m rest e =
    let end : RawMask × Words = (m, rest) in
    let next = bind_some (next_phrase is_field field_at ws) _ end e in
    let fields = bind_some (some_fields next.0) _ end next.2 in
    let first = bind_some next.0.0 _ fields.0 fields.1 in
    let one = bind_some (put_field no_fields first.0) _ fields.0 first.2 in
    let q = some_pair_parts (Fields fields.0.0) m fields.0.1 rest fields.2 in
    let comes : next_phrase is_field field_at ws ≡ Some (Some first.0, next.0.1) = next.1 ∙ ap (λ (o : Option Field). some_pair o next.0.1) first.1 in
    let phrase = phrase_is is_field field_at first.0 ws next.0.1 comes in
    let front = field_finds phrase.0 phrase.1 first.0 next.0.1 phrase.4 in
    let more = phrases_found is_field field_at put_field IsField field_finds one.0 next.0.1 fields.0.0 fields.0.1 one.2 in
    let words : ws ≡ (front.0 ++ more.front) ++ rest = phrase.2 ∙ front.1 ∙ ap (λ (w : Words). front.0 ++ w) (more.words ∙ ap (λ (w : Words). more.front ++ w) q.1) ∙ sym (append_assoc front.0 more.front rest) in
    let sets : put_all put_field no_fields (first.0 ∷ more.all) ≡ Some fields.0.0 = ap (λ (o : Option RawFields). o >>= λ b. put_all put_field b more.all) one.1 ∙ more.sets in
    (front.0 ++ more.front, words, subst (λ (x : RawMask). IsMask (front.0 ++ more.front) x) q.0 (first.0, more.all, (front.0, more.front, refl, front.2, more.are), has_fields (first.0 ∷ more.all) fields.0.0 sets))

mask_found : (ws : Words) (m : RawMask) (rest : Words) → mask_of ws ≡ Some (m, rest) → MaskFound ws m rest
unfolding mask_of
mask_found [] m rest e = absurd cc
mask_found (k ∷ ws) m rest e =
    let end : RawMask × Words = (m, rest) in
    elim (chosen (bytes_eq k (codes "all")) _ _ (Some end) e) [
      | inl p ↦
          let q = some_pair_parts Everything m ws rest p.1 in
          (k ∷ [], ap (λ (w : Words). k ∷ w) q.1, subst (λ (x : RawMask). IsMask (k ∷ []) x) q.0 (ap (λ (w : List ℕ). w ∷ []) (key_is k (codes "all") p.0)))
      | inr p ↦ fields_found (k ∷ ws) m rest p.1
    ]

-- an option in front of the words, behind its first word
abbrev SettingFound : List ℕ → Words → Setting → Words → Type 0
SettingFound k ws s rest = (front : Words) × (k ∷ ws ≡ front ++ rest) × IsSetting front s

pair_setting : {A : Type 0} (key : List ℕ) (says : List ℕ → Option A) (thing : A → Setting) (k : List ℕ) (ws : Words) (s : Setting) (rest : Words) → ((v : List ℕ) (a : A) → says v ≡ Some a → IsSetting (key ∷ v ∷ []) (thing a)) → bytes_eq k key ≡ true → said says thing ws ≡ Some (s, rest) → SettingFound k ws s rest
pair_setting key says thing k ws s rest holds is e =
    let p = pair_found key says thing IsSetting k ws s rest holds is e in
    (k ∷ p.0 ∷ [], ap (λ (w : Words). k ∷ w) p.1, p.2)

mask_setting : (k : List ℕ) (ws : Words) (s : Setting) (rest : Words) → k ≡ codes "mask" → mask_at ws ≡ Some (s, rest) → SettingFound k ws s rest
mask_setting k ws s rest is e =
    let end : Setting × Words = (s, rest) in
    let m = bind_some (mask_of ws) _ end e in
    let q = some_pair_parts (Mask m.0.0) s m.0.1 rest m.2 in
    let f = mask_found ws m.0.0 m.0.1 m.1 in
    (k ∷ f.0, ap (λ (w : Words). k ∷ w) (f.1 ∙ ap (λ (w : Words). f.0 ++ w) q.1), subst (λ (x : Setting). IsSetting (k ∷ f.0) x) q.0 (f.0, ap (λ (w : List ℕ). w ∷ f.0) is, f.2))

codel_setting : (k : List ℕ) (ws : Words) (s : Setting) (rest : Words) → k ≡ codes "codel" → codel_at ws ≡ Some (s, rest) → SettingFound k ws s rest
codel_setting k ws s rest is e =
    let end : Setting × Words = (s, rest) in
    let c = bind_some (times_of no_times ws) _ end e in
    let q = some_pair_parts (Discipline (ControlledDelay c.0.0)) s c.0.1 rest c.2 in
    let f = phrases_found is_time time_at put_time IsTime time_finds no_times ws c.0.0 c.0.1 c.1 in
    (k ∷ f.front, ap (λ (w : Words). k ∷ w) (f.words ∙ ap (λ (w : Words). f.front ++ w) q.1), subst (λ (x : Setting). IsSetting (k ∷ f.front) x) q.0 (f.front, f.all, ap (λ (w : List ℕ). w ∷ f.front) is, f.are, has_times f.all c.0.0 f.sets))

-- the word of a discipline without options
bare_found : (k : List ℕ) (bare : BareDiscipline) → bare_of k ≡ Some bare → k ≡ bare_word bare
bare_found k bare e =
    elim (chosen (bytes_eq k (codes "droptail")) _ _ (Some bare) e) [
      | inl p ↦ subst (λ (b : BareDiscipline). k ≡ bare_word b) (same_Some TailDrop bare p.1) (key_is k (codes "droptail") p.0)
      | inr p ↦ absurd (none-some bare p.1)
    ]

bare_setting : (k : List ℕ) (ws : Words) (s : Setting) (rest : Words) → bare_at k ws ≡ Some (s, rest) → SettingFound k ws s rest
bare_setting k ws s rest e =
    let end : Setting × Words = (s, rest) in
    let b = bind_some (bare_of k) _ end e in
    let q = some_pair_parts (Discipline (Bare b.0)) s ws rest b.2 in
    (k ∷ [], ap (λ (w : Words). k ∷ w) q.1, subst (λ (x : Setting). IsSetting (k ∷ []) x) q.0 (ap (λ (w : List ℕ). w ∷ []) (bare_found k b.0 b.1)))

setting_finds : Finds IsSetting setting_at
unfolding setting_at
setting_finds k ws s rest e =
    let end : Setting × Words = (s, rest) in
    elim (chosen (bytes_eq k (codes "bw")) _ _ (Some end) e) [
      | inl p ↦ pair_setting (codes "bw") rate_of Bw k ws s rest (λ v n h. (v, refl, h)) p.0 p.1
      | inr a ↦ elim (chosen (bytes_eq k (codes "delay")) _ _ (Some end) a.1) [
        | inl p ↦ pair_setting (codes "delay") delay_of Delay k ws s rest (λ v n h. (v, refl, h)) p.0 p.1
        | inr b ↦ elim (chosen (bytes_eq k (codes "queue")) _ _ (Some end) b.1) [
          | inl p ↦ pair_setting (codes "queue") queue_of Queue k ws s rest (λ v n h. (v, refl, h)) p.0 p.1
          | inr c ↦ elim (chosen (bytes_eq k (codes "plr")) _ _ (Some end) c.1) [
            | inl p ↦ pair_setting (codes "plr") fraction_of Plr k ws s rest (λ v n h. (v, refl, h)) p.0 p.1
            | inr d ↦ elim (chosen (bytes_eq k (codes "mask")) _ _ (Some end) d.1) [
              | inl p ↦ mask_setting k ws s rest (key_is k (codes "mask") p.0) p.1
              | inr f ↦ elim (chosen (bytes_eq k (codes "codel")) _ _ (Some end) f.1) [
                | inl p ↦ codel_setting k ws s rest (key_is k (codes "codel") p.0) p.1
                | inr p ↦ bare_setting k ws s rest p.1
              ]
            ]
          ]
        ]
      ]
    ]

-- an option has a word at least
has_word : (front : Words) (s : Setting) → IsSetting front s → 1 ≤ length front
has_word front (Bw n) h = omega (arith, ap length h.1)
has_word front (Delay n) h = omega (arith, ap length h.1)
has_word front (Queue n) h = omega (arith, ap length h.1)
has_word front (Plr n) h = omega (arith, ap length h.1)
has_word front (Mask m) h = omega (arith, ap length h.1)
has_word front (Discipline (Bare b)) h = omega (arith, ap length h)
has_word front (Discipline (ControlledDelay c)) h = omega (arith, ap length h.2)

pub setting_shrinks : Shrinks setting_at
setting_shrinks k ws s rest e =
    let f = setting_finds k ws s rest e in
    omega (arith, ap length f.1, length-append f.0 rest, has_word f.0 s f.2)

-- what is read as options are options
pub options_found : (ws : Words) (d : RawConfig) → options_of ws ≡ Some d → AreOptions ws d
unfolding options_of
options_found ws d e =
    let all = bind_some (phrases any_word setting_at put_setting no_options ws) _ d e in
    let f = phrases_found any_word setting_at put_setting IsSetting setting_finds no_options ws all.0.0 all.0.1 all.1 in
    let none = nothing_left setting_at put_setting setting_shrinks no_options ws all.0.0 all.0.1 all.1 in
    let words : f.front ≡ ws = sym (f.words ∙ ap (λ (w : Words). f.front ++ w) none ∙ append-nil f.front) in
    (f.all, subst (λ (w : Words). Are IsSetting w f.all) words f.are, has_settings f.all d (f.sets ∙ all.2))

pub flow_options_found : (ws : Words) (d : RawFlowOptions) → flow_options_of ws ≡ Some d → AreFlowOptions ws d
unfolding flow_options_of
flow_options_found ws d e =
    let all = bind_some (phrases any_word flow_setting_at put_flow_setting no_flow_options ws) _ d e in
    let f = phrases_found any_word flow_setting_at put_flow_setting IsFlowSetting flow_setting_finds no_flow_options ws all.0.0 all.0.1 all.1 in
    let none = nothing_left flow_setting_at put_flow_setting flow_setting_shrinks no_flow_options ws all.0.0 all.0.1 all.1 in
    let words : f.front ≡ ws = sym (f.words ∙ ap (λ (w : Words). f.front ++ w) none ∙ append-nil f.front) in
    (f.all, subst (λ (w : Words). Are IsFlowSetting w f.all) words f.are, has_flow_settings f.all d (f.sets ∙ all.2))

-- ---- again
-- no time and no field of a mask comes next
abbrev Free : Words → Type 0
Free [] = Unit {0}
Free (k ∷ ws) = (is_time k ≡ false) × (is_field k ≡ false)

bare_free : (b : BareDiscipline) → (is_time (bare_word b) ≡ false) × (is_field (bare_word b) ≡ false)
unfolding is_time is_field
bare_free TailDrop = (refl, refl)

free_setting : (front rest : Words) (s : Setting) → IsSetting front s → Free (front ++ rest)
unfolding is_time is_field
free_setting front rest (Bw n) h = subst (λ (f : Words). Free (f ++ rest)) (sym h.1) (refl, refl)
free_setting front rest (Delay n) h = subst (λ (f : Words). Free (f ++ rest)) (sym h.1) (refl, refl)
free_setting front rest (Queue n) h = subst (λ (f : Words). Free (f ++ rest)) (sym h.1) (refl, refl)
free_setting front rest (Plr n) h = subst (λ (f : Words). Free (f ++ rest)) (sym h.1) (refl, refl)
free_setting front rest (Mask m) h = subst (λ (f : Words). Free (f ++ rest)) (sym h.1) (refl, refl)
free_setting front rest (Discipline (Bare b)) h = subst (λ (f : Words). Free (f ++ rest)) (sym h) (bare_free b)
free_setting front rest (Discipline (ControlledDelay c)) h = subst (λ (f : Words). Free (f ++ rest)) (sym h.2) (refl, refl)

times_stop : (rest : Words) → Free rest → next_phrase is_time time_at rest ≡ Some (None, rest)
times_stop [] h = refl
times_stop (k ∷ ws) h = rw h.0 refl

fields_stop : (rest : Words) → Free rest → next_phrase is_field field_at rest ≡ Some (None, rest)
fields_stop [] h = refl
fields_stop (k ∷ ws) h = rw h.1 refl

abbrev Anything : Words → Type 0
Anything ws = Unit {0}

codel_again : (front rest : Words) (times : List Time) (c : RawCodel) → Are IsTime front times → HasTimes times c → Free rest → times_of no_times (front ++ rest) ≡ Some (c, rest)
codel_again front rest times c are has free =
    phrases_again is_time time_at put_time time_shrinks IsTime Anything (λ f r a p m. time_again f r a p) (λ f r a p. tt) times no_times c front rest are (puts_times times c has) tt (times_stop rest free)

not_all_at : (k : List ℕ) (ws : Words) (b : Bool) → bytes_eq k (codes "all") ≡ b → is_field k ≡ true → mask_of (k ∷ ws) ≡ mask_fields_of (k ∷ ws)
unfolding mask_of is_field
not_all_at k ws true e f =
    let t : is_field (codes "all") ≡ true = subst (λ (x : List ℕ). is_field x ≡ true) (key_is k (codes "all") e) f in
    absurd cc
not_all_at k ws false e f = rw e refl

-- a field isn't `all`
not_all : (ws rest : Words) (a : Field) → next_phrase is_field field_at ws ≡ Some (Some a, rest) → mask_of ws ≡ mask_fields_of ws
unfolding mask_of is_field
not_all ws rest a e =
    let p = phrase_is is_field field_at a ws rest e in
    ap mask_of p.2 ∙ not_all_at p.0 p.1 (bytes_eq p.0 (codes "all")) refl p.3 ∙ ap mask_fields_of (sym p.2)

mask_again : (front rest : Words) (m : RawMask) → IsMask front m → Free rest → mask_of (front ++ rest) ≡ Some (m, rest)
unfolding mask_of
mask_again front rest Everything h free = ap (λ (f : Words). mask_of (f ++ rest)) h
mask_again front rest (Fields fields) h free =
    let are = h.2 in
    let after : Words = are.1 ++ rest in
    let words : front ++ rest ≡ are.0 ++ after = ap (λ (f : Words). f ++ rest) are.2 ∙ append_assoc are.0 are.1 rest in
    let comes : next_phrase is_field field_at (front ++ rest) ≡ Some (Some h.0, after) = ap (λ (w : Words). next_phrase is_field field_at w) words ∙ field_again are.0 after h.0 are.3 in
    let s = bind_some (put_field no_fields h.0) (λ x. put_all put_field x h.1) fields (puts_fields (h.0 ∷ h.1) fields h.3) in
    let more = phrases_again is_field field_at put_field field_shrinks IsField Anything (λ f r a p m. field_again f r a p) (λ f r a p. tt) h.1 s.0 fields are.1 rest are.4 s.2 tt (fields_stop rest free) in
    not_all (front ++ rest) after h.0 comes ∙ rw (comes, s.1, more) refl

bare_again : (b : BareDiscipline) (rest : Words) →
    next_phrase any_word setting_at (bare_word b ∷ rest) ≡ Some (Some (Discipline (Bare b)), rest)
unfolding setting_at
bare_again TailDrop rest = refl

setting_again : (front rest : Words) (s : Setting) → IsSetting front s → Free rest → next_phrase any_word setting_at (front ++ rest) ≡ Some (Some s, rest)
unfolding setting_at
setting_again front rest (Bw n) h free = ap (λ (f : Words). next_phrase any_word setting_at (f ++ rest)) h.1 ∙ rw h.2 refl
setting_again front rest (Delay n) h free = ap (λ (f : Words). next_phrase any_word setting_at (f ++ rest)) h.1 ∙ rw h.2 refl
setting_again front rest (Queue n) h free = ap (λ (f : Words). next_phrase any_word setting_at (f ++ rest)) h.1 ∙ rw h.2 refl
setting_again front rest (Plr n) h free = ap (λ (f : Words). next_phrase any_word setting_at (f ++ rest)) h.1 ∙ rw h.2 refl
setting_again front rest (Mask m) h free =
    let mask = mask_again h.0 rest m h.2 free in
    ap (λ (f : Words). next_phrase any_word setting_at (f ++ rest)) h.1 ∙ rw mask refl
setting_again front rest (Discipline (Bare b)) h free = ap (λ (f : Words). next_phrase any_word setting_at (f ++ rest)) h ∙ bare_again b rest
setting_again front rest (Discipline (ControlledDelay c)) h free =
    let codel = codel_again h.0 rest h.1 c h.3 h.4 free in
    ap (λ (f : Words). next_phrase any_word setting_at (f ++ rest)) h.2 ∙ rw codel refl

pub options_again : (ws : Words) (d : RawConfig) → AreOptions ws d → options_of ws ≡ Some d
unfolding options_of
options_again ws d h =
    let all : phrases any_word setting_at put_setting no_options (ws ++ []) ≡ Some (d, []) = phrases_again any_word setting_at put_setting setting_shrinks IsSetting Free setting_again free_setting h.0 no_options d ws [] h.1 (puts_settings h.0 d h.2) tt refl in
    let whole : phrases any_word setting_at put_setting no_options ws ≡ Some (d, []) = ap (λ (w : Words). phrases any_word setting_at put_setting no_options w) (sym (append-nil ws)) ∙ all in
    rw whole refl

pub flow_options_again : (ws : Words) (d : RawFlowOptions) → AreFlowOptions ws d → flow_options_of ws ≡ Some d
unfolding flow_options_of
flow_options_again ws d h =
    let all : phrases any_word flow_setting_at put_flow_setting no_flow_options (ws ++ []) ≡ Some (d, []) = phrases_again any_word flow_setting_at put_flow_setting flow_setting_shrinks IsFlowSetting Anything (λ f r a p m. flow_setting_again f r a p) (λ f r a p. tt) h.0 no_flow_options d ws [] h.1 (puts_flow_settings h.0 d h.2) tt refl in
    let whole : phrases any_word flow_setting_at put_flow_setting no_flow_options ws ≡ Some (d, []) = ap (λ (w : Words). phrases any_word flow_setting_at put_flow_setting no_flow_options w) (sym (append-nil ws)) ∙ all in
    rw whole refl
