-- Phrases in a row.
use Rattle.std.proofs.Common.{◌≡◌, ◌⊎◌, inl, inr, ℕ, ◌≤◌, ◌<◌, Bool, true, false, cond, List, [], ◌∷◌, ◌++◌, length, Option, Some, None, refl, sym, ap, subst, ◌∙◌, arith, append_assoc}
use Rattle.std.proofs.lemmas.Option.{same_Some, none-some, some_pair_parts}
use Rattle.control_words.specs.Words.{Words, ◌>>=◌}
use Rattle.control_words.specs.Phrases.{next_phrase, phrases_within, phrases}
use Rattle.control_words.specs.Options.{any_word}
use Rattle.control_words.specs.Grammar.{Are}

pub bind_some : {A B : Type 0} (o : Option A) (f : A → Option B) (y : B) → (o >>= f) ≡ Some y → (x : A) × (o ≡ Some x) × (f x ≡ Some y)
bind_some None f y e = absurd cc
bind_some (Some x) f y e = (x, refl, e)

bind_same : {A B : Type 0} (o : Option A) (f g : A → Option B) → ((x : A) → o ≡ Some x → f x ≡ g x) → (o >>= f) ≡ (o >>= g)
bind_same None f g h = refl
bind_same (Some x) f g h = h x refl

-- a phrase takes its words from the front
abbrev pub Shrinks : {A : Type 0} → (List ℕ → Words → Option (A × Words)) → Type 0
Shrinks {A = A} one = (k : List ℕ) (ws : Words) (a : A) (rest : Words) → one k ws ≡ Some (a, rest) → length rest ≤ length ws

-- more room changes nothing
same_within : {A C : Type 0} (starts : List ℕ → Bool) (one : List ℕ → Words → Option (A × Words)) (put : C → A → Option C) → Shrinks one → (r s : Words) (c : C) (ws : Words) → length ws ≤ length r → length ws ≤ length s → phrases_within starts one put r c ws ≡ phrases_within starts one put s c ws
same_within starts one put shrinks [] [] c ws h i = refl
same_within starts one put shrinks [] (y ∷ s) c [] h i = refl
same_within starts one put shrinks [] (y ∷ s) c (k ∷ ws) h i = absurd (omega arith)
same_within starts one put shrinks (x ∷ r) [] c [] h i = refl
same_within starts one put shrinks (x ∷ r) [] c (k ∷ ws) h i = absurd (omega arith)
same_within starts one put shrinks (x ∷ r) (y ∷ s) c [] h i = refl
same_within starts one put shrinks (x ∷ r) (y ∷ s) c (k ∷ ws) h i =
    ap (λ o. cond (starts k) o (Some (c, k ∷ ws))) (bind_same (one k ws) _ _ (λ a e. bind_same (put c a.0) _ _ (λ d f. same_within starts one put shrinks r s d a.1 (omega (arith, h, shrinks k ws a.0 a.1 e)) (omega (arith, i, shrinks k ws a.0 a.1 e)))))

step : {A C : Type 0} (starts : List ℕ → Bool) (one : List ℕ → Words → Option (A × Words)) (put : C → A → Option C) → Shrinks one → (c : C) (k : List ℕ) (ws : Words) → phrases starts one put c (k ∷ ws) ≡ cond (starts k) (one k ws >>= λ a. put c a.0 >>= λ d. phrases starts one put d a.1) (Some (c, k ∷ ws))
unfolding phrases
step starts one put shrinks c k ws =
    ap (λ o. cond (starts k) o (Some (c, k ∷ ws))) (bind_same (one k ws) _ _ (λ a e. bind_same (put c a.0) _ _ (λ d f. same_within starts one put shrinks ws a.1 d a.1 (shrinks k ws a.0 a.1 e) (omega arith))))

abbrev begun : {A : Type 0} → A × Words → Option (Option A × Words)
begun a = Some (Some a.0, a.1)

abbrev none_begun : {A : Type 0} → Words → Option (Option A × Words)
none_begun ws = Some (None, ws)

-- no phrase comes next
stops_at : {A C : Type 0} (b : Bool) (o : Option (A × Words)) (f : A × Words → Option (C × Words)) (c : C) (ws rest : Words) → cond b (o >>= begun) (none_begun ws) ≡ none_begun rest → cond b (o >>= f) (Some (c, ws)) ≡ Some (c, rest)
stops_at true None f c ws rest e = absurd cc
stops_at true (Some a) f c ws rest e = let p = some_pair_parts (Some a.0) None a.1 rest e in absurd (none-some a.0 (sym p.0))
stops_at {A = A} false o f c ws rest e =
    let nothing : Option A = None in
    ap (λ w. Some (c, w)) (some_pair_parts nothing nothing ws rest e).1

pub stops : {A C : Type 0} (starts : List ℕ → Bool) (one : List ℕ → Words → Option (A × Words)) (put : C → A → Option C) → Shrinks one → (c : C) (ws rest : Words) → next_phrase starts one ws ≡ Some (None, rest) → phrases starts one put c ws ≡ Some (c, rest)
unfolding phrases
stops {A = A} starts one put shrinks c [] rest e =
    let nothing : Option A = None in
    ap (λ w. Some (c, w)) (some_pair_parts nothing nothing [] rest e).1
stops starts one put shrinks c (k ∷ ws) rest e = step starts one put shrinks c k ws ∙ stops_at (starts k) (one k ws) _ c (k ∷ ws) rest e

-- a phrase comes next
begins_at : {A C : Type 0} (b : Bool) (o : Option (A × Words)) (f : A × Words → Option (C × Words)) (c : C) (a : A) (ws rest : Words) → cond b (o >>= begun) (none_begun ws) ≡ begun (a, rest) → cond b (o >>= f) (Some (c, ws)) ≡ f (a, rest)
begins_at true None f c a ws rest e = absurd cc
begins_at true (Some x) f c a ws rest e =
    let p = some_pair_parts (Some x.0) (Some a) x.1 rest e in
    rw (← same_Some x.0 a p.0, ← p.1) refl
begins_at {A = A} false o f c a ws rest e =
    let nothing : Option A = None in
    absurd (none-some a (some_pair_parts nothing (Some a) ws rest e).0)

pub begins : {A C : Type 0} (starts : List ℕ → Bool) (one : List ℕ → Words → Option (A × Words)) (put : C → A → Option C) → Shrinks one → (c : C) (a : A) (ws rest : Words) → next_phrase starts one ws ≡ Some (Some a, rest) → phrases starts one put c ws ≡ (put c a >>= λ d. phrases starts one put d rest)
begins {A = A} starts one put shrinks c a [] rest e =
    let nothing : Option A = None in
    absurd (none-some a (some_pair_parts nothing (Some a) [] rest e).0)
begins starts one put shrinks c a (k ∷ ws) rest e = step starts one put shrinks c k ws ∙ begins_at (starts k) (one k ws) _ c a (k ∷ ws) rest e

bad_at : {A C : Type 0} (b : Bool) (o : Option (A × Words)) (f : A × Words → Option (C × Words)) (c : C) (ws : Words) → cond b (o >>= begun) (none_begun ws) ≡ None → cond b (o >>= f) (Some (c, ws)) ≡ None
bad_at true None f c ws e = refl
bad_at true (Some x) f c ws e = absurd cc
bad_at false o f c ws e = absurd cc

-- what comes next is no phrase
pub bad : {A C : Type 0} (starts : List ℕ → Bool) (one : List ℕ → Words → Option (A × Words)) (put : C → A → Option C) → Shrinks one → (c : C) (ws : Words) → next_phrase starts one ws ≡ None → phrases starts one put c ws ≡ None
bad starts one put shrinks c [] e = absurd cc
bad starts one put shrinks c (k ∷ ws) e = step starts one put shrinks c k ws ∙ bad_at (starts k) (one k ws) _ c (k ∷ ws) e

pub refused : {A C : Type 0} (starts : List ℕ → Bool) (one : List ℕ → Words → Option (A × Words)) (put : C → A → Option C) → Shrinks one → (c : C) (a : A) (ws rest : Words) → next_phrase starts one ws ≡ Some (Some a, rest) → put c a ≡ None → phrases starts one put c ws ≡ None
refused starts one put shrinks c a ws rest e f = begins starts one put shrinks c a ws rest e ∙ rw f refl

pub taken : {A C : Type 0} (starts : List ℕ → Bool) (one : List ℕ → Words → Option (A × Words)) (put : C → A → Option C) → Shrinks one → (c : C) (a : A) (d : C) (ws rest : Words) → next_phrase starts one ws ≡ Some (Some a, rest) → put c a ≡ Some d → phrases starts one put c ws ≡ phrases starts one put d rest
taken starts one put shrinks c a d ws rest e f = begins starts one put shrinks c a ws rest e ∙ rw f refl

shrinks_at : {A : Type 0} (b : Bool) (o : Option (A × Words)) (a : A) (ws rest : Words) → cond b (o >>= begun) (none_begun ws) ≡ begun (a, rest) → (b ≡ true) × (o ≡ Some (a, rest))
shrinks_at true None a ws rest e = absurd cc
shrinks_at true (Some x) a ws rest e =
    let p = some_pair_parts (Some x.0) (Some a) x.1 rest e in
    (refl, rw (← same_Some x.0 a p.0, ← p.1) refl)
shrinks_at {A = A} false o a ws rest e =
    let nothing : Option A = None in
    absurd (none-some a (some_pair_parts nothing (Some a) ws rest e).0)

-- the phrase that comes next
pub phrase_is : {A : Type 0} (starts : List ℕ → Bool) (one : List ℕ → Words → Option (A × Words)) (a : A) (ws rest : Words) → next_phrase starts one ws ≡ Some (Some a, rest) → (k : List ℕ) × (tail : Words) × (ws ≡ k ∷ tail) × (starts k ≡ true) × (one k tail ≡ Some (a, rest))
phrase_is {A = A} starts one a [] rest e =
    let nothing : Option A = None in
    absurd (none-some a (some_pair_parts nothing (Some a) [] rest e).0)
phrase_is starts one a (k ∷ ws) rest e =
    let s = shrinks_at (starts k) (one k ws) a (k ∷ ws) rest e in
    (k, ws, refl, s.0, s.1)

-- fewer words are left after it
pub fewer : {A : Type 0} (starts : List ℕ → Bool) (one : List ℕ → Words → Option (A × Words)) → Shrinks one → (a : A) (ws rest : Words) → next_phrase starts one ws ≡ Some (Some a, rest) → length rest < length ws
fewer starts one shrinks a ws rest e =
    let p = phrase_is starts one a ws rest e in
    omega (arith, shrinks p.0 p.1 a rest p.4, ap length p.2)

abbrev none_or : {A : Type 0} → Option A → Words → Option (Option A × Words)
none_or o rest = Some (o, rest)

abbrev pub firsts : {A : Type 0} → Option (A × Words) → Option A
firsts o = o >>= λ all. Some all.0

-- ---- one step of a loop over phrases: what is read as the next one is o
pub stopped : {A C : Type 0} (starts : List ℕ → Bool) (one : List ℕ → Words → Option (A × Words)) (put : C → A → Option C) → Shrinks one → (c : C) (o : Option A) (ws rest : Words) (all : Option (C × Words)) → o ≡ None → Some (o, rest) ≡ next_phrase starts one ws → phrases starts one put c ws ≡ all → Some (c, rest) ≡ all
stopped starts one put shrinks c o ws rest all none e so_far = sym (stops starts one put shrinks c ws rest (sym e ∙ ap (λ x. none_or x rest) none)) ∙ so_far

pub is_bad : {A C : Type 0} (starts : List ℕ → Bool) (one : List ℕ → Words → Option (A × Words)) (put : C → A → Option C) → Shrinks one → (c : C) (ws : Words) (all : Option (C × Words)) → None ≡ next_phrase starts one ws → phrases starts one put c ws ≡ all → None ≡ all
is_bad starts one put shrinks c ws all e so_far = sym (bad starts one put shrinks c ws (sym e)) ∙ so_far

pub is_refused : {A C : Type 0} (starts : List ℕ → Bool) (one : List ℕ → Words → Option (A × Words)) (put : C → A → Option C) → Shrinks one → (c : C) (o : Option A) (a : A) (ws rest : Words) (all : Option (C × Words)) → o ≡ Some a → Some (o, rest) ≡ next_phrase starts one ws → None ≡ put c a → phrases starts one put c ws ≡ all → None ≡ all
is_refused starts one put shrinks c o a ws rest all some e p so_far = sym (refused starts one put shrinks c a ws rest (sym e ∙ ap (λ x. none_or x rest) some) (sym p)) ∙ so_far

pub is_taken : {A C : Type 0} (starts : List ℕ → Bool) (one : List ℕ → Words → Option (A × Words)) (put : C → A → Option C) → Shrinks one → (c : C) (o : Option A) (a : A) (d : C) (ws rest : Words) (all : Option (C × Words)) → o ≡ Some a → Some (o, rest) ≡ next_phrase starts one ws → Some d ≡ put c a → phrases starts one put c ws ≡ all → phrases starts one put d rest ≡ all
is_taken starts one put shrinks c o a d ws rest all some e p so_far = sym (taken starts one put shrinks c a d ws rest (sym e ∙ ap (λ x. none_or x rest) some) (sym p)) ∙ so_far

pub is_fewer : {A : Type 0} (starts : List ℕ → Bool) (one : List ℕ → Words → Option (A × Words)) → Shrinks one → (o : Option A) (a : A) (ws rest : Words) → o ≡ Some a → Some (o, rest) ≡ next_phrase starts one ws → length rest < length ws
is_fewer starts one shrinks o a ws rest some e = fewer starts one shrinks a ws rest (sym e ∙ ap (λ x. none_or x rest) some)

-- ---- what is read as phrases are phrases
pub chosen : {A : Type 0} (b : Bool) (x y z : A) → cond b x y ≡ z → ((b ≡ true) × (x ≡ z)) ⊎ ((b ≡ false) × (y ≡ z))
chosen true x y z e = inl (refl, e)
chosen false x y z e = inr (refl, e)

abbrev pub put_all : {A C : Type 0} → (C → A → Option C) → C → List A → Option C
put_all put c [] = Some c
put_all put c (a ∷ more) = put c a >>= λ d. put_all put d more

pub record Found {A C : Type 0} (P : Words → A → Type 0) (put : C → A → Option C) (c : C) (ws : Words) (d : C) (rest : Words) : Type 0 where
  pub all : List A
  pub front : Words
  pub words : ws ≡ front ++ rest
  pub are : Are P front all
  pub sets : put_all put c all ≡ Some d

-- what is read as a phrase is one
abbrev pub Finds : {A : Type 0} → (Words → A → Type 0) → (List ℕ → Words → Option (A × Words)) → Type 0
Finds {A = A} P one = (k : List ℕ) (ws : Words) (a : A) (rest : Words) → one k ws ≡ Some (a, rest) → (front : Words) × (k ∷ ws ≡ front ++ rest) × P front a

abbrev both : {A B : Type 0} → A → B → Option (A × B)
both a b = Some (a, b)

none_found : {A C : Type 0} (P : Words → A → Type 0) (put : C → A → Option C) (c : C) (ws : Words) (d : C) (rest : Words) → both c ws ≡ both d rest → Found P put c ws d rest
none_found P put c ws d rest e =
    let p = some_pair_parts c d ws rest e in
    record { all = []; front = []; words = p.1; are = refl; sets = ap (λ x. Some x) p.0 }

found_within : {A C : Type 0} (starts : List ℕ → Bool) (one : List ℕ → Words → Option (A × Words)) (put : C → A → Option C) (P : Words → A → Type 0) → Finds P one → (room : Words) (c : C) (ws : Words) (d : C) (rest : Words) → phrases_within starts one put room c ws ≡ Some (d, rest) → Found P put c ws d rest
found_within starts one put P finds [] c ws d rest e = none_found P put c ws d rest e
found_within starts one put P finds (x ∷ room) c [] d rest e = none_found P put c [] d rest e
found_within {C = C} starts one put P finds (x ∷ room) c (k ∷ ws) d rest e =
    let end : C × Words = (d, rest) in
    elim (chosen (starts k) _ _ (Some end) e) [
      | inl p ↦
          let a = bind_some (one k ws) _ end p.1 in
          let s = bind_some (put c a.0.0) _ end a.2 in
          let f = found_within starts one put P finds room s.0 a.0.1 d rest s.2 in
          let g = finds k ws a.0.0 a.0.1 a.1 in
          record {
            all = a.0.0 ∷ f.all;
            front = g.0 ++ f.front;
            words = g.1 ∙ ap (λ (w : Words). g.0 ++ w) f.words ∙ sym (append_assoc g.0 f.front rest);
            are = (g.0, f.front, refl, g.2, f.are);
            sets = ap (λ o. o >>= λ b. put_all put b f.all) s.1 ∙ f.sets;
          }
      | inr p ↦ none_found P put c (k ∷ ws) d rest p.1
    ]

pub phrases_found : {A C : Type 0} (starts : List ℕ → Bool) (one : List ℕ → Words → Option (A × Words)) (put : C → A → Option C) (P : Words → A → Type 0) → Finds P one → (c : C) (ws : Words) (d : C) (rest : Words) → phrases starts one put c ws ≡ Some (d, rest) → Found P put c ws d rest
unfolding phrases
phrases_found starts one put P finds c ws d rest e = found_within starts one put P finds ws c ws d rest e

-- where each word may begin a phrase, none is left
none_left_within : {A C : Type 0} (one : List ℕ → Words → Option (A × Words)) (put : C → A → Option C) → Shrinks one → (room : Words) (c : C) (ws : Words) (d : C) (rest : Words) → length ws ≤ length room → phrases_within any_word one put room c ws ≡ Some (d, rest) → rest ≡ []
none_left_within one put shrinks [] c [] d rest le e = sym (some_pair_parts c d [] rest e).1
none_left_within one put shrinks [] c (k ∷ ws) d rest le e = absurd (omega arith)
none_left_within one put shrinks (x ∷ room) c [] d rest le e = sym (some_pair_parts c d [] rest e).1
none_left_within {C = C} one put shrinks (x ∷ room) c (k ∷ ws) d rest le e =
    let end : C × Words = (d, rest) in
    let a = bind_some (one k ws) _ end e in
    let s = bind_some (put c a.0.0) _ end a.2 in
    none_left_within one put shrinks room s.0 a.0.1 d rest (omega (arith, le, shrinks k ws a.0.0 a.0.1 a.1)) s.2

pub nothing_left : {A C : Type 0} (one : List ℕ → Words → Option (A × Words)) (put : C → A → Option C) → Shrinks one → (c : C) (ws : Words) (d : C) (rest : Words) → phrases any_word one put c ws ≡ Some (d, rest) → rest ≡ []
unfolding phrases
nothing_left one put shrinks c ws d rest e = none_left_within one put shrinks ws c ws d rest (omega arith) e

-- ---- phrases are read as just those phrases, where `May` says what may follow one
may_more : {A : Type 0} (P : Words → A → Type 0) (May : Words → Type 0) → ((front rest : Words) (a : A) → P front a → May (front ++ rest)) → (all : List A) (front rest : Words) → Are P front all → May rest → May (front ++ rest)
may_more P May may [] front rest are m = subst (λ (f : Words). May (f ++ rest)) (sym are) m
may_more P May may (a ∷ more) front rest are m = subst May (sym (ap (λ (f : Words). f ++ rest) are.2 ∙ append_assoc are.0 are.1 rest)) (may are.0 (are.1 ++ rest) a are.3)

pub phrases_again : {A C : Type 0} (starts : List ℕ → Bool) (one : List ℕ → Words → Option (A × Words)) (put : C → A → Option C) → Shrinks one → (P : Words → A → Type 0) (May : Words → Type 0) → ((front rest : Words) (a : A) → P front a → May rest → next_phrase starts one (front ++ rest) ≡ Some (Some a, rest)) → ((front rest : Words) (a : A) → P front a → May (front ++ rest)) → (all : List A) (c d : C) (front rest : Words) → Are P front all → put_all put c all ≡ Some d → May rest → next_phrase starts one rest ≡ Some (None, rest) → phrases starts one put c (front ++ rest) ≡ Some (d, rest)
phrases_again starts one put shrinks P May again may [] c d front rest are sets m stop =
    ap (λ (f : Words). phrases starts one put c (f ++ rest)) are ∙ stops starts one put shrinks c rest rest stop ∙ ap (λ x. Some (x, rest)) (same_Some c d sets)
phrases_again starts one put shrinks P May again may (a ∷ more) c d front rest are sets m stop =
    let words : front ++ rest ≡ are.0 ++ (are.1 ++ rest) = ap (λ (f : Words). f ++ rest) are.2 ∙ append_assoc are.0 are.1 rest in
    let s = bind_some (put c a) (λ x. put_all put x more) d sets in
    ap (λ (w : Words). phrases starts one put c w) words
    ∙ taken starts one put shrinks c a s.0 (are.0 ++ (are.1 ++ rest)) (are.1 ++ rest) (again are.0 (are.1 ++ rest) a are.3 (may_more P May may more are.1 rest are.4 m)) s.1
    ∙ phrases_again starts one put shrinks P May again may more s.0 d are.1 rest are.4 s.2 m stop
