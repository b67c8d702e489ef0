-- One word of the walk, and one of the parser.
use Rattle.std.proofs.Common.{◌≡◌, ℕ, Bool, true, false, cond, List, [], ◌∷◌, Option, Some, None, refl, sym, ap, ◌∙◌}
use Rattle.std.specs.Prelude.{◌&&◌}
use Rattle.std.specs.Option.{is_some}
use Rattle.std.specs.Str.{bytes_eq}
use Rattle.control_words.specs.Words.{Words, ◌>>=◌, none_left, after, value, said}
use Rattle.control_words.specs.Numbers.{number_of}
use Rattle.control_lines.specs.Ranges.{within}
use Rattle.control_lines.specs.Shape.{last_number_of}
use Rattle.control.specs.declared.word_fault.Check.{Check}
use Rattle.control.specs.declared.word_fault.Check.TheVariants.{Forms, Ranges}
use Rattle.control.specs.declared.expected.Expected.{Expected}
use Rattle.control.specs.declared.expected.Expected.TheVariants.{End}
use Rattle.control.specs.Forms.{asked, holds}
use Rattle.control.specs.Values.{value_at as value_of}
use Rattle.control.specs.Walk.{may_end, or_blame, or_else, next_of, next}

-- the walk finds no fault in these words
abbrev pub accepts : Check → Expected → Words → Bool
accepts check p [] = may_end p
accepts check p (w ∷ ws) = or_blame (next check p w) (λ q. accepts check q ws) false

-- how the walk goes on behind a word, if these are the words by which it may
abbrev pub behind : Check → Expected → List ℕ → Words → Option Expected → Bool
behind check p w ws o = or_blame (or_else o (next_of check (value_of p) w)) (λ q. accepts check q ws) false

-- how the walk goes on behind a word, where no value may stand
abbrev pub goes : Check → Words → Option Expected → Bool
goes check ws o = or_blame (or_else o None) (λ q. accepts check q ws) false

-- something is read, and this is so of it
abbrev pub meets : {A : Type 0} → Option A → (A → Bool) → Bool
meets None f = false
meets (Some a) f = f a

-- ---- Bool
pub and_false : (c : Bool) → (c && false) ≡ false
and_false true = refl
and_false false = refl

pub and_true : (c : Bool) → (c && true) ≡ c
and_true true = refl
and_true false = refl

pub and_assoc : (a b c : Bool) → (a && (b && c)) ≡ ((a && b) && c)
and_assoc true b c = refl
and_assoc false b c = refl

pub and_comm : (a b : Bool) → (a && b) ≡ (b && a)
and_comm true b = sym (and_true b)
and_comm false b = sym (and_false b)

pub asked_true : (check : Check) → asked check true ≡ true
asked_true Forms = refl
asked_true Ranges = refl

-- ---- one step
pub step : {A B : Type 0} (c : Bool) (x : Bool) (o : Option A) (F : A → Bool) (f : A → Option B) (g : B → Bool) → x ≡ meets o F → ((a : A) → (c && F a) ≡ meets (f a) g) → (c && x) ≡ meets (o >>= f) g
step c x None F f g e h = ap (λ (y : Bool). c && y) e ∙ and_false c
step c x (Some a) F f g e h = ap (λ (y : Bool). c && y) e ∙ h a

-- the same, where a condition comes with it
pub reads_step : {A B : Type 0} (c : Bool) (x : Bool) (o : Option A) (r F : A → Bool) (f : A → Option B) (g : B → Bool) → x ≡ meets o (λ a. r a && F a) → ((a : A) → ((c && r a) && F a) ≡ meets (f a) g) → (c && x) ≡ meets (o >>= f) g
reads_step c x o r F f g e h = step c x o (λ a. r a && F a) f g e (λ a. and_assoc c (r a) (F a) ∙ h a)

pub kept : {A B : Type 0} (o : Option A) (f : A → B) → is_some (o >>= λ a. Some (f a)) ≡ is_some o
kept None f = refl
kept (Some a) f = refl

-- nothing is asked for
pub unasked : (check : Check) (x : Bool) → x ≡ (asked check true && x)
unasked Forms x = refl
unasked Ranges x = refl

pub meets_map : {A B : Type 0} (o : Option A) (f : A → B) (g : B → Bool) → meets (o >>= λ a. Some (f a)) g ≡ meets o (λ a. g (f a))
meets_map None f g = refl
meets_map (Some a) f g = refl

chosen_goes : (b : Bool) (q : Expected) (F : Expected → Bool) → or_blame (cond b (Some q) None) F false ≡ (b && F q)
chosen_goes true q F = refl
chosen_goes false q F = refl

-- ---- a value
abbrev pub with_rest : {A : Type 0} → Words → A → Option (A × Words)
with_rest ws a = Some (a, ws)

abbrev pub Goes : {A : Type 0} → Check → Expected → (List ℕ → Option A) → (A → Bool) → Expected → Type 0
Goes check p says is_so q = (w : List ℕ) → next check p w ≡ cond (holds check (says w) is_so) (Some q) None

value_at : {A : Type 0} (check : Check) (o : Option A) (is_so : A → Bool) (q : Expected) (ws : Words) → or_blame (cond (holds check o is_so) (Some q) None) (λ e. accepts check e ws) false ≡ meets (o >>= with_rest ws) (λ x. asked check (is_so x.0) && accepts check q x.1)
value_at check None is_so q ws = refl
value_at check (Some a) is_so q ws = chosen_goes (asked check (is_so a)) q (λ e. accepts check e ws)

pub value_read : {A : Type 0} (check : Check) (p : Expected) (says : List ℕ → Option A) (is_so : A → Bool) (q : Expected) → Goes check p says is_so q → may_end p ≡ false → (ws : Words) → accepts check p ws ≡ meets (value says ws) (λ x. asked check (is_so x.0) && accepts check q x.1)
value_read check p says is_so q goes more [] = more
value_read check p says is_so q goes more (w ∷ ws) = ap (λ o. or_blame o (λ e. accepts check e ws) false) (goes w) ∙ value_at check (says w) is_so q ws

pub value_step : {A B : Type 0} (check : Check) (c : Bool) (p : Expected) (says : List ℕ → Option A) (is_so : A → Bool) (q : Expected) (f : A × Words → Option B) (g : B → Bool) → Goes check p says is_so q → may_end p ≡ false → ((x : A × Words) → ((c && asked check (is_so x.0)) && accepts check q x.1) ≡ meets (f x) g) → (ws : Words) → (c && accepts check p ws) ≡ meets (value says ws >>= f) g
value_step check c p says is_so q f g goes more h ws = step c (accepts check p ws) (value says ws) (λ x. asked check (is_so x.0) && accepts check q x.1) f g (value_read check p says is_so q goes more ws) (λ x. and_assoc c (asked check (is_so x.0)) (accepts check q x.1) ∙ h x)

-- the same of a word at hand
pub value_here : {A B : Type 0} (check : Check) (c : Bool) (o : Option A) (is_so : A → Bool) (q : Expected) (ws : Words) (f : A → Option B) (g : B → Bool) → ((a : A) → ((c && asked check (is_so a)) && accepts check q ws) ≡ meets (f a) g) → (c && or_blame (cond (holds check o is_so) (Some q) None) (λ e. accepts check e ws) false) ≡ meets (o >>= f) g
value_here check c None is_so q ws f g h = and_false c
value_here check c (Some a) is_so q ws f g h = ap (λ (x : Bool). c && x) (chosen_goes (asked check (is_so a)) q (λ e. accepts check e ws)) ∙ and_assoc c (asked check (is_so a)) (accepts check q ws) ∙ h a

-- ---- a word that is a value without a range
abbrev pub Plainly : {A : Type 0} → Check → Expected → (List ℕ → Option A) → Expected → Type 0
Plainly check p says q = (w : List ℕ) → next check p w ≡ cond (is_some (says w)) (Some q) None

plain_at : {A : Type 0} (check : Check) (o : Option A) (q : Expected) (ws : Words) → or_blame (cond (is_some o) (Some q) None) (λ e. accepts check e ws) false ≡ meets (o >>= with_rest ws) (λ x. accepts check q x.1)
plain_at check None q ws = refl
plain_at check (Some a) q ws = refl

pub plain_read : {A : Type 0} (check : Check) (p : Expected) (says : List ℕ → Option A) (q : Expected) → Plainly check p says q → may_end p ≡ false → (ws : Words) → accepts check p ws ≡ meets (value says ws) (λ x. accepts check q x.1)
plain_read check p says q goes more [] = more
plain_read check p says q goes more (w ∷ ws) = ap (λ o. or_blame o (λ e. accepts check e ws) false) (goes w) ∙ plain_at check (says w) q ws

pub plain_step : {A B : Type 0} (check : Check) (c : Bool) (p : Expected) (says : List ℕ → Option A) (q : Expected) (f : A × Words → Option B) (g : B → Bool) → Plainly check p says q → may_end p ≡ false → ((x : A × Words) → (c && accepts check q x.1) ≡ meets (f x) g) → (ws : Words) → (c && accepts check p ws) ≡ meets (value says ws >>= f) g
plain_step check c p says q f g goes more h ws = step c (accepts check p ws) (value says ws) (λ x. accepts check q x.1) f g (plain_read check p says q goes more ws) h

-- ---- a keyword
abbrev pub GoesBy : Check → Expected → List ℕ → Expected → Type 0
GoesBy check p text q = (w : List ℕ) → next check p w ≡ cond (bytes_eq w text) (Some q) None

word_at : (check : Check) (b : Bool) (q : Expected) (ws : Words) → or_blame (cond b (Some q) None) (λ e. accepts check e ws) false ≡ meets (cond b (Some ws) None) (λ rest. accepts check q rest)
word_at check true q ws = refl
word_at check false q ws = refl

pub word_read : (check : Check) (p : Expected) (text : List ℕ) (q : Expected) → GoesBy check p text q → may_end p ≡ false → (ws : Words) → accepts check p ws ≡ meets (after text ws) (λ rest. accepts check q rest)
word_read check p text q goes more [] = more
word_read check p text q goes more (w ∷ ws) = ap (λ o. or_blame o (λ e. accepts check e ws) false) (goes w) ∙ word_at check (bytes_eq w text) q ws

pub word_step : {B : Type 0} (check : Check) (c : Bool) (p : Expected) (text : List ℕ) (q : Expected) (f : Words → Option B) (g : B → Bool) → GoesBy check p text q → may_end p ≡ false → ((rest : Words) → (c && accepts check q rest) ≡ meets (f rest) g) → (ws : Words) → (c && accepts check p ws) ≡ meets (after text ws >>= f) g
word_step check c p text q f g goes more h ws = step c (accepts check p ws) (after text ws) (λ rest. accepts check q rest) f g (word_read check p text q goes more ws) h

-- ---- the end
pub end_read : (check : Check) (ws : Words) → accepts check End ws ≡ meets (none_left ws) (λ _. true)
unfolding next
end_read check [] = refl
end_read check (w ∷ ws) = refl

pub end_step : {B : Type 0} (check : Check) (c : Bool) (f : Words → Option B) (g : B → Bool) (ws : Words) → ((rest : Words) → c ≡ meets (f rest) g) → (c && accepts check End ws) ≡ meets (none_left ws >>= f) g
end_step check c f g ws h = step c (accepts check End ws) (none_left ws) (λ _. true) f g (end_read check ws) (λ rest. and_true c ∙ h rest)

-- ---- one of several words
pub split : {X Y : Type 0} (l : X → Bool) (r : Y → Bool) (b : Bool) (x1 x2 : X) (y1 y2 : Y) → l x1 ≡ r y1 → l x2 ≡ r y2 → l (cond b x1 x2) ≡ r (cond b y1 y2)
split l r true x1 x2 y1 y2 e f = e
split l r false x1 x2 y1 y2 e f = f

-- ---- a number, and nothing behind it
pub last_read : (check : Check) (p : Expected) (low high : ℕ) → Goes check p number_of (λ n. is_some (within n low high)) End → may_end p ≡ false → (ws : Words) → accepts check p ws ≡ meets (last_number_of ws) (λ n. asked check (is_some (within n low high)))
last_read check p low high goes more ws =
    value_step check true p number_of (λ n. is_some (within n low high)) End _ _ goes more
    (λ n. end_step check (asked check (is_some (within n.0 low high))) _ _ n.1 (λ rest. refl)) ws

-- ---- what a word says, as a thing
said_at : {A B C : Type 0} (o : Option A) (thing : A → B) (tail : Words) (f : B × Words → Option C) (g : C → Bool) → meets (((o >>= with_rest tail) >>= λ a. Some (thing a.0, a.1)) >>= f) g ≡ meets (o >>= λ a. f (thing a, tail)) g
said_at None thing tail f g = refl
said_at (Some a) thing tail f g = refl

pub said_step : {A B C : Type 0} (check : Check) (c : Bool) (p : Expected) (says : List ℕ → Option A) (is_so : A → Bool) (thing : A → B) (q : Expected) (f : B × Words → Option C) (g : C → Bool) → Goes check p says is_so q → may_end p ≡ false → (ws : Words) → ((v : List ℕ) (tail : Words) → ws ≡ v ∷ tail → (a : A) → ((c && asked check (is_so a)) && accepts check q tail) ≡ meets (f (thing a, tail)) g) → (c && accepts check p ws) ≡ meets (said says thing ws >>= f) g
said_step check c p says is_so thing q f g goes more [] h = ap (λ (x : Bool). c && x) more ∙ and_false c
said_step check c p says is_so thing q f g goes more (v ∷ tail) h =
    ap (λ o. c && or_blame o (λ e. accepts check e tail) false) (goes v)
    ∙ value_here check c (says v) is_so q tail (λ a. f (thing a, tail)) g (h v tail refl)
    ∙ sym (said_at (says v) thing tail f g)

-- what is read is refused, whatever the word says
refused_at : {A B C : Type 0} (o : Option A) (thing : A → B) (tail : Words) (f : B × Words → Option C) (g : C → Bool) → ((a : A) (rest : Words) → f (thing a, rest) ≡ None) → false ≡ meets (((o >>= with_rest tail) >>= λ a. Some (thing a.0, a.1)) >>= f) g
refused_at None thing tail f g h = refl
refused_at (Some a) thing tail f g h = sym (ap (λ o. meets o g) (h a tail))

pub said_refused : {A B C : Type 0} (c : Bool) (says : List ℕ → Option A) (thing : A → B) (f : B × Words → Option C) (g : C → Bool) (ws : Words) → ((a : A) (tail : Words) → f (thing a, tail) ≡ None) → (c && false) ≡ meets (said says thing ws >>= f) g
said_refused c says thing f g [] h = and_false c
said_refused c says thing f g (v ∷ tail) h = and_false c ∙ refused_at (says v) thing tail f g h

-- ---- a condition in the place of one that isn't asked for
pub first_in : (check : Check) (n : Bool) → (asked check true && n) ≡ n
first_in Forms n = refl
first_in Ranges n = refl

pub next_in : (check : Check) (a n : Bool) → ((a && asked check true) && n) ≡ (a && n)
next_in check a n = ap (λ (x : Bool). x && n) (ap (λ (x : Bool). a && x) (asked_true check) ∙ and_true a)

pub before : (a b n z : Bool) → (a && n) ≡ z → ((a && b) && n) ≡ (z && b)
before a b n z e = sym (and_assoc a b n) ∙ ap (λ (x : Bool). a && x) (and_comm b n) ∙ and_assoc a n b ∙ ap (λ (x : Bool). x && b) e
