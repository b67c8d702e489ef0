-- What the grammar's proofs cite: how a command grows, what is read of an option's value, and what the grammar's tests say.
use Rattle.std.proofs.Common.{◌≡◌, ◌∙◌, ◌^◌, ◌++◌, ◌&&◌, ℕ, Bool, true, false, List, [], ◌∷◌, Option, Some, None, refl, sym, ap, ap₂, lt-ltb, ltb-true, nat_lt, codes}
use Rattle.std.specs.Prelude.{Result, Ok, Err, option_and_then, unwrap_or}
use Rattle.std.specs.List.{list_all}
use Rattle.std.specs.Char.{digit_value}
use Rattle.std.specs.Str.{bytes_eq}
use Rattle.std.specs.Option.{option_map_or}
use Rattle.std.specs.Str.Parse.{AllDigits, ExplainsUnsignedError, HasUnsignedDigitsIfOk, IsNumeral, ParsesBool, ParsesUnsigned, digits_value, without_leading_plus}
use Rattle.std.specs.declared.num.ParseIntError.{ParseIntError}
use Rattle.std.specs.declared.str.ParseBoolError.{ParseBoolError}
use Rattle.std.proofs.lemmas.Slice.Eq.{bytes_eq-Decides}
use Rattle.clap.specs.Words.{AddsArg, AddsSubcommand, App, ReadsOne, Rule, Shape, Text, app_of, is_simple, one_text, rows_of, with_rule, with_subcommand}
use Rattle.clap.specs.Faults.{is_simple_and_free}
use Rattle.clap.specs.ValueTests.{is_numeral}
use Rattle.clap.specs.declared.builder.arg.Arg.{Arg}
use Rattle.clap.specs.declared.builder.command.Command.{Command}
use Rattle.clap.specs.declared.builder.command.Command.TheViews.{out-Command}
use Rattle.clap.specs.declared.parser.matches.Found.{Found}
use Rattle.clap.proofs.OnLiterals.{clap_on_literals}
use Rattle.clap.proofs.WalkLemmas.{both, one_text-rows}
use Rattle.command_line.specs.Words.{IsArg, IsCommand, dnlab, flag_in, number_below, number_in}

-- ---- the grammar

-- a command with one more option
pub adds : (c : Command) (a : Arg) (d : Command) (shape : Shape) (rule : Rule) → AddsArg c a d → IsArg rule a → IsCommand shape c
    → IsCommand (record shape { rules = shape.rules ++ rule ∷ [] }) d
adds c a d shape rule added is whole = (
  added.shape is.1 ∙ ap₂ with_rule whole.0 is.0,
  rw (added.globals, whole.1, is.1) refl,
)

-- a program with one more command
pub grows : (old sub new : Command) (a : App) (shape : Shape) → AddsSubcommand old sub new → IsCommand shape sub
    → (app_of old ≡ a) × ((out-Command old).has_globals ≡ false)
    → (app_of new ≡ with_subcommand a shape) × ((out-Command new).has_globals ≡ false)
grows old sub new a shape added whole is = (
  added.shape whole.1 ∙ ap₂ with_subcommand is.0 (ap (λ (x : App). x.top) whole.0),
  rw (added.globals, is.1, whole.1) refl,
)

pub is_simple_dnlab : is_simple dnlab ≡ true
unfolding dnlab clap_on_literals
is_simple_dnlab = refl

pub is_free_dnlab : is_simple_and_free dnlab ≡ true
unfolding dnlab clap_on_literals
is_free_dnlab = refl

-- ---- values

all_digits : (ds : List ℕ) → AllDigits 10 ds → list_all (λ d. nat_lt (digit_value d) 10) ds ≡ true
all_digits [] h = refl
all_digits (d ∷ ds) h = rw (lt-ltb (digit_value d) 10 h.0) (all_digits ds h.1)

digits_all : (ds : List ℕ) → list_all (λ d. nat_lt (digit_value d) 10) ds ≡ true → AllDigits 10 ds
digits_all [] e = tt
digits_all (d ∷ ds) e =
    let parts = both _ _ e in
    (ltb-true _ _ parts.0, digits_all ds parts.1)

numeral : (ds : List ℕ) → is_numeral ds ≡ true → IsNumeral 10 ds
numeral ds e =
    let parts = both _ _ e in
    (ltb-true _ _ parts.0, digits_all ds parts.1)

is_numeral-true : (ds : List ℕ) → IsNumeral 10 ds → is_numeral ds ≡ true
is_numeral-true ds h = rw (lt-ltb _ _ h.0, all_digits ds h.1) refl

not_true : (b : Bool) → (b ≡ true → ⊥) → b ≡ false
not_true true h = absurd (h refl)
not_true false h = refl

reads_number : {E : Type 0} (k : ℕ) (gives : List ℕ → Result ℕ E → Type 0) → ((bs : List ℕ) (x : Result ℕ E) → gives bs x → ParsesUnsigned k 10 bs x)
    → (t : Text) (r : Option ℕ) → ReadsOne gives t r → r ≡ number_below (2 ^ k) t
unfolding number_below
reads_number k gives to t (Some v) g =
    let p = to t (Ok v) g in
    rw (is_numeral-true _ p.0.0, lt-ltb _ _ p.0.1) (ap Some p.1)
reads_number k gives to t None g =
    let p = to t (Err g.0) g.1 in
    let ds = without_leading_plus t in
    let no : (is_numeral ds && nat_lt (digits_value 10 ds) (2 ^ k)) ≡ false = not_true _ (λ e.
    let parts = both _ _ e in
    p (numeral ds parts.0, ltb-true _ _ parts.1)) in
    rw no refl

-- what `get_one` reads as a number of k bits
abbrev pub Gives : ℕ → List ℕ → Result ℕ ParseIntError → Type 0
Gives k bs r = ParsesUnsigned k 10 bs r × ExplainsUnsignedError 10 bs r × HasUnsignedDigitsIfOk bs r

pub number_read : (k : ℕ) (f : Found) (id : Text) (r : Option ℕ) → (one_text f id ≡ None → r ≡ None)
    → ((t : List ℕ) → one_text f id ≡ Some t → ReadsOne (Gives k) t r) → r ≡ number_in (2 ^ k) id (rows_of f)
number_read k f id r none value = go (one_text f id) refl ∙ ap (option_and_then (number_below (2 ^ k))) (one_text-rows f id)
  where
    go : (o : Option Text) → one_text f id ≡ o → r ≡ option_and_then (number_below (2 ^ k)) o
    go None e = none e
    go (Some t) e = reads_number k (Gives k) (λ bs x g. g.0) t r (value t e)

reads_flag : {E : Type 0} (gives : List ℕ → Result Bool E → Type 0) → ((bs : List ℕ) (x : Result Bool E) → gives bs x → ParsesBool bs x)
    → (t : Text) (r : Option Bool) → ReadsOne gives t r → unwrap_or r false ≡ bytes_eq t (codes "true")
reads_flag gives to t (Some true) g = rw (to t (Ok true) g) refl
reads_flag gives to t (Some false) g = rw (to t (Ok false) g) refl
reads_flag gives to t None g =
    let p = to t (Err g.0) g.1 in
    sym (not_true (bytes_eq t (codes "true")) (λ e. p.0 ((bytes_eq-Decides t (codes "true")).0 e)))

-- what it reads as a flag
abbrev flag_of : Option Text → Bool
flag_of o = option_map_or (λ text. bytes_eq text (codes "true")) o false

pub flag_read : (f : Found) (id : Text) (r : Option Bool) → (one_text f id ≡ None → r ≡ None)
    → ((t : List ℕ) → one_text f id ≡ Some t → ReadsOne (ParsesBool {E = ParseBoolError}) t r) → unwrap_or r false ≡ flag_in id (rows_of f)
flag_read f id r none value = go (one_text f id) refl ∙ ap flag_of (one_text-rows f id)
  where
    go : (o : Option Text) → one_text f id ≡ o → unwrap_or r false ≡ flag_of o
    go None e = rw (none e) refl
    go (Some t) e = reads_flag (ParsesBool {E = ParseBoolError}) (λ bs x g. g) t r (value t e)
