-- Runs of words: what more words and an equal listing make of them.
use Rattle.std.proofs.Common.{◌≡◌, ℕ, suc, ◌+◌, ◌-◌, ◌<◌, ◌≤◌, List, [], ◌∷◌, ◌++◌, length, take, drop, refl, sym, ap, ◌∙◌, append_assoc, append-nil, arith}
use Rattle.std.specs.Prelude.{slice_index_or}
use Rattle.std.specs.List.{All, flat_map}
use Rattle.std.proofs.Math.Seq.{drop-cons}
use Rattle.std.proofs.lemmas.List.{take-append-le, drop-append-le, take_all, take-append-drop, drop_all, length-drop, length-take-le}
use Rattle.std.proofs.lemmas.List.Concat.{flat_map-append}
use Rattle.std.proofs.lemmas.List.Elements.{All-append, All-cons, All-drop, All-head, All-nil, All-tail, All-take, All-weaker}
use Rattle.report.specs.Orders.{IsRun, in_order, run_of}
use Rattle.report.specs.declared.archive.Run.{Run}
use Rattle.report.specs.declared.packed.Packed.{Packed}

-- more words
run-same : (es fs : List Packed) (r : Run) (tail : ℕ) → IsRun tail r → tail ≤ length es → run_of (es ++ fs) r ≡ run_of es r
run-same es fs r tail (a, b) c =
    ap (take (r.end - r.from)) (drop-append-le r.from es fs (omega (arith, a, b, c)))
    ∙ take-append-le (r.end - r.from) (drop r.from es) fs (omega (arith, a, b, c, length-drop r.from es))

runs-same : (es fs : List Packed) (tail : ℕ) (rs : List Run) → tail ≤ length es → All (IsRun tail) rs → flat_map (run_of (es ++ fs)) rs ≡ flat_map (run_of es) rs
runs-same es fs tail [] few are = refl
runs-same es fs tail (r ∷ rs) few are = λ i.
    run-same es fs r tail (All-head (IsRun tail) r rs are) few i ++ runs-same es fs tail rs few (All-tail (IsRun tail) r rs are) i

pub more_words : (es fs : List Packed) (tail : ℕ) (rs : List Run) → tail ≤ length es → All (IsRun tail) rs →
    in_order rs tail (es ++ fs) ≡ in_order rs tail es ++ fs
more_words es fs tail rs few are =
    (λ i. runs-same es fs tail rs few are i ++ drop-append-le tail es fs few i)
    ∙ sym (append_assoc (flat_map (run_of es) rs) (drop tail es) fs)

-- what holds of each stored word, holds of each in order
all-runs : (P : Packed → Type 0) (es : List Packed) (rs : List Run) → All P es → All P (flat_map (run_of es) rs)
all-runs P es [] all = All-nil P
all-runs P es (r ∷ rs) all =
    All-append P (run_of es r) (flat_map (run_of es) rs) (All-take P (r.end - r.from) (drop r.from es) (All-drop P r.from es all)) (all-runs P es rs all)

pub all_in_order : (P : Packed → Type 0) (es : List Packed) (tail : ℕ) (rs : List Run) → All P es → All P (in_order rs tail es)
all_in_order P es tail rs all = All-append P (flat_map (run_of es) rs) (drop tail es) (all-runs P es rs all) (All-drop P tail es all)

-- runs below a place are below a later one
pub runs_below : (tail last : ℕ) (rs : List Run) → tail ≤ last → All (IsRun tail) rs → All (IsRun last) rs
runs_below tail last rs few are = All-weaker (IsRun tail) (IsRun last) (λ r h. (h.0, omega (arith, h.1, few))) rs are

-- a listing that equals an earlier one
module _ (tail last before size : ℕ) (rs : List Run) (few : tail ≤ last) (are : All (IsRun tail) rs) (apart : before + size ≤ last) where
  abbrev pub kept : Run
  kept = record { from = tail; end = last }

  abbrev pub again : Run
  again = record { from = before; end = before + size }

  pub folded_runs : All (IsRun last) (rs ++ kept ∷ again ∷ [])
  folded_runs =
      All-append (IsRun last) rs (kept ∷ again ∷ []) (runs_below tail last rs few are)
      (All-cons (IsRun last) kept (again ∷ []) (few, omega arith)
      (All-cons (IsRun last) again [] (omega arith, apart) (All-nil (IsRun last))))

  module _ (es : List Packed) (ends : last + size ≡ length es) (same : take size (drop before es) ≡ drop last es) where
    abbrev pub stored : List Packed
    stored = take last es

    whole : stored ++ drop last es ≡ es
    whole = take-append-drop last es

    enough : last ≤ length stored
    enough = omega (arith, ends, length-take-le last es (omega (arith, ends)))

    kept-run : run_of stored kept ++ drop last es ≡ drop tail es
    kept-run =
        ap (λ (l : List Packed). l ++ drop last es) (take-all)
        ∙ sym (drop-append-le tail stored (drop last es) (omega (arith, few, enough)))
        ∙ ap (drop tail) whole
      where
        take-all : take (last - tail) (drop tail stored) ≡ drop tail stored
        take-all = take_all (last - tail) (drop tail stored) (omega (arith, length-drop tail stored, length-take-le last es (omega (arith, ends))))

    again-run : run_of stored again ≡ drop last es
    again-run =
        let long : before + size - before ≡ size = omega arith in
        ap (λ (k : ℕ). take k (drop before stored)) long
        ∙ sym (take-append-le size (drop before stored) (drop last es) (omega (arith, apart, enough, length-drop before stored)))
        ∙ ap (take size) (sym (drop-append-le before stored (drop last es) (omega (arith, apart, enough))) ∙ ap (drop before) whole)
        ∙ same

    pub folded_order : in_order (rs ++ kept ∷ again ∷ []) last stored ≡ in_order rs tail es
    folded_order =
        let none : drop last stored ≡ [] = drop_all last stored (omega (arith, length-take-le last es (omega (arith, ends)))) in
        ap (λ (l : List Packed). flat_map (run_of stored) (rs ++ kept ∷ again ∷ []) ++ l) none
        ∙ append-nil (flat_map (run_of stored) (rs ++ kept ∷ again ∷ []))
        ∙ flat_map-append (run_of stored) rs (kept ∷ again ∷ [])
        ∙ (λ i. (sym (runs-same stored (drop last es) tail rs (omega (arith, few, enough)) are) ∙ ap (λ (l : List Packed). flat_map (run_of l) rs) whole) i
        ++ (ap (λ (l : List Packed). run_of stored kept ++ l) (append-nil (run_of stored again) ∙ again-run) ∙ kept-run) i)

-- what is behind a run, and a run of nothing
pub next_run : (es : List Packed) (tail : ℕ) (rs : List Run) (k : ℕ) (r : Run) → k < length rs → slice_index_or rs k r ≡ r →
    in_order (drop k rs) tail es ≡ run_of es r ++ in_order (drop (suc k) rs) tail es
next_run es tail rs k r below is =
    ap (λ (l : List Run). in_order l tail es) (drop-cons rs k r below ∙ ap (λ (x : Run). x ∷ drop (suc k) rs) is)
    ∙ append_assoc (run_of es r) (flat_map (run_of es) (drop (suc k) rs)) (drop tail es)

-- runs of nothing
none-run : (es : List Packed) (tail : ℕ) (rs : List Run) → tail ≡ 0 → All (IsRun tail) rs → flat_map (run_of es) rs ≡ []
none-run es tail [] none are = refl
none-run es tail (r ∷ rs) none are =
    let h = All-head (IsRun tail) r rs are in
    let n : r.end - r.from ≡ 0 = omega (arith, none, h.1) in λ i.
    take (n i) (drop r.from es) ++ none-run es tail rs none (All-tail (IsRun tail) r rs are) i

pub no_runs : (es : List Packed) (tail : ℕ) (rs : List Run) → tail ≡ 0 → All (IsRun tail) rs → in_order rs tail es ≡ es
no_runs es tail rs none are = λ i. none-run es tail rs none are i ++ drop (none i) es
