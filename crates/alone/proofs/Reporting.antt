-- The pieces of a report, put one after the other.
use Rattle.std.proofs.Common.{◌≡◌, ℕ, zero, suc, min, arith, append_assoc, map, ◌+◌, ◌<◌, List, [], ◌∷◌, ◌++◌, length, take, drop, Option, refl, sym, ap, ◌∙◌, subst, append-nil}
use Rattle.std.specs.Prelude.{flat_map, slice_index_or}
use Rattle.std.proofs.lemmas.List.{take_more, take-append-drop}
use Rattle.std.proofs.lemmas.List.Concat.{flat_map-append}
use Rattle.control.specs.declared.scenario.Experiment.{Experiment}
use Rattle.control.specs.Traced.{traced}
use Rattle.alone.specs.Bytes.{Puts, Stops}
use Rattle.experiment.specs.Written.{KeptReport, rows_from, text_of, texts_of}
use Rattle.alone.specs.declared.limits.Format.{Format}
use Rattle.alone.specs.declared.limits.Format.TheVariants.{Text, TracedText, Npy}
use Rattle.alone.specs.Reports.{bytes_as, made_alone, output_as, report_alone, reports, scenario_as}
use Rattle.alone.proofs.Writing.{puts_both, stops_any, stops_before, stops_behind}
use Rattle.emu_model.specs.declared.records.Record.{Record}
use Rattle.report.specs.Lines.{line_of}
use Rattle.report.specs.Rows.{record_bytes, rows_of}
use Rattle.report.proofs.Taken.{flat_map_further}
use Rattle.experiment.proofs.Rooms.{rows-next}

-- pieces in their turns
module _ {A : Type 0} (f : A → List ℕ) where
  one-piece : (rs : List A) (i : ℕ) (r : A) → i < length rs → r ≡ slice_index_or rs i r →
      flat_map f (take i rs) ++ f r ≡ flat_map f (take (i + 1) rs)
  one-piece rs i r below is =
      ap (λ (l : List ℕ). flat_map f (take i rs) ++ l) (sym (append-nil (f r)))
      ∙ sym (flat_map-append f (take i rs) (r ∷ []))
      ∙ ap (λ (t : A). flat_map f (take i rs ++ t ∷ [])) is
      ∙ ap (flat_map f) (sym (take_more rs i r below))

  all-pieces : (rs : List A) (i : ℕ) → flat_map f (take i rs) ++ flat_map f (drop i rs) ≡ flat_map f rs
  all-pieces rs i = sym (flat_map-append f (take i rs) (drop i rs)) ∙ ap (flat_map f) (take-append-drop i rs)

  pieces_puts : (a b c : Option (List ℕ)) (k l m : List ℕ) (rs : List A) (i : ℕ) (r : A) → i < length rs → r ≡ slice_index_or rs i r →
      Puts a k b l (flat_map f (take i rs)) → Puts b l c m (f r) → Puts a k c m (flat_map f (take (i + 1) rs))
  pieces_puts a b c k l m rs i r below is g h =
      subst (Puts a k c m) (one-piece rs i r below is) (puts_both a b c k l m (flat_map f (take i rs)) (f r) g h)

  pieces_stops : (a b c : Option (List ℕ)) (k l : List ℕ) (rs : List A) (i : ℕ) (r : A) → i < length rs → r ≡ slice_index_or rs i r →
      Puts a k b l (flat_map f (take i rs)) → Stops b l c (f r) → Stops a k c (flat_map f rs)
  pieces_stops a b c k l rs i r below is g h =
      subst (Stops a k c) (all-pieces rs (i + 1)) (
      stops_before a c k (flat_map f (take (i + 1) rs)) (flat_map f (drop (i + 1) rs)) (
      subst (Stops a k c) (one-piece rs i r below is) (stops_behind a b c k l (flat_map f (take i rs)) (f r) g h)
      )
      )

-- texts in their turns
pub texts_puts : (a b c : Option (List ℕ)) (k l m : List ℕ) (rs : List KeptReport) (i : ℕ) (r : KeptReport) → i < length rs → r ≡ slice_index_or rs i r →
    Puts a k b l (texts_of (take i rs)) → Puts b l c m (text_of r) → Puts a k c m (texts_of (take (i + 1) rs))
texts_puts = pieces_puts text_of

pub texts_stops : (a b c : Option (List ℕ)) (k l : List ℕ) (rs : List KeptReport) (i : ℕ) (r : KeptReport) → i < length rs → r ≡ slice_index_or rs i r →
    Puts a k b l (texts_of (take i rs)) → Stops b l c (text_of r) → Stops a k c (texts_of rs)
texts_stops = pieces_stops text_of

-- all of them
pub texts_alone : (es : List Experiment) → texts_of (map made_alone es) ≡ reports es
texts_alone [] = refl
texts_alone (e ∷ es) = ap (λ (l : List ℕ). report_alone e ++ l) (texts_alone es)

pub made_as : (format : Format) (es : List Experiment) → bytes_as format (map made_alone (scenario_as format es)) ≡ output_as format es
made_as Text es = texts_alone es
made_as TracedText es = texts_alone (map traced es)
made_as Npy es = refl

-- the rows of all reports
rows-all : (first : ℕ) (rs : List KeptReport) (i : ℕ) → rows_from first (take i rs) ++ rows_from (first + i) (drop i rs) ≡ rows_from first rs
rows-all first [] zero = refl
rows-all first [] (suc i) = refl
rows-all first (x ∷ rs) zero =
    let same : first + 0 ≡ first = omega arith in
    ap (λ (n : ℕ). rows_from n (x ∷ rs)) same
rows-all first (x ∷ rs) (suc i) =
    let mine : List ℕ = rows_of (min first 255) x.records x.counters in
    let next : first + suc i ≡ first + 1 + i = omega arith in
    append_assoc mine (rows_from (first + 1) (take i rs)) (rows_from (first + suc i) (drop i rs))
    ∙ ap (λ (n : ℕ). mine ++ (rows_from (first + 1) (take i rs) ++ rows_from n (drop i rs))) next
    ∙ ap (λ (l : List ℕ). mine ++ l) (rows-all (first + 1) rs i)

pub rows_puts : (a b c : Option (List ℕ)) (k l m : List ℕ) (rs : List KeptReport) (i : ℕ) (r : KeptReport) → i < length rs → r ≡ slice_index_or rs i r →
    Puts a k b l (rows_from 0 (take i rs)) → Puts b l c m (rows_of (min i 255) r.records r.counters) → Puts a k c m (rows_from 0 (take (i + 1) rs))
rows_puts a b c k l m rs i r below is g h =
    subst (Puts a k c m) (rows-next rs i r below is) (puts_both a b c k l m (rows_from 0 (take i rs)) (rows_of (min i 255) r.records r.counters) g h)

pub rows_stops : (a b c : Option (List ℕ)) (k l : List ℕ) (rs : List KeptReport) (i : ℕ) (r : KeptReport) → i < length rs → r ≡ slice_index_or rs i r →
    Puts a k b l (rows_from 0 (take i rs)) → Stops b l c (rows_of (min i 255) r.records r.counters) → Stops a k c (rows_from 0 rs)
rows_stops a b c k l rs i r below is g h =
    subst (Stops a k c) (rows-all 0 rs (i + 1)) (
    stops_before a c k (rows_from 0 (take (i + 1) rs)) (rows_from (0 + (i + 1)) (drop (i + 1) rs)) (
    subst (Stops a k c) (rows-next rs i r below is)
    (stops_behind a b c k l (rows_from 0 (take i rs)) (rows_of (min i 255) r.records r.counters) g h)
    )
    )

-- the lines of some records more
module _ {A : Type 0} (f : A → List ℕ) where
  more-lines : (rs : List A) (i n : ℕ) → flat_map f (take i rs) ++ flat_map f (take n (drop i rs)) ≡ flat_map f (take (i + n) rs)
  more-lines rs i n = flat_map_further f [] rs i n

  pub pieces_further : (a b c : Option (List ℕ)) (k l m : List ℕ) (rs : List A) (i n : ℕ) →
      Puts a k b l (flat_map f (take i rs)) → Puts b l c m (flat_map f (take n (drop i rs))) → Puts a k c m (flat_map f (take (i + n) rs))
  pieces_further a b c k l m rs i n g h =
      subst (Puts a k c m) (more-lines rs i n) (puts_both a b c k l m (flat_map f (take i rs)) (flat_map f (take n (drop i rs))) g h)

  pub pieces_amid : (a b c : Option (List ℕ)) (k l : List ℕ) (rs : List A) (i n : ℕ) →
      Puts a k b l (flat_map f (take i rs)) → Stops b l c (flat_map f (take n (drop i rs))) → Stops a k c (flat_map f rs)
  pieces_amid a b c k l rs i n g h =
      subst (Stops a k c) (all-pieces f rs (i + n)) (
      stops_before a c k (flat_map f (take (i + n) rs)) (flat_map f (drop (i + n) rs)) (
      subst (Stops a k c) (more-lines rs i n)
      (stops_behind a b c k l (flat_map f (take i rs)) (flat_map f (take n (drop i rs))) g h)
      )
      )

  pub pieces_cut : (a b c : Option (List ℕ)) (k l : List ℕ) (rs : List A) (i : ℕ) →
      Puts a k b l (flat_map f (take i rs)) → Stops b l c [] → Stops a k c (flat_map f rs)
  pieces_cut a b c k l rs i g h =
      subst (Stops a k c) (all-pieces f rs i)
      (stops_behind a b c k l (flat_map f (take i rs)) (flat_map f (drop i rs)) g (stops_any b c l (flat_map f (drop i rs)) h))

-- the rows of some records more
pub some_rows_puts : (n : ℕ) (a b c : Option (List ℕ)) (k l m bytes : List ℕ) (rs left : List Record) (i some : ℕ) → left ≡ drop i rs → bytes ≡ flat_map (record_bytes n) (take some left) →
    Puts a k b l (flat_map (record_bytes n) (take i rs)) → Puts b l c m bytes → Puts a k c m (flat_map (record_bytes n) (take (i + some) rs))
some_rows_puts n a b c k l m bytes rs left i some rest is g h =
    pieces_further (record_bytes n) a b c k l m rs i some g (subst (Puts b l c m) (is ∙ ap (λ x. flat_map (record_bytes n) (take some x)) rest) h)

pub some_rows_stops : (n : ℕ) (a b c : Option (List ℕ)) (k l bytes : List ℕ) (rs left : List Record) (i some : ℕ) → left ≡ drop i rs → bytes ≡ flat_map (record_bytes n) (take some left) →
    Puts a k b l (flat_map (record_bytes n) (take i rs)) → Stops b l c bytes → Stops a k c (flat_map (record_bytes n) rs)
some_rows_stops n a b c k l bytes rs left i some rest is g h =
    pieces_amid (record_bytes n) a b c k l rs i some g (subst (Stops b l c) (is ∙ ap (λ x. flat_map (record_bytes n) (take some x)) rest) h)

pub lines_puts : (a b c : Option (List ℕ)) (k l m : List ℕ) (rs left : List Record) (i n : ℕ) → left ≡ drop i rs →
    Puts a k b l (flat_map line_of (take i rs)) → Puts b l c m (flat_map line_of (take n left)) → Puts a k c m (flat_map line_of (take (i + n) rs))
lines_puts a b c k l m rs left i n rest g h =
    pieces_further line_of a b c k l m rs i n g (subst (λ x. Puts b l c m (flat_map line_of (take n x))) rest h)

pub lines_stops : (a b c : Option (List ℕ)) (k l : List ℕ) (rs : List Record) (i : ℕ) →
    Puts a k b l (flat_map line_of (take i rs)) → Stops b l c [] → Stops a k c (flat_map line_of rs)
lines_stops = pieces_cut line_of

-- two pieces of one
module _ (first second whole : List ℕ) (is : first ++ second ≡ whole) where
  pub two_put : (a b c : Option (List ℕ)) (k l m : List ℕ) → Puts a k b l first → Puts b l c m second → Puts a k c m whole
  two_put a b c k l m f g = subst (Puts a k c m) is (puts_both a b c k l m first second f g)

  pub first_of_two_stops : (a b : Option (List ℕ)) (k : List ℕ) → Stops a k b first → Stops a k b whole
  first_of_two_stops a b k f = subst (Stops a k b) is (stops_before a b k first second f)

  pub second_of_two_stops : (a b c : Option (List ℕ)) (k l : List ℕ) → Puts a k b l first → Stops b l c second → Stops a k c whole
  second_of_two_stops a b c k l f g = subst (Stops a k c) is (stops_behind a b c k l first second f g)

-- three pieces of one
module _ (first second third whole : List ℕ) (is : first ++ (second ++ third) ≡ whole) where
  pub three_put : (a b c d : Option (List ℕ)) (k l m n : List ℕ) → Puts a k b l first → Puts b l c m second → Puts c m d n third → Puts a k d n whole
  three_put a b c d k l m n f g h = subst (Puts a k d n) is (puts_both a b d k l n first (second ++ third) f (puts_both b c d l m n second third g h))

  pub first_stops : (a b : Option (List ℕ)) (k : List ℕ) → Stops a k b first → Stops a k b whole
  first_stops a b k f = subst (Stops a k b) is (stops_before a b k first (second ++ third) f)

  pub second_stops : (a b c : Option (List ℕ)) (k l : List ℕ) → Puts a k b l first → Stops b l c second → Stops a k c whole
  second_stops a b c k l f g =
      subst (Stops a k c) is (stops_behind a b c k l first (second ++ third) f (stops_before b c l second third g))

  pub third_stops : (a b c d : Option (List ℕ)) (k l m : List ℕ) → Puts a k b l first → Puts b l c m second → Stops c m d third → Stops a k d whole
  third_stops a b c d k l m f g h =
      subst (Stops a k d) is (stops_behind a b d k l first (second ++ third) f (stops_behind b c d l m second third g h))
