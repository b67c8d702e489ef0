-- Texts that are put into a room one behind the other.
use Rattle.std.proofs.Common.{◌≡◌, ℕ, zero, suc, min, ◌+◌, ◌-◌, ◌<◌, ◌≤◌, List, [], ◌∷◌, ◌++◌, length, take, drop, sym, ap, ◌∙◌, refl, append_assoc, append-nil, arith}
use Rattle.std.specs.Prelude.{flat_map, slice_index_or, Result, Ok, Err, IfOk}
use Rattle.std.proofs.lemmas.List.{length-append, take_more, drop-drop}
use Rattle.std.proofs.lemmas.List.Concat.{flat_map-append}
use Rattle.report.proofs.Taken.{flat_map_further}
use Rattle.report.specs.Rows.{rows_of}
use Rattle.experiment.specs.Rooms.{IsPutAt}
use Rattle.experiment.specs.Written.{KeptReport, rows_from}

pub put_none : (at : ℕ) (room : List ℕ) → IsPutAt [] at room room at
put_none at room = record { ends = omega arith; stands = λ h. sym (append-nil (take at room)); rest = refl; room = refl }

-- bytes behind a place that stay are also those behind a later one
later : (a b : List ℕ) (middle end : ℕ) → middle ≤ end → drop middle b ≡ drop middle a → drop end b ≡ drop end a
later a b middle end below same =
    let is : middle + (end - middle) ≡ end = omega (arith, below) in
    ap (λ (n : ℕ). drop n b) (sym is) ∙ sym (drop-drop (end - middle) middle b) ∙ ap (drop (end - middle)) same
    ∙ drop-drop (end - middle) middle a ∙ ap (λ (n : ℕ). drop n a) is

pub put_both : (first second whole : List ℕ) → first ++ second ≡ whole → (at middle end : ℕ) (a b c : List ℕ) →
    IsPutAt first at a b middle → IsPutAt second middle b c end → IsPutAt whole at a c end
put_both first second whole is at middle end a b c f g = record {
  ends = omega (arith, f.ends, g.ends, length-append first second, ap length is);
  stands = λ h.
      g.stands (omega (arith, h, f.room))
      ∙ ap (λ (l : List ℕ). l ++ second) (f.stands (omega (arith, h, g.ends)))
      ∙ append_assoc (take at a) first second
      ∙ ap (λ (l : List ℕ). take at a ++ l) is;
  rest = g.rest ∙ later a b middle end (omega (arith, g.ends)) f.rest;
  room = g.room ∙ f.room;
}

put_three : (first second third whole : List ℕ) → first ++ (second ++ third) ≡ whole → (at one two end : ℕ) (a b c d : List ℕ) →
    IsPutAt first at a b one → IsPutAt second one b c two → IsPutAt third two c d end → IsPutAt whole at a d end
put_three first second third whole is at one two end a b c d f g h =
    put_both first (second ++ third) whole is at one end a b d f (put_both second third (second ++ third) refl one two end b c d g h)

pub put_last : {E : Type 0} (first second third whole : List ℕ) → first ++ (second ++ third) ≡ whole → (at one two : ℕ) (a b c d : List ℕ) (r : Result ℕ E) →
    IsPutAt first at a b one → IsPutAt second one b c two → IfOk r (IsPutAt third two c d) → IfOk r (IsPutAt whole at a d)
put_last first second third whole is at one two a b c d (Ok end) f g h = put_three first second third whole is at one two end a b c d f g h
put_last first second third whole is at one two a b c d (Err e) f g h = tt

module _ {A : Type 0} (f : A → List ℕ) where
  further : (rs : List A) (i n : ℕ) → flat_map f (take i rs) ++ flat_map f (take n (drop i rs)) ≡ flat_map f (take (i + n) rs)
  further rs i n = flat_map_further f [] rs i n

  pub put_further : (rs : List A) (i n at middle end : ℕ) (a b c : List ℕ) →
      IsPutAt (flat_map f (take i rs)) at a b middle → IsPutAt (flat_map f (take n (drop i rs))) middle b c end →
      IsPutAt (flat_map f (take (i + n) rs)) at a c end
  put_further rs i n at middle end a b c g h =
      put_both (flat_map f (take i rs)) (flat_map f (take n (drop i rs))) (flat_map f (take (i + n) rs)) (further rs i n) at middle end a b c g h

one-piece : {A : Type 0} (f : A → List ℕ) (rs : List A) (i : ℕ) (r : A) → i < length rs → r ≡ slice_index_or rs i r →
    flat_map f (take i rs) ++ f r ≡ flat_map f (take (i + 1) rs)
one-piece {A} f rs i r below is =
    ap (λ (l : List ℕ). flat_map f (take i rs) ++ l) (sym (append-nil (f r)))
    ∙ sym (flat_map-append f (take i rs) (r ∷ []))
    ∙ ap (λ (t : A). flat_map f (take i rs ++ t ∷ [])) is
    ∙ ap (flat_map f) (sym (take_more rs i r below))

pub put_piece : {A : Type 0} (f : A → List ℕ) (rs : List A) (i : ℕ) (r : A) → i < length rs → r ≡ slice_index_or rs i r →
    (at middle end : ℕ) (a b c : List ℕ) →
    IsPutAt (flat_map f (take i rs)) at a b middle → IsPutAt (f r) middle b c end →
    IsPutAt (flat_map f (take (i + 1) rs)) at a c end
put_piece f rs i r below is at middle end a b c g h =
    put_both (flat_map f (take i rs)) (f r) (flat_map f (take (i + 1) rs)) (one-piece f rs i r below is) at middle end a b c g h

pub put_behind : {E : Type 0} (first second : List ℕ) (at middle : ℕ) (a b c : List ℕ) (r : Result ℕ E) →
    IsPutAt first at a b middle → IfOk r (IsPutAt second middle b c) → IfOk r (IsPutAt (first ++ second) at a c)
put_behind first second at middle a b c (Ok end) f g = put_both first second (first ++ second) refl at middle end a b c f g
put_behind first second at middle a b c (Err e) f g = tt

-- the rows of one report more
rows-more : (first : ℕ) (rs : List KeptReport) (i : ℕ) (r : KeptReport) → i < length rs → r ≡ slice_index_or rs i r →
    rows_from first (take i rs) ++ rows_of (min (first + i) 255) r.records r.counters ≡ rows_from first (take (suc i) rs)
rows-more first [] i r below is = absurd (omega (arith, below))
rows-more first (x ∷ rs) zero r below is =
    let same : first + 0 ≡ first = omega arith in
    ap (λ (n : ℕ). rows_of (min n 255) r.records r.counters) same
    ∙ ap (λ (y : KeptReport). rows_of (min first 255) y.records y.counters) is ∙ sym (append-nil (rows_of (min first 255) x.records x.counters))
rows-more first (x ∷ rs) (suc i) r below is =
    let mine : List ℕ = rows_of (min first 255) x.records x.counters in
    let next : first + suc i ≡ first + 1 + i = omega arith in
    ap (λ (n : ℕ). rows_from first (take (suc i) (x ∷ rs)) ++ rows_of (min n 255) r.records r.counters) next
    ∙ append_assoc mine (rows_from (first + 1) (take i rs)) (rows_of (min (first + 1 + i) 255) r.records r.counters)
    ∙ ap (λ (l : List ℕ). mine ++ l) (rows-more (first + 1) rs i r (omega (arith, below)) is)

pub rows-next : (rs : List KeptReport) (i : ℕ) (r : KeptReport) → i < length rs → r ≡ slice_index_or rs i r →
    rows_from 0 (take i rs) ++ rows_of (min i 255) r.records r.counters ≡ rows_from 0 (take (i + 1) rs)
rows-next rs i r below is =
    let same : i ≡ 0 + i = omega arith in
    let next : suc i ≡ i + 1 = omega arith in
    ap (λ (n : ℕ). rows_from 0 (take i rs) ++ rows_of (min n 255) r.records r.counters) same ∙ rows-more 0 rs i r below is
    ∙ ap (λ (n : ℕ). rows_from 0 (take n rs)) next
