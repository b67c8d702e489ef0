-- The records of archived words, and what one more of them changes: nothing of the others.
use Rattle.std.proofs.Common.{◌≡◌, ◌<◌, ℕ, zero, suc, List, [], ◌∷◌, ◌++◌, ◌≤◌, length, take, drop, refl, sym, ap, ◌∙◌, subst, append-nil, arith}
use Rattle.std.specs.Prelude.{Option, None, Some, IfSome, slice_get, slice_index_or}
use Rattle.std.specs.List.{All, flat_map}
use Rattle.std.proofs.Math.Seq.{get_or-append_seam}
use Rattle.std.proofs.lemmas.List.{append_cancel_left, get_or_append_left, length-append, length-take, take-append-drop, take-take}
use Rattle.std.proofs.lemmas.List.Concat.{flat_map-append}
use Rattle.std.proofs.lemmas.List.Elements.{All-head, All-tail, All-nil, All-cons, All-append, All-weaker}
use Rattle.emu_model.specs.declared.records.Record.{Record}
use Rattle.emu_model.specs.declared.records.Record.TheVariants.{StepsSpent}
use Rattle.report.specs.Orders.{IsRun, in_order}
use Rattle.report.proofs.Orders.{all_in_order, more_words}
use Rattle.report.specs.declared.archive.Run.{Run}
use Rattle.report.specs.Archive.{IsArrival, IsEntry, IsEntryOfKind, IsLeft, Names, Spells, SpellsKind, Stay, arrived_as, behind_first, entries_of, entries_of_kind, left_of, made_as, parts_in, record_of}
use Rattle.report.specs.declared.packed.Kind.{Kind}
use Rattle.report.specs.declared.packed.Kind.TheVariants.{Whole, Done, Arrived, Finished, Delivered, Segment, Acknowledged, Passed, Dropped, Window, Expired, Made, Entered}
use Rattle.report.specs.declared.packed.Packed.{Packed}
use Rattle.report.specs.declared.packed.Parts.{Parts}
use Rattle.report.specs.declared.reader.Rest.{Rest}

-- words that still mean what they meant
pub stay_same : (os : List Record) → Stay os os
stay_same os w stands = (stands, refl)

pub stay_further : (os ps qs : List Record) → Stay os ps → Stay ps qs → Stay os qs
stay_further os ps qs first second w stands =
    let a = first w stands in
    let b = second w a.0 in (b.0, b.1 ∙ a.1)

pub stay_flat : (os qs : List Record) (ws : List Packed) → Stay os qs → All (IsEntry os) ws → flat_map (entries_of qs) ws ≡ flat_map (entries_of os) ws
stay_flat os qs [] stay all = refl
stay_flat os qs (w ∷ ws) stay all = λ i.
    (stay w (All-head (IsEntry os) w ws all)).1 i ++ stay_flat os qs ws stay (All-tail (IsEntry os) w ws all) i

pub stay_entries : (os qs : List Record) (ws : List Packed) → Stay os qs → All (IsEntry os) ws → All (IsEntry qs) ws
stay_entries os qs ws stay all = All-weaker (IsEntry os) (IsEntry qs) (λ w h. (stay w h).0) ws all

-- what is in front of more words, is in front of still more
pub kept_further : (xs ys zs : List Packed) → take (length xs) ys ≡ xs → take (length ys) zs ≡ ys → take (length xs) zs ≡ xs
kept_further xs ys zs first second =
    sym (take-take (length xs) (length ys) zs (omega (arith, ap length first, length-take (length xs) ys)))
    ∙ ap (take (length xs)) second
    ∙ first

-- one word more
pub one_more : (os qs : List Record) (ws : List Packed) (w : Packed) (rs : List Record) → Stay os qs → All (IsEntry os) ws → entries_of qs w ≡ rs →
    flat_map (entries_of qs) (ws ++ w ∷ []) ≡ flat_map (entries_of os) ws ++ rs
one_more os qs ws w rs stay all is =
    flat_map-append (entries_of qs) ws (w ∷ [])
    ∙ (λ i. stay_flat os qs ws stay all i ++ (append-nil (entries_of qs w) ∙ is) i)

pub one_more_entry : (os qs : List Record) (ws : List Packed) (w : Packed) → Stay os qs → All (IsEntry os) ws → IsEntry qs w → All (IsEntry qs) (ws ++ w ∷ [])
one_more_entry os qs ws w stay all here =
    All-append (IsEntry qs) ws (w ∷ []) (stay_entries os qs ws stay all) (All-cons (IsEntry qs) w [] here (All-nil (IsEntry qs)))

-- one whole record more
module _ (os : List Record) (r : Record) where
  front : (k : ℕ) → k < length os → slice_index_or (os ++ r ∷ []) k (StepsSpent 0) ≡ slice_index_or os k (StepsSpent 0)
  front k inside = get_or_append_left os (r ∷ []) (StepsSpent 0) k inside

  same_kind : (k : Kind) (b : Packed) → IsEntryOfKind k os b → entries_of_kind k (os ++ r ∷ []) b ≡ entries_of_kind k os b
  same_kind Whole b h = λ i. front b.high h i ∷ []
  same_kind Done b h = refl
  same_kind Arrived b h = refl
  same_kind Finished b h = refl
  same_kind Delivered b h = refl
  same_kind Segment b h = refl
  same_kind Acknowledged b h = refl
  same_kind Passed b h = refl
  same_kind Dropped b h = refl
  same_kind Window b h = refl
  same_kind Expired b h = refl
  same_kind Made b h = λ i. made_as (front (parts_in b).tag h i) (parts_in b) ∷ []
  same_kind Entered b h = λ i.
      made_as (front (parts_in b).tag (omega (arith, h.0)) i) (parts_in b) ∷ arrived_as (front (suc (parts_in b).tag) h.0 i) (parts_in b) ∷ []

  still_kind : (k : Kind) (b : Packed) → IsEntryOfKind k os b → IsEntryOfKind k (os ++ r ∷ []) b
  still_kind Whole b h = omega (arith, h, length-append os (r ∷ []))
  still_kind Done b h = h
  still_kind Arrived b h = h
  still_kind Finished b h = h
  still_kind Delivered b h = h
  still_kind Segment b h = h
  still_kind Acknowledged b h = h
  still_kind Passed b h = h
  still_kind Dropped b h = h
  still_kind Window b h = h
  still_kind Expired b h = h
  still_kind Made b h = omega (arith, h, length-append os (r ∷ []))
  still_kind Entered b h = (
    omega (arith, h.0, length-append os (r ∷ [])),
    subst IsArrival (sym (front (suc (parts_in b).tag) h.0)) h.1,
  )

  pub stay_more : Stay os (os ++ r ∷ [])
  stay_more w stands = (still_kind (parts_in w).kind w stands, same_kind (parts_in w).kind w stands)

  pub whole_entries : (w : Packed) → (parts_in w).kind ≡ Whole → w.high ≡ length os →
      (entries_of (os ++ r ∷ []) w ≡ r ∷ []) × IsEntry (os ++ r ∷ []) w
  whole_entries w kind place = (
    ap (λ k. entries_of_kind k (os ++ r ∷ []) w) kind
        ∙ (λ i. (ap (λ k. slice_index_or (os ++ r ∷ []) k (StepsSpent 0)) place ∙ get_or-append_seam os r [] (StepsSpent 0)) i ∷ []),
    subst (λ k. IsEntryOfKind k (os ++ r ∷ []) w) (sym kind) (omega (arith, place, length-append os (r ∷ []))),
  )

-- the words of a common record
pub common_entries : (os : List Record) (w : Packed) (p : Parts) (r : Record) → parts_in w ≡ p → Names p.kind p.tag p.number → record_of p ≡ r →
    (entries_of os w ≡ r ∷ []) × IsEntry os w
common_entries os w p r is names spelled =
    let q = parts_in w in
    let found = by q.kind (subst (λ (x : Parts). Names x.kind x.tag x.number) (sym is) names) in
    (found.0 ∙ (λ i. (ap record_of is ∙ spelled) i ∷ []), found.1)
  where
    by : (k : Kind) → Names k (parts_in w).tag (parts_in w).number → (entries_of_kind k os w ≡ record_of (parts_in w) ∷ []) × IsEntryOfKind k os w
    by Whole h = absurd h
    by Made h = absurd h
    by Entered h = absurd h
    by Done h = (refl, h)
    by Arrived h = (refl, h)
    by Finished h = (refl, h)
    by Delivered h = (refl, h)
    by Segment h = (refl, h)
    by Acknowledged h = (refl, h)
    by Passed h = (refl, h)
    by Dropped h = (refl, h)
    by Window h = (refl, h)
    by Expired h = (refl, h)

-- the words of a packet that was created as another one, alone and with its arrival
pub made_entries : (os : List Record) (w : Packed) (p : Parts) (r : Record) → parts_in w ≡ p → p.kind ≡ Made → p.tag < length os →
    made_as (slice_index_or os p.tag (StepsSpent 0)) p ≡ r → (entries_of os w ≡ r ∷ []) × IsEntry os w
made_entries os w p r is kind inside made =
    let k : (parts_in w).kind ≡ Made = ap (λ (x : Parts). x.kind) is ∙ kind in (
      ap (λ k. entries_of_kind k os w) k ∙ (λ i. (ap (λ (x : Parts). made_as (slice_index_or os x.tag (StepsSpent 0)) x) is ∙ made) i ∷ []),
      subst (λ k. IsEntryOfKind k os w) (sym k) (omega (arith, inside, ap (λ (x : Parts). x.tag) is)),
    )

pub pair_entries : (os : List Record) (w : Packed) (p : Parts) (r next : Record) → parts_in w ≡ p → p.kind ≡ Entered → suc p.tag < length os →
    IsArrival (slice_index_or os (suc p.tag) (StepsSpent 0)) → made_as (slice_index_or os p.tag (StepsSpent 0)) p ≡ r →
    arrived_as (slice_index_or os (suc p.tag) (StepsSpent 0)) p ≡ next → (entries_of os w ≡ r ∷ next ∷ []) × IsEntry os w
pair_entries os w p r next is kind inside arrival made arrived =
    let k : (parts_in w).kind ≡ Entered = ap (λ (x : Parts). x.kind) is ∙ kind in (
      ap (λ k. entries_of_kind k os w) k
          ∙ (λ i. (ap (λ (x : Parts). made_as (slice_index_or os x.tag (StepsSpent 0)) x) is ∙ made) i
          ∷ (ap (λ (x : Parts). arrived_as (slice_index_or os (suc x.tag) (StepsSpent 0)) x) is ∙ arrived) i ∷ []),
      subst (λ k. IsEntryOfKind k os w) (sym k) (
        omega (arith, inside, ap (λ (x : Parts). x.tag) is),
        subst (λ (x : Parts). IsArrival (slice_index_or os (suc x.tag) (StepsSpent 0))) (sym is) arrival,
      ),
    )

-- the first record of words, and what is left behind it
pub first_spelled : (os : List Record) (w : Packed) → IsEntry os w →
    ((r : Record) × Spells os w (parts_in w) r × (entries_of os w ≡ r ∷ left_of os (behind_first (parts_in w).kind w)))
    × IsLeft os (behind_first (parts_in w).kind w)
first_spelled os w stands = by (parts_in w).kind stands
  where
    by : (k : Kind) → IsEntryOfKind k os w →
        ((r : Record) × SpellsKind k os w (parts_in w) r × (entries_of_kind k os w ≡ r ∷ left_of os (behind_first k w))) × IsLeft os (behind_first k w)
    by Whole h = ((_, (h, refl), refl), _)
    by Made h = ((_, (h, refl), refl), _)
    by Entered h = ((_, (omega (arith, h.0), refl), refl), h)
    by Done h = ((_, (h, refl), refl), _)
    by Arrived h = ((_, (h, refl), refl), _)
    by Finished h = ((_, (h, refl), refl), _)
    by Delivered h = ((_, (h, refl), refl), _)
    by Segment h = ((_, (h, refl), refl), _)
    by Acknowledged h = ((_, (h, refl), refl), _)
    by Passed h = ((_, (h, refl), refl), _)
    by Dropped h = ((_, (h, refl), refl), _)
    by Window h = ((_, (h, refl), refl), _)
    by Expired h = ((_, (h, refl), refl), _)

-- words behind those that were there, and the records in order
module _ (os qs : List Record) (ws vs : List Packed) (runs : List Run) (tail : ℕ) (stay : Stay os qs) (all : All (IsEntry os) ws) where
  pub order_stays : flat_map (entries_of qs) (in_order runs tail ws) ≡ flat_map (entries_of os) (in_order runs tail ws)
  order_stays = stay_flat os qs (in_order runs tail ws) stay (all_in_order (IsEntry os) ws tail runs all)

  pub order_grows : (rs : List Record) → tail ≤ length ws → All (IsRun tail) runs → take (length ws) vs ≡ ws →
      flat_map (entries_of qs) vs ≡ flat_map (entries_of os) ws ++ rs →
      flat_map (entries_of qs) (in_order runs tail vs) ≡ flat_map (entries_of os) (in_order runs tail ws) ++ rs
  order_grows rs few are kept is =
      let more = drop (length ws) vs in
      let grown : vs ≡ ws ++ more = sym (take-append-drop (length ws) vs) ∙ ap (λ l. l ++ more) kept in
      let behind : flat_map (entries_of qs) more ≡ rs =
      append_cancel_left (flat_map (entries_of os) ws) (flat_map (entries_of qs) more) rs (
      (λ i. sym (stay_flat os qs ws stay all) i ++ flat_map (entries_of qs) more)
      ∙ sym (flat_map-append (entries_of qs) ws more)
      ∙ ap (flat_map (entries_of qs)) (sym grown)
      ∙ is
      ) in
      ap (λ l. flat_map (entries_of qs) (in_order runs tail l)) grown
      ∙ ap (flat_map (entries_of qs)) (more_words ws more tail runs few are)
      ∙ flat_map-append (entries_of qs) (in_order runs tail ws) more
      ∙ (λ i. order_stays i ++ behind i)

pub if_some : (o : Option Packed) {P Q : Packed → Type 0} → ((w : Packed) → P w → Q w) → IfSome o P → IfSome o Q
if_some None f h = h
if_some (Some w) f h = f w h

-- the next record of words
pub word_read : (os before : List Record) (vs : List Packed) (w v : Packed) (p : Parts) (l : Option Rest) → before ≡ entries_of os w ++ flat_map (entries_of os) vs →
    v ≡ w → p ≡ parts_in w → l ≡ behind_first (parts_in w).kind w → IsEntry os w →
    (r : Record) × Spells os v p r × (before ≡ r ∷ (left_of os l ++ flat_map (entries_of os) vs))
word_read os before vs w v p l is word parts left stands =
    let found = first_spelled os w stands in
    let r = found.0.0 in (
      r,
      subst (λ (x : Packed). Spells os x p r) (sym word) (subst (λ (x : Parts). Spells os w x r) (sym parts) found.0.1),
      is
          ∙ ap (λ rs. rs ++ flat_map (entries_of os) vs) found.0.2
          ∙ ap (λ (x : Option Rest). r ∷ (left_of os x ++ flat_map (entries_of os) vs)) (sym left),
    )

-- words of a single record each
some-records : (os : List Record) (w : Packed) → 1 ≤ length (entries_of os w)
some-records os w = by (parts_in w).kind
  where
    by : (k : Kind) → 1 ≤ length (entries_of_kind k os w)
    by Whole = omega arith
    by Made = omega arith
    by Entered = omega arith
    by Done = omega arith
    by Arrived = omega arith
    by Finished = omega arith
    by Delivered = omega arith
    by Segment = omega arith
    by Acknowledged = omega arith
    by Passed = omega arith
    by Dropped = omega arith
    by Window = omega arith
    by Expired = omega arith

at-least : (os : List Record) (ws : List Packed) → length ws ≤ length (flat_map (entries_of os) ws)
at-least os [] = omega arith
at-least os (w ∷ ws) = omega (arith, some-records os w, at-least os ws, length-append (entries_of os w) (flat_map (entries_of os) ws))

shift : (l m : List Record) (k : ℕ) → length l ≡ 1 → slice_get (l ++ m) (suc k) ≡ slice_get m k
shift [] m k is = absurd (omega (arith, is))
shift (x ∷ []) m k is = refl
shift (x ∷ y ∷ l) m k is = absurd (omega (arith, is))

pub single_words : (os : List Record) (ws : List Packed) (k : ℕ) (w : Packed) (r : Record) (rest : List Record) →
    length (flat_map (entries_of os) ws) ≡ length ws → k < length ws → w ≡ slice_index_or ws k w → entries_of os w ≡ r ∷ rest →
    slice_get (flat_map (entries_of os) ws) k ≡ Some r
single_words os [] k w r rest few below is first = absurd (omega (arith, below))
single_words os (v ∷ ws) zero w r rest few below is first =
    ap (λ l. slice_get (l ++ flat_map (entries_of os) ws) 0) (ap (entries_of os) (sym is) ∙ first)
single_words os (v ∷ ws) (suc k) w r rest few below is first =
    let all = flat_map (entries_of os) ws in
    let sum = length-append (entries_of os v) all in
    shift (entries_of os v) all k (omega (arith, few, sum, at-least os ws, some-records os v))
    ∙ single_words os ws k w r rest (omega (arith, few, sum, at-least os ws, some-records os v)) (omega (arith, below)) is first
