-- The least entry of a wheel, and what it leaves.
use Rattle.std.proofs.Common.{zero, suc, List, [], ◌∷◌, inl, inr, ◌⊎◌, ◌≡◌, ◌≢◌, ℕ, ◌<◌, ◌≤◌, ◌^◌, Bool, true, false, ◌==◌, ◌&&◌, nat_lt, cond, map, Option, Some, None, slice_get, length, get_or, set, count_by, min, MatchOption, IfSome, IfNone, refl, sym, ap, subst, ◌∙◌, eq-eqb, arith}
use Rattle.std.proofs.lemmas.Bool.{cases_eq, cases_lt, ne_eqb, le-ltb}
use Rattle.std.proofs.lemmas.Option.{slice_get_within, get_or_from_slice_get}
use Rattle.std.proofs.lemmas.List.Sorted.{Contains-permutation}
use Rattle.std.specs.List.{Contains}
use Rattle.std.specs.List.Sorted.{IsPermutation}
use Rattle.emu_model.specs.declared.sources.Source.{Source}
use Rattle.emu_model.specs.RunLaws.{same_source}
use Rattle.timer_wheel.specs.declared.Entry.{Entry}
use Rattle.timer_wheel.specs.declared.ties.Tie.{Tie}
use Rattle.timer_wheel.specs.Index.{key_in}
use Rattle.timer_wheel.specs.Places.{place_of}
use Rattle.timer_wheel.specs.Rows.{Row, no_dues, with_due, without_due, IsAtOrAbove, is_before}
use Rattle.timer_wheel.specs.Stocks.{StockBook, Holds, IsStock, IsSpread, due_by, due_if, due_of, room_of, unless}
use Rattle.timer_wheel.specs.Stands.{StandsAt, IsPlaced, IsSeated, IsWheel, IsTurned, IsStill, without_at, with_at}
use Rattle.timer_wheel.proofs.Sources.{same_source-true}
use Rattle.timer_wheel.specs.Ties.{TiesBook, Waits, IsRising, tie_of, tie_before}
use Rattle.timer_wheel.proofs.EntryOrder.{is_before-low, is_before-order}
use Rattle.timer_wheel.proofs.PlaceFacts.{place_of-order, place_of-stays, place_of-within}
use Rattle.timer_wheel.proofs.SlotFacts.{set_there, set_elsewhere}
use Rattle.timer_wheel.proofs.StockFacts.{some_same, rows_slots, is_free, free_stays}
use Rattle.timer_wheel.proofs.TieFacts.{before_at}
use Rattle.timer_wheel.proofs.MoveFacts.{IsLesser, stands, map_back, unless_from, unless_other}

-- an entry that is due later isn't before
due_later : (x e : Entry) → e.due < x.due → is_before x e ≡ false
due_later x e h =
    let l : nat_lt x.due e.due ≡ false = le-ltb x.due e.due (omega arith) in
    let q : (x.due == e.due) ≡ false = ne_eqb x.due e.due (λ k. omega arith) in
    rw (l, q)

-- what a key holds, the rows say, and the other way round
pub due_held : (b : StockBook) → IsStock b → (k : ℕ) (e : Entry) (p : ℕ) → Holds b.entries b.slots k e p → due_of b e.owner e.source ≡ Some e.due
unfolding due_of
due_held b w k e p h = ap (due_by b.entries) (w.known k e p h) ∙ ap due_if h.entry

pub held_due : (b : StockBook) → IsStock b → (o : ℕ) (s : Source) (d : ℕ) → due_of b o s ≡ Some d
    → (k : ℕ) × (e : Entry) × (p : ℕ) × Holds b.entries b.slots k e p × (e.owner ≡ o) × (e.source ≡ s) × (e.due ≡ d)
unfolding due_of
held_due b w o s d h = by (key_in b.index.keys o s) refl h
  where
    by : (r : Option ℕ) → key_in b.index.keys o s ≡ r → due_by b.entries r ≡ Some d → (k : ℕ) × (e : Entry) × (p : ℕ) × Holds b.entries b.slots k e p × (e.owner ≡ o) × (e.source ≡ s) × (e.due ≡ d)
    by None q h = let bad : None ≡ Some d = h in cc
    by (Some k) q h =
        let f : (e : Entry) × (p : ℕ) × Holds b.entries b.slots k e p × (e.owner ≡ o) × (e.source ≡ s) = w.found o s k q in
        let is : Some f.0.due ≡ Some d = sym (ap due_if f.2.entry) ∙ h in
        (k, f.0, f.1, f.2, f.3, f.4, (let e : f.0.due ≡ d = cc in e))

pub same_entry : (e : Entry) (d o : ℕ) (s : Source) → e.owner ≡ o → e.source ≡ s → e.due ≡ d → e ≡ record { due = d; owner = o; source = s }
same_entry e d o s a b c = λ i. record { due = c i; owner = a i; source = b i }

-- a wheel with no tie
pub record IsBare (clock : ℕ) (b : StockBook) : Type 0 where
  pub placed : (k : ℕ) (e : Entry) (p : ℕ) → Holds b.entries b.slots k e p → p ≡ place_of clock e.due
  pub low : IsAtOrAbove clock (due_of b)
  pub small : (o : ℕ) (s : Source) (d : ℕ) → due_of b o s ≡ Some d → d < 2 ^ 64

pub bare_wheel : (c : ℕ) (b : StockBook) (t : TiesBook) → IsWheel c b t → length t.items ≤ t.next → IsBare c b
bare_wheel c b t w passed =
    record {
      placed = λ k e p h. elim (w.placed k e p h) [
        | inl is ↦ is
        | inr tie ↦ absurd (omega (arith, tie.2.after, tie.2.below))
      ];
      low = w.low;
      small = w.small;
    }

pub placed_low : (c : ℕ) (b : StockBook) → IsBare c b → (k : ℕ) (e : Entry) (p : ℕ) → Holds b.entries b.slots k e p → p < 2048
placed_low c b w k e p h = subst (λ n. n < 2048) (sym (w.placed k e p h)) (place_of-within c e.due)

pub none_where_empty : (c : ℕ) (b : StockBook) → IsStock b → IsBare c b → ((q : ℕ) → q < 2048 → (k : ℕ) → slice_get b.slots k ≢ Some q) → (o : ℕ) (s : Source) → due_of b o s ≡ None
none_where_empty c b st w empty o s =
    elim (due_of b o s) as (λ r. due_of b o s ≡ r → due_of b o s ≡ None) [
      | None ↦ λ e. e
      | Some d ↦ λ e.
          let f : (k : ℕ) × (e : Entry) × (p : ℕ) × Holds b.entries b.slots k e p × (e.owner ≡ o) × (e.source ≡ s) × (e.due ≡ d) = held_due b st o s d e in
          absurd (empty f.2 (placed_low c b w f.0 f.1 f.2 f.3) f.0 f.3.slot)
    ] refl

unwithout : (t : Bool) (r : Option ℕ) (d : ℕ) → cond t None r ≡ Some d → r ≡ Some d
unwithout true r d h = let bad : None ≡ Some d = h in cc
unwithout false r d h = h

-- an entry isn't before itself, and the only one of a slot is its least
not_before_itself : (x : Entry) → is_before x x ≡ false
not_before_itself x = by (is_before x x) refl
  where
    by : (t : Bool) → is_before x x ≡ t → is_before x x ≡ false
    by true h = is_before-order.one_way x x h
    by false h = h

pub alone_least : (b : StockBook) (p : ℕ) (e : Entry) (k0 : ℕ) → Holds b.entries b.slots k0 e p → ((k : ℕ) → slice_get b.slots k ≡ Some p → k ≡ k0) →
    (k : ℕ) (x : Entry) → Holds b.entries b.slots k x p → is_before x e ≡ false
alone_least b p e k0 h0 alone k x h =
    let same : e ≡ x = some_same e x (slice_get b.entries k) (ap (slice_get b.entries) (alone k h.slot) ∙ h0.entry) h.entry in
    subst (λ y. is_before y e ≡ false) same (not_before_itself e)

-- the least entry of the first slot
module _ (c : ℕ) (b : StockBook) (st : IsStock b) (w : IsBare c b) (p : ℕ) (e : Entry) (k0 : ℕ) (h0 : Holds b.entries b.slots k0 e p)
    (first : (q : ℕ) → q < p → (k : ℕ) → slice_get b.slots k ≢ Some q)
    (least : (k : ℕ) (x : Entry) → Holds b.entries b.slots k x p → is_before x e ≡ false) where
  popped_place : place_of c e.due ≡ p
  popped_place = sym (w.placed k0 e p h0)

  pub popped_was : due_of b e.owner e.source ≡ Some e.due
  popped_was = due_held b st k0 e p h0

  pub popped_low : c ≤ e.due
  popped_low = w.low e.owner e.source e.due popped_was

  -- what stands elsewhere stands at a higher place
  higher : (k : ℕ) (x : Entry) (q : ℕ) → Holds b.entries b.slots k x q → q ≢ p → p < q
  higher k x q h ne =
      elim (cases_lt q p) [
        | inl l ↦ absurd (first q l k h.slot)
        | inr g ↦ elim (cases_lt p q) [ inl l ↦ l | inr r ↦ absurd (ne (omega arith)) ]
      ]

  popped_stays : (k : ℕ) (x : Entry) (q : ℕ) → Holds b.entries b.slots k x q → q ≢ p → q ≡ place_of e.due x.due
  popped_stays k x q h ne =
      let is : q ≡ place_of c x.due = w.placed k x q h in
      let up : p < q = higher k x q h ne in
      let r : place_of c e.due ≡ p = popped_place in
      is ∙ sym (place_of-stays c e.due x.due (omega arith))

  pub popped_least : (o : ℕ) (s : Source) (d : ℕ) → due_of b o s ≡ Some d → is_before (record { due = d; owner = o; source = s }) e ≡ false
  popped_least o s d row =
      let f : (k : ℕ) × (x : Entry) × (q : ℕ) × Holds b.entries b.slots k x q × (x.owner ≡ o) × (x.source ≡ s) × (x.due ≡ d) = held_due b st o s d row in
      let same : f.1 ≡ record { due = d; owner = o; source = s } = same_entry f.1 d o s f.4 f.5 f.6 in
      elim (cases_eq f.2 p) [
        | inl at ↦ subst (λ x. is_before x e ≡ false) same (least f.0 f.1 (subst (λ q. Holds b.entries b.slots f.0 f.1 q) at f.3))
        | inr ne ↦ let up : p < f.2 = higher f.0 f.1 f.2 f.3 ne in
            let is : f.2 ≡ place_of c f.1.due = w.placed f.0 f.1 f.2 f.3 in
            let due : place_of c f.1.due ≡ place_of c d = ap (place_of c) f.6 in
            let r : place_of c e.due ≡ p = popped_place in
            due_later (record { due = d; owner = o; source = s }) e
            (place_of-order c e.due d popped_low (w.low o s d row) (w.small e.owner e.source e.due popped_was) (w.small o s d row) (omega arith))
      ]

  -- once the only key of the slot went where the new clock puts it
  module _ (alone : (k : ℕ) → slice_get b.slots k ≡ Some p → k ≡ k0) (n : StockBook) (t : TiesBook) (put : n ≡ record b { slots = set b.slots k0 (place_of e.due e.due) }) where
    lifted_slots : n.slots ≡ set b.slots k0 (place_of e.due e.due)
    lifted_slots = ap (λ (x : StockBook). x.slots) put

    pub lifted_rows : (o : ℕ) (s : Source) → due_of n o s ≡ due_of b o s
    lifted_rows o s = rows_slots b n (put ∙ (λ i. record b { slots = sym lifted_slots i })) o s

    pub lifted_placed : IsPlaced e.due n t
    lifted_placed k x q h =
        let entry : slice_get b.entries k ≡ Some x = sym (ap (λ (y : StockBook). slice_get y.entries k) put) ∙ h.entry in
        let slot : slice_get (set b.slots k0 (place_of e.due e.due)) k ≡ Some q = sym (ap (λ l. slice_get l k) lifted_slots) ∙ h.slot in
        elim (cases_eq k k0) [
          | inl at ↦
              let same : e ≡ x = some_same e x (slice_get b.entries k) (ap (slice_get b.entries) at ∙ h0.entry) entry in
              let here : place_of e.due e.due ≡ q =
              some_same (place_of e.due e.due) q (slice_get (set b.slots k0 (place_of e.due e.due)) k)
              (ap (slice_get (set b.slots k0 (place_of e.due e.due))) at ∙ set_there b.slots k0 (place_of e.due e.due) (slice_get_within b.slots k0 p h0.slot)) slot in
              inl (sym here ∙ ap (λ (y : Entry). place_of e.due y.due) same)
          | inr ne ↦
              let was : slice_get b.slots k ≡ Some q = sym (set_elsewhere b.slots k0 k (place_of e.due e.due) ne) ∙ slot in
              inl (popped_stays k x q (record { entry = entry; slot = was; full = h.full }) (λ r. ne (alone k (was ∙ ap Some r))))
        ]

    pub lifted_room : room_of n ≡ room_of b
    lifted_room =
        let l : place_of e.due e.due < 2048 = place_of-within e.due e.due in
        let q : count_by is_free (set b.slots k0 (place_of e.due e.due)) ≡ count_by is_free b.slots = free_stays b.slots k0 (place_of e.due e.due) p h0.slot h0.full (λ r. omega arith) in
        ap room_of put ∙ ap (λ v. min v b.index.room) q

  -- once the slot is emptied, and its keys went where the new clock puts them
  module _ (m n : StockBook) (t : TiesBook) (gathered : m ≡ record b { slots = map (unless p) b.slots }) (sp : IsSpread (StandsAt e.due t) m n) where
    pub spread_rows : (o : ℕ) (s : Source) → due_of n o s ≡ due_of b o s
    spread_rows o s =
        rows_slots m n sp.same o s ∙ rows_slots b m (gathered ∙ (λ i. record b { slots = sym (ap (λ (x : StockBook). x.slots) gathered) i })) o s

    entries_same : n.entries ≡ b.entries
    entries_same = ap (λ (x : StockBook). x.entries) sp.same ∙ ap (λ (x : StockBook). x.entries) gathered

    m_entries : m.entries ≡ b.entries
    m_entries = ap (λ (x : StockBook). x.entries) gathered

    m_slot : (k q : ℕ) → slice_get m.slots k ≡ Some q → slice_get (map (unless p) b.slots) k ≡ Some q
    m_slot k q h = sym (ap (λ (x : StockBook). slice_get x.slots k) gathered) ∙ h

    pub spread_placed : IsPlaced e.due n t
    spread_placed k x q h =
        let entry : slice_get b.entries k ≡ Some x = sym (ap (λ es. slice_get es k) entries_same) ∙ h.entry in
        let m_entry : slice_get m.entries k ≡ Some x = ap (λ es. slice_get es k) m_entries ∙ entry in
        elim (sp.came k q h.slot) [
          | inr loose ↦ let g : (r : ℕ) × (slice_get n.slots k ≡ Some r) × StandsAt e.due t r x = sp.went k x m_entry loose in
              subst (λ r. StandsAt e.due t r x) (some_same g.0 q (slice_get n.slots k) g.1 h.slot) g.2
          | inl was ↦
              let f : (y : ℕ) × (slice_get b.slots k ≡ Some y) × (unless p y ≡ q) = map_back p b.slots k q (m_slot k q was) in
              elim (cases_eq f.0 p) [
                | inl at ↦ absurd (sp.none k (h.slot ∙ ap Some (sym f.2 ∙ ap (unless p) at ∙ unless_from p)))
                | inr ne ↦ let is : f.0 ≡ q = sym (unless_other p f.0 ne) ∙ f.2 in
                    let old : Holds b.entries b.slots k x q = record { entry = entry; slot = f.1 ∙ ap Some is; full = h.full } in
                    inl (popped_stays k x q old (λ r. ne (is ∙ r)))
              ]
        ]

-- what is left isn't below the least
pub above_least : (rows rows' : ℕ → Row) (e : Entry) → ((o : ℕ) (s : Source) (d : ℕ) → rows o s ≡ Some d → is_before (record { due = d; owner = o; source = s }) e ≡ false)
    → ((a : ℕ) (x : Source) → rows' a x ≡ without_at rows e.owner e.source a x) → IsAtOrAbove e.due rows'
above_least rows rows' e least gone o s d h =
    is_before-low (record { due = d; owner = o; source = s }) e
    (least o s d (unwithout (o == e.owner && same_source s e.source) (rows o s) d (sym (gone o s) ∙ h)))

pub above_same : (rows rows' : ℕ → Row) (e : Entry) → ((o : ℕ) (s : Source) (d : ℕ) → rows o s ≡ Some d → is_before (record { due = d; owner = o; source = s }) e ≡ false)
    → ((a : ℕ) (x : Source) → rows' a x ≡ rows a x) → IsAtOrAbove e.due rows'
above_same rows rows' e least same o s d h =
    is_before-low (record { due = d; owner = o; source = s }) e (least o s d (sym (same o s) ∙ h))

-- rows, from those by source
pub row_same : (rows rows' : ℕ → Row) → ((a : ℕ) (x : Source) → rows' a x ≡ rows a x) → (a : ℕ) → rows' a ≡ rows a
row_same rows rows' same a = λ i x. same a x i

pub row_without : (rows rows' : ℕ → Row) (o : ℕ) (s : Source) → ((a : ℕ) (x : Source) → rows' a x ≡ without_at rows o s a x) → rows' o ≡ without_due (rows o) s
row_without rows rows' o s gone = λ i x. (gone o x ∙ ap (λ b. cond (b && same_source x s) None (rows o x)) (eq-eqb o o refl)) i

pub row_with : (rows rows' : ℕ → Row) (o : ℕ) (s : Source) (d : ℕ) → ((a : ℕ) (x : Source) → rows' a x ≡ with_at rows o s d a x) → rows' o ≡ with_due (rows o) s d
row_with rows rows' o s d change = λ i x. (change o x ∙ ap (λ b. cond (b && same_source x s) (Some d) (rows o x)) (eq-eqb o o refl)) i

pub row_other : (rows rows' : ℕ → Row) (o : ℕ) (s : Source) (w : Option ℕ) → ((a : ℕ) (x : Source) → rows' a x ≡ cond (a == o && same_source x s) w (rows a x)) → (a : ℕ) → a ≢ o → rows' a ≡ rows a
row_other rows rows' o s w change a ne = λ i x. (change a x ∙ ap (λ b. cond (b && same_source x s) w (rows a x)) (ne_eqb a o ne)) i

pub row_none : (rows : ℕ → Row) → ((o : ℕ) (s : Source) → rows o s ≡ None) → (o : ℕ) → rows o ≡ no_dues
row_none rows none o = λ i s. none o s i

-- no due is below the clock, still
pub above_without : (c : ℕ) (rows rows' : ℕ → Row) (o : ℕ) (s : Source) → ((a : ℕ) (x : Source) → rows' a x ≡ without_at rows o s a x) → IsAtOrAbove c rows → IsAtOrAbove c rows'
above_without c rows rows' o s gone above a x d h = above a x d (kept_row (a == o && same_source x s) (rows a x) d (sym (gone a x) ∙ h))
  where
    kept_row : (b : Bool) (r : Option ℕ) (d : ℕ) → cond b None r ≡ Some d → r ≡ Some d
    kept_row true r d h = let bad : None ≡ Some d = h in cc
    kept_row false r d h = h

pub above_with : (c : ℕ) (rows rows' : ℕ → Row) (o : ℕ) (s : Source) (due : ℕ) → c ≤ due → ((a : ℕ) (x : Source) → rows' a x ≡ with_at rows o s due a x) → IsAtOrAbove c rows → IsAtOrAbove c rows'
above_with c rows rows' o s due low change above a x d h = set_row (a == o && same_source x s) (rows a x) d (above a x d) (sym (change a x) ∙ h)
  where
    set_row : (b : Bool) (r : Option ℕ) (d : ℕ) → (r ≡ Some d → c ≤ d) → cond b (Some due) r ≡ Some d → c ≤ d
    set_row true r d k h = let same : due ≡ d = cc in omega arith
    set_row false r d k h = k h

-- no due is too large, still
pub small_without : (rows rows' : ℕ → Row) (o : ℕ) (s : Source) → ((a : ℕ) (x : Source) → rows' a x ≡ without_at rows o s a x) → ((a : ℕ) (x : Source) (d : ℕ) → rows a x ≡ Some d → d < 2 ^ 64)
    → (a : ℕ) (x : Source) (d : ℕ) → rows' a x ≡ Some d → d < 2 ^ 64
small_without rows rows' o s gone small a x d h = small a x d (unwithout (a == o && same_source x s) (rows a x) d (sym (gone a x) ∙ h))

pub small_with : (rows rows' : ℕ → Row) (o : ℕ) (s : Source) (due : ℕ) → due < 2 ^ 64 → ((a : ℕ) (x : Source) → rows' a x ≡ with_at rows o s due a x) → ((a : ℕ) (x : Source) (d : ℕ) → rows a x ≡ Some d → d < 2 ^ 64)
    → (a : ℕ) (x : Source) (d : ℕ) → rows' a x ≡ Some d → d < 2 ^ 64
small_with rows rows' o s due fits change small a x d h = set_row (a == o && same_source x s) (rows a x) d (small a x d) (sym (change a x) ∙ h)
  where
    set_row : (b : Bool) (r : Option ℕ) (d : ℕ) → (r ≡ Some d → d < 2 ^ 64) → cond b (Some due) r ≡ Some d → d < 2 ^ 64
    set_row true r d k h = let same : due ≡ d = cc in omega arith
    set_row false r d k h = k h

-- a wheel with nothing on it
pub empty_wheel : (c : ℕ) (b : StockBook) → ((k : ℕ) (e : Entry) (p : ℕ) → Holds b.entries b.slots k e p → ⊥) → ((o : ℕ) (s : Source) → due_of b o s ≡ None) → (t : TiesBook) → IsRising t.items → IsWheel c b t
empty_wheel c b none rows t rising =
    record {
      rising = rising;
      placed = λ k e p h. absurd (none k e p h);
      low = λ o s d h. let bad : None ≡ Some d = sym (rows o s) ∙ h in cc;
      small = λ o s d h. let bad : None ≡ Some d = sym (rows o s) ∙ h in cc;
    }

-- a wheel that holds no more, and shows no other due
pub fewer_wheel : (c : ℕ) (b b' : StockBook) → ((k : ℕ) (e : Entry) (p : ℕ) → Holds b'.entries b'.slots k e p → Holds b.entries b.slots k e p)
    → ((o : ℕ) (s : Source) (d : ℕ) → due_of b' o s ≡ Some d → due_of b o s ≡ Some d) → (t : TiesBook) → IsWheel c b t → IsWheel c b' t
fewer_wheel c b b' back rows t w =
    record {
      rising = w.rising;
      placed = λ k e p h. w.placed k e p (back k e p h);
      low = λ o s d h. w.low o s d (rows o s d h);
      small = λ o s d h. w.small o s d (rows o s d h);
    }

-- a wheel with one due set
pub set_wheel : (c : ℕ) (b b' : StockBook) (o : ℕ) (s : Source) (d p : ℕ) → c ≤ d → d < 2 ^ 64 → p ≡ place_of c d
    → ((a : ℕ) (x : Source) → due_of b' a x ≡ with_at (due_of b) o s d a x)
    → ((k : ℕ) (e : Entry) (q : ℕ) → Holds b'.entries b'.slots k e q → Holds b.entries b.slots k e q ⊎ ((e.due ≡ d) × (q ≡ p)))
    → (t : TiesBook) → IsWheel c b t → IsWheel c b' t
set_wheel c b b' o s d p low fits is rows back t w =
    record {
      rising = w.rising;
      placed = λ k e q h. elim (back k e q h) [ inl old ↦ w.placed k e q old | inr new ↦ inl (new.1 ∙ is ∙ ap (place_of c) (sym new.0)) ];
      low = above_with c (due_of b) (due_of b') o s d low rows w.low;
      small = small_with (due_of b) (due_of b') o s d fits rows w.small;
    }

-- a source that has no due has none to lose
pub unset_row : (row : Row) (s : Source) → row s ≡ None → row ≡ without_due row s
unset_row row s none = λ i x. by x (same_source x s) refl i
  where
    by : (x : Source) (t : Bool) → same_source x s ≡ t → row x ≡ cond (same_source x s) None (row x)
    by x true h = ap row (same_source-true x s h) ∙ none ∙ sym (ap (λ t. cond t None (row x)) h)
    by x false h = sym (ap (λ t. cond t None (row x)) h)

-- what `remove` takes from the rows, where the key was a source's
pub removed_due : (b n : StockBook) (key o : ℕ) (s : Source) (r e : Entry) (p : ℕ) → slice_get b.entries key ≡ Some r → Holds b.entries b.slots key e p → e.owner ≡ o → e.source ≡ s
    → ((a : ℕ) (x : Source) → due_of n a x ≡ cond (a == r.owner && same_source x r.source) None (due_of b a x))
    → (a : ℕ) (x : Source) → due_of n a x ≡ without_at (due_of b) o s a x
removed_due b n key o s r e p at h io is rows a x =
    let q : r ≡ e = some_same r e (slice_get b.entries key) at h.entry in
    let ro : r.owner ≡ o = ap (λ (y : Entry). y.owner) q ∙ io in
    let rs : r.source ≡ s = ap (λ (y : Entry). y.source) q ∙ is in
    rows a x ∙ (λ i. cond (a == ro i && same_source x (rs i)) None (due_of b a x))

pub without_some : (rows rows' : ℕ → Row) (o : ℕ) (s : Source) → ((a : ℕ) (x : Source) → rows' a x ≡ without_at rows o s a x) → (a : ℕ) (x : Source) (d : ℕ) → rows' a x ≡ Some d → rows a x ≡ Some d
without_some rows rows' o s gone a x d h = unwithout (a == o && same_source x s) (rows a x) d (sym (gone a x) ∙ h)

-- what `reset` puts into the rows, where the key was a source's
pub reset_due : (b n : StockBook) (o : ℕ) (s : Source) (d : ℕ) (e : Entry) → e.owner ≡ o → e.source ≡ s
    → ((a : ℕ) (x : Source) → due_of n a x ≡ cond (a == e.owner && same_source x e.source) (Some d) (due_of b a x))
    → (a : ℕ) (x : Source) → due_of n a x ≡ with_at (due_of b) o s d a x
reset_due b n o s d e io is rows a x = rows a x ∙ (λ i. cond (a == io i && same_source x (is i)) (Some d) (due_of b a x))

pub without_same : (rows rows' : ℕ → Row) (o : ℕ) (s : Source) → ((a : ℕ) (x : Source) → rows a x ≡ rows' a x) → (a : ℕ) (x : Source) → without_at rows o s a x ≡ without_at rows' o s a x
without_same rows rows' o s same a x = ap (cond (a == o && same_source x s) None) (same a x)

-- a wheel whose ties only lost what doesn't wait
pub passed_wheel : (c : ℕ) (b : StockBook) (t t' : TiesBook) → t'.items ≡ t.items → ((k : ℕ) (e : Entry) → Holds b.entries b.slots k e 2048 → Waits t (tie_of e) → Waits t' (tie_of e)) → IsWheel c b t → IsWheel c b t'
passed_wheel c b t t' same kept w =
    record {
      placed = λ k e p h. elim (w.placed k e p h) [
        | inl is ↦ inl is
        | inr tie ↦ inr (tie.0, tie.1, kept k e (subst (λ q. Holds b.entries b.slots k e q) tie.0 h) tie.2)
      ];
      rising = subst IsRising (sym same) w.rising;
      low = w.low;
      small = w.small;
    }

get_or_any : (ts : List Tie) (k : ℕ) (d x : Tie) → k < length ts → get_or ts k d ≡ get_or ts k x
get_or_any [] k d x h = absurd (omega arith)
get_or_any (t ∷ ts) zero d x h = refl
get_or_any (t ∷ ts) (suc k) d x h = get_or_any ts k d x (omega arith)

-- the least where a tie waits
module _ (c : ℕ) (b : StockBook) (t : TiesBook) (st : IsStock b) (w : IsWheel c b t) (tie : Tie) (k0 : ℕ) (e0 : Entry) (h0 : Holds b.entries b.slots k0 e0 2048) (is0 : tie_of e0 ≡ tie)
    (top : slice_get t.items t.next ≡ Some tie)
    (arrival : Option Entry) (r : Entry)
    (there : IfSome arrival (λ l. (k : ℕ) × Holds b.entries b.slots k l (place_of c c)))
    (first : IfSome arrival (λ l. (k : ℕ) (x : Entry) → Holds b.entries b.slots k x (place_of c c) → is_before x l ≡ false))
    (none : IfNone arrival ((k : ℕ) → slice_get b.slots k ≢ Some (place_of c c)))
    (lesser : IsLesser arrival (record { due = c; owner = tie.owner; source = tie.source }) r) where
  abbrev now_due : Entry
  now_due = record { due = c; owner = tie.owner; source = tie.source }

  -- the tie's entry is due now
  tie_due : e0.due ≡ c
  tie_due =
      elim (w.placed k0 e0 2048 h0) [
        | inl is ↦ let l : place_of c e0.due < 2048 = place_of-within c e0.due in absurd (omega arith)
        | inr x ↦ x.1
      ]

  tie_was : due_of b tie.owner tie.source ≡ Some c
  tie_was = sym (λ i. due_of b ((is0 i).owner) ((is0 i).source)) ∙ due_held b st k0 e0 2048 h0 ∙ ap Some tie_due

  among : (x : Entry) → x.due ≡ c → Waits t (tie_of x) → is_before x now_due ≡ false
  among x due waits =
      let n : t.next < length t.items = slice_get_within t.items t.next tie top in
      let up : tie_before (get_or t.items waits.at tie) (get_or t.items t.next tie) ≡ false = w.rising t.next waits.at tie waits.after waits.below in
      let a : get_or t.items waits.at tie ≡ tie_of x = get_or_any t.items waits.at tie (tie_of x) waits.below ∙ waits.is in
      let z : get_or t.items t.next tie ≡ tie = get_or_from_slice_get t.items t.next tie tie top in
      let f : tie_before (tie_of x) tie ≡ false = (λ i. tie_before (sym a i) (sym z i)) ∙ up in
      ap (λ d. is_before (record { due = d; owner = x.owner; source = x.source }) now_due) due ∙ before_at c (tie_of x) tie ∙ f

  after_arrival : (k : ℕ) (x : Entry) → Holds b.entries b.slots k x (place_of c c) → is_before x r ≡ false
  after_arrival k x h = by arrival first none lesser
    where
      by : (a : Option Entry) → IfSome a (λ l. (k : ℕ) (x : Entry) → Holds b.entries b.slots k x (place_of c c) → is_before x l ≡ false)
          → IfNone a ((k : ℕ) → slice_get b.slots k ≢ Some (place_of c c)) → IsLesser a now_due r → is_before x r ≡ false
      by None f g l = absurd (g k h.slot)
      by (Some a) f g l = is_before-order.chain x a r (f k x h) l.least_too

  pub met_least : (o : ℕ) (s : Source) (d : ℕ) → due_of b o s ≡ Some d → is_before (record { due = d; owner = o; source = s }) r ≡ false
  met_least o s d row =
      let f : (k : ℕ) × (x : Entry) × (q : ℕ) × Holds b.entries b.slots k x q × (x.owner ≡ o) × (x.source ≡ s) × (x.due ≡ d) = held_due b st o s d row in
      let same : f.1 ≡ record { due = d; owner = o; source = s } = same_entry f.1 d o s f.4 f.5 f.6 in
      subst (λ x. is_before x r ≡ false) same
      (elim (w.placed f.0 f.1 f.2 f.3) [
        | inr x ↦ is_before-order.chain f.1 now_due r (among f.1 x.1 x.2) lesser.entry
        | inl at ↦ elim (cases_eq f.2 (place_of c c)) [
          | inl here ↦ after_arrival f.0 f.1 (subst (λ q. Holds b.entries b.slots f.0 f.1 q) here f.3)
          | inr ne ↦ let up : c ≤ d = w.low o s d row in
              let nd : f.1.due ≢ c = λ e. ne (at ∙ ap (place_of c) e) in
              let l : c < f.1.due = (let e : f.1.due ≡ d = f.6 in let m : d ≢ c = λ q. nd (f.6 ∙ q) in omega arith) in
              is_before-order.chain f.1 now_due r (due_later f.1 now_due l) lesser.entry
        ]
      ])

  met_was : due_of b r.owner r.source ≡ Some r.due
  met_was =
      stands (λ x. due_of b x.owner x.source ≡ Some x.due) arrival now_due r lesser tie_was (held arrival there)
    where
      held : (a : Option Entry) → IfSome a (λ l. (k : ℕ) × Holds b.entries b.slots k l (place_of c c)) → IfSome a (λ x. due_of b x.owner x.source ≡ Some x.due)
      held None h = tt
      held (Some l) h = due_held b st h.0 l (place_of c c) h.1

  met_due : r.due ≡ c
  met_due =
      let a : r.due ≤ c = is_before-low now_due r (met_least tie.owner tie.source c tie_was) in
      let l : c ≤ r.due = w.low r.owner r.source r.due met_was in
      omega arith

  module _ (m n : StockBook) (gathered : m ≡ record b { slots = map (unless (place_of c c)) b.slots }) (sp : IsSpread (λ p (e : Entry). p ≡ place_of c e.due) m n) (room : room_of n ≡ room_of b) where
    met_entries : n.entries ≡ b.entries
    met_entries = ap (λ (x : StockBook). x.entries) sp.same ∙ ap (λ (x : StockBook). x.entries) gathered

    met_placed : IsPlaced c n t
    met_placed k x q h =
        let entry : slice_get b.entries k ≡ Some x = sym (ap (λ es. slice_get es k) met_entries) ∙ h.entry in
        let m_entry : slice_get m.entries k ≡ Some x = ap (λ (y : StockBook). slice_get y.entries k) gathered ∙ entry in
        elim (sp.came k q h.slot) [
          | inr loose ↦ let g : (y : ℕ) × (slice_get n.slots k ≡ Some y) × (y ≡ place_of c x.due) = sp.went k x m_entry loose in
              inl (some_same q g.0 (slice_get n.slots k) h.slot g.1 ∙ g.2)
          | inl was ↦
              let f : (y : ℕ) × (slice_get b.slots k ≡ Some y) × (unless (place_of c c) y ≡ q) = map_back (place_of c c) b.slots k q (sym (ap (λ (y : StockBook). slice_get y.slots k) gathered) ∙ was) in
              elim (cases_eq f.0 (place_of c c)) [
                | inl at ↦ absurd (sp.none k (h.slot ∙ ap Some (sym f.2 ∙ ap (unless (place_of c c)) at ∙ unless_from (place_of c c))))
                | inr ne ↦ let is : f.0 ≡ q = sym (unless_other (place_of c c) f.0 ne) ∙ f.2 in
                    w.placed k x q (record { entry = entry; slot = f.1 ∙ ap Some is; full = h.full })
              ]
        ]

    pub met : IsTurned c b r n t
    met =
        record {
          was = met_was;
          least = met_least;
          low = w.low r.owner r.source r.due met_was;
          rows = λ o s. rows_slots m n sp.same o s ∙ rows_slots b m (gathered ∙ (λ i. record b { slots = sym (ap (λ (x : StockBook). x.slots) gathered) i })) o s;
          placed = subst (λ d. IsPlaced d n t) (sym met_due) met_placed;
          rising = w.rising;
          room = room;
        }

-- ties put in order wait still
pub sorted_spread : (c : ℕ) (m n : StockBook) (t t' : TiesBook) → t'.next ≡ 0 → IsPermutation t.items t'.items → IsSpread (StandsAt c t) m n → IsSpread (StandsAt c t') m n
sorted_spread c m n t t' first p sp =
    record {
      same = sp.same;
      stayed = sp.stayed;
      went = λ k e h loose. let g : (q : ℕ) × (slice_get n.slots k ≡ Some q) × StandsAt c t q e = sp.went k e h loose in
          (g.0, g.1, elim g.2 [ inl is ↦ inl is | inr tie ↦ inr (tie.0, tie.1, waits_sort t t' (tie_of e) first p tie.2) ]);
      came = sp.came;
      none = sp.none;
      room = sp.room;
    }
  where
    waits_sort : (b b' : TiesBook) (x : Tie) → b'.next ≡ 0 → IsPermutation b.items b'.items → Waits b x → Waits b' x
    waits_sort b b' x h p w =
        let f : Contains b'.items x = Contains-permutation b.items b'.items x p (w.at, w.below, w.is) in
        record { at = f.0; after = omega arith; below = f.1; is = f.2 }
