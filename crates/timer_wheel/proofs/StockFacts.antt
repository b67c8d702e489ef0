-- A stock, from call to call.
use Rattle.std.proofs.Common.{inl, inr, ◌⊎◌, ◌≡◌, ◌≢◌, ℕ, zero, suc, ◌+◌, ◌<◌, ◌≤◌, ◌%◌, ◌==◌, ◌&&◌, ◌++◌, Bool, true, false, cond, List, [], ◌∷◌, length, set, get_or, Option, Some, None, slice_get, count_by, is_some, IfSome, IfNone, IsSome, refl, sym, ap, subst, ◌∙◌, eq-eqb, arith, length-append}
use Rattle.std.proofs.lemmas.List.{length-set}
use Rattle.std.proofs.lemmas.List.Sums.{sum_by-set, sum_by-cons}
use Rattle.std.proofs.lemmas.Option.{slice_get-get_or, slice_get_within, get_or_from_slice_get}
use Rattle.std.proofs.lemmas.Bool.{cases_eq, cases_Bool, eqb-true, ne_eqb, and_parts, and_from}
use Rattle.emu_model.specs.declared.sources.Source.{Source}
use Rattle.emu_model.specs.RunLaws.{same_source}
use Rattle.timer_wheel.specs.declared.Entry.{Entry}
use Rattle.timer_wheel.specs.Index.{IndexBook, key_in}
use Rattle.timer_wheel.specs.Stocks.{StockBook, Holds, IsStock, IsMore, IsGrown, due_by, due_if, due_of}
use Rattle.timer_wheel.proofs.Sources.{same_source-true, same_source-self}
use Rattle.timer_wheel.proofs.SlotFacts.{set_there, set_elsewhere}

pub some_same : {X : Type 0} (x y : X) (r : Option X) → r ≡ Some x → r ≡ Some y → x ≡ y
some_same x y r e f = let g : Some x ≡ Some y = sym e ∙ f in cc

-- a source of an owner, and the others
pub same_key : (o : ℕ) (s : Source) (a : ℕ) (x : Source) → (a == o && same_source x s) ≡ true → (a ≡ o) × (x ≡ s)
same_key o s a x h =
    let p : (a == o ≡ true) × (same_source x s ≡ true) = and_parts (a == o) (same_source x s) h in
    (eqb-true _ _ p.0, same_source-true _ _ p.1)

pub own_key : (o : ℕ) (s : Source) (a : ℕ) (x : Source) → a ≡ o → x ≡ s → (a == o && same_source x s) ≡ true
own_key o s a x e f = and_from (a == o) (same_source x s) (eq-eqb a o e) (subst (λ (y : Source). same_source x y ≡ true) f (same_source-self x))

found_at : (es : List Entry) (k : ℕ) → k < length es → (e : Entry) × (slice_get es k ≡ Some e)
found_at [] k h = absurd (omega arith)
found_at (e ∷ es) zero h = (e, refl)
found_at (e ∷ es) (suc k) h = found_at es k (omega arith)

pub held_at : (b : StockBook) → IsStock b → (k p : ℕ) → slice_get b.slots k ≡ Some p → p ≢ 2050 → (e : Entry) × Holds b.entries b.slots k e p
held_at b w k p is full =
    let l : k < length b.slots = slice_get_within b.slots k p is in
    let m : length b.slots ≤ length b.entries = w.entries_long in
    let f : (e : Entry) × (slice_get b.entries k ≡ Some e) = found_at b.entries k (omega arith) in
    (f.0, record { entry = f.1; slot = is; full = full })

-- a key into another list
module _ (b : StockBook) (w : IsStock b) (key l : ℕ) (e0 : Entry) (p0 : ℕ) (h0 : Holds b.entries b.slots key e0 p0) (full : l ≢ 2050) where
  put_in : key < length b.slots
  put_in = slice_get_within b.slots key p0 h0.slot

  put_back : (k : ℕ) (e : Entry) (p : ℕ) → Holds b.entries (set b.slots key l) k e p → (q : ℕ) × Holds b.entries b.slots k e q
  put_back k e p h =
      elim (cases_eq k key) [
        | inl same ↦ (p0, record { entry = h.entry; slot = ap (slice_get b.slots) same ∙ h0.slot; full = h0.full })
        | inr ne ↦ (p, record { entry = h.entry; slot = sym (set_elsewhere b.slots key k l ne) ∙ h.slot; full = h.full })
      ]

  put_on : (k : ℕ) (e : Entry) (p : ℕ) → Holds b.entries b.slots k e p → (q : ℕ) × Holds b.entries (set b.slots key l) k e q
  put_on k e p h =
      elim (cases_eq k key) [
        | inl same ↦ (l, record { entry = h.entry; slot = ap (slice_get (set b.slots key l)) same ∙ set_there b.slots key l put_in; full = full })
        | inr ne ↦ (p, record { entry = h.entry; slot = set_elsewhere b.slots key k l ne ∙ h.slot; full = h.full })
      ]

  pub put_stock : IsStock (record b { slots = set b.slots key l })
  put_stock =
      let n : length (set b.slots key l) ≡ length b.slots = length-set b.slots key l in
      let el : length b.slots ≤ length b.entries = w.entries_long in
      let ol : length b.slots ≤ length b.owners = w.owners_long in
      record {
        entries_long = omega arith;
        owners_long = omega arith;
        known = λ k e p h. let g : (q : ℕ) × Holds b.entries b.slots k e q = put_back k e p h in w.known k e g.0 g.1;
        found = λ o s k h.
            let f : (e : Entry) × (p : ℕ) × Holds b.entries b.slots k e p × (e.owner ≡ o) × (e.source ≡ s) = w.found o s k h in
            let g : (q : ℕ) × Holds b.entries (set b.slots key l) k f.0 q = put_on k f.0 f.1 f.2 in
            (f.0, g.0, g.1, f.3, f.4);
        owned = λ k e p h. let g : (q : ℕ) × Holds b.entries b.slots k e q = put_back k e p h in w.owned k e g.0 g.1;
        listed = λ k m h ne.
            let f : (e : Entry) × (p : ℕ) × Holds b.entries b.slots k e p = w.listed k m h ne in
            let g : (q : ℕ) × Holds b.entries (set b.slots key l) k f.0 q = put_on k f.0 f.1 f.2 in
            (f.0, g.0, g.1);
      }

-- a key into another list by owner
pub lay_stock : (b : StockBook) → IsStock b → (key l : ℕ) (e0 : Entry) (p0 : ℕ) → Holds b.entries b.slots key e0 p0 → (l ≡ e0.owner % 2048) ⊎ (l ≡ 2049)
    → IsStock (record b { owners = set b.owners key l })
lay_stock b w key l e0 p0 h0 is =
    let n : length (set b.owners key l) ≡ length b.owners = length-set b.owners key l in
    let ol : length b.slots ≤ length b.owners = w.owners_long in
    let il : key < length b.slots = slice_get_within b.slots key p0 h0.slot in
    let jl : key < length b.owners = omega arith in
    record {
      entries_long = w.entries_long;
      owners_long = omega arith;
      known = w.known;
      found = w.found;
      owned = λ k e p h.
          elim (cases_eq k key) [
            | inl same ↦ let e_is : e0 ≡ e = some_same e0 e (slice_get b.entries key) h0.entry (sym (ap (slice_get b.entries) same) ∙ h.entry) in
                let there : slice_get (set b.owners key l) k ≡ Some l = ap (slice_get (set b.owners key l)) same ∙ set_there b.owners key l jl in
                elim is [
                  | inl a ↦ inl (there ∙ ap Some (a ∙ ap (λ (x : Entry). x.owner % 2048) e_is))
                  | inr a ↦ inr (there ∙ ap Some a)
                ]
            | inr ne ↦ let g : slice_get (set b.owners key l) k ≡ slice_get b.owners k = set_elsewhere b.owners key k l ne in
                elim (w.owned k e p h) [ inl a ↦ inl (g ∙ a) | inr a ↦ inr (g ∙ a) ]
          ];
      listed = λ k m h ne.
          elim (cases_eq k key) [
            | inl same ↦ (e0, p0, subst (λ j. Holds b.entries b.slots j e0 p0) (sym same) h0)
            | inr nk ↦ w.listed k m (sym (set_elsewhere b.owners key k l nk) ∙ h) ne
          ];
    }

-- an entry with another due
module _ (b : StockBook) (w : IsStock b) (key d : ℕ) (e0 : Entry) (p0 : ℕ) (h0 : Holds b.entries b.slots key e0 p0) where
  abbrev pub later : Entry
  later = record e0 { due = d }

  late_in : key < length b.entries
  late_in = slice_get_within b.entries key e0 h0.entry

  late_back : (k : ℕ) (e : Entry) (p : ℕ) → Holds (set b.entries key later) b.slots k e p → (x : Entry) × Holds b.entries b.slots k x p × (x.owner ≡ e.owner) × (x.source ≡ e.source)
  late_back k e p h =
      elim (cases_eq k key) [
        | inl same ↦ let is : later ≡ e = some_same later e (slice_get (set b.entries key later) key) (set_there b.entries key later late_in) (sym (ap (slice_get (set b.entries key later)) same) ∙ h.entry) in
            (e0, record { entry = ap (slice_get b.entries) same ∙ h0.entry; slot = h.slot; full = h.full }, ap (λ (x : Entry). x.owner) is, ap (λ (x : Entry). x.source) is)
        | inr ne ↦ (e, record { entry = sym (set_elsewhere b.entries key k later ne) ∙ h.entry; slot = h.slot; full = h.full }, refl, refl)
      ]

  late_on : (k : ℕ) (e : Entry) (p : ℕ) → Holds b.entries b.slots k e p → (x : Entry) × Holds (set b.entries key later) b.slots k x p × (x.owner ≡ e.owner) × (x.source ≡ e.source)
  late_on k e p h =
      elim (cases_eq k key) [
        | inl same ↦ let is : e0 ≡ e = some_same e0 e (slice_get b.entries key) h0.entry (sym (ap (slice_get b.entries) same) ∙ h.entry) in
            (later, record { entry = ap (slice_get (set b.entries key later)) same ∙ set_there b.entries key later late_in; slot = h.slot; full = h.full }, ap (λ (x : Entry). x.owner) is, ap (λ (x : Entry). x.source) is)
        | inr ne ↦ (e, record { entry = set_elsewhere b.entries key k later ne ∙ h.entry; slot = h.slot; full = h.full }, refl, refl)
      ]

  pub change_stock : IsStock (record b { entries = set b.entries key later })
  change_stock =
      let n : length (set b.entries key later) ≡ length b.entries = length-set b.entries key later in
      let el : length b.slots ≤ length b.entries = w.entries_long in
      record {
        entries_long = omega arith;
        owners_long = w.owners_long;
        known = λ k e p h.
            let g : (x : Entry) × Holds b.entries b.slots k x p × (x.owner ≡ e.owner) × (x.source ≡ e.source) = late_back k e p h in
            sym (λ i. key_in b.index.keys (g.2 i) (g.3 i)) ∙ w.known k g.0 p g.1;
        found = λ o s k h.
            let f : (e : Entry) × (p : ℕ) × Holds b.entries b.slots k e p × (e.owner ≡ o) × (e.source ≡ s) = w.found o s k h in
            let g : (x : Entry) × Holds (set b.entries key later) b.slots k x f.1 × (x.owner ≡ f.0.owner) × (x.source ≡ f.0.source) = late_on k f.0 f.1 f.2 in
            (g.0, f.1, g.1, g.2 ∙ f.3, g.3 ∙ f.4);
        owned = λ k e p h.
            let g : (x : Entry) × Holds b.entries b.slots k x p × (x.owner ≡ e.owner) × (x.source ≡ e.source) = late_back k e p h in
            subst (λ n. (slice_get b.owners k ≡ Some (n % 2048)) ⊎ (slice_get b.owners k ≡ Some 2049)) g.2 (w.owned k g.0 p g.1);
        listed = λ k m h ne.
            let f : (e : Entry) × (p : ℕ) × Holds b.entries b.slots k e p = w.listed k m h ne in
            let g : (x : Entry) × Holds (set b.entries key later) b.slots k x f.1 × (x.owner ≡ f.0.owner) × (x.source ≡ f.0.source) = late_on k f.0 f.1 f.2 in
            (g.0, f.1, g.1);
      }

-- an entry taken away
module _ (b : StockBook) (w : IsStock b) (key : ℕ) (e0 : Entry) (p0 : ℕ) (h0 : Holds b.entries b.slots key e0 p0)
    (index' : IndexBook) (gone : (o : ℕ) (s : Source) → key_in index'.keys o s ≡ cond (o == e0.owner && same_source s e0.source) None (key_in b.index.keys o s)) where
  gone_in : key < length b.slots
  gone_in = slice_get_within b.slots key p0 h0.slot

  abbrev pub less : StockBook
  less = record { entries = b.entries; slots = set b.slots key 2050; owners = set b.owners key 2050; index = index' }

  gone_other : (k : ℕ) (e : Entry) (p : ℕ) → Holds b.entries (set b.slots key 2050) k e p → k ≢ key
  gone_other k e p h same =
      h.full (some_same p 2050 (slice_get (set b.slots key 2050) key) (sym (ap (slice_get (set b.slots key 2050)) same) ∙ h.slot) (set_there b.slots key 2050 gone_in))

  pub gone_back : (k : ℕ) (e : Entry) (p : ℕ) → Holds b.entries (set b.slots key 2050) k e p → Holds b.entries b.slots k e p
  gone_back k e p h = record { entry = h.entry; slot = sym (set_elsewhere b.slots key k 2050 (gone_other k e p h)) ∙ h.slot; full = h.full }

  gone_on : (k : ℕ) (e : Entry) (p : ℕ) → k ≢ key → Holds b.entries b.slots k e p → Holds b.entries (set b.slots key 2050) k e p
  gone_on k e p ne h = record { entry = h.entry; slot = set_elsewhere b.slots key k 2050 ne ∙ h.slot; full = h.full }

  key_is : (o : ℕ) (s : Source) → (o == e0.owner && same_source s e0.source) ≡ true → key_in b.index.keys o s ≡ Some key
  key_is o s t =
      let k : (o ≡ e0.owner) × (s ≡ e0.source) = same_key e0.owner e0.source o s t in
      (λ i. key_in b.index.keys (k.0 i) (k.1 i)) ∙ w.known key e0 p0 h0

  pub gone_stock : IsStock less
  gone_stock =
      let n : length (set b.slots key 2050) ≡ length b.slots = length-set b.slots key 2050 in
      let m : length (set b.owners key 2050) ≡ length b.owners = length-set b.owners key 2050 in
      let el : length b.slots ≤ length b.entries = w.entries_long in
      let ol : length b.slots ≤ length b.owners = w.owners_long in
      let jl : key < length b.slots = gone_in in
      let kl : key < length b.owners = omega arith in
      record {
        entries_long = omega arith;
        owners_long = omega arith;
        known = λ k e p h.
            let was : key_in b.index.keys e.owner e.source ≡ Some k = w.known k e p (gone_back k e p h) in
            elim (cases_Bool (e.owner == e0.owner && same_source e.source e0.source)) [
              | inl t ↦ absurd (gone_other k e p h (some_same k key (key_in b.index.keys e.owner e.source) was (key_is e.owner e.source t)))
              | inr f ↦ gone e.owner e.source ∙ ap (λ t. cond t None (key_in b.index.keys e.owner e.source)) f ∙ was
            ];
        found = λ o s k h.
            elim (cases_Bool (o == e0.owner && same_source s e0.source)) [
              | inl t ↦ let bad : None ≡ Some k = sym (gone o s ∙ ap (λ t. cond t None (key_in b.index.keys o s)) t) ∙ h in cc
              | inr n ↦ let was : key_in b.index.keys o s ≡ Some k = sym (gone o s ∙ ap (λ t. cond t None (key_in b.index.keys o s)) n) ∙ h in
                  let f : (e : Entry) × (p : ℕ) × Holds b.entries b.slots k e p × (e.owner ≡ o) × (e.source ≡ s) = w.found o s k was in (
                    f.0,
                    f.1,
                    gone_on k f.0 f.1 (λ same.
                        let is : e0 ≡ f.0 = some_same e0 f.0 (slice_get b.entries key) h0.entry (sym (ap (slice_get b.entries) same) ∙ f.2.entry) in
                        let t : (o == e0.owner && same_source s e0.source) ≡ true = own_key e0.owner e0.source o s (sym (ap (λ (x : Entry). x.owner) is ∙ f.3)) (sym (ap (λ (x : Entry). x.source) is ∙ f.4)) in
                        let bad : true ≡ false = sym t ∙ n in cc) f.2,
                    f.3,
                    f.4,
                  )
            ];
        owned = λ k e p h.
            let g : slice_get (set b.owners key 2050) k ≡ slice_get b.owners k = set_elsewhere b.owners key k 2050 (gone_other k e p h) in
            elim (w.owned k e p (gone_back k e p h)) [ inl a ↦ inl (g ∙ a) | inr a ↦ inr (g ∙ a) ];
        listed = λ k l h ne.
            elim (cases_eq k key) [
              | inl same ↦ absurd (ne (some_same l 2050 (slice_get (set b.owners key 2050) key) (sym (ap (slice_get (set b.owners key 2050)) same) ∙ h) (set_there b.owners key 2050 kl)))
              | inr nk ↦ let f : (e : Entry) × (p : ℕ) × Holds b.entries b.slots k e p = w.listed k l (sym (set_elsewhere b.owners key k 2050 nk) ∙ h) ne in
                  (f.0, f.1, gone_on k f.0 f.1 nk f.2)
            ];
      }

  pub gone_rows : (o : ℕ) (s : Source) → due_of less o s ≡ cond (o == e0.owner && same_source s e0.source) None (due_of b o s)
  unfolding due_of
  gone_rows o s = ap (due_by b.entries) (gone o s) ∙ through (o == e0.owner && same_source s e0.source) (key_in b.index.keys o s)
    where
      through : (t : Bool) (r : Option ℕ) → due_by b.entries (cond t None r) ≡ cond t None (due_by b.entries r)
      through true r = refl
      through false r = refl

-- an entry taken in
module _ (b : StockBook) (w : IsStock b) (key l : ℕ) (e1 : Entry) (empty : slice_get b.slots key ≡ Some 2050) (full : l ≢ 2050)
    (absent : key_in b.index.keys e1.owner e1.source ≡ None)
    (index' : IndexBook) (more : (o : ℕ) (s : Source) → key_in index'.keys o s ≡ cond (o == e1.owner && same_source s e1.source) (Some key) (key_in b.index.keys o s)) where
  more_in : key < length b.slots
  more_in = slice_get_within b.slots key 2050 empty

  more_in_entries : key < length b.entries
  more_in_entries = let el : length b.slots ≤ length b.entries = w.entries_long in let jl : key < length b.slots = more_in in omega arith

  abbrev pub richer : StockBook
  richer = record { entries = set b.entries key e1; slots = set b.slots key l; owners = set b.owners key (e1.owner % 2048); index = index' }

  new_here : Holds richer.entries richer.slots key e1 l
  new_here = record { entry = set_there b.entries key e1 more_in_entries; slot = set_there b.slots key l more_in; full = full }

  not_new : (k : ℕ) (e : Entry) (p : ℕ) → Holds b.entries b.slots k e p → k ≢ key
  not_new k e p h same = h.full (some_same p 2050 (slice_get b.slots key) (sym (ap (slice_get b.slots) same) ∙ h.slot) empty)

  more_on : (k : ℕ) (e : Entry) (p : ℕ) → Holds b.entries b.slots k e p → Holds richer.entries richer.slots k e p
  more_on k e p h =
      let ne : k ≢ key = not_new k e p h in
      record { entry = set_elsewhere b.entries key k e1 ne ∙ h.entry; slot = set_elsewhere b.slots key k l ne ∙ h.slot; full = h.full }

  more_back : (k : ℕ) (e : Entry) (p : ℕ) → k ≢ key → Holds richer.entries richer.slots k e p → Holds b.entries b.slots k e p
  more_back k e p ne h =
      record { entry = sym (set_elsewhere b.entries key k e1 ne) ∙ h.entry; slot = sym (set_elsewhere b.slots key k l ne) ∙ h.slot; full = h.full }

  more_same : (k : ℕ) (e : Entry) (p : ℕ) → k ≡ key → Holds richer.entries richer.slots k e p → (e1 ≡ e) × (l ≡ p)
  more_same k e p same h =
      (some_same e1 e (slice_get richer.entries key) new_here.entry (sym (ap (slice_get richer.entries) same) ∙ h.entry), some_same l p (slice_get richer.slots key) new_here.slot (sym (ap (slice_get richer.slots) same) ∙ h.slot))

  pub more_holds : (k : ℕ) (e : Entry) (p : ℕ) → Holds richer.entries richer.slots k e p → Holds b.entries b.slots k e p ⊎ ((e ≡ e1) × (p ≡ l))
  more_holds k e p h =
      elim (cases_eq k key) [
        | inl same ↦ let g : (e1 ≡ e) × (l ≡ p) = more_same k e p same h in inr (sym g.0, sym g.1)
        | inr ne ↦ inl (more_back k e p ne h)
      ]

  pub more_stock : IsStock richer
  more_stock =
      let n : length (set b.slots key l) ≡ length b.slots = length-set b.slots key l in
      let m : length (set b.owners key (e1.owner % 2048)) ≡ length b.owners = length-set b.owners key (e1.owner % 2048) in
      let r : length (set b.entries key e1) ≡ length b.entries = length-set b.entries key e1 in
      let el : length b.slots ≤ length b.entries = w.entries_long in
      let ol : length b.slots ≤ length b.owners = w.owners_long in
      let jl : key < length b.slots = more_in in
      let kl : key < length b.owners = omega arith in
      record {
        entries_long = omega arith;
        owners_long = omega arith;
        known = λ k e p h.
            elim (cases_eq k key) [
              | inl same ↦ let g : (e1 ≡ e) × (l ≡ p) = more_same k e p same h in
                  more e.owner e.source ∙ ap (λ t. cond t (Some key) (key_in b.index.keys e.owner e.source)) (own_key e1.owner e1.source e.owner e.source (ap (λ (x : Entry). x.owner) (sym g.0)) (ap (λ (x : Entry). x.source) (sym g.0))) ∙ ap Some (sym same)
              | inr ne ↦ let was : key_in b.index.keys e.owner e.source ≡ Some k = w.known k e p (more_back k e p ne h) in
                  elim (cases_Bool (e.owner == e1.owner && same_source e.source e1.source)) [
                    | inl t ↦ let k : (e.owner ≡ e1.owner) × (e.source ≡ e1.source) = same_key e1.owner e1.source e.owner e.source t in
                        let bad : None ≡ Some _ = sym ((λ i. key_in b.index.keys (k.0 i) (k.1 i)) ∙ absent) ∙ was in cc
                    | inr f ↦ more e.owner e.source ∙ ap (λ t. cond t (Some key) (key_in b.index.keys e.owner e.source)) f ∙ was
                  ]
            ];
        found = λ o s k h.
            elim (cases_Bool (o == e1.owner && same_source s e1.source)) [
              | inl t ↦ let q : (o ≡ e1.owner) × (s ≡ e1.source) = same_key e1.owner e1.source o s t in
                  let is : Some key ≡ Some k = sym (more o s ∙ ap (λ t. cond t (Some key) (key_in b.index.keys o s)) t) ∙ h in
                  let same : key ≡ k = cc in
                  (e1, l, subst (λ j. Holds richer.entries richer.slots j e1 l) same new_here, sym q.0, sym q.1)
              | inr n ↦ let was : key_in b.index.keys o s ≡ Some k = sym (more o s ∙ ap (λ t. cond t (Some key) (key_in b.index.keys o s)) n) ∙ h in
                  let f : (e : Entry) × (p : ℕ) × Holds b.entries b.slots k e p × (e.owner ≡ o) × (e.source ≡ s) = w.found o s k was in
                  (f.0, f.1, more_on k f.0 f.1 f.2, f.3, f.4)
            ];
        owned = λ k e p h.
            elim (cases_eq k key) [
              | inl same ↦ let g : (e1 ≡ e) × (l ≡ p) = more_same k e p same h in
                  inl (ap (slice_get (set b.owners key (e1.owner % 2048))) same ∙ set_there b.owners key (e1.owner % 2048) kl ∙ ap (λ (x : Entry). Some (x.owner % 2048)) g.0)
              | inr ne ↦ let g : slice_get (set b.owners key (e1.owner % 2048)) k ≡ slice_get b.owners k = set_elsewhere b.owners key k (e1.owner % 2048) ne in
                  elim (w.owned k e p (more_back k e p ne h)) [ inl a ↦ inl (g ∙ a) | inr a ↦ inr (g ∙ a) ]
            ];
        listed = λ k j h ne.
            elim (cases_eq k key) [
              | inl same ↦ (e1, l, subst (λ j. Holds richer.entries richer.slots j e1 l) (sym same) new_here)
              | inr nk ↦ let f : (e : Entry) × (p : ℕ) × Holds b.entries b.slots k e p = w.listed k j (sym (set_elsewhere b.owners key k (e1.owner % 2048) nk) ∙ h) ne in
                  (f.0, f.1, more_on k f.0 f.1 f.2)
            ];
      }

  pub more_rows : (o : ℕ) (s : Source) → due_of richer o s ≡ cond (o == e1.owner && same_source s e1.source) (Some e1.due) (due_of b o s)
  unfolding due_of
  more_rows o s = ap (due_by richer.entries) (more o s) ∙ through (o == e1.owner && same_source s e1.source) (key_in b.index.keys o s) refl
    where
      through : (t : Bool) (r : Option ℕ) → key_in b.index.keys o s ≡ r → due_by richer.entries (cond t (Some key) r) ≡ cond t (Some e1.due) (due_by b.entries r)
      through true r h = ap due_if new_here.entry
      through false None h = refl
      through false (Some k) h =
          let f : (e : Entry) × (p : ℕ) × Holds b.entries b.slots k e p × (e.owner ≡ o) × (e.source ≡ s) = w.found o s k h in
          ap due_if (set_elsewhere b.entries key k e1 (not_new k f.0 f.1 f.2))

-- another due, in the rows
pub change_rows : (b : StockBook) → IsStock b → (key d : ℕ) (e0 : Entry) (p0 : ℕ) → Holds b.entries b.slots key e0 p0 → (o : ℕ) (s : Source)
    → due_of (record b { entries = set b.entries key (record e0 { due = d }) }) o s ≡ cond (o == e0.owner && same_source s e0.source) (Some d) (due_of b o s)
unfolding due_of
change_rows b w key d e0 p0 h0 o s = by (o == e0.owner && same_source s e0.source) (key_in b.index.keys o s) refl refl
  where
    by : (t : Bool) (r : Option ℕ) → (o == e0.owner && same_source s e0.source) ≡ t → key_in b.index.keys o s ≡ r → due_by (set b.entries key (record e0 { due = d })) r ≡ cond t (Some d) (due_by b.entries r)
    by true r t h =
        let k : (o ≡ e0.owner) × (s ≡ e0.source) = same_key e0.owner e0.source o s t in
        let is : r ≡ Some key = sym h ∙ (λ i. key_in b.index.keys (k.0 i) (k.1 i)) ∙ w.known key e0 p0 h0 in
        ap (due_by (set b.entries key (record e0 { due = d }))) is ∙ ap due_if (set_there b.entries key (record e0 { due = d }) (slice_get_within b.entries key e0 h0.entry))
    by false None t h = refl
    by false (Some k) t h =
        let f : (e : Entry) × (p : ℕ) × Holds b.entries b.slots k e p × (e.owner ≡ o) × (e.source ≡ s) = w.found o s k h in
        ap due_if (set_elsewhere b.entries key k (record e0 { due = d }) (λ same.
        let is : e0 ≡ f.0 = some_same e0 f.0 (slice_get b.entries key) h0.entry (sym (ap (slice_get b.entries) same) ∙ f.2.entry) in
        let u : (o == e0.owner && same_source s e0.source) ≡ true = own_key e0.owner e0.source o s (sym (ap (λ (x : Entry). x.owner) is ∙ f.3)) (sym (ap (λ (x : Entry). x.source) is ∙ f.4)) in
        let bad : true ≡ false = sym u ∙ t in cc))

-- how many keys hold nothing, where one goes to another list
abbrev pub is_free : ℕ → Bool
is_free l = l == 2050

one : ℕ → ℕ
one l = cond (is_free l) 1 0

free_set : (xs : List ℕ) (key l p : ℕ) → slice_get xs key ≡ Some p → count_by is_free (set xs key l) + one p ≡ count_by is_free xs + one l
unfolding one
free_set xs key l p h =
    let at : get_or xs key 0 ≡ p = get_or_from_slice_get xs key p 0 h in
    ap (λ v. count_by is_free (set xs key l) + cond (is_free v) 1 0) (sym at)
    ∙ sum_by-set (λ x. cond (is_free x) 1 0) xs key l 0 (slice_get_within xs key p h)

one_yes : one 2050 ≡ 1
unfolding one
one_yes = refl

one_no : (p : ℕ) → p ≢ 2050 → one p ≡ 0
unfolding one
one_no p h = ap (λ t. cond t 1 0) (ne_eqb p 2050 h)

one_most : (p : ℕ) → one p ≤ 1
one_most p =
    elim (cases_eq p 2050) [
      | inl e ↦ let f : one p ≡ 1 = ap one e ∙ one_yes in omega arith
      | inr ne ↦ let f : one p ≡ 0 = one_no p ne in omega arith
    ]

count_more : (x : ℕ) (xs : List ℕ) → count_by is_free (x ∷ xs) ≡ one x + count_by is_free xs
unfolding one
count_more x xs = sum_by-cons (λ l. cond (is_free l) 1 0) x xs

pub free_stays : (xs : List ℕ) (key l p : ℕ) → slice_get xs key ≡ Some p → p ≢ 2050 → l ≢ 2050 → count_by is_free (set xs key l) ≡ count_by is_free xs
free_stays xs key l p h ne nl = omega (arith, free_set xs key l p h, one_no p ne, one_no l nl)

pub free_more : (xs : List ℕ) (key p : ℕ) → slice_get xs key ≡ Some p → p ≢ 2050 → count_by is_free xs ≤ count_by is_free (set xs key 2050)
free_more xs key p h ne = omega (arith, free_set xs key 2050 p h, one_no p ne)

pub free_less : (xs : List ℕ) (key l : ℕ) → slice_get xs key ≡ Some 2050 → count_by is_free xs ≤ count_by is_free (set xs key l) + 1
free_less xs key l h = omega (arith, free_set xs key l 2050 h, one_yes)

pub none_free : (xs : List ℕ) → ((k : ℕ) → slice_get xs k ≢ Some 2050) → count_by is_free xs ≡ 0
none_free [] h = refl
none_free (x ∷ xs) h = count_more x xs ∙ omega (arith, none_free xs (λ k. h (suc k)), one_no x (λ e. h 0 (ap Some e)))

pub some_free : (xs : List ℕ) (k : ℕ) → slice_get xs k ≡ Some 2050 → 0 < count_by is_free xs
some_free [] k h = let bad : None ≡ Some 2050 = h in cc
some_free (x ∷ xs) zero h = let is : Some x ≡ Some 2050 = h in let e : x ≡ 2050 = cc in subst (λ n. 0 < n) (sym (count_more x xs)) (omega (arith, ap one e, one_yes))
some_free (x ∷ xs) (suc k) h = subst (λ n. 0 < n) (sym (count_more x xs)) (omega (arith, some_free xs k h))

pub read_entry : (es : List Entry) (k : ℕ) (x : Entry) → k < length es → x ≡ get_or es k x → slice_get es k ≡ Some x
read_entry es k x h e = slice_get-get_or es k x h ∙ ap Some (sym e)

pub same_more : {X : Type 0} (xs : List X) → IsMore xs xs
same_more xs = record { kept = λ k x h. h; long = omega arith }

pub push_more : {X : Type 0} (xs : List X) (y : X) → IsMore xs (xs ++ y ∷ [])
push_more xs y = record { kept = keep xs; long = omega (arith, length-append xs (y ∷ [])) }
  where
    keep : (zs : List _) (k : ℕ) (x : _) → slice_get zs k ≡ Some x → slice_get (zs ++ y ∷ []) k ≡ Some x
    keep [] k x h = let bad : None ≡ Some x = h in cc
    keep (z ∷ zs) zero x h = h
    keep (z ∷ zs) (suc k) x h = keep zs k x h

pub push_back : (xs : List ℕ) (k p : ℕ) → slice_get (xs ++ 2050 ∷ []) k ≡ Some p → p ≢ 2050 → slice_get xs k ≡ Some p
push_back [] zero p h ne = let is : Some 2050 ≡ Some p = h in absurd (ne (let e : 2050 ≡ p = cc in sym e))
push_back [] (suc k) p h ne = h
push_back (x ∷ xs) zero p h ne = h
push_back (x ∷ xs) (suc k) p h ne = push_back xs k p h ne

pub push_free : (xs : List ℕ) → count_by is_free (xs ++ 2050 ∷ []) ≡ count_by is_free xs + 1
push_free [] = refl
push_free (x ∷ xs) = count_more x (xs ++ 2050 ∷ []) ∙ omega (arith, push_free xs, count_more x xs)

-- lists that grew
module _ (b : StockBook) (w : IsStock b) (entries' : List Entry) (slots' owners' : List ℕ) (index' : IndexBook)
    (g : IsGrown b.entries b.slots b.owners entries' slots' owners') (same : index'.keys ≡ b.index.keys) where
  abbrev pub wider : StockBook
  wider = record { entries = entries'; slots = slots'; owners = owners'; index = index' }

  pub wider_back : (k : ℕ) (e : Entry) (p : ℕ) → Holds entries' slots' k e p → Holds b.entries b.slots k e p
  wider_back k e p h =
      let was : slice_get b.slots k ≡ Some p = g.slots_free k p h.slot h.full in
      let f : (x : Entry) × Holds b.entries b.slots k x p = held_at b w k p was h.full in
      let is : f.0 ≡ e = some_same f.0 e (slice_get entries' k) (g.entries_more.kept k f.0 f.1.entry) h.entry in
      subst (λ x. Holds b.entries b.slots k x p) is f.1

  wider_on : (k : ℕ) (e : Entry) (p : ℕ) → Holds b.entries b.slots k e p → Holds entries' slots' k e p
  wider_on k e p h = record { entry = g.entries_more.kept k e h.entry; slot = g.slots_more.kept k p h.slot; full = h.full }

  pub wider_stock : IsStock wider
  wider_stock =
      record {
        entries_long = g.entries_long;
        owners_long = g.owners_long;
        known = λ k e p h. ap (λ ks. key_in ks e.owner e.source) same ∙ w.known k e p (wider_back k e p h);
        found = λ o s k h.
            let f : (e : Entry) × (p : ℕ) × Holds b.entries b.slots k e p × (e.owner ≡ o) × (e.source ≡ s) = w.found o s k (sym (ap (λ ks. key_in ks o s) same) ∙ h) in
            (f.0, f.1, wider_on k f.0 f.1 f.2, f.3, f.4);
        owned = λ k e p h.
            elim (w.owned k e p (wider_back k e p h)) [
              | inl a ↦ inl (g.owners_more.kept k _ a)
              | inr a ↦ inr (g.owners_more.kept k _ a)
            ];
        listed = λ k l h ne.
            let f : (e : Entry) × (p : ℕ) × Holds b.entries b.slots k e p = w.listed k l (g.owners_free k l h ne) ne in
            (f.0, f.1, wider_on k f.0 f.1 f.2);
      }

  pub wider_rows : (o : ℕ) (s : Source) → due_of wider o s ≡ due_of b o s
  unfolding due_of
  wider_rows o s = ap (λ ks. due_by entries' (key_in ks o s)) same ∙ by (key_in b.index.keys o s) refl
    where
      by : (r : Option ℕ) → key_in b.index.keys o s ≡ r → due_by entries' r ≡ due_by b.entries r
      by None h = refl
      by (Some k) h =
          let f : (e : Entry) × (p : ℕ) × Holds b.entries b.slots k e p × (e.owner ≡ o) × (e.source ≡ s) = w.found o s k h in
          ap due_if (g.entries_more.kept k f.0 f.2.entry ∙ sym f.2.entry)

pub same_grown : (b : StockBook) → IsStock b → IsGrown b.entries b.slots b.owners b.entries b.slots b.owners
same_grown b w =
    record {
      entries_more = same_more b.entries;
      slots_more = same_more b.slots;
      owners_more = same_more b.owners;
      slots_free = λ k p h ne. h;
      owners_free = λ k l h ne. h;
      entries_long = w.entries_long;
      owners_long = w.owners_long;
      free = omega arith;
    }

-- one key fewer in a list
pub falls_set : (l : ℕ) (xs : List ℕ) (key m : ℕ) → slice_get xs key ≡ Some l → m ≢ l → count_by (λ x. x == l) (set xs key m) < count_by (λ x. x == l) xs
falls_set l xs key m h ne =
    let at : get_or xs key 0 ≡ l = get_or_from_slice_get xs key l 0 h in
    let a = ap (λ v. count_by (λ x. x == l) (set xs key m) + in_l v) (sym at) ∙ sum_by-set in_l xs key m 0 (slice_get_within xs key l h) in
    let y : in_l l ≡ 1 = ap (λ t. cond t 1 0) (eq-eqb l l refl) in
    let n : in_l m ≡ 0 = ap (λ t. cond t 1 0) (ne_eqb m l ne) in
    falls (count_by (λ x. x == l) (set xs key m)) (count_by (λ x. x == l) xs) (in_l l) (in_l m) a y n
  where
    in_l : ℕ → ℕ
    in_l x = cond (x == l) 1 0

    falls : (a b y n : ℕ) → a + y ≡ b + n → y ≡ 1 → n ≡ 0 → a < b
    falls a b y n h i j = omega arith

pub rows_slots : (a b : StockBook) → b ≡ record a { slots = b.slots } → (o : ℕ) (s : Source) → due_of b o s ≡ due_of a o s
unfolding due_of
rows_slots a b e o s = ap (λ (x : StockBook). due_of x o s) e

-- what a source's key holds
pub find_held : (b : StockBook) → IsStock b → (o : ℕ) (s : Source) (r : Option ℕ) → r ≡ key_in b.index.keys o s
    → IfSome r (λ k. (e : Entry) × (p : ℕ) × Holds b.entries b.slots k e p × (e.owner ≡ o) × (e.source ≡ s))
find_held b w o s None h = tt
find_held b w o s (Some k) h = w.found o s k (sym h)

pub find_some : (b : StockBook) → IsStock b → (o : ℕ) (s : Source) (r : Option ℕ) → r ≡ key_in b.index.keys o s → IfSome r (λ k. IsSome (due_of b o s))
unfolding due_of
find_some b w o s None h = tt
find_some b w o s (Some k) h =
    let f : (e : Entry) × (p : ℕ) × Holds b.entries b.slots k e p × (e.owner ≡ o) × (e.source ≡ s) = w.found o s k (sym h) in
    ap (λ x. is_some (due_by b.entries x)) (sym h) ∙ ap (λ x. is_some (due_if x)) f.2.entry

pub find_none : (b : StockBook) → (o : ℕ) (s : Source) (r : Option ℕ) → r ≡ key_in b.index.keys o s → IfNone r (due_of b o s ≡ None)
unfolding due_of
find_none b o s None h = ap (due_by b.entries) (sym h)
find_none b o s (Some k) h = tt

pub no_key_of : (b : StockBook) → IsStock b → (o : ℕ) (s : Source) → due_of b o s ≡ None → key_in b.index.keys o s ≡ None
unfolding due_of
no_key_of b w o s h = by (key_in b.index.keys o s) refl
  where
    by : (r : Option ℕ) → key_in b.index.keys o s ≡ r → r ≡ None
    by None q = refl
    by (Some k) q =
        let f : (e : Entry) × (p : ℕ) × Holds b.entries b.slots k e p × (e.owner ≡ o) × (e.source ≡ s) = w.found o s k q in
        let bad : Some f.0.due ≡ None = sym (ap (due_by b.entries) q ∙ ap due_if f.2.entry) ∙ h in cc

-- a key's entry gets another due, and goes to another slot
pub reset_holds : (b : StockBook) (key d p : ℕ) (e0 : Entry) (p0 : ℕ) → Holds b.entries b.slots key e0 p0
    → (k : ℕ) (e : Entry) (q : ℕ) → Holds (set b.entries key (record e0 { due = d })) (set b.slots key p) k e q → Holds b.entries b.slots k e q ⊎ ((e.due ≡ d) × (q ≡ p))
reset_holds b key d p e0 p0 h0 k e q h =
    elim (cases_eq k key) [
      | inl same ↦ let x : record e0 { due = d } ≡ e = some_same (record e0 { due = d }) e (slice_get (set b.entries key (record e0 { due = d })) key) (set_there b.entries key (record e0 { due = d }) (slice_get_within b.entries key e0 h0.entry)) (sym (ap (slice_get (set b.entries key (record e0 { due = d }))) same) ∙ h.entry) in
          let y : p ≡ q = some_same p q (slice_get (set b.slots key p) key) (set_there b.slots key p (slice_get_within b.slots key p0 h0.slot)) (sym (ap (slice_get (set b.slots key p)) same) ∙ h.slot) in
          inr (ap (λ (z : Entry). z.due) (sym x), sym y)
      | inr ne ↦ inl (record { entry = sym (set_elsewhere b.entries key k (record e0 { due = d }) ne) ∙ h.entry; slot = sym (set_elsewhere b.slots key k p ne) ∙ h.slot; full = h.full })
    ]

pub reset_stock : (b : StockBook) → IsStock b → (key d l : ℕ) (e0 : Entry) (p0 : ℕ) → Holds b.entries b.slots key e0 p0 → l ≢ 2050
    → IsStock (record b { entries = set b.entries key (record e0 { due = d }); slots = set b.slots key l })
reset_stock b w key d l e0 p0 h0 full =
    put_stock (record b { entries = set b.entries key (record e0 { due = d }) }) (change_stock b w key d e0 p0 h0) key l (record e0 { due = d }) p0
    (record { entry = set_there b.entries key (record e0 { due = d }) (slice_get_within b.entries key e0 h0.entry); slot = h0.slot; full = h0.full }) full

pub reset_rows : (b : StockBook) → IsStock b → (key d l : ℕ) (e0 : Entry) (p0 : ℕ) → Holds b.entries b.slots key e0 p0 → (o : ℕ) (s : Source)
    → due_of (record b { entries = set b.entries key (record e0 { due = d }); slots = set b.slots key l }) o s ≡ cond (o == e0.owner && same_source s e0.source) (Some d) (due_of b o s)
reset_rows b w key d l e0 p0 h0 o s =
    rows_slots (record b { entries = set b.entries key (record e0 { due = d }) }) (record b { entries = set b.entries key (record e0 { due = d }); slots = set b.slots key l }) refl o s
    ∙ change_rows b w key d e0 p0 h0 o s
