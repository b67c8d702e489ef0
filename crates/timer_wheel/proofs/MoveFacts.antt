-- Keys on their way from slot to slot.
use Rattle.std.proofs.Common.{inl, inr, ◌⊎◌, ◌≡◌, ◌≢◌, ℕ, zero, suc, ◌<◌, ◌==◌, false, map, List, [], ◌∷◌, length, set, Option, Some, None, slice_get, count_by, MatchOption, IfSome, IfNone, refl, sym, ap, subst, ◌∙◌, arith}
use Rattle.std.proofs.lemmas.Option.{slice_get_within}
use Rattle.std.proofs.lemmas.Bool.{cases_eq}
use Rattle.timer_wheel.specs.declared.Entry.{Entry}
use Rattle.timer_wheel.specs.Rows.{is_before}
use Rattle.timer_wheel.specs.Stocks.{StockBook, Holds, IsStock, room_of, unless, IsSpread}
use Rattle.timer_wheel.proofs.Circles.{pick_same, pick_other}
use Rattle.timer_wheel.proofs.SlotFacts.{set_there, set_elsewhere}
use Rattle.timer_wheel.proofs.StockFacts.{some_same, held_at, is_free, free_stays, falls_set}
use Rattle.timer_wheel.proofs.EntryOrder.{is_before-order}

-- only the slots are other
pub slots_alone : (a b n : StockBook) (xs : List ℕ) → b ≡ record a { slots = b.slots } → n ≡ record b { slots = xs } → n ≡ record a { slots = n.slots }
slots_alone a b n xs e f =
    f ∙ ap (λ (x : StockBook). record x { slots = xs }) e ∙ (λ i. record a { slots = sym (ap (λ (x : StockBook). x.slots) f) i })

pub unless_from : (from : ℕ) → unless from from ≡ 2049
unless_from from = pick_same from from 2049 from refl

pub unless_other : (from p : ℕ) → p ≢ from → unless from p ≡ p
unless_other from p ne = pick_other p from 2049 p ne

pub map_set : (from : ℕ) (xs : List ℕ) (k : ℕ) → from ≢ 2049 → slice_get xs k ≡ Some from → map (unless from) (set xs k 2049) ≡ map (unless from) xs
map_set from [] k ne h = refl
map_set from (x ∷ xs) zero ne h =
    let is : Some x ≡ Some from = h in
    let e : x ≡ from = cc in
    λ i. (unless_other from 2049 (λ q. ne (sym q)) ∙ sym (ap (unless from) e ∙ unless_from from)) i ∷ map (unless from) xs
map_set from (x ∷ xs) (suc k) ne h = ap (λ ys. unless from x ∷ ys) (map_set from xs k ne h)

pub map_none : (from : ℕ) (xs : List ℕ) → ((k : ℕ) → slice_get xs k ≢ Some from) → map (unless from) xs ≡ xs
map_none from [] h = refl
map_none from (x ∷ xs) h = λ i. unless_other from x (λ e. h 0 (ap Some e)) i ∷ map_none from xs (λ k. h (suc k)) i

pub map_back : (from : ℕ) (xs : List ℕ) (k y : ℕ) → slice_get (map (unless from) xs) k ≡ Some y → (x : ℕ) × (slice_get xs k ≡ Some x) × (unless from x ≡ y)
map_back from [] k y h = let bad : None ≡ Some y = h in cc
map_back from (x ∷ xs) zero y h = let is : Some (unless from x) ≡ Some y = h in (x, refl, (let e : unless from x ≡ y = cc in e))
map_back from (x ∷ xs) (suc k) y h = map_back from xs k y h

pub map_on : (from : ℕ) (xs : List ℕ) (k x : ℕ) → slice_get xs k ≡ Some x → slice_get (map (unless from) xs) k ≡ Some (unless from x)
map_on from [] k x h = let bad : None ≡ Some x = h in cc
map_on from (y ∷ xs) zero x h = let is : Some y ≡ Some x = h in let e : y ≡ x = cc in ap (λ z. Some (unless from z)) e
map_on from (y ∷ xs) (suc k) x h = map_on from xs k x h

-- the loop of `gather`
pub record IsGathered (from : ℕ) (old now : StockBook) (least : Option Entry) : Type 0 where
  pub same : now ≡ record old { slots = now.slots }
  pub spots : map (unless from) now.slots ≡ map (unless from) old.slots
  pub left : (k p : ℕ) → slice_get now.slots k ≡ Some p → p ≢ 2049 → slice_get old.slots k ≡ Some p
  pub there : IfSome least (λ x. (k : ℕ) × Holds old.entries old.slots k x from)
  pub seen : (k : ℕ) (e : Entry) → Holds old.entries old.slots k e from → (slice_get now.slots k ≡ Some from) ⊎ MatchOption least ⊥ (λ x. is_before e x ≡ false)
  pub room : room_of now ≡ room_of old

pub gather_none : (from : ℕ) (b : StockBook) → IsGathered from b b None
gather_none from b =
    record { same = refl; spots = refl; left = λ k p h ne. h; there = tt; seen = λ k e h. inl h.slot; room = refl }

-- what `lesser` ensures
pub record IsLesser (least : Option Entry) (e r : Entry) : Type 0 where
  pub either : MatchOption least (r ≡ e) (λ l. (r ≡ e) ⊎ (r ≡ l))
  pub entry : is_before e r ≡ false
  pub least_too : IfSome least (λ l. is_before l r ≡ false)

still : (least : Option Entry) (e r x : Entry) → IsLesser least e r → MatchOption least ⊥ (λ l. is_before x l ≡ false) → is_before x r ≡ false
still None e r x w h = absurd h
still (Some l) e r x w h = is_before-order.chain x l r h w.least_too

pub stands : (P : Entry → Type 0) (least : Option Entry) (e r : Entry) → IsLesser least e r → P e → IfSome least P → P r
stands P None e r w h k = subst P (sym w.either) h
stands P (Some l) e r w h k = elim w.either [ inl q ↦ subst P (sym q) h | inr q ↦ subst P (sym q) k ]

pub gather_more : (from : ℕ) (old now new : StockBook) (least : Option Entry) (key : ℕ) (e r : Entry) → from < 2048 → IsStock old → IsGathered from old now least
    → slice_get now.slots key ≡ Some from → slice_get now.entries key ≡ Some e → IsLesser least e r → new ≡ record now { slots = set now.slots key 2049 } → IsGathered from old new (Some r)
gather_more from old now new least key e r low st g at is w f =
    let spot : new.slots ≡ set now.slots key 2049 = ap (λ (b : StockBook). b.slots) f in
    let ne : from ≢ 2049 = λ q. omega arith in
    let l : key < length now.slots = slice_get_within now.slots key from at in
    let here : Holds old.entries old.slots key e from =
    record { entry = sym (ap (λ (b : StockBook). slice_get b.entries key) g.same) ∙ is; slot = g.left key from at ne; full = λ q. omega arith } in
    record {
      same = slots_alone old now new (set now.slots key 2049) g.same f;
      spots = ap (map (unless from)) spot ∙ map_set from now.slots key ne at ∙ g.spots;
      left = λ k p h np.
          elim (cases_eq k key) [
            | inl same ↦ absurd (np (some_same p 2049 (slice_get new.slots k) h (ap (slice_get new.slots) same ∙ ap (λ xs. slice_get xs key) spot ∙ set_there now.slots key 2049 l)))
            | inr nk ↦ g.left k p (sym (ap (λ xs. slice_get xs k) spot ∙ set_elsewhere now.slots key k 2049 nk) ∙ h) np
          ];
      there = stands (λ x. (k : ℕ) × Holds old.entries old.slots k x from) least e r w (key, here) g.there;
      seen = λ k x h.
          elim (cases_eq k key) [
            | inl same ↦ inr (let q : e ≡ x = some_same e x (slice_get old.entries key) here.entry (sym (ap (slice_get old.entries) same) ∙ h.entry) in subst (λ y. is_before y r ≡ false) q w.entry)
            | inr nk ↦ elim (g.seen k x h) [
              | inl s ↦ inl (ap (λ xs. slice_get xs k) spot ∙ set_elsewhere now.slots key k 2049 nk ∙ s)
              | inr s ↦ inr (still least e r x w s)
            ]
          ];
      room = ap room_of f ∙ room_put now key 2049 from at (λ q. omega arith) (λ q. omega arith) ∙ g.room;
    }
  where
    room_put : (b : StockBook) (k l p : ℕ) → slice_get b.slots k ≡ Some p → p ≢ 2050 → l ≢ 2050 → room_of (record b { slots = set b.slots k l }) ≡ room_of b
    room_put b k l p h np nl = let q : count_by is_free (set b.slots k l) ≡ count_by is_free b.slots = free_stays b.slots k l p h np nl in omega arith

pub gathered_slots : (from : ℕ) (old now : StockBook) (least : Option Entry) → IsGathered from old now least → ((k : ℕ) → slice_get now.slots k ≢ Some from) → now ≡ record old { slots = map (unless from) old.slots }
gathered_slots from old now least g none =
    g.same ∙ (λ i. record old { slots = (sym (map_none from now.slots none) ∙ g.spots) i })

pub gathered_least : (from : ℕ) (old now : StockBook) (least : Option Entry) → IsGathered from old now least → ((k : ℕ) → slice_get now.slots k ≢ Some from)
    → IfSome least (λ l. (k : ℕ) (e : Entry) → Holds old.entries old.slots k e from → is_before e l ≡ false)
gathered_least from old now None g none = tt
gathered_least from old now (Some l) g none = λ k e h. elim (g.seen k e h) [ inl s ↦ absurd (none k s) | inr s ↦ s ]

pub gathered_none : (from : ℕ) (old now : StockBook) (least : Option Entry) → from < 2048 → IsStock old → IsGathered from old now least → ((k : ℕ) → slice_get now.slots k ≢ Some from)
    → IfNone least ((k : ℕ) → slice_get old.slots k ≢ Some from)
gathered_none from old now (Some l) low st g none = tt
gathered_none from old now None low st g none = λ k h.
    let f : (e : Entry) × Holds old.entries old.slots k e from = held_at old st k from h (λ q. omega arith) in
    elim (g.seen k f.0 f.1) [ inl s ↦ none k s | inr s ↦ s ]

-- the loop of `spread`
pub record IsSpreading (right : ℕ → Entry → Type 0) (old now : StockBook) : Type 0 where
  pub same : now ≡ record old { slots = now.slots }
  pub stayed : (k p : ℕ) → p ≢ 2049 → slice_get old.slots k ≡ Some p → slice_get now.slots k ≡ Some p
  pub went : (k : ℕ) (e : Entry) → slice_get old.entries k ≡ Some e → slice_get old.slots k ≡ Some 2049 → (slice_get now.slots k ≡ Some 2049) ⊎ ((p : ℕ) × (slice_get now.slots k ≡ Some p) × right p e)
  pub came : (k p : ℕ) → slice_get now.slots k ≡ Some p → (slice_get old.slots k ≡ Some p) ⊎ (slice_get old.slots k ≡ Some 2049)
  pub room : room_of now ≡ room_of old

pub spread_none : (right : ℕ → Entry → Type 0) (b : StockBook) → IsSpreading right b b
spread_none right b = record { same = refl; stayed = λ k p ne h. h; went = λ k e h l. inl l; came = λ k p h. inl h; room = refl }

pub spread_more : (right right' : ℕ → Entry → Type 0) → ((p : ℕ) (e : Entry) → right p e → right' p e) → (old now new : StockBook) (key l : ℕ) (e : Entry) → IsSpreading right old now
    → slice_get now.slots key ≡ Some 2049 → slice_get now.entries key ≡ Some e → right' l e → l < 2049 → new ≡ record now { slots = set now.slots key l } → IsSpreading right' old new
spread_more right right' weak old now new key l e g at is there low f =
    let spot : new.slots ≡ set now.slots key l = ap (λ (b : StockBook). b.slots) f in
    let within : key < length now.slots = slice_get_within now.slots key 2049 at in
    let entry : slice_get old.entries key ≡ Some e = sym (ap (λ (b : StockBook). slice_get b.entries key) g.same) ∙ is in
    let now_at : slice_get new.slots key ≡ Some l = ap (λ xs. slice_get xs key) spot ∙ set_there now.slots key l within in
    let now_other : (k : ℕ) → k ≢ key → slice_get new.slots k ≡ slice_get now.slots k = λ k ne. ap (λ xs. slice_get xs k) spot ∙ set_elsewhere now.slots key k l ne in
    record {
      same = slots_alone old now new (set now.slots key l) g.same f;
      stayed = λ k p ne h.
          elim (cases_eq k key) [
            | inl same ↦ absurd (ne (some_same p 2049 (slice_get now.slots key) (sym (ap (slice_get now.slots) same) ∙ g.stayed k p ne h) at))
            | inr nk ↦ now_other k nk ∙ g.stayed k p ne h
          ];
      went = λ k x h loose.
          elim (cases_eq k key) [
            | inl same ↦ let q : e ≡ x = some_same e x (slice_get old.entries key) entry (sym (ap (slice_get old.entries) same) ∙ h) in
                inr (l, ap (slice_get new.slots) same ∙ now_at, subst (right' l) q there)
            | inr nk ↦ elim (g.went k x h loose) [ inl s ↦ inl (now_other k nk ∙ s) | inr s ↦ inr (s.0, now_other k nk ∙ s.1, weak s.0 x s.2) ]
          ];
      came = λ k p h.
          elim (cases_eq k key) [
            | inl same ↦ elim (g.came key 2049 at) [
              | inl s ↦ inr (ap (slice_get old.slots) same ∙ s)
              | inr s ↦ inr (ap (slice_get old.slots) same ∙ s)
            ]
            | inr nk ↦ g.came k p (sym (now_other k nk) ∙ h)
          ];
      room = ap room_of f ∙ room_set now key l at (λ q. omega arith) ∙ g.room;
    }
  where
    room_set : (b : StockBook) (k m : ℕ) → slice_get b.slots k ≡ Some 2049 → m ≢ 2050 → room_of (record b { slots = set b.slots k m }) ≡ room_of b
    room_set b k m h nm = let q : count_by is_free (set b.slots k m) ≡ count_by is_free b.slots = free_stays b.slots k m 2049 h (λ q. omega arith) nm in omega arith

pub spread_done : (right : ℕ → Entry → Type 0) (old now : StockBook) → IsSpreading right old now → ((k : ℕ) → slice_get now.slots k ≢ Some 2049) → IsSpread right old now
spread_done right old now g none =
    record {
      same = g.same;
      stayed = g.stayed;
      went = λ k e h loose. elim (g.went k e h loose) [ inl s ↦ absurd (none k s) | inr s ↦ s ];
      came = g.came;
      none = none;
      room = g.room;
    }

-- the measure of both loops
pub fewer_put : (b new : StockBook) (key l m : ℕ) → new ≡ record b { slots = set b.slots key m } → m ≢ l → slice_get b.slots key ≡ Some l
    → count_by (λ y. y == l) new.slots < count_by (λ y. y == l) b.slots
fewer_put b new key l m is ne at =
    subst (λ (x : StockBook). count_by (λ y. y == l) x.slots < count_by (λ y. y == l) b.slots) (sym is) (falls_set l b.slots key m at ne)
