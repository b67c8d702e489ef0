-- The places of pipes, as one changes.
use Rattle.std.proofs.Common.{◌≡◌, ◌≢◌, ℕ, zero, suc, ◌+◌, ◌<◌, ◌≤◌, nat_lt, nat_eq, Bool, true, false, cond, refl, sym, ap, ◌∙◌, subst, List, [], ◌∷◌, ◌++◌, map, length, take, drop, set, get_or, position, ◌⊎◌, inl, inr, Option, Some, None, arith, get_or-set_same, get_or-set_other}
use Rattle.std.specs.Prelude.{option_map, option_and_then, unwrap_or, slice_get}
use Rattle.std.specs.List.{position_or_len, insert, remove}
use Rattle.std.proofs.lemmas.Bool.{cases_eq}
use Rattle.std.proofs.lemmas.Bool.Decides.{nat_tests}
use Rattle.std.proofs.lemmas.List.{length-set, length-map, take-append-drop}
use Rattle.std.proofs.lemmas.List.Folds.{position_or_len-set}
use Rattle.std.proofs.lemmas.List.Quantifiers.{position-Some}
use Rattle.std.proofs.lemmas.List.Recursion.{is_position_or_len}
use Rattle.std.proofs.lemmas.List.Sums.{position_or_len_is}
use Rattle.std.proofs.lemmas.Option.{slice_get_within, get_or_from_slice_get, slice_get-get_or, slice_get-map}
use Rattle.emu_model.specs.declared.packets.Packet.{Packet}
use Rattle.emu_model.specs.FlowIds.{flow_id, instance_of}
use Rattle.emu_model.specs.Delay.{first_exit}
use Rattle.emu_model.specs.Pipes.{PipeState, Instance, InService}
use Rattle.due_index.specs.Table.{place_in}
use Rattle.pipe_core.specs.Moves.{some_packet}
use Rattle.pipe_core.specs.Masks.{KeepsIds}
use Rattle.pipe_core.specs.Steps.{HasRoomAtSlot}
use Rattle.pipe_core.specs.Keyed.{KeyedPipe, seen_pipe, seen_slot, ids_of}
use Rattle.pipe_core.proofs.CallerLemmas.{ids-seen}
use Rattle.pipe_table.specs.Table.{seen_pipes, has_number, is_above, HasGrown, IsFinishing, IsLeaving, IsTable}
use Rattle.pipe_table.proofs.Splits.{position-whole}
use Rattle.pipe_table.proofs.NumberOrder.{place}
use Rattle.pipe_table.proofs.At.{pipe-at, finishing-at, leaving-at, removed, insert-is}
use Rattle.pipe_table.specs.Places.{StandsAt, AreLed, IsInside, IsRouted, HasRoomAtPlace, KeepsPlaces}

-- a list at a place that was set, and at another
pub get-set : {A : Type 0} (xs : List A) (i : ℕ) (y : A) → i < length xs → slice_get (set xs i y) i ≡ Some y
get-set [] i y h = absurd (omega (arith, h))
get-set (x ∷ xs) zero y h = refl
get-set (x ∷ xs) (suc i) y h = get-set xs i y (omega (arith, h))

pub get-other : {A : Type 0} (xs : List A) (i k : ℕ) (y : A) → k ≢ i → slice_get (set xs i y) k ≡ slice_get xs k
get-other [] i k y d = refl
get-other (x ∷ xs) zero zero y d = absurd (d refl)
get-other (x ∷ xs) zero (suc k) y d = refl
get-other (x ∷ xs) (suc i) zero y d = refl
get-other (x ∷ xs) (suc i) (suc k) y d = get-other xs i k y (λ e. d (ap suc e))

pub get-there : {A : Type 0} (xs : List A) (i : ℕ) (x : A) → i < length xs → x ≡ get_or xs i x → slice_get xs i ≡ Some x
get-there xs i x within read = slice_get-get_or xs i x within ∙ ap (λ y. Some y) (sym read)

pub get-is : {A : Type 0} (xs : List A) (i : ℕ) (x y : A) → x ≡ get_or xs i x → slice_get xs i ≡ Some y → y ≡ x
get-is xs i x y read there = sym (get_or_from_slice_get xs i y x there) ∙ sym read

take-get : {A : Type 0} (xs : List A) (n j : ℕ) (x : A) → slice_get (take n xs) j ≡ Some x → (j < n) × (slice_get xs j ≡ Some x)
take-get [] zero j x e = absurd (cc)
take-get [] (suc n) j x e = absurd (cc)
take-get (y ∷ xs) zero j x e = absurd (cc)
take-get (y ∷ xs) (suc n) zero x e = (omega arith, e)
take-get (y ∷ xs) (suc n) (suc j) x e = let r = take-get xs n j x e in (omega (arith, r.0), r.1)

unmapped : {A B : Type 0} (h : A → B) (xs : List A) (k : ℕ) (b : B) → slice_get (map h xs) k ≡ Some b →
    (x : A) × (slice_get xs k ≡ Some x) × (h x ≡ b)
unmapped h [] k b e = absurd (cc)
unmapped h (x ∷ xs) zero b e = (x, refl, cc)
unmapped h (x ∷ xs) (suc k) b e = unmapped h xs k b e

-- what a place says of its number
first-is : {A : Type 0} (p : A → Bool) (xs : List A) (i : ℕ) (d : A) → i < length xs →
    ((k : ℕ) → k < i → p (get_or xs k d) ≡ false) → p (get_or xs i d) ≡ true → Some i ≡ position p xs
first-is p xs i d within before here =
    let same : position_or_len p xs ≡ i = position_or_len_is p xs i d (omega (arith, within)) before (λ l. here) in
    let test : nat_lt (position_or_len p xs) (length xs) ≡ true = grind (arith, nat_tests) in
    sym (λ t. cond (test t) (Some (same t)) None)

pub stands-within : (k i : ℕ) (ps : List KeyedPipe) → StandsAt k i ps → i < length ps
stands-within k i [] e = absurd (cc)
stands-within k i (p ∷ ps) e = (position-Some (has_number k) (p ∷ ps) i p (sym e)).0

pub stands-number : (k i : ℕ) (ps : List KeyedPipe) (x : KeyedPipe) → StandsAt k i ps → x ≡ get_or ps i x → x.number ≡ k
stands-number k i ps x e read =
    let yes : nat_eq x.number k ≡ true = ap (has_number k) read ∙ (position-Some (has_number k) ps i x (sym e)).1 in
    grind (arith, nat_tests)

-- the numbers of a table rise
least-number : (seed low : ℕ) (ps : List KeyedPipe) (i : ℕ) (d : KeyedPipe) → IsTable seed low ps → i < length ps →
    low ≤ (get_or ps i d).number
unfolding IsTable
least-number seed low [] i d t l = absurd (omega (arith, l))
least-number seed low (p ∷ ps) zero d t l = t.1
least-number seed low (p ∷ ps) (suc i) d t l =
    omega (arith, t.1, least-number seed (p.number + 1) ps i d t.2 (omega (arith, l)))

rises : (seed low : ℕ) (ps : List KeyedPipe) (k i : ℕ) (d : KeyedPipe) → IsTable seed low ps → i < length ps → k < i →
    (get_or ps k d).number < (get_or ps i d).number
unfolding IsTable
rises seed low [] k i d t l h = absurd (omega (arith, l))
rises seed low (p ∷ ps) k zero d t l h = absurd (omega (arith, h))
rises seed low (p ∷ ps) zero (suc i) d t l h =
    omega (arith, least-number seed (p.number + 1) ps i d t.2 (omega (arith, l)))
rises seed low (p ∷ ps) (suc k) (suc i) d t l h =
    rises seed (p.number + 1) ps k i d t.2 (omega (arith, l)) (omega (arith, h))

pub standing-place : (seed : ℕ) (ps : List KeyedPipe) (i : ℕ) (x : KeyedPipe) → IsTable seed 0 ps → i < length ps → x ≡ get_or ps i x →
    StandsAt x.number i ps
standing-place seed ps i x t within read =
    first-is (has_number x.number) ps i x within
    (λ k l. let lower = rises seed 0 ps k i x t within l in
    let same : (get_or ps i x).number ≡ x.number = ap (λ (p : KeyedPipe). p.number) (sym read) in
    let other : nat_eq (get_or ps k x).number x.number ≡ false = grind (arith, nat_tests) in other)
    (let same : (get_or ps i x).number ≡ x.number = ap (λ (p : KeyedPipe). p.number) (sym read) in
    let yes : nat_eq (get_or ps i x).number x.number ≡ true = grind (arith, nat_tests) in yes)

-- a pipe's number leads to its place
pub led-stands : (k i : ℕ) (ps : List KeyedPipe) (t : List (Option ℕ)) → AreLed ps t → StandsAt k i ps → place_in t k ≡ Some i
led-stands k i [] t h e = absurd (cc)
led-stands k i (p ∷ ps) t h e =
    let x : KeyedPipe = get_or (p ∷ ps) i p in
    let at = position-Some (has_number k) (p ∷ ps) i p (sym e) in
    let number : x.number ≡ k = let yes : nat_eq x.number k ≡ true = at.1 in grind (arith, nat_tests) in
    ap (place_in t) (sym number) ∙ h i x (slice_get-get_or (p ∷ ps) i p at.0)

pub led-nowhere : (k : ℕ) (ps : List KeyedPipe) (t : List (Option ℕ)) → AreLed ps t →
    ((i : ℕ) → StandsAt k i ps → place_in t k ≡ Some i → ⊥) → None ≡ position (has_number k) ps
led-nowhere k ps t h never = go (position (has_number k) ps) refl
  where
    go : (o : Option ℕ) → position (has_number k) ps ≡ o → None ≡ position (has_number k) ps
    go None e = sym e
    go (Some i) e = absurd (never i (sym e) (led-stands k i ps t h (sym e)))

pub led-set : (ps : List KeyedPipe) (i : ℕ) (x y : KeyedPipe) (t : List (Option ℕ)) → i < length ps → x ≡ get_or ps i x →
    y.number ≡ x.number → AreLed ps t → AreLed (set ps i y) t
led-set ps i x y t within read number h = λ j q e. elim (cases_eq j i) [
  | inl same ↦
      let is : y ≡ q = ap (λ o. unwrap_or o q) (sym (ap (slice_get (set ps i y)) same ∙ get-set ps i y within) ∙ e) in
      ap (λ (p : KeyedPipe). place_in t p.number) (sym is) ∙ ap (place_in t) number ∙ h i x (get-there ps i x within read)
      ∙ ap (λ n. Some n) (sym same)
  | inr differs ↦ h j q (sym (get-other ps i j y differs) ∙ e)
]

pub led-shown : (f g : ℕ → Packet) (old new : List KeyedPipe) (t : List (Option ℕ)) → seen_pipes g new ≡ seen_pipes f old →
    AreLed old t → AreLed new t
led-shown f g old new t same h = λ j q e.
    let seen : slice_get (seen_pipes f old) j ≡ Some (seen_pipe g q) =
    ap (λ ss. slice_get ss j) (sym same) ∙ slice_get-map (seen_pipe g) new j ∙ ap (option_map (seen_pipe g)) e in
    let there = unmapped (seen_pipe f) old j (seen_pipe g q) seen in
    ap (λ (s : PipeState). place_in t s.number) (sym there.2) ∙ h j there.0 there.1

-- an entry for each pipe
entry-of : (t : List (Option ℕ)) (n i : ℕ) → place_in t n ≡ Some i → n < length t
entry-of [] n i e = absurd (cc)
entry-of (x ∷ t) zero i e = omega arith
entry-of (x ∷ t) (suc n) i e = omega (arith, entry-of t n i e)

pub led-entry : (ps : List KeyedPipe) (t : List (Option ℕ)) (i : ℕ) (p : KeyedPipe) → AreLed ps t → slice_get ps i ≡ Some p → p.number < length t
led-entry ps t i p h e = entry-of t p.number i (h i p e)

-- a list with one more, or without one
pub more-there : {A : Type 0} (before behind : List A) (x q : A) (i : ℕ) → slice_get (before ++ x ∷ behind) i ≡ Some q →
    (x ≡ q) ⊎ ((j : ℕ) × (slice_get (before ++ behind) j ≡ Some q))
more-there [] behind x q zero e = inl (cc)
more-there [] behind x q (suc i) e = inr (i, e)
more-there (b ∷ before) behind x q zero e = inr (zero, e)
more-there (b ∷ before) behind x q (suc i) e = elim (more-there before behind x q i e) [
  | inl same ↦ inl same
  | inr there ↦ inr (suc there.0, there.1)
]

pub less-there : {A : Type 0} (before behind : List A) (x q : A) (i : ℕ) → slice_get (before ++ behind) i ≡ Some q →
    (j : ℕ) × (slice_get (before ++ x ∷ behind) j ≡ Some q)
less-there [] behind x q i e = (suc i, e)
less-there (b ∷ before) behind x q zero e = (zero, e)
less-there (b ∷ before) behind x q (suc i) e = let r = less-there before behind x q i e in (suc r.0, r.1)

-- one place after the other
pub led-none : (ps : List KeyedPipe) (t : List (Option ℕ)) → AreLed (take 0 ps) t
led-none [] t = λ i p e. absurd (cc)
led-none (x ∷ ps) t = λ i p e. absurd (cc)

pub led-more : (seed : ℕ) (ps : List KeyedPipe) (i : ℕ) (x : KeyedPipe) (t : List (Option ℕ)) → IsTable seed 0 ps → i < length ps →
    x ≡ get_or ps i x → x.number < length t → AreLed (take i ps) t → AreLed (take (i + 1) ps) (set t x.number (Some i))
led-more seed ps i x t table within read entry h = λ j q e.
    let there = take-get ps (i + 1) j q e in
    elim (cases_eq j i) [
      | inl same ↦
          let is : q ≡ x = get-is ps i x q read (ap (slice_get ps) (sym same) ∙ there.1) in
          ap (λ (p : KeyedPipe). place_in (set t x.number (Some i)) p.number) is
          ∙ get_or-set_same t x.number (Some i) None entry ∙ ap (λ n. Some n) (sym same)
      | inr differs ↦
          let lower : j < i = omega (arith, there.0, differs) in
          let own : (get_or ps j x).number ≡ q.number = ap (λ (p : KeyedPipe). p.number) (get_or_from_slice_get ps j q x there.1) in
          let here : (get_or ps i x).number ≡ x.number = ap (λ (p : KeyedPipe). p.number) (sym read) in
          let other : q.number ≢ x.number = omega (arith, rises seed 0 ps j i x table within lower, own, here) in
          get_or-set_other t x.number q.number (Some i) None other ∙ h j q (get-taken ps i j q lower there.1)
    ]
  where
    get-taken : (xs : List KeyedPipe) (n j : ℕ) (q : KeyedPipe) → j < n → slice_get xs j ≡ Some q → slice_get (take n xs) j ≡ Some q
    get-taken [] n j q l e = absurd (cc)
    get-taken (y ∷ xs) zero j q l e = absurd (omega (arith, l))
    get-taken (y ∷ xs) (suc n) zero q l e = e
    get-taken (y ∷ xs) (suc n) (suc j) q l e = get-taken xs n j q (omega (arith, l)) e

-- places, where a pipe changed
module _ (ps : List KeyedPipe) (i : ℕ) (x y : KeyedPipe) (within : i < length ps) (read : x ≡ get_or ps i x)
    (number : y.number ≡ x.number) (mask : y.config.mask ≡ x.config.mask) (ids : KeepsIds x.slots y.slots) where
  pub stands-set : (k : ℕ) → position (has_number k) (set ps i y) ≡ position (has_number k) ps
  stands-set k =
      let same : position_or_len (has_number k) (set ps i y) ≡ position_or_len (has_number k) ps =
      position_or_len-set (has_number k) ps i y x (λ t. nat_eq ((number ∙ ap (λ (p : KeyedPipe). p.number) read) t) k) in
      λ t. cond (nat_lt (same t) (length-set ps i y t)) (Some (same t)) None

  inside-set : (place j : ℕ) → IsInside place j ps → IsInside place j (set ps i y)
  inside-set place j h = elim (cases_eq place i) [
    | inl same ↦
        let is : h.pipe ≡ x = get-is ps i x h.pipe read (ap (slice_get ps) (sym same) ∙ h.there) in
        record {
          pipe = y;
          there = ap (slice_get (set ps i y)) same ∙ get-set ps i y within;
          inside = omega (arith, h.inside, ap (λ (p : KeyedPipe). length p.slots) is, ids.long);
        }
    | inr differs ↦ record { pipe = h.pipe; there = get-other ps i place y differs ∙ h.there; inside = h.inside }
  ]

  route-set : (k : ℕ) (packet : Packet) (place j : ℕ) → IsRouted k packet place j ps → IsRouted k packet place j (set ps i y)
  route-set k packet place j h = elim (cases_eq place i) [
    | inl same ↦
        let is : h.pipe ≡ x = get-is ps i x h.pipe read (ap (slice_get ps) (sym same) ∙ h.there) in
        let within_too : j < length x.slots = omega (arith, h.inside, ap (λ (p : KeyedPipe). length p.slots) is) in
        let its : instance_of (ids_of x.slots) (flow_id x.config.mask packet) ≡ Some j =
        ap (λ (p : KeyedPipe). instance_of (ids_of p.slots) (flow_id p.config.mask packet)) (sym is) ∙ h.its in
        record {
          stands = h.stands ∙ sym (stands-set k);
          pipe = y;
          there = ap (slice_get (set ps i y)) same ∙ get-set ps i y within;
          inside = omega (arith, within_too, ids.long);
          its = ap (λ m. instance_of (ids_of y.slots) (flow_id m packet)) mask ∙ ids.each (flow_id x.config.mask packet) j within_too its;
        }
    | inr differs ↦ record {
      stands = h.stands ∙ sym (stands-set k);
      pipe = h.pipe;
      there = get-other ps i place y differs ∙ h.there;
      inside = h.inside;
      its = h.its;
    }
  ]

  pub kept-set : KeepsPlaces ps (set ps i y)
  kept-set = record { places = stands-set; inside = inside-set; routes = route-set }

-- places, where others are shown alike
pos : {A : Type 0} → (A → Bool) → List A → ℕ
pos p [] = 0
pos p (x ∷ xs) = cond (p x) 0 (1 + pos p xs)

pos-is : {A : Type 0} (p : A → Bool) (xs : List A) → pos p xs ≡ position_or_len p xs
unfolding pos
pos-is p xs = is_position_or_len (pos p) p refl (λ x xs. refl) xs

pos-map : {A B : Type 0} (h : A → B) (p : A → Bool) (q : B → Bool) → ((a : A) → q (h a) ≡ p a) → (xs : List A) →
    pos q (map h xs) ≡ pos p xs
unfolding pos
pos-map h p q same [] = refl
pos-map h p q same (x ∷ xs) = λ t. cond (same x t) 0 (1 + pos-map h p q same xs t)

pol-map : {A B : Type 0} (h : A → B) (p : A → Bool) (q : B → Bool) → ((a : A) → q (h a) ≡ p a) → (xs : List A) →
    position_or_len q (map h xs) ≡ position_or_len p xs
pol-map h p q same xs = sym (pos-is q (map h xs)) ∙ pos-map h p q same xs ∙ pos-is p xs

number-seen : (f : ℕ → Packet) (k : ℕ) (ps : List KeyedPipe) →
    position (λ (s : PipeState). nat_eq s.number k) (seen_pipes f ps) ≡ position (has_number k) ps
number-seen f k ps =
    let same : position_or_len (λ (s : PipeState). nat_eq s.number k) (seen_pipes f ps) ≡ position_or_len (has_number k) ps =
    pol-map (seen_pipe f) (has_number k) (λ (s : PipeState). nat_eq s.number k) (λ p. refl) ps in
    λ t. cond (nat_lt (same t) (length-map ps (seen_pipe f) t)) (Some (same t)) None

module _ (f g : ℕ → Packet) (old new : List KeyedPipe) (same : seen_pipes g new ≡ seen_pipes f old) where
  stands-shown : (k : ℕ) → position (has_number k) new ≡ position (has_number k) old
  stands-shown k =
      sym (number-seen g k new) ∙ ap (position (λ (s : PipeState). nat_eq s.number k)) same ∙ number-seen f k old

  pipe-shown : (place : ℕ) (x : KeyedPipe) → slice_get old place ≡ Some x →
      (y : KeyedPipe) × (slice_get new place ≡ Some y) × (seen_pipe g y ≡ seen_pipe f x)
  pipe-shown place x e =
      unmapped (seen_pipe g) new place (seen_pipe f x)
      (ap (λ ss. slice_get ss place) same ∙ slice_get-map (seen_pipe f) old place ∙ ap (option_map (seen_pipe f)) e)

  long-shown : (x y : KeyedPipe) → seen_pipe g y ≡ seen_pipe f x → length y.slots ≡ length x.slots
  long-shown x y e =
      sym (length-map y.slots (seen_slot g)) ∙ ap (λ (s : PipeState). length s.instances) e ∙ length-map x.slots (seen_slot f)

  ids-shown : (x y : KeyedPipe) → seen_pipe g y ≡ seen_pipe f x → ids_of y.slots ≡ ids_of x.slots
  ids-shown x y e =
      sym (ids-seen g y.slots) ∙ ap (λ (s : PipeState). map (λ (i : Instance). i.id) s.instances) e ∙ ids-seen f x.slots

  inside-shown : (place j : ℕ) → IsInside place j old → IsInside place j new
  inside-shown place j h =
      let there = pipe-shown place h.pipe h.there in
      record { pipe = there.0; there = there.1; inside = omega (arith, h.inside, long-shown h.pipe there.0 there.2) }

  route-shown : (k : ℕ) (packet : Packet) (place j : ℕ) → IsRouted k packet place j old → IsRouted k packet place j new
  route-shown k packet place j h =
      let there = pipe-shown place h.pipe h.there in
      let mask = ap (λ (s : PipeState). s.config.mask) there.2 in
      record {
        stands = h.stands ∙ sym (stands-shown k);
        pipe = there.0;
        there = there.1;
        inside = omega (arith, h.inside, long-shown h.pipe there.0 there.2);
        its = (λ t. instance_of (ids-shown h.pipe there.0 there.2 t) (flow_id (mask t) packet)) ∙ h.its;
      }

  pub kept-shown : KeepsPlaces old new
  kept-shown = record { places = stands-shown; inside = inside-shown; routes = route-shown }

pub kept-grown : (old new : List KeyedPipe) → HasGrown old new → KeepsPlaces old new
kept-grown old new h =
    let f : ℕ → Packet = λ k. some_packet in kept-shown f f old new (h.shown f)

-- a pipe that keeps the room of each instance
pub rooms-set : (ps : List KeyedPipe) (i : ℕ) (x y : KeyedPipe) → i < length ps → x ≡ get_or ps i x →
    ((size j : ℕ) → HasRoomAtSlot size j x → HasRoomAtSlot size j y) → (size place j : ℕ) →
    HasRoomAtPlace size place j ps → HasRoomAtPlace size place j (set ps i y)
rooms-set ps i x y within read keeps size place j h = λ q e. elim (cases_eq place i) [
  | inl same ↦
      let is : y ≡ q = ap (λ o. unwrap_or o q) (sym (ap (slice_get (set ps i y)) same ∙ get-set ps i y within) ∙ e) in
      let was : HasRoomAtSlot size j x = h x (ap (slice_get ps) same ∙ get-there ps i x within read) in
      subst (λ (p : KeyedPipe). HasRoomAtSlot size j p) is (keeps size j was)
  | inr differs ↦ h q (sym (get-other ps i place y differs) ∙ e)
]

-- what is so of the pipe that stands there is so of each that does
pub room-there : (ps : List KeyedPipe) (i size j : ℕ) (x : KeyedPipe) → slice_get ps i ≡ Some x → HasRoomAtSlot size j x →
    HasRoomAtPlace size i j ps
room-there ps i size j x there h = λ q e.
    let is : x ≡ q = ap (λ o. unwrap_or o q) (sym there ∙ e) in
    subst (λ (p : KeyedPipe). HasRoomAtSlot size j p) is h

-- an instance by places
pub inside-within : (i j : ℕ) (ps : List KeyedPipe) → IsInside i j ps → i < length ps
inside-within i j ps h = slice_get_within ps i h.pipe h.there

pub inside-of : (i j : ℕ) (ps : List KeyedPipe) (x : KeyedPipe) → IsInside i j ps → x ≡ get_or ps i x → j < length x.slots
inside-of i j ps x h read =
    omega (arith, h.inside, ap (λ (p : KeyedPipe). length p.slots) (get-is ps i x h.pipe read h.there))

pub route-inside : (k : ℕ) (packet : Packet) (i j : ℕ) (ps : List KeyedPipe) → IsRouted k packet i j ps → IsInside i j ps
route-inside k packet i j ps h = record { pipe = h.pipe; there = h.there; inside = h.inside }

pub route-its : (k : ℕ) (packet : Packet) (i j : ℕ) (ps : List KeyedPipe) (x : KeyedPipe) → IsRouted k packet i j ps → x ≡ get_or ps i x →
    instance_of (ids_of x.slots) (flow_id x.config.mask packet) ≡ Some j
route-its k packet i j ps x h read =
    ap (λ (p : KeyedPipe). instance_of (ids_of p.slots) (flow_id p.config.mask packet)) (sym (get-is ps i x h.pipe read h.there)) ∙ h.its

-- where an instance has something to finish it is there
pub finishing-inside : (k i j now : ℕ) (ps : List KeyedPipe) → StandsAt k i ps → IsFinishing k j now ps → IsInside i j ps
finishing-inside k i j now [] at due = absurd (cc)
finishing-inside k i j now (p ∷ ps) at due =
    let x : KeyedPipe = get_or (p ∷ ps) i p in
    let within = stands-within k i (p ∷ ps) at in
    let there : slice_get (p ∷ ps) i ≡ Some x = slice_get-get_or (p ∷ ps) i p within in
    let read : x ≡ get_or (p ∷ ps) i x = sym (get_or_from_slice_get (p ∷ ps) i x x there) in
    let f : ℕ → Packet = λ k. some_packet in
    record {
      pipe = x;
      there = there;
      inside = omega (
        arith,
        finish-within (map (seen_slot f) x.slots) j now (finishing-at k j now (p ∷ ps) x (pipe-at k i (p ∷ ps) x at read) due f),
        length-map x.slots (seen_slot f),
      );
    }
  where
    finish-within : (is : List Instance) (k now : ℕ) →
        option_map (λ (s : InService Packet). s.period.finish) (option_and_then (λ (i : Instance). i.service) (slice_get is k)) ≡ Some now → k < length is
    finish-within [] k now e = absurd (cc)
    finish-within (i ∷ is) zero now e = omega arith
    finish-within (i ∷ is) (suc k) now e = omega (arith, finish-within is k now e)

-- where an instance has something that leaves it is there
pub leaving-inside : (k i j now : ℕ) (ps : List KeyedPipe) → StandsAt k i ps → IsLeaving k j now ps → IsInside i j ps
leaving-inside k i j now [] at due = absurd (cc)
leaving-inside k i j now (p ∷ ps) at due =
    let x : KeyedPipe = get_or (p ∷ ps) i p in
    let within = stands-within k i (p ∷ ps) at in
    let there : slice_get (p ∷ ps) i ≡ Some x = slice_get-get_or (p ∷ ps) i p within in
    let read : x ≡ get_or (p ∷ ps) i x = sym (get_or_from_slice_get (p ∷ ps) i x x there) in
    let f : ℕ → Packet = λ k. some_packet in
    record {
      pipe = x;
      there = there;
      inside = omega (
        arith,
        leave-within (map (seen_slot f) x.slots) j now (leaving-at k j now (p ∷ ps) x (pipe-at k i (p ∷ ps) x at read) due f),
        length-map x.slots (seen_slot f),
      );
    }
  where
    leave-within : (is : List Instance) (k now : ℕ) →
        option_and_then (λ (i : Instance). first_exit i.line.in_flight) (slice_get is k) ≡ Some now → k < length is
    leave-within [] k now e = absurd (cc)
    leave-within (i ∷ is) zero now e = omega arith
    leave-within (i ∷ is) (suc k) now e = omega (arith, leave-within is k now e)

-- an entry for each pipe, where one is put or goes
pub entries-insert : (k : ℕ) (new : KeyedPipe) (ps : List KeyedPipe) (t u : List (Option ℕ)) → AreLed ps t → length t ≤ length u →
    k < length u → new.number ≡ k → (i : ℕ) (q : KeyedPipe) →
    slice_get (insert ps (position_or_len (is_above k) ps) new) i ≡ Some q → q.number < length u
entries-insert k new ps t u h grows entry number i q e =
    let whole : slice_get (take (place k ps) ps ++ new ∷ drop (place k ps) ps) i ≡ Some q =
    ap (λ l. slice_get l i) (sym (insert-is ps k new)) ∙ e in
    elim (more-there (take (place k ps) ps) (drop (place k ps) ps) new q i whole) [
      | inl same ↦ omega (arith, entry, number, ap (λ (p : KeyedPipe). p.number) same)
      | inr there ↦
          omega (
            arith,
            grows,
            led-entry ps t there.0 q h (ap (λ l. slice_get l there.0) (sym (take-append-drop (place k ps) ps)) ∙ there.1),
          )
    ]

pub entries-remove : (k i : ℕ) (ps : List KeyedPipe) (x : KeyedPipe) → StandsAt k i ps → x ≡ get_or ps i x → (y : KeyedPipe)
    (t : List (Option ℕ)) → AreLed ps t → (j : ℕ) (q : KeyedPipe) → slice_get (remove (set ps i y) i) j ≡ Some q → q.number < length t
entries-remove k i ps x at read y t h j q e =
    let r = less-there (take i ps) (drop (suc i) ps) x q j (ap (λ l. slice_get l j) (sym (removed k i ps x at read y)) ∙ e) in
    led-entry ps t r.0 q h (ap (λ l. slice_get l r.0) (position-whole (has_number k) ps i x at read) ∙ r.1)
