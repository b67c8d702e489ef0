-- What the index tells as one flow changes, or comes behind all others.
use Rattle.std.proofs.Common.{◌≡◌, ◌≢◌, ℕ, zero, suc, ◌<◌, Bool, true, false, ◌&&◌, ◌||◌, ◌==◌, cond, List, [], ◌∷◌, ◌++◌, length, get_or, map, set, refl, sym, ap, subst, ◌∙◌, arith, eq-eqb, inl, inr}
use Rattle.std.specs.Prelude.{None, IfSome}
use Rattle.std.specs.List.{All, list_any}
use Rattle.std.proofs.Math.ListN.{get_or-map}
use Rattle.std.proofs.lemmas.Bool.{cases_Bool, cases_eq, cases_lt, ne_eqb}
use Rattle.std.proofs.lemmas.List.{length-map, length-set, get_or-set_same, get_or-set_other, set-get_or}
use Rattle.std.proofs.lemmas.List.Folds.{list_any-append, list_any_none, list_any_at}
use Rattle.std.proofs.lemmas.List.Elements.{All-set, All-push, All-weaker}
use Rattle.emu_model.specs.Net.{TrainState}
use Rattle.due_index.specs.Least.{lesser}
use Rattle.sources.specs.declared.index.SourceIndex.{SourceIndex}
use Rattle.sources.specs.Kept.{KeptFlow, AreDifferent}
use Rattle.sources.specs.Sends.{may_send}
use Rattle.sources.specs.Numbers.{is_in, IsWhole, HasEntry}
use Rattle.sources.specs.Leaves.{expiry_due, is_sending, IsTold, AreTold, AreIndexed}
use Rattle.sources.proofs.Timers.{told_changed, told_push, told_right, told_at, told_set}

abbrev number_of : KeptFlow → ℕ
number_of f = f.state.number

abbrev sends : ℕ → KeptFlow → Bool
sends k f = f.state.number == k && may_send f.state

list_any-set : {X : Type 0} (p : X → Bool) (xs : List X) (i : ℕ) (x y : X) → x ≡ get_or xs i x → p y ≡ p x →
    list_any p (set xs i y) ≡ list_any p xs
list_any-set p [] i x y at e = refl
list_any-set p (z ∷ xs) zero x y at e = ap (λ b. b || list_any p xs) (e ∙ ap p at)
list_any-set p (z ∷ xs) (suc i) x y at e = ap (λ b. p z || b) (list_any-set p xs i x y at e)

-- two places have two numbers
pub apart : (fs : List KeptFlow) (i j : ℕ) (d : KeptFlow) → AreDifferent (map number_of fs) → i < length fs →
    j < length fs → i ≢ j → (get_or fs i d).state.number ≢ (get_or fs j d).state.number
apart fs i j d h li lj ne e =
    let long = length-map fs number_of in
    let one : get_or (map number_of fs) i (number_of d) ≡ number_of (get_or fs i d) = get_or-map number_of fs i d in
    let other : get_or (map number_of fs) j (number_of d) ≡ number_of (get_or fs j d) = get_or-map number_of fs j d in
    let same : get_or (map number_of fs) i (number_of d) ≡ get_or (map number_of fs) j (number_of d) =
    one ∙ e ∙ sym other in
    elim (cases_lt i j) [
      | inl l ↦ h i j (number_of d) l (omega (arith, lj, long)) same
      | inr l ↦
          let less : j < i = omega (arith, l, ne) in
          h j i (number_of d) less (omega (arith, li, long)) (sym same)
    ]

all_but : (k : ℕ) (fs : List KeptFlow) (i : ℕ) (f g : KeptFlow) → AreDifferent (map number_of fs) → i < length fs →
    f ≡ get_or fs i f → k ≡ f.state.number → sends k g ≡ false → All (λ x. sends k x ≡ false) (set fs i g)
all_but k fs i f g h l at e fails = λ j d within. elim (cases_eq j i) [
  | inl same ↦
      ap (λ n. sends k (get_or (set fs i g) n d)) same ∙ ap (sends k) (get_or-set_same fs i g d l) ∙ fails
  | inr ne ↦
      let lj : j < length fs = omega (arith, within, length-set fs i g) in
      let here : number_of (get_or fs i d) ≡ k = ap number_of (from_at fs i f d l at) ∙ sym e in
      ap (sends k) (get_or-set_other fs i j g d ne)
      ∙ ap (λ b. b && may_send (get_or fs j d).state)
      (ne_eqb (number_of (get_or fs j d)) k (λ q. apart fs j i d h lj l ne (q ∙ sym here)))
]
  where
    from_at : (xs : List KeptFlow) (i : ℕ) (x d : KeptFlow) → i < length xs → x ≡ get_or xs i x → get_or xs i d ≡ x
    from_at [] i x d l at = absurd (omega (arith, l))
    from_at (y ∷ xs) zero x d l at = sym at
    from_at (y ∷ xs) (suc i) x d l at = from_at xs i x d (omega (arith, l)) at

pub sending_changed : (k : ℕ) (fs : List KeptFlow) (i : ℕ) (f g : KeptFlow) → AreDifferent (map number_of fs) →
    i < length fs → f ≡ get_or fs i f → g.state.number ≡ f.state.number →
    cond (k == g.state.number) (may_send g.state) (is_sending k fs) ≡ is_sending k (set fs i g)
sending_changed k fs i f g h l at e = elim (cases_eq k g.state.number) [
  | inl same ↦
      let own : sends k g ≡ may_send g.state =
      ap (λ b. b && may_send g.state) (eq-eqb g.state.number k (sym same)) in
      ap (λ b. cond b (may_send g.state) (is_sending k fs)) (eq-eqb k g.state.number same)
      ∙ (elim (cases_Bool (may_send g.state)) [
        | inl t ↦
            t ∙ sym (list_any_at (sends k) (set fs i g) i g (omega (arith, l, length-set fs i g))
            (ap (sends k) (get_or-set_same fs i g g l) ∙ own ∙ t))
        | inr n ↦
            n ∙ sym (list_any_none (sends k) (set fs i g) (all_but k fs i f g h l at (same ∙ e) (own ∙ n)))
      ])
  | inr ne ↦
      let not_g : sends k g ≡ false = ap (λ b. b && may_send g.state) (ne_eqb g.state.number k (λ q. ne (sym q))) in
      let not_f : sends k f ≡ false =
      ap (λ b. b && may_send f.state) (ne_eqb f.state.number k (λ q. ne (sym (e ∙ q)))) in
      ap (λ b. cond b (may_send g.state) (is_sending k fs)) (ne_eqb k g.state.number ne)
      ∙ sym (list_any-set (sends k) fs i f g at (not_g ∙ sym not_f))
]

-- the index after a change of a flow
pub indexed_changed : (fs : List KeptFlow) (ts : List TrainState) (x y : SourceIndex) (i : ℕ) (f g : KeptFlow) →
    AreIndexed fs ts x → AreDifferent (map number_of fs) → i < length fs → f ≡ get_or fs i f →
    g.state.number ≡ f.state.number →
    y.timers.leaves ≡ set x.timers.leaves i (lesser (get_or x.timers.leaves i None) (expiry_due g.state)) →
    ((k : ℕ) → is_in y.ready k ≡ cond (k == g.state.number) (may_send g.state) (is_in x.ready k)) →
    IsWhole y.ready → length y.ready.words.items ≡ length x.ready.words.items →
    y.packets.leaves ≡ x.packets.leaves → AreIndexed (set fs i g) ts y
indexed_changed fs ts x y i f g h different l at e timers ready whole long packets =
    let kept : All (λ f. HasEntry f.state.number y.ready) fs =
    All-weaker (λ (f : KeptFlow). HasEntry f.state.number x.ready) (λ (f : KeptFlow). HasEntry f.state.number y.ready)
    (λ f q. omega (arith, q, long)) fs h.entries in
    let own : HasEntry g.state.number y.ready =
    subst (λ n. HasEntry n y.ready) (ap number_of (sym at) ∙ sym e) (kept i f l) in
    record {
      timers = told_changed x.timers.leaves y.timers.leaves fs i f g h.timers l at e timers;
      whole = whole;
      sending = λ k. ready k
          ∙ ap (cond (k == g.state.number) (may_send g.state)) (h.sending k)
          ∙ sending_changed k fs i f g different l at e;
      entries = All-set (λ (f : KeptFlow). HasEntry f.state.number y.ready) fs i g own kept;
      packets = packets ∙ h.packets;
    }

swapped : (a b c : Bool) → ((a && b) || c) ≡ (c || ((a && b) || false))
swapped true true true = refl
swapped true true false = refl
swapped true false true = refl
swapped true false false = refl
swapped false b true = refl
swapped false b false = refl

-- the index with one flow more
pub indexed_more : (fs : List KeptFlow) (ts : List TrainState) (x y : SourceIndex) (g : KeptFlow) →
    AreIndexed fs ts x → HasEntry g.state.number x.ready →
    y.timers.leaves ≡ x.timers.leaves ++ expiry_due g.state ∷ [] →
    ((k : ℕ) → is_in y.ready k ≡ ((g.state.number == k && may_send g.state) || is_in x.ready k)) →
    IsWhole y.ready → length y.ready.words.items ≡ length x.ready.words.items →
    y.packets.leaves ≡ x.packets.leaves → AreIndexed (fs ++ g ∷ []) ts y
indexed_more fs ts x y g h entry timers ready whole long packets =
    let kept : All (λ f. HasEntry f.state.number y.ready) fs =
    All-weaker (λ (f : KeptFlow). HasEntry f.state.number x.ready) (λ (f : KeptFlow). HasEntry f.state.number y.ready)
    (λ f q. omega (arith, q, long)) fs h.entries in
    record {
      timers = subst (λ os. AreTold os (fs ++ g ∷ [])) (sym timers)
          (told_push x.timers.leaves fs (expiry_due g.state) g h.timers (told_right g));
      whole = whole;
      sending = λ k. ready k
          ∙ ap (λ b. sends k g || b) (h.sending k)
          ∙ swapped (g.state.number == k) (may_send g.state) (is_sending k fs)
          ∙ sym (list_any-append (sends k) fs (g ∷ []));
      entries = All-push (λ (f : KeptFlow). HasEntry f.state.number y.ready) fs g kept (omega (arith, entry, long));
      packets = packets ∙ h.packets;
    }

-- a flow of which nothing that is due has changed
pub flow_as_before : (fs : List KeptFlow) (ts : List TrainState) (x : SourceIndex) (i : ℕ)
    (f g : KeptFlow) → AreIndexed fs ts x → i < length fs →
    f ≡ get_or fs i f → expiry_due g.state ≡ expiry_due f.state →
    may_send g.state ≡ may_send f.state → g.state.number ≡ f.state.number →
    AreIndexed (set fs i g) ts x
flow_as_before fs ts x i f g h l at timer may number =
    let told = told_at x.timers.leaves fs i f None h.timers l at in
    let same : set x.timers.leaves i (get_or x.timers.leaves i None) ≡ x.timers.leaves =
    set-get_or x.timers.leaves i None in
    let new : IsTold (get_or x.timers.leaves i None) g = record {
      class = told.class;
      number = subst (λ n. IfSome (get_or x.timers.leaves i None) (λ d. d.source.number ≡ n)) (sym number) told.number;
      early = ap (lesser (get_or x.timers.leaves i None)) timer ∙ told.early;
    } in
    record {
      timers = subst (λ os. AreTold os (set fs i g)) same (told_set x.timers.leaves fs i _ g h.timers new);
      whole = h.whole;
      sending = λ k. h.sending k
          ∙ sym (list_any-set (sends k) fs i f g at (λ t. (number t == k) && may t));
      entries = All-set (λ (f : KeptFlow). HasEntry f.state.number x.ready) fs i g
          (subst (λ n. HasEntry n x.ready) (ap number_of (sym at) ∙ sym number) (h.entries i f l)) h.entries;
      packets = h.packets;
    }
