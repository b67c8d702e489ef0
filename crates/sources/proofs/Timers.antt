-- Timers that are told late.
use Rattle.std.proofs.Common.{◌≡◌, ◌≢◌, ℕ, zero, suc, ◌+◌, ◌<◌, Bool, true, false, ◌==◌, cond, List, [], ◌∷◌, ◌++◌, length, get_or, map, set, refl, sym, ap, subst, ◌∙◌, arith, eq-eqb, inl, inr}
use Rattle.std.specs.Prelude.{◌⊎◌, Option, Some, None, IfSome, option_map}
use Rattle.std.specs.Option.{option_map_or}
use Rattle.std.proofs.lemmas.Bool.{cases_Bool, both_ways}
use Rattle.std.proofs.lemmas.List.{length-map, set-get_or}
use Rattle.std.proofs.Math.ListN.{get_or-map}
use Rattle.emu_model.specs.declared.sources.Due.{Due}
use Rattle.emu_model.specs.declared.sources.Class.{Class}
use Rattle.emu_model.specs.declared.sources.Class.TheVariants.{Expiry}
use Rattle.emu_model.specs.Net.{FlowState}
use Rattle.emu_model.specs.Dues.{is_before, due, rank}
use Rattle.due_index.specs.Least.{lesser}
use Rattle.due_index.proofs.CallerLemmas.{is_before-order, same_due, least_leaf, lesser-assoc, lesser-comm, lesser-none, lesser-swap}
use Rattle.sources.specs.Kept.{KeptFlow}
use Rattle.sources.specs.Numbers.{flag}
use Rattle.sources.specs.Leaves.{expiry_due, IsTold, AreTold}

-- ---- the lesser of two

pub lesser-same : (o : Option Due) → lesser o o ≡ o
lesser-same None = refl
lesser-same (Some d) = by (is_before d d)
  where
    by : (b : Bool) → Some (cond b d d) ≡ Some d
    by true = refl
    by false = refl

pub lesser-both : (P : Due → Type 0) (a b : Option Due) → IfSome a P → IfSome b P → IfSome (lesser a b) P
lesser-both P None b h k = k
lesser-both P (Some a) None h k = h
lesser-both P (Some a) (Some b) h k = by (is_before b a)
  where
    by : (c : Bool) → P (cond c b a)
    by true = k
    by false = h

-- one of the two
lesser-cases : (a b : Option Due) → (lesser a b ≡ a) ⊎ (lesser a b ≡ b)
lesser-cases None b = inr refl
lesser-cases (Some a) None = inl refl
lesser-cases (Some a) (Some b) = by (is_before b a)
  where
    by : (c : Bool) → (Some (cond c b a) ≡ Some a) ⊎ (Some (cond c b a) ≡ Some b)
    by true = inr refl
    by false = inl refl

-- ---- what is told, flow by flow

timer_class : (s : FlowState) → IfSome (expiry_due s) (λ d. d.source.class ≡ Expiry)
timer_class s = by s.stopped s.sender.timer
  where
    by : (b : Bool) (o : Option ℕ) → IfSome (cond b None (option_map (due Expiry s.number) o)) (λ d. d.source.class ≡ Expiry)
    by true o = tt
    by false None = tt
    by false (Some m) = refl

timer_number : (s : FlowState) → IfSome (expiry_due s) (λ d. d.source.number ≡ s.number)
timer_number s = by s.stopped s.sender.timer
  where
    by : (b : Bool) (o : Option ℕ) → IfSome (cond b None (option_map (due Expiry s.number) o)) (λ d. d.source.number ≡ s.number)
    by true o = tt
    by false None = tt
    by false (Some m) = refl

renumbered : (o : Option Due) (j k : ℕ) → j ≡ k → IfSome o (λ d. d.source.number ≡ j) → IfSome o (λ d. d.source.number ≡ k)
renumbered o j k e h = subst (λ n. IfSome o (λ d. d.source.number ≡ n)) e h

-- a timer told right
pub told_right : (f : KeptFlow) → IsTold (expiry_due f.state) f
told_right f = record {
  class = timer_class f.state;
  number = timer_number f.state;
  early = lesser-same (expiry_due f.state);
}

-- a flow's timer is set: what is told stays, or the timer comes earlier
pub told_lesser : (o : Option Due) (f g : KeptFlow) → IsTold o f → g.state.number ≡ f.state.number →
    IsTold (lesser o (expiry_due g.state)) g
told_lesser o f g h e =
    let x = expiry_due g.state in
    record {
      class = lesser-both (λ d. d.source.class ≡ Expiry) o x h.class (timer_class g.state);
      number = lesser-both (λ d. d.source.number ≡ g.state.number) o x
          (renumbered o f.state.number g.state.number (sym e) h.number) (timer_number g.state);
      early = lesser-assoc o x x ∙ ap (lesser o) (lesser-same x);
    }

pub told_length : (os : List (Option Due)) (fs : List KeptFlow) → AreTold os fs → length os ≡ length fs
told_length [] [] h = refl
told_length (o ∷ os) (f ∷ fs) h = ap suc (told_length os fs h.1)
told_length [] (f ∷ fs) h = absurd h
told_length (o ∷ os) [] h = absurd h

pub told_at : (os : List (Option Due)) (fs : List KeptFlow) (i : ℕ) (f : KeptFlow) (d : Option Due) → AreTold os fs →
    i < length fs → f ≡ get_or fs i f → IsTold (get_or os i d) f
told_at [] [] i f d h l at = absurd (omega (arith, l))
told_at (o ∷ os) (g ∷ fs) zero f d h l at = subst (IsTold o) (sym at) h.0
told_at (o ∷ os) (g ∷ fs) (suc i) f d h l at = told_at os fs i f d h.1 (omega (arith, l)) at
told_at [] (g ∷ fs) i f d h l at = absurd h
told_at (o ∷ os) [] i f d h l at = absurd h

pub told_set : (os : List (Option Due)) (fs : List KeptFlow) (i : ℕ) (o : Option Due) (g : KeptFlow) → AreTold os fs →
    IsTold o g → AreTold (set os i o) (set fs i g)
told_set [] [] i o g h new = tt
told_set (x ∷ os) (f ∷ fs) zero o g h new = (new, h.1)
told_set (x ∷ os) (f ∷ fs) (suc i) o g h new = (h.0, told_set os fs i o g h.1 new)
told_set [] (f ∷ fs) i o g h new = absurd h
told_set (x ∷ os) [] i o g h new = absurd h

pub told_push : (os : List (Option Due)) (fs : List KeptFlow) (o : Option Due) (g : KeptFlow) → AreTold os fs →
    IsTold o g → AreTold (os ++ o ∷ []) (fs ++ g ∷ [])
told_push [] [] o g h new = (new, tt)
told_push (x ∷ os) (f ∷ fs) o g h new = (h.0, told_push os fs o g h.1 new)
told_push [] (f ∷ fs) o g h new = absurd h
told_push (x ∷ os) [] o g h new = absurd h

-- a flow changed, and what is told of it with it
pub told_changed : (os new : List (Option Due)) (fs : List KeptFlow) (i : ℕ) (f g : KeptFlow) → AreTold os fs →
    i < length fs → f ≡ get_or fs i f → g.state.number ≡ f.state.number →
    new ≡ set os i (lesser (get_or os i None) (expiry_due g.state)) → AreTold new (set fs i g)
told_changed os new fs i f g h l at e is =
    subst (λ xs. AreTold xs (set fs i g)) (sym is)
    (told_set os fs i (lesser (get_or os i None) (expiry_due g.state)) g h
    (told_lesser (get_or os i None) f g (told_at os fs i f None h l at) e))

abbrev pub timers : List KeptFlow → List (Option Due)
timers fs = map (λ f. expiry_due f.state) fs

-- ---- the first that is told, and the first timer

told_least : (os : List (Option Due)) (fs : List KeptFlow) → AreTold os fs →
    lesser (least_leaf os) (least_leaf (timers fs)) ≡ least_leaf os
told_least [] [] h = refl
told_least (o ∷ os) (f ∷ fs) h =
    lesser-swap o (least_leaf os) (expiry_due f.state) (least_leaf (timers fs))
    ∙ (λ t. lesser (h.0.early t) (told_least os fs h.1 t))
told_least [] (f ∷ fs) h = absurd h
told_least (o ∷ os) [] h = absurd h

told_class : (os : List (Option Due)) (fs : List KeptFlow) → AreTold os fs → IfSome (least_leaf os) (λ d. d.source.class ≡ Expiry)
told_class [] [] h = tt
told_class (o ∷ os) (f ∷ fs) h =
    lesser-both (λ d. d.source.class ≡ Expiry) o (least_leaf os) h.0.class (told_class os fs h.1)
told_class [] (f ∷ fs) h = absurd h
told_class (o ∷ os) [] h = absurd h

abbrev pub is_expiry : Option Due → Bool
is_expiry o = option_map_or (λ d. rank d.source.class == 3) o false

no_expiry : (o : Option Due) → IfSome o (λ d. d.source.class ≡ Expiry) → is_expiry o ≡ false → o ≡ None
no_expiry None h e = refl
no_expiry (Some d) h e =
    absurd (both_ways _ e (ap (λ (c : Class). rank c == 3) h ∙ eq-eqb 3 3 refl))

-- what is no timer is the least
pub no_timer_first : (os : List (Option Due)) (fs : List KeptFlow) (best sends : Option Due) → AreTold os fs →
    is_expiry (lesser (lesser best (least_leaf os)) sends) ≡ false →
    lesser (lesser best (least_leaf os)) sends ≡ lesser (lesser best (least_leaf (timers fs))) sends
no_timer_first os fs best sends h e =
    let t = least_leaf os in
    let x = least_leaf (timers fs) in
    let r = lesser best sends in
    let last : (y : Option Due) → lesser (lesser best y) sends ≡ lesser r y =
    λ y. lesser-assoc best y sends ∙ ap (lesser best) (lesser-comm y sends) ∙ sym (lesser-assoc best sends y) in
    let rest : lesser r t ≡ r = elim (lesser-cases r t) [
      | inl k ↦ k
      | inr k ↦
          let none = no_expiry t (told_class os fs h) (ap is_expiry (sym k ∙ sym (last t)) ∙ e) in
          ap (lesser r) none ∙ lesser-none r
    ] in
    last t
    ∙ ap (lesser r) (sym (told_least os fs h))
    ∙ sym (lesser-assoc r t x)
    ∙ ap (λ y. lesser y x) rest
    ∙ sym (last x)

-- where nothing is told, no timer runs
pub none_told : (os : List (Option Due)) (fs : List KeptFlow) → AreTold os fs → least_leaf os ≡ None →
    least_leaf os ≡ least_leaf (timers fs)
none_told os fs h e =
    e ∙ sym (ap (λ o. lesser o (least_leaf (timers fs))) (sym e) ∙ told_least os fs h ∙ e)

leaf_member : (os : List (Option Due)) (i : ℕ) (d : Option Due) → i < length os →
    lesser (least_leaf os) (get_or os i d) ≡ least_leaf os
leaf_member [] i d l = absurd (omega (arith, l))
leaf_member (o ∷ os) zero d l =
    lesser-comm (lesser o (least_leaf os)) o ∙ sym (lesser-assoc o o (least_leaf os))
    ∙ ap (λ x. lesser x (least_leaf os)) (lesser-same o)
leaf_member (o ∷ os) (suc i) d l =
    lesser-assoc o (least_leaf os) (get_or os i d) ∙ ap (lesser o) (leaf_member os i d (omega (arith, l)))

-- a flow whose timer is as the first that is told
pub first_right : (os : List (Option Due)) (fs : List KeptFlow) (i : ℕ) (f : KeptFlow) → AreTold os fs →
    i < length fs → f ≡ get_or fs i f → expiry_due f.state ≡ least_leaf os →
    least_leaf os ≡ least_leaf (timers fs)
first_right os fs i f h l at e =
    let x = least_leaf (timers fs) in
    let timer : get_or (timers fs) i None ≡ least_leaf os =
    by (timers fs) i (expiry_due f.state) (get_or-map (λ (f : KeptFlow). expiry_due f.state) fs i f
    ∙ ap (λ (f : KeptFlow). expiry_due f.state) (sym at))
    (omega (arith, l, length-map fs (λ (f : KeptFlow). expiry_due f.state))) ∙ e in
    sym (told_least os fs h) ∙ lesser-comm (least_leaf os) x
    ∙ ap (lesser x) (sym timer)
    ∙ leaf_member (timers fs) i None (omega (arith, l, length-map fs (λ (f : KeptFlow). expiry_due f.state)))
  where
    by : (xs : List (Option Due)) (i : ℕ) (d : Option Due) → get_or xs i d ≡ d → i < length xs → get_or xs i None ≡ d
    by [] i d e l = absurd (omega (arith, l))
    by (x ∷ xs) zero d e l = e
    by (x ∷ xs) (suc i) d e l = by xs i d e (omega (arith, l))

-- where the first that is told stands
pub leaf_place : (os : List (Option Due)) (d : Due) → least_leaf os ≡ Some d →
    (i : ℕ) × (i < length os) × (get_or os i None ≡ Some d)
leaf_place [] d e = absurd (cc)
leaf_place (o ∷ os) d e = elim (lesser-cases o (least_leaf os)) [
  | inl k ↦ (0, omega arith, sym k ∙ e)
  | inr k ↦
      let rest = leaf_place os d (sym k ∙ e) in
      (suc rest.0, omega (arith, rest.1), rest.2)
]

-- ---- how many timers are told late

abbrev comes_before : Option Due → Option Due → Bool
comes_before None t = false
comes_before (Some a) None = true
comes_before (Some a) (Some b) = is_before a b

not_before : (o : Option Due) → comes_before o o ≡ false
not_before None = refl
not_before (Some d) = elim (cases_Bool (is_before d d)) [
  | inl t ↦ is_before-order.one_way d d t
  | inr f ↦ f
]

strictly : (o x : Option Due) → lesser o x ≡ o → x ≢ o → comes_before o x ≡ true
strictly None x e ne = absurd (ne e)
strictly (Some a) None e ne = refl
strictly (Some a) (Some b) e ne = elim (cases_Bool (is_before a b)) [
  | inl t ↦ t
  | inr f ↦ elim (cases_Bool (is_before b a)) [
    | inl t ↦ absurd (ne (sym (ap (λ c. Some (cond c b a)) t) ∙ e))
    | inr g ↦ absurd (ne (ap Some (same_due b a g f)))
  ]
]

abbrev pub late : List (Option Due) → List KeptFlow → ℕ
late [] fs = 0
late (o ∷ os) [] = 0
late (o ∷ os) (f ∷ fs) = flag (comes_before o (expiry_due f.state)) + late os fs

-- one that is told right from now on
pub late_less : (os : List (Option Due)) (fs : List KeptFlow) (i : ℕ) (f : KeptFlow) (x : Option Due) → AreTold os fs →
    i < length fs → f ≡ get_or fs i f → x ≡ expiry_due f.state → x ≢ get_or os i None →
    late (set os i x) fs < late os fs
late_less [] [] i f x h l at is ne = absurd (omega (arith, l))
late_less (o ∷ os) (g ∷ fs) zero f x h l at is ne =
    let own : x ≡ expiry_due g.state = is ∙ ap (λ (f : KeptFlow). expiry_due f.state) at in
    let new : flag (comes_before x (expiry_due g.state)) ≡ 0 =
    ap (λ y. flag (comes_before x y)) (sym own) ∙ ap flag (not_before x) in
    let old : flag (comes_before o (expiry_due g.state)) ≡ 1 =
    ap flag (strictly o (expiry_due g.state) h.0.early (λ e. ne (own ∙ e))) in
    omega (arith, new, old)
late_less (o ∷ os) (g ∷ fs) (suc i) f x h l at is ne =
    let rest = late_less os fs i f x h.1 (omega (arith, l)) at is ne in omega (arith, rest)
late_less [] (g ∷ fs) i f x h l at is ne = absurd h
late_less (o ∷ os) [] i f x h l at is ne = absurd h

pub told_settled : (os : List (Option Due)) (fs : List KeptFlow) (i : ℕ) (f : KeptFlow) (x : Option Due) → AreTold os fs →
    f ≡ get_or fs i f → x ≡ expiry_due f.state → AreTold (set os i x) fs
told_settled os fs i f x h at is =
    let same : set fs i f ≡ fs = ap (set fs i) at ∙ set-get_or fs i f in
    subst (AreTold (set os i x)) same
    (told_set os fs i x f h (subst (λ x. IsTold x f) (sym is) (told_right f)))
