-- A source that begins, and whether it may.
use Rattle.std.proofs.Common.{◌≡◌, ◌≢◌, ℕ, ◌+◌, ◌<◌, Bool, true, false, ◌||◌, ◌==◌, cond, List, [], ◌∷◌, ◌++◌, length, get_or, map, refl, sym, ◌∙◌, ap, subst, arith}
use Rattle.std.specs.Prelude.{Option, Some, None, is_some, position}
use Rattle.std.specs.List.{All, list_any}
use Rattle.std.proofs.lemmas.List.{map-append, length-map, length_push}
use Rattle.std.proofs.lemmas.List.Elements.{All-push, All-map, All-weaker}
use Rattle.std.proofs.lemmas.List.Quantifiers.{all_pairs_push}
use Rattle.std.proofs.lemmas.Bool.{eqb-false, or_parts, ltb-true}
use Rattle.emu_model.specs.declared.records.Refusal.TheVariants.{FlowThere, TooManyFlows}
use Rattle.emu_model.specs.Net.{Net, TrainState, initial_net}
use Rattle.emu_model.specs.Commands.{is_in_use}
use Rattle.sources.specs.Kept.{KeptFlow, KeptTraffic, with_traffic, IsFree, IsNumber, AreNumbers, IsSound}
use Rattle.sources.proofs.FirstPlaces.{any_position, absent, list_any-map}
use Rattle.sources.proofs.Changes.{kept, has_number, train_has_number}

-- a number in use, by its places
pub in_use : (k : ℕ) (t : KeptTraffic) (n : Net) →
    is_in_use k (with_traffic t n)
    ≡ (is_some (position (has_number k) t.flows) || is_some (position (train_has_number k) t.trains))
in_use k t n =
    let e = list_any-map (λ (f : KeptFlow). f.state) (λ s. s.number == k) t.flows ∙ any_position (has_number k) t.flows in
    ap (λ b. b || list_any (train_has_number k) t.trains) e
    ∙ ap (λ b. is_some (position (has_number k) t.flows) || b) (any_position (train_has_number k) t.trains)

-- what a free number tells
pub record IsNew (k : ℕ) (t : KeptTraffic) : Type 0 where
  pub flows : All (λ x. x ≢ k) (map (λ f. f.state.number) t.flows)
  pub trains : All (λ x. x ≢ k) (map (λ u. u.number) t.trains)
  pub few : length t.flows + length t.trains < 256

refused : (a b : Bool) → cond a (Some FlowThere) (cond b None (Some TooManyFlows)) ≡ None → (a ≡ false) × (b ≡ true)
refused true b e = absurd (cc)
refused false true e = (refl, refl)
refused false false e = absurd (cc)

pub IsNew-from_free : (k : ℕ) (t : KeptTraffic) → IsFree k t → IsNew k t
IsNew-from_free k t free =
    let parts = refused _ _ (free initial_net) in
    let apart = or_parts _ _ parts.0 in
    let flows : list_any (has_number k) t.flows ≡ false =
    sym (list_any-map (λ (f : KeptFlow). f.state) (λ s. s.number == k) t.flows) ∙ apart.0 in
    let few = ltb-true _ _ parts.1 in
    record {
      flows = All-map (λ x. x ≢ k) (λ (f : KeptFlow). f.state.number) t.flows
          (All-weaker (λ f. has_number k f ≡ false) (λ (f : KeptFlow). f.state.number ≢ k) (λ f e. eqb-false _ _ e) t.flows (absent (has_number k) t.flows flows));
      trains = All-map (λ x. x ≢ k) (λ (u : TrainState). u.number) t.trains
          (All-weaker (λ u. train_has_number k u ≡ false) (λ (u : TrainState). u.number ≢ k) (λ u e. eqb-false _ _ e) t.trains (absent (train_has_number k) t.trains apart.1));
      few = omega (arith, few, length-map t.flows (λ (f : KeptFlow). f.state));
    }

nowhere : (o : Option ℕ) → is_some o ≡ false → o ≡ None
nowhere None e = refl
nowhere (Some i) e = absurd (cc)

-- a free number leads to no flow and to no train
absent_places : (k : ℕ) (t : KeptTraffic) → IsFree k t →
    (position (has_number k) t.flows ≡ None) × (position (train_has_number k) t.trains ≡ None)
absent_places k t free =
    let parts = refused _ _ (free initial_net) in
    let apart = or_parts _ _ (sym (in_use k t initial_net) ∙ parts.0) in
    (nowhere _ apart.0, nowhere _ apart.1)

pub no_flow_there : (k : ℕ) (t : KeptTraffic) (fs : List KeptFlow) (ts : List TrainState) → kept fs ts ≡ t → IsFree k t →
    position (has_number k) fs ≡ None
no_flow_there k t fs ts is free = (absent_places k (kept fs ts) (subst (λ t. IsFree k t) (sym is) free)).0

pub no_train_there : (k : ℕ) (t : KeptTraffic) (fs : List KeptFlow) (ts : List TrainState) → kept fs ts ≡ t → IsFree k t →
    position (train_has_number k) ts ≡ None
no_train_there k t fs ts is free = (absent_places k (kept fs ts) (subst (λ t. IsFree k t) (sym is) free)).1

numbers_flow : (k : ℕ) (xs ys : List ℕ) → AreNumbers xs ys → IsNumber k → All (λ x. x ≢ k) xs → All (λ y. y ≢ k) ys →
    length xs + length ys < 256 → AreNumbers (xs ++ k ∷ []) ys
numbers_flow k xs ys h fits xs_new ys_new few = record {
  flows = all_pairs_push (λ x y. x ≢ y) xs k h.flows (λ i d l. xs_new i d l);
  trains = h.trains;
  apart = All-push (λ x. All (λ y. x ≢ y) ys) xs k h.apart (λ i d l e. ys_new i d l (sym e));
  flows_fit = All-push IsNumber xs k h.flows_fit fits;
  trains_fit = h.trains_fit;
  few = omega (arith, length_push xs k, few);
}

numbers_train : (k : ℕ) (xs ys : List ℕ) → AreNumbers xs ys → IsNumber k → All (λ x. x ≢ k) xs → All (λ y. y ≢ k) ys →
    length xs + length ys < 256 → AreNumbers xs (ys ++ k ∷ [])
numbers_train k xs ys h fits xs_new ys_new few = record {
  flows = h.flows;
  trains = all_pairs_push (λ x y. x ≢ y) ys k h.trains (λ i d l. ys_new i d l);
  apart = λ i d l. All-push (λ y. get_or xs i d ≢ y) ys k (h.apart i d l) (xs_new i d l);
  flows_fit = h.flows_fit;
  trains_fit = All-push IsNumber ys k h.trains_fit fits;
  few = omega (arith, length_push ys k, few);
}

pub sound_with_flow : (k : ℕ) (t : KeptTraffic) (fs : List KeptFlow) (ts : List TrainState) (g : KeptFlow) →
    kept fs ts ≡ t → IsFree k t → IsSound fs ts → IsNumber k → g.state.number ≡ k → IsSound (fs ++ g ∷ []) ts
sound_with_flow k t fs ts g is free h fits e =
    let new = IsNew-from_free k (kept fs ts) (subst (λ t. IsFree k t) (sym is) free) in
    let num = λ (f : KeptFlow). f.state.number in
    let same : map num (fs ++ g ∷ []) ≡ map num fs ++ k ∷ [] =
    map-append num fs (g ∷ []) ∙ ap (λ j. map num fs ++ j ∷ []) e in
    subst (λ xs. AreNumbers xs (map (λ u. u.number) ts)) (sym same)
    (numbers_flow k _ _ h fits new.flows new.trains
    (omega (arith, new.few, length-map fs num, length-map ts (λ (u : TrainState). u.number))))

pub sound_with_train : (k : ℕ) (t : KeptTraffic) (fs : List KeptFlow) (ts : List TrainState) (v : TrainState) →
    kept fs ts ≡ t → IsFree k t → IsSound fs ts → IsNumber k → v.number ≡ k → IsSound fs (ts ++ v ∷ [])
sound_with_train k t fs ts v is free h fits e =
    let new = IsNew-from_free k (kept fs ts) (subst (λ t. IsFree k t) (sym is) free) in
    let num = λ (u : TrainState). u.number in
    let same : map num (ts ++ v ∷ []) ≡ map num ts ++ k ∷ [] =
    map-append num ts (v ∷ []) ∙ ap (λ j. map num ts ++ j ∷ []) e in
    subst (λ ys. AreNumbers (map (λ f. f.state.number) fs) ys) (sym same)
    (numbers_train k _ _ h fits new.flows new.trains
    (omega (arith, new.few, length-map fs (λ (f : KeptFlow). f.state.number), length-map ts num)))
