-- What one changed flow or train leaves of a net.
use Rattle.std.proofs.Common.{◌≡◌, ℕ, zero, suc, ◌<◌, ◌≤◌, ◌==◌, Bool, true, false, nat_lt, cond, List, [], ◌∷◌, length, get_or, set, map, sym, ◌∙◌, ap, subst, arith}
use Rattle.std.specs.Prelude.{Option, Some, None, option_map, position, find}
use Rattle.std.specs.Option.{option_map_or}
use Rattle.std.proofs.lemmas.Bool.Decides.{nat_tests}
use Rattle.std.proofs.Math.ListN.{get_or-map}
use Rattle.std.proofs.lemmas.List.{map-set, set-get_or}
use Rattle.std.proofs.lemmas.List.Folds.{find-set}
use Rattle.std.proofs.lemmas.Bool.{eqb-true, eq-eqb}
use Rattle.emu_model.specs.Net.{Net, FlowState, TrainState, find_flow, put_flow, find_train, put_train}
use Rattle.emu_model.specs.Lists.{replace_first}
use Rattle.sources.specs.Kept.{KeptFlow, KeptTraffic, states_of, with_traffic, AreNumbers, IsSound}
use Rattle.sources.proofs.FirstPlaces.{IsPlace, place_from_some, past_from_none, find_place, passes_place, find_past_all, replace_place, find-map, replace_first-map}

abbrev pub has_number : ℕ → KeptFlow → Bool
has_number k f = f.state.number == k

abbrev pub train_has_number : ℕ → TrainState → Bool
train_has_number k t = t.number == k

abbrev pub kept : List KeptFlow → List TrainState → KeptTraffic
kept fs ts = record { flows = fs; trains = ts }

-- flow k of t stands at place i of fs
pub record IsFlowAt (k : ℕ) (t : KeptTraffic) (fs : List KeptFlow) (ts : List TrainState) (i : ℕ) (f : KeptFlow) : Type 0 where
  pub within : i < length fs
  pub number : f.state.number ≡ k
  pub first : find (has_number k) t.flows ≡ Some f
  pub found : (n : Net) → find_flow k (with_traffic t n) ≡ Some f.state
  pub put : (g : KeptFlow) (n : Net) → g.state.number ≡ k → put_flow g.state (with_traffic t n) ≡ with_traffic (kept (set fs i g) ts) n
  pub still : (g : KeptFlow) (n : Net) → g.state ≡ f.state → with_traffic (kept (set fs i g) ts) n ≡ with_traffic t n
  pub after : (g : KeptFlow) → g.state.number ≡ k → find (has_number k) (set fs i g) ≡ Some g

pub record IsTrainAt (k : ℕ) (t : KeptTraffic) (fs : List KeptFlow) (ts : List TrainState) (i : ℕ) (u : TrainState) : Type 0 where
  pub within : i < length ts
  pub number : u.number ≡ k
  pub found : (n : Net) → find_train k (with_traffic t n) ≡ Some u
  pub put : (v : TrainState) (n : Net) → v.number ≡ k → put_train v (with_traffic t n) ≡ with_traffic (kept fs (set ts i v)) n

put_states : (k : ℕ) (fs : List KeptFlow) (i : ℕ) (g : KeptFlow) → IsPlace (has_number k) fs i → g.state.number ≡ k →
    replace_first (λ h. h.number == g.state.number) g.state (states_of fs) ≡ states_of (set fs i g)
put_states k fs i g place e =
    ap (λ m. replace_first (λ h. h.number == m) g.state (states_of fs)) e
    ∙ replace_first-map (λ (f : KeptFlow). f.state) (λ h. h.number == k) g fs
    ∙ ap states_of (replace_place (has_number k) g fs i place)

pub same_states : (fs : List KeptFlow) (i : ℕ) (f g : KeptFlow) → f ≡ get_or fs i f → g.state ≡ f.state →
    states_of (set fs i g) ≡ states_of fs
same_states fs i f g at e =
    let state = λ (f : KeptFlow). f.state in
    map-set state fs i g
    ∙ ap (set (states_of fs) i) (e ∙ ap state at ∙ sym (get_or-map state fs i f))
    ∙ set-get_or (states_of fs) i f.state

flow_here : (k : ℕ) (fs : List KeptFlow) (ts : List TrainState) (i : ℕ) (f : KeptFlow) →
    Some i ≡ position (has_number k) fs → f ≡ get_or fs i f → IsFlowAt k (kept fs ts) fs ts i f
flow_here k fs ts i f e at =
    let place = place_from_some (has_number k) fs i e in
    let first = find_place (has_number k) fs i f place at in
    record {
      within = place.within;
      number = eqb-true _ _ (passes_place (has_number k) fs i f place at);
      first = first;
      found = λ n. find-map (λ (f : KeptFlow). f.state) (λ h. h.number == k) fs ∙ ap (option_map (λ (f : KeptFlow). f.state)) first;
      put = λ g n e. ap (λ ss. let m : Net = record n { flows = ss; trains = ts } in m) (put_states k fs i g place e);
      still = λ g n e. ap (λ ss. let m : Net = record n { flows = ss; trains = ts } in m) (same_states fs i f g at e);
      after = λ g e. find-set (has_number k) fs i g (sym place.first) place.within (eq-eqb _ _ e);
    }

pub flow_at : (k : ℕ) (t : KeptTraffic) (fs : List KeptFlow) (ts : List TrainState) (i : ℕ) (f : KeptFlow) →
    kept fs ts ≡ t → Some i ≡ position (has_number k) t.flows → f ≡ get_or fs i f → IsFlowAt k t fs ts i f
flow_at k t fs ts i f is e at =
    subst (λ (t : KeptTraffic). Some i ≡ position (has_number k) t.flows → IsFlowAt k t fs ts i f) is
    (λ e. flow_here k fs ts i f e at) e

train_here : (k : ℕ) (fs : List KeptFlow) (ts : List TrainState) (i : ℕ) (u : TrainState) →
    Some i ≡ position (train_has_number k) ts → u ≡ get_or ts i u → IsTrainAt k (kept fs ts) fs ts i u
train_here k fs ts i u e at =
    let place = place_from_some (train_has_number k) ts i e in
    record {
      within = place.within;
      number = eqb-true _ _ (passes_place (train_has_number k) ts i u place at);
      found = λ n. find_place (train_has_number k) ts i u place at;
      put = λ v n e. ap (λ us. let m : Net = record n { flows = states_of fs; trains = us } in m)
          (ap (λ m. replace_first (λ h. h.number == m) v ts) e ∙ replace_place (train_has_number k) v ts i place);
    }

pub train_at : (k : ℕ) (t : KeptTraffic) (fs : List KeptFlow) (ts : List TrainState) (i : ℕ) (u : TrainState) →
    kept fs ts ≡ t → Some i ≡ position (train_has_number k) t.trains → u ≡ get_or ts i u → IsTrainAt k t fs ts i u
train_at k t fs ts i u is e at =
    subst (λ (t : KeptTraffic). Some i ≡ position (train_has_number k) t.trains → IsTrainAt k t fs ts i u) is
    (λ e. train_here k fs ts i u e at) e

pub no_flow : (k : ℕ) (t : KeptTraffic) → None ≡ position (has_number k) t.flows →
    (n : Net) → find_flow k (with_traffic t n) ≡ None
no_flow k t e n =
    find-map (λ (f : KeptFlow). f.state) (λ h. h.number == k) t.flows
    ∙ ap (option_map (λ (f : KeptFlow). f.state)) (find_past_all (has_number k) t.flows (past_from_none (has_number k) t.flows e))

pub no_first : (k : ℕ) (t : KeptTraffic) → None ≡ position (has_number k) t.flows → find (has_number k) t.flows ≡ None
no_first k t e = find_past_all (has_number k) t.flows (past_from_none (has_number k) t.flows e)

pub no_train : (k : ℕ) (t : KeptTraffic) → None ≡ position (train_has_number k) t.trains →
    (n : Net) → find_train k (with_traffic t n) ≡ None
no_train k t e n = find_past_all (train_has_number k) t.trains (past_from_none (train_has_number k) t.trains e)

-- a changed flow or train keeps its number, and so the numbers
pub sound_flow : (fs : List KeptFlow) (ts : List TrainState) (i : ℕ) (f g : KeptFlow) →
    IsSound fs ts → f ≡ get_or fs i f → g.state.number ≡ f.state.number → IsSound (set fs i g) ts
sound_flow fs ts i f g h at e =
    let num = λ (f : KeptFlow). f.state.number in
    let same : map num (set fs i g) ≡ map num fs =
    map-set num fs i g ∙ ap (set (map num fs) i) (e ∙ ap num at ∙ sym (get_or-map num fs i f)) ∙ set-get_or (map num fs) i f.state.number in
    subst (λ xs. AreNumbers xs (map (λ t. t.number) ts)) (sym same) h

pub sound_train : (fs : List KeptFlow) (ts : List TrainState) (i : ℕ) (u v : TrainState) →
    IsSound fs ts → u ≡ get_or ts i u → v.number ≡ u.number → IsSound fs (set ts i v)
sound_train fs ts i u v h at e =
    let num = λ (u : TrainState). u.number in
    let same : map num (set ts i v) ≡ map num ts =
    map-set num ts i v ∙ ap (set (map num ts) i) (e ∙ ap num at ∙ sym (get_or-map num ts i u)) ∙ set-get_or (map num ts) i u.number in
    subst (λ xs. AreNumbers (map (λ f. f.state.number) fs) xs) (sym same) h

-- whether a receiver, if there is one, takes any segment without memory
abbrev roomy : Option KeptFlow → Bool
roomy o = option_map_or (λ f. nat_lt 0 f.room) o true

same_first : (b : Bool) (x : KeptFlow) (o q : Option KeptFlow) → (roomy o ≡ true → roomy q ≡ true) → roomy (cond b (Some x) o) ≡ true → roomy (cond b (Some x) q) ≡ true
same_first true x o q keep h = h
same_first false x o q keep h = keep h

more_first : (b : Bool) (x g : KeptFlow) (o : Option KeptFlow) → x.room ≤ g.room → roomy (cond b (Some x) o) ≡ true → roomy (cond b (Some g) o) ≡ true
more_first true x g o more h = grind (arith, nat_tests, h, more)
more_first false x g o more h = h

-- where one flow's room only grew, no flow's room is gone
pub room_kept : (k : ℕ) (fs : List KeptFlow) (i : ℕ) (f g : KeptFlow) → i < length fs → f ≡ get_or fs i f → g.state ≡ f.state → f.room ≤ g.room →
    roomy (find (has_number k) fs) ≡ true → roomy (find (has_number k) (set fs i g)) ≡ true
room_kept k [] i f g below at same more h = absurd (omega arith)
room_kept k (x ∷ xs) zero f g below at same more h =
    let number : has_number k x ≡ has_number k g = ap (λ (s : FlowState). s.number == k) (ap (λ (y : KeptFlow). y.state) (sym at) ∙ sym same) in
    subst (λ b. roomy (cond b (Some g) (find (has_number k) xs)) ≡ true) number
    (more_first (has_number k x) x g (find (has_number k) xs) (subst (λ (y : KeptFlow). y.room ≤ g.room) at more) h)
room_kept k (x ∷ xs) (suc i) f g below at same more h =
    same_first (has_number k x) x (find (has_number k) xs) (find (has_number k) (set xs i g)) (room_kept k xs i f g (omega arith) at same more) h
