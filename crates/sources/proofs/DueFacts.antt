-- The least of many dues, and what holds of each due of a flow or a train.
use Rattle.std.proofs.Common.{◌≡◌, ℕ, ◌+◌, ◌*◌, ◌<◌, ◌≤◌, Bool, true, false, ◌==◌, cond, List, [], ◌∷◌, ◌++◌, length, get_or, drop, map, refl, sym, ◌∙◌, ap, subst, arith, inl, inr}
use Rattle.std.specs.Prelude.{Option, Some, None, IfSome, option_map, option_to_list}
use Rattle.due_index.specs.Least.{least_of}
use Rattle.std.specs.List.{All, best_of, flat_map}
use Rattle.std.proofs.Math.ListN.{get_or-map}
use Rattle.std.proofs.lemmas.List.{at_drop_all, append_assoc, append-nil, get_or_default, length-map}
use Rattle.std.proofs.lemmas.List.Sums.{position_or_len_is}
use Rattle.std.proofs.lemmas.List.Folds.{flat_map-map, list_any_none}
use Rattle.std.proofs.lemmas.List.Elements.{All-nil, All-cons, All-head, All-tail, All-append}
use Rattle.std.proofs.lemmas.Bool.{cond_both, or_cases, and_parts, ltb-true, eqb-true, eq-eqb, ne_eqb}
use Rattle.emu_model.specs.declared.sources.Due.{Due}
use Rattle.emu_model.specs.declared.sources.Class.TheVariants.{Expiry, Emission}
use Rattle.emu_model.specs.Reno.{may_emit}
use Rattle.emu_model.specs.Net.{Net, FlowState, TrainState, initial_net, find_flow, find_train}
use Rattle.emu_model.specs.Dues.{is_before, due, flow_dues, train_dues}
use Rattle.sources.specs.Kept.{KeptFlow, KeptTraffic, states_of, with_traffic, IsNumber, IsSound}
use Rattle.sources.specs.Sends.{may_send, has_left, IsAllowed, IsNumbered, source_dues}
use Rattle.sources.proofs.FirstPlaces.{IsPlace, find_place, find_none, find-map}
use Rattle.sources.proofs.Changes.{kept, has_number, train_has_number}
use Rattle.sources.proofs.Sendings.{emitting_by_train, emitting_by_flow}

abbrev pub kept_dues : ℕ → KeptFlow → List Due
kept_dues clock f = flow_dues clock f.state

module _ {X : Type 0} (g : X → List Due) where
  All-flat_map : (P : Due → Type 0) (xs : List X) → All (λ x. All P (g x)) xs → All P (flat_map g xs)
  All-flat_map P [] h = All-nil P
  All-flat_map P (x ∷ xs) h =
      All-append P (g x) (flat_map g xs) (All-head (λ x. All P (g x)) x xs h)
      (All-flat_map P xs (All-tail (λ x. All P (g x)) x xs h))

-- the least has what all have
pub best_of_all : (P : Due → Type 0) (b : Due) (ds : List Due) → P b → All P ds → P (best_of is_before b ds)
best_of_all P b [] p h = p
best_of_all P b (d ∷ ds) p h =
    best_of_all P (cond (is_before d b) d b) ds
    (cond_both (is_before d b) d b P (λ _. All-head P d ds h) (λ _. p)) (All-tail P d ds h)

no_later : (a b : Due) → is_before a b ≡ true → a.moment ≤ b.moment
no_later a b e = elim (or_cases _ _ e) [
  | inl l ↦ let m = ltb-true a.moment b.moment l in omega (arith, m)
  | inr r ↦ let m = eqb-true a.moment b.moment (and_parts _ _ r).0 in omega (arith, m)
]

pub best_of_moment : (b : Due) (ds : List Due) → (best_of is_before b ds).moment ≤ b.moment
best_of_moment b [] = omega arith
best_of_moment b (d ∷ ds) =
    let first : (cond (is_before d b) d b).moment ≤ b.moment =
    cond_both (is_before d b) d b (λ x. x.moment ≤ b.moment) (λ e. no_later d b e) (λ _. omega arith) in
    let rest = best_of_moment (cond (is_before d b) d b) ds in
    omega (arith, first, rest)

-- what holds of each due of a flow, and of a train
flow_dues_all : (P : Due → Type 0) (clock : ℕ) (s : FlowState) → ((m : ℕ) → P (due Expiry s.number m)) →
    (may_send s ≡ true → P (due Emission s.number clock)) → All P (flow_dues clock s)
flow_dues_all P clock s expiry emission = by s.stopped s.sender.timer (may_emit s.flow s.sender) emission where
  one : (b : Bool) → (b ≡ true → P (due Emission s.number clock)) → All P (cond b (due Emission s.number clock ∷ []) [])
  one true p = All-cons P (due Emission s.number clock) [] (p refl) (All-nil P)
  one false p = All-nil P

  by : (b : Bool) (o : Option ℕ) (e : Bool) → (cond b false e ≡ true → P (due Emission s.number clock)) →
      All P (cond b [] (option_to_list (option_map (due Expiry s.number) o) ++ cond e (due Emission s.number clock ∷ []) []))
  by true o e p = All-nil P
  by false (Some m) e p = All-cons P (due Expiry s.number m) (cond e (due Emission s.number clock ∷ []) []) (expiry m) (one e p)
  by false None e p = one e p

train_dues_all : (P : Due → Type 0) (u : TrainState) → (has_left u ≡ true → (m : ℕ) → P (due Emission u.number m)) →
    All P (train_dues u)
train_dues_all P u emission = by (has_left u) (u.start + u.sent * u.train.gap) emission where
  by : (b : Bool) (m : ℕ) → (b ≡ true → (m : ℕ) → P (due Emission u.number m)) → All P (cond b (due Emission u.number m ∷ []) [])
  by true m p = All-cons P (due Emission u.number m) [] (p refl m) (All-nil P)
  by false m p = All-nil P

-- each flow and each train is the one that its number finds
flow_alone : (fs : List KeptFlow) (ts : List TrainState) (i : ℕ) (f : KeptFlow) → IsSound fs ts → i < length fs → f ≡ get_or fs i f →
    (n : Net) → find_flow f.state.number (with_traffic (kept fs ts) n) ≡ Some f.state
flow_alone fs ts i f h l at n =
    let k = f.state.number in
    let num = λ (f : KeptFlow). f.state.number in
    let here : get_or (map num fs) i k ≡ k = get_or-map num fs i f ∙ sym (ap num at) in
    let long = length-map fs num in
    let before : (j : ℕ) → j < i → has_number k (get_or fs j f) ≡ false =
    λ j lt. ne_eqb _ _ (λ e. h.flows j i k lt (omega (arith, l, long)) (get_or-map num fs j f ∙ e ∙ sym here)) in
    let place : IsPlace (has_number k) fs i = record {
      first = position_or_len_is (has_number k) fs i f (omega (arith, l)) before (λ _. eq-eqb _ _ (sym (ap num at)));
      within = l;
    } in
    find-map (λ (f : KeptFlow). f.state) (λ s. s.number == k) fs
    ∙ ap (option_map (λ (f : KeptFlow). f.state)) (find_place (has_number k) fs i f place at)

pub flow_is_no_train : (fs : List KeptFlow) (ts : List TrainState) (i : ℕ) (f : KeptFlow) → IsSound fs ts → i < length fs → f ≡ get_or fs i f →
    (n : Net) → find_train f.state.number (with_traffic (kept fs ts) n) ≡ None
flow_is_no_train fs ts i f h l at n =
    let k = f.state.number in
    let num = λ (f : KeptFlow). f.state.number in
    let tnum = λ (u : TrainState). u.number in
    let here : get_or (map num fs) i k ≡ k = get_or-map num fs i f ∙ sym (ap num at) in
    let long = length-map fs num in
    let other : All (λ u. train_has_number k u ≡ false) ts =
    λ j d lt. ne_eqb _ _ (λ e. h.apart i k (omega (arith, l, long)) j (tnum d) (omega (arith, lt, length-map ts tnum))
    (here ∙ sym (get_or-map tnum ts j d ∙ e))) in
    find_none (train_has_number k) ts (list_any_none (train_has_number k) ts other)

train_alone : (fs : List KeptFlow) (ts : List TrainState) (i : ℕ) (u : TrainState) → IsSound fs ts → i < length ts → u ≡ get_or ts i u →
    (n : Net) → find_train u.number (with_traffic (kept fs ts) n) ≡ Some u
train_alone fs ts i u h l at n =
    let k = u.number in
    let num = λ (u : TrainState). u.number in
    let here : get_or (map num ts) i k ≡ k = get_or-map num ts i u ∙ sym (ap num at) in
    let long = length-map ts num in
    let before : (j : ℕ) → j < i → train_has_number k (get_or ts j u) ≡ false =
    λ j lt. ne_eqb _ _ (λ e. h.trains j i k lt (omega (arith, l, long)) (get_or-map num ts j u ∙ e ∙ sym here)) in
    let place : IsPlace (train_has_number k) ts i = record {
      first = position_or_len_is (train_has_number k) ts i u (omega (arith, l)) before (λ _. eq-eqb _ _ (sym (ap num at)));
      within = l;
    } in
    find_place (train_has_number k) ts i u place at

-- all dues, from each flow's and each train's
source_dues_all : (P : Due → Type 0) (clock : ℕ) (fs : List KeptFlow) (ts : List TrainState) (n : Net) →
    ((i : ℕ) (f : KeptFlow) → i < length fs → f ≡ get_or fs i f → All P (kept_dues clock f)) →
    ((i : ℕ) (u : TrainState) → i < length ts → u ≡ get_or ts i u → All P (train_dues u)) →
    All P (source_dues clock (with_traffic (kept fs ts) n))
source_dues_all P clock fs ts n flows trains =
    let fh : All P (flat_map (kept_dues clock) fs) =
    All-flat_map (kept_dues clock) P fs (λ i d l. flows i (get_or fs i d) l (get_or_default fs i d (get_or fs i d) l)) in
    let th : All P (flat_map train_dues ts) =
    All-flat_map train_dues P ts (λ i d l. trains i (get_or ts i d) l (get_or_default ts i d (get_or ts i d) l)) in
    All-append P (flat_map (flow_dues clock) (states_of fs)) (flat_map train_dues ts)
    (subst (All P) (sym (flat_map-map (flow_dues clock) (λ (f : KeptFlow). f.state) fs)) fh) th

pub all_allowed : (clock : ℕ) (fs : List KeptFlow) (ts : List TrainState) (n : Net) → IsSound fs ts →
    All (IsAllowed (kept fs ts)) (source_dues clock (with_traffic (kept fs ts) n))
all_allowed clock fs ts n h =
    source_dues_all (IsAllowed (kept fs ts)) clock fs ts n
    (λ i f l at. flow_dues_all (IsAllowed (kept fs ts)) clock f.state (λ m e. absurd (cc))
    (λ may _ m. emitting_by_flow f.state.number (with_traffic (kept fs ts) m) f.state (flow_is_no_train fs ts i f h l at m) (flow_alone fs ts i f h l at m) ∙ may))
    (λ i u l at. train_dues_all (IsAllowed (kept fs ts)) u
    (λ left _ _ m. emitting_by_train u.number (with_traffic (kept fs ts) m) u (train_alone fs ts i u h l at m) ∙ left))

pub all_numbered : (clock : ℕ) (fs : List KeptFlow) (ts : List TrainState) (n : Net) → IsSound fs ts →
    All IsNumbered (source_dues clock (with_traffic (kept fs ts) n))
all_numbered clock fs ts n h =
    let num = λ (f : KeptFlow). f.state.number in
    let tnum = λ (u : TrainState). u.number in
    let flow : (i : ℕ) (f : KeptFlow) → i < length fs → f ≡ get_or fs i f → IsNumber f.state.number =
    λ i f l at. subst IsNumber (get_or-map num fs i f ∙ sym (ap num at)) (h.flows_fit i f.state.number (omega (arith, l, length-map fs num))) in
    let train : (i : ℕ) (u : TrainState) → i < length ts → u ≡ get_or ts i u → IsNumber u.number =
    λ i u l at. subst IsNumber (get_or-map tnum ts i u ∙ sym (ap tnum at)) (h.trains_fit i u.number (omega (arith, l, length-map ts tnum))) in
    source_dues_all IsNumbered clock fs ts n
    (λ i f l at. flow_dues_all IsNumbered clock f.state (λ m. (λ _. flow i f l at, λ _. flow i f l at)) (λ _. (λ _. flow i f l at, λ _. flow i f l at)))
    (λ i u l at. train_dues_all IsNumbered u (λ _ m. (λ _. train i u l at, λ _. train i u l at)))

module _ (clock : ℕ) (t : KeptTraffic) (fs : List KeptFlow) (ts : List TrainState) (is : kept fs ts ≡ t) where
  pub dues_are : (n : Net) → flat_map (kept_dues clock) fs ++ flat_map train_dues ts ≡ source_dues clock (with_traffic t n)
  dues_are n =
      ap (λ ds. ds ++ flat_map train_dues ts) (sym (flat_map-map (flow_dues clock) (λ (f : KeptFlow). f.state) fs))
      ∙ ap (λ (t : KeptTraffic). source_dues clock (with_traffic t n)) is

  -- after both loops
  pub appended_is : (gs : List KeptFlow) (us : List TrainState) (i j : ℕ) (ds ds1 ds2 : List Due) → gs ≡ fs → us ≡ ts → length gs ≤ i → length us ≤ j →
      ds1 ++ flat_map (kept_dues clock) (drop i gs) ≡ ds ++ flat_map (kept_dues clock) gs →
      ds2 ++ flat_map train_dues (drop j us) ≡ ds1 ++ flat_map train_dues us →
      (n : Net) → ds2 ≡ ds ++ source_dues clock (with_traffic t n)
  appended_is gs us i j ds ds1 ds2 g u gi uj h1 h2 n =
      let first : ds1 ≡ ds ++ flat_map (kept_dues clock) fs =
      sym (append-nil ds1) ∙ sym (at_drop_all (λ xs. ds1 ++ flat_map (kept_dues clock) xs) gs i gi) ∙ h1
      ∙ ap (λ xs. ds ++ flat_map (kept_dues clock) xs) g in
      let second : ds2 ≡ ds1 ++ flat_map train_dues ts =
      sym (append-nil ds2) ∙ sym (at_drop_all (λ xs. ds2 ++ flat_map train_dues xs) us j uj) ∙ h2
      ∙ ap (λ xs. ds1 ++ flat_map train_dues xs) u in
      second ∙ ap (λ c. c ++ flat_map train_dues ts) first
      ∙ append_assoc ds (flat_map (kept_dues clock) fs) (flat_map train_dues ts)
      ∙ ap (λ xs. ds ++ xs) (dues_are n)

  -- what holds of the best before holds of the least
  pub allowed_is : (b d : Due) → IsSound fs ts → ((n : Net) → d ≡ best_of is_before b (source_dues clock (with_traffic t n))) →
      IsAllowed t b → IsAllowed t d
  allowed_is b d h e p =
      let n = initial_net in
      let all = subst (λ t. All (IsAllowed t) (source_dues clock (with_traffic t n))) is (all_allowed clock fs ts n h) in
      subst (IsAllowed t) (sym (e n)) (best_of_all (IsAllowed t) b (source_dues clock (with_traffic t n)) p all)

  pub numbered_is : (b d : Due) → IsSound fs ts → ((n : Net) → d ≡ best_of is_before b (source_dues clock (with_traffic t n))) →
      IsNumbered b → IsNumbered d
  numbered_is b d h e p =
      let n = initial_net in
      let all = subst (λ (t : KeptTraffic). All IsNumbered (source_dues clock (with_traffic t n))) is (all_numbered clock fs ts n h) in
      subst IsNumbered (sym (e n)) (best_of_all IsNumbered b (source_dues clock (with_traffic t n)) p all)

  pub moment_is : (b d : Due) → ((n : Net) → d ≡ best_of is_before b (source_dues clock (with_traffic t n))) → d.moment ≤ b.moment
  moment_is b d e =
      subst (λ (x : Due). x.moment ≤ b.moment) (sym (e initial_net)) (best_of_moment b (source_dues clock (with_traffic t initial_net)))

-- what the least of a due that may be there and of others has, where the due has what it takes
pub least_has : (C Q : Due → Type 0) (best r : Option Due) (ds : List Due) → r ≡ least_of (option_to_list best ++ ds) →
    ((b : Due) → C b → Q (best_of is_before b ds)) → IfSome best (λ b. C b → IfSome r Q)
least_has C Q None r ds e f = tt
least_has C Q (Some b) r ds e f = λ h. subst (λ o. IfSome o Q) (sym e) (f b h)

pub least_moment : (best r : Option Due) (ds : List Due) → r ≡ least_of (option_to_list best ++ ds) →
    IfSome best (λ b. IfSome r (λ d. d.moment ≤ b.moment))
least_moment None r ds e = tt
least_moment (Some b) r ds e = subst (λ o. IfSome o (λ d. d.moment ≤ b.moment)) (sym e) (best_of_moment b ds)
