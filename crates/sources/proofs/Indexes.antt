-- What the index of flows and trains comes to.
use Rattle.std.proofs.Common.{◌≡◌, ℕ, ◌+◌, ◌*◌, ◌<◌, ◌≤◌, Bool, true, false, ◌&&◌, ◌||◌, ◌==◌, nat_lt, cond, List, [], ◌∷◌, ◌++◌, length, get_or, take, map, refl, sym, ap, subst, ◌∙◌, arith, eq-eqb, inl, inr}
use Rattle.std.specs.Prelude.{Option, Some, None, option_map, option_to_list}
use Rattle.std.specs.List.{flat_map}
use Rattle.std.proofs.lemmas.Bool.{le-ltb, ltb-true, ltb-false, cases_Bool, cases_eq, ne_eqb, both_ways}
use Rattle.std.proofs.lemmas.List.{map-append, take_all, take_more}
use Rattle.emu_model.specs.declared.sources.Due.{Due}
use Rattle.emu_model.specs.declared.sources.Class.TheVariants.{Expiry, Emission}
use Rattle.emu_model.specs.Reno.{may_emit}
use Rattle.emu_model.specs.Net.{FlowState, TrainState}
use Rattle.emu_model.specs.Dues.{is_before, due, flow_dues, train_dues}
use Rattle.due_index.specs.Least.{dues_in, least_of, lesser}
use Rattle.due_index.proofs.CallerLemmas.{least_all, least_all-append, least_all-option, least_leaf, least_leaf-dues, least_of-all, least_of-leaf, lesser-assoc, lesser-comm, lesser-none, lesser-swap}
use Rattle.sources.specs.declared.index.SourceIndex.{SourceIndex}
use Rattle.sources.specs.Kept.{KeptFlow}
use Rattle.sources.specs.Sends.{may_send, has_left}
use Rattle.sources.specs.Leaves.{expiry_due, emission_due, packet_due, is_sending, sends_due, IsRight, AreIndexed, HasFlowAt}
use Rattle.sources.proofs.Timers.{told_length, is_expiry, no_timer_first}
use Rattle.sources.specs.Numbers.{is_in, HasEntry}
use Rattle.sources.proofs.DueFacts.{kept_dues}

-- the least of a flow's dues
flow_least : (clock : ℕ) (s : FlowState) →
    least_all (flow_dues clock s) ≡ lesser (expiry_due s) (emission_due clock s)
flow_least clock s =
    by s.stopped (option_map (due Expiry s.number) s.sender.timer) (may_emit s.flow s.sender)
    (due Emission s.number clock)
  where
    by : (b : Bool) (o : Option Due) (e : Bool) (d : Due) →
        least_all (cond b [] (option_to_list o ++ cond e (d ∷ []) []))
        ≡ lesser (cond b None o) (cond (cond b false e) (Some d) None)
    by true o e d = refl
    by false o true d =
        least_all-append (option_to_list o) (d ∷ [])
        ∙ ap (λ p. lesser p (Some d)) (least_all-option o)
    by false o false d =
        least_all-append (option_to_list o) [] ∙ ap (λ p. lesser p None) (least_all-option o)

flows_least : (clock : ℕ) (fs : List KeptFlow) → least_all (flat_map (kept_dues clock) fs)
    ≡ lesser (least_leaf (map (λ f. expiry_due f.state) fs))
    (least_leaf (map (λ f. emission_due clock f.state) fs))
flows_least clock [] = refl
flows_least clock (f ∷ fs) =
    let timers = least_leaf (map (λ (f : KeptFlow). expiry_due f.state) fs) in
    let segments = least_leaf (map (λ (f : KeptFlow). emission_due clock f.state) fs) in
    least_all-append (flow_dues clock f.state) (flat_map (kept_dues clock) fs)
    ∙ (λ t. lesser (flow_least clock f.state t) (flows_least clock fs t))
    ∙ lesser-swap (expiry_due f.state) (emission_due clock f.state) timers segments

trains_least : (ts : List TrainState) →
    least_all (flat_map train_dues ts) ≡ least_leaf (map packet_due ts)
trains_least [] = refl
trains_least (u ∷ us) =
    least_all-append (train_dues u) (flat_map train_dues us)
    ∙ (λ t. lesser (by (has_left u) (due Emission u.number (u.start + u.sent * u.train.gap)) t)
    (trains_least us t))
  where
    by : (b : Bool) (d : Due) → least_all (cond b (d ∷ []) []) ≡ cond b (Some d) None
    by true d = refl
    by false d = refl

-- segments are all due at one moment, and so the least of them is that of the least number
abbrev segment : ℕ → ℕ → Due
segment clock k = due Emission k clock

abbrev lesser_number : Option ℕ → Option ℕ → Option ℕ
lesser_number None n = n
lesser_number (Some m) None = Some m
lesser_number (Some m) (Some n) = Some (cond (nat_lt n m) n m)

abbrev least_number : List (Option ℕ) → Option ℕ
least_number [] = None
least_number (o ∷ os) = lesser_number o (least_number os)

abbrev sending_number : KeptFlow → Option ℕ
sending_number f = cond (may_send f.state) (Some f.state.number) None

segment_before : (clock m n : ℕ) → is_before (segment clock n) (segment clock m) ≡ nat_lt n m
segment_before clock m n =
    (λ t. le-ltb clock clock (omega arith) t ||
    (eq-eqb clock clock refl t && (false || (true && nat_lt n m))))

lesser_segment : (clock : ℕ) (m n : Option ℕ) →
    lesser (option_map (segment clock) m) (option_map (segment clock) n)
    ≡ option_map (segment clock) (lesser_number m n)
lesser_segment clock None n = refl
lesser_segment clock (Some m) None = refl
lesser_segment clock (Some m) (Some n) =
    ap (λ b. Some (cond b (segment clock n) (segment clock m))) (segment_before clock m n)
    ∙ by (nat_lt n m)
  where
    by : (b : Bool) →
        Some (cond b (segment clock n) (segment clock m)) ≡ Some (segment clock (cond b n m))
    by true = refl
    by false = refl

segments_least : (clock : ℕ) (fs : List KeptFlow) →
    least_leaf (map (λ f. emission_due clock f.state) fs)
    ≡ option_map (segment clock) (least_number (map sending_number fs))
segments_least clock [] = refl
segments_least clock (f ∷ fs) =
    (λ t. lesser (by (may_send f.state) f.state.number t) (segments_least clock fs t))
    ∙ lesser_segment clock (sending_number f) (least_number (map sending_number fs))
  where
    by : (b : Bool) (k : ℕ) →
        cond b (Some (segment clock k)) None ≡ option_map (segment clock) (cond b (Some k) None)
    by true k = refl
    by false k = refl

-- the least of the numbers of flows that may send
abbrev Tells : Option ℕ → (ℕ → Bool) → Type 0
Tells None p = (j : ℕ) → p j ≡ false
Tells (Some m) p = (p m ≡ true) × ((j : ℕ) → p j ≡ true → m ≤ j)

same_tells : (o q : Option ℕ) (p : ℕ → Bool) → Tells o p → Tells q p → o ≡ q
same_tells None None p h k = refl
same_tells None (Some n) p h k = absurd (both_ways _ (h n) k.0)
same_tells (Some m) None p h k = absurd (both_ways _ (k m) h.0)
same_tells (Some m) (Some n) p h k =
    let one = h.1 n k.0 in
    let other = k.1 m h.0 in
    let e : m ≡ n = omega (arith, one, other) in
    ap Some e

abbrev joined : Bool → ℕ → (ℕ → Bool) → ℕ → Bool
joined may k p j = (k == j && may) || p j

never : (b c : Bool) → ((b && false) || c) ≡ c
never true c = refl
never false c = refl

always : (b c : Bool) → b ≡ true → ((b && true) || c) ≡ true
always true c e = refl
always false c e = absurd (cc)

own_or : (b c : Bool) → ((b && true) || c) ≡ true → (b ≡ false → c ≡ true)
own_or true c e f = absurd (cc)
own_or false c e f = e

later_or : (b c : Bool) → c ≡ true → ((b && true) || c) ≡ true
later_or true c e = refl
later_or false c e = e

joins : (may : Bool) (k : ℕ) (q : Option ℕ) (p : ℕ → Bool) → Tells q p →
    Tells (lesser_number (cond may (Some k) None) q) (joined may k p)
joins false k q p h =
    let same : p ≡ joined false k p = λ t j. sym (never (k == j) (p j)) t in
    subst (Tells q) same h
joins true k None p h = (
  always (k == k) (p k) (eq-eqb k k refl),
  λ j e. elim (cases_eq k j) [
    | inl same ↦ let le : k ≤ j = omega (arith, same) in le
    | inr ne ↦ absurd (both_ways _ (h j) (own_or (k == j) (p j) e (ne_eqb k j ne)))
  ],
)
joins true k (Some m) p h = elim (cases_Bool (nat_lt m k)) [
  | inl t ↦
      let below = ltb-true m k t in
      let all : Tells (Some m) (joined true k p) = (
        later_or (k == m) (p m) h.0,
        λ j e. elim (cases_eq k j) [
          | inl same ↦ let le : m ≤ j = omega (arith, below, same) in le
          | inr ne ↦ h.1 j (own_or (k == j) (p j) e (ne_eqb k j ne))
        ],
      ) in
      subst (λ b. Tells (Some (cond b m k)) (joined true k p)) (sym t) all
  | inr f ↦
      let above = ltb-false m k f in
      let all : Tells (Some k) (joined true k p) = (
        always (k == k) (p k) (eq-eqb k k refl),
        λ j e. elim (cases_eq k j) [
          | inl same ↦ let le : k ≤ j = omega (arith, same) in le
          | inr ne ↦
              let rest = h.1 j (own_or (k == j) (p j) e (ne_eqb k j ne)) in
              let le : k ≤ j = omega (arith, above, rest) in le
        ],
      ) in
      subst (λ b. Tells (Some (cond b m k)) (joined true k p)) (sym f) all
]

least_tells : (fs : List KeptFlow) → Tells (least_number (map sending_number fs)) (λ j. is_sending j fs)
least_tells [] = λ j. refl
least_tells (f ∷ fs) =
    joins (may_send f.state) f.state.number (least_number (map sending_number fs)) (λ j. is_sending j fs) (least_tells fs)

-- what may be sent now, from the least number that may
first_sends : (clock : ℕ) (fs : List KeptFlow) (o : Option ℕ) → Tells o (λ j. is_sending j fs) →
    option_map (segment clock) o ≡ least_leaf (map (λ f. emission_due clock f.state) fs)
first_sends clock fs o h =
    ap (option_map (segment clock)) (same_tells o _ _ h (least_tells fs)) ∙ sym (segments_least clock fs)

sends_least : (clock : ℕ) (fs : List KeptFlow) (ts : List TrainState) →
    least_of (sends_due clock fs ts)
    ≡ lesser (least_leaf (map (λ f. emission_due clock f.state) fs)) (least_leaf (map packet_due ts))
sends_least clock fs ts =
    let es = map (λ (f : KeptFlow). emission_due clock f.state) fs in
    let ps = map packet_due ts in
    least_of-all (dues_in es ++ dues_in ps)
    ∙ least_all-append (dues_in es) (dues_in ps)
    ∙ (λ t. lesser (least_leaf-dues es t) (least_leaf-dues ps t))

moved : (a b c : Option Due) → lesser (lesser a b) c ≡ lesser a (lesser c b)
moved a b c = lesser-assoc a b c ∙ ap (lesser a) (lesser-comm b c)

-- the least of what may be sent and a due, by the index
pub sending_is : (clock : ℕ) (fs : List KeptFlow) (ts : List TrainState) (x : SourceIndex) (best packet : Option Due)
    (o : Option ℕ) → AreIndexed fs ts x → packet ≡ least_of (dues_in x.packets.leaves) → Tells o (is_in x.ready) →
    lesser (lesser best packet) (option_map (segment clock) o) ≡ lesser best (least_of (sends_due clock fs ts))
sending_is clock fs ts x best packet o h e tells =
    let same : is_in x.ready ≡ (λ j. is_sending j fs) = λ t j. h.sending j t in
    let sends = first_sends clock fs o (subst (Tells o) same tells) in
    let packets : packet ≡ least_leaf (map packet_due ts) =
    e ∙ least_of-leaf x.packets.leaves ∙ ap least_leaf h.packets in
    (λ t. lesser (lesser best (packets t)) (sends t))
    ∙ moved best (least_leaf (map packet_due ts)) (least_leaf (map (λ f. emission_due clock f.state) fs))
    ∙ ap (lesser best) (sym (sends_least clock fs ts))

pub tells_none : (p : ℕ → Bool) → ((k : ℕ) → p k ≡ false) → Tells None p
tells_none p h = h

pub tells_some : (p : ℕ → Bool) (m : ℕ) → p m ≡ true → ((j : ℕ) → p j ≡ true → m ≤ j) → Tells (Some m) p
tells_some p m here least = (here, least)

-- the timers by themselves beside the rest
abbrev pub timers_of : List KeptFlow → List (Option Due)
timers_of fs = map (λ f. expiry_due f.state) fs

-- a due, the first timer and what may be sent come to the least of all
pub all_least : (clock : ℕ) (fs : List KeptFlow) (ts : List TrainState) (best : Option Due) →
    lesser (lesser best (least_leaf (timers_of fs))) (least_of (sends_due clock fs ts))
    ≡ least_of (option_to_list best ++ (flat_map (kept_dues clock) fs ++ flat_map train_dues ts))
all_least clock fs ts best =
    let x = least_leaf (timers_of fs) in
    let e = least_leaf (map (λ (f : KeptFlow). emission_due clock f.state) fs) in
    let p = least_leaf (map packet_due ts) in
    let flows = flat_map (kept_dues clock) fs in
    let trains = flat_map train_dues ts in
    ap (lesser (lesser best x)) (sends_least clock fs ts)
    ∙ lesser-assoc best x (lesser e p)
    ∙ ap (lesser best) (sym (lesser-assoc x e p)
    ∙ (λ t. lesser (sym (flows_least clock fs) t) (sym (trains_least ts) t))
    ∙ sym (least_all-append flows trains))
    ∙ ap (λ o. lesser o (least_all (flows ++ trains))) (sym (least_all-option best))
    ∙ sym (least_all-append (option_to_list best) (flows ++ trains))
    ∙ sym (least_of-all (option_to_list best ++ (flows ++ trains)))

-- the least by the index: where it is no timer, and where the first timer is told right
pub bound_exact : (clock : ℕ) (fs : List KeptFlow) (ts : List TrainState) (x : SourceIndex) (best b : Option Due) →
    AreIndexed fs ts x →
    b ≡ lesser (lesser best (least_of (dues_in x.timers.leaves))) (least_of (sends_due clock fs ts)) →
    is_expiry b ≡ false →
    b ≡ least_of (option_to_list best ++ (flat_map (kept_dues clock) fs ++ flat_map train_dues ts))
bound_exact clock fs ts x best b h e no_timer =
    let os = x.timers.leaves in
    let sends = least_of (sends_due clock fs ts) in
    let told : b ≡ lesser (lesser best (least_leaf os)) sends =
    e ∙ ap (λ o. lesser (lesser best o) sends) (least_of-leaf os) in
    told ∙ no_timer_first os fs best sends h.timers (ap is_expiry (sym told) ∙ no_timer) ∙ all_least clock fs ts best

pub bound_right : (clock : ℕ) (fs : List KeptFlow) (ts : List TrainState) (x : SourceIndex) (best b : Option Due) →
    IsRight x.timers.leaves fs →
    b ≡ lesser (lesser best (least_of (dues_in x.timers.leaves))) (least_of (sends_due clock fs ts)) →
    b ≡ least_of (option_to_list best ++ (flat_map (kept_dues clock) fs ++ flat_map train_dues ts))
bound_right clock fs ts x best b right e =
    let sends = least_of (sends_due clock fs ts) in
    e ∙ ap (λ o. lesser (lesser best o) sends) (right ∙ least_of-leaf (timers_of fs)) ∙ all_least clock fs ts best

least-push : (os : List (Option Due)) (o : Option Due) → least_leaf (os ++ o ∷ []) ≡ lesser (least_leaf os) o
least-push [] o = lesser-none o
least-push (x ∷ os) o = ap (lesser x) (least-push os o) ∙ sym (lesser-assoc x (least_leaf os) o)

-- one timer more
pub walk_more : (fs : List KeptFlow) (i : ℕ) (f : KeptFlow) (start best next timer : Option Due) → i < length fs →
    f ≡ get_or fs i f → timer ≡ expiry_due f.state → next ≡ lesser best timer →
    best ≡ lesser start (least_leaf (timers_of (take i fs))) →
    next ≡ lesser start (least_leaf (timers_of (take (i + 1) fs)))
walk_more fs i f start best next timer l at e step h =
    let more : timers_of (take (i + 1) fs) ≡ timers_of (take i fs) ++ expiry_due f.state ∷ [] =
    ap timers_of (take_more fs i f l) ∙ map-append (λ (f : KeptFlow). expiry_due f.state) (take i fs) (get_or fs i f ∷ [])
    ∙ ap (λ (f : KeptFlow). timers_of (take i fs) ++ expiry_due f.state ∷ []) (sym at) in
    step ∙ (λ t. lesser (h t) (e t))
    ∙ lesser-assoc start (least_leaf (timers_of (take i fs))) (expiry_due f.state)
    ∙ ap (lesser start) (sym (least-push (timers_of (take i fs)) (expiry_due f.state)) ∙ ap least_leaf (sym more))

-- all timers
pub walk_all : (clock : ℕ) (fs : List KeptFlow) (ts : List TrainState) (i : ℕ) (best start last : Option Due) → length fs ≤ i →
    start ≡ lesser best (least_of (sends_due clock fs ts)) →
    last ≡ lesser start (least_leaf (timers_of (take i fs))) →
    last ≡ least_of (option_to_list best ++ (flat_map (kept_dues clock) fs ++ flat_map train_dues ts))
walk_all clock fs ts i best start last l e h =
    let sends = least_of (sends_due clock fs ts) in
    let x = least_leaf (timers_of fs) in
    h ∙ (λ t. lesser (e t) (least_leaf (timers_of (take_all i fs l t))))
    ∙ lesser-assoc best sends x ∙ ap (lesser best) (lesser-comm sends x) ∙ sym (lesser-assoc best x sends)
    ∙ all_least clock fs ts best

-- a place of a flow, and of a train, in the index
pub flow_indexed : (fs : List KeptFlow) (ts : List TrainState) (x : SourceIndex) (i k : ℕ) (f : KeptFlow) →
    AreIndexed fs ts x → i < length fs → f ≡ get_or fs i f → k ≡ f.state.number → HasFlowAt i k x
flow_indexed fs ts x i k f h l at e = (
  let long = told_length x.timers.leaves fs h.timers in omega (arith, l, long),
  subst (λ k. HasEntry k x.ready) (ap (λ (f : KeptFlow). f.state.number) (sym at) ∙ sym e) (h.entries i f l),
)
