-- What a source sends or takes, by the place where it stands; and what never changes of it.
use Rattle.std.proofs.Common.{◌≡◌, ℕ, zero, suc, ◌+◌, ◌<◌, true, ◌==◌, List, [], ◌∷◌, length, get_or, map, set, refl, sym, ap, subst, ◌∙◌, arith}
use Rattle.std.specs.Prelude.{Option, Some, None, option_map, slice_get}
use Rattle.std.specs.Option.{option_map_or}
use Rattle.std.proofs.Math.ListN.{get_or-map}
use Rattle.std.proofs.lemmas.Option.{same_Some, slice_get-map, slice_get-get_or}
use Rattle.std.proofs.lemmas.List.{map-set, set-get_or, length-map}
use Rattle.emu_model.specs.declared.packets.Origin.{Origin}
use Rattle.emu_model.specs.declared.packets.Origin.TheVariants.{ByTrain, BySender}
use Rattle.emu_model.specs.declared.commands.EventContext.{EventContext}
use Rattle.emu_model.specs.declared.sources.SendSpec.{SendSpec}
use Rattle.emu_model.specs.Reno.{emit as emitted_by, emitted}
use Rattle.emu_model.specs.Net.{Net, FlowState, TrainState, initial_net, find_train, put_flow, put_train, make, data_send, ack_send}
use Rattle.emu_model.specs.Events.{emission}
use Rattle.sources.specs.declared.sources.SourcePlace.{SourcePlace}
use Rattle.sources.specs.declared.sources.SourcePlace.TheVariants.{Flow, Train}
use Rattle.sources.specs.Kept.{KeptFlow, KeptTraffic, with_traffic, IsSound}
use Rattle.sources.specs.Sends.{may_send, has_left, next_send}
use Rattle.sources.specs.Standing.{flow_place, train_place, source_place, MaySendAt, FlowHead, TrainHead, Heads, heads_of, reply_at, send_at}
use Rattle.sources.proofs.FirstPlaces.{place_from_some}
use Rattle.sources.proofs.Changes.{kept, IsFlowAt, IsTrainAt, flow_at, train_at, no_flow, no_train}
use Rattle.sources.proofs.Sendings.{send_by_train, send_by_flow, send_by_none, emission_by_train, emission_by_flow, emission_by_none, emitting_by_train, emitting_by_flow}
use Rattle.sources.proofs.DueFacts.{flow_is_no_train}

-- ---- what a place tells

abbrev either : Option ℕ → Option ℕ → Option SourcePlace
either a b = option_map_or (λ i. Some (Flow i)) a (option_map Train b)

as_flow : (a b : Option ℕ) (i : ℕ) → either a b ≡ Some (Flow i) → Some i ≡ a
as_flow (Some j) b i e = cc
as_flow None (Some j) i e = absurd (cc)
as_flow None None i e = absurd (cc)

as_train : (a b : Option ℕ) (i : ℕ) → either a b ≡ Some (Train i) → Some i ≡ b
as_train (Some j) b i e = absurd (cc)
as_train None (Some j) i e = cc
as_train None None i e = absurd (cc)

pub flow_there : (k i : ℕ) (t : KeptTraffic) → source_place k t ≡ Some (Flow i) → Some i ≡ flow_place k t
flow_there k i t e = as_flow (flow_place k t) (train_place k t) i e

pub train_there : (k i : ℕ) (t : KeptTraffic) → source_place k t ≡ Some (Train i) → Some i ≡ train_place k t
train_there k i t e = as_train (flow_place k t) (train_place k t) i e

pub flow_within : (k i : ℕ) (t : KeptTraffic) → Some i ≡ flow_place k t → i < length t.flows
flow_within k i t e = (place_from_some (λ (f : KeptFlow). f.state.number == k) t.flows i e).within

pub train_within : (k i : ℕ) (t : KeptTraffic) → Some i ≡ train_place k t → i < length t.trains
train_within k i t e = (place_from_some (λ (u : TrainState). u.number == k) t.trains i e).within

pub nowhere : (k : ℕ) (t : KeptTraffic) → None ≡ flow_place k t → None ≡ train_place k t →
    (n : Net) → next_send k (with_traffic t n) ≡ None
nowhere k t none other n = send_by_none k (with_traffic t n) (no_train k t other n) (no_flow k t none n)

-- ---- a flow at its place

module _ (t : KeptTraffic) (fs : List KeptFlow) (ts : List TrainState) (i : ℕ) (f : KeptFlow)
    (is : kept fs ts ≡ t) (sound : IsSound fs ts) (at : f ≡ get_or fs i f) where
  here : (k : ℕ) → Some i ≡ flow_place k t → IsFlowAt k t fs ts i f
  here k e = flow_at k t fs ts i f is e at

  no_train_here : (k : ℕ) → Some i ≡ flow_place k t → (n : Net) → find_train k (with_traffic t n) ≡ None
  no_train_here k e n =
      let h = here k e in
      subst (λ k. find_train k (with_traffic t n) ≡ None) h.number
      (subst (λ t. find_train f.state.number (with_traffic t n) ≡ None) is
      (flow_is_no_train fs ts i f sound h.within at n))

  pub flow_send_is : (k : ℕ) (n : Net) → source_place k t ≡ Some (Flow i) →
      next_send k (with_traffic t n) ≡ Some (data_send f.state.flow)
  flow_send_is k n e =
      let place = flow_there k i t e in
      send_by_flow k (with_traffic t n) f.state (no_train_here k place n) ((here k place).found n)

  pub flow_may : MaySendAt (Flow i) t → may_send f.state ≡ true
  flow_may m =
      let place = flow_there m.number i t m.place in
      let n = initial_net in
      sym (emitting_by_flow m.number (with_traffic t n) f.state (no_train_here m.number place n) ((here m.number place).found n))
      ∙ m.may n

  pub flow_emits : (g : KeptFlow) (now : ℕ) (r : Origin) →
      (g ≡ record f { state = record f.state { sender = emitted_by f.state.flow now f.state.sender } }) →
      r ≡ BySender f.state.number (emitted f.state.sender) →
      (s : EventContext) (k : ℕ) (n : Net) (send : SendSpec) → s.now ≡ now → source_place k t ≡ Some (Flow i) →
      next_send k (with_traffic t n) ≡ Some send →
      emission s k (with_traffic t n) ≡ make s r send (with_traffic (kept (set fs i g) ts) n)
  flow_emits g now r e er s k n send moment source sends =
      let place = flow_there k i t source in
      let h = here k place in
      let m = with_traffic t n in
      let new = with_traffic (kept (set fs i g) ts) n in
      let put = λ (x : ℕ). let y : FlowState = record f.state { sender = emitted_by f.state.flow x f.state.sender } in put_flow y m in
      let made = make s (BySender f.state.number (emitted f.state.sender)) (data_send f.state.flow) in
      let same : data_send f.state.flow ≡ send = same_Some _ _ (sym (flow_send_is k n source) ∙ sends) in
      emission_by_flow s k m f.state (no_train_here k place n) (h.found n)
      ∙ ap (λ x. made (put x)) moment
      ∙ ap made (ap (λ (y : KeptFlow). put_flow y.state m) (sym e) ∙ h.put g n (ap (λ (y : KeptFlow). y.state.number) e ∙ h.number))
      ∙ (λ j. make s (sym er j) (same j) new)

-- ---- a train at its place

module _ (t : KeptTraffic) (fs : List KeptFlow) (ts : List TrainState) (i : ℕ) (u : TrainState)
    (is : kept fs ts ≡ t) (at : u ≡ get_or ts i u) where
  standing : (k : ℕ) → source_place k t ≡ Some (Train i) → IsTrainAt k t fs ts i u
  standing k e = train_at k t fs ts i u is (train_there k i t e) at

  pub train_send_is : (k : ℕ) (n : Net) → source_place k t ≡ Some (Train i) →
      next_send k (with_traffic t n) ≡ Some u.train.packet
  train_send_is k n e = send_by_train k (with_traffic t n) u ((standing k e).found n)

  pub train_may : MaySendAt (Train i) t → has_left u ≡ true
  train_may m =
      let n = initial_net in
      sym (emitting_by_train m.number (with_traffic t n) u ((standing m.number m.place).found n)) ∙ m.may n

  pub train_emits : (v : TrainState) (r : Origin) → (v ≡ record u { sent = u.sent + 1 }) → r ≡ ByTrain u.number →
      (s : EventContext) (k : ℕ) (n : Net) (send : SendSpec) → source_place k t ≡ Some (Train i) →
      next_send k (with_traffic t n) ≡ Some send →
      emission s k (with_traffic t n) ≡ make s r send (with_traffic (kept fs (set ts i v)) n)
  train_emits v r e er s k n send source sends =
      let h = standing k source in
      let m = with_traffic t n in
      let new = with_traffic (kept fs (set ts i v)) n in
      let same : u.train.packet ≡ send = same_Some _ _ (sym (train_send_is k n source) ∙ sends) in
      emission_by_train s k m u (h.found n)
      ∙ ap (make s (ByTrain u.number) u.train.packet)
      (ap (λ v. put_train v m) (sym e) ∙ h.put v n (ap (λ (u : TrainState). u.number) e ∙ h.number))
      ∙ (λ j. make s (sym er j) (same j) new)

-- ---- what never changes

abbrev flow_head : KeptFlow → FlowHead
flow_head f = record { number = f.state.number; flow = f.state.flow }

abbrev train_head : TrainState → TrainHead
train_head u = record { number = u.number; train = u.train }

same_heads : {X Y : Type 0} (h : X → Y) (xs : List X) (i : ℕ) (x y : X) → x ≡ get_or xs i x → h y ≡ h x →
    map h (set xs i y) ≡ map h xs
same_heads h xs i x y at e =
    map-set h xs i y ∙ ap (set (map h xs) i) (e ∙ ap h at ∙ sym (get_or-map h xs i x)) ∙ set-get_or (map h xs) i (h x)

pub flow_heads : (t : KeptTraffic) (fs : List KeptFlow) (ts : List TrainState) (i : ℕ) (f g : KeptFlow) →
    kept fs ts ≡ t → f ≡ get_or fs i f → g.state.number ≡ f.state.number → g.state.flow ≡ f.state.flow →
    heads_of (kept (set fs i g) ts) ≡ heads_of t
flow_heads t fs ts i f g is at number flow =
    let heads = λ (hs : List FlowHead). let x : Heads = record { flows = hs; trains = map train_head ts } in x in
    let head : flow_head g ≡ flow_head f = λ j. record { number = number j; flow = flow j } in
    ap heads (same_heads flow_head fs i f g at head) ∙ ap heads_of is

pub train_heads : (t : KeptTraffic) (fs : List KeptFlow) (ts : List TrainState) (i : ℕ) (u v : TrainState) →
    kept fs ts ≡ t → u ≡ get_or ts i u → v.number ≡ u.number → v.train ≡ u.train →
    heads_of (kept fs (set ts i v)) ≡ heads_of t
train_heads t fs ts i u v is at number train =
    let heads = λ (hs : List TrainHead). let x : Heads = record { flows = map flow_head fs; trains = hs } in x in
    let head : train_head v ≡ train_head u = λ j. record { number = number j; train = train j } in
    ap heads (same_heads train_head ts i u v at head) ∙ ap heads_of is

-- ---- what is sent, by what never changes

element : {X : Type 0} (xs : List X) (i : ℕ) → i < length xs → (x : X) × (x ≡ get_or xs i x)
element [] i l = absurd (omega (arith, l))
element (x ∷ xs) zero l = (x, refl)
element (x ∷ xs) (suc i) l = element xs i (omega (arith, l))

headed : {X Y : Type 0} (h : X → Y) (send : Y → SendSpec) (xs : List X) (i : ℕ) (x : X) → i < length xs →
    x ≡ get_or xs i x → Some (send (h x)) ≡ option_map send (slice_get (map h xs) i)
headed h send xs i x l at =
    sym (ap (option_map send) (slice_get-map h xs i ∙ ap (option_map h) (slice_get-get_or xs i x l ∙ ap Some (sym at))))

module _ (k i : ℕ) (t : KeptTraffic) (fs : List KeptFlow) (ts : List TrainState) (is : kept fs ts ≡ t) where
  pub flow_sends : IsSound fs ts → Some i ≡ flow_place k t → (n : Net) →
      next_send k (with_traffic t n) ≡ send_at (Flow i) (heads_of t)
  flow_sends sound e n =
      let l = subst (λ (t : KeptTraffic). i < length t.flows) (sym is) (flow_within k i t e) in
      let f = element fs i l in
      send_by_flow k (with_traffic t n) f.0.state (no_train_here t fs ts i f.0 is sound f.1 k e n)
      ((here t fs ts i f.0 is sound f.1 k e).found n)
      ∙ headed flow_head (λ h. data_send h.flow) fs i f.0 l f.1
      ∙ ap (λ t. send_at (Flow i) (heads_of t)) is

  pub train_sends : Some i ≡ train_place k t → (n : Net) →
      next_send k (with_traffic t n) ≡ send_at (Train i) (heads_of t)
  train_sends e n =
      let l = subst (λ (t : KeptTraffic). i < length t.trains) (sym is) (train_within k i t e) in
      let u = element ts i l in
      send_by_train k (with_traffic t n) u.0 ((train_at k t fs ts i u.0 is e u.1).found n)
      ∙ headed train_head (λ h. h.train.packet) ts i u.0 l u.1
      ∙ ap (λ t. send_at (Train i) (heads_of t)) is

pub sends_nothing : (k : ℕ) (t : KeptTraffic) → None ≡ flow_place k t → None ≡ train_place k t →
    (at : EventContext) (n : Net) → emission at k (with_traffic t n) ≡ with_traffic t n
sends_nothing k t none other at n = emission_by_none at k (with_traffic t n) (no_train k t other n) (no_flow k t none n)

-- a place of a flow as it is kept
pub within_kept : (t : KeptTraffic) (fs : List KeptFlow) (ts : List TrainState) (i : ℕ) → kept fs ts ≡ t →
    i < length t.flows → i < length fs
within_kept t fs ts i is l = subst (λ (t : KeptTraffic). i < length t.flows) (sym is) l

-- there are at most 256 places
module _ (k i : ℕ) (t : KeptTraffic) (fs : List KeptFlow) (ts : List TrainState) (is : kept fs ts ≡ t) (sound : IsSound fs ts) where
  pub flow_few : Some i ≡ flow_place k t → i < 256
  flow_few e =
      let l : i < length fs = subst (λ (t : KeptTraffic). i < length t.flows) (sym is) (flow_within k i t e) in
      omega (arith, l, sound.few, length-map fs (λ (f : KeptFlow). f.state.number))

  pub train_few : Some i ≡ train_place k t → i < 256
  train_few e =
      let l : i < length ts = subst (λ (t : KeptTraffic). i < length t.trains) (sym is) (train_within k i t e) in
      omega (arith, l, sound.few, length-map ts (λ (u : TrainState). u.number))

  -- the header of the acknowledgements is that of the place
  pub replies : (f : KeptFlow) → Some i ≡ flow_place k t → f ≡ get_or fs i f →
      reply_at i (heads_of t) ≡ Some (ack_send f.state.flow)
  replies f e at =
      let l : i < length fs = subst (λ (t : KeptTraffic). i < length t.flows) (sym is) (flow_within k i t e) in
      sym (headed flow_head (λ h. ack_send h.flow) fs i f l at ∙ ap (λ t. reply_at i (heads_of t)) is)
