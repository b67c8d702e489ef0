-- What passes through an instance of a pipe keeps its order.
use Rattle.std.proofs.Common.{◌≡◌, ℕ, zero, suc, ◌+◌, ◌≤◌, List, [], ◌∷◌, ◌++◌, Bool, true, false, refl, sym, ◌∙◌, ap, subst, Option, Some, None, inl, inr, append_assoc, append-nil, arith}
use Rattle.std.specs.Prelude.{if◌then◌else◌, ◌⊎◌, ◌≢◌, ◌==◌, ◌&&◌, nat_lt, map, length, flat_map, find, count_by, option_to_list}
use Rattle.std.specs.Option.{option_map_or}
use Rattle.std.specs.List.{AllByRecursion}
use Rattle.std.proofs.lemmas.Grind.{flat_map-append}
use Rattle.std.proofs.lemmas.Bool.{cases_eq, eq-eqb, ne_eqb, and_from, and_left, and_right}
use Rattle.emu_model.specs.Types.{Timed, Packet, PipeConfig, Deleted, Trace, Command, Record, PacketArrived, PacketFinished, PacketDelivered, PacketPassed, PacketDropped}
use Rattle.emu_model.specs.Lists.{replace_first, remove_first}
use Rattle.emu_model.specs.FlowIds.{flow_id}
use Rattle.emu_model.specs.Delay.{first_item, leave}
use Rattle.emu_model.specs.Pipes.{InService, PipeState, After, Drop, pipe_packets, instance_for, pipe_arrive, pipe_finish, pipe_exit, pipe_configure}
use Rattle.emu_model.specs.Net.{Net, EventContext, opening_net, note, note_all, drop_record, note_traced, identify_record, arrive_records, arrivals, make_record, load_by, packet_of, find_pipe, put_pipe, put_after, to_direct}
use Rattle.emu_model.specs.Commands.{new_pipe, delete_pipe, obey}
use Rattle.emu_model.specs.Events.{flying_in, served_in, note_finish}
use Rattle.emu_model.specs.Step.{initial_state}
use Rattle.emu_model.specs.Alone.{alone}
use Rattle.emu_model.specs.TraceLaws.{IsTraced, IsSublist, arrives_in, finishes_in, passes_in, flight_in, under_way, LeavesInOrder, FinishesKeepOrder, ExitsKeepOrder}
use Rattle.emu_model.proofs.Numbers.{one_if, replaced-count, none-found, with_pipe-count, one_more, removed-le, pipe_arrive-kept, pipe_finish-kept}
use Rattle.emu_model.proofs.Sublists.{sub-refl, sub-same, sub-trans, sub-joined, sub-front}
use Rattle.emu_model.proofs.InstanceOrder.{served_numbers, first_number}
use Rattle.emu_model.proofs.PipeOrder.{inside_in, PipeCame, PipeServed, pipe_arrive-came, finish-here, finish-other, exit-here, exit-other, exit-inside, configure-in_flight, configure-inside}
use Rattle.emu_model.proofs.FoundPipes.{in_pipe, found-number, replaced-here, replaced-other, removed-here, removed-other, inserted-same}
use Rattle.emu_model.proofs.ChangesWalk.{IsSilent, Keeps, Fits, walks, walks_on, all_fit}

-- no two pipes have one number
Few : List PipeState → Type 0
Few ps = (j : ℕ) → count_by (λ q. q.number == j) ps ≤ 1

few-put : (i : ℕ) (p y : PipeState) (ps : List PipeState) → find (λ q. q.number == i) ps ≡ Some p →
    y.number ≡ p.number → Few ps → Few (replace_first (λ q. q.number == i) y ps)
unfolding Few
few-put i p y ps e same few j =
    let bit : one_if (y.number == j) ≡ one_if (p.number == j) = ap (λ x. one_if (x == j)) same in
    omega (arith, few j, replaced-count (λ q. q.number == j) (λ q. q.number == i) p y ps e)

module _ (pipe k : ℕ) where
  finished : List Record → List ℕ
  finished rs = flat_map (finishes_in pipe k) rs

  passed : List Record → List ℕ
  passed rs = flat_map (passes_in pipe k) rs

  arrived : List Record → List ℕ
  arrived rs = flat_map (arrives_in pipe k) rs

  -- what is in service or waits there
  inside : Net → List ℕ
  inside n = in_pipe (inside_in k) pipe n.pipes

  -- records that say nothing of the instance
  record Still (rs : List Record) : Type 0 where
    finished_none : finished rs ≡ []
    passed_none : passed rs ≡ []
    arrived_none : arrived rs ≡ []

  still-joined : (rs ss : List Record) → Still rs → Still ss → Still (rs ++ ss)
  unfolding finished passed arrived
  still-joined rs ss p q = record {
    finished_none = flat_map-append (finishes_in pipe k) rs ss ∙ ap (λ x. x ++ finished ss) p.finished_none ∙ q.finished_none;
    passed_none = flat_map-append (passes_in pipe k) rs ss ∙ ap (λ x. x ++ passed ss) p.passed_none ∙ q.passed_none;
    arrived_none = flat_map-append (arrives_in pipe k) rs ss ∙ ap (λ x. x ++ arrived ss) p.arrived_none ∙ q.arrived_none;
  }

  still-nil : Still []
  unfolding finished passed arrived
  still-nil = record { finished_none = refl; passed_none = refl; arrived_none = refl }

  still-if : (b : Bool) (rs : List Record) → Still rs → Still (if b then rs else [])
  still-if true rs h = h
  still-if false rs h = still-nil

  -- one such record before others
  still-cons : (r : Record) (rs : List Record) → finishes_in pipe k r ≡ [] → passes_in pipe k r ≡ [] →
      arrives_in pipe k r ≡ [] → Still rs → Still (r ∷ rs)
  unfolding finished passed arrived
  still-cons r rs f g a h = record {
    finished_none = ap (λ x. x ++ finished rs) f ∙ h.finished_none;
    passed_none = ap (λ x. x ++ passed rs) g ∙ h.passed_none;
    arrived_none = ap (λ x. x ++ arrived rs) a ∙ h.arrived_none;
  }

  still-drops : (now : ℕ) (ds : List Drop) → Still (map (drop_record now) ds)
  still-drops now [] = still-nil
  still-drops now (d ∷ ds) = still-cons (drop_record now d) (map (drop_record now) ds) refl refl refl (still-drops now ds)

  still-silent : (rs : List Record) → AllByRecursion IsSilent rs → Still rs
  still-silent [] h = still-nil
  still-silent (r ∷ rs) h = go r h.0 (still-silent rs h.1)
    where
      go : (q : Record) → IsSilent q → Still rs → Still (q ∷ rs)
      go (PacketArrived m p i j) e s = absurd (cc e)
      go (PacketFinished m p i j) e s = absurd (cc e)
      go (PacketPassed m p i j) e s = absurd (cc e)
      go r e s = still-cons r rs refl refl refl s

  -- from n to m these records came, and these left the instance
  record Change (n m : Net) (rs : List Record) : Type 0 where
    trace : m.trace ≡ n.trace
    recorded : m.records ≡ n.records ++ rs
    few : Few n.pipes → Few m.pipes
    left : List ℕ
    flows : under_way pipe k n ++ finished rs ≡ left ++ under_way pipe k m
    passes : IsSublist (passed rs) left
    comes : n.trace ≡ true → IsSublist (finished rs ++ inside m) (inside n ++ arrived rs)

  -- what holds of each net; of a traced run if `t`
  record Ordered (t : Bool) (o : Option Packet) (n : Net) : Type 0 where
    few : Few n.pipes
    leaves : LeavesInOrder pipe k n
    trace : t ≡ true → n.trace ≡ true
    comes : t ≡ true → IsSublist (finished n.records ++ inside n) (arrived n.records)

  changed-leaves : (n m : Net) (rs : List Record) → Change n m rs → LeavesInOrder pipe k n → LeavesInOrder pipe k m
  unfolding finished passed
  changed-leaves n m rs c h = record {
    gone = h.gone ++ c.left;
    first_left =
        ap finished c.recorded ∙ flat_map-append (finishes_in pipe k) n.records rs
        ∙ ap (λ x. x ++ finished rs) h.first_left ∙ append_assoc h.gone (under_way pipe k n) (finished rs)
        ∙ ap (λ x. h.gone ++ x) c.flows ∙ sym (append_assoc h.gone c.left (under_way pipe k m));
    passed =
        subst (λ x. IsSublist x (h.gone ++ c.left))
        (sym (ap passed c.recorded ∙ flat_map-append (passes_in pipe k) n.records rs))
        (sub-joined (passed n.records) h.gone (passed rs) c.left h.passed c.passes);
  }

  changed-comes : (n m : Net) (rs : List Record) → Change n m rs → n.trace ≡ true →
      IsSublist (finished n.records ++ inside n) (arrived n.records) →
      IsSublist (finished m.records ++ inside m) (arrived m.records)
  unfolding finished arrived
  changed-comes n m rs c t h =
      let old : List ℕ = finished n.records in
      let new : List ℕ = finished rs in
      let come : List ℕ = arrived rs in
      let a : IsSublist (old ++ (new ++ inside m)) (old ++ (inside n ++ come)) =
      sub-joined old old (new ++ inside m) (inside n ++ come) (sub-refl old) (c.comes t) in
      let b : IsSublist ((old ++ inside n) ++ come) (arrived n.records ++ come) =
      sub-joined (old ++ inside n) (arrived n.records) come come h (sub-refl come) in
      let d : IsSublist ((old ++ new) ++ inside m) (arrived n.records ++ come) =
      sub-trans ((old ++ new) ++ inside m) (old ++ (inside n ++ come)) (arrived n.records ++ come)
      (subst (λ x. IsSublist x (old ++ (inside n ++ come))) (sym (append_assoc old new (inside m))) a)
      (subst (λ x. IsSublist x (arrived n.records ++ come)) (append_assoc old (inside n) come) b) in
      subst (IsSublist (finished m.records ++ inside m))
      (sym (ap arrived c.recorded ∙ flat_map-append (arrives_in pipe k) n.records rs))
      (subst (λ x. IsSublist (x ++ inside m) (arrived n.records ++ come))
      (sym (ap finished c.recorded ∙ flat_map-append (finishes_in pipe k) n.records rs)) d)

  changed : (t : Bool) (o j : Option Packet) (n m : Net) (rs : List Record) → Change n m rs → Ordered t o n →
      Ordered t j m
  changed t o j n m rs c h = record {
    few = c.few h.few;
    leaves = changed-leaves n m rs c h.leaves;
    trace = λ e. c.trace ∙ h.trace e;
    comes = λ e. changed-comes n m rs c (h.trace e) (h.comes e);
  }

  -- the pipes are the same but for what isn't seen in the instance
  unseen : (n m : Net) (rs : List Record) → Still rs → m.trace ≡ n.trace → m.records ≡ n.records ++ rs →
      (Few n.pipes → Few m.pipes) → under_way pipe k m ≡ under_way pipe k n → inside m ≡ inside n → Change n m rs
  unseen n m rs s t r f w i = record {
    trace = t;
    recorded = r;
    few = f;
    left = [];
    flows = ap (λ x. under_way pipe k n ++ x) s.finished_none ∙ append-nil (under_way pipe k n) ∙ sym w;
    passes = sub-same (passed rs) [] s.passed_none;
    comes = λ e.
        subst (λ x. IsSublist (x ++ inside m) (inside n ++ arrived rs)) (sym s.finished_none)
        (subst (λ x. IsSublist x (inside n ++ arrived rs)) (sym i) (sub-front (inside n) (arrived rs)));
  }

  -- the pipes are the same
  same-pipes : (n m : Net) (rs : List Record) → Still rs → m.trace ≡ n.trace → m.records ≡ n.records ++ rs →
      m.pipes ≡ n.pipes → Change n m rs
  unfolding inside
  same-pipes n m rs s t r p =
      unseen n m rs s t r (subst Few (sym p)) (ap (in_pipe (flight_in k) pipe) p) (ap (in_pipe (inside_in k) pipe) p)

  -- nothing is recorded
  same-records : (n m : Net) → m.trace ≡ n.trace → m.records ≡ n.records → m.pipes ≡ n.pipes → Change n m []
  same-records n m t r p = same-pipes n m [] still-nil t (r ∙ sym (append-nil n.records)) p

  -- what is seen in the instance where its own pipe is changed
  record Seen (p y : PipeState) (traced : Bool) (rs : List Record) : Type 0 where
    left : List ℕ
    flows : flight_in k p ++ finished rs ≡ left ++ flight_in k y
    passes : IsSublist (passed rs) left
    comes : traced ≡ true → IsSublist (finished rs ++ inside_in k y) (inside_in k p ++ arrived rs)

  -- pipe i is put in place of p
  put-changes : (i : ℕ) (p y : PipeState) (n m : Net) (rs : List Record) → find_pipe i n ≡ Some p →
      y.number ≡ p.number → m.pipes ≡ replace_first (λ q. q.number == i) y n.pipes → m.trace ≡ n.trace →
      m.records ≡ n.records ++ rs → ((i ≡ pipe → ⊥) → Still rs) → (i ≡ pipe → Seen p y n.trace rs) → Change n m rs
  unfolding inside
  put-changes i p y n m rs e same new t r still seen = go (cases_eq i pipe)
    where
      go : (i ≡ pipe) ⊎ (i ≡ pipe → ⊥) → Change n m rs
      go (inr h) =
          let found : find (λ q. q.number == pipe) m.pipes ≡ find (λ q. q.number == pipe) n.pipes =
          ap (find (λ q. q.number == pipe)) new ∙ replaced-other i pipe y n.pipes h (same ∙ found-number i p n.pipes e) in
          unseen n m rs (still h) t r (λ f. subst Few (sym new) (few-put i p y n.pipes e same f))
          (ap (λ o. option_map_or (flight_in k) o []) found) (ap (λ o. option_map_or (inside_in k) o []) found)
      go (inl h) =
          let s : Seen p y n.trace rs = seen h in
          let old : find (λ q. q.number == pipe) n.pipes ≡ Some p = subst (λ z. find (λ q. q.number == z) n.pipes ≡ Some p) h e in
          let there : find (λ q. q.number == pipe) m.pipes ≡ Some y =
          ap (find (λ q. q.number == pipe)) new
          ∙ subst (λ z. find (λ q. q.number == z) (replace_first (λ q. q.number == i) y n.pipes) ≡ Some y) h
          (replaced-here i p y n.pipes e (same ∙ found-number i p n.pipes e)) in
          let was : under_way pipe k n ≡ flight_in k p = ap (λ o. option_map_or (flight_in k) o []) old in
          let is : under_way pipe k m ≡ flight_in k y = ap (λ o. option_map_or (flight_in k) o []) there in
          let had : inside n ≡ inside_in k p = ap (λ o. option_map_or (inside_in k) o []) old in
          let has : inside m ≡ inside_in k y = ap (λ o. option_map_or (inside_in k) o []) there in
          record {
            trace = t;
            recorded = r;
            few = λ f. subst Few (sym new) (few-put i p y n.pipes e same f);
            left = s.left;
            flows = ap (λ x. x ++ finished rs) was ∙ s.flows ∙ ap (λ x. s.left ++ x) (sym is);
            passes = s.passes;
            comes = λ tr.
                subst (λ x. IsSublist (finished rs ++ x) (inside n ++ arrived rs)) (sym has)
                (subst (λ x. IsSublist (finished rs ++ inside_in k y) (x ++ arrived rs)) (sym had) (s.comes tr));
          }

  -- of another pipe or another instance, and of this one
  foreign-pipe : (a b : ℕ) (xs : List ℕ) → (a ≡ pipe → ⊥) → (if a == pipe && b == k then xs else []) ≡ []
  foreign-pipe a b xs h = ap (λ t. if t then xs else []) (and_left (a == pipe) (b == k) (ne_eqb a pipe h))

  foreign-instance : (a b : ℕ) (xs : List ℕ) → (b ≡ k → ⊥) → (if a == pipe && b == k then xs else []) ≡ []
  foreign-instance a b xs h = ap (λ t. if t then xs else []) (and_right (a == pipe) (b == k) (ne_eqb b k h))

  its-own : (a b : ℕ) (xs : List ℕ) → a ≡ pipe → b ≡ k → (if a == pipe && b == k then xs else []) ≡ xs
  its-own a b xs g h =
      ap (λ t. if t then xs else []) (and_from (a == pipe) (b == k) (eq-eqb a pipe g) (eq-eqb b k h))

  -- what is said where some finished, and where some left
  served-seen : (p y : PipeState) (traced : Bool) (rs : List Record) (done : List ℕ) → finished rs ≡ done →
      passed rs ≡ [] → PipeServed k p y done → Seen p y traced rs
  served-seen p y traced rs done f g s = record {
    left = [];
    flows = ap (λ x. flight_in k p ++ x) f ∙ s.in_flight;
    passes = sub-same (passed rs) [] g;
    comes = λ e.
        subst (λ x. IsSublist (x ++ inside_in k y) (inside_in k p ++ arrived rs)) (sym f)
        (sub-trans (done ++ inside_in k y) (inside_in k p) (inside_in k p ++ arrived rs) s.inside
        (sub-front (inside_in k p) (arrived rs)));
  }

  left-seen : (p y : PipeState) (traced : Bool) (rs : List Record) (left : List ℕ) → finished rs ≡ [] →
      flight_in k p ≡ left ++ flight_in k y → IsSublist (passed rs) left → inside_in k y ≡ inside_in k p →
      Seen p y traced rs
  left-seen p y traced rs left f g h i = record {
    left = left;
    flows = ap (λ x. flight_in k p ++ x) f ∙ append-nil (flight_in k p) ∙ g;
    passes = h;
    comes = λ e.
        subst (λ x. IsSublist (x ++ inside_in k y) (inside_in k p ++ arrived rs)) (sym f)
        (subst (λ x. IsSublist x (inside_in k p ++ arrived rs)) (sym i) (sub-front (inside_in k p) (arrived rs)));
  }

  -- arrivals in another pipe, and in this one
  arrivals-still : (now : ℕ) (p : Packet) (q : PipeState) → (q.number ≡ pipe → ⊥) → Still (arrivals now p q)
  arrivals-still now p q h = go (instance_for p q)
    where
      one : (j : ℕ) → Still (PacketArrived now p.number q.number j ∷ [])
      one j =
          still-cons (PacketArrived now p.number q.number j) [] refl refl (foreign-pipe q.number j (p.number ∷ []) h)
          still-nil

      came : (j : ℕ) (b : Bool) → Still (if b then PacketArrived now p.number q.number j ∷ []
          else identify_record now q.number j (flow_id q.config.mask p) ∷ PacketArrived now p.number q.number j ∷ [])
      came j true = one j
      came j false =
          still-cons (identify_record now q.number j (flow_id q.config.mask p))
          (PacketArrived now p.number q.number j ∷ []) refl refl refl (one j)

      go : (o : Option ℕ) → Still (option_map_or (arrive_records now p q) o [])
      go None = still-nil
      go (Some j) = came j (nat_lt j (length q.instances))

  -- they say only what arrived
  arrivals-only : (now : ℕ) (p : Packet) (q : PipeState) →
      (finished (arrivals now p q) ≡ []) × (passed (arrivals now p q) ≡ [])
  unfolding finished passed
  arrivals-only now p q = go (instance_for p q)
    where
      came : (j : ℕ) (b : Bool) (r : Record) → finishes_in pipe k r ≡ [] → passes_in pipe k r ≡ [] →
          let rs = if b then PacketArrived now p.number q.number j ∷ [] else r ∷ PacketArrived now p.number q.number j ∷ [] in
          (flat_map (finishes_in pipe k) rs ≡ []) × (flat_map (passes_in pipe k) rs ≡ [])
      came j true r f g = (refl, refl)
      came j false r f g = (ap (λ x. x ++ []) f, ap (λ x. x ++ []) g)

      go : (o : Option ℕ) →
          let rs = option_map_or (arrive_records now p q) o [] in
          (flat_map (finishes_in pipe k) rs ≡ []) × (flat_map (passes_in pipe k) rs ≡ [])
      go None = (refl, refl)
      go (Some j) =
          came j (nat_lt j (length q.instances)) (identify_record now q.number j (flow_id q.config.mask p)) refl refl

  arrived-seen : (at : EventContext) (p : Packet) (q : PipeState) (traced : Bool) → q.number ≡ pipe →
      let a = pipe_arrive at.seed at.now p q in
      Seen q a.state traced ((if traced then arrivals at.now p q else []) ++ map (drop_record at.now) a.dropped)
  unfolding finished passed arrived
  arrived-seen at p q traced same = go traced
    where
      a : After PipeState
      a = pipe_arrive at.seed at.now p q

      fallen : List Record
      fallen = map (drop_record at.now) (pipe_arrive at.seed at.now p q).dropped

      none : Still (map (drop_record at.now) (pipe_arrive at.seed at.now p q).dropped)
      none = still-drops at.now (pipe_arrive at.seed at.now p q).dropped

      c : PipeCame k q (pipe_arrive at.seed at.now p q).state (flat_map (arrives_in q.number k) (arrivals at.now p q))
      c = pipe_arrive-came at.seed at.now p q k

      go : (b : Bool) →
          Seen q (pipe_arrive at.seed at.now p q).state b
          ((if b then arrivals at.now p q else []) ++ map (drop_record at.now) (pipe_arrive at.seed at.now p q).dropped)
      go false = record {
        left = [];
        flows = ap (λ x. flight_in k q ++ x) none.finished_none ∙ append-nil (flight_in k q) ∙ sym c.in_flight;
        passes = sub-same (passed fallen) [] none.passed_none;
        comes = λ e. absurd (cc e);
      }
      go true =
          let come : List Record = arrivals at.now p q in
          let only : (finished come ≡ []) × (passed come ≡ []) = arrivals-only at.now p q in
          let f : finished (come ++ fallen) ≡ [] =
          flat_map-append (finishes_in pipe k) come fallen ∙ ap (λ x. x ++ finished fallen) only.0 ∙ none.finished_none in
          let g : passed (come ++ fallen) ≡ [] =
          flat_map-append (passes_in pipe k) come fallen ∙ ap (λ x. x ++ passed fallen) only.1 ∙ none.passed_none in
          let h : arrived (come ++ fallen) ≡ flat_map (arrives_in q.number k) come =
          flat_map-append (arrives_in pipe k) come fallen ∙ ap (λ x. arrived come ++ x) none.arrived_none
          ∙ append-nil (arrived come) ∙ ap (λ z. flat_map (arrives_in z k) come) (sym same) in
          record {
            left = [];
            flows = ap (λ x. flight_in k q ++ x) f ∙ append-nil (flight_in k q) ∙ sym c.in_flight;
            passes = sub-same (passed (come ++ fallen)) [] g;
            comes = λ e.
                subst (λ x. IsSublist (x ++ inside_in k a.state) (inside_in k q ++ arrived (come ++ fallen))) (sym f)
                (subst (λ x. IsSublist (inside_in k a.state) (inside_in k q ++ x)) (sym h) c.inside);
          }

  arrived-changes : (at : EventContext) (i : ℕ) (p : Packet) (q : PipeState) (n : Net) → find_pipe i n ≡ Some q →
      let a = pipe_arrive at.seed at.now p q in
      Change n (put_after at.now i a (note_traced (arrivals at.now p q) n))
      ((if n.trace then arrivals at.now p q else []) ++ map (drop_record at.now) a.dropped)
  arrived-changes at i p q n e =
      let a : After PipeState = pipe_arrive at.seed at.now p q in
      let come : List Record = if n.trace then arrivals at.now p q else [] in
      let fallen : List Record = map (drop_record at.now) a.dropped in
      let number : q.number ≡ i = found-number i q n.pipes e in
      put-changes i q a.state n (put_after at.now i a (note_traced (arrivals at.now p q) n)) (come ++ fallen) e
      (pipe_arrive-kept at.seed at.now p q).number refl refl (append_assoc n.records come fallen)
      (λ h. still-joined come fallen (still-if n.trace (arrivals at.now p q) (arrivals-still at.now p q (λ g. h (sym number ∙ g))))
      (still-drops at.now a.dropped))
      (λ h. arrived-seen at p q n.trace (number ∙ h))

  -- what is recorded of a finish
  finish_records : ℕ → ℕ → ℕ → Option (InService Packet) → List Record
  finish_records now at i o = map (λ s. PacketFinished now s.item.number at i) (option_to_list o)

  finish-foreign : (now at i : ℕ) (o : Option (InService Packet)) → (at ≡ pipe → ⊥) → Still (finish_records now at i o)
  unfolding finish_records
  finish-foreign now at i None h = still-nil
  finish-foreign now at i (Some s) h =
      still-cons (PacketFinished now s.item.number at i) [] (foreign-pipe at i (s.item.number ∷ []) h) refl refl
      still-nil

  finish-own : (now at i : ℕ) (o : Option (InService Packet)) → at ≡ pipe → i ≡ k →
      finished (finish_records now at i o) ≡ served_numbers o
  unfolding finish_records finished
  finish-own now at i None g h = refl
  finish-own now at i (Some s) g h = ap (λ x. x ++ []) (its-own at i (s.item.number ∷ []) g h)

  finish-other-instance : (now at i : ℕ) (o : Option (InService Packet)) → (i ≡ k → ⊥) →
      finished (finish_records now at i o) ≡ []
  unfolding finish_records finished
  finish-other-instance now at i None h = refl
  finish-other-instance now at i (Some s) h = ap (λ x. x ++ []) (foreign-instance at i (s.item.number ∷ []) h)

  finish-unpassed : (now at i : ℕ) (o : Option (InService Packet)) → passed (finish_records now at i o) ≡ []
  unfolding finish_records passed
  finish-unpassed now at i None = refl
  finish-unpassed now at i (Some s) = refl

  noted-finish : (now at i : ℕ) (o : Option (InService Packet)) (n : Net) (a : After PipeState) →
      (put_after now at a (note_finish now at i o n)).records
      ≡ n.records ++ (finish_records now at i o ++ map (drop_record now) a.dropped)
  unfolding finish_records
  noted-finish now at i None n a = refl
  noted-finish now at i (Some s) n a =
      append_assoc n.records (PacketFinished now s.item.number at i ∷ []) (map (drop_record now) a.dropped)

  finish-same : (now at i : ℕ) (o : Option (InService Packet)) (n : Net) →
      ((note_finish now at i o n).pipes ≡ n.pipes) × ((note_finish now at i o n).trace ≡ n.trace)
  finish-same now at i None n = (refl, refl)
  finish-same now at i (Some s) n = (refl, refl)

  finished-seen : (now at i : ℕ) (p : PipeState) (traced : Bool) → at ≡ pipe →
      let a = pipe_finish now i p in
      Seen p a.state traced (finish_records now at i (served_in i p) ++ map (drop_record now) a.dropped)
  unfolding finished passed
  finished-seen now at i p traced same = go (cases_eq i k)
    where
      a : After PipeState
      a = pipe_finish now i p

      fin : List Record
      fin = finish_records now at i (served_in i p)

      fallen : List Record
      fallen = map (drop_record now) (pipe_finish now i p).dropped

      none : Still (map (drop_record now) (pipe_finish now i p).dropped)
      none = still-drops now (pipe_finish now i p).dropped

      unpassed : passed (finish_records now at i (served_in i p) ++ map (drop_record now) (pipe_finish now i p).dropped) ≡ []
      unpassed =
          flat_map-append (passes_in pipe k) fin fallen
          ∙ ap (λ x. x ++ passed fallen) (finish-unpassed now at i (served_in i p)) ∙ none.passed_none

      says : (done : List ℕ) → finished (finish_records now at i (served_in i p)) ≡ done →
          finished (finish_records now at i (served_in i p) ++ map (drop_record now) (pipe_finish now i p).dropped) ≡ done
      says done f =
          flat_map-append (finishes_in pipe k) fin fallen ∙ ap (λ x. finished fin ++ x) none.finished_none
          ∙ append-nil (finished fin) ∙ f

      go : (i ≡ k) ⊎ (i ≡ k → ⊥) →
          Seen p (pipe_finish now i p).state traced
          (finish_records now at i (served_in i p) ++ map (drop_record now) (pipe_finish now i p).dropped)
      go (inr h) =
          served-seen p a.state traced (fin ++ fallen) [] (says [] (finish-other-instance now at i (served_in i p) h)) unpassed
          (finish-other now p i k h)
      go (inl h) =
          let done : List ℕ = served_numbers (served_in i p) in
          served-seen p a.state traced (fin ++ fallen) done (says done (finish-own now at i (served_in i p) same h)) unpassed
          (subst (λ z. PipeServed z p (pipe_finish now i p).state (served_numbers (served_in i p))) h (finish-here now p i))

  finished-changes : (now at i : ℕ) (p : PipeState) (n : Net) → find_pipe at n ≡ Some p →
      let a = pipe_finish now i p in
      Change n (put_after now at a (note_finish now at i (served_in i p) n))
      (finish_records now at i (served_in i p) ++ map (drop_record now) a.dropped)
  finished-changes now at i p n e =
      let a : After PipeState = pipe_finish now i p in
      let o : Option (InService Packet) = served_in i p in
      let same : ((note_finish now at i o n).pipes ≡ n.pipes) × ((note_finish now at i o n).trace ≡ n.trace) = finish-same now at i o n in
      put-changes at p a.state n (put_after now at a (note_finish now at i o n))
      (finish_records now at i o ++ map (drop_record now) a.dropped) e (pipe_finish-kept now i p).number
      (ap (replace_first (λ q. q.number == at) a.state) same.0) same.1 (noted-finish now at i o n a)
      (λ h. still-joined (finish_records now at i o) (map (drop_record now) a.dropped) (finish-foreign now at i o h)
      (still-drops now a.dropped))
      (λ h. finished-seen now at i p n.trace h)

  -- the first under way in instance i leaves
  exit-seen : (i : ℕ) (p : PipeState) (traced : Bool) (rs : List Record) → finished rs ≡ [] →
      (i ≡ k → IsSublist (passed rs) (first_number (flying_in i p))) → ((i ≡ k → ⊥) → passed rs ≡ []) →
      Seen p (pipe_exit i p) traced rs
  exit-seen i p traced rs f own other = go (cases_eq i k)
    where
      go : (i ≡ k) ⊎ (i ≡ k → ⊥) → Seen p (pipe_exit i p) traced rs
      go (inr h) =
          left-seen p (pipe_exit i p) traced rs [] f (sym (exit-other p i k h)) (sub-same (passed rs) [] (other h))
          (exit-inside p i k)
      go (inl h) =
          left-seen p (pipe_exit i p) traced rs (first_number (flying_in i p)) f
          (subst (λ z. flight_in z p ≡ first_number (flying_in i p) ++ flight_in z (pipe_exit i p)) h (exit-here p i))
          (own h) (exit-inside p i k)

  pipe_left-changes : (at i : ℕ) (p : PipeState) (n : Net) → find_pipe at n ≡ Some p →
      Change n (put_pipe at (pipe_exit i p) n) []
  unfolding finished passed
  pipe_left-changes at i p n e =
      put-changes at p (pipe_exit i p) n (put_pipe at (pipe_exit i p) n) [] e refl refl refl (sym (append-nil n.records))
      (λ h. still-nil) (λ h. exit-seen i p n.trace [] refl (λ g. tt) (λ g. refl))

  passed-changes : (now at i : ℕ) (q : Packet) (p : PipeState) (n : Net) → find_pipe at n ≡ Some p →
      flying_in i p ≡ Some q →
      let r = PacketPassed now q.number at i in
      Change n (note r (put_pipe at (pipe_exit i p) n)) (r ∷ [])
  unfolding finished passed
  passed-changes now at i q p n e g =
      let r : Record = PacketPassed now q.number at i in
      let first : first_number (flying_in i p) ≡ q.number ∷ [] = ap first_number g in
      put-changes at p (pipe_exit i p) n (note r (put_pipe at (pipe_exit i p) n)) (r ∷ []) e refl refl refl refl
      (λ h. still-cons r [] refl (foreign-pipe at i (q.number ∷ []) h) refl still-nil)
      (λ h. exit-seen i p n.trace (r ∷ []) refl
      (λ j. sub-same (passed (r ∷ [])) (first_number (flying_in i p))
      (ap (λ x. x ++ []) (its-own at i (q.number ∷ []) h j) ∙ sym first))
      (λ j. ap (λ x. x ++ []) (foreign-instance at i (q.number ∷ []) j)))

  configured-changes : (at : ℕ) (config : PipeConfig) (p : PipeState) (n : Net) → find_pipe at n ≡ Some p →
      Change n (put_pipe at (pipe_configure config p) n) []
  unfolding finished passed
  configured-changes at config p n e =
      let y : PipeState = pipe_configure config p in
      put-changes at p y n (put_pipe at y n) [] e refl refl refl (sym (append-nil n.records)) (λ h. still-nil)
      (λ h. left-seen p y n.trace [] [] refl (sym (configure-in_flight config p k)) tt (configure-inside config p k))

  opened-changes : (at : ℕ) (config : PipeConfig) (n : Net) → find_pipe at n ≡ None → Change n (new_pipe at config n) []
  unfolding inside Few
  opened-changes at config n e =
      let p : PipeState = record { number = at; config = config; instances = [] } in
      unseen n (new_pipe at config n) [] still-nil refl (sym (append-nil n.records))
      (λ f j. omega (
        arith,
        with_pipe-count (λ x. x.number == j) p n.pipes,
        one_more at j (λ z. count_by (λ q. q.number == z) n.pipes) (none-found (λ x. x.number == at) n.pipes e) (f j),
      ))
      (inserted-same (flight_in k) pipe p n.pipes refl e) (inserted-same (inside_in k) pipe p n.pipes refl e)

  -- a pipe goes: all that it held left it
  deleted-changes : (now at : ℕ) (p : PipeState) (n : Net) → Few n.pipes →
      Change n (delete_pipe now at n p)
      (map (drop_record now) (map (λ q. record { packet = q; cause = Deleted }) (pipe_packets p)))
  unfolding inside Few
  deleted-changes now at p n few = go (cases_eq at pipe)
    where
      m : Net
      m = delete_pipe now at n p

      rs : List Record
      rs = map (drop_record now) (map (λ q. record { packet = q; cause = Deleted }) (pipe_packets p))

      none : Still (map (drop_record now) (map (λ q. record { packet = q; cause = Deleted }) (pipe_packets p)))
      none = still-drops now (map (λ q. record { packet = q; cause = Deleted }) (pipe_packets p))

      fewer : Few (remove_first (λ q. q.number == at) n.pipes)
      fewer j = omega (arith, few j, removed-le (λ q. q.number == j) (λ q. q.number == at) n.pipes)

      go : (at ≡ pipe) ⊎ (at ≡ pipe → ⊥) →
          Change n (delete_pipe now at n p)
          (map (drop_record now) (map (λ q. record { packet = q; cause = Deleted }) (pipe_packets p)))
      go (inr h) =
          let found : find (λ q. q.number == pipe) m.pipes ≡ find (λ q. q.number == pipe) n.pipes = removed-other at pipe n.pipes h in
          unseen n m rs none refl refl (λ f. fewer) (ap (λ o. option_map_or (flight_in k) o []) found)
          (ap (λ o. option_map_or (inside_in k) o []) found)
      go (inl h) =
          let gone : find (λ q. q.number == pipe) m.pipes ≡ None =
          subst (λ z. find (λ q. q.number == z) (remove_first (λ q. q.number == at) n.pipes) ≡ None) h
          (removed-here at n.pipes (few at)) in
          let empty : under_way pipe k m ≡ [] = ap (λ o. option_map_or (flight_in k) o []) gone in
          let bare : inside m ≡ [] = ap (λ o. option_map_or (inside_in k) o []) gone in
          record {
            trace = refl;
            recorded = refl;
            few = λ f. fewer;
            left = under_way pipe k n;
            flows = ap (λ x. under_way pipe k n ++ x) (none.finished_none ∙ sym empty);
            passes = subst (λ x. IsSublist x (under_way pipe k n)) (sym none.passed_none) tt;
            comes = λ e.
                subst (λ x. IsSublist (x ++ inside m) (inside n ++ arrived rs)) (sym none.finished_none)
                (subst (λ x. IsSublist x (inside n ++ arrived rs)) (sym bare) tt);
          }

  ordered-keeps : (t : Bool) → Keeps (Ordered t)
  ordered-keeps t = record {
    quiet = λ o n m a h. changed t o o n m [] (same-records n m a.trace a.records a.pipes) h;
    said = λ rs n e h.
        changed t None None n (note_all rs n) rs
        (same-pipes n (note_all rs n) rs (still-silent rs e) refl refl refl) h;
    made = λ now l send n h.
        let r : Record = make_record now l (packet_of (load_by l) send n.made) in
        let rs : List Record = if n.trace then r ∷ [] else [] in
        let m : Net = note_traced (r ∷ []) (record n { made = n.made + 1 }) in
        changed t None (Some (packet_of (load_by l) send n.made)) n m rs
        (same-pipes n m rs (still-if n.trace (r ∷ []) (still-cons r [] refl refl refl still-nil)) refl refl refl) h;
    placed = λ place p n h.
        changed t (Some p) (Some (record p { place = place })) n n [] (same-records n n refl refl refl) h;
    dropped = λ now cause p n h.
        let r : Record = PacketDropped now p.number p.load cause in
        changed t (Some p) None n (note r n) (r ∷ [])
        (same-pipes n (note r n) (r ∷ []) (still-cons r [] refl refl refl still-nil) refl refl refl) h;
    entered = λ now p n h.
        changed t (Some p) None n (to_direct now p n) [] (same-records n (to_direct now p n) refl refl refl) h;
    left = λ n h.
        let m : Net = record n { direct = leave n.direct } in
        changed t None (first_item n.direct.in_flight) n m [] (same-records n m refl refl refl) h;
    delivered = λ now p n h.
        let r : Record = PacketDelivered now p.number p.load in
        changed t (Some p) None n (note r n) (r ∷ [])
        (same-pipes n (note r n) (r ∷ []) (still-cons r [] refl refl refl still-nil) refl refl refl) h;
    arrived = λ at i p q n e h. changed t (Some p) None n _ _ (arrived-changes at i p q n e) h;
    finished = λ now at i p n e h. changed t None None n _ _ (finished-changes now at i p n e) h;
    pipe_left = λ at i p n e h. changed t None (flying_in i p) n _ [] (pipe_left-changes at i p n e) h;
    passed = λ now at i q p n e g h. changed t None (Some q) n _ _ (passed-changes now at i q p n e g) h;
    configured = λ at config p n e h. changed t None None n _ [] (configured-changes at config p n e) h;
    opened = λ at config n e h. changed t None None n _ [] (opened-changes at config n e) h;
    deleted = λ now at p n e h. changed t None None n _ _ (deleted-changes now at p n h.few) h;
  }

  -- a run begins with no pipe
  few-none : Few []
  unfolding Few
  few-none j = omega arith

  begun : (b : Bool) → Ordered false None (opening_net b)
  begun b = record {
    few = few-none;
    leaves = record { gone = []; first_left = refl; passed = tt };
    trace = λ e. absurd (cc e);
    comes = λ e. absurd (cc e);
  }

  trace-ordered : (b : Bool) (n : Net) → Ordered false None n → Ordered false None (record n { trace = b })
  trace-ordered b n h = record {
    few = h.few;
    leaves = record { gone = h.leaves.gone; first_left = h.leaves.first_left; passed = h.leaves.passed };
    trace = λ e. absurd (cc e);
    comes = λ e. absurd (cc e);
  }

  -- `trace 1` keeps the order of a traced run
  trace-suits : (c : Command) → c ≢ Trace false → Fits (Ordered true) c
  unfolding inside
  trace-suits (Trace true) h = λ n g. record {
    few = g.few;
    leaves = record { gone = g.leaves.gone; first_left = g.leaves.first_left; passed = g.leaves.passed };
    trace = λ e. refl;
    comes = g.comes;
  }
  trace-suits (Trace false) h = absurd (h refl)
  trace-suits _ h = tt

  all-suit : (ts : List Timed) → AllByRecursion (λ u. u.command ≢ Trace false) ts →
      AllByRecursion (λ u. Fits (Ordered true) u.command) ts
  all-suit [] h = tt
  all-suit (t ∷ ts) h = (trace-suits t.command h.0, all-suit ts h.1)

  traced-opening : Ordered true None (opening_net true)
  unfolding finished arrived inside
  traced-opening = record {
    few = few-none;
    leaves = record { gone = []; first_left = refl; passed = tt };
    trace = λ e. refl;
    comes = λ e. tt;
  }

  traced-begun : (at : EventContext) (b : Bool) → Ordered true None (obey at 0 (Trace true) (opening_net b))
  unfolding finished arrived inside
  traced-begun at b = record {
    few = few-none;
    leaves = record { gone = []; first_left = refl; passed = tt };
    trace = λ e. refl;
    comes = λ e. tt;
  }

pub exits_keep_order : ExitsKeepOrder
exits_keep_order spec c n pipe k =
    (walks (Ordered pipe k false) (ordered-keeps pipe k false) n (initial_state spec c)
    (all_fit (Ordered pipe k false) (ordered-keeps pipe k false) (trace-ordered pipe k) c) (begun pipe k spec.traced)).leaves

pub finishes_keep_order : FinishesKeepOrder
unfolding finished arrived
finishes_keep_order spec c n pipe k h = go spec.traced refl c n h
  where
    ordered : (net : Net) → Ordered pipe k true None net → IsSublist (finished pipe k net.records) (arrived pipe k net.records)
    ordered net o =
        sub-trans (finished pipe k net.records) (finished pipe k net.records ++ inside pipe k net) (arrived pipe k net.records)
        (sub-front (finished pipe k net.records) (inside pipe k net)) (o.comes refl)

    go : (b : Bool) → spec.traced ≡ b → (c : List Timed) (n : ℕ) → IsTraced b c →
        let records : List Record = (alone spec c n).net.records in
        IsSublist (flat_map (finishes_in pipe k) records) (flat_map (arrives_in pipe k) records)
    go true e c n h =
        ordered (alone spec c n).net
        (walks (Ordered pipe k true) (ordered-keeps pipe k true) n (initial_state spec c) (all-suit pipe k c h)
        (subst (λ x. Ordered pipe k true None (opening_net x)) (sym e) (traced-opening pipe k)))
    go false e c zero h = tt
    go false e [] (suc n) h = absurd h
    go false e (t ∷ ts) (suc n) h =
        ordered (alone spec (t ∷ ts) (suc n)).net
        (walks_on (Ordered pipe k true) (ordered-keeps pipe k true) spec t ts n (all-suit pipe k ts h.1)
        (λ at. subst (λ x. Ordered pipe k true None (obey at 0 x (opening_net spec.traced))) (sym h.0) (traced-begun pipe k at spec.traced)))
