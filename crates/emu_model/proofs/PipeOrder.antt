-- What a pipe does keeps the order of the packets in each instance.
use Rattle.std.proofs.Common.{◌≡◌, ℕ, zero, suc, List, [], ◌∷◌, ◌++◌, Bool, true, false, refl, sym, ◌∙◌, ap, subst, Option, Some, None, inl, inr, append-nil}
use Rattle.std.specs.Prelude.{if◌then◌else◌, ◌==◌, ◌&&◌, ◌⊎◌, nat_lt, map, length, flat_map, slice_get, option_map, option_and_then}
use Rattle.std.specs.Option.{option_map_or}
use Rattle.std.proofs.lemmas.Bool.{eq-eqb, cases_eq, and_from}
use Rattle.emu_model.specs.Lists.{change_at}
use Rattle.emu_model.specs.Types.{Packet, PipeConfig, NoInstance, PacketArrived}
use Rattle.emu_model.specs.FlowIds.{FlowId, flow_id}
use Rattle.emu_model.specs.Delay.{first_item, leave}
use Rattle.emu_model.specs.Pipes.{Instance, PipeState, initial_instance, no_drop, drop_one, drawn_one, draw, instance_arrive, instance_finish, instance_configure, put_instance, with_instance, instance_for, arrive_at, pipe_arrive, pipe_finish, pipe_exit, pipe_configure}
use Rattle.emu_model.specs.Net.{identify_record, arrive_records, arrivals}
use Rattle.emu_model.specs.Events.{flying_in, served_in}
use Rattle.emu_model.specs.TraceLaws.{IsSublist, arrives_in, flight_in}
use Rattle.emu_model.proofs.Sublists.{sub-same, sub-front}
use Rattle.emu_model.proofs.InstanceOrder.{inside_numbers, flight_numbers, served_numbers, first_number, Came, Served, instance_arrive-came, instance_finish-served, first_left, configured-inside}

-- what is said of one instance, if it is there
abbrev pub in_instance : (Instance → List ℕ) → ℕ → List Instance → List ℕ
in_instance g j is = option_map_or g (slice_get is j) []

-- what is in service or waits in an instance
abbrev pub inside_in : ℕ → PipeState → List ℕ
inside_in j p = in_instance inside_numbers j p.instances

changed-here : (f : Instance → Instance) (k : ℕ) (is : List Instance) →
    slice_get (change_at k f is) k ≡ option_map f (slice_get is k)
changed-here f k [] = refl
changed-here f zero (x ∷ xs) = refl
changed-here f (suc k) (x ∷ xs) = changed-here f k xs

changed-other : (f : Instance → Instance) (k j : ℕ) (is : List Instance) → (k ≡ j → ⊥) →
    slice_get (change_at k f is) j ≡ slice_get is j
changed-other f k j [] h = refl
changed-other f zero zero (x ∷ xs) h = absurd (h refl)
changed-other f zero (suc j) (x ∷ xs) h = refl
changed-other f (suc k) zero (x ∷ xs) h = refl
changed-other f (suc k) (suc j) (x ∷ xs) h = changed-other f k j xs (λ e. h (ap suc e))

opened-same : (g : Instance → List ℕ) (x : Instance) → g x ≡ [] → (is : List Instance) (j : ℕ) →
    in_instance g j (is ++ x ∷ []) ≡ in_instance g j is
opened-same g x h [] zero = h
opened-same g x h [] (suc j) = refl
opened-same g x h (y ∷ ys) zero = refl
opened-same g x h (y ∷ ys) (suc j) = opened-same g x h ys j

mapped-same : (g : Instance → List ℕ) (f : Instance → Instance) → ((i : Instance) → g (f i) ≡ g i) →
    (is : List Instance) (j : ℕ) → in_instance g j (map f is) ≡ in_instance g j is
mapped-same g f h [] j = refl
mapped-same g f h (x ∷ xs) zero = h x
mapped-same g f h (x ∷ xs) (suc j) = mapped-same g f h xs j

-- an instance put in the place of another
put-here : (g : Instance → List ℕ) (new i : Instance) (k : ℕ) (is : List Instance) → slice_get is k ≡ Some i →
    in_instance g k (change_at k (λ j. new) is) ≡ g new
put-here g new i k is e =
    ap (λ o. option_map_or g o []) (changed-here (λ j. new) k is ∙ ap (option_map (λ j. new)) e)

put-other : (g : Instance → List ℕ) (f : Instance → Instance) (k j : ℕ) (is : List Instance) → (k ≡ j → ⊥) →
    in_instance g j (change_at k f is) ≡ in_instance g j is
put-other g f k j is h = ap (λ o. option_map_or g o []) (changed-other f k j is h)

got : (g : Instance → List ℕ) (i : Instance) (k : ℕ) (is : List Instance) → slice_get is k ≡ Some i →
    in_instance g k is ≡ g i
got g i k is e = ap (λ o. option_map_or g o []) e

-- a pipe after some came: what is under way in instance j is the same, and what is inside is of what was, and
-- of those
pub record PipeCame (j : ℕ) (q r : PipeState) (new : List ℕ) : Type 0 where
  pub in_flight : flight_in j r ≡ flight_in j q
  pub inside : IsSublist (inside_in j r) (inside_in j q ++ new)

same-came : (j : ℕ) (q r : PipeState) (new : List ℕ) → flight_in j r ≡ flight_in j q → inside_in j r ≡ inside_in j q →
    PipeCame j q r new
same-came j q r new f i = record {
  in_flight = f;
  inside = subst (λ x. IsSublist x (inside_in j q ++ new)) (sym i) (sub-front (inside_in j q) new);
}

pub own : (a b : ℕ) (xs : List ℕ) → (if a == a && b == b then xs else []) ≡ xs
own a b xs = ap (λ t. if t then xs else []) (and_from (a == a) (b == b) (eq-eqb a a refl) (eq-eqb b b refl))

arrives-here : (now : ℕ) (p : Packet) (q : PipeState) (k : ℕ) →
    flat_map (arrives_in q.number k) (arrive_records now p q k) ≡ p.number ∷ []
arrives-here now p q k = go (nat_lt k (length q.instances))
  where
    one : flat_map (arrives_in q.number k) (PacketArrived now p.number q.number k ∷ []) ≡ p.number ∷ []
    one = ap (λ x. x ++ []) (own q.number k (p.number ∷ []))

    go : (b : Bool) → flat_map (arrives_in q.number k)
        (if b then PacketArrived now p.number q.number k ∷ []
        else identify_record now q.number k (flow_id q.config.mask p) ∷ PacketArrived now p.number q.number k ∷ [])
        ≡ p.number ∷ []
    go true = one
    go false = one

made-same : (g : Instance → List ℕ) (id : FlowId) (k j : ℕ) (q : PipeState) → g (initial_instance id) ≡ [] →
    in_instance g j (with_instance id k q).instances ≡ in_instance g j q.instances
made-same g id k j q h = go (nat_lt k (length q.instances))
  where
    go : (b : Bool) → in_instance g j (if b then q else record q { instances = q.instances ++ initial_instance id ∷ [] }).instances
        ≡ in_instance g j q.instances
    go true = refl
    go false = opened-same g (initial_instance id) h q.instances j

-- instance k of a pipe put in place of another, to which a packet came
placed-came : (p : Packet) (j k : ℕ) (q r : PipeState) (i new : Instance) (come : List ℕ) →
    slice_get r.instances k ≡ Some i → Came p i new → flight_in j r ≡ flight_in j q → inside_in j r ≡ inside_in j q →
    (k ≡ j → come ≡ p.number ∷ []) →
    PipeCame j q (record r { instances = change_at k (λ x. new) r.instances }) come
placed-came p j k q r i new come e c f s one = go (cases_eq k j)
  where
    now : List Instance
    now = change_at k (λ x. new) r.instances

    is_new : (g : Instance → List ℕ) → k ≡ j → in_instance g j (change_at k (λ x. new) r.instances) ≡ g new
    is_new g h =
        ap (λ z. in_instance g z (change_at k (λ x. new) r.instances)) (sym h) ∙ put-here g new i k r.instances e

    was : (g : Instance → List ℕ) → k ≡ j → g i ≡ in_instance g j r.instances
    was g h = sym (got g i k r.instances e) ∙ ap (λ z. in_instance g z r.instances) h

    go : (k ≡ j) ⊎ (k ≡ j → ⊥) → PipeCame j q (record r { instances = change_at k (λ x. new) r.instances }) come
    go (inr h) =
        same-came j q (record r { instances = change_at k (λ x. new) r.instances }) come
        (put-other flight_numbers (λ x. new) k j r.instances h ∙ f)
        (put-other inside_numbers (λ x. new) k j r.instances h ∙ s)
    go (inl h) =
        let old : inside_numbers i ≡ inside_in j q = was inside_numbers h ∙ s in
        let a : IsSublist (inside_numbers new) (inside_in j q ++ p.number ∷ []) =
        subst (λ x. IsSublist (inside_numbers new) (x ++ p.number ∷ [])) old c.inside in
        record {
          in_flight = is_new flight_numbers h ∙ c.in_flight ∙ was flight_numbers h ∙ f;
          inside = subst (λ x. IsSublist x (inside_in j q ++ come)) (sym (is_new inside_numbers h))
              (subst (λ x. IsSublist (inside_numbers new) (inside_in j q ++ x)) (sym (one h)) a);
        }

-- a packet comes to instance k
arrive_at-came : (seed now : ℕ) (p : Packet) (q : PipeState) (k j : ℕ) →
    PipeCame j q (arrive_at seed now p q k).state (flat_map (arrives_in q.number j) (arrive_records now p q k))
arrive_at-came seed now p q k j = go (slice_get (with_instance (flow_id q.config.mask p) k q).instances k) refl
  where
    come : List ℕ
    come = flat_map (arrives_in q.number j) (arrive_records now p q k)

    go : (o : Option Instance) → slice_get (with_instance (flow_id q.config.mask p) k q).instances k ≡ o →
        PipeCame j q
        (option_map_or (λ i. put_instance k (with_instance (flow_id q.config.mask p) k q)
        (instance_arrive q.config now p (draw seed q k i) (drawn_one i))) o
        (no_drop (with_instance (flow_id q.config.mask p) k q))).state
        (flat_map (arrives_in q.number j) (arrive_records now p q k))
    go None e =
        let id : FlowId = flow_id q.config.mask p in
        same-came j q (with_instance id k q) (flat_map (arrives_in q.number j) (arrive_records now p q k))
        (made-same flight_numbers id k j q refl) (made-same inside_numbers id k j q refl)
    go (Some i) e =
        let id : FlowId = flow_id q.config.mask p in
        let new : Instance = (instance_arrive q.config now p (draw seed q k i) (drawn_one i)).state in
        let c : Came p (drawn_one i) new = instance_arrive-came q.config now p (draw seed q k i) (drawn_one i) in
        placed-came p j k q (with_instance id k q) i new (flat_map (arrives_in q.number j) (arrive_records now p q k)) e
        (record { in_flight = c.in_flight; inside = c.inside })
        (made-same flight_numbers id k j q refl) (made-same inside_numbers id k j q refl)
        (λ h. ap (λ z. flat_map (arrives_in q.number z) (arrive_records now p q k)) (sym h) ∙ arrives-here now p q k)

pub pipe_arrive-came : (seed now : ℕ) (p : Packet) (q : PipeState) (j : ℕ) →
    PipeCame j q (pipe_arrive seed now p q).state (flat_map (arrives_in q.number j) (arrivals now p q))
pipe_arrive-came seed now p q j = go (instance_for p q)
  where
    go : (o : Option ℕ) →
        PipeCame j q (option_map_or (arrive_at seed now p q) o (drop_one q p NoInstance)).state
        (flat_map (arrives_in q.number j) (option_map_or (arrive_records now p q) o []))
    go None = same-came j q q [] refl refl
    go (Some k) = arrive_at-came seed now p q k j

-- a pipe after some of it finished: of instance j, these did
pub record PipeServed (j : ℕ) (q r : PipeState) (done : List ℕ) : Type 0 where
  pub in_flight : flight_in j q ++ done ≡ flight_in j r
  pub inside : IsSublist (done ++ inside_in j r) (inside_in j q)

same-served : (j : ℕ) (q r : PipeState) → flight_in j r ≡ flight_in j q → inside_in j r ≡ inside_in j q →
    PipeServed j q r []
same-served j q r f i = record {
  in_flight = append-nil (flight_in j q) ∙ sym f;
  inside = sub-same (inside_in j r) (inside_in j q) i;
}

pub finish-other : (now : ℕ) (q : PipeState) (k j : ℕ) → (k ≡ j → ⊥) →
    PipeServed j q (pipe_finish now k q).state []
finish-other now q k j h = go (slice_get q.instances k)
  where
    go : (o : Option Instance) →
        PipeServed j q (option_map_or (λ i. put_instance k q (instance_finish q.config now i)) o (no_drop q)).state []
    go None = same-served j q q refl refl
    go (Some i) =
        let new : Instance = (instance_finish q.config now i).state in
        same-served j q (record q { instances = change_at k (λ x. new) q.instances })
        (put-other flight_numbers (λ x. new) k j q.instances h) (put-other inside_numbers (λ x. new) k j q.instances h)

pub finish-here : (now : ℕ) (q : PipeState) (k : ℕ) →
    PipeServed k q (pipe_finish now k q).state (served_numbers (served_in k q))
finish-here now q k = go (slice_get q.instances k) refl
  where
    go : (o : Option Instance) → slice_get q.instances k ≡ o →
        PipeServed k q (option_map_or (λ i. put_instance k q (instance_finish q.config now i)) o (no_drop q)).state
        (served_numbers (option_and_then (λ i. i.service) o))
    go None e = same-served k q q refl refl
    go (Some i) e =
        let new : Instance = (instance_finish q.config now i).state in
        let is : List Instance = q.instances in
        let s : Served i new = instance_finish-served q.config now i in
        let done : List ℕ = served_numbers i.service in
        record {
          in_flight = ap (λ x. x ++ done) (got flight_numbers i k is e) ∙ s.in_flight ∙ sym (put-here flight_numbers new i k is e);
          inside = subst (λ x. IsSublist (done ++ x) (inside_in k q)) (sym (put-here inside_numbers new i k is e))
              (subst (λ x. IsSublist (done ++ inside_numbers new) x) (sym (got inside_numbers i k is e)) s.inside);
        }

-- the first under way in instance k leaves
pub exit-here : (q : PipeState) (k : ℕ) →
    flight_in k q ≡ first_number (flying_in k q) ++ flight_in k (pipe_exit k q)
exit-here q k =
    go (slice_get q.instances k)
    ∙ ap (λ o. first_number (flying_in k q) ++ option_map_or flight_numbers o []) (sym (changed-here moved k q.instances))
  where
    moved : Instance → Instance
    moved i = record i { line = leave i.line }

    go : (o : Option Instance) → option_map_or flight_numbers o []
        ≡ first_number (option_and_then (λ i. first_item i.line.in_flight) o)
        ++ option_map_or flight_numbers (option_map {T = Instance} (λ i. record i { line = leave i.line }) o) []
    go None = refl
    go (Some i) = first_left i.line

pub exit-other : (q : PipeState) (k j : ℕ) → (k ≡ j → ⊥) → flight_in j (pipe_exit k q) ≡ flight_in j q
exit-other q k j h = put-other flight_numbers (λ i. record i { line = leave i.line }) k j q.instances h

pub exit-inside : (q : PipeState) (k j : ℕ) → inside_in j (pipe_exit k q) ≡ inside_in j q
exit-inside q k j = go k j q.instances
  where
    go : (a b : ℕ) (is : List Instance) →
        in_instance inside_numbers b (change_at a (λ i. record i { line = leave i.line }) is) ≡ in_instance inside_numbers b is
    go a b [] = refl
    go zero zero (x ∷ xs) = refl
    go zero (suc b) (x ∷ xs) = refl
    go (suc a) zero (x ∷ xs) = refl
    go (suc a) (suc b) (x ∷ xs) = go a b xs

pub configure-in_flight : (config : PipeConfig) (q : PipeState) (j : ℕ) →
    flight_in j (pipe_configure config q) ≡ flight_in j q
configure-in_flight config q j =
    mapped-same flight_numbers (instance_configure q.config config) (λ i. refl) q.instances j

pub configure-inside : (config : PipeConfig) (q : PipeState) (j : ℕ) →
    inside_in j (pipe_configure config q) ≡ inside_in j q
configure-inside config q j =
    mapped-same inside_numbers (instance_configure q.config config) (configured-inside q.config config) q.instances j
