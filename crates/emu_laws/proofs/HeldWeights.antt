-- What is held, each packet with its weight: what a change adds, takes and drops.
use Rattle.std.proofs.Common.{◌≡◌, ℕ, zero, suc, ◌+◌, ◌<◌, ◌≤◌, List, [], ◌∷◌, ◌++◌, length, Bool, true, false, refl, sym, ◌∙◌, ap, Option, Some, None, slice_get, arith}
use Rattle.std.specs.Prelude.{if◌then◌else◌, is_some, nat_lt, ◌==◌, find, map, flat_map, sum_by, option_map, option_to_list, option_and_then}
use Rattle.std.specs.Option.{option_map_or}
use Rattle.std.specs.List.{position}
use Rattle.std.proofs.lemmas.List.Quantifiers.{position-Some}
use Rattle.std.proofs.lemmas.Bool.{ltb-true, ltb-false}
use Rattle.std.proofs.lemmas.List.{length-map}
use Rattle.std.proofs.lemmas.List.Sums.{sum_by-cons, sum_by-append}
use Rattle.emu_model.specs.Lists.{replace_first, remove_first, change_at, tail}
use Rattle.emu_laws.proofs.Types.{Packet, PipeConfig, NoInstance, Lost, Full, Codel, Deleted}
use Rattle.emu_model.specs.FlowIds.{FlowId, flow_id, same_flow, new_instance, instance_of}
use Rattle.emu_model.specs.Delay.{InFlight, Line, exit_after, leave, first_item}
use Rattle.emu_model.specs.Moments.{milliseconds}
use Rattle.emu_model.specs.DropTail.{Queued, accepts}
use Rattle.emu_model.specs.Codel.{Dequeued}
use Rattle.emu_model.specs.Pipes.{InService, Instance, PipeState, After, Drop, held_in, pipe_packets, dequeue, period_with, codel_drops, serve_next, no_drop, drop_one, enqueue, accept, drawn_one, instance_arrive, send_off, instance_finish, instance_configure, cut_service, initial_instance, put_instance, with_instance, draw, instance_for, arrive_at, pipe_arrive, pipe_finish, pipe_exit, pipe_configure}
use Rattle.emu_model.specs.Net.{Net, held, find_pipe, put_pipe, to_direct}
use Rattle.emu_model.specs.Commands.{with_pipe, new_pipe, without_pipe}
use Rattle.emu_model.specs.Events.{flying_in}
use Rattle.emu_model.specs.TraceLaws.{held_packets}
use Rattle.emu_model.proofs.CallerLemmas.{dequeue-cut}
use Rattle.emu_laws.proofs.EachChange.{found_or}
use Rattle.emu_laws.proofs.EachOf.{either, some_or, of_choice}

-- of one that is put in place of another, and of one that is taken
replaced-sum : {A : Type 0} (f : A → ℕ) (test : A → Bool) (x y : A) (xs : List A) → find test xs ≡ Some x →
    sum_by f (replace_first test y xs) + f x ≡ sum_by f xs + f y
replaced-sum f test x y [] e = absurd (cc e)
replaced-sum f test x y (z ∷ zs) e = go (test z) e (λ g. replaced-sum f test x y zs g)
  where
    go : (b : Bool) → (if b then Some z else find test zs) ≡ Some x →
        (find test zs ≡ Some x → sum_by f (replace_first test y zs) + f x ≡ sum_by f zs + f y) →
        sum_by f (if b then y ∷ zs else z ∷ replace_first test y zs) + f x ≡ sum_by f (z ∷ zs) + f y
    go true g later =
        let same : z ≡ x = cc g in
        omega (arith, ap f same, sum_by-cons f z zs, sum_by-cons f y zs)
    go false g later = omega (arith, later g, sum_by-cons f z zs, sum_by-cons f z (replace_first test y zs))

removed-sum : {A : Type 0} (f : A → ℕ) (test : A → Bool) (x : A) (xs : List A) → find test xs ≡ Some x →
    sum_by f (remove_first test xs) + f x ≡ sum_by f xs
removed-sum f test x [] e = absurd (cc e)
removed-sum f test x (z ∷ zs) e = go (test z) e (λ g. removed-sum f test x zs g)
  where
    go : (b : Bool) → (if b then Some z else find test zs) ≡ Some x →
        (find test zs ≡ Some x → sum_by f (remove_first test zs) + f x ≡ sum_by f zs) →
        sum_by f (if b then zs else z ∷ remove_first test zs) + f x ≡ sum_by f (z ∷ zs)
    go true g later =
        let same : z ≡ x = cc g in
        omega (arith, ap f same, sum_by-cons f z zs)
    go false g later = omega (arith, later g, sum_by-cons f z zs, sum_by-cons f z (remove_first test zs))

changed-sum : {A : Type 0} (f : A → ℕ) (g : A → A) (x : A) (k : ℕ) (xs : List A) → slice_get xs k ≡ Some x →
    sum_by f (change_at k g xs) + f x ≡ sum_by f xs + f (g x)
changed-sum f g x k [] e = absurd (cc e)
changed-sum f g x zero (z ∷ zs) e =
    let same : z ≡ x = cc e in
    omega (arith, ap f same, ap (λ y. f (g y)) same, sum_by-cons f z zs, sum_by-cons f (g z) zs)
changed-sum f g x (suc k) (z ∷ zs) e =
    omega (arith, changed-sum f g x k zs e, sum_by-cons f z zs, sum_by-cons f z (change_at k g zs))

unchanged-sum : {A : Type 0} (f : A → ℕ) (g : A → A) (k : ℕ) (xs : List A) → slice_get xs k ≡ None →
    sum_by f (change_at k g xs) ≡ sum_by f xs
unchanged-sum f g k [] e = refl
unchanged-sum f g zero (z ∷ zs) e = absurd (cc e)
unchanged-sum f g (suc k) (z ∷ zs) e =
    omega (arith, unchanged-sum f g k zs e, sum_by-cons f z zs, sum_by-cons f z (change_at k g zs))

mapped-sum : {A : Type 0} (f : A → ℕ) (g : A → A) → ((x : A) → f (g x) ≡ f x) → (xs : List A) →
    sum_by f (map g xs) ≡ sum_by f xs
mapped-sum f g h [] = refl
mapped-sum f g h (z ∷ zs) =
    omega (arith, sum_by-cons f z zs, sum_by-cons f (g z) (map g zs), h z, mapped-sum f g h zs)

flat-sum : {A B : Type 0} (f : B → ℕ) (g : A → List B) (xs : List A) →
    sum_by f (flat_map g xs) ≡ sum_by (λ x. sum_by f (g x)) xs
flat-sum f g [] = refl
flat-sum f g (z ∷ zs) =
    omega (
      arith,
      sum_by-append f (g z) (flat_map g zs),
      sum_by-cons (λ x. sum_by f (g x)) z zs,
      flat-sum f g zs,
    )

-- the instance of a packet is there, once it is made
instance-within : (made : List FlowId) (id : FlowId) (k : ℕ) → instance_of made id ≡ Some k → k ≤ length made
instance-within made id k e = go (position (same_flow id) made) refl e
  where
    fresh : (b : Bool) → (if b then Some (length made) else None) ≡ Some k → k ≤ length made
    fresh true g =
        let same : length made ≡ k = cc g in
        omega arith
    fresh false g = absurd (cc g)

    go : (o : Option ℕ) → position (same_flow id) made ≡ o →
        option_map_or (λ j. Some j) o (new_instance made) ≡ Some k → k ≤ length made
    go None h g = fresh (nat_lt (length made) 256) g
    go (Some j) h g =
        let same : j ≡ k = cc g in
        let few : j < length made = (position-Some (same_flow id) made j id h).0 in
        omega arith

at_end : (xs : List Instance) (x : Instance) (k : ℕ) → k ≡ length xs → slice_get (xs ++ x ∷ []) k ≡ Some x
at_end [] x zero e = refl
at_end [] x (suc k) e = absurd (omega (arith, e))
at_end (y ∷ ys) x zero e = absurd (omega (arith, e))
at_end (y ∷ ys) x (suc k) e = at_end ys x k (omega (arith, e))

got-within : (xs : List Instance) (k : ℕ) → k < length xs → slice_get xs k ≡ None → ⊥
got-within [] k b e = omega arith
got-within (x ∷ xs) zero b e = absurd (cc e)
got-within (x ∷ xs) (suc k) b e = got-within xs k (omega arith) e

made-there : (packet : Packet) (p : PipeState) (k : ℕ) → instance_for packet p ≡ Some k →
    slice_get (with_instance (flow_id p.config.mask packet) k p).instances k ≡ None → ⊥
made-there packet p k e none = go (nat_lt k (length p.instances)) refl none
  where
    new : Instance
    new = initial_instance (flow_id p.config.mask packet)

    few : k ≤ length p.instances
    few = omega (
      arith,
      instance-within (map (λ i. i.id) p.instances) (flow_id p.config.mask packet) k e,
      length-map p.instances (λ i. i.id),
    )

    clash : {A : Type 0} {a : A} → Some a ≡ None → ⊥
    clash g = cc g

    go : (b : Bool) → nat_lt k (length p.instances) ≡ b →
        slice_get (if b then p else record p { instances = p.instances ++ new ∷ [] }).instances k ≡ None → ⊥
    go true h g = got-within p.instances k (ltb-true k (length p.instances) h) g
    go false h g =
        clash (sym (at_end p.instances new k (omega (arith, few, ltb-false k (length p.instances) h))) ∙ g)

module _ (w : Packet → ℕ) where
  -- the weight of a list, of what waits, and of one that may be there
  abbrev pub weight : List Packet → ℕ
  weight ps = sum_by w ps

  abbrev pub waits : List (Queued Packet) → ℕ
  waits ws = weight (map (λ v. v.item) ws)

  abbrev pub some : Option Packet → ℕ
  some None = 0
  some (Some p) = w p

  abbrev pub serves : Option (InService Packet) → ℕ
  serves o = weight (option_to_list (option_map (λ s. s.item) o))

  abbrev pub flies : List (InFlight Packet) → ℕ
  flies xs = weight (map (λ x. x.item) xs)

  -- of drops
  unfoldable pub fallen : List Drop → ℕ
  fallen ds = sum_by (λ d. w d.packet) ds

  unfoldable pub size : Instance → ℕ
  size i = weight (held_in i)

  unfoldable pub load : PipeState → ℕ
  load p = weight (pipe_packets p)

  -- of all that a net holds
  unfoldable pub weigh : Net → ℕ
  weigh n = weight (held_packets n)

  one : (p : Packet) → weight (p ∷ []) ≡ w p
  one p = omega (arith, sum_by-cons w p [])

  pub size_is : (i : Instance) → size i ≡ flies i.line.in_flight + serves i.service + waits i.waiting
  unfolding size
  size_is i =
      omega (
        arith,
        sum_by-append w (map (λ x. x.item) i.line.in_flight ++ option_to_list (option_map (λ s. s.item) i.service))
            (map (λ v. v.item) i.waiting),
        sum_by-append w (map (λ x. x.item) i.line.in_flight) (option_to_list (option_map (λ s. s.item) i.service)),
      )

  pub load_is : (p : PipeState) → load p ≡ sum_by size p.instances
  unfolding load size
  load_is p = flat-sum w held_in p.instances

  pub weigh_is : (n : Net) → weigh n ≡ flies n.direct.in_flight + sum_by load n.pipes
  unfolding weigh load
  weigh_is n =
      omega (
        arith,
        sum_by-append w (map (λ x. x.item) n.direct.in_flight) (flat_map pipe_packets n.pipes),
        flat-sum w pipe_packets n.pipes,
      )

  waits-append : (xs ys : List (Queued Packet)) → waits (xs ++ ys) ≡ waits xs + waits ys
  waits-append [] ys = omega arith
  waits-append (x ∷ xs) ys =
      omega (
        arith,
        waits-append xs ys,
        sum_by-cons w x.item (map (λ v. v.item) xs),
        sum_by-cons w x.item (map (λ v. v.item) (xs ++ ys)),
      )

  flies-append : (xs ys : List (InFlight Packet)) → flies (xs ++ ys) ≡ flies xs + flies ys
  flies-append [] ys = omega arith
  flies-append (x ∷ xs) ys =
      omega (
        arith,
        flies-append xs ys,
        sum_by-cons w x.item (map (λ y. y.item) xs),
        sum_by-cons w x.item (map (λ y. y.item) (xs ++ ys)),
      )

  codel-fallen : (ws : List (Queued Packet)) → fallen (codel_drops ws) ≡ waits ws
  unfolding fallen
  codel-fallen [] = refl
  codel-fallen (x ∷ xs) =
      omega (
        arith,
        codel-fallen xs,
        sum_by-cons w x.item (map (λ v. v.item) xs),
        sum_by-cons {X = Drop} (λ d. w d.packet) (record { packet = x.item; cause = Codel }) (codel_drops xs),
      )

  one-fallen : (d : Drop) → fallen (d ∷ []) ≡ w d.packet
  unfolding fallen
  one-fallen d = omega (arith, sum_by-cons (λ (x : Drop). w x.packet) d [])

  none-fallen : fallen [] ≡ 0
  unfolding fallen
  none-fallen = refl

  given-serves : (bw now : ℕ) (o : Option (InService Packet)) (g : Option (Queued Packet)) →
      serves (option_map (λ v. record { item = v.item; period = period_with bw now v.size o }) g)
      ≡ waits (option_to_list g)
  given-serves bw now o None = refl
  given-serves bw now o (Some v) = refl

  next-weight : (config : PipeConfig) (now : ℕ) (i : Instance) →
      size (serve_next config now i).state + fallen (serve_next config now i).dropped
      ≡ flies i.line.in_flight + waits i.waiting
  next-weight config now i =
      let d : Dequeued Packet = dequeue config.discipline now i.control i.waiting in
      let whole : waits i.waiting ≡ waits (d.dropped ++ (option_to_list d.given ++ d.rest)) =
      ap waits (dequeue-cut config.discipline now i.control i.waiting).whole in
      omega (
        arith,
        size_is (serve_next config now i).state,
        whole,
        waits-append d.dropped (option_to_list d.given ++ d.rest),
        waits-append (option_to_list d.given) d.rest,
        given-serves config.bw now i.service d.given,
        codel-fallen d.dropped,
      )

  arrive-weight : (config : PipeConfig) (now : ℕ) (p : Packet) (lost : Bool) (i : Instance) →
      size (instance_arrive config now p lost i).state + fallen (instance_arrive config now p lost i).dropped
      ≡ size i + w p
  arrive-weight config now p lost i =
      either P lost (drop_one i p Lost)
      (if accepts config.queue i.waiting p.size then accept config now p i else drop_one i p Full)
      (omega (arith, one-fallen (record { packet = p; cause = Lost })))
      (either P (accepts config.queue i.waiting p.size) (accept config now p i) (drop_one i p Full)
      (of_choice P (is_some i.service) (no_drop (enqueue now p i)) (serve_next config now (enqueue now p i))
      (λ busy. omega (arith, size_is (enqueue now p i), size_is i, more, none-fallen))
      (λ idle. omega (
        arith,
        next-weight config now (enqueue now p i),
        size_is i,
        more,
        rests i.service idle,
      ))) (omega (arith, one-fallen (record { packet = p; cause = Full }))))
    where
      P : After Instance → Type 0
      P a = size a.state + fallen a.dropped ≡ size i + w p

      more : waits (enqueue now p i).waiting ≡ waits i.waiting + w p
      more = omega (arith, waits-append i.waiting (record { item = p; size = p.size; stamp = now } ∷ []), one p)

      rests : (o : Option (InService Packet)) → is_some o ≡ false → serves o ≡ 0
      rests None e = refl
      rests (Some s) e = absurd (cc e)

  sent-weight : (config : PipeConfig) (now : ℕ) (o : Option (InService Packet)) (l : Line Packet) →
      flies (send_off config now o l).in_flight ≡ flies l.in_flight + serves o
  sent-weight config now None l = omega arith
  sent-weight config now (Some s) l =
      omega (
        arith,
        flies-append l.in_flight
            (record { item = s.item; exit = exit_after l.last now (milliseconds config.delay) } ∷ []),
      )

  finish-weight : (config : PipeConfig) (now : ℕ) (i : Instance) →
      size (instance_finish config now i).state + fallen (instance_finish config now i).dropped ≡ size i
  finish-weight config now i =
      let j : Instance = record i { line = send_off config now i.service i.line } in
      omega (arith, next-weight config now j, sent-weight config now i.service i.line, size_is i)

  pub made-load : (id : FlowId) (k : ℕ) (p : PipeState) → load (with_instance id k p) ≡ load p
  made-load id k p =
      either (λ q. load q ≡ load p) (nat_lt k (length p.instances)) p new refl
      (omega (
        arith,
        load_is p,
        load_is new,
        sum_by-append size p.instances (initial_instance id ∷ []),
        sum_by-cons size (initial_instance id) [],
        size_is (initial_instance id),
      ))
    where
      new : PipeState
      new = record p { instances = p.instances ++ initial_instance id ∷ [] }

  -- instance k put through f, which adds d
  change-load : (k d : ℕ) (f : Instance → After Instance) (p : PipeState) (i : Instance) → slice_get p.instances k ≡ Some i →
      size (f i).state + fallen (f i).dropped ≡ size i + d →
      load (put_instance k p (f i)).state + fallen (f i).dropped ≡ load p + d
  change-load k d f p i e h =
      omega (
        arith,
        h,
        load_is p,
        load_is (put_instance k p (f i)).state,
        changed-sum size (λ j. (f i).state) i k p.instances e,
      )

  arrive-load : (seed now : ℕ) (packet : Packet) (p : PipeState) →
      load (pipe_arrive seed now packet p).state + fallen (pipe_arrive seed now packet p).dropped ≡ load p + w packet
  arrive-load seed now packet p =
      some_or P (arrive_at seed now packet p) (instance_for packet p) (drop_one p packet NoInstance) (λ k e. at k e)
      (omega (arith, one-fallen (record { packet = packet; cause = NoInstance })))
    where
      P : After PipeState → Type 0
      P a = load a.state + fallen a.dropped ≡ load p + w packet

      at : (k : ℕ) → instance_for packet p ≡ Some k → P (arrive_at seed now packet p k)
      at k e =
          let q : PipeState = with_instance (flow_id p.config.mask packet) k p in
          let f : Instance → After Instance =
          λ i. instance_arrive p.config now packet (draw seed p k i) (drawn_one i) in
          found_or P (λ i. put_instance k q (f i)) (slice_get q.instances k) (no_drop q)
          (λ i g. omega (
            arith,
            change-load k (w packet) f q i g
                (omega (
                  arith,
                  arrive-weight p.config now packet (draw seed p k i) (drawn_one i),
                  size_is i,
                  size_is (drawn_one i),
                )),
            made-load (flow_id p.config.mask packet) k p,
          )) (λ none. absurd (made-there packet p k e none))

  finish-load : (now k : ℕ) (p : PipeState) →
      load (pipe_finish now k p).state + fallen (pipe_finish now k p).dropped ≡ load p
  finish-load now k p =
      some_or (λ a. load a.state + fallen a.dropped ≡ load p) (λ i. put_instance k p (instance_finish p.config now i))
      (slice_get p.instances k) (no_drop p)
      (λ i e. omega (
        arith,
        change-load k 0 (instance_finish p.config now) p i e (omega (arith, finish-weight p.config now i)),
      )) (omega (arith, none-fallen))

  tail-flies : (xs : List (InFlight Packet)) → flies (tail xs) + some (first_item xs) ≡ flies xs
  tail-flies [] = refl
  tail-flies (x ∷ xs) = omega (arith, sum_by-cons w x.item (map (λ y. y.item) xs))

  exit-load : (k : ℕ) (p : PipeState) → load (pipe_exit k p) + some (flying_in k p) ≡ load p
  exit-load k p = go (slice_get p.instances k) refl
    where
      left : Instance → Instance
      left i = record i { line = leave i.line }

      go : (o : Option Instance) → slice_get p.instances k ≡ o →
          load (pipe_exit k p) + some (option_and_then (λ i. first_item i.line.in_flight) o) ≡ load p
      go None e =
          omega (
            arith,
            load_is p,
            load_is (pipe_exit k p),
            unchanged-sum size (λ i. record i { line = leave i.line }) k p.instances e,
          )
      go (Some i) e =
          omega (
            arith,
            load_is p,
            load_is (pipe_exit k p),
            changed-sum size (λ j. record j { line = leave j.line }) i k p.instances e,
            size_is i,
            size_is (record i { line = leave i.line }),
            tail-flies i.line.in_flight,
          )

  cut-serves : (o : Option (InService Packet)) → serves (option_map cut_service o) ≡ serves o
  cut-serves None = refl
  cut-serves (Some s) = refl

  configure-load : (config : PipeConfig) (p : PipeState) → load (pipe_configure config p) ≡ load p
  configure-load config p =
      omega (
        arith,
        load_is p,
        load_is (pipe_configure config p),
        mapped-sum size (instance_configure p.config config)
            (λ i. omega (arith, size_is i, size_is (instance_configure p.config config i), cut-serves i.service)) p.instances,
      )

  with-load : (p : PipeState) (ps : List PipeState) → load p ≡ 0 → sum_by load (with_pipe p ps) ≡ sum_by load ps
  with-load p [] e = omega (arith, sum_by-cons load p [], e)
  with-load p (q ∷ qs) e =
      either (λ rs. sum_by load rs ≡ sum_by load (q ∷ qs)) (nat_lt p.number q.number) (p ∷ q ∷ qs) (q ∷ with_pipe p qs)
      (omega (arith, sum_by-cons load p (q ∷ qs), e))
      (omega (arith, sum_by-cons load q qs, sum_by-cons load q (with_pipe p qs), with-load p qs e))

  -- what each change of a net makes of its weight
  pub weigh-same : (n m : Net) → m.direct ≡ n.direct → m.pipes ≡ n.pipes → weigh m ≡ weigh n
  weigh-same n m d p =
      let e : flies m.direct.in_flight ≡ flies n.direct.in_flight = ap (λ l. flies l.in_flight) d in
      let g : sum_by load m.pipes ≡ sum_by load n.pipes = ap (sum_by load) p in
      omega (arith, e, g, weigh_is n, weigh_is m)

  pub weigh-entered : (now : ℕ) (p : Packet) (n : Net) → weigh (to_direct now p n) ≡ weigh n + w p
  weigh-entered now p n =
      omega (
        arith,
        weigh_is n,
        weigh_is (to_direct now p n),
        flies-append n.direct.in_flight (record { item = p; exit = exit_after n.direct.last now 0 } ∷ []),
        one p,
      )

  pub weigh-left : (n : Net) → weigh (record n { direct = leave n.direct }) + some (first_item n.direct.in_flight) ≡ weigh n
  weigh-left n =
      omega (arith, weigh_is n, weigh_is (record n { direct = leave n.direct }), tail-flies n.direct.in_flight)

  -- a pipe put in place of the one of its number
  put-weigh : (k : ℕ) (p q : PipeState) (n : Net) → find_pipe k n ≡ Some p →
      weigh (put_pipe k q n) + load p ≡ weigh n + load q
  put-weigh k p q n e =
      omega (arith, weigh_is n, weigh_is (put_pipe k q n), replaced-sum load (λ x. x.number == k) p q n.pipes e)

  pub weigh-arrived : (seed now k : ℕ) (packet : Packet) (p : PipeState) (n : Net) → find_pipe k n ≡ Some p →
      weigh (put_pipe k (pipe_arrive seed now packet p).state n) + fallen (pipe_arrive seed now packet p).dropped
      ≡ weigh n + w packet
  weigh-arrived seed now k packet p n e =
      omega (
        arith,
        put-weigh k p (pipe_arrive seed now packet p).state n e,
        arrive-load seed now packet p,
      )

  pub weigh-finished : (now pipe k : ℕ) (p : PipeState) (n : Net) → find_pipe pipe n ≡ Some p →
      weigh (put_pipe pipe (pipe_finish now k p).state n) + fallen (pipe_finish now k p).dropped ≡ weigh n
  weigh-finished now pipe k p n e =
      omega (arith, put-weigh pipe p (pipe_finish now k p).state n e, finish-load now k p)

  pub weigh-exited : (pipe k : ℕ) (p : PipeState) (n : Net) → find_pipe pipe n ≡ Some p →
      weigh (put_pipe pipe (pipe_exit k p) n) + some (flying_in k p) ≡ weigh n
  weigh-exited pipe k p n e = omega (arith, put-weigh pipe p (pipe_exit k p) n e, exit-load k p)

  pub weigh-configured : (k : ℕ) (config : PipeConfig) (p : PipeState) (n : Net) → find_pipe k n ≡ Some p →
      weigh (put_pipe k (pipe_configure config p) n) ≡ weigh n
  weigh-configured k config p n e =
      omega (arith, put-weigh k p (pipe_configure config p) n e, configure-load config p)

  empty-load : (k : ℕ) (config : PipeConfig) → load (record { number = k; config = config; instances = [] }) ≡ 0
  unfolding load
  empty-load k config = refl

  pub weigh-opened : (k : ℕ) (config : PipeConfig) (n : Net) → weigh (new_pipe k config n) ≡ weigh n
  weigh-opened k config n =
      omega (
        arith,
        weigh_is n,
        weigh_is (new_pipe k config n),
        with-load (record { number = k; config = config; instances = [] }) n.pipes (empty-load k config),
      )

  all-fallen : (ps : List Packet) → fallen (map (λ q. record { packet = q; cause = Deleted }) ps) ≡ weight ps
  unfolding fallen
  all-fallen [] = refl
  all-fallen (p ∷ ps) =
      omega (
        arith,
        all-fallen ps,
        sum_by-cons w p ps,
        sum_by-cons {X = Drop} (λ d. w d.packet) (record { packet = p; cause = Deleted })
            (map (λ q. record { packet = q; cause = Deleted }) ps),
      )

  pub weigh-deleted : (k : ℕ) (p : PipeState) (n : Net) → find_pipe k n ≡ Some p →
      weigh (without_pipe k n) + fallen (map (λ q. record { packet = q; cause = Deleted }) (pipe_packets p)) ≡ weigh n
  unfolding load
  weigh-deleted k p n e =
      omega (
        arith,
        weigh_is n,
        weigh_is (without_pipe k n),
        removed-sum load (λ q. q.number == k) p n.pipes e,
        all-fallen (pipe_packets p),
      )

-- where each weighs 1, the weight is how many there are
abbrev pub each_one : Packet → ℕ
each_one p = 1

pub as-many : {A : Type 0} (f : A → Packet) (xs : List A) → weight each_one (map f xs) ≡ length xs
as-many f [] = refl
as-many f (x ∷ xs) = omega (arith, sum_by-cons each_one (f x) (map f xs), as-many f xs)

pub as-many-fallen : (ds : List Drop) → fallen each_one ds ≡ length ds
unfolding fallen
as-many-fallen [] = refl
as-many-fallen (d ∷ ds) = omega (arith, sum_by-cons {X = Drop} (λ x. 1) d ds, as-many-fallen ds)

all-held : (ps : List Packet) → weight each_one ps ≡ length ps
all-held [] = refl
all-held (p ∷ ps) = omega (arith, sum_by-cons each_one p ps, all-held ps)

pipes-held : (ps : List PipeState) → weight each_one (flat_map pipe_packets ps) ≡ sum_by (λ p. length (pipe_packets p)) ps
pipes-held [] = refl
pipes-held (p ∷ ps) =
    omega (
      arith,
      sum_by-append each_one (pipe_packets p) (flat_map pipe_packets ps),
      sum_by-cons (λ q. length (pipe_packets q)) p ps,
      all-held (pipe_packets p),
      pipes-held ps,
    )

pub held_is : (n : Net) → held n ≡ weigh each_one n
unfolding weigh
held_is n =
    omega (
      arith,
      sum_by-append each_one (map (λ x. x.item) n.direct.in_flight) (flat_map pipe_packets n.pipes),
      as-many (λ (x : InFlight Packet). x.item) n.direct.in_flight,
      pipes-held n.pipes,
    )
