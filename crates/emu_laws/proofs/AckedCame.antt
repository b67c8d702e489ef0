-- What is acknowledged has arrived: what a receiver misses first only rises, so an acknowledgement that was true when
-- it was made stays true.
use Rattle.std.proofs.Common.{◌≡◌, ◌⊎◌, inl, inr, ℕ, zero, suc, ◌+◌, ◌*◌, ◌<◌, ◌≤◌, List, [], ◌∷◌, ◌++◌, Bool, true, false, refl, sym, ◌∙◌, ap, subst, Option, Some, None, eq-eqb, arith}
use Rattle.std.specs.Prelude.{if◌then◌else◌, is_some, nat_lt, ◌==◌, ◌||◌, find, length, map, flat_map, slice_get, option_map, option_to_list, option_and_then}
use Rattle.std.specs.List.{AllByRecursion, list_any}
use Rattle.std.proofs.lemmas.Bool.{cases_lt, cases_eq, eqb-true, ne_eqb}
use Rattle.emu_model.specs.Lists.{replace_first, tail}
use Rattle.emu_laws.proofs.Types.{Packet, Load, Plain, Seg, Ack, PipeConfig, FlowSpec, Lost, Full}
use Rattle.emu_model.specs.Delay.{InFlight, Line, enter, leave, first_item}
use Rattle.emu_model.specs.DropTail.{Queued, accepts}
use Rattle.emu_model.specs.Codel.{Dequeued}
use Rattle.emu_model.specs.Reno.{Sender, with_segment, missing, ack, ack_new, ack_duplicate, enter_recovery, is_new, is_duplicate, bounded, emit, expire, started_timer}
use Rattle.emu_model.specs.Pipes.{InService, Instance, PipeState, After, held_in, pipe_packets, dequeue, period_with, serve_next, no_drop, drop_one, enqueue, accept, drawn_one, instance_arrive, send_off, instance_finish, instance_configure, cut_service, pipe_arrive, pipe_finish, pipe_exit, pipe_configure}
use Rattle.emu_model.specs.Net.{Net, FlowState, find_flow, find_pipe}
use Rattle.emu_model.specs.Events.{flying_in}
use Rattle.emu_model.specs.TraceLaws.{held_packets}
use Rattle.emu_model.specs.Alone.{alone}
use Rattle.emu_model.proofs.CallerLemmas.{dequeue-cut}
use Rattle.emu_laws.specs.Missing.{received}
use Rattle.emu_laws.specs.AckedArrived.{first_missing, SaysWhatCame, AckedHasArrived}
use Rattle.emu_laws.proofs.EachOf.{either, each_joined, each_front, each_back, each_weaker, each_mapped, each_got, each_changed, each_found, each_replaced, each_removed}
use Rattle.emu_laws.proofs.EachChange.{IsTrueOf, Keeps, steps_keep, found-passes, found_put}
use Rattle.emu_laws.proofs.MissingFacts.{has, Stops, stops, missing_is_least}
use Rattle.emu_laws.proofs.FlowsKept.{Anything, anything}
use Rattle.emu_laws.proofs.PipesKept.{change_one-each, pipe_arrive-each, with_pipe-each}

-- what came stays
has_with : (first x : ℕ) (xs : List ℕ) → has xs x ≡ true → has (with_segment first xs) x ≡ true
unfolding has
has_with first x [] e = absurd (cc e)
has_with first x (y ∷ ys) e = go (nat_lt first y) (first == y) (has_with first x ys)
  where
    behind : (b : Bool) → (b || list_any (λ z. z == x) (y ∷ ys)) ≡ true
    behind true = refl
    behind false = e

    later : (b : Bool) → (b || list_any (λ z. z == x) ys) ≡ true →
        (list_any (λ z. z == x) ys ≡ true → list_any (λ z. z == x) (with_segment first ys) ≡ true) →
        (b || list_any (λ z. z == x) (with_segment first ys)) ≡ true
    later true g h = refl
    later false g h = h g

    go : (a b : Bool) → (list_any (λ z. z == x) ys ≡ true → list_any (λ z. z == x) (with_segment first ys) ≡ true) →
        list_any (λ z. z == x) (if a then first ∷ y ∷ ys else (if b then y ∷ ys else y ∷ with_segment first ys)) ≡ true
    go true b h = behind (first == x)
    go false true h = e
    go false false h = later (y == x) e h

-- the first byte that is missing only rises
missing-rises : (smss first : ℕ) (firsts : List ℕ) →
    missing smss (received firsts) ≤ missing smss (received (first ∷ firsts))
unfolding has
missing-rises zero first firsts =
    let s : Stops (length (received firsts)) zero (received firsts) 0 = stops (length (received firsts)) zero (received firsts) 0 in
    let none : s.steps * zero ≡ 0 = omega arith in
    omega (arith, s.at, none)
missing-rises (suc m) first firsts = go (cases_lt (missing (suc m) after) (missing (suc m) before))
  where
    before : List ℕ
    before = received firsts

    after : List ℕ
    after = received (first ∷ firsts)

    go : (missing (suc m) after < missing (suc m) before) ⊎ (missing (suc m) before ≤ missing (suc m) after) →
        missing (suc m) before ≤ missing (suc m) after
    go (inr h) = h
    go (inl h) =
        let s : Stops (length after) (suc m) after 0 = stops (length after) (suc m) after 0 in
        let place : missing (suc m) after ≡ s.steps * suc m = omega (arith, s.at) in
        let there : has before (s.steps * suc m) ≡ true =
        (missing_is_least (suc m) firsts (omega arith)).1 s.steps (omega (arith, h, place)) in
        let still : has after (s.steps * suc m) ≡ true = has_with first (s.steps * suc m) before there in
        let gone : has after (missing (suc m) after) ≡ false = (missing_is_least (suc m) (first ∷ firsts) (omega arith)).0 in
        absurd (both (has after (missing (suc m) after)) gone (ap (has after) place ∙ still))
      where
        both : (b : Bool) → b ≡ false → b ≡ true → ⊥
        both b p q = cc (p, q)

-- what came is a receiver's set, and what is acknowledged is below its first missing byte
pub record Acked (f : FlowState) : Type 0 where
  pub firsts : List ℕ
  pub came : f.came ≡ received firsts
  pub below : f.sender.snd_una ≤ first_missing f

came-acked : (first : ℕ) (f : FlowState) → Acked f → first_missing f ≤ first_missing (record f { came = with_segment first f.came })
came-acked first f h =
    subst (λ xs. missing f.flow.smss xs ≤ missing f.flow.smss (with_segment first xs)) (sym h.came)
    (missing-rises f.flow.smss first h.firsts)

-- the byte up to which all is acknowledged
una-duplicate : (f : FlowSpec) (s : Sender) → (ack_duplicate f s).snd_una ≡ s.snd_una
una-duplicate f s =
    either P s.recovery (record t { cwnd = bounded (s.cwnd + f.smss) })
    (if t.duplicates == 3 then enter_recovery f t else t) refl
    (either P (t.duplicates == 3) (enter_recovery f t) t refl refl)
  where
    t : Sender
    t = record s { duplicates = bounded (s.duplicates + 1) }

    P : Sender → Type 0
    P x = x.snd_una ≡ s.snd_una

una-ack : (f : FlowSpec) (now a limit : ℕ) (s : Sender) → a ≤ limit → s.snd_una ≤ limit → (ack f now a s).snd_una ≤ limit
una-ack f now a limit s h g =
    either P (is_new f a s) (ack_new f now a s) (if is_duplicate a s then ack_duplicate f s else s) h
    (either P (is_duplicate a s) (ack_duplicate f s) s (omega (arith, una-duplicate f s, g)) g)
  where
    P : Sender → Type 0
    P x = x.snd_una ≤ limit

una-emit : (f : FlowSpec) (now : ℕ) (s : Sender) → (emit f now s).snd_una ≡ s.snd_una
una-emit f now s = either (λ x. x.snd_una ≡ s.snd_una) s.resend (record s { resend = false; timer = started_timer now s }) _ refl refl

-- another number is found where it was
other_put : (j : ℕ) (g : FlowState) (fs : List FlowState) → (g.number ≡ j → ⊥) →
    find (λ x. x.number == j) (replace_first (λ x. x.number == g.number) g fs) ≡ find (λ x. x.number == j) fs
other_put j g [] h = refl
other_put j g (x ∷ xs) h = go (x.number == g.number) refl (other_put j g xs h)
  where
    skip : find (λ y. y.number == j) (g ∷ xs) ≡ find (λ y. y.number == j) xs
    skip = rw (ne_eqb g.number j h) refl

    go : (b : Bool) → (x.number == g.number) ≡ b →
        find (λ y. y.number == j) (replace_first (λ y. y.number == g.number) g xs) ≡ find (λ y. y.number == j) xs →
        find (λ y. y.number == j) (if b then g ∷ xs else x ∷ replace_first (λ y. y.number == g.number) g xs)
        ≡ find (λ y. y.number == j) (x ∷ xs)
    go true e later =
        let same : x.number ≡ g.number = eqb-true x.number g.number e in
        let other : (x.number == j) ≡ false = ne_eqb x.number j (λ k. h (sym same ∙ k)) in
        rw (ne_eqb g.number j h, other) refl
    go false e later = ap (λ o. if x.number == j then Some x else o) later

-- one more behind changes nothing of what is found
found_more : (test : FlowState → Bool) (f new : FlowState) (fs : List FlowState) → find test fs ≡ Some f →
    find test (fs ++ new ∷ []) ≡ Some f
found_more test f new [] e = absurd (cc e)
found_more test f new (x ∷ xs) e = go (test x) e (found_more test f new xs)
  where
    go : (b : Bool) → (if b then Some x else find test xs) ≡ Some f →
        (find test xs ≡ Some f → find test (xs ++ new ∷ []) ≡ Some f) →
        (if b then Some x else find test (xs ++ new ∷ [])) ≡ Some f
    go true g later = g
    go false g later = later g

-- a flow whose receiver misses no less is put in place of one: what was true stays true
true_put : (f g : FlowState) (fs : List FlowState) → find (λ x. x.number == g.number) fs ≡ Some f →
    first_missing f ≤ first_missing g → (l : Load) → IsTrueOf l fs →
    IsTrueOf l (replace_first (λ x. x.number == g.number) g fs)
true_put f g fs e more Plain h = tt
true_put f g fs e more (Seg k first) h = tt
true_put f g fs e more (Ack k upto) h = go (cases_eq g.number k)
  where
    same : h.0 ≡ f → upto ≤ first_missing g
    same is = omega (arith, more, subst (λ x. upto ≤ first_missing x) is h.2)

    first : Some f ≡ Some h.0 → h.0 ≡ f
    first c = cc c

    go : (g.number ≡ k) ⊎ (g.number ≡ k → ⊥) → IsTrueOf (Ack k upto) (replace_first (λ x. x.number == g.number) g fs)
    go (inl n) = (
      g,
      found_put_at k n,
      same (first (sym e ∙ ap (λ j. find (λ x. x.number == j) fs) n ∙ h.1)),
    )
      where
        found_put_at : (j : ℕ) → g.number ≡ j →
            find (λ x. x.number == j) (replace_first (λ x. x.number == g.number) g fs) ≡ Some g
        found_put_at j q =
            subst (λ i. find (λ x. x.number == i) (replace_first (λ x. x.number == g.number) g fs) ≡ Some g) q
            (found_put (λ x. x.number == g.number) f g fs e (eq-eqb g.number g.number refl))
    go (inr n) = (h.0, other_put k g fs n ∙ h.1, h.2)

true_more : (new : FlowState) (fs : List FlowState) (l : Load) → IsTrueOf l fs → IsTrueOf l (fs ++ new ∷ [])
true_more new fs Plain h = tt
true_more new fs (Seg k first) h = tt
true_more new fs (Ack k upto) h = (h.0, found_more (λ x. x.number == k) h.0 new fs h.1, h.2)

-- what is said of a packet is said of each that an instance holds
abbrev pub ServesOf : (Packet → Type 0) → Option (InService Packet) → Type 0
ServesOf T None = Unit {0}
ServesOf T (Some s) = T s.item

abbrev pub OnWay : (Packet → Type 0) → Option Packet → Type 0
OnWay T None = Unit {0}
OnWay T (Some p) = T p

pub record HoldsOf (T : Packet → Type 0) (i : Instance) : Type 0 where
  pub in_flight : AllByRecursion (λ x. T x.item) i.line.in_flight
  pub service : ServesOf T i.service
  pub waiting : AllByRecursion (λ w. T w.item) i.waiting

module _ (T : Packet → Type 0) where
  entered-holds : (now delay : ℕ) (p : Packet) (l : Line Packet) → T p → AllByRecursion (λ x. T x.item) l.in_flight →
      AllByRecursion (λ x. T x.item) (enter p now delay l).in_flight
  entered-holds now delay p l q h = each_joined (λ x. T x.item) l.in_flight _ h (q, tt)

  left-holds : (xs : List (InFlight Packet)) → AllByRecursion (λ x. T x.item) xs → AllByRecursion (λ x. T x.item) (tail xs)
  left-holds [] h = tt
  left-holds (x ∷ xs) h = h.1

  first-holds : (xs : List (InFlight Packet)) → AllByRecursion (λ x. T x.item) xs → OnWay T (first_item xs)
  first-holds [] h = tt
  first-holds (x ∷ xs) h = h.0

  given-holds : (bw now : ℕ) (i : Instance) (o : Option (Queued Packet)) → AllByRecursion (λ w. T w.item) (option_to_list o) →
      ServesOf T (option_map (λ w. record { item = w.item; period = period_with bw now w.size i.service }) o)
  given-holds bw now i None h = tt
  given-holds bw now i (Some w) h = h.0

  next-holds : (config : PipeConfig) (now : ℕ) (i : Instance) → AllByRecursion (λ x. T x.item) i.line.in_flight →
      AllByRecursion (λ w. T w.item) i.waiting → HoldsOf T (serve_next config now i).state
  next-holds config now i line h =
      let d : Dequeued Packet = dequeue config.discipline now i.control i.waiting in
      let W : Queued Packet → Type 0 = λ w. T w.item in
      let all : AllByRecursion W (d.dropped ++ (option_to_list d.given ++ d.rest)) =
      subst (AllByRecursion W) (dequeue-cut config.discipline now i.control i.waiting).whole h in
      let later : AllByRecursion W (option_to_list d.given ++ d.rest) = each_back W d.dropped (option_to_list d.given ++ d.rest) all in
      record {
        in_flight = line;
        service = given-holds config.bw now i d.given (each_front W (option_to_list d.given) d.rest later);
        waiting = each_back W (option_to_list d.given) d.rest later;
      }

  arrive-holds : (config : PipeConfig) (now : ℕ) (p : Packet) (lost : Bool) (i : Instance) → T p → HoldsOf T i →
      HoldsOf T (instance_arrive config now p lost i).state
  arrive-holds config now p lost i q h =
      either P lost (drop_one i p Lost)
      (if accepts config.queue i.waiting p.size then accept config now p i else drop_one i p Full) h
      (either P (accepts config.queue i.waiting p.size) (accept config now p i) (drop_one i p Full)
      (either P (is_some i.service) (no_drop (enqueue now p i)) (serve_next config now (enqueue now p i))
      (record { in_flight = h.in_flight; service = h.service; waiting = more })
      (next-holds config now (enqueue now p i) h.in_flight more)) h)
    where
      P : After Instance → Type 0
      P a = HoldsOf T a.state

      more : AllByRecursion (λ w. T w.item) (enqueue now p i).waiting
      more = each_joined (λ w. T w.item) i.waiting _ h.waiting (q, tt)

  sent-holds : (config : PipeConfig) (now : ℕ) (o : Option (InService Packet)) (l : Line Packet) → ServesOf T o →
      AllByRecursion (λ x. T x.item) l.in_flight → AllByRecursion (λ x. T x.item) (send_off config now o l).in_flight
  sent-holds config now None l s h = h
  sent-holds config now (Some x) l s h = entered-holds now _ x.item l s h

  cut-holds : (o : Option (InService Packet)) → ServesOf T o → ServesOf T (option_map cut_service o)
  cut-holds None h = tt
  cut-holds (Some s) h = h

  abbrev pub PipeOf : PipeState → Type 0
  PipeOf p = AllByRecursion (HoldsOf T) p.instances

  pub pipe_arrive-holds : (seed now : ℕ) (packet : Packet) (p : PipeState) → T packet → PipeOf p →
      PipeOf (pipe_arrive seed now packet p).state
  pipe_arrive-holds seed now packet p q h =
      (pipe_arrive-each (HoldsOf T) seed now packet p (λ id. record { in_flight = tt; service = tt; waiting = tt })
      (λ lost i r. arrive-holds p.config now packet lost (drawn_one i) q
      (record { in_flight = r.in_flight; service = r.service; waiting = r.waiting })) h).each

  pub pipe_finish-holds : (now k : ℕ) (p : PipeState) → PipeOf p → PipeOf (pipe_finish now k p).state
  pipe_finish-holds now k p h =
      (change_one-each (HoldsOf T) p.number p.config k (instance_finish p.config now) p
      (record { number = refl; config = refl; each = h })
      (λ i q. next-holds p.config now (record i { line = send_off p.config now i.service i.line })
      (sent-holds p.config now i.service i.line q.service q.in_flight) q.waiting)).each

  pub pipe_exit-holds : (k : ℕ) (p : PipeState) → PipeOf p → PipeOf (pipe_exit k p)
  pipe_exit-holds k p h =
      each_changed (HoldsOf T) (λ i. record i { line = leave i.line }) k p.instances
      (λ i q. record { in_flight = left-holds i.line.in_flight q.in_flight; service = q.service; waiting = q.waiting }) h

  pub flying-holds : (k : ℕ) (p : PipeState) → PipeOf p → OnWay T (flying_in k p)
  flying-holds k p h = go (slice_get p.instances k) refl
    where
      go : (o : Option Instance) → slice_get p.instances k ≡ o → OnWay T (option_and_then (λ i. first_item i.line.in_flight) o)
      go None e = tt
      go (Some i) e = first-holds i.line.in_flight (each_got (HoldsOf T) i p.instances k e h).in_flight

  pub pipe_configure-holds : (config : PipeConfig) (p : PipeState) → PipeOf p → PipeOf (pipe_configure config p)
  pipe_configure-holds config p h =
      each_mapped (HoldsOf T) (HoldsOf T) (instance_configure p.config config)
      (λ i q. record { in_flight = q.in_flight; service = cut-holds i.service q.service; waiting = q.waiting }) p.instances h

  -- all that an instance holds, as a list
  served-list : (o : Option (InService Packet)) → ServesOf T o → AllByRecursion T (option_to_list (option_map (λ s. s.item) o))
  served-list None h = tt
  served-list (Some s) h = (h, tt)

  instance-list : (i : Instance) → HoldsOf T i → AllByRecursion T (held_in i)
  instance-list i h =
      each_joined T (map (λ x. x.item) i.line.in_flight ++ option_to_list (option_map (λ s. s.item) i.service))
      (map (λ w. w.item) i.waiting)
      (each_joined T (map (λ x. x.item) i.line.in_flight) (option_to_list (option_map (λ s. s.item) i.service))
      (each_mapped (λ x. T x.item) T (λ x. x.item) (λ x q. q) i.line.in_flight h.in_flight)
      (served-list i.service h.service))
      (each_mapped (λ w. T w.item) T (λ w. w.item) (λ w q. q) i.waiting h.waiting)

  flat-list : {A : Type 0} (Q : A → Type 0) (f : A → List Packet) → ((a : A) → Q a → AllByRecursion T (f a)) →
      (xs : List A) → AllByRecursion Q xs → AllByRecursion T (flat_map f xs)
  flat-list Q f h [] q = tt
  flat-list Q f h (x ∷ xs) q = each_joined T (f x) (flat_map f xs) (h x q.0) (flat-list Q f h xs q.1)

  pub net-list : (n : Net) → AllByRecursion (λ x. T x.item) n.direct.in_flight → AllByRecursion PipeOf n.pipes →
      AllByRecursion T (held_packets n)
  net-list n d p =
      each_joined T (map (λ x. x.item) n.direct.in_flight) (flat_map pipe_packets n.pipes)
      (each_mapped (λ x. T x.item) T (λ x. x.item) (λ x q. q) n.direct.in_flight d)
      (flat-list PipeOf pipe_packets (λ q h. flat-list (HoldsOf T) held_in instance-list q.instances h) n.pipes p)

-- what follows for each packet
weaker : (T U : Packet → Type 0) → ((p : Packet) → T p → U p) → (i : Instance) → HoldsOf T i → HoldsOf U i
weaker T U h i q = record {
  in_flight = each_weaker (λ x. T x.item) (λ x. U x.item) (λ x r. h x.item r) i.line.in_flight q.in_flight;
  service = go i.service q.service;
  waiting = each_weaker (λ w. T w.item) (λ w. U w.item) (λ w r. h w.item r) i.waiting q.waiting;
}
  where
    go : (o : Option (InService Packet)) → ServesOf T o → ServesOf U o
    go None r = tt
    go (Some s) r = h s.item r

-- a packet's load is true of the flows
abbrev pub IsTrue : List FlowState → Packet → Type 0
IsTrue fs p = IsTrueOf p.load fs

pub record AllTrue (o : Option Packet) (n : Net) : Type 0 where
  pub flows : AllByRecursion Acked n.flows
  pub direct : AllByRecursion (λ x. IsTrue n.flows x.item) n.direct.in_flight
  pub pipes : AllByRecursion (PipeOf (IsTrue n.flows)) n.pipes
  pub way : OnWay (IsTrue n.flows) o

-- other flows, of which all is true that was true
changed : (n : Net) (fs : List FlowState) → ((l : Load) → IsTrueOf l n.flows → IsTrueOf l fs) →
    AllByRecursion Acked fs → (o : Option Packet) → AllTrue o n → AllTrue None (record n { flows = fs })
changed n fs rise acked o h = record {
  flows = acked;
  direct = each_weaker (λ x. IsTrue n.flows x.item) (λ x. IsTrue fs x.item) (λ x q. rise x.item.load q) n.direct.in_flight h.direct;
  pipes = each_weaker (PipeOf (IsTrue n.flows)) (PipeOf (IsTrue fs))
      (λ p q. each_weaker (HoldsOf (IsTrue n.flows)) (HoldsOf (IsTrue fs))
      (weaker (IsTrue n.flows) (IsTrue fs) (λ x r. rise x.load r)) p.instances q) n.pipes h.pipes;
  way = tt;
}

-- a flow is put in place of itself, as it was found
put : (k : ℕ) (f g : FlowState) (n : Net) → find_flow k n ≡ Some f → g.number ≡ f.number →
    first_missing f ≤ first_missing g → (Acked f → Acked g) → (o : Option Packet) → AllTrue o n →
    AllTrue None (record n { flows = replace_first (λ x. x.number == g.number) g n.flows })
put k f g n e same more acked o h =
    let number : f.number ≡ k = eqb-true f.number k (found-passes (λ x. x.number == k) f n.flows e) in
    let there : find (λ x. x.number == g.number) n.flows ≡ Some f =
    ap (λ j. find (λ x. x.number == j) n.flows) (same ∙ number) ∙ e in
    changed n (replace_first (λ x. x.number == g.number) g n.flows) (true_put f g n.flows there more)
    (each_replaced Acked (λ x. x.number == g.number) g n.flows
    (acked (each_found Acked (λ x. x.number == k) f n.flows e h.flows)) h.flows) o h

true-keeps : (b : ℕ) → Keeps b (λ f. Unit {0}) Anything AllTrue
true-keeps b = record {
  quiet = λ o n m a h. record {
    flows = subst (AllByRecursion Acked) (sym a.flows) h.flows;
    direct = subst (λ fs. AllByRecursion (λ x. IsTrue fs x.item) m.direct.in_flight) (sym a.flows)
        (subst (λ l. AllByRecursion (λ x. IsTrue n.flows x.item) l.in_flight) (sym a.direct) h.direct);
    pipes = subst (λ fs. AllByRecursion (PipeOf (IsTrue fs)) m.pipes) (sym a.flows)
        (subst (AllByRecursion (PipeOf (IsTrue n.flows))) (sym a.pipes) h.pipes);
    way = subst (λ fs. OnWay (IsTrue fs) o) (sym a.flows) h.way;
  };
  lost = λ p n h. record { flows = h.flows; direct = h.direct; pipes = h.pipes; way = tt };
  made = λ number l send n few true_of h.
      record { flows = h.flows; direct = h.direct; pipes = h.pipes; way = true_of };
  placed = λ place p n h. record { flows = h.flows; direct = h.direct; pipes = h.pipes; way = h.way };
  entered = λ now p n h. record {
    flows = h.flows;
    direct = entered-holds (IsTrue n.flows) now 0 p n.direct h.way h.direct;
    pipes = h.pipes;
    way = tt;
  };
  left = λ n h. record {
    flows = h.flows;
    direct = left-holds (IsTrue n.flows) n.direct.in_flight h.direct;
    pipes = h.pipes;
    way = first-holds (IsTrue n.flows) n.direct.in_flight h.direct;
  };
  arrived = λ seed now k p q n e h. record {
    flows = h.flows;
    direct = h.direct;
    pipes = each_replaced (PipeOf (IsTrue n.flows)) (λ x. x.number == k) (pipe_arrive seed now p q).state n.pipes
        (pipe_arrive-holds (IsTrue n.flows) seed now p q h.way (found k q n e h)) h.pipes;
    way = tt;
  };
  finished = λ now pipe k p n e h. record {
    flows = h.flows;
    direct = h.direct;
    pipes = each_replaced (PipeOf (IsTrue n.flows)) (λ x. x.number == pipe) (pipe_finish now k p).state n.pipes
        (pipe_finish-holds (IsTrue n.flows) now k p (found pipe p n e h)) h.pipes;
    way = tt;
  };
  pipe_left = λ pipe k p n e h. record {
    flows = h.flows;
    direct = h.direct;
    pipes = each_replaced (PipeOf (IsTrue n.flows)) (λ x. x.number == pipe) (pipe_exit k p) n.pipes
        (pipe_exit-holds (IsTrue n.flows) k p (found pipe p n e h)) h.pipes;
    way = flying-holds (IsTrue n.flows) k p (found pipe p n e h);
  };
  configured = λ k config p n ok e h. record {
    flows = h.flows;
    direct = h.direct;
    pipes = each_replaced (PipeOf (IsTrue n.flows)) (λ x. x.number == k) (pipe_configure config p) n.pipes
        (pipe_configure-holds (IsTrue n.flows) config p (found k p n e h)) h.pipes;
    way = tt;
  };
  opened = λ k config n ok e h. record {
    flows = h.flows;
    direct = h.direct;
    pipes = with_pipe-each (PipeOf (IsTrue n.flows)) (record { number = k; config = config; instances = [] }) n.pipes tt h.pipes;
    way = tt;
  };
  deleted = λ k p n e h. record {
    flows = h.flows;
    direct = h.direct;
    pipes = each_removed (PipeOf (IsTrue n.flows)) (λ q. q.number == k) n.pipes h.pipes;
    way = tt;
  };
  came = λ k first p f n is e h. put k f (record f { came = with_segment first f.came }) n e refl
      (came-acked first f (each_found Acked (λ x. x.number == k) f n.flows e h.flows))
      (λ a. record {
        firsts = first ∷ a.firsts;
        came = ap (with_segment first) a.came;
        below = omega (arith, a.below, came-acked first f a);
      }) (Some p) h;
  acked = λ now k upto p f n is e h. put k f (record f { sender = ack f.flow now upto f.sender }) n e refl (omega arith)
      (λ a. record {
        firsts = a.firsts;
        came = a.came;
        below = una-ack f.flow now upto (first_missing f) f.sender (says k upto p f n is e h.way) a.below;
      }) (Some p) h;
  expired = λ now k f n e h. put k f (record f { sender = expire f.flow now f.sender }) n e refl (omega arith)
      (λ a. record { firsts = a.firsts; came = a.came; below = a.below }) None h;
  emitted = λ now k f n e sends h. put k f (record f { sender = emit f.flow now f.sender }) n e refl (omega arith)
      (λ a. record {
        firsts = a.firsts;
        came = a.came;
        below = omega (arith, una-emit f.flow now f.sender, a.below);
      }) None h;
  stopped = λ k f n e h. put k f (record f { stopped = true }) n e refl (omega arith)
      (λ a. record { firsts = a.firsts; came = a.came; below = a.below }) None h;
  started = λ k f n ok new h. changed n _ (true_more _ n.flows)
      (each_joined Acked n.flows _ h.flows (record { firsts = []; came = refl; below = omega arith }, tt)) None h;
}
  where
    found : {o : Option Packet} (k : ℕ) (q : PipeState) (n : Net) → find_pipe k n ≡ Some q → AllTrue o n → PipeOf (IsTrue n.flows) q
    found k q n e h = each_found (PipeOf (IsTrue n.flows)) (λ x. x.number == k) q n.pipes e h.pipes

    says : (k upto : ℕ) (p : Packet) (f : FlowState) (n : Net) → p.load ≡ Ack k upto → find_flow k n ≡ Some f →
        IsTrueOf p.load n.flows → upto ≤ first_missing f
    says k upto p f n is e h =
        let t : IsTrueOf (Ack k upto) n.flows = subst (λ l. IsTrueOf l n.flows) is h in
        subst (λ x. upto ≤ first_missing x) (same t.0 (sym t.1 ∙ e)) t.2
      where
        same : (g : FlowState) → Some g ≡ Some f → g ≡ f
        same g q = cc q

pub acked_has_arrived : AckedHasArrived
acked_has_arrived spec c n =
    let net : Net = (alone spec c n).net in
    let h : AllTrue None net =
    steps_keep (λ f. Unit {0}) Anything AllTrue spec c (true-keeps spec.budget.packets)
    (λ k t g e none f there. tt) (anything c) (record { flows = tt; direct = tt; pipes = tt; way = tt }) n in
    record {
      taken = each_weaker Acked (λ f. f.sender.snd_una ≤ first_missing f) (λ f a. a.below) net.flows h.flows;
      under_way = each_weaker (IsTrue net.flows) (SaysWhatCame net) (says net) (held_packets net)
          (net-list (IsTrue net.flows) net h.direct h.pipes);
    }
  where
    says : (m : Net) (p : Packet) → IsTrue m.flows p → SaysWhatCame m p
    says m p h k upto f is e =
        let t : IsTrueOf (Ack k upto) m.flows = subst (λ l. IsTrueOf l m.flows) is h in
        subst (λ x. upto ≤ first_missing x) (same t.0 (sym t.1 ∙ e)) t.2
      where
        same : (g : FlowState) → Some g ≡ Some f → g ≡ f
        same g q = cc q
