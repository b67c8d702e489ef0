-- Where a packet is held once, in service, all else that is held is another; so once it finishes, it alone is on a line,
-- to leave after the delay.
use Rattle.std.proofs.Common.{◌≡◌, ℕ, zero, suc, ◌+◌, ◌≤◌, List, [], ◌∷◌, ◌++◌, Bool, true, false, refl, sym, ◌∙◌, ap, subst, Option, Some, None, eq-eqb, arith}
use Rattle.std.specs.Prelude.{if◌then◌else◌, ◌==◌, max, count_by, sum_by, find, map, flat_map, slice_get, option_map, option_to_list, option_and_then}
use Rattle.std.specs.Option.{option_map_or}
use Rattle.std.specs.List.{AllByRecursion}
use Rattle.std.proofs.lemmas.List.Sums.{sum_by-cons, sum_by-append}
use Rattle.emu_laws.proofs.Types.{Packet, PipeConfig}
use Rattle.emu_model.specs.Lists.{replace_first, change_at}
use Rattle.emu_model.specs.Moments.{milliseconds}
use Rattle.emu_model.specs.Delay.{InFlight, Line}
use Rattle.emu_model.specs.DropTail.{Queued}
use Rattle.emu_model.specs.Pipes.{InService, Instance, PipeState, held_in, pipe_packets, no_drop, put_instance, send_off, instance_finish, pipe_finish}
use Rattle.emu_model.specs.Net.{Net, find_pipe}
use Rattle.emu_model.specs.Events.{served_in}
use Rattle.emu_model.specs.TraceLaws.{held_packets}
use Rattle.emu_laws.proofs.AckedCame.{ServesOf}
use Rattle.emu_laws.proofs.EachOf.{each_joined}
use Rattle.emu_laws.proofs.ExitsDue.{one_if, one_true, count-cons}
use Rattle.emu_laws.proofs.HeldFrom.{Is, LeavesFrom, HoldsFrom, PipeFrom, next-from}

-- how often a packet is among these
abbrev pub times : ℕ → List Packet → ℕ
times x ps = count_by (λ p. p.number == x) ps

times-cons : (x : ℕ) (p : Packet) (ps : List Packet) → times x (p ∷ ps) ≡ one_if (p.number == x) + times x ps
times-cons x p ps = count-cons (λ q. q.number == x) p ps

times-append : (x : ℕ) (ps qs : List Packet) → times x (ps ++ qs) ≡ times x ps + times x qs
times-append x ps qs = sum_by-append (λ p. if p.number == x then 1 else 0) ps qs

times-flat : {A : Type 0} (x : ℕ) (f : A → List Packet) (xs : List A) →
    times x (flat_map f xs) ≡ sum_by (λ a. times x (f a)) xs
times-flat x f [] = refl
times-flat x f (a ∷ xs) =
    times-append x (f a) (flat_map f xs) ∙ ap (λ k. times x (f a) + k) (times-flat x f xs)
    ∙ sym (sum_by-cons (λ b. times x (f b)) a xs)

is-one : (x : ℕ) (p : Packet) → p.number ≡ x → one_if (p.number == x) ≡ 1
is-one x p e = one_true (p.number == x) (eq-eqb p.number x e)

-- nowhere among what a list's items hold
none-among : {A : Type 0} (x : ℕ) (f : A → Packet) (xs : List A) → times x (map f xs) ≡ 0 →
    AllByRecursion (λ a. (f a).number ≡ x → ⊥) xs
none-among x f [] e = tt
none-among x f (a ∷ xs) e = (
  λ g. omega (arith, e, times-cons x (f a) (map f xs), is-one x (f a) g),
  none-among x f xs (omega (arith, e, times-cons x (f a) (map f xs))),
)

-- ---- one of a list, and all others

all-zero : {A : Type 0} (f : A → ℕ) (Q : A → Type 0) (xs : List A) → ((a : A) → f a ≡ 0 → Q a) → sum_by f xs ≡ 0 →
    AllByRecursion Q xs
all-zero f Q [] none e = tt
all-zero f Q (a ∷ xs) none e = (
  none a (omega (arith, e, sum_by-cons f a xs)),
  all-zero f Q xs none (omega (arith, e, sum_by-cons f a xs)),
)

found-within : {A : Type 0} (f : A → ℕ) (test : A → Bool) (p : A) (xs : List A) → find test xs ≡ Some p → f p ≤ sum_by f xs
found-within f test p [] e = absurd (cc e)
found-within f test p (a ∷ xs) e = go (test a) e (λ g. found-within f test p xs g)
  where
    go : (b : Bool) → (if b then Some a else find test xs) ≡ Some p → (find test xs ≡ Some p → f p ≤ sum_by f xs) →
        f p ≤ sum_by f (a ∷ xs)
    go true g later =
        let same : a ≡ p = cc g in
        omega (arith, ap f same, sum_by-cons f a xs)
    go false g later = omega (arith, later g, sum_by-cons f a xs)

got-within : {A : Type 0} (f : A → ℕ) (i : A) (xs : List A) (k : ℕ) → slice_get xs k ≡ Some i → f i ≤ sum_by f xs
got-within f i [] k e = absurd (cc e)
got-within f i (a ∷ xs) zero e =
    let same : a ≡ i = cc e in
    omega (arith, ap f same, sum_by-cons f a xs)
got-within f i (a ∷ xs) (suc k) e = omega (arith, got-within f i xs k e, sum_by-cons f a xs)

one-replaced : {A : Type 0} (f : A → ℕ) (Q : A → Type 0) (test : A → Bool) (p y : A) (xs : List A) →
    find test xs ≡ Some p → 1 ≤ f p → sum_by f xs ≤ 1 → ((a : A) → f a ≡ 0 → Q a) → Q y →
    AllByRecursion Q (replace_first test y xs)
one-replaced f Q test p y [] e one most none q = tt
one-replaced f Q test p y (a ∷ xs) e one most none q =
    go (test a) e (λ g h. one-replaced f Q test p y xs g one h none q)
  where
    go : (b : Bool) → (if b then Some a else find test xs) ≡ Some p →
        (find test xs ≡ Some p → sum_by f xs ≤ 1 → AllByRecursion Q (replace_first test y xs)) →
        AllByRecursion Q (if b then y ∷ xs else a ∷ replace_first test y xs)
    go true g later =
        let same : a ≡ p = cc g in
        (q, all-zero f Q xs none (omega (arith, ap f same, one, most, sum_by-cons f a xs)))
    go false g later = (
      none a (omega (arith, found-within f test p xs g, one, most, sum_by-cons f a xs)),
      later g (omega (arith, most, sum_by-cons f a xs)),
    )

one-changed : {A : Type 0} (f : A → ℕ) (Q : A → Type 0) (i y : A) (xs : List A) (k : ℕ) → slice_get xs k ≡ Some i →
    1 ≤ f i → sum_by f xs ≤ 1 → ((a : A) → f a ≡ 0 → Q a) → Q y → AllByRecursion Q (change_at k (λ a. y) xs)
one-changed f Q i y [] k e one most none q = tt
one-changed f Q i y (a ∷ xs) zero e one most none q =
    let same : a ≡ i = cc e in
    (q, all-zero f Q xs none (omega (arith, ap f same, one, most, sum_by-cons f a xs)))
one-changed f Q i y (a ∷ xs) (suc k) e one most none q = (
  none a (omega (arith, got-within f i xs k e, one, most, sum_by-cons f a xs)),
  one-changed f Q i y xs k e one (omega (arith, most, sum_by-cons f a xs)) none q,
)

-- ---- an instance without the packet, and one in which it finishes

served : Option (InService Packet) → List Packet
served o = option_to_list (option_map (λ s. s.item) o)

in-parts : (x : ℕ) (i : Instance) →
    times x (held_in i) ≡ times x (map (λ l. l.item) i.line.in_flight) + times x (served i.service) + times x (map (λ w. w.item) i.waiting)
unfolding served
in-parts x i =
    let flying : List Packet = map (λ l. l.item) i.line.in_flight in
    let serving : List Packet = option_to_list (option_map (λ s. s.item) i.service) in
    let waiting : List Packet = map (λ w. w.item) i.waiting in
    omega (arith, times-append x (flying ++ serving) waiting, times-append x flying serving)

no-in_flight : (moment x : ℕ) (ls : List (InFlight Packet)) → AllByRecursion (λ l. l.item.number ≡ x → ⊥) ls →
    AllByRecursion (LeavesFrom moment x) ls
no-in_flight moment x [] h = tt
no-in_flight moment x (l ∷ ls) h = ((λ e. absurd (h.0 e)), no-in_flight moment x ls h.1)

no-waiting : (moment x now : ℕ) (ws : List (Queued Packet)) → AllByRecursion (λ w. w.item.number ≡ x → ⊥) ws →
    AllByRecursion (λ w. Is moment x now w.item) ws
no-waiting moment x now [] h = tt
no-waiting moment x now (w ∷ ws) h = ((λ e. absurd (h.0 e)), no-waiting moment x now ws h.1)

no-service : (moment x now : ℕ) (o : Option (InService Packet)) → times x (served o) ≡ 0 → ServesOf (Is moment x now) o
unfolding served
no-service moment x now None e = tt
no-service moment x now (Some s) e = λ g. absurd (omega (arith, e, times-cons x s.item [], is-one x s.item g))

without : (moment x now : ℕ) (i : Instance) → times x (held_in i) ≡ 0 → HoldsFrom moment x now i
without moment x now i e = record {
  in_flight = no-in_flight moment x i.line.in_flight
      (none-among x (λ l. l.item) i.line.in_flight (omega (arith, e, in-parts x i)));
  service = no-service moment x now i.service (omega (arith, e, in-parts x i));
  waiting = no-waiting moment x now i.waiting
      (none-among x (λ w. w.item) i.waiting (omega (arith, e, in-parts x i)));
}

serves-one : (o : Option (InService Packet)) (s : InService Packet) → o ≡ Some s → 1 ≤ times s.item.number (served o)
unfolding served
serves-one None s e = absurd (cc e)
serves-one (Some r) s e =
    let same : r ≡ s = cc e in
    subst (λ y. 1 ≤ times s.item.number (y.item ∷ [])) (sym same)
    (omega (arith, times-cons s.item.number s.item [], is-one s.item.number s.item refl))

-- the packet that finishes leaves after the delay at least
sent-late : (config : PipeConfig) (now delay : ℕ) (s : InService Packet) (o : Option (InService Packet)) (l : Line Packet) →
    delay ≤ config.delay → AllByRecursion (λ x. x.item.number ≡ s.item.number → ⊥) l.in_flight →
    AllByRecursion (LeavesFrom (now + max (milliseconds delay) 1) s.item.number) (send_off config now o l).in_flight
sent-late config now delay s None l b h = no-in_flight (now + max (milliseconds delay) 1) s.item.number l.in_flight h
sent-late config now delay s (Some r) l b h =
    each_joined (LeavesFrom (now + max (milliseconds delay) 1) s.item.number) l.in_flight _
    (no-in_flight (now + max (milliseconds delay) 1) s.item.number l.in_flight h)
    ((λ e. omega (arith, b)), tt)

finish-late : (config : PipeConfig) (now delay : ℕ) (s : InService Packet) (i : Instance) → i.service ≡ Some s →
    delay ≤ config.delay → times s.item.number (held_in i) ≤ 1 →
    HoldsFrom (now + max (milliseconds delay) 1) s.item.number now (instance_finish config now i).state
finish-late config now delay s i e b most =
    let x : ℕ = s.item.number in
    next-from (now + max (milliseconds delay) 1) x now config (record i { line = send_off config now i.service i.line })
    (sent-late config now delay s i.service i.line b
    (none-among x (λ l. l.item) i.line.in_flight (omega (arith, most, in-parts x i, serves-one i.service s e))))
    (no-waiting (now + max (milliseconds delay) 1) x now i.waiting
    (none-among x (λ w. w.item) i.waiting (omega (arith, most, in-parts x i, serves-one i.service s e))))

-- ---- a pipe, and the net

pipe-times : (x : ℕ) (p : PipeState) → times x (pipe_packets p) ≡ sum_by (λ i. times x (held_in i)) p.instances
pipe-times x p = times-flat x held_in p.instances

pipe-without : (moment x now : ℕ) (p : PipeState) → times x (pipe_packets p) ≡ 0 → PipeFrom moment x now p
pipe-without moment x now p e =
    all-zero (λ i. times x (held_in i)) (HoldsFrom moment x now) p.instances (without moment x now)
    (sym (pipe-times x p) ∙ e)

-- the instance that serves a packet
pub record Serves (k : ℕ) (p : PipeState) (s : InService Packet) : Type 0 where
  pub instance : Instance
  pub there : slice_get p.instances k ≡ Some instance
  pub service : instance.service ≡ Some s

pub serves : (k : ℕ) (p : PipeState) (s : InService Packet) → served_in k p ≡ Some s → Serves k p s
serves k p s e = go (slice_get p.instances k) refl e
  where
    go : (o : Option Instance) → slice_get p.instances k ≡ o → option_and_then (λ i. i.service) o ≡ Some s → Serves k p s
    go None g h = absurd (cc h)
    go (Some i) g h = record { instance = i; there = g; service = h }

serves-within : (k : ℕ) (p : PipeState) (s : InService Packet) → Serves k p s → 1 ≤ times s.item.number (pipe_packets p)
serves-within k p s r =
    let x : ℕ = s.item.number in
    omega (
      arith,
      pipe-times x p,
      got-within (λ i. times x (held_in i)) r.instance p.instances k r.there,
      in-parts x r.instance,
      serves-one r.instance.service s r.service,
    )

pipe_finish-late : (now delay k : ℕ) (p : PipeState) (s : InService Packet) → Serves k p s → delay ≤ p.config.delay →
    times s.item.number (pipe_packets p) ≤ 1 →
    PipeFrom (now + max (milliseconds delay) 1) s.item.number now (pipe_finish now k p).state
pipe_finish-late now delay k p s r b most =
    let x : ℕ = s.item.number in
    let size : Instance → ℕ = λ i. times x (held_in i) in
    let new : Instance = (instance_finish p.config now r.instance).state in
    let same : pipe_finish now k p ≡ put_instance k p (instance_finish p.config now r.instance) =
    ap (λ o. option_map_or (λ i. put_instance k p (instance_finish p.config now i)) o (no_drop p)) r.there in
    subst (λ a. PipeFrom (now + max (milliseconds delay) 1) x now a.state) (sym same)
    (one-changed size (HoldsFrom (now + max (milliseconds delay) 1) x now) r.instance new p.instances k r.there
    (omega (arith, in-parts x r.instance, serves-one r.instance.service s r.service))
    (omega (arith, most, pipe-times x p)) (without (now + max (milliseconds delay) 1) x now)
    (finish-late p.config now delay s r.instance r.service b
    (omega (arith, most, pipe-times x p, got-within size r.instance p.instances k r.there))))

net-times : (x : ℕ) (n : Net) → times x (held_packets n)
    ≡ times x (map (λ l. l.item) n.direct.in_flight) + sum_by (λ p. times x (pipe_packets p)) n.pipes
net-times x n =
    times-append x (map (λ l. l.item) n.direct.in_flight) (flat_map pipe_packets n.pipes)
    ∙ ap (λ k. times x (map (λ l. l.item) n.direct.in_flight) + k) (times-flat x pipe_packets n.pipes)

-- the packet in service of a pipe is held
pub served-held : (pipe k : ℕ) (p : PipeState) (s : InService Packet) (n : Net) → find_pipe pipe n ≡ Some p →
    Serves k p s → 1 ≤ times s.item.number (held_packets n)
served-held pipe k p s n e r =
    let x : ℕ = s.item.number in
    omega (
      arith,
      net-times x n,
      found-within (λ q. times x (pipe_packets q)) (λ q. q.number == pipe) p n.pipes e,
      serves-within k p s r,
    )

pub record FinishesLate (moment x now : ℕ) (n : Net) (ps : List PipeState) : Type 0 where
  pub direct : AllByRecursion (LeavesFrom moment x) n.direct.in_flight
  pub pipes : AllByRecursion (PipeFrom moment x now) ps

pub finishes_late : (now delay pipe k : ℕ) (p : PipeState) (s : InService Packet) (n : Net) → find_pipe pipe n ≡ Some p →
    Serves k p s → delay ≤ p.config.delay → times s.item.number (held_packets n) ≤ 1 →
    FinishesLate (now + max (milliseconds delay) 1) s.item.number now n
    (replace_first (λ q. q.number == pipe) (pipe_finish now k p).state n.pipes)
finishes_late now delay pipe k p s n e r b most =
    let x : ℕ = s.item.number in
    let moment : ℕ = now + max (milliseconds delay) 1 in
    let load : PipeState → ℕ = λ q. times x (pipe_packets q) in
    let within : load p ≤ sum_by load n.pipes = found-within load (λ q. q.number == pipe) p n.pipes e in
    record {
      direct = no-in_flight moment x n.direct.in_flight
          (none-among x (λ l. l.item) n.direct.in_flight (omega (arith, most, net-times x n, within, serves-within k p s r)));
      pipes = one-replaced load (PipeFrom moment x now) (λ q. q.number == pipe) p (pipe_finish now k p).state n.pipes e
          (serves-within k p s r) (omega (arith, most, net-times x n)) (pipe-without moment x now)
          (pipe_finish-late now delay k p s r b (omega (arith, most, net-times x n, within)));
    }
