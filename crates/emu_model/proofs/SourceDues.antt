-- The next event is due when what it is the event of is due.
use Rattle.std.proofs.Common.{◌≡◌, ℕ, zero, suc, ◌+◌, ◌*◌, ◌/◌, ◌%◌, ◌≤◌, List, [], ◌∷◌, ◌++◌, Bool, true, false, refl, sym, ◌∙◌, ap, subst, Some, arith, eq-eqb}
use Rattle.std.specs.Prelude.{if◌then◌else◌, ◌==◌, nat_lt, find, slice_get, count_by, flat_map, option_map, option_to_list}
use Rattle.std.specs.List.{AllByRecursion}
use Rattle.std.proofs.lemmas.Bool.{eqb-true, and_parts, and_from, both_ways}
use Rattle.emu_model.specs.Types.{Packet, Timed, Finish, Emission, Source}
use Rattle.emu_model.specs.declared.sources.Due.{Due}
use Rattle.emu_model.specs.Pipes.{InService, Instance, PipeState}
use Rattle.emu_model.specs.Net.{Net, TrainState, find_pipe, find_train}
use Rattle.emu_model.specs.Dues.{due, line_dues, service_dues, instances_dues, pipe_dues, flow_dues, train_dues, dues_of, rank}
use Rattle.emu_model.specs.Step.{State, next_event}
use Rattle.emu_model.specs.RunLaws.{same_source}
use Rattle.emu_model.proofs.AllFacts.{each_front, each_back, each_weaker, each_found}
use Rattle.emu_model.proofs.Numbers.{one_if, count-cons}
use Rattle.emu_model.proofs.CallerLemmas.{of_next_event}

-- each source has at most one due
abbrev pub OneEach : State → Type 0
OneEach s = (k : Source) → count_by (λ d. same_source d.source k) (dues_of s.clock s.net) ≤ 1

none-pass : {A : Type 0} (test : A → Bool) (xs : List A) → count_by test xs ≤ 0 →
    AllByRecursion (λ x. test x ≡ false) xs
none-pass test [] h = tt
none-pass test (x ∷ xs) h = go (test x) refl (λ g. none-pass test xs g)
  where
    go : (b : Bool) → test x ≡ b → (count_by test xs ≤ 0 → AllByRecursion (λ y. test y ≡ false) xs) →
        (test x ≡ false) × AllByRecursion (λ y. test y ≡ false) xs
    go true e later =
        let bit : one_if (test x) ≡ 1 = ap one_if e in
        absurd (omega (arith, count-cons test x xs, h))
    go false e later = (e, later (omega (arith, count-cons test x xs, h)))

-- of the dues that pass a test, which is one at most, all are due at one moment
abbrev AgreeAt : (Due → Bool) → List Due → Due → Type 0
AgreeAt test ds d = test d ≡ true → AllByRecursion (λ x. test x ≡ true → d.moment ≡ x.moment) ds

all-agree : (test : Due → Bool) (ds : List Due) → count_by test ds ≤ 1 → AllByRecursion (AgreeAt test ds) ds
all-agree test [] h = tt
all-agree test (y ∷ ys) h = go (test y) refl (λ g. all-agree test ys g)
  where
    go : (b : Bool) → test y ≡ b → (count_by test ys ≤ 1 → AllByRecursion (AgreeAt test ys) ys) →
        AllByRecursion (AgreeAt test (y ∷ ys)) (y ∷ ys)
    go true e later =
        let bit : one_if (test y) ≡ 1 = ap one_if e in
        let none : AllByRecursion (λ d. test d ≡ false) ys =
        none-pass test ys (omega (arith, count-cons test y ys, h)) in (
          λ g. (
            λ f. refl,
            each_weaker (λ d. test d ≡ false) (λ x. test x ≡ true → y.moment ≡ x.moment)
                (λ x f t. absurd (both_ways (test x) f t)) ys none,
          ),
          each_weaker (λ d. test d ≡ false) (AgreeAt test (y ∷ ys)) (λ x f t. absurd (both_ways (test x) f t)) ys none,
        )
    go false e later = (
      λ g. absurd (both_ways (test y) e g),
      each_weaker (AgreeAt test ys) (AgreeAt test (y ∷ ys)) (λ x f t. (λ g. absurd (both_ways (test y) e g), f t)) ys
          (later (omega (arith, count-cons test y ys, h))),
    )

-- what has the source of the next event, which is no command, is due at its moment
same-moment : (s : State) (c : Timed) → OneEach s → (rank (next_event s c).source.class ≡ 0 → ⊥) →
    AllByRecursion (λ d. same_source d.source (next_event s c).source ≡ true → (next_event s c).moment ≡ d.moment)
    (dues_of s.clock s.net)
same-moment s c one other =
    of_next_event (AgreeAt test (dues_of s.clock s.net)) s c
    (λ g. absurd (other (sym (eqb-true 0 (rank e.source.class) (and_parts _ _ g).0))))
    (all-agree test (dues_of s.clock s.net) (one e.source))
    (and_from _ _ (eq-eqb (rank e.source.class) (rank e.source.class) refl)
    (eq-eqb e.source.number e.source.number refl))
  where
    e : Due
    e = next_event s c

    test : Due → Bool
    test d = same_source d.source e.source

found-passes : {A : Type 0} (test : A → Bool) (x : A) (xs : List A) → find test xs ≡ Some x → test x ≡ true
found-passes test x [] e = absurd (cc e)
found-passes test x (z ∷ zs) e = go (test z) refl e (λ g. found-passes test x zs g)
  where
    go : (b : Bool) → test z ≡ b → (if b then Some z else find test zs) ≡ Some x →
        (find test zs ≡ Some x → test x ≡ true) → test x ≡ true
    go true h g later = subst (λ y. test y ≡ true) (cc g) h
    go false h g later = later g

each-flat : {A : Type 0} (P : Due → Type 0) (dues : A → List Due) (xs : List A) →
    AllByRecursion P (flat_map dues xs) → AllByRecursion (λ x. AllByRecursion P (dues x)) xs
each-flat P dues [] h = tt
each-flat P dues (x ∷ xs) h =
    (each_front P (dues x) (flat_map dues xs) h, each-flat P dues xs (each_back P (dues x) (flat_map dues xs) h))

-- what is said of all dues is said of the finish in instance j
instance-finish : (P : Due → Type 0) (start j k : ℕ) (is : List Instance) (i : Instance) (s : InService Packet) →
    k ≡ start + j → slice_get is j ≡ Some i → i.service ≡ Some s → AllByRecursion P (instances_dues start is) →
    P (due Finish k s.period.finish)
instance-finish P start j k [] i s n e g h = absurd (cc e)
instance-finish P start zero k (x ∷ xs) i s n e g h =
    let same : x ≡ i = cc e in
    let service : x.service ≡ Some s = ap (λ y. y.service) same ∙ g in
    let here : AllByRecursion P (service_dues start x) =
    each_back P (line_dues start x.line) (service_dues start x)
    (each_front P (line_dues start x.line ++ service_dues start x) (instances_dues (start + 1) xs) h) in
    let first : P (due Finish start s.period.finish) =
    (subst (λ o. AllByRecursion P (option_to_list (option_map (λ y. due Finish start y.period.finish) o))) service here).0 in
    let number : start ≡ k = omega arith in
    subst (λ m. P (due Finish m s.period.finish)) number first
instance-finish P start (suc j) k (x ∷ xs) i s n e g h =
    instance-finish P (start + 1) j k xs i s (omega arith) e g
    (each_back P (line_dues start x.line ++ service_dues start x) (instances_dues (start + 1) xs) h)

module _ (P : Due → Type 0) (clock k : ℕ) (n : Net) (h : AllByRecursion P (dues_of clock n)) where
  finish-said : (p : PipeState) (i : Instance) (s : InService Packet) → find_pipe (k / 256) n ≡ Some p →
      slice_get p.instances (k % 256) ≡ Some i → i.service ≡ Some s → P (due Finish k s.period.finish)
  finish-said p i s e g f =
      let number : p.number ≡ k / 256 =
      eqb-true p.number (k / 256) (found-passes (λ q. q.number == k / 256) p n.pipes e) in
      instance-finish P (p.number * 256) (k % 256) k p.instances i s (omega arith) g f
      (each_found (λ q. AllByRecursion P (pipe_dues q)) (λ q. q.number == k / 256) p n.pipes e
      (each-flat P pipe_dues n.pipes pipes))
    where
      direct : List Due
      direct = line_dues 0 n.direct ++ flat_map pipe_dues n.pipes

      pipes : AllByRecursion P (flat_map pipe_dues n.pipes)
      pipes =
          each_back P (line_dues 0 n.direct) (flat_map pipe_dues n.pipes)
          (each_front P direct (flat_map (flow_dues clock) n.flows)
          (each_front P (direct ++ flat_map (flow_dues clock) n.flows) (flat_map train_dues n.trains) h))

  packet-said : (t : TrainState) → find_train k n ≡ Some t → nat_lt t.sent t.train.count ≡ true →
      P (due Emission k (t.start + t.sent * t.train.gap))
  packet-said t e g =
      let number : t.number ≡ k =
      eqb-true t.number k (found-passes (λ u. u.number == k) t n.trains e) in
      let there : AllByRecursion P (train_dues t) =
      each_found (λ u. AllByRecursion P (train_dues u)) (λ u. u.number == k) t n.trains e
      (each-flat P train_dues n.trains (each_back P
      (line_dues 0 n.direct ++ flat_map pipe_dues n.pipes ++ flat_map (flow_dues clock) n.flows)
      (flat_map train_dues n.trains) h)) in
      subst (λ m. P (due Emission m (t.start + t.sent * t.train.gap))) number
      (subst (λ b. AllByRecursion P (if b then due Emission t.number (t.start + t.sent * t.train.gap) ∷ [] else []))
      g there).0

-- a packet finishes at its finish
pub finish_moment : (s : State) (c : Timed) → OneEach s → (next_event s c).source.class ≡ Finish →
    (p : PipeState) (i : Instance) (o : InService Packet) →
    find_pipe ((next_event s c).source.number / 256) s.net ≡ Some p →
    slice_get p.instances ((next_event s c).source.number % 256) ≡ Some i → i.service ≡ Some o →
    (next_event s c).moment ≡ o.period.finish
finish_moment s c one a p i o e g f =
    let d : Due = next_event s c in
    let class : rank d.source.class ≡ 2 = ap rank a in
    finish-said (λ x. same_source x.source d.source ≡ true → d.moment ≡ x.moment) s.clock d.source.number s.net
    (same-moment s c one (λ z. omega arith)) p i o e g f
    (and_from _ _ (eq-eqb 2 (rank d.source.class) (sym class)) (eq-eqb d.source.number d.source.number refl))

-- a train that has a packet left sends it when it is due
pub packet_moment : (s : State) (c : Timed) → OneEach s → (next_event s c).source.class ≡ Emission →
    (t : TrainState) → find_train (next_event s c).source.number s.net ≡ Some t →
    nat_lt t.sent t.train.count ≡ true → (next_event s c).moment ≡ t.start + t.sent * t.train.gap
packet_moment s c one a t e g =
    let d : Due = next_event s c in
    let class : rank d.source.class ≡ 4 = ap rank a in
    packet-said (λ x. same_source x.source d.source ≡ true → d.moment ≡ x.moment) s.clock d.source.number s.net
    (same-moment s c one (λ z. omega arith)) t e g
    (and_from _ _ (eq-eqb 4 (rank d.source.class) (sym class)) (eq-eqb d.source.number d.source.number refl))
