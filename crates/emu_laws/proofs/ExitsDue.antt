-- The next event is at the moment that its instance says, since no two dues have one class and number: where it takes
-- from a delay line, the first exit of that line, and where a packet finishes, the finish of its period.
use Rattle.std.proofs.Common.{◌≡◌, ℕ, zero, suc, ◌+◌, ◌*◌, ◌/◌, ◌%◌, ◌≤◌, List, [], ◌∷◌, ◌++◌, Bool, true, false, refl, sym, ◌∙◌, ap, subst, Option, Some, None, eq-eqb, arith}
use Rattle.std.specs.Prelude.{if◌then◌else◌, ◌==◌, count_by, flat_map, slice_get, option_map, option_to_list}
use Rattle.std.specs.List.{AllByRecursion}
use Rattle.std.proofs.lemmas.List.Sums.{sum_by-cons}
use Rattle.emu_laws.proofs.Types.{Timed, Packet, Source, Class, NextCommand, Exit, Finish}
use Rattle.emu_model.specs.Delay.{Line, first_exit}
use Rattle.emu_model.specs.Pipes.{InService, Instance, PipeState}
use Rattle.emu_model.specs.Net.{find_pipe}
use Rattle.emu_model.specs.declared.sources.Due.{Due}
use Rattle.emu_model.specs.Dues.{due, line_dues, service_dues, instances_dues, pipe_dues, flow_dues, train_dues, dues_of, rank}
use Rattle.emu_model.specs.RunLaws.{same_source, DuesDiffer}
use Rattle.emu_model.specs.Step.{State, next_event}
use Rattle.emu_model.specs.Alone.{alone}
use Rattle.emu_laws.specs.LeastDue.{all_dues}
use Rattle.emu_laws.specs.Isolation.{MomentsAreTheirOwn}
use Rattle.emu_laws.proofs.EachOf.{each_front, each_back, each_found}
use Rattle.emu_laws.proofs.EachChange.{found-passes}
use Rattle.emu_laws.proofs.EventWalks.{IsReadyAt}
use Rattle.emu_laws.proofs.LeastDues.{least_due_is_least}
use Rattle.std.proofs.lemmas.Bool.{eqb-true}

pub one_if : Bool → ℕ
one_if b = if b then 1 else 0

pub one_true : (b : Bool) → b ≡ true → one_if b ≡ 1
unfolding one_if
one_true true e = refl
one_true false e = absurd (cc e)

pub count-cons : {A : Type 0} (test : A → Bool) (x : A) (xs : List A) →
    count_by test (x ∷ xs) ≡ one_if (test x) + count_by test xs
unfolding one_if
count-cons test x xs = sum_by-cons (λ y. if test y then 1 else 0) x xs

pub none-pass : {A : Type 0} (test : A → Bool) (xs : List A) → count_by test xs ≡ 0 →
    AllByRecursion (λ a. test a ≡ true → ⊥) xs
unfolding one_if
none-pass test [] e = tt
none-pass test (x ∷ xs) e = (first (test x) (count-cons test x xs), none-pass test xs (omega (arith, e, count-cons test x xs)))
  where
    first : (b : Bool) → count_by test (x ∷ xs) ≡ (if b then 1 else 0) + count_by test xs → b ≡ true → ⊥
    first true g h = omega (arith, e, g)
    first false g h = cc h

-- what passes is counted
got-counted : {A : Type 0} (test : A → Bool) (a : A) (xs : List A) (k : ℕ) → slice_get xs k ≡ Some a → test a ≡ true →
    1 ≤ count_by test xs
unfolding one_if
got-counted test a [] k e t = absurd (cc e)
got-counted test a (x ∷ xs) zero e t =
    let same : x ≡ a = cc e in
    let bit : one_if (test x) ≡ 1 = ap one_if (ap test same ∙ t) in
    omega (arith, bit, count-cons test x xs)
got-counted test a (x ∷ xs) (suc k) e t = omega (arith, got-counted test a xs k e t, count-cons test x xs)

-- where one at most passes, each that does is the one that does
pub only-one : {A : Type 0} (test : A → Bool) (a : A) (xs : List A) (k : ℕ) → slice_get xs k ≡ Some a →
    test a ≡ true → count_by test xs ≤ 1 → AllByRecursion (λ d. test d ≡ true → d ≡ a) xs
unfolding one_if
only-one test a [] k e t h = tt
only-one {A} test a (x ∷ xs) zero e t h =
    let same : x ≡ a = cc e in
    let bit : one_if (test x) ≡ 1 = ap one_if (ap test same ∙ t) in (
      λ g. same,
      vacuous xs (none-pass test xs (omega (arith, h, bit, count-cons test x xs))),
    )
  where
    vacuous : (ys : List A) → AllByRecursion (λ d. test d ≡ true → ⊥) ys →
        AllByRecursion (λ d. test d ≡ true → d ≡ a) ys
    vacuous [] g = tt
    vacuous (y ∷ ys) g = ((λ f. absurd (g.0 f)), vacuous ys g.1)
only-one test a (x ∷ xs) (suc k) e t h = (
  first (test x) (count-cons test x xs),
  only-one test a xs k e t (omega (arith, h, count-cons test x xs)),
)
  where
    first : (b : Bool) → count_by test (x ∷ xs) ≡ (if b then 1 else 0) + count_by test xs → b ≡ true → x ≡ a
    first true g f = absurd (omega (arith, h, g, got-counted test a xs k e t))
    first false g f = absurd (cc f)

-- ---- a due of each delay line

each-flat : {A B : Type 0} (Q : B → Type 0) (f : A → List B) (xs : List A) → AllByRecursion Q (flat_map f xs) →
    AllByRecursion (λ x. AllByRecursion Q (f x)) xs
each-flat Q f [] h = tt
each-flat Q f (x ∷ xs) h = (each_front Q (f x) (flat_map f xs) h, each-flat Q f xs (each_back Q (f x) (flat_map f xs) h))

line-due : (Q : Due → Type 0) (number exit : ℕ) (l : Line Packet) → first_exit l.in_flight ≡ Some exit →
    AllByRecursion Q (line_dues number l) → Q (due Exit number exit)
line-due Q number exit l e h = go (first_exit l.in_flight) e h
  where
    go : (o : Option ℕ) → o ≡ Some exit → AllByRecursion Q (option_to_list (option_map (due Exit number) o)) →
        Q (due Exit number exit)
    go None f g = absurd (cc f)
    go (Some x) f g =
        let same : x ≡ exit = cc f in
        subst (λ y. Q (due Exit number y)) same g.0

instance-due : (Q : Due → Type 0) (number k : ℕ) (i : Instance) (is : List Instance) → slice_get is k ≡ Some i →
    AllByRecursion Q (instances_dues number is) → AllByRecursion Q (line_dues (number + k) i.line)
instance-due Q number k i [] e h = absurd (cc e)
instance-due Q number zero i (x ∷ xs) e h =
    let same : x ≡ i = cc e in
    let here : number ≡ number + 0 = omega arith in
    subst (λ j. AllByRecursion Q (line_dues j i.line)) here
    (subst (λ y. AllByRecursion Q (line_dues number y.line)) same
    (each_front Q (line_dues number x.line) (service_dues number x)
    (each_front Q (line_dues number x.line ++ service_dues number x) (instances_dues (number + 1) xs) h)))
instance-due Q number (suc k) i (x ∷ xs) e h =
    let there : (number + 1) + k ≡ number + suc k = omega arith in
    subst (λ j. AllByRecursion Q (line_dues j i.line)) there
    (instance-due Q (number + 1) k i xs e
    (each_back Q (line_dues number x.line ++ service_dues number x) (instances_dues (number + 1) xs) h))

service-due : (Q : Due → Type 0) (number k : ℕ) (i : Instance) (is : List Instance) → slice_get is k ≡ Some i →
    AllByRecursion Q (instances_dues number is) → AllByRecursion Q (service_dues (number + k) i)
service-due Q number k i [] e h = absurd (cc e)
service-due Q number zero i (x ∷ xs) e h =
    let same : x ≡ i = cc e in
    let here : number ≡ number + 0 = omega arith in
    subst (λ j. AllByRecursion Q (service_dues j i)) here
    (subst (λ y. AllByRecursion Q (service_dues number y)) same
    (each_back Q (line_dues number x.line) (service_dues number x)
    (each_front Q (line_dues number x.line ++ service_dues number x) (instances_dues (number + 1) xs) h)))
service-due Q number (suc k) i (x ∷ xs) e h =
    let there : (number + 1) + k ≡ number + suc k = omega arith in
    subst (λ j. AllByRecursion Q (service_dues j i)) there
    (service-due Q (number + 1) k i xs e
    (each_back Q (line_dues number x.line ++ service_dues number x) (instances_dues (number + 1) xs) h))

finish-due : (Q : Due → Type 0) (number : ℕ) (i : Instance) (s : InService Packet) → i.service ≡ Some s →
    AllByRecursion Q (service_dues number i) → Q (due Finish number s.period.finish)
finish-due Q number i s e h = go i.service e h
  where
    go : (o : Option (InService Packet)) → o ≡ Some s →
        AllByRecursion Q (option_to_list (option_map (λ x. due Finish number x.period.finish) o)) →
        Q (due Finish number s.period.finish)
    go None f g = absurd (cc f)
    go (Some x) f g =
        let same : x ≡ s = cc f in
        subst (λ y. Q (due Finish number y.period.finish)) same g.0

-- ---- the next event

-- the first exit of a line is no later than now
abbrev pub IsOut : ℕ → Line Packet → Type 0
IsOut now l = (exit : ℕ) → first_exit l.in_flight ≡ Some exit → exit ≤ now

module _ (s : State) (c : Timed)
    (differ : (x : Source) → count_by (λ d. same_source d.source x) (dues_of s.clock s.net) ≤ 1) where
  abbrev pub e : Due
  e = next_event s c

  is-itself : same_source e.source e.source ≡ true
  is-itself = rw (eq-eqb (rank e.source.class) (rank e.source.class) refl, eq-eqb e.source.number e.source.number refl) refl

  abbrev IsSame : Due → Type 0
  IsSame d = same_source d.source e.source ≡ true → d ≡ e

  -- an event that isn't a command is the one due of its class and number
  all-same : (e.source.class ≡ NextCommand → ⊥) → AllByRecursion IsSame (dues_of s.clock s.net)
  all-same event =
      let least = (least_due_is_least c.moment (dues_of s.clock s.net)).1 in
      go least.0 least.1
    where
      command : due NextCommand 0 c.moment ≡ next_event s c → NextCommand ≡ (next_event s c).source.class
      command g = ap (λ d. d.source.class) g

      go : (k : ℕ) → slice_get (all_dues c.moment (dues_of s.clock s.net)) k ≡ Some (next_event s c) →
          AllByRecursion (λ d. same_source d.source (next_event s c).source ≡ true → d ≡ next_event s c) (dues_of s.clock s.net)
      go zero g =
          let same : due NextCommand 0 c.moment ≡ next_event s c = cc g in
          absurd (event (sym (command same)))
      go (suc k) g =
          only-one (λ d. same_source d.source (next_event s c).source) (next_event s c) (dues_of s.clock s.net) k g
          is-itself (differ (next_event s c).source)

  -- a due of the event's class and number is at its moment
  at-moment : (class : Class) (number moment : ℕ) → class ≡ e.source.class → number ≡ e.source.number →
      IsSame (due class number moment) → moment ≡ e.moment
  at-moment class number moment same at h =
      let passes : same_source (due class number moment).source e.source ≡ true =
      rw (eq-eqb (rank class) (rank e.source.class) (ap rank same), eq-eqb number e.source.number at) refl in
      ap (λ d. d.moment) (h passes)

  lines-same : AllByRecursion IsSame (dues_of s.clock s.net) →
      AllByRecursion IsSame (line_dues 0 s.net.direct ++ flat_map pipe_dues s.net.pipes)
  lines-same dues =
      let flows : List Due = flat_map (flow_dues s.clock) s.net.flows in
      each_front IsSame (line_dues 0 s.net.direct ++ flat_map pipe_dues s.net.pipes) flows
      (each_front IsSame (line_dues 0 s.net.direct ++ flat_map pipe_dues s.net.pipes ++ flows)
      (flat_map train_dues s.net.trains) dues)

  -- the dues of the pipe of a number
  pipe-same : AllByRecursion IsSame (dues_of s.clock s.net) → (k : ℕ) (p : PipeState) → find_pipe k s.net ≡ Some p →
      AllByRecursion IsSame (pipe_dues p)
  pipe-same dues k p g =
      each_found (λ q. AllByRecursion IsSame (pipe_dues q)) (λ q. q.number == k) p s.net.pipes g
      (each-flat IsSame pipe_dues s.net.pipes
      (each_back IsSame (line_dues 0 s.net.direct) (flat_map pipe_dues s.net.pipes) (lines-same dues)))

  whole : (number : ℕ) (p : PipeState) → find_pipe (number / 256) s.net ≡ Some p → p.number * 256 + number % 256 ≡ number
  whole number p g =
      let found : p.number ≡ number / 256 = eqb-true p.number (number / 256) (found-passes (λ q. q.number == number / 256) p s.net.pipes g) in
      omega (arith, found)

  exit-moment : (number exit : ℕ) (p : PipeState) (i : Instance) → e.source.class ≡ Exit → e.source.number ≡ number →
      find_pipe (number / 256) s.net ≡ Some p → slice_get p.instances (number % 256) ≡ Some i →
      first_exit i.line.in_flight ≡ Some exit → exit ≡ e.moment
  exit-moment number exit p i exits n g h f =
      at-moment Exit (p.number * 256 + number % 256) exit (sym exits) (whole number p g ∙ sym n)
      (line-due IsSame (p.number * 256 + number % 256) exit i.line f
      (instance-due IsSame (p.number * 256) (number % 256) i p.instances h
      (pipe-same (all-same (λ x. no-command (sym exits ∙ x))) (number / 256) p g)))
    where
      no-command : Exit ≡ NextCommand → ⊥
      no-command x = cc x

  finish-moment : (number : ℕ) (p : PipeState) (i : Instance) (r : InService Packet) → e.source.class ≡ Finish →
      e.source.number ≡ number → find_pipe (number / 256) s.net ≡ Some p →
      slice_get p.instances (number % 256) ≡ Some i → i.service ≡ Some r → r.period.finish ≡ e.moment
  finish-moment number p i r finishes n g h f =
      at-moment Finish (p.number * 256 + number % 256) r.period.finish (sym finishes) (whole number p g ∙ sym n)
      (finish-due IsSame (p.number * 256 + number % 256) i r f
      (service-due IsSame (p.number * 256) (number % 256) i p.instances h
      (pipe-same (all-same (λ x. no-command (sym finishes ∙ x))) (number / 256) p g)))
    where
      no-command : Finish ≡ NextCommand → ⊥
      no-command x = cc x

  pub line_is_out : e.source.class ≡ Exit → IsReadyAt (IsOut e.moment) e.source.number s.net
  line_is_out exits = go e.source.number refl
    where
      no-command : Exit ≡ NextCommand → ⊥
      no-command x = cc x

      direct-moment : (exit : ℕ) → 0 ≡ e.source.number → first_exit s.net.direct.in_flight ≡ Some exit → exit ≡ e.moment
      direct-moment exit n f =
          at-moment Exit 0 exit (sym exits) n
          (line-due IsSame 0 exit s.net.direct f
          (each_front IsSame (line_dues 0 s.net.direct) (flat_map pipe_dues s.net.pipes)
          (lines-same (all-same (λ x. no-command (sym exits ∙ x))))))

      go : (number : ℕ) → e.source.number ≡ number → IsReadyAt (IsOut e.moment) number s.net
      go zero n = λ exit f. omega (arith, direct-moment exit (sym n) f)
      go (suc j) n = λ p g i h exit f. omega (arith, exit-moment (suc j) exit p i exits n g h f)

pub moments_are_their_own : DuesDiffer → MomentsAreTheirOwn
moments_are_their_own differ spec c n t p i numbers g h =
    let s : State = alone spec c n in
    let own : (x : Source) → count_by (λ d. same_source d.source x) (dues_of s.clock s.net) ≤ 1 =
    λ x. differ spec c n x numbers in
    record {
      finishes = λ r class f. finish-moment s t own (next_event s t).source.number p i r class refl g h f;
      leaves = λ exit class above f. exit-moment s t own (next_event s t).source.number exit p i class refl g h f;
    }
