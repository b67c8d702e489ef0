-- The least due, instance by instance and pipe by pipe.
use Rattle.std.proofs.Common.{◌≡◌, ℕ, zero, suc, ◌+◌, ◌*◌, ◌/◌, ◌%◌, ◌<◌, ◌≤◌, Bool, true, false, nat_lt, nat_eq, cond, refl, sym, ap, ◌∙◌, subst, List, [], ◌∷◌, ◌++◌, map, length, take, drop, get_or, ◌⊎◌, inl, inr, Option, Some, None, arith}
use Rattle.std.specs.Prelude.{◌&&◌, ◌||◌, option_and_then, option_map, option_to_list, unwrap_or, slice_get, flat_map}
use Rattle.std.specs.List.{best_of}
use Rattle.std.proofs.lemmas.Bool.Decides.{nat_tests}
use Rattle.std.proofs.lemmas.List.Sums.{fold-append}
use Rattle.std.proofs.lemmas.Grind.{flat_map-append}
use Rattle.std.proofs.Math.Seq.{take-suc}
use Rattle.std.proofs.lemmas.List.{length-map, map-append, set_split, set-get_or, append-nil, append_assoc}
use Rattle.emu_model.specs.declared.packets.Packet.{Packet}
use Rattle.emu_model.specs.declared.sources.Due.{Due}
use Rattle.emu_model.specs.declared.sources.Class.TheVariants.{Exit, Finish}
use Rattle.emu_model.specs.Delay.{first_exit}
use Rattle.emu_model.specs.Dues.{due, is_before, line_dues, service_dues, instances_dues, pipe_dues}
use Rattle.emu_model.specs.Events.{served_in}
use Rattle.emu_model.specs.Pipes.{Instance, InService}
use Rattle.pipe_core.specs.Keyed.{KeyedPipe, seen_pipe, seen_slot}
use Rattle.pipe_table.specs.Table.{pipe_of, IsFinishing, IsLeaving, IsExitDue, IsFinishDue, IsPiped, IsPipeNumber, IsTable, seen_pipes}
use Rattle.pipe_table.proofs.TableFacts.{found-here}
use Rattle.pipe_table.proofs.NumberOrder.{first-of-number}
use Rattle.pipe_table.specs.Reach.{Reaches, instance_dues}

best-append : (d : Due) (xs ys : List Due) → best_of is_before d (xs ++ ys) ≡ best_of is_before (best_of is_before d xs) ys
best-append d xs ys = fold-append (λ b x. cond (is_before x b) x b) d xs ys

pub Reaches-none : (ps : List KeyedPipe) (d : Due) → Reaches ps (λ f. []) d d
Reaches-none ps d = record { least = λ f. refl; moment = omega arith; finishing = λ h. h; leaving = λ h. h; piped = λ h. h }

pub Reaches-then : (ps : List KeyedPipe) (xs ys : (ℕ → Packet) → List Due) (a b c : Due) → Reaches ps xs a b → Reaches ps ys b c →
    Reaches ps (λ f. xs f ++ ys f) a c
Reaches-then ps xs ys a b c r s = record {
  least = λ f. s.least f ∙ ap (λ d. best_of is_before d (ys f)) (r.least f) ∙ sym (best-append a (xs f) (ys f));
  moment = omega (arith, r.moment, s.moment);
  finishing = λ h. s.finishing (r.finishing h);
  leaving = λ h. s.leaving (r.leaving h);
  piped = λ h. s.piped (r.piped h);
}

pub Reaches-by : (ps : List KeyedPipe) (xs ys : (ℕ → Packet) → List Due) (a b : Due) → ((f : ℕ → Packet) → xs f ≡ ys f) → Reaches ps xs a b → Reaches ps ys a b
Reaches-by ps xs ys a b same r = record {
  least = λ f. r.least f ∙ ap (best_of is_before a) (same f);
  moment = r.moment;
  finishing = r.finishing;
  leaving = r.leaving;
  piped = r.piped;
}

-- one due that may be there is earlier, or isn't
before-moment : (a b : Due) → is_before a b ≡ true → a.moment ≤ b.moment
before-moment a b h = go (nat_lt a.moment b.moment) (nat_eq a.moment b.moment) _ refl refl h
  where
    go : (x y z : Bool) → nat_lt a.moment b.moment ≡ x → nat_eq a.moment b.moment ≡ y → (x || (y && z)) ≡ true → a.moment ≤ b.moment
    go true y z lt eq t = let l : a.moment < b.moment = grind (arith, nat_tests, lt) in omega (arith, l)
    go false true z lt eq t = let l : a.moment ≡ b.moment = grind (arith, nat_tests, eq) in omega (arith, l)
    go false false z lt eq t = absurd (cc)

one-moment : (a b : Due) (o : Option Due) → b ≡ best_of is_before a (option_to_list o) → b.moment ≤ a.moment
one-moment a b None e = omega (arith, ap (λ (d : Due). d.moment) e)
one-moment a b (Some d) e = go (is_before d a) refl e
  where
    go : (t : Bool) → is_before d a ≡ t → b ≡ cond t d a → b.moment ≤ a.moment
    go true h e = omega (arith, before-moment d a h, ap (λ (x : Due). x.moment) e)
    go false h e = omega (arith, ap (λ (x : Due). x.moment) e)

number-of : (n i : ℕ) → i < 256 → (n * 256 + i) / 256 ≡ n
number-of n i h = omega (arith, h)

index-of : (n i : ℕ) → i < 256 → (n * 256 + i) % 256 ≡ i
index-of n i h = omega (arith, h)

-- the dues of an instance of a pipe that stands in the table
pub Reaches-at : (ps : List KeyedPipe) (pipe : KeyedPipe) (index : ℕ) (best sooner last : Due) (exit finish : Option ℕ) → index < 256 → IsPipeNumber pipe.number →
    pipe_of pipe.number ps ≡ Some pipe →
    ((f : ℕ → Packet) → exit ≡ option_and_then (λ (i : Instance). first_exit i.line.in_flight) (slice_get (seen_pipe f pipe).instances index)) →
    ((f : ℕ → Packet) → finish ≡ option_map (λ (s : InService Packet). s.period.finish) (served_in index (seen_pipe f pipe))) →
    sooner ≡ best_of is_before best (option_to_list (option_map (due Exit (pipe.number * 256 + index)) exit)) →
    (sooner ≡ best) ⊎ (option_map (due Exit (pipe.number * 256 + index)) exit ≡ Some sooner) →
    last ≡ best_of is_before sooner (option_to_list (option_map (due Finish (pipe.number * 256 + index)) finish)) →
    (last ≡ sooner) ⊎ (option_map (due Finish (pipe.number * 256 + index)) finish ≡ Some last) →
    Reaches ps (λ f. instance_dues f pipe index) best last
Reaches-at ps pipe index best sooner last exit finish few range here exits finishes is1 from1 is2 from2 = record {
  least = λ f.
      is2 ∙ ap (λ d. best_of is_before d (option_to_list (option_map (due Finish (pipe.number * 256 + index)) finish))) is1
      ∙ sym (best-append best (option_to_list (option_map (due Exit (pipe.number * 256 + index)) exit)) (option_to_list (option_map (due Finish (pipe.number * 256 + index)) finish)))
      ∙ (λ z. best_of is_before best (option_to_list (option_map (due Exit (pipe.number * 256 + index)) (exits f z))
      ++ option_to_list (option_map (due Finish (pipe.number * 256 + index)) (finishes f z))));
  moment = omega (
    arith,
    one-moment best sooner (option_map (due Exit (pipe.number * 256 + index)) exit) is1,
    one-moment sooner last (option_map (due Finish (pipe.number * 256 + index)) finish) is2,
  );
  finishing = λ h. second from2 (first from1 h);
  leaving = λ h. second_leaving from2 (first_leaving from1 h);
  piped = λ h. second_piped from2 (first_piped from1 h);
}
  where
    first : (sooner ≡ best) ⊎ (option_map (due Exit (pipe.number * 256 + index)) exit ≡ Some sooner) → IsFinishDue best ps → IsFinishDue sooner ps
    first (inl e) h = subst (λ d. IsFinishDue d ps) (sym e) h
    first (inr e) h = go exit e
      where
        go : (o : Option ℕ) → option_map (due Exit (pipe.number * 256 + index)) o ≡ Some sooner → IsFinishDue sooner ps
        go None e = absurd (cc)
        go (Some m) e = λ c.
            let is : due Exit (pipe.number * 256 + index) m ≡ sooner = ap (λ o. unwrap_or o sooner) e in
            let other : Exit ≡ Finish = ap (λ (d : Due). d.source.class) is ∙ c in
            absurd (cc)

    second : (last ≡ sooner) ⊎ (option_map (due Finish (pipe.number * 256 + index)) finish ≡ Some last) → IsFinishDue sooner ps → IsFinishDue last ps
    second (inl e) h = subst (λ d. IsFinishDue d ps) (sym e) h
    second (inr e) h = go finish finishes e
      where
        go : (o : Option ℕ) →
            ((f : ℕ → Packet) → o ≡ option_map (λ (s : InService Packet). s.period.finish) (served_in index (seen_pipe f pipe))) →
            option_map (due Finish (pipe.number * 256 + index)) o ≡ Some last → IsFinishDue last ps
        go None is e = absurd (cc)
        go (Some m) is e = λ c.
            subst (λ (d : Due). IsFinishing (d.source.number / 256) (d.source.number % 256) d.moment ps) (ap (λ o. unwrap_or o last) e)
            (λ f.
            (λ z. option_and_then (λ p. option_map (λ (s : InService Packet). s.period.finish) (served_in (index-of pipe.number index few z) (seen_pipe f p)))
            (pipe_of (number-of pipe.number index few z) ps))
            ∙ ap (option_and_then (λ p. option_map (λ (s : InService Packet). s.period.finish) (served_in index (seen_pipe f p)))) here
            ∙ sym (is f))

    first_leaving : (sooner ≡ best) ⊎ (option_map (due Exit (pipe.number * 256 + index)) exit ≡ Some sooner) → IsExitDue best ps → IsExitDue sooner ps
    first_leaving (inl e) h = subst (λ d. IsExitDue d ps) (sym e) h
    first_leaving (inr e) h = go exit exits e
      where
        go : (o : Option ℕ) →
            ((f : ℕ → Packet) → o ≡ option_and_then (λ (i : Instance). first_exit i.line.in_flight) (slice_get (seen_pipe f pipe).instances index)) →
            option_map (due Exit (pipe.number * 256 + index)) o ≡ Some sooner → IsExitDue sooner ps
        go None is e = absurd (cc)
        go (Some m) is e = λ c some.
            subst (λ (d : Due). IsLeaving (d.source.number / 256) (d.source.number % 256) d.moment ps) (ap (λ o. unwrap_or o sooner) e)
            (λ f.
            (λ z. option_and_then (λ p. option_and_then (λ (i : Instance). first_exit i.line.in_flight) (slice_get (seen_pipe f p).instances (index-of pipe.number index few z)))
            (pipe_of (number-of pipe.number index few z) ps))
            ∙ ap (option_and_then (λ p. option_and_then (λ (i : Instance). first_exit i.line.in_flight) (slice_get (seen_pipe f p).instances index))) here
            ∙ sym (is f))

    second_leaving : (last ≡ sooner) ⊎ (option_map (due Finish (pipe.number * 256 + index)) finish ≡ Some last) → IsExitDue sooner ps → IsExitDue last ps
    second_leaving (inl e) h = subst (λ d. IsExitDue d ps) (sym e) h
    second_leaving (inr e) h = go finish e
      where
        go : (o : Option ℕ) → option_map (due Finish (pipe.number * 256 + index)) o ≡ Some last → IsExitDue last ps
        go None e = absurd (cc)
        go (Some m) e = λ c some.
            let is : due Finish (pipe.number * 256 + index) m ≡ last = ap (λ o. unwrap_or o last) e in
            let other : Finish ≡ Exit = ap (λ (d : Due). d.source.class) is ∙ c in
            absurd (cc)

    number_range : IsPipeNumber ((pipe.number * 256 + index) / 256)
    number_range = subst IsPipeNumber (sym (number-of pipe.number index few)) range

    first_piped : (sooner ≡ best) ⊎ (option_map (due Exit (pipe.number * 256 + index)) exit ≡ Some sooner) → IsPiped best → IsPiped sooner
    first_piped (inl e) h = subst IsPiped (sym e) h
    first_piped (inr e) h = go exit e
      where
        go : (o : Option ℕ) → option_map (due Exit (pipe.number * 256 + index)) o ≡ Some sooner → IsPiped sooner
        go None e = absurd (cc)
        go (Some m) e =
            subst IsPiped (ap (λ o. unwrap_or o sooner) e)
            ((λ c some. number_range), (λ c. number_range))

    second_piped : (last ≡ sooner) ⊎ (option_map (due Finish (pipe.number * 256 + index)) finish ≡ Some last) → IsPiped sooner → IsPiped last
    second_piped (inl e) h = subst IsPiped (sym e) h
    second_piped (inr e) h = go finish e
      where
        go : (o : Option ℕ) → option_map (due Finish (pipe.number * 256 + index)) o ≡ Some last → IsPiped last
        go None e = absurd (cc)
        go (Some m) e =
            subst IsPiped (ap (λ o. unwrap_or o last) e)
            ((λ c some. number_range), (λ c. number_range))

-- the dues of an instance that may be there
abbrev one_dues : ℕ → Option Instance → List Due
one_dues n o =
    option_to_list (option_map (due Exit n) (option_and_then (λ (i : Instance). first_exit i.line.in_flight) o))
    ++ option_to_list (option_map (due Finish n) (option_map (λ (s : InService Packet). s.period.finish) (option_and_then (λ (i : Instance). i.service) o)))

finish-two : (n : ℕ) (o : Option (InService Packet)) →
    option_map (due Finish n) (option_map (λ (s : InService Packet). s.period.finish) o) ≡ option_map (λ (s : InService Packet). due Finish n s.period.finish) o
finish-two n None = refl
finish-two n (Some s) = refl

one-is : (n : ℕ) (x : Instance) → one_dues n (Some x) ≡ line_dues n x.line ++ service_dues n x
one-is n x = ap (λ o. line_dues n x.line ++ option_to_list o) (finish-two n x.service)

more : (n : ℕ) (xs : List Instance) (i : ℕ) → i < length xs →
    instances_dues n (take i xs) ++ one_dues (n + i) (slice_get xs i) ≡ instances_dues n (take (suc i) xs)
more n [] i h = absurd (omega (arith, h))
more n (x ∷ xs) zero h =
    let same : n + 0 ≡ n = omega arith in
    ap (λ m. one_dues m (Some x)) same ∙ one-is n x ∙ sym (append-nil (line_dues n x.line ++ service_dues n x))
more n (x ∷ xs) (suc i) h =
    let same : n + suc i ≡ (n + 1) + i = omega arith in
    let rest : List Due = instances_dues (n + 1) (take i xs) in
    (λ z. (line_dues n x.line ++ service_dues n x ++ rest) ++ one_dues (same z) (slice_get xs i))
    ∙ append_assoc (line_dues n x.line ++ service_dues n x) rest (one_dues ((n + 1) + i) (slice_get xs i))
    ∙ ap (λ l. line_dues n x.line ++ service_dues n x ++ l) (more (n + 1) xs i (omega (arith, h)))

-- the dues of the first instances of a pipe, and of one more
pub instances-more : (f : ℕ → Packet) (pipe : KeyedPipe) (i : ℕ) → i < length pipe.slots →
    instances_dues (pipe.number * 256) (take i (map (seen_slot f) pipe.slots)) ++ instance_dues f pipe i
    ≡ instances_dues (pipe.number * 256) (take (suc i) (map (seen_slot f) pipe.slots))
instances-more f pipe i within =
    more (pipe.number * 256) (map (seen_slot f) pipe.slots) i (omega (arith, within, length-map pipe.slots (seen_slot f)))

pub instances-all : (f : ℕ → Packet) (pipe : KeyedPipe) →
    instances_dues (pipe.number * 256) (take (length pipe.slots) (map (seen_slot f) pipe.slots)) ≡ pipe_dues (seen_pipe f pipe)
instances-all f pipe =
    ap (λ n. instances_dues (pipe.number * 256) (take n (map (seen_slot f) pipe.slots))) (sym (length-map pipe.slots (seen_slot f)))
    ∙ ap (instances_dues (pipe.number * 256)) (take_all (map (seen_slot f) pipe.slots))
  where
    take_all : (xs : List Instance) → take (length xs) xs ≡ xs
    take_all [] = refl
    take_all (x ∷ xs) = ap (λ l. x ∷ l) (take_all xs)

-- the dues of the first pipes, and of one more
pub pipes-more : (f : ℕ → Packet) (ps : List KeyedPipe) (i : ℕ) (x : KeyedPipe) → i < length ps → x ≡ get_or ps i x →
    flat_map pipe_dues (seen_pipes f (take i ps)) ++ pipe_dues (seen_pipe f x) ≡ flat_map pipe_dues (seen_pipes f (take (suc i) ps))
pipes-more f ps i x within read =
    ap (λ l. flat_map pipe_dues (seen_pipes f (take i ps)) ++ l) (sym (append-nil (pipe_dues (seen_pipe f x))))
    ∙ sym (flat_map-append pipe_dues (seen_pipes f (take i ps)) (seen_pipes f (x ∷ [])))
    ∙ ap (flat_map pipe_dues) (sym (map-append (seen_pipe f) (take i ps) (x ∷ [])))
    ∙ ap (λ l. flat_map pipe_dues (seen_pipes f l)) (ap (λ y. take i ps ++ y ∷ []) read ∙ sym (take-suc ps i x within))

-- each pipe of the table is the first of its number
pub standing : (seed : ℕ) (ps : List KeyedPipe) (i : ℕ) (x : KeyedPipe) → IsTable seed 0 ps → i < length ps → x ≡ get_or ps i x →
    pipe_of x.number ps ≡ Some x
standing seed ps i x t within read =
    let whole : ps ≡ take i ps ++ x ∷ drop (suc i) ps =
    sym (set-get_or ps i x) ∙ set_split ps i (get_or ps i x) within ∙ ap (λ y. take i ps ++ y ∷ drop (suc i) ps) (sym read) in
    let first = (first-of-number seed 0 (take i ps) (drop (suc i) ps) x (subst (IsTable seed 0) whole t)).1 in
    let same : nat_eq x.number x.number ≡ true = grind (arith, nat_tests) in
    ap (pipe_of x.number) whole ∙ found-here x.number (take i ps) (drop (suc i) ps) x first same
