-- What holds of a due and of all dues of pipes holds of the least.
use Rattle.std.proofs.Common.{◌≡◌, ℕ, zero, suc, ◌+◌, ◌*◌, ◌<◌, ◌≤◌, Bool, true, false, nat_lt, nat_eq, cond, refl, sym, ap, ◌∙◌, subst, List, [], ◌∷◌, ◌++◌, length, map, take, get_or, ◌⊎◌, inl, inr, Option, Some, None, arith}
use Rattle.std.specs.Prelude.{◌&&◌, ◌||◌, IfSome, option_and_then, option_map, option_to_list, unwrap_or, slice_get, flat_map}
use Rattle.std.proofs.lemmas.Bool.Decides.{nat_tests}
use Rattle.due_index.specs.Least.{least_of, lesser}
use Rattle.due_index.proofs.CallerLemmas.{least_of-all, least_all-append, least_all-option}
use Rattle.std.specs.List.{All, best_of}
use Rattle.std.proofs.Math.ListN.{get_or-map}
use Rattle.std.proofs.lemmas.List.{length-map, get_or_default, take_all}
use Rattle.std.proofs.lemmas.Option.{slice_get-map}
use Rattle.emu_model.specs.declared.packets.Packet.{Packet}
use Rattle.emu_model.specs.declared.sources.Due.{Due}
use Rattle.emu_model.specs.declared.sources.Class.TheVariants.{Exit, Finish, Emission}
use Rattle.emu_model.specs.Delay.{first_exit}
use Rattle.emu_model.specs.Dues.{due, rank, is_before, instances_dues, pipe_dues}
use Rattle.emu_model.specs.Events.{served_in}
use Rattle.emu_model.specs.Pipes.{Instance, InService}
use Rattle.pipe_core.specs.declared.slot.Slot.{Slot}
use Rattle.pipe_core.specs.Moves.{some_packet}
use Rattle.pipe_core.specs.Keyed.{KeyedPipe, seen_slot, seen_pipe}
use Rattle.pipe_core.proofs.CallerLemmas.{first_exit-seen, finish-seen}
use Rattle.pipe_table.specs.Table.{pipe_of, seen_pipes, IsPipeNumber, IsTable, IsExitDue, IsFinishDue, IsPiped}
use Rattle.pipe_table.specs.Reach.{Reaches, instance_dues}
use Rattle.pipe_table.specs.Leaves.{IsFit}
use Rattle.pipe_table.proofs.DueFacts.{Reaches-none, Reaches-then, Reaches-by, Reaches-at, instances-more, instances-all, pipes-more, standing}

-- the least of a due and one that may be there is one of them
one-from : (b : Due) (o : Option Due) →
    (best_of is_before b (option_to_list o) ≡ b) ⊎
    (o ≡ Some (best_of is_before b (option_to_list o)))
one-from b None = inl refl
one-from b (Some d) = by (is_before d b)
  where
    by : (t : Bool) → (cond t d b ≡ b) ⊎ (Some d ≡ Some (cond t d b))
    by true = inr refl
    by false = inl refl

abbrev finish_of : Option Instance → Option ℕ
finish_of o =
    option_map (λ (s : InService Packet). s.period.finish)
    (option_and_then (λ (i : Instance). i.service) o)

-- when an instance exits and finishes, however its keys are named
module _ (f g : ℕ → Packet) (slots : List Slot) (index : ℕ) where
  exit-alike : option_and_then (λ (i : Instance). first_exit i.line.in_flight)
      (slice_get (map (seen_slot f) slots) index)
      ≡ option_and_then (λ (i : Instance). first_exit i.line.in_flight)
      (slice_get (map (seen_slot g) slots) index)
  exit-alike =
      ap (option_and_then (λ (i : Instance). first_exit i.line.in_flight))
      (slice_get-map (seen_slot f) slots index)
      ∙ by (slice_get slots index)
      ∙ sym (ap (option_and_then (λ (i : Instance). first_exit i.line.in_flight))
      (slice_get-map (seen_slot g) slots index))
    where
      by : (o : Option Slot) →
          option_and_then (λ (i : Instance). first_exit i.line.in_flight) (option_map (seen_slot f) o)
          ≡ option_and_then (λ (i : Instance). first_exit i.line.in_flight)
          (option_map (seen_slot g) o)
      by None = refl
      by (Some s) =
          first_exit-seen f s.instance.delay_line.line.in_flight
          ∙ sym (first_exit-seen g s.instance.delay_line.line.in_flight)

  finish-alike : option_map (λ (s : InService Packet). s.period.finish)
      (option_and_then (λ (i : Instance). i.service) (slice_get (map (seen_slot f) slots) index))
      ≡ option_map (λ (s : InService Packet). s.period.finish)
      (option_and_then (λ (i : Instance). i.service) (slice_get (map (seen_slot g) slots) index))
  finish-alike =
      ap finish_of (slice_get-map (seen_slot f) slots index) ∙ by (slice_get slots index)
      ∙ sym (ap finish_of (slice_get-map (seen_slot g) slots index))
    where
      by : (o : Option Slot) →
          finish_of (option_map (seen_slot f) o) ≡ finish_of (option_map (seen_slot g) o)
      by None = refl
      by (Some s) = finish-seen f s.instance.service.busy
          ∙ sym (finish-seen g s.instance.service.busy)

-- a due that is reached from another over some dues
abbrev Reached : List KeyedPipe → ((ℕ → Packet) → List Due) → Due → Type 0
Reached ps dues first = (last : Due) × Reaches ps dues first last

reach_instance : (ps : List KeyedPipe) (pipe : KeyedPipe) (index : ℕ) (best : Due) → index < 256 →
    IsPipeNumber pipe.number →
    pipe_of pipe.number ps ≡ Some pipe → Reached ps (λ f. instance_dues f pipe index) best
reach_instance ps pipe index best few range here =
    let g : ℕ → Packet = λ k. some_packet in
    let exit : Option ℕ =
    option_and_then (λ (i : Instance). first_exit i.line.in_flight)
    (slice_get (seen_pipe g pipe).instances index) in
    let finish : Option ℕ =
    option_map (λ (s : InService Packet). s.period.finish) (served_in index (seen_pipe g pipe)) in
    let exit_due : Option Due = option_map (due Exit (pipe.number * 256 + index)) exit in
    let finish_due : Option Due = option_map (due Finish (pipe.number * 256 + index)) finish in
    let sooner : Due = best_of is_before best (option_to_list exit_due) in
    let last : Due = best_of is_before sooner (option_to_list finish_due) in (
      last,
      Reaches-at ps pipe index best sooner last exit finish few range here
          (λ f. exit-alike g f pipe.slots index)
          (λ f. finish-alike g f pipe.slots index) refl (one-from best exit_due) refl
          (one-from sooner finish_due),
    )

module _ (ps : List KeyedPipe) (pipe : KeyedPipe) (best : Due) (range : IsPipeNumber pipe.number)
    (few : length pipe.slots ≤ 256)
    (here : pipe_of pipe.number ps ≡ Some pipe) where
  reach_instances : (n : ℕ) → n ≤ length pipe.slots →
      Reached ps (λ f. instances_dues (pipe.number * 256) (take n (map (seen_slot f) pipe.slots)))
      best
  reach_instances zero l = (best, Reaches-none ps best)
  reach_instances (suc n) l =
      let r = reach_instances n (omega arith) in
      let s = reach_instance ps pipe n r.0 (omega arith) range here in (
        s.0,
        Reaches-by ps
            (λ f. instances_dues (pipe.number * 256)
            (take n (map (seen_slot f) pipe.slots)) ++ instance_dues f pipe n)
            (λ f. instances_dues (pipe.number * 256)
            (take (suc n) (map (seen_slot f) pipe.slots))) best s.0
            (λ f. instances-more f pipe n (omega arith))
            (Reaches-then ps
            (λ f. instances_dues (pipe.number * 256) (take n (map (seen_slot f) pipe.slots)))
            (λ f. instance_dues f pipe n) best r.0 s.0 r.1 s.1),
      )

  reach_pipe : Reached ps (λ f. pipe_dues (seen_pipe f pipe)) best
  reach_pipe =
      let r = reach_instances (length pipe.slots) (omega arith) in (
        r.0,
        Reaches-by ps
            (λ f. instances_dues (pipe.number * 256)
            (take (length pipe.slots) (map (seen_slot f) pipe.slots)))
            (λ f. pipe_dues (seen_pipe f pipe)) best r.0 (λ f. instances-all f pipe) r.1,
      )

module _ (seed : ℕ) (ps : List KeyedPipe) (best : Due) (table : IsTable seed 0 ps)
    (fit : (f : ℕ → Packet) → All IsFit (seen_pipes f ps)) (any : KeyedPipe) where
  reach_first : (n : ℕ) → n ≤ length ps →
      Reached ps (λ f. flat_map pipe_dues (seen_pipes f (take n ps))) best
  reach_first zero l = (best, Reaches-none ps best)
  reach_first (suc n) l =
      let g : ℕ → Packet = λ k. some_packet in
      let within : n < length ps = omega arith in
      let x : KeyedPipe = get_or ps n any in
      let read : x ≡ get_or ps n x = get_or_default ps n any x within in
      let long : n < length (seen_pipes g ps) = omega (arith, length-map ps (seen_pipe g)) in
      let own : IsFit (seen_pipe g x) =
      subst IsFit (get_or-map (seen_pipe g) ps n x
      ∙ ap (seen_pipe g) (sym read)) (fit g n (seen_pipe g x) long) in
      let few : length x.slots ≤ 256 = omega (arith, own.few, length-map x.slots (seen_slot g)) in
      let r = reach_first n (omega arith) in
      let s = reach_pipe ps x r.0 own.number few (standing seed ps n x table within read) in (
        s.0,
        Reaches-by ps
            (λ f. flat_map pipe_dues (seen_pipes f (take n ps)) ++ pipe_dues (seen_pipe f x))
            (λ f. flat_map pipe_dues (seen_pipes f (take (suc n) ps))) best s.0
            (λ f. pipes-more f ps n x within read)
            (Reaches-then ps (λ f. flat_map pipe_dues (seen_pipes f (take n ps)))
            (λ f. pipe_dues (seen_pipe f x))
            best r.0 s.0 r.1 s.1),
      )

  reach_all : Reached ps (λ f. flat_map pipe_dues (seen_pipes f ps)) best
  reach_all =
      let r = reach_first (length ps) (omega arith) in (
        r.0,
        Reaches-by ps (λ f. flat_map pipe_dues (seen_pipes f (take (length ps) ps)))
            (λ f. flat_map pipe_dues (seen_pipes f ps)) best r.0
            (λ f. ap (λ l. flat_map pipe_dues (seen_pipes f l))
            (take_all (length ps) ps (omega arith))) r.1,
      )

-- the least of a table's dues
pub reach_least : (seed : ℕ) (ps : List KeyedPipe) (best last : Due) → IsTable seed 0 ps →
    ((f : ℕ → Packet) → All IsFit (seen_pipes f ps)) →
    ((f : ℕ → Packet) → last ≡ best_of is_before best (flat_map pipe_dues (seen_pipes f ps))) →
    Reaches ps (λ f. flat_map pipe_dues (seen_pipes f ps)) best last
reach_least seed [] best last table fit is =
    subst (Reaches [] (λ f. []) best) (sym (is (λ k. some_packet))) (Reaches-none [] best)
reach_least seed (p ∷ ps) best last table fit is =
    let r = reach_all seed (p ∷ ps) best table fit p in
    subst (Reaches (p ∷ ps) (λ f. flat_map pipe_dues (seen_pipes f (p ∷ ps))) best)
    (r.1.least (λ k. some_packet) ∙ sym (is (λ k. some_packet))) r.1

-- the same where no due comes first: one that is later than the least, and says nothing, does
late : Due → Due
late d = record { moment = d.moment + 1; source = record { class = Emission; number = 0 } }

late-after : (d : Due) → is_before d (late d) ≡ true
unfolding late
late-after d =
    let sooner : nat_lt d.moment (d.moment + 1) ≡ true = grind (arith, nat_tests) in
    ap (λ (t : Bool). t || (nat_eq d.moment (d.moment + 1)
    && (nat_lt (rank d.source.class) (rank Emission)
    || (nat_eq (rank d.source.class) (rank Emission) && nat_lt d.source.number 0)))) sooner

late-least : (d : Due) (all : List Due) → Some d ≡ least_of all → d ≡ best_of is_before (late d) all
late-least d all e =
    let both : Some (best_of is_before (late d) all) ≡ Some (cond (is_before d (late d)) d (late d)) =
    least_of-all (late d ∷ all) ∙ least_all-append (late d ∷ []) all
    ∙ (λ t. lesser (least_all-option (Some (late d)) t) ((sym (least_of-all all) ∙ sym e) t)) in
    sym (ap (λ o. unwrap_or o d) (both ∙ ap (λ (t : Bool). Some (cond t d (late d))) (late-after d)))

late-says : (ps : List KeyedPipe) (d : Due) → IsFinishDue (late d) ps × (IsExitDue (late d) ps × IsPiped (late d))
unfolding late
late-says ps d = ((λ e. absurd (cc)), ((λ e some. absurd (cc)), ((λ e. absurd (cc)), (λ e. absurd (cc)))))

module _ (seed : ℕ) (ps : List KeyedPipe) (table : IsTable seed 0 ps) (fit : (f : ℕ → Packet) → All IsFit (seen_pipes f ps)) where
  number-reaches : (best result : Option Due) →
      ((f : ℕ → Packet) → result ≡ least_of (option_to_list best ++ flat_map pipe_dues (seen_pipes f ps))) →
      (IfSome best (λ d. IsFinishDue d ps) → IfSome result (λ d. IsFinishDue d ps))
      × ((IfSome best (λ d. IsExitDue d ps) → IfSome result (λ d. IsExitDue d ps)) × (IfSome best IsPiped → IfSome result IsPiped))
  number-reaches None None is = ((λ h. tt), ((λ h. tt), (λ h. tt)))
  number-reaches None (Some d) is =
      let r = reach_least seed ps (late d) d table fit (λ f. late-least d (flat_map pipe_dues (seen_pipes f ps)) (is f)) in
      let says = late-says ps d in ((λ h. r.finishing says.0), ((λ h. r.leaving says.1.0), (λ h. r.piped says.1.1)))
  number-reaches (Some b) None is = let no = is (λ k. some_packet) in absurd (cc)
  number-reaches (Some b) (Some d) is =
      let r = reach_least seed ps b d table fit (λ f. ap (λ o. unwrap_or o d) (is f)) in (r.finishing, (r.leaving, r.piped))

  pub number-finishing : (best result : Option Due) →
      ((f : ℕ → Packet) → result ≡ least_of (option_to_list best ++ flat_map pipe_dues (seen_pipes f ps))) →
      IfSome best (λ d. IsFinishDue d ps) → IfSome result (λ d. IsFinishDue d ps)
  number-finishing best result is = (number-reaches best result is).0

  pub number-leaving : (best result : Option Due) →
      ((f : ℕ → Packet) → result ≡ least_of (option_to_list best ++ flat_map pipe_dues (seen_pipes f ps))) →
      IfSome best (λ d. IsExitDue d ps) → IfSome result (λ d. IsExitDue d ps)
  number-leaving best result is = (number-reaches best result is).1.0

  pub number-piped : (best result : Option Due) →
      ((f : ℕ → Packet) → result ≡ least_of (option_to_list best ++ flat_map pipe_dues (seen_pipes f ps))) →
      IfSome best IsPiped → IfSome result IsPiped
  number-piped best result is = (number-reaches best result is).1.1
