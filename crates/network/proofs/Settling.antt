-- The least due, found by numbers.
use Rattle.std.proofs.Common.{◌≡◌, ℕ, ◌≤◌, true, ◌&&◌, ◌||◌, ◌==◌, nat_lt, cond, refl, sym, ap, ◌∙◌, subst, List, [], ◌∷◌, ◌++◌, Option, Some, None, inl, inr, arith}
use Rattle.std.specs.Prelude.{flat_map, option_to_list, IfSome}
use Rattle.std.specs.List.{best_of}
use Rattle.std.proofs.lemmas.Bool.{cases_Bool, or_cases, and_parts, ltb-true, eqb-true}
use Rattle.std.proofs.lemmas.Option.{same_Some}
use Rattle.emu_model.specs.declared.sources.Due.{Due}
use Rattle.emu_model.specs.Net.{Net}
use Rattle.emu_model.specs.Dues.{rank, dues_of, is_before, line_dues, pipe_dues}
use Rattle.due_index.specs.Least.{least_of, lesser}
use Rattle.sources.specs.Sends.{source_dues, IsAllowed, IsNumbered}
use Rattle.pipe_table.specs.Table.{IsExitDue, IsFinishDue, IsPiped}
use Rattle.network.specs.Kept.{KeptNet}
use Rattle.network.specs.Due.{IsDue}
use Rattle.network.proofs.DueFacts.{best-parts, option-holds, pipes-keep, sources-keep}

-- what comes before is no later
before-moment : (a b : Due) → is_before a b ≡ true → a.moment ≤ b.moment
before-moment a b e =
    elim (or_cases (nat_lt a.moment b.moment) (a.moment == b.moment
    && (nat_lt (rank a.source.class) (rank b.source.class)
    || (rank a.source.class == rank b.source.class && nat_lt a.source.number b.source.number))) e) [
      | inl l ↦ let below = ltb-true a.moment b.moment l in omega (arith, below)
      | inr r ↦
          let same = eqb-true a.moment b.moment (and_parts (a.moment == b.moment) _ r).0 in
          omega (arith, same)
    ]

pub best-moment : (b : Due) (ds : List Due) → (best_of is_before b ds).moment ≤ b.moment
best-moment b [] = omega arith
best-moment b (d ∷ ds) =
    let rest = best-moment (cond (is_before d b) d b) ds in
    elim (cases_Bool (is_before d b)) [
      | inl t ↦
          let here : (cond (is_before d b) d b).moment ≡ d.moment = ap (λ c. (cond c d b).moment) t in
          omega (arith, rest, here, before-moment d b t)
      | inr f ↦
          let here : (cond (is_before d b) d b).moment ≡ b.moment = ap (λ c. (cond c d b).moment) f in
          omega (arith, rest, here)
    ]

of-option : (a : Due) (o : Option Due) → lesser (Some a) o ≡ Some (best_of is_before a (option_to_list o))
of-option a None = refl
of-option a (Some x) = refl

-- one part after the other
module _ (clock : ℕ) (m : Net) (a : Due) (o b c d : Option Due) (line : option_to_list o ≡ line_dues 0 m.direct)
    (e : b ≡ lesser (Some a) o) (f : c ≡ least_of (option_to_list b ++ flat_map pipe_dues m.pipes))
    (g : d ≡ least_of (option_to_list c ++ source_dues clock m)) where
  abbrev pub first : Due
  first = best_of is_before a (option_to_list o)

  abbrev pub second : Due
  second = best_of is_before first (flat_map pipe_dues m.pipes)

  abbrev pub third : Due
  third = best_of is_before second (source_dues clock m)

  pub first-is : b ≡ Some first
  first-is = e ∙ of-option a o

  pub second-is : c ≡ Some second
  second-is = f ∙ ap (λ x. least_of (option_to_list x ++ flat_map pipe_dues m.pipes)) first-is

  pub third-is : d ≡ Some third
  third-is = g ∙ ap (λ x. least_of (option_to_list x ++ source_dues clock m)) second-is

  pub least-is : d ≡ Some (best_of is_before a (dues_of clock m))
  least-is =
      third-is
      ∙ ap Some (best-parts clock m a first second third (ap (best_of is_before a) line) refl refl)

  -- and it may come
  pub settled-due : (n : KeptNet) → IsDue a n → IfSome o (λ x. IsDue x n) →
      (IfSome b (λ x. IsFinishDue x n.table.pipes) → IfSome c (λ x. IsFinishDue x n.table.pipes)) →
      (IfSome b (λ x. IsExitDue x n.table.pipes) → IfSome c (λ x. IsExitDue x n.table.pipes)) →
      (IfSome b IsPiped → IfSome c IsPiped) →
      IfSome c (λ x. IsAllowed n.traffic x → IfSome d (IsAllowed n.traffic)) →
      IfSome c (λ x. IsNumbered x → IfSome d IsNumbered) →
      (r : Due) → d ≡ Some r → IsDue r n
  settled-due n due direct finishing leaving piped allowed numbered r is =
      let start : IsDue first n = option-holds (λ x. IsDue x n) a o due direct in
      let sources = pipes-keep n.traffic first second m.pipes refl (start.allowed, start.numbered) in
      let finish : IsFinishDue second n.table.pipes =
      subst (λ x. IfSome x (λ y. IsFinishDue y n.table.pipes)) second-is
      (finishing (subst (λ x. IfSome x (λ y. IsFinishDue y n.table.pipes)) (sym first-is) start.finishing)) in
      let exit : IsExitDue second n.table.pipes =
      subst (λ x. IfSome x (λ y. IsExitDue y n.table.pipes)) second-is
      (leaving (subst (λ x. IfSome x (λ y. IsExitDue y n.table.pipes)) (sym first-is) start.leaving)) in
      let pipe : IsPiped second =
      subst (λ x. IfSome x IsPiped) second-is (piped (subst (λ x. IfSome x IsPiped) (sym first-is) start.piped)) in
      let pipes = sources-keep n.table.pipes clock m second third refl (finish, (exit, pipe)) in
      let may : IfSome d (IsAllowed n.traffic) =
      subst (λ x. IfSome x (λ y. IsAllowed n.traffic y → IfSome d (IsAllowed n.traffic))) second-is allowed sources.0 in
      let number : IfSome d IsNumbered =
      subst (λ x. IfSome x (λ y. IsNumbered y → IfSome d IsNumbered)) second-is numbered sources.1 in
      let same : third ≡ r = same_Some third r (sym third-is ∙ is) in
      subst (λ x. IsDue x n) same (record {
        finishing = pipes.0;
        leaving = pipes.1.0;
        allowed = subst (λ x. IfSome x (IsAllowed n.traffic)) third-is may;
        numbered = subst (λ x. IfSome x IsNumbered) third-is number;
        piped = pipes.1.1;
      })

-- the same where the last part is told as a due
module _ (clock : ℕ) (m : Net) (a : Due) (o b c : Option Due) (s r : Due) (line : option_to_list o ≡ line_dues 0 m.direct)
    (e : b ≡ lesser (Some a) o) (f : c ≡ least_of (option_to_list b ++ flat_map pipe_dues m.pipes)) (some : c ≡ Some s)
    (told : r ≡ best_of is_before s (source_dues clock m)) where
  numbered-told : Some r ≡ least_of (option_to_list c ++ source_dues clock m)
  numbered-told = ap Some told ∙ ap (λ x. least_of (option_to_list x ++ source_dues clock m)) (sym some)

  pub told-is : r ≡ best_of is_before a (dues_of clock m)
  told-is = same_Some _ _ (least-is clock m a o b c (Some r) line e f numbered-told)

  pub told-due : (n : KeptNet) → IsDue a n → IfSome o (λ x. IsDue x n) →
      (IfSome b (λ x. IsFinishDue x n.table.pipes) → IfSome c (λ x. IsFinishDue x n.table.pipes)) →
      (IfSome b (λ x. IsExitDue x n.table.pipes) → IfSome c (λ x. IsExitDue x n.table.pipes)) →
      (IfSome b IsPiped → IfSome c IsPiped) →
      (IsAllowed n.traffic s → IsAllowed n.traffic r) → (IsNumbered s → IsNumbered r) → IsDue r n
  told-due n due direct finishing leaving piped allowed numbered =
      settled-due clock m a o b c (Some r) line e f numbered-told n due direct finishing leaving piped
      (subst (λ x. IfSome x (λ y. IsAllowed n.traffic y → IsAllowed n.traffic r)) (sym some) allowed)
      (subst (λ x. IfSome x (λ y. IsNumbered y → IsNumbered r)) (sym some) numbered) r refl
