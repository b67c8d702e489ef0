-- When dues can be.
use Rattle.std.proofs.Common.{ℕ, ◌^◌, ◌≤◌, sym, subst, List, [], ◌∷◌, ◌++◌, Option, Some, None, arith}
use Rattle.std.specs.Prelude.{IfSome, option_to_list}
use Rattle.std.specs.List.{AllByRecursion}
use Rattle.emu_model.specs.Moments.{IsMoment}
use Rattle.emu_model.specs.declared.commands.Timed.{Timed}
use Rattle.emu_model.specs.declared.sources.Due.{Due}
use Rattle.emu_model.specs.Dues.{dues_of}
use Rattle.emu_model.specs.DueLaws.{AreRising, IsAhead, IsBelow, DuesStayAhead, DuesStayBelow}
use Rattle.packet_store.specs.Pocket.{Pocket}
use Rattle.network.specs.Kept.{net_of}
use Rattle.experiment.specs.Kept.{KeptExperiment, view, IsAlone, IsSound}
use Rattle.experiment.specs.Dues.{command_dues, dues_in}

both : {A : Type 0} (P Q : A → Type 0) (xs : List A) → AllByRecursion P xs → AllByRecursion Q xs → AllByRecursion (λ x. P x × Q x) xs
both P Q [] p q = tt
both P Q (x ∷ xs) p q = ((p.0, q.0), both P Q xs p.1 q.1)

joined : {A : Type 0} (P : A → Type 0) (xs ys : List A) → AllByRecursion P xs → AllByRecursion P ys → AllByRecursion P (xs ++ ys)
joined P [] ys p q = q
joined P (x ∷ xs) ys p q = (p.0, joined P xs ys p.1 q)

-- the next command's due
next-in-time : (clock : ℕ) (next : Option Timed) → IfSome next (λ c. c.moment ≤ 10 ^ 15) → AreRising clock (option_to_list next) →
    AllByRecursion (λ (d : Due). (clock ≤ d.moment) × (IsMoment d.moment)) (command_dues (option_to_list next))
next-in-time clock None early rising = tt
next-in-time clock (Some c) early rising = ((rising.0, omega (arith, early)), tt)

pub in-time : DuesStayAhead → DuesStayBelow → (p : Pocket) (e : KeptExperiment) (latest held : ℕ) → IsSound e latest held → IsAlone p e →
    AllByRecursion (λ (d : Due). (e.clock ≤ d.moment) × (IsMoment d.moment)) (dues_in (view p e))
in-time ahead below p e latest held s is =
    let a : IsAhead (view p e) = subst IsAhead (sym is) (ahead e.spec e.consumed e.steps s.rising) in
    let b : IsBelow (view p e) = subst IsBelow (sym is) (below e.spec e.consumed e.steps s.rising s.early_all) in
    let dues : List Due = dues_of e.clock (net_of p e.net) in
    joined (λ (d : Due). (e.clock ≤ d.moment) × (IsMoment d.moment)) (command_dues (option_to_list e.next)) dues
    (next-in-time e.clock e.next s.early a.0)
    (both (λ (d : Due). e.clock ≤ d.moment) (λ (d : Due). IsMoment d.moment) dues a.1 b.1)
