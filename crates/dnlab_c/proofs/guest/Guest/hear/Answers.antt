use Rattle.std.proofs.Common.{◌≡◌, ℕ, List, ◌++◌, subst}
use Rattle.dnlab_c.specs.Guests.{KeptGuest, IsSaidTo}
use Rattle.dnlab_c.specs.contracts.guest.Guest.{the_view}
use Rattle.dnlab_c.proofs.Hearing.{taken_says}
use Rattle.dnlab_c.proofs.guest.Guest.hear.Goals as goal

pub returns-in_default-clause-hears : goal.returns-in_default-clause-hears
returns-in_default-clause-hears c =
    let said = c.in_ok-cause.ensures in
    let old : KeptGuest = the_view c.self.inside in
    subst
    (λ (g : KeptGuest). (x : List ℕ) × (c.take.new.out.items ≡ g.out ++ x) × IsSaidTo c.args.line.now x g.session c.take.new.self)
    c.self.view_is
    (taken_says c.args.line.now old.out c.take.new.out.items c.in_ok-cause.field-0 old.session c.take.new.self c.in_default.is said.fault said.takes said.does)
