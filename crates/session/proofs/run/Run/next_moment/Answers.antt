use Rattle.std.proofs.Common.{◌≡◌, arith, refl, subst, ap, ◌∙◌}
use Rattle.packet_store.specs.Own.{own_pocket}
use Rattle.session.specs.Runs.{KeptRun, IsQuiet, first_moment}
use Rattle.session.specs.contracts.run.Run.{the_view}
use Rattle.session.proofs.LeastFacts.{quiet-past}
use Rattle.session.proofs.run.Run.next_moment.Goals as goal

pub returns-clause-some : goal.returns-clause-some
returns-clause-some c =
    let inside = c.self.inside in
    let first : c.in_ok-moment.moment ≡ first_moment c.args.self.now = c.in_ok-moment.ensures.some (own_pocket inside.shelf) ∙ ap first_moment c.self.view_is in
    (first, let below = c.if-moment-ge-PAST_ALL.false in omega (arith, below))

pub returns-then-moment-ge-PAST_ALL-clause-none : goal.returns-then-moment-ge-PAST_ALL-clause-none
returns-then-moment-ge-PAST_ALL-clause-none c none =
    let inside = c.self.inside in
    let first = c.in_ok-moment.ensures.some (own_pocket inside.shelf) in
    let past = c.if-moment-ge-PAST_ALL.true in
    subst (λ (r : KeptRun). IsQuiet 2000000000000000 r) c.self.view_is (quiet-past 2000000000000000 (the_view inside) (omega (arith, first, past)))

pub returns-in_err-moment-clause-none : goal.returns-in_err-moment-clause-none
returns-in_err-moment-clause-none c none =
    subst (λ (r : KeptRun). IsQuiet 2000000000000000 r) c.self.view_is (c.in_err-moment.ensures.none refl (own_pocket c.self.inside.shelf))
