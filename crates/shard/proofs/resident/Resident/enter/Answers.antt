use Rattle.std.proofs.Common.{◌≡◌, ◌+◌, sym, ap, ◌∙◌, ℕ, Option, Some, subst, arith}
use Rattle.emu_model.specs.Moments.{end_of_time}
use Rattle.emu_model.specs.declared.sources.Due.{Due}
use Rattle.packet_store.specs.Pocket.{empty_pocket}
use Rattle.timer_wheel.specs.Rows.{Row, with_due}
use Rattle.shard.specs.Entries.{turn, row_at, row_of}
use Rattle.shard.specs.Bodies.{Residence as Resident}
use Rattle.shard.specs.Kept.{IsGoing, next_kept}
use Rattle.shard.proofs.RowFacts.{row_below, has_next}
use Rattle.shard.proofs.resident.Resident.enter.Goals as goal

pub returns-clause-seated : goal.returns-clause-seated
returns-clause-seated g c = λ p going.
    let e = c.self.inside.body.value.experiment in
    let o = c.saturating_sub-offset.result in
    let due : Due = c.in-Some.due in
    let at : ℕ = due.moment + o in
    let next : Some due ≡ next_kept e = sym c.in-Some.is ∙ c.next_due-next.ensures.due (empty_pocket 0) ∙ ap (λ (r : Resident _). next_kept r.experiment) (sym c.self.view_is) in
    let set : g.A.Agenda.entries c.set.new.self c.args.slot ≡ row_at at =
    c.in-Ok.ensures.ok ∙ ap (λ (w : Row). with_due w turn at) c.clear_owner.ensures.cleared in
    record {
      going = subst (λ (r : Resident _). IsGoing g.M.Mail.seen p r.experiment r.published r.mail) (sym c.self.view_is) going;
      entries = λ s. ap (λ (w : Row). w s) set ∙ ap (λ (n : Option Due). row_of o n s) next;
      ready = λ h. has_next e due (sym next);
      late = omega (arith, c.saturating_sub-offset.ensures, c.clock.ensures.clock, c.clear_owner.ensures.time);
      below = λ s d is. row_below at (o + end_of_time) s d (omega (arith, c.in-Some.ensures.early)) (ap (λ (w : Row). w s) (sym set) ∙ is);
    }
