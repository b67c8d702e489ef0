use Rattle.std.proofs.Common.{◌≡◌, ◌+◌, ap, ◌∙◌, sym, ℕ, Option, Some, subst, arith}
use Rattle.emu_model.specs.Moments.{end_of_time}
use Rattle.emu_model.specs.declared.sources.Due.{Due}
use Rattle.emu_model.specs.declared.sources.Source.{Source}
use Rattle.packet_store.specs.Pocket.{empty_pocket}
use Rattle.timer_wheel.specs.Rows.{Row}
use Rattle.shard.specs.Entries.{row_at, row_of}
use Rattle.shard.specs.Bodies.{Residence as Resident}
use Rattle.shard.specs.Kept.{IsGoing, next_kept}
use Rattle.shard.proofs.RowFacts.{row_below, has_next, set_anew}
use Rattle.shard.proofs.resident.Resident.set_again.Goals as goal

pub returns-clause-seated : goal.returns-clause-seated
returns-clause-seated g c = λ p going.
    let e = c.self.inside.body.value.experiment in
    let o : ℕ = c.offset_from-later.result in
    let due : Due = c.in-Some-next_due.due in
    let at : ℕ = due.moment + o in
    let stale = c.requires.stale.1 in
    let next : Some due ≡ next_kept e = c.in-Some-next_due.ensures.due (empty_pocket 0) ∙ ap (λ (r : Resident _). next_kept r.experiment) (sym c.self.view_is) in
    let set : (s : Source) → g.A.Agenda.entries c.set.new.self c.args.slot s ≡ row_at at s = λ s.
    ap (λ (w : Row). w s) c.in-Ok.ensures.ok ∙ set_anew (g.A.Agenda.entries c.args.agenda.now c.args.slot) stale.was at stale.entries s in
    record {
      going = subst (λ (r : Resident _). IsGoing g.M.Mail.seen p r.experiment r.published r.mail) (sym c.self.view_is) going;
      entries = λ s. set s ∙ ap (λ (n : Option Due). row_of o n s) next;
      ready = λ h. has_next e due (sym next);
      late = omega (arith, c.offset_from-later.ensures.late, c.clock.ensures.clock);
      below = λ s d is. row_below at (o + end_of_time) s d (omega (arith, c.in-Some-next_due.ensures.early)) (sym (set s) ∙ is);
    }
