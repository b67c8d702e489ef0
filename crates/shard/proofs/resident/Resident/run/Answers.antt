use Rattle.std.proofs.Common.{ℕ, ◌≤◌, Option, sym, ◌∙◌, ap, subst}
use Rattle.std.specs.Prelude.{is_some, IfSome}
use Rattle.packet_store.specs.Books.{pocket_of}
use Rattle.shard.proofs.RowFacts.{one_entry}
use Rattle.shard.proofs.RunFacts.{stays_on}
use Rattle.shard.proofs.resident.Resident.run.Goals as goal

pub set_again-requires : goal.set_again-requires
set_again-requires g c =
    let r = c.args.self.now in
    let p = pocket_of c.args.store.now r.owner in
    let q = pocket_of c.run_on-event.new.store r.owner in
    let t = c.run_on-event.new.self in
    let runs = c.run_on-event.ensures.runs in
    let on = stays_on g.M.Mail.seen c.run_on-event.result g.W.Watch.may_refuse c.args.more runs.0 p q r t (sym c.eq.ensures ∙ c.if-eq.true) runs.2 in
    let row = one_entry r.offset r.experiment c.requires.least.ready c.requires.least.next in
    record {
      stale = (
        q,
        record {
          going = on.1;
          was = row.at;
          entries = λ s. c.requires.least.entries s ∙ row.entries s;
          ready = ap is_some c.run_on-event.ensures.offset ∙ c.requires.least.ready;
          late = subst (λ (o : Option ℕ). IfSome o (λ x. x ≤ g.A.Agenda.time c.args.agenda.now)) (sym c.run_on-event.ensures.offset) c.requires.least.late;
          early = c.requires.least.early;
        },
      );
    }
