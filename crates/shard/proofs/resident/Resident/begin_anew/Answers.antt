use Rattle.std.proofs.Common.{◌∙◌, refl, sym, ap, subst, arith}
use Rattle.std.specs.Prelude.{is_some}
use Rattle.shard.specs.Bodies.{Residence as Resident}
use Rattle.shard.specs.Kept.{IsGoing}
use Rattle.shard.proofs.RowFacts.{one_entry}
use Rattle.shard.proofs.RestartFacts.{not_none}
use Rattle.shard.proofs.resident.Resident.begin_anew.Goals as goal

pub set_again-requires : goal.set_again-requires
set_again-requires g c =
    let s = c.requires.was.2 in
    let some = ap is_some (sym c.offset.ensures) ∙ not_none c.offset.result c.is_none.result c.if-is_none.false c.is_none.ensures in
    let e = one_entry c.args.self.now.offset c.args.self.now.experiment some (s.ready some) in
    record { stale = (c.requires.was.0, record { going = subst (λ (r : Resident _). IsGoing g.M.Mail.seen c.requires.was.0 r.experiment r.published r.mail) (sym c.self.view_is) s.going; was = e.at; entries = λ x. s.entries x ∙ e.entries x; ready = refl; late = omega arith; early = omega (arith, c.requires.start) }) }
