use Rattle.std.proofs.Common.{◌≡◌, Bool, true, cond, refl, sym, ap, ◌∙◌, subst, List, map, Option, Some, None}
use Rattle.std.specs.Prelude.{is_some}
use Rattle.emu_model.specs.declared.packets.Packet.{Packet}
use Rattle.emu_model.specs.declared.commands.Command.TheVariants.{PipeDelete}
use Rattle.emu_model.specs.declared.records.DropCause.TheVariants.{Deleted}
use Rattle.emu_model.specs.declared.records.Refusal.{Refusal}
use Rattle.emu_model.specs.declared.records.Refusal.TheVariants.{NoSuchPipe}
use Rattle.emu_model.specs.Net.{drop_record, find_pipe}
use Rattle.emu_model.specs.Commands.{obey}
use Rattle.emu_model.specs.Step.{setting}
use Rattle.network.specs.contracts.state.Network.{the_view}
use Rattle.network.specs.Kept.{KeptNet, net_of}
use Rattle.network.specs.Changes.{Notes}
use Rattle.network.proofs.Obeying.{none-there, refuse-obeys, deleted, not-deleted}
use Rattle.network.proofs.Readied.{readied, from_readied}
use Rattle.network.proofs.Frame.{pipes-named}
use Rattle.network.proofs.state.Network.delete_pipe.Goals as goal

-- a pipe that isn't there
abbrev refused-where : Bool → Option Refusal
refused-where there = cond there None (Some NoSuchPipe)

pub delete-requires : goal.delete-requires
delete-requires g c =
    let r = readied c.requires.stands.housed c.reserve_besides.ensures.still refl c.self-2.view_is in
    pipes-named _ _ r.housed

pub returns-in-None-clause-ok : goal.returns-in-None-clause-ok
returns-in-None-clause-ok g c =
    let r = readied c.requires.stands.housed c.reserve_besides.ensures.still refl c.self-2.view_is in
    from_readied r (obey (setting c.args.spec.now c.args.now) c.args.number (PipeDelete c.args.pipe)) 1 _ _
    (not-deleted (setting c.args.spec.now c.args.now) c.args.number c.args.pipe _ _ _ c.delete.new.self r.housed c.delete.ensures.keys c.delete.ensures.seed _ (rw c.in-None.is at c.in_ok-delete.ensures.ok) (rw c.in-None.is at c.in_ok-delete.ensures.there) c.refuse-in-None.ensures)

pub returns-in-Some-clause-ok : goal.returns-in-Some-clause-ok
returns-in-Some-clause-ok g c =
    let r = readied c.requires.stands.housed c.reserve_besides.ensures.still refl c.self-2.view_is in
    from_readied r (obey (setting c.args.spec.now c.args.now) c.args.number (PipeDelete c.args.pipe)) 1 _ _
    (deleted (setting c.args.spec.now c.args.now) c.args.number c.args.pipe _ _ _ c.delete.new.self r.housed c.delete.ensures.keys c.delete.ensures.seed c.in-Some.packets.items c.note_done.new.self _ (rw c.in-Some.is at c.in_ok-delete.ensures.ok) (rw c.in-Some.is at c.in_ok-delete.ensures.there) c.note_done.ensures
    (subst (λ (xs : List Packet). Notes (map (drop_record c.args.now) (map (λ x. record { packet = x; cause = Deleted }) xs)) c.note_done.new.self c.drop_all.new.self) c.deref.ensures.value c.drop_all.ensures))

pub returns-then-not-has-clause-ok : goal.returns-then-not-has-clause-ok
returns-then-not-has-clause-ok g c =
    let p = g.S.Shelf.pocket c.args.shelf.now c.args.owner in
    refuse-obeys (setting c.args.spec.now c.args.now) c.args.number (PipeDelete c.args.pipe) NoSuchPipe c.args.self.now _
    (λ q. ap refused-where (ap (λ (v : KeptNet). is_some (find_pipe c.args.pipe (net_of q v))) (sym c.self.view_is) ∙ sym (c.has.ensures q (net_of q (the_view c.self.inside))) ∙ c.if-not-has.true))
    c.refuse.ensures p c.requires.stands.housed

pub returns-in_err-reserve_besides-clause-succeeds : goal.returns-in_err-reserve_besides-clause-succeeds
returns-in_err-reserve_besides-clause-succeeds g c = λ some.
    let p = g.S.Shelf.pocket c.args.shelf.now c.args.owner in
    let there : is_some (find_pipe c.args.pipe (net_of p c.args.self.now)) ≡ true =
    ap (λ (v : KeptNet). is_some (find_pipe c.args.pipe (net_of p v))) (sym c.self.view_is) ∙ sym (c.has.ensures p (net_of p (the_view c.self.inside))) ∙ c.if-not-has.false in
    absurd (none-there (refused-where (is_some (find_pipe c.args.pipe (net_of p c.args.self.now)))) (ap refused-where there) some)

pub returns-in_err-delete-clause-succeeds : goal.returns-in_err-delete-clause-succeeds
returns-in_err-delete-clause-succeeds g c = λ some.
    let p = g.S.Shelf.pocket c.args.shelf.now c.args.owner in
    let there : is_some (find_pipe c.args.pipe (net_of p c.args.self.now)) ≡ true =
    ap (λ (v : KeptNet). is_some (find_pipe c.args.pipe (net_of p v))) (sym c.self.view_is) ∙ sym (c.has.ensures p (net_of p (the_view c.self.inside))) ∙ c.if-not-has.false in
    absurd (none-there (refused-where (is_some (find_pipe c.args.pipe (net_of p c.args.self.now)))) (ap refused-where there) some)
