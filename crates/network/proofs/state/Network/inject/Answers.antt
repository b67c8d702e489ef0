use Rattle.std.proofs.Common.{◌≡◌, sym, ◌∙◌, subst}
use Rattle.emu_model.specs.declared.packets.Origin.TheVariants.{ByCommand}
use Rattle.emu_model.specs.declared.commands.Command.TheVariants.{Inject}
use Rattle.emu_model.specs.Net.{make}
use Rattle.emu_model.specs.Commands.{obey}
use Rattle.packet_store.specs.Pocket.{Pocket}
use Rattle.emu_model.specs.Step.{setting}
use Rattle.network.specs.Kept.{net_of, IsHoused}
use Rattle.network.specs.Changes.{Becomes}
use Rattle.network.proofs.Obeying.{injected}
use Rattle.sources.specs.declared.sends.Sending.{Sending}
use Rattle.network.proofs.state.Network.inject.Goals as goal

pub returns-clause-ok : goal.returns-clause-ok
returns-clause-ok g c =
    let o = g.S.Shelf.pocket c.args.shelf.now c.args.owner in
    let p = g.S.Shelf.pocket c.inject_ready.new.shelf c.args.owner in
    let same : p ≡ o = c.inject_ready.ensures.pockets c.args.owner ∙ c.put_ready.ensures.pockets c.args.owner in
    let q = g.S.Shelf.pocket c.make.new.shelf c.args.owner in
    let made : Becomes 1 (make (setting c.args.spec.now c.args.now) (ByCommand c.args.number) c.args.send.now (net_of p c.note_done.new.self)) p q c.note_done.new.self c.make.new.self =
    subst (λ (s : Sending). Becomes 1 (make (setting c.args.spec.now c.args.now) s.origin s.send (net_of p c.note_done.new.self)) p q c.note_done.new.self c.make.new.self) c.injection-sending.ensures c.make.ensures.becomes in
    subst (λ (x : Pocket). Becomes 1 (obey (setting c.args.spec.now c.args.now) c.args.number (Inject c.args.send.now) (net_of x c.args.self.now)) x q c.args.self.now c.make.new.self) same
    (injected (setting c.args.spec.now c.args.now) c.args.number c.args.send.now p q c.args.self.now c.inject_ready.new.self c.note_done.new.self c.make.new.self
    (subst (λ (x : Pocket). IsHoused x c.args.self.now) (sym same) c.requires.stands.housed) c.inject_ready.ensures.still c.note_done.ensures made)
