use Rattle.std.proofs.Common.{◌≡◌, ap, ◌∙◌}
use Rattle.emu_model.specs.FlowIds.{flow_id}
use Rattle.packet_store.specs.Pocket.{Pocket}
use Rattle.pipe_core.specs.Keyed.{KeyedPipe}
use Rattle.pipe_core.proofs.MaskFacts.{keeps-then}
use Rattle.pipe_core.proofs.Arrivals.{arrive_none, arrive_some, arrive_keys}
use Rattle.pipe_core.proofs.pipe.Pipe.arrive.Goals as goal

pub returns-in_default-clause-arrived : goal.returns-in_default-clause-arrived
returns-in_default-clause-arrived g c =
    let p : Pocket = g.S.Shelf.pocket c.args.shelf.now c.args.owner in
    let old : KeyedPipe = c.args.self.now in
    let id : c.apply-id.result ≡ flow_id old.config.mask c.args.packet.now =
    c.apply-id.ensures ∙ ap (λ (z : KeyedPipe). flow_id z.config.mask c.args.packet.now) c.self.view_is in
    arrive_none c.args.now c.args.packet.now p old c.find_or_make.new.self c.apply-id.result id
    c.in_default.ensures.number c.in_default.ensures.none c.find_or_make.ensures.same

pub returns-clause-arrived : goal.returns-clause-arrived
returns-clause-arrived g c =
    let p : Pocket = g.S.Shelf.pocket c.args.shelf.now c.args.owner in
    let q : Pocket = g.S.Shelf.pocket c.arrive_at.new.shelf c.args.owner in
    let old : KeyedPipe = c.args.self.now in
    let id : c.apply-id.result ≡ flow_id old.config.mask c.args.packet.now =
    c.apply-id.ensures ∙ ap (λ (z : KeyedPipe). flow_id z.config.mask c.args.packet.now) c.self.view_is in
    arrive_some c.args.now c.in-Some.instance c.args.packet.now c.arrive_at.result.cause p q old c.find_or_make.new.self c.arrive_at.new.self
    c.apply-id.result c.find_or_make.ensures.same c.arrive_at.ensures.came
    c.requires.named id c.in-Some.ensures.number c.in-Some.ensures.made

pub returns-clause-keys : goal.returns-clause-keys
returns-clause-keys g c =
    let p : Pocket = g.S.Shelf.pocket c.args.shelf.now c.args.owner in
    let q : Pocket = g.S.Shelf.pocket c.arrive_at.new.shelf c.args.owner in
    arrive_keys c.args.now c.in-Some.instance c.args.packet.now c.arrive_at.result.cause p q c.args.self.now c.find_or_make.new.self c.arrive_at.new.self
    c.apply-id.result c.find_or_make.ensures.same c.arrive_at.ensures.came c.find_or_make.ensures.keys

pub find_or_make-requires-clause-its : goal.find_or_make-requires-clause-its
find_or_make-requires-clause-its g c = (
  c.args.packet.now,
  c.apply-id.ensures ∙ ap (λ (z : KeyedPipe). flow_id z.config.mask c.args.packet.now) c.self.view_is,
)

pub returns-clause-ids : goal.returns-clause-ids
returns-clause-ids g c =
    keeps-then c.args.self.now.slots c.find_or_make.new.self.slots c.arrive_at.new.self.slots c.find_or_make.ensures.ids c.arrive_at.ensures.ids

pub returns-in_default-clause-ids : goal.returns-in_default-clause-ids
returns-in_default-clause-ids g c = c.find_or_make.ensures.ids
