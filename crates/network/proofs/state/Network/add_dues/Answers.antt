use Rattle.std.proofs.Common.{◌≡◌, ◌++◌, sym, ap, ◌∙◌, subst, arith}
use Rattle.std.specs.Prelude.{flat_map}
use Rattle.std.proofs.lemmas.List.{append_assoc}
use Rattle.emu_model.specs.Dues.{dues_of, line_dues, pipe_dues}
use Rattle.emu_model.specs.Net.{initial_net}
use Rattle.packet_store.specs.Pocket.{Pocket, empty_pocket}
use Rattle.pipe_table.specs.Table.{with_pipes}
use Rattle.network.specs.contracts.state.Network.{the_view}
use Rattle.network.specs.Kept.{KeptNet, net_of}
use Rattle.network.proofs.DueFacts.{all-parts, cut-back}
use Rattle.network.proofs.state.Network.add_dues.Goals as goal

pub returns-in_default-clause-err : goal.returns-in_default-clause-err
returns-in_default-clause-err c =
    let p = empty_pocket 0 in
    cut-back _ c.args.dues.now.items (line_dues 0 (net_of p c.args.self.now).direct) c.add_dues.new.dues.items _ c.truncate.ensures.items (omega arith)
    (c.in_default.ensures.err ∙ c.in_ok-add_direct.ensures.ok p)

pub returns-in_default-add_dues-clause-err : goal.returns-in_default-add_dues-clause-err
returns-in_default-add_dues-clause-err c =
    let p = empty_pocket 0 in
    let line = line_dues 0 (net_of p c.args.self.now).direct in
    let pipes = flat_map pipe_dues (with_pipes p c.self.inside.table initial_net).pipes in
    cut-back _ c.args.dues.now.items (line ++ pipes) c.add_dues-2.new.dues.items _ c.truncate-in_default-add_dues.ensures.items (omega arith)
    (c.in_default-add_dues.ensures.err ∙ c.in-Ok.ensures.ok p initial_net
    ∙ ap (λ ds. ds ++ pipes) (c.in_ok-add_direct.ensures.ok p) ∙ append_assoc c.args.dues.now.items line pipes)

pub returns-clause-ok : goal.returns-clause-ok
returns-clause-ok c =
    subst (λ (m : KeptNet). (p : Pocket) → c.add_dues-2.new.dues.items ≡ c.args.dues.now.items ++ dues_of c.args.clock (net_of p m)) c.self.view_is
    (λ p. let n = the_view c.self.inside in
    all-parts c.args.clock (net_of p n) c.args.dues.now.items c.add_direct.new.dues.items c.add_dues.new.dues.items c.add_dues-2.new.dues.items
    (c.in_ok-add_direct.ensures.ok p ∙ ap (λ (m : KeptNet). c.args.dues.now.items ++ line_dues 0 (net_of p m).direct) (sym c.self.view_is))
    (c.in-Ok.ensures.ok p (net_of p n)) (c.in-Ok-add_dues.ensures.ok (net_of p n)))
