use Rattle.std.proofs.Common.{◌≡◌, ◌<◌, ◌∙◌, length, sym, ap, arith, Some}
use Rattle.flow_mask.proofs.Numbers.{next_instance}
use Rattle.flow_mask.proofs.instances.Instances.find_or_make.Goals as goal

pub returns-clause-ok : goal.returns-clause-ok
returns-clause-ok c =
    let few : length c.args.self.now.ids < 256 = omega (arith, c.len-next.ensures.len, c.len-next.ensures.most, c.if-next-eq-MOST.false) in
    next_instance c.args.self.now.ids c.args.id (sym c.in_default.ensures.index) few ∙ ap (λ n. Some n) (sym c.len-next.ensures.len)
