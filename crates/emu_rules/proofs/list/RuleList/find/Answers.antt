use Rattle.std.proofs.Common.{◌∙◌, sym, ap}
use Rattle.emu_model.specs.Rules.{verdict}
use Rattle.emu_rules.proofs.RulesKept.{verdict-settled}
use Rattle.emu_rules.proofs.list.RuleList.find.Goals as goal

pub returns : goal.returns
returns c =
    let s = c.self.inside in
    let p = c.args.packet.now in
    rw (← c.self.view_is) (c.find.ensures ∙ ap (verdict 0 p) c.deref.ensures.value ∙ sym (verdict-settled 0 p s.cache s.rules.items))
