use Rattle.std.proofs.Common.{◌∙◌, sym}
use Rattle.emu_rules.proofs.RulesKept.{length-settled}
use Rattle.emu_rules.proofs.list.RuleList.len.Goals as goal

pub returns-clause-count : goal.returns-clause-count
returns-clause-count c =
    let s = c.self.inside in
    rw (← c.self.view_is) (c.len.ensures ∙ s.rules.ok.0 ∙ sym (length-settled s.cache s.rules.items))
