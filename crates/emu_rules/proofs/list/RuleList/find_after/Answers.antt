use Rattle.std.proofs.Common.{◌≡◌, ◌∙◌, sym, ap}
use Rattle.emu_model.specs.Rules.{start_behind, verdict}
use Rattle.emu_rules.specs.RuleCache.{settled}
use Rattle.emu_rules.proofs.RulesKept.{behind-settled, verdict-settled}
use Rattle.emu_rules.proofs.list.RuleList.find_after.Goals as goal

pub returns : goal.returns
returns c =
    let s = c.self.inside in
    let p = c.args.packet.now in
    let cs = s.rules.items in
    let place = c.args.place in
    let start : c.first_behind-start.result ≡ start_behind place (settled s.cache cs) =
    c.first_behind-start.ensures ∙ ap (start_behind place) c.deref.ensures.value ∙ sym (behind-settled place s.cache cs) in
    rw (← c.self.view_is)
    (c.find.ensures
    ∙ ap (verdict c.first_behind-start.result p) c.deref-2.ensures.value
    ∙ sym (verdict-settled c.first_behind-start.result p s.cache cs)
    ∙ ap (λ n. verdict n p (settled s.cache cs)) start)
