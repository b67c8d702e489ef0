use Rattle.std.proofs.Common.{◌≡◌, [], sym, ◌∙◌}
use Rattle.std.proofs.lemmas.List.{nil_from_length}
use Rattle.std.proofs.lemmas.Bool.Decides.{Decides-eqb}
use Rattle.alone.specs.contracts.talk.Talk.{the_view}
use Rattle.alone.proofs.Talking.{ends-open}
use Rattle.alone.proofs.talk.Talk.end.Goals as goal

pub returns-then-not-is_whole : goal.returns-then-not-is_whole
returns-then-not-is_whole c =
    let part = c.self.inside.part in
    let none : part.items ≡ [] = nil_from_length part.items (sym part.ok.0 ∙ (Decides-eqb part.len 0).0 (sym c.if-not-is_empty.ensures)) in
    ends-open c.args.self.now (the_view c.self.inside) c.is_whole.result c.saturating_add-line.result c.self.view_is c.saturating_add-line.ensures none
    c.if-self.false c.is_whole.ensures c.if-not-is_whole.true
