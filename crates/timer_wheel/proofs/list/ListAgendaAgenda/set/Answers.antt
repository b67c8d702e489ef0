use Rattle.std.proofs.Common.{sym, ap, subst, ◌∙◌, ◌≤◌, ◌≡◌, ◌++◌, ◌∷◌, [], None, IsSome, is_some, false, true}
use Rattle.std.specs.List.{list_any}
use Rattle.timer_wheel.specs.Rows.{ListBook, row_of, is_of}
use Rattle.timer_wheel.proofs.Rows.{above-set, set-here, set-there, without_entry, entry, row_of-absent}
use Rattle.timer_wheel.proofs.list.ListAgendaAgenda.set.Goals as goal

pub invariant_of-self : goal.invariant_of-self
invariant_of-self c =
    let items : c.replace.new.items.items ≡ without_entry c.args.owner c.args.source c.self.inside.items.items ++ entry c.args.owner c.args.source c.args.due ∷ [] = c.replace.ensures.items in
    rw items (above-set c.self.inside.clock c.self.inside.items.items c.args.owner c.args.source c.args.due (subst (λ (b : ListBook). b.clock ≤ c.args.due) (sym c.self.view_is) c.requires) c.self.invariant)

pub returns-then-has-clause-ok : goal.returns-then-has-clause-ok
returns-then-has-clause-ok c =
    let items : c.replace.new.items.items ≡ without_entry c.args.owner c.args.source c.self.inside.items.items ++ entry c.args.owner c.args.source c.args.due ∷ [] = c.replace.ensures.items in
    rw (items, ← c.self.view_is) (set-here c.self.inside.items.items c.args.owner c.args.source c.args.due)

pub returns-then-has-clause-others : goal.returns-then-has-clause-others
returns-then-has-clause-others c o ne =
    let items : c.replace.new.items.items ≡ without_entry c.args.owner c.args.source c.self.inside.items.items ++ entry c.args.owner c.args.source c.args.due ∷ [] = c.replace.ensures.items in
    rw (items, ← c.self.view_is) (set-there c.self.inside.items.items c.args.owner c.args.source c.args.due o ne)

pub invariant_of-self-2 : goal.invariant_of-self-2
invariant_of-self-2 c =
    let items : c.replace-2.new.items.items ≡ without_entry c.args.owner c.args.source c.self.inside.items.items ++ entry c.args.owner c.args.source c.args.due ∷ [] = cc (c.replace-2.ensures.items, c.in_ok-reserve.ensures.items) in
    rw items (above-set c.self.inside.clock c.self.inside.items.items c.args.owner c.args.source c.args.due (subst (λ (b : ListBook). b.clock ≤ c.args.due) (sym c.self.view_is) c.requires) c.self.invariant)

pub returns-clause-ok : goal.returns-clause-ok
returns-clause-ok c =
    let items : c.replace-2.new.items.items ≡ without_entry c.args.owner c.args.source c.self.inside.items.items ++ entry c.args.owner c.args.source c.args.due ∷ [] = cc (c.replace-2.ensures.items, c.in_ok-reserve.ensures.items) in
    rw (items, ← c.self.view_is) (set-here c.self.inside.items.items c.args.owner c.args.source c.args.due)

pub returns-clause-others : goal.returns-clause-others
returns-clause-others c o ne =
    let items : c.replace-2.new.items.items ≡ without_entry c.args.owner c.args.source c.self.inside.items.items ++ entry c.args.owner c.args.source c.args.due ∷ [] = cc (c.replace-2.ensures.items, c.in_ok-reserve.ensures.items) in
    rw (items, ← c.self.view_is) (set-there c.self.inside.items.items c.args.owner c.args.source c.args.due o ne)

pub returns-in_err-reserve-clause-again : goal.returns-in_err-reserve-clause-again
returns-in_err-reserve-clause-again c h =
    let any : list_any (is_of c.args.owner c.args.source) c.self.inside.items.items ≡ false = sym (c.has.ensures ∙ ap (list_any (is_of c.args.owner c.args.source)) c.deref.ensures.value) ∙ c.if-has.false in
    let row : row_of c.self.inside.items.items c.args.owner c.args.source ≡ None = row_of-absent c.args.owner c.args.source c.self.inside.items.items any in
    let some : IsSome (row_of c.self.inside.items.items c.args.owner c.args.source) = subst (λ (b : ListBook). IsSome (row_of b.items c.args.owner c.args.source)) (sym c.self.view_is) h in
    let bad : false ≡ true = sym (ap is_some row) ∙ some in
    cc

pub returns-clause-kept : goal.returns-clause-kept
returns-clause-kept c h =
    let any : list_any (is_of c.args.owner c.args.source) c.self.inside.items.items ≡ false = sym (c.has.ensures ∙ ap (list_any (is_of c.args.owner c.args.source)) c.deref.ensures.value) ∙ c.if-has.false in
    let row : row_of c.self.inside.items.items c.args.owner c.args.source ≡ None = row_of-absent c.args.owner c.args.source c.self.inside.items.items any in
    let some : IsSome (row_of c.self.inside.items.items c.args.owner c.args.source) = subst (λ (b : ListBook). IsSome (row_of b.items c.args.owner c.args.source)) (sym c.self.view_is) h in
    let bad : false ≡ true = sym (ap is_some row) ∙ some in
    absurd cc
