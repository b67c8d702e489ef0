use Rattle.std.proofs.Common.{◌≡◌, ℕ, ◌≤◌, inl, inr, Some, sym, ap, subst, ◌∙◌, arith}
use Rattle.emu_model.specs.declared.sources.Source.{Source}
use Rattle.timer_wheel.specs.declared.Entry.{Entry}
use Rattle.timer_wheel.specs.Stocks.{Holds, due_of}
use Rattle.timer_wheel.specs.Stands.{WheelBook, with_at}
use Rattle.timer_wheel.proofs.WheelFacts.{set_wheel, fewer_wheel, reset_due, row_with, row_other}
use Rattle.timer_wheel.proofs.wheel.WheelAgenda.set.Goals as goal

pub invariant_of-self : goal.invariant_of-self
invariant_of-self c =
    let low : c.self.inside.clock ≤ c.args.due = subst (λ (b : WheelBook). b.clock ≤ c.args.due) (sym c.self.view_is) c.requires in
    let h : (e : Entry) × (p : ℕ) × Holds c.self.inside.stock.entries c.self.inside.stock.slots c.in-Some.key e p × (e.owner ≡ c.args.owner) × (e.source ≡ c.args.source) = c.in-Some.ensures.held in
    let rows : (a : ℕ) (x : Source) → due_of c.reset.new.self a x ≡ with_at (due_of c.self.inside.stock) c.args.owner c.args.source c.args.due a x =
    reset_due c.self.inside.stock c.reset.new.self c.args.owner c.args.source c.args.due h.0 h.3 h.4 (c.reset.ensures.rows h.0 h.2.entry) in
    set_wheel c.self.inside.clock c.self.inside.stock c.reset.new.self c.args.owner c.args.source c.args.due c.place-list.result low (omega arith) c.place-list.ensures.place rows c.reset.ensures.holds c.self.inside.ties c.self.invariant

pub returns-in-Some-clause-ok : goal.returns-in-Some-clause-ok
returns-in-Some-clause-ok c =
    let h : (e : Entry) × (p : ℕ) × Holds c.self.inside.stock.entries c.self.inside.stock.slots c.in-Some.key e p × (e.owner ≡ c.args.owner) × (e.source ≡ c.args.source) = c.in-Some.ensures.held in
    let rows : (a : ℕ) (x : Source) → due_of c.reset.new.self a x ≡ with_at (due_of c.self.inside.stock) c.args.owner c.args.source c.args.due a x =
    reset_due c.self.inside.stock c.reset.new.self c.args.owner c.args.source c.args.due h.0 h.3 h.4 (c.reset.ensures.rows h.0 h.2.entry) in
    rw (← c.self.view_is) (row_with (due_of c.self.inside.stock) (due_of c.reset.new.self) c.args.owner c.args.source c.args.due rows)

pub returns-in-Some-clause-others : goal.returns-in-Some-clause-others
returns-in-Some-clause-others c =
    let h : (e : Entry) × (p : ℕ) × Holds c.self.inside.stock.entries c.self.inside.stock.slots c.in-Some.key e p × (e.owner ≡ c.args.owner) × (e.source ≡ c.args.source) = c.in-Some.ensures.held in
    let rows : (a : ℕ) (x : Source) → due_of c.reset.new.self a x ≡ with_at (due_of c.self.inside.stock) c.args.owner c.args.source c.args.due a x =
    reset_due c.self.inside.stock c.reset.new.self c.args.owner c.args.source c.args.due h.0 h.3 h.4 (c.reset.ensures.rows h.0 h.2.entry) in
    rw (← c.self.view_is) (row_other (due_of c.self.inside.stock) (due_of c.reset.new.self) c.args.owner c.args.source (Some c.args.due) rows)

pub invariant_of-self-in_err-make_room : goal.invariant_of-self-in_err-make_room
invariant_of-self-in_err-make_room c = fewer_wheel c.self.inside.clock c.self.inside.stock c.make_room.new.self c.make_room.ensures.holds (λ o s d h. sym (c.make_room.ensures.rows o s) ∙ h) c.self.inside.ties c.self.invariant

pub invariant_of-self-2 : goal.invariant_of-self-2
invariant_of-self-2 c =
    let low : c.self.inside.clock ≤ c.args.due = subst (λ (b : WheelBook). b.clock ≤ c.args.due) (sym c.self.view_is) c.requires in
    rw c.make_room-2.ensures
    (set_wheel c.self.inside.clock c.make_room.new.self c.insert.new.self c.args.owner c.args.source c.args.due c.place-list.result low (omega arith) c.place-list.ensures.place c.insert.ensures.rows
    (λ k e p h. elim (c.insert.ensures.holds k e p h) [ inl old ↦ inl old | inr new ↦ inr (ap (λ (x : Entry). x.due) new.0, new.1) ])
    c.self.inside.ties (fewer_wheel c.self.inside.clock c.self.inside.stock c.make_room.new.self c.make_room.ensures.holds (λ o s d h. sym (c.make_room.ensures.rows o s) ∙ h) c.self.inside.ties c.self.invariant))
