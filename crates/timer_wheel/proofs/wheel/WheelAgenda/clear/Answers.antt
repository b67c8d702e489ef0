use Rattle.timer_wheel.proofs.StockThin.{removed_holds}
use Rattle.std.proofs.Common.{◌≡◌, ℕ, None}
use Rattle.timer_wheel.specs.declared.Entry.{Entry}
use Rattle.timer_wheel.specs.Stocks.{Holds, due_of}
use Rattle.std.proofs.lemmas.Option.{slice_get_within}
use Rattle.emu_model.specs.declared.sources.Source.{Source}
use Rattle.timer_wheel.specs.Stands.{without_at}
use Rattle.timer_wheel.proofs.WheelFacts.{fewer_wheel, row_without, row_other, unset_row, removed_due, without_some}
use Rattle.timer_wheel.proofs.wheel.WheelAgenda.clear.Goals as goal

pub returns-in_default-clause-cleared : goal.returns-in_default-clause-cleared
returns-in_default-clause-cleared c = rw (← c.self.view_is) (unset_row (due_of c.self.inside.stock c.args.owner) c.args.source c.in_default.ensures.none)

pub remove-requires : goal.remove-requires
remove-requires c =
    let h : (e : Entry) × (p : ℕ) × Holds c.self.inside.stock.entries c.self.inside.stock.slots c.in-Some.key e p × (e.owner ≡ c.args.owner) × (e.source ≡ c.args.source) = c.in-Some.ensures.held in
    (h.0, h.1, h.2)

pub invariant_of-self : goal.invariant_of-self
invariant_of-self c =
    let h : (e : Entry) × (p : ℕ) × Holds c.self.inside.stock.entries c.self.inside.stock.slots c.in-Some.key e p × (e.owner ≡ c.args.owner) × (e.source ≡ c.args.source) = c.in-Some.ensures.held in
    let gone : (a : ℕ) (x : Source) → due_of c.remove.new.self a x ≡ without_at (due_of c.self.inside.stock) c.args.owner c.args.source a x =
    removed_due c.self.inside.stock c.remove.new.self c.in-Some.key c.args.owner c.args.source c.remove.result h.0 h.1 c.remove.ensures.entry h.2 h.3 h.4 c.remove.ensures.rows in
    fewer_wheel c.self.inside.clock c.self.inside.stock c.remove.new.self
    (removed_holds c.self.inside.stock c.remove.new.self c.in-Some.key c.remove.result (record { entry = c.remove.ensures.entry; entries = c.remove.ensures.entries; slots = c.remove.ensures.slots; owners = c.remove.ensures.owners; rows = c.remove.ensures.rows; room = c.remove.ensures.room })
    (slice_get_within c.self.inside.stock.slots c.in-Some.key h.1 h.2.slot))
    (without_some (due_of c.self.inside.stock) (due_of c.remove.new.self) c.args.owner c.args.source gone) c.self.inside.ties c.self.invariant

pub returns-clause-cleared : goal.returns-clause-cleared
returns-clause-cleared c =
    let h : (e : Entry) × (p : ℕ) × Holds c.self.inside.stock.entries c.self.inside.stock.slots c.in-Some.key e p × (e.owner ≡ c.args.owner) × (e.source ≡ c.args.source) = c.in-Some.ensures.held in
    let gone : (a : ℕ) (x : Source) → due_of c.remove.new.self a x ≡ without_at (due_of c.self.inside.stock) c.args.owner c.args.source a x =
    removed_due c.self.inside.stock c.remove.new.self c.in-Some.key c.args.owner c.args.source c.remove.result h.0 h.1 c.remove.ensures.entry h.2 h.3 h.4 c.remove.ensures.rows in
    rw (← c.self.view_is) (row_without (due_of c.self.inside.stock) (due_of c.remove.new.self) c.args.owner c.args.source gone)

pub returns-clause-others : goal.returns-clause-others
returns-clause-others c =
    let h : (e : Entry) × (p : ℕ) × Holds c.self.inside.stock.entries c.self.inside.stock.slots c.in-Some.key e p × (e.owner ≡ c.args.owner) × (e.source ≡ c.args.source) = c.in-Some.ensures.held in
    let gone : (a : ℕ) (x : Source) → due_of c.remove.new.self a x ≡ without_at (due_of c.self.inside.stock) c.args.owner c.args.source a x =
    removed_due c.self.inside.stock c.remove.new.self c.in-Some.key c.args.owner c.args.source c.remove.result h.0 h.1 c.remove.ensures.entry h.2 h.3 h.4 c.remove.ensures.rows in
    rw (← c.self.view_is) (row_other (due_of c.self.inside.stock) (due_of c.remove.new.self) c.args.owner c.args.source None gone)
