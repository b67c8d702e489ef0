use Rattle.std.proofs.Common.{◌≡◌, ◌≢◌, ℕ, ◌<◌, ◌≤◌, ◌⊎◌, ◌+◌, ◌^◌, inl, inr, cond, length, List, Option, Some, None, slice_get, refl, sym, ap, subst, ◌∙◌, arith}
use Rattle.std.proofs.lemmas.Option.{slice_get_within}
use Rattle.emu_model.specs.declared.sources.Source.{Source}
use Rattle.timer_wheel.specs.declared.Entry.{Entry}
use Rattle.timer_wheel.specs.declared.ties.Tie.{Tie}
use Rattle.timer_wheel.specs.Places.{place_of}
use Rattle.timer_wheel.specs.Ties.{TiesBook, Waits, tie_of}
use Rattle.timer_wheel.specs.Stocks.{StockBook, Holds, IsStock, due_of, room_of}
use Rattle.timer_wheel.specs.Stands.{WheelBook, StandsAt, IsWheel, IsTurned, IsStill, without_at, with_at}
use Rattle.std.proofs.lemmas.Bool.{eqb-true, eqb-false}
use Rattle.timer_wheel.proofs.StockFacts.{some_same}
use Rattle.timer_wheel.proofs.TieMoves.{not_waiting, nothing_waits}
use Rattle.timer_wheel.proofs.wheel.is_waiting.Goals as goal

pub returns-in_default-clause-no : goal.returns-in_default-clause-no
returns-in_default-clause-no c h = nothing_waits c.args.stock.now c.reveal_invariant.ensures c.args.tie c.in_default.ensures.none

pub list-requires : goal.list-requires
list-requires c =
    let f : (e : Entry) × (p : ℕ) × Holds c.args.stock.now.entries c.args.stock.now.slots c.in-Some.key e p × (e.owner ≡ c.args.tie.owner) × (e.source ≡ c.args.tie.source) = c.in-Some.ensures.held in
    slice_get_within c.args.stock.now.slots c.in-Some.key f.1 f.2.slot

pub returns-clause-yes : goal.returns-clause-yes
returns-clause-yes c h =
    let f : (e : Entry) × (p : ℕ) × Holds c.args.stock.now.entries c.args.stock.now.slots c.in-Some.key e p × (e.owner ≡ c.args.tie.owner) × (e.source ≡ c.args.tie.source) = c.in-Some.ensures.held in
    let is : f.1 ≡ 2048 = some_same f.1 c.list.result (slice_get c.args.stock.now.slots c.in-Some.key) f.2.slot c.list.ensures ∙ eqb-true c.list.result 2048 h in
    (c.in-Some.key, f.0, subst (λ q. Holds c.args.stock.now.entries c.args.stock.now.slots c.in-Some.key f.0 q) is f.2, (λ i. record { owner = f.3 i; source = f.4 i }))

pub returns-clause-no : goal.returns-clause-no
returns-clause-no c h =
    let f : (e : Entry) × (p : ℕ) × Holds c.args.stock.now.entries c.args.stock.now.slots c.in-Some.key e p × (e.owner ≡ c.args.tie.owner) × (e.source ≡ c.args.tie.source) = c.in-Some.ensures.held in
    not_waiting c.args.stock.now c.reveal_invariant.ensures c.args.tie c.in-Some.key c.list.result f.0 f.1 f.2 f.3 f.4 c.list.ensures (eqb-false c.list.result 2048 h)
