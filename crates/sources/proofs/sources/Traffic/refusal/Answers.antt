use Rattle.std.proofs.Common.{◌≡◌, ◌<◌, nat_lt, sym, ◌∙◌, ap}
use Rattle.std.specs.Prelude.{Option, Some, None}
use Rattle.emu_model.specs.Net.{Net, TrainState}
use Rattle.sources.specs.Kept.{KeptFlow, KeptTraffic, with_traffic}
use Rattle.sources.proofs.Changes.{kept}
use Rattle.std.proofs.Common.{◌+◌, ◌≤◌, List, length, cond, arith}
use Rattle.std.proofs.lemmas.List.{length-map}
use Rattle.std.proofs.lemmas.Bool.{lt-ltb, le-ltb}
use Rattle.emu_model.specs.declared.records.Refusal.{Refusal}
use Rattle.emu_model.specs.declared.records.Refusal.TheVariants.{FlowThere, TooManyFlows}
use Rattle.sources.proofs.sources.Traffic.refusal.Goals as goal

abbrev rest_of : KeptTraffic → Net → Option Refusal
rest_of t n = cond (nat_lt (length (with_traffic t n).flows + length (with_traffic t n).trains) 256) None (Some TooManyFlows)

pub returns-then-is_in_use-clause-refusal : goal.returns-then-is_in_use-clause-refusal
returns-then-is_in_use-clause-refusal c = λ n.
    let used = sym (c.is_in_use.ensures n) ∙ c.if-is_in_use.true in
    sym (ap (λ b. cond b (Some FlowThere) (rest_of c.args.self.now n)) used)

few_by : (t : KeptTraffic) (fs : List KeptFlow) (ts : List TrainState) (n : Net) → kept fs ts ≡ t →
    length (with_traffic t n).flows + length (with_traffic t n).trains ≡ length fs + length ts
few_by t fs ts n is =
    let a = ap (λ (t : KeptTraffic). length t.flows) is in
    let b = ap (λ (t : KeptTraffic). length t.trains) is in
    omega (arith, a, b, length-map t.flows (λ (f : KeptFlow). f.state))

pub returns-then-len-lt-MAX_SOURCES-clause-refusal : goal.returns-then-len-lt-MAX_SOURCES-clause-refusal
returns-then-len-lt-MAX_SOURCES-clause-refusal c = λ n.
    let used = sym (c.is_in_use.ensures n) ∙ c.if-is_in_use.false in
    let few = few_by c.args.self.now c.self.inside.flows.items c.self.inside.trains.items n c.self.view_is in
    let small : length (with_traffic c.args.self.now n).flows + length (with_traffic c.args.self.now n).trains < 256 =
    omega (arith, few, c.len.ensures, c.len-2.ensures, c.self.inside.flows.ok.0, c.self.inside.trains.ok.0, c.if-len-lt-MAX_SOURCES.true) in
    sym (ap (λ b. cond b (Some FlowThere) (rest_of c.args.self.now n)) used ∙ ap (λ b. cond b None (Some TooManyFlows)) (lt-ltb _ 256 small))

pub returns-then-len-lt-MAX_SOURCES-clause-free : goal.returns-then-len-lt-MAX_SOURCES-clause-free
returns-then-len-lt-MAX_SOURCES-clause-free c = λ n.
    let used = sym (c.is_in_use.ensures n) ∙ c.if-is_in_use.false in
    let few = few_by c.args.self.now c.self.inside.flows.items c.self.inside.trains.items n c.self.view_is in
    let small : length (with_traffic c.args.self.now n).flows + length (with_traffic c.args.self.now n).trains < 256 =
    omega (arith, few, c.len.ensures, c.len-2.ensures, c.self.inside.flows.ok.0, c.self.inside.trains.ok.0, c.if-len-lt-MAX_SOURCES.true) in
    ap (λ b. cond b (Some FlowThere) (rest_of c.args.self.now n)) used ∙ ap (λ b. cond b None (Some TooManyFlows)) (lt-ltb _ 256 small)

pub returns-clause-refusal : goal.returns-clause-refusal
returns-clause-refusal c = λ n.
    let used = sym (c.is_in_use.ensures n) ∙ c.if-is_in_use.false in
    let few = few_by c.args.self.now c.self.inside.flows.items c.self.inside.trains.items n c.self.view_is in
    let large : 256 ≤ length (with_traffic c.args.self.now n).flows + length (with_traffic c.args.self.now n).trains =
    omega (arith, few, c.len.ensures, c.len-2.ensures, c.self.inside.flows.ok.0, c.self.inside.trains.ok.0, c.if-len-lt-MAX_SOURCES.false) in
    sym (ap (λ b. cond b (Some FlowThere) (rest_of c.args.self.now n)) used ∙ ap (λ b. cond b None (Some TooManyFlows)) (le-ltb _ 256 large))
