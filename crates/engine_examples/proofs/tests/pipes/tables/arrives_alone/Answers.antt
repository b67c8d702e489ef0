use Rattle.std.proofs.Common.{◌≡◌, ℕ, refl, ap, ◌∙◌, List, [], length, arith}
use Rattle.packet_store.specs.Pocket.{Pocket, empty_pocket}
use Rattle.packet_store.specs.Own.{own_pocket}
use Rattle.pipe_core.specs.Uses.{total, one_at}
use Rattle.pipe_core.specs.Moves.{AreNamed}
use Rattle.pipe_table.specs.Table.{Table, pipe_keys}
use Rattle.engine_examples.proofs.tests.pipes.tables.arrives_alone.Goals as goal

total-nil : (weight : ℕ → ℕ) → total weight [] ≡ 0
unfolding total
total-nil weight = refl

none-named : (p : Pocket) (keys : List ℕ) → keys ≡ [] → AreNamed p keys
none-named p keys none = record {
  each = λ k. let e : total (one_at k) keys ≡ 0 = ap (total (one_at k)) none ∙ total-nil (one_at k) in omega (arith, e);
  within = let e : length keys ≡ 0 = ap length none in omega (arith, e);
}

no-keys : pipe_keys [] ≡ []
unfolding pipe_keys
no-keys = refl

pub arrive-requires-clause-named : goal.arrive-requires-clause-named
arrive-requires-clause-named g c =
    none-named _ _
    (c.route_ready.ensures.grown.keys ∙ c.configure.ensures.keys ∙ ap (λ (t : Table). pipe_keys t.pipes) c.requires.empty ∙ no-keys)

pub arrive-requires-clause-budget : goal.arrive-requires-clause-budget
arrive-requires-clause-budget g c =
    let e : own_pocket c.route_ready.new.shelf ≡ empty_pocket 2 = c.route_ready.ensures.pockets 0 ∙ c.requires.room in
    omega (arith, ap (λ (p : Pocket). p.count) e, ap (λ (p : Pocket). p.budget) e)
