use Rattle.std.proofs.Common.{◌≡◌, ℕ, List, Option, Some, None, sym, ap, ◌∙◌, position}
use Rattle.std.specs.Prelude.{is_some}
use Rattle.pipe_core.specs.Keyed.{KeyedPipe}
use Rattle.pipe_table.specs.Table.{has_number, pipe_of}
use Rattle.pipe_table.proofs.Splits.{position-none, position-some}
use Rattle.pipe_table.proofs.NetFacts.{has-is}
use Rattle.pipe_table.proofs.table.PipeTable.has.Goals as goal

stands-there : (k : ℕ) (ps : List KeyedPipe) (o : Option ℕ) → o ≡ position (has_number k) ps → is_some o ≡ is_some (pipe_of k ps)
stands-there k ps None e = sym (ap is_some (position-none (has_number k) ps e))
stands-there k ps (Some i) e = sym (position-some (has_number k) ps i e)

pub returns : goal.returns
returns c = λ p n.
    c.is_some.ensures ∙ stands-there c.args.number c.args.self.now.pipes c.place_of.result c.place_of.ensures
    ∙ has-is p c.args.number c.args.self.now.pipes n
