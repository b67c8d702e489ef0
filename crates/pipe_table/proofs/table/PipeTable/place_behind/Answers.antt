use Rattle.std.proofs.Common.{◌≡◌, ℕ, List, length, Option, Some, None, ap, ◌∙◌, position, arith}
use Rattle.std.specs.Prelude.{unwrap_or}
use Rattle.std.specs.List.{position_or_len}
use Rattle.pipe_core.specs.Keyed.{KeyedPipe}
use Rattle.pipe_table.specs.Table.{Table, is_above}
use Rattle.pipe_table.proofs.Splits.{position-len, none-len}
use Rattle.pipe_table.proofs.At.{place-fits}
use Rattle.pipe_table.proofs.table.PipeTable.place_behind.Goals as goal

stands-behind : (k : ℕ) (ps : List KeyedPipe) (o : Option ℕ) → o ≡ position (is_above k) ps → unwrap_or o (length ps) ≡ position_or_len (is_above k) ps
stands-behind k ps None e = none-len (is_above k) ps (place-fits k ps) e
stands-behind k ps (Some i) e = position-len (is_above k) ps i e

pub returns : goal.returns
returns c =
    let long : c.len.result ≡ length c.args.self.now.pipes =
    omega (arith, c.len.ensures, c.self.inside.pipes.ok.0, ap (λ (t : Table). length t.pipes) c.self.view_is) in
    c.unwrap_or.ensures ∙ ap (unwrap_or c.place_above.result) long
    ∙ stands-behind c.args.number c.args.self.now.pipes c.place_above.result c.place_above.ensures
