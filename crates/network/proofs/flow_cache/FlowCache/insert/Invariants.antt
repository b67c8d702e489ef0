use Rattle.std.proofs.Common.{◌+◌, ◌-◌, List}
use Rattle.std.specs.Prelude.{length}
use Rattle.emu_model.specs.Rules.{Counted}
use Rattle.pipe_core.specs.Keyed.{KeyedPipe}
use Rattle.sources.specs.Standing.{Heads}
use Rattle.network.specs.FlowCache.{AreKnown}
use Rattle.network.proofs.flow_cache.FlowCache.insert.Given as goal

abbrev pub invariant-loop-self : goal.invariant-loop-self
invariant-loop-self l = (cs : List Counted) (ps : List KeyedPipe) (h : Heads) → AreKnown cs ps h l.initial.self-inside.lines.items → AreKnown cs ps h l.self-inside.lines.items

abbrev pub decreases-loop-self : goal.decreases-loop-self
decreases-loop-self l = l.line + 1 - length l.self-inside.lines.items
