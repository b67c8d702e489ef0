use Rattle.std.proofs.Common.{ℕ, arith, rules}
use Rattle.control.specs.Builder.{sofar}
use Rattle.control.proofs.LinesWalk.{holds_first, holds_next, line_fails, is_cut, has_no_end, is_done, is_too_big}
use Rattle.control.proofs.Ranged.{is-scenario}
use Rattle.control.proofs.reading.read_all.Goals as goal

pub returns-then-bytes-gt-MAX_BYTES : goal.returns-then-bytes-gt-MAX_BYTES
returns-then-bytes-gt-MAX_BYTES c = rw c.fault_at.ensures (is_too_big c.args.bytes.now (omega arith))

pub loop-line-init : goal.loop-line-init
loop-line-init c = record { holds = holds_first c.args.bytes.now c.new.result.items c.new.ensures.items; count = omega arith }

pub returns-in-Err : goal.returns-in-Err
returns-in-Err c = rw c.at_line.ensures (line_fails ℕ c.loop-line.number (sofar c.loop-line.builder) (sofar c.take_line.new.self) c.loop-line.rest.now c.in-Some.line.now c.in-Some.after.now c.args.bytes.now c.in-Err.error (omega arith) c.in-Some.ensures.value c.loop-line.invariant.holds c.in-Err.ensures)

pub loop-line-smaller : goal.loop-line-smaller
loop-line-smaller c = c.in-Some.ensures.shorter

pub loop-line-preserved : goal.loop-line-preserved
loop-line-preserved c = record {
  holds = holds_next c.loop-line.number (sofar c.loop-line.builder) (sofar c.take_line.new.self) c.loop-line.rest.now c.in-Some.line.now c.in-Some.after.now c.args.bytes.now c.in-Some.ensures.value c.loop-line.invariant.holds c.in-Ok.ensures;
  count = omega (arith, c.in-Some.ensures.shorter);
}

pub returns-then-not-is_empty : goal.returns-then-not-is_empty
returns-then-not-is_empty c = rw c.fault_at-then-not-is_empty.ensures (is_cut c.loop-line.number (sofar c.loop-line.builder) c.loop-line.rest.now c.args.bytes.now (omega arith) c.in_default.ensures.value c.loop-line.invariant.holds (search rules))

pub returns-then-is_some : goal.returns-then-is_some
returns-then-is_some c = rw c.fault_at-then-is_some.ensures (has_no_end c.loop-line.number (sofar c.loop-line.builder) c.loop-line.rest.now c.args.bytes.now (omega arith) c.in_default.ensures.value c.loop-line.invariant.holds (search rules) (search rules))

pub new-scenario-requires : goal.new-scenario-requires
new-scenario-requires c = is-scenario c.args.bytes.now c.loop-line.builder.done.items (is_done c.loop-line.number (sofar c.loop-line.builder) c.loop-line.rest.now c.args.bytes.now (omega arith) c.in_default.ensures.value c.loop-line.invariant.holds (search rules) (search rules)).found

pub returns : goal.returns
returns c = rw c.new-scenario.ensures (is_done c.loop-line.number (sofar c.loop-line.builder) c.loop-line.rest.now c.args.bytes.now (omega arith) c.in_default.ensures.value c.loop-line.invariant.holds (search rules) (search rules))
