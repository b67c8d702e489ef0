use Rattle.std.proofs.Common.{arith}
use Rattle.timer_wheel.proofs.MoveFacts.{gather_more, gathered_slots, gathered_least, gathered_none, fewer_put}
use Rattle.timer_wheel.proofs.wheel.gather.Goals as goal

pub loop-key-smaller : goal.loop-key-smaller
loop-key-smaller c = fewer_put c.loop-key.stock c.put.new.self c.in-Some.key c.args.from 2049 c.put.ensures (λ e. omega (arith, c.requires)) c.in-Some.ensures.some

pub loop-key-preserved : goal.loop-key-preserved
loop-key-preserved c =
    gather_more c.args.from c.args.stock.now c.loop-key.stock c.put.new.self c.loop-key.least c.in-Some.key c.entry-entry.result c.lesser_of.result c.requires c.reveal_invariant.ensures c.loop-key.invariant
    c.in-Some.ensures.some c.entry-entry.ensures (record { either = c.lesser_of.ensures.either; entry = c.lesser_of.ensures.entry; least_too = c.lesser_of.ensures.least }) c.put.ensures

pub returns-clause-slots : goal.returns-clause-slots
returns-clause-slots c = gathered_slots c.args.from c.args.stock.now c.loop-key.stock c.loop-key.least c.loop-key.invariant c.in_default.ensures.none

pub returns-clause-least : goal.returns-clause-least
returns-clause-least c = gathered_least c.args.from c.args.stock.now c.loop-key.stock c.loop-key.least c.loop-key.invariant c.in_default.ensures.none

pub returns-clause-none : goal.returns-clause-none
returns-clause-none c = gathered_none c.args.from c.args.stock.now c.loop-key.stock c.loop-key.least c.requires c.reveal_invariant.ensures c.loop-key.invariant c.in_default.ensures.none
