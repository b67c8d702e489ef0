use Rattle.std.proofs.Common.{ap, ◌∙◌}
use Rattle.alone.proofs.Answering.{on_err, passed}
use Rattle.alone.proofs.Talking.{parted}
use Rattle.alone.proofs.Hearing.{taken-none, taken-line, taken-rest, taken-handed, half-refused-by, half-unwritten-by}
use Rattle.alone.proofs.talk.Talk.take.Goals as goal

pub end_line-requires : goal.end_line-requires
end_line-requires g c = (parted c.loop-line.rest.now c.in-Some.line.now c.in-Some.after.now c.in-Some.ensures.value).1

pub loop-line-init : goal.loop-line-init
loop-line-init g c = record {
  taken = taken-none (g.H.Hints.may_say c.args.hints.now) (g.W.Outlet.contents c.args.writer.now) c.args.self.now c.args.bytes.now;
  sound = λ sound. sound;
}

pub loop-line-preserved-in_ok-hand_on : goal.loop-line-preserved-in_ok-hand_on
loop-line-preserved-in_ok-hand_on g c =
    let part = parted c.loop-line.rest.now c.in-Some.line.now c.in-Some.after.now c.in-Some.ensures.value in
    let contents = g.W.Outlet.contents in
    let hinting = g.H.Hints.may_say c.args.hints.now in
    record {
      taken = taken-handed hinting (contents c.args.writer.now) (contents c.loop-line.writer) (contents c.hand_on.new.writer) c.args.self.now c.end_line.new.self c.hand_on.new.self c.args.bytes.now c.in-Some.after.now
          (taken-line hinting (contents c.args.writer.now) (contents c.loop-line.writer) c.args.self.now c.loop-line.self c.end_line.new.self c.args.bytes.now c.loop-line.rest.now c.in-Some.line.now c.in-Some.after.now
          c.loop-line.invariant.taken part.0 c.in_ok-end_line.ensures.hears)
          c.in_ok-hand_on.ensures.puts c.in_ok-hand_on.ensures.same;
      sound = λ sound. c.in_ok-hand_on.ensures.failed (c.loop-line.invariant.sound sound);
    }

pub loop-line-preserved : goal.loop-line-preserved
loop-line-preserved g c =
    let part = parted c.loop-line.rest.now c.in-Some.line.now c.in-Some.after.now c.in-Some.ensures.value in
    let contents = g.W.Outlet.contents in
    record {
      taken = taken-line (g.H.Hints.may_say c.args.hints.now) (contents c.args.writer.now) (contents c.loop-line.writer) c.args.self.now c.loop-line.self c.end_line.new.self c.args.bytes.now c.loop-line.rest.now c.in-Some.line.now c.in-Some.after.now
          c.loop-line.invariant.taken part.0 c.in_ok-end_line.ensures.hears;
      sound = c.loop-line.invariant.sound;
    }

pub returns-clause-hears : goal.returns-clause-hears
returns-clause-hears g c =
    taken-rest (g.H.Hints.may_say c.args.hints.now) (g.W.Outlet.contents c.args.writer.now) (g.W.Outlet.contents c.loop-line.writer) c.args.self.now c.loop-line.self c.add.new.self c.args.bytes.now c.loop-line.rest.now
    c.add.result c.loop-line.invariant.taken c.add.ensures.hears

pub returns-clause-stops : goal.returns-clause-stops
returns-clause-stops g c =
    half-refused-by (g.H.Hints.may_say c.args.hints.now) (g.W.Outlet.contents c.args.writer.now) (g.W.Outlet.contents c.loop-line.writer) c.args.self.now c.loop-line.self c.args.bytes.now c.loop-line.rest.now
    c.add.result c.loop-line.invariant.taken c.add.ensures.memory

pub returns-in_err-end_line-clause-stops : goal.returns-in_err-end_line-clause-stops
returns-in_err-end_line-clause-stops g c =
    let r = c.from_residual.result in
    half-refused-by (g.H.Hints.may_say c.args.hints.now) (g.W.Outlet.contents c.args.writer.now) (g.W.Outlet.contents c.loop-line.writer) c.args.self.now c.loop-line.self c.args.bytes.now c.loop-line.rest.now
    r c.loop-line.invariant.taken (on_err r (passed r c.in_err-end_line.field-0.0 c.from_residual.ensures.1 ∙ c.in_err-end_line.ensures.memory))

pub returns-in_err-hand_on-clause-stops : goal.returns-in_err-hand_on-clause-stops
returns-in_err-hand_on-clause-stops g c =
    let part = parted c.loop-line.rest.now c.in-Some.line.now c.in-Some.after.now c.in-Some.ensures.value in
    let contents = g.W.Outlet.contents in
    let hinting = g.H.Hints.may_say c.args.hints.now in
    let r = c.from_residual-in_err-hand_on.result in
    half-unwritten-by hinting (contents c.args.writer.now) (contents c.loop-line.writer) (contents c.hand_on.new.writer) c.args.self.now c.end_line.new.self c.args.bytes.now c.in-Some.after.now r
    (taken-line hinting (contents c.args.writer.now) (contents c.loop-line.writer) c.args.self.now c.loop-line.self c.end_line.new.self c.args.bytes.now c.loop-line.rest.now c.in-Some.line.now c.in-Some.after.now
    c.loop-line.invariant.taken part.0 c.in_ok-end_line.ensures.hears)
    (on_err r c.in_err-hand_on.ensures.cut) (on_err r (passed r c.in_err-hand_on.field-0.0 c.from_residual-in_err-hand_on.ensures.1 ∙ c.in_err-hand_on.ensures.write))
