use Rattle.std.proofs.Common.{◌≡◌, ℕ, ◌<◌, Result, length, refl, take, sym, ◌∙◌, subst, arith}
use Rattle.std.specs.Io.KnownBytes.{Consumes}
use Rattle.alone.specs.declared.fault.RunFault.{RunFault}
use Rattle.alone.specs.Talks.{IsEnding}
use Rattle.alone.proofs.Answering.{passed}
use Rattle.alone.proofs.Hearing.{Lives, some-bytes, read-none, read-more, live-unread, live-long, live-half, live-cut, live-unflushed, live-ended}
use Rattle.alone.proofs.Told.{tells-all}
use Rattle.alone.proofs.talk.live.Goals as goal

pub loop-reads-init : goal.loop-reads-init
loop-reads-init g c = record {
  room = refl;
  sound = λ sound. sound;
  read = read-none g.R.Inlet.gives (g.H.Hints.may_say c.args.hints.now) c.args.steps c.args.reader.now (g.R.Inlet.remaining c.args.reader.now) (g.W.Outlet.contents c.args.writer.now)
      c.new-talk.result (g.met.R.Inlet.gives_none c.args.reader.now) c.new-talk.ensures;
}

pub loop-reads-preserved : goal.loop-reads-preserved
loop-reads-preserved g c = record {
  room = let same = c.read_some.auto.room in let was = c.loop-reads.invariant.room in omega (arith, same, was);
  sound = λ sound. c.in-Ok-flush_all.ensures.failed;
  read =
      let contents = g.W.Outlet.contents in
      let left = g.R.Inlet.remaining in
      read-more g.R.Inlet.gives (g.H.Hints.may_say c.args.hints.now) c.args.steps c.args.reader.now (g.R.Inlet.remaining c.args.reader.now) (contents c.args.writer.now) g.met.R.Inlet.gives_both
      c.loop-reads.reader c.read_some.new.reader (left c.loop-reads.reader) (left c.read_some.new.reader) (contents c.loop-reads.writer) (contents c.take.new.writer)
      (contents c.hand_on.new.writer) (contents c.flush_all.new.writer) c.loop-reads.talk c.take.new.self c.hand_on.new.self (take c.in-Ok.count c.read_some.new.room) c.loop-reads.reads
      c.loop-reads.invariant.read c.in-Ok.ensures.bytes.0 c.in-Ok.ensures.gives (some-bytes c.in-Ok.count c.read_some.new.room c.in-Ok.ensures.bound c.if-count-eq0.false)
      c.in_ok-take.ensures.hears c.in_ok-hand_on.ensures.puts c.in_ok-hand_on.ensures.same c.in-Ok-flush_all.ensures.bytes;
}

-- the reader failed
pub returns-in_default-clause-converses : goal.returns-in_default-clause-converses
returns-in_default-clause-converses g c =
    let left = g.R.Inlet.remaining in
    live-unread g.R.Inlet.gives (g.H.Hints.may_say c.args.hints.now) c.args.steps c.args.reader.now (g.R.Inlet.remaining c.args.reader.now) (g.W.Outlet.contents c.args.writer.now) g.met.R.Inlet.gives_both
    c.loop-reads.reader c.read_some.new.reader (left c.loop-reads.reader) (left c.read_some.new.reader) (g.W.Outlet.contents c.loop-reads.writer) (g.R.Inlet.failed c.read_some.new.reader)
    c.loop-reads.talk c.loop-reads.reads c.loop-reads.invariant.read c.in_default.ensures.gives c.in_default.ensures.bytes c.in_default.ensures.failed

-- no more came
pub returns-then-count-eq0-clause-converses : goal.returns-then-count-eq0-clause-converses
returns-then-count-eq0-clause-converses g c =
    let left = g.R.Inlet.remaining in
    let none : c.in-Ok.count ≡ 0 = c.if-count-eq0.true in
    let room : 0 < length c.read_some.new.room = let same = c.read_some.auto.room in let was = c.loop-reads.invariant.room in omega (arith, same, was) in
    live-ended g.R.Inlet.gives (g.H.Hints.may_say c.args.hints.now) c.args.steps c.args.reader.now (g.R.Inlet.remaining c.args.reader.now) (g.W.Outlet.contents c.args.writer.now) g.met.R.Inlet.gives_both
    c.loop-reads.reader c.read_some.new.reader (left c.loop-reads.reader) (left c.read_some.new.reader) (g.W.Outlet.contents c.loop-reads.writer) (g.R.Inlet.failed c.read_some.new.reader)
    c.loop-reads.talk c.loop-reads.reads c.end.result c.loop-reads.invariant.read
    (subst (λ (n : ℕ). g.R.Inlet.gives c.loop-reads.reader (take n c.read_some.new.room) c.read_some.new.reader) none c.in-Ok.ensures.gives)
    (subst (λ (n : ℕ). Consumes (left c.loop-reads.reader) (left c.read_some.new.reader) (take n c.read_some.new.room)) none c.in-Ok.ensures.bytes.0)
    (c.in-Ok.ensures.bytes.1 none room) c.in-Ok.ensures.failed c.end.ensures

pub returns-then-count-eq0-clause-tells : goal.returns-then-count-eq0-clause-tells
returns-then-count-eq0-clause-tells g c text whole done =
    let left = g.R.Inlet.remaining in
    let none : c.in-Ok.count ≡ 0 = c.if-count-eq0.true in
    let room : 0 < length c.read_some.new.room = let same = c.read_some.auto.room in let was = c.loop-reads.invariant.room in omega (arith, same, was) in
    tells-all g.R.Inlet.gives (g.H.Hints.may_say c.args.hints.now) c.args.steps c.args.reader.now c.loop-reads.reader (left c.args.reader.now) (left c.loop-reads.reader) (left c.read_some.new.reader)
    (g.W.Outlet.contents c.args.writer.now) (g.W.Outlet.contents c.loop-reads.writer) c.loop-reads.talk c.loop-reads.reads text c.loop-reads.invariant.read whole
    (subst (λ (n : ℕ). Consumes (left c.loop-reads.reader) (left c.read_some.new.reader) (take n c.read_some.new.room)) none c.in-Ok.ensures.bytes.0)
    (c.in-Ok.ensures.bytes.1 none room) (subst (IsEnding c.loop-reads.talk) done c.end.ensures)

-- memory was refused or the writer failed, within the bytes of a read and behind them
pub returns-in_err-take-clause-converses : goal.returns-in_err-take-clause-converses
returns-in_err-take-clause-converses g c =
    let left = g.R.Inlet.remaining in
    let contents = g.W.Outlet.contents in
    let hinting = g.H.Hints.may_say c.args.hints.now in
    let r = c.from_residual.result in
    let e = c.in_err-take.field-0.0 in
    subst (λ (q : Result (Unit {0}) RunFault). Lives g.R.Inlet.gives hinting c.args.steps c.args.reader.now c.read_some.new.reader (left c.args.reader.now) (left c.read_some.new.reader) (g.R.Inlet.failed c.read_some.new.reader) (contents c.args.writer.now) (contents c.take.new.writer) q)
    (sym (passed r e c.from_residual.ensures.1))
    (live-half g.R.Inlet.gives (g.H.Hints.may_say c.args.hints.now) c.args.steps c.args.reader.now (g.R.Inlet.remaining c.args.reader.now) (contents c.args.writer.now) g.met.R.Inlet.gives_both
    c.loop-reads.reader c.read_some.new.reader (left c.loop-reads.reader) (left c.read_some.new.reader) (contents c.loop-reads.writer) (contents c.take.new.writer) (g.R.Inlet.failed c.read_some.new.reader)
    c.loop-reads.talk (take c.in-Ok.count c.read_some.new.room) c.loop-reads.reads e c.loop-reads.invariant.read c.in-Ok.ensures.gives c.in-Ok.ensures.bytes.0 c.in-Ok.ensures.failed c.in_err-take.ensures.stops)

pub returns-in_err-hand_on-clause-converses : goal.returns-in_err-hand_on-clause-converses
returns-in_err-hand_on-clause-converses g c =
    let left = g.R.Inlet.remaining in
    let contents = g.W.Outlet.contents in
    let hinting = g.H.Hints.may_say c.args.hints.now in
    let r = c.from_residual-in_err-hand_on.result in
    subst (λ (q : Result (Unit {0}) RunFault). Lives g.R.Inlet.gives hinting c.args.steps c.args.reader.now c.read_some.new.reader (left c.args.reader.now) (left c.read_some.new.reader) (g.R.Inlet.failed c.read_some.new.reader) (contents c.args.writer.now) (contents c.hand_on.new.writer) q)
    (sym (passed r c.in_err-hand_on.field-0.0 c.from_residual-in_err-hand_on.ensures.1 ∙ c.in_err-hand_on.ensures.write))
    (live-cut g.R.Inlet.gives (g.H.Hints.may_say c.args.hints.now) c.args.steps c.args.reader.now (g.R.Inlet.remaining c.args.reader.now) (contents c.args.writer.now) g.met.R.Inlet.gives_both
    c.loop-reads.reader c.read_some.new.reader (left c.loop-reads.reader) (left c.read_some.new.reader) (contents c.loop-reads.writer) (contents c.take.new.writer) (contents c.hand_on.new.writer) (g.R.Inlet.failed c.read_some.new.reader)
    c.loop-reads.talk c.take.new.self (take c.in-Ok.count c.read_some.new.room) c.loop-reads.reads c.loop-reads.invariant.read c.in-Ok.ensures.gives c.in-Ok.ensures.bytes.0 c.in-Ok.ensures.failed
    c.in_ok-take.ensures.hears c.in_err-hand_on.ensures.cut)

pub returns-in_default-flush_all-clause-converses : goal.returns-in_default-flush_all-clause-converses
returns-in_default-flush_all-clause-converses g c =
    let left = g.R.Inlet.remaining in
    let contents = g.W.Outlet.contents in
    live-unflushed g.R.Inlet.gives (g.H.Hints.may_say c.args.hints.now) c.args.steps c.args.reader.now (g.R.Inlet.remaining c.args.reader.now) (contents c.args.writer.now) g.met.R.Inlet.gives_both
    c.loop-reads.reader c.read_some.new.reader (left c.loop-reads.reader) (left c.read_some.new.reader) (contents c.loop-reads.writer) (contents c.take.new.writer) (contents c.hand_on.new.writer) (contents c.flush_all.new.writer) (g.R.Inlet.failed c.read_some.new.reader)
    c.loop-reads.talk c.take.new.self c.hand_on.new.self (take c.in-Ok.count c.read_some.new.room) c.loop-reads.reads c.loop-reads.invariant.read c.in-Ok.ensures.bytes.0 c.in-Ok.ensures.gives
    (some-bytes c.in-Ok.count c.read_some.new.room c.in-Ok.ensures.bound c.if-count-eq0.false) c.in-Ok.ensures.failed
    c.in_ok-take.ensures.hears c.in_ok-hand_on.ensures.puts c.in_ok-hand_on.ensures.same c.in_default-flush_all.ensures.bytes

-- so many reads
pub returns-clause-converses : goal.returns-clause-converses
returns-clause-converses g c =
    live-long g.R.Inlet.gives (g.H.Hints.may_say c.args.hints.now) c.args.steps c.args.reader.now (g.R.Inlet.remaining c.args.reader.now) (g.W.Outlet.contents c.args.writer.now)
    c.loop-reads.reader (g.R.Inlet.remaining c.loop-reads.reader) (g.W.Outlet.contents c.loop-reads.writer) (g.R.Inlet.failed c.loop-reads.reader)
    c.loop-reads.talk c.loop-reads.reads c.loop-reads.invariant.read c.loop-reads-test.false
