use Rattle.std.proofs.Common.{◌<◌, length, set, refl, sym, ap, ◌∙◌, subst, arith}
use Rattle.std.specs.Prelude.{All}
use Rattle.std.proofs.lemmas.List.Elements.{AllWithin-more_set}
use Rattle.emu_model.specs.Rules.{the_rules}
use Rattle.emu_rules.specs.Walk.{AreJumps, IsRecounted}
use Rattle.emu_rules.specs.RuleCache.{IsIdle, emptied, settled_in}
use Rattle.emu_rules.proofs.Recounted.{IsRecounted-then, rules-recounted}
use Rattle.emu_rules.proofs.Settling.{IsRecounted-settled_by, settled-idle, settled-out}
use Rattle.emu_rules.proofs.CacheFacts.{emptied-idle, read-slot, settled-true}
use Rattle.emu_rules.proofs.cache.RuleCache.settle.Goals as goal

pub returns-then-not-self-clause-rules : goal.returns-then-not-self-clause-rules
returns-then-not-self-clause-rules c =
    sym (settled-idle c.args.self.now.held.items c.args.rules.now (c.requires.cache.idle c.if-not-self.true))

pub returns-then-not-self-clause-none : goal.returns-then-not-self-clause-none
returns-then-not-self-clause-none c = λ cs.
    settled-idle c.args.self.now.held.items cs (c.requires.cache.idle c.if-not-self.true)

pub settle_path-path-requires : goal.settle_path-path-requires
settle_path-path-requires c =
    subst (λ rs. AreJumps rs c.args.jumps.now) (sym (rules-recounted c.args.rules.now c.loop-place.rules c.loop-place.invariant.recounted)) c.requires.jumps

pub loop-place-preserved : goal.loop-place-preserved
loop-place-preserved c =
    let m = c.loop-place.self in
    let os = m.held.items in
    let k = c.loop-place.place in
    let o = c.index.result.now in
    let cs = c.loop-place.rules in
    let within : k < length os = omega (arith, m.held.ok.0, c.loop-place.invariant.len, c.len-place-end.ensures, c.loop-place-test.true) in
    let there = read-slot os k o within c.index.ensures in
    let is = c.settle_path-path.ensures.path in
    record {
      len = c.loop-place.invariant.len;
      same =
          ap (λ x. settled_in (set os k x) c.settle_path-path.new.rules) is
          ∙ ap (settled_in (set os k (emptied o))) c.settle_path-path.ensures.rules
          ∙ settled-out os k o (emptied o) cs there (emptied-idle o)
          ∙ c.loop-place.invariant.same;
      recounted = IsRecounted-then c.args.rules.now cs c.settle_path-path.new.rules c.loop-place.invariant.recounted
          (subst (IsRecounted cs) (sym c.settle_path-path.ensures.rules) (IsRecounted-settled_by o cs));
      cache = settled-true (the_rules c.args.rules.now) m _ k o (ap (set os k) is) refl refl c.loop-place.invariant.cache there;
      done = AllWithin-more_set os k c.settle_path-path.result within IsIdle c.loop-place.invariant.done (subst IsIdle (sym is) (emptied-idle o));
    }

pub returns-clause-rules : goal.returns-clause-rules
returns-clause-rules c =
    let m = c.loop-place.self in
    let i = c.loop-place.invariant in
    let idle : All IsIdle m.held.items = λ k d h. i.done k d (omega arith) (omega (arith, h, m.held.ok.0, i.len, c.len-place-end.ensures, c.loop-place-test.false)) in
    sym (settled-idle m.held.items c.loop-place.rules idle) ∙ i.same

pub returns-clause-none : goal.returns-clause-none
returns-clause-none c = λ cs.
    let m = c.loop-place.self in
    let i = c.loop-place.invariant in
    let idle : All IsIdle m.held.items = λ k d h. i.done k d (omega arith) (omega (arith, h, m.held.ok.0, i.len, c.len-place-end.ensures, c.loop-place-test.false)) in
    settled-idle m.held.items cs idle
