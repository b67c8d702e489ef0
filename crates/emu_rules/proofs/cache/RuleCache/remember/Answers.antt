use Rattle.std.proofs.Common.{◌<◌, Some, length, set, refl, sym, ap, ◌∙◌, subst, arith}
use Rattle.emu_model.specs.Rules.{the_rules}
use Rattle.emu_rules.specs.declared.counted.Amount.{Amount}
use Rattle.emu_rules.specs.declared.cache.CachedSearch.{CachedSearch}
use Rattle.emu_rules.specs.Walk.{IsRecounted}
use Rattle.emu_rules.specs.RuleCache.{settled_in}
use Rattle.emu_rules.proofs.Settling.{IsRecounted-settled_by, settled-out}
use Rattle.emu_rules.proofs.CacheFacts.{found-alike, new-true, read-slot}
use Rattle.emu_rules.proofs.cache.RuleCache.remember.Goals as goal

pub returns-clause-same : goal.returns-clause-same
returns-clause-same c =
    let os = c.args.self.now.held.items in
    let k = c.args.place in
    let o = c.index.result.now in
    let within : k < length os = omega (arith, c.args.self.now.held.ok.0) in
    let there = read-slot os k o within c.index.ensures in
    let f : CachedSearch = record {
      age = c.args.self.now.age;
      from = c.args.from;
      proto = c.args.packet.now.proto;
      src = c.args.packet.now.src;
      sport = c.args.packet.now.sport;
      dst = c.args.packet.now.dst;
      dport = c.args.packet.now.dport;
      found = c.args.found;
      counted = c.none.result;
    } in
    ap (settled_in (set os k (Some f))) c.settle_path-emptied.ensures.rules
    ∙ settled-out os k o (Some f) c.args.rules.now there (ap (λ (a : Amount). a.packets) c.none.ensures)

pub returns-clause-rules : goal.returns-clause-rules
returns-clause-rules c =
    subst (IsRecounted c.args.rules.now) (sym c.settle_path-emptied.ensures.rules) (IsRecounted-settled_by c.index.result.now c.args.rules.now)

pub returns-clause-cache : goal.returns-clause-cache
returns-clause-cache c =
    let m = c.args.self.now in
    new-true (the_rules c.args.rules.now) m _ c.args.place _ refl refl refl c.requires.cache
    (record {
      early = omega arith;
      says = λ _. found-alike c.args.from c.args.packet.now _ (the_rules c.args.rules.now) c.args.found
          (record { proto = refl; src = refl; sport = refl; dst = refl; dport = refl }) c.requires.found;
      idle = λ _. ap (λ (a : Amount). a.bytes) c.none.ensures;
    })
    (ap (λ (a : Amount). a.packets) c.none.ensures)
