use Rattle.std.proofs.Common.{Some, ap, ◌∙◌, set, arith}
use Rattle.emu_model.specs.Rules.{the_rules}
use Rattle.emu_rules.specs.declared.cache.CachedSearch.{CachedSearch}
use Rattle.emu_rules.specs.RuleCache.{settled_in}
use Rattle.emu_rules.proofs.CacheFacts.{held-found, held-path, held-true, held-within, read-path}
use Rattle.emu_rules.proofs.Settling.{settled-more}
use Rattle.emu_rules.proofs.cache.RuleCache.count.Goals as goal

pub returns-then-path-clause-found : goal.returns-then-path-clause-found
returns-then-path-clause-found c = λ rules start h at.
    let m = c.args.self.now in
    let place = c.args.place in
    let p = c.args.packet.now in
    held-found rules m place c.in-Some.path start p h at
    (read-path m.held.items place c.index.result.now c.in-Some.path (held-within m place start p at) c.index.ensures c.in-Some.is)

pub index_mut-requires : goal.index_mut-requires
index_mut-requires c =
    let m = c.args.self.now in
    omega (arith, m.held.ok.0, held-within m c.args.place c.requires.0 c.args.packet.now c.requires.1)

pub returns-clause-found : goal.returns-clause-found
returns-clause-found c = λ rules start h at.
    let m = c.args.self.now in
    let place = c.args.place in
    let p = c.args.packet.now in
    held-found rules m place c.in-Some.path start p h at
    (read-path m.held.items place c.index.result.now c.in-Some.path (held-within m place start p at) c.index.ensures c.in-Some.is)

pub returns-clause-counted : goal.returns-clause-counted
returns-clause-counted c = λ alone cs start h at.
    let m = c.args.self.now in
    let place = c.args.place in
    let p = c.args.packet.now in
    let f = c.in-Some.path in
    let there = read-path m.held.items place c.index.result.now f (held-within m place start p at) c.index.ensures c.in-Some.is in
    ap (λ (f : CachedSearch). settled_in (set m.held.items place (Some f)) cs) c.with_packet.ensures
    ∙ settled-more m.held.items place f m.age start p cs there (held-true (the_rules cs) m place f h there).idle (held-path m place f start p at there)
