use Rattle.emu_rules.proofs.CacheFacts.{held-found, held-within, read-path}
use Rattle.emu_rules.proofs.cache.RuleCache.recall.Goals as goal

pub returns-clause-found : goal.returns-clause-found
returns-clause-found c = λ rules start p h at.
    let m = c.args.self.now in
    let place = c.args.place in
    held-found rules m place c.in-Some.path start p h at
    (read-path m.held.items place c.index.result.now c.in-Some.path (held-within m place start p at) c.index.ensures c.in-Some.is)
