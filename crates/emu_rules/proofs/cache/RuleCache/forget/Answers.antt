use Rattle.emu_rules.proofs.Settling.{settled-idle}
use Rattle.emu_rules.proofs.cache.RuleCache.forget.Goals as goal

pub returns-in-Some-clause-same : goal.returns-in-Some-clause-same
returns-in-Some-clause-same c = λ cs before h none. settled-idle c.args.self.now.held.items cs (h.idle none)
