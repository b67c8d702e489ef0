use Rattle.std.proofs.Common.{refl, ap, ◌∙◌, ◌+◌, arith}
use Rattle.emu_rules.specs.RuleCache.{settled_in}
use Rattle.emu_rules.proofs.Settling.{settled-push}
use Rattle.emu_rules.proofs.CacheFacts.{AreTrueOf-push}
use Rattle.emu_rules.proofs.cache.RuleCache.make_places.Goals as goal

pub loop-preserved : goal.loop-preserved
loop-preserved c =
    let items = c.push_reserved.ensures.items in
    record {
      kept = λ rules h. AreTrueOf-push rules c.loop.self _ items refl refl (c.loop.invariant.kept rules h);
      same = λ cs. ap (λ os. settled_in os cs) items ∙ settled-push c.loop.self.held.items cs ∙ c.loop.invariant.same cs;
      len = c.push_reserved.ensures.len ∙ ap (λ n. n + 1) c.loop.invariant.len;
      room = omega (arith, c.push_reserved.ensures.capacity, c.loop.invariant.room);
    }
