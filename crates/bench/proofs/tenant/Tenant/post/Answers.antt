use Rattle.std.proofs.Common.{◌≡◌, false, sym, ap, ◌∙◌}
use Rattle.emu_model.specs.Commands.{has_end}
use Rattle.bench.proofs.Postings.{last_moment-push, has_end-push}
use Rattle.bench.proofs.tenant.Tenant.post.Goals as goal

pub invariant_of-self-in-Ok-clause-latest : goal.invariant_of-self-in-Ok-clause-latest
invariant_of-self-in-Ok-clause-latest c = rw (c.push_reserved.ensures.items) (sym (last_moment-push 0 c.reserve.new.self.items c.args.command))

pub invariant_of-self-in-Ok-clause-closes : goal.invariant_of-self-in-Ok-clause-closes
invariant_of-self-in-Ok-clause-closes c =
    let none : has_end c.reserve.new.self.items ≡ false = ap has_end c.reserve.ensures.items ∙ sym c.args.self.now.closes ∙ c.if-self.false in
    c.is_end_command-self.ensures ∙ sym (ap has_end c.push_reserved.ensures.items ∙ has_end-push c.reserve.new.self.items c.args.command none)
