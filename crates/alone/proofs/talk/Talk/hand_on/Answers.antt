use Rattle.std.proofs.Common.{ap, ◌∙◌, subst}
use Rattle.std.specs.Io.KnownBytes.{Appends}
use Rattle.alone.specs.Talks.{KeptTalk}
use Rattle.alone.proofs.Writing.{puts_out}
use Rattle.alone.proofs.talk.Talk.hand_on.Goals as goal

pub returns-clause-puts : goal.returns-clause-puts
returns-clause-puts g c =
    puts_out _ _ c.args.self.now.out (subst (λ l. Appends (g.W.Outlet.contents c.args.writer.now) (g.W.Outlet.contents c.write_all.new.writer) l)
    (c.as_slice.ensures.value ∙ ap (λ (t : KeptTalk). t.out) c.self.view_is) c.in-Ok.ensures.bytes)
