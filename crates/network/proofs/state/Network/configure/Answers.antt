use Rattle.std.proofs.Common.{sym, ap, ◌∙◌}
use Rattle.emu_model.specs.declared.commands.Command.TheVariants.{Config}
use Rattle.emu_model.specs.Commands.{config_refusal}
use Rattle.emu_model.specs.Step.{setting}
use Rattle.network.specs.contracts.state.Network.{the_view}
use Rattle.network.specs.Kept.{net_of}
use Rattle.network.proofs.Steps.{obeys_view}
use Rattle.network.proofs.Obeying.{config-done, config-refused, none-there}
use Rattle.pipe_table.specs.Table.{refusal_in}
use Rattle.network.proofs.state.Network.configure.Goals as goal

pub returns-in-Ok-clause-ok : goal.returns-in-Ok-clause-ok
returns-in-Ok-clause-ok c =
    obeys_view (setting c.args.spec.now c.args.now) c.args.number (Config c.args.pipe c.args.config.now) (the_view c.self.inside) _ _ c.self.view_is
    (config-done (setting c.args.spec.now c.args.now) c.args.number (the_view c.self.inside) _ c.args.pipe c.args.config.now c.configure.new.self c.in-Ok.ensures.ok c.in-Ok.ensures.refusal c.configure.ensures.keys c.configure.ensures.seed c.note_done.ensures)

pub returns-in-Err-Refused-clause-ok : goal.returns-in-Err-Refused-clause-ok
returns-in-Err-Refused-clause-ok c =
    obeys_view (setting c.args.spec.now c.args.now) c.args.number (Config c.args.pipe c.args.config.now) (the_view c.self.inside) _ _ c.self.view_is
    (config-refused (setting c.args.spec.now c.args.now) c.args.number (the_view c.self.inside) _ c.args.pipe c.args.config.now c.configure.new.self c.in-Err-Refused.refusal c.in-Err-Refused.ensures.err (λ p m. c.in-Err-Refused.ensures.refusal p m ∙ ap refusal_in c.in-Err-Refused.field-0-is) c.refuse.ensures)

pub returns-in-Err-NoMemory-clause-succeeds : goal.returns-in-Err-NoMemory-clause-succeeds
returns-in-Err-NoMemory-clause-succeeds c = λ p some.
    absurd (none-there (config_refusal c.args.pipe c.args.config.now (net_of p c.args.self.now))
    (ap (λ v. config_refusal c.args.pipe c.args.config.now (net_of p v)) (sym c.self.view_is)
    ∙ c.in-Err-NoMemory.ensures.refusal p (net_of p (the_view c.self.inside)) ∙ ap refusal_in c.in-Err-NoMemory.field-0-is) some)
