use Rattle.control_words.proofs.Settings.{options_found, options_again, flow_options_found, flow_options_again}
use Rattle.control_words.proofs.options_law.options_are_read.Goals as goal

pub returns-clause-pipe : goal.returns-clause-pipe
returns-clause-pipe c = λ ws d. (options_found ws d, options_again ws d)

pub returns-clause-flow : goal.returns-clause-flow
returns-clause-flow c = λ ws d. (flow_options_found ws d, flow_options_again ws d)
