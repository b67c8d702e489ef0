-- The parser of options and their grammar agree.
use Rattle.std.specs.Prelude.{◌≡◌, Some}
use Rattle.control_words.specs.Words.{Words}
use Rattle.control_words.specs.Options.{options_of, flow_options_of}
use Rattle.control_words.specs.Grammar.{AreOptions, AreFlowOptions}
use Rattle.control_words.specs.declared.raw_options.RawConfig.{RawConfig}
use Rattle.control_words.specs.declared.raw_options.RawFlowOptions.{RawFlowOptions}

-- words are parsed as these options of a pipe exactly if they are these options by the grammar
abbrev pub OptionsAreRead : Type 0
OptionsAreRead = (ws : Words) (config : RawConfig) → (options_of ws ≡ Some config → AreOptions ws config) × (AreOptions ws config → options_of ws ≡ Some config)

-- words are parsed as these options of a flow exactly if they are these options by the grammar
abbrev pub FlowOptionsAreRead : Type 0
FlowOptionsAreRead = (ws : Words) (options : RawFlowOptions) → (flow_options_of ws ≡ Some options → AreFlowOptions ws options) × (AreFlowOptions ws options → flow_options_of ws ≡ Some options)
