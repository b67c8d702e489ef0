-- The walk over the words of a line, up to the first faulty one.
use Rattle.std.specs.Prelude.{ℕ, ◌+◌, Bool, true, false, List, [], ◌∷◌, Option, Some, None, if◌then◌else◌}
use Rattle.control_words.specs.Words.{Words}
use Rattle.control.specs.declared.word_fault.Check.{Check}
use Rattle.control.specs.declared.word_fault.Blamed.{Blamed}
use Rattle.control.specs.declared.value.Value.{Value}
use Rattle.control.specs.declared.expected.Expected.{Expected}
use Rattle.control.specs.declared.expected.Expected.TheVariants.{Header, Rule, Pipe, Flow, End}
use Rattle.control.specs.declared.expected.HeaderWord.TheVariants as header
use Rattle.control.specs.declared.expected.RuleWord.TheVariants as rule
use Rattle.control.specs.declared.expected.PipeWord.TheVariants as pipe
use Rattle.control.specs.declared.expected.FlowWord.TheVariants as flow
use Rattle.control.specs.Forms.{fits}
use Rattle.control.specs.Values.{value_at}
use Rattle.control.specs.Choices.{chosen}

-- whether a line may end there
abbrev pub may_end : Expected → Bool
may_end End = true
may_end (Header header.StepsWord) = true
may_end (Rule rule.LastPorts) = true
may_end (Pipe (pipe.Setting seen)) = true
may_end (Pipe (pipe.Fields seen fields)) = true
may_end (Pipe (pipe.Times seen times)) = true
may_end (Flow (flow.Setting seen)) = true
may_end _ = false

-- what is expected after a word, if the word fits
abbrev pub next_of : Check → Option Value → List ℕ → Option Expected
next_of check None word = None
next_of check (Some value) word = if fits check value.form word then Some value.next else None

abbrev pub or_else : Option Expected → Option Expected → Option Expected
or_else None other = other
or_else (Some next) other = Some next

unfoldable pub next : Check → Expected → List ℕ → Option Expected
next check expected word = or_else (chosen expected word) (next_of check (value_at expected) word)

abbrev pub or_blame : {R : Type 0} → Option Expected → (Expected → R) → R → R
or_blame None go stop = stop
or_blame (Some next) go stop = go next

-- the first faulty word of these, the first of which has this number
abbrev pub walk : Check → ℕ → Expected → Words → Option Blamed
walk check index expected [] = if may_end expected then None else Some (record { index = index; expected = expected })
walk check index expected (word ∷ words) = or_blame (next check expected word) (λ e. walk check (index + 1) e words) (Some (record { index = index; expected = expected }))
