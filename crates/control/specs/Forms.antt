-- The form of a word, and the range of its number.
use Rattle.std.specs.Prelude.{ℕ, Bool, true, false, List, Option, Some, None}
use Rattle.std.specs.Option.{is_some}
use Rattle.std.specs.Str.{bytes_eq}
use lib.Chars.{codes}
use Rattle.control_words.specs.Numbers.{number_of, rate_of, delay_of, queue_of, time_of, fraction_of, hex_of, timing_of, moment_of}
use Rattle.control_words.specs.Addresses.{protocol_of, match_of, address_of, prefix_of, ports_of, name_of}
use Rattle.control_lines.specs.Ranges.{within, address_within, prefix_within, span_within, queue_within, timing_within}
use Rattle.control.specs.declared.word_fault.Check.{Check}
use Rattle.control.specs.declared.word_fault.Check.TheVariants as checks
use Rattle.control.specs.declared.form.Keyword.{Keyword}
use Rattle.control.specs.declared.form.Keyword.TheVariants as keywords
use Rattle.control.specs.declared.form.Form.{Form}
use Rattle.control.specs.declared.form.Form.TheVariants as forms

-- `is_so` if the check covers ranges, and true if it covers only forms
abbrev pub asked : Check → Bool → Bool
asked checks.Forms is_so = true
asked checks.Ranges is_so = is_so

-- whether the word has a value, for which `is_so` is true if the check covers ranges
abbrev pub holds : {A : Type 0} → Check → Option A → (A → Bool) → Bool
holds check None is_so = false
holds check (Some a) is_so = asked check (is_so a)

abbrev pub spelling : Keyword → List ℕ
spelling keywords.Seed = codes "seed"
spelling keywords.Budget = codes "budget"
spelling keywords.Steps = codes "steps"
spelling keywords.From = codes "from"
spelling keywords.To = codes "to"
spelling keywords.Config = codes "config"
spelling keywords.Count = codes "count"
spelling keywords.Gap = codes "gap"
spelling keywords.Smss = codes "smss"
spelling keywords.Segments = codes "segments"

abbrev pub number_in : Check → Option ℕ → ℕ → ℕ → Bool
number_in check number low high = holds check number (λ n. is_some (within n low high))

abbrev pub fits : Check → Form → List ℕ → Bool
fits check (forms.Word keyword) word = bytes_eq word (spelling keyword)
fits check (forms.Number low high) word = number_in check (number_of word) low high
fits check forms.Segment word = number_in check (number_of word) 64 1460
fits check forms.Window word = number_in check (number_of word) 1 65535
fits check forms.Moment word = number_in check (moment_of word) 0 1000000000000000
fits check forms.Name word = is_some (name_of word)
fits check forms.Protocol word = is_some (protocol_of word)
fits check forms.ProtocolMatch word = is_some (match_of word)
fits check forms.Address word = holds check (address_of word) (λ a. is_some (address_within a))
fits check forms.Prefix word = holds check (prefix_of word) (λ p. is_some (prefix_within p))
fits check forms.Ports word = holds check (ports_of word) (λ p. is_some (span_within p))
fits check forms.Rate word = number_in check (rate_of word) 0 10000000000
fits check forms.Delay word = number_in check (delay_of word) 0 60000
fits check forms.Queue word = holds check (queue_of word) (λ q. is_some (queue_within (Some q)))
fits check forms.Fraction word = number_in check (fraction_of word) 0 1000000
fits check forms.Time word = number_in check (time_of word) 1000 60000000000
fits check forms.Timing word = holds check (timing_of word) (λ t. is_some (timing_within (Some t)))
fits check forms.Field8 word = number_in check (hex_of 8 word) 0 4294967295
fits check forms.Field4 word = number_in check (hex_of 4 word) 0 65535
fits check forms.Field2 word = number_in check (hex_of 2 word) 0 255
