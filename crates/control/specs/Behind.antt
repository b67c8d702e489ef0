-- The next faulty word after a faulty one.
use Rattle.std.specs.Prelude.{◌+◌, drop, length, Option, Some, None, nat_lt, if◌then◌else◌}
use Rattle.control_words.specs.Words.{Words}
use Rattle.control.specs.declared.word_fault.Behind.{Behind}
use Rattle.control.specs.declared.word_fault.Behind.TheVariants.{Fine, Fault, Unsure}
use Rattle.control.specs.declared.word_fault.Blamed.{Blamed}
use Rattle.control.specs.declared.word_fault.Check.TheVariants.{Ranges}
use Rattle.control.specs.declared.form.Form.{Form}
use Rattle.control.specs.declared.form.Form.TheVariants as forms
use Rattle.control.specs.declared.value.Value.{Value}
use Rattle.control.specs.declared.expected.Expected.{Expected}
use Rattle.control.specs.Values.{value_at}
use Rattle.control.specs.Walk.{walk}

-- what is expected after a word that is not a keyword
abbrev pub past : Form → Expected → Option Expected
past (forms.Word keyword) next = None
past _ next = Some next

abbrev pub past_value : Option Value → Option Expected
past_value None = None
past_value (Some value) = past value.form value.next

abbrev pub value_behind : Expected → Option Expected
value_behind expected = past_value (value_at expected)

abbrev pub if_value : Option Expected → Blamed → Behind
if_value None b = Unsure
if_value (Some next) b = Fault b

abbrev pub found : Option Blamed → Behind
found None = Fine
found (Some b) = if_value (value_behind b.expected) b

abbrev pub behind_value : Words → Blamed → Option Expected → Behind
behind_value ws b None = Unsure
behind_value ws b (Some next) = found (walk Ranges (b.index + 1) next (drop (b.index + 1) ws))

-- after a faulty value, the walk continues as after a value that fits
unfoldable pub behind : Words → Blamed → Behind
behind ws b = if nat_lt b.index (length ws) then behind_value ws b (value_behind b.expected) else Unsure
