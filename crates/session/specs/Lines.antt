-- The lines of answers (our choice).
use Rattle.std.specs.Prelude.{ℕ, List, [], ◌∷◌, ◌++◌, codes, decimal, Option, Some, None}
use Rattle.control.specs.declared.fault.Cause.{Cause}
use Rattle.control.specs.declared.fault.Cause.TheVariants as causes
use Rattle.control_words.specs.Text.{lines}
use Rattle.session.specs.declared.answer.Answer.{Answer}
use Rattle.session.specs.declared.answer.Answer.TheVariants as answers

-- the word for a cause, as in a fault of a scenario
abbrev pub cause_word : Cause → List ℕ
cause_word causes.TooBig = codes "toobig"
cause_word causes.Cut = codes "cut"
cause_word causes.TooLong = codes "toolong"
cause_word causes.BadByte = codes "badbyte"
cause_word causes.BadWord = codes "badword"
cause_word causes.OutOfRange = codes "outofrange"
cause_word causes.NoEnd = codes "noend"
cause_word causes.TooMany = codes "toomany"
cause_word causes.SameName = codes "samename"
cause_word causes.NoExperiment = codes "noexperiment"
cause_word causes.AfterEnd = codes "afterend"
cause_word causes.Backwards = codes "backwards"

abbrev pub answer_words : Answer → List ℕ
answer_words answers.Done = codes "ok"
answer_words (answers.Packet n) = codes "packet " ++ decimal n
answer_words (answers.Refused n) = codes "refused " ++ decimal n
answer_words (answers.Now n) = codes "now " ++ decimal n
answer_words (answers.Next (Some n)) = codes "next " ++ decimal n
answer_words (answers.Next None) = codes "next none"
answer_words (answers.Over n) = codes "over " ++ decimal n
answer_words (answers.Fault c) = codes "fault " ++ cause_word c

abbrev pub answer_line : Answer → List ℕ
answer_line a = codes "#< " ++ (answer_words a ++ codes "\n")

-- two answers in one line
abbrev pub answer_both : Answer → Answer → List ℕ
answer_both a b = codes "#< " ++ (answer_words a ++ (codes " " ++ (answer_words b ++ codes "\n")))

abbrev pub answer_with : Answer → Option Answer → List ℕ
answer_with a None = answer_line a
answer_with a (Some b) = answer_both a b

-- the cause in an answer, if the answer is a fault
abbrev pub fault_of : Answer → Option Cause
fault_of (answers.Fault cause) = Some cause
fault_of _ = None

-- a text as comments, one for each of its lines
abbrev pub comment_line : List ℕ → List ℕ
comment_line line = codes "# " ++ (line ++ codes "\n")

abbrev pub comments : List (List ℕ) → List ℕ
comments [] = []
comments ([] ∷ []) = []
comments ((c ∷ cs) ∷ []) = comment_line (c ∷ cs)
comments (line ∷ next ∷ rest) = comment_line line ++ comments (next ∷ rest)

abbrev pub comment_of : List ℕ → List ℕ
comment_of text = comments (lines text)

-- the list of requests
abbrev pub help_lines : List ℕ
help_lines =
    codes "# #> until @M                all that is due below M (ns) happens\n"
    ++ codes "# #> until @M first [G]      the same, but at most G ns (1) past the first delivery or drop of an injected packet\n"
    ++ codes "# #> until @M first any [G]  the same, of any packet\n"
    ++ codes "# #> next                    when the next event is due\n"
    ++ codes "# #> next on|off             other answers also say when the next event is due, or not\n"
    ++ codes "# #> show mine|all           tell what concerns injected packets, or all\n"
    ++ codes "# #> trace on|off            later experiments are traced from their first event on, or not\n"
    ++ codes "# #> use NAME                the lines that follow are for this experiment\n"
    ++ codes "# other lines are those of a scenario: experiment NAME seed S budget B [steps N], @M COMMAND, @M end\n"
