-- The rules as the commands leave them, and whose packets they deny.
use Rattle.std.specs.Prelude.{ℕ, ◌+◌, Bool, not, nat_le, if◌then◌else◌, List, [], ◌∷◌, ◌++◌, Some, None, is_none}
use Rattle.emu_model.specs.declared.commands.Command.{Command}
use Rattle.emu_model.specs.declared.commands.Command.TheVariants.{Add, Delete, Inject, Train, Flow}
use Rattle.emu_model.specs.declared.commands.Timed.{Timed}
use Rattle.emu_model.specs.Rules.{RuleBook, initial_book, add_refusal, book_with, delete_refusal, book_without}
use Rattle.explain.specs.declared.ends.Ends.{Ends}
use Rattle.explain.specs.declared.warning.Warning.{Warning}
use Rattle.explain.specs.declared.warning.Concern.TheVariants.{NoWay}
use Rattle.explain.specs.declared.warning.Sent.{Sent}
use Rattle.explain.specs.declared.warning.Sent.TheVariants.{Packets, Segments, Acks}
use Rattle.explain.specs.Ways.{sent_ends, segment_ends, turned, is_denied}

-- a refused command changes nothing
abbrev pub after : Command → RuleBook → RuleBook
after (Add r) b = if is_none (add_refusal r b) then book_with r b else b
after (Delete n) b = if is_none (delete_refusal n b) then book_without n b else b
after _ b = b

-- rules, and the commands that are still to come
pub record Stand : Type 0 where
  pub book : RuleBook
  pub left : List Timed

-- behind all commands up to a moment
unfoldable pub behind_of : ℕ → RuleBook → List Timed → Stand
behind_of m b [] = record { book = b; left = [] }
behind_of m b (c ∷ cs) = if nat_le c.moment m then behind_of m (after c.command b) cs else record { book = b; left = c ∷ cs }

abbrev pub behind : ℕ → Stand → Stand
behind m s = behind_of m s.book s.left

abbrev pub no_way : ℕ → Sent → RuleBook → Ends → Warning
no_way k sent b e = record { command = Some k; concern = NoWay e sent None (not (is_denied b (turned e))) }

-- a warning, if these rules deny packets of these ends
abbrev pub denied : ℕ → Sent → RuleBook → Ends → List Warning
denied k sent b e = if is_denied b e then no_way k sent b e ∷ [] else []

-- of a flow, its segments, or else its acknowledgements
abbrev pub denied_flow : ℕ → RuleBook → Ends → List Warning
denied_flow k b e = if is_denied b e then no_way k Segments b e ∷ [] else denied k Acks b (turned e)

-- by the rules before the command, where it sends at once, else by those behind all commands of its moment; of flows only where that is wanted
unfoldable pub denials_at : Bool → ℕ → RuleBook → RuleBook → Command → List Warning
denials_at flows k b behind (Inject s) = denied k Packets b (sent_ends s)
denials_at flows k b behind (Train n t) = denied k Packets behind (sent_ends t.packet)
denials_at flows k b behind (Flow n f) = if flows then denied_flow k behind (segment_ends f) else []
denials_at flows k b behind _ = []

-- whose packets the rules deny, from command k on
unfoldable pub denials_from : Bool → ℕ → RuleBook → Stand → List Timed → List Warning
denials_from flows k b s [] = []
denials_from flows k b s (c ∷ cs) =
    denials_at flows k b (behind c.moment s).book c.command ++ denials_from flows (k + 1) (after c.command b) (behind c.moment s) cs

abbrev pub start : List Timed → Stand
start cs = record { book = initial_book; left = cs }

abbrev pub denials : Bool → List Timed → List Warning
denials flows cs = denials_from flows 0 initial_book (start cs) cs
