-- The contents of an agenda: at most one due for each source of each owner.
use Rattle.std.specs.Prelude.{◌≡◌, ℕ, ◌≤◌, ◌==◌, Bool, ◌&&◌, ◌||◌, if◌then◌else◌, cond, nat_lt, List, [], ◌∷◌, Option, Some, None}
use Rattle.std.specs.List.{best_of}
use Rattle.emu_model.specs.declared.sources.Source.{Source}
use Rattle.emu_model.specs.Dues.{rank}
use Rattle.emu_model.specs.RunLaws.{same_source}
use Rattle.timer_wheel.specs.declared.Entry.{Entry}

-- the row of one owner: the due of each source, if it has one
abbrev pub Row : Type 0
Row = Source → Option ℕ

abbrev pub no_dues : Row
no_dues source = None

abbrev pub with_due : Row → Source → ℕ → Row
with_due row source due s = if same_source s source then Some due else row s

abbrev pub without_due : Row → Source → Row
without_due row source s = if same_source s source then None else row s

-- the order of sources: by class, then number
abbrev pub source_before : Source → Source → Bool
source_before a b = nat_lt (rank a.class) (rank b.class) || (rank a.class == rank b.class && nat_lt a.number b.number)

-- the order of entries: by due, then owner, then source
abbrev pub is_before : Entry → Entry → Bool
is_before a b =
    nat_lt a.due b.due
    || (a.due == b.due && (nat_lt a.owner b.owner || (a.owner == b.owner && source_before a.source b.source)))

abbrev pub is_of : ℕ → Source → Entry → Bool
is_of o s e = e.owner == o && same_source e.source s

-- the earlier of a due and an optional one
abbrev pub lesser : ℕ → Option ℕ → ℕ
lesser d None = d
lesser d (Some x) = if nat_lt x d then x else d

-- the rows of a list of entries: the earliest due of each source in it
unfoldable pub row_of : List Entry → ℕ → Row
row_of [] o s = None
row_of (e ∷ es) o s = cond (is_of o s e) (Some (lesser e.due (row_of es o s))) (row_of es o s)

-- no due is before the clock
abbrev pub IsAtOrAbove : ℕ → (ℕ → Row) → Type 0
IsAtOrAbove clock rows = (o : ℕ) (s : Source) (d : ℕ) → rows o s ≡ Some d → clock ≤ d

abbrev pub least_of : List Entry → Option Entry
least_of [] = None
least_of (e ∷ es) = Some (best_of is_before e es)

-- a `ListAgenda` as contracts see it
pub record ListBook : Type 0 where
  pub items : List Entry
  pub clock : ℕ
  pub spare : ℕ
