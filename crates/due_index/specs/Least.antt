-- The first of dues, in the order of events.
use Rattle.std.specs.Prelude.{Option, Some, None, option_to_list, List, [], ◌∷◌, flat_map, if◌then◌else◌}
use Rattle.std.specs.List.{best_of}
use Rattle.emu_model.specs.declared.sources.Due.{Due}
use Rattle.emu_model.specs.Dues.{is_before}

-- the dues in a list of optional ones
abbrev pub dues_in : List (Option Due) → List Due
dues_in leaves = flat_map option_to_list leaves

-- the earliest of these dues, if there is any
abbrev pub least_of : List Due → Option Due
least_of [] = None
least_of (d ∷ ds) = Some (best_of is_before d ds)

-- the earlier of two optional dues
abbrev pub lesser : Option Due → Option Due → Option Due
lesser None b = b
lesser (Some a) None = Some a
lesser (Some a) (Some b) = Some (if is_before b a then b else a)
