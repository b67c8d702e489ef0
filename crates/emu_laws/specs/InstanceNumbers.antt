-- The numbering of instances (our choice).
use Rattle.std.specs.Prelude.{◌≡◌, false, Some, List, [], ◌∷◌, ◌++◌, length}
use Rattle.std.specs.List.{list_any}
use Rattle.emu_model.specs.FlowIds.{FlowId, same_flow, different, instance_of}

-- the instance number of an identifier is the number of distinct identifiers that arrived before it first did
abbrev pub NumbersCountIdentifiers : Type 0
NumbersCountIdentifiers = (before after : List FlowId) (i : FlowId) →
    list_any (same_flow i) before ≡ false →
    instance_of (different [] (before ++ i ∷ after)) i ≡ Some (length (different [] before))
