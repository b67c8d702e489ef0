-- The spare capacity of a vector, and the effect of an append.
use Rattle.std.specs.Prelude.{◌≡◌, ℕ, ◌+◌, ◌-◌, ◌≤◌, List, ◌++◌}
use Rattle.std.specs.Global.{Vec}
use Rattle.std.specs.Vec.{vec_len, vec_capacity}

unfoldable pub spare : {X : Type 0} → Vec X → ℕ
spare items = vec_capacity items - vec_len items

-- a text was appended, which used at most `most` bytes of the spare capacity
pub record Appends (text : List ℕ) (most : ℕ) (old new : Vec ℕ) : Type 0 where
  pub items : new.items ≡ old.items ++ text
  pub room : spare old ≤ spare new + most
  pub capacity : vec_capacity old ≤ vec_capacity new
