-- What a session says to a line that it takes.
use Rattle.std.proofs.Common.{◌≡◌, ℕ, List, ◌++◌, sym, ◌∙◌, subst}
use Rattle.std.specs.Prelude.{Option, None, flat_map}
use Rattle.std.proofs.lemmas.List.{append_cancel_left}
use Rattle.control.specs.declared.fault.Cause.{Cause}
use Rattle.session.specs.Faults.{IsFaultOf}
use Rattle.session.specs.Effects.{LineDoes}
use Rattle.session.specs.Sessions.{KeptSession, Piece, Takes, written}
use Rattle.dnlab_c.specs.Guests.{IsSaidBy, IsSaidTo}

pub taken_says : (line before after : List ℕ) (f : Option Cause) (old new : KeptSession) → f ≡ None → IsFaultOf line old f
    → (f ≡ None → (ps : List Piece) × (after ≡ before ++ flat_map written ps) × Takes line ps old new)
    → (f ≡ None → (said : List ℕ) × (after ≡ before ++ said) × LineDoes line said old new)
    → (said : List ℕ) × (after ≡ before ++ said) × IsSaidTo line said old new
taken_says line before after f old new none is takes does =
    let t = takes none in let d = does none in
    let pieces = append_cancel_left before d.0 (flat_map written t.0) (sym d.1 ∙ t.1) in
    (d.0, d.1, record { fault = f; is_fault = is; is_said = subst (λ (g : Option Cause). IsSaidBy g line d.0 old new) (sym none) (d.2, (t.0, pieces, t.2)) })
