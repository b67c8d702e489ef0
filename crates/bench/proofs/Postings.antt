-- Lists of commands with one more.
use Rattle.std.proofs.Common.{◌≡◌, ℕ, Bool, true, false, List, [], ◌∷◌, ◌++◌, ◌||◌, refl}
use Rattle.emu_model.specs.declared.commands.Timed.{Timed}
use Rattle.emu_model.specs.Commands.{is_end, has_end}
use Rattle.experiment.specs.Kept.{last_moment}

-- the last moment is that of the last command
pub last_moment-push : (m : ℕ) (ts : List Timed) (c : Timed) → last_moment m (ts ++ c ∷ []) ≡ c.moment
last_moment-push m [] c = refl
last_moment-push m (t ∷ ts) c = last_moment-push t.moment ts c

or_false : (a b : Bool) → (a || b) ≡ false → (a ≡ false) × (b ≡ false)
or_false true b e = cc
or_false false b e = (refl, e)

one_end : (b : Bool) → (b || false) ≡ b
one_end true = refl
one_end false = refl

-- where there was no end, there is one now just where the last command is one
pub has_end-push : (ts : List Timed) (c : Timed) → has_end ts ≡ false → has_end (ts ++ c ∷ []) ≡ is_end c.command
has_end-push [] c none = one_end (is_end c.command)
has_end-push (t ∷ ts) c none =
    let h = or_false (is_end t.command) (has_end ts) none in
    rw h.0 (has_end-push ts c h.1)
