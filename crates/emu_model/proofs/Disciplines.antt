-- What is known of a dequeue under any discipline. Of the proofs of an experiment this file alone goes through the
-- disciplines: a new one has its facts here, and all else follows from them.
use Rattle.std.proofs.Common.{◌≡◌, ℕ, refl, false, List, [], ◌∷◌, map}
use Rattle.emu_model.specs.Types.{Discipline, TailDrop, ControlledDelay}
use Rattle.emu_model.specs.DropTail.{Queued}
use Rattle.emu_model.specs.Codel.{CodelState}
use Rattle.emu_model.specs.Pipes.{may_drop, dequeue}
use Rattle.emu_model.proofs.CodelParts.{give_head}
use Rattle.emu_model.proofs.Cuts.{IsCut, give-cut, give_none-cut, codel_dequeue-cut}
use Rattle.emu_model.proofs.Renamed.{renamed, renamed_dequeue, codel_dequeue-renamed, lone_codel}

-- it cuts what waits in three
pub dequeue-cut : {A : Type 0} (d : Discipline) (now : ℕ) (c : CodelState) (ws : List (Queued A)) →
    IsCut ws (dequeue d now c ws)
dequeue-cut TailDrop now c [] = give_none-cut _
dequeue-cut TailDrop now c (w ∷ ws) = give-cut _ w ws
dequeue-cut (ControlledDelay target interval) now c ws = codel_dequeue-cut _ now c ws

-- it reads sizes and moments alone
pub dequeue-renamed : {A B : Type 0} (f : A → B) (d : Discipline) (now : ℕ) (c : CodelState) (ws : List (Queued A)) →
    dequeue d now c (map (renamed f) ws) ≡ renamed_dequeue f (dequeue d now c ws)
dequeue-renamed f TailDrop now c [] = refl
dequeue-renamed f TailDrop now c (w ∷ ws) = refl
dequeue-renamed f (ControlledDelay target interval) now c ws =
    codel_dequeue-renamed f (record { target = target; interval = interval }) now c ws

-- it gives one that waits alone, and its state is then as if nothing had waited
pub lone_dequeue : {A : Type 0} (d : Discipline) (now : ℕ) (c : CodelState) (w : Queued A) →
    dequeue d now c (w ∷ []) ≡ give_head (dequeue {A = ℕ} d now c []).control w []
lone_dequeue TailDrop now c w = refl
lone_dequeue (ControlledDelay target interval) now c w = lone_codel _ now c w

-- a discipline that can't drop doesn't
pub none_dropped : {A : Type 0} (d : Discipline) (now : ℕ) (c : CodelState) (ws : List (Queued A)) →
    may_drop d ≡ false → (dequeue d now c ws).dropped ≡ []
none_dropped TailDrop now c [] e = refl
none_dropped TailDrop now c (w ∷ ws) e = refl
none_dropped (ControlledDelay target interval) now c ws e = absurd (cc e)
