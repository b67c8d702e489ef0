-- Laws of the components, over the definitions alone: finishes and exits of whole lists, the step of the control law, loss
-- at its extremes, limits, and the packets that CoDel drops.
use Rattle.std.specs.Prelude.{◌≡◌, ℕ, ◌+◌, ◌-◌, ◌*◌, ◌^◌, ◌<◌, ◌≤◌, true, false, Some, option_to_list, List, [], ◌∷◌, ◌++◌, map, length, take, slice_get, sum, All}
use Rattle.emu_model.specs.Types.{Packet, QueueLimit, Slots, KBytes}
use Rattle.emu_model.specs.Loss.{is_lost}
use Rattle.emu_model.specs.DropTail.{Queued, bytes_of, accepts}
use Rattle.emu_model.specs.Codel.{Times, CodelState, IsControlStep, control_step, codel_dequeue}
use Rattle.emu_model.specs.Rate.{Period, follow, finish_at, finishes}
use Rattle.emu_model.specs.Delay.{Line, enter, exits}

-- a busy period before its first packet
abbrev pub idle_period : ℕ → Period
idle_period start = record { start = start; sum = 0; finish = start }

-- the finishes of a server that serves packets of these sizes one after another
abbrev pub served : ℕ → Period → List ℕ → List ℕ
served bw p [] = []
served bw p (z ∷ zs) = (follow bw z p).finish ∷ served bw (follow bw z p) zs

-- the finishes of a whole busy period equal those computed packet by packet (our choice)
abbrev pub FinishesAreFolded : Type 0
FinishesAreFolded = (bw start : ℕ) (sizes : List ℕ) →
    served bw (idle_period start) sizes ≡ finishes bw start 0 sizes

-- a busy period is rounded once: each finish is computed from the sum of all sizes so far (our choice)
abbrev pub FinishesRoundOnce : Type 0
FinishesRoundOnce = (bw start : ℕ) (sizes : List ℕ) (k : ℕ) → k < length sizes →
    slice_get (finishes bw start 0 sizes) k ≡ Some (finish_at bw start (sum (take (k + 1) sizes)))

-- a packet that enters a delay line, with its finish and the delay at that time
pub record Entry : Type 0 where
  pub packet : Packet
  pub finish : ℕ
  pub delay : ℕ

abbrev pub enter_all : List Entry → Line Packet → Line Packet
enter_all [] l = l
enter_all (e ∷ es) l = enter_all es (enter e.packet e.finish e.delay l)

abbrev pub exits_of : Line Packet → List ℕ
exits_of l = map (λ x. x.exit) l.in_flight

-- the exits of a whole list of entries equal those computed entry by entry (our choice)
abbrev pub ExitsAreFolded : Type 0
ExitsAreFolded = (es : List Entry) (l : Line Packet) →
    exits_of (enter_all es l) ≡ exits_of l ++ exits l.last (map (λ e. (e.finish, e.delay)) es)

-- a list of numbers that never decrease, the first of which is at least `least`
abbrev pub NeverFalls : ℕ → List ℕ → Type 0
NeverFalls least [] = Unit {0}
NeverFalls least (x ∷ xs) = (least ≤ x) × NeverFalls x xs

-- exit times never decrease, so links don't reorder (our choice)
abbrev pub ExitsNeverFall : Type 0
ExitsNeverFall = (last : ℕ) (es : List (ℕ × ℕ)) → NeverFalls last (exits last es)

-- the step of the control law is the greatest whole number d with d * d * count at most
-- interval * interval (RFC 8289, section 5.6: interval / sqrt(count); its rounding is our choice)
abbrev pub ControlStepIsGreatest : Type 0
ControlStepIsGreatest = (interval count : ℕ) → interval < 2 ^ 36 → 1 ≤ count →
    IsControlStep interval count (control_step interval count)

-- rate 0 loses nothing, and rate 1 everything (ipfw(8), plr)
abbrev pub LossHasItsExtremes : Type 0
LossHasItsExtremes = (seed pipe instance place : ℕ) →
    (is_lost seed pipe instance place 0 ≡ false)
    × (is_lost seed pipe instance place (10 ^ 6) ≡ true)

abbrev pub IsWithin : QueueLimit → List (Queued Packet) → Type 0
IsWithin (Slots n) ws = length ws ≤ n
IsWithin (KBytes n) ws = bytes_of ws ≤ 1024 * n

-- a queue stays within its limit of slots or bytes with each packet that it accepts (ipfw(8), queue)
abbrev pub AcceptsWithinLimit : Type 0
AcceptsWithinLimit = (limit : QueueLimit) (ws : List (Queued Packet)) (w : Queued Packet) →
    accepts limit ws w.size ≡ true → IsWithin limit (ws ++ w ∷ [])

-- the packets that CoDel drops, passes to the server and leaves are those that waited, in order (RFC 8289, section 5.5)
abbrev pub CodelKeepsOrder : Type 0
CodelKeepsOrder = (times : Times) (now : ℕ) (c : CodelState) (ws : List (Queued Packet)) →
    let d = codel_dequeue times now c ws in
    d.dropped ++ option_to_list d.given ++ d.rest ≡ ws

-- CoDel drops no packet whose sojourn time is below the target (RFC 8289, section 5.5)
abbrev pub CodelSparesTheQuick : Type 0
CodelSparesTheQuick = (times : Times) (now : ℕ) (c : CodelState) (ws : List (Queued Packet)) →
    All (λ w. times.target ≤ now - w.stamp) (codel_dequeue times now c ws).dropped
