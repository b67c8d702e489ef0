-- The queues as their callers see them.
use Rattle.std.specs.Prelude.{◌≡◌, ℕ, zero, suc, ◌≤◌, ◌==◌, ◌&&◌, ◌||◌, not, nat_lt, if◌then◌else◌, Bool, true, false, Option, List, [], ◌∷◌, ◌++◌, All}
use Rattle.emu_model.specs.declared.pipes.QueueLimit.{QueueLimit}
use Rattle.emu_model.specs.declared.pipes.QueueLimit.TheVariants.{Slots, KBytes}
use Rattle.emu_model.specs.declared.pipes.Discipline.{Discipline}
use Rattle.emu_model.specs.declared.pipes.Discipline.TheVariants.{TailDrop, ControlledDelay}
use Rattle.emu_model.specs.DropTail.{Queued, bytes_of}
use Rattle.emu_model.specs.Codel.{Times, CodelState, Dequeued}
use Rattle.emu_model.specs.Pipes.{dequeue}
use Rattle.emu_model.proofs.CodelParts.{is_short, look_empty, stop_dropping}

-- a queue with a discipline; up to `capacity` items can wait before it has to grow
pub record DisciplinedQueue (A : Type 0) : Type 0 where
  pub limit : QueueLimit
  pub discipline : Discipline
  pub control : CodelState
  pub waiting : List (Queued A)
  pub capacity : ℕ

-- a drop-tail queue
pub record TailQueue (A : Type 0) : Type 0 where
  pub limit : QueueLimit
  pub waiting : List (Queued A)
  pub capacity : ℕ

pub record CodelQueue (A : Type 0) : Type 0 where
  pub times : Times
  pub limit : QueueLimit
  pub control : CodelState
  pub waiting : List (Queued A)
  pub capacity : ℕ

-- the times of a discipline if it is CoDel, otherwise 0
abbrev pub times_of : Discipline → Times
times_of TailDrop = record { target = 0; interval = 0 }
times_of (ControlledDelay target interval) = record { target = target; interval = interval }

abbrev pub IsControlled : Discipline → Type 0
IsControlled d = d ≡ ControlledDelay (times_of d).target (times_of d).interval

abbrev pub codel_queue : {A : Type 0} → DisciplinedQueue A → CodelQueue A
codel_queue q = record {
  times = times_of q.discipline;
  limit = q.limit;
  control = q.control;
  waiting = q.waiting;
  capacity = q.capacity;
}

-- the queue with an item added at its end
abbrev pub put_last : {A : Type 0} → ℕ → A → ℕ → DisciplinedQueue A → DisciplinedQueue A
put_last now item size q = record q {
  waiting = q.waiting ++ record { item = item; size = size; stamp = now } ∷ [];
}

-- the queue after one item passed through it while it was empty, which may change the discipline's state
abbrev pub passed : {A : Type 0} → ℕ → DisciplinedQueue A → DisciplinedQueue A
passed {A} now q = record q { control = (dequeue {A = A} q.discipline now q.control []).control }

-- the discipline's dequeue at `now`: `dropped` were dropped, `given` was returned, and the rest waits
abbrev pub IsDequeue : {A : Type 0} → ℕ → List (Queued A) → Option (Queued A) → DisciplinedQueue A → DisciplinedQueue A → Type 0
IsDequeue {A} now dropped given old new =
    let d : Dequeued A = record { dropped = dropped; given = given; rest = new.waiting; control = new.control } in
    d ≡ dequeue old.discipline now old.control old.waiting

-- nothing waits, or the head's sojourn is short
abbrev pub stays_short : {A : Type 0} → Times → ℕ → List (Queued A) → Bool
stays_short times now [] = true
stays_short times now (w ∷ ws) = is_short times now w ws

-- nothing waits, or the head's sojourn is short by the discipline; always true for drop-tail
abbrev pub head_is_short : {A : Type 0} → Discipline → ℕ → List (Queued A) → Bool
head_is_short TailDrop now ws = true
head_is_short (ControlledDelay target interval) now ws =
    stays_short (record { target = target; interval = interval }) now ws

-- a head whose sojourn is long is not dropped yet: its sojourn hasn't been long for an interval, or the time of the
-- next drop hasn't come
abbrev pub drops_later : CodelState → ℕ → Bool
drops_later c now = not (c.first_above_time == 0)
    && (nat_lt now c.first_above_time || (c.dropping && nat_lt now c.drop_next))

-- the state after a head was dequeued: its sojourn is short, or it is not dropped yet
abbrev pub given : Bool → ℕ → CodelState → CodelState
given true now c = stop_dropping (look_empty c)
given false now c = if nat_lt now c.first_above_time then stop_dropping c else c

-- a dequeue is certain to drop nothing
abbrev pub is_plain : {A : Type 0} → Discipline → CodelState → ℕ → List (Queued A) → Bool
is_plain TailDrop c now ws = true
is_plain (ControlledDelay target interval) c now ws =
    drops_later c now || head_is_short (ControlledDelay target interval) now ws

-- the stored sum of the bytes that wait. Each limit allows at most 1,500,000 bytes, and a change of the limit drops
-- nothing
pub record IsCounted {A : Type 0} (bytes : ℕ) (ws : List (Queued A)) : Type 0 where
  pub sum : bytes ≡ bytes_of ws
  pub few : bytes ≤ 1500000
  pub sizes : All (λ w. w.size ≤ 1500) ws

-- the range of a limit: at most 1000 slots or 1024 KBytes
abbrev pub IsLimit : QueueLimit → Type 0
IsLimit (Slots n) = n ≤ 1000
IsLimit (KBytes n) = n ≤ 1024

-- the list with another item at a place, whose size and stamp stay
abbrev pub with_item : {A : Type 0} → List (Queued A) → ℕ → A → List (Queued A)
with_item [] place item = []
with_item (w ∷ ws) zero item = record w { item = item } ∷ ws
with_item (w ∷ ws) (suc place) item = w ∷ with_item ws place item
