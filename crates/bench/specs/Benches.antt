-- The effects of a bench's calls.
use Rattle.std.specs.Prelude.{◌≡◌, ◌<◌, ◌+◌, vec_len, vec_capacity, ℕ, List, [], ◌∷◌, ◌++◌, None, IsSome, false}
use Rattle.shard.specs.declared.shard.Turned.{Turned}
use Rattle.shard.specs.declared.shard.Turned.TheVariants.{Ran, Ended, Idle}
use Rattle.shard.specs.declared.shard.TakeInError.{TakeInError}
use Rattle.shard.specs.Stand.{Stand, Seat, Seating, seat_at}
use Rattle.shard.specs.Turns.{TakenIn, PackedAt, ComesBack, HasVacancy}
use Rattle.bench.specs.declared.mail.RingMail.{RingMail}
use Rattle.bench.specs.declared.hand.Hand.{Hand}
use Rattle.bench.specs.declared.bench.Bench.{Bench}
use Rattle.bench.specs.declared.bench.OfferError.{OfferError}
use Rattle.bench.specs.declared.bench.OfferError.TheVariants as offer
use Rattle.bench.specs.declared.bench.RetakeError.{RetakeError}
use Rattle.bench.specs.declared.bench.RetakeError.TheVariants as retake
use Rattle.bench.specs.declared.bench.AdoptError.{AdoptError}
use Rattle.bench.specs.declared.bench.AdoptError.TheVariants as adopt
use Rattle.bench.specs.Custody.{hand, stamp}
use Rattle.bench.specs.Ends.{deque_view}

-- the residents of a bench's shard, by slot
abbrev pub bench_seating : Bench → Seating RingMail
bench_seating b = b.shard

-- the stamps that the owner's pass of its deque has pushed and taken
abbrev pub bench_view : Bench → Hand
bench_view b = deque_view b.deque

-- a bench without residents, on whose deque nothing was pushed or taken, and which has noted no name
pub record IsNewBench (b : Bench) : Type 0 where
  pub vacant : (k : ℕ) → seat_at (bench_seating b).seats k ≡ None
  pub clock : (bench_seating b).clock ≡ 0
  pub view : bench_view b ≡ hand [] []
  pub peered : b.peered ≡ false
  pub admitted : b.admitted.items ≡ []
  pub adopted : b.adopted.items ≡ []
  pub ended : b.ended.items ≡ []
  pub handed_out : b.handed_out.items ≡ []

abbrev pub SameLists : Bench → Bench → Type 0
SameLists a b = (b.admitted.items ≡ a.admitted.items) × (b.adopted.items ≡ a.adopted.items) × (b.ended.items ≡ a.ended.items) × (b.handed_out.items ≡ a.handed_out.items)

-- nothing that contracts see has changed
abbrev pub SameBench : Bench → Bench → Type 0
SameBench a b = (bench_seating b ≡ bench_seating a) × (bench_view b ≡ bench_view a) × SameLists a b

-- there is room for one more name in each list that it may enter
abbrev pub HasRoom : Bench → Type 0
HasRoom b =
    (vec_len b.admitted < vec_capacity b.admitted) × (vec_len b.adopted < vec_capacity b.adopted) × (vec_len b.handed_out < vec_capacity b.handed_out)
    × (vec_len b.resident < vec_capacity b.resident) × (vec_len b.ended + vec_len b.resident < vec_capacity b.ended)

-- these names were added to the lists of the admitted, adopted, ended and handed-out names
abbrev pub Notes : List ℕ → List ℕ → List ℕ → List ℕ → Bench → Bench → Type 0
Notes admitted adopted ended handed_out a b =
    (b.admitted.items ≡ a.admitted.items ++ admitted) × (b.adopted.items ≡ a.adopted.items ++ adopted)
    × (b.ended.items ≡ a.ended.items ++ ended) × (b.handed_out.items ≡ a.handed_out.items ++ handed_out)

-- the name of a resident that ended was noted
abbrev pub NotesEnd : Turned RingMail → Bench → Bench → Type 0
NotesEnd (Ran name) a b = SameLists a b
NotesEnd (Ended d) a b = Notes [] [] (d.name ∷ []) [] a b
NotesEnd Idle a b = SameLists a b

-- a parcel was taken in at the first vacant slot
abbrev pub Sits : Stand RingMail → Bench → Bench → Type 0
Sits p a b = (slot : ℕ) × (s : Seat RingMail) × TakenIn p (bench_seating a) (bench_seating b) slot s

abbrev pub Admits : Stand RingMail → Bench → Bench → Type 0
Admits p a b = Sits p a b × (bench_view b ≡ bench_view a) × Notes (p.name ∷ []) [] [] [] a b

-- the parcel is returned; `Crowded` means that there are 256 residents
abbrev pub AdmitFails : TakeInError RingMail → Stand RingMail → Bench → Bench → Type 0
AdmitFails e p a b = ComesBack p (bench_seating a) e × SameBench a b

-- the resident of a slot left it as a parcel
abbrev pub Leaves : Stand RingMail → ℕ → Bench → Bench → Type 0
Leaves p slot a b = (s : Seat RingMail) × PackedAt p (bench_seating a) (bench_seating b) slot s

-- the resident was pushed onto the deque
abbrev pub Offers : ℕ → Bench → Bench → Type 0
Offers slot a b =
    (p : Stand RingMail) × Leaves p slot a b × (bench_view b ≡ hand ((bench_view a).pushed ++ stamp p ∷ []) (bench_view a).taken) × SameLists a b

-- why a resident was not pushed
abbrev pub OfferFails : OfferError → ℕ → Bench → Bench → Type 0
OfferFails offer.Vacant slot a b = (seat_at (bench_seating a).seats slot ≡ None) × SameBench a b
OfferFails offer.NoMemory slot a b = IsSome (seat_at (bench_seating a).seats slot) × SameBench a b
OfferFails (offer.DequeFull p) slot a b = Leaves p slot a b × (bench_view b ≡ bench_view a) × Notes [] [] [] (p.name ∷ []) a b

-- a pass took one more parcel
abbrev pub Takes : Stand RingMail → Hand → Hand → Type 0
Takes p v w = w ≡ hand v.pushed (v.taken ++ stamp p ∷ [])

-- the parcel that was taken from the bench's own deque is a resident again
abbrev pub Retakes : Bench → Bench → Type 0
Retakes a b = (p : Stand RingMail) × Sits p a b × Takes p (bench_view a) (bench_view b) × SameLists a b

-- why nothing was retaken, or why the parcel that was taken is handed out
abbrev pub RetakeFails : RetakeError → Bench → Bench → Type 0
RetakeFails retake.Empty a b = SameBench a b
RetakeFails retake.NoMemory a b = SameBench a b
RetakeFails (retake.Refused e) a b =
    (p : Stand RingMail) × ComesBack p (bench_seating a) e × (bench_seating b ≡ bench_seating a) × Takes p (bench_view a) (bench_view b)
    × Notes [] [] [] (p.name ∷ []) a b

-- a slot was vacant if memory ran out for the parcel that was retaken
abbrev pub RetakeVacancy : RetakeError → Bench → Type 0
RetakeVacancy retake.Empty a = Unit {0}
RetakeVacancy retake.NoMemory a = Unit {0}
RetakeVacancy (retake.Refused e) a = HasVacancy (bench_seating a) e

-- the parcel that the peer's pass took is a resident of this bench
abbrev pub Adopts : Hand → Hand → Bench → Bench → Type 0
Adopts v w a b = (p : Stand RingMail) × Sits p a b × Takes p v w × (bench_view b ≡ bench_view a) × Notes [] (p.name ∷ []) [] [] a b

-- why nothing was adopted, or why the parcel that was taken is handed out
abbrev pub AdoptFails : AdoptError → Hand → Hand → Bench → Bench → Type 0
AdoptFails adopt.Empty v w a b = (w ≡ v) × SameBench a b
AdoptFails adopt.Retry v w a b = (w ≡ v) × SameBench a b
AdoptFails adopt.NoMemory v w a b = (w ≡ v) × SameBench a b
AdoptFails (adopt.Refused e) v w a b =
    (p : Stand RingMail) × ComesBack p (bench_seating a) e × (bench_seating b ≡ bench_seating a) × Takes p v w × (bench_view b ≡ bench_view a)
    × Notes [] (p.name ∷ []) [] (p.name ∷ []) a b

-- a slot was vacant if memory ran out for the parcel that was adopted
abbrev pub AdoptVacancy : AdoptError → Bench → Type 0
AdoptVacancy adopt.Empty a = Unit {0}
AdoptVacancy adopt.Retry a = Unit {0}
AdoptVacancy adopt.NoMemory a = Unit {0}
AdoptVacancy (adopt.Refused e) a = HasVacancy (bench_seating a) e
