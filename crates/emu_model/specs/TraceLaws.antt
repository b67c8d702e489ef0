-- Laws about the fate of each packet, and about its trace records (our choice), over the definitions alone.
use Rattle.std.specs.Prelude.{◌≡◌, ◌≢◌, ℕ, ◌+◌, Bool, true, false, ◌&&◌, ◌⊎◌, ◌==◌, nat_lt, if◌then◌else◌, List, [], ◌∷◌, ◌++◌, map, slice_get, count_by, flat_map}
use Rattle.std.specs.Option.{option_map_or}
use Rattle.std.specs.List.{AllByRecursion}
use Rattle.emu_model.specs.Types.{Packet, Spec, Timed, Trace, Record, PacketMade, PacketArrived, PacketFinished, PacketDelivered, PacketPassed, PacketDropped}
use Rattle.emu_model.specs.Pipes.{PipeState, pipe_packets}
use Rattle.emu_model.specs.Net.{Net, find_pipe}
use Rattle.emu_model.specs.Alone.{alone}

-- tracing is on from the first event, or the first command is `trace 1`; no later command is `trace 0`
abbrev pub IsTraced : Bool → List Timed → Type 0
IsTraced true ts = AllByRecursion (λ u. u.command ≢ Trace false) ts
IsTraced false [] = ⊥
IsTraced false (t ∷ ts) =
    (t.command ≡ Trace true) × AllByRecursion (λ u. u.command ≢ Trace false) ts

-- tests for the record of the creation of packet k; `delivers` tests for its delivery, `drops` for its drop
abbrev pub makes : ℕ → Record → Bool
makes k (PacketMade moment packet origin proto src sport dst dport size) = packet == k
makes k _ = false

abbrev pub delivers : ℕ → Record → Bool
delivers k (PacketDelivered moment packet load) = packet == k
delivers k _ = false

abbrev pub drops : ℕ → Record → Bool
drops k (PacketDropped moment packet load cause) = packet == k
drops k _ = false

-- the packets that wait, are in service or are in a delay line
abbrev pub held_packets : Net → List Packet
held_packets n = map (λ x. x.item) n.direct.in_flight ++ flat_map pipe_packets n.pipes

-- 1 if packet k was created, 0 otherwise
abbrev pub once_made : ℕ → Net → ℕ
once_made k n = if nat_lt k n.made then 1 else 0

-- each packet that was created is delivered, dropped or held, exactly once in all; no other packet is
abbrev pub EachPacketOnce : Type 0
EachPacketOnce = (spec : Spec) (c : List Timed) (n k : ℕ) →
    let net = (alone spec c n).net in
    count_by (delivers k) net.records + count_by (drops k) net.records
    + count_by (λ p. p.number == k) (held_packets net) ≡ once_made k net

-- in a traced run each packet that was created has one `make` record; no other packet has one
abbrev pub EachMakeOnce : Type 0
EachMakeOnce = (spec : Spec) (c : List Timed) (n k : ℕ) → IsTraced spec.traced c →
    count_by (makes k) (alone spec c n).net.records ≡ once_made k (alone spec c n).net

-- tests for a record about packet k other than its `make`
abbrev pub tells_of : ℕ → Record → Bool
tells_of k (PacketArrived moment packet pipe instance) = packet == k
tells_of k (PacketFinished moment packet pipe instance) = packet == k
tells_of k (PacketPassed moment packet pipe instance) = packet == k
tells_of k (PacketDelivered moment packet load) = packet == k
tells_of k (PacketDropped moment packet load cause) = packet == k
tells_of k _ = false

-- in a traced run every other record about a packet comes after its `make`
abbrev pub MakeComesFirst : Type 0
MakeComesFirst = (spec : Spec) (c : List Timed) (n k : ℕ) (before after : List Record) (r : Record) →
    IsTraced spec.traced c → (alone spec c n).net.records ≡ before ++ r ∷ after → tells_of k r ≡ true →
    count_by (makes k) before ≡ 1

-- the packet that arrives at instance k of a pipe, by a record; `finishes_in` has one that finishes there, `passes_in` one that passes on
abbrev pub arrives_in : ℕ → ℕ → Record → List ℕ
arrives_in pipe k (PacketArrived moment packet p i) =
    if p == pipe && i == k then packet ∷ [] else []
arrives_in pipe k _ = []

abbrev pub finishes_in : ℕ → ℕ → Record → List ℕ
finishes_in pipe k (PacketFinished moment packet p i) =
    if p == pipe && i == k then packet ∷ [] else []
finishes_in pipe k _ = []

abbrev pub passes_in : ℕ → ℕ → Record → List ℕ
passes_in pipe k (PacketPassed moment packet p i) =
    if p == pipe && i == k then packet ∷ [] else []
passes_in pipe k _ = []

-- the packets in the delay line of instance k of a pipe
abbrev pub flight_in : ℕ → PipeState → List ℕ
flight_in k p =
    option_map_or (λ i. map (λ x. x.item.number) i.line.in_flight) (slice_get p.instances k) []

abbrev pub under_way : ℕ → ℕ → Net → List ℕ
under_way pipe k n = option_map_or (flight_in k) (find_pipe pipe n) []

-- some elements of a list, in its order
abbrev pub IsSublist : List ℕ → List ℕ → Type 0
IsSublist [] ys = Unit {0}
IsSublist (x ∷ xs) [] = ⊥
IsSublist (x ∷ xs) (y ∷ ys) = ((x ≡ y) × IsSublist xs ys) ⊎ IsSublist (x ∷ xs) ys

-- in a traced run packets finish in an instance in the order in which they arrived there
abbrev pub FinishesKeepOrder : Type 0
FinishesKeepOrder = (spec : Spec) (c : List Timed) (n pipe k : ℕ) → IsTraced spec.traced c →
    let records : List Record = (alone spec c n).net.records in
    IsSublist (flat_map (finishes_in pipe k) records) (flat_map (arrives_in pipe k) records)

-- the packets that finished in an instance are those that left it (delivered, passed on, or dropped with the pipe), then those in its
-- delay line, in this order; the packets that passed on are among those that left, in their order
pub record LeavesInOrder (pipe k : ℕ) (n : Net) : Type 0 where
  pub gone : List ℕ
  pub first_left : flat_map (finishes_in pipe k) n.records ≡ gone ++ under_way pipe k n
  pub passed : IsSublist (flat_map (passes_in pipe k) n.records) gone

-- packets leave an instance in the order in which they finished there
abbrev pub ExitsKeepOrder : Type 0
ExitsKeepOrder = (spec : Spec) (c : List Timed) (n pipe k : ℕ) →
    LeavesInOrder pipe k (alone spec c n).net
