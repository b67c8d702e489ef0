-- The dues of each flow and each train, and an index of them.
use Rattle.std.specs.Prelude.{◌≡◌, ℕ, ◌+◌, ◌*◌, ◌<◌, ◌++◌, ◌≢◌, ⊤, Bool, ◌==◌, ◌&&◌, if◌then◌else◌, Option, Some, None, IfSome, option_map, List, [], ◌∷◌, map, length, slice_index_or, All}
use Rattle.std.specs.List.{list_any}
use Rattle.emu_model.specs.declared.sources.Due.{Due}
use Rattle.emu_model.specs.declared.sources.Class.TheVariants.{Expiry, Emission}
use Rattle.emu_model.specs.Net.{FlowState, TrainState}
use Rattle.emu_model.specs.Dues.{due}
use Rattle.due_index.specs.Least.{dues_in, least_of, lesser}
use Rattle.sources.specs.declared.index.SourceIndex.{SourceIndex}
use Rattle.sources.specs.Kept.{KeptFlow, AreDifferent, IsNumber}
use Rattle.sources.specs.Tables.{LeadsTo}
use Rattle.sources.specs.Sends.{may_send, has_left}
use Rattle.sources.specs.Numbers.{is_in, IsWhole, HasEntry}

-- the due of a flow's timer
abbrev pub expiry_due : FlowState → Option Due
expiry_due f = if f.stopped then None else option_map (due Expiry f.number) f.sender.timer

-- the due, now, of a segment that a flow may send
abbrev pub emission_due : ℕ → FlowState → Option Due
emission_due clock f = if may_send f then Some (due Emission f.number clock) else None

-- the due of a train's next packet
abbrev pub packet_due : TrainState → Option Due
packet_due t =
    if has_left t then Some (due Emission t.number (t.start + t.sent * t.train.gap)) else None

-- an index entry for a flow's timer: its due, or an earlier one
pub record IsTold (o : Option Due) (f : KeptFlow) : Type 0 where
  pub class : IfSome o (λ d. d.source.class ≡ Expiry)
  pub number : IfSome o (λ d. d.source.number ≡ f.state.number)
  pub early : lesser o (expiry_due f.state) ≡ o

abbrev pub AreTold : List (Option Due) → List KeptFlow → Type 0
AreTold [] [] = ⊤
AreTold (o ∷ os) (f ∷ fs) = IsTold o f × AreTold os fs
AreTold [] (f ∷ fs) = ⊥
AreTold (o ∷ os) [] = ⊥

-- the flow with this number may send a segment
abbrev pub is_sending : ℕ → List KeptFlow → Bool
is_sending k fs = list_any (λ f. f.state.number == k && may_send f.state) fs

-- the index has the entries of these flows and trains
pub record AreIndexed (fs : List KeptFlow) (ts : List TrainState) (x : SourceIndex) : Type 0 where
  pub timers : AreTold x.timers.leaves fs
  pub whole : IsWhole x.ready
  pub sending : (k : ℕ) → is_in x.ready k ≡ is_sending k fs
  pub entries : All (λ f. HasEntry f.state.number x.ready) fs
  pub packets : x.packets.leaves ≡ map packet_due ts

-- the dues of all timers; `sends_due` has those of all segments and packets that may be sent
abbrev pub timers_due : List KeptFlow → List Due
timers_due fs = dues_in (map (λ f. expiry_due f.state) fs)

abbrev pub sends_due : ℕ → List KeptFlow → List TrainState → List Due
sends_due clock fs ts =
    dues_in (map (λ f. emission_due clock f.state) fs) ++ dues_in (map packet_due ts)

-- the earliest entry of the timers is exact
abbrev pub IsRight : List (Option Due) → List KeptFlow → Type 0
IsRight told fs = least_of (dues_in told) ≡ least_of (timers_due fs)

-- the timer of the flow at this place has an entry that is not its due, but an earlier one
pub record IsEarlyAt (i : ℕ) (told : List (Option Due)) (fs : List KeptFlow) : Type 0 where
  pub within : i < length fs
  pub differs : (f : KeptFlow) → f ≡ slice_index_or fs i f →
      expiry_due f.state ≢ slice_index_or told i None

-- flows with different numbers in range, and a table that maps each number to its flow's place
pub record AreFound (fs : List KeptFlow) (places : List (Option ℕ)) : Type 0 where
  pub different : AreDifferent (map (λ f. f.state.number) fs)
  pub fit : All IsNumber (map (λ f. f.state.number) fs)
  pub lead : LeadsTo (λ f. f.state.number) fs places

-- the index has an entry at place i, and a bit for number k
abbrev pub HasFlowAt : ℕ → ℕ → SourceIndex → Type 0
HasFlowAt i k x = (i < length x.timers.leaves) × HasEntry k x.ready

-- the index has room for one more flow, with this number
abbrev pub HasFlowRoom : ℕ → SourceIndex → Type 0
HasFlowRoom k x = (0 < x.timers.spare) × HasEntry k x.ready
