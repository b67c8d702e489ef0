-- The stored flows and trains of an experiment, and a net that has them.
use Rattle.std.specs.Prelude.{◌≡◌, ◌≢◌, ℕ, ◌+◌, ◌≤◌, true, false, ◌==◌, nat_lt, None, List, [], map, length, find, All, AllPairs}
use Rattle.std.specs.Option.{option_map_or}
use Rattle.emu_model.specs.Moments.{IsMoment}
use Rattle.emu_model.specs.declared.sources.FlowSpec.{FlowSpec}
use Rattle.emu_model.specs.Reno.{initial_sender}
use Rattle.emu_model.specs.Net.{Net, FlowState, TrainState}
use Rattle.emu_model.specs.Commands.{source_refusal}

-- a stored flow: its state, and the number of segments that its receiver can take without an allocation
pub record KeptFlow : Type 0 where
  pub state : FlowState
  pub room : ℕ

pub record KeptTraffic : Type 0 where
  pub flows : List KeptFlow
  pub trains : List TrainState

abbrev pub states_of : List KeptFlow → List FlowState
states_of fs = map (λ f. f.state) fs

-- the net with these flows and trains in place of its own
abbrev pub with_traffic : KeptTraffic → Net → Net
with_traffic t n = record n { flows = states_of t.flows; trains = t.trains }

-- the initial state of a flow
abbrev pub opened_flow : ℕ → FlowSpec → FlowState
opened_flow k f = record {
  number = k;
  flow = f;
  sender = initial_sender f;
  stopped = false;
  came = [];
}

-- a source with this number may start
abbrev pub IsFree : ℕ → KeptTraffic → Type 0
IsFree k t = (n : Net) → source_refusal k (with_traffic t n) ≡ None

-- the receiver of this flow, if it exists, can take any segment without an allocation
abbrev pub HasRoomFor : ℕ → KeptTraffic → Type 0
HasRoomFor k t =
    option_map_or (λ f. nat_lt 0 f.room) (find (λ f. f.state.number == k) t.flows) true ≡ true

-- the range of a source's number
abbrev pub IsNumber : ℕ → Type 0
IsNumber k = (1 ≤ k) × (k ≤ 65535)

abbrev pub AreDifferent : List ℕ → Type 0
AreDifferent xs = AllPairs (λ x y. x ≢ y) xs

-- the numbers of flows and those of trains: all different, in range, and at most 256
pub record AreNumbers (fs ts : List ℕ) : Type 0 where
  pub flows : AreDifferent fs
  pub trains : AreDifferent ts
  pub apart : All (λ x. All (λ y. x ≢ y) ts) fs
  pub flows_fit : All IsNumber fs
  pub trains_fit : All IsNumber ts
  pub few : length fs + length ts ≤ 256

abbrev pub IsSound : List KeptFlow → List TrainState → Type 0
IsSound fs ts = AreNumbers (map (λ f. f.state.number) fs) (map (λ t. t.number) ts)

-- a train that started before 2 * 10^15 ns, and has sent at most all its packets
pub record IsTrain (t : TrainState) : Type 0 where
  pub began : IsMoment t.start
  pub sent : t.sent ≤ t.train.count
