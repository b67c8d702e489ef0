-- The places of sources, and the parts of them that never change.
use Rattle.std.specs.Prelude.{◌≡◌, ℕ, ◌<◌, ◌==◌, Option, Some, option_map, List, map, length, position, slice_get}
use Rattle.std.specs.Option.{option_map_or}
use Rattle.emu_model.specs.declared.sources.FlowSpec.{FlowSpec}
use Rattle.emu_model.specs.declared.sources.TrainSpec.{TrainSpec}
use Rattle.emu_model.specs.declared.sources.SendSpec.{SendSpec}
use Rattle.emu_model.specs.Net.{data_send, ack_send}
use Rattle.sources.specs.declared.sources.SourcePlace.{SourcePlace}
use Rattle.sources.specs.declared.sources.SourcePlace.TheVariants.{Flow, Train}
use Rattle.sources.specs.Kept.{KeptTraffic}
use Rattle.sources.specs.Sends.{IsEmitting}

-- the place of the flow with a number; `train_place` has that of the train
abbrev pub flow_place : ℕ → KeptTraffic → Option ℕ
flow_place k t = position (λ f. f.state.number == k) t.flows

abbrev pub train_place : ℕ → KeptTraffic → Option ℕ
train_place k t = position (λ u. u.number == k) t.trains

-- the place of the source with a number
abbrev pub source_place : ℕ → KeptTraffic → Option SourcePlace
source_place k t =
    option_map_or (λ i. Some (Flow i)) (flow_place k t) (option_map Train (train_place k t))

-- a place that a source can have
abbrev pub IsPlace : SourcePlace → Type 0
IsPlace (Flow i) = i < 256
IsPlace (Train i) = i < 256

-- there is a source at this place
abbrev pub IsThere : SourcePlace → KeptTraffic → Type 0
IsThere (Flow i) t = i < length t.flows
IsThere (Train i) t = i < length t.trains

-- the source at this place may send
pub record MaySendAt (p : SourcePlace) (t : KeptTraffic) : Type 0 where
  pub number : ℕ
  pub place : source_place number t ≡ Some p
  pub may : IsEmitting number t

-- the parts of a flow that never change; `TrainHead` has those of a train
pub record FlowHead : Type 0 where
  pub number : ℕ
  pub flow : FlowSpec

pub record TrainHead : Type 0 where
  pub number : ℕ
  pub train : TrainSpec

pub record Heads : Type 0 where
  pub flows : List FlowHead
  pub trains : List TrainHead

-- the header of the packets that the source at a place sends
abbrev pub send_at : SourcePlace → Heads → Option SendSpec
send_at (Flow i) h = option_map (λ f. data_send f.flow) (slice_get h.flows i)
send_at (Train i) h = option_map (λ u. u.train.packet) (slice_get h.trains i)

-- the header of the acknowledgements from the receiver of the flow at a place
abbrev pub reply_at : ℕ → Heads → Option SendSpec
reply_at i h = option_map (λ f. ack_send f.flow) (slice_get h.flows i)

-- the parts of the sources that never change, by place
abbrev pub heads_of : KeptTraffic → Heads
heads_of t = record {
  flows = map (λ f. record { number = f.state.number; flow = f.state.flow }) t.flows;
  trains = map (λ u. record { number = u.number; train = u.train }) t.trains;
}
