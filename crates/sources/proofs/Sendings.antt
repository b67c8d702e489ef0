-- What a source of a number sends, by where it is found.
use Rattle.std.proofs.Common.{◌≡◌, ℕ, false, ◌∙◌, ap}
use Rattle.std.specs.Prelude.{Option, Some, None, option_map}
use Rattle.std.specs.Option.{option_map_or}
use Rattle.emu_model.specs.declared.sources.SendSpec.{SendSpec}
use Rattle.emu_model.specs.declared.commands.EventContext.{EventContext}
use Rattle.emu_model.specs.Net.{Net, FlowState, TrainState, find_flow, find_train, data_send}
use Rattle.emu_model.specs.Events.{emission, emit_packet, emit_segment}
use Rattle.sources.specs.Sends.{may_send, has_left, is_emitting, next_send}

module _ {T : Type 0} (a : TrainState → T) (b : FlowState → T) (d : T) (k : ℕ) (m : Net) where
  pub by_train : (u : TrainState) → find_train k m ≡ Some u →
      option_map_or a (find_train k m) (option_map_or b (find_flow k m) d) ≡ a u
  by_train u e = ap (λ o. option_map_or a o (option_map_or b (find_flow k m) d)) e

  pub by_flow : (s : FlowState) → find_train k m ≡ None → find_flow k m ≡ Some s →
      option_map_or a (find_train k m) (option_map_or b (find_flow k m) d) ≡ b s
  by_flow s none e =
      ap (λ o. option_map_or a o (option_map_or b (find_flow k m) d)) none ∙ ap (λ o. option_map_or b o d) e

  pub by_none : find_train k m ≡ None → find_flow k m ≡ None →
      option_map_or a (find_train k m) (option_map_or b (find_flow k m) d) ≡ d
  by_none none e =
      ap (λ o. option_map_or a o (option_map_or b (find_flow k m) d)) none ∙ ap (λ o. option_map_or b o d) e

abbrev train_send : TrainState → Option SendSpec
train_send u = Some u.train.packet

abbrev flow_send : FlowState → SendSpec
flow_send s = data_send s.flow

pub send_by_train : (k : ℕ) (m : Net) (u : TrainState) → find_train k m ≡ Some u → next_send k m ≡ Some u.train.packet
send_by_train k m u e = ap (λ o. option_map_or train_send o (option_map flow_send (find_flow k m))) e

pub send_by_flow : (k : ℕ) (m : Net) (s : FlowState) → find_train k m ≡ None → find_flow k m ≡ Some s →
    next_send k m ≡ Some (data_send s.flow)
send_by_flow k m s none e =
    ap (λ o. option_map_or train_send o (option_map flow_send (find_flow k m))) none ∙ ap (option_map flow_send) e

pub send_by_none : (k : ℕ) (m : Net) → find_train k m ≡ None → find_flow k m ≡ None → next_send k m ≡ None
send_by_none k m none e =
    ap (λ o. option_map_or train_send o (option_map flow_send (find_flow k m))) none ∙ ap (option_map flow_send) e

pub emission_by_train : (at : EventContext) (k : ℕ) (m : Net) (u : TrainState) → find_train k m ≡ Some u →
    emission at k m ≡ emit_packet at m u
emission_by_train at k m u e = by_train (emit_packet at m) (emit_segment at m) m k m u e

pub emission_by_flow : (at : EventContext) (k : ℕ) (m : Net) (s : FlowState) → find_train k m ≡ None → find_flow k m ≡ Some s →
    emission at k m ≡ emit_segment at m s
emission_by_flow at k m s none e = by_flow (emit_packet at m) (emit_segment at m) m k m s none e

pub emission_by_none : (at : EventContext) (k : ℕ) (m : Net) → find_train k m ≡ None → find_flow k m ≡ None →
    emission at k m ≡ m
emission_by_none at k m none e = by_none (emit_packet at m) (emit_segment at m) m k m none e

pub emitting_by_train : (k : ℕ) (m : Net) (u : TrainState) → find_train k m ≡ Some u → is_emitting k m ≡ has_left u
emitting_by_train k m u e = by_train has_left may_send false k m u e

pub emitting_by_flow : (k : ℕ) (m : Net) (s : FlowState) → find_train k m ≡ None → find_flow k m ≡ Some s →
    is_emitting k m ≡ may_send s
emitting_by_flow k m s none e = by_flow has_left may_send false k m s none e
