-- A sender as contracts see it.
use Rattle.emu_model.specs.declared.sources.FlowSpec.{FlowSpec}
use Rattle.emu_model.specs.Reno.{Sender}

-- a sender, and the flow whose segments it sends
pub record Sending : Type 0 where
  pub flow : FlowSpec
  pub sender : Sender
