use Rattle.reno_core.proofs.SoundnessKept.{ack_sound}
use Rattle.reno_core.proofs.sender.Sender.ack.Goals as goal

pub invariant_of-self : goal.invariant_of-self
invariant_of-self c = rw c.ack.ensures (ack_sound _ _ _ _ c.requires.early c.self.invariant)
