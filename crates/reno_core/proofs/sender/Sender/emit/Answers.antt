use Rattle.std.proofs.Common.{◌≡◌, true, subst, sym}
use Rattle.emu_model.specs.Reno.{may_emit}
use Rattle.reno_core.specs.Sending.{Sending}
use Rattle.reno_core.proofs.SoundnessKept.{emit_sound, emitted_whole, emitted_within}
use Rattle.reno_core.proofs.sender.Sender.emit.Goals as goal

pub invariant_of-self : goal.invariant_of-self
invariant_of-self c =
    let P : Sending → Type 0 = λ v. may_emit v.flow v.sender ≡ true in
    let may = subst P (sym c.self.view_is) c.requires.may in
    rw c.emit.ensures.sender (emit_sound _ _ _ c.self.invariant may)

pub returns-clause-whole : goal.returns-clause-whole
returns-clause-whole c =
    rw (c.emit.ensures.first, ← c.self.view_is) (emitted_whole _ _ c.self.invariant)

pub returns-clause-within : goal.returns-clause-within
returns-clause-within c =
    let P : Sending → Type 0 = λ v. may_emit v.flow v.sender ≡ true in
    let may = subst P (sym c.self.view_is) c.requires.may in
    rw (c.emit.ensures.first, ← c.self.view_is) (emitted_within _ _ c.self.invariant may)
