-- A guest may go to another thread, and so its place.
use base.Shift.{Keyless}
use mir.Raw.{raw}
use denote.Builtin.{RawPtr}
use denote.Memory.{lone}
use denote.RawPtr.{Ptr}
use denote.Param.Send.{IsSend, owning_send, struct_send, sendable}
use denote.Struct.Struct.{exits_of}
use denote.Struct.Owning.{shape, fields, to}
use Rattle.std.proofs.Crossing.{frees}
use Rattle.std.specs.Prelude.{Option, Some, None}
use Rattle.std_alloc.proofs.SendSync.{quiet, lies}
use Rattle.dnlab_c.specs.Guests.{KeptGuest}
use Rattle.dnlab_c.specs.Places.{heap, placed}
use Rattle.dnlab_c.specs.contracts.guest.Guest as guest
use Rattle.dnlab_c.proofs.guest.Guest.TheSendSync as guest_sent
use Rattle.dnlab_c.specs.contracts.place.Place.{the_row, the_type}

placed_keyless : (p : Ptr) (k : Option KeptGuest) → Keyless (placed p k)
placed_keyless p None = tt
placed_keyless p (Some g) = (lies guest.the_row guest_sent.the_send p g, frees.frees heap (raw (lone guest.the_row.mir)) p)

pub send : IsSend the_row
send = let O = the_type in let ps : IsSend RawPtr = search sendable in
    owning_send O (ps, tt) (λ d. placed_keyless d.at d.guest) (λ k. quiet (to O) (exits_of k (fields O)) ((struct_send (shape O) (ps, tt)).leaving k))
