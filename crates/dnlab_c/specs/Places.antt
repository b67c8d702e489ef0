-- What a place owns: nothing if it is null, and otherwise the box there with its session.
use base.Fml.{Fml, feq}
use denote.RawPtr.{Ptr, null_ptr}
use mir.Syntax.{Ty}
use Rattle.std.specs.Prelude.{Option, Some, None}
use Rattle.std_heap.specs.declared.Global.{Global}
use Rattle.std_heap.specs.contracts.GlobalAllocator.TheImpl.{ghosts}
use Rattle.std_alloc.specs.Box.Ownership.{box_owns}
use Rattle.dnlab_c.specs.Guests.{KeptGuest}
use Rattle.dnlab_c.specs.contracts.guest.Guest.{the_row}

-- the right to free a block of the heap
abbrev pub heap : Global
heap = record { memory = record { seal = tt } }

abbrev pub token : Ty → Ptr → Fml
token t p = ghosts.dealloc_token heap t p

-- a session in a box on the heap
abbrev pub boxed : Ptr → KeptGuest → Fml
boxed p g = box_owns token the_row p g

abbrev pub placed : Ptr → Option KeptGuest → Fml
placed p None = feq Ptr p null_ptr
placed p (Some g) = boxed p g
