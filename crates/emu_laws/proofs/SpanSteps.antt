-- SpanSteps: the addresses that have the first bits of one, worked out by hand.
use Rattle.std.specs.Prelude.{◌≡◌, refl}
use Rattle.emu_model.specs.Spans.{address_span}

-- 10.0.0.103/24 is 10.0.0.0/24: 167772263 less its last byte, 103
last_byte_cleared : address_span 167772263 24 ≡ record { address = 167772160; len = 24 }
last_byte_cleared = refl

-- the whole address, and `any`
nothing_cleared : address_span 167772263 32 ≡ record { address = 167772263; len = 32 }
nothing_cleared = refl

all_cleared : address_span 167772263 0 ≡ record { address = 0; len = 0 }
all_cleared = refl
