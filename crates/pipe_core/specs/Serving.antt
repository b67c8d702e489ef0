-- The key in service, and the one that follows it.
use Rattle.std.specs.Prelude.{ℕ, Option, Some, None, option_map}
use Rattle.emu_model.specs.DropTail.{Queued}
use Rattle.emu_model.specs.Rate.{Period, follow}
use Rattle.emu_model.specs.Pipes.{InService}

-- the key in service with its busy period, if there are both
abbrev pub in_service : Option ℕ → Option Period → Option (InService ℕ)
in_service None p = None
in_service (Some k) p = option_map (λ t. record { item = k; period = t }) p

abbrev pub next_service : ℕ → InService ℕ → Queued ℕ → InService ℕ
next_service bw s w = record { item = w.item; period = follow bw w.size s.period }

-- the service that follows: that of the key that the queue gave, if any; none if nothing was in service
abbrev pub after_service : ℕ → Option (InService ℕ) → Option (Queued ℕ) → Option (InService ℕ)
after_service bw None given = None
after_service bw (Some s) given = option_map (next_service bw s) given

-- the service of another key, in the same period
abbrev pub with_key : ℕ → InService ℕ → InService ℕ
with_key key s = record s { item = key }
