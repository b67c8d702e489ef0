-- What records say of a flow.
use Rattle.std.specs.Prelude.{ℕ, ◌+◌, ◌-◌, ◌/◌, Bool, true, false, ◌==◌, nat_lt, if◌then◌else◌, List, [], ◌∷◌, Option, Some, None, option_map, min, max, slice_get}
use Rattle.emu_model.specs.declared.commands.Command.{Command}
use Rattle.emu_model.specs.declared.commands.Command.TheVariants.{Flow, Stop}
use Rattle.emu_model.specs.declared.commands.Timed.{Timed}
use Rattle.emu_model.specs.declared.packets.Load.{Load}
use Rattle.emu_model.specs.declared.packets.Load.TheVariants.{Ack}
use Rattle.emu_model.specs.declared.records.Record.{Record}
use Rattle.emu_model.specs.declared.records.Record.TheVariants.{CommandDone, AckTaken, TimerExpired, PacketDelivered}
use Rattle.emu_model.specs.declared.sources.FlowSpec.{FlowSpec}
use Rattle.emu_model.specs.Reno.{initial_window}
use Rattle.explain.specs.declared.watch.Watch.{Watch}

-- cwnd lets more whole segments out than the receiver's window
abbrev pub is_held : ℕ → ℕ → ℕ → Bool
is_held window smss cwnd = nat_lt (window / smss) (cwnd / smss)

-- the flow of command k, which begins at a moment with the window of RFC 5681
abbrev pub new_watch : ℕ → ℕ → FlowSpec → Watch
new_watch k m f = record {
  command = k;
  smss = f.smss;
  segments = f.segments;
  window = f.rwnd;
  begin = m;
  last = m;
  is_held = is_held f.rwnd f.smss (initial_window f.smss);
  held = 0;
  acked = 0;
  is_stopped = false;
}

-- from a moment on it has this cwnd
abbrev pub timed : ℕ → ℕ → Watch → Watch
timed m cwnd w = record w {
  last = m;
  is_held = is_held w.window w.smss cwnd;
  held = min (w.held + (if w.is_held then m - w.last else 0)) 18446744073709551615;
}

abbrev pub heard : ℕ → Watch → Watch
heard upto w = record w { acked = max w.acked upto }

abbrev pub stopped : Watch → Watch
stopped w = record w { is_stopped = true }

-- the flow has this number
abbrev pub at_flow : ℕ → ℕ → (Watch → Watch) → Option Watch → Option Watch
at_flow flow n change w = if flow == n then option_map change w else w

-- command k was done, and begins or stops the flow with number n
abbrev pub watched_by_done : ℕ → ℕ → ℕ → Command → Option Watch → Option Watch
watched_by_done n m k (Flow number f) w = if number == n then Some (new_watch k m f) else w
watched_by_done n m k (Stop number) w = at_flow number n stopped w
watched_by_done n m k _ w = w

abbrev pub watched_by_command : ℕ → ℕ → ℕ → Option Timed → Option Watch → Option Watch
watched_by_command n m k None w = w
watched_by_command n m k (Some c) w = watched_by_done n m k c.command w

abbrev pub watched_by_load : ℕ → Load → Option Watch → Option Watch
watched_by_load n (Ack flow upto) w = at_flow flow n (heard upto) w
watched_by_load n _ w = w

-- what a record says of the flow with number n
abbrev pub watched_by : List Timed → ℕ → Record → Option Watch → Option Watch
watched_by cs n (CommandDone m k) w = watched_by_command n m k (slice_get cs k) w
watched_by cs n (AckTaken m flow cwnd ssthresh) w = at_flow flow n (timed m cwnd) w
watched_by cs n (TimerExpired m flow cwnd ssthresh) w = at_flow flow n (timed m cwnd) w
watched_by cs n (PacketDelivered m packet load) w = watched_by_load n load w
watched_by cs n _ w = w

-- one record after the other
abbrev pub watched : List Timed → ℕ → List Record → Option Watch → Option Watch
watched cs n [] w = w
watched cs n (r ∷ rs) w = watched cs n rs (watched_by cs n r w)
