-- What tracing adds to a run (our choice).
use Rattle.std.specs.Prelude.{◌≡◌, ℕ, Bool, true, false, not, List, map}
use Rattle.std.specs.List.{filter}
use Rattle.emu_model.specs.declared.commands.Command.{Command}
use Rattle.emu_model.specs.declared.commands.Command.TheVariants.{Trace}
use Rattle.emu_model.specs.declared.commands.Spec.{Spec}
use Rattle.emu_model.specs.declared.commands.Timed.{Timed}
use Rattle.emu_model.specs.declared.records.Record.{Record}
use Rattle.emu_model.specs.declared.records.Record.TheVariants.{PacketMade, PacketArrived, InstanceIdentified}
use Rattle.emu_model.specs.Net.{counters_of}
use Rattle.emu_model.specs.Step.{State}
use Rattle.emu_model.specs.Alone.{alone}

-- `trace 0` becomes `trace 1`
abbrev pub trace_on : Command → Command
trace_on (Trace b) = Trace true
trace_on c = c

abbrev pub traced_command : Timed → Timed
traced_command t = record t { command = trace_on t.command }

-- tracing is on from the first event
abbrev pub traced_spec : Spec → Spec
traced_spec spec = record spec { traced = true }

-- `trace 1` becomes `trace 0`
abbrev pub trace_off : Command → Command
trace_off (Trace b) = Trace false
trace_off c = c

abbrev pub untraced_command : Timed → Timed
untraced_command t = record t { command = trace_off t.command }

abbrev pub untraced_spec : Spec → Spec
untraced_spec spec = record spec { traced = false }

-- tests for a record that only tracing adds: of a packet's creation, of its arrival at an instance, and of an instance's identifier
abbrev pub is_trace : Record → Bool
is_trace (PacketMade moment packet origin proto src sport dst dport size) = true
is_trace (PacketArrived moment packet pipe instance) = true
is_trace (InstanceIdentified moment pipe instance proto src dst sport dport) = true
is_trace _ = false

abbrev pub untraced_records : List Record → List Record
untraced_records rs = filter (λ r. not (is_trace r)) rs

-- the state with tracing off, and without the records that tracing added; all else is the same
abbrev pub untraced_state : State → State
untraced_state s = record s {
  spec = untraced_spec s.spec;
  left = map untraced_command s.left;
  net = record s.net { trace = false; records = untraced_records s.net.records };
}

-- the run with tracing off throughout, after n steps
abbrev pub untraced_run : Spec → List Timed → ℕ → State
untraced_run spec c n = alone (untraced_spec spec) (map untraced_command c) n

-- the run with tracing on throughout, after n steps
abbrev pub traced_run : Spec → List Timed → ℕ → State
traced_run spec c n = alone (traced_spec spec) (map traced_command c) n

-- tracing adds its records and changes nothing else: without them, each run is the one with tracing off throughout; so is the one with
-- tracing on throughout, and both have the same counters
pub record TracingOnlyAdds : Type 0 where
  pub of_any : (spec : Spec) (c : List Timed) (n : ℕ) → untraced_state (alone spec c n) ≡ untraced_run spec c n
  pub of_both : (spec : Spec) (c : List Timed) (n : ℕ) → untraced_state (traced_run spec c n) ≡ untraced_run spec c n
  pub counted : (spec : Spec) (c : List Timed) (n : ℕ) →
      counters_of (traced_run spec c n).net ≡ counters_of (untraced_run spec c n).net
