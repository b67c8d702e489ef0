-- Instances are isolated (our choice: each has its own queue, server, delay line and loss stream): the packets that finish, leave and are
-- dropped at an instance depend only on the configuration of its pipe and on the packets that arrive at it.
use Rattle.std.specs.Prelude.{◌≡◌, ℕ, ◌/◌, ◌%◌, ◌<◌, true, false, Some, List, slice_get}
use Rattle.std.specs.List.{AllByRecursion}
use Rattle.emu_model.specs.declared.packets.Packet.{Packet}
use Rattle.emu_model.specs.declared.sources.Class.TheVariants.{Exit, Finish}
use Rattle.emu_model.specs.declared.sources.Due.{Due}
use Rattle.emu_model.specs.declared.commands.Spec.{Spec}
use Rattle.emu_model.specs.declared.commands.Timed.{Timed}
use Rattle.emu_model.specs.Delay.{first_exit}
use Rattle.emu_model.specs.Pipes.{InService, Instance, PipeState}
use Rattle.emu_model.specs.Net.{find_pipe}
use Rattle.emu_model.specs.RunLaws.{ConfiguresPipe}
use Rattle.emu_model.specs.Step.{next_event}
use Rattle.emu_model.specs.Alone.{alone}
use Rattle.emu_laws.specs.Happenings.{Happening, happen, after_all, is_at, standing, known_of, history, told_of}

-- a happening at another instance leaves this one as it is: its configuration, queue, packet in service, delay line, CoDel
-- state and loss stream
abbrev pub OthersDoNotInterfere : Type 0
OthersDoNotInterfere = (seed pipe k : ℕ) (h : Happening) (ps : List PipeState) → is_at pipe k h ps ≡ false →
    standing pipe k (happen seed h ps) ≡ standing pipe k ps

-- a happening at an instance that is in the same state in two lists of pipes leaves it in the same state, with the same
-- results
pub record ChangesAlike (seed pipe k : ℕ) (h : Happening) (ps qs : List PipeState) : Type 0 where
  pub stands : standing pipe k (happen seed h ps) ≡ standing pipe k (happen seed h qs)
  pub known : known_of seed pipe k h ps ≡ known_of seed pipe k h qs

abbrev pub SameEventsSameState : Type 0
SameEventsSameState = (seed pipe k : ℕ) (h : Happening) (ps qs : List PipeState) →
    standing pipe k ps ≡ standing pipe k qs → is_at pipe k h ps ≡ true → is_at pipe k h qs ≡ true →
    ChangesAlike seed pipe k h ps qs

-- after two histories the instance is in the same state, with the same results in the same order
pub record EndsAlike (seed pipe k : ℕ) (hs js : List Happening) (ps qs : List PipeState) : Type 0 where
  pub stands : standing pipe k (after_all seed hs ps) ≡ standing pipe k (after_all seed js qs)
  pub told : told_of seed pipe k hs ps ≡ told_of seed pipe k js qs

-- two histories that are the same at an instance, from states in which it is the same, end alike for it, whatever happens
-- at other instances and whenever it happens
abbrev pub InstancesAreIsolated : Type 0
InstancesAreIsolated = (seed pipe k : ℕ) (hs js : List Happening) (ps qs : List PipeState) →
    standing pipe k ps ≡ standing pipe k qs → history seed pipe k hs ps ≡ history seed pipe k js qs →
    EndsAlike seed pipe k hs js ps qs

-- the state of an instance determines the times of its events: the packet in service finishes at the finish of its period, and the first
-- packet in the delay line leaves at its exit (an exit with number 0 is that of the link of `allow`)
pub record IsAtItsMoment (e : Due) (i : Instance) : Type 0 where
  pub finishes : (s : InService Packet) → e.source.class ≡ Finish → i.service ≡ Some s → s.period.finish ≡ e.moment
  pub leaves : (exit : ℕ) → e.source.class ≡ Exit → 0 < e.source.number → first_exit i.line.in_flight ≡ Some exit →
      exit ≡ e.moment

-- the times of finishes and exits at an instance do not depend on other instances either
abbrev pub MomentsAreTheirOwn : Type 0
MomentsAreTheirOwn = (spec : Spec) (c : List Timed) (n : ℕ) (t : Timed) (p : PipeState) (i : Instance) →
    AllByRecursion (λ u. ConfiguresPipe u.command) c →
    let s = alone spec c n in
    let e = next_event s t in
    find_pipe (e.source.number / 256) s.net ≡ Some p → slice_get p.instances (e.source.number % 256) ≡ Some i →
    IsAtItsMoment e i
