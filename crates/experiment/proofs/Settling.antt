-- No event is a command's: where the least of what is due and a command is a command, it is that command.
use Rattle.std.proofs.Common.{◌≡◌, ℕ, ◌+◌, ◌*◌, List, [], ◌∷◌, ◌++◌, Bool, true, false, Option, Some, None, refl}
use Rattle.std.specs.Prelude.{if◌then◌else◌, option_map, option_to_list, flat_map, nat_lt}
use Rattle.std.specs.List.{AllByRecursion}
use Rattle.emu_model.specs.declared.packets.Packet.{Packet}
use Rattle.emu_model.specs.declared.sources.Due.{Due}
use Rattle.emu_model.specs.declared.sources.Class.{Class}
use Rattle.emu_model.specs.declared.sources.Class.TheVariants.{NextCommand, Exit, Finish, Expiry, Emission}
use Rattle.emu_model.specs.Delay.{Line, first_exit}
use Rattle.emu_model.specs.Reno.{may_emit}
use Rattle.emu_model.specs.Pipes.{Instance, InService, PipeState}
use Rattle.emu_model.specs.Net.{Net, FlowState, TrainState}
use Rattle.emu_model.specs.Dues.{due, dues_of, line_dues, service_dues, instances_dues, pipe_dues, flow_dues, train_dues, least_due}
use Rattle.emu_model.proofs.CallerLemmas.{of_best}
use Rattle.experiment.specs.Waits.{WaitsSettle}

abbrev Other : Class → Type 0
Other k = k ≡ NextCommand → ⊥

abbrev AreOthers : List Due → Type 0
AreOthers ds = AllByRecursion (λ d. Other d.source.class) ds

both : (a b : List Due) → AreOthers a → AreOthers b → AreOthers (a ++ b)
both [] b p q = q
both (x ∷ xs) b p q = (p.0, both xs b p.1 q)

all-of : {A : Type 0} (f : A → List Due) → ((x : A) → AreOthers (f x)) → (xs : List A) → AreOthers (flat_map f xs)
all-of f p [] = tt
all-of f p (x ∷ xs) = both (f x) (flat_map f xs) (p x) (all-of f p xs)

at-most-one : (k : Class) (number : ℕ) → Other k → (o : Option ℕ) → AreOthers (option_to_list (option_map (due k number) o))
at-most-one k number other None = tt
at-most-one k number other (Some x) = (other, tt)

exit-other : Other Exit
exit-other e = absurd (cc)

finish-other : Other Finish
finish-other e = absurd (cc)

expiry-other : Other Expiry
expiry-other e = absurd (cc)

emission-other : Other Emission
emission-other e = absurd (cc)

line-others : (number : ℕ) (l : Line Packet) → AreOthers (line_dues number l)
line-others number l = at-most-one Exit number exit-other (first_exit l.in_flight)

service-others : (number : ℕ) (i : Instance) → AreOthers (service_dues number i)
service-others number i = go i.service
  where
    go : (o : Option (InService Packet)) → AreOthers (option_to_list (option_map (λ (s : InService Packet). due Finish number s.period.finish) o))
    go None = tt
    go (Some x) = (finish-other, tt)

instances-others : (number : ℕ) (is : List Instance) → AreOthers (instances_dues number is)
instances-others number [] = tt
instances-others number (i ∷ is) =
    both (line_dues number i.line ++ service_dues number i) (instances_dues (number + 1) is)
    (both (line_dues number i.line) (service_dues number i) (line-others number i.line) (service-others number i))
    (instances-others (number + 1) is)

pipe-others : (p : PipeState) → AreOthers (pipe_dues p)
pipe-others p = instances-others (p.number * 256) p.instances

chosen : (b : Bool) (x y : List Due) → AreOthers x → AreOthers y → AreOthers (if b then x else y)
chosen true x y p q = p
chosen false x y p q = q

flow-others : (clock : ℕ) (f : FlowState) → AreOthers (flow_dues clock f)
flow-others clock f =
    chosen f.stopped [] _ tt
    (both (option_to_list (option_map (due Expiry f.number) f.sender.timer)) _ (at-most-one Expiry f.number expiry-other f.sender.timer)
    (chosen (may_emit f.flow f.sender) (due Emission f.number clock ∷ []) [] (emission-other, tt) tt))

train-others : (t : TrainState) → AreOthers (train_dues t)
train-others t =
    chosen (nat_lt t.sent t.train.count) (due Emission t.number (t.start + t.sent * t.train.gap) ∷ []) [] (emission-other, tt) tt

dues-others : (clock : ℕ) (n : Net) → AreOthers (dues_of clock n)
dues-others clock n =
    both (line_dues 0 n.direct ++ flat_map pipe_dues n.pipes ++ flat_map (flow_dues clock) n.flows) (flat_map train_dues n.trains)
    (both (line_dues 0 n.direct ++ flat_map pipe_dues n.pipes) (flat_map (flow_dues clock) n.flows)
    (both (line_dues 0 n.direct) (flat_map pipe_dues n.pipes) (line-others 0 n.direct) (all-of pipe_dues pipe-others n.pipes))
    (all-of (flow_dues clock) (flow-others clock) n.flows))
    (all-of train_dues train-others n.trains)

vacuous : (t : ℕ) (ds : List Due) → AreOthers ds → AllByRecursion (λ d. d.source.class ≡ NextCommand → d ≡ due NextCommand 0 t) ds
vacuous t [] p = tt
vacuous t (x ∷ xs) p = (λ e. absurd (p.0 e), vacuous t xs p.1)

pub waits_settle : WaitsSettle
waits_settle t s is =
    of_best (λ d. d.source.class ≡ NextCommand → d ≡ due NextCommand 0 t) (due NextCommand 0 t) (dues_of s.clock s.net) (λ e. refl)
    (vacuous t (dues_of s.clock s.net) (dues-others s.clock s.net)) is
