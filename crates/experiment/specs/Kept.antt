-- What is stored of an experiment, and the state that it shows.
use Rattle.std.specs.Prelude.{◌≡◌, ℕ, ◌+◌, ◌^◌, ◌<◌, ◌≤◌, Option, Some, None, option_to_list, IfSome, List, [], ◌∷◌, length}
use Rattle.std.specs.List.{AllByRecursion}
use Rattle.emu_model.specs.declared.commands.Spec.{Spec}
use Rattle.emu_model.specs.declared.commands.Timed.{Timed}
use Rattle.emu_model.specs.declared.sources.Due.{Due}
use Rattle.emu_model.specs.declared.records.Record.{Record}
use Rattle.emu_model.specs.declared.records.Ending.{Ending}
use Rattle.emu_model.specs.declared.records.Ending.TheVariants.{Ended, Spent, Halted}
use Rattle.emu_model.specs.Step.{State}
use Rattle.emu_model.specs.Alone.{alone}
use Rattle.emu_model.specs.RunLaws.{with_earlier}
use Rattle.emu_model.specs.DueLaws.{AreRising, IsEarly}
use Rattle.experiment.specs.Waits.{IsAloneUntil}
use Rattle.packet_store.specs.Pocket.{Pocket}
use Rattle.network.specs.Kept.{KeptNet, net_of, net_keys, IsHoused}

-- its spec, the part that moves packets, the next command if there is one, all commands that came, the number of commands
-- that were taken, the time of the last event, the number of steps made, how it ended, what was due when that was last
-- noted, and the spare capacity for commands
pub record KeptExperiment : Type 0 where
  pub spec : Spec
  pub net : KeptNet
  pub next : Option Timed
  pub consumed : List Timed
  pub taken : ℕ
  pub clock : ℕ
  pub steps : ℕ
  pub ending : Option Ending
  pub noted : List Due
  pub spare : ℕ

-- the ending as the definitions have it: `Halted`, for lack of memory, is none of theirs and leaves the state unchanged
abbrev pub shown_ending : Option Ending → Option Ending
shown_ending None = None
shown_ending (Some Ended) = Some Ended
shown_ending (Some Spent) = Some Spent
shown_ending (Some Halted) = None

-- the state that is shown with an owner's packets
abbrev pub view : Pocket → KeptExperiment → State
view p e = record {
  spec = e.spec;
  left = option_to_list e.next;
  taken = e.taken;
  clock = e.clock;
  steps = e.steps;
  net = net_of p e.net;
  ending = shown_ending e.ending;
}

-- what is shown is the state of running the experiment alone, for as many steps, on the commands that came
abbrev pub IsAlone : Pocket → KeptExperiment → Type 0
IsAlone p e = view p e ≡ alone e.spec e.consumed e.steps

-- like `IsAlone`, with the discarded records put back in front
abbrev pub IsAloneAfter : List Record → Pocket → KeptExperiment → Type 0
IsAloneAfter earlier p e = with_earlier earlier (view p e) ≡ alone e.spec e.consumed e.steps

-- no command is left; whatever comes next at `t` or later, what is shown, with the discarded records put back in front, is
-- the state of running it alone
pub record IsWaiting (t : ℕ) (earlier : List Record) (p : Pocket) (e : KeptExperiment) : Type 0 where
  pub none : e.next ≡ None
  pub alone : IsAloneUntil t e.spec e.consumed (with_earlier earlier (view p e))

-- the owner's packets are exactly those of the experiment, and the owner's budget is at least the experiment's
pub record IsHousedIn (p : Pocket) (e : KeptExperiment) : Type 0 where
  pub housed : IsHoused p e.net
  pub room : e.spec.budget.packets ≤ p.budget

-- the time of the last command, or an earlier time if there is no command
abbrev pub last_moment : ℕ → List Timed → ℕ
last_moment moment [] = moment
last_moment moment (c ∷ cs) = last_moment c.moment cs

-- the invariant of every experiment
pub record IsSound (e : KeptExperiment) (latest held : ℕ) : Type 0 where
  pub counted : e.taken + length (option_to_list e.next) ≡ length e.consumed
  pub latest_is : latest ≡ last_moment 0 e.consumed
  pub rising : AreRising 0 e.consumed
  pub early_all : AllByRecursion IsEarly e.consumed
  pub early : IfSome e.next (λ c. c.moment ≤ 10 ^ 15)
  pub seed : e.net.table.seed ≡ e.spec.seed
  pub made : e.net.made ≤ e.steps
  pub taken_few : e.taken ≤ e.steps
  pub steps_left : e.ending ≡ None → e.steps < e.spec.budget.steps
  pub steps_few : e.steps ≤ e.spec.budget.steps
  pub budget_few : e.spec.budget.steps ≤ 10 ^ 7
  pub held_is : held ≡ length (net_keys e.net)
