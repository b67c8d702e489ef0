-- The changes of a net.
use Rattle.std.specs.Prelude.{◌≡◌, ℕ, ◌+◌, ◌≤◌, List, ◌++◌, length}
use Rattle.emu_model.specs.declared.records.Record.{Record}
use Rattle.emu_model.specs.declared.commands.Command.{Command}
use Rattle.emu_model.specs.declared.commands.EventContext.{EventContext}
use Rattle.emu_model.specs.Net.{Net}
use Rattle.emu_model.specs.Commands.{obey}
use Rattle.packet_store.specs.Pocket.{Pocket}
use Rattle.pipe_table.specs.Table.{pipe_keys}
use Rattle.pipe_table.specs.Log.{Log}
use Rattle.network.specs.Kept.{KeptNet, net_of, line_keys, IsHoused}

-- the view of the net is m afterwards, and at most c packets were created
pub record Becomes (c : ℕ) (m : Net) (p q : Pocket) (old new : KeptNet) : Type 0 where
  pub shown : net_of q new ≡ m
  pub housed : IsHoused q new
  pub budget : q.budget ≡ p.budget
  pub seed : new.table.seed ≡ old.table.seed
  pub made : new.made ≤ old.made + c

-- only spare capacity has changed
pub record IsStill (old new : KeptNet) : Type 0 where
  pub shown : (p : Pocket) → net_of p new ≡ net_of p old
  pub line : new.direct.line ≡ old.direct.line
  pub keys : pipe_keys new.table.pipes ≡ pipe_keys old.table.pipes
  pub seed : new.table.seed ≡ old.table.seed

-- these records were appended, and nothing else changed
pub record Notes (rs : List Record) (old new : KeptNet) : Type 0 where
  pub rest : new ≡ record old { log = new.log }
  pub records : new.log.records ≡ old.log.records ++ rs
  pub room : old.log.spare ≤ new.log.spare + length rs

-- these records were appended to a log
pub record NotesIn (rs : List Record) (old new : Log) : Type 0 where
  pub records : new.records ≡ old.records ++ rs
  pub room : old.spare ≤ new.spare + length rs

-- the view of the net changed by f, and its keys stayed
pub record Turns (f : Net → Net) (old new : KeptNet) : Type 0 where
  pub shown : (p : Pocket) → net_of p new ≡ f (net_of p old)
  pub line : line_keys new.direct.line ≡ line_keys old.direct.line
  pub keys : pipe_keys new.table.pipes ≡ pipe_keys old.table.pipes
  pub seed : new.table.seed ≡ old.table.seed
  pub made : new.made ≡ old.made

-- the command was obeyed, whatever packets the keys refer to
abbrev pub Obeys : EventContext → ℕ → Command → KeptNet → KeptNet → Type 0
Obeys at number command old new = (p : Pocket) → IsHoused p old →
    Becomes 1 (obey at number command (net_of p old)) p p old new

-- if only spare capacity has changed, the owner's packets are still exactly those that the keys refer to
abbrev pub StillIsHoused : Type 0
StillIsHoused = (p : Pocket) (old new : KeptNet) → IsHoused p old → IsStill old new → IsHoused p new
