-- The stored rules, pipes and sources of an experiment, and the view of them as a net.
use Rattle.std.specs.Prelude.{◌≡◌, ℕ, ◌≤◌, Bool, Option, List, ◌++◌, map, length}
use Rattle.emu_model.specs.Moments.{IsMoment}
use Rattle.emu_model.specs.Rules.{RuleBook}
use Rattle.emu_model.specs.Delay.{Line}
use Rattle.emu_model.specs.declared.commands.EventContext.{EventContext}
use Rattle.emu_model.specs.Net.{Net}
use Rattle.link_core.specs.Lane.{Lane}
use Rattle.packet_store.specs.Pocket.{Pocket}
use Rattle.pipe_core.specs.KeyedInstance.{seen_line}
use Rattle.pipe_core.specs.Uses.{uses}
use Rattle.pipe_core.specs.Moves.{packet_at, found}
use Rattle.pipe_table.specs.Table.{Table, seen_pipes, pipe_keys}
use Rattle.pipe_table.specs.Log.{Log}
use Rattle.sources.specs.Kept.{KeptTraffic, states_of}
use Rattle.network.specs.declared.flow_cache.CacheEntry.{CacheEntry}

-- the rules, the pipes, the link of `allow` with its packets' keys, the flows and trains, the number of packets created, whether a packet that leaves
-- a pipe is delivered at once, whether packets are traced, the records, and the cached routes
pub record KeptNet : Type 0 where
  pub book : RuleBook
  pub table : Table
  pub direct : Lane ℕ
  pub traffic : KeptTraffic
  pub made : ℕ
  pub one_pass : Bool
  pub trace : Bool
  pub log : Log
  pub flow_cache : List (Option CacheEntry)

-- the view of a net over an owner's packets
abbrev pub net_of : Pocket → KeptNet → Net
net_of p n = record {
  book = n.book;
  pipes = seen_pipes (packet_at p.find) n.table.pipes;
  direct = seen_line (packet_at p.find) n.direct.line;
  flows = states_of n.traffic.flows;
  trains = n.traffic.trains;
  made = n.made;
  one_pass = n.one_pass;
  trace = n.trace;
  records = n.log.records;
}

-- the keys in a delay line, from its front
abbrev pub line_keys : Line ℕ → List ℕ
line_keys l = map (λ x. x.item) l.in_flight

-- the keys in the link of `allow`, then those in the pipes
abbrev pub net_keys : KeptNet → List ℕ
net_keys n = line_keys n.direct.line ++ pipe_keys n.table.pipes

-- the owner's packets are exactly those that the keys refer to, and each key occurs once
pub record IsHoused (p : Pocket) (n : KeptNet) : Type 0 where
  pub each : (k : ℕ) → uses k (net_keys n) ≡ found (p.find k)
  pub count : p.count ≡ length (net_keys n)

-- the state of a net at a time at which an event may happen
pub record Stands (at : EventContext) (p : Pocket) (n : KeptNet) : Type 0 where
  pub early : IsMoment at.now
  pub seed : at.seed ≡ n.table.seed
  pub room : at.packet_budget ≤ p.budget
  pub housed : IsHoused p n
