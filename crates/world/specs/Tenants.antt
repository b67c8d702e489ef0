-- A contract's view of a name.
use Rattle.std.specs.Prelude.{◌≡◌, ℕ, ◌^◌, ◌<◌, ◌≤◌, ◌⊎◌, Bool, true, false, List}
use Rattle.emu_model.specs.declared.commands.Spec.{Spec}
use Rattle.emu_model.specs.declared.commands.Timed.{Timed}
use Rattle.emu_model.specs.declared.records.Record.{Record}
use Rattle.emu_model.specs.declared.records.Counters.{Counters}
use Rattle.emu_model.specs.Net.{counters_of}
use Rattle.emu_model.specs.Commands.{is_end}
use Rattle.shard.specs.Mails.{MailBook}
use Rattle.shard.specs.Stand.{Stand, Final}
use Rattle.shard.specs.Posts.{with_command}
use Rattle.world.specs.declared.home.Home.{Home}
use Rattle.world.specs.declared.home.Home.TheVariants.{Handed, Seated, Queued, Left}
use Rattle.world.specs.declared.home.Place.{Place}
use Rattle.world.specs.declared.home.Place.TheVariants.{HandedOut, Resident, InDeque, Ended}

-- an experiment that has not ended, or what an ended one leaves
pub data Life : Type 0 where
  Standing : Stand MailBook → Life
  Over : Final MailBook → Life

-- a name's place and experiment, whether an `end` was posted to it, and the time of the last post
pub record Tenant : Type 0 where
  pub place : Place
  pub life : Life
  pub closed : Bool
  pub last : ℕ

-- what an experiment shows: its spec, the commands that came, the number of steps that it made, its records, its
-- counters, and its mail
pub record Shown : Type 0 where
  pub spec : Spec
  pub commands : List Timed
  pub events : ℕ
  pub records : List Record
  pub counters : Counters
  pub mail : MailBook

abbrev pub shown : Life → Shown
shown (Standing s) = record {
  spec = s.spec;
  commands = s.consumed;
  events = s.state.steps;
  records = s.state.net.records;
  counters = counters_of s.state.net;
  mail = s.mail;
}
shown (Over d) = record {
  spec = d.spec;
  commands = d.commands;
  events = d.events;
  records = d.records;
  counters = d.counters;
  mail = d.mail;
}

abbrev pub name_of : Life → ℕ
name_of (Standing s) = s.name
name_of (Over d) = d.name

-- the same experiment with another mail
abbrev pub with_mail : Life → MailBook → Life
with_mail (Standing s) mail = Standing (record s { mail = mail })
with_mail (Over d) mail = Over (record d { mail = mail })

abbrev pub place_of : Home → Place
place_of (Handed p) = HandedOut
place_of (Seated shard slot) = Resident shard slot
place_of (Queued shard p) = InDeque shard
place_of (Left d) = Ended

-- no `end` was posted, and the time is neither too late nor before that of the last post
pub record IsPostable (closed : Bool) (last : ℕ) (timed : Timed) : Type 0 where
  pub open_yet : closed ≡ false
  pub in_time : timed.moment ≤ 10 ^ 15
  pub rising : last ≤ timed.moment

abbrev pub IsRefused : Bool → ℕ → Timed → Type 0
IsRefused closed last timed = (closed ≡ true) ⊎ (10 ^ 15 < timed.moment) ⊎ (timed.moment < last)

-- the tenant after a post, with one more command in its mail
abbrev pub with_post : Tenant → Timed → Tenant
with_post t timed = record {
  place = t.place;
  life = with_mail t.life (with_command (shown t.life).mail timed);
  closed = is_end timed.command;
  last = timed.moment;
}
