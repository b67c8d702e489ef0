-- A contract's view of a mail that consists of two lists.
use Rattle.std.specs.Prelude.{◌++◌, ◌==◌, List, length, map}
use Rattle.emu_model.specs.declared.commands.Timed.{Timed}
use Rattle.emu_model.specs.declared.records.Record.{Record}
use Rattle.shard.specs.declared.list_mail.Posted.{Posted}
use Rattle.shard.specs.declared.list_mail.News.{News}
use Rattle.shard.specs.Seen.{Seen}

-- the commands that it has delivered, the commands that wait, the letters that were read, and the unread letters
pub record MailBook : Type 0 where
  pub given : List Timed
  pub waiting : List Timed
  pub read : List Record
  pub unread : List Record

-- all letters that it has accepted
abbrev pub letters_of : MailBook → List Record
letters_of m = m.read ++ m.unread

-- all commands that were posted to it
abbrev pub posted_of : MailBook → List Timed
posted_of m = m.given ++ m.waiting

abbrev pub mail_seen : MailBook → Seen
mail_seen m = record {
  given = m.given;
  letters = letters_of m;
  posted = posted_of m;
  read = m.read;
  dry = length m.waiting == 0;
  full = length m.unread == 64;
}

abbrev pub commands_of : List Posted → List Timed
commands_of ps = map (λ p. p.timed) ps

abbrev pub records_of : List News → List Record
records_of ns = map (λ n. n.record_of) ns
