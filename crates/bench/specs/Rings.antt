-- What the mail of an experiment knows of its two rings.
use Rattle.std.specs.Prelude.{◌≡◌, ◌==◌, ℕ, List, [], length, map}
use Rattle.emu_model.specs.declared.commands.Spec.{Spec}
use Rattle.emu_model.specs.declared.commands.Timed.{Timed}
use Rattle.emu_model.specs.declared.records.Record.{Record}
use Rattle.rtrb.specs.Ring.{sent, received, known_items, known_free}
use Rattle.shard.specs.Seen.{Seen}
use Rattle.shard.specs.Stand.{Stand, opened_stand}
use Rattle.bench.specs.declared.mail.Posted.{Posted}
use Rattle.bench.specs.declared.mail.News.{News}
use Rattle.bench.specs.declared.mail.RingMail.{RingMail}

abbrev pub commands_of : List Posted → List Timed
commands_of ps = map (λ p. p.timed) ps

abbrev pub letters_of : List News → List Record
letters_of ns = map (λ n. n.letter) ns

-- the commands that its ring has delivered, and the letters that its ring has accepted; of the far ends it knows only
-- whether a command is known to wait and whether room is known
abbrev pub ring_seen : RingMail → Seen
ring_seen m = record {
  given = commands_of (received m.from);
  letters = letters_of (sent m.to);
  posted = [];
  read = [];
  dry = length (known_items m.from) == 0;
  full = known_free m.to == 0;
}

-- an experiment to which no command has come, and whose rings have delivered and accepted nothing
pub record IsOpened (name : ℕ) (spec : Spec) (p : Stand RingMail) : Type 0 where
  pub new : p ≡ opened_stand name spec p.mail
  pub given : (ring_seen p.mail).given ≡ []
  pub letters : (ring_seen p.mail).letters ≡ []
