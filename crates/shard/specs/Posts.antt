-- The effect of posting a command and of reading a letter on a seat.
use Rattle.std.specs.Prelude.{◌≡◌, ℕ, [], ◌∷◌, ◌++◌, length, Option, Some, None, slice_set}
use Rattle.emu_model.specs.declared.commands.Timed.{Timed}
use Rattle.emu_model.specs.declared.records.Record.{Record}
use Rattle.shard.specs.declared.posts.PostError.{PostError}
use Rattle.shard.specs.declared.posts.PostError.TheVariants.{Vacant, Full}
use Rattle.shard.specs.Mails.{MailBook}
use Rattle.shard.specs.Stand.{Seat, Seating, seat_at}

-- the same seat with another mail
abbrev pub with_mail : {M : Type 0} → Seat M → M → Seat M
with_mail s mail = record { stand = record s.stand { mail = mail }; offset = s.offset }

-- the mail of one seat was replaced, and nothing else changed
pub record ChangedMail {M : Type 0} (old new : Seating M) (slot : ℕ) (s : Seat M) (mail : M) : Type 0 where
  pub was : seat_at old.seats slot ≡ Some s
  pub changed : new ≡ record old { seats = slice_set old.seats slot (Some (with_mail s mail)) }

-- a mail in which one more command waits
abbrev pub with_command : MailBook → Timed → MailBook
with_command mail timed = record mail { waiting = mail.waiting ++ timed ∷ [] }

-- the command is returned: the slot is vacant, or 64 commands wait
abbrev pub IsNotPut : Timed → Seating MailBook → ℕ → PostError → Type 0
IsNotPut timed old slot (Vacant t) = (t ≡ timed) × (seat_at old.seats slot ≡ None)
IsNotPut timed old slot (Full t) =
    (t ≡ timed) × ((s : Seat MailBook) × (seat_at old.seats slot ≡ Some s) × (length s.stand.mail.waiting ≡ 64))

-- the first unread letter, if there is one
abbrev pub Reads : Option Record → MailBook → MailBook → Type 0
Reads None old new = (old.unread ≡ []) × (new ≡ old)
Reads (Some r) old new =
    (old.unread ≡ r ∷ new.unread) × (new ≡ record old { read = old.read ++ r ∷ []; unread = new.unread })
