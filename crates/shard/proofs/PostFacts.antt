-- A command is put, or a letter read: one mail changes.
use Rattle.std.proofs.Common.{◌≡◌, ℕ, ◌<◌, List, [], ◌∷◌, ◌++◌, set, Option, Some, None, refl, sym, ap, ◌∙◌, arith, subst}
use Rattle.std.proofs.lemmas.List.{set-get_or, append_assoc}
use Rattle.emu_model.specs.declared.records.Record.{Record}
use Rattle.packet_store.specs.Pocket.{Pocket}
use Rattle.timer_wheel.specs.Rows.{Row}
use Rattle.shard.specs.Seen.{Seen}
use Rattle.shard.specs.Bodies.{Residence as Resident}
use Rattle.shard.specs.Mails.{MailBook, letters_of}
use Rattle.shard.specs.Stand.{Seat, Seating, heard_from}
use Rattle.shard.specs.Seats.{resident_at, seat, seat_of, seats_of, IsSeated, IsShard}
use Rattle.shard.specs.Posts.{with_mail, ChangedMail, Reads}
use Rattle.shard.proofs.SlotChanges.{IsChanged, stays, seated_at, seat_is}

module _ {M : Type 0} where
  seated_with : (seen : M → Seen) (p : Pocket) (row : Row) (clock : ℕ) (r : Resident M) (mail : M) → IsSeated seen p row clock r → (seen mail).given ≡ (seen r.mail).given → (seen mail).letters ≡ (seen r.mail).letters → IsSeated seen p row clock (record r { mail = mail })
  seated_with seen p row clock r mail s g l =
      let k = s.going.kept in
      record {
        going = record {
          kept = record {
            housed = k.housed;
            budget = k.budget;
            some = k.some;
            alone = k.alone;
            told = l ∙ k.told;
            short = k.short;
            heard = k.heard ∙ ap (heard_from []) (sym g);
            few = k.few;
          };
          going = s.going.going;
        };
        entries = s.entries;
        ready = s.ready;
        late = s.late;
        below = s.below;
      }

  -- a resident with another mail, which gave and took the same
  pub record HasMail (seen : M → Seen) (slots : List (Option (Resident M))) (k : ℕ) (r t : Resident M) (mail : M) : Type 0 where
    pub is : resident_at slots k ≡ Some r
    pub within : k < 256
    pub same : t ≡ record r { mail = mail }
    pub given_is : (seen mail).given ≡ (seen r.mail).given
    pub letters_is : (seen mail).letters ≡ (seen r.mail).letters

  pub mail_changed : (seen : M → Seen) (pockets : ℕ → Pocket) (rows : ℕ → Row) (clock : ℕ) (slots : List (Option (Resident M))) (k : ℕ) (r t : Resident M) (mail : M) → IsShard seen pockets rows clock slots → HasMail seen slots k r t mail → IsChanged seen pockets pockets rows clock slots (set slots k (Some t)) k (Some t)
  mail_changed seen pockets rows clock slots k r t mail s h =
      let f = seated_at seen pockets rows clock slots k r s h.is in
      stays seen pockets pockets rows rows clock clock slots k r t s
      (record { on = omega arith; early = s.early })
      (record { is = h.is; within = h.within; rows_stay = λ o n. refl; pockets_stay = λ o n. refl })
      (subst (IsSeated seen (pockets r.owner) (rows k) clock) (sym h.same) (seated_with seen (pockets r.owner) (rows k) clock r mail f h.given_is h.letters_is))
      (ap (λ (x : Resident M). x.owner) h.same)

  pub mail_seating : (seen : M → Seen) (pockets : ℕ → Pocket) (rows : ℕ → Row) (clock : ℕ) (slots : List (Option (Resident M))) (k : ℕ) (r t : Resident M) (mail : M) (old : Seating M) → IsShard seen pockets rows clock slots → HasMail seen slots k r t mail → record { seats = seats_of pockets slots; clock = clock } ≡ old → ChangedMail old (record { seats = seats_of pockets (set slots k (Some t)); clock = clock }) k (seat (pockets r.owner) r) mail
  mail_seating seen pockets rows clock slots k r t mail old s h v =
      let c = mail_changed seen pockets rows clock slots k r t mail s h in
      let w : seats_of pockets slots ≡ old.seats = ap (λ (x : Seating M). x.seats) v in
      let e : seats_of pockets (set slots k (Some t)) ≡ set old.seats k (Some (with_mail (seat (pockets r.owner) r) mail)) =
      c.seats
      ∙ ap (λ (x : Resident M). set (seats_of pockets slots) k (seat_of pockets (Some x))) h.same
      ∙ ap (λ (l : List (Option (Seat M))). set l k (Some (with_mail (seat (pockets r.owner) r) mail))) w in
      let q : clock ≡ old.clock = ap (λ (x : Seating M). x.clock) v in
      record {
        was = seat_is pockets slots old.seats k r w h.is;
        changed = λ i. record { seats = e i; clock = q i };
      }

  -- a resident that was written back as it was
  pub written_same : (slots : List (Option (Resident M))) (k : ℕ) (r t : Resident M) → resident_at slots k ≡ Some r → t ≡ r → set slots k (Some t) ≡ slots
  written_same slots k r t is e =
      ap (λ (x : Resident M). set slots k (Some x)) e ∙ ap (set slots k) (sym is) ∙ set-get_or slots k None

-- a letter that is read stays one that was taken
pub letters-read : (letter : Option Record) (old new : MailBook) → Reads letter old new → letters_of new ≡ letters_of old
letters-read None old new h = ap letters_of h.1
letters-read (Some r) old new h =
    ap letters_of h.1 ∙ append_assoc old.read (r ∷ []) new.unread ∙ ap (λ l. old.read ++ l) (sym h.0)

pub given-read : (letter : Option Record) (old new : MailBook) → Reads letter old new → new.given ≡ old.given
given-read None old new h = ap (λ (m : MailBook). m.given) h.1
given-read (Some r) old new h = ap (λ (m : MailBook). m.given) h.1
