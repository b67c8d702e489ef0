-- What a name's tenant keeps through a step.
use Rattle.std.proofs.Common.{◌≡◌, ℕ, ◌≤◌, List, [], ◌∷◌, ◌++◌, take, drop, Bool, Some, sym, ap, ◌∙◌, subst, inl, inr}
use Rattle.std.proofs.lemmas.List.{append_assoc, take-append-drop}
use Rattle.emu_model.specs.declared.commands.Timed.{Timed}
use Rattle.emu_model.specs.declared.records.Record.{Record}
use Rattle.emu_model.specs.Net.{counters_of}
use Rattle.emu_model.specs.Step.{State}
use Rattle.emu_model.specs.Alone.{alone}
use Rattle.experiment.specs.Kept.{last_moment}
use Rattle.shard.specs.Seen.{Seen}
use Rattle.shard.specs.Mails.{MailBook, mail_seen, letters_of, posted_of}
use Rattle.shard.specs.Stand.{Stand, Seat, Final, IsTold, heard_from}
use Rattle.shard.specs.Posts.{with_command, Reads}
use Rattle.shard.specs.Turns.{IsTurn, IsEnd, Polls}
use Rattle.shard.specs.declared.shard.Polled.{Polled}
use Rattle.shard.specs.declared.shard.Polled.TheVariants.{Vacant, Took, Resumed, Held, Empty, NoMemory}
use Rattle.world.specs.declared.home.Place.{Place}
use Rattle.world.specs.Tenants.{Life, Standing, Over, Tenant, Shown, shown, name_of, with_mail}
use Rattle.world.specs.Kept.{IsAlone, IsAloneState, IsPosted, AreLetters, IsKept}
use Rattle.world.proofs.Heard.{heard-front, heard-push, last-push}

-- what is kept of the posts to a name
pub record Rises (posted : List Timed) (last : ℕ) : Type 0 where
  pub rising : heard_from [] posted ≡ posted
  pub last_is : last ≡ last_moment 0 posted

pub rises : (n : ℕ) (t : Tenant) → IsKept n t → Rises (posted_of (shown t.life).mail) t.last
rises n t h = record { rising = h.rising; last_is = h.last }

-- one that goes on
pub kept_standing : (n : ℕ) (s : Stand MailBook) (place : Place) (closed : Bool) (last : ℕ) (posted : List Timed) → s.name ≡ n → IsTold mail_seen s → posted_of s.mail ≡ posted → Rises posted last → IsKept n (record { place = place; life = Standing s; closed = closed; last = last })
kept_standing n s place closed last posted e told same r = record {
  name = e;
  is_alone = record { records = ap (λ (x : State). x.net.records) told.shown; counters = ap (λ (x : State). counters_of x.net) told.shown };
  whole = told.shown;
  takes = sym (ap (λ (x : State). x.steps) told.shown);
  heard = told.heard;
  told = (s.published, told.told);
  rising = subst (λ l. heard_from [] l ≡ l) (sym same) r.rising;
  last = r.last_is ∙ ap (last_moment 0) (sym same);
}

-- what a dossier tells of itself
pub record IsOver (d : Final MailBook) : Type 0 where
  pub records : d.records ≡ (alone d.spec d.commands d.events).net.records
  pub counters : d.counters ≡ counters_of (alone d.spec d.commands d.events).net
  pub made : (alone d.spec d.commands d.events).steps ≡ d.events
  pub heard : d.commands ≡ heard_from [] (mail_seen d.mail).given
  pub told : (published : ℕ) × ((mail_seen d.mail).letters ≡ take published d.records)

pub kept_over : (n : ℕ) (d : Final MailBook) (place : Place) (closed : Bool) (last : ℕ) (posted : List Timed) → d.name ≡ n → IsOver d → posted_of d.mail ≡ posted → Rises posted last → IsKept n (record { place = place; life = Over d; closed = closed; last = last })
kept_over n d place closed last posted e h same r = record {
  name = e;
  is_alone = record { records = h.records; counters = h.counters };
  whole = tt;
  takes = h.made;
  heard = h.heard;
  told = h.told;
  rising = subst (λ l. heard_from [] l ≡ l) (sym same) r.rising;
  last = r.last_is ∙ ap (last_moment 0) (sym same);
}

-- the same at another place
pub kept_at : (n : ℕ) (t : Tenant) (place : Place) → IsKept n t → IsKept n (record t { place = place })
kept_at n t place h = record {
  name = h.name;
  is_alone = h.is_alone;
  whole = h.whole;
  takes = h.takes;
  heard = h.heard;
  told = h.told;
  rising = h.rising;
  last = h.last;
}

-- the same with another mail, that gave the same and has the same letters
pub record SameMail (old new : MailBook) : Type 0 where
  pub given : new.given ≡ old.given
  pub letters : letters_of new ≡ letters_of old

pub kept_mail : (n : ℕ) (t : Tenant) (mail : MailBook) (closed : Bool) (last : ℕ) → IsKept n t → SameMail (shown t.life).mail mail → Rises (posted_of mail) last → IsKept n (record { place = t.place; life = with_mail t.life mail; closed = closed; last = last })
kept_mail n t mail closed last h m r = go t.life h.name h.is_alone h.whole h.takes h.heard h.told m
  where
    go : (life : Life) → name_of life ≡ n → IsAlone (shown life) → IsAloneState life → (alone (shown life).spec (shown life).commands (shown life).events).steps ≡ (shown life).events → (shown life).commands ≡ heard_from [] (shown life).mail.given → ((published : ℕ) × (letters_of (shown life).mail ≡ take published (shown life).records)) → SameMail (shown life).mail mail → IsKept n (record { place = t.place; life = with_mail life mail; closed = closed; last = last })
    go (Standing s) e a w k d o m = record {
      name = e;
      is_alone = record { records = a.records; counters = a.counters };
      whole = w;
      takes = k;
      heard = d ∙ ap (heard_from []) (sym m.given);
      told = (o.0, m.letters ∙ o.1);
      rising = r.rising;
      last = r.last_is;
    }
    go (Over s) e a w k d o m = record {
      name = e;
      is_alone = record { records = a.records; counters = a.counters };
      whole = tt;
      takes = k;
      heard = d ∙ ap (heard_from []) (sym m.given);
      told = (o.0, m.letters ∙ o.1);
      rising = r.rising;
      last = r.last_is;
    }

-- one more command is posted
pub rises_by_post : (m : MailBook) (timed : Timed) (last : ℕ) → Rises (posted_of m) last → last ≤ timed.moment → Rises (posted_of (with_command m timed)) timed.moment
rises_by_post m timed last r late =
    let more : posted_of (with_command m timed) ≡ posted_of m ++ timed ∷ [] = sym (append_assoc m.given m.waiting (timed ∷ [])) in
    let late' : last_moment 0 (posted_of m) ≤ timed.moment = subst (λ k. k ≤ timed.moment) r.last_is late in
    record {
      rising = subst (λ l. heard_from [] l ≡ l) (sym more) (heard-push (posted_of m) timed r.rising late');
      last_is = sym (last-push 0 (posted_of m) timed) ∙ ap (last_moment 0) (sym more);
    }

-- a letter is read
pub mail_by_read : (old new : MailBook) (r : Record) → Reads (Some r) old new → SameMail old new
mail_by_read old new r h = record {
  given = ap (λ (m : MailBook). m.given) h.1;
  letters = ap (λ (m : MailBook). m.read ++ new.unread) h.1 ∙ append_assoc old.read (r ∷ []) new.unread ∙ ap (λ l. old.read ++ l) (sym h.0);
}

pub posted_by_read : (old new : MailBook) (r : Record) → Reads (Some r) old new → posted_of new ≡ posted_of old
posted_by_read old new r h = ap (λ (m : MailBook). m.given ++ m.waiting) h.1

-- what was posted stays
pub posted_by_turn : (s t : Stand MailBook) → IsTurn mail_seen s t → posted_of t.mail ≡ posted_of s.mail
posted_by_turn s t h = ap (λ (x : Seen). x.posted) h.mail

pub posted_by_end : (s : Stand MailBook) (d : Final MailBook) → IsEnd mail_seen s d → posted_of d.mail ≡ posted_of s.mail
posted_by_end s d h = ap (λ (x : Seen). x.posted) h.mail

pub posted_by_poll : (answer : Polled) (s t : Seat MailBook) → Polls mail_seen answer s t → posted_of t.stand.mail ≡ posted_of s.stand.mail
posted_by_poll Vacant s t h = absurd h
posted_by_poll (Took n) s t h = h.1.1.mail.posted
posted_by_poll (Resumed n) s t h = ap (λ (x : Seen). x.posted) h.2
posted_by_poll (Held n) s t h = ap (λ (x : Seen). x.posted) h.2
posted_by_poll (Empty n) s t h = elim h.2 [
  | inl dry ↦ ap (λ (x : Seen). x.posted) dry.1
  | inr late ↦ late.2.posted
]
posted_by_poll (NoMemory n) s t h = ap (λ (x : Seen). x.posted) h.2

pub name_by_poll : (answer : Polled) (s t : Seat MailBook) → Polls mail_seen answer s t → t.stand.name ≡ s.stand.name
name_by_poll Vacant s t h = absurd h
name_by_poll (Took n) s t h = h.1.1.name
name_by_poll (Resumed n) s t h = h.1.name
name_by_poll (Held n) s t h = h.1.name
name_by_poll (Empty n) s t h = h.1.name
name_by_poll (NoMemory n) s t h = h.1.name

-- what was posted are the commands that came, and those that wait
pub is_posted : (n : ℕ) (t : Tenant) → IsKept n t → IsPosted (shown t.life)
is_posted n t h =
    let m : MailBook = (shown t.life).mail in
    ap (λ l. l ++ m.waiting) (sym (h.heard ∙ heard-front m.given m.waiting h.rising))

pub are_letters : (n : ℕ) (t : Tenant) → IsKept n t → AreLetters (shown t.life)
are_letters n t h =
    let v : Shown = shown t.life in
    let k : ℕ = h.told.0 in
    (drop k v.records, sym (take-append-drop k v.records) ∙ ap (λ l. l ++ drop k v.records) (sym h.told.1))
