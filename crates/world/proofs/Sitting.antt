-- Who sits where after a shard changed.
use Rattle.std.proofs.Common.{zero, suc, ◌≡◌, ◌≢◌, ℕ, ◌<◌, ◌≤◌, List, [], ◌∷◌, length, get_or, set, Option, Some, None, refl, sym, ap, ◌∙◌, subst, inl, inr}
use Rattle.std.proofs.lemmas.Bool.{cases_eq, cases_lt}
use Rattle.std.proofs.lemmas.List.{get_or_past, get_or-set_same, get_or-set_other}
use Rattle.shard.specs.Mails.{MailBook, mail_seen}
use Rattle.shard.specs.Stand.{Stand, Seat, Final, Seating, seat_at, stand_in, stands_of}
use Rattle.shard.specs.Posts.{with_mail, ChangedMail}
use Rattle.shard.specs.Turns.{RanAt, EndedAt, TakenIn, PackedAt, PolledAt, IsRebased, Settles}
use Rattle.shard.specs.declared.shard.Polled.{Polled}
use Rattle.world.specs.Places.{shard_at, stand_at}

-- who sits in a slot
abbrev pub sitting : Seating MailBook → ℕ → Option (Stand MailBook)
sitting s slot = get_or (stands_of s.seats) slot None

sitting_is : (s : Seating MailBook) (slot : ℕ) → sitting s slot ≡ stand_in (seat_at s.seats slot)
sitting_is s slot = go s.seats slot
  where
    go : (seats : List (Option (Seat MailBook))) (k : ℕ) → get_or (stands_of seats) k None ≡ stand_in (seat_at seats k)
    go [] k = refl
    go (x ∷ xs) zero = refl
    go (x ∷ xs) (suc k) = go xs k

-- one slot of a seating became another
pub record Reseated (s t : Seating MailBook) (slot : ℕ) (x : Option (Stand MailBook)) : Type 0 where
  pub here : sitting t slot ≡ x
  pub others : (k : ℕ) → k ≢ slot → sitting t k ≡ sitting s k

seat_within : (seats : List (Option (Seat MailBook))) (k : ℕ) (s : Seat MailBook) → seat_at seats k ≡ Some s → k < length seats
seat_within seats k s e = elim (cases_lt k (length seats)) [
  | inl h ↦ h
  | inr past ↦ let none : seat_at seats k ≡ None = get_or_past seats k None past in absurd (cc)
]

reseated_others : (s t : Seating MailBook) (slot : ℕ) (x : Option (Seat MailBook)) → t.seats ≡ set s.seats slot x → (k : ℕ) → k ≢ slot → sitting t k ≡ sitting s k
reseated_others s t slot x e k n =
    sitting_is t k ∙ ap (λ l. stand_in (seat_at l k)) e ∙ ap stand_in (get_or-set_other s.seats slot k x None n) ∙ sym (sitting_is s k)

reseated : (s t : Seating MailBook) (slot : ℕ) (was : Seat MailBook) (x : Option (Seat MailBook)) → seat_at s.seats slot ≡ Some was → t.seats ≡ set s.seats slot x → Reseated s t slot (stand_in x)
reseated s t slot was x h e = record {
  here = sitting_is t slot ∙ ap (λ l. stand_in (seat_at l slot)) e ∙ ap stand_in (get_or-set_same s.seats slot x None (seat_within s.seats slot was h));
  others = reseated_others s t slot x e;
}

-- who is there now
pub there_is : (s t : Seating MailBook) (slot : ℕ) (was x : Seat MailBook) → seat_at s.seats slot ≡ Some was → t.seats ≡ set s.seats slot (Some x) → seat_at t.seats slot ≡ Some x
there_is s t slot was x h e =
    ap (λ l. seat_at l slot) e ∙ get_or-set_same s.seats slot (Some x) None (seat_within s.seats slot was h)

-- who was there
pub sat : (s : Seating MailBook) (slot : ℕ) (was : Seat MailBook) → seat_at s.seats slot ≡ Some was → sitting s slot ≡ Some was.stand
sat s slot was h = sitting_is s slot ∙ ap stand_in h

pub nobody_sat : (s : Seating MailBook) (slot : ℕ) → seat_at s.seats slot ≡ None → sitting s slot ≡ None
nobody_sat s slot h = sitting_is s slot ∙ ap stand_in h

-- a time that began anew leaves everybody there
pub settled : (s t : Seating MailBook) → Settles s t → (k : ℕ) → sitting t k ≡ sitting s k
settled s t (inl e) k = ap (λ x. sitting x k) e.1
settled s t (inr r) k = ap (λ l. get_or l k None) r.1.stands

pub rebased : (s t : Seating MailBook) → IsRebased s t → (k : ℕ) → sitting t k ≡ sitting s k
rebased s t r k = ap (λ l. get_or l k None) r.stands

-- what is shown was not by that time
pub after_settled : (s m t : Seating MailBook) (slot : ℕ) (x : Option (Stand MailBook)) → Settles s m → Reseated m t slot x → Reseated s t slot x
after_settled s m t slot x h r = record { here = r.here; others = λ k n. r.others k n ∙ settled s m h k }

pub by_run : (name : ℕ) (s t : Seating MailBook) (slot : ℕ) (a b : Seat MailBook) → RanAt mail_seen name s t slot a b → Reseated s t slot (Some b.stand)
by_run name s t slot a b r = reseated s t slot a (Some b) r.was r.others

pub by_end : (d : Final MailBook) (s t : Seating MailBook) (slot : ℕ) (a : Seat MailBook) → EndedAt mail_seen d s t slot a → Reseated s t slot None
by_end d s t slot a r = reseated s t slot a None r.was r.others

pub by_poll : (answer : Polled) (s t : Seating MailBook) (slot : ℕ) (a b : Seat MailBook) → PolledAt mail_seen answer s t slot a b → Reseated s t slot (Some b.stand)
by_poll answer s t slot a b r = reseated s t slot a (Some b) r.was (ap (λ (x : Seating MailBook). x.seats) r.others)

pub by_packing : (p : Stand MailBook) (s t : Seating MailBook) (slot : ℕ) (a : Seat MailBook) → PackedAt p s t slot a → Reseated s t slot None
by_packing p s t slot a r = reseated s t slot a None r.was r.others

pub by_coming : (p : Stand MailBook) (s t : Seating MailBook) (slot : ℕ) (a : Seat MailBook) → TakenIn p s t slot a → Reseated s t slot (Some p)
by_coming p s t slot a r = record {
  here = sat t slot a r.there ∙ ap Some r.same;
  others = reseated_others s t slot (Some a) r.others;
}

pub by_mail : (s t : Seating MailBook) (slot : ℕ) (a : Seat MailBook) (mail : MailBook) → ChangedMail s t slot a mail → Reseated s t slot (Some (record a.stand { mail = mail }))
by_mail s t slot a mail r = reseated s t slot a (Some (with_mail a mail)) r.was (ap (λ (x : Seating MailBook). x.seats) r.changed)

-- one slot of one shard became another
pub record Moved (before after : List (Seating MailBook)) (i slot : ℕ) (x : Option (Stand MailBook)) : Type 0 where
  pub here : stand_at after i slot ≡ x
  pub others : (j k : ℕ) → (j ≡ i → k ≡ slot → ⊥) → stand_at after j k ≡ stand_at before j k

pub stand_at-is : (shards : List (Seating MailBook)) (i k : ℕ) → stand_at shards i k ≡ sitting (shard_at shards i) k
unfolding stand_at
stand_at-is shards i k = refl

at_set : (shards : List (Seating MailBook)) (i : ℕ) (sh : Seating MailBook) (k : ℕ) → i < length shards → stand_at (set shards i sh) i k ≡ sitting sh k
at_set shards i sh k h =
    stand_at-is (set shards i sh) i k ∙ ap (λ x. sitting x k) (get_or-set_same shards i sh (record { seats = []; clock = 0 }) h)

at_set_other : (shards : List (Seating MailBook)) (i j : ℕ) (sh : Seating MailBook) (k : ℕ) → j ≢ i → stand_at (set shards i sh) j k ≡ stand_at shards j k
at_set_other shards i j sh k n =
    stand_at-is (set shards i sh) j k ∙ ap (λ x. sitting x k) (get_or-set_other shards i j sh (record { seats = []; clock = 0 }) n) ∙ sym (stand_at-is shards j k)

pub moved : (shards : List (Seating MailBook)) (i : ℕ) (sh : Seating MailBook) (slot : ℕ) (x : Option (Stand MailBook)) → i < length shards → Reseated (shard_at shards i) sh slot x → Moved shards (set shards i sh) i slot x
moved shards i sh slot x h r = record {
  here = at_set shards i sh slot h ∙ r.here;
  others = λ j k n. elim (cases_eq j i) [
    | inl e ↦ subst (λ l. stand_at (set shards i sh) l k ≡ stand_at shards l k) (sym e) (at_set shards i sh k h ∙ r.others k (n e) ∙ sym (stand_at-is shards i k))
    | inr o ↦ at_set_other shards i j sh k o
  ];
}

-- a shard in which nobody moved
pub unmoved : (shards : List (Seating MailBook)) (i : ℕ) (sh : Seating MailBook) → i < length shards → ((k : ℕ) → sitting sh k ≡ sitting (shard_at shards i) k) → (j k : ℕ) → stand_at (set shards i sh) j k ≡ stand_at shards j k
unmoved shards i sh h same j k = elim (cases_eq j i) [
  | inl e ↦ subst (λ l. stand_at (set shards i sh) l k ≡ stand_at shards l k) (sym e) (at_set shards i sh k h ∙ same k ∙ sym (stand_at-is shards i k))
  | inr o ↦ at_set_other shards i j sh k o
]

-- who sits somewhere sits in a shard that is there
pub shard_within : (shards : List (Seating MailBook)) (i slot : ℕ) (s : Seat MailBook) → seat_at (shard_at shards i).seats slot ≡ Some s → i < length shards
shard_within shards i slot s e = elim (cases_lt i (length shards)) [
  | inl h ↦ h
  | inr past ↦
      let none : (shard_at shards i).seats ≡ [] = ap (λ (x : Seating MailBook). x.seats) (get_or_past shards i (record { seats = []; clock = 0 }) past) in
      let e' : seat_at [] slot ≡ Some s = subst (λ (l : List (Option (Seat MailBook))). seat_at l slot ≡ Some s) none e in
      absurd (cc)
]

pub nobody_past : (shards : List (Seating MailBook)) (i slot : ℕ) → length shards ≤ i → stand_at shards i slot ≡ None
nobody_past shards i slot past = stand_at-is shards i slot ∙ ap (λ x. sitting x slot) (get_or_past shards i (record { seats = []; clock = 0 }) past)
