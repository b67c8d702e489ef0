-- Each kind of step, over plain values.
use Rattle.std.proofs.Common.{◌≡◌, ◌≢◌, ℕ, ◌<◌, List, [], ◌∷◌, ◌++◌, length, set, Option, Some, None, refl, sym, ap, ◌∙◌, arith, subst}
use Rattle.std.specs.Prelude.{option_map, slice_get}
use Rattle.std.proofs.lemmas.List.{length-set}
use Rattle.std.proofs.lemmas.Option.{same_Some, slice_get_within}
use Rattle.shard.specs.Mails.{MailBook, mail_seen, posted_of}
use Rattle.shard.specs.Stand.{Stand, Seat, Final, Seating, IsTold}
use Rattle.shard.specs.Turns.{TakenIn}
use Rattle.world.specs.declared.home.Home.{Home}
use Rattle.world.specs.declared.home.Home.TheVariants.{Handed, Seated, Queued, Left}
use Rattle.world.specs.declared.home.Desk.{Desk}
use Rattle.world.specs.declared.home.Place.{Place}
use Rattle.world.specs.declared.home.Place.TheVariants.{HandedOut, Resident, InDeque, Ended}
use Rattle.world.specs.Tenants.{Life, Standing, Over, Tenant, place_of}
use Rattle.world.specs.Places.{Places, shard_at, deque_at, stand_at, life_of, tenant_of, home_at}
use Rattle.world.specs.Kept.{IsKept, IsWorld, waits_of}
use Rattle.world.specs.Steps.{Changed, with_life}
use Rattle.world.proofs.Sitting.{sitting, Reseated, Moved, moved, stand_at-is, by_coming, nobody_sat}
use Rattle.world.proofs.KeptFacts.{rises, kept_standing, kept_over, kept_at, IsOver}
use Rattle.world.proofs.WorldFacts.{WaitsNow, Steps, keeps, changes, tenant_by_desk, desk_set, sits_at, sits_no_more, sits_nowhere, waits_same, waits_at, sits_has_desk}

-- what a step leaves that changed one name
pub record Outcome (w v : Places) (n : ℕ) (s t : Tenant) : Type 0 where
  pub world : IsWorld v
  pub changed : Changed w v n s t

pub outcome : (w v : Places) (n : ℕ) (d e : Desk) (s t : Tenant) → IsWorld w → Steps w v n e → slice_get w.desks n ≡ Some d → tenant_of w.shards d ≡ Some s → tenant_of v.shards e ≡ Some t → IsKept n t → Outcome w v n s t
outcome w v n d e s t h c was before after kept =
    record { world = keeps w v n e t h c after kept; changed = changes w v n d e s t h c was before after }

-- the tenant at a desk, by its life
abbrev pub tenant_with : Desk → Place → Life → Tenant
tenant_with d place life = record { place = place; life = life; closed = d.closed; last = d.last }

pub tenant_seated : (shards : List (Seating MailBook)) (d : Desk) (i slot : ℕ) (a : Stand MailBook) → d.home ≡ Seated i slot → stand_at shards i slot ≡ Some a → tenant_of shards d ≡ Some (tenant_with d (Resident i slot) (Standing a))
tenant_seated shards d i slot a home is =
    ap (λ (h : Home). option_map (tenant_with d (place_of h)) (life_of shards h)) home
    ∙ ap (λ (o : Option (Stand MailBook)). option_map (tenant_with d (Resident i slot)) (option_map Standing o)) is

pub tenant_here : (shards : List (Seating MailBook)) (d : Desk) (home : Home) (life : Life) → d.home ≡ home → life_of shards home ≡ Some life → tenant_of shards d ≡ Some (tenant_with d (place_of home) life)
tenant_here shards d home life same is =
    ap (λ (h : Home). option_map (tenant_with d (place_of h)) (life_of shards h)) same
    ∙ ap (option_map (tenant_with d (place_of home))) is

pub home_of : (desks : List Desk) (n : ℕ) (d : Desk) → slice_get desks n ≡ Some d → home_at desks n ≡ Some d.home
home_of desks n d e = ap (option_map (λ (x : Desk). x.home)) e

-- the desk of who sits in a slot
pub record HasDesk (w : Places) (i slot n : ℕ) (d : Desk) : Type 0 where
  pub found : slice_get w.desks n ≡ Some d
  pub home : d.home ≡ Seated i slot

pub desk_of_sitter : (w : Places) (i slot n : ℕ) (a : Stand MailBook) → IsWorld w → sitting (shard_at w.shards i) slot ≡ Some a → a.name ≡ n → (d : Desk) × HasDesk w i slot n d
desk_of_sitter w i slot n a h is name =
    let f = sits_has_desk w i slot a h (stand_at-is w.shards i slot ∙ is) in
    (f.0, record { found = subst (λ x. slice_get w.desks x ≡ Some f.0) name f.1; home = f.2 })

pub read_desk : (w : Places) (i slot n : ℕ) (a : Stand MailBook) (d : Desk) → IsWorld w → sitting (shard_at w.shards i) slot ≡ Some a → a.name ≡ n → slice_get w.desks n ≡ Some d → HasDesk w i slot n d
read_desk w i slot n a d h is name found =
    let f = desk_of_sitter w i slot n a h is name in
    let same : f.0 ≡ d = same_Some f.0 d (sym f.1.found ∙ found) in
    subst (HasDesk w i slot n) same f.1

pub one_seat : (home : Home) (i slot j k : ℕ) → home ≡ Seated i slot → Some home ≡ Some (Seated j k) → (j ≡ i) × (k ≡ slot)
one_seat home i slot j k is e = (cc, cc)

-- a resident changed in its slot
pub record SeatChange (w v : Places) (i slot n : ℕ) (a b : Stand MailBook) (s : Tenant) : Type 0 where
  pub world : IsWorld v
  pub resident : s.place ≡ Resident i slot
  pub was : s.life ≡ Standing a
  pub changed : Changed w v n s (with_life s (Standing b))

pub seat_changed : (w : Places) (i slot n : ℕ) (sh : Seating MailBook) (a b : Stand MailBook) → IsWorld w → i < length w.shards → Reseated (shard_at w.shards i) sh slot (Some b) → sitting (shard_at w.shards i) slot ≡ Some a → a.name ≡ n → b.name ≡ a.name → IsTold mail_seen b → posted_of b.mail ≡ posted_of a.mail → (s : Tenant) × SeatChange w (record w { shards = set w.shards i sh }) i slot n a b s
seat_changed w i slot n sh a b h within r is name same told posted =
    let f = desk_of_sitter w i slot n a h is name in
    let d : Desk = f.0 in
    let v : Places = record w { shards = set w.shards i sh } in
    let home : home_at w.desks n ≡ Some d.home = home_of w.desks n d f.1.found in
    let m : Moved w.shards (set w.shards i sh) i slot (Some b) = moved w.shards i sh slot (Some b) within r in
    let sat : stand_at w.shards i slot ≡ Some a = stand_at-is w.shards i slot ∙ is in
    let s : Tenant = tenant_with d (Resident i slot) (Standing a) in
    let t : Tenant = tenant_with d (Resident i slot) (Standing b) in
    let before : tenant_of w.shards d ≡ Some s = tenant_seated w.shards d i slot a f.1.home sat in
    let after : tenant_of v.shards d ≡ Some t = tenant_seated v.shards d i slot b f.1.home m.here in
    let old : IsKept n s = h.each n s (tenant_by_desk w n d f.1.found ∙ before) in
    let kept : IsKept n t = kept_standing n b (Resident i slot) d.closed d.last (posted_of a.mail) (same ∙ name) told posted (rises n s old) in
    let c : Steps w v n d = record {
      desk = record { here = f.1.found; others = λ m ne. refl };
      sits = sits_at w v.shards n i slot d b h m (same ∙ name) (λ x q. ap (λ (y : Stand MailBook). y.name) (same_Some x a (sym q ∙ sat)) ∙ name) f.1.home (λ j k q. one_seat d.home i slot j k f.1.home (sym home ∙ q));
      waits = waits_same w n d h (λ j. ap (λ o. waits_of o j) home);
      as_many = h.as_many ∙ sym (length-set w.shards i sh);
    } in
    let o : Outcome w v n s t = outcome w v n d d s t h c f.1.found before after kept in
    (s, record { world = o.world; resident = refl; was = refl; changed = o.changed })

pub not_seated : (home : Home) (j k : ℕ) (o : Option Home) → o ≡ Some home → ((i l : ℕ) → home ≢ Seated i l) → o ≢ Some (Seated j k)
not_seated home j k o e never = λ q. never j k (same_Some home (Seated j k) (sym e ∙ q))

-- a resident left its slot, for another home
pub seat_left : (w : Places) (i slot n : ℕ) (sh : Seating MailBook) (a : Stand MailBook) (d e : Desk) (deques : List (List ℕ)) (t : Tenant) → IsWorld w → i < length w.shards → Reseated (shard_at w.shards i) sh slot None → sitting (shard_at w.shards i) slot ≡ Some a → a.name ≡ n → HasDesk w i slot n d → ((j k : ℕ) → e.home ≢ Seated j k) → WaitsNow w.deques deques n e → length deques ≡ length w.deques → tenant_of (set w.shards i sh) e ≡ Some t → IsKept n t → Outcome w (record { desks = set w.desks n e; shards = set w.shards i sh; deques = deques }) n (tenant_with d (Resident i slot) (Standing a)) t
seat_left w i slot n sh a d e deques t h within r is name f gone waits long after kept =
    let v : Places = record { desks = set w.desks n e; shards = set w.shards i sh; deques = deques } in
    let home : home_at w.desks n ≡ Some d.home = home_of w.desks n d f.found in
    let m : Moved w.shards (set w.shards i sh) i slot None = moved w.shards i sh slot None within r in
    let sat : stand_at w.shards i slot ≡ Some a = stand_at-is w.shards i slot ∙ is in
    let s : Tenant = tenant_with d (Resident i slot) (Standing a) in
    let before : tenant_of w.shards d ≡ Some s = tenant_seated w.shards d i slot a f.home sat in
    let c : Steps w v n e = record {
      desk = desk_set w.desks n e (slice_get_within w.desks n d f.found);
      sits = sits_no_more w v.shards n i slot e h m (home ∙ ap Some f.home) gone;
      waits = waits;
      as_many = long ∙ h.as_many ∙ sym (length-set w.shards i sh);
    } in
    outcome w v n d e s t h c f.found before after kept

-- what is kept of who sits in a slot
pub seat_kept : (w : Places) (i slot n : ℕ) (a : Stand MailBook) (d : Desk) → IsWorld w → sitting (shard_at w.shards i) slot ≡ Some a → HasDesk w i slot n d → IsKept n (tenant_with d (Resident i slot) (Standing a))
seat_kept w i slot n a d h is f =
    h.each n (tenant_with d (Resident i slot) (Standing a)) (tenant_by_desk w n d f.found ∙ tenant_seated w.shards d i slot a f.home (stand_at-is w.shards i slot ∙ is))

-- no home in a slot waits anywhere
pub seated_waits : (w : Places) (i slot n : ℕ) (d : Desk) → HasDesk w i slot n d → (j : ℕ) → waits_of (home_at w.desks n) j ≡ 0
seated_waits w i slot n d f j = ap (λ o. waits_of o j) (home_of w.desks n d f.found ∙ ap Some f.home)

-- a resident ended
pub seat_ended : (w : Places) (i slot n : ℕ) (sh : Seating MailBook) (a : Stand MailBook) (d : Desk) (x : Final MailBook) → IsWorld w → i < length w.shards → Reseated (shard_at w.shards i) sh slot None → sitting (shard_at w.shards i) slot ≡ Some a → a.name ≡ n → x.name ≡ n → slice_get w.desks n ≡ Some d → IsOver x → posted_of x.mail ≡ posted_of a.mail → Outcome w (record { desks = set w.desks n (record d { home = Left x }); shards = set w.shards i sh; deques = w.deques }) n (tenant_with d (Resident i slot) (Standing a)) (tenant_with d Ended (Over x))
seat_ended w i slot n sh a d x h within r is name same found over posted =
    let f : HasDesk w i slot n d = read_desk w i slot n a d h is name found in
    let e : Desk = record d { home = Left x } in
    seat_left w i slot n sh a d e w.deques (tenant_with d Ended (Over x)) h within r is name f (λ j k q. cc) (waits_same w n e h (seated_waits w i slot n d f)) refl refl (kept_over n x Ended d.closed d.last (posted_of a.mail) same over posted (rises n (tenant_with d (Resident i slot) (Standing a)) (seat_kept w i slot n a d h is f)))

-- a resident came to the back of a deque
pub seat_queued : (w : Places) (i slot n : ℕ) (sh : Seating MailBook) (a : Stand MailBook) (d : Desk) → IsWorld w → i < length w.shards → Reseated (shard_at w.shards i) sh slot None → sitting (shard_at w.shards i) slot ≡ Some a → a.name ≡ n → slice_get w.desks n ≡ Some d → Outcome w (record { desks = set w.desks n (record d { home = Queued i a }); shards = set w.shards i sh; deques = set w.deques i (deque_at w.deques i ++ n ∷ []) }) n (tenant_with d (Resident i slot) (Standing a)) (tenant_with d (InDeque i) (Standing a))
seat_queued w i slot n sh a d h within r is name found =
    let f : HasDesk w i slot n d = read_desk w i slot n a d h is name found in
    let e : Desk = record d { home = Queued i a } in
    let later : List ℕ = deque_at w.deques i ++ n ∷ [] in
    seat_left w i slot n sh a d e (set w.deques i later) (tenant_with d (InDeque i) (Standing a)) h within r is name f (λ j k q. cc) (waits_at w n i e a h (omega (arith, within, h.as_many)) (seated_waits w i slot n d f) refl) (length-set w.deques i later) refl (kept_at n (tenant_with d (Resident i slot) (Standing a)) (InDeque i) (seat_kept w i slot n a d h is f))

-- a resident is handed out
pub seat_handed : (w : Places) (i slot n : ℕ) (sh : Seating MailBook) (a : Stand MailBook) (d : Desk) → IsWorld w → i < length w.shards → Reseated (shard_at w.shards i) sh slot None → sitting (shard_at w.shards i) slot ≡ Some a → a.name ≡ n → slice_get w.desks n ≡ Some d → Outcome w (record { desks = set w.desks n (record d { home = Handed a }); shards = set w.shards i sh; deques = w.deques }) n (tenant_with d (Resident i slot) (Standing a)) (tenant_with d HandedOut (Standing a))
seat_handed w i slot n sh a d h within r is name found =
    let f : HasDesk w i slot n d = read_desk w i slot n a d h is name found in
    let e : Desk = record d { home = Handed a } in
    seat_left w i slot n sh a d e w.deques (tenant_with d HandedOut (Standing a)) h within r is name f (λ j k q. cc) (waits_same w n e h (seated_waits w i slot n d f)) refl refl (kept_at n (tenant_with d (Resident i slot) (Standing a)) HandedOut (seat_kept w i slot n a d h is f))

-- one that was not resident comes to a slot
pub comes : (w : Places) (i slot n : ℕ) (sh : Seating MailBook) (seat : Seat MailBook) (p : Stand MailBook) (d : Desk) (deques : List (List ℕ)) (place : Place) → IsWorld w → i < length w.shards → TakenIn p (shard_at w.shards i) sh slot seat → slice_get w.desks n ≡ Some d → ((j k : ℕ) → d.home ≢ Seated j k) → tenant_of w.shards d ≡ Some (tenant_with d place (Standing p)) → WaitsNow w.deques deques n (record d { home = Seated i slot }) → length deques ≡ length w.deques → Outcome w (record { desks = set w.desks n (record d { home = Seated i slot }); shards = set w.shards i sh; deques = deques }) n (tenant_with d place (Standing p)) (tenant_with d (Resident i slot) (Standing p))
comes w i slot n sh seat p d deques place h within taken found never before waits long =
    let e : Desk = record d { home = Seated i slot } in
    let v : Places = record { desks = set w.desks n e; shards = set w.shards i sh; deques = deques } in
    let s : Tenant = tenant_with d place (Standing p) in
    let t : Tenant = tenant_with d (Resident i slot) (Standing p) in
    let m : Moved w.shards (set w.shards i sh) i slot (Some p) = moved w.shards i sh slot (Some p) within (by_coming p (shard_at w.shards i) sh slot seat taken) in
    let old : IsKept n s = h.each n s (tenant_by_desk w n d found ∙ before) in
    let empty : stand_at w.shards i slot ≡ None = stand_at-is w.shards i slot ∙ nobody_sat (shard_at w.shards i) slot taken.vacant in
    let after : tenant_of v.shards e ≡ Some t = tenant_seated v.shards e i slot p refl m.here in
    let c : Steps w v n e = record {
      desk = desk_set w.desks n e (slice_get_within w.desks n d found);
      sits = sits_at w v.shards n i slot e p h m old.name (λ x q. let no : None ≡ Some x = sym empty ∙ q in absurd (cc)) refl (λ j k q. absurd (not_seated d.home j k (home_at w.desks n) (home_of w.desks n d found) never q));
      waits = waits;
      as_many = long ∙ h.as_many ∙ sym (length-set w.shards i sh);
    } in
    outcome w v n d e s t h c found before after (kept_at n s (Resident i slot) old)

-- one that was not resident is handed out
pub goes_out : (w : Places) (n : ℕ) (p : Stand MailBook) (d : Desk) (deques : List (List ℕ)) (place : Place) → IsWorld w → slice_get w.desks n ≡ Some d → ((j k : ℕ) → d.home ≢ Seated j k) → tenant_of w.shards d ≡ Some (tenant_with d place (Standing p)) → WaitsNow w.deques deques n (record d { home = Handed p }) → length deques ≡ length w.deques → Outcome w (record { desks = set w.desks n (record d { home = Handed p }); shards = w.shards; deques = deques }) n (tenant_with d place (Standing p)) (tenant_with d HandedOut (Standing p))
goes_out w n p d deques place h found never before waits long =
    let e : Desk = record d { home = Handed p } in
    let v : Places = record { desks = set w.desks n e; shards = w.shards; deques = deques } in
    let s : Tenant = tenant_with d place (Standing p) in
    let t : Tenant = tenant_with d HandedOut (Standing p) in
    let old : IsKept n s = h.each n s (tenant_by_desk w n d found ∙ before) in
    let c : Steps w v n e = record {
      desk = desk_set w.desks n e (slice_get_within w.desks n d found);
      sits = sits_nowhere w w.shards n e h (λ i k. refl) (λ j k. not_seated d.home j k (home_at w.desks n) (home_of w.desks n d found) never) (λ j k q. cc);
      waits = waits;
      as_many = long ∙ h.as_many;
    } in
    outcome w v n d e s t h c found before refl (kept_at n s HandedOut old)
