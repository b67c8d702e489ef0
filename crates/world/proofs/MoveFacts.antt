-- What moves leave of a world.
use Rattle.std.proofs.Common.{◌≡◌, ◌≢◌, ℕ, ◌<◌, List, [], ◌∷◌, ◌++◌, length, set, Some, refl, sym, ap, ◌∙◌, subst, inl, inr}
use Rattle.std.specs.Prelude.{slice_get}
use Rattle.std.proofs.lemmas.List.{length-set}
use Rattle.std.proofs.lemmas.Option.{slice_get_within, same_Some}
use Rattle.shard.specs.Mails.{MailBook}
use Rattle.shard.specs.Stand.{Stand, Seat, Seating}
use Rattle.shard.specs.Turns.{PackedAt}
use Rattle.world.specs.declared.steps.Did.{Did}
use Rattle.world.specs.declared.steps.Did.TheVariants.{Done, Still, NoMemory}
use Rattle.world.specs.declared.home.Home.{Home}
use Rattle.world.specs.declared.home.Home.TheVariants.{Handed, Seated, Queued}
use Rattle.world.specs.declared.home.Desk.{Desk}
use Rattle.world.specs.declared.home.Place.TheVariants.{HandedOut, Resident, InDeque}
use Rattle.world.specs.Tenants.{Standing, Tenant}
use Rattle.world.specs.Places.{Places, shard_at, deque_at, home_at}
use Rattle.world.specs.Kept.{IsWorld, waits_of}
use Rattle.world.specs.Steps.{Houses, IsAdmission, IsBringing, Brings, did_bring, IsOffer}
use Rattle.world.proofs.Lists.{set_same, set_found}
use Rattle.world.proofs.Sitting.{by_packing, sat}
use Rattle.world.proofs.WorldFacts.{waits_same, waits_no_more, front_waits}
use Rattle.world.proofs.StepFacts.{Outcome, tenant_with, tenant_here, home_of, comes, goes_out, seat_queued, seat_handed, desk_of_sitter}

-- a world of which one desk, one shard and the deques changed
abbrev pub moved_world : Places → ℕ → Desk → ℕ → Seating MailBook → List (List ℕ) → Places
moved_world w n e i sh deques = record { desks = set w.desks n e; shards = set w.shards i sh; deques = deques }

abbrev pub at_home : Desk → Home → Desk
at_home d home = record d { home = home }

never_seated : (home other : Home) → home ≡ other → ((j k : ℕ) → other ≢ Seated j k) → (j k : ℕ) → home ≢ Seated j k
never_seated home other e n j k = λ q. n j k (sym e ∙ q)

-- nothing changed
unchanged : (w : Places) (n i : ℕ) (d : Desk) (home : Home) (sh : Seating MailBook) → slice_get w.desks n ≡ Some d → home ≡ d.home → sh ≡ shard_at w.shards i → moved_world w n (at_home d home) i sh w.deques ≡ w
unchanged w n i d home sh found h s =
    let a : set w.desks n (at_home d home) ≡ w.desks = ap (λ x. set w.desks n (at_home d x)) h ∙ set_found w.desks n d found in
    let b : set w.shards i sh ≡ w.shards = set_same w.shards i sh (record { seats = []; clock = 0 }) s in
    λ k. record { desks = a k; shards = b k; deques = w.deques }

pub record AfterAdmit (w v : Places) (n i : ℕ) (did : Did) : Type 0 where
  pub world : IsWorld v
  pub admission : IsAdmission n i did w v

pub admit_in : (w : Places) (n i : ℕ) (d : Desk) (p : Stand MailBook) (did : Did) (home : Home) (sh : Seating MailBook) → IsWorld w → i < length w.shards → slice_get w.desks n ≡ Some d → d.home ≡ Handed p → Houses p i did home (shard_at w.shards i) sh → AfterAdmit w (moved_world w n (at_home d home) i sh w.deques) n i did
admit_in w n i d p Done home sh h within found is k =
    let slot : ℕ = k.0 in
    let e : Desk = at_home d (Seated i slot) in
    let at : home_at w.desks n ≡ Some (Handed p) = home_of w.desks n d found ∙ ap Some is in
    let o = comes w i slot n sh k.1 p d w.deques HandedOut h within k.2 found (never_seated d.home (Handed p) is (λ j l q. cc)) (tenant_here w.shards d (Handed p) (Standing p) is refl) (waits_same w n e h (λ j. ap (λ x. waits_of x j) at)) refl in
    let s : Tenant = tenant_with d HandedOut (Standing p) in
    let done : AfterAdmit w (moved_world w n e i sh w.deques) n i Done = record {
      world = o.world;
      admission = (slot, s, sh, p, k.1, record { handed = refl; changed = o.changed; taken_in = k.2; shards = refl; deques = refl });
    } in
    subst (λ x. AfterAdmit w (moved_world w n (at_home d x) i sh w.deques) n i Done) (sym k.3) done
admit_in w n i d p Still home sh h within found is k =
    let same = unchanged w n i d home sh found (k.0 ∙ sym is) k.1 in
    record { world = subst IsWorld (sym same) h; admission = (same, inr (inr k.2)) }
admit_in w n i d p NoMemory home sh h within found is k =
    let same = unchanged w n i d home sh found (k.0 ∙ sym is) k.1 in
    record { world = subst IsWorld (sym same) h; admission = (same, within, (d, p, found, is), k.2) }

pub record AfterBringing (w v : Places) (i from : ℕ) (did : Did) : Type 0 where
  pub world : IsWorld v
  pub bringing : IsBringing i from did w v

-- one that came out of a deque and is handed out
out_of : (w : Places) (n i from : ℕ) (names : List ℕ) (d : Desk) (p : Stand MailBook) → IsWorld w → from < length w.deques → deque_at w.deques from ≡ n ∷ names → slice_get w.desks n ≡ Some d → d.home ≡ Queued from p → Outcome w (record { desks = set w.desks n (at_home d (Handed p)); shards = w.shards; deques = set w.deques from names }) n (tenant_with d (InDeque from) (Standing p)) (tenant_with d HandedOut (Standing p))
out_of w n i from names d p h deep front found is =
    let at : home_at w.desks n ≡ Some (Queued from p) = home_of w.desks n d found ∙ ap Some is in
    goes_out w n p d (set w.deques from names) (InDeque from) h found (never_seated d.home (Queued from p) is (λ j l q. cc)) (tenant_here w.shards d (Queued from p) (Standing p) is refl) (waits_no_more w n from names (at_home d (Handed p)) h deep front (λ j. ap (λ x. waits_of x j) at) (λ j. refl)) (length-set w.deques from names)

pub bring_in : (w : Places) (n i from : ℕ) (names : List ℕ) (d : Desk) (p : Stand MailBook) (did : Did) (home : Home) (sh : Seating MailBook) → IsWorld w → i < length w.shards → from < length w.deques → deque_at w.deques from ≡ n ∷ names → slice_get w.desks n ≡ Some d → d.home ≡ Queued from p → Houses p i did home (shard_at w.shards i) sh → AfterBringing w (moved_world w n (at_home d home) i sh (set w.deques from names)) i from (did_bring did)
bring_in w n i from names d p Done home sh h within deep front found is k =
    let slot : ℕ = k.0 in
    let e : Desk = at_home d (Seated i slot) in
    let at : home_at w.desks n ≡ Some (Queued from p) = home_of w.desks n d found ∙ ap Some is in
    let o = comes w i slot n sh k.1 p d (set w.deques from names) (InDeque from) h within k.2 found (never_seated d.home (Queued from p) is (λ j l q. cc)) (tenant_here w.shards d (Queued from p) (Standing p) is refl) (waits_no_more w n from names e h deep front (λ j. ap (λ x. waits_of x j) at) (λ j. refl)) (length-set w.deques from names) in
    let s : Tenant = tenant_with d (InDeque from) (Standing p) in
    let b : Brings from w (moved_world w n e i sh (set w.deques from names)) n (Resident i slot) s names = record { queued = refl; changed = o.changed; front = front; deques = refl } in
    let done : AfterBringing w (moved_world w n e i sh (set w.deques from names)) i from Done = record {
      world = o.world;
      bringing = (n, s, names, inl (slot, sh, p, k.1, b, k.2, refl));
    } in
    subst (λ x. AfterBringing w (moved_world w n (at_home d x) i sh (set w.deques from names)) i from Done) (sym k.3) done
bring_in w n i from names d p Still home sh h within deep front found is k =
    let o = out_of w n i from names d p h deep front found is in
    let s : Tenant = tenant_with d (InDeque from) (Standing p) in
    let v : Places = record { desks = set w.desks n (at_home d (Handed p)); shards = w.shards; deques = set w.deques from names } in
    let b : Brings from w v n HandedOut s names = record { queued = refl; changed = o.changed; front = front; deques = refl } in
    let done : AfterBringing w v i from Done = record { world = o.world; bringing = (n, s, names, inr (b, refl, k.2)) } in
    let same : set w.shards i sh ≡ w.shards = set_same w.shards i sh (record { seats = []; clock = 0 }) k.1 in
    let all : v ≡ moved_world w n (at_home d home) i sh (set w.deques from names) = λ x. record { desks = set w.desks n (at_home d (sym k.0 x)); shards = sym same x; deques = set w.deques from names } in
    subst (λ x. AfterBringing w x i from Done) all done
bring_in w n i from names d p NoMemory home sh h within deep front found is k =
    let o = out_of w n i from names d p h deep front found is in
    let s : Tenant = tenant_with d (InDeque from) (Standing p) in
    let v : Places = record { desks = set w.desks n (at_home d (Handed p)); shards = w.shards; deques = set w.deques from names } in
    let b : Brings from w v n HandedOut s names = record { queued = refl; changed = o.changed; front = front; deques = refl } in
    let done : AfterBringing w v i from NoMemory = record { world = o.world; bringing = (n, s, names, b, refl, within, k.2) } in
    let same : set w.shards i sh ≡ w.shards = set_same w.shards i sh (record { seats = []; clock = 0 }) k.1 in
    let all : v ≡ moved_world w n (at_home d home) i sh (set w.deques from names) = λ x. record { desks = set w.desks n (at_home d (sym k.0 x)); shards = sym same x; deques = set w.deques from names } in
    subst (λ x. AfterBringing w x i from NoMemory) all done

-- who was packed
pub record AfterOffer (w v : Places) (i slot : ℕ) (did : Did) : Type 0 where
  pub world : IsWorld v
  pub offer : IsOffer i slot did w v

-- who is packed has a desk
pub packed_desk : (w : Places) (i slot : ℕ) (p : Stand MailBook) (sh : Seating MailBook) (a : Seat MailBook) → IsWorld w → PackedAt p (shard_at w.shards i) sh slot a → p.name < length w.desks
packed_desk w i slot p sh a h k =
    let f = desk_of_sitter w i slot p.name p h (sat (shard_at w.shards i) slot a k.was ∙ ap Some (sym k.same)) refl in
    slice_get_within w.desks p.name f.0 f.1.found

pub queue_in : (w : Places) (i slot n : ℕ) (p : Stand MailBook) (sh : Seating MailBook) (a : Seat MailBook) (d : Desk) → IsWorld w → i < length w.shards → PackedAt p (shard_at w.shards i) sh slot a → p.name ≡ n → slice_get w.desks n ≡ Some d → AfterOffer w (moved_world w n (at_home d (Queued i p)) i sh (set w.deques i (deque_at w.deques i ++ n ∷ []))) i slot Done
queue_in w i slot n p sh a d h within k name found =
    let o = seat_queued w i slot n sh p d h within (by_packing p (shard_at w.shards i) sh slot a k) (sat (shard_at w.shards i) slot a k.was ∙ ap Some (sym k.same)) name found in
    record {
      world = o.world;
      offer = (n, tenant_with d (Resident i slot) (Standing p), sh, p, a, record { resident = refl; changed = o.changed; packed = k; shards = refl }, refl);
    }

pub hand_in : (w : Places) (i slot n : ℕ) (p : Stand MailBook) (sh : Seating MailBook) (a : Seat MailBook) (d : Desk) → IsWorld w → i < length w.shards → PackedAt p (shard_at w.shards i) sh slot a → p.name ≡ n → slice_get w.desks n ≡ Some d → AfterOffer w (moved_world w n (at_home d (Handed p)) i sh w.deques) i slot NoMemory
hand_in w i slot n p sh a d h within k name found =
    let o = seat_handed w i slot n sh p d h within (by_packing p (shard_at w.shards i) sh slot a k) (sat (shard_at w.shards i) slot a k.was ∙ ap Some (sym k.same)) name found in
    record {
      world = o.world;
      offer = inr (n, tenant_with d (Resident i slot) (Standing p), sh, p, a, record { resident = refl; changed = o.changed; packed = k; shards = refl }, refl);
    }

-- who was packed, and that it has a desk
pub record Packing (w : Places) (i slot n : ℕ) (p : Stand MailBook) (sh : Seating MailBook) : Type 0 where
  pub seat : Seat MailBook
  pub packed : PackedAt p (shard_at w.shards i) sh slot seat
  pub name : p.name ≡ n
  pub near : n < length w.desks

pub packing : (w : Places) (i slot n : ℕ) (p : Stand MailBook) (old sh : Seating MailBook) → IsWorld w
    → old ≡ shard_at w.shards i → n ≡ p.name → (a : Seat MailBook) × PackedAt p old sh slot a → Packing w i slot n p sh
packing w i slot n p old sh h read name k =
    let packed : PackedAt p (shard_at w.shards i) sh slot k.0 = subst (λ x. PackedAt p x sh slot k.0) read k.1 in
    record {
      seat = k.0;
      packed = packed;
      name = sym name;
      near = subst (λ m. m < length w.desks) (sym name) (packed_desk w i slot p sh k.0 h packed);
    }

-- its name went to the back of the deque
pub queued_in : (w : Places) (i slot n : ℕ) (p : Stand MailBook) (sh : Seating MailBook) (d : Desk) (names later : List ℕ) → IsWorld w
    → i < length w.shards → Packing w i slot n p sh → slice_get w.desks n ≡ Some d → names ≡ deque_at w.deques i → later ≡ names ++ n ∷ []
    → AfterOffer w (moved_world w n (at_home d (Queued i p)) i sh (set w.deques i later)) i slot Done
queued_in w i slot n p sh d names later h within k found waits pushed =
    let all : later ≡ deque_at w.deques i ++ n ∷ [] = pushed ∙ ap (λ l. l ++ n ∷ []) waits in
    subst (λ l. AfterOffer w (moved_world w n (at_home d (Queued i p)) i sh (set w.deques i l)) i slot Done) (sym all) (
    queue_in w i slot n p sh k.seat d h within k.packed k.name found
    )

-- the deque was refused memory, and stayed
pub handed_in : (w : Places) (i slot n : ℕ) (p : Stand MailBook) (sh : Seating MailBook) (d : Desk) (names later : List ℕ) → IsWorld w
    → i < length w.shards → Packing w i slot n p sh → slice_get w.desks n ≡ Some d → names ≡ deque_at w.deques i → later ≡ names
    → AfterOffer w (moved_world w n (at_home d (Handed p)) i sh (set w.deques i later)) i slot NoMemory
handed_in w i slot n p sh d names later h within k found waits stayed =
    let same : set w.deques i later ≡ w.deques = set_same w.deques i later [] (stayed ∙ waits) in
    subst (λ l. AfterOffer w (moved_world w n (at_home d (Handed p)) i sh l) i slot NoMemory) (sym same) (
    hand_in w i slot n p sh k.seat d h within k.packed k.name found
    )

-- a desk queues one parcel in one deque
pub same_queue : (d e : Desk) (i j : ℕ) (q p : Stand MailBook) → e ≡ d → e.home ≡ Queued i q → d.home ≡ Queued j p → d.home ≡ Queued i p
same_queue d e i j q p same a b =
    let x : Queued i q ≡ Queued j p = sym a ∙ ap (λ (z : Desk). z.home) same ∙ b in
    let k : i ≡ j = cc in
    b ∙ ap (λ z. Queued z p) (sym k)

-- who waits at the front of a deque, at its desk
pub record Fronting (w : Places) (from n : ℕ) (names : List ℕ) : Type 0 where
  pub front : deque_at w.deques from ≡ n ∷ names
  pub desk : Desk
  pub parcel : Stand MailBook
  pub there : slice_get w.desks n ≡ Some desk
  pub queued : desk.home ≡ Queued from parcel
  pub near : n < length w.desks

pub fronting : (w : Places) (from n : ℕ) (before names : List ℕ) → IsWorld w
    → before ≡ deque_at w.deques from → before ≡ n ∷ names → Fronting w from n names
fronting w from n before names h waits popped =
    let front : deque_at w.deques from ≡ n ∷ names = sym waits ∙ popped in
    let k = front_waits w n from names h front in
    record {
      front = front;
      desk = k.0;
      parcel = k.1;
      there = k.2;
      queued = k.3;
      near = slice_get_within w.desks n k.0 k.2;
    }

pub waits_there : (w : Places) (from n : ℕ) (names : List ℕ) (d : Desk) (k : Fronting w from n names)
    → slice_get w.desks n ≡ Some d → d.home ≡ Queued from k.parcel
waits_there w from n names d k found =
    ap (λ (x : Desk). x.home) (same_Some d k.desk (sym found ∙ k.there)) ∙ k.queued

-- who left a deque and was housed
pub brought_in : (w : Places) (i from n : ℕ) (names : List ℕ) (d e : Desk) (other home : Home) (j : ℕ) (p : Stand MailBook)
    (did answer : Did) (old sh : Seating MailBook) → IsWorld w → i < length w.shards → from < length w.deques
    → Fronting w from n names → slice_get w.desks n ≡ Some d → d.home ≡ Queued j p → e ≡ at_home d other
    → old ≡ shard_at w.shards i → Houses p i did home old sh → answer ≡ did_bring did
    → AfterBringing w (moved_world w n (at_home e home) i sh (set w.deques from names)) i from answer
brought_in w i from n names d e other home j p did answer old sh h within deep k found is left read housed said =
    let same : k.desk ≡ d = same_Some k.desk d (sym k.there ∙ found) in
    let queued : d.home ≡ Queued from p = same_queue d k.desk from j k.parcel p same k.queued is in
    let here : Houses p i did home (shard_at w.shards i) sh = subst (λ x. Houses p i did home x sh) read housed in
    let f = bring_in w n i from names d p did home sh h within deep k.front found queued here in
    let v : Places = moved_world w n (at_home d home) i sh (set w.deques from names) in
    let g : AfterBringing w v i from answer = subst (λ x. AfterBringing w v i from x) (sym said) f in
    subst (λ (x : Desk). AfterBringing w (moved_world w n (at_home x home) i sh (set w.deques from names)) i from answer) (sym left) g
