-- What a step that changes one name leaves of a world.
use Rattle.std.proofs.Common.{suc, ◌≡◌, ◌≢◌, ℕ, ◌+◌, ◌<◌, cond, List, [], ◌∷◌, ◌++◌, length, set, Option, Some, None, refl, sym, ap, ◌∙◌, arith, subst, inl, inr}
use Rattle.std.specs.Prelude.{option_map, option_and_then, slice_get, count_by, ◌==◌, ◌⊎◌, if◌then◌else◌}
use Rattle.std.proofs.lemmas.Bool.{cases_eq, eq-eqb, ne_eqb}
use Rattle.std.proofs.lemmas.List.{get_or-set_same, get_or-set_other}
use Rattle.std.proofs.lemmas.Option.{same_Some}
use Rattle.shard.specs.Mails.{MailBook}
use Rattle.shard.specs.Stand.{Stand, Seating}
use Rattle.world.specs.declared.home.Home.{Home}
use Rattle.world.specs.declared.home.Home.TheVariants.{Handed, Seated, Queued, Left}
use Rattle.world.specs.declared.home.Desk.{Desk}
use Rattle.world.specs.Tenants.{Life, Standing, Tenant, place_of}
use Rattle.world.specs.Places.{Places, deque_at, stand_at, life_of, tenant_of, tenant_at, home_at, name_at, standings, wanted_in}
use Rattle.world.specs.Kept.{IsKept, IsWorld, waits_of}
use Rattle.world.specs.Steps.{Changed}
use Rattle.world.proofs.Lists.{slice_get-set, slice_get-set_other, slice_get-push, slice_get-push_other, count-push, count-other, count-here}
use Rattle.world.proofs.Sitting.{Moved}

-- nobody else is there
abbrev pub OnlyFor : ℕ → Option (Stand MailBook) → Type 0
OnlyFor n o = (s : Stand MailBook) → o ≡ Some s → s.name ≡ n

-- one desk became another
pub record DeskNow (old new : List Desk) (n : ℕ) (e : Desk) : Type 0 where
  pub here : slice_get new n ≡ Some e
  pub others : (m : ℕ) → m ≢ n → slice_get new m ≡ slice_get old m

-- nobody but one name came, went or changed in a slot, and that one sits where its desk says
pub record SitsNow (old new : List (Seating MailBook)) (n : ℕ) (e : Desk) : Type 0 where
  pub touched : (i k : ℕ) → (stand_at new i k ≡ stand_at old i k) ⊎ (OnlyFor n (stand_at old i k) × OnlyFor n (stand_at new i k))
  pub sits : (i k : ℕ) → e.home ≡ Seated i k → name_at new i k ≡ Some n
  pub sits_there : (i k : ℕ) → name_at new i k ≡ Some n → e.home ≡ Seated i k

-- nobody but one name came to a deque or left it, and that one waits where its desk says
pub record WaitsNow (old new : List (List ℕ)) (n : ℕ) (e : Desk) : Type 0 where
  pub others : (m i : ℕ) → m ≢ n → standings new i m ≡ standings old i m
  pub here : (i : ℕ) → standings new i n ≡ wanted_in (place_of e.home) i

-- all of a step that changed one name
pub record Steps (w v : Places) (n : ℕ) (e : Desk) : Type 0 where
  pub desk : DeskNow w.desks v.desks n e
  pub sits : SitsNow w.shards v.shards n e
  pub waits : WaitsNow w.deques v.deques n e
  pub as_many : length v.deques ≡ length v.shards

pub named : (n m : ℕ) (o : Option (Stand MailBook)) → option_map (λ (s : Stand MailBook). s.name) o ≡ Some m → OnlyFor n o → m ≡ n
named n m None e f = absurd (cc)
named n m (Some s) e f = sym (same_Some s.name m e) ∙ f s refl

stays : (w v : Places) (n : ℕ) (e : Desk) → Steps w v n e → (m i k : ℕ) → m ≢ n → name_at w.shards i k ≡ Some m → stand_at v.shards i k ≡ stand_at w.shards i k
stays w v n e h m i k ne is = elim (h.sits.touched i k) [
  | inl same ↦ same
  | inr only ↦ absurd (ne (named n m (stand_at w.shards i k) is only.0))
]

life_stays : (w v : Places) (n : ℕ) (e : Desk) → IsWorld w → Steps w v n e → (m : ℕ) → m ≢ n → (home : Home) → home_at w.desks m ≡ Some home → life_of v.shards home ≡ life_of w.shards home
life_stays w v n e h s m ne (Handed p) is = refl
life_stays w v n e h s m ne (Seated i k) is = ap (option_map Standing) (stays w v n e s m i k ne (h.sits m i k is))
life_stays w v n e h s m ne (Queued i p) is = refl
life_stays w v n e h s m ne (Left d) is = refl

-- everybody else's tenant stays
pub others_stay : (w v : Places) (n : ℕ) (e : Desk) → IsWorld w → Steps w v n e → (m : ℕ) → m ≢ n → tenant_at v m ≡ tenant_at w m
unfolding tenant_at
others_stay w v n e h s m ne =
    ap (option_and_then (tenant_of v.shards)) (s.desk.others m ne) ∙ go (slice_get w.desks m) refl
  where
    go : (o : Option Desk) → slice_get w.desks m ≡ o → option_and_then (tenant_of v.shards) o ≡ option_and_then (tenant_of w.shards) o
    go None is = refl
    go (Some d) is = ap (option_map (λ (life : Life). let t : Tenant = record { place = place_of d.home; life = life; closed = d.closed; last = d.last } in t)) (life_stays w v n e h s m ne d.home (ap (option_map (λ (x : Desk). x.home)) is))

pub tenant_by_desk : (w : Places) (n : ℕ) (d : Desk) → slice_get w.desks n ≡ Some d → tenant_at w n ≡ tenant_of w.shards d
unfolding tenant_at
tenant_by_desk w n d e = ap (option_and_then (tenant_of w.shards)) e

pub no_tenant : (w : Places) (n : ℕ) → slice_get w.desks n ≡ None → tenant_at w n ≡ None
unfolding tenant_at
no_tenant w n e = ap (option_and_then (tenant_of w.shards)) e

-- the invariant after such a step
pub keeps : (w v : Places) (n : ℕ) (e : Desk) (t : Tenant) → IsWorld w → Steps w v n e → tenant_of v.shards e ≡ Some t → IsKept n t → IsWorld v
keeps w v n e t h s is kept = record {
  sits = λ m i k q. elim (cases_eq m n) [
    | inl same ↦ subst (λ x. name_at v.shards i k ≡ Some x) (sym same) (s.sits.sits i k (same_Some e.home (Seated i k) (sym home_here ∙ subst (λ x. home_at v.desks x ≡ Some (Seated i k)) same q)))
    | inr ne ↦
        let there : name_at w.shards i k ≡ Some m = h.sits m i k (sym (home_other m ne) ∙ q) in
        ap (option_map (λ (x : Stand MailBook). x.name)) (stays w v n e s m i k ne there) ∙ there
  ];
  sits_there = λ m i k q. elim (cases_eq m n) [
    | inl same ↦ subst (λ x. home_at v.desks x ≡ Some (Seated i k)) (sym same) (home_here ∙ ap Some (s.sits.sits_there i k (subst (λ x. name_at v.shards i k ≡ Some x) same q)))
    | inr ne ↦ home_other m ne ∙ h.sits_there m i k (untouched m i k ne q)
  ];
  waits = λ m i. elim (cases_eq m n) [
    | inl same ↦ subst (λ x. standings v.deques i x ≡ waits_of (home_at v.desks x) i) (sym same) (s.waits.here i ∙ ap (λ o. waits_of o i) (sym home_here))
    | inr ne ↦ s.waits.others m i ne ∙ h.waits m i ∙ ap (λ o. waits_of o i) (sym (home_other m ne))
  ];
  each = λ m x q. elim (cases_eq m n) [
    | inl same ↦
        let here : tenant_at v n ≡ Some t = tenant_by_desk v n e s.desk.here ∙ is in
        let found : t ≡ x = same_Some t x (sym here ∙ subst (λ y. tenant_at v y ≡ Some x) same q) in
        subst (λ y. IsKept y x) (sym same) (subst (IsKept n) found kept)
    | inr ne ↦ h.each m x (sym (others_stay w v n e h s m ne) ∙ q)
  ];
  as_many = s.as_many;
}
  where
    home_here : home_at v.desks n ≡ Some e.home
    home_here = ap (option_map (λ (x : Desk). x.home)) s.desk.here

    home_other : (m : ℕ) → m ≢ n → home_at v.desks m ≡ home_at w.desks m
    home_other m ne = ap (option_map (λ (x : Desk). x.home)) (s.desk.others m ne)

    untouched : (m i k : ℕ) → m ≢ n → name_at v.shards i k ≡ Some m → name_at w.shards i k ≡ Some m
    untouched m i k ne q = elim (s.sits.touched i k) [
      | inl same ↦ ap (option_map (λ (x : Stand MailBook). x.name)) (sym same) ∙ q
      | inr only ↦ absurd (ne (named n m (stand_at v.shards i k) q only.1))
    ]

-- what such a step says of the names
pub changes : (w v : Places) (n : ℕ) (d e : Desk) (s t : Tenant) → IsWorld w → Steps w v n e → slice_get w.desks n ≡ Some d → tenant_of w.shards d ≡ Some s → tenant_of v.shards e ≡ Some t → Changed w v n s t
changes w v n d e s t h c was before after = record {
  was = tenant_by_desk w n d was ∙ before;
  is = tenant_by_desk v n e c.desk.here ∙ after;
  others = others_stay w v n e h c;
}

-- a desk written, and one more
pub desk_set : (desks : List Desk) (n : ℕ) (e : Desk) → n < length desks → DeskNow desks (set desks n e) n e
desk_set desks n e h = record { here = slice_get-set desks n e h; others = λ m ne. slice_get-set_other desks n m e ne }

pub desk_push : (desks : List Desk) (e : Desk) → DeskNow desks (desks ++ e ∷ []) (length desks) e
desk_push desks e = record { here = slice_get-push desks e; others = λ m ne. slice_get-push_other desks m e ne }

-- the name came to a slot, or changed there
pub sits_at : (w : Places) (after : List (Seating MailBook)) (n i k : ℕ) (e : Desk) (s : Stand MailBook) → IsWorld w → Moved w.shards after i k (Some s) → s.name ≡ n → OnlyFor n (stand_at w.shards i k) → e.home ≡ Seated i k → ((j l : ℕ) → home_at w.desks n ≡ Some (Seated j l) → (j ≡ i) × (l ≡ k)) → SitsNow w.shards after n e
sits_at w after n i k e s h m is only home from = record {
  touched = λ j l. near j l (stand_at after j l ≡ stand_at w.shards j l) (OnlyFor n (stand_at w.shards j l) × OnlyFor n (stand_at after j l)) (λ a b. subst (λ x. OnlyFor n (stand_at w.shards x l) × OnlyFor n (stand_at after x l)) (sym a) (subst (λ x. OnlyFor n (stand_at w.shards i x) × OnlyFor n (stand_at after i x)) (sym b) (only, now))) (m.others j l);
  sits = λ j l q.
      let same : Seated i k ≡ Seated j l = sym home ∙ q in
      let a : i ≡ j = cc in
      let b : k ≡ l = cc in
      subst (λ x. name_at after x l ≡ Some n) a (subst (λ x. name_at after i x ≡ Some n) b named_here);
  sits_there = λ j l q. there j l q (near j l (stand_at after j l ≡ stand_at w.shards j l) ((j ≡ i) × (l ≡ k)) (λ a b. (a, b)) (m.others j l));
}
  where
    near : (j l : ℕ) (P Q : Type 0) → (j ≡ i → l ≡ k → Q) → ((j ≡ i → l ≡ k → ⊥) → P) → P ⊎ Q
    near j l P Q hit miss = elim (cases_eq j i) [
      | inl a ↦ elim (cases_eq l k) [ inl b ↦ inr (hit a b) | inr b ↦ inl (miss (λ x y. b y)) ]
      | inr a ↦ inl (miss (λ x y. a x))
    ]

    now : OnlyFor n (stand_at after i k)
    now = λ x q. ap (λ (y : Stand MailBook). y.name) (sym (same_Some s x (sym m.here ∙ q))) ∙ is

    named_here : name_at after i k ≡ Some n
    named_here = ap (option_map (λ (y : Stand MailBook). y.name)) m.here ∙ ap Some is

    there : (j l : ℕ) → name_at after j l ≡ Some n → (stand_at after j l ≡ stand_at w.shards j l) ⊎ ((j ≡ i) × (l ≡ k)) → e.home ≡ Seated j l
    there j l q (inl same) =
        let was : name_at w.shards j l ≡ Some n = ap (option_map (λ (y : Stand MailBook). y.name)) (sym same) ∙ q in
        let at : (j ≡ i) × (l ≡ k) = from j l (h.sits_there n j l was) in
        home ∙ (λ x. Seated (sym at.0 x) (sym at.1 x))
    there j l q (inr at) = home ∙ (λ x. Seated (sym at.0 x) (sym at.1 x))

-- the name left a slot
pub sits_no_more : (w : Places) (after : List (Seating MailBook)) (n i k : ℕ) (e : Desk) → IsWorld w → Moved w.shards after i k None → home_at w.desks n ≡ Some (Seated i k) → ((j l : ℕ) → e.home ≢ Seated j l) → SitsNow w.shards after n e
sits_no_more w after n i k e h m was gone = record {
  touched = λ j l. near j l (stand_at after j l ≡ stand_at w.shards j l) (OnlyFor n (stand_at w.shards j l) × OnlyFor n (stand_at after j l)) (λ a b. subst (λ x. OnlyFor n (stand_at w.shards x l) × OnlyFor n (stand_at after x l)) (sym a) (subst (λ x. OnlyFor n (stand_at w.shards i x) × OnlyFor n (stand_at after i x)) (sym b) (before, now))) (m.others j l);
  sits = λ j l q. absurd (gone j l q);
  sits_there = λ j l q. absurd (nowhere j l q (near j l (stand_at after j l ≡ stand_at w.shards j l) ((j ≡ i) × (l ≡ k)) (λ a b. (a, b)) (m.others j l)));
}
  where
    near : (j l : ℕ) (P Q : Type 0) → (j ≡ i → l ≡ k → Q) → ((j ≡ i → l ≡ k → ⊥) → P) → P ⊎ Q
    near j l P Q hit miss = elim (cases_eq j i) [
      | inl a ↦ elim (cases_eq l k) [ inl b ↦ inr (hit a b) | inr b ↦ inl (miss (λ x y. b y)) ]
      | inr a ↦ inl (miss (λ x y. a x))
    ]

    now : OnlyFor n (stand_at after i k)
    now = λ x q. let no : None ≡ Some x = sym m.here ∙ q in absurd (cc)

    before : OnlyFor n (stand_at w.shards i k)
    before = λ x q. same_Some x.name n (ap (option_map (λ (y : Stand MailBook). y.name)) (sym q) ∙ h.sits n i k was)

    nowhere : (j l : ℕ) → name_at after j l ≡ Some n → (stand_at after j l ≡ stand_at w.shards j l) ⊎ ((j ≡ i) × (l ≡ k)) → ⊥
    nowhere j l q (inl same) =
        let there : home_at w.desks n ≡ Some (Seated j l) = h.sits_there n j l (ap (option_map (λ (y : Stand MailBook). y.name)) (sym same) ∙ q) in
        let one : Seated j l ≡ Seated i k = same_Some (Seated j l) (Seated i k) (sym there ∙ was) in
        let a : j ≡ i = cc in
        let b : l ≡ k = cc in
        let here : name_at after i k ≡ Some n = subst (λ x. name_at after x k ≡ Some n) a (subst (λ x. name_at after j x ≡ Some n) b q) in
        let no : None ≡ Some n = sym (ap (option_map (λ (y : Stand MailBook). y.name)) m.here) ∙ here in
        cc
    nowhere j l q (inr at) =
        let here : name_at after i k ≡ Some n = subst (λ x. name_at after x k ≡ Some n) at.0 (subst (λ x. name_at after j x ≡ Some n) at.1 q) in
        let no : None ≡ Some n = sym (ap (option_map (λ (y : Stand MailBook). y.name)) m.here) ∙ here in
        cc

-- the name sits nowhere, before and after
pub sits_nowhere : (w : Places) (after : List (Seating MailBook)) (n : ℕ) (e : Desk) → IsWorld w → ((i k : ℕ) → stand_at after i k ≡ stand_at w.shards i k) → ((j l : ℕ) → home_at w.desks n ≢ Some (Seated j l)) → ((j l : ℕ) → e.home ≢ Seated j l) → SitsNow w.shards after n e
sits_nowhere w after n e h same never gone = record {
  touched = λ j l. inl (same j l);
  sits = λ j l q. absurd (gone j l q);
  sits_there = λ j l q. absurd (never j l (h.sits_there n j l (ap (option_map (λ (y : Stand MailBook). y.name)) (sym (same j l)) ∙ q)));
}

-- the deques stay, and the name waits as before
pub waits_same : (w : Places) (n : ℕ) (e : Desk) → IsWorld w → ((i : ℕ) → waits_of (home_at w.desks n) i ≡ wanted_in (place_of e.home) i) → WaitsNow w.deques w.deques n e
waits_same w n e h same = record { others = λ m i ne. refl; here = λ i. h.waits n i ∙ same i }

-- 1 where two numbers are equal
abbrev pub one_at : ℕ → ℕ → ℕ
one_at i j = if i == j then 1 else 0

one_here : (i : ℕ) → one_at i i ≡ 1
one_here i = ap {B = ℕ} (λ x. if x then 1 else 0) (eq-eqb i i refl)

none_at : (i j : ℕ) → j ≢ i → one_at i j ≡ 0
none_at i j b = ap {B = ℕ} (λ x. if x then 1 else 0) (ne_eqb i j (λ q. b (sym q)))

-- the name came to the back of a deque
pub waits_at : (w : Places) (n i : ℕ) (e : Desk) (p : Stand MailBook) → IsWorld w → i < length w.deques → ((j : ℕ) → waits_of (home_at w.desks n) j ≡ 0) → e.home ≡ Queued i p → WaitsNow w.deques (set w.deques i (deque_at w.deques i ++ n ∷ [])) n e
waits_at w n i e p h within never home = record {
  others = λ m j ne. elim (cases_eq j i) [
    | inl a ↦ subst (λ x. standings (set w.deques i (deque_at w.deques i ++ n ∷ [])) x m ≡ standings w.deques x m) (sym a) (ap (count_by (λ k. k == m)) at ∙ count-push m n (deque_at w.deques i) ∙ none m ne)
    | inr b ↦ ap (count_by (λ k. k == m)) (get_or-set_other w.deques i j (deque_at w.deques i ++ n ∷ []) [] b)
  ];
  here = λ j. elim (cases_eq j i) [
    | inl a ↦ subst (λ x. standings (set w.deques i (deque_at w.deques i ++ n ∷ [])) x n ≡ wanted_in (place_of e.home) x) (sym a) (ap (count_by (λ k. k == n)) at ∙ count-push n n (deque_at w.deques i) ∙ one ∙ sym (ap (λ x. wanted_in (place_of x) i) home))
    | inr b ↦ ap (count_by (λ k. k == n)) (get_or-set_other w.deques i j (deque_at w.deques i ++ n ∷ []) [] b) ∙ h.waits n j ∙ never j ∙ sym (none_at i j b) ∙ sym (ap (λ x. wanted_in (place_of x) j) home)
  ];
}
  where
    at : deque_at (set w.deques i (deque_at w.deques i ++ n ∷ [])) i ≡ deque_at w.deques i ++ n ∷ []
    at = get_or-set_same w.deques i (deque_at w.deques i ++ n ∷ []) [] within

    none : (m : ℕ) → m ≢ n → standings w.deques i m + cond (n == m) 1 0 ≡ standings w.deques i m
    none m ne = let no : cond (n == m) 1 0 ≡ 0 = ap {B = ℕ} (λ b. cond b 1 0) (ne_eqb n m (λ q. ne (sym q))) in omega (arith, no)

    one : standings w.deques i n + cond (n == n) 1 0 ≡ one_at i i
    one =
        let z : standings w.deques i n ≡ 0 = h.waits n i ∙ never i in
        let y : cond (n == n) 1 0 ≡ 1 = ap {B = ℕ} (λ b. cond b 1 0) (eq-eqb n n refl) in
        omega (arith, one_here i, y, z)

-- the name left the front of a deque
pub waits_no_more : (w : Places) (n i : ℕ) (names : List ℕ) (e : Desk) → IsWorld w → i < length w.deques → deque_at w.deques i ≡ n ∷ names → ((j : ℕ) → waits_of (home_at w.desks n) j ≡ one_at i j) → ((j : ℕ) → wanted_in (place_of e.home) j ≡ 0) → WaitsNow w.deques (set w.deques i names) n e
waits_no_more w n i names e h within front was gone = record {
  others = λ m j ne. elim (cases_eq j i) [
    | inl a ↦ subst (λ x. standings (set w.deques i names) x m ≡ standings w.deques x m) (sym a) (ap (count_by (λ k. k == m)) at ∙ sym (ap (count_by (λ k. k == m)) front ∙ count-other m n names ne))
    | inr b ↦ ap (count_by (λ k. k == m)) (get_or-set_other w.deques i j names [] b)
  ];
  here = λ j. elim (cases_eq j i) [
    | inl a ↦ subst (λ x. standings (set w.deques i names) x n ≡ wanted_in (place_of e.home) x) (sym a) (ap (count_by (λ k. k == n)) at ∙ left ∙ sym (gone i))
    | inr b ↦ ap (count_by (λ k. k == n)) (get_or-set_other w.deques i j names [] b) ∙ h.waits n j ∙ was j ∙ none_at i j b ∙ sym (gone j)
  ];
}
  where
    at : deque_at (set w.deques i names) i ≡ names
    at = get_or-set_same w.deques i names [] within

    left : count_by (λ k. k == n) names ≡ 0
    left =
        let a : standings w.deques i n ≡ one_at i i = h.waits n i ∙ was i in
        let c : standings w.deques i n ≡ suc (count_by (λ k. k == n) names) = ap (count_by (λ k. k == n)) front ∙ count-here n names in
        omega (arith, a, one_here i, c)

-- the front of a deque waits there
pub front_waits : (w : Places) (n i : ℕ) (names : List ℕ) → IsWorld w → deque_at w.deques i ≡ n ∷ names → (d : Desk) × (p : Stand MailBook) × (slice_get w.desks n ≡ Some d) × (d.home ≡ Queued i p)
front_waits w n i names h front = go (slice_get w.desks n) refl
  where
    some : standings w.deques i n ≡ suc (count_by (λ k. k == n) names)
    some = ap (count_by (λ k. k == n)) front ∙ count-here n names

    by_home : (d : Desk) (home : Home) → slice_get w.desks n ≡ Some d → d.home ≡ home → suc (count_by (λ k. k == n) names) ≡ wanted_in (place_of home) i → (p : Stand MailBook) × (d.home ≡ Queued i p)
    by_home d (Handed p) e q c = absurd (omega (arith, c))
    by_home d (Seated j k) e q c = absurd (omega (arith, c))
    by_home d (Left o) e q c = absurd (omega (arith, c))
    by_home d (Queued j p) e q c = elim (cases_eq j i) [
      | inl a ↦ (p, q ∙ ap (λ x. Queued x p) a)
      | inr b ↦ let z : one_at j i ≡ 0 = none_at j i (λ q. b (sym q)) in absurd (omega (arith, c, z))
    ]

    go : (o : Option Desk) → slice_get w.desks n ≡ o → (d : Desk) × (p : Stand MailBook) × (slice_get w.desks n ≡ Some d) × (d.home ≡ Queued i p)
    go None e =
        let z : standings w.deques i n ≡ 0 = h.waits n i ∙ ap (λ x. waits_of (option_map (λ (y : Desk). y.home) x) i) e in
        absurd (omega (arith, z, some))
    go (Some d) e =
        let c : standings w.deques i n ≡ wanted_in (place_of d.home) i = h.waits n i ∙ ap (λ x. waits_of (option_map (λ (y : Desk). y.home) x) i) e in
        let f = by_home d d.home e refl (sym some ∙ c) in
        (d, f.0, e, f.1)

-- who sits in a slot has its desk
pub sits_has_desk : (w : Places) (i k : ℕ) (s : Stand MailBook) → IsWorld w → stand_at w.shards i k ≡ Some s → (d : Desk) × (slice_get w.desks s.name ≡ Some d) × (d.home ≡ Seated i k)
sits_has_desk w i k s h is = go (slice_get w.desks s.name) refl
  where
    home : home_at w.desks s.name ≡ Some (Seated i k)
    home = h.sits_there s.name i k (ap (option_map (λ (y : Stand MailBook). y.name)) is)

    go : (o : Option Desk) → slice_get w.desks s.name ≡ o → (d : Desk) × (slice_get w.desks s.name ≡ Some d) × (d.home ≡ Seated i k)
    go None e = let z : None ≡ Some (Seated i k) = sym (ap (option_map (λ (y : Desk). y.home)) e) ∙ home in absurd (cc)
    go (Some d) e = (d, e, same_Some d.home (Seated i k) (sym (ap (option_map (λ (y : Desk). y.home)) e) ∙ home))

-- nobody moved
pub all_stay : (w v : Places) → v.desks ≡ w.desks → ((i k : ℕ) → stand_at v.shards i k ≡ stand_at w.shards i k) → (n : ℕ) → tenant_at v n ≡ tenant_at w n
unfolding tenant_at
all_stay w v d same n = ap (λ l. option_and_then (tenant_of v.shards) (slice_get l n)) d ∙ go (slice_get w.desks n)
  where
    life : (home : Home) → life_of v.shards home ≡ life_of w.shards home
    life (Handed p) = refl
    life (Seated i k) = ap (option_map Standing) (same i k)
    life (Queued i p) = refl
    life (Left o) = refl

    go : (o : Option Desk) → option_and_then (tenant_of v.shards) o ≡ option_and_then (tenant_of w.shards) o
    go None = refl
    go (Some x) = ap (option_map (λ (l : Life). let t : Tenant = record { place = place_of x.home; life = l; closed = x.closed; last = x.last } in t)) (life x.home)

-- a world whose shards show the same
pub keeps_all : (w v : Places) → IsWorld w → v.desks ≡ w.desks → v.deques ≡ w.deques → length v.shards ≡ length w.shards → ((i k : ℕ) → stand_at v.shards i k ≡ stand_at w.shards i k) → IsWorld v
keeps_all w v h d q long same = record {
  sits = λ n i k x. ap (option_map (λ (y : Stand MailBook). y.name)) (same i k) ∙ h.sits n i k (subst (λ l. home_at l n ≡ Some (Seated i k)) d x);
  sits_there = λ n i k x. subst (λ l. home_at l n ≡ Some (Seated i k)) (sym d) (h.sits_there n i k (ap (option_map (λ (y : Stand MailBook). y.name)) (sym (same i k)) ∙ x));
  waits = λ n i. ap (λ l. standings l i n) q ∙ h.waits n i ∙ ap (λ l. waits_of (home_at l n) i) (sym d);
  each = λ n t x. h.each n t (sym (all_stay w v d same n) ∙ x);
  as_many = ap length q ∙ h.as_many ∙ sym long;
}
