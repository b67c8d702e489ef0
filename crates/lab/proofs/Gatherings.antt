-- What is known while what the workers gave is taken in, one after the other.
use Rattle.std.proofs.Common.{◌≡◌, ◌≢◌, ℕ, zero, suc, ◌+◌, ◌<◌, ◌≤◌, inl, inr, ◌⊎◌, ⊎_elim, Bool, true, false, refl, sym, ap, subst, ◌∙◌, List, [], ◌∷◌, ◌++◌, length, set, Option, Some, None, arith, append-nil}
use Rattle.std.specs.Prelude.{All, Contains, cond, ◌==◌}
use Rattle.std.proofs.lemmas.Bool.{cases_lt}
use Rattle.std.proofs.lemmas.Bool.Decides.{Decides-eqb}
use Rattle.std.proofs.lemmas.List.{map-append}
use Rattle.std.proofs.lemmas.List.Concat.{flat_map-append}
use Rattle.std.proofs.lemmas.List.Elements.{All-append, All-cons, All-nil, All-tail, Contains-append_left, Contains-append_right}
use Rattle.std.proofs.lemmas.List.Sums.{sum_by-append}
use Rattle.emu_model.specs.declared.records.Ending.TheVariants.{Halted}
use Rattle.shard.specs.Stand.{Final}
use Rattle.bench.specs.declared.closing.Closing.{Closing}
use Rattle.bench.specs.declared.mail.RingMail.{RingMail}
use Rattle.alone.specs.declared.fault.RunFault.{RunFault}
use Rattle.alone.specs.declared.fault.RunFault.TheVariants.{Memory, Gate, Strange, Scenario, Read, Write}
use Rattle.lab.specs.declared.joined.Joined.{Joined}
use Rattle.lab.specs.declared.worker.Given.{Given}
use Rattle.lab.specs.Plans.{graver_of, IsWorkers}
use Rattle.lab.specs.Joins.{HadMemory, HadNoFault, HasTooMany, AreSeated, AreEnded, IsFreeAt, dossier_at, dossiers_named, how_many, closings_of, dossiers_of, faults_of}
use Rattle.lab.specs.Gathers.{HoldsBy, Holds}

-- P of one more
pub all_more : {X : Type 0} (P : X → Type 0) (xs : List X) (x : X) → All P xs → P x → All P (xs ++ x ∷ [])
all_more P xs x all one = All-append P xs (x ∷ []) all (All-cons P x [] one (All-nil P))

last-there : {X : Type 0} (xs : List X) (x : X) → Contains (xs ++ x ∷ []) x
last-there xs x = Contains-append_right xs (x ∷ []) x (0, omega arith, refl)

-- faults and dossiers, one more of them
memory-more : (ds : List (Final RingMail)) (fs : List (Option RunFault)) (f : Option RunFault) → f ≢ Some Memory → HadMemory ds fs → HadMemory ds (fs ++ f ∷ [])
memory-more ds fs f other had = record { workers = all_more (λ (x : Option RunFault). x ≢ Some Memory) fs f had.workers other; experiments = had.experiments }

memory-put : (ds : List (Final RingMail)) (fs : List (Option RunFault)) (d : Final RingMail) → d.ending ≢ Halted → HadMemory ds fs → HadMemory (ds ++ d ∷ []) fs
memory-put ds fs d ended had = record { workers = had.workers; experiments = all_more (λ (x : Final RingMail). x.ending ≢ Halted) ds d had.experiments ended }

none-more : (ds : List (Final RingMail)) (fs : List (Option RunFault)) → HadNoFault ds fs → HadNoFault ds (fs ++ None ∷ [])
none-more ds fs had = record { workers = all_more (λ (x : Option RunFault). x ≡ None) fs None had.workers refl; experiments = had.experiments }

none-put : (ds : List (Final RingMail)) (fs : List (Option RunFault)) (d : Final RingMail) → d.ending ≢ Halted → HadNoFault ds fs → HadNoFault (ds ++ d ∷ []) fs
none-put ds fs d ended had = record { workers = had.workers; experiments = all_more (λ (x : Final RingMail). x.ending ≢ Halted) ds d had.experiments ended }

no-memory : (f : Option RunFault) → f ≡ None → f ≢ Some Memory
no-memory None is other = cc
no-memory (Some x) is other = cc

none-is-memory : (ds : List (Final RingMail)) (fs : List (Option RunFault)) → HadNoFault ds fs → HadMemory ds fs
none-is-memory ds fs had = record { workers = λ k d low. no-memory _ (had.workers k d low); experiments = had.experiments }

-- memory is the gravest
graver-memory : (f : Option RunFault) → graver_of f Memory ≡ Memory
graver-memory None = refl
graver-memory (Some (Scenario f)) = refl
graver-memory (Some Read) = refl
graver-memory (Some Write) = refl
graver-memory (Some Memory) = refl
graver-memory (Some Strange) = refl
graver-memory (Some Gate) = refl

abbrev By : List (Option (Final RingMail)) → List Closing → List Closing → List (Final RingMail) → List (Option RunFault) → Option RunFault → Type 0
By places closings cs ds fs f = HoldsBy f places closings cs ds fs

pub memory_noted : (f g : Option RunFault) (places : List (Option (Final RingMail))) (closings cs : List Closing) (ds : List (Final RingMail)) (fs : List (Option RunFault)) →
    g ≡ Some (graver_of f Memory) → HoldsBy g places closings cs ds fs
memory_noted f g places closings cs ds fs is = subst (By places closings cs ds fs) (sym (is ∙ ap Some (graver-memory f))) tt

-- a worker without a fault
pub worker_none : (f : Option RunFault) (places : List (Option (Final RingMail))) (closings cs : List Closing) (ds : List (Final RingMail)) (fs : List (Option RunFault)) →
    HoldsBy f places closings cs ds fs → HoldsBy f places closings cs ds (fs ++ None ∷ [])
worker_none None places closings cs ds fs h = (none-more ds fs h.0, h.1, h.2)
worker_none (Some Memory) places closings cs ds fs h = tt
worker_none (Some Gate) places closings cs ds fs h = (memory-more ds fs None (λ is. no-memory None refl is) h.0, Contains-append_left fs (None ∷ []) (Some Gate) h.1)
worker_none (Some Strange) places closings cs ds fs h = (none-more ds fs h.0, h.1)
worker_none (Some (Scenario e)) places closings cs ds fs h = absurd h
worker_none (Some Read) places closings cs ds fs h = absurd h
worker_none (Some Write) places closings cs ds fs h = absurd h

not-gate : (Some Gate ≡ Some Memory) → ⊥
not-gate is = cc

-- a worker's gate said no
gate-noted : (f : Option RunFault) (places : List (Option (Final RingMail))) (closings cs : List Closing) (ds : List (Final RingMail)) (fs : List (Option RunFault)) →
    HoldsBy f places closings cs ds fs → HoldsBy (Some (graver_of f Gate)) places closings cs ds (fs ++ Some Gate ∷ [])
gate-noted None places closings cs ds fs h = (memory-more ds fs (Some Gate) not-gate (none-is-memory ds fs h.0), last-there fs (Some Gate))
gate-noted (Some Memory) places closings cs ds fs h = tt
gate-noted (Some Gate) places closings cs ds fs h = (memory-more ds fs (Some Gate) not-gate h.0, last-there fs (Some Gate))
gate-noted (Some Strange) places closings cs ds fs h = (memory-more ds fs (Some Gate) not-gate (none-is-memory ds fs h.0), last-there fs (Some Gate))
gate-noted (Some (Scenario e)) places closings cs ds fs h = absurd h
gate-noted (Some Read) places closings cs ds fs h = absurd h
gate-noted (Some Write) places closings cs ds fs h = absurd h

-- a worker's fault is noted
pub worker_noted : (f g : Option RunFault) (b : RunFault) (places : List (Option (Final RingMail))) (closings cs : List Closing) (ds : List (Final RingMail)) (fs : List (Option RunFault)) →
    IsWorkers (Some b) → g ≡ Some (graver_of f b) → HoldsBy f places closings cs ds fs → HoldsBy g places closings cs ds (fs ++ Some b ∷ [])
worker_noted f g Memory places closings cs ds fs own is h = memory_noted f g places closings cs ds (fs ++ Some Memory ∷ []) is
worker_noted f g Gate places closings cs ds fs own is h = subst (By places closings cs ds (fs ++ Some Gate ∷ [])) (sym is) (gate-noted f places closings cs ds fs h)
worker_noted f g Strange places closings cs ds fs own is h = absurd (cc)
worker_noted f g (Scenario e) places closings cs ds fs own is h = absurd (cc)
worker_noted f g Read places closings cs ds fs own is h = absurd (cc)
worker_noted f g Write places closings cs ds fs own is h = absurd (cc)

-- how many have a name, with one more
named-more : (x : ℕ) (ds : List (Final RingMail)) (d : Final RingMail) → dossiers_named x (ds ++ d ∷ []) ≡ dossiers_named x ds + cond (d.name == x) 1 0
named-more x ds d = let both = sum_by-append (λ (e : Final RingMail). cond (e.name == x) 1 0) ds (d ∷ []) in omega (arith, both)

named-same : (x : ℕ) (ds : List (Final RingMail)) (d : Final RingMail) → d.name ≡ x → dossiers_named x (ds ++ d ∷ []) ≡ dossiers_named x ds + 1
named-same x ds d is = named-more x ds d ∙ ap (λ (b : Bool). dossiers_named x ds + cond b 1 0) ((Decides-eqb d.name x).1 is)

named-other : (x : ℕ) (ds : List (Final RingMail)) (d : Final RingMail) → d.name ≢ x → dossiers_named x (ds ++ d ∷ []) ≡ dossiers_named x ds
named-other x ds d other = go (d.name == x) refl
  where
    go : (b : Bool) → (d.name == x) ≡ b → dossiers_named x (ds ++ d ∷ []) ≡ dossiers_named x ds
    go true is = absurd (other ((Decides-eqb d.name x).0 is))
    go false is =
        let less : dossiers_named x (ds ++ d ∷ []) ≡ dossiers_named x ds + 0 = named-more x ds d ∙ ap (λ (b : Bool). dossiers_named x ds + cond b 1 0) is in
        omega (arith, less)

named-less : (x : ℕ) (ds : List (Final RingMail)) (d : Final RingMail) → dossiers_named x ds ≤ dossiers_named x (ds ++ d ∷ [])
named-less x ds d = let more = named-more x ds d in omega arith

-- more stay too many
many-more : (n : ℕ) (ds : List (Final RingMail)) (d : Final RingMail) → HasTooMany n ds → HasTooMany n (ds ++ d ∷ [])
many-more n ds d many =
    let less = named-less many.0 ds d in
    (many.0, ⊎_elim (λ two. inl (omega arith)) (λ nobody. inr (nobody.0, omega (arith, nobody.1))) many.1)

-- a dossier has no place
pub strange_noted : (f g : Option RunFault) (places : List (Option (Final RingMail))) (closings cs : List Closing) (ds : List (Final RingMail)) (fs : List (Option RunFault)) (d : Final RingMail) →
    g ≡ Some (graver_of f Strange) → d.ending ≢ Halted → (AreSeated places ds → HasTooMany (length places) (ds ++ d ∷ [])) →
    HoldsBy f places closings cs ds fs → HoldsBy g places closings cs (ds ++ d ∷ []) fs
strange_noted f g places closings cs ds fs d is ended many h = subst (By places closings cs (ds ++ d ∷ []) fs) (sym is) (go f h)
  where
    go : (f : Option RunFault) → HoldsBy f places closings cs ds fs → HoldsBy (Some (graver_of f Strange)) places closings cs (ds ++ d ∷ []) fs
    go None h = (none-put ds fs d ended h.0, many h.1)
    go (Some Memory) h = tt
    go (Some Gate) h = (memory-put ds fs d ended h.0, h.1)
    go (Some Strange) h = (none-put ds fs d ended h.0, many-more (length places) ds d h.1)
    go (Some (Scenario e)) h = absurd h
    go (Some Read) h = absurd h
    go (Some Write) h = absurd h

-- a dossier came to its place
pub placed : (f : Option RunFault) (places now : List (Option (Final RingMail))) (closings cs : List Closing) (ds : List (Final RingMail)) (fs : List (Option RunFault)) (d : Final RingMail) →
    d.ending ≢ Halted → length now ≡ length places → (AreSeated places ds → AreSeated now (ds ++ d ∷ [])) →
    HoldsBy f places closings cs ds fs → HoldsBy f now closings cs (ds ++ d ∷ []) fs
placed None places now closings cs ds fs d ended len seats h = (none-put ds fs d ended h.0, seats h.1, h.2)
placed (Some Memory) places now closings cs ds fs d ended len seats h = tt
placed (Some Gate) places now closings cs ds fs d ended len seats h = (memory-put ds fs d ended h.0, h.1)
placed (Some Strange) places now closings cs ds fs d ended len seats h =
    (none-put ds fs d ended h.0, subst (λ (n : ℕ). HasTooMany n (ds ++ d ∷ [])) (sym len) (many-more (length places) ds d h.1))
placed (Some (Scenario e)) places now closings cs ds fs d ended len seats h = absurd h
placed (Some Read) places now closings cs ds fs d ended len seats h = absurd h
placed (Some Write) places now closings cs ds fs d ended len seats h = absurd h

-- a closing was kept
pub closing_kept : (f : Option RunFault) (places : List (Option (Final RingMail))) (closings now cs : List Closing) (ds : List (Final RingMail)) (fs : List (Option RunFault)) (c : Closing) →
    now ≡ closings ++ c ∷ [] → HoldsBy f places closings cs ds fs → HoldsBy f places now (cs ++ c ∷ []) ds fs
closing_kept None places closings now cs ds fs c is h = (h.0, h.1, is ∙ ap (λ (l : List Closing). l ++ c ∷ []) h.2)
closing_kept (Some Memory) places closings now cs ds fs c is h = tt
closing_kept (Some Gate) places closings now cs ds fs c is h = h
closing_kept (Some Strange) places closings now cs ds fs c is h = h
closing_kept (Some (Scenario e)) places closings now cs ds fs c is h = absurd h
closing_kept (Some Read) places closings now cs ds fs c is h = absurd h
closing_kept (Some Write) places closings now cs ds fs c is h = absurd h

-- a place that was written, and the others
at-set : (places : List (Option (Final RingMail))) (x : ℕ) (d : Final RingMail) → x < length places → dossier_at (set places x (Some d)) x ≡ Some d
at-set [] x d low = absurd (omega arith)
at-set (p ∷ places) zero d low = refl
at-set (p ∷ places) (suc x) d low = at-set places x d (omega arith)

at-other : (places : List (Option (Final RingMail))) (x y : ℕ) (o : Option (Final RingMail)) → y ≢ x → dossier_at (set places x o) y ≡ dossier_at places y
at-other [] x y o other = refl
at-other (p ∷ places) zero zero o other = absurd (other refl)
at-other (p ∷ places) zero (suc y) o other = refl
at-other (p ∷ places) (suc x) zero o other = refl
at-other (p ∷ places) (suc x) (suc y) o other = at-other places x y o (λ is. other (ap suc is))

some-is : {X : Type 0} (a b : X) → Some a ≡ Some b → a ≡ b
some-is a b is = cc

-- a name's free place is its dossier's
pub seated_more : (places : List (Option (Final RingMail))) (ds : List (Final RingMail)) (d : Final RingMail) → IsFreeAt places d.name → AreSeated places ds → AreSeated (set places d.name (Some d)) (ds ++ d ∷ [])
seated_more places ds d free seats = record {
  count = λ x. ⊎_elim (λ below. other x (λ is. absurd (omega arith))) (λ rest. ⊎_elim (λ is. same x (sym is)) (λ above. other x (λ is. absurd (omega arith))) rest) (cases x);
  own = λ x e. ⊎_elim (λ below. far x e (λ is. absurd (omega arith))) (λ rest. ⊎_elim (λ is. near x e is) (λ above. far x e (λ is. absurd (omega arith))) rest) (cases x);
}
  where
    now : List (Option (Final RingMail))
    now = set places d.name (Some d)

    cases : (x : ℕ) → (x < d.name) ⊎ ((x ≡ d.name) ⊎ (d.name < x))
    cases x = ⊎_elim (λ low. inl low) (λ high. ⊎_elim (λ low. inr (inr low)) (λ le. inr (inl (omega arith))) (cases_lt d.name x)) (cases_lt x d.name)

    same : (x : ℕ) → d.name ≡ x → dossiers_named x (ds ++ d ∷ []) ≡ how_many (dossier_at now x)
    same x is =
        let here : how_many (dossier_at now x) ≡ 1 = ap (λ (y : ℕ). how_many (dossier_at now y)) (sym is) ∙ ap how_many (at-set places d.name d free.0) in
        let before : dossiers_named x ds ≡ 0 = seats.count x ∙ ap (λ (y : ℕ). how_many (dossier_at places y)) (sym is) ∙ ap how_many free.1 in
        named-same x ds d is ∙ ap (λ (n : ℕ). n + 1) before ∙ sym here

    other : (x : ℕ) → d.name ≢ x → dossiers_named x (ds ++ d ∷ []) ≡ how_many (dossier_at now x)
    other x off = named-other x ds d off ∙ seats.count x ∙ sym (ap how_many (at-other places d.name x (Some d) (λ is. off (sym is))))

    near : (x : ℕ) (e : Final RingMail) → x ≡ d.name → dossier_at now x ≡ Some e → (e.name ≡ x) × Contains (ds ++ d ∷ []) e
    near x e is there =
        let it : d ≡ e = some-is d e (sym (at-set places d.name d free.0) ∙ ap (dossier_at now) (sym is) ∙ there) in
        (sym (ap (λ (y : Final RingMail). y.name) it) ∙ sym is, subst (Contains (ds ++ d ∷ [])) it (last-there ds d))

    far : (x : ℕ) (e : Final RingMail) → x ≢ d.name → dossier_at now x ≡ Some e → (e.name ≡ x) × Contains (ds ++ d ∷ []) e
    far x e off there =
        let old = seats.own x e (sym (at-other places d.name x (Some d) off) ∙ there) in
        (old.0, Contains-append_left ds (d ∷ []) e old.1)

-- a dossier whose place isn't free is one too many
pub crowded : (places : List (Option (Final RingMail))) (ds : List (Final RingMail)) (d : Final RingMail) → (¬ IsFreeAt places d.name) → AreSeated places ds → HasTooMany (length places) (ds ++ d ∷ [])
crowded places ds d taken seats = (d.name, ⊎_elim (λ low. inl (twice (dossier_at places d.name) refl low)) (λ high. inr (high, some)) (cases_lt d.name (length places)))
  where
    more : dossiers_named d.name (ds ++ d ∷ []) ≡ dossiers_named d.name ds + 1
    more = named-same d.name ds d refl

    some : 0 < dossiers_named d.name (ds ++ d ∷ [])
    some = let m = more in omega arith

    twice : (o : Option (Final RingMail)) → dossier_at places d.name ≡ o → d.name < length places → 1 < dossiers_named d.name (ds ++ d ∷ [])
    twice None is low = absurd (taken (low, is))
    twice (Some e) is low =
        let one : dossiers_named d.name ds ≡ 1 = seats.count d.name ∙ ap how_many is in
        let m = more in
        omega arith

-- what one more worker gave was taken in
pub gathered : (j : Joined) (gs : List Given) (g : Given) → Holds j (closings_of gs ++ g.closing ∷ []) (dossiers_of gs ++ g.dossiers.items) (faults_of gs ++ g.fault ∷ []) →
    Holds j (closings_of (gs ++ g ∷ [])) (dossiers_of (gs ++ g ∷ [])) (faults_of (gs ++ g ∷ []))
gathered j gs g h =
    let closings : closings_of gs ++ g.closing ∷ [] ≡ closings_of (gs ++ g ∷ []) = sym (map-append (λ (x : Given). x.closing) gs (g ∷ [])) in
    let faults : faults_of gs ++ g.fault ∷ [] ≡ faults_of (gs ++ g ∷ []) = sym (map-append (λ (x : Given). x.fault) gs (g ∷ [])) in
    let dossiers : dossiers_of gs ++ g.dossiers.items ≡ dossiers_of (gs ++ g ∷ []) = ap (λ (l : List (Final RingMail)). dossiers_of gs ++ l) (sym (append-nil g.dossiers.items)) ∙ sym (flat_map-append (λ (x : Given). x.dossiers.items) gs (g ∷ [])) in
    subst (λ (cs : List Closing). Holds j cs (dossiers_of (gs ++ g ∷ [])) (faults_of (gs ++ g ∷ []))) closings
    (subst (λ (ds : List (Final RingMail)). Holds j (closings_of gs ++ g.closing ∷ []) ds (faults_of (gs ++ g ∷ []))) dossiers
    (subst (λ (fs : List (Option RunFault)). Holds j (closings_of gs ++ g.closing ∷ []) (dossiers_of gs ++ g.dossiers.items) fs) faults h))

-- where nobody has a fault no dossier at its place is of one that was halted
pub ended_places : (f : Option RunFault) (places : List (Option (Final RingMail))) (closings cs : List Closing) (ds : List (Final RingMail)) (fs : List (Option RunFault)) → HoldsBy f places closings cs ds fs → f ≡ None → AreEnded places
ended_places None places closings cs ds fs h is x d there halted =
    let own = (h.1.own x d there).1 in
    h.0.experiments own.0 d own.1 (ap (λ (e : Final RingMail). e.ending) own.2 ∙ halted)
ended_places (Some e) places closings cs ds fs h is x d there halted = absurd (cc)

-- before anything is taken in
none-at : (places : List (Option (Final RingMail))) (x : ℕ) → All (λ o. o ≡ None) places → dossier_at places x ≡ None
none-at [] x all = refl
none-at (o ∷ places) zero all = all 0 o (omega arith)
none-at (o ∷ places) (suc x) all = none-at places x (All-tail (λ (p : Option (Final RingMail)). p ≡ None) o places all)

none-some : {X : Type 0} (o : Option X) (x : X) → o ≡ None → o ≡ Some x → ⊥
none-some None x none some = cc
none-some (Some y) x none some = cc

pub none_joined : (f : Option RunFault) (places : List (Option (Final RingMail))) (closings : List Closing) → f ≡ None → All (λ o. o ≡ None) places → closings ≡ [] → HoldsBy f places closings [] [] []
none_joined None places closings is all empty = (
  record { workers = All-nil (λ (f : Option RunFault). f ≡ None); experiments = All-nil (λ (d : Final RingMail). d.ending ≢ Halted) },
  record {
    count = λ x. sym (ap how_many (none-at places x all));
    own = λ x d there. absurd (none-some (dossier_at places x) d (none-at places x all) there);
  },
  empty,
)
none_joined (Some e) places closings is all empty = absurd (cc)
