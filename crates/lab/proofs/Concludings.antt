-- What a run answers for what its workers gave.
use Rattle.std.proofs.Common.{◌≡◌, ℕ, zero, suc, ◌<◌, inl, inr, ◌⊎◌, refl, sym, ap, subst, ◌∙◌, List, [], ◌∷◌, length, Option, Some, None, Result, Ok, Err, IfErr, true, Bool, arith}
use Rattle.std.specs.Prelude.{Contains, slice_index_or, All}
use Rattle.std.proofs.lemmas.List.Elements.{All-tail}
use Rattle.shard.specs.Stand.{Final}
use Rattle.bench.specs.declared.closing.Closing.{Closing}
use Rattle.bench.specs.declared.mail.RingMail.{RingMail}
use Rattle.bench.specs.declared.tenant.Tenant.{Tenant}
use Rattle.bench.specs.Audits.{Accounted}
use Rattle.bench.specs.Tenants.{Fits}
use Rattle.alone.specs.declared.fault.RunFault.{RunFault}
use Rattle.alone.specs.declared.fault.RunFault.TheVariants.{Memory, Gate, Strange, Scenario, Read, Write}
use Rattle.lab.specs.declared.worker.Given.{Given}
use Rattle.lab.specs.Plans.{IsTogetherFault, IsWorkers, fault_of, is_honest}
use Rattle.lab.specs.Joins.{HasTooMany, HasTooFew, HasMisfit, IsStrange, AreSeated, Unfit, SettlesNot, Concludes, dossier_at, how_many, faults_of}
use Rattle.lab.specs.Gathers.{HoldsBy}

-- the gravest fault is answered
pub fault_concludes : (ts : List Tenant) (f : RunFault) (places : List (Option (Final RingMail))) (closings cs : List Closing) (ds : List (Final RingMail)) (fs : List (Option RunFault)) →
    length places ≡ length ts → HoldsBy (Some f) places closings cs ds fs → Concludes ts cs ds fs (Some f)
fault_concludes ts Memory places closings cs ds fs len h = tt
fault_concludes ts Gate places closings cs ds fs len h = h
fault_concludes ts Strange places closings cs ds fs len h = (h.0, inl (subst (λ (n : ℕ). HasTooMany n ds) len h.1))
fault_concludes ts (Scenario e) places closings cs ds fs len h = h
fault_concludes ts Read places closings cs ds fs len h = h
fault_concludes ts Write places closings cs ds fs len h = h

-- a tenant without a dossier, or with one that isn't its own
unfit-is-strange : (ts : List Tenant) (places : List (Option (Final RingMail))) (ds : List (Final RingMail)) (k : ℕ) → AreSeated places ds → k < length ts →
    (o : Option (Final RingMail)) → dossier_at places k ≡ o → ((t : Tenant) → Unfit (slice_index_or ts k t) o) → HasTooFew (length ts) ds ⊎ HasMisfit ts ds
unfit-is-strange ts places ds k seats low None is unfit = inl (k, low, seats.count k ∙ ap how_many is)
unfit-is-strange ts places ds k seats low (Some d) is unfit =
    let own = seats.own k d is in
    inr (d, own.1, subst (λ (n : ℕ). n < length ts) (sym own.0) low, (λ t. subst (λ (n : ℕ). ¬ Fits (slice_index_or ts n t) d) (sym own.0) (unfit t)))

strange-side : (ts : List Tenant) (cs : List Closing) (ds : List (Final RingMail)) → HasTooFew (length ts) ds ⊎ HasMisfit ts ds → IsStrange ts cs ds
strange-side ts cs ds (inl few) = inr (inl few)
strange-side ts cs ds (inr misfit) = inr (inr (inl misfit))

pub unsettled_concludes : (ts : List Tenant) (e : RunFault) (f : Option RunFault) (places : List (Option (Final RingMail))) (closings cs : List Closing) (ds : List (Final RingMail)) (fs : List (Option RunFault)) →
    f ≡ None → SettlesNot ts places e → HoldsBy f places closings cs ds fs → Concludes ts cs ds fs (Some e)
unsettled_concludes ts Memory None places closings cs ds fs is not h = tt
unsettled_concludes ts Strange None places closings cs ds fs is not h =
    (h.0, strange-side ts cs ds (unfit-is-strange ts places ds not.0 h.1 not.1 (dossier_at places not.0) refl not.2))
unsettled_concludes ts Gate None places closings cs ds fs is not h = absurd not
unsettled_concludes ts (Scenario e) None places closings cs ds fs is not h = absurd not
unsettled_concludes ts Read None places closings cs ds fs is not h = absurd not
unsettled_concludes ts Write None places closings cs ds fs is not h = absurd not
unsettled_concludes ts e (Some x) places closings cs ds fs is not h = absurd (cc)

-- the audit finds a name that was lost, or none
pub lost_concludes : (ts : List Tenant) (f : Option RunFault) (places : List (Option (Final RingMail))) (closings cs : List Closing) (ds : List (Final RingMail)) (fs : List (Option RunFault)) (x : ℕ) →
    f ≡ None → (¬ Accounted closings x) → HoldsBy f places closings cs ds fs → Concludes ts cs ds fs (Some Strange)
lost_concludes ts None places closings cs ds fs x is lost h = (h.0, inr (inr (inr (x, subst (λ (l : List Closing). ¬ Accounted l x) h.2 lost))))
lost_concludes ts (Some e) places closings cs ds fs x is lost h = absurd (cc)

pub found_concludes : (ts : List Tenant) (f : Option RunFault) (places : List (Option (Final RingMail))) (closings cs : List Closing) (ds : List (Final RingMail)) (fs : List (Option RunFault)) →
    f ≡ None → ((x : ℕ) → Accounted closings x) → HoldsBy f places closings cs ds fs → Concludes ts cs ds fs None
found_concludes ts None places closings cs ds fs is found h = (h.0, subst (λ (l : List Closing). (x : ℕ) → Accounted l x) h.2 found)
found_concludes ts (Some e) places closings cs ds fs is found h = absurd (cc)

-- the gate is answered only where the gate of some worker may say no
pub together_fault : (may_refuse : Bool) (ts : List Tenant) (cs : List Closing) (ds : List (Final RingMail)) (fs : List (Option RunFault)) (e : RunFault) →
    (Contains fs (Some Gate) → may_refuse ≡ true) → Concludes ts cs ds fs (Some e) → IsTogetherFault may_refuse e
together_fault may_refuse ts cs ds fs Memory gate h = refl
together_fault may_refuse ts cs ds fs Gate gate h = gate h.1
together_fault may_refuse ts cs ds fs Strange gate h = tt
together_fault may_refuse ts cs ds fs (Scenario f) gate h = absurd h
together_fault may_refuse ts cs ds fs Read gate h = absurd h
together_fault may_refuse ts cs ds fs Write gate h = absurd h

-- whatever a run answers
pub together_err : {T : Type 0} (may_refuse : Bool) (ts : List Tenant) (cs : List Closing) (ds : List (Final RingMail)) (fs : List (Option RunFault)) (r : Result T RunFault) →
    (Contains fs (Some Gate) → may_refuse ≡ true) → Concludes ts cs ds fs (fault_of r) → IfErr r (IsTogetherFault may_refuse)
together_err may_refuse ts cs ds fs (Ok x) gate h = tt
together_err may_refuse ts cs ds fs (Err e) gate h = together_fault may_refuse ts cs ds fs e gate h

-- what the workers' types say of their faults
gate-at : (may_refuse : Bool) (gs : List Given) (k : ℕ) → All (λ g. is_honest may_refuse g.fault ≡ true) gs → k < length (faults_of gs) → slice_index_or (faults_of gs) k (Some Gate) ≡ Some Gate → may_refuse ≡ true
gate-at may_refuse [] k all low is = absurd (omega arith)
gate-at may_refuse (g ∷ gs) zero all low is = subst (λ (f : Option RunFault). is_honest may_refuse f ≡ true) is (all 0 g (omega arith))
gate-at may_refuse (g ∷ gs) (suc k) all low is = gate-at may_refuse gs k (All-tail (λ (x : Given). is_honest may_refuse x.fault ≡ true) g gs all) (omega arith) is

pub gate_refuses : (may_refuse : Bool) (gs : List Given) → All (λ g. is_honest may_refuse g.fault ≡ true) gs → Contains (faults_of gs) (Some Gate) → may_refuse ≡ true
gate_refuses may_refuse gs all has = gate-at may_refuse gs has.0 all has.1 has.2

own-fault : (may_refuse : Bool) (f : Option RunFault) → is_honest may_refuse f ≡ true → IsWorkers f
own-fault may_refuse None is = refl
own-fault may_refuse (Some Memory) is = refl
own-fault may_refuse (Some Gate) is = refl
own-fault may_refuse (Some Strange) is = absurd (cc)
own-fault may_refuse (Some Read) is = absurd (cc)
own-fault may_refuse (Some Write) is = absurd (cc)
own-fault may_refuse (Some (Scenario f)) is = absurd (cc)

pub own_faults : (may_refuse : Bool) (gs : List Given) → All (λ g. is_honest may_refuse g.fault ≡ true) gs → All (λ g. IsWorkers g.fault) gs
own_faults may_refuse gs all k d low = own-fault may_refuse (slice_index_or gs k d).fault (all k d low)
