-- What the workers returned when they were joined, and the result of the run.
use Rattle.std.specs.Prelude.{◌≡◌, ◌≢◌, ◌==◌, ◌<◌, ◌≤◌, ◌⊎◌, ℕ, List, map, flat_map, length, cond, All, Contains, slice_get, slice_index_or, option_and_then, Option, None, Some}
use Rattle.std.specs.List.{sum_by}
use Rattle.emu_model.specs.declared.records.Ending.TheVariants.{Halted}
use Rattle.shard.specs.Stand.{Final}
use Rattle.bench.specs.declared.closing.Closing.{Closing}
use Rattle.bench.specs.declared.mail.RingMail.{RingMail}
use Rattle.bench.specs.declared.tenant.Tenant.{Tenant}
use Rattle.bench.specs.Audits.{Accounted}
use Rattle.bench.specs.Tenants.{Fits}
use Rattle.alone.specs.declared.fault.RunFault.{RunFault}
use Rattle.alone.specs.declared.fault.RunFault.TheVariants.{Memory, Gate, Strange, Scenario, Read, Write}
use Rattle.lab.specs.declared.worker.Given.{Given}

-- all closings, dossiers and faults
abbrev pub closings_of : List Given → List Closing
closings_of gs = map (λ (g : Given). g.closing) gs

abbrev pub dossiers_of : List Given → List (Final RingMail)
dossiers_of gs = flat_map (λ (g : Given). g.dossiers.items) gs

abbrev pub faults_of : List Given → List (Option RunFault)
faults_of gs = map (λ (g : Given). g.fault) gs

-- no worker ran out of memory, and no experiment was halted for lack of it
pub record HadMemory (ds : List (Final RingMail)) (fs : List (Option RunFault)) : Type 0 where
  pub workers : All (λ f. f ≢ Some Memory) fs
  pub experiments : All (λ d. d.ending ≢ Halted) ds

-- no worker has a fault, and no experiment was halted
pub record HadNoFault (ds : List (Final RingMail)) (fs : List (Option RunFault)) : Type 0 where
  pub workers : All (λ f. f ≡ None) fs
  pub experiments : All (λ d. d.ending ≢ Halted) ds

-- the number of dossiers with a name
abbrev pub dossiers_named : ℕ → List (Final RingMail) → ℕ
dossiers_named x ds = sum_by (λ (d : Final RingMail). cond (d.name == x) 1 0) ds

-- for n tenants, whose names are those below n: a name has a second dossier, or a dossier has the name of no tenant
abbrev pub HasTooMany : ℕ → List (Final RingMail) → Type 0
HasTooMany n ds = (x : ℕ) × ((1 < dossiers_named x ds) ⊎ ((n ≤ x) × (0 < dossiers_named x ds)))

-- a tenant has no dossier
abbrev pub HasTooFew : ℕ → List (Final RingMail) → Type 0
HasTooFew n ds = (x : ℕ) × (x < n) × (dossiers_named x ds ≡ 0)

-- a dossier does not fit the tenant of its name
abbrev pub HasMisfit : List Tenant → List (Final RingMail) → Type 0
HasMisfit ts ds = (d : Final RingMail) × Contains ds d × (d.name < length ts) × ((t : Tenant) → ¬ Fits (slice_index_or ts d.name t) d)

-- a name is not accounted for
abbrev pub HasLost : List Closing → Type 0
HasLost cs = (x : ℕ) × (¬ Accounted cs x)

-- the reasons for the fault `Strange` of a run
abbrev pub IsStrange : List Tenant → List Closing → List (Final RingMail) → Type 0
IsStrange ts cs ds = HasTooMany (length ts) ds ⊎ (HasTooFew (length ts) ds ⊎ (HasMisfit ts ds ⊎ HasLost cs))

-- the fault of a run, if it has one, for these closings, dossiers and faults: `Memory` takes precedence over `Gate`, and
-- both take precedence over `Strange`
abbrev pub Concludes : List Tenant → List Closing → List (Final RingMail) → List (Option RunFault) → Option RunFault → Type 0
Concludes ts cs ds fs None = HadNoFault ds fs × ((x : ℕ) → Accounted cs x)
Concludes ts cs ds fs (Some Memory) = Unit {0}
Concludes ts cs ds fs (Some Gate) = HadMemory ds fs × Contains fs (Some Gate)
Concludes ts cs ds fs (Some Strange) = HadNoFault ds fs × IsStrange ts cs ds
Concludes ts cs ds fs (Some (Scenario f)) = ⊥
Concludes ts cs ds fs (Some Read) = ⊥
Concludes ts cs ds fs (Some Write) = ⊥

-- the dossier at the place of a name
abbrev pub dossier_at : List (Option (Final RingMail)) → ℕ → Option (Final RingMail)
dossier_at places x = option_and_then (λ o. o) (slice_get places x)

abbrev pub how_many : Option (Final RingMail) → ℕ
how_many None = 0
how_many (Some d) = 1

-- each dossier is at the place of its name, and no other dossier is there
pub record AreSeated (places : List (Option (Final RingMail))) (ds : List (Final RingMail)) : Type 0 where
  pub count : (x : ℕ) → dossiers_named x ds ≡ how_many (dossier_at places x)
  pub own : (x : ℕ) (d : Final RingMail) → dossier_at places x ≡ Some d → (d.name ≡ x) × Contains ds d

-- the tenant has no dossier at its place, or one that does not fit it
abbrev pub Unfit : Tenant → Option (Final RingMail) → Type 0
Unfit t None = Unit {0}
Unfit t (Some d) = ¬ Fits t d

-- no dossier at these places is of an experiment that was halted
abbrev pub AreEnded : List (Option (Final RingMail)) → Type 0
AreEnded places = (x : ℕ) (d : Final RingMail) → dossier_at places x ≡ Some d → d.ending ≢ Halted

-- memory ran out, or a tenant has no dossier at its place, or one that does not fit it
abbrev pub SettlesNot : List Tenant → List (Option (Final RingMail)) → RunFault → Type 0
SettlesNot ts places Memory = Unit {0}
SettlesNot ts places Strange = (k : ℕ) × (k < length ts) × ((t : Tenant) → Unfit (slice_index_or ts k t) (dossier_at places k))
SettlesNot ts places _ = ⊥

-- the place of the name exists, and is free
abbrev pub IsFreeAt : List (Option (Final RingMail)) → ℕ → Type 0
IsFreeAt places x = (x < length places) × (dossier_at places x ≡ None)
