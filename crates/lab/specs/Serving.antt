-- A tenant that posts the commands of its experiment.
use Rattle.std.specs.Prelude.{◌≡◌, ◌<◌, ℕ, List, length, slice_index_or, Vec}
use Rattle.std.specs.Global.{Global}
use Rattle.control.specs.declared.scenario.Experiment.{Experiment}
use Rattle.bench.specs.declared.tenant.Tenant.{Tenant}
use Rattle.bench.specs.Commands.{BeginsWith}
use Rattle.bench.specs.Tenants.{posted}

-- its spec is the experiment's, and the posted commands are the first of the experiment's
abbrev pub Serves : Tenant → Experiment → Type 0
Serves t e = (t.spec ≡ e.spec) × BeginsWith e.commands (posted t)

-- its name is its number, and it serves the experiment
abbrev pub IsTenantOf : ℕ → Tenant → Experiment → Type 0
IsTenantOf n t e = (t.name ≡ n) × Serves t e

-- the first tenants serve the first experiments, in the order of their numbers
abbrev pub ServesAll : List Tenant → List Experiment → Type 0
ServesAll ts es =
    (k : ℕ) (t : Tenant) (e : Experiment) → k < length ts → IsTenantOf k (slice_index_or ts k t) (slice_index_or es k e)

-- each experiment has its tenant
abbrev pub IsServed : Vec Tenant Global → List Experiment → Type 0
IsServed ts es = (length ts.items ≡ length es) × ServesAll ts.items es
