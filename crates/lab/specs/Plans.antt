-- The number of workers that run a scenario, and the faults that can occur while they run it.
use Rattle.std.specs.Prelude.{◌≡◌, ℕ, ◌≤◌, ◌^◌, Bool, true, false, cond, nat_le, Option, Some, None, Result, Ok, Err}
use Rattle.alone.specs.declared.fault.RunFault.{RunFault}
use Rattle.alone.specs.declared.fault.RunFault.TheVariants.{Memory, Gate, Strange}

-- 1 to 16 workers, and at most 10^6 turns between two moves
abbrev pub IsPlan : ℕ → ℕ → Type 0
IsPlan workers moves = (1 ≤ workers) × (workers ≤ 16) × (moves ≤ 10 ^ 6)

abbrev pub IsMemory : RunFault → Type 0
IsMemory e = e ≡ Memory

-- the faults of a worker: memory ran out, or the gate refused, if it may refuse
abbrev pub is_work_fault : Bool → RunFault → Bool
is_work_fault may_refuse Memory = true
is_work_fault may_refuse Gate = may_refuse
is_work_fault may_refuse _ = false

abbrev pub IsWorkFault : Bool → RunFault → Type 0
IsWorkFault may_refuse e = is_work_fault may_refuse e ≡ true

-- a worker without a fault, or with such a fault
abbrev pub is_honest : Bool → Option RunFault → Bool
is_honest may_refuse None = true
is_honest may_refuse (Some e) = is_work_fault may_refuse e

-- the faults of a run by workers: those of a worker, and `Strange`
abbrev pub IsTogetherFault : Bool → RunFault → Type 0
IsTogetherFault may_refuse Strange = Unit {0}
IsTogetherFault may_refuse e = IsWorkFault may_refuse e

-- the faults that can occur when a run is settled
abbrev pub IsSettleFault : RunFault → Type 0
IsSettleFault Memory = Unit {0}
IsSettleFault Strange = Unit {0}
IsSettleFault _ = ⊥

-- the gravity of a fault: `Memory` is graver than `Gate`, and both are graver than `Strange`
abbrev pub gravity : RunFault → ℕ
gravity Memory = 3
gravity Gate = 2
gravity Strange = 1
gravity _ = 0

-- the graver of two faults, the first of which may be absent
abbrev pub graver_of : Option RunFault → RunFault → RunFault
graver_of None b = b
graver_of (Some a) b = cond (nat_le (gravity a) (gravity b)) b a

-- no fault, or a fault of a worker: memory ran out, or the gate refused
abbrev pub IsWorkers : Option RunFault → Type 0
IsWorkers f = is_honest true f ≡ true

-- the fault of a call, if it has one
abbrev pub fault_of : {T : Type 0} → Result T RunFault → Option RunFault
fault_of (Ok x) = None
fault_of (Err e) = Some e
