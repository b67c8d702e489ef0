-- What is known while the results of the workers are collected, one after the other.
use Rattle.std.specs.Prelude.{◌≡◌, List, length, Contains, Option, None, Some}
use Rattle.shard.specs.Stand.{Final}
use Rattle.bench.specs.declared.closing.Closing.{Closing}
use Rattle.bench.specs.declared.mail.RingMail.{RingMail}
use Rattle.alone.specs.declared.fault.RunFault.{RunFault}
use Rattle.alone.specs.declared.fault.RunFault.TheVariants.{Memory, Gate, Strange, Scenario, Read, Write}
use Rattle.lab.specs.declared.joined.Joined.{Joined}
use Rattle.lab.specs.Joins.{HadMemory, HadNoFault, HasTooMany, AreSeated}

-- what the gravest fault so far implies for these closings, dossiers and faults
abbrev pub HoldsBy : Option RunFault → List (Option (Final RingMail)) → List Closing → List Closing → List (Final RingMail) → List (Option RunFault) → Type 0
HoldsBy None places closings cs ds fs = HadNoFault ds fs × AreSeated places ds × (closings ≡ cs)
HoldsBy (Some Memory) places closings cs ds fs = Unit {0}
HoldsBy (Some Gate) places closings cs ds fs = HadMemory ds fs × Contains fs (Some Gate)
HoldsBy (Some Strange) places closings cs ds fs = HadNoFault ds fs × HasTooMany (length places) ds
HoldsBy (Some (Scenario f)) places closings cs ds fs = ⊥
HoldsBy (Some Read) places closings cs ds fs = ⊥
HoldsBy (Some Write) places closings cs ds fs = ⊥

abbrev pub Holds : Joined → List Closing → List (Final RingMail) → List (Option RunFault) → Type 0
Holds j cs ds fs = HoldsBy j.fault j.dossiers.items j.closings.items cs ds fs
