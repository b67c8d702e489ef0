-- The records, and the counts of deliveries and drops among them.
use Rattle.std.specs.Prelude.{ℕ, List, map, count_by, ◌+◌, ◌-◌, slice_set, slice_index_or}
use Rattle.emu_model.specs.declared.records.Record.{Record}
use Rattle.emu_model.specs.declared.records.DropCause.{DropCause}
use Rattle.emu_model.specs.Net.{is_delivery, drops_of, cause_number, all_causes}

-- the records, and the number of further records that need no allocation
pub record Log : Type 0 where
  pub records : List Record
  pub spare : ℕ

-- the number of deliveries among the records
abbrev pub delivered_of : List Record → ℕ
delivered_of rs = count_by is_delivery rs

-- the number of drops among the records, by cause
abbrev pub all_drops_of : List Record → List ℕ
all_drops_of rs = map (drops_of rs) all_causes

-- the counts after one more drop of this cause
abbrev pub with_drop : List ℕ → DropCause → List ℕ
with_drop ns cause = slice_set ns (cause_number cause - 1) (slice_index_or ns (cause_number cause - 1) 0 + 1)
