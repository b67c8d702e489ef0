-- A report that is written while its experiment runs.
use Rattle.std.specs.Prelude.{◌≡◌, ℕ, ◌+◌, ◌^◌, ◌<◌, min, List, [], ◌∷◌, ◌++◌, flat_map, slice_index_or, length, map, count_by, sum}
use Rattle.emu_model.specs.declared.records.Record.{Record}
use Rattle.packet_store.specs.Pocket.{Pocket}
use Rattle.emu_model.specs.Net.{is_delivery, drops_of, all_causes, counters_of}
use Rattle.emu_model.specs.Alone.{Trace}
use Rattle.emu_model.specs.RunLaws.{AddsUp, with_earlier}
use Rattle.emu_model.specs.declared.records.Counters.{Counters}
use Rattle.report.specs.Lines.{line_of}
use Rattle.report.specs.Lines as lines
use Rattle.report.specs.Rows.{npy_header, rows_of}
use Rattle.experiment.specs.declared.counts.RecordCounts.{RecordCounts}
use Rattle.experiment.specs.Kept.{KeptExperiment, view, IsHousedIn, IsAloneAfter}

-- the number of deliveries among the records, and the numbers of drops by cause
abbrev pub delivered_of : List Record → ℕ
delivered_of rs = count_by is_delivery rs

abbrev pub all_drops_of : List Record → List ℕ
all_drops_of rs = map (drops_of rs) all_causes

-- the bytes so far, and the numbers of packets delivered, and dropped by cause, in everything that was written
pub record Written : Type 0 where
  pub text : List ℕ
  pub delivered : ℕ
  pub drops : List ℕ

-- the counts are those of these records
pub record AreCountsOf (rs : List Record) (c : RecordCounts) : Type 0 where
  pub delivered : c.delivered ≡ delivered_of rs
  pub drops : c.drops ≡ all_drops_of rs

abbrev pub counts_in : Written → RecordCounts
counts_in t = record { delivered = t.delivered; drops = t.drops }

abbrev pub Counts : List Record → Written → Type 0
Counts rs t = AreCountsOf rs (counts_in t)

-- these records were written after the text `head`
pub record HasWritten (head : List ℕ) (rs : List Record) (t : Written) : Type 0 where
  pub text : t.text ≡ head ++ flat_map line_of rs
  pub counts : Counts rs t

-- an experiment with some owner's packets, whose records were counted except those that it still holds: its counters add up
pub record CanCount (c : RecordCounts) (e : KeptExperiment) : Type 0 where
  pub pocket : Pocket
  pub housed : IsHousedIn pocket e
  pub earlier : List Record
  pub counts : AreCountsOf earlier c
  pub adds : AddsUp (counters_of (with_earlier earlier (view pocket e)).net)

abbrev pub CanWrite : Written → KeptExperiment → Type 0
CanWrite t e = CanCount (counts_in t) e

-- the counts with these records added also fit into 64 bits
pub record IsCountable (c : RecordCounts) (rs : List Record) : Type 0 where
  pub delivered : c.delivered + delivered_of rs < 2 ^ 64
  pub drops : (k : ℕ) → slice_index_or c.drops k 0 + slice_index_or (all_drops_of rs) k 0 < 2 ^ 64

-- ---- reports whose lines are built when they are written
-- the first line, the records, and the counters of a report
pub record KeptReport : Type 0 where
  pub heading : List ℕ
  pub records : List Record
  pub counters : Counters

-- the text of a report, and those of several, in their order
abbrev pub text_of : KeptReport → List ℕ
text_of r = r.heading ++ flat_map line_of r.records ++ lines.counters_of r.counters

-- the report of a trace
abbrev pub kept_report : List ℕ → Trace → KeptReport
kept_report heading t = record { heading = heading; records = t.records; counters = t.counters }

abbrev pub texts_of : List KeptReport → List ℕ
texts_of rs = flat_map text_of rs

-- the first line, the records so far, and the counts of deliveries and drops among them
pub record Archived : Type 0 where
  pub heading : List ℕ
  pub records : List Record
  pub delivered : ℕ
  pub drops : List ℕ

abbrev pub archived_counts : Archived → RecordCounts
archived_counts a = record { delivered = a.delivered; drops = a.drops }

-- these are all records of the experiment so far, except those that it still holds
pub record IsArchived (a : Archived) (p : Pocket) (e : KeptExperiment) : Type 0 where
  pub counts : AreCountsOf a.records (archived_counts a)
  pub after : IsAloneAfter a.records p e

-- ---- rows
-- the number of rows of reports: one for each record, and one for the counters of each
abbrev pub row_count : List KeptReport → ℕ
row_count rs = sum (map (λ r. length r.records + 1) rs)

-- the rows of reports whose numbers begin with `first`; a scenario has at most 256 experiments
abbrev pub rows_from : ℕ → List KeptReport → List ℕ
rows_from first [] = []
rows_from first (r ∷ rs) = rows_of (min first 255) r.records r.counters ++ rows_from (first + 1) rs

-- the rows of reports as a file that NumPy loads
abbrev pub npy_of : List KeptReport → List ℕ
npy_of rs = npy_header (row_count rs) ++ rows_from 0 rs
