-- The residents of a shard, and their seats.
use Rattle.std.specs.Prelude.{◌≡◌, ◌≢◌, ℕ, ◌+◌, ◌^◌, ◌<◌, ◌≤◌, List, length, map, Option, Some, None, IsSome, IfSome, slice_index_or}
use Rattle.emu_model.specs.Moments.{end_of_time}
use Rattle.emu_model.specs.declared.sources.Source.{Source}
use Rattle.emu_model.specs.Net.{counters_of}
use Rattle.packet_store.specs.Pocket.{Pocket}
use Rattle.timer_wheel.specs.Rows.{Row}
use Rattle.shard.specs.Seen.{Seen}
use Rattle.shard.specs.Bodies.{Residence as Resident}
use Rattle.experiment.specs.Kept.{view}
use Rattle.shard.specs.Stand.{Stand, Seat, Final, seat_at, stands_of}
use Rattle.shard.specs.Entries.{entries_of}
use Rattle.shard.specs.Kept.{stand_of, IsGoing, next_kept}

module _ {M : Type 0} where
  abbrev pub resident_at : List (Option (Resident M)) → ℕ → Option (Resident M)
  resident_at slots k = slice_index_or slots k None

  abbrev pub standing : Pocket → Resident M → Stand M
  standing p r = stand_of p r.name r.experiment r.published r.mail

  -- the dossier of a resident that has ended
  pub record IsDossierOf (p : Pocket) (r : Resident M) (d : Final M) : Type 0 where
    pub ending : r.experiment.ending ≡ Some d.ending
    pub rest : let s = view p r.experiment in d ≡ record {
      name = r.name;
      spec = r.experiment.spec;
      commands = r.experiment.consumed;
      records = s.net.records;
      counters = counters_of s.net;
      ending = d.ending;
      events = s.steps;
      mail = r.mail;
    }

  abbrev pub seat : Pocket → Resident M → Seat M
  seat p r = record { stand = standing p r; offset = r.offset }

  abbrev pub seat_of : (ℕ → Pocket) → Option (Resident M) → Option (Seat M)
  seat_of pockets None = None
  seat_of pockets (Some r) = Some (seat (pockets r.owner) r)

  unfoldable pub seats_of : (ℕ → Pocket) → List (Option (Resident M)) → List (Option (Seat M))
  seats_of pockets slots = map (seat_of pockets) slots

  -- a resident with its packets and its row of the agenda
  pub record IsSeated (seen : M → Seen) (p : Pocket) (row : Row) (clock : ℕ) (r : Resident M) : Type 0 where
    pub going : IsGoing seen p r.experiment r.published r.mail
    pub entries : (s : Source) → row s ≡ entries_of r.offset (next_kept r.experiment) s
    pub ready : IsSome r.offset → IsSome r.experiment.next
    pub late : IfSome r.offset (λ o. o ≤ clock)
    pub below : (s : Source) (d : ℕ) → row s ≡ Some d → IfSome r.offset (λ o. d < o + end_of_time)

  abbrev pub Fits : (M → Seen) → (ℕ → Pocket) → Row → ℕ → Option (Resident M) → Type 0
  Fits seen pockets row clock None = (s : Source) → row s ≡ None
  Fits seen pockets row clock (Some r) = IsSeated seen (pockets r.owner) row clock r

  -- the owners of two residents differ
  abbrev pub AreApart : Option (Resident M) → Option (Resident M) → Type 0
  AreApart None o = Unit {0}
  AreApart (Some r) None = Unit {0}
  AreApart (Some r) (Some s) = r.owner ≢ s.owner

  pub record IsShard (seen : M → Seen) (pockets : ℕ → Pocket) (rows : ℕ → Row) (clock : ℕ) (slots : List (Option (Resident M))) : Type 0 where
    pub each : (k : ℕ) → Fits seen pockets (rows k) clock (resident_at slots k)
    pub apart : (i j : ℕ) → i ≢ j → AreApart (resident_at slots i) (resident_at slots j)
    pub long : length slots ≡ 256
    pub early : clock < 2 ^ 62 + end_of_time

  -- the agenda is being rewound, and the first `n` slots have their new entries; a resident that had an entry still has one
  pub record HasBegun (seen : M → Seen) (pockets : ℕ → Pocket) (rows : ℕ → Row) (clock : ℕ) (old now : List (Option (Resident M))) (n : ℕ) : Type 0 where
    pub shard : IsShard seen pockets rows clock now
    pub stands : stands_of (seats_of pockets now) ≡ stands_of (seats_of pockets old)
    pub offsets : (k : ℕ) (s : Seat M) → k < n → seat_at (seats_of pockets now) k ≡ Some s → IfSome s.offset (λ o. o ≤ 0)
    pub kept : (k : ℕ) (s : Seat M) → seat_at (seats_of pockets old) k ≡ Some s → IsSome s.offset
        → (t : Seat M) × (seat_at (seats_of pockets now) k ≡ Some t) × IsSome t.offset
