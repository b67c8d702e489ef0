-- The entries of keys.
use Rattle.std.specs.Prelude.{◌≡◌, ◌≢◌, ℕ, ◌≤◌, ◌%◌, ◌==◌, cond, ◌⊎◌, List, Option, Some, None, length, slice_get, count_by, min}
use Rattle.emu_model.specs.declared.sources.Source.{Source}
use Rattle.timer_wheel.specs.declared.Entry.{Entry}
use Rattle.timer_wheel.specs.Index.{IndexBook, key_in}

-- a stock as contracts see it: the entry, the list and the list by owner of each key, and the index
pub record StockBook : Type 0 where
  pub entries : List Entry
  pub slots : List ℕ
  pub owners : List ℕ
  pub index : IndexBook

-- key k has entry e, and is in list p; list 2050 has the keys without an entry
pub record Holds (entries : List Entry) (slots : List ℕ) (k : ℕ) (e : Entry) (p : ℕ) : Type 0 where
  pub entry : slice_get entries k ≡ Some e
  pub slot : slice_get slots k ≡ Some p
  pub full : p ≢ 2050

abbrev pub due_if : Option Entry → Option ℕ
due_if None = None
due_if (Some e) = Some e.due

abbrev pub due_by : List Entry → Option ℕ → Option ℕ
due_by entries None = None
due_by entries (Some k) = due_if (slice_get entries k)

-- the due of a source of an owner, if it has one
unfoldable pub due_of : StockBook → ℕ → Source → Option ℕ
due_of b o s = due_by b.entries (key_in b.index.keys o s)

-- each entry is found by its source and is in a list by its owner, and no other key is found or listed
pub record IsStock (b : StockBook) : Type 0 where
  pub entries_long : length b.slots ≤ length b.entries
  pub owners_long : length b.slots ≤ length b.owners
  pub known : (k : ℕ) (e : Entry) (p : ℕ) → Holds b.entries b.slots k e p → key_in b.index.keys e.owner e.source ≡ Some k
  pub found : (o : ℕ) (s : Source) (k : ℕ) → key_in b.index.keys o s ≡ Some k
      → (e : Entry) × (p : ℕ) × Holds b.entries b.slots k e p × (e.owner ≡ o) × (e.source ≡ s)
  pub owned : (k : ℕ) (e : Entry) (p : ℕ) → Holds b.entries b.slots k e p → (slice_get b.owners k ≡ Some (e.owner % 2048)) ⊎ (slice_get b.owners k ≡ Some 2049)
  pub listed : (k l : ℕ) → slice_get b.owners k ≡ Some l → l ≢ 2050 → (e : Entry) × (p : ℕ) × Holds b.entries b.slots k e p

-- a list with further elements after it
pub record IsMore {X : Type 0} (old new : List X) : Type 0 where
  pub kept : (k : ℕ) (x : X) → slice_get old k ≡ Some x → slice_get new k ≡ Some x
  pub long : length old ≤ length new

-- the lists with further keys, which have no entry
pub record IsGrown (entries : List Entry) (slots owners : List ℕ) (entries' : List Entry) (slots' owners' : List ℕ) : Type 0 where
  pub entries_more : IsMore entries entries'
  pub slots_more : IsMore slots slots'
  pub owners_more : IsMore owners owners'
  pub slots_free : (k p : ℕ) → slice_get slots' k ≡ Some p → p ≢ 2050 → slice_get slots k ≡ Some p
  pub owners_free : (k l : ℕ) → slice_get owners' k ≡ Some l → l ≢ 2050 → slice_get owners k ≡ Some l
  pub entries_long : length slots' ≤ length entries'
  pub owners_long : length slots' ≤ length owners'
  pub free : count_by (λ l. l == 2050) slots ≤ count_by (λ l. l == 2050) slots'

-- the number of further entries that need no allocation
abbrev pub room_of : StockBook → ℕ
room_of b = min (count_by (λ l. l == 2050) b.slots) b.index.room

-- entries of one owner were removed, and nothing else
pub record IsThinned (owner : ℕ) (old new : StockBook) : Type 0 where
  pub holds : (k : ℕ) (e : Entry) (p : ℕ) → Holds new.entries new.slots k e p → Holds old.entries old.slots k e p
  pub others : (o : ℕ) (s : Source) → o ≢ owner → due_of new o s ≡ due_of old o s
  pub room : room_of old ≤ room_of new

-- the keys of list 2049 moved to lists that are right for their entries
pub record IsSpread (right : ℕ → Entry → Type 0) (old new : StockBook) : Type 0 where
  pub same : new ≡ record old { slots = new.slots }
  pub stayed : (k p : ℕ) → p ≢ 2049 → slice_get old.slots k ≡ Some p → slice_get new.slots k ≡ Some p
  pub went : (k : ℕ) (e : Entry) → slice_get old.entries k ≡ Some e → slice_get old.slots k ≡ Some 2049
      → (p : ℕ) × (slice_get new.slots k ≡ Some p) × right p e
  pub came : (k p : ℕ) → slice_get new.slots k ≡ Some p → (slice_get old.slots k ≡ Some p) ⊎ (slice_get old.slots k ≡ Some 2049)
  pub none : (k : ℕ) → slice_get new.slots k ≡ Some 2049 → ⊥
  pub room : room_of new ≡ room_of old

-- the list of a key after slot `from` was emptied into list 2049
abbrev pub unless : ℕ → ℕ → ℕ
unless from p = cond (p == from) 2049 p
