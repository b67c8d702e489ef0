-- A resident's row: one entry, or none.
use Rattle.std.proofs.Common.{◌≡◌, ℕ, ◌+◌, ◌<◌, Bool, true, false, cond, Option, Some, None, IsSome, refl, sym, ap, ◌∙◌, arith}
use Rattle.std.specs.Prelude.{is_some, option_to_list}
use Rattle.emu_model.specs.declared.commands.Timed.{Timed}
use Rattle.emu_model.specs.declared.sources.Due.{Due}
use Rattle.emu_model.specs.declared.sources.Source.{Source}
use Rattle.emu_model.specs.RunLaws.{same_source}
use Rattle.emu_model.specs.Step.{next_event}
use Rattle.packet_store.specs.Pocket.{empty_pocket}
use Rattle.experiment.specs.Dues.{first_due}
use Rattle.experiment.specs.Kept.{KeptExperiment, view}
use Rattle.shard.specs.Kept.{next_kept}
use Rattle.timer_wheel.specs.Rows.{Row, with_due}
use Rattle.shard.specs.Entries.{turn, row_at, row_of, entries_of}

-- the entry is moved
pub set_anew : (row : Row) (was at : ℕ) → ((s : Source) → row s ≡ row_at was s) → (s : Source) → with_due row turn at s ≡ row_at at s
set_anew row was at is s = go (same_source s turn) refl
  where
    go : (b : Bool) → same_source s turn ≡ b → cond b (Some at) (row s) ≡ cond b (Some at) None
    go true e = refl
    go false e = is s ∙ ap (λ b. cond b (Some was) None) e

-- it is there
pub has_entry : (row : Row) (was : ℕ) → ((s : Source) → row s ≡ row_at was s) → IsSome (row turn)
has_entry row was is = ap (λ o. is_some o) (is turn)

-- the moment at which it stands
pub row_below : (at bound : ℕ) (s : Source) (x : ℕ) → at < bound → row_at at s ≡ Some x → x < bound
row_below at bound s x below is = go (same_source s turn) is
  where
    go : (b : Bool) → cond b (Some at) None ≡ Some x → x < bound
    go true e = let f : at ≡ x = cc in omega (arith, below, f)
    go false e = absurd (cc)

-- what comes next is there where a command is
pub has_next : (e : KeptExperiment) (d : Due) → next_kept e ≡ Some d → IsSome e.next
has_next e d is = by_next e.next refl
  where
    by_next : (n : Option Timed) → e.next ≡ n → IsSome e.next
    by_next None none = let f : None ≡ Some d = sym (ap (λ (n : Option Timed). first_due (option_to_list n) (view (empty_pocket 0) e)) none) ∙ is in absurd (cc)
    by_next (Some c) some = ap is_some some

-- who isn't parked, and has a next command, has one entry
pub record HasRow (o : Option ℕ) (e : KeptExperiment) : Type 0 where
  pub at : ℕ
  pub entries : (s : Source) → entries_of o (next_kept e) s ≡ row_at at s

pub one_entry : (o : Option ℕ) (e : KeptExperiment) → IsSome o → IsSome e.next → HasRow o e
one_entry None e some next = absurd (cc)
one_entry (Some offset) e some next = by_next e.next refl next
  where
    by_next : (n : Option Timed) → e.next ≡ n → IsSome n → HasRow (Some offset) e
    by_next None none h = absurd (cc)
    by_next (Some c) is h = record {
      at = (next_event (view (empty_pocket 0) e) c).moment + offset;
      entries = λ s. ap (λ (n : Option Timed). row_of offset (first_due (option_to_list n) (view (empty_pocket 0) e)) s) is;
    }
