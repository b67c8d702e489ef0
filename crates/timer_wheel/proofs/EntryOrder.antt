-- Entries are in order by due, owner, class and number.
use Rattle.std.proofs.Common.{◌≡◌, ℕ, ◌≤◌, false, ◌==◌, ◌&&◌, ◌||◌, nat_lt}
use Rattle.std.specs.Cmp.{IsStrictWeakOrder}
use Rattle.std.proofs.lemmas.List.MinMax.{IsStrictWeakOrder-by_number}
use Rattle.emu_model.specs.Dues.{rank}
use Rattle.emu_model.proofs.CallerLemmas.{first_by-order, not_before}
use Rattle.timer_wheel.specs.declared.Entry.{Entry}
use Rattle.timer_wheel.specs.Rows.{is_before, source_before}

pub is_before-order : IsStrictWeakOrder is_before
is_before-order =
    first_by-order (λ e. e.due) _
    (first_by-order (λ e. e.owner) _
    (first_by-order (λ e. rank e.source.class) _ (IsStrictWeakOrder-by_number (λ (e : Entry). e.source.number))))

-- an entry that isn't before another isn't due before it
pub is_before-low : (a b : Entry) → is_before a b ≡ false → b.due ≤ a.due
is_before-low a b h =
    (not_before {X = Entry} (λ e. e.due) (λ x y. nat_lt x.owner y.owner || (x.owner == y.owner && source_before x.source y.source)) a b h).low
