-- The sum beside what waits, as an item comes and goes.
use Rattle.std.proofs.Common.{◌≡◌, ℕ, zero, suc, ◌+◌, ◌-◌, ◌*◌, ◌<◌, ◌≤◌, List, [], ◌∷◌, ◌++◌, length, map, set, true, refl, sym, ap, ◌∙◌, slice_index_or, arith}
use Rattle.std.specs.Prelude.{All, sum}
use Rattle.std.proofs.lemmas.List.Sums.{sum-map, sum_by-cons, sum_by_push, sum_by-le}
use Rattle.std.proofs.lemmas.List.Elements.{All-push, All-cons, All-head, All-tail}
use Rattle.std.proofs.lemmas.Bool.{ltb-true, leb-true}
use Rattle.emu_model.specs.declared.pipes.QueueLimit.{QueueLimit}
use Rattle.emu_model.specs.declared.pipes.QueueLimit.TheVariants.{Slots, KBytes}
use Rattle.emu_model.specs.DropTail.{Queued, bytes_of, accepts}
use Rattle.queue_disc.specs.Queues.{IsCounted, IsLimit, with_item}

pub bytes_of-cons : {A : Type 0} (w : Queued A) (ws : List (Queued A)) →
    bytes_of (w ∷ ws) ≡ w.size + bytes_of ws
bytes_of-cons w ws =
    omega (arith, sum-map (λ v. v.size) (w ∷ ws), sum_by-cons (λ v. v.size) w ws, sum-map (λ v. v.size) ws)

bytes_of-push : {A : Type 0} (ws : List (Queued A)) (w : Queued A) →
    bytes_of (ws ++ w ∷ []) ≡ bytes_of ws + w.size
bytes_of-push ws w =
    omega (arith, sum-map (λ v. v.size) (ws ++ w ∷ []), sum_by_push (λ v. v.size) ws w, sum-map (λ v. v.size) ws)

-- items of up to 1500 bytes have so many in all
pub bytes_of-le : {A : Type 0} (ws : List (Queued A)) → All (λ v. v.size ≤ 1500) ws →
    bytes_of ws ≤ length ws * 1500
bytes_of-le ws h = omega (arith, sum-map (λ v. v.size) ws, sum_by-le (λ v. v.size) 1500 ws h)

pub IsCounted-push : {A : Type 0} (bytes : ℕ) (ws : List (Queued A)) (w : Queued A) →
    IsCounted bytes ws → w.size ≤ 1500 → bytes_of ws + w.size ≤ 1500000 →
    IsCounted (bytes + w.size) (ws ++ w ∷ [])
IsCounted-push bytes ws w h small few = record {
  sum = omega (arith, h.sum, bytes_of-push ws w);
  few = omega (arith, h.sum, few);
  sizes = All-push (λ v. v.size ≤ 1500) ws w h.sizes small;
}

pub IsCounted-tail : {A : Type 0} (bytes : ℕ) (w : Queued A) (ws : List (Queued A)) →
    IsCounted bytes (w ∷ ws) → IsCounted (bytes - w.size) ws
IsCounted-tail bytes w ws h = record {
  sum = omega (arith, h.sum, bytes_of-cons w ws);
  few = omega (arith, h.few);
  sizes = All-tail (λ v. v.size ≤ 1500) w ws h.sizes;
}

-- another item at a place
pub with_item-set : {A : Type 0} (ws : List (Queued A)) (n : ℕ) (w : Queued A) (item : A) → n < length ws →
    w ≡ slice_index_or ws n w → set ws n (record w { item = item }) ≡ with_item ws n item
with_item-set [] n w item within value = absurd (omega (arith, within))
with_item-set {A} (x ∷ ws) zero w item within value = ap (λ (v : Queued A). record v { item = item } ∷ ws) value
with_item-set {A} (x ∷ ws) (suc n) w item within value =
    ap (λ (l : List (Queued A)). x ∷ l) (with_item-set ws n w item (omega (arith, within)) value)

with_item-sizes : {A : Type 0} (ws : List (Queued A)) (n : ℕ) (item : A) →
    map (λ w. w.size) (with_item ws n item) ≡ map (λ w. w.size) ws
with_item-sizes [] n item = refl
with_item-sizes (w ∷ ws) zero item = refl
with_item-sizes (w ∷ ws) (suc n) item = ap (λ l. w.size ∷ l) (with_item-sizes ws n item)

with_item-small : {A : Type 0} (ws : List (Queued A)) (n : ℕ) (item : A) → All (λ w. w.size ≤ 1500) ws →
    All (λ w. w.size ≤ 1500) (with_item ws n item)
with_item-small [] n item h = h
with_item-small (w ∷ ws) zero item h =
    All-cons (λ v. v.size ≤ 1500) (record w { item = item }) ws (All-head (λ v. v.size ≤ 1500) w ws h) (All-tail (λ v. v.size ≤ 1500) w ws h)
with_item-small (w ∷ ws) (suc n) item h =
    All-cons (λ v. v.size ≤ 1500) w (with_item ws n item) (All-head (λ v. v.size ≤ 1500) w ws h)
    (with_item-small ws n item (All-tail (λ v. v.size ≤ 1500) w ws h))

pub IsCounted-replaced : {A : Type 0} (bytes : ℕ) (ws : List (Queued A)) (n : ℕ) (item : A) → IsCounted bytes ws →
    IsCounted bytes (with_item ws n item)
IsCounted-replaced bytes ws n item h = record {
  sum = h.sum ∙ ap sum (sym (with_item-sizes ws n item));
  few = h.few;
  sizes = with_item-small ws n item h.sizes;
}

-- so a queue has few bytes after what its limit lets in
pub accepted-few : {A : Type 0} (bytes : ℕ) (ws : List (Queued A)) (limit : QueueLimit) (size : ℕ) → IsCounted bytes ws →
    IsLimit limit → size ≤ 1500 → accepts limit ws size ≡ true → bytes_of ws + size ≤ 1500000
accepted-few bytes ws (Slots n) size counted limit small let_in =
    omega (arith, ltb-true (length ws) n let_in, limit, small, bytes_of-le ws counted.sizes)
accepted-few bytes ws (KBytes n) size counted limit small let_in =
    omega (arith, leb-true (bytes_of ws + size) (1024 * n) let_in, limit)
