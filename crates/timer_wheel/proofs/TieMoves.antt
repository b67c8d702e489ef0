-- Ties that wait, from call to call.
use Rattle.std.proofs.Common.{inl, inr, ◌⊎◌, ◌≡◌, ◌≢◌, ℕ, ◌+◌, ◌<◌, ◌≤◌, ◌++◌, List, [], ◌∷◌, length, get_or, Option, Some, None, slice_get, IfSome, IfNone, refl, sym, ap, subst, ◌∙◌, arith, length-append}
use Rattle.std.proofs.lemmas.Bool.{cases_eq}
use Rattle.std.proofs.lemmas.Option.{get_or_from_slice_get}
use Rattle.std.proofs.Math.ListN.{get_or-append}
use Rattle.emu_model.specs.declared.sources.Source.{Source}
use Rattle.timer_wheel.specs.declared.Entry.{Entry}
use Rattle.timer_wheel.specs.declared.ties.Tie.{Tie}
use Rattle.timer_wheel.specs.Index.{key_in}
use Rattle.timer_wheel.specs.Stocks.{StockBook, Holds, IsStock, due_of}
use Rattle.timer_wheel.specs.Ties.{TiesBook, Waits, tie_of}
use Rattle.timer_wheel.specs.Stands.{StandsAt, IsSeated}
use Rattle.timer_wheel.proofs.StockFacts.{some_same}
use Rattle.timer_wheel.proofs.WheelFacts.{due_held}

last_tie : (ts : List Tie) (x d : Tie) → get_or (ts ++ x ∷ []) (length ts) d ≡ x
last_tie [] x d = refl
last_tie (t ∷ ts) x d = last_tie ts x d

waits_push : (b : TiesBook) (x t : Tie) → Waits b t → Waits (record b { items = b.items ++ x ∷ [] }) t
waits_push b x t w =
    record { at = w.at; after = w.after; below = omega (arith, w.below, length-append b.items (x ∷ [])); is = get_or-append b.items (x ∷ []) t w.at w.below ∙ w.is }

waits_new : (b : TiesBook) (x : Tie) → b.next ≡ 0 → Waits (record b { items = b.items ++ x ∷ [] }) x
waits_new b x h = record { at = length b.items; after = omega arith; below = omega (arith, length-append b.items (x ∷ [])); is = last_tie b.items x x }

pub waits_advance : (b : TiesBook) (x t : Tie) → slice_get b.items b.next ≡ Some x → t ≢ x → Waits b t → Waits (record b { next = b.next + 1 }) t
waits_advance b x t top ne w =
    elim (cases_eq w.at b.next) [
      | inl same ↦ absurd (ne (sym w.is ∙ ap (λ k. get_or b.items k t) same ∙ get_or_from_slice_get b.items b.next x t top))
      | inr other ↦ record { at = w.at; after = omega (arith, w.after); below = w.below; is = w.is }
    ]

pub seat_next : (clock p : ℕ) (e : Entry) (old new : TiesBook) → IsSeated clock e old p new → new.next ≡ old.next
seat_next clock p e old new h = elim h [ inl x ↦ ap (λ (b : TiesBook). b.next) x.1 | inr x ↦ ap (λ (b : TiesBook). b.next) x.2 ]

pub seat_there : (clock p : ℕ) (e : Entry) (old new : TiesBook) → IsSeated clock e old p new → old.next ≡ 0 → StandsAt clock new p e
seat_there clock p e old new h zero =
    elim h [
      | inl x ↦ inl x.0
      | inr x ↦ inr (x.0, x.1, subst (λ b. Waits b (tie_of e)) (sym x.2) (waits_new old (tie_of e) zero))
    ]

pub seat_weak : (clock p : ℕ) (e : Entry) (old new : TiesBook) → IsSeated clock e old p new → (q : ℕ) (x : Entry) → StandsAt clock old q x → StandsAt clock new q x
seat_weak clock p e old new h q x s =
    elim s [
      | inl is ↦ inl is
      | inr tie ↦ inr (
        tie.0,
        tie.1,
        elim h [
          | inl y ↦ subst (λ b. Waits b (tie_of x)) (sym y.1) tie.2
          | inr y ↦ subst (λ b. Waits b (tie_of x)) (sym y.2) (waits_push old (tie_of e) (tie_of x) tie.2)
        ],
      )
    ]

-- a source's key is the one that holds its entry
pub one_key : (b : StockBook) → IsStock b → (k j : ℕ) (e x : Entry) (p q : ℕ) → Holds b.entries b.slots k e p → Holds b.entries b.slots j x q → e.owner ≡ x.owner → e.source ≡ x.source → k ≡ j
one_key b w k j e x p q h g o s =
    some_same k j (key_in b.index.keys e.owner e.source) (w.known k e p h) ((λ i. key_in b.index.keys (o i) (s i)) ∙ w.known j x q g)

pub not_waiting : (b : StockBook) → IsStock b → (tie : Tie) (key l : ℕ) (x : Entry) (q : ℕ) → Holds b.entries b.slots key x q → x.owner ≡ tie.owner → x.source ≡ tie.source
    → slice_get b.slots key ≡ Some l → l ≢ 2048 → (k : ℕ) (e : Entry) → Holds b.entries b.slots k e 2048 → tie_of e ≢ tie
not_waiting b w tie key l x q g o s at ne k e h is =
    let same : k ≡ key = one_key b w k key e x 2048 q h g (ap (λ (t : Tie). t.owner) is ∙ sym o) (ap (λ (t : Tie). t.source) is ∙ sym s) in
    ne (sym (some_same 2048 l (slice_get b.slots key) (sym (ap (slice_get b.slots) same) ∙ h.slot) at))

pub nothing_waits : (b : StockBook) → IsStock b → (tie : Tie) → due_of b tie.owner tie.source ≡ None → (k : ℕ) (e : Entry) → Holds b.entries b.slots k e 2048 → tie_of e ≢ tie
nothing_waits b w tie none k e h is =
    let bad : None ≡ Some e.due = sym (ap (λ (t : Tie). due_of b t.owner t.source) is ∙ none) ∙ due_held b w k e 2048 h in cc
