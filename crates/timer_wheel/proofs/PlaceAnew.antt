-- Each key goes to the slot of its due at a clock of 0.
use Rattle.std.proofs.Common.{inl, inr, ◌≡◌, ◌≢◌, ℕ, ◌+◌, ◌<◌, length, set, Some, slice_get, count_by, min, refl, sym, ap, ◌∙◌, arith}
use Rattle.std.proofs.lemmas.Bool.{cases_eq}
use Rattle.std.proofs.lemmas.List.{length-set}
use Rattle.std.proofs.lemmas.Option.{slice_get_within}
use Rattle.timer_wheel.specs.declared.Entry.{Entry}
use Rattle.timer_wheel.specs.Places.{place_of}
use Rattle.timer_wheel.specs.Stocks.{StockBook, Holds, room_of}
use Rattle.timer_wheel.proofs.SlotFacts.{set_there, set_elsewhere}
use Rattle.timer_wheel.proofs.StockFacts.{some_same, is_free, free_stays}
use Rattle.timer_wheel.proofs.MoveFacts.{slots_alone}

-- the keys below so many have gone
pub record IsPlacing (old now : StockBook) (n : ℕ) : Type 0 where
  pub same : now ≡ record old { slots = now.slots }
  pub long : length now.slots ≡ length old.slots
  pub done : (k : ℕ) (e : Entry) (p : ℕ) → k < n → Holds now.entries now.slots k e p → p ≡ place_of 0 e.due
  pub room : room_of now ≡ room_of old

pub placing_none : (b : StockBook) → IsPlacing b b 0
placing_none b = record { same = refl; long = refl; done = λ k e p l h. absurd (omega arith); room = refl }

pub placing_free : (old now : StockBook) (n : ℕ) → IsPlacing old now n → slice_get now.slots n ≡ Some 2050 → IsPlacing old now (n + 1)
placing_free old now n g free =
    record {
      same = g.same;
      long = g.long;
      done = λ k e p l h.
          elim (cases_eq k n) [
            | inl same ↦ absurd (h.full (some_same p 2050 (slice_get now.slots n) (sym (ap (slice_get now.slots) same) ∙ h.slot) free))
            | inr nk ↦ g.done k e p (omega arith) h
          ];
      room = g.room;
    }

pub placing_more : (old now new : StockBook) (n l p : ℕ) (e : Entry) → IsPlacing old now n → slice_get now.slots n ≡ Some p → p ≢ 2050 → slice_get now.entries n ≡ Some e
    → l ≡ place_of 0 e.due → l < 2048 → new ≡ record now { slots = set now.slots n l } → IsPlacing old new (n + 1)
placing_more old now new n l p e g at full is there low f =
    let spot : new.slots ≡ set now.slots n l = ap (λ (b : StockBook). b.slots) f in
    let entries : new.entries ≡ now.entries = ap (λ (b : StockBook). b.entries) f in
    let within : n < length now.slots = slice_get_within now.slots n p at in
    record {
      same = slots_alone old now new (set now.slots n l) g.same f;
      long = ap length spot ∙ length-set now.slots n l ∙ g.long;
      done = λ k x q m h.
          let entry : slice_get now.entries k ≡ Some x = sym (ap (λ es. slice_get es k) entries) ∙ h.entry in
          let slot : slice_get (set now.slots n l) k ≡ Some q = sym (ap (λ xs. slice_get xs k) spot) ∙ h.slot in
          elim (cases_eq k n) [
            | inl same ↦
                let one : e ≡ x = some_same e x (slice_get now.entries n) is (sym (ap (slice_get now.entries) same) ∙ entry) in
                let here : l ≡ q = some_same l q (slice_get (set now.slots n l) n) (set_there now.slots n l within) (sym (ap (slice_get (set now.slots n l)) same) ∙ slot) in
                sym here ∙ there ∙ ap (λ (y : Entry). place_of 0 y.due) one
            | inr nk ↦ g.done k x q (omega arith) (record { entry = entry; slot = sym (set_elsewhere now.slots n k l nk) ∙ slot; full = h.full })
          ];
      room =
          let c : count_by is_free (set now.slots n l) ≡ count_by is_free now.slots = free_stays now.slots n l p at full (λ r. omega arith) in
          ap room_of f ∙ ap (λ v. min v now.index.room) c ∙ g.room;
    }
