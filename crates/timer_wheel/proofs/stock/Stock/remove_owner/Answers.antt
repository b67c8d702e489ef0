use Rattle.std.proofs.Common.{◌≡◌, ℕ, ◌<◌, ◌%◌, length, slice_get, sym, ap, subst, ◌∙◌, arith}
use Rattle.timer_wheel.specs.declared.Entry.{Entry}
use Rattle.timer_wheel.specs.Stocks.{Holds, IsThinned}
use Rattle.std.proofs.lemmas.Option.{slice_get_within}
use Rattle.timer_wheel.proofs.StockFacts.{some_same}
use Rattle.timer_wheel.proofs.StockThin.{thin_removed, away_removed, fewer_removed, thin_laid, fewer_laid, away_laid, away_first, no_due}
use Rattle.timer_wheel.proofs.stock.Stock.remove_owner.Goals as goal

pub loop-key-smaller-then-entry-owner : goal.loop-key-smaller-then-entry-owner
loop-key-smaller-then-entry-owner c =
    let h : (e : Entry) × (p : ℕ) × Holds c.loop-key.self.entries c.loop-key.self.slots c.in-Some.key e p = c.in-Some.ensures.holds in
    let l : c.in-Some.key < length c.loop-key.self.slots = slice_get_within c.loop-key.self.slots c.in-Some.key h.1 h.2.slot in
    fewer_removed c.loop-key.self c.remove.new.self c.in-Some.key c.remove.result (record { entry = c.remove.ensures.entry; entries = c.remove.ensures.entries; slots = c.remove.ensures.slots; owners = c.remove.ensures.owners; rows = c.remove.ensures.rows; room = c.remove.ensures.room }) l (c.args.owner % 2048) (omega arith) c.in-Some.ensures.some

pub loop-key-preserved-then-entry-owner : goal.loop-key-preserved-then-entry-owner
loop-key-preserved-then-entry-owner c =
    let h : (e : Entry) × (p : ℕ) × Holds c.loop-key.self.entries c.loop-key.self.slots c.in-Some.key e p = c.in-Some.ensures.holds in
    let l : c.in-Some.key < length c.loop-key.self.slots = slice_get_within c.loop-key.self.slots c.in-Some.key h.1 h.2.slot in
    let is : c.remove.result.owner ≡ c.args.owner =
    ap (λ (e : Entry). e.owner) (some_same c.remove.result c.entry.result (slice_get c.loop-key.self.entries c.in-Some.key) c.remove.ensures.entry c.entry.ensures) ∙ c.if-entry-owner.true in
    subst (λ o. IsThinned o c.args.self.now c.remove.new.self) is
    (thin_removed c.loop-key.self c.remove.new.self c.in-Some.key c.remove.result (record { entry = c.remove.ensures.entry; entries = c.remove.ensures.entries; slots = c.remove.ensures.slots; owners = c.remove.ensures.owners; rows = c.remove.ensures.rows; room = c.remove.ensures.room }) l c.args.self.now (subst (λ o. IsThinned o c.args.self.now c.loop-key.self) (sym is) c.loop-key.invariant))

pub loop-key-smaller : goal.loop-key-smaller
loop-key-smaller c = fewer_laid c.loop-key.self c.lay.new.self c.in-Some.key (c.args.owner % 2048) 2049 c.lay.ensures (λ e. omega arith) c.in-Some.ensures.some

pub loop-key-preserved : goal.loop-key-preserved
loop-key-preserved c = thin_laid c.args.owner c.args.self.now c.loop-key.self c.lay.new.self c.in-Some.key 2049 c.lay.ensures c.loop-key.invariant

pub loop-key-2-init : goal.loop-key-2-init
loop-key-2-init c = record {
  thin = c.loop-key.invariant;
  away = away_first c.args.owner c.loop-key.self c.reveal_invariant.ensures c.in_default.ensures.none;
}

pub entry-entry-requires : goal.entry-entry-requires
entry-entry-requires c =
    let h : (e : Entry) × (p : ℕ) × Holds c.loop-key-2.self.entries c.loop-key-2.self.slots c.in-Some-owned_key.key e p = c.in-Some-owned_key.ensures.holds in
    let l : c.in-Some-owned_key.key < length c.loop-key-2.self.slots = slice_get_within c.loop-key-2.self.slots c.in-Some-owned_key.key h.1 h.2.slot in
    l

pub loop-key-2-smaller-then-entry-owner-2 : goal.loop-key-2-smaller-then-entry-owner-2
loop-key-2-smaller-then-entry-owner-2 c =
    let h : (e : Entry) × (p : ℕ) × Holds c.loop-key-2.self.entries c.loop-key-2.self.slots c.in-Some-owned_key.key e p = c.in-Some-owned_key.ensures.holds in
    let l : c.in-Some-owned_key.key < length c.loop-key-2.self.slots = slice_get_within c.loop-key-2.self.slots c.in-Some-owned_key.key h.1 h.2.slot in
    fewer_removed c.loop-key-2.self c.remove-then-entry-owner-2.new.self c.in-Some-owned_key.key c.remove-then-entry-owner-2.result (record { entry = c.remove-then-entry-owner-2.ensures.entry; entries = c.remove-then-entry-owner-2.ensures.entries; slots = c.remove-then-entry-owner-2.ensures.slots; owners = c.remove-then-entry-owner-2.ensures.owners; rows = c.remove-then-entry-owner-2.ensures.rows; room = c.remove-then-entry-owner-2.ensures.room }) l 2049 (omega arith) c.in-Some-owned_key.ensures.some

pub loop-key-2-preserved-then-entry-owner-2 : goal.loop-key-2-preserved-then-entry-owner-2
loop-key-2-preserved-then-entry-owner-2 c =
    let h : (e : Entry) × (p : ℕ) × Holds c.loop-key-2.self.entries c.loop-key-2.self.slots c.in-Some-owned_key.key e p = c.in-Some-owned_key.ensures.holds in
    let l : c.in-Some-owned_key.key < length c.loop-key-2.self.slots = slice_get_within c.loop-key-2.self.slots c.in-Some-owned_key.key h.1 h.2.slot in
    let is : c.remove-then-entry-owner-2.result.owner ≡ c.args.owner =
    ap (λ (e : Entry). e.owner) (some_same c.remove-then-entry-owner-2.result c.entry-entry.result (slice_get c.loop-key-2.self.entries c.in-Some-owned_key.key) c.remove-then-entry-owner-2.ensures.entry c.entry-entry.ensures) ∙ c.if-entry-owner-2.true in
    record {
      thin = subst (λ o. IsThinned o c.args.self.now c.remove-then-entry-owner-2.new.self) is
          (thin_removed c.loop-key-2.self c.remove-then-entry-owner-2.new.self c.in-Some-owned_key.key c.remove-then-entry-owner-2.result (record { entry = c.remove-then-entry-owner-2.ensures.entry; entries = c.remove-then-entry-owner-2.ensures.entries; slots = c.remove-then-entry-owner-2.ensures.slots; owners = c.remove-then-entry-owner-2.ensures.owners; rows = c.remove-then-entry-owner-2.ensures.rows; room = c.remove-then-entry-owner-2.ensures.room }) l c.args.self.now (subst (λ o. IsThinned o c.args.self.now c.loop-key-2.self) (sym is) c.loop-key-2.invariant.thin));
      away = away_removed c.loop-key-2.self c.remove-then-entry-owner-2.new.self c.in-Some-owned_key.key c.remove-then-entry-owner-2.result (record { entry = c.remove-then-entry-owner-2.ensures.entry; entries = c.remove-then-entry-owner-2.ensures.entries; slots = c.remove-then-entry-owner-2.ensures.slots; owners = c.remove-then-entry-owner-2.ensures.owners; rows = c.remove-then-entry-owner-2.ensures.rows; room = c.remove-then-entry-owner-2.ensures.room }) l c.args.owner c.loop-key-2.invariant.away;
    }

pub loop-key-2-smaller : goal.loop-key-2-smaller
loop-key-2-smaller c =
    fewer_laid c.loop-key-2.self c.lay-else-entry-owner-2.new.self c.in-Some-owned_key.key 2049 (c.entry-entry.result.owner % 2048) c.lay-else-entry-owner-2.ensures (λ e. omega arith) c.in-Some-owned_key.ensures.some

pub loop-key-2-preserved : goal.loop-key-2-preserved
loop-key-2-preserved c = record {
  thin = thin_laid c.args.owner c.args.self.now c.loop-key-2.self c.lay-else-entry-owner-2.new.self c.in-Some-owned_key.key (c.entry-entry.result.owner % 2048) c.lay-else-entry-owner-2.ensures c.loop-key-2.invariant.thin;
  away = away_laid c.args.owner c.loop-key-2.self c.lay-else-entry-owner-2.new.self c.in-Some-owned_key.key (c.entry-entry.result.owner % 2048) c.entry-entry.result c.lay-else-entry-owner-2.ensures c.entry-entry.ensures
      c.if-entry-owner-2.false c.loop-key-2.invariant.away;
}

pub returns-clause-none : goal.returns-clause-none
returns-clause-none c =
    no_due c.loop-key-2.self c.reveal_invariant-2.ensures c.args.owner
    (λ k e p h is. c.in_default-owned_key.ensures.none k (c.loop-key-2.invariant.away k e p h is))
