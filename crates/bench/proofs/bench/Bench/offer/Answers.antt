use Rattle.std.proofs.Common.{◌≡◌, ◌++◌, ◌∷◌, [], ℕ, List, rules, ap, sym, ◌∙◌, subst}
use Rattle.shard.specs.Stand.{Stand}
use Rattle.shard.specs.Turns.{PackedAt}
use Rattle.bench.specs.declared.mail.RingMail.{RingMail}
use Rattle.bench.specs.Ends.{deque_view}
use Rattle.bench.proofs.Moves.{pushed_kept, out_kept}
use Rattle.bench.proofs.Seatings.{packed_there, goes_out}
use Rattle.bench.proofs.bench.Bench.offer.Goals as goal

pub remove_one-requires : goal.remove_one-requires
remove_one-requires c =
    let packed = c.in-Ok.ensures.ok in record {
      there = rw (c.name-name.ensures ∙ ap (λ (p : Stand RingMail). p.name) packed.1.same)
          (packed_there c.args.self.now.resident.items c.args.self.now.shard c.args.slot packed.0 c.args.self.now.sits packed.1.was);
    }

pub invariant_of-self-in-Ok-push-clause-kept : goal.invariant_of-self-in-Ok-push-clause-kept
invariant_of-self-in-Ok-push-clause-kept c =
    pushed_kept c.args.self.now c.name-name.result c.in-Ok.parcel c.name-name.ensures (deque_view c.push.new.self) c.reserve.new.self.items c.remove_one.new.names.items c.reserve.ensures.items c.in-Ok-push.ensures c.remove_one.ensures.others

pub invariant_of-self-in-Ok-push-clause-sits : goal.invariant_of-self-in-Ok-push-clause-sits
invariant_of-self-in-Ok-push-clause-sits c =
    let packed = c.in-Ok.ensures.ok in
    goes_out c.args.self.now.resident.items c.remove_one.new.names.items c.name-name.result c.args.self.now.shard c.pack.new.self c.args.slot packed.0
    c.args.self.now.sits packed.1.was packed.1.others (c.name-name.ensures ∙ ap (λ (p : Stand RingMail). p.name) packed.1.same) c.remove_one.ensures.others

pub invariant_of-self-in-Err-clause-kept : goal.invariant_of-self-in-Err-clause-kept
invariant_of-self-in-Err-clause-kept c =
    let n = c.name-name.result in
    out_kept c.args.self.now n c.push_reserved.new.self.items c.remove_one.new.names.items (deque_view c.push.new.self) c.in-Err.ensures.1
    (c.push_reserved.ensures.items ∙ ap (λ l. l ++ n ∷ []) c.reserve.ensures.items) c.remove_one.ensures.others

pub invariant_of-self-in-Err-clause-sits : goal.invariant_of-self-in-Err-clause-sits
invariant_of-self-in-Err-clause-sits c =
    let packed = c.in-Ok.ensures.ok in
    goes_out c.args.self.now.resident.items c.remove_one.new.names.items c.name-name.result c.args.self.now.shard c.pack.new.self c.args.slot packed.0
    c.args.self.now.sits packed.1.was packed.1.others (c.name-name.ensures ∙ ap (λ (p : Stand RingMail). p.name) packed.1.same) c.remove_one.ensures.others

pub returns-in-Err-clause-err : goal.returns-in-Err-clause-err
returns-in-Err-clause-err c =
    let packed = c.in-Ok.ensures.ok in
    let P : Stand RingMail → Type 0 = λ p. PackedAt p c.args.self.now.shard c.pack.new.self c.args.slot packed.0 in
    let name : c.name-name.result ≡ c.in-Err.parcel.name = c.name-name.ensures ∙ sym (ap (λ (p : Stand RingMail). p.name) c.in-Err.ensures.0) in
    let items : List ℕ = c.args.self.now.handed_out.items in
    let f : ℕ → List ℕ = λ n. items ++ n ∷ [] in (
      (packed.0, subst P (sym c.in-Err.ensures.0) packed.1),
      c.in-Err.ensures.1,
      (search rules, search rules, search rules, c.push_reserved.ensures.items ∙ ap (λ (l : List ℕ). l ++ c.name-name.result ∷ []) c.reserve.ensures.items ∙ ap f name),
    )
