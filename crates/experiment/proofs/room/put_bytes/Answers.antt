use Rattle.std.proofs.Common.{rules, ◌≡◌, ◌+◌, ◌-◌, ◌≤◌, ◌++◌, ◌∙◌, List, ℕ, length, take, ap, arith}
use Rattle.std.proofs.lemmas.Slice.{drop-put_mid, take-put_mid}
use Rattle.experiment.proofs.room.put_bytes.Goals as goal

pub returns-then-end-room-clause-put : goal.returns-then-end-room-clause-put
returns-then-end-room-clause-put c =
    let at = c.args.at in
    let end = c.in-Some.end in
    let room = c.args.room.now in
    let now = c.copy_from_slice.new.self in
    let same : now ≡ c.args.bytes.now = search rules in
    let ends : end ≡ at + length c.args.bytes.now = search rules in
    let fits : end ≤ length room = search rules in
    let long = ap length same in record {
      ends = ends;
      stands = λ h. take-put_mid at (end - at) room now end (omega (arith, ends, long)) (omega (arith, ends, fits))
          ∙ ap (λ (l : List ℕ). take at room ++ l) same;
      rest = drop-put_mid at (end - at) room now end (omega (arith, ends)) (omega (arith, ends, fits)) (omega (arith, ends, long));
      room = search rules;
    }
