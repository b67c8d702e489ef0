use Rattle.std.proofs.Common.{◌∙◌, arith}
use Rattle.std.proofs.lemmas.List.Edits.{length-remove}
use Rattle.reno_core.proofs.Receiving.{absorbed, found_at, filled-absorb, IsApart-absorb, Rises-remove}
use Rattle.reno_core.proofs.receiver.absorb_some.Goals as goal

pub returns-in_default-clause-kept : goal.returns-in_default-clause-kept
returns-in_default-clause-kept c =
    absorbed _ _ _ _ _ c.requires.least c.requires.most c.following.invariant.total c.requires.few c.following.invariant.rises c.following.invariant.apart c.in_default.ensures.position

pub following-preserved : goal.following-preserved
following-preserved c =
    let at = found_at _ _ _ c.in-Ok.ensures.position c.following.invariant.rises in
    let items = rw (c.remove.ensures.succeeds 0 c.in-Ok.ensures.bound) at c.remove.ensures.items in
    let whole = c.following.invariant in
    record {
      came = rw items (filled-absorb _ _ _ _ whole.rises at.0 at.1 ∙ whole.came);
      total = rw items (omega (arith, length-remove _ _ at.0, whole.total));
      grown = omega arith;
      rises = rw items (Rises-remove _ _ whole.rises);
      apart = rw items (IsApart-absorb _ _ _ _ whole.rises at.0 at.1 whole.apart);
      capacity = c.remove.ensures.capacity ∙ whole.capacity;
    }
