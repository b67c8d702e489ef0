use Rattle.std.proofs.Common.{◌≡◌, ◌∙◌, ap, arith, length, take, drop, ◌++◌}
use Rattle.std.proofs.Math.Seq.{take-append_seam}
use Rattle.lab.proofs.tenants.serve.Goals as goal

pub serve_on-requires-clause-serves : goal.serve_on-requires-clause-serves
serve_on-requires-clause-serves g c = rw c.as_mut_slice.ensures.value c.requires.1

pub returns-clause-ok : goal.returns-clause-ok
returns-clause-ok g c =
    let new = c.serve_on.new.tenants in
    let items = c.args.tenants.items in
    let len : c.args.tenants.len ≡ length new = omega (arith, ap length c.as_mut_slice.ensures.value) in
    let whole : take c.args.tenants.len (new ++ drop (length new) items) ≡ new = ap (λ n. take n (new ++ drop (length new) items)) len ∙ take-append_seam new (drop (length new) items) in
    rw whole (omega (arith, ap length c.as_mut_slice.ensures.value), c.serve_on.ensures.serves)
