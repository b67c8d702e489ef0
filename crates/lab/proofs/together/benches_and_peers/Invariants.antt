use Rattle.std.proofs.Common.{◌≡◌, vec_len}
use Rattle.lab.proofs.together.benches_and_peers.Given as goal

abbrev pub invariant-loop : goal.invariant-loop
invariant-loop l = (vec_len l.benches ≡ l.counter) × (vec_len l.peers ≡ l.counter)
