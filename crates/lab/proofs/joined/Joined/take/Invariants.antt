use Rattle.std.proofs.Common.{◌≡◌, ◌++◌, ◌∷◌, [], List, length, Option}
use Rattle.std.specs.Vec.Iter.{into_iter_items, into_iter_len}
use Rattle.shard.specs.Stand.{Final}
use Rattle.bench.specs.declared.closing.Closing.{Closing}
use Rattle.bench.specs.declared.mail.RingMail.{RingMail}
use Rattle.alone.specs.declared.fault.RunFault.{RunFault}
use Rattle.lab.specs.Gathers.{Holds}
use Rattle.lab.proofs.joined.Joined.take.Given as goal

abbrev pub invariant-loop-dossier : goal.invariant-loop-dossier
invariant-loop-dossier l = record {
  rest : l.yielded ++ into_iter_items l.dossier-iterator ≡ l.fn.given.dossiers.items;
  left : into_iter_len l.dossier-iterator ≡ length (into_iter_items l.dossier-iterator);
  len : length l.self.dossiers.items ≡ length l.fn.self.dossiers.items;
  holds : (cs : List Closing) (ds : List (Final RingMail)) (fs : List (Option RunFault)) →
      Holds l.fn.self cs ds fs → Holds l.self cs (ds ++ l.yielded) (fs ++ l.fn.given.fault ∷ []);
}
