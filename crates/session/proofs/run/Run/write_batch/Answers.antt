use Rattle.std.specs.Prelude.{Result, Ok, Err, OnOk}
use Rattle.session.specs.Runs.{Forgets}
use Rattle.session.proofs.RunFacts.{goes-written}
use Rattle.session.proofs.StopFacts.{keeps-same, keeps-written}
use Rattle.session.proofs.run.Run.write_batch.Goals as goal

on_ok : {T E : Type 0} (P Q : Type 0) (r : Result T E) → (P → Q) → OnOk r P → OnOk r Q
on_ok P Q (Ok x) f h = f h
on_ok P Q (Err e) f h = h

pub returns-clause-goes : goal.returns-clause-goes
returns-clause-goes c =
    on_ok (Forgets c.args.self.now c.write.new.self) _ c.write.result
    (λ f t u was g. goes-written t u was c.args.self.now c.write.new.self g f) c.write.ensures

pub returns-then-records-lt-BATCH-clause-keeps : goal.returns-then-records-lt-BATCH-clause-keeps
returns-then-records-lt-BATCH-clause-keeps c = keeps-same c.args.self.now

pub returns-clause-keeps : goal.returns-clause-keeps
returns-clause-keeps c = on_ok (Forgets c.args.self.now c.write.new.self) _ c.write.result (λ f. keeps-written c.args.self.now c.write.new.self f) c.write.ensures
