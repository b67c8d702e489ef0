use Rattle.std.proofs.Common.{◌≡◌, ℕ, List, ◌++◌, subst}
use Rattle.std.specs.Prelude.{flat_map, OnOk}
use Rattle.session.specs.Sessions.{written}
use Rattle.alone.specs.Talks.{refusal}
use Rattle.alone.proofs.Talking.{taken-replies, refused-replies}
use Rattle.alone.proofs.talk.answer_line.Goals as goal

pub returns-in-None-clause-replies : goal.returns-in-None-clause-replies
returns-in-None-clause-replies g c =
    taken-replies (g.H.Hints.may_say c.args.hints.now) c.args.line.now c.args.out.now.items c.take.new.out.items c.in-Ok.fault c.args.session.now c.take.new.self
    c.in-None.is c.in-Ok.ensures.fault c.in-Ok.ensures.takes c.in-Ok.ensures.does

pub returns-in-Some-clause-replies : goal.returns-in-Some-clause-replies
returns-in-Some-clause-replies g c =
    refused-replies (g.H.Hints.may_say c.args.hints.now) c.args.line.now c.args.out.now.items c.take.new.out.items c.refuse.new.out.items c.in-Ok.fault c.in-Some.cause
    c.args.session.now c.take.new.self c.refuse.result c.in-Some.is c.in-Ok.ensures.fault c.in-Ok.ensures.same
    (subst (λ (l : List ℕ). OnOk c.refuse.result ((hint : List ℕ) × g.H.Hints.may_say c.args.hints.now l c.in-Some.cause hint × (c.refuse.new.out.items ≡ c.take.new.out.items ++ flat_map written (refusal hint c.in-Some.cause))))
    c.seen_of.ensures c.refuse.ensures.says)
