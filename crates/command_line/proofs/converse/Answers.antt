use Rattle.command_line.proofs.TalkFacts.{talks}
use Rattle.command_line.proofs.converse.Goals as goal

pub returns-clause-talks : goal.returns-clause-talks
returns-clause-talks g c =
    rw (c.unlimited_outcome.ensures.leaves)
    (talks c.args.explain c.args.steps _ _ _ _ _ _ c.live.result c.live.ensures.own c.live.ensures.converses c.live.ensures.tells)
