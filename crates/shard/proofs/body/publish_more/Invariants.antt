use Rattle.std.proofs.Common.{◌≡◌, ◌≤◌, ◌-◌, ◌++◌, length, take}
use Rattle.shard.specs.Seen.{IsToldMore}
use Rattle.shard.proofs.body.publish_more.Given as goal

abbrev pub invariant-loop-next : goal.invariant-loop-next
invariant-loop-next g l =
    ((g.M.Mail.seen l.mail).letters ≡ take l.next (g.M.Mail.kept l.initial.mail ++ l.fresh)) × IsToldMore g.M.Mail.seen l.initial.mail l.mail
    × (g.M.Mail.kept l.mail ≡ g.M.Mail.kept l.initial.mail) × (l.next ≤ length (g.M.Mail.kept l.initial.mail ++ l.fresh))

abbrev pub decreases-loop-next : goal.decreases-loop-next
decreases-loop-next g l = l.count - l.next
