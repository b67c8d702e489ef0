use Rattle.std.proofs.Common.{◌≡◌, ◌+◌, ◌++◌, drop, take, vec_len, vec_capacity}
use Rattle.queue_disc.proofs.tail.DropTail.take_into.Given as goal

abbrev pub invariant-loop : goal.invariant-loop
invariant-loop g l =
    (l.list.items ≡ l.initial.list.items ++ take l.counter l.initial.self.waiting)
    × (l.self ≡ record l.initial.self { waiting = drop l.counter l.initial.self.waiting })
    × (vec_len l.list ≡ vec_len l.initial.list + l.counter)
    × (vec_capacity l.list ≡ vec_capacity l.initial.list)
