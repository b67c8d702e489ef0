-- What the two ends of a deque know.
use Rattle.crossbeam_deque.specs.Handles.{view, worker_view}
use Rattle.bench.specs.declared.hand.Hand.{Hand}
use Rattle.bench.specs.declared.deque.Deque.{Deque}
use Rattle.bench.specs.declared.deque.Peer.{Peer}

abbrev pub deque_view : Deque → Hand
deque_view d = worker_view d.owner

abbrev pub peer_view : Peer → Hand
peer_view p = view p.pass
