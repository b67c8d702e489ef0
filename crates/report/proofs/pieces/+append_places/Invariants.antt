use Rattle.report.proofs.pieces.+append_places.Given as goal

abbrev pub decreases-append_places : goal.decreases-append_places
decreases-append_places l = l.count
