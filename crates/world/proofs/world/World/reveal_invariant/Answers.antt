use Rattle.std.proofs.Common.{subst}
use Rattle.world.specs.Places.{AreAtOnePlace}
use Rattle.world.proofs.KeptFacts.{is_posted, are_letters}
use Rattle.world.proofs.PlaceFacts.{one_place}
use Rattle.world.proofs.world.World.reveal_invariant.Goals as goal

pub returns-clause-headline : goal.returns-clause-headline
returns-clause-headline g c = rw (← c.self.view_is) (λ n t e. (c.self.invariant.each n t e).is_alone)

pub returns-clause-whole : goal.returns-clause-whole
returns-clause-whole g c = rw (← c.self.view_is) (λ n t e. (c.self.invariant.each n t e).whole)

pub returns-clause-posted : goal.returns-clause-posted
returns-clause-posted g c = rw (← c.self.view_is) (λ n t e. is_posted n t (c.self.invariant.each n t e))

pub returns-clause-letters : goal.returns-clause-letters
returns-clause-letters g c = rw (← c.self.view_is) (λ n t e. are_letters n t (c.self.invariant.each n t e))

pub returns-clause-one_place : goal.returns-clause-one_place
returns-clause-one_place g c = subst AreAtOnePlace c.self.view_is (one_place _ c.self.invariant)
