use Rattle.std.proofs.Common.{◌≡◌, get_or, Option, Some, None, sym, subst}
use Rattle.std.specs.Prelude.{IfSome}
use Rattle.packet_store.specs.Own.{Own}
use Rattle.packet_store.specs.Books.{HasAll}
use Rattle.packet_store.proofs.Shelves.{set-all, has_all-take}
use Rattle.packet_store.proofs.shared.StoreShelf.take.Goals as goal

pub invariant_of-self-2 : goal.invariant_of-self-2
invariant_of-self-2 c = λ o.
    let s = c.self.inside in
    let there : get_or s.shelves.slots c.args.owner None ≡ Some c.in_ok-shelf.shelf.now = sym c.in_ok-shelf.ensures.value in
    let was : HasAll c.in_ok-shelf.shelf.now = subst (λ (x : Option Own). IfSome x HasAll) there (c.self.invariant c.args.owner) in
    set-all HasAll s.shelves.slots c.args.owner o c.take.new.self
    (has_all-take c.in_ok-shelf.shelf.now c.take.new.self c.take.result c.args.key was c.take.ensures.some c.take.ensures.none (c.take.ensures.room 0) c.take.ensures.grows)
    (c.self.invariant o)
