use Rattle.std.proofs.Common.{rules, ◌≡◌, ◌+◌, slice_index_or}
use Rattle.experiment.proofs.TouchFacts.{nothing, equal_next, gone_next, come_next, moved_next}
use Rattle.experiment.proofs.touched.compare.Goals as goal

pub returns-then-eq-clause-names : goal.returns-then-eq-clause-names
returns-then-eq-clause-names c =
    let is : slice_index_or c.args.old.now c.args.i nothing ≡ slice_index_or c.args.new.now c.args.j nothing = search rules in
    equal_next c.args.i c.args.j c.args.old.now c.args.new.now nothing c.args.sources.now.items c.requires.in_old c.requires.in_new is c.requires.names

pub returns-then-eq-2-clause-names : goal.returns-then-eq-2-clause-names
returns-then-eq-2-clause-names c =
    let is : (slice_index_or c.args.old.now c.args.i nothing).source ≡ (slice_index_or c.args.new.now c.args.j nothing).source = search rules in
    rw c.push_reserved.ensures.items
    (moved_next c.args.i c.args.j c.args.old.now c.args.new.now nothing c.args.sources.now.items c.requires.in_old c.requires.in_new is c.requires.names)

pub returns-then-is_of-clause-names : goal.returns-then-is_of-clause-names
returns-then-is_of-clause-names c =
    rw c.push_reserved-then-is_of.ensures.items
    (come_next c.args.i c.args.j c.args.old.now c.args.new.now nothing c.args.sources.now.items c.requires.in_new c.requires.names)

pub returns-then-is_of-2-clause-names : goal.returns-then-is_of-2-clause-names
returns-then-is_of-2-clause-names c =
    rw c.push_reserved-2.ensures.items
    (gone_next c.args.i c.args.j c.args.old.now c.args.new.now nothing c.args.sources.now.items c.requires.in_old c.requires.names)

pub returns-clause-names : goal.returns-clause-names
returns-clause-names c =
    rw c.push_reserved-3.ensures.items
    (come_next (c.args.i + 1) c.args.j c.args.old.now c.args.new.now nothing c.push_reserved-2.new.self.items c.requires.in_new
    (rw c.push_reserved-2.ensures.items (gone_next c.args.i c.args.j c.args.old.now c.args.new.now nothing c.args.sources.now.items c.requires.in_old c.requires.names)))
