use Rattle.std.proofs.Common.{rules, ◌++◌, ◌∷◌, [], ℕ, Some, set, sym, subst, ◌∙◌}
use Rattle.std.proofs.Math.ListN.{length-set}
use Rattle.lab.specs.Joins.{IsFreeAt, AreSeated}
use Rattle.lab.proofs.Gatherings.{strange_noted, placed, crowded, seated_more}
use Rattle.lab.proofs.joined.Joined.put.Goals as goal

pub returns-then-not-is_free-clause-holds : goal.returns-then-not-is_free-clause-holds
returns-then-not-is_free-clause-holds c cs ds fs h =
    let old = c.args.self.now in
    let note = c.note-then-not-is_free in
    rw (note.ensures.same.0, note.ensures.same.1)
    (strange_noted old.fault note.new.self.fault old.dossiers.items old.closings.items cs ds fs c.args.dossier note.ensures.graver
    (λ halted. c.is_halted.ensures.ended c.if-is_halted.false (c.ending.ensures ∙ halted))
    (crowded old.dossiers.items ds c.args.dossier
    (λ free. absurd (let yes = c.is_free.ensures.1 (subst (IsFreeAt old.dossiers.items) (sym c.name-place.ensures) free) in let no = c.if-not-is_free.true in cc))) h)

pub returns-clause-holds : goal.returns-clause-holds
returns-clause-holds c cs ds fs h =
    let old = c.args.self.now in
    let places = old.dossiers.items in
    let place = c.name-place.result in
    let free : IsFreeAt places c.args.dossier.name = subst (IsFreeAt places) c.name-place.ensures (c.is_free.ensures.0 (search rules)) in
    placed old.fault places (set places place (Some c.args.dossier)) old.closings.items cs ds fs c.args.dossier
    (λ halted. c.is_halted.ensures.ended c.if-is_halted.false (c.ending.ensures ∙ halted)) (length-set places place (Some c.args.dossier))
    (λ s. subst (λ (x : ℕ). AreSeated (set places x (Some c.args.dossier)) (ds ++ c.args.dossier ∷ [])) (sym c.name-place.ensures) (seated_more places ds c.args.dossier free s)) h
