use Rattle.std.proofs.Common.{◌≡◌, ◌∷◌, ◌++◌, suc, drop, sym, ap, subst, ◌∙◌}
use Rattle.std.specs.Prelude.{Some, slice_index_or}
use Rattle.std.specs.List.{All, flat_map}
use Rattle.std.proofs.lemmas.List.Elements.{All-head, All-tail}
use Rattle.emu_model.specs.declared.records.Record.TheVariants.{StepsSpent}
use Rattle.report.specs.Archive.{IsEntry, IsLeft, Names, SpellsKind, arrival_of, arrived_as, entries_of, left_of}
use Rattle.report.proofs.WholeRecords.{word_read}
use Rattle.report.proofs.reader.take_next.Goals as goal

pub returns-in_default-clause-some : goal.returns-in_default-clause-some
returns-in_default-clause-some c =
    let os = c.args.others.now in
    let w = c.in_ok-word.word in
    let vs = c.skip.new.self in
    let is = c.in_ok-word.ensures.some ∙ (λ i. w ∷ sym c.skip.ensures i) in
    let before = ap (λ l. left_of os l ++ flat_map (entries_of os) c.args.words.now) c.in_default.is ∙ ap (flat_map (entries_of os)) is in
    let e = c.first_in.ensures in
    word_read os _ vs w c.first_in.result.0 c.first_in.result.1 c.first_in.new.left before e.0 e.1 e.2
    (All-head (IsEntry os) w vs (subst (All (IsEntry os)) is c.requires.words))

pub returns-in_default-clause-words : goal.returns-in_default-clause-words
returns-in_default-clause-words c =
    let os = c.args.others.now in
    let w = c.in_ok-word.word in
    All-tail (IsEntry os) w c.skip.new.self (subst (All (IsEntry os)) (c.in_ok-word.ensures.some ∙ (λ i. w ∷ sym c.skip.ensures i)) c.requires.words)

pub returns-in-All-clause-some : goal.returns-in-All-clause-some
returns-in-All-clause-some c =
    let os = c.args.others.now in
    let w = c.in-All.word in
    let before = ap (λ l. left_of os l ++ flat_map (entries_of os) c.args.words.now) (c.in-Some.is ∙ ap Some c.in-All.is) in
    let e = c.first_in-in-All.ensures in
    word_read os _ c.args.words.now w c.first_in-in-All.result.0 c.first_in-in-All.result.1 c.first_in-in-All.new.left before e.0 e.1 e.2
    (subst (IsLeft os) (c.in-Some.is ∙ ap Some c.in-All.is) c.requires.left)

pub returns-in-Second-clause-some : goal.returns-in-Second-clause-some
returns-in-Second-clause-some c =
    let os = c.args.others.now in
    let w = c.in-Second.word in
    let p = c.arrival_parts.result in
    let e = c.arrival_parts.ensures in (
      arrival_of os w,
      subst (λ k. SpellsKind k os w p (arrival_of os w)) (sym e.kind)
          (subst (λ k. Names k p.tag p.number) e.kind e.names, e.record ∙ ap (λ q. arrived_as (slice_index_or os (suc q.tag) (StepsSpent 0)) q) c.unpack.ensures),
      ap (λ l. left_of os l ++ flat_map (entries_of os) c.args.words.now) (c.in-Some.is ∙ ap Some c.in-Second.is),
    )
