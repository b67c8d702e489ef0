use Rattle.std.proofs.Common.{◌++◌, take, drop, ap, sym, ◌∙◌, append_assoc, arith}
use Rattle.std.specs.List.{flat_map}
use Rattle.report.specs.Archive.{entries_of}
use Rattle.std.proofs.lemmas.List.{take_all}
use Rattle.report.proofs.Taken.{take_further}
use Rattle.report.proofs.WholeRecords.{kept_further, stay_further}
use Rattle.report.proofs.archive.note_all.Goals as goal

pub loop-done-preserved : goal.loop-done-preserved
loop-done-preserved c =
    let l = c.loop-done in
    let inv = l.invariant in
    let e = c.in_ok-done.ensures in
    let n = c.in_ok-done.field-0 in
    let before = c.args.words.now.items in
    record {
      done = omega (arith, e.count);
      records = e.ok
          ∙ (λ i. inv.records i ++ take n (drop l.done c.args.records.now))
          ∙ append_assoc (flat_map (entries_of c.args.others.now.items) before) (take l.done c.args.records.now) (take n (drop l.done c.args.records.now))
          ∙ ap (λ rs. flat_map (entries_of c.args.others.now.items) before ++ rs) (sym (take_further c.args.records.now l.done n));
      stay = stay_further c.args.others.now.items l.others.items c.note.new.others.items inv.stay e.stay;
      kept = kept_further before l.words.items c.note.new.words.items inv.kept e.kept;
      sound = e.sound;
      room = omega (arith, e.room, inv.room, e.count);
    }

pub returns-clause-ok : goal.returns-clause-ok
returns-clause-ok c =
    let inv = c.loop-done.invariant in
    let rs = c.args.records.now in
    inv.records
    ∙ ap (λ l. flat_map (entries_of c.args.others.now.items) c.args.words.now.items ++ l) (take_all c.loop-done.done rs (omega (arith, c.loop-done-test.false)))
