use Rattle.std.proofs.Common.{sym, ap, ◌∙◌, ◌++◌, ◌∷◌, [], take, map}
use Rattle.std.proofs.lemmas.List.{map_more}
use Rattle.alone.specs.Reports.{made_alone}
use Rattle.alone.proofs.alone.run_all.Goals as goal

pub loop-script-preserved : goal.loop-script-preserved
loop-script-preserved g c = record {
  done = c.in_ok-push.ensures.items
      ∙ ap (λ l. l ++ c.in_ok-report.report ∷ []) c.loop-script.invariant.done
      ∙ ap (λ t. map made_alone (take c.loop-script.script-index c.args.scripts.now) ++ t ∷ []) (
      c.in_ok-report.ensures ∙ ap made_alone c.script-item.is)
      ∙ sym (map_more made_alone c.args.scripts.now c.loop-script.script-index c.script-item.result c.loop-script-test.true);
}
