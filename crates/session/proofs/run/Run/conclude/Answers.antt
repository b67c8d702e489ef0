use Rattle.std.proofs.Common.{◌≡◌, ◌++◌, subst, sym, ap, ◌∙◌}
use Rattle.std.specs.Prelude.{Result, Ok, Err, OnOk}
use Rattle.emu_model.specs.Net.{counters_of}
use Rattle.report.specs.Lines as lines
use Rattle.packet_store.specs.Own.{own_pocket}
use Rattle.experiment.specs.Kept.{view, IsHousedIn}
use Rattle.session.specs.Runs.{KeptRun, closing_of}
use Rattle.session.specs.contracts.run.Run.{the_view}
use Rattle.session.proofs.run.Run.conclude.Goals as goal

on_ok : {T E : Type 0} (P Q : Type 0) (r : Result T E) → (P → Q) → OnOk r P → OnOk r Q
on_ok P Q (Ok x) f h = f h
on_ok P Q (Err e) f h = h

pub returns : goal.returns
returns c =
    let before : KeptRun = the_view c.self.inside in
    let housed : IsHousedIn (own_pocket before.shelf) before.experiment =
    subst (λ (r : KeptRun). IsHousedIn (own_pocket r.shelf) r.experiment) (sym c.self.view_is) c.requires in
    let counted : c.counters.result ≡ counters_of (view (own_pocket before.shelf) before.experiment).net = c.counters.ensures (own_pocket before.shelf) housed in
    on_ok _ _ c.write_counters.result
    (λ h.
    (λ i. record before { report = h i })
    ∙ (λ i. record before { report = record before.report { text = before.report.text ++ lines.counters_of (record (counted i) { delivered = before.report.delivered; drops = before.report.drops }) } })
    ∙ ap (λ (r : KeptRun). record r { report = record r.report { text = r.report.text ++ closing_of r } }) c.self.view_is)
    c.write_counters.ensures
