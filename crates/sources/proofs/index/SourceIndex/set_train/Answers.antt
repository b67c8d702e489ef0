use Rattle.std.proofs.Common.{set, sym, ◌∙◌, ap}
use Rattle.std.proofs.lemmas.List.{map-set}
use Rattle.due_index.specs.Places.{Places}
use Rattle.sources.specs.Leaves.{packet_due}
use Rattle.sources.proofs.index.SourceIndex.set_train.Goals as goal

pub returns : goal.returns
returns c = λ fs ts h. record {
  timers = h.timers;
  whole = h.whole;
  sending = h.sending;
  entries = h.entries;
  packets = ap (λ (p : Places). p.leaves) c.set_least.ensures
      ∙ (λ t. set (h.packets t) c.args.place (c.due.ensures.due t))
      ∙ sym (map-set packet_due ts c.args.place c.args.train.now);
}
