use Rattle.std.proofs.Common.{[], ◌∷◌, ◌++◌, sym, ◌∙◌, ap}
use Rattle.std.proofs.lemmas.List.{map-append}
use Rattle.due_index.specs.Places.{Places}
use Rattle.sources.specs.Leaves.{packet_due}
use Rattle.sources.proofs.index.SourceIndex.add_train.Goals as goal

pub returns : goal.returns
returns c = λ fs ts h. record {
  timers = h.timers;
  whole = h.whole;
  sending = h.sending;
  entries = h.entries;
  packets = ap (λ (p : Places). p.leaves) c.push.ensures
      ∙ (λ t. h.packets t ++ c.due.ensures.due t ∷ [])
      ∙ sym (map-append packet_due ts (c.args.train.now ∷ []));
}
