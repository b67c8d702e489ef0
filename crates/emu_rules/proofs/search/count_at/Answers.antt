use Rattle.std.proofs.Common.{refl, sym, ap, ◌∙◌, ◌∷◌, [], set, length}
use Rattle.std.proofs.lemmas.Option.{slice_get_read}
use Rattle.emu_model.specs.Rules.{count_packet}
use Rattle.emu_rules.proofs.Counting.{count_one}
use Rattle.emu_rules.proofs.Settling.{one, counted-one}
use Rattle.emu_rules.proofs.search.count_at.Goals as goal

pub returns : goal.returns
returns c =
    let cs = c.args.rules.now in
    let p = c.args.packet.now in
    let own = c.index-rules-place.result in
    ap (set cs c.args.place) (c.count.ensures ∙ ap (count_packet p) (sym c.index-rules-place.is))
    ∙ count_one (one p.size) cs c.args.place own
    (slice_get_read cs (length cs) c.args.place own refl c.requires c.index-rules-place.is)
    ∙ sym (counted-one (c.args.place ∷ []) p 0 cs)
