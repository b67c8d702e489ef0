use Rattle.std.proofs.Common.{◌≡◌, ℕ, ◌+◌, ◌∷◌, ◌++◌, [], List, Some, take, map, sym, ap, ◌∙◌, arith}
use Rattle.std.specs.Prelude.{slice_get}
use Rattle.std.proofs.lemmas.List.{append_assoc, map-append, take_more}
use Rattle.std.proofs.lemmas.Option.{slice_get_within, get_or_from_slice_get}
use Rattle.emu_model.specs.Rules.{Counted, RuleBook}
use Rattle.emu_model.specs.declared.records.Record.{Record}
use Rattle.emu_model.specs.declared.records.Record.TheVariants.{RuleLine}
use Rattle.network.proofs.commands.note_rules.Goals as goal

-- a line more, for the rule at place k
line_more : (f : Counted → Record) (xs : List Counted) (k : ℕ) (c : Counted) (before : List Record) → slice_get xs k ≡ Some c →
    (before ++ map f (take k xs)) ++ f c ∷ [] ≡ before ++ map f (take (k + 1) xs)
line_more f xs k c before there =
    let more : take (k + 1) xs ≡ take k xs ++ c ∷ [] =
    take_more xs k c (slice_get_within xs k c there) ∙ ap (λ x. take k xs ++ x ∷ []) (get_or_from_slice_get xs k c c there) in
    append_assoc before (map f (take k xs)) (f c ∷ [])
    ∙ ap (λ ys. before ++ ys) (sym (map-append f (take k xs) (c ∷ [])))
    ∙ ap (λ ys. before ++ map f ys) (sym more)

pub loop-place-preserved : goal.loop-place-preserved
loop-place-preserved c =
    let i = c.loop-place.invariant in
    let own = c.rule_at-counted.result in
    let line = λ (c : Counted). RuleLine c.rule c.packets c.bytes in
    let there : slice_get c.args.book.now.rules c.loop-place.place ≡ Some own =
    ap (λ (b : RuleBook). slice_get b.rules c.loop-place.place) (sym i.book) ∙ c.rule_at-counted.ensures.rule in
    let written : RuleLine c.rule.result c.packets.result c.bytes.result ≡ line own = cc (c.rule.ensures, c.packets.ensures, c.bytes.ensures) in
    record {
      book = c.rule_at-counted.ensures.same ∙ i.book;
      records = c.note.ensures.records
          ∙ ap (λ (r : Record). c.loop-place.log.records ++ r ∷ []) written
          ∙ ap (λ (rs : List Record). rs ++ line own ∷ []) i.records
          ∙ line_more line c.args.book.now.rules c.loop-place.place own c.args.log.now.records there;
      room = omega (arith, i.room, c.note.ensures.room);
    }
