use Rattle.std.proofs.Common.{◌≡◌, drop, sym, ap, ◌∙◌, eqb, not, arith}
use Rattle.std.specs.List.{prefix_len}
use Rattle.std.proofs.lemmas.List.{nil_from_length}
use Rattle.std.proofs.lemmas.List.Sums.{prefix_len-le-length}
use Rattle.control_words.specs.Text.{words}
use Rattle.control_words.proofs.Split.{skips, word_follows}
use Rattle.control_words.proofs.text.first_word.Goals as goal

pub split_at-requires : goal.split_at-requires
split_at-requires c = omega (arith, c.leading_spaces.ensures.value, prefix_len-le-length (λ b. eqb b 32) c.args.bytes.now)

pub returns-then-is_empty : goal.returns-then-is_empty
returns-then-is_empty c =
    let back : c.split_at.result.1.now ≡ drop (prefix_len (λ b. eqb b 32) c.args.bytes.now) c.args.bytes.now = c.split_at.ensures.back ∙ ap (λ n. drop n c.args.bytes.now) c.leading_spaces.ensures.value in
    skips (λ b. eqb b 32) c.args.bytes.now ∙ ap words (sym back ∙ nil_from_length _ (grind arith))

pub split_at-requires-2 : goal.split_at-requires-2
split_at-requires-2 c = omega (arith, c.word_end.ensures, prefix_len-le-length (λ b. not (eqb b 32)) c.split_at.result.1.now)

pub returns : goal.returns
returns c =
    let back : c.split_at.result.1.now ≡ drop (prefix_len (λ b. eqb b 32) c.args.bytes.now) c.args.bytes.now = c.split_at.ensures.back ∙ ap (λ n. drop n c.args.bytes.now) c.leading_spaces.ensures.value in
    word_follows (λ b. eqb b 32) c.args.bytes.now c.split_at.result.1.now c.split_at-2.result.0.now c.split_at-2.result.1.now c.word_end.result back (grind arith) c.word_end.ensures c.split_at-2.ensures.front c.split_at-2.ensures.back
