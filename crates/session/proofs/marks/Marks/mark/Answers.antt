use Rattle.std.proofs.Common.{◌≡◌, ℕ, ◌<◌, ◌/◌, List, length, ap, ◌∙◌, arith}
use Rattle.std.specs.Prelude.{get_or, set, bit_or}
use Rattle.std.proofs.lemmas.List.{get_or_default}
use Rattle.session.proofs.MarkFacts.{marked-one}
use Rattle.session.proofs.marks.Marks.mark.Goals as goal

pub returns : goal.returns
returns c =
    let bytes : List ℕ = c.loop-self.self-inside.bytes.items in
    let place : ℕ = c.args.number / 8 in
    let byte : ℕ = c.index_mut.result.now in
    let within : place < length bytes = let none = c.loop-self-test.false in let len = c.len.ensures in let ok = c.loop-self.self-inside.bytes.ok.0 in omega (arith, none, len, ok) in
    let read : byte ≡ get_or bytes place 0 = c.index_mut.ensures.value ∙ get_or_default bytes place byte 0 within in
    marked-one c.args.self.now bytes _ c.args.number
    (λ n. c.loop-self.invariant n ∙ ap (λ (l : List ℕ). get_or l n 0) c.self.view_is) within
    (ap (λ b. set bytes place (bit_or b c.bit_of.result)) read ∙ ap (λ b. set bytes place (bit_or (get_or bytes place 0) b)) c.bit_of.ensures)
