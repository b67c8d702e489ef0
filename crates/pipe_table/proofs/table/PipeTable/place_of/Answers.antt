use Rattle.std.proofs.Common.{◌≡◌, ℕ, ◌<◌, ◌≤◌, nat_lt, true, false, length, get_or, Some, None, sym, ap, ◌∙◌, subst, arith}
use Rattle.std.specs.Prelude.{unwrap_or}
use Rattle.std.proofs.lemmas.Bool.Decides.{nat_tests}
use Rattle.due_index.specs.Table.{place_in}
use Rattle.pipe_core.specs.Keyed.{KeyedPipe}
use Rattle.pipe_table.specs.Places.{StandsAt}
use Rattle.pipe_table.proofs.PlaceFacts.{standing-place, stands-within, stands-number, led-nowhere}
use Rattle.pipe_table.proofs.table.PipeTable.place_of.Goals as goal

none-some : {i : ℕ} → None ≡ Some i → ⊥
none-some e = cc

pub returns-in_err-place : goal.returns-in_err-place
returns-in_err-place c =
    let s = c.self.inside in
    let k = c.args.number in
    let nowhere : None ≡ place_in s.places k = c.in_err-place.ensures ∙ ap (place_in s.places) c.get.ensures.value in
    rw (← c.self.view_is)
    (c.from_residual.ensures ∙ led-nowhere k s.pipes.items s.places c.self.invariant.2 (λ i at e. none-some (nowhere ∙ e)))

pub returns-in_err-pipe : goal.returns-in_err-pipe
returns-in_err-pipe c =
    let s = c.self.inside in
    let ps = s.pipes.items in
    let k = c.args.number in
    let place = c.in_ok-place.place in
    let there : Some place ≡ place_in s.places k = c.in_ok-place.ensures ∙ ap (place_in s.places) c.get.ensures.value in
    let test : nat_lt place (length ps) ≡ false = ap (λ ss. nat_lt place (length ss)) (sym c.deref.ensures.value) ∙ sym c.in_err-pipe.ensures.lookup.0 in
    let outside : length ps ≤ place = grind (arith, nat_tests, test) in
    rw (← c.self.view_is)
    (c.from_residual-in_err-pipe.ensures
    ∙ led-nowhere k ps s.places c.self.invariant.2
    (λ i at e. omega (arith, outside, stands-within k i ps at, ap (λ o. unwrap_or o 0) (there ∙ e))))

pub returns-then-get : goal.returns-then-get
returns-then-get c =
    let s = c.self.inside in
    let ps = s.pipes.items in
    let k = c.args.number in
    let place = c.in_ok-place.place in
    let x : KeyedPipe = c.in_ok-pipe.pipe.now in
    let h = c.in_ok-pipe.ensures.lookup in
    let test : nat_lt place (length ps) ≡ true = ap (λ ss. nat_lt place (length ss)) (sym c.deref.ensures.value) ∙ sym h.0 in
    let within : place < length ps = grind (arith, nat_tests, test) in
    let read : x ≡ get_or ps place x = h.1 ∙ ap (λ ss. get_or ss place x) c.deref.ensures.value in
    let number : x.number ≡ k = sym c.number.ensures ∙ sym c.get-4.ensures.value ∙ c.if-get.true ∙ c.get-5.ensures.value in
    rw (← c.self.view_is) (subst (λ n. StandsAt n place ps) number (standing-place s.seed ps place x c.self.invariant.0.0 within read))

pub returns : goal.returns
returns c =
    let s = c.self.inside in
    let ps = s.pipes.items in
    let k = c.args.number in
    let place = c.in_ok-place.place in
    let x : KeyedPipe = c.in_ok-pipe.pipe.now in
    let h = c.in_ok-pipe.ensures.lookup in
    let there : Some place ≡ place_in s.places k = c.in_ok-place.ensures ∙ ap (place_in s.places) c.get.ensures.value in
    let read : x ≡ get_or ps place x = h.1 ∙ ap (λ ss. get_or ss place x) c.deref.ensures.value in
    rw (← c.self.view_is)
    (led-nowhere k ps s.places c.self.invariant.2
    (λ i at e. let same : i ≡ place = ap (λ o. unwrap_or o i) (sym (there ∙ e)) in
    let here : StandsAt k place ps = subst (λ j. StandsAt k j ps) same at in
    c.if-get.false (c.get-4.ensures.value ∙ c.number.ensures ∙ stands-number k place ps x here read ∙ sym c.get-5.ensures.value)))
