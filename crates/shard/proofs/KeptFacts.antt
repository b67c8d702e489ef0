-- What is kept when records are published, when a command comes, and after a step.
use Rattle.std.proofs.Common.{◌≡◌, ℕ, ◌<◌, ◌≤◌, true, false, cond, List, [], ◌∷◌, ◌++◌, length, take, Some, refl, sym, ap, ◌∙◌, arith}
use Rattle.std.specs.Prelude.{nat_lt}
use Rattle.std.proofs.lemmas.Bool.Decides.{nat_tests}
use Rattle.emu_model.specs.declared.commands.Timed.{Timed}
use Rattle.packet_store.specs.Pocket.{Pocket}
use Rattle.experiment.specs.Kept.{KeptExperiment, IsAlone, IsHousedIn, last_moment}
use Rattle.shard.specs.Seen.{Seen}
use Rattle.shard.specs.Stand.{heard_from}
use Rattle.shard.specs.Kept.{IsKept}

-- one more command that is given is consumed, unless its moment is below the last
heard_from-push : (consumed given : List Timed) (t : Timed) → heard_from consumed (given ++ t ∷ []) ≡ cond (nat_lt t.moment (last_moment 0 (heard_from consumed given))) (heard_from consumed given) (heard_from consumed given ++ t ∷ [])
heard_from-push consumed [] t = refl
heard_from-push consumed (g ∷ gs) t = heard_from-push (cond (nat_lt g.moment (last_moment 0 consumed)) consumed (consumed ++ g ∷ [])) gs t

not_below : (a b : ℕ) → a ≤ b → nat_lt b a ≡ false
not_below a b h = grind (arith, nat_tests)

below : (a b : ℕ) → b < a → nat_lt b a ≡ true
below a b h = grind (arith, nat_tests)

module _ {M : Type 0} (seen : M → Seen) (p : Pocket) (e : KeptExperiment) (published : ℕ) (mail : M)
    (k : IsKept seen p e published mail) where
  -- a command that is set aside
  pub kept-aside : (n later : ℕ) (mail' : M) (t : Timed) → (seen mail').letters ≡ take later e.net.log.records → later ≤ length e.net.log.records → (seen mail').given ≡ (seen mail).given ++ t ∷ [] →
      t.moment < last_moment 0 e.consumed → IsKept seen p (record e { spare = n }) later mail'
  kept-aside n later mail' t told short g b =
      let heard : heard_from [] (seen mail).given ≡ e.consumed = sym k.heard in
      let lt : nat_lt t.moment (last_moment 0 (heard_from [] (seen mail).given)) ≡ true = ap (λ cs. nat_lt t.moment (last_moment 0 cs)) heard ∙ below _ _ b in
      record {
        housed = record { housed = k.housed.housed; room = k.housed.room };
        budget = k.budget;
        some = k.some;
        alone = k.alone;
        told = told;
        short = short;
        heard = k.heard ∙ sym (ap (heard_from []) g ∙ heard_from-push [] (seen mail).given t ∙ ap (λ b. cond b (heard_from [] (seen mail).given) (heard_from [] (seen mail).given ++ t ∷ [])) lt);
        few = k.few;
      }

  -- a command that is consumed
  pub kept-took : (n later : ℕ) (mail' : M) (t : Timed) → (seen mail').letters ≡ take later e.net.log.records → later ≤ length e.net.log.records → (seen mail').given ≡ (seen mail).given ++ t ∷ [] →
      last_moment 0 e.consumed ≤ t.moment → let f = record e { next = Some t; consumed = e.consumed ++ t ∷ []; spare = n } in
      IsHousedIn p f → IsAlone p f → IsKept seen p f later mail'
  kept-took n later mail' t told short g b housed alone =
      let heard : heard_from [] (seen mail).given ≡ e.consumed = sym k.heard in
      let ge : nat_lt t.moment (last_moment 0 (heard_from [] (seen mail).given)) ≡ false = ap (λ cs. nat_lt t.moment (last_moment 0 cs)) heard ∙ not_below _ _ b in
      record {
        housed = housed;
        budget = k.budget;
        some = k.some;
        alone = alone;
        told = told;
        short = short;
        heard = ap (λ cs. cs ++ t ∷ []) k.heard ∙ sym (ap (heard_from []) g ∙ heard_from-push [] (seen mail).given t ∙ ap (λ b. cond b (heard_from [] (seen mail).given) (heard_from [] (seen mail).given ++ t ∷ [])) ge);
        few = k.few;
      }
