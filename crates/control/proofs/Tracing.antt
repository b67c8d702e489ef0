-- Elements that are changed one after the other, and scenarios whose packets are traced.
use Rattle.std.proofs.Common.{◌≡◌, ℕ, ◌<◌, ◌≤◌, zero, suc, List, [], ◌∷◌, length, get_or, set, take, drop, map, ◌++◌, refl, sym, ap, subst, ◌∙◌, arith}
use Rattle.std.specs.Prelude.{All, slice_index_or}
use Rattle.std.proofs.lemmas.List.{length-map}
use Rattle.std.proofs.lemmas.List.Elements.{All-map}
use Rattle.emu_model.specs.declared.commands.Timed.{Timed}
use Rattle.control.specs.declared.scenario.Experiment.{Experiment}
use Rattle.control.specs.Order.{AreInOrder}
use Rattle.control.specs.Ranges.{IsScenario}
use Rattle.control.specs.Traced.{traced, traced_command}

-- the first i elements are changed
abbrev pub done : {A : Type 0} → (A → A) → List A → ℕ → List A
done f xs i = map f (take i xs) ++ drop i xs

pub done-get : {A : Type 0} (f : A → A) (xs : List A) (i : ℕ) (d : A) → get_or (done f xs i) i d ≡ get_or xs i d
done-get f [] zero d = refl
done-get f [] (suc i) d = refl
done-get f (x ∷ xs) zero d = refl
done-get f (x ∷ xs) (suc i) d = done-get f xs i d

pub done-more : {A : Type 0} (f : A → A) (xs : List A) (i : ℕ) (d : A) → i < length xs →
    set (done f xs i) i (f (get_or xs i d)) ≡ done f xs (suc i)
done-more f [] i d within = absurd (omega arith)
done-more f (x ∷ xs) zero d within = refl
done-more f (x ∷ xs) (suc i) d within =
    let less : i < length xs = omega (arith, within) in ap (λ l. f x ∷ l) (done-more f xs i d less)

-- the times stay
in-order : (moment : ℕ) (cs : List Timed) → AreInOrder moment cs → AreInOrder moment (map traced_command cs)
in-order moment [] h = tt
in-order moment (c ∷ cs) h = (h.0, h.1, in-order c.moment cs h.2)

pub traced-scenario : (es : List Experiment) → IsScenario es → IsScenario (map traced es)
traced-scenario es h = record {
  few = omega (arith, h.few, length-map es traced);
  in_order = All-map (λ e. AreInOrder 0 e.commands) traced es (λ k d below. in-order 0 (slice_index_or es k d).commands (h.in_order k d below));
}
