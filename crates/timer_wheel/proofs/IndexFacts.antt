-- What a map by sources holds, as rows.
use Rattle.std.proofs.Common.{inl, inr, ◌≡◌, ℕ, Bool, ◌==◌, ◌&&◌, cond, List, [], Option, None, refl, sym, ◌∙◌, eq-eqb}
use Rattle.std.proofs.lemmas.Bool.{cases_Bool, eqb-true, true≢false}
use Rattle.std.specs.Map.{lookup}
use Rattle.emu_model.specs.declared.sources.Source.{Source}
use Rattle.emu_model.specs.RunLaws.{same_source}
use Rattle.timer_wheel.specs.declared.index.Whose.{Whose}
use Rattle.timer_wheel.specs.Index.{is_whose, whose_of, key_in}
use Rattle.timer_wheel.proofs.Sources.{same_source-sym}

eqb_flip : (a b : ℕ) → (a == b) ≡ (b == a)
eqb_flip a b =
    elim (cases_Bool (a == b)) [
      | inl t ↦ t ∙ sym (eq-eqb b a (sym (eqb-true a b t)))
      | inr f ↦ elim (cases_Bool (b == a)) [
        | inl t ↦ absurd (true≢false (sym (eq-eqb a b (sym (eqb-true b a t))) ∙ f))
        | inr g ↦ f ∙ sym g
      ]
    ]

pub no_key : (o : ℕ) (s : Source) → key_in [] o s ≡ None
unfolding key_in
no_key o s = refl

pub key_found : (ws : List (Whose × ℕ)) (o : ℕ) (s : Source) → lookup (is_whose o s) ws ≡ key_in ws o s
unfolding key_in
key_found ws o s = refl

abbrev pub same_whose : Whose → Whose → Bool
same_whose q x = q.owner == x.owner && (q.class == x.class && q.number == x.number)

-- one source changed
pub keys_changed : (old new : List (Whose × ℕ)) (owner : ℕ) (source : Source) (w : Option ℕ)
    → ((q : Whose) → lookup (same_whose q) new ≡ cond (same_whose (whose_of owner source) q) w (lookup (same_whose q) old))
    → (o : ℕ) (s : Source) → key_in new o s ≡ cond (o == owner && same_source s source) w (key_in old o s)
unfolding key_in
keys_changed old new owner source w h o s =
    h (whose_of o s)
    ∙ (λ i. cond (eqb_flip owner o i && same_source-sym source s i) w (lookup (is_whose o s) old))
