-- Where the walk stops.
use Rattle.std.proofs.Common.{◌≡◌, ℕ, suc, ◌+◌, ◌<◌, ◌≤◌, Bool, true, false, cond, List, [], ◌∷◌, ◌++◌, length, take, Option, Some, None, refl, sym, ap, ◌∙◌, arith}
use Rattle.std.proofs.lemmas.Option.{same_Some, none-some}
use Rattle.control_words.specs.Words.{Words, ◌>>=◌}
use Rattle.control.specs.declared.word_fault.Check.{Check}
use Rattle.control.specs.declared.word_fault.Blamed.{Blamed}
use Rattle.control.specs.declared.expected.Expected.{Expected}
use Rattle.control.specs.Walk.{may_end, or_blame, next, walk}
use Rattle.control.proofs.Steps.{accepts}

-- what is expected behind these words
abbrev pub runs : Check → Expected → Words → Option Expected
runs check p [] = Some p
runs check p (w ∷ ws) = next check p w >>= λ q. runs check q ws

runs_more : (check : Check) (o : Option Expected) (a b : Words) → ((q : Expected) → accepts check q (a ++ b) ≡ or_blame (runs check q a) (λ e. accepts check e b) false) → or_blame o (λ q. accepts check q (a ++ b)) false ≡ or_blame (o >>= λ q. runs check q a) (λ e. accepts check e b) false
runs_more check None a b h = refl
runs_more check (Some q) a b h = h q

pub accepts_append : (check : Check) (a b : Words) (p : Expected) → accepts check p (a ++ b) ≡ or_blame (runs check p a) (λ e. accepts check e b) false
accepts_append check [] b p = refl
accepts_append check (w ∷ a) b p = runs_more check (next check p w) a b (accepts_append check a b)

-- the walk stops at the word with this number, the first of them having the number i
pub record Stops (check : Check) (p : Expected) (ws : Words) (i : ℕ) (b : Blamed) : Type 0 where
  pub k : ℕ
  pub index : b.index ≡ i + k
  pub within : k ≤ length ws
  pub ran : runs check p (take k ws) ≡ Some b.expected
  pub wrong : k < length ws → runs check p (take (suc k) ws) ≡ None
  pub refused : accepts check p ws ≡ false

abbrev here : ℕ → Expected → Blamed
here i p = record { index = i; expected = p }

stops_end : (check : Check) (p : Expected) (i : ℕ) (b : Blamed) (may : Bool) → may_end p ≡ may → cond may None (Some (here i p)) ≡ Some b → Stops check p [] i b
stops_end check p i b true m e = absurd (none-some b e)
stops_end check p i b false m e =
    let same : here i p ≡ b = same_Some (here i p) b e in
    record {
      k = 0;
      index = sym (ap (λ (x : Blamed). x.index) same) ∙ omega arith;
      within = omega arith;
      ran = ap (λ (x : Blamed). Some x.expected) same;
      wrong = λ lt. absurd (omega (arith, lt));
      refused = m;
    }

stops_here : (check : Check) (p : Expected) (w : List ℕ) (ws : Words) (i : ℕ) (b : Blamed) → next check p w ≡ None → Some (here i p) ≡ Some b → Stops check p (w ∷ ws) i b
stops_here check p w ws i b n e =
    let same : here i p ≡ b = same_Some (here i p) b e in
    record {
      k = 0;
      index = sym (ap (λ (x : Blamed). x.index) same) ∙ omega arith;
      within = omega arith;
      ran = ap (λ (x : Blamed). Some x.expected) same;
      wrong = λ lt. rw n refl;
      refused = rw n refl;
    }

stops_further : (check : Check) (p q : Expected) (w : List ℕ) (ws : Words) (i : ℕ) (b : Blamed) → next check p w ≡ Some q → Stops check q ws (i + 1) b → Stops check p (w ∷ ws) i b
stops_further check p q w ws i b n s = record {
  k = suc s.k;
  index = s.index ∙ omega arith;
  within = omega (arith, s.within);
  ran = rw n s.ran;
  wrong = λ lt. rw n (s.wrong (omega (arith, lt)));
  refused = rw n s.refused;
}

stops_at : (check : Check) (p : Expected) (w : List ℕ) (ws : Words) (i : ℕ) (b : Blamed) (o : Option Expected) → next check p w ≡ o → ((q : Expected) → walk check (i + 1) q ws ≡ Some b → Stops check q ws (i + 1) b) → or_blame o (λ q. walk check (i + 1) q ws) (Some (here i p)) ≡ Some b → Stops check p (w ∷ ws) i b
stops_at check p w ws i b None n h e = stops_here check p w ws i b n e
stops_at check p w ws i b (Some q) n h e = stops_further check p q w ws i b n (h q e)

pub stops : (check : Check) (ws : Words) (p : Expected) (i : ℕ) (b : Blamed) → walk check i p ws ≡ Some b → Stops check p ws i b
stops check [] p i b e = stops_end check p i b (may_end p) refl e
stops check (w ∷ ws) p i b e = stops_at check p w ws i b (next check p w) refl (λ q h. stops check ws q (i + 1) b h) e

fine_end : (check : Check) (p : Expected) (i : ℕ) (may : Bool) → may_end p ≡ may → cond may None (Some (here i p)) ≡ None → may ≡ true
fine_end check p i true m e = refl
fine_end check p i false m e = absurd cc

fine_at : (check : Check) (p : Expected) (ws : Words) (i : ℕ) (o : Option Expected) → ((q : Expected) → walk check (i + 1) q ws ≡ None → accepts check q ws ≡ true) → or_blame o (λ q. walk check (i + 1) q ws) (Some (here i p)) ≡ None → or_blame o (λ q. accepts check q ws) false ≡ true
fine_at check p ws i None h e = absurd cc
fine_at check p ws i (Some q) h e = h q e

-- the walk finds nothing
pub fine : (check : Check) (ws : Words) (p : Expected) (i : ℕ) → walk check i p ws ≡ None → accepts check p ws ≡ true
fine check [] p i e = fine_end check p i (may_end p) refl e
fine check (w ∷ ws) p i e = fine_at check p ws i (next check p w) (λ q h. fine check ws q (i + 1) h) e
