-- Rules as commands leave them, a command on.
use Rattle.std.proofs.Common.{◌≡◌, ℕ, ◌+◌, ◌≤◌, ◌<◌, Bool, List, [], ◌∷◌, ◌++◌, length, get_or, drop, refl, arith, ap, sym, subst, ◌∙◌, add-one, suc}
use Rattle.std.proofs.Math.Seq.{drop-cons}
use Rattle.std.proofs.lemmas.List.{append_assoc, append-nil}
use Rattle.std.proofs.lemmas.Bool.Decides.{nat_tests}
use Rattle.emu_model.specs.declared.commands.Timed.{Timed}
use Rattle.emu_model.specs.Rules.{RuleBook}
use Rattle.explain.specs.declared.warning.Warning.{Warning}
use Rattle.explain.specs.Walk.{Stand, after, behind_of, behind, denials_at, denials_from}

-- the command that is read at a place stands first among those from there on
pub at_read : (cs : List Timed) (n : ℕ) (d : Timed) → n < length cs → drop n cs ≡ get_or cs n d ∷ drop (n + 1) cs
at_read cs n d h = rw (add-one) (drop-cons cs n d h)

-- the same of a command that is the one at a place
pub at_next : (cs : List Timed) (n : ℕ) (c : Timed) → n < length cs → c ≡ get_or cs n c → drop n cs ≡ c ∷ drop (n + 1) cs
at_next cs n c h e = rw (add-one) (drop-cons cs n c h ∙ ap (λ (x : Timed). x ∷ drop (suc n) cs) (sym e))

passes : (m : ℕ) (b : RuleBook) (c : Timed) (cs : List Timed) → c.moment ≤ m → behind_of m b (c ∷ cs) ≡ behind_of m (after c.command b) cs
unfolding behind_of
passes m b c cs h = grind (arith, nat_tests)

waits : (m : ℕ) (b : RuleBook) (c : Timed) (cs : List Timed) → m < c.moment → behind_of m b (c ∷ cs) ≡ record { book = b; left = c ∷ cs }
unfolding behind_of
waits m b c cs h = grind (arith, nat_tests)

-- a command of the moment, or before it
pub behind_next : (m : ℕ) (b : RuleBook) (all cs : List Timed) (c : Timed) → all ≡ c ∷ cs → c.moment ≤ m → behind_of m b all ≡ behind_of m (after c.command b) cs
behind_next m b all cs c e h = rw e (passes m b c cs h)

-- a command of a later moment
pub behind_stays : (m : ℕ) (b : RuleBook) (all cs : List Timed) (c : Timed) → all ≡ c ∷ cs → m < c.moment → behind_of m b all ≡ record { book = b; left = all }
behind_stays m b all cs c e h = rw e (waits m b c cs h)

-- no command is left
pub behind_ends : (m : ℕ) (b : RuleBook) (cs : List Timed) → length cs ≡ 0 → behind_of m b cs ≡ record { book = b; left = cs }
unfolding behind_of
behind_ends m b [] e = refl
behind_ends m b (c ∷ cs) e = absurd (omega (arith, e))

-- what is told of a command, and of those from the next on
pub denials_next : (flows : Bool) (k : ℕ) (b : RuleBook) (s t : Stand) (all cs : List Timed) (c : Timed) (out : List Warning) → all ≡ c ∷ cs → behind c.moment s ≡ t → (out ++ denials_at flows k b t.book c.command) ++ denials_from flows (k + 1) (after c.command b) t cs ≡ out ++ denials_from flows k b s all
unfolding denials_from
denials_next flows k b s t all cs c out e h = rw e (subst (λ (u : Stand). (out ++ denials_at flows k b u.book c.command) ++ denials_from flows (k + 1) (after c.command b) u cs ≡ out ++ denials_from flows k b s (c ∷ cs)) h (append_assoc out _ _))

pub denials_end : (flows : Bool) (k : ℕ) (b : RuleBook) (s : Stand) (cs : List Timed) (out : List Warning) → length cs ≡ 0 → out ++ denials_from flows k b s cs ≡ out
unfolding denials_from
denials_end flows k b s [] out e = append-nil out
denials_end flows k b s (c ∷ cs) out e = absurd (omega (arith, e))
