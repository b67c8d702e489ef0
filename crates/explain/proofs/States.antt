-- What commands say of a pipe, a command on.
use Rattle.std.proofs.Common.{◌≡◌, ℕ, ◌+◌, ◌<◌, Bool, List, [], ◌∷◌, ◌++◌, Option, None, length, get_or, take, refl, sym, ◌∙◌, ap, add-one}
use Rattle.std.proofs.Math.Seq.{take-suc}
use Rattle.emu_model.specs.declared.commands.Timed.{Timed}
use Rattle.explain.specs.declared.doubt.Setting.{Setting}
use Rattle.std.proofs.lemmas.List.{append_assoc}
use Rattle.explain.specs.declared.doubt.Doubtful.{Doubtful}
use Rattle.explain.specs.Likely.{doubts_at}
use Rattle.explain.specs.Pipes.{so_far, state, state_from, forgotten_by, forgets_from}

-- one more command at the end
pub state_snoc : (s : Setting) (n : ℕ) (b : Option Bool) (cs : List Timed) (c : Timed) → state_from s n b (cs ++ c ∷ []) ≡ so_far s n c.command (state_from s n b cs)
unfolding state_from
state_snoc s n b [] c = refl
state_snoc s n b (d ∷ cs) c = state_snoc s n (so_far s n d.command b) cs c

-- behind the command at a place
pub state_next : (s : Setting) (n : ℕ) (cs : List Timed) (k : ℕ) (c : Timed) → k < length cs → c ≡ get_or cs k c → state s (take (k + 1) cs) n ≡ so_far s n c.command (state s (take k cs) n)
state_next s n cs k c h e =
    rw (add-one) (ap (state_from s n None) (take-suc cs k c h ∙ ap (λ (x : Timed). take k cs ++ x ∷ []) (sym e)) ∙ state_snoc s n None (take k cs) c)

pub state_none : (s : Setting) (n : ℕ) → state s [] n ≡ None
unfolding state_from
state_none s n = refl

-- what is told of a command, and of those from the next on
pub forgets_next : (s : Setting) (all : List Timed) (k : ℕ) (rest cs : List Timed) (c : Timed) (out : List Doubtful) → rest ≡ c ∷ cs → (out ++ doubts_at k (forgotten_by s (state s (take k all)) c.command)) ++ forgets_from s all (k + 1) cs ≡ out ++ forgets_from s all k rest
forgets_next s all k rest cs c out e = rw e (append_assoc out _ _)
