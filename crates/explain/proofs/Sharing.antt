-- Flows in one pipe, a command on.
use Rattle.std.proofs.Common.{◌≡◌, ℕ, ◌+◌, List, [], ◌∷◌, ◌++◌, length, arith, subst}
use Rattle.std.proofs.lemmas.List.{append_assoc, append-nil}
use Rattle.emu_model.specs.declared.commands.Timed.{Timed}
use Rattle.explain.specs.declared.doubt.Doubtful.{Doubtful}
use Rattle.explain.specs.Likely.{doubts_at}
use Rattle.explain.specs.Shared.{is_serving, shared_in, shared_from}
use Rattle.explain.specs.Walk.{Stand, behind}

-- what is told of a command, and of those from the next on
pub shared_next : (all : List Timed) (k : ℕ) (s t : Stand) (rest cs : List Timed) (c : Timed) (out : List Doubtful) → rest ≡ c ∷ cs → behind c.moment s ≡ t → (out ++ doubts_at k (shared_in (is_serving all) t.book c.command)) ++ shared_from all (k + 1) t cs ≡ out ++ shared_from all k s rest
unfolding shared_from
shared_next all k s t rest cs c out e h = rw e (subst (λ (u : Stand). (out ++ doubts_at k (shared_in (is_serving all) u.book c.command)) ++ shared_from all (k + 1) u cs ≡ out ++ shared_from all k s (c ∷ cs)) h (append_assoc out _ _))

pub shared_end : (all : List Timed) (k : ℕ) (s : Stand) (cs : List Timed) (out : List Doubtful) → length cs ≡ 0 → out ++ shared_from all k s cs ≡ out
unfolding shared_from
shared_end all k s [] out e = append-nil out
shared_end all k s (c ∷ cs) out e = absurd (omega (arith, e))
