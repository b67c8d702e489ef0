-- The rates of pipes, a command on.
use Rattle.std.proofs.Common.{◌≡◌, ℕ, ◌+◌, ◌<◌, List, [], ◌∷◌, ◌++◌, Option, None, length, get_or, take, refl, sym, ◌∙◌, ap, add-one, arith}
use Rattle.std.proofs.Math.Seq.{take-suc}
use Rattle.std.proofs.lemmas.List.{append_assoc, length-take-le}
use Rattle.emu_model.specs.declared.commands.Command.{Command}
use Rattle.emu_model.specs.declared.commands.Command.TheVariants.{Add, Delete, Config, PipeDelete, PipeShow, Show, Inject, Train, Flow, Stop, OnePass, Trace, End}
use Rattle.emu_model.specs.declared.commands.Timed.{Timed}
use Rattle.explain.specs.declared.doubt.Doubtful.{Doubtful}
use Rattle.explain.specs.declared.outages.Held.{Held}
use Rattle.explain.specs.Outages.{held_by, held_in, held, held_from, ended_by, other_than, outage_in, outages_from}

-- one more command at the end
held_snoc : (n j : ℕ) (h : Option Held) (cs : List Timed) (c : Timed) → held_from n j h (cs ++ c ∷ []) ≡ held_by n (j + length cs) c (held_from n j h cs)
unfolding held_from
held_snoc n j h [] c = ap (λ (i : ℕ). held_by n i c h) (omega (arith))
held_snoc n j h (d ∷ cs) c =
    held_snoc n (j + 1) (held_by n j d h) cs c
    ∙ ap (λ (i : ℕ). held_by n i c (held_from n (j + 1) (held_by n j d h) cs)) (omega (arith))

-- after the command at a place
pub held_next : (n : ℕ) (cs : List Timed) (k : ℕ) (c : Timed) → k < length cs → c ≡ get_or cs k c → held (take (k + 1) cs) n ≡ held_by n k c (held (take k cs) n)
held_next n cs k c h e =
    rw (add-one) (ap (held_from n 0 None) (take-suc cs k c h ∙ ap (λ (x : Timed). take k cs ++ x ∷ []) (sym e))
    ∙ held_snoc n 0 None (take k cs) c
    ∙ ap (λ (i : ℕ). held_by n i c (held_from n 0 None (take k cs)))
    (let long = length-take-le k cs (let within = h in omega (arith, within)) in omega (arith, long)))

-- before the first command
pub held_none : (n : ℕ) → held_in [] n ≡ held [] n
unfolding held_from
held_none n = refl

-- the same rates end the same
pub ended_same : (f g : ℕ → Option Held) (c : Command) → ((n : ℕ) → f n ≡ g n) → ended_by f c ≡ ended_by g c
ended_same f g (Config pipe c) h = ap (other_than c.bw) (h pipe)
ended_same f g (Add r) h = refl
ended_same f g (Delete n) h = refl
ended_same f g (PipeDelete n) h = refl
ended_same f g PipeShow h = refl
ended_same f g Show h = refl
ended_same f g (Inject s) h = refl
ended_same f g (Train n t) h = refl
ended_same f g (Flow n w) h = refl
ended_same f g (Stop n) h = refl
ended_same f g (OnePass b) h = refl
ended_same f g (Trace b) h = refl
ended_same f g End h = refl

-- what is said at a command, and from the next one on
pub outages_next : (size : ℕ) (all : List Timed) (k : ℕ) (rest cs : List Timed) (c : Timed) (out : List Doubtful) → rest ≡ c ∷ cs →
    (out ++ outage_in size c.moment (ended_by (held (take k all)) c.command)) ++ outages_from size all (k + 1) cs ≡ out ++ outages_from size all k rest
outages_next size all k rest cs c out e = rw e (append_assoc out _ _)
