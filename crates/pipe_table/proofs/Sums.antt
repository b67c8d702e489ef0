-- How often a key stands in the pipes.
use Rattle.std.proofs.Common.{◌≡◌, ℕ, ◌+◌, refl, ap, ◌∙◌, List, [], ◌∷◌, ◌++◌, arith}
use Rattle.pipe_core.specs.Uses.{total}
use Rattle.pipe_core.proofs.CallerLemmas.{total-nil, total-append}
use Rattle.pipe_core.specs.Keyed.{KeyedPipe, keys_of}
use Rattle.pipe_table.specs.Table.{pipe_keys}

keys-nil : pipe_keys [] ≡ []
unfolding pipe_keys
keys-nil = refl

keys-cons : (p : KeyedPipe) (ps : List KeyedPipe) → pipe_keys (p ∷ ps) ≡ keys_of p.slots ++ pipe_keys ps
unfolding pipe_keys
keys-cons p ps = refl

pub total-pipes : (g : ℕ → ℕ) (p : KeyedPipe) (ps : List KeyedPipe) →
    total g (pipe_keys (p ∷ ps)) ≡ total g (keys_of p.slots) + total g (pipe_keys ps)
total-pipes g p ps = ap (total g) (keys-cons p ps) ∙ total-append g (keys_of p.slots) (pipe_keys ps)

-- the keys before a pipe, in it, and behind it
pub total-split : (g : ℕ → ℕ) (before : List KeyedPipe) (x : KeyedPipe) (behind : List KeyedPipe) →
    total g (pipe_keys (before ++ x ∷ behind))
    ≡ total g (pipe_keys before) + total g (keys_of x.slots) + total g (pipe_keys behind)
total-split g [] x behind = omega (arith, total-pipes g x behind, ap (total g) keys-nil, total-nil g)
total-split g (b ∷ before) x behind =
    omega (arith, total-pipes g b (before ++ x ∷ behind), total-pipes g b before, total-split g before x behind)

pub total-join : (g : ℕ → ℕ) (before behind : List KeyedPipe) →
    total g (pipe_keys (before ++ behind)) ≡ total g (pipe_keys before) + total g (pipe_keys behind)
total-join g [] behind = omega (arith, ap (total g) keys-nil, total-nil g)
total-join g (b ∷ before) behind =
    omega (arith, total-pipes g b (before ++ behind), total-pipes g b before, total-join g before behind)
