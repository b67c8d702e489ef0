-- The tenants and the dossiers, one after the other.
use Rattle.std.proofs.Common.{◌≡◌, ◌≢◌, ℕ, zero, suc, ◌<◌, sym, ap, subst, List, [], ◌∷◌, length, drop, Option, Some, None, arith}
use Rattle.std.specs.Prelude.{slice_get, slice_index_or, IfSome}
use Rattle.emu_model.specs.declared.records.Ending.TheVariants.{Halted}
use Rattle.control.specs.declared.scenario.Experiment.{Experiment}
use Rattle.shard.specs.Stand.{Final}
use Rattle.bench.specs.declared.mail.RingMail.{RingMail}
use Rattle.bench.specs.declared.tenant.Tenant.{Tenant}
use Rattle.alone.specs.declared.fault.RunFault.{RunFault}
use Rattle.alone.specs.declared.fault.RunFault.TheVariants.{Strange}
use Rattle.lab.specs.Joins.{AreEnded, Unfit, SettlesNot, dossier_at}
use Rattle.lab.specs.Serving.{Serves, ServesAll}

-- the first of the rest of a list is the one at its place
pub record IsHere {X : Type 0} (xs : List X) (i : ℕ) (x : X) (rest : List X) : Type 0 where
  pub low : i < length xs
  pub get : slice_get xs i ≡ Some x
  pub or : (d : X) → slice_index_or xs i d ≡ x
  pub after : drop (suc i) xs ≡ rest

pub here : {X : Type 0} (xs : List X) (i : ℕ) (x : X) (rest : List X) → drop i xs ≡ x ∷ rest → IsHere xs i x rest
here [] zero x rest is = absurd (cc)
here [] (suc i) x rest is = absurd (cc)
here (y ∷ xs) zero x rest is =
    let one : y ≡ x = cc in
    let others : xs ≡ rest = cc in
    record { low = omega arith; get = ap Some one; or = λ d. one; after = others }
here (y ∷ xs) (suc i) x rest is =
    let inner = here xs i x rest is in
    record { low = omega (arith, inner.low); get = inner.get; or = inner.or; after = inner.after }

-- its tenant serves the experiment
pub serves_at : (ts : List Tenant) (es : List Experiment) (i : ℕ) (t : Tenant) (rest : List Tenant) (e : Experiment) → drop i ts ≡ t ∷ rest → ServesAll ts es → e ≡ slice_index_or es i e → Serves t e
serves_at ts es i t rest e is all at =
    let h = here ts i t rest is in
    subst (λ (x : Experiment). Serves t x) (sym at) (subst (λ (u : Tenant). Serves u (slice_index_or es i e)) (h.or t) (all i t e h.low).1)

at-place : (places : List (Option (Final RingMail))) (i : ℕ) (o : Option (Final RingMail)) (rest : List (Option (Final RingMail))) → drop i places ≡ o ∷ rest → dossier_at places i ≡ o
at-place places i o rest is = ap (λ (x : Option (Option (Final RingMail))). at x) (here places i o rest is).get
  where
    at : Option (Option (Final RingMail)) → Option (Final RingMail)
    at None = None
    at (Some x) = x

-- its dossier is of none that was halted
pub ended_at : (places : List (Option (Final RingMail))) (i : ℕ) (o : Option (Final RingMail)) (rest : List (Option (Final RingMail))) → drop i places ≡ o ∷ rest → AreEnded places → IfSome o (λ d. d.ending ≢ Halted)
ended_at places i None rest is ended = tt
ended_at places i (Some d) rest is ended = ended i d (at-place places i (Some d) rest is)

-- it doesn't settle
pub settles_not : (ts : List Tenant) (us : List Tenant) (places rest : List (Option (Final RingMail))) (i : ℕ) (t : Tenant) (o : Option (Final RingMail)) (e : RunFault) →
    drop i ts ≡ t ∷ us → drop i places ≡ o ∷ rest → e ≡ Strange → Unfit t o → SettlesNot ts places e
settles_not ts us places rest i t o e is there strange unfit =
    let h = here ts i t us is in
    let all : (d : Tenant) → Unfit (slice_index_or ts i d) (dossier_at places i) = λ d.
    subst (λ (u : Tenant). Unfit u (dossier_at places i)) (sym (h.or d)) (subst (λ (x : Option (Final RingMail)). Unfit t x) (sym (at-place places i o rest there)) unfit) in
    subst (SettlesNot ts places) (sym strange) (i, h.low, all)
