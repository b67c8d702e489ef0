-- Which tenant serves which experiment.
use Rattle.std.proofs.Common.{◌≡◌, ◌≢◌, ◌<◌, ◌+◌, ◌++◌, ℕ, zero, suc, List, [], ◌∷◌, length, take, set, get_or, sym, refl, ap, ◌∙◌, arith, length-append, map, ⊎_elim, subst}
use Rattle.std.proofs.lemmas.Bool.{cases_lt, cases_order}
use Rattle.std.proofs.lemmas.List.{get_or-set_same, get_or-set_other, get_or_append_left, map-append, take_more}
use Rattle.std.proofs.Math.ListN.{length-set}
use Rattle.emu_model.specs.declared.commands.Timed.{Timed}
use Rattle.emu_model.specs.Alone.{Trace}
use Rattle.control.specs.declared.scenario.Experiment.{Experiment}
use Rattle.bench.specs.declared.tenant.Tenant.{Tenant}
use Rattle.bench.specs.Commands.{BeginsWith}
use Rattle.bench.specs.Tenants.{posted, SameTenant}
use Rattle.alone.specs.Reports.{trace_alone}
use Rattle.lab.specs.Serving.{IsTenantOf, ServesAll}

at_last : (ts : List Tenant) (u t : Tenant) → get_or (ts ++ u ∷ []) (length ts) t ≡ u
at_last [] u t = refl
at_last (x ∷ xs) u t = at_last xs u t

-- one tenant is changed, and serves as before
serves_set : (ts : List Tenant) (es : List Experiment) (k : ℕ) (u : Tenant) → ServesAll ts es → ((e : Experiment) → IsTenantOf k u (get_or es k e)) → ServesAll (set ts k u) es
serves_set ts es k u all one j t e low =
    let low' : j < length ts = omega (arith, length-set {A = Tenant}) in
    let P : Tenant → Type 0 = λ v. IsTenantOf j v (get_or es j e) in
    let here : (j ≡ k) → P (get_or (set ts k u) j t) = λ is.
    let Q : ℕ → Type 0 = λ m. IsTenantOf m (get_or (set ts k u) m t) (get_or es m e) in
    let R : Tenant → Type 0 = λ v. IsTenantOf k v (get_or es k e) in
    subst Q (sym is) (subst R (sym (get_or-set_same ts k u t (omega arith))) (one e)) in
    let there : (j ≢ k) → P (get_or (set ts k u) j t) = λ other. subst P (sym (get_or-set_other ts k j u t other)) (all j t e low') in
    ⊎_elim here (λ or. there (λ is. ⊎_elim (λ x. absurd (omega arith)) (λ x. absurd (omega arith)) or)) (cases_order j k)

same_place : (es : List Experiment) (k : ℕ) (d e : Experiment) → k < length es → get_or es k d ≡ get_or es k e
same_place [] k d e low = absurd (omega arith)
same_place (x ∷ es) zero d e low = refl
same_place (x ∷ es) (suc k) d e low = same_place es k d e (omega arith)

-- one tenant posts or reads
pub serves_step : (ts : List Tenant) (es : List Experiment) (k : ℕ) (t u : Tenant) (x : Experiment) → ServesAll ts es → k < length ts → length ts ≡ length es → SameTenant (get_or ts k t) u → BeginsWith (get_or es k x).commands (posted u) → ServesAll (set ts k u) es
serves_step ts es k t u x all low len same begins =
    serves_set ts es k u all (λ e.
    let old : IsTenantOf k (get_or ts k t) (get_or es k x) = all k t x low in
    let new : IsTenantOf k u (get_or es k x) = (same.0 ∙ old.0, (same.1 ∙ old.1.0, begins)) in
    let R : Experiment → Type 0 = λ y. IsTenantOf k u y in
    subst R (same_place es k x e (omega arith)) new)

serves_snoc : (ts : List Tenant) (es : List Experiment) (u : Tenant) → ServesAll ts es → ((e : Experiment) → IsTenantOf (length ts) u (get_or es (length ts) e)) → ServesAll (ts ++ u ∷ []) es
serves_snoc ts es u all one j t e low =
    let P : Tenant → Type 0 = λ v. IsTenantOf j v (get_or es j e) in
    let len : j < length ts + 1 = omega (arith, length-append ts (u ∷ [])) in
    ⊎_elim (λ low'. subst P (sym (get_or_append_left ts (u ∷ []) t j low')) (all j t e low'))
    (λ high.
    let is : j ≡ length ts = omega arith in
    let Q : ℕ → Type 0 = λ m. IsTenantOf m (get_or (ts ++ u ∷ []) m t) (get_or es m e) in
    let R : Tenant → Type 0 = λ v. IsTenantOf (length ts) v (get_or es (length ts) e) in
    subst Q (sym is) (subst R (sym (at_last ts u t)) (one e))) (cases_lt j (length ts))

-- one tenant more
pub serves_open : (ts : List Tenant) (es : List Experiment) (k : ℕ) (u : Tenant) (x : Experiment) → ServesAll ts es → length ts ≡ k → k < length es → x ≡ get_or es k x → u.name ≡ k → u.spec ≡ (get_or es k x).spec → posted u ≡ []
    → ServesAll (ts ++ u ∷ []) es
serves_open ts es k u x all len low here name spec none =
    let P : List Timed → Type 0 = λ l. BeginsWith x.commands l in
    let new : IsTenantOf k u x = (name, (spec ∙ sym (ap (λ (y : Experiment). y.spec) here), subst P (sym none) refl)) in
    serves_snoc ts es u all (λ e.
    let R : Experiment → Type 0 = λ y. IsTenantOf k u y in
    let S : ℕ → Type 0 = λ m. IsTenantOf m u (get_or es m e) in
    subst S (sym len) (subst R (here ∙ same_place es k x e low) new))

-- one more that was settled
pub collects : (n : ℕ) (es : List Experiment) (x : Experiment) (all : List Trace) (v : Trace) (new : List Trace) → n < length es → x ≡ get_or es n x → all ≡ map trace_alone (take n es) → v ≡ trace_alone x → new ≡ all ++ v ∷ []
    → new ≡ map trace_alone (take (n + 1) es)
collects n es x all v new low here so_far last is =
    let t = take_more es n x low in
    let b : map trace_alone (take n es ++ get_or es n x ∷ []) ≡ map trace_alone (take n es) ++ trace_alone (get_or es n x) ∷ [] = map-append trace_alone (take n es) (get_or es n x ∷ []) in
    rw (is, t, b, so_far, last, ← here)
