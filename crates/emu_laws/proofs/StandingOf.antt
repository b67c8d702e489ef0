-- What stands of an instance, once a pipe is put in place of another, comes or goes.
use Rattle.std.proofs.Common.{◌≡◌, ℕ, List, [], ◌∷◌, Bool, true, false, refl, sym, ◌∙◌, ap, Some, None, eq-eqb}
use Rattle.std.specs.Prelude.{if◌then◌else◌, ◌==◌, nat_lt, slice_get}
use Rattle.std.proofs.lemmas.Bool.{eqb-true, ne_eqb}
use Rattle.emu_model.specs.Lists.{tail, remove_first}
use Rattle.emu_model.specs.Pipes.{PipeState}
use Rattle.emu_model.specs.Commands.{with_pipe}
use Rattle.emu_laws.specs.Happenings.{pipe_in, put_in, Standing, standing}

-- what stands of instance k in a pipe
abbrev pub entry : ℕ → PipeState → Standing
entry k p = record { config = p.config; instance = slice_get p.instances k }

-- the first of those that stand, changed
abbrev pub at_first : (Standing → Standing) → List Standing → List Standing
at_first f [] = []
at_first f (s ∷ ss) = f s ∷ ss

-- the first of them, or what stands in for none
abbrev pub first_or : {A : Type 0} → (Standing → A) → List Standing → A → A
first_or f [] a = a
first_or f (s ∷ ss) a = f s

skip : (pipe k : ℕ) (x : PipeState) (xs : List PipeState) → (x.number ≡ pipe → ⊥) →
    standing pipe k (x ∷ xs) ≡ standing pipe k xs
skip pipe k x xs h = ap (λ b. if b then entry k x ∷ standing pipe k xs else standing pipe k xs) (ne_eqb x.number pipe h)

take : (pipe k : ℕ) (x : PipeState) (xs : List PipeState) → x.number ≡ pipe →
    standing pipe k (x ∷ xs) ≡ entry k x ∷ standing pipe k xs
take pipe k x xs h = ap (λ b. if b then entry k x ∷ standing pipe k xs else standing pipe k xs) (eq-eqb x.number pipe h)

-- a pipe of another number is put in
pub put-other : (j pipe k : ℕ) (y : PipeState) (ps : List PipeState) → (j ≡ pipe → ⊥) → y.number ≡ j →
    standing pipe k (put_in j y ps) ≡ standing pipe k ps
put-other j pipe k y [] h e = refl
put-other j pipe k y (x ∷ xs) h e = go (x.number == j) refl (put-other j pipe k y xs h e)
  where
    go : (b : Bool) → (x.number == j) ≡ b → standing pipe k (put_in j y xs) ≡ standing pipe k xs →
        standing pipe k (if b then y ∷ xs else x ∷ put_in j y xs) ≡ standing pipe k (x ∷ xs)
    go true f later =
        skip pipe k y xs (λ g. h (sym e ∙ g)) ∙ sym (skip pipe k x xs (λ g. h (sym (eqb-true x.number j f) ∙ g)))
    go false f later = ap (λ ss. if x.number == pipe then entry k x ∷ ss else ss) later

-- a pipe of this number is put in, of which stands what f makes of what stood
pub put-here : (pipe k : ℕ) (f : Standing → Standing) (p y : PipeState) (ps : List PipeState) → pipe_in pipe ps ≡ Some p →
    y.number ≡ pipe → entry k y ≡ f (entry k p) →
    standing pipe k (put_in pipe y ps) ≡ at_first f (standing pipe k ps)
put-here pipe k f p y [] e n s = absurd (cc e)
put-here pipe k f p y (x ∷ xs) e n s = go (x.number == pipe) refl e (λ g. put-here pipe k f p y xs g n s)
  where
    go : (b : Bool) → (x.number == pipe) ≡ b → (if b then Some x else pipe_in pipe xs) ≡ Some p →
        (pipe_in pipe xs ≡ Some p → standing pipe k (put_in pipe y xs) ≡ at_first f (standing pipe k xs)) →
        standing pipe k (if b then y ∷ xs else x ∷ put_in pipe y xs)
        ≡ at_first f (if b then entry k x ∷ standing pipe k xs else standing pipe k xs)
    go true h g later =
        let same : x ≡ p = cc g in
        take pipe k y xs n ∙ ap (λ z. z ∷ standing pipe k xs) (s ∙ ap (λ z. f (entry k z)) (sym same))
    go false h g later =
        ap (λ b. if b then entry k x ∷ standing pipe k (put_in pipe y xs) else standing pipe k (put_in pipe y xs)) h
        ∙ later g

-- no pipe is found, so none stands
pub none-stands : (pipe k : ℕ) (ps : List PipeState) → pipe_in pipe ps ≡ None → standing pipe k ps ≡ []
none-stands pipe k [] e = refl
none-stands pipe k (x ∷ xs) e = go (x.number == pipe) e (λ g. none-stands pipe k xs g)
  where
    go : (b : Bool) → (if b then Some x else pipe_in pipe xs) ≡ None →
        (pipe_in pipe xs ≡ None → standing pipe k xs ≡ []) →
        (if b then entry k x ∷ standing pipe k xs else standing pipe k xs) ≡ []
    go true g later = absurd (cc g)
    go false g later = later g

-- the pipe that is found is the first that stands
pub first-stands : {A : Type 0} (pipe k : ℕ) (f : Standing → A) (a : A) (p : PipeState) (ps : List PipeState) →
    pipe_in pipe ps ≡ Some p → first_or f (standing pipe k ps) a ≡ f (entry k p)
first-stands pipe k f a p [] e = absurd (cc e)
first-stands pipe k f a p (x ∷ xs) e = go (x.number == pipe) e (λ g. first-stands pipe k f a p xs g)
  where
    go : (b : Bool) → (if b then Some x else pipe_in pipe xs) ≡ Some p →
        (pipe_in pipe xs ≡ Some p → first_or f (standing pipe k xs) a ≡ f (entry k p)) →
        first_or f (if b then entry k x ∷ standing pipe k xs else standing pipe k xs) a ≡ f (entry k p)
    go true g later =
        let same : x ≡ p = cc g in
        ap (λ z. f (entry k z)) same
    go false g later = later g

pub number-found : (pipe : ℕ) (p : PipeState) (ps : List PipeState) → pipe_in pipe ps ≡ Some p → p.number ≡ pipe
number-found pipe p [] e = absurd (cc e)
number-found pipe p (x ∷ xs) e = go (x.number == pipe) refl e (λ g. number-found pipe p xs g)
  where
    go : (b : Bool) → (x.number == pipe) ≡ b → (if b then Some x else pipe_in pipe xs) ≡ Some p →
        (pipe_in pipe xs ≡ Some p → p.number ≡ pipe) → p.number ≡ pipe
    go true h g later =
        let same : x ≡ p = cc g in
        ap (λ q. q.number) (sym same) ∙ eqb-true x.number pipe h
    go false h g later = later g

pub removed-other : (j pipe k : ℕ) (ps : List PipeState) → (j ≡ pipe → ⊥) →
    standing pipe k (remove_first (λ q. q.number == j) ps) ≡ standing pipe k ps
removed-other j pipe k [] h = refl
removed-other j pipe k (x ∷ xs) h = go (x.number == j) refl (removed-other j pipe k xs h)
  where
    go : (b : Bool) → (x.number == j) ≡ b →
        standing pipe k (remove_first (λ q. q.number == j) xs) ≡ standing pipe k xs →
        standing pipe k (if b then xs else x ∷ remove_first (λ q. q.number == j) xs) ≡ standing pipe k (x ∷ xs)
    go true f later = sym (skip pipe k x xs (λ g. h (sym (eqb-true x.number j f) ∙ g)))
    go false f later = ap (λ ss. if x.number == pipe then entry k x ∷ ss else ss) later

pub removed-here : (pipe k : ℕ) (ps : List PipeState) →
    standing pipe k (remove_first (λ q. q.number == pipe) ps) ≡ tail (standing pipe k ps)
removed-here pipe k [] = refl
removed-here pipe k (x ∷ xs) = go (x.number == pipe) refl (removed-here pipe k xs)
  where
    go : (b : Bool) → (x.number == pipe) ≡ b →
        standing pipe k (remove_first (λ q. q.number == pipe) xs) ≡ tail (standing pipe k xs) →
        standing pipe k (if b then xs else x ∷ remove_first (λ q. q.number == pipe) xs)
        ≡ tail (if b then entry k x ∷ standing pipe k xs else standing pipe k xs)
    go true h later = refl
    go false h later =
        ap (λ b. if b then entry k x ∷ standing pipe k (remove_first (λ q. q.number == pipe) xs)
        else standing pipe k (remove_first (λ q. q.number == pipe) xs)) h ∙ later

-- a new pipe of another number, and of this one
pub new-other : (pipe k : ℕ) (y : PipeState) (ps : List PipeState) → (y.number ≡ pipe → ⊥) →
    standing pipe k (with_pipe y ps) ≡ standing pipe k ps
new-other pipe k y [] h = skip pipe k y [] h
new-other pipe k y (x ∷ xs) h = go (nat_lt y.number x.number) (new-other pipe k y xs h)
  where
    go : (b : Bool) → standing pipe k (with_pipe y xs) ≡ standing pipe k xs →
        standing pipe k (if b then y ∷ x ∷ xs else x ∷ with_pipe y xs) ≡ standing pipe k (x ∷ xs)
    go true later = skip pipe k y (x ∷ xs) h
    go false later = ap (λ ss. if x.number == pipe then entry k x ∷ ss else ss) later

pub new-here : (pipe k : ℕ) (y : PipeState) (ps : List PipeState) → y.number ≡ pipe → pipe_in pipe ps ≡ None →
    standing pipe k (with_pipe y ps) ≡ entry k y ∷ []
new-here pipe k y [] h e = take pipe k y [] h
new-here pipe k y (x ∷ xs) h e =
    go (nat_lt y.number x.number) (other (x.number == pipe) refl e) (later (x.number == pipe) e)
    (new-here pipe k y xs h (later (x.number == pipe) e))
  where
    other : (b : Bool) → (x.number == pipe) ≡ b → (if b then Some x else pipe_in pipe xs) ≡ None → (x.number == pipe) ≡ false
    other true f g = absurd (cc g)
    other false f g = f

    later : (b : Bool) → (if b then Some x else pipe_in pipe xs) ≡ None → pipe_in pipe xs ≡ None
    later true g = absurd (cc g)
    later false g = g

    go : (b : Bool) → (x.number == pipe) ≡ false → pipe_in pipe xs ≡ None →
        standing pipe k (with_pipe y xs) ≡ entry k y ∷ [] →
        standing pipe k (if b then y ∷ x ∷ xs else x ∷ with_pipe y xs) ≡ entry k y ∷ []
    go true f g alone =
        take pipe k y (x ∷ xs) h
        ∙ ap (λ z. entry k y ∷ (if z then entry k x ∷ standing pipe k xs else standing pipe k xs)) f
        ∙ ap (λ ss. entry k y ∷ ss) (none-stands pipe k xs g)
    go false f g alone =
        ap (λ z. if z then entry k x ∷ standing pipe k (with_pipe y xs) else standing pipe k (with_pipe y xs)) f ∙ alone
