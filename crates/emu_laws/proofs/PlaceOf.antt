-- What stands at one place of a list, once another place is changed or the list grows; and of what a pipe holds there.
use Rattle.std.proofs.Common.{◌≡◌, ℕ, zero, suc, ◌<◌, ◌≤◌, List, [], ◌∷◌, ◌++◌, Bool, true, false, refl, sym, ◌∙◌, ap, Option, Some, None, length, arith}
use Rattle.std.specs.Prelude.{if◌then◌else◌, nat_lt, map, option_map, slice_get}
use Rattle.std.specs.Option.{option_map_or}
use Rattle.std.specs.List.{position_or_len}
use Rattle.std.proofs.lemmas.Bool.{ltb-true, ltb-false}
use Rattle.std.proofs.lemmas.List.{length-map}
use Rattle.emu_laws.proofs.Types.{Packet}
use Rattle.emu_model.specs.Lists.{change_at}
use Rattle.emu_model.specs.FlowIds.{FlowId, same_flow, flow_id, new_instance, instance_of}
use Rattle.emu_model.specs.Pipes.{PipeState, initial_instance, with_instance, instance_for}

-- the item that is changed
pub changed-here : {A : Type 0} (f : A → A) (k : ℕ) (xs : List A) →
    slice_get (change_at k f xs) k ≡ option_map f (slice_get xs k)
changed-here f k [] = refl
changed-here f zero (x ∷ xs) = refl
changed-here f (suc k) (x ∷ xs) = changed-here f k xs

-- and another
pub changed-other : {A : Type 0} (f : A → A) (i k : ℕ) (xs : List A) → (i ≡ k → ⊥) →
    slice_get (change_at i f xs) k ≡ slice_get xs k
changed-other f i k [] h = refl
changed-other f zero zero (x ∷ xs) h = absurd (h refl)
changed-other f zero (suc k) (x ∷ xs) h = refl
changed-other f (suc i) zero (x ∷ xs) h = refl
changed-other f (suc i) (suc k) (x ∷ xs) h = changed-other f i k xs (λ e. h (ap suc e))

pub mapped-at : {A B : Type 0} (f : A → B) (xs : List A) (k : ℕ) → slice_get (map f xs) k ≡ option_map f (slice_get xs k)
mapped-at f [] k = refl
mapped-at f (x ∷ xs) zero = refl
mapped-at f (x ∷ xs) (suc k) = mapped-at f xs k

-- a list that grows by one item, at its end and elsewhere
grown-end : {A : Type 0} (y : A) (xs : List A) (k : ℕ) → k ≡ length xs → slice_get (xs ++ y ∷ []) k ≡ Some y
grown-end y [] zero e = refl
grown-end y [] (suc k) e = absurd (omega (arith, e))
grown-end y (x ∷ xs) zero e = absurd (omega (arith, e))
grown-end y (x ∷ xs) (suc k) e = grown-end y xs k (omega (arith, e))

grown-other : {A : Type 0} (y : A) (xs : List A) (k : ℕ) → (length xs ≡ k → ⊥) →
    slice_get (xs ++ y ∷ []) k ≡ slice_get xs k
grown-other y [] zero h = absurd (h refl)
grown-other y [] (suc k) h = refl
grown-other y (x ∷ xs) zero h = refl
grown-other y (x ∷ xs) (suc k) h = grown-other y xs k (λ e. h (ap suc e))

beyond : {A : Type 0} (xs : List A) (k : ℕ) → length xs ≤ k → slice_get xs k ≡ None
beyond [] k h = refl
beyond (x ∷ xs) zero h = absurd (omega (arith, h))
beyond (x ∷ xs) (suc k) h = beyond xs k (omega (arith, h))

-- what stands for none
pub or_else : {A : Type 0} → A → Option A → A
or_else d None = d
or_else d (Some a) = a

within : {A : Type 0} (d : A) (xs : List A) (k : ℕ) → k < length xs → slice_get xs k ≡ Some (or_else d (slice_get xs k))
unfolding or_else
within d [] k h = absurd (omega (arith, h))
within d (x ∷ xs) zero h = refl
within d (x ∷ xs) (suc k) h = within d xs k (omega (arith, h))

-- the instance of an identifier is there, or is the next one
next-number : (made : List FlowId) (i : FlowId) (k : ℕ) → instance_of made i ≡ Some k → k ≤ length made
next-number made i k = place (nat_lt (position_or_len (same_flow i) made) (length made)) refl
  where
    room : (b : Bool) → (if b then Some (length made) else None) ≡ Some k → k ≤ length made
    room true e =
        let same : length made ≡ k = cc e in
        omega (arith, same)
    room false e = absurd (cc e)

    place : (b : Bool) → nat_lt (position_or_len (same_flow i) made) (length made) ≡ b →
        option_map_or (λ k. Some k) (if b then Some (position_or_len (same_flow i) made) else None) (new_instance made) ≡ Some k →
        k ≤ length made
    place true h e =
        let same : position_or_len (same_flow i) made ≡ k = cc e in
        omega (arith, same, ltb-true (position_or_len (same_flow i) made) (length made) h)
    place false h e = room (nat_lt (length made) 256) e

pub next_instance : (packet : Packet) (p : PipeState) (k : ℕ) → instance_for packet p ≡ Some k → k ≤ length p.instances
next_instance packet p k e =
    omega (
      arith,
      next-number (map (λ i. i.id) p.instances) (flow_id p.config.mask packet) k e,
      length-map p.instances (λ i. i.id),
    )

-- a pipe with instance k made, if it wasn't there
pub record Opened (id : FlowId) (k : ℕ) (p q : PipeState) : Type 0 where
  pub number : q.number ≡ p.number
  pub config : q.config ≡ p.config
  pub here : slice_get q.instances k ≡ Some (or_else (initial_instance id) (slice_get p.instances k))
  pub elsewhere : (j : ℕ) → (k ≡ j → ⊥) → slice_get q.instances j ≡ slice_get p.instances j

pub opened : (id : FlowId) (k : ℕ) (p : PipeState) → k ≤ length p.instances → Opened id k p (with_instance id k p)
unfolding or_else
opened id k p h = go (nat_lt k (length p.instances)) refl
  where
    new : PipeState
    new = record p { instances = p.instances ++ initial_instance id ∷ [] }

    go : (b : Bool) → nat_lt k (length p.instances) ≡ b → Opened id k p (if b then p else new)
    go true e = record {
      number = refl;
      config = refl;
      here = within (initial_instance id) p.instances k (ltb-true k (length p.instances) e);
      elsewhere = λ j other. refl;
    }
    go false e =
        let above : length p.instances ≤ k = ltb-false k (length p.instances) e in
        let last : k ≡ length p.instances = omega (arith, above, h) in
        record {
          number = refl;
          config = refl;
          here = grown-end (initial_instance id) p.instances k last
              ∙ ap (λ o. Some (or_else (initial_instance id) o)) (sym (beyond p.instances k above));
          elsewhere = λ j other. grown-other (initial_instance id) p.instances j (λ g. other (last ∙ g));
        }
