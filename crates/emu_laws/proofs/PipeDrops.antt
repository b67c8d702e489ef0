-- What a pipe drops: as a packet comes, and as one finishes.
use Rattle.std.proofs.Common.{◌≡◌, ℕ, zero, suc, ◌≤◌, List, [], ◌∷◌, ◌++◌, length, Bool, true, false, refl, sym, ◌∙◌, ap, Some, None, arith}
use Rattle.std.specs.Prelude.{if◌then◌else◌, is_some, nat_lt, slice_get}
use Rattle.std.specs.Option.{option_map_or}
use Rattle.std.specs.List.{AllByRecursion}
use Rattle.std.proofs.lemmas.Bool.{ltb-false}
use Rattle.emu_laws.proofs.Types.{Packet, PipeConfig, NoInstance, Lost, Full}
use Rattle.emu_model.specs.FlowIds.{FlowId, flow_id}
use Rattle.emu_model.specs.DropTail.{accepts}
use Rattle.emu_model.specs.Pipes.{Instance, PipeState, After, Drop, initial_instance, serve_next, no_drop, drop_one, enqueue, accept, drawn_one, instance_arrive, send_off, instance_finish, put_instance, with_instance, draw, instance_for, arrive_at, pipe_arrive, pipe_finish}
use Rattle.emu_laws.proofs.EachChange.{found_or}
use Rattle.emu_laws.proofs.EachOf.{some_or, of_choice}

module _ (D : Drop → Type 0) where
  abbrev Each : {A : Type 0} → After A → Type 0
  Each a = AllByRecursion D a.dropped

  -- of a packet that comes to an instance: it is lost, or finds no room, or what the server passes over is dropped
  pub instance_arrive-drops : (config : PipeConfig) (now : ℕ) (p : Packet) (lost : Bool) (i : Instance) →
      (lost ≡ true → D (record { packet = p; cause = Lost })) →
      (accepts config.queue i.waiting p.size ≡ false → D (record { packet = p; cause = Full })) →
      (is_some i.service ≡ false → AllByRecursion D (serve_next config now (enqueue now p i)).dropped) →
      AllByRecursion D (instance_arrive config now p lost i).dropped
  instance_arrive-drops config now p lost i loses fills passes =
      of_choice Each lost (drop_one i p Lost)
      (if accepts config.queue i.waiting p.size then accept config now p i else drop_one i p Full)
      (λ e. (loses e, tt))
      (λ e. of_choice Each (accepts config.queue i.waiting p.size) (accept config now p i) (drop_one i p Full)
      (λ g. of_choice Each (is_some i.service) (no_drop (enqueue now p i)) (serve_next config now (enqueue now p i)) (λ busy. tt) passes)
      (λ g. (fills g, tt)))

  -- of a packet that comes to a pipe, what holds of each drop of its instance
  pub pipe_arrive-drops : (seed now : ℕ) (packet : Packet) (p : PipeState) →
      (instance_for packet p ≡ None → D (record { packet = packet; cause = NoInstance })) →
      ((k : ℕ) (i : Instance) → instance_for packet p ≡ Some k →
      slice_get (with_instance (flow_id p.config.mask packet) k p).instances k ≡ Some i →
      AllByRecursion D (instance_arrive p.config now packet (draw seed p k i) (drawn_one i)).dropped) →
      AllByRecursion D (pipe_arrive seed now packet p).dropped
  pipe_arrive-drops seed now packet p none each =
      found_or Each (arrive_at seed now packet p) (instance_for packet p) (drop_one p packet NoInstance)
      (λ k e. at k e) (λ e. (none e, tt))
    where
      at : (k : ℕ) → instance_for packet p ≡ Some k → AllByRecursion D (arrive_at seed now packet p k).dropped
      at k e =
          let q : PipeState = with_instance (flow_id p.config.mask packet) k p in
          some_or Each
          (λ i. put_instance k q (instance_arrive p.config now packet (draw seed p k i) (drawn_one i)))
          (slice_get q.instances k) (no_drop q) (λ i g. each k i e g) tt

  -- of a finish, what holds of each drop as the next is served
  pub pipe_finish-drops : (now k : ℕ) (p : PipeState) →
      ((i : Instance) → AllByRecursion D (serve_next p.config now i).dropped) →
      AllByRecursion D (pipe_finish now k p).dropped
  pipe_finish-drops now k p each =
      some_or Each (λ i. put_instance k p (instance_finish p.config now i)) (slice_get p.instances k) (no_drop p)
      (λ i e. each (record i { line = send_off p.config now i.service i.line })) tt

got-behind : {A : Type 0} (x y : A) (xs : List A) (k : ℕ) → length xs ≤ k → slice_get (xs ++ y ∷ []) k ≡ Some x →
    x ≡ y
got-behind x y [] zero few e = cc (sym e)
got-behind x y [] (suc k) few e = absurd (cc e)
got-behind x y (z ∷ zs) zero few e = absurd (omega (arith, few))
got-behind x y (z ∷ zs) (suc k) few e = got-behind x y zs k (omega (arith, few)) e

got-none : {A : Type 0} (xs : List A) (k : ℕ) → length xs ≤ k → slice_get xs k ≡ None
got-none [] k few = refl
got-none (z ∷ zs) zero few = absurd (omega (arith, few))
got-none (z ∷ zs) (suc k) few = got-none zs k (omega (arith, few))

-- an instance as it is met: what is known of it, if it is there, and what a new one begins with
pub met : {A : Type 0} (f : Instance → A) (d : A) (id : FlowId) (k : ℕ) (p : PipeState) (i : Instance) →
    slice_get (with_instance id k p).instances k ≡ Some i → f (initial_instance id) ≡ d →
    f i ≡ option_map_or f (slice_get p.instances k) d
met f d id k p i e new = go (nat_lt k (length p.instances)) refl e
  where
    more : PipeState
    more = record p { instances = p.instances ++ initial_instance id ∷ [] }

    go : (b : Bool) → nat_lt k (length p.instances) ≡ b → slice_get (if b then p else more).instances k ≡ Some i →
        f i ≡ option_map_or f (slice_get p.instances k) d
    go true h g = ap (λ o. option_map_or f o d) (sym g)
    go false h g =
        let few : length p.instances ≤ k = ltb-false k (length p.instances) h in
        ap f (got-behind i (initial_instance id) p.instances k few g) ∙ new
        ∙ ap (λ o. option_map_or f o d) (sym (got-none p.instances k few))
