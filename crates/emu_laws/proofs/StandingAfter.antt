-- What stands of an instance after a happening is a function of what stood of it: a happening elsewhere leaves it, and
-- one at it changes it by what stood alone.
use Rattle.std.proofs.Common.{◌≡◌, ℕ, List, [], ◌∷◌, Bool, true, false, refl, sym, ◌∙◌, ap, subst, Option, Some, None}
use Rattle.std.specs.Prelude.{◌&&◌, ◌==◌, option_map, slice_get}
use Rattle.std.specs.Option.{option_map_or}
use Rattle.std.proofs.lemmas.Bool.{eqb-true, eqb-false}
use Rattle.emu_laws.proofs.Types.{Packet, PipeConfig, NoInstance}
use Rattle.emu_model.specs.Lists.{tail}
use Rattle.emu_model.specs.Loss.{is_lost}
use Rattle.emu_model.specs.FlowIds.{FlowId, flow_id}
use Rattle.emu_model.specs.Delay.{leave}
use Rattle.emu_model.specs.Pipes.{Instance, PipeState, After, initial_instance, no_drop, drop_one, drawn_one, instance_arrive, instance_finish, instance_configure, put_instance, change_one, with_instance, draw, arrive_at, instance_for, pipe_arrive, pipe_finish, pipe_exit, pipe_configure}
use Rattle.emu_model.specs.Commands.{with_pipe}
use Rattle.emu_laws.specs.Happenings.{Happening, Coming, Finishing, InFlight, Configuring, Deleting, pipe_in, put_in, happen, is_number, is_at, Standing, standing}
use Rattle.emu_laws.specs.Isolation.{OthersDoNotInterfere}
use Rattle.emu_laws.proofs.PlaceOf.{changed-here, changed-other, or_else, next_instance, Opened, opened}
use Rattle.emu_laws.proofs.StandingOf.{entry, at_first, put-other, put-here, number-found, removed-other, new-other}

-- a packet comes to the instance that stands, or to a new one
abbrev met : Packet → Standing → Instance
met packet s = or_else (initial_instance (flow_id s.config.mask packet)) s.instance

abbrev pub arrival : ℕ → ℕ → ℕ → ℕ → Packet → Standing → After Instance
arrival seed pipe k now packet s =
    let i : Instance = met packet s in
    instance_arrive s.config now packet (is_lost seed pipe k i.drawn s.config.plr) (drawn_one i)

abbrev pub come : ℕ → ℕ → ℕ → ℕ → Packet → Standing → Standing
come seed pipe k now packet s = record s { instance = Some (arrival seed pipe k now packet s).state }

abbrev pub finished : ℕ → Standing → Standing
finished now s = record s { instance = option_map (λ i. (instance_finish s.config now i).state) s.instance }

abbrev pub one_left : Instance → Instance
one_left i = record i { line = leave i.line }

abbrev pub gone : Standing → Standing
gone s = record s { instance = option_map one_left s.instance }

abbrev pub configured : PipeConfig → Standing → Standing
configured config s = record { config = config; instance = option_map (instance_configure s.config config) s.instance }

abbrev pub new_or_configured : PipeConfig → List Standing → List Standing
new_or_configured config [] = record { config = config; instance = None } ∷ []
new_or_configured config (s ∷ ss) = configured config s ∷ ss

-- an instance alone, after a happening at it
abbrev pub changed : ℕ → ℕ → ℕ → Happening → List Standing → List Standing
changed seed pipe k (Coming now j packet) ss = at_first (come seed pipe k now packet) ss
changed seed pipe k (Finishing now j i) ss = at_first (finished now) ss
changed seed pipe k (InFlight j i) ss = at_first gone ss
changed seed pipe k (Configuring j config) ss = new_or_configured config ss
changed seed pipe k (Deleting now j) ss = tail ss

-- ---- what a pipe does to one instance

pub record ChangedOne (k : ℕ) (f : Instance → After Instance) (p : PipeState) (a : After PipeState) : Type 0 where
  pub number : a.state.number ≡ p.number
  pub config : a.state.config ≡ p.config
  pub here : slice_get a.state.instances k ≡ option_map (λ i. (f i).state) (slice_get p.instances k)
  pub elsewhere : (j : ℕ) → (k ≡ j → ⊥) → slice_get a.state.instances j ≡ slice_get p.instances j
  pub dropped : a.dropped ≡ option_map_or (λ i. (f i).dropped) (slice_get p.instances k) []

pub changed_one : (k : ℕ) (f : Instance → After Instance) (p : PipeState) → ChangedOne k f p (change_one k f p)
changed_one k f p = go (slice_get p.instances k) refl
  where
    go : (o : Option Instance) → slice_get p.instances k ≡ o →
        ChangedOne k f p (option_map_or (λ i. put_instance k p (f i)) o (no_drop p))
    go None e = record {
      number = refl;
      config = refl;
      here = e ∙ ap (option_map (λ i. (f i).state)) (sym e);
      elsewhere = λ j other. refl;
      dropped = ap (λ o. option_map_or (λ i. (f i).dropped) o []) (sym e);
    }
    go (Some i) e = record {
      number = refl;
      config = refl;
      here = changed-here (λ j. (f i).state) k p.instances ∙ ap (option_map (λ j. (f i).state)) e
          ∙ ap (option_map (λ j. (f j).state)) (sym e);
      elsewhere = λ j other. changed-other (λ x. (f i).state) k j p.instances other;
      dropped = ap (λ o. option_map_or (λ x. (f x).dropped) o []) (sym e);
    }

-- a packet comes to instance k
pub record CameTo (seed now k : ℕ) (packet : Packet) (p : PipeState) (a : After PipeState) : Type 0 where
  pub number : a.state.number ≡ p.number
  pub here : entry k a.state ≡ come seed p.number k now packet (entry k p)
  pub elsewhere : (j : ℕ) → (k ≡ j → ⊥) → entry j a.state ≡ entry j p
  pub dropped : a.dropped ≡ (arrival seed p.number k now packet (entry k p)).dropped

pub came_to : (seed now k : ℕ) (packet : Packet) (p : PipeState) → instance_for packet p ≡ Some k →
    CameTo seed now k packet p (pipe_arrive seed now packet p)
came_to seed now k packet p e = subst (CameTo seed now k packet p) (sym same) at_k
  where
    id : FlowId
    id = flow_id p.config.mask packet

    f : Instance → After Instance
    f i = instance_arrive p.config now packet (draw seed p k i) (drawn_one i)

    same : pipe_arrive seed now packet p ≡ arrive_at seed now packet p k
    same = ap (λ o. option_map_or (arrive_at seed now packet p) o (drop_one p packet NoInstance)) e

    open_k : Opened id k p (with_instance id k p)
    open_k = opened id k p (next_instance packet p k e)

    one : ChangedOne k f (with_instance id k p) (arrive_at seed now packet p k)
    one = changed_one k f (with_instance id k p)

    at_k : CameTo seed now k packet p (arrive_at seed now packet p k)
    at_k = record {
      number = one.number ∙ open_k.number;
      here =
          ap (λ c. record { config = c; instance = slice_get (arrive_at seed now packet p k).state.instances k })
          (one.config ∙ open_k.config)
          ∙ ap (λ o. record { config = p.config; instance = o })
          (one.here ∙ ap (option_map (λ i. (f i).state)) open_k.here);
      elsewhere = λ j other.
          ap (λ c. record { config = c; instance = slice_get (arrive_at seed now packet p k).state.instances j })
          (one.config ∙ open_k.config)
          ∙ ap (λ o. record { config = p.config; instance = o }) (one.elsewhere j other ∙ open_k.elsewhere j other);
      dropped = one.dropped ∙ ap (λ o. option_map_or (λ i. (f i).dropped) o []) open_k.here;
    }

-- what f makes of a pipe, where it is found, and of none
found-or : {A : Type 0} (P : A → Type 0) (f : PipeState → A) (d : A) (o : Option PipeState) →
    ((p : PipeState) → o ≡ Some p → P (f p)) → (o ≡ None → P d) → P (option_map_or f o d)
found-or P f d None here none = none refl
found-or P f d (Some p) here none = here p refl

-- ---- a happening at another instance

is-not : (a b : ℕ) → (a == b) ≡ false → a ≡ b → ⊥
is-not a b e g = eqb-false a b e g

-- a pipe's instance k as it was, once the pipe of a number is changed
module _ (pipe k : ℕ) (ps : List PipeState) where
  -- the pipe is another, or its instance k stands as it did
  same-put : (j : ℕ) (p y : PipeState) → pipe_in j ps ≡ Some p → y.number ≡ p.number →
      ((j == pipe) ≡ true → entry k y ≡ entry k p) → standing pipe k (put_in j y ps) ≡ standing pipe k ps
  same-put j p y e n s = go (j == pipe) refl
    where
      number : y.number ≡ j
      number = n ∙ number-found j p ps e

      kept : (ss : List Standing) → at_first (λ s. s) ss ≡ ss
      kept [] = refl
      kept (s ∷ ss) = refl

      go : (b : Bool) → (j == pipe) ≡ b → standing pipe k (put_in j y ps) ≡ standing pipe k ps
      go false f = put-other j pipe k y ps (is-not j pipe f) number
      go true f =
          let same : j ≡ pipe = eqb-true j pipe f in
          ap (λ i. standing pipe k (put_in i y ps)) same
          ∙ put-here pipe k (λ s. s) p y ps (ap (λ i. pipe_in i ps) (sym same) ∙ e) (number ∙ same) (s f)
          ∙ kept (standing pipe k ps)

  -- of a happening at instance i of pipe j, which isn't this one
  other-instance : (j i : ℕ) → (j == pipe && i == k) ≡ false → (j == pipe) ≡ true → i ≡ k → ⊥
  other-instance j i e f g = go (j == pipe) f e
    where
      go : (b : Bool) → b ≡ true → (b && i == k) ≡ false → ⊥
      go true t h = is-not i k h g
      go false t h = absurd (cc t)

  stranger-comes : (seed now j : ℕ) (packet : Packet) → is_at pipe k (Coming now j packet) ps ≡ false →
      standing pipe k (happen seed (Coming now j packet) ps) ≡ standing pipe k ps
  stranger-comes seed now j packet e =
      found-or (λ qs. standing pipe k qs ≡ standing pipe k ps)
      (λ p. put_in j (pipe_arrive seed now packet p).state ps) ps (pipe_in j ps)
      (λ p f. same-put j p (pipe_arrive seed now packet p).state f (number p) (λ g. as_it_was p f g)) (λ f. refl)
    where
      by-instance : (p : PipeState) (P : After PipeState → Type 0) → P (drop_one p packet NoInstance) →
          ((i : ℕ) → instance_for packet p ≡ Some i → P (pipe_arrive seed now packet p)) →
          P (pipe_arrive seed now packet p)
      by-instance p P none comes = go (instance_for packet p) refl
        where
          go : (o : Option ℕ) → instance_for packet p ≡ o → P (pipe_arrive seed now packet p)
          go None g = subst P (ap (λ o. option_map_or (arrive_at seed now packet p) o (drop_one p packet NoInstance)) (sym g)) none
          go (Some i) g = comes i g

      number : (p : PipeState) → (pipe_arrive seed now packet p).state.number ≡ p.number
      number p =
          by-instance p (λ a. a.state.number ≡ p.number) refl (λ i g. (came_to seed now i packet p g).number)

      as_it_was : (p : PipeState) → pipe_in j ps ≡ Some p → (j == pipe) ≡ true →
          entry k (pipe_arrive seed now packet p).state ≡ entry k p
      as_it_was p f g =
          by-instance p (λ a. entry k a.state ≡ entry k p) refl
          (λ i h. (came_to seed now i packet p h).elsewhere k
          (other-instance j i (ap (λ o. j == pipe && is_number k o) (sym (ap (λ o. option_map_or (instance_for packet) o None) f ∙ h)) ∙ e) g))

  stranger-finishes : (seed now j i : ℕ) → is_at pipe k (Finishing now j i) ps ≡ false →
      standing pipe k (happen seed (Finishing now j i) ps) ≡ standing pipe k ps
  stranger-finishes seed now j i e =
      found-or (λ qs. standing pipe k qs ≡ standing pipe k ps) (λ p. put_in j (pipe_finish now i p).state ps) ps
      (pipe_in j ps)
      (λ p f.
      let one : ChangedOne i (instance_finish p.config now) p (pipe_finish now i p) =
      changed_one i (instance_finish p.config now) p in
      same-put j p (pipe_finish now i p).state f one.number
      (λ g. ap (λ c. record { config = c; instance = slice_get (pipe_finish now i p).state.instances k }) one.config
      ∙ ap (λ o. record { config = p.config; instance = o }) (one.elsewhere k (other-instance j i e g)))) (λ f. refl)

  stranger-leaves : (seed j i : ℕ) → is_at pipe k (InFlight j i) ps ≡ false →
      standing pipe k (happen seed (InFlight j i) ps) ≡ standing pipe k ps
  stranger-leaves seed j i e =
      found-or (λ qs. standing pipe k qs ≡ standing pipe k ps) (λ p. put_in j (pipe_exit i p) ps) ps (pipe_in j ps)
      (λ p f. same-put j p (pipe_exit i p) f refl
      (λ g. ap (λ o. record { config = p.config; instance = o })
      (changed-other one_left i k p.instances (other-instance j i e g)))) (λ f. refl)

  stranger-configures : (seed j : ℕ) (config : PipeConfig) → is_at pipe k (Configuring j config) ps ≡ false →
      standing pipe k (happen seed (Configuring j config) ps) ≡ standing pipe k ps
  stranger-configures seed j config e =
      found-or (λ qs. standing pipe k qs ≡ standing pipe k ps) (λ p. put_in j (pipe_configure config p) ps)
      (with_pipe (record { number = j; config = config; instances = [] }) ps) (pipe_in j ps)
      (λ p f. put-other j pipe k (pipe_configure config p) ps (is-not j pipe e) (number-found j p ps f))
      (λ f. new-other pipe k (record { number = j; config = config; instances = [] }) ps (is-not j pipe e))

  stranger-deletes : (seed now j : ℕ) → is_at pipe k (Deleting now j) ps ≡ false →
      standing pipe k (happen seed (Deleting now j) ps) ≡ standing pipe k ps
  stranger-deletes seed now j e = removed-other j pipe k ps (is-not j pipe e)

pub others_do_not_interfere : OthersDoNotInterfere
others_do_not_interfere seed pipe k (Coming now j packet) ps e = stranger-comes pipe k ps seed now j packet e
others_do_not_interfere seed pipe k (Finishing now j i) ps e = stranger-finishes pipe k ps seed now j i e
others_do_not_interfere seed pipe k (InFlight j i) ps e = stranger-leaves pipe k ps seed j i e
others_do_not_interfere seed pipe k (Configuring j config) ps e = stranger-configures pipe k ps seed j config e
others_do_not_interfere seed pipe k (Deleting now j) ps e = stranger-deletes pipe k ps seed now j e
