-- Pipes but for what is on its way: what a packet that comes meets in them.
use Rattle.std.proofs.Common.{◌≡◌, ℕ, zero, suc, ◌*◌, ◌^◌, ◌<◌, List, [], ◌∷◌, ◌++◌, Bool, true, false, refl, sym, ◌∙◌, ap, subst, Some, None}
use Rattle.std.specs.Prelude.{if◌then◌else◌, ◌==◌, find, map, slice_get}
use Rattle.std.specs.Option.{option_map_or}
use Rattle.emu_model.specs.Lists.{replace_first, change_at}
use Rattle.emu_laws.proofs.Types.{Packet}
use Rattle.emu_model.specs.FlowIds.{flow_id, instance_of}
use Rattle.emu_model.specs.Delay.{empty_line, leave}
use Rattle.emu_model.specs.Loss.{loss_word}
use Rattle.emu_model.specs.DropTail.{Queued}
use Rattle.emu_model.specs.ComponentLaws.{IsWithin}
use Rattle.emu_model.specs.Pipes.{Instance, PipeState, instance_for, pipe_exit}
use Rattle.emu_laws.specs.LossCauses.{waiting_in, drawn_in, IsOverLimit, IsBelowLossRate}

-- an instance and a pipe but for what is on its way
abbrev still : Instance → Instance
still i = record i { line = empty_line }

abbrev pub at_rest : PipeState → PipeState
at_rest p = record p { instances = map still p.instances }

rested-ids : (is : List Instance) → map (λ (i : Instance). i.id) (map still is) ≡ map (λ i. i.id) is
rested-ids [] = refl
rested-ids (i ∷ is) = ap (λ xs. i.id ∷ xs) (rested-ids is)

rested-got : {A : Type 0} (f : Instance → A) (d : A) → ((i : Instance) → f (still i) ≡ f i) → (is : List Instance) (k : ℕ) →
    option_map_or f (slice_get (map still is) k) d ≡ option_map_or f (slice_get is k) d
rested-got f d same [] k = refl
rested-got f d same (i ∷ is) zero = same i
rested-got f d same (i ∷ is) (suc k) = rested-got f d same is k

rested-for : (packet : Packet) (p : PipeState) → instance_for packet (at_rest p) ≡ instance_for packet p
rested-for packet p = ap (λ ids. instance_of ids (flow_id p.config.mask packet)) (rested-ids p.instances)

rested-waiting : (k : ℕ) (p : PipeState) → waiting_in k (at_rest p) ≡ waiting_in k p
rested-waiting k p = rested-got (λ i. i.waiting) [] (λ i. refl) p.instances k

rested-drawn : (k : ℕ) (p : PipeState) → drawn_in k (at_rest p) ≡ drawn_in k p
rested-drawn k p = rested-got (λ i. i.drawn) 0 (λ i. refl) p.instances k

change-rested : (k : ℕ) (is : List Instance) → map still (change_at k (λ i. record i { line = leave i.line }) is) ≡ map still is
change-rested k [] = refl
change-rested zero (i ∷ is) = refl
change-rested (suc k) (i ∷ is) = ap (λ xs. still i ∷ xs) (change-rested k is)

pub exit-rested : (k : ℕ) (p : PipeState) → at_rest (pipe_exit k p) ≡ at_rest p
exit-rested k p = ap (λ is. record p { instances = is }) (change-rested k p.instances)

pub put-rested : (test : PipeState → Bool) (p q : PipeState) (ps : List PipeState) → find test ps ≡ Some p →
    at_rest q ≡ at_rest p → map at_rest (replace_first test q ps) ≡ map at_rest ps
put-rested test p q [] e h = refl
put-rested test p q (x ∷ xs) e h = go (test x) e (λ g. put-rested test p q xs g h)
  where
    go : (b : Bool) → (if b then Some x else find test xs) ≡ Some p →
        (find test xs ≡ Some p → map at_rest (replace_first test q xs) ≡ map at_rest xs) →
        map at_rest (if b then q ∷ xs else x ∷ replace_first test q xs) ≡ map at_rest (x ∷ xs)
    go true g later =
        let same : x ≡ p = cc g in
        ap (λ y. y ∷ map at_rest xs) (h ∙ ap at_rest (sym same))
    go false g later = ap (λ ys. at_rest x ∷ ys) (later g)

-- a pipe that is found among those at rest as before was there before
pub record Was (k : ℕ) (q : PipeState) (ps : List PipeState) : Type 0 where
  pub pipe : PipeState
  pub there : find (λ p. p.number == k) ps ≡ Some pipe
  pub same : at_rest pipe ≡ at_rest q

pub was : (k : ℕ) (q : PipeState) (xs ps : List PipeState) → map at_rest xs ≡ map at_rest ps →
    find (λ p. p.number == k) xs ≡ Some q → Was k q ps
was k q [] ps e h = absurd (cc h)
was k q (x ∷ xs) [] e h = absurd (cc e)
was k q (x ∷ xs) (p ∷ ps) e h =
    go (x.number == k) refl h (λ g. was k q xs ps rest g)
  where
    first : at_rest x ≡ at_rest p
    first = cc e

    rest : map at_rest xs ≡ map at_rest ps
    rest = cc e

    number : (x.number == k) ≡ (p.number == k)
    number = ap (λ y. y.number == k) first

    here : (b : Bool) → (p.number == k) ≡ b → b ≡ true → find (λ y. y.number == k) (p ∷ ps) ≡ Some p
    here b g t = ap (λ c. if c then Some p else find (λ y. y.number == k) ps) (g ∙ t)

    behind : (p.number == k) ≡ false → find (λ y. y.number == k) ps ≡ find (λ y. y.number == k) (p ∷ ps)
    behind g = ap (λ c. if c then Some p else find (λ y. y.number == k) ps) (sym g)

    go : (b : Bool) → (x.number == k) ≡ b → (if b then Some x else find (λ y. y.number == k) xs) ≡ Some q →
        (find (λ y. y.number == k) xs ≡ Some q → Was k q ps) → Was k q (p ∷ ps)
    go true g u later =
        let found : x ≡ q = cc u in
        record { pipe = p; there = here true (sym number ∙ g) refl; same = sym first ∙ ap at_rest found }
    go false g u later =
        let w : Was k q ps = later u in
        record { pipe = w.pipe; there = sym (behind (sym number ∙ g)) ∙ w.there; same = w.same }

pub over-was : (now : ℕ) (packet : Packet) (p q : PipeState) → at_rest p ≡ at_rest q → IsOverLimit now packet q →
    IsOverLimit now packet p
over-was now packet p q e h = record {
  instance = h.instance;
  there = sym (rested-for packet p) ∙ ap (instance_for packet) e ∙ rested-for packet q ∙ h.there;
  over = λ within. h.over
      (subst (λ l. IsWithin l (waiting_in h.instance q ++ w ∷ [])) (ap (λ x. x.config.queue) e)
      (subst (λ ws. IsWithin p.config.queue (ws ++ w ∷ []))
      (sym (rested-waiting h.instance p) ∙ ap (waiting_in h.instance) e ∙ rested-waiting h.instance q) within));
}
  where
    w : Queued Packet
    w = record { item = packet; size = packet.size; stamp = now }

pub below-was : (seed : ℕ) (packet : Packet) (p q : PipeState) → at_rest p ≡ at_rest q → IsBelowLossRate seed packet q →
    IsBelowLossRate seed packet p
below-was seed packet p q e h =
    let number : q.number ≡ p.number = ap (λ x. x.number) (sym e) in
    let plr : q.config.plr ≡ p.config.plr = ap (λ x. x.config.plr) (sym e) in
    let drawn : drawn_in h.instance q ≡ drawn_in h.instance p =
    sym (rested-drawn h.instance q) ∙ ap (drawn_in h.instance) (sym e) ∙ rested-drawn h.instance p in
    record {
      instance = h.instance;
      there = sym (rested-for packet p) ∙ ap (instance_for packet) e ∙ rested-for packet q ∙ h.there;
      below = subst (λ r. loss_word seed p.number h.instance (drawn_in h.instance p) * 10 ^ 6 < r * 2 ^ 32) plr
          (subst (λ d. loss_word seed p.number h.instance d * 10 ^ 6 < q.config.plr * 2 ^ 32) drawn
          (subst (λ j. loss_word seed j h.instance (drawn_in h.instance q) * 10 ^ 6 < q.config.plr * 2 ^ 32) number h.below));
    }

-- where none is found, none was there
pub none-was : (k : ℕ) (xs ps : List PipeState) → map at_rest xs ≡ map at_rest ps →
    find (λ p. p.number == k) xs ≡ None → find (λ p. p.number == k) ps ≡ None
none-was k [] [] e h = refl
none-was k [] (p ∷ ps) e h = absurd (cc e)
none-was k (x ∷ xs) [] e h = refl
none-was k (x ∷ xs) (p ∷ ps) e h =
    go (x.number == k) (p.number == k) number h (λ g. none-was k xs ps rest g)
  where
    first : at_rest x ≡ at_rest p
    first = cc e

    rest : map at_rest xs ≡ map at_rest ps
    rest = cc e

    number : (x.number == k) ≡ (p.number == k)
    number = ap (λ y. y.number == k) first

    go : (b c : Bool) → b ≡ c → (if b then Some x else find (λ y. y.number == k) xs) ≡ None →
        (find (λ y. y.number == k) xs ≡ None → find (λ y. y.number == k) ps ≡ None) →
        (if c then Some p else find (λ y. y.number == k) ps) ≡ None
    go true c g u later = absurd (cc u)
    go false true g u later = absurd (cc g)
    go false false g u later = later u

pub none-for-was : (packet : Packet) (p q : PipeState) → at_rest p ≡ at_rest q → instance_for packet q ≡ None →
    instance_for packet p ≡ None
none-for-was packet p q e h =
    sym (rested-for packet p) ∙ ap (instance_for packet) e ∙ rested-for packet q ∙ h
