-- The laws of the components.
use Rattle.std.proofs.Common.{◌≡◌, subst, ℕ, zero, suc, ◌+◌, ◌-◌, ◌^◌, ◌≤◌, ◌<◌, List, [], ◌∷◌, ◌++◌, Bool, true, false, refl, sym, ◌∙◌, ap, Some, append_assoc, append-nil, zero-add, add-one, length, take, arith}
use Rattle.std.specs.Prelude.{if◌then◌else◌, not, ◌||◌, nat_lt, nat_le, map, sum, All, slice_get, option_to_list}
use Rattle.std.proofs.lemmas.Bool.{leb-true, lt-ltb, ltb-true, ltb-false}
use Rattle.std.proofs.lemmas.List.{length-append, map-append}
use Rattle.std.proofs.lemmas.List.Elements.{All-nil, All-cons}
use Rattle.std.proofs.lemmas.List.Sums.{sum-map, sum_by-append, sum_by-cons}
use Rattle.std.proofs.lemmas.Nat.{mod_below}
use Rattle.rand_chacha.specs.Block.{block_word}
use Rattle.emu_model.specs.Types.{Packet, Slots, KBytes}
use Rattle.emu_model.specs.Loss.{loss_word}
use Rattle.emu_model.specs.DropTail.{Queued, bytes_of}
use Rattle.emu_model.specs.Codel.{Times, CodelState, Dequeued, maxpacket, count_up, codel_dequeue}
use Rattle.emu_model.proofs.CodelParts.{found_by, ok_to_drop, look, look_empty, drop_on, first_dropped, set_next, drop_head, give_head, give_none, stop_dropping, dequeue_by_parts, by_parts}
use Rattle.emu_model.specs.Rate.{finish_at, finishes}
use Rattle.emu_model.specs.Delay.{enter, exit_after, exits}
use Rattle.emu_model.specs.ComponentLaws.{served, FinishesAreFolded, FinishesRoundOnce, exits_of, ExitsAreFolded, ExitsNeverFall, LossHasItsExtremes, AcceptsWithinLimit, CodelKeepsOrder, CodelSparesTheQuick}

-- at rate 0 no finish rests on a sum
unsummed : (start m n : ℕ) (zs : List ℕ) → finishes 0 start m zs ≡ finishes 0 start n zs
unsummed start m n [] = refl
unsummed start m n (z ∷ zs) = ap (λ fs. start ∷ fs) (unsummed start (m + z) (n + z) zs)

served-is : (bw start sum finish : ℕ) (zs : List ℕ) →
    served bw (record { start = start; sum = sum; finish = finish }) zs ≡ finishes bw start sum zs
served-is bw start sum finish [] = refl
served-is zero start sum finish (z ∷ zs) =
    ap (λ fs. start ∷ fs)
    (served-is zero start sum start zs ∙ unsummed start sum (sum + z) zs)
served-is (suc bw) start sum finish (z ∷ zs) =
    ap (λ fs. finish_at (suc bw) start (sum + z) ∷ fs)
    (served-is (suc bw) start (sum + z) (finish_at (suc bw) start (sum + z)) zs)

pub finishes_are_folded : FinishesAreFolded
finishes_are_folded bw start zs = served-is bw start 0 start zs

-- the first k + 2 sizes are the first one and k + 1 of the rest
taken-sum : (s z : ℕ) (zs : List ℕ) (k : ℕ) →
    s + z + sum (take (k + 1) zs) ≡ s + sum (take (suc k + 1) (z ∷ zs))
taken-sum s z zs k =
    let e : take (suc k + 1) (z ∷ zs) ≡ z ∷ take (k + 1) zs = ap (λ n. take n (z ∷ zs)) (add-one (suc k)) ∙ ap (λ n. z ∷ take n zs) (sym (add-one k)) in
    rw e (omega (arith, sum_by-cons (λ x. x) z (take (k + 1) zs)))

finishes-get : (bw start s : ℕ) (zs : List ℕ) (k : ℕ) → k < length zs →
    slice_get (finishes bw start s zs) k ≡ Some (finish_at bw start (s + sum (take (k + 1) zs)))
finishes-get bw start s [] k h = absurd (omega (arith, h))
finishes-get bw start s (z ∷ zs) zero h =
    ap (λ n. Some (finish_at bw start (s + n))) (sym (zero-add z))
finishes-get bw start s (z ∷ zs) (suc k) h =
    finishes-get bw start (s + z) zs k (omega (arith, h))
    ∙ ap (λ n. Some (finish_at bw start n)) (taken-sum s z zs k)

pub finishes_round_once : FinishesRoundOnce
finishes_round_once bw start zs k h =
    finishes-get bw start 0 zs k h
    ∙ ap (λ n. Some (finish_at bw start n)) (zero-add (sum (take (k + 1) zs)))

pub exits_are_folded : ExitsAreFolded
exits_are_folded [] l = sym (append-nil _)
exits_are_folded (e ∷ es) l =
    let x : ℕ = exit_after l.last e.finish e.delay in
    exits_are_folded es (enter e.packet e.finish e.delay l)
    ∙ ap (λ xs. xs ++ exits x (map (λ a. (a.finish, a.delay)) es))
    (map-append (λ a. a.exit) l.in_flight (record { item = e.packet; exit = x } ∷ []))
    ∙ append_assoc (exits_of l) (x ∷ []) (exits x (map (λ a. (a.finish, a.delay)) es))

pub exits_never_fall : ExitsNeverFall
exits_never_fall last [] = tt
exits_never_fall last (e ∷ es) = (omega arith, exits_never_fall (exit_after last e.0 e.1) es)

word_below : (seed pipe instance place : ℕ) → loss_word seed pipe instance place < 2 ^ 32
unfolding block_word
word_below seed pipe instance place = mod_below _ _ (omega arith)

pub loss_has_its_extremes : LossHasItsExtremes
loss_has_its_extremes seed pipe instance place =
    (refl, lt-ltb _ _ (omega (arith, word_below seed pipe instance place)))

bytes-append : (ws : List (Queued Packet)) (w : Queued Packet) →
    bytes_of (ws ++ w ∷ []) ≡ bytes_of ws + w.size
bytes-append ws w =
    sum-map (λ v. v.size) (ws ++ w ∷ []) ∙ sum_by-append (λ v. v.size) ws (w ∷ [])
    ∙ ap (λ n. n + (0 + w.size)) (sym (sum-map (λ v. v.size) ws)) ∙ ap (λ n. bytes_of ws + n) (zero-add w.size)

pub accepts_within_limit : AcceptsWithinLimit
accepts_within_limit (Slots n) ws w h =
    omega (arith, ltb-true _ _ h, length-append ws (w ∷ []))
accepts_within_limit (KBytes n) ws w h =
    omega (arith, leb-true _ _ h, bytes-append ws w)

-- the packets of a dequeue, in order, and that those it drops stayed long
record Faithful (times : Times) (now : ℕ) (ws : List (Queued Packet)) (d : Dequeued Packet) : Type 0 where
  order : d.dropped ++ option_to_list d.given ++ d.rest ≡ ws
  late : All (λ w. times.target ≤ now - w.stamp) d.dropped

given-faithful : (times : Times) (now : ℕ) (c : CodelState) (w : Queued Packet) (rest : List (Queued Packet)) →
    Faithful times now (w ∷ rest) (give_head c w rest)
given-faithful times now c w rest = record { order = refl; late = All-nil (λ v. times.target ≤ now - v.stamp) }

dropped-faithful : (times : Times) (now : ℕ) (w : Queued Packet) (ws : List (Queued Packet)) (d : Dequeued Packet) →
    times.target ≤ now - w.stamp → Faithful times now ws d →
    Faithful times now (w ∷ ws) (drop_head w d)
dropped-faithful times now w ws d h f = record {
  order = ap (λ xs. w ∷ xs) f.order;
  late = All-cons (λ v. times.target ≤ now - v.stamp) w d.dropped h f.late;
}

none-faithful : (times : Times) (now : ℕ) (c : CodelState) → Faithful times now [] (give_none c)
none-faithful times now c = record { order = refl; late = All-nil (λ v. times.target ≤ now - v.stamp) }

-- a head that may be dropped stayed for the target at least
long_stay : (times : Times) (now above stay : ℕ) (few : Bool) →
    (found_by times now above (nat_lt stay times.target || few)).ok_to_drop ≡ true → times.target ≤ stay
long_stay times now above stay few e = go (nat_lt stay times.target) refl e
  where
    go : (b : Bool) → nat_lt stay times.target ≡ b →
        (found_by times now above (b || few)).ok_to_drop ≡ true → times.target ≤ stay
    go true h g = absurd (cc g)
    go false h g = ltb-false _ _ h

-- the state at the next head, once one more was dropped
abbrev next : Times → ℕ → CodelState → Queued Packet → List (Queued Packet) → CodelState
next times now c v rest =
    let counted = look times now (count_up c) v rest in set_next times counted.drop_next counted

on-faithful : (times : Times) (now : ℕ) (rest : List (Queued Packet)) (c : CodelState) (w : Queued Packet) →
    times.target ≤ now - w.stamp → Faithful times now (w ∷ rest) (drop_on times now c w rest)
on-faithful times now [] c w h =
    elim (nat_lt now c.drop_next) as (λ b. Faithful times now (w ∷ [])
    (if b then give_head c w [] else drop_head w (give_none (stop_dropping (look_empty (count_up c)))))) [
      | true ↦ given-faithful times now c w []
      | false ↦ dropped-faithful times now w [] _ h (none-faithful times now _)
    ]
on-faithful times now (v ∷ rest) c w h =
    go (nat_lt now c.drop_next) (ok_to_drop times now c v rest) refl
    (λ g. on-faithful times now rest (next times now c v rest) v g)
  where
    go : (b d : Bool) → ok_to_drop times now c v rest ≡ d →
        (times.target ≤ now - v.stamp →
        Faithful times now (v ∷ rest) (drop_on times now (next times now c v rest) v rest)) →
        Faithful times now (w ∷ v ∷ rest)
        (if b then give_head c w (v ∷ rest)
        else (if d then drop_head w (drop_on times now (next times now c v rest) v rest)
        else drop_head w (give_head (stop_dropping (look times now (count_up c) v rest)) v rest)))
    go true d e ih = given-faithful times now c w (v ∷ rest)
    go false true e ih =
        dropped-faithful times now w (v ∷ rest) _ h (ih (long_stay times now c.first_above_time (now - v.stamp) (nat_le (bytes_of rest) maxpacket) e))
    go false false e ih =
        dropped-faithful times now w (v ∷ rest) _ h (given-faithful times now _ v rest)

first-faithful : (times : Times) (now : ℕ) (c : CodelState) (w : Queued Packet) (rest : List (Queued Packet)) →
    times.target ≤ now - w.stamp → Faithful times now (w ∷ rest) (first_dropped times now c w rest)
first-faithful times now c w [] h =
    dropped-faithful times now w [] _ h (none-faithful times now _)
first-faithful times now c w (v ∷ rest) h =
    dropped-faithful times now w (v ∷ rest) _ h (given-faithful times now _ v rest)

parts-faithful : (times : Times) (now : ℕ) (c : CodelState) (ws : List (Queued Packet)) →
    Faithful times now ws (dequeue_by_parts times now c ws)
parts-faithful times now c [] = none-faithful times now _
parts-faithful times now c (w ∷ rest) = go (ok_to_drop times now c w rest) c.dropping refl
  where
    go : (d b : Bool) → ok_to_drop times now c w rest ≡ d →
        Faithful times now (w ∷ rest)
        (if not d then give_head (stop_dropping (look times now c w rest)) w rest
        else (if b then drop_on times now (look times now c w rest) w rest
        else first_dropped times now (look times now c w rest) w rest))
    go false b e = given-faithful times now (stop_dropping (look times now c w rest)) w rest
    go true true e = on-faithful times now rest (look times now c w rest) w (long_stay times now c.first_above_time (now - w.stamp) (nat_le (bytes_of rest) maxpacket) e)
    go true false e = first-faithful times now (look times now c w rest) w rest (long_stay times now c.first_above_time (now - w.stamp) (nat_le (bytes_of rest) maxpacket) e)

codel-faithful : (times : Times) (now : ℕ) (c : CodelState) (ws : List (Queued Packet)) →
    Faithful times now ws (codel_dequeue times now c ws)
codel-faithful times now c ws = subst (λ d. Faithful times now ws d) (sym (by_parts times now c ws)) (parts-faithful times now c ws)

pub codel_keeps_order : CodelKeepsOrder
codel_keeps_order times now c ws = (codel-faithful times now c ws).order

pub codel_spares_the_quick : CodelSparesTheQuick
codel_spares_the_quick times now c ws = (codel-faithful times now c ws).late
