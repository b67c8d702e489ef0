-- A dequeue cuts what waits in three: what is dropped, what is given, and what still waits. Here that of CoDel.
use Rattle.std.proofs.Common.{◌≡◌, ℕ, ap, refl, sym, subst, Bool, true, false, None, List, [], ◌∷◌, ◌++◌}
use Rattle.std.specs.Prelude.{nat_lt, not, if◌then◌else◌, option_to_list}
use Rattle.emu_model.specs.DropTail.{Queued}
use Rattle.emu_model.specs.Codel.{Times, CodelState, Dequeued, count_up, codel_dequeue}
use Rattle.emu_model.proofs.CodelParts.{ok_to_drop, look, stop_dropping, set_next, give_head, give_none, drop_head, drop_on, first_dropped, dequeue_by_parts, by_parts}

-- and where it gives nothing, nothing is left
pub record IsCut {A : Type 0} (ws : List (Queued A)) (d : Dequeued A) : Type 0 where
  pub whole : ws ≡ d.dropped ++ (option_to_list d.given ++ d.rest)
  pub last : d.given ≡ None → d.rest ≡ []

pub give-cut : {A : Type 0} (c : CodelState) (w : Queued A) (rest : List (Queued A)) → IsCut (w ∷ rest) (give_head c w rest)
give-cut c w rest = record { whole = refl; last = λ e. absurd (cc) }

pub give_none-cut : {A : Type 0} (c : CodelState) → IsCut {A = A} [] (give_none c)
give_none-cut c = record { whole = refl; last = λ e. refl }

after_drop-cut : {A : Type 0} (w : Queued A) (ws : List (Queued A)) (d : Dequeued A) → IsCut ws d → IsCut (w ∷ ws) (drop_head w d)
after_drop-cut w ws d h = record { whole = ap (λ vs. w ∷ vs) h.whole; last = h.last }

either-cut : {A : Type 0} (b : Bool) (ws : List (Queued A)) (d e : Dequeued A) → IsCut ws d → IsCut ws e → IsCut ws (if b then d else e)
either-cut true ws d e h k = h
either-cut false ws d e h k = k

drop_on-cut : {A : Type 0} (times : Times) (now : ℕ) (c : CodelState) (w : Queued A) (rest : List (Queued A)) →
    IsCut (w ∷ rest) (drop_on times now c w rest)
drop_on-cut times now c w [] =
    either-cut (nat_lt now c.drop_next) (w ∷ []) _ _ (give-cut c w []) (after_drop-cut w [] _ (give_none-cut _))
drop_on-cut times now c w (v ∷ rest) =
    let counted = look times now (count_up c) v rest in
    either-cut (nat_lt now c.drop_next) (w ∷ v ∷ rest) _ _ (give-cut c w (v ∷ rest))
    (either-cut (ok_to_drop times now c v rest) (w ∷ v ∷ rest) _ _
    (after_drop-cut w (v ∷ rest) _ (drop_on-cut times now (set_next times counted.drop_next counted) v rest))
    (after_drop-cut w (v ∷ rest) _ (give-cut _ v rest)))

drop_first-cut : {A : Type 0} (times : Times) (now : ℕ) (c : CodelState) (w : Queued A) (rest : List (Queued A)) →
    IsCut (w ∷ rest) (first_dropped times now c w rest)
drop_first-cut times now c w [] = after_drop-cut w [] _ (give_none-cut _)
drop_first-cut times now c w (v ∷ rest) = after_drop-cut w (v ∷ rest) _ (give-cut _ v rest)

parts-cut : {A : Type 0} (times : Times) (now : ℕ) (c : CodelState) (ws : List (Queued A)) →
    IsCut ws (dequeue_by_parts times now c ws)
parts-cut times now c [] = give_none-cut _
parts-cut times now c (w ∷ rest) =
    let seen = look times now c w rest in
    either-cut (not (ok_to_drop times now c w rest)) (w ∷ rest) _ _ (give-cut (stop_dropping seen) w rest)
    (either-cut c.dropping (w ∷ rest) _ _ (drop_on-cut times now seen w rest) (drop_first-cut times now seen w rest))

pub codel_dequeue-cut : {A : Type 0} (times : Times) (now : ℕ) (c : CodelState) (ws : List (Queued A)) →
    IsCut ws (codel_dequeue times now c ws)
codel_dequeue-cut times now c ws = subst (λ d. IsCut ws d) (sym (by_parts times now c ws)) (parts-cut times now c ws)
