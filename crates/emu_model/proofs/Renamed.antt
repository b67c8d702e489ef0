-- A dequeue by CoDel reads sizes and moments alone: it does to things what it does to their names. One that waits
-- alone is given.
use Rattle.std.proofs.Common.{◌≡◌, ℕ, ◌-◌, ◌∙◌, ap, sym, refl, Bool, true, false, List, [], ◌∷◌, map}
use Rattle.std.specs.Prelude.{nat_lt, nat_le, not, ◌||◌, if◌then◌else◌, option_map, sum}
use Rattle.emu_model.specs.DropTail.{Queued, bytes_of}
use Rattle.emu_model.specs.Codel.{Times, CodelState, Dequeued, count_up, enter_drop_state, codel_dequeue}
use Rattle.emu_model.proofs.CodelParts.{Found, found_by, look_empty, stop_dropping, set_next, give_head, give_none, drop_head, drop_on, first_dropped, dequeue_by_parts, by_parts}

abbrev pub renamed : {A B : Type 0} → (A → B) → Queued A → Queued B
renamed f w = record { item = f w.item; size = w.size; stamp = w.stamp }

abbrev pub renamed_dequeue : {A B : Type 0} → (A → B) → Dequeued A → Dequeued B
renamed_dequeue f d = record {
  dropped = map (renamed f) d.dropped;
  given = option_map (renamed f) d.given;
  rest = map (renamed f) d.rest;
  control = d.control;
}

sizes-renamed : {A B : Type 0} (f : A → B) (ws : List (Queued A)) →
    map (λ w. w.size) (map (renamed f) ws) ≡ map (λ w. w.size) ws
sizes-renamed f [] = refl
sizes-renamed f (w ∷ ws) = ap (λ zs. w.size ∷ zs) (sizes-renamed f ws)

pub bytes-renamed : {A B : Type 0} (f : A → B) (ws : List (Queued A)) → bytes_of (map (renamed f) ws) ≡ bytes_of ws
bytes-renamed f ws = ap sum (sizes-renamed f ws)

-- `look` and `ok_to_drop`, where so many bytes are behind the head
abbrev found_at : Times → ℕ → CodelState → ℕ → ℕ → Found
found_at times now c stamp n =
    found_by times now c.first_above_time (nat_lt (now - stamp) times.target || nat_le n 1500)

abbrev look_at : Times → ℕ → CodelState → ℕ → ℕ → CodelState
look_at times now c stamp n = record c { first_above_time = (found_at times now c stamp n).first_above_time }

abbrev droppable_at : Times → ℕ → CodelState → ℕ → ℕ → Bool
droppable_at times now c stamp n = (found_at times now c stamp n).ok_to_drop

module _ {A B : Type 0} (f : A → B) (times : Times) (now : ℕ) where
  drop_on-renamed : (c : CodelState) (w : Queued A) (rest : List (Queued A)) →
      drop_on times now c (renamed f w) (map (renamed f) rest)
      ≡ renamed_dequeue f (drop_on times now c w rest)
  drop_on-renamed c w [] = by (nat_lt now c.drop_next)
    where
      last : CodelState
      last = stop_dropping (look_empty (count_up c))

      by : (b : Bool) →
          (if b then give_head c (renamed f w) [] else drop_head (renamed f w) (give_none last))
          ≡ renamed_dequeue f (if b then give_head c w [] else drop_head w (give_none last))
      by true = refl
      by false = refl
  drop_on-renamed c w (v ∷ rest) =
      ap either (bytes-renamed f rest)
      ∙ by (nat_lt now c.drop_next) (droppable_at times now c v.stamp n) _ _
      (drop_on-renamed (next n) v rest)
    where
      n : ℕ
      n = bytes_of rest

      head : Queued B
      head = renamed f w

      second : Queued B
      second = renamed f v

      behind : List (Queued B)
      behind = map (renamed f) rest

      counted : ℕ → CodelState
      counted m = look_at times now (count_up c) v.stamp m

      next : ℕ → CodelState
      next m = set_next times (counted m).drop_next (counted m)

      either : ℕ → Dequeued B
      either m =
          if nat_lt now c.drop_next then give_head c head (second ∷ behind)
          else (if droppable_at times now c v.stamp m then drop_head head (drop_on times now (next m) second behind)
          else drop_head head (give_head (stop_dropping (counted m)) second behind))

      by : (b d : Bool) (later : Dequeued B) (keyed : Dequeued A) → later ≡ renamed_dequeue f keyed →
          (if b then give_head c head (second ∷ behind)
          else (if d then drop_head head later
          else drop_head head (give_head (stop_dropping (counted n)) second behind)))
          ≡ renamed_dequeue f (if b then give_head c w (v ∷ rest)
          else (if d then drop_head w keyed
          else drop_head w (give_head (stop_dropping (counted n)) v rest)))
      by true d later keyed e = refl
      by false true later keyed e = ap (λ x. drop_head head x) e
      by false false later keyed e = refl

  drop_first-renamed : (c : CodelState) (w : Queued A) (rest : List (Queued A)) →
      first_dropped times now c (renamed f w) (map (renamed f) rest)
      ≡ renamed_dequeue f (first_dropped times now c w rest)
  drop_first-renamed c w [] = refl
  drop_first-renamed c w (v ∷ rest) =
      ap (λ m. drop_head (renamed f w)
      (give_head (enter_drop_state times now (look_at times now c v.stamp m)) (renamed f v) (map (renamed f) rest)))
      (bytes-renamed f rest)

  parts-renamed : (c : CodelState) (ws : List (Queued A)) →
      dequeue_by_parts times now c (map (renamed f) ws) ≡ renamed_dequeue f (dequeue_by_parts times now c ws)
  parts-renamed c [] = refl
  parts-renamed c (w ∷ rest) =
      ap either (bytes-renamed f rest) ∙ by (droppable_at times now c w.stamp n) c.dropping
    where
      n : ℕ
      n = bytes_of rest

      head : Queued B
      head = renamed f w

      behind : List (Queued B)
      behind = map (renamed f) rest

      looked : ℕ → CodelState
      looked m = look_at times now c w.stamp m

      either : ℕ → Dequeued B
      either m =
          if not (droppable_at times now c w.stamp m) then give_head (stop_dropping (looked m)) head behind
          else (if c.dropping then drop_on times now (looked m) head behind
          else first_dropped times now (looked m) head behind)

      by : (d b : Bool) →
          (if not d then give_head (stop_dropping (looked n)) head behind
          else (if b then drop_on times now (looked n) head behind
          else first_dropped times now (looked n) head behind))
          ≡ renamed_dequeue f (if not d then give_head (stop_dropping (looked n)) w rest
          else (if b then drop_on times now (looked n) w rest
          else first_dropped times now (looked n) w rest))
      by false b = refl
      by true true = drop_on-renamed (looked n) w rest
      by true false = drop_first-renamed (looked n) w rest

  pub codel_dequeue-renamed : (c : CodelState) (ws : List (Queued A)) →
      codel_dequeue times now c (map (renamed f) ws) ≡ renamed_dequeue f (codel_dequeue times now c ws)
  codel_dequeue-renamed c ws =
      by_parts times now c (map (renamed f) ws) ∙ parts-renamed c ws
      ∙ ap (renamed_dequeue f) (sym (by_parts times now c ws))

-- one that waits alone is given
pub lone_codel : {A : Type 0} (times : Times) (now : ℕ) (c : CodelState) (w : Queued A) →
    codel_dequeue times now c (w ∷ []) ≡ give_head (stop_dropping (look_empty c)) w []
lone_codel {A} times now c w = by_parts times now c (w ∷ []) ∙ ap either (past (nat_lt (now - w.stamp) times.target))
  where
    looked : Bool → CodelState
    looked short =
        record c { first_above_time = (found_by times now c.first_above_time short).first_above_time }

    either : Bool → Dequeued A
    either short =
        if not (found_by times now c.first_above_time short).ok_to_drop
        then give_head (stop_dropping (looked short)) w []
        else (if c.dropping then drop_on times now (looked short) w []
        else first_dropped times now (looked short) w [])

    past : (b : Bool) → (b || true) ≡ true
    past true = refl
    past false = refl
