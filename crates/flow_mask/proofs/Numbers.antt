-- The numbers of instances.
use Rattle.std.proofs.Common.{◌≡◌, ℕ, ◌+◌, ◌<◌, ◌≤◌, nat_lt, Bool, true, false, ◌||◌, ◌&&◌, cond, List, [], ◌∷◌, length, Option, Some, None, position, refl, sym, ap, ◌∙◌, arith}
use Rattle.std.proofs.lemmas.Bool.Decides.{nat_tests}
use Rattle.std.specs.Option.{option_map_or}
use Rattle.std.specs.Prelude.{slice_get, ◌==◌}
use Rattle.std.specs.List.{list_any, position_or_len}
use Rattle.std.proofs.lemmas.List.Sums.{position_or_len_is}
use Rattle.emu_model.specs.FlowIds.{FlowId, same_flow, new_instance, instance_of}

same-some : {A : Type 0} (x y : A) → Some x ≡ Some y → x ≡ y
same-some x y e = cc

nested : (a b c d e : Bool) → (a && (b && (c && (d && e)))) ≡ true → (a && b && c && d && e) ≡ true
nested true true true true e t = t
nested true true true false e t = absurd (cc)
nested true true false d e t = absurd (cc)
nested true false c d e t = absurd (cc)
nested false b c d e t = absurd (cc)

-- fields that are equal one by one
pub same_by : (a b : FlowId) → (a.proto == b.proto && (a.src == b.src && (a.dst == b.dst && (a.sport == b.sport && a.dport == b.dport)))) ≡ true → same_flow a b ≡ true
same_by a b t = nested (a.proto == b.proto) (a.src == b.src) (a.dst == b.dst) (a.sport == b.sport) (a.dport == b.dport) t

module _ (ids : List FlowId) (id : FlowId) where
  -- an identifier that came has the place of its first coming
  pub known_instance : (k : ℕ) → position (same_flow id) ids ≡ Some k → instance_of ids id ≡ Some k
  known_instance k h = ap (λ o. option_map_or (λ n. Some n) o (new_instance ids)) h

  unknown : position (same_flow id) ids ≡ None → instance_of ids id ≡ new_instance ids
  unknown h = ap (λ o. option_map_or (λ n. Some n) o (new_instance ids)) h

  -- a new one has the next number
  pub next_instance : position (same_flow id) ids ≡ None → length ids < 256 → instance_of ids id ≡ Some (length ids)
  next_instance h few =
      let t : nat_lt (length ids) 256 ≡ true = grind (arith, nat_tests) in
      unknown h ∙ ap (λ b. cond b (Some (length ids)) None) t

  -- or none
  pub no_instance : position (same_flow id) ids ≡ None → 256 ≤ length ids → instance_of ids id ≡ None
  no_instance h many =
      let t : nat_lt (length ids) 256 ≡ false = grind (arith, nat_tests) in
      unknown h ∙ ap (λ b. cond b (Some (length ids)) None) t

  -- the first identifier that came
  pub is_first : (first : FlowId) → slice_get ids 0 ≡ Some first → same_flow id first ≡ true → Some 0 ≡ position (same_flow id) ids
  is_first first e same = at ids e
    where
      at : (xs : List FlowId) → slice_get xs 0 ≡ Some first → Some 0 ≡ position (same_flow id) xs
      at [] e = absurd (cc)
      at (x ∷ xs) e =
          let t : same_flow id x ≡ true = ap (same_flow id) (same-some x first e) ∙ same in
          let here : position_or_len (same_flow id) (x ∷ xs) ≡ 0 = position_or_len_is (same_flow id) (x ∷ xs) 0 x (omega arith) (λ k low. absurd (omega (arith, low))) (λ low. t) in
          let below : nat_lt (position_or_len (same_flow id) (x ∷ xs)) (length (x ∷ xs)) ≡ true = ap (λ n. nat_lt n (length (x ∷ xs))) here ∙ grind (arith, nat_tests) in
          ap (λ n. Some n) (sym here) ∙ sym (ap (λ b. cond b (Some (position_or_len (same_flow id) (x ∷ xs))) None) below)

  pub came : (first : FlowId) → slice_get ids 0 ≡ Some first → same_flow id first ≡ true → true ≡ list_any (same_flow id) ids
  came first e same = at ids e
    where
      at : (xs : List FlowId) → slice_get xs 0 ≡ Some first → true ≡ list_any (same_flow id) xs
      at [] e = absurd (cc)
      at (x ∷ xs) e =
          let t : same_flow id x ≡ true = ap (same_flow id) (same-some x first e) ∙ same in
          sym (ap (λ b. b || list_any (same_flow id) xs) t)
