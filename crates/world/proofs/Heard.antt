-- Commands whose moments don't fall are all heard.
use Rattle.std.proofs.Common.{suc, ◌≡◌, ℕ, ◌+◌, ◌≤◌, Bool, true, false, List, [], ◌∷◌, ◌++◌, length, refl, sym, ap, ◌∙◌, arith}
use Rattle.std.specs.Prelude.{if◌then◌else◌, nat_lt}
use Rattle.std.proofs.lemmas.Bool.{le-ltb}
use Rattle.std.proofs.lemmas.List.{append-nil, append_assoc, length-append}
use Rattle.emu_model.specs.declared.commands.Timed.{Timed}
use Rattle.experiment.specs.Kept.{last_moment}
use Rattle.shard.specs.Stand.{heard_from}

heard-append : (c xs ys : List Timed) → heard_from c (xs ++ ys) ≡ heard_from (heard_from c xs) ys
heard-append c [] ys = refl
heard-append c (x ∷ xs) ys = heard-append (if nat_lt x.moment (last_moment 0 c) then c else c ++ x ∷ []) xs ys

length-by : (b : Bool) (c : List Timed) (x : Timed) (xs : List Timed) → length (heard_from c xs) ≤ length c + length xs → length (heard_from (c ++ x ∷ []) xs) ≤ length (c ++ x ∷ []) + length xs → length (heard_from (if b then c else c ++ x ∷ []) xs) ≤ length c + suc (length xs)
length-by true c x xs short long = omega (arith, short)
length-by false c x xs short long = omega (arith, long, length-append c (x ∷ []))

heard-length : (c xs : List Timed) → length (heard_from c xs) ≤ length c + length xs
heard-length c [] = omega arith
heard-length c (x ∷ xs) =
    length-by (nat_lt x.moment (last_moment 0 c)) c x xs (heard-length c xs) (heard-length (c ++ x ∷ []) xs)

full-by : (b : Bool) (c : List Timed) (x : Timed) (xs : List Timed) → (length (heard_from (c ++ x ∷ []) xs) ≡ length (c ++ x ∷ []) + length xs → heard_from (c ++ x ∷ []) xs ≡ (c ++ x ∷ []) ++ xs) → length (heard_from (if b then c else c ++ x ∷ []) xs) ≡ length c + suc (length xs) → heard_from (if b then c else c ++ x ∷ []) xs ≡ c ++ (x ∷ xs)
full-by true c x xs more h = absurd (omega (arith, heard-length c xs, h))
full-by false c x xs more h = more (omega (arith, h, length-append c (x ∷ []))) ∙ append_assoc c (x ∷ []) xs

heard-full : (c xs : List Timed) → length (heard_from c xs) ≡ length c + length xs → heard_from c xs ≡ c ++ xs
heard-full c [] e = sym (append-nil c)
heard-full c (x ∷ xs) e =
    full-by (nat_lt x.moment (last_moment 0 c)) c x xs (λ h. heard-full (c ++ x ∷ []) xs h) e

-- the first of commands that are all heard
pub heard-front : (xs ys : List Timed) → heard_from [] (xs ++ ys) ≡ xs ++ ys → heard_from [] xs ≡ xs
heard-front xs ys e =
    let whole : length (heard_from (heard_from [] xs) ys) ≡ length xs + length ys = ap length (sym (heard-append [] xs ys) ∙ e) ∙ length-append xs ys in
    heard-full [] xs (omega (arith, whole, heard-length (heard_from [] xs) ys, heard-length [] xs))

-- one more, at a moment that isn't below the last
pub heard-push : (xs : List Timed) (t : Timed) → heard_from [] xs ≡ xs → last_moment 0 xs ≤ t.moment → heard_from [] (xs ++ t ∷ []) ≡ xs ++ t ∷ []
heard-push xs t e late =
    let late' : nat_lt t.moment (last_moment 0 xs) ≡ false = le-ltb t.moment (last_moment 0 xs) late in
    heard-append [] xs (t ∷ []) ∙ ap (λ c. heard_from c (t ∷ [])) e ∙ ap (λ b. if b then xs else xs ++ t ∷ []) late'

pub last-push : (from : ℕ) (xs : List Timed) (t : Timed) → last_moment from (xs ++ t ∷ []) ≡ t.moment
last-push from [] t = refl
last-push from (x ∷ xs) t = last-push x.moment xs t
