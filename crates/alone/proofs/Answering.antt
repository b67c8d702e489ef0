-- What holds of an answer, from what holds of it already.
use Rattle.std.proofs.Common.{◌≡◌, ℕ, Bool, true, false, List, [], Option, Result, Ok, Err, OnOk, OnErr, sym, ap, append-nil}
use Rattle.std.specs.Result.{IsErrAnd}
use Rattle.std.specs.Io.KnownBytes.{Appends}
use Rattle.alone.specs.Bytes.{IsCut}
use Rattle.alone.specs.FaultLines.{IsSaid}

pub on_err : {T E P : Type 0} (r : Result T E) → P → OnErr r P
on_err (Ok x) p = tt
on_err (Err e) p = p

pub on_err_by : {T E P Q : Type 0} (r : Result T E) → (P → Q) → OnErr r P → OnErr r Q
on_err_by (Ok x) f p = tt
on_err_by (Err e) f p = f p

pub on_ok_by : {T E P Q : Type 0} (r : Result T E) → (P → Q) → OnOk r P → OnOk r Q
on_ok_by (Ok x) f p = f p
on_ok_by (Err e) f p = tt

-- what a `?` answers
pub passed : {T E : Type 0} (r : Result T E) (e : E) → IsErrAnd r (λ f. f ≡ e) → r ≡ Err e
passed (Ok x) e h = absurd h
passed (Err f) e h = ap Err h

-- what was written to who can fail
pub said : {E : Type 0} (r : Result (Unit {0}) E) (text : List ℕ) (old new : Option (List ℕ)) (failed : Bool) → OnOk r (Appends old new text) → OnErr r (IsCut old new text) → OnErr r (failed ≡ true) →
    IsSaid text old new failed
unfolding IsCut
said (Ok x) text old new failed wrote cut fails = record { some = (text, [], wrote, sym (append-nil text)); all = λ sound. wrote }
said (Err e) text old new failed wrote cut fails = record { some = cut; all = λ sound. absurd (never failed fails sound) }
  where
    never : (b : Bool) → b ≡ true → b ≡ false → ⊥
    never true is isnt = absurd (cc)
    never false is isnt = absurd (cc)
