-- The times of CoDel, as they are walked and as they are read.
use Rattle.std.proofs.Common.{◌≡◌, ℕ, ◌≤◌, Bool, List, [], ◌∷◌, length, Option, Some, None, refl, sym, ap, ◌∙◌, arith}
use Rattle.std.specs.Prelude.{◌&&◌, unwrap_or}
use Rattle.std.specs.Option.{is_some}
use Rattle.std.specs.Str.{bytes_eq}
use lib.Chars.{codes}
use Rattle.control_words.specs.Words.{Words, ◌>>=◌, said}
use Rattle.control_words.specs.Numbers.{time_of}
use Rattle.control_words.specs.Phrases.{phrases_within}
use Rattle.control_words.specs.Options.{is_time, time_at, put_time}
use Rattle.control_words.specs.declared.raw_options.Time.{Time}
use Rattle.control_words.specs.declared.raw_options.Time.TheVariants.{Target, Interval}
use Rattle.control_words.specs.declared.raw_options.RawCodel.{RawCodel}
use Rattle.control_lines.specs.Ranges.{within}
use Rattle.control.specs.declared.word_fault.Check.{Check}
use Rattle.control.specs.declared.expected.Expected.{Expected}
use Rattle.control.specs.declared.expected.Expected.TheVariants.{Pipe}
use Rattle.control.specs.declared.expected.PipeSeen.{PipeSeen}
use Rattle.control.specs.declared.expected.TimesSeen.{TimesSeen}
use Rattle.control.specs.declared.expected.PipeWord.TheVariants as pipe
use Rattle.control.specs.Choices.{unless, time_chosen}
use Rattle.control.specs.Forms.{asked}
use Rattle.control.specs.Walk.{next}
use Rattle.control.proofs.Steps.{accepts, goes, meets, said_step, said_refused, split, and_false, first_in, next_in, before}
use Rattle.control.proofs.Masks.{more, inward_twice}

abbrev pub made : Option ℕ → Option ℕ → RawCodel
made a b = record { target = a; interval = b }

abbrev pub stood : Option ℕ → Option ℕ → TimesSeen
stood a b = record { target = is_some a; interval = is_some b }

abbrev target_so : Check → Option ℕ → Bool
target_so check o = asked check (is_some (within (unwrap_or o 5000000) 1000 60000000000))

abbrev interval_so : Check → Option ℕ → Bool
interval_so check o = asked check (is_some (within (unwrap_or o 100000000) 1000 60000000000))

abbrev pub times_so : Check → RawCodel → Bool
times_so check t = target_so check t.target && interval_so check t.interval

abbrev Read : {R : Type 0} → Check → Bool → PipeSeen → (RawCodel → Words → Option R) → (R → Bool) → RawCodel → TimesSeen → Words → Type 0
Read check k s rest g t seen ws = ((k && times_so check t) && accepts check (Pipe (pipe.Times s seen)) ws) ≡ meets (rest t ws) g

abbrev ReadBehind : {R : Type 0} → Check → Bool → PipeSeen → (RawCodel → Words → Option R) → (R → Bool) → Words → Type 0
ReadBehind check k s rest g ws = (a b : Option ℕ) (tail : Words) → length tail ≤ length ws → Read check k s rest g (made a b) (stood a b) tail

abbrev put : {R : Type 0} → (RawCodel → Words → Option R) → RawCodel → Time × Words → Option R
put rest t a = put_time t a.0 >>= λ d. rest d a.1

target_read : {R : Type 0} (check : Check) (k : Bool) (s : PipeSeen) (rest : RawCodel → Words → Option R) (g : R → Bool) (ws : Words) → ReadBehind check k s rest g ws → (a b : Option ℕ) → ((k && times_so check (made a b)) && goes check ws (unless (is_some a) (Pipe (pipe.Time s (stood (Some 0) b))))) ≡ meets (said time_of Target ws >>= put rest (made a b)) g
unfolding next
target_read check k s rest g ws ih (Some x) b = said_refused _ time_of Target _ g ws (λ n tail. refl)
target_read check k s rest g ws ih None b = said_step check _ (Pipe (pipe.Time s (stood (Some 0) b))) time_of (λ n. is_some (within n 1000 60000000000)) Target (Pipe (pipe.Times s (stood (Some 0) b))) _ g (λ _. refl) refl ws (λ v tail eq n.
    ap (λ (x : Bool). x && accepts check (Pipe (pipe.Times s (stood (Some n) b))) tail) (more k _ _ _ (before _ (interval_so check b) _ _ (first_in check (target_so check (Some n)))))
    ∙ ih (Some n) b tail (omega (arith, ap length eq)))

interval_read : {R : Type 0} (check : Check) (k : Bool) (s : PipeSeen) (rest : RawCodel → Words → Option R) (g : R → Bool) (ws : Words) → ReadBehind check k s rest g ws → (a b : Option ℕ) → ((k && times_so check (made a b)) && goes check ws (unless (is_some b) (Pipe (pipe.Time s (stood a (Some 0)))))) ≡ meets (said time_of Interval ws >>= put rest (made a b)) g
unfolding next
interval_read check k s rest g ws ih a (Some x) = said_refused _ time_of Interval _ g ws (λ n tail. refl)
interval_read check k s rest g ws ih a None = said_step check _ (Pipe (pipe.Time s (stood a (Some 0)))) time_of (λ n. is_some (within n 1000 60000000000)) Interval (Pipe (pipe.Times s (stood a (Some 0)))) _ g (λ _. refl) refl ws (λ v tail eq n.
    ap (λ (x : Bool). x && accepts check (Pipe (pipe.Times s (stood a (Some n)))) tail) (more k _ _ _ (next_in check (target_so check a) (interval_so check (Some n))))
    ∙ ih a (Some n) tail (omega (arith, ap length eq)))

time_read : {R : Type 0} (check : Check) (k : Bool) (s : PipeSeen) (rest : RawCodel → Words → Option R) (g : R → Bool) (w : List ℕ) (ws : Words) → ReadBehind check k s rest g ws → (a b : Option ℕ) → ((k && times_so check (made a b)) && goes check ws (time_chosen s (stood a b) w)) ≡ meets (time_at w ws >>= put rest (made a b)) g
unfolding time_at
time_read check k s rest g w ws ih a b =
    let l = λ (o : Option Expected). (k && times_so check (made a b)) && goes check ws o in
    let r = λ (o : Option (Time × Words)). meets (o >>= put rest (made a b)) g in
    split l r (bytes_eq w (codes "target")) _ _ _ _ (target_read check k s rest g ws ih a b)
    (split l r (bytes_eq w (codes "interval")) _ _ _ _ (interval_read check k s rest g ws ih a b)
    (and_false _))

-- times as long as they go on, and what follows: `after` them
pub times_read : {R : Type 0} (check : Check) (k : Bool) (s : PipeSeen) (after : RawCodel × Words → Option R) (g : R → Bool) (most : Words) → ((t : RawCodel) (tail : Words) → length tail ≤ length most → ((k && times_so check t) && accepts check (Pipe (pipe.Setting s)) tail) ≡ meets (after (t, tail)) g) → (room : Words) (a b : Option ℕ) (ws : Words) → length ws ≤ length room → length ws ≤ length most → Read check k s (λ t ws. phrases_within is_time time_at put_time room t ws >>= after) g (made a b) (stood a b) ws
unfolding next
times_read check k s after g most h [] a b [] le less = h (made a b) [] less
times_read check k s after g most h [] a b (w ∷ ws) le less = absurd (omega (arith, le))
times_read check k s after g most h (_ ∷ room) a b [] le less = h (made a b) [] less
times_read check k s after g most h (_ ∷ room) a b (w ∷ ws) le less =
    split (λ (o : Option Expected). (k && times_so check (made a b)) && goes check ws o) (λ o. meets (o >>= after) g) (is_time w) _ _ _ _
    (time_read check k s (λ t tail. phrases_within is_time time_at put_time room t tail >>= after) g w ws (λ a2 b2 tail shorter. times_read check k s after g most h room a2 b2 tail (omega (arith, shorter, le)) (omega (arith, shorter, less))) a b
    ∙ sym (inward_twice (time_at w ws) (λ x. put_time (made a b) x.0) (λ x t. phrases_within is_time time_at put_time room t x.1) after g))
    (h (made a b) (w ∷ ws) less)
