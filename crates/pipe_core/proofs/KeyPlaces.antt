-- One key of an instance is replaced.
use Rattle.std.proofs.Common.{◌≡◌, ℕ, zero, suc, ◌+◌, ◌-◌, ◌<◌, ◌∙◌, ap, sym, refl, Option, Some, None, IsSome, List, [], ◌∷◌, ◌++◌, map, length, set, arith}
use Rattle.std.specs.Prelude.{option_map, option_to_list}
use Rattle.std.proofs.lemmas.List.{set-append_left, set-append_right, length-append, length-map}
use Rattle.emu_model.specs.DropTail.{Queued}
use Rattle.queue_disc.specs.Queues.{with_item as with_waiting}
use Rattle.link_core.specs.Flight.{with_item as with_leaving}
use Rattle.emu_model.specs.Pipes.{InService}
use Rattle.pipe_core.specs.KeyedInstance.{KeyedInstance, keys_in}
use Rattle.pipe_core.specs.Serving.{with_key}
use Rattle.pipe_core.proofs.Blanked.{line-items, line-blank}
use Rattle.pipe_core.specs.Blanks.{blank, blank_waiting}

waiting-items : (ws : List (Queued ℕ)) (n k : ℕ) → map (λ w. w.item) (with_waiting ws n k) ≡ set (map (λ w. w.item) ws) n k
waiting-items [] n k = refl
waiting-items (w ∷ ws) zero k = refl
waiting-items (w ∷ ws) (suc n) k = ap (λ l. w.item ∷ l) (waiting-items ws n k)

waiting-blank : (ws : List (Queued ℕ)) (n k : ℕ) → map blank_waiting (with_waiting ws n k) ≡ map blank_waiting ws
waiting-blank [] n k = refl
waiting-blank (w ∷ ws) zero k = refl
waiting-blank (w ∷ ws) (suc n) k = ap (λ (l : List (Queued ℕ)). blank_waiting w ∷ l) (waiting-blank ws n k)

-- a place in the first, the second and the third of three lists
set_first : (a b c : List ℕ) (n k : ℕ) → n < length a → set a n k ++ b ++ c ≡ set (a ++ b ++ c) n k
set_first a b c n k within =
    sym (set-append_left (a ++ b) c n k (omega (arith, within, length-append a b)) ∙ ap (λ l. l ++ c) (set-append_left a b n k within))

set_second : (a c : List ℕ) (x n k : ℕ) → n ≡ length a → a ++ k ∷ [] ++ c ≡ set (a ++ x ∷ [] ++ c) n k
set_second [] c x zero k e = refl
set_second [] c x (suc n) k e = absurd (omega (arith, e))
set_second (y ∷ a) c x zero k e = absurd (omega (arith, e))
set_second (y ∷ a) c x (suc n) k e = ap (λ l. y ∷ l) (set_second a c x n k (omega (arith, e)))

set_third : (a b c : List ℕ) (n m k : ℕ) → n ≡ length a + length b + m → a ++ b ++ set c m k ≡ set (a ++ b ++ c) n k
set_third a b c n m k e =
    let front : length (a ++ b) ≡ length a + length b = length-append a b in
    let back : n - length (a ++ b) ≡ m = omega (arith, e, front) in
    sym (set-append_right (a ++ b) c (length (a ++ b)) n k refl (omega (arith, e, front)) ∙ ap (λ j. a ++ b ++ set c j k) back)

abbrev line_with : ℕ → ℕ → KeyedInstance → KeyedInstance
line_with n k i = record i { delay_line = record i.delay_line { line = record i.delay_line.line { in_flight = with_leaving i.delay_line.line.in_flight n k } } }

abbrev served_with : ℕ → KeyedInstance → KeyedInstance
served_with k i = record i { service = record i.service { busy = option_map (with_key k) i.service.busy } }

abbrev waiting_with : ℕ → ℕ → KeyedInstance → KeyedInstance
waiting_with n k i = record i { queue = record i.queue { waiting = with_waiting i.queue.waiting n k } }

pub keys-line : (i : KeyedInstance) (n k : ℕ) → n < length i.delay_line.line.in_flight →
    keys_in (line_with n k i) ≡ set (keys_in i) n k
keys-line i n k within =
    let line : List ℕ = map (λ x. x.item) i.delay_line.line.in_flight in
    let served : List ℕ = option_to_list (option_map (λ s. s.item) i.service.busy) in
    let ws : List ℕ = map (λ w. w.item) i.queue.waiting in
    let long : length line ≡ length i.delay_line.line.in_flight = length-map i.delay_line.line.in_flight (λ x. x.item) in
    ap (λ l. l ++ served ++ ws) (line-items i.delay_line.line.in_flight n k) ∙ set_first line served ws n k (omega (arith, within, long))

served-by : (line ws : List ℕ) (busy : Option (InService ℕ)) (n k : ℕ) → IsSome busy → n ≡ length line →
    line ++ option_to_list (option_map (λ s. s.item) (option_map (with_key k) busy)) ++ ws
    ≡ set (line ++ option_to_list (option_map (λ s. s.item) busy) ++ ws) n k
served-by line ws None n k h e = absurd (cc)
served-by line ws (Some s) n k h e = set_second line ws s.item n k e

pub keys-served : (i : KeyedInstance) (n k : ℕ) → IsSome i.service.busy → n ≡ length i.delay_line.line.in_flight →
    keys_in (served_with k i) ≡ set (keys_in i) n k
keys-served i n k busy e =
    let long : length (map (λ x. x.item) i.delay_line.line.in_flight) ≡ length i.delay_line.line.in_flight = length-map i.delay_line.line.in_flight (λ x. x.item) in
    served-by (map (λ x. x.item) i.delay_line.line.in_flight) (map (λ w. w.item) i.queue.waiting) i.service.busy n k busy (omega (arith, e, long))

one_served : (busy : Option (InService ℕ)) → IsSome busy → length (option_to_list (option_map (λ s. s.item) busy)) ≡ 1
one_served None h = absurd (cc)
one_served (Some s) h = refl

pub keys-waiting : (i : KeyedInstance) (n m k : ℕ) → IsSome i.service.busy → n ≡ length i.delay_line.line.in_flight + 1 + m →
    keys_in (waiting_with m k i) ≡ set (keys_in i) n k
keys-waiting i n m k busy e =
    let line : List ℕ = map (λ x. x.item) i.delay_line.line.in_flight in
    let served : List ℕ = option_to_list (option_map (λ s. s.item) i.service.busy) in
    let ws : List ℕ = map (λ w. w.item) i.queue.waiting in
    let long : length line ≡ length i.delay_line.line.in_flight = length-map i.delay_line.line.in_flight (λ x. x.item) in
    ap (λ l. line ++ served ++ l) (waiting-items i.queue.waiting m k)
    ∙ set_third line served ws n m k (omega (arith, e, long, one_served i.service.busy busy))

pub blank-line : (i : KeyedInstance) (n k : ℕ) → blank (line_with n k i) ≡ blank i
blank-line i n k = λ j. record (blank i) { delay_line = record i.delay_line { line = record i.delay_line.line { in_flight = line-blank i.delay_line.line.in_flight n k j } } }

pub blank-waiting : (i : KeyedInstance) (n k : ℕ) → blank (waiting_with n k i) ≡ blank i
blank-waiting i n k = λ j. record (blank i) { queue = record i.queue { waiting = waiting-blank i.queue.waiting n k j } }
