-- A dequeue cuts what waits in three: what is dropped, what is given, and what still waits.
use Rattle.std.proofs.Common.{◌≡◌, ℕ, ◌+◌, ◌<◌, ◌≤◌, ◌∙◌, ap, sym, refl, Option, Some, None, List, [], ◌∷◌, ◌++◌, length, take, drop, get_or, arith}
use Rattle.std.specs.Prelude.{option_to_list, MatchOption}
use Rattle.std.proofs.lemmas.List.{take_more, take_at, drop_at, get_or-drop, length-drop, length-append, append_assoc, drop-drop}
use Rattle.emu_model.specs.declared.pipes.QueueLimit.{QueueLimit}
use Rattle.queue_disc.specs.Queues.{TailQueue}
use Rattle.emu_model.specs.DropTail.{Queued}
use Rattle.emu_model.specs.Codel.{CodelState, Dequeued}
use Rattle.emu_model.proofs.CallerLemmas.{IsCut}

-- no more is dropped than waits
pub dropped-le : {A : Type 0} (ws : List (Queued A)) (d : Dequeued A) → IsCut ws d → length d.dropped ≤ length ws
dropped-le ws d h =
    omega (arith, ap length h.whole, length-append d.dropped (option_to_list d.given ++ d.rest))

-- the head of what is left once the dropped are gone, and what is behind it
left-is : {A : Type 0} (given goal : Option (Queued A)) (rest ends left : List (Queued A)) →
    left ≡ option_to_list goal ++ ends → (goal ≡ None → ends ≡ []) →
    MatchOption given (left ≡ []) (λ w. left ≡ w ∷ rest) → rest ≡ drop 1 left →
    (given ≡ goal) × (rest ≡ ends)
left-is None None rest ends left e none m r = (refl, r ∙ ap (λ vs. drop 1 vs) m ∙ sym (none refl))
left-is None (Some w) rest ends left e none m r = absurd (cc)
left-is (Some v) None rest ends left e none m r = let nil = none refl in absurd (cc)
left-is (Some v) (Some w) rest ends left e none m r = (cc, cc)

-- to take as many as are dropped, and then the head, is the dequeue
pub taken-is : {A : Type 0} (ws : List (Queued A)) (d : Dequeued A) (n : ℕ) (control : CodelState) (dropped : List (Queued A)) (given : Option (Queued A)) (rest left : List (Queued A)) →
    IsCut ws d → n ≡ length d.dropped → control ≡ d.control → dropped ≡ take n ws → left ≡ drop n ws →
    MatchOption given (left ≡ []) (λ w. left ≡ w ∷ rest) → rest ≡ drop 1 left →
    (let r : Dequeued A = record { dropped = dropped; given = given; rest = rest; control = control } in r) ≡ d
taken-is ws d n control dropped given rest left h e f t l m r =
    let front : dropped ≡ d.dropped =
    t ∙ ap (λ vs. take n vs) h.whole ∙ take_at d.dropped (option_to_list d.given ++ d.rest) n (sym e) in
    let back : left ≡ option_to_list d.given ++ d.rest =
    l ∙ ap (λ vs. drop n vs) h.whole ∙ drop_at d.dropped (option_to_list d.given ++ d.rest) n (sym e) in
    let ends = left-is given d.given rest d.rest left back h.last m r in
    λ i. record { dropped = front i; given = ends.0 i; rest = ends.1 i; control = f i }

-- where the list is cut, one more comes to the front part
take_next : {A : Type 0} (ws : List A) (k : ℕ) (w : A) (rest : List A) → drop k ws ≡ w ∷ rest →
    take (k + 1) ws ≡ take k ws ++ w ∷ []
take_next ws k w rest e =
    let inside : k < length ws = omega (arith, ap length e, length-drop k ws) in
    let here : get_or ws (k + 0) w ≡ w = sym (get_or-drop k ws 0 w) ∙ ap (λ vs. get_or vs 0 w) e in
    let place : k + 0 ≡ k = omega arith in
    take_more ws k w inside ∙ ap (λ v. take k ws ++ v ∷ []) (ap (λ n. get_or ws n w) (sym place) ∙ here)

pub list_more : {A : Type 0} (first ws list more : List A) (k : ℕ) (w : A) (rest : List A) →
    list ≡ first ++ take k ws → more ≡ list ++ w ∷ [] → drop k ws ≡ w ∷ rest →
    more ≡ first ++ take (k + 1) ws
list_more first ws list more k w rest e f h =
    f ∙ ap (λ xs. xs ++ w ∷ []) e ∙ append_assoc first (take k ws) (w ∷ [])
    ∙ ap (λ xs. first ++ xs) (sym (take_next ws k w rest h))

pub rest_more : {A : Type 0} (limit : QueueLimit) (capacity : ℕ) (ws : List (Queued A)) (k : ℕ) (q r : TailQueue A) →
    q ≡ record { limit = limit; waiting = drop k ws; capacity = capacity } →
    r ≡ record q { waiting = drop 1 q.waiting } →
    r ≡ record { limit = limit; waiting = drop (k + 1) ws; capacity = capacity }
rest_more limit capacity ws k q r e f =
    let more : drop 1 (drop k ws) ≡ drop (k + 1) ws = drop-drop 1 k ws in
    let next = ap (λ p. drop 1 p.waiting) e ∙ more in
    f ∙ (λ i. record { limit = (e i).limit; waiting = next i; capacity = (e i).capacity })
