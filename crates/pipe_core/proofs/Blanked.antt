-- For the crates above: instances that differ in their keys alone.
use Rattle.std.proofs.Common.{◌≡◌, ℕ, zero, suc, ◌∙◌, ap, sym, refl, Option, Some, None, List, [], ◌∷◌, ◌++◌, map, length, set, append_assoc, arith}
use Rattle.std.specs.Prelude.{option_map, option_to_list}
use Rattle.std.proofs.lemmas.List.{map-append, length-map, length-append}
use Rattle.emu_model.specs.declared.packets.Packet.{Packet}
use Rattle.emu_model.specs.FlowIds.{FlowId}
use Rattle.emu_model.specs.DropTail.{Queued}
use Rattle.emu_model.specs.Delay.{InFlight, Line}
use Rattle.link_core.specs.Flight.{with_item as with_leaving}
use Rattle.emu_model.specs.Pipes.{InService}
use Rattle.pipe_core.specs.KeyedInstance.{KeyedInstance, seen_waiting, seen_leaving, seen_line, seen_service, seen_instance, keys_in}
use Rattle.pipe_core.specs.Blanks.{blank, blank_line, blank_waiting, blank_leaving, blank_service}

-- two lists after each other, of the same lengths
pub split_alike : {A : Type 0} (xs ys vs ws : List A) → length vs ≡ length xs → vs ++ ws ≡ xs ++ ys → (vs ≡ xs) × (ws ≡ ys)
split_alike [] ys [] ws long e = (refl, e)
split_alike [] ys (v ∷ vs) ws long e = absurd (omega (arith, long))
split_alike (x ∷ xs) ys [] ws long e = absurd (omega (arith, long))
split_alike {A} (x ∷ xs) ys (v ∷ vs) ws long e =
    let first : v ≡ x = cc in
    let rest : vs ++ ws ≡ xs ++ ys = cc in
    let parts = split_alike xs ys vs ws (omega (arith, long)) rest in ((λ i. first i ∷ parts.0 i), parts.1)

in_flight-same : (f g : ℕ → Packet) (xs ys : List (InFlight ℕ)) → map blank_leaving ys ≡ map blank_leaving xs →
    map g (map (λ x. x.item) ys) ≡ map f (map (λ x. x.item) xs) → map (seen_leaving g) ys ≡ map (seen_leaving f) xs
in_flight-same f g [] [] same shown = refl
in_flight-same f g [] (y ∷ ys) same shown = absurd (cc)
in_flight-same f g (x ∷ xs) [] same shown = absurd (cc)
in_flight-same f g (x ∷ xs) (y ∷ ys) same shown =
    let head : blank_leaving y ≡ blank_leaving x = cc in
    let rest : map blank_leaving ys ≡ map blank_leaving xs = cc in
    let item : g y.item ≡ f x.item = cc in
    let more : map g (map (λ x. x.item) ys) ≡ map f (map (λ x. x.item) xs) = cc in
    λ i. record { item = item i; exit = (head i).exit } ∷ in_flight-same f g xs ys rest more i

waiting-same : (f g : ℕ → Packet) (xs ys : List (Queued ℕ)) → map blank_waiting ys ≡ map blank_waiting xs →
    map g (map (λ x. x.item) ys) ≡ map f (map (λ x. x.item) xs) → map (seen_waiting g) ys ≡ map (seen_waiting f) xs
waiting-same f g [] [] same shown = refl
waiting-same f g [] (y ∷ ys) same shown = absurd (cc)
waiting-same f g (x ∷ xs) [] same shown = absurd (cc)
waiting-same f g (x ∷ xs) (y ∷ ys) same shown =
    let head : blank_waiting y ≡ blank_waiting x = cc in
    let rest : map blank_waiting ys ≡ map blank_waiting xs = cc in
    let item : g y.item ≡ f x.item = cc in
    let more : map g (map (λ x. x.item) ys) ≡ map f (map (λ x. x.item) xs) = cc in
    λ i. record { item = item i; size = (head i).size; stamp = (head i).stamp } ∷ waiting-same f g xs ys rest more i

served-same : (f g : ℕ → Packet) (b d : Option (InService ℕ)) → option_map blank_service d ≡ option_map blank_service b →
    map g (option_to_list (option_map (λ s. s.item) d)) ≡ map f (option_to_list (option_map (λ s. s.item) b)) →
    option_map (seen_service g) d ≡ option_map (seen_service f) b
served-same f g None None same shown = refl
served-same f g None (Some t) same shown = absurd (cc)
served-same f g (Some s) None same shown = absurd (cc)
served-same f g (Some s) (Some t) same shown =
    let head : blank_service t ≡ blank_service s = cc in
    let item : g t.item ≡ f s.item = cc in
    λ i. Some (record { item = item i; period = (head i).period })

-- a delay line that differs in its keys alone shows the same, where they name the same
pub seen_line-same : (f g : ℕ → Packet) (old new : Line ℕ) → blank_line new ≡ blank_line old →
    map g (map (λ x. x.item) new.in_flight) ≡ map f (map (λ x. x.item) old.in_flight) → seen_line g new ≡ seen_line f old
seen_line-same f g old new same shown =
    λ i. record { in_flight = in_flight-same f g old.in_flight new.in_flight (ap (λ (l : Line ℕ). l.in_flight) same) shown i; last = (same i).last }

served-long : (b d : Option (InService ℕ)) → option_map blank_service d ≡ option_map blank_service b →
    length (option_to_list (option_map (λ s. s.item) d)) ≡ length (option_to_list (option_map (λ s. s.item) b))
served-long None None same = refl
served-long None (Some t) same = absurd (cc)
served-long (Some s) None same = absurd (cc)
served-long (Some s) (Some t) same = refl

in_flight-long : (xs ys : List (InFlight ℕ)) → map blank_leaving ys ≡ map blank_leaving xs →
    length (map (λ x. x.item) ys) ≡ length (map (λ x. x.item) xs)
in_flight-long xs ys same = omega (
  arith,
  ap length same,
  length-map ys blank_leaving,
  length-map xs blank_leaving,
  length-map xs (λ x. x.item),
  length-map ys (λ x. x.item),
)

waiting-long : (xs ys : List (Queued ℕ)) → map blank_waiting ys ≡ map blank_waiting xs →
    length (map (λ x. x.item) ys) ≡ length (map (λ x. x.item) xs)
waiting-long xs ys same = omega (
  arith,
  ap length same,
  length-map ys blank_waiting,
  length-map xs blank_waiting,
  length-map xs (λ x. x.item),
  length-map ys (λ x. x.item),
)

-- three lists after each other, of the same lengths, put through names
three_alike : (f g : ℕ → Packet) (xs ys zs us vs ws : List ℕ) → length us ≡ length xs → length vs ≡ length ys →
    map g (us ++ vs ++ ws) ≡ map f (xs ++ ys ++ zs) →
    (map g us ≡ map f xs) × (map g vs ≡ map f ys) × (map g ws ≡ map f zs)
three_alike f g xs ys zs us vs ws a b e =
    let whole : (map g us ++ map g vs) ++ map g ws ≡ (map f xs ++ map f ys) ++ map f zs =
    ap (λ l. l ++ map g ws) (sym (map-append g us vs)) ∙ sym (map-append g (us ++ vs) ws) ∙ e
    ∙ map-append f (xs ++ ys) zs ∙ ap (λ l. l ++ map f zs) (map-append f xs ys) in
    let front : map g us ++ (map g vs ++ map g ws) ≡ map f xs ++ (map f ys ++ map f zs) =
    sym (append_assoc (map g us) (map g vs) (map g ws)) ∙ whole ∙ append_assoc (map f xs) (map f ys) (map f zs) in
    let first = split_alike (map f xs) (map f ys ++ map f zs) (map g us) (map g vs ++ map g ws) (omega (arith, a, length-map us g, length-map xs f)) front in
    let second = split_alike (map f ys) (map f zs) (map g vs) (map g ws) (omega (arith, b, length-map vs g, length-map ys f)) first.1 in
    (first.0, second.0, second.1)

-- an instance that differs in its keys alone shows the same, where they name the same
pub seen_instance-same : (f g : ℕ → Packet) (id : FlowId) (old new : KeyedInstance) → blank new ≡ blank old →
    map g (keys_in new) ≡ map f (keys_in old) → seen_instance g id new ≡ seen_instance f id old
seen_instance-same f g id old new same shown =
    let line : blank_line new.delay_line.line ≡ blank_line old.delay_line.line = ap (λ (i : KeyedInstance). i.delay_line.line) same in
    let busy : option_map blank_service new.service.busy ≡ option_map blank_service old.service.busy =
    ap (λ (i : KeyedInstance). i.service.busy) same in
    let ws : map blank_waiting new.queue.waiting ≡ map blank_waiting old.queue.waiting = ap (λ (i : KeyedInstance). i.queue.waiting) same in
    let parts = three_alike f g (map (λ x. x.item) old.delay_line.line.in_flight) (option_to_list (option_map (λ s. s.item) old.service.busy)) (map (λ w. w.item) old.queue.waiting)
    (map (λ x. x.item) new.delay_line.line.in_flight) (option_to_list (option_map (λ s. s.item) new.service.busy)) (map (λ w. w.item) new.queue.waiting)
    (in_flight-long old.delay_line.line.in_flight new.delay_line.line.in_flight (ap (λ (l : Line ℕ). l.in_flight) line)) (served-long old.service.busy new.service.busy busy) shown in
    λ i. record {
      id = id;
      waiting = waiting-same f g old.queue.waiting new.queue.waiting ws parts.2 i;
      control = (same i).queue.control;
      service = served-same f g old.service.busy new.service.busy busy parts.1 i;
      line = seen_line-same f g old.delay_line.line new.delay_line.line line parts.0 i;
      drawn = (same i).draws.drawn;
    }

-- another key at a place of a delay line
pub line-items : (xs : List (InFlight ℕ)) (n k : ℕ) → map (λ x. x.item) (with_leaving xs n k) ≡ set (map (λ x. x.item) xs) n k
line-items [] n k = refl
line-items (x ∷ xs) zero k = refl
line-items (x ∷ xs) (suc n) k = ap (λ l. x.item ∷ l) (line-items xs n k)

pub line-blank : (xs : List (InFlight ℕ)) (n k : ℕ) → map blank_leaving (with_leaving xs n k) ≡ map blank_leaving xs
line-blank [] n k = refl
line-blank (x ∷ xs) zero k = refl
line-blank (x ∷ xs) (suc n) k = ap (λ (l : List (InFlight ℕ)). blank_leaving x ∷ l) (line-blank xs n k)

-- an instance that differs in its keys alone holds as many
pub keys_in-long : (old new : KeyedInstance) → blank new ≡ blank old → length (keys_in new) ≡ length (keys_in old)
keys_in-long old new same =
    let line : List ℕ = map (λ x. x.item) old.delay_line.line.in_flight in
    let served : List ℕ = option_to_list (option_map (λ s. s.item) old.service.busy) in
    let ws : List ℕ = map (λ w. w.item) old.queue.waiting in
    let new_line : List ℕ = map (λ x. x.item) new.delay_line.line.in_flight in
    let new_served : List ℕ = option_to_list (option_map (λ s. s.item) new.service.busy) in
    let new_ws : List ℕ = map (λ w. w.item) new.queue.waiting in
    omega (
      arith,
      in_flight-long old.delay_line.line.in_flight new.delay_line.line.in_flight (ap (λ (i : KeyedInstance). i.delay_line.line.in_flight) same),
      served-long old.service.busy new.service.busy (ap (λ (i : KeyedInstance). i.service.busy) same),
      waiting-long old.queue.waiting new.queue.waiting (ap (λ (i : KeyedInstance). i.queue.waiting) same),
      length-append (line ++ served) ws,
      length-append line served,
      length-append (new_line ++ new_served) new_ws,
      length-append new_line new_served,
    )
