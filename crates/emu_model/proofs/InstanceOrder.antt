-- What an instance of a pipe does keeps the order of its packets.
use Rattle.std.proofs.Common.{◌≡◌, ℕ, List, [], ◌∷◌, ◌++◌, Bool, true, false, refl, sym, ◌∙◌, ap, subst, Option, Some, None, append_assoc, append-nil}
use Rattle.std.proofs.lemmas.List.{map-append}
use Rattle.std.specs.Prelude.{if◌then◌else◌, is_some, map, option_map, option_to_list}
use Rattle.emu_model.specs.Types.{Packet, PipeConfig, Lost, Full}
use Rattle.emu_model.specs.DropTail.{Queued, accepts}
use Rattle.emu_model.specs.Codel.{Dequeued}
use Rattle.emu_model.specs.Delay.{Line, InFlight, first_item, leave}
use Rattle.emu_model.specs.Pipes.{Instance, InService, After, dequeue, period_with, serve_next, no_drop, drop_one, enqueue, accept, instance_arrive, instance_finish, instance_configure, cut_service, send_off}
use Rattle.emu_model.specs.TraceLaws.{IsSublist}
use Rattle.emu_model.proofs.Sublists.{sub-refl, sub-same, sub-trans, sub-joined, sub-front, sub-back}
use Rattle.emu_model.proofs.Disciplines.{dequeue-cut}

-- numbers of what waits, of what is served, of what is under way
abbrev pub waiting_numbers : List (Queued Packet) → List ℕ
waiting_numbers ws = map (λ w. w.item.number) ws

abbrev pub served_numbers : Option (InService Packet) → List ℕ
served_numbers o = map (λ s. s.item.number) (option_to_list o)

abbrev pub flight_numbers : Instance → List ℕ
flight_numbers i = map (λ x. x.item.number) i.line.in_flight

-- what is in service, and then what waits
abbrev pub inside_numbers : Instance → List ℕ
inside_numbers i = served_numbers i.service ++ waiting_numbers i.waiting

given-numbers : (f : Queued Packet → InService Packet) → ((w : Queued Packet) → (f w).item.number ≡ w.item.number) →
    (o : Option (Queued Packet)) → served_numbers (option_map f o) ≡ waiting_numbers (option_to_list o)
given-numbers f h None = refl
given-numbers f h (Some w) = ap (λ k. k ∷ []) (h w)

-- what is served next and what waits behind it is of what waited
serve_next-order : (config : PipeConfig) (now : ℕ) (i : Instance) →
    IsSublist (inside_numbers (serve_next config now i).state) (waiting_numbers i.waiting)
serve_next-order config now i =
    let d : Dequeued Packet = dequeue config.discipline now i.control i.waiting in
    let served : Queued Packet → InService Packet =
    λ w. record { item = w.item; period = period_with config.bw now w.size i.service } in
    let kept : List (Queued Packet) = option_to_list d.given ++ d.rest in
    sub-trans (inside_numbers (serve_next config now i).state) (waiting_numbers kept) (waiting_numbers i.waiting)
    (sub-same (inside_numbers (serve_next config now i).state) (waiting_numbers kept)
    (ap (λ x. x ++ waiting_numbers d.rest) (given-numbers served (λ w. refl) d.given)
    ∙ sym (map-append (λ w. w.item.number) (option_to_list d.given) d.rest)))
    (subst (IsSublist (waiting_numbers kept))
    (sym (map-append (λ w. w.item.number) d.dropped kept)
    ∙ ap waiting_numbers (sym (dequeue-cut config.discipline now i.control i.waiting).whole))
    (sub-back (waiting_numbers d.dropped) (waiting_numbers kept)))

-- an instance after a packet came: what is under way is the same, and inside are some of those that were,
-- and perhaps the new one
pub record Came (p : Packet) (i j : Instance) : Type 0 where
  pub in_flight : flight_numbers j ≡ flight_numbers i
  pub inside : IsSublist (inside_numbers j) (inside_numbers i ++ p.number ∷ [])

refused-came : (p : Packet) (i : Instance) → Came p i i
refused-came p i = record { in_flight = refl; inside = sub-front (inside_numbers i) (p.number ∷ []) }

enqueued : (now : ℕ) (p : Packet) (i : Instance) →
    waiting_numbers (enqueue now p i).waiting ≡ waiting_numbers i.waiting ++ p.number ∷ []
enqueued now p i = map-append (λ w. w.item.number) i.waiting (record { item = p; size = p.size; stamp = now } ∷ [])

accept-came : (config : PipeConfig) (now : ℕ) (p : Packet) (i : Instance) → Came p i (accept config now p i).state
accept-came config now p i = go i.service refl
  where
    go : (o : Option (InService Packet)) → i.service ≡ o →
        Came p i (if is_some o then no_drop (enqueue now p i) else serve_next config now (enqueue now p i)).state
    go None e = record {
      in_flight = refl;
      inside =
          let next : Instance = (serve_next config now (enqueue now p i)).state in
          subst (IsSublist (inside_numbers next))
          (enqueued now p i ∙ ap (λ o. (served_numbers o ++ waiting_numbers i.waiting) ++ p.number ∷ []) (sym e))
          (serve_next-order config now (enqueue now p i));
    }
    go (Some s) e = record {
      in_flight = refl;
      inside = sub-same (inside_numbers (enqueue now p i)) (inside_numbers i ++ p.number ∷ [])
          (ap (λ x. served_numbers i.service ++ x) (enqueued now p i)
          ∙ sym (append_assoc (served_numbers i.service) (waiting_numbers i.waiting) (p.number ∷ [])));
    }

if-came : (b : Bool) (p : Packet) (i : Instance) (x y : After Instance) → Came p i x.state → Came p i y.state →
    Came p i (if b then x else y).state
if-came true p i x y g h = g
if-came false p i x y g h = h

pub instance_arrive-came : (config : PipeConfig) (now : ℕ) (p : Packet) (lost : Bool) (i : Instance) →
    Came p i (instance_arrive config now p lost i).state
instance_arrive-came config now p lost i =
    if-came lost p i (drop_one i p Lost)
    (if accepts config.queue i.waiting p.size then accept config now p i else drop_one i p Full)
    (refused-came p i)
    (if-came (accepts config.queue i.waiting p.size) p i (accept config now p i) (drop_one i p Full)
    (accept-came config now p i) (refused-came p i))

-- an instance after a finish: what was served is the last under way
pub record Served (i j : Instance) : Type 0 where
  pub in_flight : flight_numbers i ++ served_numbers i.service ≡ flight_numbers j
  pub inside : IsSublist (served_numbers i.service ++ inside_numbers j) (inside_numbers i)

sent_off-numbers : (config : PipeConfig) (now : ℕ) (o : Option (InService Packet)) (l : Line Packet) →
    map (λ x. x.item.number) l.in_flight ++ served_numbers o ≡ map (λ x. x.item.number) (send_off config now o l).in_flight
sent_off-numbers config now None l = append-nil (map (λ x. x.item.number) l.in_flight)
sent_off-numbers config now (Some s) l = sym (map-append (λ x. x.item.number) l.in_flight _)

pub instance_finish-served : (config : PipeConfig) (now : ℕ) (i : Instance) →
    Served i (instance_finish config now i).state
instance_finish-served config now i =
    let sent : Instance = record i { line = send_off config now i.service i.line } in
    record {
      in_flight = sent_off-numbers config now i.service i.line;
      inside = sub-joined (served_numbers i.service) (served_numbers i.service)
          (inside_numbers (serve_next config now sent).state) (waiting_numbers i.waiting)
          (sub-refl (served_numbers i.service)) (serve_next-order config now sent);
    }

-- the first under way leaves
abbrev pub first_number : Option Packet → List ℕ
first_number o = map (λ q. q.number) (option_to_list o)

pub first_left : (l : Line Packet) →
    map (λ x. x.item.number) l.in_flight
    ≡ first_number (first_item l.in_flight) ++ map (λ x. x.item.number) (leave l).in_flight
first_left l = go l.in_flight
  where
    go : (xs : List (InFlight Packet)) → map (λ x. x.item.number) xs
        ≡ first_number (first_item xs) ++ map (λ x. x.item.number) (leave (record l { in_flight = xs })).in_flight
    go [] = refl
    go (x ∷ xs) = refl

pub configured-inside : (old new : PipeConfig) (i : Instance) →
    inside_numbers (instance_configure old new i) ≡ inside_numbers i
configured-inside old new i = ap (λ x. x ++ waiting_numbers i.waiting) (cut i.service)
  where
    cut : (o : Option (InService Packet)) → served_numbers (option_map cut_service o) ≡ served_numbers o
    cut None = refl
    cut (Some s) = refl
