-- A packet enters the link of `allow`, and leaves it.
use Rattle.std.proofs.Common.{◌≡◌, ℕ, ◌≤◌, sym, ap, ◌∙◌, subst, List, [], ◌∷◌, ◌++◌, length, map, Some, None, IsSome, arith}
use Rattle.std.specs.Prelude.{unwrap_or}
use Rattle.std.proofs.lemmas.List.{length-append, length-map, map-append}
use Rattle.emu_model.specs.declared.packets.Packet.{Packet}
use Rattle.emu_model.specs.Delay.{Line, InFlight, enter, leave, exit_after, first_item}
use Rattle.packet_store.specs.Pocket.{Pocket, with_packet, without}
use Rattle.pipe_core.specs.Uses.{uses, one_at}
use Rattle.pipe_core.specs.KeyedInstance.{seen_leaving, seen_line}
use Rattle.pipe_core.specs.Moves.{some_packet, packet_at, found, Keeps}
use Rattle.pipe_table.specs.Table.{pipe_keys}
use Rattle.network.specs.Kept.{KeptNet, line_keys, IsHoused}
use Rattle.network.proofs.KeyCounts.{uses-cons, uses-append, at_same, at_other, one_at-same, found-le, found-some, Keeps-put, Keeps-first}
use Rattle.network.proofs.Frame.{line-agrees}

entered-keys : (key now : ℕ) (l : Line ℕ) → line_keys (enter key now 0 l) ≡ line_keys l ++ key ∷ []
entered-keys key now l = map-append (λ (x : InFlight ℕ). x.item) l.in_flight (record { item = key; exit = exit_after l.last now 0 } ∷ [])

-- a packet that entered the line
module _ (p q : Pocket) (n : KeptNet) (key now : ℕ) (packet : Packet) (h : IsHoused p n) (none : p.find key ≡ None) (put : q ≡ with_packet p key packet) where
  pub enter-keeps : Keeps p q (line_keys n.direct.line) (line_keys (enter key now 0 n.direct.line))
  enter-keeps = Keeps-put p q key packet (line_keys n.direct.line) (line_keys (enter key now 0 n.direct.line)) none put
      (entered-keys key now n.direct.line)

  named-packet : packet_at q.find key ≡ packet
  named-packet = ap (λ (r : Pocket). packet_at r.find key) put ∙ ap (λ o. unwrap_or o some_packet) (at_same key (Some packet) (p.find key))

  same-line : seen_line (packet_at q.find) n.direct.line ≡ seen_line (packet_at p.find) n.direct.line
  same-line = line-agrees (packet_at p.find) (packet_at q.find) n.direct.line (λ k within.
      ap (λ (r : Pocket). packet_at r.find k) put
      ∙ ap (λ o. unwrap_or o some_packet) (at_other k key (Some packet) (p.find k) (λ same.
      omega (arith, within, h.each k, uses-append k (line_keys n.direct.line) (pipe_keys n.table.pipes), ap (λ j. found (p.find j)) same, ap found none))))

  pub enter-seen : seen_line (packet_at q.find) (enter key now 0 n.direct.line) ≡ enter packet now 0 (seen_line (packet_at p.find) n.direct.line)
  enter-seen = λ i. record { in_flight = flights i; last = exit_after n.direct.line.last now 0 }
    where
      flights : (seen_line (packet_at q.find) (enter key now 0 n.direct.line)).in_flight ≡ (enter packet now 0 (seen_line (packet_at p.find) n.direct.line)).in_flight
      flights =
          map-append (seen_leaving (packet_at q.find)) n.direct.line.in_flight (record { item = key; exit = exit_after n.direct.line.last now 0 } ∷ [])
          ∙ (λ i. (same-line i).in_flight ++ record { item = named-packet i; exit = exit_after n.direct.line.last now 0 } ∷ [])

-- a packet that left
pub record Leaves (p q : Pocket) (n : KeptNet) (key : ℕ) (packet : Packet) : Type 0 where
  pub keeps : Keeps p q (line_keys n.direct.line) (line_keys (leave n.direct.line))
  pub first : first_item (seen_line (packet_at p.find) n.direct.line).in_flight ≡ Some packet
  pub seen : seen_line (packet_at q.find) (leave n.direct.line) ≡ leave (seen_line (packet_at p.find) n.direct.line)

leaves-by : (p q : Pocket) (n : KeptNet) (in_flight : List (InFlight ℕ)) (key : ℕ) (packet : Packet) →
    ((k : ℕ) → uses k (map (λ x. x.item) in_flight) ≤ found (p.find k)) → length in_flight ≤ p.count →
    first_item in_flight ≡ Some key → p.find key ≡ Some packet → q ≡ without p key →
    (Keeps p q (map (λ x. x.item) in_flight) (map (λ x. x.item) (leave (record n.direct.line { in_flight = in_flight })).in_flight))
    × (first_item (map (seen_leaving (packet_at p.find)) in_flight) ≡ Some packet)
    × (seen_line (packet_at q.find) (leave (record n.direct.line { in_flight = in_flight })) ≡ leave (seen_line (packet_at p.find) (record n.direct.line { in_flight = in_flight })))
leaves-by p q n [] key packet each counted first value taken = absurd (cc)
leaves-by p q n (x ∷ xs) key packet each counted first value taken =
    let here : x.item ≡ key = cc in
    let there : p.find x.item ≡ Some packet = ap p.find here ∙ value in
    let away : q ≡ without p x.item = taken ∙ ap (without p) (sym here) in
    let keys : List ℕ = map (λ (y : InFlight ℕ). y.item) xs in (
      Keeps-first p q x.item keys (record { each = each; within = omega (arith, counted, length-map xs (λ (y : InFlight ℕ). y.item)) }) away,
      ap (λ o. Some (unwrap_or o some_packet)) there,
      line-agrees (packet_at p.find) (packet_at q.find) (record { in_flight = xs; last = n.direct.line.last }) (λ k within.
          ap (λ (r : Pocket). packet_at r.find k) away
          ∙ ap (λ o. unwrap_or o some_packet) (at_other k x.item None (p.find k) (λ same.
          omega (arith, within, each k, uses-cons k x.item keys, ap (one_at k) (sym same), one_at-same k, found-le (p.find k))))),
    )

pub leaves : (p q : Pocket) (n : KeptNet) (key : ℕ) (packet : Packet) → IsHoused p n →
    first_item n.direct.line.in_flight ≡ Some key → p.find key ≡ Some packet → q ≡ without p key → Leaves p q n key packet
leaves p q n key packet h first value taken =
    let all = leaves-by p q n n.direct.line.in_flight key packet
    (λ k. omega (arith, h.each k, uses-append k (line_keys n.direct.line) (pipe_keys n.table.pipes)))
    (omega (arith, h.count, length-append (line_keys n.direct.line) (pipe_keys n.table.pipes), length-map n.direct.line.in_flight (λ (x : InFlight ℕ). x.item)))
    first value taken in
    record { keeps = all.0; first = all.1; seen = all.2 }

-- what leaves first is there
pub front-there : (p : Pocket) (n : KeptNet) (key : ℕ) → IsHoused p n → first_item n.direct.line.in_flight ≡ Some key → IsSome (p.find key)
front-there p n key h first = go n.direct.line.in_flight first
    (λ k. omega (arith, h.each k, uses-append k (line_keys n.direct.line) (pipe_keys n.table.pipes)))
  where
    go : (in_flight : List (InFlight ℕ)) → first_item in_flight ≡ Some key → ((k : ℕ) → uses k (map (λ x. x.item) in_flight) ≤ found (p.find k)) → IsSome (p.find key)
    go [] e each = absurd (cc)
    go (x ∷ xs) e each =
        let here : x.item ≡ key = cc in
        subst (λ k. IsSome (p.find k)) here
        (found-some (p.find x.item) (omega (arith, each x.item, uses-cons x.item x.item (map (λ (y : InFlight ℕ). y.item) xs), one_at-same x.item)))
