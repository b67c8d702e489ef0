-- Each packet is conserved by itself: its number is weighed 1, and all others 0.
use Rattle.std.proofs.Common.{◌≡◌, ℕ, zero, suc, ◌+◌, ◌≤◌, ◌<◌, List, [], ◌∷◌, Bool, true, false, refl, sym, ◌∙◌, ap, inl, inr, arith}
use Rattle.std.specs.Prelude.{◌⊎◌, nat_lt, map, sum_by, count_by, flat_map, ◌==◌}
use Rattle.std.proofs.lemmas.List.Sums.{sum_by-cons, sum_by-append}
use Rattle.std.proofs.lemmas.Bool.{eq-eqb, ne_eqb, cases_eq, ltb-true, ltb-false}
use Rattle.emu_model.specs.Types.{Packet, Record, PacketDelivered, PacketDropped}
use Rattle.emu_model.specs.Pipes.{pipe_packets}
use Rattle.emu_model.specs.Net.{Net}
use Rattle.emu_model.specs.Alone.{alone}
use Rattle.emu_model.specs.TraceLaws.{delivers, drops, held_packets, once_made, EachPacketOnce}
use Rattle.emu_model.proofs.Sums.{sum_some, sum-of-map, sum-of-flat_map, sum-same}
use Rattle.emu_model.proofs.Numbers.{one_if, count-cons}
use Rattle.emu_model.proofs.PacketsKept.{flown}
use Rattle.emu_model.proofs.PipeKeeping.{load, load_is}
use Rattle.emu_model.proofs.Conserved.{total, weight, gone, balance, Balanced, balanced}

-- 1 for number k
abbrev pub one_at : ℕ → ℕ → ℕ
one_at k j = one_if (j == k)

pub here : (j k : ℕ) → j ≡ k → one_at k j ≡ 1
here j k e = ap (λ i. one_at i j) (sym e) ∙ ap one_if (eq-eqb j j refl)

pub elsewhere : (j k : ℕ) → (j ≡ k → ⊥) → one_at k j ≡ 0
elsewhere j k h = ap one_if (ne_eqb j k h)

-- a number from m on is none of the first m
pub none_below : (k m : ℕ) → m ≤ k → total (one_at k) m ≡ 0
unfolding total
none_below k zero h = refl
none_below k (suc m) h =
    omega (arith, none_below k m (omega arith), elsewhere m k (λ e. omega (arith, e)))

-- a number below m is one of the first m, once
pub one_below : (k m : ℕ) → k < m → total (one_at k) m ≡ 1
unfolding total
one_below k zero h = absurd (omega arith)
one_below k (suc m) h = go (cases_eq m k) (λ b. one_below k m b)
  where
    go : (m ≡ k) ⊎ (m ≡ k → ⊥) → (k < m → total (one_at k) m ≡ 1) → total (one_at k) m + one_at k m ≡ 1
    go (inl e) later = omega (arith, none_below k m (omega (arith, e)), here m k e)
    go (inr e) later = omega (arith, later (omega (arith, e)), elsewhere m k e)

pub once : (k : ℕ) (n : Net) → total (one_at k) n.made ≡ once_made k n
once k n = go (nat_lt k n.made) refl
  where
    go : (b : Bool) → nat_lt k n.made ≡ b → total (one_at k) n.made ≡ one_if b
    go true e = one_below k n.made (ltb-true k n.made e)
    go false e = none_below k n.made (ltb-false k n.made e)

-- a record is weighed by whether it delivers or drops packet k
weighed : (k : ℕ) (r : Record) → weight (one_at k) r ≡ one_if (delivers k r) + one_if (drops k r)
unfolding weight
weighed k (PacketDelivered m p l) = omega arith
weighed k (PacketDropped m p l c) = omega arith
weighed k _ = refl

counted : (k : ℕ) (rs : List Record) → gone (one_at k) rs ≡ count_by (delivers k) rs + count_by (drops k) rs
unfolding gone
counted k [] = refl
counted k (r ∷ rs) =
    omega (
      arith,
      sum_by-cons (weight (one_at k)) r rs,
      count-cons (delivers k) r rs,
      count-cons (drops k) r rs,
      weighed k r,
      counted k rs,
    )

held-counted : (k : ℕ) (n : Net) → count_by (λ p. p.number == k) (held_packets n)
    ≡ flown (one_at k) n.direct.in_flight + sum_by (load (one_at k)) n.pipes
unfolding flown
held-counted k n =
    let f : Packet → ℕ = λ p. one_at k p.number in
    omega (
      arith,
      sum_by-append f (map (λ x. x.item) n.direct.in_flight) (flat_map pipe_packets n.pipes),
      sum-of-map f (λ x. x.item) n.direct.in_flight,
      sum-of-flat_map f pipe_packets n.pipes,
      sum-same (λ p. sum_by f (pipe_packets p)) (load (one_at k)) (load_is (one_at k)) n.pipes,
    )

pub each_packet_once : EachPacketOnce
unfolding Balanced balance sum_some
each_packet_once spec c n k =
    let net : Net = (alone spec c n).net in
    omega (
      arith,
      balanced (one_at k) spec c n,
      once k net,
      counted k net.records,
      held-counted k net,
    )
