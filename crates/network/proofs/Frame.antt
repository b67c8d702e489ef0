-- What a change in the pipes leaves of the link, and a change in the link of the pipes.
use Rattle.std.proofs.Common.{◌≡◌, ℕ, ◌+◌, ◌<◌, refl, sym, ap, ◌∙◌, List, [], ◌∷◌, ◌++◌, map, arith}
use Rattle.std.specs.Prelude.{unwrap_or}
use Rattle.std.proofs.lemmas.List.{length-append}
use Rattle.emu_model.specs.declared.packets.Packet.{Packet}
use Rattle.emu_model.specs.Delay.{Line, InFlight}
use Rattle.link_core.specs.Lane.{Lane}
use Rattle.packet_store.specs.Pocket.{Pocket}
use Rattle.pipe_core.specs.Uses.{uses}
use Rattle.pipe_core.specs.KeyedInstance.{seen_leaving, seen_line}
use Rattle.pipe_core.specs.Moves.{some_packet, packet_at, found, AreNamed, Keeps}
use Rattle.pipe_core.specs.Keyed.{KeyedPipe, keys_of}
use Rattle.pipe_core.specs.Views.{ViewsAgree}
use Rattle.pipe_table.specs.Table.{Table, seen_pipes, with_pipes, pipe_keys}
use Rattle.network.specs.Kept.{KeptNet, net_of, line_keys, IsHoused}
use Rattle.network.proofs.KeyCounts.{uses-cons, uses-append, one_at-same, found-le, found-some}

-- names that agree on the keys of a line show it alike
in_flight-agrees : (f g : ℕ → Packet) (xs : List (InFlight ℕ)) →
    ((k : ℕ) → 0 < uses k (map (λ x. x.item) xs) → g k ≡ f k) → map (seen_leaving g) xs ≡ map (seen_leaving f) xs
in_flight-agrees f g [] same = refl
in_flight-agrees f g (x ∷ xs) same = λ i.
    record { item = same x.item (omega (arith, uses-cons x.item x.item (map (λ (y : InFlight ℕ). y.item) xs), one_at-same x.item)) i; exit = x.exit }
    ∷ in_flight-agrees f g xs (λ k within. same k (omega (arith, within, uses-cons k x.item (map (λ (y : InFlight ℕ). y.item) xs)))) i

pub line-agrees : (f g : ℕ → Packet) (l : Line ℕ) → ((k : ℕ) → 0 < uses k (line_keys l) → g k ≡ f k) → seen_line g l ≡ seen_line f l
line-agrees f g l same = λ i. record { in_flight = in_flight-agrees f g l.in_flight same i; last = l.last }

keys-cons : (p : KeyedPipe) (ps : List KeyedPipe) → pipe_keys (p ∷ ps) ≡ keys_of p.slots ++ pipe_keys ps
unfolding pipe_keys
keys-cons p ps = refl

pub uses-pipes : (k : ℕ) (p : KeyedPipe) (ps : List KeyedPipe) → uses k (pipe_keys (p ∷ ps)) ≡ uses k (keys_of p.slots) + uses k (pipe_keys ps)
uses-pipes k p ps = ap (uses k) (keys-cons p ps) ∙ uses-append k (keys_of p.slots) (pipe_keys ps)

-- names that agree on the keys of the pipes show them alike
pub pipes-agree : ViewsAgree → (f g : ℕ → Packet) (ps : List KeyedPipe) → ((k : ℕ) → 0 < uses k (pipe_keys ps) → g k ≡ f k) →
    seen_pipes g ps ≡ seen_pipes f ps
pipes-agree agree f g [] same = refl
pipes-agree agree f g (p ∷ ps) same = λ i.
    agree f g p (λ k within. same k (omega (arith, within, uses-pipes k p ps))) i
    ∷ pipes-agree agree f g ps (λ k within. same k (omega (arith, within, uses-pipes k p ps))) i

-- the pipes' keys are named
pub pipes-named : (p : Pocket) (n : KeptNet) → IsHoused p n → AreNamed p (pipe_keys n.table.pipes)
pipes-named p n h = record {
  each = λ k. omega (arith, h.each k, uses-append k (line_keys n.direct.line) (pipe_keys n.table.pipes));
  within = omega (arith, h.count, length-append (line_keys n.direct.line) (pipe_keys n.table.pipes));
}

-- a name that stays
kept-name : (p q : Pocket) (old new : List ℕ) (k : ℕ) → Keeps p q old new → 0 < found (p.find k) → uses k old ≡ 0 → packet_at q.find k ≡ packet_at p.find k
kept-name p q old new k keeps there none = ap (λ o. unwrap_or o some_packet) (keeps.kept k none (found-some (p.find k) there))

module _ (p q : Pocket) (n : KeptNet) (t : Table) (h : IsHoused p n) (keeps : Keeps p q (pipe_keys n.table.pipes) (pipe_keys t.pipes)) where
  pub line-stays : seen_line (packet_at q.find) n.direct.line ≡ seen_line (packet_at p.find) n.direct.line
  line-stays = line-agrees (packet_at p.find) (packet_at q.find) n.direct.line (λ k within.
      kept-name p q (pipe_keys n.table.pipes) (pipe_keys t.pipes) k keeps
      (omega (arith, within, h.each k, uses-append k (line_keys n.direct.line) (pipe_keys n.table.pipes)))
      (omega (arith, within, h.each k, uses-append k (line_keys n.direct.line) (pipe_keys n.table.pipes), found-le (p.find k))))

  pub pipes-housed : IsHoused q (record n { table = t })
  pipes-housed = record {
    each = λ k. omega (
      arith,
      h.each k,
      keeps.balance k,
      uses-append k (line_keys n.direct.line) (pipe_keys n.table.pipes),
      uses-append k (line_keys n.direct.line) (pipe_keys t.pipes),
    );
    count = omega (
      arith,
      h.count,
      keeps.count,
      length-append (line_keys n.direct.line) (pipe_keys n.table.pipes),
      length-append (line_keys n.direct.line) (pipe_keys t.pipes),
    );
  }

  pub pipes-shown : with_pipes q t (net_of p n) ≡ net_of q (record n { table = t })
  pipes-shown = λ i. record (net_of q (record n { table = t })) { direct = sym line-stays i }

module _ (agree : ViewsAgree) (p q : Pocket) (n : KeptNet) (l : Lane ℕ) (h : IsHoused p n)
    (keeps : Keeps p q (line_keys n.direct.line) (line_keys l.line)) where
  pub pipes-stay : seen_pipes (packet_at q.find) n.table.pipes ≡ seen_pipes (packet_at p.find) n.table.pipes
  pipes-stay = pipes-agree agree (packet_at p.find) (packet_at q.find) n.table.pipes (λ k within.
      kept-name p q (line_keys n.direct.line) (line_keys l.line) k keeps
      (omega (arith, within, h.each k, uses-append k (line_keys n.direct.line) (pipe_keys n.table.pipes)))
      (omega (arith, within, h.each k, uses-append k (line_keys n.direct.line) (pipe_keys n.table.pipes), found-le (p.find k))))

  pub direct-housed : IsHoused q (record n { direct = l })
  direct-housed = record {
    each = λ k. omega (
      arith,
      h.each k,
      keeps.balance k,
      uses-append k (line_keys n.direct.line) (pipe_keys n.table.pipes),
      uses-append k (line_keys l.line) (pipe_keys n.table.pipes),
    );
    count = omega (
      arith,
      h.count,
      keeps.count,
      length-append (line_keys n.direct.line) (pipe_keys n.table.pipes),
      length-append (line_keys l.line) (pipe_keys n.table.pipes),
    );
  }

  pub direct-shown : (m : Line Packet) → seen_line (packet_at q.find) l.line ≡ m →
      net_of q (record n { direct = l }) ≡ record (net_of p n) { direct = m }
  direct-shown m e = λ i. record (net_of p n) { pipes = pipes-stay i; direct = e i }
