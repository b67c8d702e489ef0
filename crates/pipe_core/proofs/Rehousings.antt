-- For the crates above: packets that move from one shelf to another, some and then others.
use Rattle.std.proofs.Common.{◌≡◌, ℕ, refl, sym, ap, ◌∙◌, subst, List, [], ◌∷◌, ◌++◌, map, Some, None, IsSome, arith}
use Rattle.std.specs.Prelude.{unwrap_or}
use Rattle.std.proofs.lemmas.List.{map-append, length-append}
use Rattle.emu_model.specs.declared.packets.Packet.{Packet}
use Rattle.emu_model.specs.Delay.{Line}
use Rattle.packet_store.specs.Pocket.{Pocket, with_packet, without}
use Rattle.pipe_core.specs.Uses.{one_at}
use Rattle.pipe_core.specs.KeyedInstance.{seen_line}
use Rattle.pipe_core.proofs.Blanked.{seen_line-same}
use Rattle.pipe_core.proofs.UseCounts.{total-nil, total-cons, total-append}
use Rattle.pipe_core.specs.Moves.{packet_at, some_packet, AreNamed, Keeps, Takes}
use Rattle.pipe_core.specs.Keyed.{KeyedPipe, view, keys_of}
use Rattle.pipe_core.specs.Rehousing.{Gives, Rehouses}
use Rattle.pipe_core.proofs.KeyMoves.{at_same, Keeps-put, stays-put, Takes-first, Takes-none, Takes-then, AreNamed-after}
use Rattle.pipe_core.proofs.PipeFacts.{view-stays, view-left}
use Rattle.pipe_core.proofs.TakeFacts.{named_alike}

-- what names packets at its front
pub AreNamed-front : (p : Pocket) (a b : List ℕ) → AreNamed p (a ++ b) → AreNamed p a
AreNamed-front p a b n = record {
  each = λ k. omega (arith, n.each k, total-append (one_at k) a b);
  within = omega (arith, n.within, length-append a b);
}

Gives-none : (p : Pocket) → Gives p p []
Gives-none p = record {
  came = λ k. omega (arith, total-nil (one_at k));
  stays = λ k some. refl;
  count = omega arith;
  budget = refl;
}

pub Gives-put : (p q : Pocket) (key : ℕ) (packet : Packet) → p.find key ≡ None → q ≡ with_packet p key packet →
    Gives p q (key ∷ [])
Gives-put p q key packet none put =
    let k : Keeps p q [] (key ∷ []) = Keeps-put p q key packet [] (key ∷ []) none put (λ g. total-cons g key []) in
    record {
      came = λ j. omega (arith, k.balance j, total-nil (one_at j));
      stays = stays-put p q key packet none put;
      count = omega (arith, k.count);
      budget = k.budget;
    }

-- some were put, and then others
pub Gives-then : (p r q : Pocket) (first more : List ℕ) → Gives p r first → Gives r q more → Gives p q (first ++ more)
Gives-then p r q first more a b = record {
  came = λ k. omega (arith, a.came k, b.came k, total-append (one_at k) first more);
  stays = λ k some. b.stays k (subst IsSome (sym (a.stays k some)) some) ∙ a.stays k some;
  count = omega (arith, a.count, b.count, length-append first more);
  budget = b.budget ∙ a.budget;
}

-- what was put is named, and what was named is named still
pub AreNamed-given : (p q : Pocket) (keys : List ℕ) → Gives p q keys → AreNamed q keys
AreNamed-given p q keys g = record {
  each = λ k. omega (arith, g.came k);
  within = omega (arith, g.count);
}

pub AreNamed-stays : (p q : Pocket) (keys more : List ℕ) → AreNamed p keys → Gives p q more → AreNamed q keys
AreNamed-stays p q keys more n g = record {
  each = λ k. omega (arith, n.each k, g.came k);
  within = omega (arith, n.within, g.count);
}

-- nothing moved
pub Rehouses-none : (p r : Pocket) → Rehouses p p r r [] []
Rehouses-none p r = record { takes = Takes-none p; gives = Gives-none r; same = refl }

-- one packet moved
pub Rehouses-one : (p q r s : Pocket) (key there : ℕ) (packet : Packet) → AreNamed p (key ∷ []) → Some packet ≡ p.find key →
    q ≡ without p key → r.find there ≡ None → s ≡ with_packet r there packet → Rehouses p q r s (key ∷ []) (there ∷ [])
Rehouses-one p q r s key there packet named is taken vacant put =
    let came : s.find there ≡ Some packet = ap (λ (t : Pocket). t.find there) put ∙ at_same there (Some packet) (r.find there) in
    record {
      takes = Takes-first p q key [] named taken;
      gives = Gives-put r s there packet vacant put;
      same = ap (λ o. unwrap_or o some_packet ∷ []) (came ∙ is);
    }

-- some moved, and then others
pub Rehouses-then : (p q t r s u : Pocket) (a b c d : List ℕ) → AreNamed p (a ++ b) → Rehouses p q r s a c → Rehouses q t s u b d →
    Rehouses p t r u (a ++ b) (c ++ d)
Rehouses-then p q t r s u a b c d n x y =
    let front : map (packet_at s.find) c ≡ map (packet_at u.find) c =
    named_alike u s c (AreNamed-given r s c x.gives) (λ k some. sym (y.gives.stays k some)) in
    let back : map (packet_at q.find) b ≡ map (packet_at p.find) b =
    named_alike p q b (AreNamed-after p q a b n x.takes) x.takes.stays in
    record {
      takes = Takes-then p q t a b x.takes y.takes;
      gives = Gives-then r s u c d x.gives y.gives;
      same =
          map-append (packet_at u.find) c d ∙ (λ i. (sym front ∙ x.same) i ++ (y.same ∙ back) i)
          ∙ sym (map-append (packet_at p.find) a b);
    }

-- what is shown over a pocket is shown alike where more is put beside it
pub view-given : (p q : Pocket) (more : List ℕ) (pipe : KeyedPipe) → AreNamed p (keys_of pipe.slots) → Gives p q more →
    view q pipe ≡ view p pipe
view-given p q more pipe n g = view-stays p q pipe n g.stays

pub line-given : (p q : Pocket) (more : List ℕ) (line : Line ℕ) → AreNamed p (map (λ x. x.item) line.in_flight) → Gives p q more →
    seen_line (packet_at q.find) line ≡ seen_line (packet_at p.find) line
line-given p q more line n g =
    seen_line-same (packet_at p.find) (packet_at q.find) line line refl
    (sym (named_alike q p (map (λ x. x.item) line.in_flight) n (λ k some. sym (g.stays k some))))

-- and where others were taken
pub view-taken : (p q : Pocket) (gone : List ℕ) (pipe : KeyedPipe) → AreNamed q (keys_of pipe.slots) → Takes p q gone →
    view q pipe ≡ view p pipe
view-taken p q gone pipe n t = view-left p q pipe n t.stays

pub line-taken : (p q : Pocket) (gone : List ℕ) (line : Line ℕ) → AreNamed q (map (λ x. x.item) line.in_flight) → Takes p q gone →
    seen_line (packet_at q.find) line ≡ seen_line (packet_at p.find) line
line-taken p q gone line n t =
    seen_line-same (packet_at p.find) (packet_at q.find) line line refl
    (named_alike p q (map (λ x. x.item) line.in_flight) n t.stays)
