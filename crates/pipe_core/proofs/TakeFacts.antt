-- Packets that are taken key by key, and what they leave.
use Rattle.std.proofs.Common.{◌≡◌, ℕ, ◌+◌, ◌<◌, refl, sym, ap, ◌∙◌, subst, List, [], ◌∷◌, ◌++◌, map, length, drop, get_or, Some, None, IsSome, append-nil, append_assoc, arith}
use Rattle.std.specs.Prelude.{unwrap_or}
use Rattle.std.proofs.lemmas.List.{map-append}
use Rattle.emu_model.specs.declared.packets.Packet.{Packet}
use Rattle.emu_model.specs.DropTail.{Queued}
use Rattle.packet_store.specs.Pocket.{Pocket, without}
use Rattle.pipe_core.specs.Uses.{total, uses, one_at, one}
use Rattle.pipe_core.proofs.UseCounts.{total-nil, total-cons, total-append, total-length, one_at-same}
use Rattle.pipe_core.specs.KeyedInstance.{keys_in}
use Rattle.pipe_core.specs.declared.slot.Slot.{Slot}
use Rattle.pipe_core.specs.Keyed.{keys_of}
use Rattle.pipe_core.specs.Moves.{some_packet, packet_at, AreNamed, Keeps, Takes, Taking}
use Rattle.pipe_core.proofs.KeyMoves.{found-some, Takes-none, Takes-then, Takes-first, Keeps-taken, named_first}
use Rattle.pipe_core.proofs.PipeFacts.{drop_at, keys_of-cons}

-- nothing was taken yet
pub taking_none : (p : Pocket) (all : List ℕ) (start : List Packet) → Taking p p all all start start
taking_none p all start =
    record { gone = []; whole = refl; takes = Takes-none p; came = sym (append-nil start) }

-- what is left is still named
pub left_named : (p q : Pocket) (all left : List ℕ) (start now : List Packet) → AreNamed p all → Taking p q all left start now → AreNamed q left
left_named p q all left start now n t = record {
  each = λ k. omega (
    arith,
    n.each k,
    t.takes.gone k,
    ap (uses k) t.whole,
    total-append (one_at k) t.gone left,
  );
  within = omega (
    arith,
    n.within,
    t.takes.count,
    ap (total one) t.whole,
    total-append one t.gone left,
    total-length all,
    total-length left,
    total-length t.gone,
  );
}

-- names of keys that are named still
packets_agree : (f g : ℕ → Packet) (ks : List ℕ) → ((k : ℕ) → 0 < uses k ks → g k ≡ f k) → map g ks ≡ map f ks
packets_agree f g [] same = refl
packets_agree f g (k ∷ ks) same = λ i.
    same k (omega (arith, total-cons (one_at k) k ks, one_at-same k)) i
    ∷ packets_agree f g ks (λ j within. same j (omega (arith, within, total-cons (one_at j) k ks))) i

pub named_alike : (p q : Pocket) (ks : List ℕ) → AreNamed q ks → ((k : ℕ) → IsSome (q.find k) → q.find k ≡ p.find k) →
    map (packet_at q.find) ks ≡ map (packet_at p.find) ks
named_alike p q ks n stays =
    packets_agree (packet_at p.find) (packet_at q.find) ks
    (λ k within. ap (λ o. unwrap_or o some_packet) (stays k (found-some (q.find k) (omega (arith, within, n.each k)))))

-- and so is what stands first there
pub first_named : (p q : Pocket) (all ks left : List ℕ) (start now : List Packet) → AreNamed p all →
    Taking p q all (ks ++ left) start now → AreNamed q ks
first_named p q all ks left start now n t =
    let named : AreNamed q (ks ++ left) = left_named p q all (ks ++ left) start now n t in
    record {
      each = λ k. omega (arith, named.each k, total-append (one_at k) ks left);
      within = omega (
        arith,
        named.within,
        total-append one ks left,
        total-length ks,
        total-length left,
        total-length (ks ++ left),
      );
    }

-- more were taken, which stood first among those that were left
pub taking_more : (p q r : Pocket) (all ks left : List ℕ) (start now more : List Packet) → AreNamed p all →
    Taking p q all (ks ++ left) start now → Takes q r ks → more ≡ map (packet_at q.find) ks →
    Taking p r all left start (now ++ more)
taking_more p q r all ks left start now more n t took is =
    let first : AreNamed q ks = first_named p q all ks left start now n t in
    record {
      gone = t.gone ++ ks;
      whole = t.whole ∙ sym (append_assoc t.gone ks left);
      takes = Takes-then p q r t.gone ks t.takes took;
      came =
          (λ i. t.came i ++ (is ∙ named_alike p q ks first t.takes.stays) i)
          ∙ append_assoc start (map (packet_at p.find) t.gone) (map (packet_at p.find) ks)
          ∙ ap (λ l. start ++ l) (sym (map-append (packet_at p.find) t.gone ks));
    }

-- one more was taken
pub taking_one : (p q r : Pocket) (all left : List ℕ) (key : ℕ) (start now : List Packet) (packet : Packet) → AreNamed p all →
    Taking p q all (key ∷ left) start now → Some packet ≡ q.find key → r ≡ without q key →
    Taking p r all left start (now ++ packet ∷ [])
taking_one p q r all left key start now packet n t value taken =
    taking_more p q r all (key ∷ []) left start now (packet ∷ []) n t
    (Takes-first q r key left (left_named p q all (key ∷ left) start now n t) taken)
    (ap (λ o. unwrap_or o some_packet ∷ []) value)

-- the keys of the next slot stand first among those that are left
pub slot_keys : {ss rest : List Slot} {x : Slot} {ks : List ℕ} → ss ≡ x ∷ rest → ks ≡ keys_in x.instance → keys_of ss ≡ ks ++ keys_of rest
slot_keys {rest = rest} {x = x} next is = ap keys_of next ∙ keys_of-cons x rest ∙ ap (λ l. l ++ keys_of rest) (sym is)

pub taking_slot : {p q : Pocket} {all : List ℕ} {start now : List Packet} {ss rest : List Slot} {x : Slot} {ks : List ℕ} →
    ss ≡ x ∷ rest → ks ≡ keys_in x.instance → Taking p q all (keys_of ss) start now → Taking p q all (ks ++ keys_of rest) start now
taking_slot {p = p} {q = q} {all = all} {start = start} {now = now} next is t =
    subst (λ l. Taking p q all l start now) (slot_keys next is) t

-- the next is there
pub next_found : (p q : Pocket) (all left : List ℕ) (key : ℕ) (start now : List Packet) → AreNamed p all →
    Taking p q all (key ∷ left) start now → q.find key ≡ None → ⊥
next_found p q all left key start now n t none =
    named_first q key left (left_named p q all (key ∷ left) start now n t) none

-- all were taken
pub all_taken : (p q : Pocket) (all : List ℕ) (start now : List Packet) → Taking p q all [] start now → Takes p q all
all_taken p q all start now t =
    subst (Takes p q) (sym (t.whole ∙ append-nil t.gone)) t.takes

pub all_came : (p q : Pocket) (all : List ℕ) (start now : List Packet) → Taking p q all [] start now →
    now ≡ start ++ map (packet_at p.find) all
all_came p q all start now t =
    t.came ∙ ap (λ ks. start ++ map (packet_at p.find) ks) (sym (t.whole ∙ append-nil t.gone))

-- a list whose first keys were all taken is left without them
pub none_left : (p q : Pocket) (all left : List ℕ) (start now : List Packet) → left ≡ [] → Taking p q all left start now → Taking p q all [] start now
none_left p q all left start now e t = subst (λ ks. Taking p q all ks start now) e t

-- the next of what was dropped
pub dropped_next : (p q : Pocket) (ws : List (Queued ℕ)) (i : ℕ) (w : Queued ℕ) (start now : List Packet) → w ≡ get_or ws i w → i < length ws →
    Taking p q (map (λ v. v.item) ws) (map (λ v. v.item) (drop i ws)) start now →
    Taking p q (map (λ v. v.item) ws) (w.item ∷ map (λ v. v.item) (drop (i + 1) ws)) start now
dropped_next p q ws i w start now value within t =
    subst (λ ks. Taking p q (map (λ v. v.item) ws) (map (λ v. v.item) ks) start now) (drop_at ws i w value within) t

-- a whole list more was taken
pub taking_all : (p q r : Pocket) (all ks left : List ℕ) (start now more : List Packet) → AreNamed p all →
    Taking p q all (ks ++ left) start now → Taking q r ks [] now more → Taking p r all left start more
taking_all p q r all ks left start now more n t took =
    subst (λ l. Taking p r all left start l) (sym (all_came q r ks now more took))
    (taking_more p q r all ks left start now (map (packet_at q.find) ks) n t (all_taken q r ks now more took) refl)

-- where all were taken, none is left
pub keeps_none : (p q : Pocket) (all new : List ℕ) → Takes p q all → new ≡ [] → Keeps p q all new
keeps_none p q all new t none =
    Keeps-taken p q all all new t (λ g. omega (arith, ap (total g) none, total-nil g))
