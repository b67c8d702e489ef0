-- What a put and a take do to the packets that keys name.
use Rattle.std.proofs.Common.{◌≡◌, ◌≢◌, ℕ, ◌+◌, ◌<◌, ◌≤◌, ◌==◌, nat_eq, cond, true, false, refl, sym, ap, ◌∙◌, subst, List, [], ◌∷◌, ◌++◌, length, Option, Some, None, IsSome, inl, inr, arith}
use Rattle.std.proofs.lemmas.Bool.{cases_eq}
use Rattle.std.proofs.lemmas.Bool.Decides.{nat_tests}
use Rattle.emu_model.specs.declared.packets.Packet.{Packet}
use Rattle.packet_store.specs.Pocket.{Pocket, with_packet, without}
use Rattle.pipe_core.specs.Uses.{total, uses, one_at, one}
use Rattle.pipe_core.proofs.UseCounts.{total-nil, total-cons, total-append, total-length, one_at-same}
use Rattle.pipe_core.specs.Moves.{found, AreNamed, Keeps, Takes}

pub at_other : {X : Type 0} (k key : ℕ) (x y : X) → k ≢ key → cond (k == key) x y ≡ y
at_other k key x y h = let t : nat_eq k key ≡ false = grind (arith, nat_tests) in ap (λ b. cond b x y) t

pub at_same : {X : Type 0} (key : ℕ) (x y : X) → cond (key == key) x y ≡ x
at_same key x y = let t : nat_eq key key ≡ true = grind (arith, nat_tests) in ap (λ b. cond b x y) t

pub one_at-other : (k key : ℕ) → k ≢ key → one_at k key ≡ 0
one_at-other k key h = let t : nat_eq key k ≡ false = grind (arith, nat_tests) in ap {B = ℕ} (λ b. cond b 1 0) t

pub found-le : (o : Option Packet) → found o ≤ 1
found-le None = omega arith
found-le (Some p) = omega arith

pub found-some : (o : Option Packet) → 0 < found o → IsSome o
found-some None h = absurd (omega (arith, h))
found-some (Some p) h = refl

-- a packet that was put, under a key that stands last or anywhere
pub Keeps-put : (p q : Pocket) (key : ℕ) (packet : Packet) (old new : List ℕ) →
    p.find key ≡ None → q ≡ with_packet p key packet →
    ((g : ℕ → ℕ) → total g new ≡ g key + total g old) → Keeps p q old new
Keeps-put p q key packet old new none put more =
    subst (λ r. Keeps p r old new) (sym put) (record {
      balance = λ k. elim (cases_eq k key) [
        | inl same ↦
            subst (λ j. uses j new + found (p.find j) ≡ uses j old + found ((with_packet p key packet).find j)) (sym same)
            (omega (arith, more (one_at key), one_at-same key, ap found none, ap found (at_same key (Some packet) (p.find key))))
        | inr differs ↦
            omega (arith, more (one_at k), one_at-other k key differs, ap found (at_other k key (Some packet) (p.find k) differs))
      ];
      kept = λ k unused some. at_other k key (Some packet) (p.find k)
          (λ same. let gone : IsSome {T = Packet} None = subst IsSome (ap p.find same ∙ none) some in absurd (cc));
      count = omega (arith, more one, total-length old, total-length new);
      budget = refl;
    })

pub stays-put : (p q : Pocket) (key : ℕ) (packet : Packet) → p.find key ≡ None → q ≡ with_packet p key packet →
    (k : ℕ) → IsSome (p.find k) → q.find k ≡ p.find k
stays-put p q key packet none put k some =
    ap (λ (r : Pocket). r.find k) put
    ∙ at_other k key (Some packet) (p.find k)
    (λ same. let gone : IsSome {T = Packet} None = subst IsSome (ap p.find same ∙ none) some in absurd (cc))

-- nothing moved
pub Keeps-same : (p : Pocket) (old new : List ℕ) → new ≡ old → Keeps p p old new
Keeps-same p old new same = record {
  balance = λ k. ap (λ ks. uses k ks + found (p.find k)) same;
  kept = λ k unused some. refl;
  count = ap (λ ks. p.count + length ks) (sym same);
  budget = refl;
}

-- after a move each key still names a packet, and stands once
pub AreNamed-kept : (p q : Pocket) (old new : List ℕ) → AreNamed p old → Keeps p q old new → AreNamed q new
AreNamed-kept p q old new n k = record {
  each = λ j. omega (arith, n.each j, k.balance j);
  within = omega (arith, n.within, k.count);
}

-- a list of keys of which a part alone changed, beside what the rest weighs
pub Keeps-part : (p q : Pocket) (x y old new : List ℕ) (rest : (ℕ → ℕ) → ℕ) →
    ((g : ℕ → ℕ) → total g old ≡ total g x + rest g) → ((g : ℕ → ℕ) → total g new ≡ total g y + rest g) →
    Keeps p q x y → Keeps p q old new
Keeps-part p q x y old new rest was is k = record {
  balance = λ j. omega (arith, k.balance j, was (one_at j), is (one_at j));
  kept = λ j unused some. k.kept j (omega (arith, unused, was (one_at j))) some;
  count = omega (
    arith,
    k.count,
    was one,
    is one,
    total-length x,
    total-length y,
    total-length old,
    total-length new,
  );
  budget = k.budget;
}

pub AreNamed-part : (p : Pocket) (x whole : List ℕ) (rest : (ℕ → ℕ) → ℕ) →
    ((g : ℕ → ℕ) → total g whole ≡ total g x + rest g) → AreNamed p whole → AreNamed p x
AreNamed-part p x whole rest is n = record {
  each = λ j. omega (arith, n.each j, is (one_at j));
  within = omega (arith, n.within, is one, total-length x, total-length whole);
}

-- a packet that was taken, of the key that stands first
pub Takes-first : (p q : Pocket) (key : ℕ) (keys : List ℕ) → AreNamed p (key ∷ keys) → q ≡ without p key → Takes p q (key ∷ [])
Takes-first p q key keys n taken =
    subst (λ r. Takes p r (key ∷ [])) (sym taken) (record {
      gone = λ k. elim (cases_eq k key) [
        | inl same ↦
            subst (λ j. uses j (key ∷ []) + found ((without p key).find j) ≡ found (p.find j)) (sym same)
            (omega (
              arith,
              total-cons (one_at key) key [],
              total-nil (one_at key),
              one_at-same key,
              ap found (at_same key None (p.find key)),
              n.each key,
              total-cons (one_at key) key keys,
              found-le (p.find key),
            ))
        | inr differs ↦
            omega (arith, total-cons (one_at k) key [], total-nil (one_at k), one_at-other k key differs, ap found (at_other k key None (p.find k) differs))
      ];
      kept = λ k unused. at_other k key None (p.find k)
          (λ same. absurd (omega (arith, total-cons (one_at k) key [], ap (one_at k) (sym same), one_at-same k, unused)));
      stays = λ k some. elim (cases_eq k key) [
        | inl same ↦
            let gone : (without p key).find k ≡ None =
            ap (λ j. (without p key).find j) same ∙ at_same key None (p.find key) in
            let none : IsSome {T = Packet} None = subst IsSome gone some in absurd (cc)
        | inr differs ↦ at_other k key None (p.find k) differs
      ];
      count = omega (arith, n.within);
      budget = refl;
    })

-- what left a list was taken
pub Keeps-taken : (p q : Pocket) (taken old new : List ℕ) → Takes p q taken →
    ((g : ℕ → ℕ) → total g old ≡ total g taken + total g new) → Keeps p q old new
Keeps-taken p q taken old new t parts = record {
  balance = λ k. omega (arith, t.gone k, parts (one_at k));
  kept = λ k unused some. t.kept k (omega (arith, parts (one_at k), unused));
  count = omega (arith, t.count, parts one, total-length taken, total-length old, total-length new);
  budget = t.budget;
}

-- a key that is named names a packet
pub named_first : (p : Pocket) (key : ℕ) (keys : List ℕ) → AreNamed p (key ∷ keys) → p.find key ≡ None → ⊥
named_first p key keys n none =
    omega (arith, n.each key, total-cons (one_at key) key keys, one_at-same key, ap found none)

-- nothing was taken
pub Takes-none : (p : Pocket) → Takes p p []
Takes-none p = record {
  gone = λ k. omega (arith, total-nil (one_at k));
  kept = λ k unused. refl;
  stays = λ k some. refl;
  count = omega arith;
  budget = refl;
}

-- some were taken, and then others
pub Takes-then : (p r q : Pocket) (first more : List ℕ) → Takes p r first → Takes r q more → Takes p q (first ++ more)
Takes-then p r q first more a b = record {
  gone = λ k. omega (arith, a.gone k, b.gone k, total-append (one_at k) first more);
  kept = λ k unused.
      b.kept k (omega (arith, unused, total-append (one_at k) first more))
      ∙ a.kept k (omega (arith, unused, total-append (one_at k) first more));
  stays = λ k some. b.stays k some ∙ a.stays k (subst IsSome (b.stays k some) some);
  count = omega (
    arith,
    a.count,
    b.count,
    total-length first,
    total-length more,
    total-length (first ++ more),
    total-append one first more,
  );
  budget = b.budget ∙ a.budget;
}

-- what is named besides what was taken is named still
pub AreNamed-after : (p q : Pocket) (taken rest : List ℕ) → AreNamed p (taken ++ rest) → Takes p q taken → AreNamed q rest
AreNamed-after p q taken rest n t = record {
  each = λ k. omega (arith, n.each k, t.gone k, total-append (one_at k) taken rest);
  within = omega (
    arith,
    n.within,
    t.count,
    total-length taken,
    total-length rest,
    total-length (taken ++ rest),
    total-append one taken rest,
  );
}
