-- Packets of many pipes that move from one shelf to another; also for the crates above.
use Rattle.std.proofs.Common.{◌≡◌, ℕ, suc, ◌+◌, ◌<◌, ◌≤◌, refl, sym, ap, ◌∙◌, subst, List, [], ◌∷◌, ◌++◌, length, take, drop, set, get_or, append-nil, append_assoc, arith}
use Rattle.std.specs.Prelude.{unwrap_or}
use Rattle.std.proofs.lemmas.Grind.{drop_more_same}
use Rattle.std.proofs.lemmas.List.{map-append, drop_more, take_more, take_more_set, drop-set-lt, set_split, set-get_or, length-append, length-map, length-set, take-append-drop}
use Rattle.packet_store.specs.Pocket.{Pocket}
use Rattle.pipe_core.specs.Uses.{uses}
use Rattle.pipe_core.proofs.CallerLemmas.{AreNamed-after, AreNamed-front, found-some, Rehouses-none, Rehouses-then}
use Rattle.pipe_core.specs.Moves.{some_packet, packet_at, found, AreNamed, Takes}
use Rattle.pipe_core.specs.Keyed.{KeyedPipe, seen_pipe, view, keys_of}
use Rattle.pipe_core.specs.Views.{ViewsAgree}
use Rattle.pipe_core.specs.Rehousing.{Gives, Rehouses}
use Rattle.pipe_table.specs.Table.{seen_pipes, pipe_keys, IsTable}
use Rattle.pipe_table.proofs.TableFacts.{seen-agree}
use Rattle.pipe_table.proofs.NumberOrder.{IsTable-change}

-- a key that is named in q names there what it named in p, where what is left stays
pub name-left : (p q : Pocket) (keys : List ℕ) → Takes p q keys → (k : ℕ) → 0 < found (q.find k) → packet_at q.find k ≡ packet_at p.find k
name-left p q keys t k there = ap (λ o. unwrap_or o some_packet) (t.stays k (found-some (q.find k) there))

-- a key that is named in s names the same once others came
pub name-kept : (s u : Pocket) (keys : List ℕ) → Gives s u keys → (k : ℕ) → 0 < found (s.find k) → packet_at u.find k ≡ packet_at s.find k
name-kept s u keys g k there = ap (λ o. unwrap_or o some_packet) (g.stays k (found-some (s.find k) there))

-- as many keys as before
pub as-many : (p q r s : Pocket) (old new : List ℕ) → Rehouses p q r s old new → length new ≡ length old
as-many p q r s old new m =
    omega (arith, ap length m.same, length-map new (packet_at s.find), length-map old (packet_at p.find))

-- the keys of pipes with one more behind
keys-push : (ps : List KeyedPipe) (x : KeyedPipe) → pipe_keys (ps ++ x ∷ []) ≡ pipe_keys ps ++ keys_of x.slots
unfolding pipe_keys
keys-push [] x = append-nil (keys_of x.slots)
keys-push (p ∷ ps) x =
    ap (λ l. keys_of p.slots ++ l) (keys-push ps x) ∙ sym (append_assoc (keys_of p.slots) (pipe_keys ps) (keys_of x.slots))

keys-append : (ps qs : List KeyedPipe) → pipe_keys (ps ++ qs) ≡ pipe_keys ps ++ pipe_keys qs
unfolding pipe_keys
keys-append [] qs = refl
keys-append (p ∷ ps) qs =
    ap (λ l. keys_of p.slots ++ l) (keys-append ps qs) ∙ sym (append_assoc (keys_of p.slots) (pipe_keys ps) (pipe_keys qs))

-- pipes whose keys are named in s are shown over u as over s
pub shown-kept : ViewsAgree → (s u : Pocket) (given : List ℕ) (ps : List KeyedPipe) → Gives s u given →
    ((k : ℕ) → 0 < uses k (pipe_keys ps) → 0 < found (s.find k)) →
    seen_pipes (packet_at u.find) ps ≡ seen_pipes (packet_at s.find) ps
shown-kept agree s u given ps g there =
    seen-agree agree (packet_at s.find) (packet_at u.find) ps (λ k within. name-kept s u given g k (there k within))

-- and pipes whose keys are named in q over q as over p
pub shown-left : ViewsAgree → (p q : Pocket) (taken : List ℕ) (ps : List KeyedPipe) → Takes p q taken → AreNamed q (pipe_keys ps) →
    seen_pipes (packet_at q.find) ps ≡ seen_pipes (packet_at p.find) ps
shown-left agree p q taken ps t n =
    seen-agree agree (packet_at p.find) (packet_at q.find) ps (λ k within. name-left p q taken t k (omega (arith, within, n.each k)))

-- the pipes before i were moved, and those from i on were not
pub record AreMoved (p q r s : Pocket) (old now : List KeyedPipe) (i : ℕ) : Type 0 where
  pub left : drop i now ≡ drop i old
  pub long : length now ≡ length old
  pub moved : Rehouses p q r s (pipe_keys (take i old)) (pipe_keys (take i now))
  pub shown : seen_pipes (packet_at s.find) (take i now) ≡ seen_pipes (packet_at p.find) (take i old)

keys-nil : pipe_keys [] ≡ []
unfolding pipe_keys
keys-nil = refl

pub none-moved : (p r : Pocket) (ps : List KeyedPipe) → AreMoved p p r r ps ps 0
none-moved p r ps = record {
  left = refl;
  long = refl;
  moved = subst (λ l. Rehouses p p r r l l) (sym keys-nil) (Rehouses-none p r);
  shown = refl;
}

module _ (p q r s : Pocket) (old now : List KeyedPipe) (i : ℕ) (within : i < length now) (m : AreMoved p q r s old now i)
    (named : AreNamed p (pipe_keys old)) (x d : KeyedPipe) (read : x ≡ get_or now i d) where
  first-left : drop i now ≡ x ∷ drop (i + 1) now
  first-left = drop_more now i d within ∙ ap (λ y. y ∷ drop (i + 1) now) (sym read)

  read-old : get_or old i d ≡ x
  read-old = ap (λ l. get_or l 0 d) (sym (drop_more old i d (omega (arith, m.long, within))) ∙ sym m.left ∙ first-left)

  old-more : take (i + 1) old ≡ take i old ++ x ∷ []
  old-more = take_more old i d (omega (arith, m.long, within)) ∙ ap (λ y. take i old ++ y ∷ []) read-old

  old-keys : pipe_keys (take (i + 1) old) ≡ pipe_keys (take i old) ++ keys_of x.slots
  old-keys = ap pipe_keys old-more ∙ keys-push (take i old) x

  named-more : AreNamed p (pipe_keys (take i old) ++ keys_of x.slots)
  named-more =
      subst (AreNamed p) old-keys
      (AreNamed-front p (pipe_keys (take (i + 1) old)) (pipe_keys (drop (i + 1) old))
      (subst (AreNamed p) (ap pipe_keys (sym (take-append-drop (i + 1) old)) ∙ keys-append (take (i + 1) old) (drop (i + 1) old)) named))

  -- the next pipe's keys are named where they are
  pub named-next : AreNamed q (keys_of x.slots)
  named-next = AreNamed-after p q (pipe_keys (take i old)) (keys_of x.slots) named-more m.moved.takes

  -- how many keys were moved, with the next pipe's
  pub count-next : length (pipe_keys (take i old)) + length (keys_of x.slots) ≤ length (pipe_keys old)
  count-next = omega (
    arith,
    length-append (pipe_keys (take i old)) (keys_of x.slots),
    ap length old-keys,
    length-append (pipe_keys (take (i + 1) old)) (pipe_keys (drop (i + 1) old)),
    ap length (keys-append (take (i + 1) old) (drop (i + 1) old)),
    ap (λ l. length (pipe_keys l)) (take-append-drop (i + 1) old),
  )

  pub keys-next : length (pipe_keys (take (i + 1) old)) ≡ length (pipe_keys (take i old)) + length (keys_of x.slots)
  keys-next = ap length old-keys ∙ length-append (pipe_keys (take i old)) (keys_of x.slots)

  -- one pipe more is moved
  pub moved-next : ViewsAgree → (t u : Pocket) (y : KeyedPipe) → Rehouses q t s u (keys_of x.slots) (keys_of y.slots) → view u y ≡ view q x →
      AreMoved p t r u old (set now i y) (i + 1)
  moved-next agree t u y more shows = record {
    left = drop-set-lt (i + 1) now i y (omega arith) ∙ rest;
    long = length-set now i y ∙ m.long;
    moved =
        subst (λ l. Rehouses p t r u l (pipe_keys (take (i + 1) (set now i y)))) (sym old-keys)
        (subst (λ l. Rehouses p t r u (pipe_keys (take i old) ++ keys_of x.slots) l) (sym new-keys)
        (Rehouses-then p q t r s u (pipe_keys (take i old)) (keys_of x.slots) (pipe_keys (take i now)) (keys_of y.slots) named-more m.moved more));
    shown =
        ap (seen_pipes (packet_at u.find)) new-more
        ∙ map-append (seen_pipe (packet_at u.find)) (take i now) (y ∷ [])
        ∙ (λ j. (kept ∙ m.shown) j ++ (shows ∙ here) j ∷ [])
        ∙ sym (map-append (seen_pipe (packet_at p.find)) (take i old) (x ∷ []))
        ∙ ap (seen_pipes (packet_at p.find)) (sym old-more);
  }
    where
      new-more : take (i + 1) (set now i y) ≡ take i now ++ y ∷ []
      new-more = take_more_set now i y within

      new-keys : pipe_keys (take (i + 1) (set now i y)) ≡ pipe_keys (take i now) ++ keys_of y.slots
      new-keys = ap pipe_keys new-more ∙ keys-push (take i now) y

      rest : drop (i + 1) now ≡ drop (i + 1) old
      rest = drop_more_same now old i m.left

      kept : seen_pipes (packet_at u.find) (take i now) ≡ seen_pipes (packet_at s.find) (take i now)
      kept = shown-kept agree s u (keys_of y.slots) (take i now) more.gives (λ k used. omega (arith, used, m.moved.gives.came k))

      here : view q x ≡ view p x
      here = agree (packet_at p.find) (packet_at q.find) x (λ k used.
          name-left p q (pipe_keys (take i old)) m.moved.takes k (omega (arith, used, named-next.each k)))

  pub table-next : (seed low : ℕ) (y : KeyedPipe) → y.seed ≡ x.seed → y.number ≡ x.number → IsTable seed low now → IsTable seed low (set now i y)
  table-next seed low y same number t =
      subst (IsTable seed low) (sym (set_split now i y within))
      (IsTable-change seed low (take i now) (drop (suc i) now) x y same number
      (subst (IsTable seed low) (sym (set-get_or now i d) ∙ set_split now i (get_or now i d) within ∙ ap (λ z. take i now ++ z ∷ drop (suc i) now) (sym read)) t))
