-- What cached searches have counted may be given to the rules in any order, and at any time.
use Rattle.std.proofs.Common.{◌≡◌, ℕ, zero, suc, ◌+◌, ◌-◌, ◌<◌, Bool, true, false, cond, Option, Some, None, List, [], ◌∷◌, ◌++◌, set, take, refl, sym, ap, ◌∙◌, subst, inl, inr, arith, eqb}
use Rattle.std.specs.Prelude.{All, ◌^◌, min, slice_get}
use Rattle.std.specs.List.{list_any}
use Rattle.std.proofs.lemmas.Bool.{ne_eqb, eqb-true, cases_Bool}
use Rattle.std.proofs.lemmas.Option.{same_Some, none-some}
use Rattle.std.proofs.lemmas.List.Elements.{All-head, All-tail}
use Rattle.emu_model.specs.declared.packets.Packet.{Packet}
use Rattle.emu_model.specs.declared.rules.Rule.{Rule}
use Rattle.emu_model.specs.Rules.{Counted, the_rules, matched_places, count_packet, count_at, counted_rules, counted_up}
use Rattle.emu_rules.specs.declared.counted.Amount.{Amount}
use Rattle.emu_rules.specs.declared.cache.CachedSearch.{CachedSearch}
use Rattle.emu_rules.specs.Walk.{IsRecounted, one_more, count_more, count_more_at, counted_more}
use Rattle.emu_rules.specs.RuleCache.{IsIdle, IsSearchOf, flow_packet, settled_by, settled_in, with_one}
use Rattle.emu_rules.proofs.Alike.{matched-alike}
use Rattle.emu_rules.proofs.Recounted.{rules-recounted, IsRecounted-refl, IsRecounted-then, IsRecounted-counted}

-- ---- sums that stay at a greatest value

up_swap : (m x a b : ℕ) → min (min (x + a) m + b) m ≡ min (min (x + b) m + a) m
up_swap m x a b = omega arith

up_join : (m x a b : ℕ) → min (x + min (a + b) m) m ≡ min (min (x + a) m + b) m
up_join m x a b = omega arith

up_first : (m x b : ℕ) → min (x + min (0 + b) m) m ≡ min (x + b) m
up_first m x b = omega arith

up_some : (m x : ℕ) → 0 < m → eqb (min (x + 1) m) 0 ≡ false
up_some m x h = ne_eqb (min (x + 1) m) 0 (λ e. absurd (omega (arith, e, h)))

most_is_some : 0 < 2 ^ 64 - 1
most_is_some = omega arith

-- ---- a rule

abbrev pub one : ℕ → Amount
one size = record { packets = 1; bytes = size }

abbrev with_counts : Counted → ℕ → ℕ → Counted
with_counts c x y = record c { packets = x; bytes = y }

count_more-swap : (a b : Amount) (c : Counted) → count_more a (count_more b c) ≡ count_more b (count_more a c)
count_more-swap a b c =
    let m = 2 ^ 64 - 1 in
    ap (λ x. with_counts c x (counted_up (counted_up c.bytes b.bytes) a.bytes)) (up_swap m c.packets b.packets a.packets)
    ∙ ap (λ y. with_counts c (counted_up (counted_up c.packets a.packets) b.packets) y) (up_swap m c.bytes b.bytes a.bytes)

count_more-join : (size : ℕ) (a : Amount) (c : Counted) → count_more (one_more size a) c ≡ count_more (one size) (count_more a c)
count_more-join size a c =
    let m = 2 ^ 64 - 1 in
    ap (λ x. with_counts c x (counted_up c.bytes (counted_up a.bytes size))) (up_join m c.packets a.packets 1)
    ∙ ap (λ y. with_counts c (counted_up (counted_up c.packets a.packets) 1) y) (up_join m c.bytes a.bytes size)

abbrev nothing : Amount
nothing = record { packets = 0; bytes = 0 }

count_more-first : (size : ℕ) (c : Counted) → count_more (one_more size nothing) c ≡ count_more (one size) c
count_more-first size c =
    let m = 2 ^ 64 - 1 in
    ap (λ x. with_counts c x (counted_up c.bytes (counted_up 0 size))) (up_first m c.packets 1)
    ∙ ap (λ y. with_counts c (counted_up c.packets 1) y) (up_first m c.bytes size)

-- ---- the rules at a list of places

cond_swap : (h g : Bool) (a b : Amount) (c : Counted) → cond h (count_more a (cond g (count_more b c) c)) (cond g (count_more b c) c) ≡ cond g (count_more b (cond h (count_more a c) c)) (cond h (count_more a c) c)
cond_swap true true a b c = count_more-swap a b c
cond_swap true false a b c = refl
cond_swap false true a b c = refl
cond_swap false false a b c = refl

pub counted-swap : (ks js : List ℕ) (a b : Amount) (i : ℕ) (cs : List Counted) → count_more_at ks a i (count_more_at js b i cs) ≡ count_more_at js b i (count_more_at ks a i cs)
counted-swap ks js a b i [] = refl
counted-swap ks js a b i (c ∷ cs) =
    let h = list_any (λ k. eqb k i) ks in
    let g = list_any (λ k. eqb k i) js in
    ap (λ x. x ∷ count_more_at ks a (i + 1) (count_more_at js b (i + 1) cs)) (cond_swap h g a b c)
    ∙ ap (λ (xs : List Counted). cond g (count_more b (cond h (count_more a c) c)) (cond h (count_more a c) c) ∷ xs) (counted-swap ks js a b (i + 1) cs)

cond_join : (h : Bool) (size : ℕ) (a : Amount) (c : Counted) → cond h (count_more (one_more size a) c) c ≡ cond h (count_more (one size) (cond h (count_more a c) c)) (cond h (count_more a c) c)
cond_join true size a c = count_more-join size a c
cond_join false size a c = refl

counted-join : (ks : List ℕ) (size : ℕ) (a : Amount) (i : ℕ) (cs : List Counted) → count_more_at ks (one_more size a) i cs ≡ count_more_at ks (one size) i (count_more_at ks a i cs)
counted-join ks size a i [] = refl
counted-join ks size a i (c ∷ cs) =
    let h = list_any (λ k. eqb k i) ks in
    ap (λ x. x ∷ count_more_at ks (one_more size a) (i + 1) cs) (cond_join h size a c)
    ∙ ap (λ (xs : List Counted). cond h (count_more (one size) (cond h (count_more a c) c)) (cond h (count_more a c) c) ∷ xs) (counted-join ks size a (i + 1) cs)

counted-first : (ks : List ℕ) (size : ℕ) (i : ℕ) (cs : List Counted) → count_more_at ks (one_more size nothing) i cs ≡ count_more_at ks (one size) i cs
counted-first ks size i [] = refl
counted-first ks size i (c ∷ cs) =
    let h = list_any (λ k. eqb k i) ks in
    ap (λ x. cond h x c ∷ count_more_at ks (one_more size nothing) (i + 1) cs) (count_more-first size c)
    ∙ ap (λ (xs : List Counted). cond h (count_more (one size) c) c ∷ xs) (counted-first ks size (i + 1) cs)

-- a packet is counted as an amount
pub counted-one : (ks : List ℕ) (p : Packet) (i : ℕ) (cs : List Counted) → count_at ks p i cs ≡ count_more_at ks (one p.size) i cs
counted-one ks p i [] = refl
counted-one ks p i (c ∷ cs) =
    ap (λ (xs : List Counted). cond (list_any (λ k. eqb k i) ks) (count_packet p c) c ∷ xs) (counted-one ks p (i + 1) cs)

-- ---- one cached search

either : (b : Bool) (xs ys : List Counted) (P : List Counted → Type 0) → P xs → P ys → P (cond b xs ys)
either true xs ys P x y = x
either false xs ys P x y = y

pub IsRecounted-settled_by : (o : Option CachedSearch) (cs : List Counted) → IsRecounted cs (settled_by o cs)
IsRecounted-settled_by None cs = IsRecounted-refl cs
IsRecounted-settled_by (Some f) cs =
    let ks = matched_places f.from (flow_packet f) (the_rules cs) in
    either (eqb f.counted.packets 0) cs (count_more_at ks f.counted 0 cs) (IsRecounted cs)
    (IsRecounted-refl cs) (IsRecounted-counted ks f.counted cs)

both : (b : Bool) (F G : List Counted → List Counted) (cs : List Counted) → F (G cs) ≡ G (F cs) → cond b (G cs) (F (G cs)) ≡ G (cond b cs (F cs))
both true F G cs e = refl
both false F G cs e = e

settled_by-counted : (o : Option CachedSearch) (ks : List ℕ) (a : Amount) (cs : List Counted) → settled_by o (count_more_at ks a 0 cs) ≡ count_more_at ks a 0 (settled_by o cs)
settled_by-counted None ks a cs = refl
settled_by-counted (Some f) ks a cs =
    let p = flow_packet f in
    let rs = rules-recounted cs (count_more_at ks a 0 cs) (IsRecounted-counted ks a cs) in
    both (eqb f.counted.packets 0) (counted_more f.from p f.counted) (count_more_at ks a 0) cs
    (ap (λ rs. count_more_at (matched_places f.from p rs) f.counted 0 (count_more_at ks a 0 cs)) rs
    ∙ counted-swap (matched_places f.from p (the_rules cs)) ks f.counted a 0 cs)

settled_by-swap : (o x : Option CachedSearch) (cs : List Counted) → settled_by x (settled_by o cs) ≡ settled_by o (settled_by x cs)
settled_by-swap None x cs = refl
settled_by-swap (Some f) x cs =
    let p = flow_packet f in
    let rs = rules-recounted cs (settled_by x cs) (IsRecounted-settled_by x cs) in
    let more : settled_by x (counted_more f.from p f.counted cs) ≡ counted_more f.from p f.counted (settled_by x cs) =
    settled_by-counted x (matched_places f.from p (the_rules cs)) f.counted cs
    ∙ ap (λ rs. count_more_at (matched_places f.from p rs) f.counted 0 (settled_by x cs)) (sym rs) in
    sym (both (eqb f.counted.packets 0) (counted_more f.from p f.counted) (settled_by x) cs (sym more))

-- ---- all cached searches

pub IsRecounted-settled : (os : List (Option CachedSearch)) (cs : List Counted) → IsRecounted cs (settled_in os cs)
IsRecounted-settled [] cs = IsRecounted-refl cs
IsRecounted-settled (o ∷ os) cs =
    IsRecounted-then cs (settled_by o cs) (settled_in os (settled_by o cs)) (IsRecounted-settled_by o cs) (IsRecounted-settled os (settled_by o cs))

-- what is counted at places of the rules is counted at them behind the settling
pub settled-counted : (os : List (Option CachedSearch)) (ks : List ℕ) (a : Amount) (cs : List Counted) → settled_in os (count_more_at ks a 0 cs) ≡ count_more_at ks a 0 (settled_in os cs)
settled-counted [] ks a cs = refl
settled-counted (o ∷ os) ks a cs =
    ap (settled_in os) (settled_by-counted o ks a cs) ∙ settled-counted os ks a (settled_by o cs)

pub settled_by-idle : (o : Option CachedSearch) (cs : List Counted) → IsIdle o → settled_by o cs ≡ cs
settled_by-idle None cs h = refl
settled_by-idle (Some f) cs h =
    ap (λ n. cond (eqb n 0) cs (counted_more f.from (flow_packet f) f.counted cs)) h

-- a cached search that is settled may make place for one that has counted nothing
pub settled-out : (os : List (Option CachedSearch)) (k : ℕ) (o new : Option CachedSearch) (cs : List Counted) → slice_get os k ≡ Some o → IsIdle new → settled_in (set os k new) (settled_by o cs) ≡ settled_in os cs
settled-out [] k o new cs e idle = absurd (none-some o e)
settled-out (x ∷ os) zero o new cs e idle =
    ap (settled_in os) (settled_by-idle new (settled_by o cs) idle)
    ∙ ap (λ (o : Option CachedSearch). settled_in os (settled_by o cs)) (sym (same_Some x o e))
settled-out (x ∷ os) (suc k) o new cs e idle =
    ap (settled_in (set os k new)) (settled_by-swap o x cs) ∙ settled-out os k o new (settled_by x cs) e idle

pub settled-idle : (os : List (Option CachedSearch)) (cs : List Counted) → All IsIdle os → settled_in os cs ≡ cs
settled-idle [] cs h = refl
settled-idle (o ∷ os) cs h =
    ap (settled_in os) (settled_by-idle o cs (All-head IsIdle o os h)) ∙ settled-idle os cs (All-tail IsIdle o os h)

-- one cached search more is settled
next : (os : List (Option CachedSearch)) (k : ℕ) (o : Option CachedSearch) (cs : List Counted) → slice_get os k ≡ Some o → settled_in (take (suc k) os) cs ≡ settled_by o (settled_in (take k os) cs)
next [] k o cs e = absurd (none-some o e)
next (x ∷ os) zero o cs e = ap (λ (o : Option CachedSearch). settled_by o cs) (same_Some x o e)
next (x ∷ os) (suc k) o cs e = next os k o (settled_by x cs) e

-- ---- a cached search counts a packet

no_amount : (a : Amount) → a.packets ≡ 0 → a.bytes ≡ 0 → a ≡ nothing
no_amount a e h =
    ap (λ x. let b : Amount = record { packets = x; bytes = a.bytes } in b) e
    ∙ ap (λ y. let b : Amount = record { packets = 0; bytes = y } in b) h

settled_by-more : (f : CachedSearch) (size : ℕ) (cs : List Counted) → (f.counted.packets ≡ 0 → f.counted.bytes ≡ 0) → settled_by (Some (with_one size f)) cs ≡ count_more_at (matched_places f.from (flow_packet f) (the_rules cs)) (one size) 0 (settled_by (Some f) cs)
settled_by-more f size cs idle =
    let p = flow_packet f in
    let ks = matched_places f.from p (the_rules cs) in
    let a = f.counted in
    let more = count_more_at ks (one_more size a) 0 cs in
    let some : settled_by (Some (with_one size f)) cs ≡ more =
    ap (λ b. cond b cs more) (up_some (2 ^ 64 - 1) a.packets most_is_some) in
    elim (cases_Bool (eqb a.packets 0)) [
      | inl t ↦
          let e = eqb-true a.packets 0 t in
          some
          ∙ ap (λ a. count_more_at ks (one_more size a) 0 cs) (no_amount a e (idle e))
          ∙ counted-first ks size 0 cs
          ∙ ap (count_more_at ks (one size) 0) (sym (settled_by-idle (Some f) cs e))
      | inr n ↦
          some
          ∙ counted-join ks size a 0 cs
          ∙ ap (λ b. count_more_at ks (one size) 0 (cond b cs (count_more_at ks a 0 cs))) (sym n)
    ]

more_at : (os : List (Option CachedSearch)) (k : ℕ) (f : CachedSearch) (size : ℕ) (rs : List Rule) (cs : List Counted) → slice_get os k ≡ Some (Some f) → (f.counted.packets ≡ 0 → f.counted.bytes ≡ 0) → the_rules cs ≡ rs → settled_in (set os k (Some (with_one size f))) cs ≡ count_more_at (matched_places f.from (flow_packet f) rs) (one size) 0 (settled_in os cs)
more_at [] k f size rs cs e idle same = absurd (none-some (Some f) e)
more_at (o ∷ os) zero f size rs cs e idle same =
    let ks = λ (rs : List Rule). matched_places f.from (flow_packet f) rs in
    ap (settled_in os) (settled_by-more f size cs idle)
    ∙ settled-counted os (ks (the_rules cs)) (one size) (settled_by (Some f) cs)
    ∙ ap (λ rs. count_more_at (ks rs) (one size) 0 (settled_in os (settled_by (Some f) cs))) same
    ∙ ap (λ (o : Option CachedSearch). count_more_at (ks rs) (one size) 0 (settled_in os (settled_by o cs))) (sym (same_Some o (Some f) e))
more_at (o ∷ os) (suc k) f size rs cs e idle same =
    more_at os k f size rs (settled_by o cs) e idle
    (rules-recounted cs (settled_by o cs) (IsRecounted-settled_by o cs) ∙ same)

pub settled-more : (os : List (Option CachedSearch)) (k : ℕ) (f : CachedSearch) (age start : ℕ) (p : Packet) (cs : List Counted) → slice_get os k ≡ Some (Some f) → (f.counted.packets ≡ 0 → f.counted.bytes ≡ 0) → IsSearchOf age start p f → settled_in (set os k (Some (with_one p.size f))) cs ≡ counted_rules start p (settled_in os cs)
settled-more os k f age start p cs e idle of =
    let new = settled_in os cs in
    let rs = rules-recounted cs new (IsRecounted-settled os cs) in
    let ks : matched_places f.from (flow_packet f) (the_rules cs) ≡ matched_places start p (the_rules new) =
    ap (λ n. matched_places n (flow_packet f) (the_rules cs)) of.from
    ∙ matched-alike start (flow_packet f) p (the_rules cs) of.alike
    ∙ ap (matched_places start p) (sym rs) in
    more_at os k f p.size (the_rules cs) cs e idle refl
    ∙ ap (λ ks. count_more_at ks (one p.size) 0 new) ks
    ∙ sym (counted-one (matched_places start p (the_rules new)) p 0 new)

-- rules that count a packet by a walk
pub settled-walked : (os : List (Option CachedSearch)) (start : ℕ) (p : Packet) (cs : List Counted) → settled_in os (counted_more start p (one p.size) cs) ≡ counted_rules start p (settled_in os cs)
settled-walked os start p cs =
    let new = settled_in os cs in
    let rs = rules-recounted cs new (IsRecounted-settled os cs) in
    settled-counted os (matched_places start p (the_rules cs)) (one p.size) cs
    ∙ ap (λ rs. count_more_at (matched_places start p rs) (one p.size) 0 new) (sym rs)
    ∙ sym (counted-one (matched_places start p (the_rules new)) p 0 new)

-- a rule that counts a packet for itself
pub settled-count_at : (os : List (Option CachedSearch)) (ks : List ℕ) (p : Packet) (cs : List Counted) → settled_in os (count_at ks p 0 cs) ≡ count_at ks p 0 (settled_in os cs)
settled-count_at os ks p cs =
    ap (settled_in os) (counted-one ks p 0 cs)
    ∙ settled-counted os ks (one p.size) cs
    ∙ sym (counted-one ks p 0 (settled_in os cs))

pub IsRecounted-count_at : (ks : List ℕ) (p : Packet) (cs : List Counted) → IsRecounted cs (count_at ks p 0 cs)
IsRecounted-count_at ks p cs =
    subst (IsRecounted cs) (sym (counted-one ks p 0 cs)) (IsRecounted-counted ks (one p.size) cs)

-- a place more
pub settled-push : (os : List (Option CachedSearch)) (cs : List Counted) → settled_in (os ++ None ∷ []) cs ≡ settled_in os cs
settled-push [] cs = refl
settled-push (o ∷ os) cs = settled-push os (settled_by o cs)
