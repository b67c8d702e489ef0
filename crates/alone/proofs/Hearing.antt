-- What a session heard of bytes that were read, and what was written then.
use Rattle.std.proofs.Common.{◌≡◌, ℕ, zero, suc, le_trans, take, ◌+◌, ◌-◌, ◌^◌, ◌<◌, ◌≤◌, inl, inr, Bool, true, false, List, [], ◌∷◌, ◌++◌, length, length-append, refl, sym, ap, ◌∙◌, subst, append_assoc, append-nil, arith}
use Rattle.std.specs.Prelude.{◌⊎◌, flat_map, Result, Ok, Err, OnOk, OnErr, IfErr, Option}
use Rattle.std.proofs.lemmas.List.{length-take-le}
use Rattle.std.proofs.lemmas.List.Concat.{flat_map-append}
use Rattle.std.specs.Io.KnownBytes.{Appends, Consumes, Keeps, IsAtEnd}
use Rattle.std.proofs.KnownBytes.{Consumes-nil, Consumes-kept, Consumes-trans}
use Rattle.control.specs.declared.fault.Fault.{Fault}
use Rattle.control.specs.declared.fault.Cause.TheVariants.{Cut, NoEnd}
use Rattle.session.specs.Sessions.{Piece, written}
use Rattle.alone.specs.declared.fault.RunFault.{RunFault}
use Rattle.alone.specs.declared.fault.RunFault.TheVariants.{Scenario, Read, Write, Memory, Strange, Gate}
use Rattle.alone.specs.Bytes.{IsCut, IsWriting, Puts, Stops}
use Rattle.alone.specs.Conversations.{AreClosed, Concludes, Conversation, Converses, EndsBy, Hinting, Leaves, WritesSome, next_line, nobody}
use Rattle.alone.specs.Reports.{writer_failed, IsOwnFault}
use Rattle.alone.specs.Talks.{KeptTalk, Heard, GoesOn, IsEnding, IsHalfHeard, IsKept, IsStop, counted}
use Rattle.alone.proofs.Talking.{goes-both, goes-none, heard-none, heard-free}
use Rattle.alone.proofs.Writing.{puts_none, puts_kept, puts_both, puts_flushed, stops_behind, stops_out, writing_none, writing_done}

-- a read that gave bytes
pub some-bytes : (n : ℕ) (room : List ℕ) → n ≤ length room → (n ≡ 0 → ⊥) → 0 < length (take n room)
some-bytes n room few some = by n refl
  where
    by : (m : ℕ) → n ≡ m → 0 < length (take n room)
    by zero is = absurd (some is)
    by (suc m) is = omega (arith, is, length-take-le n room few)

-- ---- what was taken of some bytes
abbrev pub IsTaken : Hinting → Option (List ℕ) → Option (List ℕ) → KeptTalk → KeptTalk → List ℕ → List ℕ → Type 0
IsTaken hinting v w s t bytes rest = (heard : List ℕ) × (qs : List Piece) × (bytes ≡ heard ++ rest) × Puts v s.out w t.out (flat_map written qs) × GoesOn hinting heard qs s t

pub taken-none : (hinting : Hinting) (v : Option (List ℕ)) (s : KeptTalk) (bytes : List ℕ) → IsTaken hinting v v s s bytes bytes
taken-none hinting v s bytes = ([], [], refl, puts_none v s.out, goes-none hinting s)

puts-more : (v w : Option (List ℕ)) (s t u : KeptTalk) (qs rs : List Piece) → Puts v s.out w t.out (flat_map written qs) → u.out ≡ t.out ++ flat_map written rs →
    Puts v s.out w u.out (flat_map written (qs ++ rs))
puts-more v w s t u qs rs puts wrote =
    subst (λ (l : List ℕ). Puts v s.out w u.out l) (sym (flat_map-append written qs rs))
    (puts_both v w w s.out t.out u.out (flat_map written qs) (flat_map written rs) puts
    (subst (λ (l : List ℕ). Puts w t.out w l (flat_map written rs)) (sym wrote) (puts_kept w t.out (flat_map written rs))))

parted_at : (bytes heard rest line after : List ℕ) → bytes ≡ heard ++ rest → rest ≡ line ++ 10 ∷ after → bytes ≡ (heard ++ (line ++ 10 ∷ [])) ++ after
parted_at bytes heard rest line after is more =
    is ∙ ap (λ (l : List ℕ). heard ++ l) (more ∙ sym (append_assoc line (10 ∷ []) after)) ∙ sym (append_assoc heard (line ++ 10 ∷ []) after)

pub taken-line : (hinting : Hinting) (v w : Option (List ℕ)) (s t u : KeptTalk) (bytes rest line after : List ℕ) → IsTaken hinting v w s t bytes rest → rest ≡ line ++ 10 ∷ after →
    ((rs : List Piece) × (u.out ≡ t.out ++ flat_map written rs) × GoesOn hinting (line ++ 10 ∷ []) rs t u) → IsTaken hinting v w s u bytes after
taken-line hinting v w s t u bytes rest line after (heard, qs, all, puts, goes) is (rs, wrote, more) = (
  heard ++ (line ++ 10 ∷ []),
  qs ++ rs,
  parted_at bytes heard rest line after all is,
  puts-more v w s t u qs rs puts wrote,
  goes-both hinting heard (line ++ 10 ∷ []) qs rs s t u goes more,
)

pub taken-rest : (hinting : Hinting) (v w : Option (List ℕ)) (s t u : KeptTalk) (bytes rest : List ℕ) (r : Result (Unit {0}) RunFault) → IsTaken hinting v w s t bytes rest →
    OnOk r ((rs : List Piece) × (u.out ≡ t.out ++ flat_map written rs) × GoesOn hinting rest rs t u) →
    OnOk r ((qs : List Piece) × Puts v s.out w u.out (flat_map written qs) × GoesOn hinting bytes qs s u)
taken-rest hinting v w s t u bytes rest (Ok x) (heard, qs, all, puts, goes) (rs, wrote, more) = (
  qs ++ rs,
  puts-more v w s t u qs rs puts wrote,
  subst (λ (l : List ℕ). GoesOn hinting l (qs ++ rs) s u) (sym all) (goes-both hinting heard rest qs rs s t u goes more),
)
taken-rest hinting v w s t u bytes rest (Err e) taken h = h

puts-handed : (v w x : Option (List ℕ)) (k l bytes now : List ℕ) → Puts v k w l bytes → Puts w l x [] [] → now ≡ [] → Puts v k x now bytes
puts-handed v w x k l bytes now puts out none =
    subst (λ (m : List ℕ). Puts v k x m bytes) (sym none)
    (subst (λ (m : List ℕ). Puts v k x [] m) (append-nil bytes) (puts_both v w x k l [] bytes [] puts out))

goes-free : (hinting : Hinting) (heard : List ℕ) (qs : List Piece) (s t u : KeptTalk) → u ≡ record t { out = [] } → GoesOn hinting heard qs s t → GoesOn hinting heard qs s u
goes-free hinting heard qs s t u is goes steps text ps h = heard-free hinting steps (text ++ heard) (ps ++ qs) t u is (goes steps text ps h)

pub taken-handed : (hinting : Hinting) (v w x : Option (List ℕ)) (s t u : KeptTalk) (bytes rest : List ℕ) → IsTaken hinting v w s t bytes rest → Puts w t.out x [] [] → u ≡ record t { out = [] } →
    IsTaken hinting v x s u bytes rest
taken-handed hinting v w x s t u bytes rest (heard, qs, all, puts, goes) out is = (
  heard,
  qs,
  all,
  puts-handed v w x s.out t.out (flat_map written qs) u.out puts out (ap (λ (k : KeptTalk). k.out) is),
  goes-free hinting heard qs s t u is goes,
)

-- ---- it stops in the midst of them
puts_stop : (v w : Option (List ℕ)) (k l bytes : List ℕ) → Puts v k w l bytes → Stops v k w bytes
unfolding Puts IsWriting Stops IsCut
puts_stop v w k l bytes puts first text is =
    let now = puts first text is in
    (now.0, l, now.1, now.2)

-- memory was refused
half-refused : (hinting : Hinting) (v w : Option (List ℕ)) (s t : KeptTalk) (bytes rest : List ℕ) → IsTaken hinting v w s t bytes rest → IsHalfHeard hinting bytes s v w Memory
half-refused hinting v w s t bytes rest (heard, qs, all, puts, goes) =
    (tt, heard, rest, qs, t, all, goes, puts_stop v w s.out t.out (flat_map written qs) puts)

-- the writer failed
half-unwritten : (hinting : Hinting) (v w x : Option (List ℕ)) (s t : KeptTalk) (bytes rest : List ℕ) → IsTaken hinting v w s t bytes rest → IsCut w x t.out → IsHalfHeard hinting bytes s v x Write
half-unwritten hinting v w x s t bytes rest (heard, qs, all, puts, goes) cut = (
  tt,
  heard,
  rest,
  qs,
  t,
  all,
  goes,
  subst (λ (l : List ℕ). Stops v s.out x l) (append-nil (flat_map written qs))
      (stops_behind v w x s.out t.out (flat_map written qs) [] puts (stops_out w x t.out [] cut)),
)

-- by what a call answered
pub half-refused-by : (hinting : Hinting) (v w : Option (List ℕ)) (s t : KeptTalk) (bytes rest : List ℕ) (r : Result (Unit {0}) RunFault) → IsTaken hinting v w s t bytes rest → OnErr r (r ≡ Err Memory) →
    IfErr r (IsHalfHeard hinting bytes s v w)
half-refused-by hinting v w s t bytes rest (Ok x) taken refused = tt
half-refused-by hinting v w s t bytes rest (Err e) taken refused =
    subst (λ (q : Result (Unit {0}) RunFault). IfErr q (IsHalfHeard hinting bytes s v w)) (sym refused) (half-refused hinting v w s t bytes rest taken)

pub half-unwritten-by : (hinting : Hinting) (v w x : Option (List ℕ)) (s t : KeptTalk) (bytes rest : List ℕ) (r : Result (Unit {0}) RunFault) → IsTaken hinting v w s t bytes rest → OnErr r (IsCut w x t.out) → OnErr r (r ≡ Err Write) →
    IfErr r (IsHalfHeard hinting bytes s v x)
half-unwritten-by hinting v w x s t bytes rest (Ok y) taken cut failed = tt
half-unwritten-by hinting v w x s t bytes rest (Err e) taken cut failed =
    subst (λ (q : Result (Unit {0}) RunFault). IfErr q (IsHalfHeard hinting bytes s v x)) (sym failed) (half-unwritten hinting v w x s t bytes rest taken cut)

-- ---- what was heard of all that was read
pub record HasRead {A : Type 0} (gives : A → List ℕ → A → Type 0) (hinting : Hinting) (steps : Option ℕ) (first now : A) (unread rest v w : Option (List ℕ)) (t : KeptTalk) (n : ℕ) : Type 0 where
  pub text : List ℕ
  pub ps : List Piece
  pub gave : gives first text now
  pub took : Consumes unread rest text
  pub puts : Puts v [] w [] (flat_map written ps)
  pub none : t.out ≡ []
  pub heard : Heard hinting steps text ps t
  pub many : n ≤ length text

-- what a session leaves that answers so
abbrev pub Lives : {A : Type 0} → (A → List ℕ → A → Type 0) → Hinting → Option ℕ → A → A → Option (List ℕ) → Option (List ℕ) → Bool → Option (List ℕ) → Option (List ℕ) → Result (Unit {0}) RunFault → Type 0
Lives gives hinting steps first now unread rest failed v w r =
    (text : List ℕ) × gives first text now × Consumes unread rest text × Converses hinting steps text v w r × Leaves text rest failed r

-- calls one after the other
abbrev pub Joins : {A : Type 0} → (A → List ℕ → A → Type 0) → Type 0
Joins {A} gives = (a b c : A) (xs ys : List ℕ) → gives a xs b → gives b ys c → gives a (xs ++ ys) c

module _ {A : Type 0} (gives : A → List ℕ → A → Type 0) (hinting : Hinting) (steps : Option ℕ) (first : A) (unread v : Option (List ℕ)) where
  abbrev Has : A → Option (List ℕ) → Option (List ℕ) → KeptTalk → ℕ → Type 0
  Has now rest w t n = HasRead gives hinting steps first now unread rest v w t n

  abbrev Ends : A → Option (List ℕ) → Bool → Option (List ℕ) → Result (Unit {0}) RunFault → Type 0
  Ends now rest failed w r = Lives gives hinting steps first now unread rest failed v w r

  pub read-none : (t : KeptTalk) → gives first [] first → t ≡ record { session = nobody steps; part = []; out = []; is_skipping = false; lines = 0 } →
      HasRead gives hinting steps first first unread unread v v t 0
  read-none t gave is = record {
    text = [];
    ps = [];
    gave = gave;
    took = Consumes-nil unread;
    puts = puts_none v [];
    none = ap (λ (k : KeptTalk). k.out) is;
    heard = heard-none hinting steps t is;
    many = omega arith;
  }

  -- what is written once more was heard
  puts-heard : (w x : Option (List ℕ)) (ps qs : List Piece) (k now : List ℕ) → Puts v [] w [] (flat_map written ps) → k ≡ [] → Puts w k x now (flat_map written qs) →
      Puts v [] x now (flat_map written (ps ++ qs))
  puts-heard w x ps qs k now puts none more =
      subst (λ (l : List ℕ). Puts v [] x now l) (sym (flat_map-append written ps qs))
      (puts_both v w x [] [] now (flat_map written ps) (flat_map written qs) puts (subst (λ (l : List ℕ). Puts w l x now (flat_map written qs)) none more))

  pub read-more : Joins gives → (now next : A) (rest left w x y z : Option (List ℕ)) (s t u : KeptTalk) (bytes : List ℕ) (n : ℕ) → HasRead gives hinting steps first now unread rest v w s n →
      Consumes rest left bytes → gives now bytes next → 0 < length bytes →
      ((qs : List Piece) × Puts w s.out x t.out (flat_map written qs) × GoesOn hinting bytes qs s t) →
      Puts x t.out y [] [] → u ≡ record t { out = [] } → Keeps y z → HasRead gives hinting steps first next unread left v z u (n + 1)
  read-more joins now next rest left w x y z s t u bytes n h took gave some (qs, puts, goes) out is keeps = record {
    text = h.text ++ bytes;
    ps = h.ps ++ qs;
    gave = joins first now next h.text bytes h.gave gave;
    took = Consumes-trans unread rest left h.text bytes h.took took;
    puts = puts_flushed v y z [] [] (flat_map written (h.ps ++ qs))
        (puts-handed v x y [] t.out (flat_map written (h.ps ++ qs)) [] (puts-heard w x h.ps qs s.out t.out h.puts h.none puts) out refl) keeps;
    none = ap (λ (k : KeptTalk). k.out) is;
    heard = heard-free hinting steps (h.text ++ bytes) (h.ps ++ qs) t u is (goes steps h.text h.ps h.heard);
    many = omega (arith, h.many, some, length-append h.text bytes);
  }

  -- all that was said was written
  pub all_written : (w : Option (List ℕ)) (ps : List Piece) → Puts v [] w [] (flat_map written ps) → Appends v w (flat_map written ps)
  unfolding Puts
  all_written w ps puts = writing_done v w (flat_map written ps) (puts v [] (writing_none v))

  appended_cut : (w : Option (List ℕ)) (said : List ℕ) → Appends v w said → IsCut v w said
  unfolding IsCut
  appended_cut w said wrote = (said, [], wrote, sym (append-nil said))

  stopped_cut : (x : Option (List ℕ)) (said : List ℕ) → Stops v [] x said → IsCut v x said
  unfolding Stops
  stopped_cut x said stops = stops v [] (writing_none v)

  -- a call that gave nothing
  gave_none : Joins gives → (now next : A) (text : List ℕ) → gives first text now → gives now [] next → gives first text next
  gave_none joins now next text gave none = subst (λ (l : List ℕ). gives first l next) (append-nil text) (joins first now next text [] gave none)

  -- the reader failed
  pub live-unread : Joins gives → (now next : A) (rest left w : Option (List ℕ)) (failed : Bool) (t : KeptTalk) (n : ℕ) → HasRead gives hinting steps first now unread rest v w t n →
      gives now [] next → Keeps rest left → failed ≡ true → Lives gives hinting steps first next unread left failed v w (Err Read)
  live-unread joins now next rest left w failed t n h gave keeps is = (
    h.text,
    gave_none joins now next h.text h.gave gave,
    Consumes-kept unread rest left h.text h.took keeps,
    (flat_map written h.ps, h.heard.says, all_written w h.ps h.puts),
    inl is,
  )

  -- so many reads
  pub live-long : (now : A) (rest w : Option (List ℕ)) (failed : Bool) (t : KeptTalk) (n : ℕ) → HasRead gives hinting steps first now unread rest v w t n →
      2 ^ 64 - 1 ≤ n → Lives gives hinting steps first now unread rest failed v w (Err Read)
  live-long now rest w failed t n h all = (
    h.text,
    h.gave,
    h.took,
    (flat_map written h.ps, h.heard.says, all_written w h.ps h.puts),
    inr (le_trans all h.many),
  )

  -- memory was refused, or the writer failed, in the midst of bytes that were read
  pub live-half : Joins gives → (now next : A) (rest left w x : Option (List ℕ)) (failed : Bool) (t : KeptTalk) (bytes : List ℕ) (n : ℕ) (e : RunFault) → HasRead gives hinting steps first now unread rest v w t n →
      gives now bytes next → Consumes rest left bytes → failed ≡ false → IsHalfHeard hinting bytes t w x e →
      Lives gives hinting steps first next unread left failed v x (Err e)
  live-half joins now next rest left w x failed t bytes n e h gave took is half =
      let heard = half.1 in let qs = half.3 in
      let said : List ℕ = flat_map written (h.ps ++ qs) in
      let behind : Stops v [] x said =
      subst (λ (l : List ℕ). Stops v [] x l) (sym (flat_map-append written h.ps qs))
      (stops_behind v w x [] [] (flat_map written h.ps) (flat_map written qs) h.puts (subst (λ (l : List ℕ). Stops w l x (flat_map written qs)) h.none half.7)) in
      let some : WritesSome hinting steps (h.text ++ bytes) v x =
      (h.text ++ heard, half.2, said, ap (λ (l : List ℕ). h.text ++ l) half.5 ∙ sym (append_assoc h.text heard half.2), (half.6 steps h.text h.ps h.heard).says, stopped_cut x said behind) in
      by e half.0 (h.text ++ bytes) (joins first now next h.text bytes h.gave gave) (Consumes-trans unread rest left h.text bytes h.took took) some
    where
      by : (f : RunFault) → IsStop f → (text : List ℕ) → gives first text next → Consumes unread left text → WritesSome hinting steps text v x → Lives gives hinting steps first next unread left failed v x (Err f)
      by Memory stop text gave took some = (text, gave, took, some, is)
      by Write stop text gave took some = (text, gave, took, some, is)
      by (Scenario f) stop text gave took some = absurd stop
      by Read stop text gave took some = absurd stop
      by Strange stop text gave took some = absurd stop
      by Gate stop text gave took some = absurd stop

  -- the writer failed behind them
  pub live-cut : Joins gives → (now next : A) (rest left w x y : Option (List ℕ)) (failed : Bool) (s t : KeptTalk) (bytes : List ℕ) (n : ℕ) → HasRead gives hinting steps first now unread rest v w s n →
      gives now bytes next → Consumes rest left bytes → failed ≡ false →
      ((qs : List Piece) × Puts w s.out x t.out (flat_map written qs) × GoesOn hinting bytes qs s t) → IsCut x y t.out →
      Lives gives hinting steps first next unread left failed v y (Err Write)
  live-cut joins now next rest left w x y failed s t bytes n h gave took is (qs, puts, goes) cut =
      live-half joins now next rest left w y failed s bytes n Write h gave took is
      (half-unwritten hinting w x y s t bytes [] (bytes, qs, sym (append-nil bytes), puts, goes) cut)

  -- it couldn't be handed on
  pub live-unflushed : Joins gives → (now next : A) (rest left w x y z : Option (List ℕ)) (failed : Bool) (s t u : KeptTalk) (bytes : List ℕ) (n : ℕ) → HasRead gives hinting steps first now unread rest v w s n →
      Consumes rest left bytes → gives now bytes next → 0 < length bytes → failed ≡ false →
      ((qs : List Piece) × Puts w s.out x t.out (flat_map written qs) × GoesOn hinting bytes qs s t) →
      Puts x t.out y [] [] → u ≡ record t { out = [] } → Keeps y z → Lives gives hinting steps first next unread left failed v z (Err Write)
  live-unflushed joins now next rest left w x y z failed s t u bytes n h took gave some is hears out same keeps =
      let m = read-more joins now next rest left w x y z s t u bytes n h took gave some hears out same keeps in
      (m.text, m.gave, m.took, (m.text, [], flat_map written m.ps, sym (append-nil m.text), m.heard.says, appended_cut z (flat_map written m.ps) (all_written z m.ps m.puts)), is)

  -- ---- no more came
  well : (b : Bool) (last part : List ℕ) → IsKept b last part → b ≡ false → part ≡ [] → last ≡ []
  well false last part kept takes none = sym kept.1 ∙ none
  well true last part kept takes none = absurd (cc)

  cut : (b : Bool) (last part : List ℕ) → IsKept b last part → ((part ≡ [] → ⊥) ⊎ (b ≡ true)) → last ≡ [] → ⊥
  cut false last part kept (inl some) none = some (kept.1 ∙ none)
  cut false last part kept (inr skips) none = absurd (cc)
  cut true last part kept some none = let long = kept.0 in let empty = ap length none in omega (arith, long, empty)

  concluded : (text : List ℕ) (ps : List Piece) (t : KeptTalk) (f : Fault) → (h : Heard hinting steps text ps t) → IsEnding t (Err (Scenario f)) → EndsBy f.cause h.says.last h.says.now
  concluded text ps t f h (line, inl (is, some)) = inl (is, cut t.is_skipping h.says.last t.part h.kept some)
  concluded text ps t f h (line, inr (is, none, takes, lacks)) =
      inr (is, well t.is_skipping h.says.last t.part h.kept takes none, λ closed. lacks (subst AreClosed (sym h.now) closed))

  pub live-ended : Joins gives → (now next : A) (rest left w : Option (List ℕ)) (failed : Bool) (t : KeptTalk) (n : ℕ) (r : Result (Unit {0}) RunFault) → HasRead gives hinting steps first now unread rest v w t n →
      gives now [] next → Consumes rest left [] → IsAtEnd left → failed ≡ false → IsEnding t r → Lives gives hinting steps first next unread left failed v w r
  live-ended joins now next rest left w failed t n r h gave took end is ending =
      by r ending (gave_none joins now next h.text h.gave gave) (subst (Consumes unread left) (append-nil h.text) (Consumes-trans unread rest left h.text [] h.took took))
    where
      by : (q : Result (Unit {0}) RunFault) → IsEnding t q → gives first h.text next → Consumes unread left h.text → Lives gives hinting steps first next unread left failed v w q
      by (Ok x) (none, takes, closed) gave took = (
        h.text,
        gave,
        took,
        (flat_map written h.ps, h.heard.says, (well t.is_skipping h.heard.says.last t.part h.heard.kept takes none, subst AreClosed h.heard.now closed), all_written w h.ps h.puts),
        (end, is),
      )
      by (Err (Scenario f)) ending gave took = (
        h.text,
        gave,
        took,
        (flat_map written h.ps, h.heard.says, (ending.0 ∙ ap next_line h.heard.counted, concluded h.text h.ps t f h.heard ending), all_written w h.ps h.puts),
        (end, is),
      )
      by (Err Read) ending gave took = absurd ending
      by (Err Write) ending gave took = absurd ending
      by (Err Memory) ending gave took = absurd ending
      by (Err Strange) ending gave took = absurd ending
      by (Err Gate) ending gave took = absurd ending
