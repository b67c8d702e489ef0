-- What a session hears of a text.
use Rattle.std.proofs.Common.{◌≡◌, ℕ, take, ◌-◌, ◌+◌, ◌<◌, ◌≤◌, inl, inr, cond, eqb, Bool, true, false, List, [], ◌∷◌, ◌++◌, length, length-append, refl, sym, ap, ◌∙◌, subst, append_assoc, append-nil, arith}
use Rattle.std.specs.Prelude.{◌↔◌, IsTrue, flat_map, Result, Ok, Err, OnOk, Option, Some, None, IsSome}
use Rattle.std.specs.List.{AllByRecursion, onto_first}
use Rattle.std.proofs.Math.Seq.{take-append-add}
use Rattle.std.proofs.lemmas.List.{append_cancel_left, take-append-le}
use Rattle.std.proofs.lemmas.List.Concat.{flat_map-append}
use Rattle.std.proofs.lemmas.Bool.Decides.{Decides-eqb}
use Rattle.control.specs.declared.fault.Cause.{Cause}
use Rattle.control.specs.declared.fault.Cause.TheVariants.{TooLong, NoEnd}
use Rattle.control.proofs.Joining.{some_line, lines-glue, onto, glue}
use Rattle.control.specs.Scenario.{experiments}
use Rattle.control_lines.specs.Entries.{Entry}
use Rattle.control_words.specs.Text.{lines}
use Rattle.session.specs.declared.answer.Answer.TheVariants as answers
use Rattle.session.specs.Effects.{LineDoes}
use Rattle.session.specs.Faults.{IsFaultOf}
use Rattle.session.specs.Lines.{answer_line, comment_of}
use Rattle.session.specs.Sessions.{KeptSession, Piece, IsPlain, TellsAll, Takes, told, written}
use Rattle.alone.specs.declared.fault.RunFault.{RunFault}
use Rattle.alone.specs.declared.fault.RunFault.TheVariants.{Scenario}
use Rattle.alone.specs.Conversations.{AreClosed, Hinting, IsAwaited, IsRefusal, Replies, next_line, nobody, seen_of, with_earlier}
use Rattle.alone.specs.Talks.{KeptTalk, refusal, Say, IsHeard, IsKept, IsReplied, Heard, GoesOn, IsEnding, counted}

-- ---- lines
joined : List (List ℕ) → List ℕ
joined [] = []
joined (l ∷ []) = l
joined (l ∷ m ∷ ls) = l ++ 10 ∷ joined (m ∷ ls)

joined-first : (x : ℕ) (m : List ℕ) (ms : List (List ℕ)) → joined (onto_first x (m ∷ ms)) ≡ x ∷ joined (m ∷ ms)
unfolding joined
joined-first x m [] = refl
joined-first x m (n ∷ ns) = refl

joined-step : (b : Bool) (x : ℕ) (ls : List (List ℕ)) (m : List ℕ) (ms : List (List ℕ)) → ls ≡ m ∷ ms → (b ≡ true → x ≡ 10) →
    joined (cond b ([] ∷ ls) (onto_first x ls)) ≡ x ∷ joined ls
unfolding joined
joined-step true x ls m ms is ten =
    subst (λ (l : List (List ℕ)). joined ([] ∷ l) ≡ x ∷ joined l) (sym is) (ap (λ n. n ∷ joined (m ∷ ms)) (sym (ten refl)))
joined-step false x ls m ms is ten =
    subst (λ (l : List (List ℕ)). joined (onto_first x l) ≡ x ∷ joined l) (sym is) (joined-first x m ms)

joined-lines : (xs : List ℕ) → joined (lines xs) ≡ xs
unfolding joined
joined-lines [] = refl
joined-lines (x ∷ xs) =
    let l = some_line xs in
    joined-step (eqb x 10) x (lines xs) l.0 l.1 l.2 (Decides-eqb x 10).0 ∙ ap (λ (r : List ℕ). x ∷ r) (joined-lines xs)

first_of : List (List ℕ) → List ℕ
first_of [] = []
first_of (l ∷ ls) = l

clean-step : (c : Bool) (b : ℕ) (all : List (List ℕ)) (l : List ℕ) (ls : List (List ℕ)) → eqb b 10 ≡ c → all ≡ l ∷ ls → lines l ≡ l ∷ [] →
    lines (first_of (cond c ([] ∷ all) (onto_first b all))) ≡ first_of (cond c ([] ∷ all) (onto_first b all)) ∷ []
unfolding first_of
clean-step true b all l ls e is h = refl
clean-step false b all l ls e is h =
    subst (λ (a : List (List ℕ)). lines (first_of (onto_first b a)) ≡ first_of (onto_first b a) ∷ []) (sym is)
    (ap (λ c. cond c ([] ∷ lines l) (onto_first b (lines l))) e ∙ ap (onto_first b) h)

clean : (bs : List ℕ) → lines (first_of (lines bs)) ≡ first_of (lines bs) ∷ []
unfolding first_of
clean [] = refl
clean (b ∷ bs) =
    let l = some_line bs in
    clean-step (eqb b 10) b (lines bs) l.0 l.1 refl l.2 (subst (λ (m : List ℕ). lines m ≡ m ∷ []) (ap first_of l.2) (clean bs))

-- a first line has no line feed, and what follows it stands behind one
pub parted : (bs x y : List ℕ) → lines bs ≡ x ∷ lines y → (bs ≡ x ++ 10 ∷ y) × (lines x ≡ x ∷ [])
unfolding joined first_of
parted bs x y h =
    let l = some_line y in (
      sym (joined-lines bs) ∙ ap joined h ∙ ap (λ (ls : List (List ℕ)). joined (x ∷ ls)) l.2
          ∙ ap (λ (r : List ℕ). x ++ 10 ∷ r) (ap joined (sym l.2) ∙ joined-lines y),
      subst (λ (m : List ℕ). lines m ≡ m ∷ []) (ap first_of h) (clean bs),
    )

onto-lines : (p ys : List ℕ) → lines p ≡ p ∷ [] → lines (p ++ ys) ≡ onto p (lines ys)
onto-lines p ys h = lines-glue p ys ∙ ap (λ (l : List (List ℕ)). glue l (lines ys)) h

glue-earlier : (done : List (List ℕ)) (m : List ℕ) (ms qs : List (List ℕ)) → glue (with_earlier done (m ∷ ms)) qs ≡ with_earlier done (glue (m ∷ ms) qs)
glue-earlier [] m ms qs = refl
glue-earlier (line ∷ done) m ms qs = glue-earlier done line (m ∷ ms) qs

-- the lines of a text and of bytes behind it
lines-more : (text bytes : List ℕ) (done : List (List ℕ)) (last : List ℕ) → lines text ≡ with_earlier done (last ∷ []) →
    lines (text ++ bytes) ≡ with_earlier done (onto last (lines bytes))
lines-more text bytes done last is =
    lines-glue text bytes ∙ ap (λ (l : List (List ℕ)). glue l (lines bytes)) is ∙ glue-earlier done last [] (lines bytes)

lines-open : (text bytes : List ℕ) (done : List (List ℕ)) (last : List ℕ) → lines text ≡ with_earlier done (last ∷ []) → lines bytes ≡ bytes ∷ [] →
    lines (text ++ bytes) ≡ with_earlier done ((last ++ bytes) ∷ [])
lines-open text bytes done last is no_feed =
    lines-more text bytes done last is ∙ ap (λ (l : List (List ℕ)). with_earlier done (onto last l)) no_feed

lines-fed : (text rest : List ℕ) (done : List (List ℕ)) (last : List ℕ) → lines text ≡ with_earlier done (last ∷ []) → lines rest ≡ rest ∷ [] →
    lines (text ++ (rest ++ 10 ∷ [])) ≡ with_earlier ((last ++ rest) ∷ done) ([] ∷ [])
lines-fed text rest done last is no_feed =
    lines-more text (rest ++ 10 ∷ []) done last is
    ∙ ap (λ (l : List (List ℕ)). with_earlier done (onto last l)) (onto-lines rest (10 ∷ []) no_feed)
    ∙ ap (λ (l : List ℕ). with_earlier done ((last ++ l) ∷ [] ∷ [])) (append-nil rest)

-- ---- what is heard
first_half : {A : Type 0} (P : A → Type 0) (xs ys : List A) → AllByRecursion P (xs ++ ys) → AllByRecursion P xs
first_half P [] ys h = tt
first_half P (x ∷ xs) ys h = (h.0, first_half P xs ys h.1)

second_half : {A : Type 0} (P : A → Type 0) (xs ys : List A) → AllByRecursion P (xs ++ ys) → AllByRecursion P ys
second_half P [] ys h = h
second_half P (x ∷ xs) ys h = second_half P xs ys h.1

heard-line : (line : List ℕ) (done : List (List ℕ)) (ps qs : List Piece) (s u : KeptSession) → IsHeard done ps s → Takes line qs s u → IsHeard (line ∷ done) (ps ++ qs) u
heard-line line done ps qs s u h t on [] say turns plain = absurd say
heard-line line done ps qs s u h t on (e ∷ before) say (was, turn, early, turns) plain =
    subst (λ (l : List ℕ). TellsAll on (experiments (e ∷ before)) l u) (sym (flat_map-append told ps qs))
    (t.hears (second_half IsPlain ps qs plain) was on e before (flat_map told ps) turn early say.0
    (h was before say.1 turns (first_half IsPlain ps qs plain)))

pub goes-both : (hinting : Hinting) (a b : List ℕ) (ps qs : List Piece) (r s t : KeptTalk) → GoesOn hinting a ps r s → GoesOn hinting b qs s t → GoesOn hinting (a ++ b) (ps ++ qs) r t
goes-both hinting a b ps qs r s t f g steps text first h =
    subst (λ (l : List ℕ). Heard hinting steps l (first ++ (ps ++ qs)) t) (append_assoc text a b)
    (subst (λ (l : List Piece). Heard hinting steps ((text ++ a) ++ b) l t) (append_assoc first ps qs) (g steps (text ++ a) (first ++ ps) (f steps text first h)))

pub never : (b : Bool) → b ≡ true → b ≡ false → ⊥
never true e f = absurd (cc)
never false e f = absurd (cc)

too_far : (n : ℕ) → n ≤ 512 → 512 < n → ⊥
too_far n few many = omega (arith, few, many)

-- ---- nothing more
pub goes-none : (hinting : Hinting) (s : KeptTalk) → GoesOn hinting [] [] s s
goes-none hinting s steps text ps h =
    subst (λ (l : List ℕ). Heard hinting steps l (ps ++ []) s) (sym (append-nil text))
    (subst (λ (l : List Piece). Heard hinting steps text l s) (sym (append-nil ps)) h)

-- ---- of a line that isn't whole
is_long : (hinting : Hinting) (last part said : List ℕ) (b : Bool) → b ≡ true → IsKept b last part → IsAwaited hinting last said →
    (512 < length last) × (part ≡ []) × IsRefusal hinting last TooLong said
is_long hinting last part said true e kept (inl few) = absurd (too_far (length last) few.0 kept.0)
is_long hinting last part said true e kept (inr many) = (kept.0, kept.1, many.1)
is_long hinting last part said false e kept awaited = absurd (cc)

is_short : (hinting : Hinting) (last part said : List ℕ) (b : Bool) → b ≡ false → IsKept b last part → IsAwaited hinting last said →
    (length last ≤ 512) × (part ≡ last) × (said ≡ [])
is_short hinting last part said false e kept (inl few) = (kept.0, kept.1, few.1)
is_short hinting last part said false e kept (inr many) = absurd (too_far (length last) kept.0 many.0)
is_short hinting last part said true e kept awaited = absurd (cc)

kept_long : (b : Bool) (last part : List ℕ) → b ≡ true → 512 < length last → part ≡ [] → IsKept b last part
kept_long true last part e many none = (many, none)
kept_long false last part e many none = absurd (cc)

kept_short : (b : Bool) (last part : List ℕ) → b ≡ false → length last ≤ 512 → part ≡ last → IsKept b last part
kept_short false last part e few is = (few, is)
kept_short true last part e few is = absurd (cc)

longer : (last bytes : List ℕ) → 512 < length last → 512 < length (last ++ bytes)
longer last bytes many = omega (arith, many, length-append last bytes)

-- the rest of one that is too long is passed over
pub goes-skipping : (hinting : Hinting) (bytes : List ℕ) (s : KeptTalk) → s.is_skipping ≡ true → lines bytes ≡ bytes ∷ [] → GoesOn hinting bytes [] s s
goes-skipping hinting bytes s skips no_feed steps text ps h =
    let c = h.says in
    let w = is_long hinting c.last s.part c.more s.is_skipping skips h.kept c.awaited in
    let may = subst (λ (l : List ℕ). hinting l TooLong w.2.0) (sym (take-append-le 513 c.last bytes w.0)) w.2.1 in
    subst (λ (l : List Piece). Heard hinting steps (text ++ bytes) l s) (sym (append-nil ps)) (record {
      says = record {
        done = c.done;
        last = c.last ++ bytes;
        lines_are = lines-open text bytes c.done c.last c.lines_are no_feed;
        now = c.now;
        first = c.first;
        more = c.more;
        replied = c.replied;
        awaited = inr (longer c.last bytes w.0, (w.2.0, may, w.2.2));
        said_is = c.said_is;
      };
      now = h.now;
      counted = h.counted;
      kept = kept_long s.is_skipping (c.last ++ bytes) s.part skips (longer c.last bytes w.0) w.1;
      heard = h.heard;
      takes = h.takes;
    })

-- so much of it is seen
seen-long : (part last bytes : List ℕ) → part ≡ last → length last ≤ 512 → part ++ take (513 - length part) bytes ≡ take 513 (last ++ bytes)
seen-long part last bytes is few =
    let n = length last in
    let all : n + (513 - n) ≡ 513 = omega (arith, few) in
    ap (λ (l : List ℕ). l ++ take (513 - length l) bytes) is
    ∙ sym (take-append-add last bytes (513 - n))
    ∙ ap (λ (m : ℕ). take m (last ++ bytes)) all

-- what is said of one that becomes too long
said_refused : (first more said hint : List ℕ) → said ≡ first ++ more → more ≡ [] →
    said ++ flat_map written (refusal hint TooLong) ≡ first ++ (comment_of hint ++ answer_line (answers.Fault TooLong))
said_refused first more said hint is none =
    ap (λ (l : List ℕ). l ++ flat_map written (refusal hint TooLong)) (is ∙ ap (λ (l : List ℕ). first ++ l) none ∙ append-nil first)
    ∙ ap (λ (l : List ℕ). first ++ (comment_of hint ++ l)) (append-nil (answer_line (answers.Fault TooLong)))

not_plain : (hint : List ℕ) → AllByRecursion IsPlain (refusal hint TooLong) → ⊥
not_plain hint plain = plain.1.0 tt

goes-long : (hinting : Hinting) (hint bytes : List ℕ) (s t : KeptTalk) → s.is_skipping ≡ false → lines bytes ≡ bytes ∷ [] → 512 < length s.part + length bytes →
    hinting (s.part ++ take (513 - length s.part) bytes) TooLong hint → t.session ≡ s.session → t.lines ≡ s.lines → t.part ≡ [] → t.is_skipping ≡ true → GoesOn hinting bytes (refusal hint TooLong) s t
goes-long hinting hint bytes s t takes no_feed many may session lines_are none skips steps text ps h =
    let c = h.says in
    let w = is_short hinting c.last s.part c.more s.is_skipping takes h.kept c.awaited in
    let long : 512 < length (c.last ++ bytes) = omega (arith, many, length-append c.last bytes, ap length w.1) in
    record {
      says = record {
        done = c.done;
        last = c.last ++ bytes;
        lines_are = lines-open text bytes c.done c.last c.lines_are no_feed;
        now = c.now;
        first = c.first;
        more = comment_of hint ++ answer_line (answers.Fault TooLong);
        replied = c.replied;
        awaited = inr (long, (hint, subst (λ (l : List ℕ). hinting l TooLong hint) (seen-long s.part c.last bytes w.1 w.0) may, refl));
        said_is = flat_map-append written ps (refusal hint TooLong) ∙ said_refused c.first c.more (flat_map written ps) hint c.said_is w.2;
      };
      now = session ∙ h.now;
      counted = lines_are ∙ h.counted;
      kept = kept_long t.is_skipping (c.last ++ bytes) t.part skips long none;
      heard = λ on before say turns plain. absurd (not_plain hint (second_half IsPlain ps (refusal hint TooLong) plain));
      takes = λ plain. absurd (not_plain hint (second_half IsPlain ps (refusal hint TooLong) plain));
    }

-- bytes without a line feed are added to the part of a line
pub goes-added : (hinting : Hinting) (bytes : List ℕ) (s t : KeptTalk) → s.is_skipping ≡ false → lines bytes ≡ bytes ∷ [] → t.part ≡ s.part ++ bytes → length t.part ≤ 512 →
    t.session ≡ s.session → t.lines ≡ s.lines → t.is_skipping ≡ s.is_skipping → GoesOn hinting bytes [] s t
goes-added hinting bytes s t takes no_feed part short session lines_are skipping steps text ps h =
    let c = h.says in
    let w = is_short hinting c.last s.part c.more s.is_skipping takes h.kept c.awaited in
    let now : t.part ≡ c.last ++ bytes = part ∙ ap (λ (l : List ℕ). l ++ bytes) w.1 in
    let few : length (c.last ++ bytes) ≤ 512 = subst (λ (l : List ℕ). length l ≤ 512) now short in
    subst (λ (l : List Piece). Heard hinting steps (text ++ bytes) l t) (sym (append-nil ps)) (record {
      says = record {
        done = c.done;
        last = c.last ++ bytes;
        lines_are = lines-open text bytes c.done c.last c.lines_are no_feed;
        now = c.now;
        first = c.first;
        more = c.more;
        replied = c.replied;
        awaited = inl (few, w.2);
        said_is = c.said_is;
      };
      now = session ∙ h.now;
      counted = lines_are ∙ h.counted;
      kept = kept_short t.is_skipping (c.last ++ bytes) t.part (skipping ∙ takes) few now;
      heard = subst (λ (u : KeptSession). IsHeard c.done ps u) (sym session) h.heard;
      takes = λ plain. skipping ∙ takes;
    })

-- ---- of a whole line
-- one that isn't too long is answered
replied : (hinting : Hinting) (steps : Option ℕ) (text whole line : List ℕ) (ps qs : List Piece) (s t : KeptTalk) → (h : Heard hinting steps text ps s) →
    lines whole ≡ with_earlier (line ∷ h.says.done) ([] ∷ []) → h.says.more ≡ [] → IsReplied hinting line qs s.session t.session →
    t.part ≡ [] → t.is_skipping ≡ false → t.lines ≡ next_line s.lines → Heard hinting steps whole (ps ++ qs) t
replied hinting steps text whole line ps qs s t h lines_are none is part takes count =
    let c = h.says in
    record {
      says = record {
        done = line ∷ c.done;
        last = [];
        lines_are = lines_are;
        now = t.session;
        first = c.first ++ flat_map written qs;
        more = [];
        replied = (c.first, flat_map written qs, c.now, refl, c.replied, subst (λ (u : KeptSession). Replies hinting line (flat_map written qs) u t.session) h.now is.1);
        awaited = inl (omega arith, refl);
        said_is = flat_map-append written ps qs
            ∙ ap (λ (l : List ℕ). l ++ flat_map written qs) (c.said_is ∙ ap (λ (l : List ℕ). c.first ++ l) none ∙ append-nil c.first)
            ∙ sym (append-nil (c.first ++ flat_map written qs));
      };
      now = refl;
      counted = count ∙ ap next_line h.counted;
      kept = kept_short t.is_skipping [] t.part takes (omega arith) part;
      heard = heard-line line c.done ps qs s.session t.session h.heard is.0;
      takes = λ plain. takes;
    }

-- the line came in parts
pub goes-answered : (hinting : Hinting) (qs : List Piece) (s t : KeptTalk) → s.is_skipping ≡ false → IsReplied hinting s.part qs s.session t.session →
    t.part ≡ [] → t.is_skipping ≡ s.is_skipping → t.lines ≡ s.lines → GoesOn hinting (10 ∷ []) qs s (counted t)
goes-answered hinting qs s t takes is part skipping count steps text ps h =
    let c = h.says in
    let w = is_short hinting c.last s.part c.more s.is_skipping takes h.kept c.awaited in
    replied hinting steps text (text ++ 10 ∷ []) s.part ps qs s (counted t) h
    (lines-fed text [] c.done c.last c.lines_are refl ∙ ap (λ (l : List ℕ). with_earlier (l ∷ c.done) ([] ∷ [])) (append-nil c.last ∙ sym w.1))
    w.2 is part (skipping ∙ takes) (ap next_line count)

-- the line came at once
pub goes-line : (hinting : Hinting) (line : List ℕ) (qs : List Piece) (s t : KeptTalk) → lines line ≡ line ∷ [] → s.part ≡ [] → s.is_skipping ≡ false →
    IsReplied hinting line qs s.session t.session → t.part ≡ s.part → t.is_skipping ≡ s.is_skipping → t.lines ≡ s.lines →
    GoesOn hinting (line ++ 10 ∷ []) qs s (counted t)
goes-line hinting line qs s t no_feed none takes is part skipping count steps text ps h =
    let c = h.says in
    let w = is_short hinting c.last s.part c.more s.is_skipping takes h.kept c.awaited in
    replied hinting steps text (text ++ (line ++ 10 ∷ [])) line ps qs s (counted t) h
    (lines-fed text line c.done c.last c.lines_are no_feed ∙ ap (λ (l : List ℕ). with_earlier ((l ++ line) ∷ c.done) ([] ∷ [])) (sym w.1 ∙ none))
    w.2 is (part ∙ none) (skipping ∙ takes) (ap next_line count)

-- the line feed came of one that was too long, and refused
pub goes-past : (hinting : Hinting) (s t : KeptTalk) → s.is_skipping ≡ true → t.session ≡ s.session → t.part ≡ s.part → t.is_skipping ≡ false → t.lines ≡ s.lines →
    GoesOn hinting (10 ∷ []) [] s (counted t)
goes-past hinting s t skips session part takes count steps text ps h =
    let c = h.says in
    let w = is_long hinting c.last s.part c.more s.is_skipping skips h.kept c.awaited in
    let line : List ℕ = c.last in
    subst (λ (l : List Piece). Heard hinting steps (text ++ 10 ∷ []) l (counted t)) (sym (append-nil ps)) (record {
      says = record {
        done = line ∷ c.done;
        last = [];
        lines_are = lines-fed text [] c.done c.last c.lines_are refl ∙ ap (λ (l : List ℕ). with_earlier (l ∷ c.done) ([] ∷ [])) (append-nil c.last);
        now = c.now;
        first = c.first ++ c.more;
        more = [];
        replied = (c.first, c.more, c.now, refl, c.replied, (Some TooLong, inl (w.0, refl), (w.2, refl)));
        awaited = inl (omega arith, refl);
        said_is = c.said_is ∙ sym (append-nil (c.first ++ c.more));
      };
      now = session ∙ h.now;
      counted = ap next_line (count ∙ h.counted);
      kept = kept_short t.is_skipping [] t.part takes (omega arith) (part ∙ w.1);
      heard = λ on before say turns plain. absurd (never s.is_skipping skips (h.takes plain));
      takes = λ plain. takes;
    })

-- nothing was heard yet
begins : (steps : Option ℕ) (on : Bool) (before : List Entry) → Say [] before → false ≡ on → TellsAll on (experiments before) [] (nobody steps)
begins steps on [] say off = record { stands = []; experiments_are = refl; text_is = refl; opened_are = refl; each = tt; last = refl; traces = off }
begins steps on (e ∷ before) say off = absurd say

pub heard-none : (hinting : Hinting) (steps : Option ℕ) (t : KeptTalk) → t ≡ record { session = nobody steps; part = []; out = []; is_skipping = false; lines = 0 } → Heard hinting steps [] [] t
heard-none hinting steps t is = subst (Heard hinting steps [] []) (sym is) (record {
  says = record {
    done = [];
    last = [];
    lines_are = refl;
    now = nobody steps;
    first = [];
    more = [];
    replied = (refl, refl);
    awaited = inl (omega arith, refl);
    said_is = refl;
  };
  now = refl;
  counted = refl;
  kept = (omega arith, refl);
  heard = λ on before say turns plain. begins steps on before say turns;
  takes = λ plain. refl;
})

-- what isn't written yet is no matter
pub heard-free : (hinting : Hinting) (steps : Option ℕ) (text : List ℕ) (ps : List Piece) (t u : KeptTalk) → u ≡ record t { out = [] } → Heard hinting steps text ps t → Heard hinting steps text ps u
heard-free hinting steps text ps t u is h =
    subst (Heard hinting steps text ps) (sym is) (record { says = h.says; now = h.now; counted = h.counted; kept = h.kept; heard = h.heard; takes = h.takes })

-- ---- what the calls answer
-- a line that isn't taken isn't plain
pub takes-refusal : (line hint : List ℕ) (cause : Cause) (s t : KeptSession) → Takes line (refusal hint cause) s t
takes-refusal line hint cause s t = record { hears = λ plain. absurd (plain.1.0 tt) }

pub taken-replies : (hinting : Hinting) (line before after : List ℕ) (f : Option Cause) (old new : KeptSession) → f ≡ None → IsFaultOf line old f →
    (f ≡ None → (ps : List Piece) × (after ≡ before ++ flat_map written ps) × Takes line ps old new) →
    (f ≡ None → (said : List ℕ) × (after ≡ before ++ said) × LineDoes line said old new) →
    (qs : List Piece) × (after ≡ before ++ flat_map written qs) × IsReplied hinting line qs old new
taken-replies hinting line before after f old new none is takes does =
    let t = takes none in
    let d = does none in
    let said : d.0 ≡ flat_map written t.0 = append_cancel_left before d.0 (flat_map written t.0) (sym d.1 ∙ t.1) in
    (t.0, t.1, (t.2, (None, subst (IsFaultOf line old) none is, subst (λ (l : List ℕ). LineDoes line l old new) said d.2)))

pub refused-replies : (hinting : Hinting) (line before after out : List ℕ) (f : Option Cause) (cause : Cause) (old new : KeptSession) (r : Result (Unit {0}) RunFault) → f ≡ Some cause → IsFaultOf line old f →
    (IsSome f → (new ≡ old) × (after ≡ before)) → OnOk r ((hint : List ℕ) × hinting (seen_of line cause) cause hint × (out ≡ after ++ flat_map written (refusal hint cause))) →
    OnOk r ((qs : List Piece) × (out ≡ before ++ flat_map written qs) × IsReplied hinting line qs old new)
refused-replies hinting line before after out f cause old new (Ok x) some is same (hint, may, wrote) =
    let stays = same (subst IsSome (sym some) refl) in
    let said = ap (λ (l : List ℕ). comment_of hint ++ l) (append-nil (answer_line (answers.Fault cause))) in (
      refusal hint cause,
      wrote ∙ ap (λ (l : List ℕ). l ++ flat_map written (refusal hint cause)) stays.1,
      (takes-refusal line hint cause old new, (Some cause, subst (IsFaultOf line old) some is, ((hint, may, said), stays.0))),
    )
refused-replies hinting line before after out f cause old new (Err e) some is same said = said

pub said-long : (hinting : Hinting) (bytes : List ℕ) (s t : KeptTalk) (r : Result (Unit {0}) RunFault) → s.is_skipping ≡ false → lines bytes ≡ bytes ∷ [] → 512 < length s.part + length bytes →
    OnOk r ((hint : List ℕ) × hinting (s.part ++ take (513 - length s.part) bytes) TooLong hint × (t.out ≡ s.out ++ flat_map written (refusal hint TooLong))) →
    OnOk r (t ≡ record s { part = []; out = t.out; is_skipping = true }) →
    OnOk r ((qs : List Piece) × (t.out ≡ s.out ++ flat_map written qs) × GoesOn hinting bytes qs s t)
said-long hinting bytes s t (Ok x) takes no_feed many (hint, may, wrote) is = (
  refusal hint TooLong,
  wrote,
  goes-long hinting hint bytes s t takes no_feed many may (ap (λ (k : KeptTalk). k.session) is) (ap (λ (k : KeptTalk). k.lines) is) (ap (λ (k : KeptTalk). k.part) is)
      (ap (λ (k : KeptTalk). k.is_skipping) is),
)
said-long hinting bytes s t (Err e) takes no_feed many says is = says

pub said-line : (hinting : Hinting) (line : List ℕ) (s t : KeptTalk) (r : Result (Unit {0}) RunFault) → lines line ≡ line ∷ [] → s.part ≡ [] → s.is_skipping ≡ false →
    OnOk r ((qs : List Piece) × (t.out ≡ s.out ++ flat_map written qs) × IsReplied hinting line qs s.session t.session) →
    OnOk r ((t.part ≡ s.part) × (t.is_skipping ≡ s.is_skipping) × (t.lines ≡ s.lines)) →
    OnOk r ((qs : List Piece) × (t.out ≡ s.out ++ flat_map written qs) × GoesOn hinting (line ++ 10 ∷ []) qs s (counted t))
said-line hinting line s t (Ok x) no_feed none takes (qs, wrote, is) same =
    (qs, wrote, goes-line hinting line qs s t no_feed none takes is same.0 same.1 same.2)
said-line hinting line s t (Err e) no_feed none takes h same = h

pub said-part : (hinting : Hinting) (rest : List ℕ) (ps : List Piece) (s t u : KeptTalk) (r : Result (Unit {0}) RunFault) →
    t.out ≡ s.out ++ flat_map written ps → GoesOn hinting rest ps s t → t.is_skipping ≡ false →
    OnOk r ((qs : List Piece) × (u.out ≡ t.out ++ flat_map written qs) × IsReplied hinting t.part qs t.session u.session) →
    OnOk r (u.part ≡ []) → OnOk r ((u.is_skipping ≡ t.is_skipping) × (u.lines ≡ t.lines)) →
    OnOk r ((qs : List Piece) × (u.out ≡ s.out ++ flat_map written qs) × GoesOn hinting (rest ++ 10 ∷ []) qs s (counted u))
said-part hinting rest ps s t u (Ok x) wrote goes takes (qs, more, is) part same = (
  ps ++ qs,
  more ∙ ap (λ (l : List ℕ). l ++ flat_map written qs) wrote ∙ append_assoc s.out (flat_map written ps) (flat_map written qs)
      ∙ ap (λ (l : List ℕ). s.out ++ l) (sym (flat_map-append written ps qs)),
  goes-both hinting rest (10 ∷ []) ps qs s t (counted u) goes (goes-answered hinting qs t u takes is part same.0 same.1),
)
said-part hinting rest ps s t u (Err e) wrote goes takes h part same = h

pub said-past : (hinting : Hinting) (rest : List ℕ) (ps : List Piece) (s t u : KeptTalk) → GoesOn hinting rest ps s t → t.is_skipping ≡ true →
    u ≡ record t { is_skipping = false } → GoesOn hinting (rest ++ 10 ∷ []) ps s (counted u)
said-past hinting rest ps s t u goes skips is =
    subst (λ (l : List Piece). GoesOn hinting (rest ++ 10 ∷ []) l s (counted u)) (append-nil ps)
    (goes-both hinting rest (10 ∷ []) ps [] s t (counted u) goes (goes-past hinting t u skips
    (ap (λ (k : KeptTalk). k.session) is) (ap (λ (k : KeptTalk). k.part) is) (ap (λ (k : KeptTalk). k.is_skipping) is) (ap (λ (k : KeptTalk). k.lines) is)))

-- an experiment has no end
pub ends-open : (t s : KeptTalk) (whole : Bool) (line : ℕ) → s ≡ t → line ≡ next_line s.lines → s.part ≡ [] → s.is_skipping ≡ false → (IsTrue whole ↔ AreClosed s.session) → whole ≡ false →
    IsEnding t (Err (Scenario (record { line = line; cause = NoEnd })))
ends-open t s whole line is at none takes closes lacks =
    subst (λ (u : KeptTalk). IsEnding u (Err (Scenario (record { line = line; cause = NoEnd })))) is (at, inr (refl, none, takes, λ closed. absurd (never whole (closes.1 closed) lacks)))
