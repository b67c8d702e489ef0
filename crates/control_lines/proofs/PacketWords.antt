-- The words of a line, read from the front.
use Rattle.std.proofs.Common.{◌≡◌, ℕ, ◌+◌, ◌-◌, ◌*◌, ◌^◌, ◌<◌, ◌≤◌, ◌&&◌, eqb, not, Bool, true, false, cond, List, [], ◌∷◌, ◌++◌, length, get_or, take, drop, min, Option, Some, None, refl, sym, ap, ap₂, ◌∙◌, arith, lit<, inl, inr}
use Rattle.std.specs.List.{list_all, filter, All}
use Rattle.std.specs.Char.{is_ascii_digit}
use Rattle.std.proofs.Math.Nat.{pow-le-pow_right}
use Rattle.std.proofs.lemmas.Nat.{pow-add}
use Rattle.std.proofs.lemmas.Bool.{and_parts, and_from, or_cases, or_left, eqb-true, leb-true, le-leb, le-ltb, ne_eqb, not-true, not_from_false, cond-true, cond-false}
use Rattle.std.proofs.lemmas.Option.{same_Some}
use Rattle.std.proofs.lemmas.List.{take_more, take-append-drop, take-take, length-take, length-take-le, get_or-take, append_assoc, append-nil, drop_more, take_rest}
use Rattle.std.proofs.lemmas.List.Folds.{list_all-append}
use Rattle.std.proofs.lemmas.List.Sums.{AllPass-from_list_all, list_all-from_AllPass}
use Rattle.std.proofs.lemmas.List.Splits.{slice_split_none, slice_split_at}
use Rattle.control_words.specs.Text.{words, parts, is_word}
use Rattle.control_words.specs.Numbers.{digits_after, number_of, moment_of}
use Rattle.control_words.specs.Addresses.{address_of}
use Rattle.control_words.specs.declared.raw.RawAddress.{RawAddress}
use Rattle.control_lines.specs.Ranges.{within, address_within}
use Rattle.control_lines.specs.Entries.{is_printable}
use Rattle.control_lines.specs.PacketLine.{is_address_byte, IsNumber, IsAddress, SpellsMoment, Leads, Takes}

-- ---- digits
pub open_cond : {A : Type 0} (b : Bool) (o : Option A) (a : A) → cond b o None ≡ Some a → (b ≡ true) × (o ≡ Some a)
open_cond true o a e = (refl, e)
open_cond false o a e = absurd cc

digits_more : (xs : List ℕ) (n m c : ℕ) → digits_after n xs ≡ Some m → is_ascii_digit c ≡ true → digits_after n (xs ++ c ∷ []) ≡ Some (m * 10 + (c - 48))
digits_more [] n m c e d = cond-true _ _ _ d ∙ ap (λ k. Some (k * 10 + (c - 48))) (same_Some n m e)
digits_more (x ∷ xs) n m c e d =
    let h = open_cond (is_ascii_digit x) (digits_after (n * 10 + (x - 48)) xs) m e in
    cond-true _ _ _ h.0 ∙ digits_more xs (n * 10 + (x - 48)) m c h.1 d

digits_next : (text : List ℕ) (i n : ℕ) → i < length text → digits_after 0 (take i text) ≡ Some n → is_ascii_digit (get_or text i 0) ≡ true → digits_after 0 (take (i + 1) text) ≡ Some (n * 10 + (get_or text i 0 - 48))
digits_next text i n lt e d = ap (digits_after 0) (take_more text i 0 lt) ∙ digits_more (take i text) 0 n (get_or text i 0) e d

pub digits_step : (text : List ℕ) (i j n d : ℕ) → i ≡ j → j < length text → digits_after 0 (take i text) ≡ Some n → is_ascii_digit (get_or text j 0) ≡ true → d ≡ get_or text j 0 - 48 → digits_after 0 (take (i + 1) text) ≡ Some (n * 10 + d)
digits_step text i j n d same lt e digit is =
    ap (λ (k : ℕ). digits_after 0 (take (k + 1) text)) same ∙ (digits_next text j n lt (ap (λ (k : ℕ). digits_after 0 (take k text)) (sym same) ∙ e) digit ∙ ap (λ (m : ℕ). Some (n * 10 + m)) (sym is))

pub digit_bound : (c : ℕ) → is_ascii_digit c ≡ true → (48 ≤ c) × (c ≤ 57)
digit_bound c e = let h = and_parts _ _ e in (leb-true 48 c h.0, leb-true c 57 h.1)

pub small_next : (n i d : ℕ) → n < 10 ^ i → d ≤ 9 → n * 10 + d < 10 ^ (i + 1)
small_next n i d lt le = let e : 10 ^ (i + 1) ≡ 10 ^ i * 10 = pow-add 10 i 1 in omega (arith, e, lt, le)

-- below 10 ^ 18 before the last digit
pub small : (n i : ℕ) → n < 10 ^ i → i < 19 → n < 1000000000000000000
small n i lt h =
    let le : 10 ^ i ≤ 10 ^ 18 = pow-le-pow_right {n = 10} (lit< tt) {i = i} {j = 18} (omega arith) in
    omega (arith, le, lt)

all_digits : (xs : List ℕ) (n m : ℕ) → digits_after n xs ≡ Some m → list_all is_ascii_digit xs ≡ true
all_digits [] n m e = refl
all_digits (x ∷ xs) n m e =
    let h = open_cond (is_ascii_digit x) (digits_after (n * 10 + (x - 48)) xs) m e in
    and_from _ _ h.0 (all_digits xs (n * 10 + (x - 48)) m h.1)

pub number_is : (front : List ℕ) (n : ℕ) → 0 < length front → length front ≤ 20 → (eqb (get_or front 0 0) 48 && not (eqb (length front) 1)) ≡ false → digits_after 0 front ≡ Some n → number_of front ≡ Some n
unfolding number_of
number_is front n some few lead e =
    cond-false _ _ _ (ne_eqb (length front) 0 (λ z. omega (arith, z, some))) ∙ (cond-false _ _ _ (le-ltb 20 (length front) few) ∙ (cond-false _ _ _ lead ∙ e))

-- a number in front, as it is found among the first few bytes
pub number_leads : (text few rest : List ℕ) (k n count : ℕ) → few ≡ take k text → k ≤ 19 → count ≤ length few → digits_after 0 (take count few) ≡ Some n → 0 < count
    → (eqb (get_or text 0 0) 48 && not (eqb count 1)) ≡ false → rest ≡ drop count text → Leads IsNumber is_ascii_digit text n rest
number_leads text few rest k n count is-few le inside value some lead is-rest =
    let bound : count ≤ min k (length text) = omega (arith, ap length is-few, length-take k text, inside) in
    let inside' : count ≤ length text = omega (arith, bound) in
    let few' : count ≤ k = omega (arith, bound) in
    let long : length (take count text) ≡ count = length-take-le count text inside' in
    let same : take count few ≡ take count text = ap (take count) is-few ∙ take-take count k text few' in
    let value' : digits_after 0 (take count text) ≡ Some n = ap (digits_after 0) (sym same) ∙ value in
    let lead' : (eqb (get_or (take count text) 0 0) 48 && not (eqb (length (take count text)) 1)) ≡ false = ap₂ (λ (a b : ℕ). eqb a 48 && not (eqb b 1)) (get_or-take count text 0 0 some) long ∙ lead in
    record {
      front = take count text;
      joined = sym (take-append-drop count text) ∙ ap (λ r. take count text ++ r) (sym is-rest);
      is = number_is (take count text) n (omega (arith, long, some)) (omega (arith, long, few', le)) lead' value';
      all = all_digits (take count text) 0 n value';
    }

-- ---- words
pub behind_is : (text : List ℕ) (b : ℕ) → 0 < length text → get_or text 0 0 ≡ b → text ≡ b ∷ take (length text - 1) (drop 1 text)
behind_is text b some is = drop_more text 0 0 some ∙ ap₂ (λ (x : ℕ) (xs : List ℕ). x ∷ xs) is (sym (take_rest text 1))

passes_apart : (p q : ℕ → Bool) → ((c : ℕ) → p c ≡ true → q c ≡ false) → (xs : List ℕ) → list_all p xs ≡ true → All (λ x. q x ≡ false) xs
passes_apart p q apart xs e = λ k d lt. apart (get_or xs k d) (AllPass-from_list_all p xs e k d lt)

passes_too : (p q : ℕ → Bool) → ((c : ℕ) → p c ≡ true → q c ≡ true) → (xs : List ℕ) → list_all p xs ≡ true → list_all q xs ≡ true
passes_too p q too xs e = list_all-from_AllPass q xs (λ k d lt. too (get_or xs k d) (AllPass-from_list_all p xs e k d lt))

digit_no_point : (c : ℕ) → is_ascii_digit c ≡ true → eqb c 46 ≡ false
digit_no_point c e = let h = digit_bound c e in ne_eqb c 46 (λ z. omega (arith, z, h.0))

-- a byte of an address lies from the point to the digit 9
address_bound : (c : ℕ) → is_address_byte c ≡ true → (46 ≤ c) × (c ≤ 57)
address_bound c e = elim (or_cases (is_ascii_digit c) (eqb c 46) e) [
  | inl digit ↦ (let h = digit_bound c digit in (omega (arith, h.0), h.1))
  | inr point ↦ (let h = eqb-true c 46 point in (omega (arith, h), omega (arith, h)))
]

abbrev pub is_not_space : ℕ → Bool
is_not_space c = not (eqb c 32)

no_space : (c : ℕ) → is_not_space c ≡ true → eqb c 32 ≡ false
no_space c e = not-true (eqb c 32) e

address_apart : (c : ℕ) → is_address_byte c ≡ true → is_not_space c ≡ true
address_apart c e = let h = address_bound c e in not_from_false _ (ne_eqb c 32 (λ z. omega (arith, z, h.0)))

without_space : (xs : List ℕ) → list_all is_address_byte xs ≡ true → list_all is_not_space xs ≡ true
without_space xs e = passes_too is_address_byte is_not_space address_apart xs e

is_printed : (c : ℕ) → is_address_byte c ≡ true → is_printable c ≡ true
is_printed c e = let h = address_bound c e in and_from _ _ (le-leb 32 c (omega (arith, h.0))) (le-leb c 126 (omega (arith, h.1)))

digits_within : (xs : List ℕ) → list_all is_ascii_digit xs ≡ true → list_all is_address_byte xs ≡ true
digits_within xs e = passes_too is_ascii_digit is_address_byte (λ c d. or_left _ _ d) xs e

-- what stands in front is printable
front_printed : (front rest : List ℕ) → list_all is_address_byte front ≡ true → list_all is_printable (front ++ rest) ≡ list_all is_printable rest
front_printed front rest e = list_all-append is_printable front rest ∙ ap (λ (b : Bool). b && list_all is_printable rest) (passes_too is_address_byte is_printable is_printed front e)

pub word_in_front : (front rest : List ℕ) → 0 < length front → list_all is_not_space front ≡ true → words (front ++ 32 ∷ rest) ≡ front ∷ words rest
word_in_front [] rest lt all = absurd (omega (arith, lt))
word_in_front (c ∷ cs) rest lt all = ap (filter is_word) (slice_split_at (λ b. eqb b 32) (c ∷ cs) 32 rest (passes_apart is_not_space (λ b. eqb b 32) no_space (c ∷ cs) all) refl)

pub word_alone : (front : List ℕ) → 0 < length front → list_all is_not_space front ≡ true → words front ≡ front ∷ []
word_alone [] lt all = absurd (omega (arith, lt))
word_alone (c ∷ cs) lt all = ap (filter is_word) (slice_split_none (λ b. eqb b 32) (c ∷ cs) (passes_apart is_not_space (λ b. eqb b 32) no_space (c ∷ cs) all))

none_none : {A : Type 0} (a : A) → None ≡ Some a → ⊥
none_none a e = cc

some_digit : (front : List ℕ) (n : ℕ) → number_of front ≡ Some n → 0 < length front
unfolding number_of
some_digit [] n e = absurd (none_none n e)
some_digit (c ∷ cs) n e = omega arith

some_part : (front : List ℕ) (a : RawAddress) → address_of front ≡ Some a → 0 < length front
unfolding address_of
some_part [] a e = absurd (none_none a e)
some_part (c ∷ cs) a e = omega arith

pub number_taken : (text behind rest : List ℕ) (n : ℕ) → Leads IsNumber is_ascii_digit text n behind → behind ≡ 32 ∷ rest → Takes IsNumber text n rest
number_taken text behind rest n leads is = record {
  word = leads.front;
  split = ap words (leads.joined ∙ ap (λ r. leads.front ++ r) is) ∙ word_in_front leads.front rest (some_digit leads.front n leads.is) (without_space leads.front (digits_within leads.front leads.all));
  printed = ap (list_all is_printable) (leads.joined ∙ ap (λ r. leads.front ++ r) is) ∙ front_printed leads.front (32 ∷ rest) (digits_within leads.front leads.all);
  is = leads.is;
}

pub last_taken : (text behind : List ℕ) (n : ℕ) → Leads IsNumber is_ascii_digit text n behind → behind ≡ [] → Takes IsNumber text n []
last_taken text behind n leads is = record {
  word = leads.front;
  split = ap words (leads.joined ∙ (ap (λ r. leads.front ++ r) is ∙ append-nil leads.front)) ∙ word_alone leads.front (some_digit leads.front n leads.is) (without_space leads.front (digits_within leads.front leads.all));
  printed = ap (list_all is_printable) (leads.joined ∙ ap (λ r. leads.front ++ r) is) ∙ front_printed leads.front [] (digits_within leads.front leads.all);
  is = leads.is;
}

pub moment_taken : (text digits behind rest : List ℕ) (n : ℕ) → text ≡ 64 ∷ digits → Leads IsNumber is_ascii_digit digits n behind → behind ≡ 32 ∷ rest → Takes SpellsMoment text n rest
unfolding moment_of
moment_taken text digits behind rest n is-text leads is = record {
  word = 64 ∷ leads.front;
  split = ap words (is-text ∙ ap (λ r. 64 ∷ r) (leads.joined ∙ ap (λ r. leads.front ++ r) is)) ∙ word_in_front (64 ∷ leads.front) rest (omega arith) (without_space leads.front (digits_within leads.front leads.all));
  printed = ap (list_all is_printable) (is-text ∙ ap (λ r. 64 ∷ r) (leads.joined ∙ ap (λ r. leads.front ++ r) is)) ∙ front_printed leads.front (32 ∷ rest) (digits_within leads.front leads.all);
  is = leads.is;
}

pub address_taken : (text behind rest : List ℕ) (n : ℕ) → Leads IsAddress is_address_byte text n behind → behind ≡ 32 ∷ rest → Takes IsAddress text n rest
address_taken text behind rest n leads is = record {
  word = leads.front;
  split = ap words (leads.joined ∙ ap (λ r. leads.front ++ r) is) ∙ word_in_front leads.front rest (some_part leads.front leads.is.0 leads.is.1) (without_space leads.front leads.all);
  printed = ap (list_all is_printable) (leads.joined ∙ ap (λ r. leads.front ++ r) is) ∙ front_printed leads.front (32 ∷ rest) leads.all;
  is = leads.is;
}

-- ---- addresses
pub point_follows : (text behind rest : List ℕ) (n : ℕ) → Leads IsNumber is_ascii_digit text n behind → behind ≡ 46 ∷ rest → Leads IsNumber is_ascii_digit text n (46 ∷ rest)
point_follows text behind rest n leads is = record {
  front = leads.front;
  joined = leads.joined ∙ ap (λ r. leads.front ++ r) is;
  is = leads.is;
  all = leads.all;
}

pub within_is : (n low high : ℕ) → low ≤ n → n ≤ high → within n low high ≡ Some n
within_is n low high l h = cond-true _ _ _ (and_from _ _ (le-leb low n l) (le-leb n high h))

point_joins : (xs ys : List ℕ) → list_all is_ascii_digit xs ≡ true → list_all is_address_byte ys ≡ true → list_all is_address_byte (xs ++ 46 ∷ ys) ≡ true
point_joins xs ys a b = list_all-append is_address_byte xs (46 ∷ ys) ∙ and_from _ _ (digits_within xs a) b

part_ends : (xs ys : List ℕ) → list_all is_ascii_digit xs ≡ true → parts 46 (xs ++ 46 ∷ ys) ≡ xs ∷ parts 46 ys
part_ends xs ys a = slice_split_at (λ b. eqb b 46) xs 46 ys (passes_apart is_ascii_digit (λ b. eqb b 46) digit_no_point xs a) refl

last_part : (xs : List ℕ) → list_all is_ascii_digit xs ≡ true → parts 46 xs ≡ xs ∷ []
last_part xs a = slice_split_none (λ b. eqb b 46) xs (passes_apart is_ascii_digit (λ b. eqb b 46) digit_no_point xs a)

four : (word a b c d : List ℕ) (i j k l : ℕ) → parts 46 word ≡ a ∷ b ∷ c ∷ d ∷ [] → number_of a ≡ Some i → number_of b ≡ Some j → number_of c ≡ Some k → number_of d ≡ Some l
    → address_of word ≡ Some (record { first = i; second = j; third = k; fourth = l })
unfolding address_of
four word a b c d i j k l e p q r s = rw (e, p, q, r, s) refl

four_within : (i j k l : ℕ) → i ≤ 255 → j ≤ 255 → k ≤ 255 → l ≤ 255 → address_within (record { first = i; second = j; third = k; fourth = l }) ≡ Some (((i * 256 + j) * 256 + k) * 256 + l)
unfolding address_within
four_within i j k l p q r s = rw (within_is i 0 255 (omega arith) p, within_is j 0 255 (omega arith) q, within_is k 0 255 (omega arith) r, within_is l 0 255 (omega arith) s) refl

pub address_leads : (text r1 r2 r3 rest : List ℕ) (i j k l n : ℕ) → Leads IsNumber is_ascii_digit text i (46 ∷ r1) → i ≤ 255 → Leads IsNumber is_ascii_digit r1 j (46 ∷ r2) → j ≤ 255
    → Leads IsNumber is_ascii_digit r2 k (46 ∷ r3) → k ≤ 255 → Leads IsNumber is_ascii_digit r3 l rest → l ≤ 255 → n ≡ ((i * 256 + j) * 256 + k) * 256 + l → Leads IsAddress is_address_byte text n rest
address_leads text r1 r2 r3 rest i j k l n a p b q c r d s is =
    let tail3 : List ℕ = c.front ++ 46 ∷ d.front in
    let tail2 : List ℕ = b.front ++ 46 ∷ tail3 in
    let whole : List ℕ = a.front ++ 46 ∷ tail2 in
    let split = part_ends a.front tail2 a.all ∙ ap (λ (ps : List (List ℕ)). a.front ∷ ps) (part_ends b.front tail3 b.all ∙ ap (λ (ps : List (List ℕ)). b.front ∷ ps) (part_ends c.front d.front c.all ∙ ap (λ (ps : List (List ℕ)). c.front ∷ ps) (last_part d.front d.all))) in
    let join3 : r2 ≡ tail3 ++ rest = c.joined ∙ (ap (λ t. c.front ++ 46 ∷ t) d.joined ∙ sym (append_assoc c.front (46 ∷ d.front) rest)) in
    let join2 : r1 ≡ tail2 ++ rest = b.joined ∙ (ap (λ t. b.front ++ 46 ∷ t) join3 ∙ sym (append_assoc b.front (46 ∷ tail3) rest)) in
    record {
      front = whole;
      joined = a.joined ∙ (ap (λ t. a.front ++ 46 ∷ t) join2 ∙ sym (append_assoc a.front (46 ∷ tail2) rest));
      is = (record { first = i; second = j; third = k; fourth = l }, four whole a.front b.front c.front d.front i j k l split a.is b.is c.is d.is, four_within i j k l p q r s ∙ ap (λ m. Some m) (sym is));
      all = point_joins a.front tail2 a.all (point_joins b.front tail3 b.all (point_joins c.front d.front c.all (digits_within d.front d.all)));
    }
