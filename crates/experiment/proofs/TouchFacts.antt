-- Two lists of dues that are gone through side by side: what was named covers what differs so far.
use Rattle.std.proofs.Common.{◌≡◌, ℕ, zero, suc, ◌+◌, ◌<◌, ◌≤◌, length, arith, Bool, true, false, cond, refl, sym, ap, ◌∙◌, List, [], ◌∷◌, ◌++◌, take}
use Rattle.std.specs.Prelude.{◌||◌, slice_index_or}
use Rattle.std.proofs.lemmas.List.Elements.{filter_more}
use Rattle.std.proofs.lemmas.List.Folds.{list_any-append}
use Rattle.emu_model.specs.declared.sources.Due.{Due}
use Rattle.emu_model.specs.declared.sources.Source.{Source}
use Rattle.emu_model.specs.declared.sources.Class.TheVariants.{NextCommand}
use Rattle.emu_model.specs.RunLaws.{same_source}
use Rattle.experiment.specs.Dues.{dues_at, names, Covers, NamesUpTo}

-- what is read past the end of a list
abbrev pub nothing : Due
nothing = record { moment = 0; source = record { class = NextCommand; number = 0 } }

or-left : (a b : Bool) → (a || b) ≡ false → a ≡ false
or-left true b e = e
or-left false b e = refl

or-right : (a b : Bool) → (a || b) ≡ false → b ≡ false
or-right true b e = absurd (cc)
or-right false b e = e

or-false : (a : Bool) → (a || false) ≡ a
or-false true = refl
or-false false = refl

-- one source more is named
one-more : (s x : Source) (named : List Source) → names s (named ++ x ∷ []) ≡ (names s named || same_source x s)
one-more s x named =
    list_any-append (λ t. same_source t s) named (x ∷ [])
    ∙ ap (λ b. names s named || b) (or-false (same_source x s))

before-unnamed : (s x : Source) (named : List Source) → names s (named ++ x ∷ []) ≡ false → names s named ≡ false
before-unnamed s x named e = or-left (names s named) (same_source x s) (sym (one-more s x named) ∙ e)

last-unnamed : (s x : Source) (named : List Source) → names s (named ++ x ∷ []) ≡ false → same_source x s ≡ false
last-unnamed s x named e = or-right (names s named) (same_source x s) (sym (one-more s x named) ∙ e)

-- a due of another source changes nothing
append-none : (ds : List Due) → ds ++ [] ≡ ds
append-none [] = refl
append-none (d ∷ ds) = ap (λ l. d ∷ l) (append-none ds)

passed : (s : Source) (l : List Due) (k : ℕ) (z : Due) → k < length l → same_source (slice_index_or l k z).source s ≡ false →
    dues_at s (take (k + 1) l) ≡ dues_at s (take k l)
passed s l k z below other =
    filter_more (λ d. same_source d.source s) l k z below
    ∙ ap (λ b. dues_at s (take k l) ++ cond b (slice_index_or l k z ∷ []) []) other
    ∙ append-none (dues_at s (take k l))

-- a due that both have
both-more : (s : Source) (a b : List Due) (i j : ℕ) (z : Due) → i < length a → j < length b → slice_index_or a i z ≡ slice_index_or b j z →
    dues_at s (take i a) ≡ dues_at s (take j b) → dues_at s (take (i + 1) a) ≡ dues_at s (take (j + 1) b)
both-more s a b i j z in_a in_b is so =
    filter_more (λ d. same_source d.source s) a i z in_a
    ∙ (λ k. so k ++ dues_at s (is k ∷ []))
    ∙ sym (filter_more (λ d. same_source d.source s) b j z in_b)

-- the due at a place is of no source that has none
none-kept : (t : Bool) (d : Due) (ds : List Due) → cond t (d ∷ ds) ds ≡ [] → (t ≡ false) × (ds ≡ [])
none-kept true d ds e = absurd (cc)
none-kept false d ds e = (refl, e)

not-of : (s : Source) (l : List Due) (k : ℕ) (z : Due) → k < length l → dues_at s l ≡ [] → same_source (slice_index_or l k z).source s ≡ false
not-of s [] k z below none = absurd (omega arith)
not-of s (d ∷ ds) zero z below none = (none-kept (same_source d.source s) d (dues_at s ds) none).0
not-of s (d ∷ ds) (suc k) z below none = not-of s ds k z (omega arith) (none-kept (same_source d.source s) d (dues_at s ds) none).1

neither : (a b : Bool) → a ≡ false → b ≡ false → (a || b) ≡ false
neither true b e f = e
neither false b e f = f

-- nothing was gone through, and nothing is named
pub none_yet : (a b : List Due) → NamesUpTo 0 0 a b []
none_yet a b = record { covers = λ s e. refl; no_other = λ s e f. refl }

-- one further in both, where they are equal
pub equal_next : (i j : ℕ) (a b : List Due) (z : Due) (named : List Source) → i < length a → j < length b → slice_index_or a i z ≡ slice_index_or b j z →
    NamesUpTo i j a b named → NamesUpTo (i + 1) (j + 1) a b named
equal_next i j a b z named in_a in_b is n =
    record { covers = λ s e. both-more s a b i j z in_a in_b is (n.covers s e); no_other = n.no_other }

-- one further in the first, whose due is named
pub gone_next : (i j : ℕ) (a b : List Due) (z : Due) (named : List Source) → i < length a →
    NamesUpTo i j a b named → NamesUpTo (i + 1) j a b (named ++ (slice_index_or a i z).source ∷ [])
gone_next i j a b z named in_a n =
    let x : Source = (slice_index_or a i z).source in
    record {
      covers = λ s e. passed s a i z in_a (last-unnamed s x named e) ∙ n.covers s (before-unnamed s x named e);
      no_other = λ s e f. one-more s x named ∙ neither (names s named) (same_source x s) (n.no_other s e f) (not-of s a i z in_a e);
    }

-- one further in the second, whose due is named
pub come_next : (i j : ℕ) (a b : List Due) (z : Due) (named : List Source) → j < length b →
    NamesUpTo i j a b named → NamesUpTo i (j + 1) a b (named ++ (slice_index_or b j z).source ∷ [])
come_next i j a b z named in_b n =
    let x : Source = (slice_index_or b j z).source in
    record {
      covers = λ s e. n.covers s (before-unnamed s x named e) ∙ sym (passed s b j z in_b (last-unnamed s x named e));
      no_other = λ s e f. one-more s x named ∙ neither (names s named) (same_source x s) (n.no_other s e f) (not-of s b j z in_b f);
    }

-- one further in both, whose dues are of one source, which is named
pub moved_next : (i j : ℕ) (a b : List Due) (z : Due) (named : List Source) → i < length a → j < length b →
    (slice_index_or a i z).source ≡ (slice_index_or b j z).source →
    NamesUpTo i j a b named → NamesUpTo (i + 1) (j + 1) a b (named ++ (slice_index_or a i z).source ∷ [])
moved_next i j a b z named in_a in_b is n =
    let x : Source = (slice_index_or a i z).source in
    let g : NamesUpTo (i + 1) j a b (named ++ x ∷ []) = gone_next i j a b z named in_a n in
    record {
      covers = λ s e. g.covers s e ∙ sym (passed s b j z in_b (ap (λ y. same_source y s) (sym is) ∙ last-unnamed s x named e));
      no_other = g.no_other;
    }

take-all : (l : List Due) (n : ℕ) → length l ≤ n → take n l ≡ l
take-all [] zero long = refl
take-all [] (suc n) long = refl
take-all (d ∷ ds) zero long = absurd (omega arith)
take-all (d ∷ ds) (suc n) long = ap (λ l. d ∷ l) (take-all ds n (omega arith))

-- both lists were gone through
pub named_all : (i j : ℕ) (a b : List Due) (named : List Source) → length a ≤ i → length b ≤ j → NamesUpTo i j a b named → Covers a b named
named_all i j a b named all_a all_b n s e =
    sym (ap (dues_at s) (take-all a i all_a)) ∙ n.covers s e ∙ ap (dues_at s) (take-all b j all_b)
