-- What is written and what is kept back, put together.
use Rattle.std.proofs.Common.{◌≡◌, ℕ, List, [], ◌++◌, Option, Some, None, refl, sym, ap, ◌∙◌, append_assoc, append-nil, subst, take, drop, length}
use Rattle.std.proofs.lemmas.List.{take-append-drop, nil_from_length}
use Rattle.std.specs.Io.KnownBytes.{Appends, Consumes, Keeps}
use Rattle.alone.specs.Bytes.{IsCut, IsWriting, Puts, Stops}

appends_more : (a b c : Option (List ℕ)) (xs ys : List ℕ) → Appends a b xs → Appends b c ys → Appends a c (xs ++ ys)
appends_more None b c xs ys f g = tt
appends_more (Some us) None c xs ys f g = absurd f
appends_more (Some us) (Some bs) None xs ys f g = absurd g
appends_more (Some us) (Some bs) (Some cs) xs ys f g = g ∙ ap (λ l. l ++ ys) f ∙ append_assoc us xs ys

appends_none : (a : Option (List ℕ)) → Appends a a []
appends_none None = tt
appends_none (Some us) = sym (append-nil us)

pub appends_kept : (a b c : Option (List ℕ)) (xs : List ℕ) → Appends a b xs → Keeps b c → Appends a c xs
appends_kept None b c xs f g = tt
appends_kept (Some us) None c xs f g = absurd f
appends_kept (Some us) (Some bs) None xs f g = absurd g
appends_kept (Some us) (Some bs) (Some cs) xs f g = g ∙ f

-- bytes that stay
pub keeps_same : (a : Option (List ℕ)) → Keeps a a
keeps_same None = tt
keeps_same (Some us) = refl

pub keeps_both : (a b c : Option (List ℕ)) → Keeps a b → Keeps b c → Keeps a c
keeps_both None b c f g = tt
keeps_both (Some us) None c f g = absurd f
keeps_both (Some us) (Some bs) None f g = absurd g
keeps_both (Some us) (Some bs) (Some cs) f g = g ∙ f

pub kept_appends : (a b c : Option (List ℕ)) (xs : List ℕ) → Keeps a b → Appends b c xs → Appends a c xs
kept_appends None b c xs f g = tt
kept_appends (Some us) None c xs f g = absurd f
kept_appends (Some us) (Some bs) None xs f g = absurd g
kept_appends (Some us) (Some bs) (Some cs) xs f g = g ∙ ap (λ l. l ++ xs) f

pub kept_consumes : (a b c : Option (List ℕ)) (xs : List ℕ) → Keeps a b → Consumes b c xs → Consumes a c xs
kept_consumes None b c xs f g = tt
kept_consumes (Some us) None c xs f g = absurd f
kept_consumes (Some us) (Some bs) None xs f g = absurd g
kept_consumes (Some us) (Some bs) (Some cs) xs f g = sym f ∙ g

-- all is kept back, and some first bytes of what is kept back are written
pub writing_all : (a : Option (List ℕ)) (text : List ℕ) → IsWriting a a text text
unfolding IsWriting
writing_all a text = ([], appends_none a, refl)

pub writing_some : (a b c : Option (List ℕ)) (kept text : List ℕ) (n : ℕ) → IsWriting a b kept text → Appends b c (take n kept) → IsWriting a c (drop n kept) text
unfolding IsWriting
writing_some a b c kept text n w wrote = (
  w.0 ++ take n kept,
  appends_more a b c w.0 (take n kept) w.1 wrote,
  w.2 ∙ ap (λ l. w.0 ++ l) (sym (take-append-drop n kept)) ∙ sym (append_assoc w.0 (take n kept) (drop n kept)),
)

pub writing_done : (a b : Option (List ℕ)) (text : List ℕ) → IsWriting a b [] text → Appends a b text
unfolding IsWriting
writing_done a b text w = subst (Appends a b) (sym (w.2 ∙ append-nil w.0)) w.1

pub writing_cut : (a b c : Option (List ℕ)) (kept text : List ℕ) → IsWriting a b kept text → Keeps b c → IsCut a c text
unfolding IsCut IsWriting
writing_cut a b c kept text w keeps = (w.0, kept, appends_kept a b c w.0 w.1 keeps, w.2)

-- before the first byte
pub writing_none : (a : Option (List ℕ)) → IsWriting a a [] []
unfolding IsWriting
writing_none a = ([], appends_none a, refl)

-- nothing more is put
pub puts_none : (a : Option (List ℕ)) (kept : List ℕ) → Puts a kept a kept []
unfolding Puts IsWriting
puts_none a kept first text w = (w.0, w.1, append-nil text ∙ w.2)

-- bytes are kept back
pub puts_kept : (a : Option (List ℕ)) (kept bytes : List ℕ) → Puts a kept a (kept ++ bytes) bytes
unfolding Puts IsWriting
puts_kept a kept bytes first text w = (w.0, w.1, ap (λ l. l ++ bytes) w.2 ∙ append_assoc w.0 kept bytes)

-- what was kept back is written
pub puts_out : (a b : Option (List ℕ)) (kept : List ℕ) → Appends a b kept → Puts a kept b [] []
unfolding Puts IsWriting
puts_out a b kept wrote first text w = (w.0 ++ kept, appends_more first a b w.0 kept w.1 wrote, append-nil text ∙ w.2 ∙ sym (append-nil (w.0 ++ kept)))

-- bytes are written at once
pub puts_straight : (a b : Option (List ℕ)) (bytes : List ℕ) → Appends a b bytes → Puts a [] b [] bytes
unfolding Puts IsWriting
puts_straight a b bytes wrote first text w = (
  w.0 ++ bytes,
  appends_more first a b w.0 bytes w.1 wrote,
  ap (λ l. l ++ bytes) (w.2 ∙ append-nil w.0) ∙ sym (append-nil (w.0 ++ bytes)),
)

pub puts_flushed : (a b c : Option (List ℕ)) (kept now bytes : List ℕ) → Puts a kept b now bytes → Keeps b c → Puts a kept c now bytes
unfolding Puts IsWriting
puts_flushed a b c kept now bytes puts keeps first text w =
    let v = puts first text w in
    (v.0, appends_kept first b c v.0 v.1 keeps, v.2)

-- one after the other
pub puts_both : (a b c : Option (List ℕ)) (k l m xs ys : List ℕ) → Puts a k b l xs → Puts b l c m ys → Puts a k c m (xs ++ ys)
unfolding Puts IsWriting
puts_both a b c k l m xs ys f g first text w =
    let v = g first (text ++ xs) (f first text w) in
    (v.0, v.1, sym (append_assoc text xs ys) ∙ v.2)

-- it fails
cut_more : (first a : Option (List ℕ)) (text more : List ℕ) → IsCut first a text → IsCut first a (text ++ more)
unfolding IsCut
cut_more first a text more c = (c.0, c.1 ++ more, c.2, ap (λ l. l ++ more) c.3 ∙ append_assoc c.0 c.1 more)

pub stops_out : (a b : Option (List ℕ)) (kept bytes : List ℕ) → IsCut a b kept → Stops a kept b bytes
unfolding Stops IsWriting IsCut
stops_out a b kept bytes cut first text w = cut_more first b text bytes (
  w.0 ++ cut.0,
  cut.1,
  appends_more first a b w.0 cut.0 w.1 cut.2,
  w.2 ∙ ap (λ l. w.0 ++ l) cut.3 ∙ sym (append_assoc w.0 cut.0 cut.1),
)

pub stops_straight : (a b : Option (List ℕ)) (bytes : List ℕ) → IsCut a b bytes → Stops a [] b bytes
unfolding Stops IsWriting IsCut
stops_straight a b bytes cut first text w = (
  w.0 ++ cut.0,
  cut.1,
  appends_more first a b w.0 cut.0 w.1 cut.2,
  ap (λ l. l ++ bytes) (w.2 ∙ append-nil w.0) ∙ ap (λ l. w.0 ++ l) cut.3 ∙ sym (append_assoc w.0 cut.0 cut.1),
)

pub stops_flushed : (a b c : Option (List ℕ)) (kept bytes : List ℕ) → Puts a kept b [] bytes → Keeps b c → Stops a kept c bytes
unfolding Puts IsWriting Stops IsCut
stops_flushed a b c kept bytes puts keeps first text w =
    let v = puts first text w in
    (v.0, [], appends_kept first b c v.0 v.1 keeps, v.2)

-- after something else, and with more behind it
pub stops_behind : (a b c : Option (List ℕ)) (k l xs ys : List ℕ) → Puts a k b l xs → Stops b l c ys → Stops a k c (xs ++ ys)
unfolding Puts IsWriting Stops IsCut
stops_behind a b c k l xs ys f g first text w =
    let v = g first (text ++ xs) (f first text w) in
    (v.0, v.1, v.2, sym (append_assoc text xs ys) ∙ v.3)

pub stops_before : (a b : Option (List ℕ)) (k xs ys : List ℕ) → Stops a k b xs → Stops a k b (xs ++ ys)
unfolding Stops IsWriting IsCut
stops_before a b k xs ys f first text w =
    let v = cut_more first b (text ++ xs) ys (f first text w) in
    (v.0, v.1, v.2, sym (append_assoc text xs ys) ∙ v.3)

-- before and after nothing
pub puts_next : (a b c : Option (List ℕ)) (k l m ys : List ℕ) → Puts a k b l [] → Puts b l c m ys → Puts a k c m ys
puts_next a b c k l m ys f g = puts_both a b c k l m [] ys f g

pub stops_any : (a b : Option (List ℕ)) (k ys : List ℕ) → Stops a k b [] → Stops a k b ys
stops_any a b k ys f = stops_before a b k [] ys f

pub stops_next : (a b c : Option (List ℕ)) (k l ys : List ℕ) → Puts a k b l [] → Stops b l c ys → Stops a k c ys
stops_next a b c k l ys f g = stops_behind a b c k l [] ys f g

-- a slice of what was kept back
pub writing_past : (a b c : Option (List ℕ)) (kept rest text : List ℕ) (n : ℕ) → IsWriting a b kept text → Appends b c (take n kept) → rest ≡ drop n kept → IsWriting a c rest text
unfolding IsWriting
writing_past a b c kept rest text n w wrote is = subst (λ l. IsWriting a c l text) (sym is) (writing_some a b c kept text n w wrote)

-- the same, with what is kept back as the calls tell it
pub puts_kept_as : (a : Option (List ℕ)) (kept now bytes : List ℕ) → now ≡ kept ++ bytes → Puts a kept a now bytes
puts_kept_as a kept now bytes is = subst (λ l. Puts a kept a l bytes) (sym is) (puts_kept a kept bytes)

pub puts_out_as : (a b : Option (List ℕ)) (kept now : List ℕ) → now ≡ [] → Appends a b kept → Puts a kept b now []
puts_out_as a b kept now is wrote = subst (λ l. Puts a kept b l []) (sym is) (puts_out a b kept wrote)

pub puts_straight_as : (a b : Option (List ℕ)) (kept bytes : List ℕ) → kept ≡ [] → Appends a b bytes → Puts a kept b kept bytes
puts_straight_as a b kept bytes is wrote = subst (λ l. Puts a l b l bytes) (sym is) (puts_straight a b bytes wrote)

pub stops_straight_as : (a b : Option (List ℕ)) (kept bytes : List ℕ) → kept ≡ [] → IsCut a b bytes → Stops a kept b bytes
stops_straight_as a b kept bytes is cut = subst (λ l. Stops a l b bytes) (sym is) (stops_straight a b bytes cut)

pub puts_flushed_as : (a b c : Option (List ℕ)) (kept now : List ℕ) → now ≡ [] → Puts a kept b now [] → Keeps b c → Puts a kept c [] []
puts_flushed_as a b c kept now is puts keeps = puts_flushed a b c kept [] [] (subst (λ l. Puts a kept b l []) is puts) keeps

pub stops_flushed_as : (a b c : Option (List ℕ)) (kept now : List ℕ) → now ≡ [] → Puts a kept b now [] → Keeps b c → Stops a kept c []
stops_flushed_as a b c kept now is puts keeps = stops_flushed a b c kept [] (subst (λ l. Puts a kept b l []) is puts) keeps

pub writing_done_as : (a b : Option (List ℕ)) (rest text : List ℕ) → length rest ≡ 0 → IsWriting a b rest text → Appends a b text
writing_done_as a b rest text none w = writing_done a b text (subst (λ l. IsWriting a b l text) (nil_from_length rest none) w)
