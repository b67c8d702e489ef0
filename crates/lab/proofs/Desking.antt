-- What a worker's calls keep of the names on its bench.
use Rattle.std.proofs.Common.{◌≡◌, ℕ, ◌+◌, List, [], ◌∷◌, ◌++◌, ap, ◌∙◌, arith, append-nil}
use Rattle.std.specs.Prelude.{cond, ◌==◌}
use Rattle.std.proofs.lemmas.List.Sums.{sum_by-append}
use Rattle.shard.specs.Stand.{Final, Stand}
use Rattle.bench.specs.declared.mail.RingMail.{RingMail}
use Rattle.bench.specs.Custody.{times}
use Rattle.bench.specs.Benches.{SameLists, Notes, Admits}
use Rattle.lab.specs.declared.worker.Desk.{Desk}
use Rattle.lab.specs.Joins.{dossiers_named}
use Rattle.lab.specs.declared.worker.Given.{Given}
use Rattle.lab.specs.Desks.{LosesNone, Readmits, HandsOver, parcels_named}

-- one name more in a list
more : (x : ℕ) (list now : List ℕ) (n : ℕ) → now ≡ list ++ n ∷ [] → times x now ≡ times x list + cond (n == x) 1 0
more x list now n is = let e = ap (times x) is in let both = sum_by-append (λ (y : ℕ). cond (y == x) 1 0) list (n ∷ []) in omega (arith, e, both)

same : (x : ℕ) (list now : List ℕ) → now ≡ list → times x now ≡ times x list
same x list now is = ap (times x) is

none : (x : ℕ) (list now : List ℕ) → now ≡ list ++ [] → times x now ≡ times x list
none x list now is = ap (times x) is ∙ ap (times x) (append-nil list)

same-dossiers : (x : ℕ) (ds es : List (Final RingMail)) → es ≡ ds → dossiers_named x es ≡ dossiers_named x ds
same-dossiers x ds es is = ap (dossiers_named x) is

more-dossiers : (x : ℕ) (ds es : List (Final RingMail)) (d : Final RingMail) → es ≡ ds ++ d ∷ [] → dossiers_named x es ≡ dossiers_named x ds + cond (d.name == x) 1 0
more-dossiers x ds es d is = let e = ap (dossiers_named x) is in let both = sum_by-append (λ (e : Final RingMail). cond (e.name == x) 1 0) ds (d ∷ []) in omega (arith, e, both)

same-waiting : (x : ℕ) (ps qs : List (Stand RingMail)) → qs ≡ ps → parcels_named x qs ≡ parcels_named x ps
same-waiting x ps qs is = ap (parcels_named x) is

more-waiting : (x : ℕ) (ps qs : List (Stand RingMail)) (p : Stand RingMail) → qs ≡ ps ++ p ∷ [] → parcels_named x qs ≡ parcels_named x ps + cond (p.name == x) 1 0
more-waiting x ps qs p is = let e = ap (parcels_named x) is in let both = sum_by-append (λ (q : Stand RingMail). cond (q.name == x) 1 0) ps (p ∷ []) in omega (arith, e, both)

-- no list has changed
pub loses_none : (a b : Desk) → SameLists a.bench b.bench → b.dossiers.items ≡ a.dossiers.items → b.waiting.items ≡ a.waiting.items → LosesNone a b
loses_none a b lists dossiers waiting = record {
  parcels = λ x. let admitted = same x _ _ lists.0 in let out = same x _ _ lists.3 in let waits = same-waiting x a.waiting.items b.waiting.items waiting in omega arith;
  dossiers = λ x. let ended = same x _ _ lists.2 in let kept = same-dossiers x _ _ dossiers in omega arith;
}

-- a parcel came in
pub readmits : (p : Stand RingMail) (a b : Desk) → Admits p a.bench b.bench → b.dossiers.items ≡ a.dossiers.items → b.waiting.items ≡ a.waiting.items → Readmits p a b
readmits p a b admits dossiers waiting = let notes = admits.2 in record {
  parcels = λ x.
      let admitted = more x a.bench.admitted.items b.bench.admitted.items p.name notes.0 in
      let out = none x a.bench.handed_out.items b.bench.handed_out.items notes.3 in
      let waits = same-waiting x a.waiting.items b.waiting.items waiting in
      omega arith;
  dossiers = λ x. let ended = none x a.bench.ended.items b.bench.ended.items notes.2 in let kept = same-dossiers x a.dossiers.items b.dossiers.items dossiers in omega arith;
}

-- a parcel was handed out, and came in again
pub loses_none_again : (p : Stand RingMail) (adopted : List ℕ) (a m b : Desk) → Notes [] adopted [] (p.name ∷ []) a.bench m.bench → m.dossiers.items ≡ a.dossiers.items → m.waiting.items ≡ a.waiting.items → Readmits p m b → LosesNone a b
loses_none_again p adopted a m b notes dossiers waiting again = record {
  parcels = λ x.
      let admitted = none x a.bench.admitted.items m.bench.admitted.items notes.0 in
      let out = more x a.bench.handed_out.items m.bench.handed_out.items p.name notes.3 in
      let waits = same-waiting x a.waiting.items m.waiting.items waiting in
      let r = again.parcels x in
      omega arith;
  dossiers = λ x. let ended = none x a.bench.ended.items m.bench.ended.items notes.2 in let kept = same-dossiers x a.dossiers.items m.dossiers.items dossiers in let r = again.dossiers x in omega arith;
}

-- a parcel that waited came in
pub loses_none_waiting : (p : Stand RingMail) (a m b : Desk) → SameLists a.bench m.bench → m.dossiers.items ≡ a.dossiers.items → a.waiting.items ≡ m.waiting.items ++ p ∷ [] → Readmits p m b → LosesNone a b
loses_none_waiting p a m b lists dossiers waiting again = record {
  parcels = λ x.
      let admitted = same x a.bench.admitted.items m.bench.admitted.items lists.0 in
      let out = same x a.bench.handed_out.items m.bench.handed_out.items lists.3 in
      let waits = more-waiting x m.waiting.items a.waiting.items p waiting in
      let r = again.parcels x in
      omega arith;
  dossiers = λ x.
      let ended = same x a.bench.ended.items m.bench.ended.items lists.2 in
      let kept = same-dossiers x a.dossiers.items m.dossiers.items dossiers in
      let r = again.dossiers x in
      omega arith;
}

-- an experiment ended, and its dossier is kept
pub loses_none_ended : (d : Final RingMail) (a b : Desk) → Notes [] [] (d.name ∷ []) [] a.bench b.bench → b.dossiers.items ≡ a.dossiers.items ++ d ∷ [] → b.waiting.items ≡ a.waiting.items → LosesNone a b
loses_none_ended d a b notes dossiers waiting = record {
  parcels = λ x.
      let admitted = none x a.bench.admitted.items b.bench.admitted.items notes.0 in
      let out = none x a.bench.handed_out.items b.bench.handed_out.items notes.3 in
      let waits = same-waiting x a.waiting.items b.waiting.items waiting in
      omega arith;
  dossiers = λ x. let ended = more x a.bench.ended.items b.bench.ended.items d.name notes.2 in let kept = more-dossiers x a.dossiers.items b.dossiers.items d dossiers in omega arith;
}

-- one after the other
pub loses_none_both : (a b c : Desk) → LosesNone a b → LosesNone b c → LosesNone a c
loses_none_both a b c first then_this = record {
  parcels = λ x. let f = first.parcels x in let g = then_this.parcels x in omega arith;
  dossiers = λ x. let f = first.dossiers x in let g = then_this.dossiers x in omega arith;
}

-- an experiment of another bench came
pub loses_none_adopted : (adopted : List ℕ) (a b : Desk) → Notes [] adopted [] [] a.bench b.bench → b.dossiers.items ≡ a.dossiers.items → b.waiting.items ≡ a.waiting.items → LosesNone a b
loses_none_adopted adopted a b notes dossiers waiting = record {
  parcels = λ x.
      let admitted = none x a.bench.admitted.items b.bench.admitted.items notes.0 in
      let out = none x a.bench.handed_out.items b.bench.handed_out.items notes.3 in
      let waits = same-waiting x a.waiting.items b.waiting.items waiting in
      omega arith;
  dossiers = λ x. let ended = none x a.bench.ended.items b.bench.ended.items notes.2 in let kept = same-dossiers x a.dossiers.items b.dossiers.items dossiers in omega arith;
}

-- what a worker gives in the end
pub hands_over : (a b : Desk) (g : Given) → a.dossiers.items ≡ [] → LosesNone a b → g.closing.admitted.items ≡ b.bench.admitted.items → g.closing.ended.items ≡ b.bench.ended.items → g.closing.handed_out.items ≡ b.bench.handed_out.items →
    g.dossiers.items ≡ b.dossiers.items → g.waiting.items ≡ b.waiting.items → HandsOver a.bench a.waiting.items g
hands_over a b g empty kept admitted ended out dossiers waiting = record {
  parcels = λ x.
      let k = kept.parcels x in
      let one = same x b.bench.admitted.items g.closing.admitted.items admitted in
      let two = same x b.bench.handed_out.items g.closing.handed_out.items out in
      let three = same-waiting x b.waiting.items g.waiting.items waiting in
      omega arith;
  dossiers = λ x.
      let k = kept.dossiers x in
      let one = same x b.bench.ended.items g.closing.ended.items ended in
      let two = same-dossiers x b.dossiers.items g.dossiers.items dossiers in
      let zero_of : dossiers_named x a.dossiers.items ≡ 0 = same-dossiers x [] a.dossiers.items empty in
      omega arith;
}
