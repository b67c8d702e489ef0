-- In a scenario that is spelled, the commands of each experiment stand in order.
use Rattle.std.proofs.Common.{◌≡◌, inl, inr, ℕ, ◌^◌, ◌≤◌, Bool, true, false, ◌&&◌, if◌then◌else◌, ltb, List, [], ◌∷◌, ◌++◌, Option, Some, None, refl, sym, ap, subst, ◌∙◌, arith}
use Rattle.std.specs.Prelude.{All, option_map, option_and_then, nat_le}
use Rattle.std.specs.List.{AllByRecursion}
use Rattle.std.proofs.lemmas.Bool.{leb-true, ltb-true, ltb-false}
use Rattle.std.proofs.lemmas.List.Elements.{All-from_recursion}
use Rattle.emu_model.specs.declared.commands.Spec.{Spec}
use Rattle.emu_model.specs.declared.commands.Timed.{Timed}
use Rattle.emu_model.specs.declared.commands.Command.{Command as CommandValue}
use Rattle.control_words.specs.Text.{lines}
use Rattle.control_lines.specs.Grammar.{Line, Experiment as Heading, Command}
use Rattle.control_lines.specs.Ranges.{within, spec_within, timed_within, command_within}
use Rattle.control_lines.specs.Entries.{Entry, Nothing, Begins, Does, Says, line_within}
use Rattle.control_lines.specs.declared.raw.RawTimed.{RawTimed}
use Rattle.control.specs.declared.fault.Cause.TheVariants.{NoExperiment, Backwards}
use Rattle.control.specs.declared.scenario.Experiment.{Experiment}
use Rattle.control.specs.Scenario.{commands, IsFine, begun, with_command, with_last, experiments, AreSpelled, Spells}
use Rattle.control.specs.Order.{AreInOrder}
use Rattle.control.proofs.LinesRead.{first_moment, with_last_is}

-- the moment of the last command, or an earlier one where there is none
abbrev last_of : ℕ → List Timed → ℕ
last_of moment [] = moment
last_of moment (c ∷ cs) = last_of c.moment cs

in-order-push : (m : ℕ) (cs : List Timed) (c : Timed) → AreInOrder m cs → last_of m cs ≤ c.moment → c.moment ≤ 10 ^ 15 → AreInOrder m (cs ++ c ∷ [])
in-order-push m [] c order later early = (later, early, tt)
in-order-push m (d ∷ cs) c order later early = (order.0, order.1, in-order-push d.moment cs c order.2 later early)

last-push : (m : ℕ) (cs : List Timed) (c : Timed) → last_of m (cs ++ c ∷ []) ≡ c.moment
last-push m [] c = refl
last-push m (d ∷ cs) c = last-push d.moment cs c

abbrev IsInOrder : Experiment → Type 0
IsInOrder e = AreInOrder 0 e.commands

abbrev Each : List Experiment → Type 0
Each es = AllByRecursion IsInOrder es

each-push : (es : List Experiment) (e : Experiment) → Each es → IsInOrder e → Each (es ++ e ∷ [])
each-push [] e a order = (order, tt)
each-push (x ∷ es) e a order = (a.0, each-push es e a.1 order)

each-split : (es : List Experiment) (e : Experiment) → Each (es ++ e ∷ []) → Each es × IsInOrder e
each-split [] e a = (tt, a.0)
each-split (x ∷ es) e a = let r = each-split es e a.1 in ((a.0, r.0), r.1)

-- the experiments that the lines before say, and the last of them against its commands
record Holds (before : List Entry) : Type 0 where
  all : Each (experiments before)
  last : (cs : List Timed) → commands before ≡ Some cs → (es : List Experiment) × (e : Experiment) × (experiments before ≡ es ++ e ∷ []) × (last_of 0 e.commands ≡ first_moment cs)

holds-nil : Holds []
holds-nil = record { all = tt; last = λ cs are. absurd cc }

holds-nothing : (before : List Entry) → Holds before → Holds (Nothing ∷ before)
holds-nothing before h = record { all = h.all; last = h.last }

same-some : {A : Type 0} (x y : A) → Some x ≡ Some y → x ≡ y
same-some x y e = cc

holds-begins : (before : List Entry) (name : List ℕ) (spec : Spec) → Holds before → Holds (Begins name spec ∷ before)
holds-begins before name spec h = record {
  all = each-push (experiments before) (begun name spec) h.all tt;
  last = λ cs are. (experiments before, begun name spec, refl, ap first_moment (same-some [] cs are));
}

-- a moment of a command is in its range
and-right : (a b : Bool) → (a && b) ≡ true → b ≡ true
and-right true b e = e
and-right false b e = absurd cc

if-some : (b : Bool) (n m : ℕ) → (if b then Some n else None) ≡ Some m → (b ≡ true) × (n ≡ m)
if-some true n m e = (refl, same-some n m e)
if-some false n m e = absurd cc

within-high : (n low high m : ℕ) → within n low high ≡ Some m → m ≤ high
within-high n low high m e =
    let p = if-some (nat_le low n && nat_le n high) n m e in
    omega (arith, leb-true n high (and-right (nat_le low n) (nat_le n high) p.0), p.1)

moment-of : (o : Option ℕ) (p : Option CommandValue) (t : Timed) → option_and_then (λ m. option_and_then (λ k. Some (record { moment = m; command = k })) p) o ≡ Some t → o ≡ Some t.moment
moment-of None p t e = absurd cc
moment-of (Some m) None t e = absurd cc
moment-of (Some m) (Some k) t e = ap (λ (x : Timed). Some x.moment) (same-some (record { moment = m; command = k }) t e)

timed-early : (c : RawTimed) (t : Timed) → timed_within c ≡ Some t → t.moment ≤ 10 ^ 15
unfolding timed_within
timed-early c t e = within-high c.moment 0 1000000000000000 t.moment (moment-of (within c.moment 0 1000000000000000) (command_within c.command) t e)

does : (o : Option Timed) (t : Timed) → option_and_then (λ x. Some (Does x)) o ≡ Some (Does t) → o ≡ Some t
does None t e = absurd cc
does (Some x) t e = let same : Does x ≡ Does t = same-some (Does x) (Does t) e in cc

begins : (o : Option Spec) (name : List ℕ) (t : Timed) → option_and_then (λ x. Some (Begins name x)) o ≡ Some (Does t) → ⊥
begins None name t e = cc
begins (Some x) name t e = let same : Begins name x ≡ Does t = same-some (Begins name x) (Does t) e in cc

line-early : (l : Line) (t : Timed) → line_within l ≡ Some (Does t) → t.moment ≤ 10 ^ 15
unfolding line_within
line-early (Heading h) t e = absurd (begins (spec_within h) h.name t e)
line-early (Command c) t e = timed-early c t (does (timed_within c) t e)

no-entry : (t : Timed) → Does t ≡ Nothing → ⊥
no-entry t e = cc

pub says-early : (line : List ℕ) (t : Timed) → Says line (Does t) → t.moment ≤ 10 ^ 15
says-early line t (inl p) = absurd (no-entry t p.1)
says-early line t (inr p) = line-early p.0 t p.2

-- a command comes
later-than : (before : List Entry) (line : List ℕ) (c : Timed) (cs : List Timed) → commands before ≡ Some cs → IsFine before line → Says line (Does c) → first_moment cs ≤ c.moment
later-than before line c [] are fine says = omega arith
later-than before line c (d ∷ cs) are fine says = by (ltb c.moment d.moment) refl
  where
    by : (b : Bool) → ltb c.moment d.moment ≡ b → d.moment ≤ c.moment
    by true e = absurd (fine Backwards (Does c, says, (d, cs, are, ltb-true c.moment d.moment e)))
    by false e = ltb-false c.moment d.moment e

holds-does : (before : List Entry) (line : List ℕ) (c : Timed) → Holds before → IsFine before line → Says line (Does c) → Holds (Does c ∷ before)
holds-does before line c h fine says = go (commands before) refl
  where
    go : (o : Option (List Timed)) → commands before ≡ o → Holds (Does c ∷ before)
    go None is = absurd (fine NoExperiment (Does c, says, is))
    go (Some cs) is =
        let l = h.last cs is in
        let parts = each-split l.0 l.1 (subst Each l.2 h.all) in
        let now : with_last (experiments before) c ≡ l.0 ++ with_command l.1 c ∷ [] = ap (λ (x : List Experiment). with_last x c) l.2 ∙ with_last_is l.0 l.1 c in
        let later : last_of 0 l.1.commands ≤ c.moment = omega (arith, l.3, later-than before line c cs is fine says) in
        record {
          all = subst Each (sym now) (each-push l.0 (with_command l.1 c) parts.0 (in-order-push 0 l.1.commands c parts.1 later (says-early line c says)));
          last = λ ds are.
              let same : c ∷ cs ≡ ds = same-some (c ∷ cs) ds (ap (option_map (λ xs. c ∷ xs)) (sym is) ∙ are) in
              (l.0, with_command l.1 c, now, last-push 0 l.1.commands c ∙ ap first_moment same);
        }

holds-entry : (before : List Entry) (line : List ℕ) (e : Entry) → Holds before → IsFine before line → Says line e → Holds (e ∷ before)
holds-entry before line Nothing h fine says = holds-nothing before h
holds-entry before line (Begins name spec) h fine says = holds-begins before name spec h
holds-entry before line (Does c) h fine says = holds-does before line c h fine says

-- ---- all lines
spelled-in-order : (before : List Entry) (ls : List (List ℕ)) (s : List Experiment) → Holds before → AreSpelled before ls s → Each s
spelled-in-order before [] s h spelled = absurd spelled
spelled-in-order before (line ∷ []) s h spelled = subst Each spelled.2 h.all
spelled-in-order before (line ∷ more ∷ rest) s h spelled =
    spelled-in-order (spelled.0 ∷ before) (more ∷ rest) s (holds-entry before line spelled.0 h spelled.1 spelled.2) spelled.3

pub in-order : (bytes : List ℕ) (s : List Experiment) → Spells bytes s → All IsInOrder s
in-order bytes s spells = All-from_recursion IsInOrder s (spelled-in-order [] (lines bytes) s holds-nil spells.1)
