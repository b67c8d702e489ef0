use Rattle.std.proofs.Common.{◌≡◌, ◌+◌, ◌<◌, ◌++◌, [], true, false, length, sym, ap, ◌∙◌, refl, subst, append-nil, arith}
use Rattle.std.specs.Prelude.{flat_map}
use Rattle.std.proofs.Common.{length-append}
use Rattle.control.specs.declared.fault.Cause.TheVariants.{TooLong}
use Rattle.session.specs.Sessions.{written}
use Rattle.alone.specs.Talks.{KeptTalk, GoesOn, refusal}
use Rattle.alone.specs.contracts.talk.Talk.{the_view}
use Rattle.alone.proofs.Talking.{goes-skipping, goes-added, said-long}
use Rattle.alone.proofs.talk.Talk.add.Goals as goal

pub returns-then-self-clause-hears : goal.returns-then-self-clause-hears
returns-then-self-clause-hears g c =
    let skips : c.args.self.now.is_skipping ≡ true = sym (ap (λ (t : KeptTalk). t.is_skipping) c.self.view_is) ∙ c.if-self.true in
    ([], sym (append-nil _), goes-skipping (g.H.Hints.may_say c.args.hints.now) c.args.bytes.now c.args.self.now skips c.requires)

pub returns-then-saturating_add-gt-MAX_LINE-clause-hears : goal.returns-then-saturating_add-gt-MAX_LINE-clause-hears
returns-then-saturating_add-gt-MAX_LINE-clause-hears g c =
    let ok = c.self.inside.part.ok.0 in
    let len = c.len.ensures in
    let sum = c.saturating_add.ensures in
    let past = c.if-saturating_add-gt-MAX_LINE.true in
    let part = ap (λ (t : KeptTalk). length t.part) c.self.view_is in
    let many : 512 < length c.args.self.now.part + length c.args.bytes.now = omega (arith, ok, len, sum, past, part) in
    said-long (g.H.Hints.may_say c.args.hints.now) c.args.bytes.now c.args.self.now c.refuse_long.new.self c.refuse_long.result
    (sym (ap (λ (t : KeptTalk). t.is_skipping) c.self.view_is) ∙ c.if-self.false) c.requires many c.refuse_long.ensures.says c.refuse_long.ensures.same

pub returns-clause-hears : goal.returns-clause-hears
returns-clause-hears g c =
    let ok = c.self.inside.part.ok.0 in
    let len = c.len.ensures in
    let sum = c.saturating_add.ensures in
    let few = c.if-saturating_add-gt-MAX_LINE.false in
    let items = ap length c.in-Ok.ensures.items in
    let now = length-append c.self.inside.part.items c.args.bytes.now in
    let hinting = g.H.Hints.may_say c.args.hints.now in
    let old : KeptTalk = the_view c.self.inside in
    let new : KeptTalk = record { session = old.session; part = c.extend_from_slice.new.self.items; out = old.out; is_skipping = old.is_skipping; lines = old.lines } in (
      [],
      ap (λ (t : KeptTalk). t.out) c.self.view_is ∙ sym (append-nil c.args.self.now.out),
      subst (λ (t : KeptTalk). GoesOn hinting c.args.bytes.now [] t new) c.self.view_is
          (goes-added hinting c.args.bytes.now old new c.if-self.false c.requires c.in-Ok.ensures.items (omega (arith, ok, len, sum, few, items, now)) refl refl refl),
    )
