use Rattle.std.proofs.Common.{◌-◌, ◌∙◌, IsSome, set, ap, sym, arith}
use Rattle.pipe_core.specs.KeyedInstance.{KeyedInstance, keys_in}
use Rattle.pipe_core.specs.Blanks.{blank}
use Rattle.pipe_core.proofs.KeyPlaces.{keys-line, keys-served, keys-waiting, blank-line, blank-waiting}
use Rattle.pipe_core.proofs.instance.Instance.replace_key.Goals as goal

pub returns-then-place-in_flight-clause-keys : goal.returns-then-place-in_flight-clause-keys
returns-then-place-in_flight-clause-keys c =
    let own = c.self.inside in
    let old : KeyedInstance = record { queue = own.queue; service = own.service; delay_line = own.line; draws = own.stream } in
    ap (λ l. keys_in (record old { delay_line = l })) c.replace.ensures
    ∙ keys-line old c.args.place c.args.key (omega (arith, c.in_flight-in_flight.ensures.in_flight))
    ∙ ap (λ (i : KeyedInstance). set (keys_in i) c.args.place c.args.key) c.self.view_is

pub returns-then-place-in_flight-clause-blank : goal.returns-then-place-in_flight-clause-blank
returns-then-place-in_flight-clause-blank c =
    let own = c.self.inside in
    let old : KeyedInstance = record { queue = own.queue; service = own.service; delay_line = own.line; draws = own.stream } in
    ap (λ l. blank (record old { delay_line = l })) c.replace.ensures ∙ blank-line old c.args.place c.args.key
    ∙ ap blank c.self.view_is

pub returns-then-behind-eq0-clause-keys : goal.returns-then-behind-eq0-clause-keys
returns-then-behind-eq0-clause-keys c =
    let own = c.self.inside in
    let old : KeyedInstance = record { queue = own.queue; service = own.service; delay_line = own.line; draws = own.stream } in
    let busy : IsSome own.service.busy = sym c.is_busy.ensures ∙ c.if-not-is_busy.false in
    ap (λ s. keys_in (record old { service = s })) c.replace-then-behind-eq0.ensures
    ∙ keys-served old c.args.place c.args.key busy (omega (arith, c.in_flight-in_flight.ensures.in_flight))
    ∙ ap (λ (i : KeyedInstance). set (keys_in i) c.args.place c.args.key) c.self.view_is

pub returns-clause-keys : goal.returns-clause-keys
returns-clause-keys c =
    let own = c.self.inside in
    let old : KeyedInstance = record { queue = own.queue; service = own.service; delay_line = own.line; draws = own.stream } in
    let busy : IsSome own.service.busy = sym c.is_busy.ensures ∙ c.if-not-is_busy.false in
    ap (λ q. keys_in (record old { queue = q })) c.replace-2.ensures
    ∙ keys-waiting old c.args.place (c.args.place - c.in_flight-in_flight.result - 1) c.args.key busy (omega (arith, c.in_flight-in_flight.ensures.in_flight))
    ∙ ap (λ (i : KeyedInstance). set (keys_in i) c.args.place c.args.key) c.self.view_is

pub returns-clause-blank : goal.returns-clause-blank
returns-clause-blank c =
    let own = c.self.inside in
    let old : KeyedInstance = record { queue = own.queue; service = own.service; delay_line = own.line; draws = own.stream } in
    ap (λ q. blank (record old { queue = q })) c.replace-2.ensures ∙ blank-waiting old _ c.args.key
    ∙ ap blank c.self.view_is
