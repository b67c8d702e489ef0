use Rattle.std.proofs.Common.{◌≡◌, ◌≤◌, ◌<◌, ◌++◌, ◌∷◌, [], ℕ, Option, sym, ap, ◌∙◌, subst, length, take, Err, Some}
use Rattle.emu_model.specs.declared.commands.Timed.{Timed}
use Rattle.experiment.specs.Kept.{KeptExperiment, IsAlone, IsHousedIn, last_moment}
use Rattle.shard.specs.Bodies.{Moved, Residence as Resident}
use Rattle.shard.specs.Seen.{Seen}
use Rattle.shard.specs.Kept.{IsGoing}
use Rattle.shard.specs.Seats.{IsSeated}
use Rattle.shard.proofs.BodyFacts.{taken_out}
use Rattle.shard.proofs.KeptFacts.{kept-aside, kept-took}
use Rattle.shard.proofs.resident.Resident.poll.Goals as goal

-- a resident of these parts
abbrev was : {M : Type 0} → ℕ → Option ℕ → Moved M → Resident M
was owner offset b = record { name = b.name; owner = owner; experiment = b.experiment; mail = b.mail; published = b.published; offset = offset }

pub returns-in-Ok-apply-clause-seated : goal.returns-in-Ok-apply-clause-seated
returns-in-Ok-apply-clause-seated g c = λ p sat.
    let r = c.self.inside in
    let v = r.body.value in
    let e : KeptExperiment = v.experiment in
    let seated : IsSeated g.M.Mail.seen p (g.A.Agenda.entries c.args.agenda.now c.args.slot) (g.A.Agenda.time c.args.agenda.now) (was r.owner r.offset v) =
    subst (λ (x : Resident _). IsSeated g.M.Mail.seen p (g.A.Agenda.entries c.args.agenda.now c.args.slot) (g.A.Agenda.time c.args.agenda.now) x) (sym c.self.view_is) sat in
    let k = seated.going.kept in
    let a = c.publish.new.self in
    let b = c.apply_ready.new.self in
    let d = c.take_command.new.self in
    let t : Timed = c.in-Some.timed in
    let n : ℕ = b.experiment.spare in
    let all : d ≡ record v { experiment = record e { spare = n }; mail = d.mail; published = a.published } =
    taken_out v a b d
    (c.publish.ensures.rest ∙ ap (λ (x : Moved _). record x { mail = a.mail; published = a.published }) c.deref_mut.ensures.value)
    (c.in-Ok.ensures.same ∙ ap (λ (x : Moved _). record x { experiment = record x.experiment { spare = n } }) c.deref_mut-2.ensures.value)
    (c.in-Some.ensures.rest ∙ ap (λ (x : Moved _). record x { mail = d.mail }) c.deref_mut-3.ensures.value) in
    let put : b.mail ≡ a.mail = ap (λ (x : Moved _). x.mail) (c.in-Ok.ensures.same ∙ ap (λ (x : Moved _). record x { experiment = record x.experiment { spare = n } }) c.deref_mut-2.ensures.value) in
    let from : c.deref_mut-3.result.now.mail ≡ a.mail = ap (λ (x : Moved _). x.mail) c.deref_mut-3.ensures.value ∙ put in
    let came : g.M.Mail.seen d.mail ≡ record (g.M.Mail.seen a.mail) { given = (g.M.Mail.seen a.mail).given ++ t ∷ []; dry = (g.M.Mail.seen d.mail).dry } =
    c.in-Some.ensures.some ∙ ap (λ x. record (g.M.Mail.seen x) { given = (g.M.Mail.seen x).given ++ t ∷ []; dry = (g.M.Mail.seen d.mail).dry }) from in
    let told : (g.M.Mail.seen d.mail).letters ≡ take a.published e.net.log.records =
    ap (λ (x : Seen). x.letters) came ∙ c.publish.ensures.told ∙ ap (λ (x : Moved _). take a.published x.experiment.net.log.records) c.deref_mut.ensures.value in
    let short : a.published ≤ length e.net.log.records =
    subst (λ (x : Moved _). a.published ≤ length x.experiment.net.log.records) c.deref_mut.ensures.value c.publish.ensures.short in
    let given : (g.M.Mail.seen d.mail).given ≡ (g.M.Mail.seen v.mail).given ++ t ∷ [] =
    ap (λ (x : Seen). x.given) came ∙ ap (λ (x : Seen). x.given ++ t ∷ []) c.publish.ensures.mail ∙ ap (λ (x : Moved _). (g.M.Mail.seen x.mail).given ++ t ∷ []) c.deref_mut.ensures.value in
    let f : KeptExperiment = c.apply.new.self.experiment in
    let now : c.deref_mut-4.result.now ≡ record v { experiment = record e { spare = n }; mail = d.mail; published = a.published } = c.deref_mut-4.ensures.value ∙ all in
    let is-ok = c.in-Ok-apply.ensures in
    let next : KeptExperiment → KeptExperiment = λ x. record x { next = Some t; consumed = x.consumed ++ t ∷ []; spare = f.spare } in
    let is : f ≡ next e = is-ok.ok ∙ ap (λ (x : Moved _). next x.experiment) now in
    let before : KeptExperiment = record e { spare = n } in
    let first : IsHousedIn p before = record { housed = record { each = k.housed.housed.each; count = k.housed.housed.count }; room = k.housed.room } in
    let housed : IsHousedIn p (next e) =
    subst (λ (x : KeptExperiment). IsHousedIn p x) is (is-ok.housed p (subst (λ (x : Moved _). IsHousedIn p x.experiment) (sym now) first)) in
    let alone : IsAlone p (next e) =
    subst (λ (x : KeptExperiment). IsAlone p x) is (is-ok.alone p (subst (λ (x : Moved _). IsAlone p x.experiment) (sym now) k.alone)) in
    let late : last_moment 0 e.consumed ≤ t.moment = subst (λ (x : Moved _). last_moment 0 x.experiment.consumed ≤ t.moment) now is-ok.free.2 in
    let kept = kept-took g.M.Mail.seen p e v.published v.mail k f.spare a.published d.mail t told short given late housed alone in
    let end : c.apply.new.self ≡ record v { experiment = f; mail = d.mail; published = a.published } =
    is-ok.rest ∙ ap (λ (x : Moved _). record x { experiment = f }) now in
    c.enter-in-Ok-apply.ensures.seated p
    (subst (λ (x : Moved _). IsGoing g.M.Mail.seen p x.experiment x.published x.mail) (sym end)
    (subst (λ (x : KeptExperiment). IsGoing g.M.Mail.seen p x a.published d.mail) (sym is) (record { kept = kept; going = seated.going.going })))

pub returns-in-Err-Backward-clause-seated : goal.returns-in-Err-Backward-clause-seated
returns-in-Err-Backward-clause-seated g c = λ p sat.
    let r = c.self.inside in
    let v = r.body.value in
    let e : KeptExperiment = v.experiment in
    let seated : IsSeated g.M.Mail.seen p (g.A.Agenda.entries c.args.agenda.now c.args.slot) (g.A.Agenda.time c.args.agenda.now) (was r.owner r.offset v) =
    subst (λ (x : Resident _). IsSeated g.M.Mail.seen p (g.A.Agenda.entries c.args.agenda.now c.args.slot) (g.A.Agenda.time c.args.agenda.now) x) (sym c.self.view_is) sat in
    let k = seated.going.kept in
    let a = c.publish.new.self in
    let b = c.apply_ready.new.self in
    let d = c.take_command.new.self in
    let t : Timed = c.in-Some.timed in
    let n : ℕ = b.experiment.spare in
    let all : d ≡ record v { experiment = record e { spare = n }; mail = d.mail; published = a.published } =
    taken_out v a b d
    (c.publish.ensures.rest ∙ ap (λ (x : Moved _). record x { mail = a.mail; published = a.published }) c.deref_mut.ensures.value)
    (c.in-Ok.ensures.same ∙ ap (λ (x : Moved _). record x { experiment = record x.experiment { spare = n } }) c.deref_mut-2.ensures.value)
    (c.in-Some.ensures.rest ∙ ap (λ (x : Moved _). record x { mail = d.mail }) c.deref_mut-3.ensures.value) in
    let put : b.mail ≡ a.mail = ap (λ (x : Moved _). x.mail) (c.in-Ok.ensures.same ∙ ap (λ (x : Moved _). record x { experiment = record x.experiment { spare = n } }) c.deref_mut-2.ensures.value) in
    let from : c.deref_mut-3.result.now.mail ≡ a.mail = ap (λ (x : Moved _). x.mail) c.deref_mut-3.ensures.value ∙ put in
    let came : g.M.Mail.seen d.mail ≡ record (g.M.Mail.seen a.mail) { given = (g.M.Mail.seen a.mail).given ++ t ∷ []; dry = (g.M.Mail.seen d.mail).dry } =
    c.in-Some.ensures.some ∙ ap (λ x. record (g.M.Mail.seen x) { given = (g.M.Mail.seen x).given ++ t ∷ []; dry = (g.M.Mail.seen d.mail).dry }) from in
    let told : (g.M.Mail.seen d.mail).letters ≡ take a.published e.net.log.records =
    ap (λ (x : Seen). x.letters) came ∙ c.publish.ensures.told ∙ ap (λ (x : Moved _). take a.published x.experiment.net.log.records) c.deref_mut.ensures.value in
    let short : a.published ≤ length e.net.log.records =
    subst (λ (x : Moved _). a.published ≤ length x.experiment.net.log.records) c.deref_mut.ensures.value c.publish.ensures.short in
    let given : (g.M.Mail.seen d.mail).given ≡ (g.M.Mail.seen v.mail).given ++ t ∷ [] =
    ap (λ (x : Seen). x.given) came ∙ ap (λ (x : Seen). x.given ++ t ∷ []) c.publish.ensures.mail ∙ ap (λ (x : Moved _). (g.M.Mail.seen x.mail).given ++ t ∷ []) c.deref_mut.ensures.value in
    let f : KeptExperiment = c.apply.new.self.experiment in
    let now : c.deref_mut-4.result.now ≡ record v { experiment = record e { spare = n }; mail = d.mail; published = a.published } = c.deref_mut-4.ensures.value ∙ all in
    let back = c.in-Err-Backward.ensures in
    let below : t.moment < last_moment 0 e.consumed =
    subst (λ (x : Moved _). t.moment < last_moment 0 x.experiment.consumed) now (back.backward (ap Err c.in-Err-Backward.field-0-is)).2 in
    let kept = kept-aside g.M.Mail.seen p e v.published v.mail k n a.published d.mail t told short given below in
    subst (λ (x : Moved _). IsSeated g.M.Mail.seen p (g.A.Agenda.entries c.args.agenda.now c.args.slot) (g.A.Agenda.time c.args.agenda.now) (was r.owner r.offset x))
    (sym (back.err ∙ now))
    (record {
      going = record { kept = kept; going = seated.going.going };
      entries = seated.entries;
      ready = seated.ready;
      late = seated.late;
      below = seated.below;
    })
