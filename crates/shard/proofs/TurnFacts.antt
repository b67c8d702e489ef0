-- What turns do to the resident whose entry is least.
use Rattle.std.proofs.Common.{◌≡◌, ◌≢◌, ℕ, ◌+◌, ◌^◌, ◌<◌, ◌≤◌, List, set, Option, Some, None, IsSome, sym, ap, ◌∙◌, arith, subst}
use Rattle.std.specs.Prelude.{IfSome, unwrap_or}
use Rattle.emu_model.specs.Moments.{end_of_time}
use Rattle.emu_model.specs.declared.records.Ending.{Ending}
use Rattle.emu_model.specs.declared.sources.Source.{Source}
use Rattle.emu_model.specs.Net.{counters_of}
use Rattle.emu_model.specs.Step.{State}
use Rattle.packet_store.specs.Pocket.{Pocket}
use Rattle.timer_wheel.specs.Rows.{Row, no_dues}
use Rattle.experiment.specs.Kept.{view, shown_ending}
use Rattle.shard.specs.Seen.{Seen, IsToldMore, IsPublished}
use Rattle.shard.specs.Bodies.{Residence as Resident}
use Rattle.shard.specs.Stand.{Final}
use Rattle.shard.specs.Kept.{next_kept}
use Rattle.shard.specs.Seats.{IsDossierOf, resident_at, standing, IsSeated, IsShard}
use Rattle.shard.specs.Steps.{IsLeast, IsLeaving}
use Rattle.shard.specs.Turns.{IsEnd, last_state}
use Rattle.shard.proofs.Slots.{late-later}
use Rattle.shard.proofs.SlotChanges.{seated_at, runs, IsAloneAt, GoesOn, IsChanged, stays, leaves}

within_limit : (o : Option ℕ) (clock due : ℕ) → IsSome o → IfSome o (λ x. x ≤ clock) → IfSome o (λ x. due < x + end_of_time) → clock < 2 ^ 62 → due < 2 ^ 62 + end_of_time
within_limit None clock due some late below early = absurd (cc)
within_limit (Some x) clock due some late below early = omega (arith, late, below, early)

module _ {M : Type 0} (seen : M → Seen) where
  -- the resident whose entry is least
  pub least : (pockets : ℕ → Pocket) (rows : ℕ → Row) (clock : ℕ) (slots : List (Option (Resident M))) (k : ℕ) (r : Resident M) (source : Source) (due : ℕ) (row : Row) (time : ℕ) →
      IsShard seen pockets rows clock slots → resident_at slots k ≡ Some r → rows k source ≡ Some due → row ≡ rows k → time ≡ due → clock ≤ time → clock < 2 ^ 62 →
      IsLeast seen (pockets r.owner) row time r
  least pockets rows clock slots k r source due row time s is was same at on early =
      let f = seated_at seen pockets rows clock slots k r s is in
      let running : IsSome r.offset = runs r.offset (next_kept r.experiment) source due (sym (f.entries source) ∙ was) in
      record {
        going = f.going;
        next = f.ready running;
        entries = λ x. ap (λ (w : Row). w x) same ∙ f.entries x;
        ready = running;
        late = late-later r.offset clock time on f.late;
        early = subst (λ t. t < 2 ^ 62 + end_of_time) (sym at) (within_limit r.offset clock due running f.late (f.below source due was) early);
      }

  pub ended : (p q : Pocket) (e : Ending) (old new : Resident M) (d : Final M) → IsLeaving seen p q e old new → IsDossierOf q new d → IsEnd seen (standing p old) d
  ended p q e old new d l done =
      let ends = done.ending in
      let rest = done.rest in
      let same : e ≡ d.ending = ap (λ (o : Option Ending). unwrap_or o e) (sym l.ending_is ∙ ends) in
      let mail : d.mail ≡ new.mail = ap (λ (x : Final M). x.mail) rest in
      let state : view q new.experiment ≡ last_state d.ending (view p old.experiment) = l.state ∙ ap (λ x. last_state x (view p old.experiment)) same in
      record {
        name = ap (λ (x : Final M). x.name) rest ∙ l.name;
        spec = ap (λ (x : Final M). x.spec) rest ∙ l.spec;
        commands = ap (λ (x : Final M). x.commands) rest ∙ l.consumed;
        records = ap (λ (x : Final M). x.records) rest ∙ ap (λ (s : State). s.net.records) state;
        counters = ap (λ (x : Final M). x.counters) rest ∙ ap (λ (s : State). counters_of s.net) state;
        events = ap (λ (x : Final M). x.events) rest ∙ ap (λ (s : State). s.steps) state;
        ending = sym (ap shown_ending ends) ∙ ap (λ (s : State). s.ending) state;
        mail = subst (IsToldMore seen old.mail) (sym mail) l.mail;
        published = subst (λ (x : Final M). IsPublished seen x.records x.mail) (sym rest) l.published;
      }

-- a resident's call, before it and after it, with the agenda's rows and clock
pub record Called {M : Type 0} (before after : ℕ → Pocket) (rows later : ℕ → Row) (clock time : ℕ) (slots : List (Option (Resident M))) (k : ℕ) (r : Resident M) : Type 0 where
  pub at : IsAloneAt before after rows later slots k r
  pub on : GoesOn clock time

module _ {M : Type 0} (seen : M → Seen) where
  -- the resident of a slot made turns and stays
  pub ran : (before after : ℕ → Pocket) (rows later : ℕ → Row) (clock middle time : ℕ) (slots : List (Option (Resident M))) (k : ℕ) (r t : Resident M) → IsShard seen before rows clock slots → Called before after rows later clock time slots k r → time ≡ middle →
      IsSeated seen (after r.owner) (later k) middle t → t.owner ≡ r.owner → IsChanged seen before after later time slots (set slots k (Some t)) k (Some t)
  ran before after rows later clock middle time slots k r t s a same seated owner =
      stays seen before after rows later clock time slots k r t s a.on a.at (subst (λ x. IsSeated seen (after r.owner) (later k) x t) (sym same) seated) owner

  -- the resident of a slot has ended and goes
  pub gone : (before after last : ℕ → Pocket) (rows later : ℕ → Row) (clock time : ℕ) (slots : List (Option (Resident M))) (k : ℕ) (r : Resident M) → IsShard seen before rows clock slots → Called before after rows later clock time slots k r → later k ≡ no_dues → ((o : ℕ) → o ≢ r.owner → last o ≡ after o) →
      IsChanged seen before last later time slots (set slots k None) k None
  gone before after last rows later clock time slots k r s a none stay =
      leaves seen before last rows later clock time slots k r s a.on
      (record { is = a.at.is; within = a.at.within; rows_stay = a.at.rows_stay; pockets_stay = λ o n. stay o n ∙ a.at.pockets_stay o n })
      none
