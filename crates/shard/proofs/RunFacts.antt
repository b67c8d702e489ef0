-- Steps of one resident, one after the other.
use Rattle.std.proofs.Common.{◌≡◌, ℕ, zero, suc, ◌+◌, ◌≤◌, true, false, [], Option, Some, None, IsSome, refl, sym, ap, ◌∙◌, arith, subst, inl, inr, add-one, ⊎_elim}
use Rattle.std.specs.Prelude.{◌⊎◌, Bool, not, is_some, option_to_list}
use denote.Enum.Bare.{sameb}
use Rattle.emu_model.specs.declared.commands.Timed.{Timed}
use Rattle.emu_model.specs.declared.records.Ending.{Ending}
use Rattle.emu_model.specs.declared.records.Ending.TheVariants.{Ended as ByEnd, Spent, Halted as ByNoMemory}
use Rattle.packet_store.specs.Pocket.{Pocket}
use Rattle.timer_wheel.specs.Rows.{Row}
use Rattle.experiment.specs.contracts.experiment.Event.{the_type}
use Rattle.experiment.specs.declared.experiment.Event.{Event}
use Rattle.experiment.specs.declared.experiment.Event.TheVariants.{Ran, Ended, Halted, Still}
use Rattle.experiment.specs.Kept.{view, shown_ending}
use Rattle.experiment.specs.Moves.{Makes}
use Rattle.shard.specs.Seen.{Seen, IsToldMore, IsPublished}
use Rattle.shard.specs.Bodies.{Residence as Resident}
use Rattle.shard.specs.Stand.{Stand}
use Rattle.shard.specs.Kept.{IsKept, IsGoing}
use Rattle.shard.specs.Seats.{standing, IsSeated}
use Rattle.shard.specs.Steps.{IsLeaving, Advances, HeardAt, HasStayed, HasLeft, RunsOn, Runs}
use Rattle.shard.specs.Turns.{IsTurn, AreTurns, SaidYes, Heard, LeavesOff, last_state}

module _ {M : Type 0} (seen : M → Seen) where
  -- a turn more
  pub one_more : (n : ℕ) (s t u : Stand M) → AreTurns seen n s t → IsTurn seen t u → AreTurns seen (n + 1) s u
  one_more n s t u h m = subst (λ k. AreTurns seen k s u) (sym (add-one n)) (t, h, m)

  -- who watches heard the name once more
  pub said_yes_more : {W : Type 0} (hears : ℕ → Bool → W → W → Type 0) (name other n : ℕ) (u v w : W) → other ≡ name → SaidYes hears name n u v → hears other true v w → SaidYes hears name (n + 1) u w
  said_yes_more hears name other n u v w same h e =
      subst (λ k. SaidYes hears name k u w) (sym (add-one n)) (v, h, subst (λ k. hears k true v w) same e)

  pub heard_more : {W : Type 0} (hears : ℕ → Bool → W → W → Type 0) (name other n : ℕ) (answer : Bool) (u v w : W) → other ≡ name → SaidYes hears name n u v → hears other answer v w → Heard hears name (n + 1) u w
  heard_more hears name other n answer u v w same h e =
      subst (λ k. Heard hears name k u w) (sym (add-one n)) (v, h, (answer, subst (λ k. hears k answer v w) same e))

  -- all were answered by yes, the last one too
  pub all_heard : {W : Type 0} (hears : ℕ → Bool → W → W → Type 0) (name n : ℕ) (u w : W) → 1 ≤ n → SaidYes hears name n u w → Heard hears name n u w
  all_heard hears name zero u w some h = absurd (omega (arith, some))
  all_heard hears name (suc n) u w some h = (h.0, h.1, (true, h.2))

  -- where the resident ended all were answered by yes
  pub heard_at : {W : Type 0} (hears : ℕ → Bool → W → W → Type 0) (event : Event) (name n : ℕ) (u w : W) → sameb the_type event Ran ≡ true → Heard hears name n u w → HeardAt hears event name n u w
  heard_at hears Ran name n u w same h = h
  heard_at hears Ended name n u w same h = absurd (cc)
  heard_at hears Halted name n u w same h = absurd (cc)
  heard_at hears Still name n u w same h = absurd (cc)

  pub said_at : {W : Type 0} (hears : ℕ → Bool → W → W → Type 0) (event : Event) (name n : ℕ) (u w : W) → sameb the_type event Ran ≡ false → SaidYes hears name n u w → HeardAt hears event name n u w
  said_at hears Ran name n u w other h = absurd (cc)
  said_at hears Ended name n u w other h = h
  said_at hears Halted name n u w other h = h
  said_at hears Still name n u w other h = h

  pub heard_ran : {W : Type 0} (hears : ℕ → Bool → W → W → Type 0) (event : Event) (name n : ℕ) (u w : W) → sameb the_type event Ran ≡ true → HeardAt hears event name n u w → Heard hears name n u w
  heard_ran hears Ran name n u w same h = h
  heard_ran hears Ended name n u w same h = absurd (cc)
  heard_ran hears Halted name n u w same h = absurd (cc)
  heard_ran hears Still name n u w same h = absurd (cc)

  pub said_left : {W : Type 0} (hears : ℕ → Bool → W → W → Type 0) (event : Event) (name n : ℕ) (u w : W) → sameb the_type event Ran ≡ false → HeardAt hears event name n u w → SaidYes hears name n u w
  said_left hears Ran name n u w other h = absurd (cc)
  said_left hears Ended name n u w other h = h
  said_left hears Halted name n u w other h = h
  said_left hears Still name n u w other h = h

  pub not_same : (b : Bool) → not b ≡ true → b ≡ false
  not_same true h = absurd (cc)
  not_same false h = refl

  pub is_same : (b : Bool) → not b ≡ false → b ≡ true
  is_same true h = refl
  is_same false h = absurd (cc)

  pub none_left : (o : Option Timed) → is_some o ≡ false → option_to_list o ≡ []
  none_left None h = refl
  none_left (Some c) h = absurd (cc)

  -- no command is left, or there is an entry
  pub entry_if_next : (n : Option Timed) (o : Option ℕ) → (IsSome n → IsSome o) → (option_to_list n ≡ []) ⊎ IsSome o
  entry_if_next None o h = inl refl
  entry_if_next (Some c) o h = inr (h refl)

  -- a turn more of the resident, of which `n` were made; then no other followed
  pub stays_after : (may_refuse : Bool) (more n : ℕ) (p m q : Pocket) (old last new : Resident M) → n ≤ more → AreTurns seen n (standing p old) (standing m last) → IsTurn seen (standing m last) (standing q new) → LeavesOff may_refuse more (n + 1) (standing q new) → HasStayed seen may_refuse more (n + 1) p old q new
  stays_after may_refuse more n p m q old last new few h turn off = record {
    some = omega arith;
    few = omega (arith, few);
    left_off = off;
    turns = one_more n (standing p old) (standing m last) (standing q new) h turn;
  }

  -- what an event leaves of a resident, whatever it answers
  pub record Follows (old new : Resident M) : Type 0 where
    pub name : new.name ≡ old.name
    pub owner : new.owner ≡ old.owner
    pub spec : new.experiment.spec ≡ old.experiment.spec
    pub consumed : new.experiment.consumed ≡ old.experiment.consumed
    pub mail : IsToldMore seen old.mail new.mail
    pub published : IsPublished seen new.experiment.net.log.records new.mail

  leaving : (p q : Pocket) (e : Ending) (old new : Resident M) → Follows old new → IsKept seen q new.experiment new.published new.mail → view q new.experiment ≡ last_state e (view p old.experiment) → new.experiment.ending ≡ Some e → IsLeaving seen p q e old new
  leaving p q e old new f k state is = record {
    kept = k;
    name = f.name;
    owner = f.owner;
    spec = f.spec;
    consumed = f.consumed;
    state = state;
    ending_is = is;
    mail = f.mail;
    published = f.published;
  }

  -- a step, by its answer
  pub advanced : (a : Event) (p q : Pocket) (old new : Resident M) → IsGoing seen p old.experiment old.published old.mail → IsSome old.experiment.next → IsKept seen q new.experiment new.published new.mail → Makes a p old.experiment q new.experiment → Follows old new → Advances seen a p old q new
  advanced Ran p q old new g next k m f = (
    record { kept = k; going = m.1 },
    record { name = f.name; spec = f.spec; consumed = f.consumed; state = m.0.stepped; made = m.0.counted; mail = f.mail; published = f.published },
  )
  advanced Ended p q old new g next k m f = by_ending new.experiment.ending refl m.1
    where
      by_ending : (o : Option Ending) → new.experiment.ending ≡ o → IsSome (shown_ending new.experiment.ending) → (e : Ending) × IsLeaving seen p q e old new
      by_ending None is some = absurd (cc)
      by_ending (Some ByEnd) is some = (ByEnd, leaving p q ByEnd old new f k m.0.stepped is)
      by_ending (Some Spent) is some = (Spent, leaving p q Spent old new f k m.0.stepped is)
      by_ending (Some ByNoMemory) is some = absurd (cc)
  advanced Halted p q old new g next k m f = (ByNoMemory, leaving p q ByNoMemory old new f k m.shown m.ending)
  advanced Still p q old new g next k m f =
      ⊎_elim (λ (e : old.experiment.next ≡ None). absurd (cc)) (λ (e : IsSome old.experiment.ending). let n = g.going in absurd (cc)) m.2

  -- it ran and stays
  pub went_on : (a : Event) (p q : Pocket) (old new : Resident M) → sameb the_type a Ran ≡ true → Advances seen a p old q new → IsGoing seen q new.experiment new.published new.mail × IsTurn seen (standing p old) (standing q new)
  went_on Ran p q old new e s = s
  went_on Ended p q old new e s = absurd (cc)
  went_on Halted p q old new e s = absurd (cc)
  went_on Still p q old new e s = absurd s

  -- it has ended after n turns
  pub left : (a : Event) (may_refuse : Bool) (more n : ℕ) (p m q : Pocket) (old last new : Resident M) → sameb the_type a Ran ≡ false → n ≤ more → last.owner ≡ old.owner → AreTurns seen n (standing p old) (standing m last) → Advances seen a m last q new → RunsOn seen may_refuse more n a p old q new
  left Ran may_refuse more n p m q old last new e few owner h s = absurd (cc)
  left Ended may_refuse more n p m q old last new e few owner h s = record { few = few; pocket = m; last = last; owner = owner; turns = h; ending = s.0; leaving = s.1 }
  left Halted may_refuse more n p m q old last new e few owner h s = record { few = few; pocket = m; last = last; owner = owner; turns = h; ending = s.0; leaving = s.1 }
  left Still may_refuse more n p m q old last new e few owner h s = absurd s

  -- it stays after n turns
  pub stayed : (a : Event) (may_refuse : Bool) (more n : ℕ) (p q : Pocket) (old new : Resident M) → sameb the_type a Ran ≡ true → HasStayed seen may_refuse more n p old q new → IsGoing seen q new.experiment new.published new.mail → RunsOn seen may_refuse more n a p old q new
  stayed Ran may_refuse more n p q old new e h g = (h, g)
  stayed Ended may_refuse more n p q old new e h g = absurd (cc)
  stayed Halted may_refuse more n p q old new e h g = absurd (cc)
  stayed Still may_refuse more n p q old new e h g = absurd (cc)

  -- many turns, by their answer
  pub stays_on : (a : Event) (may_refuse : Bool) (more n : ℕ) (p q : Pocket) (old new : Resident M) → sameb the_type a Ran ≡ true → RunsOn seen may_refuse more n a p old q new → HasStayed seen may_refuse more n p old q new × IsGoing seen q new.experiment new.published new.mail
  stays_on Ran may_refuse more n p q old new e h = h
  stays_on Ended may_refuse more n p q old new e h = absurd (cc)
  stays_on Halted may_refuse more n p q old new e h = absurd (cc)
  stays_on Still may_refuse more n p q old new e h = absurd h

  -- the entry was set anew
  pub entered : (a : Event) (may_refuse : Bool) (more n : ℕ) (p q : Pocket) (row : Row) (clock : ℕ) (old mid new : Resident M) → sameb the_type a Ran ≡ true → RunsOn seen may_refuse more n a p old q mid → new ≡ record mid { offset = new.offset } → mid.owner ≡ old.owner → IsSeated seen q row clock new → (IsSome mid.experiment.next → IsSome new.offset) → Runs seen may_refuse more n a p old q row clock new
  entered Ran may_refuse more n p q row clock old mid new e h same owner seated there = (
    subst (λ (x : Resident M). HasStayed seen may_refuse more n p old q x) (sym same) (record { some = h.0.some; few = h.0.few; left_off = h.0.left_off; turns = h.0.turns }),
    seated,
    ap (λ (x : Resident M). x.owner) same ∙ owner,
    λ some. there (subst (λ (x : Resident M). IsSome x.experiment.next) same some),
  )
  entered Ended may_refuse more n p q row clock old mid new e h same owner seated there = absurd (cc)
  entered Halted may_refuse more n p q row clock old mid new e h same owner seated there = absurd (cc)
  entered Still may_refuse more n p q row clock old mid new e h same owner seated there = absurd h

  -- without an entry
  pub gone_on : (a : Event) (may_refuse : Bool) (more n : ℕ) (p q : Pocket) (row : Row) (clock : ℕ) (old new : Resident M) → sameb the_type a Ran ≡ false → RunsOn seen may_refuse more n a p old q new → Runs seen may_refuse more n a p old q row clock new
  gone_on Ran may_refuse more n p q row clock old new e h = absurd (cc)
  gone_on Ended may_refuse more n p q row clock old new e h = h
  gone_on Halted may_refuse more n p q row clock old new e h = h
  gone_on Still may_refuse more n p q row clock old new e h = h

  -- many turns with their entries, by their answer
  pub ran_on : (a : Event) (may_refuse : Bool) (more n : ℕ) (p q : Pocket) (row : Row) (clock : ℕ) (old new : Resident M) → sameb the_type a Ran ≡ true → Runs seen may_refuse more n a p old q row clock new → HasStayed seen may_refuse more n p old q new × IsSeated seen q row clock new × (new.owner ≡ old.owner) × (IsSome new.experiment.next → IsSome new.offset)
  ran_on Ran may_refuse more n p q row clock old new e h = h
  ran_on Ended may_refuse more n p q row clock old new e h = absurd (cc)
  ran_on Halted may_refuse more n p q row clock old new e h = absurd (cc)
  ran_on Still may_refuse more n p q row clock old new e h = absurd h

  pub over : (a : Event) (may_refuse : Bool) (more n : ℕ) (p q : Pocket) (row : Row) (clock : ℕ) (old new : Resident M) → sameb the_type a Ran ≡ false → Runs seen may_refuse more n a p old q row clock new → HasLeft seen more n p old q new
  over Ran may_refuse more n p q row clock old new e h = absurd (cc)
  over Ended may_refuse more n p q row clock old new e h = h
  over Halted may_refuse more n p q row clock old new e h = h
  over Still may_refuse more n p q row clock old new e h = absurd h
