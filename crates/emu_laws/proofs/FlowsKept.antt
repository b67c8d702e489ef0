-- What is kept of each flow by each change of it; no two flows have one number, so a segment that is due is one
-- that the flow of its number may send.
use Rattle.std.proofs.Common.{◌≡◌, ℕ, ◌+◌, ◌*◌, List, [], ◌∷◌, ◌++◌, Bool, true, false, refl, sym, subst, Option, Some, None, eq-eqb}
use Rattle.std.specs.Prelude.{if◌then◌else◌, nat_lt, ◌==◌, find, flat_map, option_map, option_to_list}
use Rattle.std.specs.List.{AllByRecursion, list_any}
use Rattle.std.proofs.lemmas.Bool.{eqb-true, eqb-false, ne_eqb, or_parts}
use Rattle.emu_model.specs.Lists.{replace_first}
use Rattle.emu_laws.proofs.Types.{Spec, Timed, Class, Exit, Finish, Expiry, Emission, Packet, FlowSpec, Command}
use Rattle.emu_model.specs.Delay.{Line, first_exit}
use Rattle.emu_model.specs.Reno.{ack, with_segment, emit, expire, initial_sender, may_emit}
use Rattle.emu_model.specs.Pipes.{Instance, PipeState}
use Rattle.emu_model.specs.Net.{Net, FlowState, TrainState, find_flow, find_train}
use Rattle.emu_model.specs.declared.sources.Due.{Due}
use Rattle.emu_model.specs.Dues.{due, line_dues, service_dues, instances_dues, pipe_dues, flow_dues, train_dues, dues_of}
use Rattle.emu_model.specs.Step.{State}
use Rattle.emu_model.specs.Alone.{alone}
use Rattle.emu_model.proofs.CallerLemmas.{of_next_event}
use Rattle.emu_laws.proofs.EachOf.{each_joined, each_both, each_weaker, each_found, each_replaced}
use Rattle.emu_laws.proofs.EachChange.{Keeps, KnowsSends, steps_keep}

-- no two flows have one number
pub Differ : List FlowState → Type 0
Differ [] = Unit {0}
Differ (f ∷ fs) = AllByRecursion (λ g. g.number ≡ f.number → ⊥) fs × Differ fs

pub differ_put : (y : FlowState) (fs : List FlowState) → Differ fs →
    Differ (replace_first (λ g. g.number == y.number) y fs)
unfolding Differ
differ_put y [] h = tt
differ_put y (x ∷ xs) h = go (x.number == y.number) refl (differ_put y xs h.1)
  where
    go : (b : Bool) → (x.number == y.number) ≡ b → Differ (replace_first (λ g. g.number == y.number) y xs) →
        Differ (if b then y ∷ xs else x ∷ replace_first (λ g. g.number == y.number) y xs)
    go true e later =
        (subst (λ k. AllByRecursion (λ g. g.number ≡ k → ⊥) xs) (eqb-true x.number y.number e) h.0, h.1)
    go false e later = (
      each_replaced (λ g. g.number ≡ x.number → ⊥) (λ g. g.number == y.number) y xs
          (λ g. eqb-false x.number y.number e (sym g)) h.0,
      later,
    )

differ_more : (y : FlowState) (fs : List FlowState) → list_any (λ g. g.number == y.number) fs ≡ false → Differ fs →
    Differ (fs ++ y ∷ [])
unfolding Differ
differ_more y [] e h = (tt, tt)
differ_more y (x ∷ xs) e h =
    let parts = or_parts (x.number == y.number) (list_any (λ g. g.number == y.number) xs) e in (
      each_joined (λ g. g.number ≡ x.number → ⊥) xs (y ∷ []) h.0
          ((λ g. eqb-false x.number y.number parts.0 (sym g)), tt),
      differ_more y xs parts.1 h.1,
    )

-- what a choice gives that is true, and that is false
of_first : {A : Type 0} (b : Bool) (x : A) (o r : Option A) → b ≡ true → (if b then Some x else o) ≡ r → Some x ≡ r
of_first true x o r t e = e
of_first false x o r t e = absurd (cc t)

of_later : {A : Type 0} (b : Bool) (x : A) (o r : Option A) → b ≡ false → (if b then Some x else o) ≡ r → o ≡ r
of_later true x o r t e = absurd (cc t)
of_later false x o r t e = e

-- each is the one that is found with its number
found_itself : (fs : List FlowState) → Differ fs →
    AllByRecursion (λ g. (f : FlowState) → find (λ x. x.number == g.number) fs ≡ Some f → g ≡ f) fs
unfolding Differ
found_itself [] h = tt
found_itself (x ∷ xs) h = (
  λ f e. same f (of_first (x.number == x.number) x (find (λ y. y.number == x.number) xs) (Some f)
      (eq-eqb x.number x.number refl) e),
  each_both (λ g. g.number ≡ x.number → ⊥)
      (λ g. (f : FlowState) → find (λ y. y.number == g.number) xs ≡ Some f → g ≡ f)
      (λ g. (f : FlowState) → find (λ y. y.number == g.number) (x ∷ xs) ≡ Some f → g ≡ f)
      (λ g other later f e. later f (of_later (x.number == g.number) x (find (λ y. y.number == g.number) xs) (Some f)
      (ne_eqb x.number g.number (λ k. other (sym k))) e)) xs h.0 (found_itself xs h.1),
)
  where
    same : (f : FlowState) → Some x ≡ Some f → x ≡ f
    same f e = cc e

-- some train is found with the number of each
train_there : (ts : List TrainState) →
    AllByRecursion (λ t. find (λ u. u.number == t.number) ts ≡ None → ⊥) ts
train_there [] = tt
train_there (x ∷ xs) = (
  λ e. some (of_first (x.number == x.number) x (find (λ y. y.number == x.number) xs) None
      (eq-eqb x.number x.number refl) e),
  each_weaker (λ t. find (λ u. u.number == t.number) xs ≡ None → ⊥)
      (λ t. find (λ u. u.number == t.number) (x ∷ xs) ≡ None → ⊥)
      (λ t later e. go (x.number == t.number) (find (λ u. u.number == t.number) xs) later e) xs (train_there xs),
)
  where
    some : Some x ≡ None → ⊥
    some e = cc e

    go : (b : Bool) (o : Option TrainState) → (o ≡ None → ⊥) → (if b then Some x else o) ≡ None → ⊥
    go true o later e = cc e
    go false o later e = later e

-- it isn't stopped, and may send a segment
abbrev pub MaySend : FlowState → Type 0
MaySend f = (f.stopped ≡ false) × (may_emit f.flow f.sender ≡ true)

module _ (clock : ℕ) (n : Net) (differ : Differ n.flows) where
  -- where a segment is due, the flow of its number may send it
  abbrev IsSent : Due → Type 0
  IsSent d =
      d.source.class ≡ Emission → find_train d.source.number n ≡ None → (f : FlowState) →
      find_flow d.source.number n ≡ Some f → MaySend f

  optional : {A : Type 0} (class : Class) (k : ℕ) (moment : A → ℕ) (o : Option A) → (class ≡ Emission → ⊥) →
      AllByRecursion IsSent (option_to_list (option_map (λ a. due class k (moment a)) o))
  optional class k moment None other = tt
  optional class k moment (Some a) other = ((λ e none f there. absurd (other e)), tt)

  line-sent : (k : ℕ) (l : Line Packet) → AllByRecursion IsSent (line_dues k l)
  line-sent k l = optional Exit k (λ m. m) (first_exit l.in_flight) (λ e. cc e)

  instances-sent : (k : ℕ) (is : List Instance) → AllByRecursion IsSent (instances_dues k is)
  instances-sent k [] = tt
  instances-sent k (i ∷ is) =
      each_joined IsSent (line_dues k i.line ++ service_dues k i) (instances_dues (k + 1) is)
      (each_joined IsSent (line_dues k i.line) (service_dues k i) (line-sent k i.line)
      (optional Finish k (λ s. s.period.finish) i.service (λ e. cc e))) (instances-sent (k + 1) is)

  pipes-sent : (ps : List PipeState) → AllByRecursion IsSent (flat_map pipe_dues ps)
  pipes-sent [] = tt
  pipes-sent (p ∷ ps) =
      each_joined IsSent (pipe_dues p) (flat_map pipe_dues ps) (instances-sent (p.number * 256) p.instances)
      (pipes-sent ps)

  flow-sent : (g : FlowState) → ((f : FlowState) → find_flow g.number n ≡ Some f → g ≡ f) →
      AllByRecursion IsSent (flow_dues clock g)
  flow-sent g itself = go g.stopped refl
    where
      timer : List Due
      timer = option_to_list (option_map (due Expiry g.number) g.sender.timer)

      segment : g.stopped ≡ false → (b : Bool) → may_emit g.flow g.sender ≡ b →
          AllByRecursion IsSent (if b then due Emission g.number clock ∷ [] else [])
      segment runs true may = ((λ e none f there. subst MaySend (itself f there) (runs, may)), tt)
      segment runs false may = tt

      go : (b : Bool) → g.stopped ≡ b →
          AllByRecursion IsSent (if b then [] else timer
          ++ (if may_emit g.flow g.sender then due Emission g.number clock ∷ [] else []))
      go true e = tt
      go false e =
          each_joined IsSent timer _ (optional Expiry g.number (λ m. m) g.sender.timer (λ x. cc x))
          (segment e (may_emit g.flow g.sender) refl)

  train-sent : (t : TrainState) → (find_train t.number n ≡ None → ⊥) → AllByRecursion IsSent (train_dues t)
  train-sent t there = go (nat_lt t.sent t.train.count)
    where
      go : (b : Bool) →
          AllByRecursion IsSent (if b then due Emission t.number (t.start + t.sent * t.train.gap) ∷ [] else [])
      go true = ((λ e none f g. absurd (there none)), tt)
      go false = tt

  each-flat : {A : Type 0} (Q : A → Type 0) (dues : A → List Due) →
      ((a : A) → Q a → AllByRecursion IsSent (dues a)) → (xs : List A) → AllByRecursion Q xs →
      AllByRecursion IsSent (flat_map dues xs)
  each-flat Q dues h [] q = tt
  each-flat Q dues h (x ∷ xs) q =
      each_joined IsSent (dues x) (flat_map dues xs) (h x q.0) (each-flat Q dues h xs q.1)

  dues-sent : AllByRecursion IsSent (dues_of clock n)
  dues-sent =
      each_joined IsSent (line_dues 0 n.direct ++ flat_map pipe_dues n.pipes ++ flat_map (flow_dues clock) n.flows)
      (flat_map train_dues n.trains)
      (each_joined IsSent (line_dues 0 n.direct ++ flat_map pipe_dues n.pipes) (flat_map (flow_dues clock) n.flows)
      (each_joined IsSent (line_dues 0 n.direct) (flat_map pipe_dues n.pipes) (line-sent 0 n.direct) (pipes-sent n.pipes))
      (each-flat (λ g. (f : FlowState) → find_flow g.number n ≡ Some f → g ≡ f) (flow_dues clock) flow-sent n.flows
      (found_itself n.flows differ)))
      (each-flat (λ t. find_train t.number n ≡ None → ⊥) train_dues train-sent n.trains (train_there n.trains))

pub sends : (s : State) (t : Timed) → Differ s.net.flows → KnowsSends MaySend s t
sends s t differ =
    of_next_event (IsSent s.clock s.net differ) s t (λ e none f there. absurd (cc e))
    (dues-sent s.clock s.net differ)

-- nothing is asked of a command
abbrev pub Anything : Command → Type 0
Anything c = Unit {0}

pub anything : (c : List Timed) → AllByRecursion (λ t. Anything t.command) c
anything [] = tt
anything (t ∷ ts) = (tt, anything ts)

differ-keeps : (b : ℕ) → Keeps b (λ f. Unit {0}) Anything (λ o n. Differ n.flows)
differ-keeps b = record {
  quiet = λ o n m a h. subst Differ (sym a.flows) h;
  lost = λ p n h. h;
  made = λ number l send n few true_of h. h;
  placed = λ place p n h. h;
  entered = λ now p n h. h;
  left = λ n h. h;
  arrived = λ seed now k p q n e h. h;
  finished = λ now pipe k p n e h. h;
  pipe_left = λ pipe k p n e h. h;
  configured = λ k config p n ok e h. h;
  opened = λ k config n ok e h. h;
  deleted = λ k p n e h. h;
  came = λ k first p f n is e h. differ_put (record f { came = with_segment first f.came }) n.flows h;
  acked = λ now k upto p f n is e h. differ_put (record f { sender = ack f.flow now upto f.sender }) n.flows h;
  expired = λ now k f n e h. differ_put (record f { sender = expire f.flow now f.sender }) n.flows h;
  emitted = λ now k f n e sends h. differ_put (record f { sender = emit f.flow now f.sender }) n.flows h;
  stopped = λ k f n e h. differ_put (record f { stopped = true }) n.flows h;
  started = λ k f n ok new h. differ_more
      (record { number = k; flow = f; sender = initial_sender f; stopped = false; came = [] }) n.flows new h;
}

pub alone-differ : (spec : Spec) (c : List Timed) (n : ℕ) → Differ (alone spec c n).net.flows
unfolding Differ
alone-differ spec c n =
    steps_keep (λ f. Unit {0}) Anything (λ o m. Differ m.flows) spec c (differ-keeps spec.budget.packets)
    (λ k t h e none f there. tt) (anything c) tt n

-- in each state of a run it is known of the flow whose segment is the next event
pub alone-sends : (spec : Spec) (c : List Timed) (n : ℕ) (t : Timed) → KnowsSends MaySend (alone spec c n) t
alone-sends spec c n t = sends (alone spec c n) t (alone-differ spec c n)

-- what each change of a flow keeps of it
pub record FlowKeeps (F : FlowState → Type 0) : Type 0 where
  pub came : (came : List ℕ) (f : FlowState) → F f → F (record f { came = came })
  pub acked : (now upto : ℕ) (f : FlowState) → F f → F (record f { sender = ack f.flow now upto f.sender })
  pub expired : (now : ℕ) (f : FlowState) → F f → F (record f { sender = expire f.flow now f.sender })
  pub emitted : (now : ℕ) (f : FlowState) → MaySend f → F f → F (record f { sender = emit f.flow now f.sender })
  pub stopped : (f : FlowState) → F f → F (record f { stopped = true })
  pub started : (k : ℕ) (f : FlowSpec) →
      F (record { number = k; flow = f; sender = initial_sender f; stopped = false; came = [] })

flow-keeps : (b : ℕ) (F : FlowState → Type 0) → FlowKeeps F →
    Keeps b MaySend Anything (λ o n. AllByRecursion F n.flows)
flow-keeps b F keeps = record {
  quiet = λ o n m a h. subst (AllByRecursion F) (sym a.flows) h;
  lost = λ p n h. h;
  made = λ number l send n few true_of h. h;
  placed = λ place p n h. h;
  entered = λ now p n h. h;
  left = λ n h. h;
  arrived = λ seed now k p q n e h. h;
  finished = λ now pipe k p n e h. h;
  pipe_left = λ pipe k p n e h. h;
  configured = λ k config p n ok e h. h;
  opened = λ k config n ok e h. h;
  deleted = λ k p n e h. h;
  came = λ k first p f n is e h. put n f (record f { came = with_segment first f.came })
      (keeps.came (with_segment first f.came) f (found k f n e h)) h;
  acked = λ now k upto p f n is e h. put n f (record f { sender = ack f.flow now upto f.sender })
      (keeps.acked now upto f (found k f n e h)) h;
  expired = λ now k f n e h. put n f (record f { sender = expire f.flow now f.sender })
      (keeps.expired now f (found k f n e h)) h;
  emitted = λ now k f n e sends h. put n f (record f { sender = emit f.flow now f.sender })
      (keeps.emitted now f sends (found k f n e h)) h;
  stopped = λ k f n e h. put n f (record f { stopped = true }) (keeps.stopped f (found k f n e h)) h;
  started = λ k f n ok new h. each_joined F n.flows _ h (keeps.started k f, tt);
}
  where
    found : (k : ℕ) (f : FlowState) (n : Net) → find_flow k n ≡ Some f → AllByRecursion F n.flows → F f
    found k f n e h = each_found F (λ g. g.number == k) f n.flows e h

    put : (n : Net) (f g : FlowState) → F g → AllByRecursion F n.flows →
        AllByRecursion F (replace_first (λ x. x.number == g.number) g n.flows)
    put n f g q h = each_replaced F (λ x. x.number == g.number) g n.flows q h

-- what each change of a flow keeps holds of each flow in every state of a run
pub alone-flows : (F : FlowState → Type 0) → FlowKeeps F → (spec : Spec) (c : List Timed) (n : ℕ) →
    AllByRecursion F (alone spec c n).net.flows
alone-flows F keeps spec c n =
    steps_keep MaySend Anything (λ o m. AllByRecursion F m.flows) spec c (flow-keeps spec.budget.packets F keeps)
    (λ k t h. alone-sends spec c k t) (anything c) tt n
