-- What is due first among several lists.
use Rattle.std.proofs.Common.{◌≡◌, ℕ, ◌+◌, ◌*◌, Bool, true, false, nat_lt, cond, refl, sym, ap, ◌∙◌, subst, List, [], ◌∷◌, ◌++◌, length, take, Option, Some, None}
use Rattle.std.specs.Prelude.{flat_map, option_map, option_to_list, IfSome}
use Rattle.std.specs.List.{best_of}
use Rattle.std.proofs.lemmas.List.{append_assoc}
use Rattle.std.proofs.Math.Seq.{take-append_seam}
use Rattle.emu_model.specs.declared.packets.Packet.{Packet}
use Rattle.emu_model.specs.declared.sources.Due.{Due}
use Rattle.emu_model.specs.declared.sources.Class.{Class}
use Rattle.emu_model.specs.declared.sources.Class.TheVariants.{Exit, Finish, Expiry, Emission}
use Rattle.emu_model.specs.Reno.{may_emit}
use Rattle.emu_model.specs.Pipes.{PipeState, Instance, InService}
use Rattle.emu_model.specs.Delay.{first_exit}
use Rattle.emu_model.specs.Net.{Net, FlowState, TrainState}
use Rattle.emu_model.specs.Dues.{due, dues_of, is_before, line_dues, service_dues, instances_dues, pipe_dues, flow_dues, train_dues}
use Rattle.pipe_core.specs.Keyed.{KeyedPipe}
use Rattle.pipe_table.specs.Table.{IsExitDue, IsFinishDue, IsPiped}
use Rattle.sources.specs.Kept.{KeptTraffic}
use Rattle.sources.specs.Sends.{source_dues, IsAllowed, IsNumbered}

best-append : (a : Due) (xs ys : List Due) → best_of is_before a (xs ++ ys) ≡ best_of is_before (best_of is_before a xs) ys
best-append a [] ys = refl
best-append a (x ∷ xs) ys = best-append (cond (is_before x a) x a) xs ys

-- the dues of a net, part by part
parts : (clock : ℕ) (m : Net) → dues_of clock m ≡ (line_dues 0 m.direct ++ flat_map pipe_dues m.pipes) ++ source_dues clock m
parts clock m = append_assoc (line_dues 0 m.direct ++ flat_map pipe_dues m.pipes) (flat_map (flow_dues clock) m.flows) (flat_map train_dues m.trains)

pub best-parts : (clock : ℕ) (m : Net) (a b c d : Due) → b ≡ best_of is_before a (line_dues 0 m.direct) →
    c ≡ best_of is_before b (flat_map pipe_dues m.pipes) → d ≡ best_of is_before c (source_dues clock m) → d ≡ best_of is_before a (dues_of clock m)
best-parts clock m a b c d e f g =
    let ls = line_dues 0 m.direct in
    let ps = flat_map pipe_dues m.pipes in
    let ss = source_dues clock m in
    g ∙ ap (λ x. best_of is_before x ss) (f ∙ ap (λ x. best_of is_before x ps) e)
    ∙ sym (ap (best_of is_before a) (parts clock m) ∙ best-append a (ls ++ ps) ss ∙ ap (λ x. best_of is_before x ss) (best-append a ls ps))

pub all-parts : (clock : ℕ) (m : Net) (a b c d : List Due) → b ≡ a ++ line_dues 0 m.direct → c ≡ b ++ flat_map pipe_dues m.pipes →
    d ≡ c ++ source_dues clock m → d ≡ a ++ dues_of clock m
all-parts clock m a b c d e f g =
    let ls = line_dues 0 m.direct in
    let ps = flat_map pipe_dues m.pipes in
    let ss = source_dues clock m in
    g ∙ ap (λ x. x ++ ss) (f ∙ ap (λ x. x ++ ps) e ∙ append_assoc a ls ps)
    ∙ append_assoc a (ls ++ ps) ss ∙ sym (ap (λ x. a ++ x) (parts clock m))

-- what holds of all holds of the least
unfoldable pub AllDues : (Due → Type 0) → List Due → Type 0
AllDues P [] = Unit {0}
AllDues P (d ∷ ds) = P d × AllDues P ds

all-append : (P : Due → Type 0) (xs ys : List Due) → AllDues P xs → AllDues P ys → AllDues P (xs ++ ys)
unfolding AllDues
all-append P [] ys h k = k
all-append P (x ∷ xs) ys (a, h) k = (a, all-append P xs ys h k)

pub best-holds : (P : Due → Type 0) (a : Due) (xs : List Due) → P a → AllDues P xs → P (best_of is_before a xs)
unfolding AllDues
best-holds P a [] h k = h
best-holds P a (x ∷ xs) h (b, k) = best-holds P (cond (is_before x a) x a) xs (either (is_before x a)) k
  where
    either : (t : Bool) → P (cond t x a)
    either true = b
    either false = h

-- what holds of a due, and of one that may be there, holds of the earlier
pub option-holds : (P : Due → Type 0) (a : Due) (o : Option Due) → P a → IfSome o P → P (best_of is_before a (option_to_list o))
option-holds P a None h k = h
option-holds P a (Some d) h k = either (is_before d a)
  where
    either : (t : Bool) → P (cond t d a)
    either true = k
    either false = h

module _ (P : Due → Type 0) where
  option-all : (number : ℕ) (class : Class) (o : Option ℕ) → ((moment : ℕ) → P (due class number moment)) → AllDues P (option_to_list (option_map (due class number) o))
  unfolding AllDues
  option-all number class None h = tt
  option-all number class (Some m) h = (h m, tt)

  service-all : (number : ℕ) (o : Option (InService Packet)) → ((moment : ℕ) → P (due Finish number moment)) → AllDues P (option_to_list (option_map (λ s. due Finish number s.period.finish) o))
  unfolding AllDues
  service-all number None h = tt
  service-all number (Some s) h = (h s.period.finish, tt)

  pub instances-all : (number : ℕ) (is : List Instance) → ((k moment : ℕ) → P (due Exit k moment)) → ((k moment : ℕ) → P (due Finish k moment)) → AllDues P (instances_dues number is)
  unfolding AllDues
  instances-all number [] e f = tt
  instances-all number (i ∷ is) e f =
      all-append P (line_dues number i.line ++ service_dues number i) (instances_dues (number + 1) is)
      (all-append P (line_dues number i.line) (service_dues number i) (option-all number Exit (first_exit i.line.in_flight) (e number)) (service-all number i.service (f number)))
      (instances-all (number + 1) is e f)

  pub pipes-all : (ps : List PipeState) → ((k moment : ℕ) → P (due Exit k moment)) → ((k moment : ℕ) → P (due Finish k moment)) → AllDues P (flat_map pipe_dues ps)
  unfolding AllDues
  pipes-all [] e f = tt
  pipes-all (p ∷ ps) e f = all-append P (pipe_dues p) (flat_map pipe_dues ps) (instances-all (p.number * 256) p.instances e f) (pipes-all ps e f)

  flow-all : (clock : ℕ) (f : FlowState) → ((k moment : ℕ) → P (due Expiry k moment)) → ((k moment : ℕ) → P (due Emission k moment)) → AllDues P (flow_dues clock f)
  unfolding AllDues
  flow-all clock f e s = stopped f.stopped
    where
      may : (b : Bool) → AllDues P (cond b (due Emission f.number clock ∷ []) [])
      may true = (s f.number clock, tt)
      may false = tt

      stopped : (b : Bool) → AllDues P (cond b [] (option_to_list (option_map (due Expiry f.number) f.sender.timer) ++ cond (may_emit f.flow f.sender) (due Emission f.number clock ∷ []) []))
      stopped true = tt
      stopped false = all-append P (option_to_list (option_map (due Expiry f.number) f.sender.timer)) (cond (may_emit f.flow f.sender) (due Emission f.number clock ∷ []) [])
          (option-all f.number Expiry f.sender.timer (e f.number)) (may (may_emit f.flow f.sender))

  train-all : (t : TrainState) → ((k moment : ℕ) → P (due Emission k moment)) → AllDues P (train_dues t)
  unfolding AllDues
  train-all t s = go (nat_lt t.sent t.train.count)
    where
      go : (b : Bool) → AllDues P (cond b (due Emission t.number (t.start + t.sent * t.train.gap) ∷ []) [])
      go true = (s t.number (t.start + t.sent * t.train.gap), tt)
      go false = tt

  flows-all : (clock : ℕ) (fs : List FlowState) → ((k moment : ℕ) → P (due Expiry k moment)) → ((k moment : ℕ) → P (due Emission k moment)) → AllDues P (flat_map (flow_dues clock) fs)
  unfolding AllDues
  flows-all clock [] e s = tt
  flows-all clock (f ∷ fs) e s = all-append P (flow_dues clock f) (flat_map (flow_dues clock) fs) (flow-all clock f e s) (flows-all clock fs e s)

  trains-all : (ts : List TrainState) → ((k moment : ℕ) → P (due Emission k moment)) → AllDues P (flat_map train_dues ts)
  unfolding AllDues
  trains-all [] s = tt
  trains-all (t ∷ ts) s = all-append P (train_dues t) (flat_map train_dues ts) (train-all t s) (trains-all ts s)

  pub sources-all : (clock : ℕ) (m : Net) → ((k moment : ℕ) → P (due Expiry k moment)) → ((k moment : ℕ) → P (due Emission k moment)) → AllDues P (source_dues clock m)
  sources-all clock m e s = all-append P (flat_map (flow_dues clock) m.flows) (flat_map train_dues m.trains) (flows-all clock m.flows e s) (trains-all m.trains s)

-- a due of a pipe asks nothing of the sources, and one of a source nothing of the pipes
pub pipes-keep : (t : KeptTraffic) (a b : Due) (ps : List PipeState) → b ≡ best_of is_before a (flat_map pipe_dues ps) →
    IsAllowed t a × IsNumbered a → IsAllowed t b × IsNumbered b
pipes-keep t a b ps is h =
    let P : Due → Type 0 = λ d. IsAllowed t d × IsNumbered d in
    subst P (sym is) (best-holds P a (flat_map pipe_dues ps) h
    (pipes-all P ps (λ k moment. ((λ e. absurd (cc)), ((λ e. absurd (cc)), (λ e. absurd (cc))))) (λ k moment. ((λ e. absurd (cc)), ((λ e. absurd (cc)), (λ e. absurd (cc)))))))

pub sources-keep : (ps : List KeyedPipe) (clock : ℕ) (m : Net) (a b : Due) → b ≡ best_of is_before a (source_dues clock m) →
    IsFinishDue a ps × (IsExitDue a ps × IsPiped a) → IsFinishDue b ps × (IsExitDue b ps × IsPiped b)
sources-keep ps clock m a b is h =
    let P : Due → Type 0 = λ d. IsFinishDue d ps × (IsExitDue d ps × IsPiped d) in
    subst P (sym is) (best-holds P a (source_dues clock m) h
    (sources-all P clock m
    (λ k moment. ((λ e. absurd (cc)), ((λ e some. absurd (cc)), ((λ e. absurd (cc)), (λ e. absurd (cc))))))
    (λ k moment. ((λ e. absurd (cc)), ((λ e some. absurd (cc)), ((λ e. absurd (cc)), (λ e. absurd (cc))))))))

-- what was appended goes again
pub cut-back : (n : ℕ) (a b c d : List Due) → d ≡ take n c → n ≡ length a → c ≡ a ++ b → d ≡ a
cut-back n a b c d cut long is = cut ∙ (λ z. take (long z) (is z)) ∙ take-append_seam a b
