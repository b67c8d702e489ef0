-- What becomes of a text in an answer.
use Rattle.std.specs.Prelude.{◌↔◌, IsTrue, All, not}
use Rattle.std.proofs.Common.{◌≡◌, ℕ, Bool, true, false, Some, None, ◌<◌, ◌≤◌, ◌⊎◌, inl, inr, List, ◌++◌, length, take, drop, refl, sym, ap, subst, ◌∙◌, arith}
use Rattle.control.specs.declared.scenario.Experiment.{Experiment}
use Rattle.control.specs.declared.fault.Fault.{Fault}
use Rattle.control.specs.Scenario.{Spells, HasFault}
use Rattle.std.proofs.lemmas.List.{take-append-drop}
use Rattle.alone.specs.declared.fault.RunFault.{RunFault}
use Rattle.alone.specs.declared.fault.RunFault.TheVariants.{Scenario}
use Rattle.alone.specs.Reports.{IsTextFault, reports}
use Rattle.alone.specs.declared.limits.Limits.{Limits}
use Rattle.alone.specs.Within.{MakesWithin, StopsUnwritten}
use Rattle.alone.specs.declared.limits.Stop.TheVariants.{Steps, Fault as Failed}
use Rattle.experiment.specs.Rooms.{IsPutAt}
use Rattle.control.specs.declared.fault.Cause.TheVariants.{NoEnd}
use Rattle.session.specs.Opens.{KeptOpen}
use Rattle.dnlab_c.specs.declared.answer.Answer.{Answer}
use Rattle.dnlab_c.specs.Guests.{KeptGuest, Ends, next_line}
use Rattle.dnlab_c.specs.Answers.{Answers, AnswersWithin, IsPut, faulty, no_memory, plain, too_many_steps}

-- all of a text was put from the beginning of a room on
whole : (text before room : List ℕ) (end : ℕ) → IsPutAt text 0 before room end → length text ≤ length before → room ≡ text ++ drop (length text) before
whole text before room end put below =
    let is : end ≡ length text = omega (arith, put.ends) in
    sym (take-append-drop end room)
    ∙ ap (λ (l : List ℕ). l ++ drop end room) (put.stands (omega (arith, below, is)))
    ∙ ap (λ (l : List ℕ). text ++ l) put.rest
    ∙ ap (λ (n : ℕ). text ++ drop n before) is

pub put_whole : (text before room : List ℕ) (end : ℕ) (a : Answer) → IsPutAt text 0 before room end →
    (end ≤ length before → a ≡ plain 0 end) → (length before < end → a ≡ plain 5 end) → IsPut text before room a
put_whole text before room end a put done little =
    let is : end ≡ length text = omega (arith, put.ends) in record {
      fits = λ h. (done (omega (arith, h, is)) ∙ ap (plain 0) is, whole text before room end put h);
      little = λ h. little (omega (arith, h, is)) ∙ ap (plain 5) is;
    }

pub answers_memory : (says : List Experiment → List ℕ) (text before room : List ℕ) (a : Answer) → a ≡ no_memory → Answers says text before room a
answers_memory says text before room a is = inl is

pub answers_fault : (says : List Experiment → List ℕ) (text before : List ℕ) (a : Answer) (f : Fault) → IsTextFault text (Scenario f) → a ≡ faulty f → Answers says text before before a
answers_fault says text before a f fault is = inr (inr (f, fault, is, refl))

pub answers_put : (says : List Experiment → List ℕ) (text before room said : List ℕ) (a : Answer) → ((es : List Experiment) × Spells text es × (said ≡ says es)) → IsPut said before room a →
    Answers says text before room a
answers_put says text before room said a (es, spells, is) put = inr (inl (es, spells, subst (λ (l : List ℕ). IsPut l before room a) is put))

pub answers_put_all : (says : List Experiment → List ℕ) (text before room said all : List ℕ) (a : Answer) → ((es : List Experiment) × Spells text es × (said ≡ says es)) → all ≡ said →
    ((a ≡ no_memory) ⊎ IsPut all before room a) → Answers says text before room a
answers_put_all says text before room said all a (es, spells, is) are (inl refused) = inl refused
answers_put_all says text before room said all a (es, spells, is) are (inr put) =
    answers_put says text before room all a (es, spells, are ∙ is) put

-- the same of a call that has limits, which none exceeded
pub made_put_all : (limits : Limits) (says : List Experiment → List ℕ) (text before room all : List ℕ) (a : Answer) → MakesWithin limits says (Some text) all →
    ((a ≡ no_memory) ⊎ IsPut all before room a) → Answers says text before room a
made_put_all limits says text before room all a (es, spells, fits, is) (inl refused) = inl refused
made_put_all limits says text before room all a (es, spells, fits, is) (inr put) =
    inr (inl (es, spells, subst (λ (l : List ℕ). IsPut l before room a) is put))

pub made_fault : (limits : Limits) (says : List Experiment → List ℕ) (text before : List ℕ) (a : Answer) (f : Fault) →
    StopsUnwritten limits says (Some text) (Failed (Scenario f)) → a ≡ faulty f → Answers says text before before a
made_fault limits says text before a f fault is = inr (inr (f, fault, is, refl))

-- a limit of steps alone
abbrev limited : ℕ → Limits
limited most = record { steps = Some most; output = None }

pub within_memory : (most : ℕ) (text before room : List ℕ) (a : Answer) → a ≡ no_memory → AnswersWithin most text before room a
within_memory most text before room a is = inl is

pub within_put_all : (most : ℕ) (text before room all : List ℕ) (a : Answer) → MakesWithin (limited most) reports (Some text) all →
    ((a ≡ no_memory) ⊎ IsPut all before room a) → AnswersWithin most text before room a
within_put_all most text before room all a made (inl refused) = inl refused
within_put_all most text before room all a (es, spells, fits, is) (inr put) =
    inr (inl (es, spells, fits.steps, subst (λ (l : List ℕ). IsPut l before room a) is put))

pub within_fault : (most : ℕ) (text before : List ℕ) (a : Answer) (f : Fault) → StopsUnwritten (limited most) reports (Some text) (Failed (Scenario f)) → a ≡ faulty f →
    AnswersWithin most text before before a
within_fault most text before a f fault is = inr (inr (inl (f, fault, is, refl)))

pub within_steps : (most : ℕ) (text before : List ℕ) (a : Answer) (number total : ℕ) → StopsUnwritten (limited most) reports (Some text) (Steps number total) →
    a ≡ too_many_steps number total → AnswersWithin most text before before a
within_steps most text before a number total (es, spells, passes) is = inr (inr (inr (es, number, total, spells, passes, is, refl)))

-- an experiment of a session has no end
pub end_open : (g : KeptGuest) (whole : Bool) (line : ℕ) (a : Answer) → g.is_lost ≡ false → not whole ≡ true →
    (IsTrue whole ↔ All (λ (o : KeptOpen). o.is_closed ≡ true) g.session.opened) → line ≡ next_line g.lines →
    a ≡ faulty (record { line = line; cause = NoEnd }) → Ends g a
end_open g whole line a going lacks closes at is = record {
  lost = λ e. absurd (both g.is_lost e going);
  whole = λ e all. absurd (neither whole (closes.1 all) lacks);
  open_one = λ e no. is ∙ ap (λ (n : ℕ). faulty (record { line = n; cause = NoEnd })) at;
}
  where
    both : (b : Bool) → b ≡ true → b ≡ false → ⊥
    both true e f = absurd (cc)
    both false e f = absurd (cc)

    neither : (b : Bool) → b ≡ true → not b ≡ true → ⊥
    neither true e f = absurd (cc)
    neither false e f = absurd (cc)
