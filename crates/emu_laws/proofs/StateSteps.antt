-- StateSteps: single words on states, lists of finishes and exits, and identifiers, each number worked out by hand from the
-- rule in its comment.
use Rattle.std.specs.Prelude.{◌≡◌, refl, ℕ, false, Some, None, List, [], ◌∷◌}
use Rattle.emu_model.specs.declared.commands.Spec.{Spec}
use Rattle.emu_model.specs.declared.commands.Timed.{Timed}
use Rattle.emu_model.specs.declared.commands.Command.TheVariants.{OnePass, End}
use Rattle.emu_model.specs.declared.records.Ending.TheVariants.{Ended, Spent}
use Rattle.emu_model.specs.declared.records.Record.TheVariants.{CommandDone, StepsSpent}
use Rattle.emu_model.specs.FlowIds.{FlowId, different}
use Rattle.emu_model.specs.Rate.{finishes, finish_at, follow}
use Rattle.emu_model.specs.Delay.{exits}
use Rattle.emu_model.specs.Net.{initial_net}
use Rattle.emu_model.specs.Alone.{alone}

-- two commands, and a budget of two steps
abbrev spec : Spec
spec = record { seed = 0; budget = record { packets = 10; steps = 2 }; traced = false }

abbrev commands : List Timed
commands = record { moment = 3; command = OnePass false } ∷ record { moment = 5; command = End } ∷ []

-- after no step nothing has happened
before_the_first : alone spec commands 0 ≡ record {
  spec = spec;
  left = commands;
  taken = 0;
  clock = 0;
  steps = 0;
  net = initial_net;
  ending = None;
}
before_the_first = refl

-- the first is done at its moment, and the second, `end`, is the last of the budget: the experiment has ended and isn't spent
after_the_first : alone spec commands 1 ≡ record {
  spec = spec;
  left = record { moment = 5; command = End } ∷ [];
  taken = 1;
  clock = 3;
  steps = 1;
  net = record initial_net { one_pass = false; records = CommandDone 3 0 ∷ [] };
  ending = None;
}
after_the_first = refl

after_the_last : alone spec commands 2 ≡ record {
  spec = spec;
  left = [];
  taken = 2;
  clock = 5;
  steps = 2;
  net = record initial_net { one_pass = false; records = CommandDone 3 0 ∷ CommandDone 5 1 ∷ [] };
  ending = Some Ended;
}
after_the_last = refl

-- from then on it stands still
stands_still : alone spec commands 3 ≡ alone spec commands 2
stands_still = refl

-- with a budget of one step it is spent after the first
spent_after_the_first :
    alone (record spec { budget = record { packets = 10; steps = 1 } }) commands 2 ≡ record {
      spec = record spec { budget = record { packets = 10; steps = 1 } };
      left = record { moment = 5; command = End } ∷ [];
      taken = 1;
      clock = 3;
      steps = 1;
      net = record initial_net { one_pass = false; records = CommandDone 3 0 ∷ StepsSpent 3 ∷ [] };
      ending = Some Spent;
    }
spent_after_the_first = refl

-- at rate 0 a packet finishes where its period began, and nothing is summed
no_rate : finish_at 0 7 100 ≡ 7
no_rate = refl

period_without_rate : follow 0 100 (record { start = 3; sum = 5; finish = 9 }) ≡ record { start = 3; sum = 5; finish = 3 }
period_without_rate = refl

-- at 3 Gbit/s a byte takes 8/3 ns: of three bytes in one period the first ends at 2.67, rounded up to 3, the second at 5.33,
-- to 6, and the third at 8; a period that began at 10 is 10 later
one_period : finishes 3000000000 10 0 (1 ∷ 1 ∷ 1 ∷ []) ≡ 13 ∷ 16 ∷ 18 ∷ []
one_period = refl

-- after an exit at 5: what finishes at 3 with a delay of 1 could leave at 4 and leaves at 5, what finishes at 9 with none at
-- 10, what finishes at 4 with a delay of 2 no earlier than that
in_order : exits 5 ((3, 1) ∷ (9, 0) ∷ (4, 2) ∷ []) ≡ 5 ∷ 10 ∷ 10 ∷ []
in_order = refl

-- the identifiers 1, 2, 1, 3 and 2, behind 3: each where it first comes
abbrev to : ℕ → FlowId
to k = record { proto = 0; src = 0; dst = k; sport = 0; dport = 0 }

first_comings : different (to 3 ∷ []) (to 1 ∷ to 2 ∷ to 1 ∷ to 3 ∷ to 2 ∷ []) ≡ to 3 ∷ to 1 ∷ to 2 ∷ []
first_comings = refl
