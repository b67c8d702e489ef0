-- RuleSteps: single words of the definitions of rules, each worked out by hand from the rule in its comment.
use Rattle.std.specs.Prelude.{◌≡◌, refl, ℕ, ◌-◌, ◌^◌, true, false, Some, None, List, [], ◌∷◌, replicate, map}
use Rattle.emu_model.specs.Spans.{address_span}
use Rattle.emu_model.specs.declared.packets.Protocol.TheVariants.{Tcp, Udp}
use Rattle.emu_model.specs.declared.packets.Load.TheVariants.{Plain}
use Rattle.emu_model.specs.declared.packets.Packet.{Packet}
use Rattle.emu_model.specs.declared.rules.Action.{Action}
use Rattle.emu_model.specs.declared.rules.Action.TheVariants.{Allow, Deny, Count, SkipTo, Pipe}
use Rattle.emu_model.specs.declared.rules.ProtocolMatch.TheVariants.{OnlyTcp}
use Rattle.emu_model.specs.declared.rules.Rule.{Rule}
use Rattle.emu_model.specs.declared.rules.Verdict.TheVariants.{OverTheLink, Dropped, IntoPipe}
use Rattle.emu_model.specs.declared.records.Refusal.TheVariants.{BadNumber, BadSkip, RulesFull, NoRule}
use Rattle.emu_model.specs.Rules.{Counted, RuleBook, rule_matches, is_behind, start_behind, verdict_by, verdict_of_match, verdict, counted_rules, default_rule, initial_book, is_rule_number, is_bad_skip, add_refusal, delete_refusal}

-- from 10.0.0.1 1000 to 10.0.1.2 80
abbrev packet : Packet
packet = record {
  proto = Tcp;
  src = 167772161;
  sport = 1000;
  dst = 167772418;
  dport = 80;
  size = 500;
  number = 0;
  load = Plain;
  place = record { number = 0; order = 0 };
}

-- tcp from 10.0.0.0/24 1000-1001 to 10.0.1.0/24 80: just what it sends
abbrev rule : ℕ → Action → Rule
rule number action = record {
  number = number;
  action = action;
  proto = OnlyTcp;
  src = address_span 167772160 24;
  sports = Some (record { first = 1000; last = 1001 });
  dst = address_span 167772416 24;
  dports = Some (record { first = 80; last = 80 });
}

its_rule : rule_matches packet (rule 100 Allow) ≡ true
its_rule = refl

-- each of the five decides: another protocol, 10.0.1.1 and 10.0.0.2 as the ends, ports below and above
each_of_five_decides :
    map (λ p. rule_matches p (rule 100 Allow))
    (record packet { proto = Udp } ∷ record packet { src = 167772417 } ∷ record packet { sport = 999 }
    ∷ record packet { sport = 1002 } ∷ record packet { dst = 167772162 } ∷ record packet { dport = 79 }
    ∷ record packet { dport = 81 } ∷ [])
    ≡ replicate 7 false
each_of_five_decides = refl

abbrev counted : ℕ → ℕ → Action → Counted
counted number order action = record { rule = rule number action; order = order; packets = 7; bytes = 9 }

-- behind the second one added to 200 stand those of 200 that were added later, and those of higher numbers
behind_its_place :
    map
    (is_behind (record { number = 200; order = 5 }))
    (counted 100 9 Allow ∷ counted 200 4 Allow ∷ counted 200 5 Allow ∷ counted 200 6 Allow
    ∷ counted 300 1 Allow ∷ [])
    ≡ false ∷ false ∷ false ∷ true ∷ true ∷ []
behind_its_place = refl

-- a packet that no rule matches is denied, though the default matches every one; the other verdicts are the actions'
nothing_matches : verdict_of_match None ≡ Dropped
nothing_matches = refl

verdicts :
    map (λ a. verdict_by a (counted 200 5 a)) (Allow ∷ Deny ∷ Pipe 3 ∷ [])
    ≡ OverTheLink ∷ Dropped ∷ IntoPipe 3 (record { number = 200; order = 5 }) ∷ []
verdicts = refl

-- a search counts where it passes: `count` at 100, `skipto 300` at 200, not the pipe at 250, and the pipe at 300; behind
-- the last of them comes the default
abbrev rules : List Counted
rules =
    counted 100 0 Count ∷ counted 200 1 (SkipTo 300) ∷ counted 250 2 (Pipe 4) ∷ counted 300 3 (Pipe 5)
    ∷ default_rule ∷ []

goes_to_the_fifth_pipe : verdict 0 packet rules ≡ IntoPipe 5 (record { number = 300; order = 3 })
goes_to_the_fifth_pipe = refl

behind_the_fifth_pipe : start_behind (record { number = 300; order = 3 }) rules ≡ 4
behind_the_fifth_pipe = refl

denied_behind_it : verdict 4 packet rules ≡ Dropped
denied_behind_it = refl

abbrev once_more : Counted → Counted
once_more c = record c { packets = 8; bytes = 509 }

counted_where_it_passes :
    counted_rules 0 packet rules
    ≡ once_more (counted 100 0 Count) ∷ once_more (counted 200 1 (SkipTo 300)) ∷ counted 250 2 (Pipe 4)
    ∷ once_more (counted 300 3 (Pipe 5)) ∷ default_rule ∷ []
counted_where_it_passes = refl

counted_behind :
    counted_rules 4 packet rules
    ≡ counted 100 0 Count ∷ counted 200 1 (SkipTo 300) ∷ counted 250 2 (Pipe 4) ∷ counted 300 3 (Pipe 5)
    ∷ record default_rule { packets = 1; bytes = 500 } ∷ []
counted_behind = refl

-- a rule has a number from 1 to 65534
rule_numbers : map is_rule_number (0 ∷ 1 ∷ 65534 ∷ 65535 ∷ []) ≡ false ∷ true ∷ true ∷ false ∷ []
rule_numbers = refl

-- a jump of 200 goes to 201 at least and to 65535 at most
jumps :
    map (is_bad_skip 200) (SkipTo 199 ∷ SkipTo 200 ∷ SkipTo 201 ∷ SkipTo 65535 ∷ SkipTo 65536 ∷ Count ∷ [])
    ≡ true ∷ true ∷ false ∷ false ∷ true ∷ false ∷ []
jumps = refl

-- 256 rules besides the default, and 2^64 - 1 addings
abbrev book : ℕ → ℕ → RuleBook
book rules added = record { rules = replicate rules (counted 100 0 Count); added = added }

refused_first_of_all : add_refusal (rule 65535 (SkipTo 5)) (book 257 0) ≡ Some BadNumber
refused_first_of_all = refl

refused_before_the_limit : add_refusal (rule 100 (SkipTo 5)) (book 257 0) ≡ Some BadSkip
refused_before_the_limit = refl

room_for_the_last : add_refusal (rule 100 Allow) (book 256 (2 ^ 64 - 2)) ≡ None
room_for_the_last = refl

no_room_for_a_rule : add_refusal (rule 100 Allow) (book 257 0) ≡ Some RulesFull
no_room_for_a_rule = refl

no_room_for_an_adding : add_refusal (rule 100 Allow) (book 1 (2 ^ 64 - 1)) ≡ Some RulesFull
no_room_for_an_adding = refl

deletions :
    map (λ n. delete_refusal n (book 3 3)) (0 ∷ 65535 ∷ 99 ∷ 100 ∷ [])
    ≡ Some BadNumber ∷ Some BadNumber ∷ Some NoRule ∷ None ∷ []
deletions = refl

-- an experiment begins with the default alone, and nothing added
at_the_opening : initial_book ≡ record { rules = default_rule ∷ []; added = 0 }
at_the_opening = refl
