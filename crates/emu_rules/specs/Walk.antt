-- The basis of a search: rules in order, with their precomputed jumps, and the verdict of one rule.
use Rattle.std.specs.Prelude.{◌≡◌, ◌≢◌, ℕ, ◌+◌, ◌-◌, ◌^◌, ◌<◌, ◌≤◌, ◌==◌, ⊤, if◌then◌else◌, Option, Some, None, List, [], ◌∷◌, map, length, All, slice_index}
use Rattle.std.specs.List.{list_any, last_or}
use Rattle.emu_model.specs.declared.rules.Action.{Action}
use Rattle.emu_model.specs.declared.rules.Action.TheVariants.{Allow, Deny, Count, SkipTo, Pipe}
use Rattle.emu_model.specs.declared.rules.Rule.{Rule}
use Rattle.emu_model.specs.declared.rules.Verdict.{Verdict}
use Rattle.emu_model.specs.declared.rules.Verdict.TheVariants.{OverTheLink, Dropped, IntoPipe}
use Rattle.emu_model.specs.declared.packets.Packet.{Packet}
use Rattle.emu_model.specs.Rules.{Counted, place_of, the_rules, goes_on, action_at, least_match, matched_places, counted_up, new_rule}
use Rattle.emu_rules.specs.declared.counted.Amount.{Amount}
use Rattle.emu_rules.specs.declared.search.Found.{Found}

-- the verdict of a rule, if it ends the search
abbrev pub decision : Action → Counted → Option Verdict
decision Allow c = Some OverTheLink
decision Deny c = Some Dropped
decision Count c = None
decision (SkipTo n) c = None
decision (Pipe n) c = Some (IntoPipe n (place_of c))

-- the number to which a rule jumps
abbrev pub target_of : Action → Option ℕ
target_of (SkipTo n) = Some n
target_of _ = None

-- a jump leads to a number greater than the rule's own
abbrev pub GoesForward : ℕ → Action → Type 0
GoesForward own (SkipTo n) = own < n
GoesForward own _ = ⊤

-- the first rule is at or before the second: by number, and within a number by the order in which they were added
pub record Precedes (a b : Counted) : Type 0 where
  pub number : a.rule.number ≤ b.rule.number
  pub order : a.rule.number ≡ b.rule.number → a.order ≤ b.order

abbrev pub Ascends : List Counted → Type 0
Ascends [] = ⊤
Ascends (c ∷ cs) = All (Precedes c) cs × Ascends cs

-- each place from which a search continues has its jump, which goes forward
pub record AreJumps (rules : List Rule) (jumps : List ℕ) : Type 0 where
  pub same : length jumps ≡ length rules
  pub there : (k j : ℕ) → goes_on rules k (action_at rules k) ≡ Some j → slice_index jumps k ≡ j
  pub forward : (k j : ℕ) → goes_on rules k (action_at rules k) ≡ Some j → k < j

-- the rules ascend, and each jump leads to a greater number
pub record IsOrdered (rules : List Counted) : Type 0 where
  pub ascends : Ascends rules
  pub forward : All (λ c. GoesForward c.rule.number c.rule.action) rules

-- the rule at place k, and no other, matches in a search for the packet that begins at place `start`
pub record CountsAlone (start : ℕ) (p : Packet) (rules : List Rule) (k : ℕ) : Type 0 where
  pub within : k < length rules
  pub places : matched_places start p rules ≡ k ∷ []

-- two packets are equal in everything that a rule examines
pub record IsAlike (p q : Packet) : Type 0 where
  pub proto : p.proto ≡ q.proto
  pub src : p.src ≡ q.src
  pub sport : p.sport ≡ q.sport
  pub dst : p.dst ≡ q.dst
  pub dport : p.dport ≡ q.dport

-- the result of a search for the packet from place `start`: the last place that matches, and either that place again,
-- if only its rule counts the packet, or 2 ^ 64 - 1, in which case the first match, if any, does not end the search
pub record IsFound (start : ℕ) (p : Packet) (rules : List Rule) (f : Found) : Type 0 where
  pub last : f.last ≡ last_or None (matched_places start p rules)
  pub alone : f.rule ≢ 2 ^ 64 - 1 → CountsAlone start p rules f.rule
  pub more : f.rule ≡ 2 ^ 64 - 1 → (k : ℕ) → least_match p rules start ≡ Some k →
      (j : ℕ) × (goes_on rules k (action_at rules k) ≡ Some j)

-- the amount with one more packet of this size
abbrev pub one_more : ℕ → Amount → Amount
one_more size a =
    record { packets = counted_up a.packets 1; bytes = counted_up a.bytes size }

-- the rule after it counted this amount of packets and bytes
abbrev pub count_more : Amount → Counted → Counted
count_more a c =
    record c { packets = counted_up c.packets a.packets; bytes = counted_up c.bytes a.bytes }

-- the rules from place i on, with this amount of packets and bytes added at the given places
abbrev pub count_more_at : List ℕ → Amount → ℕ → List Counted → List Counted
count_more_at places a i [] = []
count_more_at places a i (c ∷ cs) =
    (if list_any (λ k. k == i) places then count_more a c else c) ∷ count_more_at places a (i + 1) cs

-- the rules after searches from place `start` for packets like p, with this amount of packets and bytes
abbrev pub counted_more : ℕ → Packet → Amount → List Counted → List Counted
counted_more start p a cs = count_more_at (matched_places start p (the_rules cs)) a 0 cs

-- the rule with its counters at 0
abbrev pub bare : Counted → Counted
bare c = new_rule c.order c.rule

-- the same rules, except for their counters
pub record IsRecounted (before after : List Counted) : Type 0 where
  pub same : map bare after ≡ map bare before
