-- A rule search goes from one rule to the next, and ends at the first that matches and decides (ipfw(8)).
use Rattle.std.specs.Prelude.{◌≡◌, ℕ, ◌+◌, ◌^◌, ◌<◌, Bool, true, false, Some, List, slice_get}
use Rattle.emu_model.specs.declared.packets.Packet.{Packet}
use Rattle.emu_model.specs.declared.packets.Place.{Place}
use Rattle.emu_model.specs.declared.rules.Action.{Action}
use Rattle.emu_model.specs.declared.rules.Action.TheVariants.{Allow, Deny, Count, SkipTo, Pipe}
use Rattle.emu_model.specs.declared.commands.Spec.{Spec}
use Rattle.emu_model.specs.declared.commands.Timed.{Timed}
use Rattle.emu_model.specs.Rules.{Counted, rule_matches, the_rules, place_of_number, start_behind, verdict, verdict_by}
use Rattle.emu_model.specs.Alone.{alone}

-- tests whether an action ends a search
abbrev pub decides : Action → Bool
decides Allow = true
decides Deny = true
decides (Pipe n) = true
decides Count = false
decides (SkipTo n) = false

-- a search for the packet, from a place on, ends at a rule: at the one in this place, if it matches and decides; otherwise at a later one.
-- A rule that doesn't match is passed; a `count` continues after itself, a `skipto` at its number.
pub data EndsAt (p : Packet) (cs : List Counted) : ℕ → Counted → Type 0 where
  ends : {i : ℕ} {c : Counted} → slice_get cs i ≡ Some c → rule_matches p c.rule ≡ true →
      decides c.rule.action ≡ true → EndsAt p cs i c
  passes : {i : ℕ} {b c : Counted} → slice_get cs i ≡ Some b → rule_matches p b.rule ≡ false →
      EndsAt p cs (i + 1) c → EndsAt p cs i c
  counts : {i : ℕ} {b c : Counted} → slice_get cs i ≡ Some b → rule_matches p b.rule ≡ true →
      b.rule.action ≡ Count → EndsAt p cs (i + 1) c → EndsAt p cs i c
  skips : {i n : ℕ} {b c : Counted} → slice_get cs i ≡ Some b → rule_matches p b.rule ≡ true →
      b.rule.action ≡ SkipTo n → EndsAt p cs (place_of_number n (the_rules cs)) c → EndsAt p cs i c

-- a search that begins at a place ends at exactly one rule, whose action is the verdict
pub record IsDecided (start : ℕ) (p : Packet) (cs : List Counted) : Type 0 where
  pub rule : Counted
  pub path : EndsAt p cs start rule
  pub only : (other : Counted) → EndsAt p cs start other → other ≡ rule
  pub verdict_is : verdict start p cs ≡ verdict_by rule.rule.action rule

-- the addresses of a packet have 32 bits
pub record HasAddresses (p : Packet) : Type 0 where
  pub src : p.src < 2 ^ 32
  pub dst : p.dst < 2 ^ 32

-- in every state of every run a search is decided, both from the first rule and after the place of any rule but the default; the place of a
-- packet is that of a rule that sent it into a pipe
abbrev pub SearchesAreDecided : Type 0
SearchesAreDecided = (spec : Spec) (c : List Timed) (n : ℕ) (p : Packet) (place : Place) → HasAddresses p →
    place.number < 65535 →
    let rules = (alone spec c n).net.book.rules in
    IsDecided 0 p rules × IsDecided (start_behind place rules) p rules
