-- A rule, as it is walked and as it is read.
use Rattle.std.proofs.Common.{◌≡◌, Bool, true, [], ◌∷◌, Option, refl, sym, ap}
use Rattle.std.specs.Prelude.{◌&&◌}
use Rattle.std.specs.Option.{is_some}
use Rattle.std.specs.Str.{bytes_eq}
use lib.Chars.{codes}
use Rattle.control_words.specs.Words.{Words}
use Rattle.control_words.specs.Numbers.{number_of}
use Rattle.control_words.specs.Addresses.{match_of, prefix_of, ports_of}
use Rattle.control_words.specs.declared.raw.RawPorts.{RawPorts}
use Rattle.control_lines.specs.declared.raw.RawAction.{RawAction}
use Rattle.control_lines.specs.Ranges.{within, action_within, prefix_within, span_within, ports_within, rule_within}
use Rattle.control_lines.specs.Shape.{action_of, source_ports_of, last_ports_of, rule_of}
use Rattle.control.specs.declared.word_fault.Check.{Check}
use Rattle.control.specs.declared.expected.Expected.TheVariants.{Rule, End}
use Rattle.control.specs.declared.expected.RuleWord.TheVariants as rule
use Rattle.control.specs.Forms.{asked}
use Rattle.control.specs.Walk.{next}
use Rattle.control.proofs.RangedLines.{six}
use Rattle.control.proofs.Steps.{accepts, behind, meets, reads_step, step, kept, unasked, asked_true, value_step, value_here, plain_step, word_step, end_step, split}

abbrev action_so : Check → RawAction × Words → Bool
action_so check x = asked check (is_some (action_within x.0)) && accepts check (Rule rule.Protocol) x.1

action_read : (check : Check) (ws : Words) → accepts check (Rule rule.Action) ws ≡ meets (action_of ws) (action_so check)
unfolding next action_of action_within
action_read check [] = refl
action_read check (w ∷ ws) =
    let l = behind check (Rule rule.Action) w ws in
    let r = λ (o : Option (RawAction × Words)). meets o (action_so check) in
    split l r (bytes_eq w (codes "allow")) _ _ _ _ (unasked check _)
    (split l r (bytes_eq w (codes "deny")) _ _ _ _ (unasked check _)
    (split l r (bytes_eq w (codes "count")) _ _ _ _ (unasked check _)
    (split l r (bytes_eq w (codes "skipto")) _ _ _ _
    (value_step check true (Rule rule.SkipTo) number_of (λ n. is_some (within n 0 99999)) (Rule rule.Protocol) _ (action_so check) (λ _. refl) refl (λ n. ap (λ (b : Bool). asked check b && accepts check (Rule rule.Protocol) n.1) (sym (kept (within n.0 0 99999) _))) ws)
    (split l r (bytes_eq w (codes "pipe")) _ _ _ _
    (value_step check true (Rule rule.ToPipe) number_of (λ n. is_some (within n 1 65535)) (Rule rule.Protocol) _ (action_so check) (λ _. refl) refl (λ n. ap (λ (b : Bool). asked check b && accepts check (Rule rule.Protocol) n.1) (sym (kept (within n.0 1 65535) _))) ws)
    refl))))

abbrev sports_so : Check → Option RawPorts × Words → Bool
sports_so check x = asked check (is_some (ports_within x.0)) && accepts check (Rule rule.Destination) x.1

source_ports_read : (check : Check) (ws : Words) → accepts check (Rule rule.SourcePorts) ws ≡ meets (source_ports_of ws) (sports_so check)
unfolding next source_ports_of
source_ports_read check [] = refl
source_ports_read check (w ∷ ws) =
    split (behind check (Rule rule.SourcePorts) w ws) (λ o. meets o (sports_so check)) (bytes_eq w (codes "to")) _ _ _ _ (unasked check _)
    (value_here check true (ports_of w) (λ p. is_some (span_within p)) (Rule rule.To) ws _ (sports_so check) (λ p.
    word_step check _ (Rule rule.To) (codes "to") (Rule rule.Destination) _ (sports_so check) (λ _. refl) refl (λ rest.
    ap (λ (b : Bool). asked check b && accepts check (Rule rule.Destination) rest) (sym (kept (span_within p) _))) ws))

abbrev dports_so : Check → Option RawPorts → Bool
dports_so check o = asked check (is_some (ports_within o))

last_ports_read : (check : Check) (ws : Words) → accepts check (Rule rule.LastPorts) ws ≡ meets (last_ports_of ws) (dports_so check)
unfolding next last_ports_of
last_ports_read check [] = sym (asked_true check)
last_ports_read check (w ∷ ws) =
    value_here check true (ports_of w) (λ p. is_some (span_within p)) End ws _ (dports_so check) (λ p.
    end_step check _ _ (dports_so check) ws (λ rest. ap (λ (b : Bool). asked check b) (sym (kept (span_within p) _))))

pub rule_read : (check : Check) (ws : Words) → accepts check (Rule rule.Number) ws ≡ meets (rule_of ws) (λ r. asked check (is_some (rule_within r)))
unfolding next rule_of rule_within
rule_read check ws =
    value_step check true (Rule rule.Number) number_of (λ n. is_some (within n 0 99999)) (Rule rule.Action) _ _ (λ _. refl) refl (λ number.
    reads_step _ _ (action_of number.1) (λ x. asked check (is_some (action_within x.0))) (λ x. accepts check (Rule rule.Protocol) x.1) _ _ (action_read check number.1) (λ action.
    plain_step check _ (Rule rule.Protocol) match_of (Rule rule.From) _ _ (λ _. refl) refl (λ proto.
    word_step check _ (Rule rule.From) (codes "from") (Rule rule.Source) _ _ (λ _. refl) refl (λ from.
    value_step check _ (Rule rule.Source) prefix_of (λ p. is_some (prefix_within p)) (Rule rule.SourcePorts) _ _ (λ _. refl) refl (λ src.
    reads_step _ _ (source_ports_of src.1) (λ x. asked check (is_some (ports_within x.0))) (λ x. accepts check (Rule rule.Destination) x.1) _ _ (source_ports_read check src.1) (λ sports.
    value_step check _ (Rule rule.Destination) prefix_of (λ p. is_some (prefix_within p)) (Rule rule.LastPorts) _ _ (λ _. refl) refl (λ dst.
    step _ _ (last_ports_of dst.1) (dports_so check) _ _ (last_ports_read check dst.1) (λ dports.
    six check (within number.0 0 99999) (action_within action.0) (prefix_within src.0) (ports_within sports.0) (prefix_within dst.0) (ports_within dports) _))
    sports.1)) from) proto.1) action.1)) ws
