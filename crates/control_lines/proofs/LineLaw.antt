-- What is read as a line is that line, and a line is read as just that line.
use Rattle.std.proofs.Common.{◌≡◌, inl, inr, ℕ, Bool, true, false, List, [], ◌∷◌, ◌++◌, Option, Some, None, refl, sym, ap, subst, ◌∙◌, eqb, ltb, length, append_assoc, append-nil}
use Rattle.std.specs.List.{list_all}
use Rattle.std.specs.Str.{bytes_eq}
use Rattle.std.proofs.lemmas.Bool.{eqb-true}
use Rattle.std.proofs.lemmas.Option.{same_Some, none-some, some_pair_parts}
use lib.Chars.{codes}
use Rattle.control_words.specs.Words.{Words, said}
use Rattle.control_words.specs.Numbers.{number_of, moment_of}
use Rattle.control_words.specs.Addresses.{protocol_of, match_of, address_of, prefix_of, ports_of, is_name_byte, name_of}
use Rattle.control_words.specs.Options.{options_of, flow_options_of}
use Rattle.control_lines.specs.Grammar.{IsAction, ArePorts, IsRule, IsEnds, IsSend, IsTrain, IsFlow, IsCommand, AreSteps, Header, Line, Experiment, Command, IsLine}
use Rattle.control_lines.specs.Shape.{action_of, source_ports_of, last_ports_of, rule_of, ends_of, send_of, train_of, flow_of, last_number_of, numbered, alone, config_of, pipe_of, add_of, inject_of, train_command_of, flow_command_of, source_of, command_of, steps_of, header_of, timed_of, shape_of}
use Rattle.control_lines.proofs.Reading.{bind_some, chosen, key_is, value_is, after_is, end_is, said_is}
use Rattle.control_words.specs.OptionsAreRead.{OptionsAreRead, FlowOptionsAreRead}
use Rattle.control_lines.specs.declared.raw.RawAction.{RawAction}
use Rattle.control_lines.specs.declared.raw.RawAction.TheVariants.{Allow, Deny, Count, SkipTo, Pipe}
use Rattle.control_words.specs.declared.raw.RawPorts.{RawPorts}
use Rattle.control_lines.specs.declared.raw.RawRule.{RawRule}
use Rattle.control_lines.specs.declared.raw.RawEnds.{RawEnds}
use Rattle.control_lines.specs.declared.raw.RawSend.{RawSend}
use Rattle.control_lines.specs.declared.raw.RawTrain.{RawTrain}
use Rattle.control_lines.specs.declared.raw.RawFlow.{RawFlow}
use Rattle.control_lines.specs.declared.raw.RawCommand.{RawCommand}
use Rattle.control_lines.specs.declared.raw.RawCommand.TheVariants as commands

-- what the options of a pipe and of a flow are
abbrev pub Laws : Type 0
Laws = OptionsAreRead × FlowOptionsAreRead

-- ---- found
on : (w : List ℕ) (a b : Words) → a ≡ b → w ∷ a ≡ w ∷ b
on w a b e = ap (λ (x : Words). w ∷ x) e

abbrev some_pair : {A B : Type 0} → A → B → Option (A × B)
some_pair a b = Some (a, b)

-- what stands in front of the words
abbrev Front : {A : Type 0} → (Words → A → Type 0) → Words → A → Words → Type 0
Front P ws a rest = (front : Words) × (ws ≡ front ++ rest) × P front a

last_number_found : (ws : Words) (n : ℕ) → last_number_of ws ≡ Some n → (v : List ℕ) × (ws ≡ v ∷ []) × (number_of v ≡ Some n)
last_number_found ws n e =
    let v = value_is number_of ws _ n e in
    let end = end_is v.1 _ n v.5 in
    (v.0, v.3 ∙ on v.0 v.1 [] end.0, v.4 ∙ end.1)

word_action : (verb key : List ℕ) (ws : Words) (a b : RawAction) (rest : Words) → IsAction (key ∷ []) b → bytes_eq verb key ≡ true → some_pair b ws ≡ some_pair a rest → Front IsAction (verb ∷ ws) a rest
word_action verb key ws a b rest h is e =
    let q = some_pair_parts b a ws rest e in
    (verb ∷ [], on verb ws rest q.1, subst (λ (x : RawAction). IsAction (verb ∷ []) x) q.0 (subst (λ (x : List ℕ). IsAction (x ∷ []) b) (sym (key_is verb key is)) h))

number_action : (verb key : List ℕ) (ws : Words) (thing : ℕ → RawAction) (a : RawAction) (rest : Words) → ((v : List ℕ) (n : ℕ) → number_of v ≡ Some n → IsAction (key ∷ v ∷ []) (thing n)) → bytes_eq verb key ≡ true → said number_of thing ws ≡ Some (a, rest) → Front IsAction (verb ∷ ws) a rest
number_action verb key ws thing a rest h is e =
    let v = said_is number_of thing ws a rest e in
    (verb ∷ v.0 ∷ [], on verb ws (v.0 ∷ rest) v.2, subst (λ (x : RawAction). IsAction (verb ∷ v.0 ∷ []) x) v.4 (subst (λ (x : List ℕ). IsAction (x ∷ v.0 ∷ []) (thing v.1)) (sym (key_is verb key is)) (h v.0 v.1 v.3)))

action_found : (ws : Words) (a : RawAction) (rest : Words) → action_of ws ≡ Some (a, rest) → Front IsAction ws a rest
unfolding action_of
action_found [] a rest e = absurd cc
action_found (verb ∷ ws) a rest e =
    let end : RawAction × Words = (a, rest) in
    elim (chosen (bytes_eq verb (codes "allow")) _ _ (Some end) e) [
      | inl p ↦ word_action verb (codes "allow") ws a Allow rest refl p.0 p.1
      | inr b ↦ elim (chosen (bytes_eq verb (codes "deny")) _ _ (Some end) b.1) [
        | inl p ↦ word_action verb (codes "deny") ws a Deny rest refl p.0 p.1
        | inr c ↦ elim (chosen (bytes_eq verb (codes "count")) _ _ (Some end) c.1) [
          | inl p ↦ word_action verb (codes "count") ws a Count rest refl p.0 p.1
          | inr d ↦ elim (chosen (bytes_eq verb (codes "skipto")) _ _ (Some end) d.1) [
            | inl p ↦ number_action verb (codes "skipto") ws SkipTo a rest (λ v n h. (v, refl, h)) p.0 p.1
            | inr f ↦ elim (chosen (bytes_eq verb (codes "pipe")) _ _ (Some end) f.1) [
              | inl p ↦ number_action verb (codes "pipe") ws Pipe a rest (λ v n h. (v, refl, h)) p.0 p.1
              | inr p ↦ absurd (none-some end p.1)
            ]
          ]
        ]
      ]
    ]

source_ports_found : (ws : Words) (o : Option RawPorts) (rest : Words) → source_ports_of ws ≡ Some (o, rest) → (front : Words) × (ws ≡ front ++ codes "to" ∷ rest) × ArePorts front o
unfolding source_ports_of
source_ports_found [] o rest e = absurd cc
source_ports_found (w ∷ ws) o rest e =
    let end : Option RawPorts × Words = (o, rest) in
    let none : Option RawPorts = None in
    elim (chosen (bytes_eq w (codes "to")) _ _ (Some end) e) [
      | inl p ↦
          let q = some_pair_parts none o ws rest p.1 in
          ([], ap (λ (x : List ℕ). x ∷ ws) (key_is w (codes "to") p.0) ∙ on (codes "to") ws rest q.1, subst (λ (x : Option RawPorts). ArePorts [] x) q.0 refl)
      | inr p ↦
          let ports = bind_some (ports_of w) _ end p.1 in
          let to = after_is (codes "to") ws _ end ports.2 in
          let q = some_pair_parts (Some ports.0) o to.0 rest to.2 in
          (w ∷ [], on w ws (codes "to" ∷ rest) (to.1 ∙ on (codes "to") to.0 rest q.1), subst (λ (x : Option RawPorts). ArePorts (w ∷ []) x) q.0 (w, refl, ports.1))
    ]

last_ports_found : (ws : Words) (o : Option RawPorts) → last_ports_of ws ≡ Some o → ArePorts ws o
unfolding last_ports_of
last_ports_found [] o e = subst (λ (x : Option RawPorts). ArePorts [] x) (same_Some None o e) refl
last_ports_found (w ∷ ws) o e =
    let ports = bind_some (ports_of w) _ o e in
    let end = end_is ws _ o ports.2 in
    subst (λ (x : Option RawPorts). ArePorts (w ∷ ws) x) (same_Some (Some ports.0) o end.1) (w, on w ws [] end.0, ports.1)

rule_found : (ws : Words) (r : RawRule) → rule_of ws ≡ Some r → IsRule ws r
unfolding rule_of
rule_found ws r e =
    let number = value_is number_of ws _ r e in
    let action = bind_some (action_of number.1) _ r number.5 in
    let a = action_found number.1 action.0.0 action.0.1 action.1 in
    let proto = value_is match_of action.0.1 _ r action.2 in
    let from = after_is (codes "from") proto.1 _ r proto.5 in
    let src = value_is prefix_of from.0 _ r from.2 in
    let sports = bind_some (source_ports_of src.1) _ r src.5 in
    let s = source_ports_found src.1 sports.0.0 sports.0.1 sports.1 in
    let dst = value_is prefix_of sports.0.1 _ r sports.2 in
    let dports = bind_some (last_ports_of dst.1) _ r dst.5 in
    let words : ws ≡ number.0 ∷ (a.0 ++ proto.0 ∷ codes "from" ∷ src.0 ∷ (s.0 ++ codes "to" ∷ dst.0 ∷ dst.1)) =
    number.3 ∙ on number.0 number.1 _ (a.1 ∙ ap (λ (x : Words). a.0 ++ x) (proto.3 ∙ on proto.0 proto.1 _ (from.1 ∙ on (codes "from") from.0 _ (src.3 ∙ on src.0 src.1 _ (s.1 ∙ ap (λ (x : Words). s.0 ++ codes "to" ∷ x) dst.3))))) in
    subst (λ (x : RawRule). IsRule ws x) (same_Some _ r dports.2)
    (number.0, proto.0, src.0, dst.0, a.0, s.0, dst.1, words, number.4, a.2, proto.4, src.4, s.2, dst.4, last_ports_found dst.1 dports.0 dports.1)

ends_found : (ws : Words) (x : RawEnds) (rest : Words) → ends_of ws ≡ Some (x, rest) → Front IsEnds ws x rest
unfolding ends_of
ends_found ws x rest e =
    let end : RawEnds × Words = (x, rest) in
    let src = value_is address_of ws _ end e in
    let sport = value_is number_of src.1 _ end src.5 in
    let dst = value_is address_of sport.1 _ end sport.5 in
    let dport = value_is number_of dst.1 _ end dst.5 in
    let made : RawEnds = record { src = src.2; sport = sport.2; dst = dst.2; dport = dport.2 } in
    let q = some_pair_parts made x dport.1 rest dport.5 in
    let words : ws ≡ src.0 ∷ sport.0 ∷ dst.0 ∷ dport.0 ∷ rest = src.3 ∙ on src.0 src.1 _ (sport.3 ∙ on sport.0 sport.1 _ (dst.3 ∙ on dst.0 dst.1 _ (dport.3 ∙ on dport.0 dport.1 rest q.1))) in
    let front : Words = src.0 ∷ sport.0 ∷ dst.0 ∷ dport.0 ∷ [] in
    (front, words, subst (λ (y : RawEnds). IsEnds front y) q.0 (src.0, sport.0, dst.0, dport.0, refl, src.4, sport.4, dst.4, dport.4))

send_found : (ws : Words) (x : RawSend) (rest : Words) → send_of ws ≡ Some (x, rest) → Front IsSend ws x rest
unfolding send_of
send_found ws x rest e =
    let end : RawSend × Words = (x, rest) in
    let proto = value_is protocol_of ws _ end e in
    let ends = bind_some (ends_of proto.1) _ end proto.5 in
    let f = ends_found proto.1 ends.0.0 ends.0.1 ends.1 in
    let size = value_is number_of ends.0.1 _ end ends.2 in
    let made : RawSend = record { proto = proto.2; ends = ends.0.0; size = size.2 } in
    let q = some_pair_parts made x size.1 rest size.5 in
    let last : ends.0.1 ≡ size.0 ∷ rest = size.3 ∙ on size.0 size.1 rest q.1 in
    let words : ws ≡ proto.0 ∷ ((f.0 ++ size.0 ∷ []) ++ rest) = proto.3 ∙ on proto.0 proto.1 _ (f.1 ∙ ap (λ (w : Words). f.0 ++ w) last ∙ sym (append_assoc f.0 (size.0 ∷ []) rest)) in
    let front : Words = proto.0 ∷ (f.0 ++ size.0 ∷ []) in
    (front, words, subst (λ (y : RawSend). IsSend front y) q.0 (proto.0, size.0, f.0, refl, proto.4, f.2, size.4))

train_found : (ws : Words) (x : RawTrain) → train_of ws ≡ Some x → IsTrain ws x
unfolding train_of
train_found ws x e =
    let number = value_is number_of ws _ x e in
    let packet = bind_some (send_of number.1) _ x number.5 in
    let f = send_found number.1 packet.0.0 packet.0.1 packet.1 in
    let from_count = after_is (codes "count") packet.0.1 _ x packet.2 in
    let count = value_is number_of from_count.0 _ x from_count.2 in
    let from_gap = after_is (codes "gap") count.1 _ x count.5 in
    let gap = bind_some (last_number_of from_gap.0) _ x from_gap.2 in
    let g = last_number_found from_gap.0 gap.0 gap.1 in
    let words : ws ≡ number.0 ∷ (f.0 ++ codes "count" ∷ count.0 ∷ codes "gap" ∷ g.0 ∷ []) =
    number.3 ∙ on number.0 number.1 _ (f.1 ∙ ap (λ (w : Words). f.0 ++ w) (from_count.1 ∙ on (codes "count") from_count.0 _ (count.3 ∙ on count.0 count.1 _ (from_gap.1 ∙ on (codes "gap") from_gap.0 _ g.1)))) in
    subst (λ (y : RawTrain). IsTrain ws y) (same_Some _ x gap.2) (number.0, count.0, g.0, f.0, words, number.4, f.2, count.4, g.2)

flow_found : Laws → (ws : Words) (x : RawFlow) → flow_of ws ≡ Some x → IsFlow ws x
unfolding flow_of
flow_found laws ws x e =
    let number = value_is number_of ws _ x e in
    let ends = bind_some (ends_of number.1) _ x number.5 in
    let f = ends_found number.1 ends.0.0 ends.0.1 ends.1 in
    let from_smss = after_is (codes "smss") ends.0.1 _ x ends.2 in
    let smss = value_is number_of from_smss.0 _ x from_smss.2 in
    let from_segments = after_is (codes "segments") smss.1 _ x smss.5 in
    let segments = value_is number_of from_segments.0 _ x from_segments.2 in
    let options = bind_some (flow_options_of segments.1) _ x segments.5 in
    let words : ws ≡ number.0 ∷ (f.0 ++ codes "smss" ∷ smss.0 ∷ codes "segments" ∷ segments.0 ∷ segments.1) =
    number.3 ∙ on number.0 number.1 _ (f.1 ∙ ap (λ (w : Words). f.0 ++ w) (from_smss.1 ∙ on (codes "smss") from_smss.0 _ (smss.3 ∙ on smss.0 smss.1 _ (from_segments.1 ∙ on (codes "segments") from_segments.0 _ segments.3)))) in
    subst (λ (y : RawFlow). IsFlow ws y) (same_Some _ x options.2) (number.0, smss.0, segments.0, f.0, segments.1, words, number.4, f.2, smss.4, segments.4, (laws.1 segments.1 options.0).0 options.1)

-- a verb that stands in the line
behind : (verb key : List ℕ) (ws : Words) (c : RawCommand) → bytes_eq verb key ≡ true → IsCommand (key ∷ ws) c → IsCommand (verb ∷ ws) c
behind verb key ws c is h = subst (λ (v : List ℕ). IsCommand (v ∷ ws) c) (sym (key_is verb key is)) h

numbered_found : (key : List ℕ) (thing : ℕ → RawCommand) (ws : Words) (c : RawCommand) → ((v : List ℕ) (n : ℕ) → number_of v ≡ Some n → IsCommand (key ∷ v ∷ []) (thing n)) → numbered thing ws ≡ Some c → IsCommand (key ∷ ws) c
numbered_found key thing ws c h e =
    let n = bind_some (last_number_of ws) _ c e in
    let v = last_number_found ws n.0 n.1 in
    subst (λ (w : Words). IsCommand (key ∷ w) c) (sym v.1) (subst (λ (x : RawCommand). IsCommand (key ∷ v.0 ∷ []) x) (same_Some (thing n.0) c n.2) (h v.0 n.0 v.2))

alone_found : (key : List ℕ) (thing : RawCommand) (ws : Words) (c : RawCommand) → IsCommand (key ∷ []) thing → alone thing ws ≡ Some c → IsCommand (key ∷ ws) c
alone_found key thing ws c h e =
    let end = end_is ws _ c e in
    subst (λ (w : Words). IsCommand (key ∷ w) c) (sym end.0) (subst (λ (x : RawCommand). IsCommand (key ∷ []) x) (same_Some thing c end.1) h)

config_found : Laws → (w : List ℕ) (ws : Words) (c : RawCommand) → config_of w ws ≡ Some c → IsCommand (codes "pipe" ∷ w ∷ ws) c
config_found laws w ws c e =
    let n = bind_some (number_of w) _ c e in
    let rest = after_is (codes "config") ws _ c n.2 in
    let config = bind_some (options_of rest.0) _ c rest.2 in
    subst (λ (x : RawCommand). IsCommand (codes "pipe" ∷ w ∷ ws) x) (same_Some (commands.Config n.0 config.0) c config.2) (w, rest.0, on (codes "pipe") (w ∷ ws) _ (on w ws _ rest.1), n.1, (laws.0 rest.0 config.0).0 config.1)

pipe_numbered : (ws : Words) (c : RawCommand) → numbered commands.PipeDelete ws ≡ Some c → IsCommand (codes "pipe" ∷ codes "delete" ∷ ws) c
pipe_numbered ws c e =
    let n = bind_some (last_number_of ws) _ c e in
    let v = last_number_found ws n.0 n.1 in
    subst (λ (x : RawCommand). IsCommand (codes "pipe" ∷ codes "delete" ∷ ws) x) (same_Some (commands.PipeDelete n.0) c n.2) (v.0, ap (λ (w : Words). codes "pipe" ∷ codes "delete" ∷ w) v.1, v.2)

pipe_alone : (ws : Words) (c : RawCommand) → alone commands.PipeShow ws ≡ Some c → IsCommand (codes "pipe" ∷ codes "show" ∷ ws) c
pipe_alone ws c e =
    let end = end_is ws _ c e in
    subst (λ (x : RawCommand). IsCommand (codes "pipe" ∷ codes "show" ∷ ws) x) (same_Some commands.PipeShow c end.1) (ap (λ (w : Words). codes "pipe" ∷ codes "show" ∷ w) end.0)

pipe_found : Laws → (ws : Words) (c : RawCommand) → pipe_of ws ≡ Some c → IsCommand (codes "pipe" ∷ ws) c
unfolding pipe_of
pipe_found laws [] c e = absurd cc
pipe_found laws (w ∷ ws) c e =
    elim (chosen (bytes_eq w (codes "show")) _ _ (Some c) e) [
      | inl p ↦ subst (λ (v : List ℕ). IsCommand (codes "pipe" ∷ v ∷ ws) c) (sym (key_is w (codes "show") p.0)) (pipe_alone ws c p.1)
      | inr a ↦ elim (chosen (bytes_eq w (codes "delete")) _ _ (Some c) a.1) [
        | inl p ↦ subst (λ (v : List ℕ). IsCommand (codes "pipe" ∷ v ∷ ws) c) (sym (key_is w (codes "delete") p.0)) (pipe_numbered ws c p.1)
        | inr p ↦ config_found laws w ws c p.1
      ]
    ]

add_found : (ws : Words) (c : RawCommand) → add_of ws ≡ Some c → IsCommand (codes "add" ∷ ws) c
add_found ws c e =
    let r = bind_some (rule_of ws) _ c e in
    subst (λ (x : RawCommand). IsCommand (codes "add" ∷ ws) x) (same_Some (commands.Add r.0) c r.2) (ws, refl, rule_found ws r.0 r.1)

inject_found : (ws : Words) (c : RawCommand) → inject_of ws ≡ Some c → IsCommand (codes "inject" ∷ ws) c
inject_found ws c e =
    let s = bind_some (send_of ws) _ c e in
    let end = end_is s.0.1 _ c s.2 in
    let f = send_found ws s.0.0 s.0.1 s.1 in
    let words : f.0 ≡ ws = sym (f.1 ∙ ap (λ (w : Words). f.0 ++ w) end.0 ∙ append-nil f.0) in
    subst (λ (x : RawCommand). IsCommand (codes "inject" ∷ ws) x) (same_Some (commands.Inject s.0.0) c end.1) (ws, refl, subst (λ (w : Words). IsSend w s.0.0) words f.2)

train_command_found : (ws : Words) (c : RawCommand) → train_command_of ws ≡ Some c → IsCommand (codes "train" ∷ ws) c
train_command_found ws c e =
    let t = bind_some (train_of ws) _ c e in
    subst (λ (x : RawCommand). IsCommand (codes "train" ∷ ws) x) (same_Some (commands.Train t.0) c t.2) (ws, refl, train_found ws t.0 t.1)

flow_command_found : Laws → (ws : Words) (c : RawCommand) → flow_command_of ws ≡ Some c → IsCommand (codes "flow" ∷ ws) c
flow_command_found laws ws c e =
    let f = bind_some (flow_of ws) _ c e in
    subst (λ (x : RawCommand). IsCommand (codes "flow" ∷ ws) x) (same_Some (commands.Flow f.0) c f.2) (ws, refl, flow_found laws ws f.0 f.1)

source_found : Laws → (verb : List ℕ) (ws : Words) (c : RawCommand) → source_of verb ws ≡ Some c → IsCommand (verb ∷ ws) c
unfolding source_of
source_found laws verb ws c e =
    elim (chosen (bytes_eq verb (codes "inject")) _ _ (Some c) e) [
      | inl p ↦ behind verb (codes "inject") ws c p.0 (inject_found ws c p.1)
      | inr a ↦ elim (chosen (bytes_eq verb (codes "train")) _ _ (Some c) a.1) [
        | inl p ↦ behind verb (codes "train") ws c p.0 (train_command_found ws c p.1)
        | inr b ↦ elim (chosen (bytes_eq verb (codes "flow")) _ _ (Some c) b.1) [
          | inl p ↦ behind verb (codes "flow") ws c p.0 (flow_command_found laws ws c p.1)
          | inr d ↦ elim (chosen (bytes_eq verb (codes "stop")) _ _ (Some c) d.1) [
            | inl p ↦ behind verb (codes "stop") ws c p.0 (numbered_found (codes "stop") commands.Stop ws c (λ v n h. (v, refl, h)) p.1)
            | inr p ↦ absurd (none-some c p.1)
          ]
        ]
      ]
    ]

command_found : Laws → (ws : Words) (c : RawCommand) → command_of ws ≡ Some c → IsCommand ws c
unfolding command_of
command_found laws [] c e = absurd cc
command_found laws (verb ∷ ws) c e =
    elim (chosen (bytes_eq verb (codes "add")) _ _ (Some c) e) [
      | inl p ↦ behind verb (codes "add") ws c p.0 (add_found ws c p.1)
      | inr a ↦ elim (chosen (bytes_eq verb (codes "delete")) _ _ (Some c) a.1) [
        | inl p ↦ behind verb (codes "delete") ws c p.0 (numbered_found (codes "delete") commands.Delete ws c (λ v n h. (v, refl, h)) p.1)
        | inr b ↦ elim (chosen (bytes_eq verb (codes "pipe")) _ _ (Some c) b.1) [
          | inl p ↦ behind verb (codes "pipe") ws c p.0 (pipe_found laws ws c p.1)
          | inr d ↦ elim (chosen (bytes_eq verb (codes "show")) _ _ (Some c) d.1) [
            | inl p ↦ behind verb (codes "show") ws c p.0 (alone_found (codes "show") commands.Show ws c refl p.1)
            | inr f ↦ elim (chosen (bytes_eq verb (codes "one_pass")) _ _ (Some c) f.1) [
              | inl p ↦ behind verb (codes "one_pass") ws c p.0 (numbered_found (codes "one_pass") commands.OnePass ws c (λ v n h. (v, refl, h)) p.1)
              | inr g ↦ elim (chosen (bytes_eq verb (codes "trace")) _ _ (Some c) g.1) [
                | inl p ↦ behind verb (codes "trace") ws c p.0 (numbered_found (codes "trace") commands.Trace ws c (λ v n h. (v, refl, h)) p.1)
                | inr k ↦ elim (chosen (bytes_eq verb (codes "end")) _ _ (Some c) k.1) [
                  | inl p ↦ behind verb (codes "end") ws c p.0 (alone_found (codes "end") commands.End ws c refl p.1)
                  | inr p ↦ source_found laws verb ws c p.1
                ]
              ]
            ]
          ]
        ]
      ]
    ]

moment_found : (word : List ℕ) (n : ℕ) → moment_of word ≡ Some n → (v : List ℕ) × (word ≡ 64 ∷ v) × (number_of v ≡ Some n)
unfolding moment_of
moment_found [] n e = absurd cc
moment_found (c ∷ digits) n e =
    elim (chosen (eqb c 64) _ _ (Some n) e) [
      | inl p ↦ (digits, ap (λ (x : ℕ). x ∷ digits) (eqb-true c 64 p.0), p.1)
      | inr p ↦ absurd (none-some n p.1)
    ]

steps_found : (ws : Words) (o : Option ℕ) → steps_of ws ≡ Some o → AreSteps ws o
unfolding steps_of
steps_found [] o e = subst (λ (x : Option ℕ). AreSteps [] x) (same_Some None o e) refl
steps_found (word ∷ ws) o e =
    elim (chosen (bytes_eq word (codes "steps")) _ _ (Some o) e) [
      | inl p ↦
          let n = bind_some (last_number_of ws) _ o p.1 in
          let v = last_number_found ws n.0 n.1 in
          subst (λ (b : Option ℕ). AreSteps (word ∷ ws) b) (same_Some (Some n.0) o n.2) (v.0, ap (λ (w : List ℕ). w ∷ ws) (key_is word (codes "steps") p.0) ∙ on (codes "steps") ws _ v.1, v.2)
      | inr p ↦ absurd (none-some o p.1)
    ]

name_is : (w n : List ℕ) → name_of w ≡ Some n → w ≡ n
unfolding name_of
name_is w n e =
    elim (chosen (eqb (length w) 0) _ _ (Some n) e) [
      | inl p ↦ absurd (none-some n p.1)
      | inr q ↦ elim (chosen (ltb 32 (length w)) _ _ (Some n) q.1) [
        | inl p ↦ absurd (none-some n p.1)
        | inr r ↦ elim (chosen (list_all is_name_byte w) _ _ (Some n) r.1) [
          | inl p ↦ same_Some w n p.1
          | inr p ↦ absurd (none-some n p.1)
        ]
      ]
    ]

header_found : (ws : Words) (h : Header) → header_of ws ≡ Some h → IsLine (codes "experiment" ∷ ws) (Experiment h)
unfolding header_of
header_found ws h e =
    let name = value_is name_of ws _ h e in
    let from_seed = after_is (codes "seed") name.1 _ h name.5 in
    let seed = value_is number_of from_seed.0 _ h from_seed.2 in
    let from_budget = after_is (codes "budget") seed.1 _ h seed.5 in
    let budget = value_is number_of from_budget.0 _ h from_budget.2 in
    let steps = bind_some (steps_of budget.1) _ h budget.5 in
    let is = name_is name.0 name.2 name.4 in
    let words : ws ≡ name.2 ∷ codes "seed" ∷ seed.0 ∷ codes "budget" ∷ budget.0 ∷ budget.1 =
    name.3 ∙ ap (λ (x : List ℕ). x ∷ name.1) is ∙ on name.2 name.1 _ (from_seed.1 ∙ on (codes "seed") from_seed.0 _ (seed.3 ∙ on seed.0 seed.1 _ (from_budget.1 ∙ on (codes "budget") from_budget.0 _ budget.3))) in
    subst (λ (x : Header). IsLine (codes "experiment" ∷ ws) (Experiment x)) (same_Some _ h steps.2)
    (seed.0, budget.0, budget.1, on (codes "experiment") ws _ words, subst (λ (w : List ℕ). name_of w ≡ Some name.2) is name.4, seed.4, budget.4, steps_found budget.1 steps.0 steps.1)

timed_found : Laws → (word : List ℕ) (ws : Words) (l : Line) → timed_of word ws ≡ Some l → IsLine (word ∷ ws) l
timed_found laws word ws l e =
    let m = bind_some (moment_of word) _ l e in
    let a = bind_some (command_of ws) _ l m.2 in
    let v = moment_found word m.0 m.1 in
    subst (λ (x : Line). IsLine (word ∷ ws) x) (same_Some _ _ a.2) (v.0, ws, ap (λ (x : List ℕ). x ∷ ws) v.1, v.2, command_found laws ws a.0 a.1)

pub line_found : Laws → (ws : Words) (l : Line) → shape_of ws ≡ Some l → IsLine ws l
unfolding shape_of
line_found laws [] l e = absurd cc
line_found laws (first ∷ ws) l e =
    elim (chosen (bytes_eq first (codes "experiment")) _ _ (Some l) e) [
      | inl p ↦
          let h = bind_some (header_of ws) _ l p.1 in
          subst (λ (v : List ℕ). IsLine (v ∷ ws) l) (sym (key_is first (codes "experiment") p.0)) (subst (λ (x : Line). IsLine (codes "experiment" ∷ ws) x) (same_Some _ _ h.2) (header_found ws h.0 h.1))
      | inr p ↦ timed_found laws first ws l p.1
    ]

-- ---- again
action_again : (front rest : Words) (a : RawAction) → IsAction front a → action_of (front ++ rest) ≡ Some (a, rest)
unfolding action_of
action_again front rest Allow h = ap (λ (f : Words). action_of (f ++ rest)) h
action_again front rest Deny h = ap (λ (f : Words). action_of (f ++ rest)) h
action_again front rest Count h = ap (λ (f : Words). action_of (f ++ rest)) h
action_again front rest (SkipTo n) h = ap (λ (f : Words). action_of (f ++ rest)) h.1 ∙ rw h.2 refl
action_again front rest (Pipe n) h = ap (λ (f : Words). action_of (f ++ rest)) h.1 ∙ rw h.2 refl

to_is_none : None ≡ ports_of (codes "to")
unfolding ports_of number_of
to_is_none = refl

ports_not_to : (w : List ℕ) (p : RawPorts) (b : Bool) → ports_of w ≡ Some p → bytes_eq w (codes "to") ≡ b → b ≡ false
ports_not_to w p true e is =
    let t : ports_of (codes "to") ≡ Some p = subst (λ (x : List ℕ). ports_of x ≡ Some p) (key_is w (codes "to") is) e in
    absurd (none-some p (to_is_none ∙ t))
ports_not_to w p false e is = refl

source_ports_again : (front rest : Words) (o : Option RawPorts) → ArePorts front o → source_ports_of (front ++ codes "to" ∷ rest) ≡ Some (o, rest)
unfolding source_ports_of
source_ports_again front rest None h = ap (λ (f : Words). source_ports_of (f ++ codes "to" ∷ rest)) h
source_ports_again front rest (Some p) h =
    let not : bytes_eq h.0 (codes "to") ≡ false = ports_not_to h.0 p (bytes_eq h.0 (codes "to")) h.2 refl in
    ap (λ (f : Words). source_ports_of (f ++ codes "to" ∷ rest)) h.1 ∙ rw (not, h.2) refl

last_ports_again : (ws : Words) (o : Option RawPorts) → ArePorts ws o → last_ports_of ws ≡ Some o
unfolding last_ports_of
last_ports_again ws None h = ap last_ports_of h
last_ports_again ws (Some p) h = ap last_ports_of h.1 ∙ rw h.2 refl

rule_again : (ws : Words) (r : RawRule) → IsRule ws r → rule_of ws ≡ Some r
unfolding rule_of
rule_again ws r h =
    let action = action_again h.4 (h.1 ∷ codes "from" ∷ h.2 ∷ (h.5 ++ codes "to" ∷ h.3 ∷ h.6)) r.action h.9 in
    let sports = source_ports_again h.5 (h.3 ∷ h.6) r.sports h.12 in
    let dports = last_ports_again h.6 r.dports h.14 in
    ap rule_of h.7 ∙ rw (h.8, action, h.10, h.11, sports, h.13, dports) refl

ends_again : (front rest : Words) (x : RawEnds) → IsEnds front x → ends_of (front ++ rest) ≡ Some (x, rest)
unfolding ends_of
ends_again front rest x h = ap (λ (f : Words). ends_of (f ++ rest)) h.4 ∙ rw (h.5, h.6, h.7, h.8) refl

send_again : (front rest : Words) (x : RawSend) → IsSend front x → send_of (front ++ rest) ≡ Some (x, rest)
unfolding send_of
send_again front rest x h =
    let ends : ends_of ((h.2 ++ h.1 ∷ []) ++ rest) ≡ Some (x.ends, h.1 ∷ rest) = ap ends_of (append_assoc h.2 (h.1 ∷ []) rest) ∙ ends_again h.2 (h.1 ∷ rest) x.ends h.5 in
    ap (λ (f : Words). send_of (f ++ rest)) h.3 ∙ rw (h.4, ends, h.6) refl

train_again : (ws : Words) (x : RawTrain) → IsTrain ws x → train_of ws ≡ Some x
unfolding train_of
train_again ws x h =
    let packet = send_again h.3 (codes "count" ∷ h.1 ∷ codes "gap" ∷ h.2 ∷ []) x.packet h.6 in
    ap train_of h.4 ∙ rw (h.5, packet, h.7, h.8) refl

flow_again : Laws → (ws : Words) (x : RawFlow) → IsFlow ws x → flow_of ws ≡ Some x
unfolding flow_of
flow_again laws ws x h =
    let ends = ends_again h.3 (codes "smss" ∷ h.1 ∷ codes "segments" ∷ h.2 ∷ h.4) x.ends h.7 in
    let options = (laws.1 h.4 x.options).1 h.10 in
    ap flow_of h.5 ∙ rw (h.6, ends, h.8, h.9, options) refl

number_not : (w key : List ℕ) (n : ℕ) (b : Bool) → number_of key ≡ None → number_of w ≡ Some n → bytes_eq w key ≡ b → b ≡ false
number_not w key n true none e is = absurd (none-some n (sym none ∙ subst (λ (x : List ℕ). number_of x ≡ Some n) (key_is w key is) e))
number_not w key n false none e is = refl

show_is_none : number_of (codes "show") ≡ None
unfolding number_of
show_is_none = refl

delete_is_none : number_of (codes "delete") ≡ None
unfolding number_of
delete_is_none = refl

command_again : Laws → (ws : Words) (c : RawCommand) → IsCommand ws c → command_of ws ≡ Some c
unfolding command_of source_of pipe_of
command_again laws ws (commands.Add r) h = let rule = rule_again h.0 r h.2 in ap command_of h.1 ∙ rw rule refl
command_again laws ws (commands.Delete n) h = ap command_of h.1 ∙ rw h.2 refl
command_again laws ws (commands.Config n config) h =
    let options = (laws.0 h.1 config).1 h.4 in
    let not_show : bytes_eq h.0 (codes "show") ≡ false = number_not h.0 (codes "show") n (bytes_eq h.0 (codes "show")) show_is_none h.3 refl in
    let not_delete : bytes_eq h.0 (codes "delete") ≡ false = number_not h.0 (codes "delete") n (bytes_eq h.0 (codes "delete")) delete_is_none h.3 refl in
    ap command_of h.2 ∙ rw (not_show, not_delete, h.3, options) refl
command_again laws ws (commands.PipeDelete n) h = ap command_of h.1 ∙ rw h.2 refl
command_again laws ws commands.PipeShow h = ap command_of h
command_again laws ws commands.Show h = ap command_of h
command_again laws ws (commands.Inject s) h =
    let send : send_of h.0 ≡ Some (s, []) = ap send_of (sym (append-nil h.0)) ∙ send_again h.0 [] s h.2 in
    ap command_of h.1 ∙ rw send refl
command_again laws ws (commands.Train t) h = let train = train_again h.0 t h.2 in ap command_of h.1 ∙ rw train refl
command_again laws ws (commands.Flow f) h = let flow = flow_again laws h.0 f h.2 in ap command_of h.1 ∙ rw flow refl
command_again laws ws (commands.Stop n) h = ap command_of h.1 ∙ rw h.2 refl
command_again laws ws (commands.OnePass n) h = ap command_of h.1 ∙ rw h.2 refl
command_again laws ws (commands.Trace n) h = ap command_of h.1 ∙ rw h.2 refl
command_again laws ws commands.End h = ap command_of h

steps_again : (ws : Words) (o : Option ℕ) → AreSteps ws o → steps_of ws ≡ Some o
unfolding steps_of
steps_again ws None h = ap steps_of h
steps_again ws (Some n) h = ap steps_of h.1 ∙ rw h.2 refl

pub line_again : Laws → (ws : Words) (l : Line) → IsLine ws l → shape_of ws ≡ Some l
unfolding shape_of header_of moment_of
line_again laws ws (Experiment h) i = let s = steps_again i.2 h.steps i.7 in ap shape_of i.3 ∙ rw (i.4, i.5, i.6, s) refl
line_again laws ws (Command c) i = let a = command_again laws i.1 c.command i.4 in ap shape_of i.2 ∙ rw (i.3, a) refl
