-- A line, as it is walked and as it is read.
use Rattle.std.proofs.Common.{◌≡◌, ℕ, Bool, true, false, [], ◌∷◌, Option, Some, None, refl, sym, ap, ◌∙◌}
use Rattle.std.specs.Prelude.{◌&&◌}
use Rattle.std.specs.Option.{is_some}
use Rattle.std.specs.Str.{bytes_eq}
use lib.Chars.{codes}
use Rattle.control_words.specs.Words.{Words, ◌>>=◌}
use Rattle.control_words.specs.Numbers.{number_of, moment_of}
use Rattle.control_words.specs.Options.{options_of}
use Rattle.control_lines.specs.declared.raw.RawCommand.{RawCommand}
use Rattle.control_lines.specs.declared.raw.RawCommand.TheVariants as commands
use Rattle.control_lines.specs.Grammar.{Line, Experiment}
use Rattle.control_lines.specs.Entries.{line_within}
use Rattle.control_lines.specs.Ranges.{within, config_within, send_within, train_within, rule_within, flow_within, command_within, timed_within, spec_within}
use Rattle.control_lines.specs.Shape.{send_of, train_of, flow_of, rule_of, pipe_of, inject_of, source_of, command_of, header_of, experiment_of, shape_of, last_number_of, numbered, alone}
use Rattle.control.specs.declared.word_fault.Check.{Check}
use Rattle.control.specs.declared.word_fault.Check.TheVariants.{Forms, Ranges}
use Rattle.control.specs.declared.expected.Expected.{Expected}
use Rattle.control.specs.declared.expected.Expected.TheVariants.{First, Header, Verb, Rule, RuleGone, Pipe, Inject, Train, Flow, Stopped, OnePass, Trace, End}
use Rattle.control.specs.declared.expected.HeaderWord.TheVariants as header
use Rattle.control.specs.declared.expected.RuleWord.TheVariants as rule
use Rattle.control.specs.declared.expected.PacketWord.TheVariants as packet
use Rattle.control.specs.declared.expected.TrainWord.TheVariants as train
use Rattle.control.specs.declared.expected.FlowWord.TheVariants as flow
use Rattle.control.specs.declared.expected.PipeWord.TheVariants as pipe
use Rattle.control.specs.Forms.{asked}
use Rattle.control.specs.Values.{no_pipe}
use Rattle.control.specs.Walk.{next}
use Rattle.control.proofs.RangedLines.{two}
use Rattle.control.proofs.Steps.{accepts, behind, meets, step, reads_step, kept, asked_true, Goes, last_read, value_here, word_step, end_step, split}
use Rattle.control.proofs.Headers.{header_read}
use Rattle.control.proofs.Rules.{rule_read}
use Rattle.control.proofs.Packets.{send_so, send_read, inject_stands, train_read}
use Rattle.control.proofs.Flows.{flow_read}
use Rattle.control.proofs.Pipes.{options_read}

abbrev command_so : Check → RawCommand → Bool
command_so check c = asked check (is_some (command_within c))

-- what is read as a whole, and put into a command
put_in : {A B C D : Type 0} (check : Check) (x : Bool) (o : Option A) (thing : A → B) (whole : B → Option C) (so : A → Option D) → x ≡ meets o (λ a. asked check (is_some (so a))) → ((a : A) → is_some (whole (thing a)) ≡ is_some (so a)) → x ≡ meets (o >>= λ a. Some (thing a)) (λ b. asked check (is_some (whole b)))
put_in check x None thing whole so e h = e
put_in check x (Some a) thing whole so e h = e ∙ ap (λ (b : Bool). asked check b) (sym (h a))

number_so : (check : Check) (p : Expected) (low high : ℕ) (command : ℕ → RawCommand) → Goes check p number_of (λ n. is_some (within n low high)) End → accepts check p [] ≡ false → ((n : ℕ) → is_some (command_within (command n)) ≡ is_some (within n low high)) → (ws : Words) → accepts check p ws ≡ meets (numbered command ws) (command_so check)
number_so check p low high command goes more h ws = put_in check _ (last_number_of ws) command command_within (λ n. within n low high) (last_read check p low high goes more ws) h

delete_read : (check : Check) (ws : Words) → accepts check RuleGone ws ≡ meets (numbered commands.Delete ws) (command_so check)
unfolding next command_within
delete_read check ws = number_so check RuleGone 0 99999 commands.Delete (λ _. refl) refl (λ n. kept (within n 0 99999) _) ws

pipe_delete_read : (check : Check) (ws : Words) → accepts check (Pipe pipe.Gone) ws ≡ meets (numbered commands.PipeDelete ws) (command_so check)
unfolding next command_within
pipe_delete_read check ws = number_so check (Pipe pipe.Gone) 1 65535 commands.PipeDelete (λ _. refl) refl (λ n. kept (within n 1 65535) _) ws

stop_read : (check : Check) (ws : Words) → accepts check Stopped ws ≡ meets (numbered commands.Stop ws) (command_so check)
unfolding next command_within
stop_read check ws = number_so check Stopped 1 65535 commands.Stop (λ _. refl) refl (λ n. kept (within n 1 65535) _) ws

one_pass_read : (check : Check) (ws : Words) → accepts check OnePass ws ≡ meets (numbered commands.OnePass ws) (command_so check)
unfolding next command_within
one_pass_read check ws = number_so check OnePass 0 1 commands.OnePass (λ _. refl) refl (λ n. kept (within n 0 1) _) ws

trace_read : (check : Check) (ws : Words) → accepts check Trace ws ≡ meets (numbered commands.Trace ws) (command_so check)
unfolding next command_within
trace_read check ws = number_so check Trace 0 1 commands.Trace (λ _. refl) refl (λ n. kept (within n 0 1) _) ws

alone_read : (check : Check) (command : RawCommand) → true ≡ command_so check command → (ws : Words) → accepts check End ws ≡ meets (alone command ws) (command_so check)
alone_read check command so ws = end_step check true _ (command_so check) ws (λ rest. so)

show_read : (check : Check) (ws : Words) → accepts check End ws ≡ meets (alone commands.Show ws) (command_so check)
unfolding command_within
show_read check ws = alone_read check commands.Show (sym (asked_true check)) ws

pipe_show_read : (check : Check) (ws : Words) → accepts check End ws ≡ meets (alone commands.PipeShow ws) (command_so check)
unfolding command_within
pipe_show_read check ws = alone_read check commands.PipeShow (sym (asked_true check)) ws

end_command_read : (check : Check) (ws : Words) → accepts check End ws ≡ meets (alone commands.End ws) (command_so check)
unfolding command_within
end_command_read check ws = alone_read check commands.End (sym (asked_true check)) ws

add_read : (check : Check) (ws : Words) → accepts check (Rule rule.Number) ws ≡ meets (rule_of ws >>= λ r. Some (commands.Add r)) (command_so check)
unfolding command_within
add_read check ws = put_in check _ (rule_of ws) commands.Add command_within rule_within (rule_read check ws) (λ r. kept (rule_within r) _)

train_command_read : (check : Check) (ws : Words) → accepts check (Train train.Number) ws ≡ meets (train_of ws >>= λ t. Some (commands.Train t)) (command_so check)
unfolding command_within
train_command_read check ws = put_in check _ (train_of ws) commands.Train command_within train_within (train_read check ws) (λ t. refl)

flow_command_read : (check : Check) (ws : Words) → accepts check (Flow flow.Number) ws ≡ meets (flow_of ws >>= λ f. Some (commands.Flow f)) (command_so check)
unfolding command_within
flow_command_read check ws = put_in check _ (flow_of ws) commands.Flow command_within flow_within (flow_read check ws) (λ f. refl)

inject_read : (check : Check) (ws : Words) → accepts check (Inject packet.Protocol) ws ≡ meets (inject_of ws) (command_so check)
unfolding command_within
inject_read check ws =
    reads_step true _ (send_of ws) (λ x. send_so check x.0) (λ x. accepts check End x.1) _ _ (send_read check (λ word. Inject word) End (inject_stands check) ws) (λ send.
    end_step check _ _ _ send.1 (λ rest. ap (λ (b : Bool). asked check b) (sym (kept (send_within send.0) _))))

pipe_read : (check : Check) (ws : Words) → accepts check (Pipe pipe.What) ws ≡ meets (pipe_of ws) (command_so check)
unfolding next pipe_of command_within
pipe_read check [] = refl
pipe_read check (w ∷ ws) =
    let l = behind check (Pipe pipe.What) w ws in
    let r = λ (o : Option RawCommand). meets o (command_so check) in
    split l r (bytes_eq w (codes "show")) _ _ _ _ (pipe_show_read check ws)
    (split l r (bytes_eq w (codes "delete")) _ _ _ _ (pipe_delete_read check ws)
    (value_here check true (number_of w) (λ n. is_some (within n 1 65535)) (Pipe pipe.Config) ws _ (command_so check) (λ n.
    word_step check _ (Pipe pipe.Config) (codes "config") (Pipe (pipe.Setting no_pipe)) _ (command_so check) (λ _. refl) refl (λ rest.
    step _ _ (options_of rest) (λ c. asked check (is_some (config_within c))) _ (command_so check) (options_read check rest) (λ c.
    two check (within n 1 65535) (config_within c) _)) ws)))

command_read : (check : Check) (ws : Words) → accepts check Verb ws ≡ meets (command_of ws) (command_so check)
unfolding next command_of source_of
command_read check [] = refl
command_read check (w ∷ ws) =
    let l = behind check Verb w ws in
    let r = λ (o : Option RawCommand). meets o (command_so check) in
    split l r (bytes_eq w (codes "add")) _ _ _ _ (add_read check ws)
    (split l r (bytes_eq w (codes "delete")) _ _ _ _ (delete_read check ws)
    (split l r (bytes_eq w (codes "pipe")) _ _ _ _ (pipe_read check ws)
    (split l r (bytes_eq w (codes "show")) _ _ _ _ (show_read check ws)
    (split l r (bytes_eq w (codes "one_pass")) _ _ _ _ (one_pass_read check ws)
    (split l r (bytes_eq w (codes "trace")) _ _ _ _ (trace_read check ws)
    (split l r (bytes_eq w (codes "end")) _ _ _ _ (end_command_read check ws)
    (split l r (bytes_eq w (codes "inject")) _ _ _ _ (inject_read check ws)
    (split l r (bytes_eq w (codes "train")) _ _ _ _ (train_command_read check ws)
    (split l r (bytes_eq w (codes "flow")) _ _ _ _ (flow_command_read check ws)
    (split l r (bytes_eq w (codes "stop")) _ _ _ _ (stop_read check ws)
    refl))))))))))

abbrev pub line_so : Check → Line → Bool
line_so check l = asked check (is_some (line_within l))

experiment_read : (check : Check) (ws : Words) → accepts check (Header header.Name) ws ≡ meets (experiment_of ws) (line_so check)
unfolding line_within
experiment_read check ws = put_in check _ (header_of ws) Experiment line_within spec_within (header_read check ws) (λ h. kept (spec_within h) _)

timed_is : {A B C D : Type 0} (check : Check) (a : Option A) (b : Option B) (make : A → B → C) (with : C → D) → (asked check (is_some a) && asked check (is_some b)) ≡ asked check (is_some ((a >>= λ u. b >>= λ v. Some (make u v)) >>= λ c. Some (with c)))
timed_is Forms a b make with = refl
timed_is Ranges None b make with = refl
timed_is Ranges (Some u) None make with = refl
timed_is Ranges (Some u) (Some v) make with = refl

-- the walk finds no fault just where the line is read, with its numbers within their ranges, if that is asked for
pub line_read : (check : Check) (ws : Words) → accepts check First ws ≡ meets (shape_of ws) (line_so check)
unfolding next shape_of line_within timed_within
line_read check [] = refl
line_read check (w ∷ ws) =
    split (behind check First w ws) (λ (o : Option Line). meets o (line_so check)) (bytes_eq w (codes "experiment")) _ _ _ _ (experiment_read check ws)
    (value_here check true (moment_of w) (λ n. is_some (within n 0 1000000000000000)) Verb ws _ (line_so check) (λ moment.
    step _ _ (command_of ws) (command_so check) _ (line_so check) (command_read check ws) (λ c.
    timed_is check (within moment 0 1000000000000000) (command_within c) _ _)))
