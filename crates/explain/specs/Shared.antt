-- Flows whose segments and acknowledgements wait in one pipe.
use Rattle.std.specs.Prelude.{ℕ, ◌+◌, Bool, false, ◌==◌, ◌&&◌, nat_lt, if◌then◌else◌, List, [], ◌∷◌, ◌++◌, Option, Some, None, option_and_then}
use Rattle.std.specs.List.{list_any}
use Rattle.emu_model.specs.declared.commands.Command.{Command}
use Rattle.emu_model.specs.declared.commands.Command.TheVariants.{Config, Flow}
use Rattle.emu_model.specs.declared.commands.Timed.{Timed}
use Rattle.emu_model.specs.declared.pipes.Mask.{Mask}
use Rattle.emu_model.specs.declared.pipes.PipeConfig.{PipeConfig}
use Rattle.emu_model.specs.declared.rules.Verdict.{Verdict}
use Rattle.emu_model.specs.declared.rules.Verdict.TheVariants.{IntoPipe}
use Rattle.emu_model.specs.Rules.{RuleBook, verdict}
use Rattle.explain.specs.declared.doubt.Doubt.{Doubt}
use Rattle.explain.specs.declared.doubt.Doubt.TheVariants.{SharedPipe}
use Rattle.explain.specs.declared.doubt.Doubtful.{Doubtful}
use Rattle.explain.specs.declared.ends.Ends.{Ends}
use Rattle.explain.specs.Likely.{doubts_at}
use Rattle.explain.specs.Walk.{Stand, behind, start}
use Rattle.explain.specs.Ways.{segment_ends, turned, packet_of}

-- a mask with neither an address nor a port: both directions of a flow come to one instance
abbrev pub is_two_way : Mask → Bool
is_two_way m = m.src == 0 && m.dst == 0 && m.sport == 0 && m.dport == 0

-- both directions of a flow wait in one queue
abbrev pub serves : PipeConfig → Bool
serves c = nat_lt 0 c.bw && is_two_way c.mask

abbrev pub serves_in : ℕ → Command → Bool
serves_in n (Config pipe c) = pipe == n && serves c
serves_in n _ = false

abbrev pub is_serving : List Timed → ℕ → Bool
is_serving cs n = list_any (λ c. serves_in n c.command) cs

abbrev pub pipe_in : Verdict → Option ℕ
pipe_in (IntoPipe n place) = Some n
pipe_in _ = None

-- the pipe that the rules hand packets of these ends to
abbrev pub pipe_of : RuleBook → Ends → Option ℕ
pipe_of b e = pipe_in (verdict 0 (packet_of e) b.rules)

abbrev pub same_pipe : (ℕ → Bool) → ℕ → ℕ → Option Doubt
same_pipe serving there back = if there == back && serving there then Some (SharedPipe there) else None

abbrev pub shared_by : (ℕ → Bool) → RuleBook → Ends → Option Doubt
shared_by serving b e = option_and_then (λ there. option_and_then (same_pipe serving there) (pipe_of b (turned e))) (pipe_of b e)

abbrev pub shared_in : (ℕ → Bool) → RuleBook → Command → Option Doubt
shared_in serving b (Flow n f) = shared_by serving b (segment_ends f)
shared_in serving b _ = None

-- by the rules behind all commands of its moment, from command k on
unfoldable pub shared_from : List Timed → ℕ → Stand → List Timed → List Doubtful
shared_from all k s [] = []
shared_from all k s (c ∷ cs) = doubts_at k (shared_in (is_serving all) (behind c.moment s).book c.command) ++ shared_from all (k + 1) (behind c.moment s) cs

abbrev pub shared : List Timed → List Doubtful
shared cs = shared_from cs 0 (start cs) cs
