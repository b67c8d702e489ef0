-- What the definitions do with one pipe of an experiment, where the table holds it.
use Rattle.std.proofs.Common.{◌≡◌, ℕ, true, refl, sym, ap, ◌∙◌, List, ◌∷◌, ◌++◌, Option, Some, None}
use Rattle.std.specs.Prelude.{is_some, option_map}
use Rattle.std.specs.Option.{option_map_or}
use Rattle.emu_model.specs.declared.packets.Packet.{Packet}
use Rattle.emu_model.specs.declared.records.DropCause.TheVariants.{NoPipe}
use Rattle.emu_model.specs.declared.records.Record.TheVariants.{PacketFinished}
use Rattle.emu_model.specs.Pipes.{PipeState, InService, Drop, After, pipe_arrive, pipe_finish, pipe_exit}
use Rattle.emu_model.specs.declared.commands.EventContext.{EventContext}
use Rattle.emu_model.specs.Net.{Net, find_pipe, put_pipe, put_after, note, note_drops, drop_packet, enter_pipe}
use Rattle.emu_model.specs.Events.{flying_in, served_in, leave_pipe_some, pipe_exits, pipe_finishes}
use Rattle.packet_store.specs.Pocket.{Pocket}
use Rattle.pipe_core.specs.Moves.{packet_at, AreNamed, Keeps}
use Rattle.pipe_core.specs.Keyed.{KeyedPipe, seen_pipe, view, keys_of}
use Rattle.pipe_core.specs.Views.{ViewsAgree}
use Rattle.pipe_table.specs.Table.{seen_pipes, pipe_keys, has_number, pipe_of}
use Rattle.pipe_table.proofs.TableFacts.{seen-find, found-here, shown-changed}

abbrev net : Pocket → List KeyedPipe → Net → Net
net p ps n = record n { pipes = seen_pipes (packet_at p.find) ps }

pub find-none : (p : Pocket) (k : ℕ) (ps : List KeyedPipe) (n : Net) → pipe_of k ps ≡ None → find_pipe k (net p ps n) ≡ None
find-none p k ps n none = seen-find (packet_at p.find) k ps ∙ ap (option_map (seen_pipe (packet_at p.find))) none

pub find-some : (p : Pocket) (k : ℕ) (ps : List KeyedPipe) (x : KeyedPipe) (n : Net) → pipe_of k ps ≡ Some x → find_pipe k (net p ps n) ≡ Some (view p x)
find-some p k ps x n some = seen-find (packet_at p.find) k ps ∙ ap (option_map (seen_pipe (packet_at p.find))) some

-- there is a pipe of a number just where the net has one
seen-is : (f : ℕ → Packet) (o : Option KeyedPipe) → is_some (option_map (seen_pipe f) o) ≡ is_some o
seen-is f None = refl
seen-is f (Some x) = refl

pub has-is : (p : Pocket) (k : ℕ) (ps : List KeyedPipe) (n : Net) → is_some (pipe_of k ps) ≡ is_some (find_pipe k (net p ps n))
has-is p k ps n = sym (ap is_some (seen-find (packet_at p.find) k ps) ∙ seen-is (packet_at p.find) (pipe_of k ps))

module _ (agree : ViewsAgree) (p q : Pocket) (before behind : List KeyedPipe) (x y : KeyedPipe)
    (named : AreNamed p (pipe_keys (before ++ x ∷ behind))) (keeps : Keeps p q (keys_of x.slots) (keys_of y.slots))
    (k : ℕ) (first : pipe_of k before ≡ None) (passes : has_number k x ≡ true) where
  find-is : (n : Net) → find_pipe k (net p (before ++ x ∷ behind) n) ≡ Some (view p x)
  find-is n = find-some p k (before ++ x ∷ behind) x n (found-here k before behind x first passes)

  -- the changed pipe in its place
  put-is : (n : Net) → put_pipe k (view q y) (net p (before ++ x ∷ behind) n) ≡ net q (before ++ y ∷ behind) n
  put-is n = λ i. record n { pipes = sym (shown-changed agree p q before behind x y named keeps k first passes) i }

  pub arrive-is : (at : EventContext) (packet : Packet) (ds : List Drop) (n : Net) →
      pipe_arrive at.seed at.now packet (view p x) ≡ record { state = view q y; dropped = ds } →
      enter_pipe at k packet (net p (before ++ x ∷ behind) n) ≡ note_drops at.now ds (net q (before ++ y ∷ behind) n)
  arrive-is at packet ds n came =
      ap (λ o. option_map_or (λ pipe. put_after at.now k (pipe_arrive at.seed at.now packet pipe) (net p (before ++ x ∷ behind) n)) o
      (drop_packet at.now NoPipe packet (net p (before ++ x ∷ behind) n))) (find-is n)
      ∙ ap (λ (a : After PipeState). put_after at.now k a (net p (before ++ x ∷ behind) n)) came
      ∙ ap (note_drops at.now ds) (put-is n)

  pub exit-is : (at : EventContext) (j : ℕ) (o : Option Packet) (n : Net) →
      o ≡ flying_in j (view p x) → view q y ≡ pipe_exit j (view p x) →
      option_map_or (pipe_exits at k j (net p (before ++ x ∷ behind) n)) (find_pipe k (net p (before ++ x ∷ behind) n)) (net p (before ++ x ∷ behind) n)
      ≡ leave_pipe_some at k j o (net q (before ++ y ∷ behind) n)
  exit-is at j o n flying gone =
      ap (λ f. option_map_or (pipe_exits at k j (net p (before ++ x ∷ behind) n)) f (net p (before ++ x ∷ behind) n)) (find-is n)
      ∙ ap (λ s. leave_pipe_some at k j (flying_in j (view p x)) (put_pipe k s (net p (before ++ x ∷ behind) n))) (sym gone)
      ∙ (λ i. leave_pipe_some at k j (sym flying i) (put-is n i))

  pub finish-is : (at : EventContext) (j : ℕ) (packet : Packet) (ds : List Drop) (n : Net) →
      option_map (λ (s : InService Packet). s.item) (served_in j (view p x)) ≡ Some packet →
      pipe_finish at.now j (view p x) ≡ record { state = view q y; dropped = ds } →
      option_map_or (pipe_finishes at k j (net p (before ++ x ∷ behind) n)) (find_pipe k (net p (before ++ x ∷ behind) n)) (net p (before ++ x ∷ behind) n)
      ≡ note_drops at.now ds (net q (before ++ y ∷ behind) (note (PacketFinished at.now packet.number k j) n))
  finish-is at j packet ds n served done =
      ap (λ f. option_map_or (pipe_finishes at k j (net p (before ++ x ∷ behind) n)) f (net p (before ++ x ∷ behind) n)) (find-is n)
      ∙ go (served_in j (view p x)) served
      ∙ ap (note_drops at.now ds) (put-is (note (PacketFinished at.now packet.number k j) n))
    where
      go : (s : Option (InService Packet)) → option_map (λ (i : InService Packet). i.item) s ≡ Some packet →
          put_after at.now k (pipe_finish at.now j (view p x))
          (option_map_or (λ (i : InService Packet). note (PacketFinished at.now i.item.number k j) (net p (before ++ x ∷ behind) n)) s (net p (before ++ x ∷ behind) n))
          ≡ note_drops at.now ds (put_pipe k (view q y) (net p (before ++ x ∷ behind) (note (PacketFinished at.now packet.number k j) n)))
      go None e = absurd (cc)
      go (Some s) e =
          let same : s.item ≡ packet = cc in
          λ i. put_after at.now k (done i) (note (PacketFinished at.now (same i).number k j) (net p (before ++ x ∷ behind) n))
