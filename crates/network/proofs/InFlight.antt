-- A packet leaves the link of `allow`, or a pipe; a packet finishes; a source sends.
use Rattle.std.proofs.Common.{◌≡◌, ℕ, Bool, true, false, cond, refl, sym, ap, ◌∙◌, subst, List, [], ◌∷◌, map, Option, Some, None, IsSome, arith}
use Rattle.std.specs.Option.{option_map_or}
use Rattle.emu_model.specs.declared.packets.Packet.{Packet}
use Rattle.emu_model.specs.declared.records.Record.{Record}
use Rattle.emu_model.specs.declared.records.Record.TheVariants.{PacketFinished, PacketPassed}
use Rattle.emu_model.specs.Delay.{Line, leave, first_item}
use Rattle.emu_model.specs.declared.commands.EventContext.{EventContext}
use Rattle.emu_model.specs.Net.{Net, note, note_all, note_drops, drop_record, find_pipe, deliver, reinject}
use Rattle.emu_model.specs.Events.{leave_pipe, leave_pipe_some, pipe_exits, pipe_finishes}
use Rattle.link_core.specs.Lane.{Lane}
use Rattle.packet_store.specs.Pocket.{Pocket, without}
use Rattle.pipe_core.specs.KeyedInstance.{seen_leaving, seen_line}
use Rattle.pipe_core.specs.Moves.{packet_at, Keeps}
use Rattle.pipe_core.specs.Steps.{drops_by_codel}
use Rattle.pipe_core.specs.Views.{ViewsAgree}
use Rattle.pipe_core.specs.Keyed.{KeyedPipe, seen_pipe}
use Rattle.std.specs.Prelude.{find, ◌==◌}
use Rattle.pipe_table.specs.Table.{Table, pipe_of, seen_pipes, HasRoomIn, with_pipes, pipe_keys}
use Rattle.pipe_table.specs.Places.{HasRoomAtPlace, KeepsPlaces}
use Rattle.sources.specs.Kept.{KeptTraffic, with_traffic}
use Rattle.network.specs.Kept.{KeptNet, net_of, line_keys, IsHoused, Stands}
use Rattle.network.specs.Changes.{Becomes, Notes}
use Rattle.network.proofs.Frame.{direct-housed, direct-shown, pipes-housed}
use Rattle.network.proofs.AsReady.{IsRoomy}
use Rattle.network.proofs.Readied.{Readied, from_readied}
use Rattle.network.proofs.Direct.{leaves, front-there}
use Rattle.network.proofs.Steps.{shown-as, notes-becomes, follow, pipes-become, rebase, turns-becomes}
use Rattle.network.proofs.Sources.{traffic-turned}
use Rattle.network.proofs.Obeying.{weaker}

-- what leaves the link first
pub front-seen : (p : Pocket) (n : KeptNet) (key : ℕ) (r : Option Packet) → IsHoused p n → Some key ≡ first_item n.direct.line.in_flight → r ≡ p.find key →
    r ≡ first_item (map (seen_leaving (packet_at p.find)) n.direct.line.in_flight)
front-seen p n key r h first is = is ∙ go (p.find key) refl
  where
    go : (o : Option Packet) → p.find key ≡ o → o ≡ first_item (map (seen_leaving (packet_at p.find)) n.direct.line.in_flight)
    go None e =
        let there : IsSome (p.find key) = front-there p n key h (sym first) in
        let gone : IsSome {T = Packet} None = subst IsSome e there in absurd (cc)
    go (Some x) e = sym ((leaves p (without p key) n key x h (sym first) e refl).first)

pub front-missing : (p : Pocket) (n : KeptNet) (key : ℕ) → IsHoused p n → Some key ≡ first_item n.direct.line.in_flight → None ≡ p.find key → ⊥
front-missing p n key h first none =
    let there : IsSome (p.find key) = front-there p n key h (sym first) in
    let gone : IsSome {T = Packet} None = subst IsSome (sym none) there in cc

pub direct-left : (agree : ViewsAgree) (p q : Pocket) (n : KeptNet) (key : ℕ) (x : Packet) (l : Lane ℕ) → IsHoused p n → Some key ≡ first_item n.direct.line.in_flight →
    Some x ≡ p.find key → q ≡ without p key → l.line ≡ leave n.direct.line →
    Becomes 0 (record (net_of p n) { direct = leave (net_of p n).direct }) p q n (record n { direct = l })
direct-left agree p q n key x l h first value taken line =
    let gone = leaves p q n key x h (sym first) (sym value) taken in
    let keeps : Keeps p q (line_keys n.direct.line) (line_keys l.line) =
    subst (λ k. Keeps p q (line_keys n.direct.line) (line_keys k)) (sym line) gone.keeps in
    record {
      shown = direct-shown agree p q n l h keeps (leave (net_of p n).direct)
          (subst (λ (k : Line ℕ). seen_line (packet_at q.find) k ≡ leave (net_of p n).direct) (sym line) gone.seen);
      housed = direct-housed agree p q n l h keeps;
      budget = ap (λ (r : Pocket). r.budget) taken;
      seed = refl;
      made = omega arith;
    }

-- a pipe that isn't there isn't seen
pub none-seen : (f : ℕ → Packet) (k : ℕ) (ps : List KeyedPipe) → pipe_of k ps ≡ None → find (λ p. p.number == k) (seen_pipes f ps) ≡ None
none-seen f k [] none = refl
none-seen f k (p ∷ ps) none = go (p.number == k) (none-seen f k ps) none
  where
    go : (b : Bool) → (pipe_of k ps ≡ None → find (λ p. p.number == k) (seen_pipes f ps) ≡ None) → cond b (Some p) (pipe_of k ps) ≡ None →
        cond b (Some (seen_pipe f p)) (find (λ p. p.number == k) (seen_pipes f ps)) ≡ None
    go true rest e = absurd (cc)
    go false rest e = rest e

-- a packet leaves a pipe, or none does; a packet finishes
abbrev pub exits : EventContext → ℕ → ℕ → Net → Net
exits at k j m = option_map_or (pipe_exits at k j m) (find_pipe k m) m

abbrev pub finishes : EventContext → ℕ → ℕ → Net → Net
finishes at k j m = option_map_or (pipe_finishes at k j m) (find_pipe k m) m

module _ (at : EventContext) (o p q : Pocket) (old n : KeptNet) (t : Table) (k j : ℕ) (r : Readied o p old n)
    (keeps : Keeps p q (pipe_keys n.table.pipes) (pipe_keys t.pipes)) (seed : t.seed ≡ n.table.seed) where
  pub exit-stands : Stands at o old → Stands at q (record n { table = t })
  exit-stands stands = record {
    early = stands.early;
    seed = stands.seed ∙ sym (seed ∙ r.seed);
    room = omega (arith, stands.room, keeps.budget, r.budget);
    housed = pipes-housed p q n t r.housed keeps;
  }

  -- what needed no memory needs none
  pub exit-roomy : ((i : ℕ) (y : Packet) → HasRoomIn i y n.table.pipes → HasRoomIn i y t.pipes) →
      ((size i j : ℕ) → HasRoomAtPlace size i j n.table.pipes → HasRoomAtPlace size i j t.pipes) →
      KeepsPlaces n.table.pipes t.pipes → IsRoomy n (record n { table = t })
  exit-roomy rooms rooms_at places = record { rooms = rooms; rooms_at = rooms_at; places = places; spare = omega arith; book = refl; flow_cache = refl }

  module _ (gone : Option Packet) (is : exits at k j (net_of p n) ≡ leave_pipe_some at k j gone (with_pipes q t (net_of p n))) where
    pub exit-some : (x : Packet) → Some x ≡ gone → (u : Pocket) (new : KeptNet) →
        Becomes 1 (leave_pipe at k j x (net_of q (record n { table = t }))) q u (record n { table = t }) new →
        Becomes 1 (exits at k j (net_of o old)) o u old new
    exit-some x some u new b =
        let e : leave_pipe at k j x (with_pipes q t (net_of p n)) ≡ exits at k j (net_of p n) =
        ap (λ (g : Option Packet). leave_pipe_some at k j g (with_pipes q t (net_of p n))) some ∙ sym is in
        from_readied r (exits at k j) 1 u new
        (shown-as 1 (leave_pipe at k j x (with_pipes q t (net_of p n))) (exits at k j (net_of p n)) p u n new e
        (follow (leave_pipe at k j x) 0 1 1 (with_pipes q t (net_of p n)) p q u n (record n { table = t }) new (omega arith)
        (pipes-become p q n t r.housed keeps seed) b))

-- a packet that left is delivered, or goes on in the rules
module _ (at : EventContext) (k j : ℕ) (x : Packet) (p q : Pocket) (n new : KeptNet) where
  abbrev leaves-so : Bool → Net
  leaves-so one = cond one (deliver at x (net_of p n)) (reinject at x (note (PacketPassed at.now x.number k j) (net_of p n)))

  pub delivered-leaves : n.one_pass ≡ true → Becomes 1 (deliver at x (net_of p n)) p q n new → Becomes 1 (leave_pipe at k j x (net_of p n)) p q n new
  delivered-leaves one b = shown-as 1 (deliver at x (net_of p n)) (leave_pipe at k j x (net_of p n)) p q n new (ap leaves-so (sym one)) b

  pub passed-leaves : (mid : KeptNet) → n.one_pass ≡ false → IsHoused p n → Notes (PacketPassed at.now x.number k j ∷ []) n mid →
      Becomes 0 (reinject at x (net_of p mid)) p q mid new → Becomes 1 (leave_pipe at k j x (net_of p n)) p q n new
  passed-leaves mid one h noted b =
      let rs : List Record = PacketPassed at.now x.number k j ∷ [] in
      shown-as 1 (reinject at x (note_all rs (net_of p n))) (leave_pipe at k j x (net_of p n)) p q n new (ap leaves-so (sym one))
      (follow (reinject at x) 0 0 1 (note_all rs (net_of p n)) p p q n mid new (omega arith) (notes-becomes p rs n mid h noted) b)

module _ (p q : Pocket) (n : KeptNet) (t : Table) (k j : ℕ) (h : IsHoused p n)
    (keeps : Keeps p q (pipe_keys n.table.pipes) (pipe_keys t.pipes)) (seed : t.seed ≡ n.table.seed) where
  pub finished : (at : EventContext) (number : ℕ) (drops : List Packet) (mid new : KeptNet) →
      finishes at k j (net_of p n)
      ≡ note_drops at.now (drops_by_codel drops) (with_pipes q t (note (PacketFinished at.now number k j) (net_of p n))) →
      Notes (PacketFinished at.now number k j ∷ []) (record n { table = t }) mid →
      Notes (map (drop_record at.now) (drops_by_codel drops)) mid new →
      Becomes 0 (finishes at k j (net_of p n)) p q n new
  finished at number drops mid new e one rest =
      let b0 = pipes-become p q n t h keeps seed in
      let b1 = follow (note_all (PacketFinished at.now number k j ∷ [])) 0 0 0 (with_pipes q t (net_of p n)) p q q n (record n { table = t }) mid (omega arith) b0
      (notes-becomes q (PacketFinished at.now number k j ∷ []) (record n { table = t }) mid b0.housed one) in
      shown-as 0 (note_all (map (drop_record at.now) (drops_by_codel drops)) (note_all (PacketFinished at.now number k j ∷ []) (with_pipes q t (net_of p n))))
      (finishes at k j (net_of p n)) p q n new (sym e)
      (follow (note_all (map (drop_record at.now) (drops_by_codel drops))) 0 0 0 (note_all (PacketFinished at.now number k j ∷ []) (with_pipes q t (net_of p n))) p q q n mid new (omega arith) b1
      (notes-becomes q (map (drop_record at.now) (drops_by_codel drops)) mid new b1.housed rest))

-- a source changed, and a packet was made, or none
module _ (f : Net → Net) (p : Pocket) (n : KeptNet) (t : KeptTraffic) where
  pub sent-one : (q : Pocket) (new : KeptNet) (m : Net) → f (net_of p n) ≡ m → Becomes 1 m p q (record n { traffic = t }) new → Becomes 1 (f (net_of p n)) p q n new
  sent-one q new m e b = shown-as 1 m (f (net_of p n)) p q n new (sym e) (rebase 1 m p q (record n { traffic = t }) n new refl refl b)

  pub sent-none : IsHoused p n → ((m : Net) → f (with_traffic n.traffic m) ≡ with_traffic t m) → Becomes 1 (f (net_of p n)) p p n (record n { traffic = t })
  sent-none h e = weaker (f (net_of p n)) p p n (record n { traffic = t }) (turns-becomes f p n (record n { traffic = t }) h (traffic-turned f n t e))
