-- The trace record of a packet that arrives at its instance.
use Rattle.std.proofs.Common.{◌≡◌, ℕ, ◌<◌, Bool, true, cond, sym, ap, ◌∙◌, List, [], ◌∷◌, length, get_or, position, Option, Some, arith}
use Rattle.std.specs.Prelude.{map}
use Rattle.std.specs.Option.{option_map_or}
use Rattle.std.proofs.lemmas.Bool.{lt-ltb}
use Rattle.std.proofs.lemmas.List.{length-map}
use Rattle.emu_model.specs.declared.packets.Packet.{Packet}
use Rattle.emu_model.specs.declared.records.Record.TheVariants.{PacketArrived}
use Rattle.emu_model.specs.FlowIds.{flow_id, instance_of}
use Rattle.emu_model.specs.Net.{Net, arrive_records, arrivals, find_pipe, identify_record}
use Rattle.packet_store.specs.Pocket.{Pocket}
use Rattle.pipe_core.specs.Moves.{packet_at}
use Rattle.pipe_core.specs.Keyed.{KeyedPipe, ids_of, seen_slot, view}
use Rattle.pipe_core.proofs.CallerLemmas.{ids-seen}
use Rattle.pipe_table.specs.Table.{has_number, with_pipes}
use Rattle.pipe_table.proofs.NetFacts.{find-some}
use Rattle.pipe_table.proofs.At.{pipe-at}

-- the instance exists, so the arrival has one record
pub arrives-routed : (k i j seed now : ℕ) (ps : List KeyedPipe) (x : KeyedPipe) (packet : Packet) (p : Pocket) (n : Net) →
    Some i ≡ position (has_number k) ps → x ≡ get_or ps i x → j < length x.slots →
    instance_of (ids_of x.slots) (flow_id x.config.mask packet) ≡ Some j →
    option_map_or (arrivals now packet) (find_pipe k (with_pipes p (record { seed = seed; pipes = ps }) n)) []
    ≡ PacketArrived now packet.number x.number j ∷ []
arrives-routed k i j seed now ps x packet p n at read inside its =
    let v = view p x in
    let came = PacketArrived now packet.number x.number j ∷ [] in
    let there : length v.instances ≡ length x.slots = length-map x.slots (seen_slot (packet_at p.find)) in
    ap (λ o. option_map_or (arrivals now packet) o []) (find-some p k ps x n (pipe-at k i ps x at read))
    ∙ ap (λ o. option_map_or (arrive_records now packet v) o [])
    (ap (λ ids. instance_of ids (flow_id x.config.mask packet)) (ids-seen (packet_at p.find) x.slots) ∙ its)
    ∙ ap (λ b. cond b came (identify_record now x.number j (flow_id x.config.mask packet) ∷ came))
    (lt-ltb j (length v.instances) (omega (arith, inside, there)))
