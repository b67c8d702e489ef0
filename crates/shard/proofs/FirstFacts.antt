-- The entry that an agenda finds least is the least by what a contract sees of the residents.
use Rattle.std.proofs.Common.{◌≡◌, ℕ, ◌+◌, ◌*◌, ◌≤◌, Bool, true, false, cond, List, [], ◌∷◌, ◌++◌, map, Option, Some, None, refl, sym, ap, ◌∙◌}
use Rattle.std.specs.Prelude.{◌||◌, ◌&&◌, ◌==◌, nat_lt, flat_map, option_map, option_to_list}
use Rattle.emu_model.specs.declared.packets.Packet.{Packet}
use Rattle.emu_model.specs.declared.sources.Class.TheVariants.{Exit, Finish}
use Rattle.emu_model.specs.declared.commands.Timed.{Timed}
use Rattle.emu_model.specs.declared.sources.Due.{Due}
use Rattle.emu_model.specs.declared.sources.Source.{Source}
use Rattle.emu_model.specs.Delay.{InFlight, Line, first_exit}
use Rattle.emu_model.specs.Pipes.{InService}
use Rattle.emu_model.specs.Dues.{due, line_dues, service_dues, instances_dues, pipe_dues, flow_dues, train_dues, dues_of, least_due}
use Rattle.emu_model.specs.RunLaws.{same_source}
use Rattle.emu_model.proofs.CallerLemmas.{not_before}
use Rattle.packet_store.specs.Pocket.{Pocket, empty_pocket}
use Rattle.pipe_core.specs.KeyedInstance.{seen_leaving, seen_service, seen_line}
use Rattle.pipe_core.specs.declared.slot.Slot.{Slot}
use Rattle.pipe_core.specs.Keyed.{KeyedPipe, seen_slot, seen_pipe}
use Rattle.pipe_core.specs.Moves.{packet_at}
use Rattle.network.specs.Kept.{KeptNet, net_of}
use Rattle.experiment.specs.Dues.{first_due, next_due_in}
use Rattle.experiment.specs.Kept.{KeptExperiment, view}
use Rattle.timer_wheel.specs.declared.Entry.{Entry}
use Rattle.timer_wheel.specs.Rows.{Row, is_before, source_before}
use Rattle.shard.specs.Seen.{Seen}
use Rattle.shard.specs.Bodies.{Residence as Resident}
use Rattle.shard.specs.Stand.{Seat, seat_at}
use Rattle.shard.specs.Entries.{turn, entries_of, entry_at}
use Rattle.shard.specs.Kept.{next_kept}
use Rattle.shard.specs.Seats.{resident_at, seat, seat_of, seats_of, Fits, IsShard}
use Rattle.shard.specs.Turns.{entry_of, IsFirst}
use Rattle.shard.proofs.Slots.{seat_at-seats_of}
use Rattle.shard.proofs.SlotChanges.{seated_at}

-- what comes next doesn't rest on packets
exit-anywhere : (f g : ℕ → Packet) (in_flight : List (InFlight ℕ)) → first_exit (map (seen_leaving f) in_flight) ≡ first_exit (map (seen_leaving g) in_flight)
exit-anywhere f g [] = refl
exit-anywhere f g (x ∷ xs) = refl

line-anywhere : (f g : ℕ → Packet) (k : ℕ) (l : Line ℕ) → line_dues k (seen_line f l) ≡ line_dues k (seen_line g l)
line-anywhere f g k l = ap (λ (m : Option ℕ). option_to_list (option_map (due Exit k) m)) (exit-anywhere f g l.in_flight)

service-anywhere : (f g : ℕ → Packet) (k : ℕ) (s : Slot) → service_dues k (seen_slot f s) ≡ service_dues k (seen_slot g s)
service-anywhere f g k s = by_busy s.instance.service.busy
  where
    by_busy : (o : Option (InService ℕ)) → option_to_list (option_map (λ t. due Finish k t.period.finish) (option_map (seen_service f) o)) ≡ option_to_list (option_map (λ t. due Finish k t.period.finish) (option_map (seen_service g) o))
    by_busy None = refl
    by_busy (Some b) = refl

slots-anywhere : (f g : ℕ → Packet) (k : ℕ) (slots : List Slot) → instances_dues k (map (seen_slot f) slots) ≡ instances_dues k (map (seen_slot g) slots)
slots-anywhere f g k [] = refl
slots-anywhere f g k (s ∷ slots) =
    λ i. line-anywhere f g k s.instance.delay_line.line i ++ service-anywhere f g k s i ++ slots-anywhere f g (k + 1) slots i

pipes-anywhere : (f g : ℕ → Packet) (pipes : List KeyedPipe) → flat_map pipe_dues (map (seen_pipe f) pipes) ≡ flat_map pipe_dues (map (seen_pipe g) pipes)
pipes-anywhere f g [] = refl
pipes-anywhere f g (p ∷ pipes) = λ i. slots-anywhere f g (p.number * 256) p.slots i ++ pipes-anywhere f g pipes i

dues-anywhere : (p q : Pocket) (clock : ℕ) (n : KeptNet) → dues_of clock (net_of p n) ≡ dues_of clock (net_of q n)
dues-anywhere p q clock n =
    let flows = (net_of p n).flows in
    λ i. line-anywhere (packet_at p.find) (packet_at q.find) 0 n.direct.line i ++ pipes-anywhere (packet_at p.find) (packet_at q.find) n.table.pipes i
    ++ flat_map (flow_dues clock) flows ++ flat_map train_dues n.traffic.trains

next-anywhere : (p q : Pocket) (e : KeptExperiment) → next_due_in (view p e) ≡ next_due_in (view q e)
next-anywhere p q e = by_next e.next
  where
    by_next : (n : Option Timed) → first_due (option_to_list n) (view p e) ≡ first_due (option_to_list n) (view q e)
    by_next None = refl
    by_next (Some c) = ap (λ (ds : List Due). Some (least_due c.moment ds)) (dues-anywhere p q e.clock e.net)

-- an entry stands at its moment, and nowhere else
entry_stands : (o : Option ℕ) (next : Option Due) (d : ℕ) → entry_at o next ≡ Some d → entries_of o next turn ≡ Some d
entry_stands None next d is = absurd (cc)
entry_stands (Some offset) None d is = absurd (cc)
entry_stands (Some offset) (Some x) d is = is

entry_is : (o : Option ℕ) (next : Option Due) (s : Source) (d : ℕ) → entries_of o next s ≡ Some d → entry_at o next ≡ Some d
entry_is None next s d is = absurd (cc)
entry_is (Some offset) None s d is = absurd (cc)
entry_is (Some offset) (Some x) s d is = by_source (same_source s turn) is
  where
    by_source : (b : Bool) → cond b (Some (x.moment + offset)) None ≡ Some d → Some (x.moment + offset) ≡ Some d
    by_source true e = e
    by_source false e = absurd (cc)

-- who isn't before an entry is due no earlier, and stands in no lesser slot where it is due as early
not_earlier : (e : Entry) (k d : ℕ) (s : Source) → is_before (record { due = d; owner = k; source = s }) e ≡ false → (e.due ≤ d) × (e.due ≡ d → e.owner ≤ k)
not_earlier e k d s h =
    let by_due = not_before {X = Entry} (λ x. x.due) (λ x y. nat_lt x.owner y.owner || (x.owner == y.owner && source_before x.source y.source)) (record { due = d; owner = k; source = s }) e h in (
      by_due.low,
      λ same. (not_before {X = Entry} (λ x. x.owner) (λ x y. source_before x.source y.source) (record { due = d; owner = k; source = s }) e (by_due.same (sym same))).low,
    )

module _ {M : Type 0} (seen : M → Seen) (pockets : ℕ → Pocket) where
  -- a resident's entry, by what a contract sees of it
  shown_entry : (p : Pocket) (r : Resident M) → entry_at r.offset (next_kept r.experiment) ≡ entry_of (seat p r)
  shown_entry p r = ap (entry_at r.offset) (next-anywhere (empty_pocket 0) p r.experiment)

  stands : (row : Row) (clock : ℕ) (o : Option (Resident M)) (x : Seat M) (d : ℕ) → Fits seen pockets row clock o → seat_of pockets o ≡ Some x → entry_of x ≡ Some d → row turn ≡ Some d
  stands row clock None x d f is at = absurd (cc)
  stands row clock (Some r) x d f is at =
      let same : Some (entry_of (seat (pockets r.owner) r)) ≡ Some (entry_of x) = ap (option_map (λ (y : Seat M). entry_of y)) is in
      let e : entry_of (seat (pockets r.owner) r) ≡ entry_of x = cc in
      f.entries turn ∙ entry_stands r.offset (next_kept r.experiment) d (shown_entry (pockets r.owner) r ∙ e ∙ at)

  pub first : (rows : ℕ → Row) (clock : ℕ) (slots : List (Option (Resident M))) (seats : List (Option (Seat M))) (e : Entry) (r : Resident M) → IsShard seen pockets rows clock slots → seats_of pockets slots ≡ seats → resident_at slots e.owner ≡ Some r →
      rows e.owner e.source ≡ Some e.due → ((o : ℕ) (s : Source) (d : ℕ) → rows o s ≡ Some d → is_before (record { due = d; owner = o; source = s }) e ≡ false) → IsFirst seats e.owner (seat (pockets r.owner) r)
  first rows clock slots seats e r s shown is was least =
      let f = seated_at seen pockets rows clock slots e.owner r s is in
      record {
        at = e.due;
        is = sym (shown_entry (pockets r.owner) r) ∙ entry_is r.offset (next_kept r.experiment) e.source e.due (sym (f.entries e.source) ∙ was);
        least = λ k x d there at.
            let sits : seat_of pockets (resident_at slots k) ≡ Some x = sym (seat_at-seats_of pockets slots k) ∙ ap (λ (l : List (Option (Seat M))). seat_at l k) shown ∙ there in
            not_earlier e k d turn (least k turn d (stands (rows k) clock (resident_at slots k) x d (s.each k) sits at));
      }
