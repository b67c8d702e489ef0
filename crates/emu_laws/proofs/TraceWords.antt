-- TraceWords: single words of the laws of traces, on commands and records that are written down here; what each
-- must say is worked out by hand from the rule in its comment.
use Rattle.std.specs.Prelude.{◌≡◌, refl, true, false, List, [], ◌∷◌, map, flat_map, count_by}
use Rattle.std.proofs.Common.{inl, inr}
use Rattle.emu_model.specs.declared.packets.Load.TheVariants.{Plain}
use Rattle.emu_model.specs.declared.packets.Origin.TheVariants.{ByTrain}
use Rattle.emu_model.specs.declared.packets.Protocol.TheVariants.{Udp}
use Rattle.emu_model.specs.declared.commands.Command.TheVariants.{Show, Trace, End}
use Rattle.emu_model.specs.declared.commands.Command.{Command}
use Rattle.emu_model.specs.declared.commands.Timed.{Timed}
use Rattle.emu_model.specs.declared.records.DropCause.TheVariants.{Full}
use Rattle.emu_model.specs.declared.records.Record.{Record}
use Rattle.emu_model.specs.declared.records.Record.TheVariants.{CommandDone, PacketMade, PacketArrived, PacketFinished, PacketDelivered, PacketPassed, PacketDropped}
use Rattle.emu_model.specs.TraceLaws.{IsTraced, IsSublist, makes, delivers, drops, tells_of, arrives_in, finishes_in, passes_in}

-- some of a list in its order: 1 and 3 of 1, 2, 3, but not 3 and 1, not 1 twice, and not 4
some_in_order : IsSublist (1 ∷ 3 ∷ []) (1 ∷ 2 ∷ 3 ∷ [])
some_in_order = inl (refl, inr (inl (refl, tt)))

not_turned : IsSublist (3 ∷ 1 ∷ []) (1 ∷ 2 ∷ 3 ∷ []) → ⊥
not_turned (inl (e, h)) = absurd (cc e)
not_turned (inr (inl (e, h))) = absurd (cc e)
not_turned (inr (inr (inl (e, h)))) = h
not_turned (inr (inr (inr h))) = h

not_twice : IsSublist (1 ∷ 1 ∷ []) (1 ∷ 2 ∷ []) → ⊥
not_twice (inl (e, inl (f, h))) = absurd (cc f)
not_twice (inl (e, inr h)) = h
not_twice (inr (inl (e, h))) = absurd (cc e)
not_twice (inr (inr h)) = h

-- a run is traced that is traced from its first event on, or whose first command is `trace 1`, and which has no `trace 0`
abbrev at_zero : Command → Timed
at_zero c = record { moment = 0; command = c }

traced_run : IsTraced false (at_zero (Trace true) ∷ at_zero Show ∷ at_zero (Trace true) ∷ at_zero End ∷ [])
traced_run = (refl, ((λ e. cc e), ((λ e. cc e), ((λ e. cc e), tt))))

traced_too_late : IsTraced false (at_zero Show ∷ at_zero (Trace true) ∷ []) → ⊥
traced_too_late h = absurd (cc h.0)

traced_no_more : IsTraced false (at_zero (Trace true) ∷ at_zero (Trace false) ∷ []) → ⊥
traced_no_more h = h.1.0 refl

traced_without : IsTraced true (at_zero Show ∷ at_zero (Trace true) ∷ [])
traced_without = ((λ e. cc e), ((λ e. cc e), tt))

traced_until : IsTraced true (at_zero (Trace false) ∷ []) → ⊥
traced_until h = h.0 refl

traced_with_none : IsTraced true []
traced_with_none = tt

untraced_with_none : IsTraced false [] → ⊥
untraced_with_none h = h

-- packet 7 is made, comes to instance 0 of pipe 1, finishes there and passes on; comes to instance 1 of pipe 1, and is
-- dropped there. Packet 8 comes to instance 0 of pipe 2, finishes there and is delivered
abbrev lines : List Record
lines =
    PacketMade 0 7 (ByTrain 3) Udp 1 2 3 4 100 ∷ PacketArrived 0 7 1 0 ∷ PacketArrived 0 8 2 0 ∷ PacketFinished 5 7 1 0
    ∷ PacketPassed 6 7 1 0 ∷ PacketArrived 6 7 1 1 ∷ PacketDropped 6 7 Plain Full ∷ PacketFinished 7 8 2 0
    ∷ PacketDelivered 8 8 Plain ∷ CommandDone 8 7 ∷ []

comings : map (λ k. flat_map (arrives_in 1 k) lines) (0 ∷ 1 ∷ 2 ∷ []) ≡ (7 ∷ []) ∷ (7 ∷ []) ∷ [] ∷ []
comings = refl

endings : map (λ pipe. flat_map (finishes_in pipe 0) lines) (1 ∷ 2 ∷ 3 ∷ []) ≡ (7 ∷ []) ∷ (8 ∷ []) ∷ [] ∷ []
endings = refl

passings : map (λ k. flat_map (passes_in 1 k) lines) (0 ∷ 1 ∷ []) ≡ (7 ∷ []) ∷ [] ∷ []
passings = refl

-- one make of packet 7, one drop of it and no delivery; one delivery of packet 8
makes_of_both : map (λ k. count_by (makes k) lines) (7 ∷ 8 ∷ []) ≡ 1 ∷ 0 ∷ []
makes_of_both = refl

ends_of_both :
    map (λ k. count_by (delivers k) lines) (7 ∷ 8 ∷ []) ≡ 0 ∷ 1 ∷ []
ends_of_both = refl

drops_of_both : map (λ k. count_by (drops k) lines) (7 ∷ 8 ∷ []) ≡ 1 ∷ 0 ∷ []
drops_of_both = refl

-- whatever names packet 7 tells of it, but for its make
told_of_seven :
    map (tells_of 7) lines
    ≡ false ∷ true ∷ false ∷ true ∷ true ∷ true ∷ true ∷ false ∷ false ∷ false ∷ []
told_of_seven = refl
