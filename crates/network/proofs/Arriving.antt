-- A packet that is made, and arrives.
use Rattle.std.proofs.Common.{◌≡◌, ℕ, ◌+◌, ◌<◌, ◌≤◌, Bool, true, false, nat_lt, cond, refl, sym, ap, ◌∙◌, subst, List, [], ◌∷◌, ◌++◌, length, Option, Some, None, arith}
use Rattle.std.specs.Prelude.{if◌then◌else◌, sum_by, slice_get}
use Rattle.std.specs.Option.{option_map_or}
use Rattle.emu_model.specs.Moments.{milliseconds}
use Rattle.emu_model.specs.declared.records.Record.{Record}
use Rattle.std.proofs.lemmas.Bool.{lt-ltb, le-ltb}
use Rattle.std.proofs.lemmas.List.{length-append, length-map}
use Rattle.std.proofs.lemmas.List.Sums.{sum_by-cons}
use Rattle.emu_model.specs.declared.packets.Load.{Load}
use Rattle.emu_model.specs.declared.packets.Origin.{Origin}
use Rattle.emu_model.specs.declared.packets.Load.TheVariants.{Plain}
use Rattle.emu_model.specs.declared.packets.Packet.{Packet}
use Rattle.emu_model.specs.declared.packets.Place.{Place}
use Rattle.emu_model.specs.declared.records.DropCause.{DropCause}
use Rattle.emu_model.specs.declared.records.DropCause.TheVariants.{Budget, NoPipe}
use Rattle.emu_model.specs.declared.rules.Verdict.{Verdict}
use Rattle.emu_model.specs.declared.rules.Verdict.TheVariants.{OverTheLink, Dropped, IntoPipe}
use Rattle.emu_model.specs.declared.sources.SendSpec.{SendSpec}
use Rattle.emu_model.specs.Rules.{Counted, RuleBook, verdict, count_at, counted_book}
use Rattle.emu_rules.proofs.CallerLemmas.{verdict-alike, counted-alone}
use Rattle.emu_model.specs.Delay.{Line, InFlight, enter}
use Rattle.emu_model.specs.Pipes.{PipeState, pipe_arrive, pipe_packets}
use Rattle.emu_model.specs.declared.commands.EventContext.{EventContext}
use Rattle.emu_model.specs.Net.{Net, held, note_all, note_drops, note_traced, note_arrival, arrivals, find_pipe, put_after, drop_packet, load_by, make_record, drop_record, to_direct, enter_pipe, to_pipe, by_verdict, pass_rules_from, packet_of, make, pass_rules}
use Rattle.link_core.specs.Lane.{Lane}
use Rattle.packet_store.specs.Pocket.{Pocket, with_packet}
use Rattle.pipe_core.specs.KeyedInstance.{seen_leaving, seen_line}
use Rattle.pipe_core.specs.Moves.{packet_at, Keeps}
use Rattle.pipe_core.specs.Keyed.{KeyedPipe, seen_pipe, keys_of}
use Rattle.pipe_core.specs.Steps.{drops_of, HasRoomAt}
use Rattle.pipe_core.specs.Views.{ViewsAgree, PacketsAreNamed}
use Rattle.pipe_table.specs.Table.{Table, with_pipes, pipe_keys, seen_pipes, HasRoomIn}
use Rattle.network.specs.Kept.{KeptNet, net_of, line_keys, IsHoused}
use Rattle.network.specs.Changes.{Becomes, Notes}
use Rattle.sources.specs.Standing.{heads_of}
use Rattle.network.specs.declared.flow_cache.Route.{Route}
use Rattle.network.specs.declared.flow_cache.CacheEntry.{CacheEntry}
use Rattle.network.specs.declared.flow_cache.Lookup.TheVariants.{Cached, Searched}
use Rattle.network.specs.FlowCache.{IsRoute, AreKnown, plain}
use Rattle.network.specs.Ready.{IsMatch, IsReady, CanGo, CanPass, HasRoute, CanMake}
use Rattle.emu_rules.specs.declared.search.Match.{Match}
use Rattle.std.specs.Prelude.{IfSome}
use Rattle.std.proofs.lemmas.Option.{same_Some}
use Rattle.network.proofs.RouteFacts.{alike-made, route-made}
use Rattle.network.proofs.Frame.{direct-housed, direct-shown}
use Rattle.network.proofs.AsReady.{IsRoomy, as-make}
use Rattle.network.proofs.Direct.{enter-keeps, enter-seen}
use Rattle.network.proofs.Steps.{noted-none, notes-becomes, pipes-become, follow, shown-as, rebase}

-- a packet enters the link of `allow`
enters-at : (agree : ViewsAgree) (p q : Pocket) (n : KeptNet) (key now : ℕ) (packet : Packet) (l : Lane ℕ) →
    IsHoused p n → p.find key ≡ None → q ≡ with_packet p key packet → l.line ≡ enter key now 0 n.direct.line →
    Becomes 0 (to_direct now packet (net_of p n)) p q n (record n { direct = l })
enters-at agree p q n key now packet l h none put line =
    let keeps : Keeps p q (line_keys n.direct.line) (line_keys l.line) =
    subst (λ k. Keeps p q (line_keys n.direct.line) (line_keys k)) (sym line) (enter-keeps p q n key now packet h none put) in
    record {
      shown = direct-shown agree p q n l h keeps (enter packet now 0 (net_of p n).direct)
          (subst (λ (k : Line ℕ). seen_line (packet_at q.find) k ≡ enter packet now 0 (net_of p n).direct) (sym line) (enter-seen p q n key now packet h none put));
      housed = direct-housed agree p q n l h keeps;
      budget = ap (λ (r : Pocket). r.budget) put;
      seed = refl;
      made = omega arith;
    }

pub enters : (agree : ViewsAgree) (p q : Pocket) (n : KeptNet) (key now delay : ℕ) (packet : Packet) (l : Lane ℕ) →
    IsHoused p n → p.find key ≡ None → q ≡ with_packet p key packet → delay ≡ 0 → l.line ≡ enter key now (milliseconds delay) n.direct.line →
    Becomes 0 (to_direct now packet (net_of p n)) p q n (record n { direct = l })
enters agree p q n key now delay packet l h none put nought line =
    enters-at agree p q n key now packet l h none put (line ∙ ap (λ d. enter key now (milliseconds d) n.direct.line) nought)

-- a packet comes to a pipe, and is taken in, or dropped
module _ (at : EventContext) (p q : Pocket) (n : KeptNet) (t : Table) (k now : ℕ) (packet : Packet) (h : IsHoused p n)
    (keeps : Keeps p q (pipe_keys n.table.pipes) (pipe_keys t.pipes)) (seed : t.seed ≡ n.table.seed) where
  pub taken-in : enter_pipe at k packet (net_of p n) ≡ note_drops now (drops_of packet None) (with_pipes q t (net_of p n)) →
      Becomes 0 (enter_pipe at k packet (net_of p n)) p q n (record n { table = t })
  taken-in e = shown-as 0 (with_pipes q t (net_of p n)) (enter_pipe at k packet (net_of p n)) p q n (record n { table = t })
      (sym (e ∙ noted-none (with_pipes q t (net_of p n)))) (pipes-become p q n t h keeps seed)

  pub turned-away : (cause : DropCause) (new : KeptNet) →
      enter_pipe at k packet (net_of p n) ≡ note_drops now (drops_of packet (Some cause)) (with_pipes q t (net_of p n)) →
      Notes (drop_record now (record { packet = packet; cause = cause }) ∷ []) (record n { table = t }) new →
      Becomes 0 (enter_pipe at k packet (net_of p n)) p q n new
  turned-away cause new e noted =
      let b : Becomes 0 (with_pipes q t (net_of p n)) p q n (record n { table = t }) = pipes-become p q n t h keeps seed in
      shown-as 0 (note_all (drop_record now (record { packet = packet; cause = cause }) ∷ []) (with_pipes q t (net_of p n))) (enter_pipe at k packet (net_of p n)) p q n new (sym e)
      (follow (note_all (drop_record now (record { packet = packet; cause = cause }) ∷ [])) 0 0 0 (with_pipes q t (net_of p n)) p q q n (record n { table = t }) new (omega arith) b
      (notes-becomes q (drop_record now (record { packet = packet; cause = cause }) ∷ []) (record n { table = t }) new b.housed noted))

-- a packet comes to no pipe
pub finds-none : (at : EventContext) (p : Pocket) (n new : KeptNet) (k : ℕ) (packet : Packet) → IsHoused p n → find_pipe k (net_of p n) ≡ None →
    Notes (drop_record at.now (record { packet = packet; cause = NoPipe }) ∷ []) n new →
    Becomes 0 (enter_pipe at k packet (net_of p n)) p p n new
finds-none at p n new k packet h none noted =
    shown-as 0 (note_all (drop_record at.now (record { packet = packet; cause = NoPipe }) ∷ []) (net_of p n)) (enter_pipe at k packet (net_of p n)) p p n new
    (sym (ap (λ o. option_map_or (λ pipe. put_after at.now k (pipe_arrive at.seed at.now packet pipe) (net_of p n)) o (drop_packet at.now NoPipe packet (net_of p n))) none))
    (notes-becomes p (drop_record at.now (record { packet = packet; cause = NoPipe }) ∷ []) n new h noted)

-- records came that the pockets decide
logged-becomes : (p : Pocket) (rs : List Record) (old new : KeptNet) → IsHoused p old → new ≡ record old { log = new.log } →
    new.log.records ≡ old.log.records ++ rs → Becomes 0 (note_all rs (net_of p old)) p p old new
logged-becomes p rs old new h rest records = record {
  shown = ap (net_of p) rest ∙ (λ i. record (net_of p old) { records = records i });
  housed = subst (λ m. IsHoused p m) (sym rest) (record { each = h.each; count = h.count });
  budget = refl;
  seed = ap (λ (m : KeptNet). m.table.seed) rest;
  made = omega (arith, ap (λ (m : KeptNet). m.made) rest);
}

-- what a trace says of an arrival, and the arrival
pub arrives : (at : EventContext) (p q : Pocket) (n x new : KeptNet) (k : ℕ) (packet : Packet) → IsHoused p n →
    x ≡ record n { log = x.log } →
    x.log.records ≡ n.log.records ++ (if n.trace then option_map_or (arrivals at.now packet) (find_pipe k (net_of p n)) [] else []) →
    Becomes 0 (enter_pipe at k packet (net_of p x)) p q x new →
    Becomes 0 (to_pipe at k packet (net_of p n)) p q n new
arrives at p q n x new k packet h rest records b =
    follow (enter_pipe at k packet) 0 0 0 (note_arrival at.now k packet (net_of p n)) p p q n x new (omega arith)
    (logged-becomes p (if n.trace then option_map_or (arrivals at.now packet) (find_pipe k (net_of p n)) [] else []) n x h rest records) b

-- a rule counted and records came: the packets stay where they are
pub housed-logged : (p : Pocket) (n m : KeptNet) (book : RuleBook) → IsHoused p n →
    m ≡ record n { book = book; log = m.log } → IsHoused p m
housed-logged p n m book h rest = subst (λ k. IsHoused p k) (sym rest) (record { each = h.each; count = h.count })

-- a packet in another place is as ready
pub ready-placed : (k : ℕ) (packet : Packet) (place : Place) (ps : List KeyedPipe) → HasRoomIn k packet ps → HasRoomIn k (record packet { place = place }) ps
ready-placed k packet place ps ready p e =
    let r : HasRoomAt packet p = ready p e in record { there = r.there; new = r.new }

-- a packet goes by its route
module _ (at : EventContext) (p q : Pocket) (n x new : KeptNet) (start : ℕ) (packet sent : Packet) (w : Route) (book : RuleBook) (h : IsHoused p n)
    (route : IsRoute start packet w n.book.rules n.table.pipes)
    (counted : book ≡ record n.book { rules = count_at (w.rule ∷ []) packet 0 n.book.rules })
    (placed : sent ≡ record packet { place = w.place }) where
  abbrev behind : KeptNet
  behind = record n { book = book }

  by-route : to_pipe at w.number sent (net_of p behind) ≡ pass_rules_from at start packet (net_of p n)
  by-route =
      ap (λ s. to_pipe at w.number s (net_of p behind)) placed
      ∙ ap (λ b. to_pipe at w.number (record packet { place = w.place }) (record (net_of p n) { book = b }))
      (counted ∙ sym (ap (λ (cs : List Counted). record n.book { rules = cs }) (counted-alone start packet n.book.rules w.rule route.alone)))
      ∙ ap (λ v. by_verdict at v packet (record (net_of p n) { book = counted_book start packet n.book })) (sym route.verdict)

  pub passes-by-route : x ≡ record behind { log = x.log } →
      x.log.records ≡ n.log.records ++ (if n.trace then option_map_or (arrivals at.now sent) (find_pipe w.number (net_of p behind)) [] else []) →
      Becomes 0 (enter_pipe at w.number sent (net_of p x)) p q x new →
      Becomes 0 (pass_rules_from at start packet (net_of p n)) p q n new
  passes-by-route rest records entered =
      rebase 0 (pass_rules_from at start packet (net_of p n)) p q behind n new refl refl
      (shown-as 0 (to_pipe at w.number sent (net_of p behind)) (pass_rules_from at start packet (net_of p n)) p q behind new by-route
      (arrives at p q behind x new w.number sent (record { each = h.each; count = h.count }) rest records entered))

ready-same : (a b : Load) (send : SendSpec) (i j : ℕ) (v : Verdict) (n : KeptNet) → IsReady v (packet_of a send i) n → IsReady v (packet_of b send j) n
ready-same a b send i j OverTheLink n ready = ready
ready-same a b send i j Dropped n ready = ready
ready-same a b send i j (IntoPipe k place) n ready = λ p e.
    let r : HasRoomAt (packet_of a send i) p = ready p e in record { there = r.there; new = r.new }

-- a packet of this header that is made is ready
pub packet-ready : (load : Load) (send : SendSpec) (number : ℕ) (x : Packet) (n m : KeptNet) → IsRoomy n m → x ≡ packet_of load send number →
    CanMake send Searched n → CanPass 0 x None m
packet-ready load send number x n m same e ready =
    let made : CanPass 0 (packet_of load send number) None m =
    subst (λ v. IsReady v (packet_of load send number) m)
    (verdict-alike 0 (plain send) (packet_of load send number) m.book.rules (alike-made Plain load send 0 number))
    (ready-same Plain load send 0 number (verdict 0 (plain send) m.book.rules) m (as-make n m same send Searched ready)) in
    subst (λ y. CanPass 0 y None m) (sym e) made

pub packet-known : (load : Load) (send : SendSpec) (number line : ℕ) (x : Packet) (n m : KeptNet) → IsRoomy n m → x ≡ packet_of load send number →
    CanMake send (Cached line) n → HasRoute x line m
packet-known load send number line x n m same e ready =
    record { load = load; send = send; number = number; made = e; holds = as-make n m same send (Cached line) ready }

-- what stands on the line is the packet's route
pub on-line : (x : Packet) (line : ℕ) (held : CacheEntry) (n : KeptNet) → AreKnown n.book.rules n.table.pipes (heads_of n.traffic) n.flow_cache → HasRoute x line n →
    slice_get n.flow_cache line ≡ Some (Some held) → CanGo 0 x held.route n
on-line x line held n known h there =
    let same : record { send = h.send; route = h.holds.route } ≡ held = same_Some _ _ (same_Some _ _ (sym h.holds.there ∙ there)) in
    let route : IsRoute 0 (plain h.send) h.holds.route n.book.rules n.table.pipes = known.each line _ h.holds.there in
    let go : CanGo 0 (packet_of h.load h.send h.number) h.holds.route n =
    record { route = route-made h.load h.send h.number h.holds.route n.book.rules n.table.pipes route; room = h.holds.room } in
    subst (λ y. CanGo 0 y held.route n) (sym h.made)
    (subst (λ (r : CacheEntry). CanGo 0 (packet_of h.load h.send h.number) r.route n) same go)

-- what a packet that goes on was classified as
pub can-pass : (start : ℕ) (x : Packet) (f : Match) (known : Option Route) (b : RuleBook) (m : KeptNet) → m.book ≡ b →
    IsMatch start x f b.rules → IsReady f.verdict x m →
    IfSome known (λ w. (s : ℕ) → IsMatch s x f b.rules → CanGo s x w m) → CanPass start x known m
can-pass start x f (Some w) b m book classified ready go = go start classified
can-pass start x f None b m book classified ready go =
    subst (λ (c : RuleBook). IsReady (verdict start x c.rules) x m) (sym book)
    (subst (λ v. IsReady v x m) classified.verdict ready)

-- what is held is what the keys name
held-pipes : PacketsAreNamed → (f : ℕ → Packet) (ps : List KeyedPipe) → sum_by (λ s. length (pipe_packets s)) (seen_pipes f ps) ≡ length (pipe_keys ps)
unfolding pipe_keys
held-pipes named f [] = refl
held-pipes named f (p ∷ ps) =
    omega (
      arith,
      sum_by-cons (λ (s : PipeState). length (pipe_packets s)) (seen_pipe f p) (seen_pipes f ps),
      held-pipes named f ps,
      ap (λ xs. length xs) (named f p),
      length-map (keys_of p.slots) f,
      length-append (keys_of p.slots) (pipe_keys ps),
    )

pub held-is : PacketsAreNamed → (p : Pocket) (n : KeptNet) → IsHoused p n → held (net_of p n) ≡ p.count
held-is named p n h =
    omega (
      arith,
      h.count,
      held-pipes named (packet_at p.find) n.table.pipes,
      length-append (line_keys n.direct.line) (pipe_keys n.table.pipes),
      length-map n.direct.line.in_flight (seen_leaving (packet_at p.find)),
      length-map n.direct.line.in_flight (λ (x : InFlight ℕ). x.item),
    )

-- one more was made
module _ (named : PacketsAreNamed) (at : EventContext) (p : Pocket) (n : KeptNet) (o : Origin) (send : SendSpec) (x : Packet) (h : IsHoused p n) (is : x ≡ packet_of (load_by o) send n.made) where
  abbrev one-more : KeptNet
  one-more = record n { made = n.made + 1 }

  more-housed : IsHoused p one-more
  more-housed = record { each = h.each; count = h.count }

  abbrev traced-one : Packet → Net
  traced-one y = note_traced (make_record at.now o y ∷ []) (net_of p one-more)

  abbrev made-by : Bool → Packet → Net
  made-by fits y = cond fits (pass_rules at y (traced-one y)) (note_drops at.now (record { packet = y; cause = Budget } ∷ []) (traced-one y))

  traced : (mid : KeptNet) → Notes (if n.trace then make_record at.now o x ∷ [] else []) one-more mid →
      Becomes 0 (traced-one x) p p one-more mid
  traced mid noted = notes-becomes p (if n.trace then make_record at.now o x ∷ [] else []) one-more mid more-housed noted

  pub made-passes : (q : Pocket) (mid new : KeptNet) → Notes (if n.trace then make_record at.now o x ∷ [] else []) one-more mid →
      p.count < at.packet_budget → Becomes 0 (pass_rules at x (net_of p mid)) p q mid new →
      Becomes 1 (make at o send (net_of p n)) p q n new
  made-passes q mid new noted fits passed =
      let test : nat_lt (held (net_of p n)) at.packet_budget ≡ true = lt-ltb (held (net_of p n)) at.packet_budget (omega (arith, fits, held-is named p n h)) in
      let b : Becomes 0 (pass_rules at x (traced-one x)) p q one-more new =
      follow (pass_rules at x) 0 0 0 (traced-one x) p p q one-more mid new (omega arith) (traced mid noted) passed in
      record {
        shown = b.shown ∙ (λ i. made-by (sym test i) (is i));
        housed = b.housed;
        budget = b.budget;
        seed = b.seed;
        made = omega (arith, b.made);
      }

  pub made-dropped : (mid new : KeptNet) → Notes (if n.trace then make_record at.now o x ∷ [] else []) one-more mid →
      at.packet_budget ≤ p.count → Notes (drop_record at.now (record { packet = x; cause = Budget }) ∷ []) mid new →
      Becomes 1 (make at o send (net_of p n)) p p n new
  made-dropped mid new noted full dropped =
      let test : nat_lt (held (net_of p n)) at.packet_budget ≡ false = le-ltb (held (net_of p n)) at.packet_budget (omega (arith, full, held-is named p n h)) in
      let ds : List Record = drop_record at.now (record { packet = x; cause = Budget }) ∷ [] in
      let m : Becomes 0 (traced-one x) p p one-more mid = traced mid noted in
      let b : Becomes 0 (note_all ds (traced-one x)) p p one-more new =
      follow (note_all ds) 0 0 0 (traced-one x) p p p one-more mid new (omega arith) m (notes-becomes p ds mid new m.housed dropped) in
      record {
        shown = b.shown ∙ (λ i. made-by (sym test i) (is i));
        housed = b.housed;
        budget = b.budget;
        seed = b.seed;
        made = omega (arith, b.made);
      }
