-- A pipe at its place in the table.
use Rattle.std.proofs.Common.{◌≡◌, ℕ, suc, ◌<◌, ◌≤◌, Bool, true, false, cond, refl, sym, ap, ◌∙◌, subst, List, [], ◌∷◌, ◌++◌, map, length, take, drop, set, get_or, position, Option, Some, None, Result, Ok, Err, IfOk, OnOk, OnErr, MatchResult, arith}
use Rattle.std.specs.Prelude.{◌==◌, option_map, option_and_then, unwrap_or, slice_get}
use Rattle.std.specs.List.{remove, insert, position_or_len}
use Rattle.std.specs.Option.{option_map_or}
use Rattle.std.proofs.lemmas.List.{set_split, length-set, length-append, length-map, length-take-le, map-append, take-append-drop}
use Rattle.emu_model.specs.Lists.{replace_first, remove_first}
use Rattle.emu_model.specs.Delay.{InFlight, first_exit, first_item}
use Rattle.emu_model.specs.declared.packets.Packet.{Packet}
use Rattle.emu_model.specs.Pipes.{PipeState, Instance, InService, Drop, pipe_arrive, pipe_finish, pipe_exit, pipe_configure, pipe_packets}
use Rattle.emu_model.specs.declared.records.Record.TheVariants.{PacketFinished}
use Rattle.emu_model.specs.declared.commands.EventContext.{EventContext}
use Rattle.emu_model.specs.Net.{Net, find_pipe, put_pipe, note, note_drops, enter_pipe}
use Rattle.emu_model.specs.Commands.{configure, config_refusal, mask_refusal, new_pipe, new_pipe_refusal, delete_pipe}
use Rattle.emu_model.specs.declared.pipes.PipeConfig.{PipeConfig}
use Rattle.emu_model.specs.declared.records.DropCause.TheVariants.{Deleted}
use Rattle.emu_model.specs.Events.{flying_in, served_in, leave_pipe_some, pipe_exits, pipe_finishes}
use Rattle.packet_store.specs.Pocket.{Pocket}
use Rattle.pipe_core.specs.Moves.{some_packet, packet_at, AreNamed, Keeps}
use Rattle.pipe_core.specs.Keyed.{KeyedPipe, seen_pipe, view, keys_of}
use Rattle.pipe_core.specs.Views.{ViewsAgree, PacketsAreNamed}
use Rattle.pipe_core.specs.Steps.{HasRoomAt, IsGrown, drops_by_codel}
use Rattle.pipe_table.specs.Table.{Table, seen_pipes, with_pipes, pipe_keys, has_number, is_above, pipe_of, HasRoomIn, HasGrown, IsFinishing, IsLeaving, IsTable}
use Rattle.pipe_table.proofs.Splits.{position-within, position-passes, position-first, position-whole}
use Rattle.pipe_table.proofs.TableFacts.{shows_number, found-here, seen-replace, seen-remove, seen-before, seen-behind, Keeps-lift, AreNamed-at}
use Rattle.pipe_table.proofs.NetFacts.{find-none, find-some, arrive-is, exit-is, finish-is}
use Rattle.pipe_table.proofs.NumberOrder.{place, place-is, place-within, with_pipe-at, IsTable-change, IsTable-seed, IsTable-insert, IsTable-remove}

ready-split : (j : ℕ) (packet : Packet) (before behind : List KeyedPipe) (x y : KeyedPipe) → y.number ≡ x.number →
    (HasRoomAt packet x → HasRoomAt packet y) →
    HasRoomIn j packet (before ++ x ∷ behind) → HasRoomIn j packet (before ++ y ∷ behind)
ready-split j packet [] behind x y number keeps has p found =
    go (x.number == j) has ((λ i. cond (sym number i == j) (Some y) (pipe_of j behind)) ∙ found)
  where
    go : (b : Bool) → ((r : KeyedPipe) → cond b (Some x) (pipe_of j behind) ≡ Some r → HasRoomAt packet r) →
        cond b (Some y) (pipe_of j behind) ≡ Some p → HasRoomAt packet p
    go true h e = let same : y ≡ p = cc in subst (HasRoomAt packet) same (keeps (h x refl))
    go false h e = h p e
ready-split j packet (b ∷ before) behind x y number keeps has p found =
    go (b.number == j) has (λ h. ready-split j packet before behind x y number keeps h p) found
  where
    go : (c : Bool) → ((r : KeyedPipe) → cond c (Some b) (pipe_of j (before ++ x ∷ behind)) ≡ Some r → HasRoomAt packet r) →
        (HasRoomIn j packet (before ++ x ∷ behind) → pipe_of j (before ++ y ∷ behind) ≡ Some p → HasRoomAt packet p) →
        cond c (Some b) (pipe_of j (before ++ y ∷ behind)) ≡ Some p → HasRoomAt packet p
    go true h rest e = h p e
    go false h rest e = rest h e

shown-split : (f : ℕ → Packet) (before behind : List KeyedPipe) (x y : KeyedPipe) → seen_pipe f y ≡ seen_pipe f x →
    seen_pipes f (before ++ y ∷ behind) ≡ seen_pipes f (before ++ x ∷ behind)
shown-split f [] behind x y e = λ i. e i ∷ seen_pipes f behind
shown-split f (b ∷ before) behind x y e = ap (λ l. seen_pipe f b ∷ l) (shown-split f before behind x y e)

keys-split : (before behind : List KeyedPipe) (x y : KeyedPipe) → keys_of y.slots ≡ keys_of x.slots →
    pipe_keys (before ++ y ∷ behind) ≡ pipe_keys (before ++ x ∷ behind)
unfolding pipe_keys
keys-split [] behind x y e = ap (λ l. l ++ pipe_keys behind) e
keys-split (b ∷ before) behind x y e = ap (λ l. keys_of b.slots ++ l) (keys-split before behind x y e)

remove-split : {A : Type 0} (before behind : List A) (y : A) → remove (before ++ y ∷ behind) (length before) ≡ before ++ behind
remove-split [] behind y = refl
remove-split (b ∷ before) behind y = ap (λ l. b ∷ l) (remove-split before behind y)

keys-none : keys_of [] ≡ []
unfolding keys_of
keys-none = refl

-- a pipe without instances holds no keys
keys-gone : (before behind : List KeyedPipe) (y : KeyedPipe) → y.slots ≡ [] → pipe_keys (before ++ y ∷ behind) ≡ pipe_keys (before ++ behind)
unfolding pipe_keys
keys-gone [] behind y none = ap (λ l. l ++ pipe_keys behind) (ap keys_of none ∙ keys-none)
keys-gone (b ∷ before) behind y none = ap (λ l. keys_of b.slots ++ l) (keys-gone before behind y none)

module _ (k i : ℕ) (ps : List KeyedPipe) (x : KeyedPipe) (at : Some i ≡ position (has_number k) ps) (read : x ≡ get_or ps i x) where
  abbrev before : List KeyedPipe
  before = take i ps

  abbrev behind : List KeyedPipe
  behind = drop (suc i) ps

  whole : ps ≡ before ++ x ∷ behind
  whole = position-whole (has_number k) ps i x at read

  first : pipe_of k before ≡ None
  first = position-first (has_number k) ps i x at

  pub passes : has_number k x ≡ true
  passes = position-passes (has_number k) ps i x at read

  changed : (y : KeyedPipe) → set ps i y ≡ before ++ y ∷ behind
  changed y = set_split ps i y (position-within (has_number k) ps i x at)

  pub pipe-at : pipe_of k ps ≡ Some x
  pipe-at = ap (pipe_of k) whole ∙ found-here k before behind x first passes

  pub named-at : (p : Pocket) → AreNamed p (pipe_keys ps) → AreNamed p (keys_of x.slots)
  named-at p n = AreNamed-at p before behind x (subst (λ l. AreNamed p (pipe_keys l)) whole n)

  pub keys-at : (p q : Pocket) (y : KeyedPipe) → Keeps p q (keys_of x.slots) (keys_of y.slots) → Keeps p q (pipe_keys ps) (pipe_keys (set ps i y))
  keys-at p q y keeps =
      subst (λ l. Keeps p q (pipe_keys l) (pipe_keys (set ps i y))) (sym whole)
      (subst (λ l. Keeps p q (pipe_keys (before ++ x ∷ behind)) (pipe_keys l)) (sym (changed y)) (Keeps-lift p q before behind x y keeps))

  pub table-at : (seed low : ℕ) (y : KeyedPipe) → IsTable seed low ps → y.seed ≡ x.seed → y.number ≡ x.number → IsTable seed low (set ps i y)
  table-at seed low y t same number =
      subst (IsTable seed low) (sym (changed y)) (IsTable-change seed low before behind x y same number (subst (IsTable seed low) whole t))

  pub sound-at : (seed : ℕ) (y : KeyedPipe) → IsTable seed 0 ps × (length ps ≤ 64) → y.seed ≡ x.seed → y.number ≡ x.number →
      IsTable seed 0 (set ps i y) × (length (set ps i y) ≤ 64)
  sound-at seed y t same number = (table-at seed 0 y t.0 same number, omega (arith, t.1, length-set ps i y))

  pub seed-at : (seed low : ℕ) → IsTable seed low ps → x.seed ≡ seed
  seed-at seed low t = IsTable-seed seed low before behind x (subst (IsTable seed low) whole t)

  pub pipe-set : (y : KeyedPipe) → y.number ≡ x.number → pipe_of k (set ps i y) ≡ Some y
  pipe-set y number =
      ap (pipe_of k) (changed y) ∙ found-here k before behind y first ((λ i. number i == k) ∙ passes)

  pub ready-set : (y : KeyedPipe) (packet : Packet) → y.number ≡ x.number → HasRoomAt packet y → HasRoomIn k packet (set ps i y)
  ready-set y packet number has p found =
      subst (HasRoomAt packet) (ap (λ o. unwrap_or o y) (sym (pipe-set y number) ∙ found)) has

  pub shown-set : (f : ℕ → Packet) (y : KeyedPipe) → seen_pipe f y ≡ seen_pipe f x → seen_pipes f (set ps i y) ≡ seen_pipes f ps
  shown-set f y e = ap (seen_pipes f) (changed y) ∙ shown-split f before behind x y e ∙ ap (seen_pipes f) (sym whole)

  pub keys-set : (y : KeyedPipe) → keys_of y.slots ≡ keys_of x.slots → pipe_keys (set ps i y) ≡ pipe_keys ps
  keys-set y e = ap pipe_keys (changed y) ∙ keys-split before behind x y e ∙ ap pipe_keys (sym whole)

  -- what is shown, with a pipe put in the place of the first of its number
  pub seen-put : (f : ℕ → Packet) (y : KeyedPipe) (s : PipeState) → seen_pipe f y ≡ s →
      replace_first (shows_number k) s (seen_pipes f ps) ≡ seen_pipes f (set ps i y)
  seen-put f y s e =
      ap (λ l. replace_first (shows_number k) s (seen_pipes f l)) whole
      ∙ seen-replace k before behind x first passes f s
      ∙ ap (λ t. seen_pipes f before ++ t ∷ seen_pipes f behind) (sym e)
      ∙ sym (map-append (seen_pipe f) before (y ∷ behind))
      ∙ ap (seen_pipes f) (sym (changed y))

  pub configure-at : (config : PipeConfig) (y : KeyedPipe) → ((f : ℕ → Packet) → seen_pipe f y ≡ pipe_configure config (seen_pipe f x)) →
      (seed : ℕ) (p : Pocket) (n : Net) →
      configure k config (with_pipes p (record { seed = seed; pipes = ps }) n) ≡ with_pipes p (record { seed = seed; pipes = set ps i y }) n
  configure-at config y done seed p n =
      let m : Net = with_pipes p (record { seed = seed; pipes = ps }) n in
      ap (λ o. option_map_or (λ t. put_pipe k (pipe_configure config t) m) o (new_pipe k config m)) (find-some p k ps x n pipe-at)
      ∙ (λ z. record n { pipes = seen-put (packet_at p.find) y (pipe_configure config (view p x)) (done (packet_at p.find)) z })

  pub refusal-at : (config : PipeConfig) (seed : ℕ) (p : Pocket) (n : Net) →
      config_refusal k config (with_pipes p (record { seed = seed; pipes = ps }) n) ≡ mask_refusal config (view p x)
  refusal-at config seed p n =
      ap (λ o. option_map_or (mask_refusal config) o (new_pipe_refusal (with_pipes p (record { seed = seed; pipes = ps }) n))) (find-some p k ps x n pipe-at)

  -- the list without the pipe
  pub removed : (y : KeyedPipe) → remove (set ps i y) i ≡ before ++ behind
  removed y = ap (λ l. remove l i) (changed y) ∙ ap (remove (before ++ y ∷ behind)) (sym place-is-length) ∙ remove-split before behind y
    where
      place-is-length : length before ≡ i
      place-is-length = length-take-le i ps (omega (arith, position-within (has_number k) ps i x at))

  pub table-removed : (seed low : ℕ) (y : KeyedPipe) → IsTable seed low ps → IsTable seed low (remove (set ps i y) i)
  table-removed seed low y t = subst (IsTable seed low) (sym (removed y)) (IsTable-remove seed low before behind x (subst (IsTable seed low) whole t))

  pub sound-removed : (seed : ℕ) (y : KeyedPipe) → IsTable seed 0 ps × (length ps ≤ 64) →
      IsTable seed 0 (remove (set ps i y) i) × (length (remove (set ps i y) i) ≤ 64)
  sound-removed seed y t = (
    table-removed seed 0 y t.0,
    omega (
      arith,
      t.1,
      ap length (removed y),
      ap length whole,
      length-append before behind,
      length-append before (x ∷ behind),
    ),
  )

  pub keys-removed : (p q : Pocket) (y : KeyedPipe) → y.slots ≡ [] → Keeps p q (keys_of x.slots) (keys_of y.slots) →
      Keeps p q (pipe_keys ps) (pipe_keys (remove (set ps i y) i))
  keys-removed p q y none keeps =
      subst (λ l. Keeps p q (pipe_keys ps) l) (ap pipe_keys (changed y) ∙ keys-gone before behind y none ∙ ap pipe_keys (sym (removed y)))
      (keys-at p q y keeps)

  pub count-at : (named : PacketsAreNamed) (p : Pocket) (gone : List Packet) → AreNamed p (pipe_keys ps) → gone ≡ pipe_packets (view p x) →
      length (map {B = Drop} (λ t. record { packet = t; cause = Deleted }) gone) ≤ p.count
  count-at named p gone n e =
      omega (
        arith,
        length-map {B = Drop} gone (λ (t : Packet). record { packet = t; cause = Deleted }),
        ap length (e ∙ named (packet_at p.find) x),
        length-map (keys_of x.slots) (packet_at p.find),
        (named-at p n).within,
      )

  module _ (agree : ViewsAgree) (p q : Pocket) (y : KeyedPipe) (named : AreNamed p (pipe_keys ps)) (keeps : Keeps p q (keys_of x.slots) (keys_of y.slots)) where
    pub delete-at : (now seed : ℕ) (n : Net) (gone : List Packet) → gone ≡ pipe_packets (view p x) →
        (let m = with_pipes p (record { seed = seed; pipes = ps }) n in
        option_map_or (delete_pipe now k m) (find_pipe k m) m)
        ≡ note_drops now (map (λ t. record { packet = t; cause = Deleted }) gone) (with_pipes q (record { seed = seed; pipes = remove (set ps i y) i }) n)
    delete-at now seed n gone e =
        let m : Net = with_pipes p (record { seed = seed; pipes = ps }) n in
        let n2 : AreNamed p (pipe_keys (before ++ x ∷ behind)) = subst (λ l. AreNamed p (pipe_keys l)) whole named in
        ap (λ o. option_map_or (delete_pipe now k m) o m) (find-some p k ps x n pipe-at)
        ∙ (λ z. note_drops now (map (λ t. record { packet = t; cause = Deleted }) (sym e z)) (record n {
          pipes = (ap (λ l. remove_first (shows_number k) (seen_pipes (packet_at p.find) l)) whole
              ∙ seen-remove k before behind x first passes (packet_at p.find)
              ∙ (λ w. sym (seen-before agree p q before behind x y n2 keeps) w ++ sym (seen-behind agree p q before behind x y n2 keeps) w)
              ∙ sym (map-append (seen_pipe (packet_at q.find)) before behind)
              ∙ ap (seen_pipes (packet_at q.find)) (sym (removed y))) z;
        }))

  -- what can come to a pipe can come after a change that keeps room
  pub ready-at : (y : KeyedPipe) → y.number ≡ x.number → ((packet : Packet) → HasRoomAt packet x → HasRoomAt packet y) →
      (j : ℕ) (packet : Packet) → HasRoomIn j packet ps → HasRoomIn j packet (set ps i y)
  ready-at y number keeps j packet has =
      subst (HasRoomIn j packet) (sym (changed y))
      (ready-split j packet before behind x y number (keeps packet) (subst (HasRoomIn j packet) whole has))

  module _ (agree : ViewsAgree) (p q : Pocket) (y : KeyedPipe) (named : AreNamed p (pipe_keys ps)) (keeps : Keeps p q (keys_of x.slots) (keys_of y.slots)) where
    named_too : AreNamed p (pipe_keys (before ++ x ∷ behind))
    named_too = subst (λ l. AreNamed p (pipe_keys l)) whole named

    pub arrive-at : (at : EventContext) (packet : Packet) (ds : List Drop) (n : Net) (seed : ℕ) →
        pipe_arrive at.seed at.now packet (view p x) ≡ record { state = view q y; dropped = ds } →
        enter_pipe at k packet (with_pipes p (record { seed = seed; pipes = ps }) n)
        ≡ note_drops at.now ds (with_pipes q (record { seed = seed; pipes = set ps i y }) n)
    arrive-at at packet ds n seed came =
        (λ i. enter_pipe at k packet (with_pipes p (record { seed = seed; pipes = whole i }) n))
        ∙ arrive-is agree p q before behind x y named_too keeps k first passes at packet ds n came
        ∙ (λ i. note_drops at.now ds (with_pipes q (record { seed = seed; pipes = sym (changed y) i }) n))

    pub exit-at : (at : EventContext) (j : ℕ) (o : Option Packet) (n : Net) (seed : ℕ) →
        o ≡ flying_in j (view p x) → view q y ≡ pipe_exit j (view p x) →
        (let m = with_pipes p (record { seed = seed; pipes = ps }) n in
        option_map_or (pipe_exits at k j m) (find_pipe k m) m)
        ≡ leave_pipe_some at k j o (with_pipes q (record { seed = seed; pipes = set ps i y }) n)
    exit-at at j o n seed flying gone =
        (λ i. let m = with_pipes p (record { seed = seed; pipes = whole i }) n in option_map_or (pipe_exits at k j m) (find_pipe k m) m)
        ∙ exit-is agree p q before behind x y named_too keeps k first passes at j o n flying gone
        ∙ (λ i. leave_pipe_some at k j o (with_pipes q (record { seed = seed; pipes = sym (changed y) i }) n))

    pub finish-at : (at : EventContext) (j : ℕ) (packet : Packet) (ds : List Drop) (n : Net) (seed : ℕ) →
        option_map (λ (s : InService Packet). s.item) (served_in j (view p x)) ≡ Some packet →
        pipe_finish at.now j (view p x) ≡ record { state = view q y; dropped = ds } →
        (let m = with_pipes p (record { seed = seed; pipes = ps }) n in
        option_map_or (pipe_finishes at k j m) (find_pipe k m) m)
        ≡ note_drops at.now ds (with_pipes q (record { seed = seed; pipes = set ps i y }) (note (PacketFinished at.now packet.number k j) n))
    finish-at at j packet ds n seed served done =
        (λ i. let m = with_pipes p (record { seed = seed; pipes = whole i }) n in option_map_or (pipe_finishes at k j m) (find_pipe k m) m)
        ∙ finish-is agree p q before behind x y named_too keeps k first passes at j packet ds n served done
        ∙ (λ i. note_drops at.now ds (with_pipes q (record { seed = seed; pipes = sym (changed y) i }) (note (PacketFinished at.now packet.number k j) n)))

  pub grown-set : (y : KeyedPipe) → IsGrown x y → HasGrown ps (set ps i y)
  grown-set y h = record {
    shown = λ f. shown-set f y (h.shown f);
    keys = keys-set y h.keys;
    ready = ready-at y (ap (λ (p : KeyedPipe). p.number) h.same) h.ready;
  }

  module _ (agree : ViewsAgree) (p q : Pocket) (y : KeyedPipe) (named : AreNamed p (pipe_keys ps)) (keeps : Keeps p q (keys_of x.slots) (keys_of y.slots)) where
    -- a finish that was made, over the table as it is seen
    pub finish-ok : {E : Type 0} (j now seed : ℕ) (t : Table) → t ≡ record { seed = seed; pipes = ps } → (drops : List Packet) (r : Result Packet E) →
        IfOk r (λ packet. option_map (λ (s : InService Packet). s.item) (served_in j (view p x)) ≡ Some packet) →
        OnOk r (pipe_finish now j (view p x) ≡ record { state = view q y; dropped = drops_by_codel drops }) →
        IfOk r (λ packet. (at : EventContext) (n : Net) → at.now ≡ now → (let m = with_pipes p t n in
        option_map_or (pipe_finishes at k j m) (find_pipe k m) m)
        ≡ note_drops now (drops_by_codel drops) (with_pipes q (record { seed = seed; pipes = set ps i y }) (note (PacketFinished now packet.number k j) n)))
    finish-ok j now seed t e drops (Err x) served done = tt
    finish-ok j now seed t e drops (Ok packet) served done = λ at n same.
        (λ z. let m = with_pipes p (e z) n in option_map_or (pipe_finishes at k j m) (find_pipe k m) m)
        ∙ finish-at agree p q y named keeps at j packet (drops_by_codel drops) n seed served (ap (λ t. pipe_finish t j (view p x)) same ∙ done)
        ∙ (λ z. note_drops (same z) (drops_by_codel drops) (with_pipes q (record { seed = seed; pipes = set ps i y }) (note (PacketFinished (same z) packet.number k j) n)))

-- only a pipe that is there has a finish due
pub not-finishing : (k j now : ℕ) (ps : List KeyedPipe) → pipe_of k ps ≡ None → IsFinishing k j now ps → ⊥
not-finishing k j now ps none due =
    let other : None ≡ Some now =
    sym (ap (λ o. option_and_then (λ p. option_map (λ (s : InService Packet). s.period.finish) (served_in j (seen_pipe (λ key. some_packet) p))) o) none)
    ∙ due (λ key. some_packet) in
    absurd (cc)

pub finishing-at : (k j now : ℕ) (ps : List KeyedPipe) (x : KeyedPipe) → pipe_of k ps ≡ Some x → IsFinishing k j now ps → (f : ℕ → Packet) →
    option_map (λ (s : InService Packet). s.period.finish) (served_in j (seen_pipe f x)) ≡ Some now
finishing-at k j now ps x here due f =
    sym (ap (λ o. option_and_then (λ p. option_map (λ (s : InService Packet). s.period.finish) (served_in j (seen_pipe f p))) o) here) ∙ due f

-- when the first packet leaves an instance that may be there
abbrev exit-in : Option Instance → Option ℕ
exit-in o = option_and_then (λ (i : Instance). first_exit i.line.in_flight) o

-- only a pipe that is there has an exit due
pub not-leaving : (k j now : ℕ) (ps : List KeyedPipe) → pipe_of k ps ≡ None → IsLeaving k j now ps → ⊥
not-leaving k j now ps none due =
    let other : None ≡ Some now =
    sym (ap (option_and_then (λ p. exit-in (slice_get (seen_pipe (λ key. some_packet) p).instances j))) none) ∙ due (λ key. some_packet) in
    absurd (cc)

pub leaving-at : (k j now : ℕ) (ps : List KeyedPipe) (x : KeyedPipe) → pipe_of k ps ≡ Some x → IsLeaving k j now ps → (f : ℕ → Packet) →
    exit-in (slice_get (seen_pipe f x).instances j) ≡ Some now
leaving-at k j now ps x here due f =
    sym (ap (option_and_then (λ p. exit-in (slice_get (seen_pipe f p).instances j))) here) ∙ due f

-- and there a packet is in flight
pub leaving-flies : (k j now : ℕ) (ps : List KeyedPipe) → IsLeaving k j now ps → (p : Pocket) (n : Net) →
    option_and_then (flying_in j) (find_pipe k (record n { pipes = seen_pipes (packet_at p.find) ps })) ≡ None → ⊥
leaving-flies k j now ps due p n none = go (pipe_of k ps) refl
  where
    flies : (o : Option Instance) → exit-in o ≡ Some now → option_and_then (λ (i : Instance). first_item i.line.in_flight) o ≡ None → ⊥
    flies None e f = absurd (cc)
    flies (Some i) e f = line i.line.in_flight e f
      where
        line : (xs : List (InFlight Packet)) → first_exit xs ≡ Some now → first_item xs ≡ None → ⊥
        line [] e f = absurd (cc)
        line (x ∷ xs) e f = absurd (cc)

    go : (o : Option KeyedPipe) → pipe_of k ps ≡ o → ⊥
    go None is = not-leaving k j now ps is due
    go (Some x) is =
        flies (slice_get (view p x).instances j) (leaving-at k j now ps x is due (packet_at p.find))
        (sym (ap (option_and_then (flying_in j)) (find-some p k ps x n is)) ∙ none)

pub ok-by : {T E : Type 0} {A B : Type 0} (r : Result T E) → (A → B) → OnOk r A → OnOk r B
ok-by (Ok t) h a = h a
ok-by (Err e) h a = a

pub match-by : {T E : Type 0} {A B : T → Type 0} {C D : E → Type 0} (r : Result T E) → ((t : T) → A t → B t) → ((e : E) → C e → D e) →
    MatchResult r A C → MatchResult r B D
match-by (Ok t) f g a = f t a
match-by (Err e) f g a = g e a

pub on_any_err : {T E : Type 0} {A : Type 0} (r : Result T E) → A → OnErr r A
on_any_err (Ok t) a = tt
on_any_err (Err e) a = a

pub err-by : {T E : Type 0} {A B : Type 0} (r : Result T E) → (A → B) → OnErr r A → OnErr r B
err-by (Ok t) h a = a
err-by (Err e) h a = h a

-- a new pipe, in its place
pub insert-is : (ps : List KeyedPipe) (k : ℕ) (new : KeyedPipe) →
    insert ps (position_or_len (is_above k) ps) new ≡ take (place k ps) ps ++ new ∷ drop (place k ps) ps
insert-is ps k new = ap (λ j. insert ps j new) (sym (place-is k ps)) ∙ go ps (place k ps)
  where
    go : (xs : List KeyedPipe) (j : ℕ) → insert xs j new ≡ take j xs ++ new ∷ drop j xs
    go xs j = refl

pub table-insert : (seed k : ℕ) (new : KeyedPipe) (ps : List KeyedPipe) → new.seed ≡ seed → new.number ≡ k → pipe_of k ps ≡ None →
    IsTable seed 0 ps → IsTable seed 0 (insert ps (position_or_len (is_above k) ps) new)
table-insert seed k new ps s n none t =
    subst (IsTable seed 0) (sym (insert-is ps k new)) (IsTable-insert seed 0 k new ps s n (omega arith) none t)

pub sound-by : (seed : ℕ) {ps qs : List KeyedPipe} → ps ≡ qs → IsTable seed 0 ps × (length ps ≤ 64) → IsTable seed 0 qs × (length qs ≤ 64)
sound-by seed e t = subst (λ l. IsTable seed 0 l × (length l ≤ 64)) e t

pub sound-insert : (seed k : ℕ) (new : KeyedPipe) (ps : List KeyedPipe) → new.seed ≡ seed → new.number ≡ k → pipe_of k ps ≡ None →
    IsTable seed 0 ps × (length ps ≤ 64) → length ps < 64 →
    IsTable seed 0 (insert ps (position_or_len (is_above k) ps) new) × (length (insert ps (position_or_len (is_above k) ps) new) ≤ 64)
sound-insert seed k new ps s n none t few = (
  table-insert seed k new ps s n none t.0,
  omega (
    arith,
    few,
    ap length (insert-is ps k new),
    length-append (take (place k ps) ps) (new ∷ drop (place k ps) ps),
    length-append (take (place k ps) ps) (drop (place k ps) ps),
    ap length (take-append-drop (place k ps) ps),
  ),
)

pub keys-insert : (k : ℕ) (new : KeyedPipe) (ps : List KeyedPipe) → new.slots ≡ [] →
    pipe_keys (insert ps (position_or_len (is_above k) ps) new) ≡ pipe_keys ps
keys-insert k new ps none =
    ap pipe_keys (insert-is ps k new)
    ∙ keys-gone (take (place k ps) ps) (drop (place k ps) ps) new none
    ∙ ap pipe_keys (take-append-drop (place k ps) ps)

pub new-is : (k : ℕ) (config : PipeConfig) (new : KeyedPipe) (ps : List KeyedPipe) (seed : ℕ) (p : Pocket) (n : Net) →
    seen_pipe (packet_at p.find) new ≡ record { number = k; config = config; instances = [] } →
    new_pipe k config (with_pipes p (record { seed = seed; pipes = ps }) n)
    ≡ with_pipes p (record { seed = seed; pipes = insert ps (position_or_len (is_above k) ps) new }) n
new-is k config new ps seed p n e = λ z. record n {
  pipes = (with_pipe-at (packet_at p.find) (record { number = k; config = config; instances = [] }) k ps refl
      ∙ ap (λ s. seen_pipes (packet_at p.find) (take (place k ps) ps) ++ s ∷ seen_pipes (packet_at p.find) (drop (place k ps) ps)) (sym e)
      ∙ sym (map-append (seen_pipe (packet_at p.find)) (take (place k ps) ps) (new ∷ drop (place k ps) ps))
      ∙ ap (seen_pipes (packet_at p.find)) (sym (insert-is ps k new))) z;
}

pub configure-none : (k : ℕ) (config : PipeConfig) (ps : List KeyedPipe) (seed : ℕ) (p : Pocket) (n : Net) → pipe_of k ps ≡ None →
    configure k config (with_pipes p (record { seed = seed; pipes = ps }) n) ≡ new_pipe k config (with_pipes p (record { seed = seed; pipes = ps }) n)
configure-none k config ps seed p n none =
    let m : Net = with_pipes p (record { seed = seed; pipes = ps }) n in
    ap (λ o. option_map_or (λ t. put_pipe k (pipe_configure config t) m) o (new_pipe k config m)) (find-none p k ps n none)

pub refusal-none : (k : ℕ) (config : PipeConfig) (ps : List KeyedPipe) (seed : ℕ) (p : Pocket) (n : Net) → pipe_of k ps ≡ None →
    config_refusal k config (with_pipes p (record { seed = seed; pipes = ps }) n) ≡ new_pipe_refusal (with_pipes p (record { seed = seed; pipes = ps }) n)
refusal-none k config ps seed p n none =
    ap (λ o. option_map_or (mask_refusal config) o (new_pipe_refusal (with_pipes p (record { seed = seed; pipes = ps }) n))) (find-none p k ps n none)

pub place-fits : (k : ℕ) (ps : List KeyedPipe) → position_or_len (is_above k) ps ≤ length ps
place-fits k ps = subst (λ j. j ≤ length ps) (place-is k ps) (go ps)
  where
    go : (xs : List KeyedPipe) → place k xs ≤ length xs
    go xs = place-within k xs

-- a finish that was made, over the table as it is seen, by the pipe's place
module _ (p q : Pocket) (ps : List KeyedPipe) (i : ℕ) (x : KeyedPipe) (seed : ℕ) (t : Table) (whole_is : t ≡ record { seed = seed; pipes = ps })
    (read : x ≡ get_or ps i x) (agree : ViewsAgree) (y : KeyedPipe) (named : AreNamed p (pipe_keys ps)) (keeps : Keeps p q (keys_of x.slots) (keys_of y.slots)) where
  pub finish-told : {E : Type 0} (j now : ℕ) (drops : List Packet) (r : Result Packet E) →
      IfOk r (λ packet. option_map (λ (s : InService Packet). s.item) (served_in j (view p x)) ≡ Some packet) →
      OnOk r (pipe_finish now j (view p x) ≡ record { state = view q y; dropped = drops_by_codel drops }) →
      IfOk r (λ packet. (k : ℕ) → Some i ≡ position (has_number k) t.pipes → (at : EventContext) (n : Net) → at.now ≡ now → (let m = with_pipes p t n in
      option_map_or (pipe_finishes at k j m) (find_pipe k m) m)
      ≡ note_drops now (drops_by_codel drops) (with_pipes q (record { seed = seed; pipes = set ps i y }) (note (PacketFinished now packet.number k j) n)))
  finish-told j now drops (Err x) served done = tt
  finish-told j now drops (Ok packet) served done = λ k stands at n same.
      let here : Some i ≡ position (has_number k) ps = subst (λ (u : Table). Some i ≡ position (has_number k) u.pipes) whole_is stands in
      finish-ok k i ps x here read agree p q y named keeps {E = Unit {0}} j now seed t whole_is drops (Ok packet) served done at n same
