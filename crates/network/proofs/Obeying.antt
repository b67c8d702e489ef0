-- A command is done, or refused.
use Rattle.std.proofs.Common.{◌≡◌, ℕ, zero, suc, ◌/◌, ◌%◌, Bool, true, false, cond, refl, sym, ap, ◌∙◌, subst, List, [], ◌∷◌, ◌++◌, length, map, Option, Some, None, IsSome, arith, ◌<◌, ◌≤◌}
use Rattle.std.specs.Prelude.{is_some, OnOk, Result}
use Rattle.std.specs.Option.{option_map_or}
use Rattle.emu_model.specs.declared.commands.Command.{Command}
use Rattle.emu_model.specs.declared.commands.Command.TheVariants.{Config, PipeDelete, Inject}
use Rattle.emu_model.specs.declared.packets.Origin.TheVariants.{ByCommand}
use Rattle.emu_model.specs.declared.packets.Packet.{Packet}
use Rattle.emu_model.specs.declared.pipes.PipeConfig.{PipeConfig}
use Rattle.emu_model.specs.declared.records.Record.{Record}
use Rattle.emu_model.specs.declared.records.Record.TheVariants.{CommandDone, CommandRefused}
use Rattle.emu_model.specs.declared.records.Refusal.{Refusal}
use Rattle.emu_model.specs.declared.records.Refusal.TheVariants.{NoSuchPipe}
use Rattle.emu_model.specs.declared.sources.SendSpec.{SendSpec}
use Rattle.emu_model.specs.declared.commands.EventContext.{EventContext}
use Rattle.emu_model.specs.Net.{Net, note, note_all, note_drops, drop_record, find_pipe, make}
use Rattle.emu_model.specs.Commands.{refusal_of, effect_of, obey, config_refusal, configure, delete_pipe}
use Rattle.emu_model.specs.declared.sources.Class.TheVariants.{Exit}
use Rattle.emu_model.specs.Events.{event_of, pipe_exits}
use Rattle.packet_store.specs.Pocket.{Pocket}
use Rattle.pipe_core.specs.Moves.{Keeps}
use Rattle.pipe_table.specs.Table.{Table, IsPipeNumber, with_pipes, pipe_keys, drops_by_deletion}
use Rattle.sources.specs.Kept.{KeptTraffic, with_traffic}
use Rattle.pipe_core.specs.Uses.{uses}
use Rattle.network.specs.Kept.{KeptNet, net_of, line_keys, net_keys, IsHoused}
use Rattle.network.specs.Changes.{Becomes, IsStill, Notes, Obeys}
use Rattle.network.proofs.Sources.{on_ok}
use Rattle.network.proofs.Steps.{shown-as, notes-becomes, follow, still-becomes, still-housed, noted-none, pipes-become}

pub weaker : (m : Net) (p q : Pocket) (x y : KeptNet) → Becomes 0 m p q x y → Becomes 1 m p q x y
weaker m p q x y b = record { shown = b.shown; housed = b.housed; budget = b.budget; seed = b.seed; made = omega (arith, b.made) }

-- a change from a net that is still the same
pub from_still : (f : Net → Net) (c : ℕ) (p q : Pocket) (x y z : KeptNet) → IsHoused p x → IsStill x y → Becomes c (f (net_of p y)) p q y z → Becomes c (f (net_of p x)) p q x z
from_still f c p q x y z h s b = follow f 0 c c (net_of p x) p p q x y z (omega arith) (still-becomes p x y h s) b

pub obeyed-done : (at : EventContext) (k : ℕ) (c : Command) (m : Net) → refusal_of c m ≡ None → obey at k c m ≡ effect_of at k c (note (CommandDone at.now k) m)
obeyed-done at k c m e = ap (λ o. option_map_or (λ r. note (CommandRefused at.now k r) m) o (effect_of at k c (note (CommandDone at.now k) m))) e

pub obeyed-refused : (at : EventContext) (k : ℕ) (c : Command) (m : Net) (r : Refusal) → refusal_of c m ≡ Some r → obey at k c m ≡ note (CommandRefused at.now k r) m
obeyed-refused at k c m r e = ap (λ o. option_map_or (λ r. note (CommandRefused at.now k r) m) o (effect_of at k c (note (CommandDone at.now k) m))) e

pub refuse-obeys : (at : EventContext) (k : ℕ) (c : Command) (r : Refusal) (n new : KeptNet) → ((p : Pocket) → refusal_of c (net_of p n) ≡ Some r) →
    Notes (CommandRefused at.now k r ∷ []) n new → Obeys at k c n new
refuse-obeys at k c r n new why notes p h =
    shown-as 1 (note_all (CommandRefused at.now k r ∷ []) (net_of p n)) (obey at k c (net_of p n)) p p n new (sym (obeyed-refused at k c (net_of p n) r (why p)))
    (weaker (note_all (CommandRefused at.now k r ∷ []) (net_of p n)) p p n new (notes-becomes p (CommandRefused at.now k r ∷ []) n new h notes))

-- a change within the net, and then it is recorded that the command is done
pub record Works (at : EventContext) (k : ℕ) (c : Command) (n mid : KeptNet) : Type 0 where
  pub moved : (p : Pocket) → effect_of at k c (note (CommandDone at.now k) (net_of p n)) ≡ note (CommandDone at.now k) (net_of p mid)
  pub line : mid.direct ≡ n.direct
  pub keys : pipe_keys mid.table.pipes ≡ pipe_keys n.table.pipes
  pub seed : mid.table.seed ≡ n.table.seed
  pub made : mid.made ≡ n.made

pub done-obeys : (at : EventContext) (k : ℕ) (c : Command) (n mid new : KeptNet) → ((p : Pocket) → refusal_of c (net_of p n) ≡ None) →
    Works at k c n mid → Notes (CommandDone at.now k ∷ []) mid new → Obeys at k c n new
done-obeys at k c n mid new why w notes p h =
    let keys : net_keys mid ≡ net_keys n = λ i. line_keys (w.line i).line ++ w.keys i in
    let housed : IsHoused p mid = record { each = λ j. ap (uses j) keys ∙ h.each j; count = h.count ∙ ap (λ ks. length ks) (sym keys) } in
    let b = notes-becomes p (CommandDone at.now k ∷ []) mid new housed notes in
    record {
      shown = b.shown ∙ sym (w.moved p) ∙ sym (obeyed-done at k c (net_of p n) (why p));
      housed = b.housed;
      budget = refl;
      seed = b.seed ∙ w.seed;
      made = omega (arith, b.made, w.made);
    }

module _ (at : EventContext) (k : ℕ) (n new : KeptNet) where
  pub config-done : (j : ℕ) (config : PipeConfig) (t : Table) → ((p : Pocket) (m : Net) → configure j config (with_pipes p n.table m) ≡ with_pipes p t m) →
      ((p : Pocket) (m : Net) → config_refusal j config (with_pipes p n.table m) ≡ None) →
      pipe_keys t.pipes ≡ pipe_keys n.table.pipes → t.seed ≡ n.table.seed →
      Notes (CommandDone at.now k ∷ []) (record n { table = t }) new → Obeys at k (Config j config) n new
  config-done j config t moved why keys seed notes = done-obeys at k (Config j config) n (record n { table = t }) new (λ p. why p (net_of p n))
      (record { moved = λ p. moved p (note (CommandDone at.now k) (net_of p n)); line = refl; keys = keys; seed = seed; made = refl }) notes

  pub config-refused : (j : ℕ) (config : PipeConfig) (t : Table) (r : Refusal) → t ≡ n.table →
      ((p : Pocket) (m : Net) → config_refusal j config (with_pipes p n.table m) ≡ Some r) →
      Notes (CommandRefused at.now k r ∷ []) (record n { table = t }) new → Obeys at k (Config j config) n new
  config-refused j config t r is why notes = refuse-obeys at k (Config j config) r n new (λ p. why p (net_of p n))
      (subst (λ x. Notes (CommandRefused at.now k r ∷ []) (record n { table = x }) new) is notes)

  pub traffic-done : (c : Command) (t : KeptTraffic) → ((p : Pocket) → refusal_of c (net_of p n) ≡ None) →
      ((m : Net) → effect_of at k c (with_traffic n.traffic m) ≡ with_traffic t m) →
      Notes (CommandDone at.now k ∷ []) (record n { traffic = t }) new → Obeys at k c n new
  traffic-done c t why moved notes = done-obeys at k c n (record n { traffic = t }) new why
      (record { moved = λ p. moved (note (CommandDone at.now k) (net_of p n)); line = refl; keys = refl; seed = refl; made = refl }) notes

-- a command that is of this kind is obeyed, once room was made
pub kind-obeyed : {E : Type 0} {kind command : Command} {p : Pocket} {old mid : KeptNet} → command ≡ kind → IsHoused p old → IsStill old mid →
    (at : EventContext) (k : ℕ) (q : Pocket) (new : KeptNet) (r : Result (Unit {0}) E) →
    OnOk r (Becomes 1 (obey at k kind (net_of p mid)) p q mid new) → OnOk r (Becomes 1 (obey at k command (net_of p old)) p q old new)
kind-obeyed {kind = kind} {command = command} {p = p} {old = old} {mid = mid} is housed still at k q new r =
    on_ok (Becomes 1 (obey at k kind (net_of p mid)) p q mid new) (Becomes 1 (obey at k command (net_of p old)) p q old new) r
    (λ b. subst (λ (c : Command). Becomes 1 (obey at k c (net_of p old)) p q old new) (sym is) (from_still (obey at k kind) 1 p q old mid new housed still b))

-- the same, of one that asks for no packets
pub kind-obeys : {E : Type 0} {kind command : Command} {p : Pocket} {old mid : KeptNet} → command ≡ kind → IsHoused p old → IsStill old mid →
    (at : EventContext) (k : ℕ) (new : KeptNet) (r : Result (Unit {0}) E) →
    OnOk r (Obeys at k kind mid new) → OnOk r (Becomes 1 (obey at k command (net_of p old)) p p old new)
kind-obeys {kind = kind} {p = p} {old = old} {mid = mid} is housed still at k new r obeys =
    kind-obeyed is housed still at k p new r
    (on_ok (Obeys at k kind mid new) (Becomes 1 (obey at k kind (net_of p mid)) p p mid new) r (λ b. b p (still-housed p old mid housed still)) obeys)

-- it is recorded that the command is done, and then lines are listed
pub listed-obeys : (at : EventContext) (k : ℕ) (c : Command) (n mid new : KeptNet) (rs : Pocket → List Record) → ((p : Pocket) → refusal_of c (net_of p n) ≡ None) →
    ((p : Pocket) → effect_of at k c (note (CommandDone at.now k) (net_of p n)) ≡ note_all (rs p) (note (CommandDone at.now k) (net_of p n))) →
    Notes (CommandDone at.now k ∷ []) n mid → ((p : Pocket) → Notes (rs p) mid new) → Obeys at k c n new
listed-obeys at k c n mid new rs why effect done listed p h =
    let a = notes-becomes p (CommandDone at.now k ∷ []) n mid h done in
    let b = notes-becomes p (rs p) mid new a.housed (listed p) in
    shown-as 1 (note_all (rs p) (note_all (CommandDone at.now k ∷ []) (net_of p n))) (obey at k c (net_of p n)) p p n new
    (sym (effect p) ∙ sym (obeyed-done at k c (net_of p n) (why p)))
    (follow (note_all (rs p)) 0 0 1 (note_all (CommandDone at.now k ∷ []) (net_of p n)) p p p n mid new (omega arith) a b)

-- a packet is injected
pub injected : (at : EventContext) (k : ℕ) (send : SendSpec) (p q : Pocket) (n mid last new : KeptNet) → IsHoused p n → IsStill n mid →
    Notes (CommandDone at.now k ∷ []) mid last → Becomes 1 (make at (ByCommand k) send (net_of p last)) p q last new → Becomes 1 (obey at k (Inject send) (net_of p n)) p q n new
injected at k send p q n mid last new h still done made =
    let a = notes-becomes p (CommandDone at.now k ∷ []) mid last (still-housed p n mid h still) done in
    from_still (λ m. make at (ByCommand k) send (note (CommandDone at.now k) m)) 1 p q n mid new h still
    (follow (λ m. make at (ByCommand k) send m) 0 1 1 (note_all (CommandDone at.now k ∷ []) (net_of p mid)) p p q mid last new (omega arith) a made)

none-from : {A : Type 0} (o : Option A) → is_some o ≡ false → o ≡ None
none-from None e = refl
none-from (Some x) e = absurd (cc)

-- a pipe is deleted
module _ (at : EventContext) (k j : ℕ) (p q : Pocket) (n : KeptNet) (t : Table) (h : IsHoused p n)
    (keeps : Keeps p q (pipe_keys n.table.pipes) (pipe_keys t.pipes)) (seed : t.seed ≡ n.table.seed) where
  pub deleted : (gone : List Packet) (mid new : KeptNet) →
      ((now : ℕ) (m : Net) → option_map_or (delete_pipe now j (with_pipes p n.table m)) (find_pipe j (with_pipes p n.table m)) (with_pipes p n.table m)
      ≡ note_drops now (drops_by_deletion (Some gone)) (with_pipes q t m)) →
      ((m : Net) → true ≡ is_some (find_pipe j (with_pipes p n.table m))) →
      Notes (CommandDone at.now k ∷ []) (record n { table = t }) mid → Notes (map (drop_record at.now) (drops_by_deletion (Some gone))) mid new →
      Becomes 1 (obey at k (PipeDelete j) (net_of p n)) p q n new
  deleted gone mid new ok there done drops =
      let d = note (CommandDone at.now k) (net_of p n) in
      let b0 = pipes-become p q n t h keeps seed in
      let b1 = follow (note_all (CommandDone at.now k ∷ [])) 0 0 0 (with_pipes q t (net_of p n)) p q q n (record n { table = t }) mid (omega arith) b0
      (notes-becomes q (CommandDone at.now k ∷ []) (record n { table = t }) mid b0.housed done) in
      let b2 = follow (note_all (map (drop_record at.now) (drops_by_deletion (Some gone)))) 0 0 1 (note_all (CommandDone at.now k ∷ []) (with_pipes q t (net_of p n))) p q q n mid new (omega arith) b1
      (notes-becomes q (map (drop_record at.now) (drops_by_deletion (Some gone))) mid new b1.housed drops) in
      shown-as 1 (note_all (map (drop_record at.now) (drops_by_deletion (Some gone))) (note_all (CommandDone at.now k ∷ []) (with_pipes q t (net_of p n)))) (obey at k (PipeDelete j) (net_of p n)) p q n new
      (sym (ok at.now d) ∙ sym (obeyed-done at k (PipeDelete j) (net_of p n) (ap (λ (b : Bool). cond b None (Some NoSuchPipe)) (sym (there (net_of p n)))))) b2

  pub not-deleted : (new : KeptNet) →
      ((now : ℕ) (m : Net) → option_map_or (delete_pipe now j (with_pipes p n.table m)) (find_pipe j (with_pipes p n.table m)) (with_pipes p n.table m)
      ≡ note_drops now (drops_by_deletion None) (with_pipes q t m)) →
      ((m : Net) → false ≡ is_some (find_pipe j (with_pipes p n.table m))) →
      Notes (CommandRefused at.now k NoSuchPipe ∷ []) (record n { table = t }) new →
      Becomes 1 (obey at k (PipeDelete j) (net_of p n)) p q n new
  not-deleted new ok there refused =
      let b0 = pipes-become p q n t h keeps seed in
      let none : find_pipe j (net_of p n) ≡ None = none-from (find_pipe j (net_of p n)) (sym (there (net_of p n))) in
      let same : with_pipes q t (net_of p n) ≡ net_of p n =
      sym (noted-none (with_pipes q t (net_of p n))) ∙ sym (ok at.now (net_of p n))
      ∙ ap (λ o. option_map_or (delete_pipe at.now j (net_of p n)) o (net_of p n)) none in
      let b1 = follow (note_all (CommandRefused at.now k NoSuchPipe ∷ [])) 0 0 1 (with_pipes q t (net_of p n)) p q q n (record n { table = t }) new (omega arith) b0
      (notes-becomes q (CommandRefused at.now k NoSuchPipe ∷ []) (record n { table = t }) new b0.housed refused) in
      shown-as 1 (note_all (CommandRefused at.now k NoSuchPipe ∷ []) (with_pipes q t (net_of p n))) (obey at k (PipeDelete j) (net_of p n)) p q n new
      (ap (note_all (CommandRefused at.now k NoSuchPipe ∷ [])) same
      ∙ sym (obeyed-refused at k (PipeDelete j) (net_of p n) NoSuchPipe (ap (λ (b : Bool). cond b None (Some NoSuchPipe)) (sym (there (net_of p n)))))) b1

-- an event by its source
pub event-exit : (at : EventContext) (k : ℕ) (m : Net) → (k ≡ 0 → ⊥) → event_of at Exit k m ≡ option_map_or (pipe_exits at (k / 256) (k % 256) m) (find_pipe (k / 256) m) m
event-exit at zero m h = absurd (h refl)
event-exit at (suc k) m h = refl

-- an exit that is of no pipe is that of the link of `allow`
pub no-pipe : (k : ℕ) → (0 < k → IsPipeNumber (k / 256)) → (IsPipeNumber (k / 256) → ⊥) → k ≡ 0
no-pipe zero h none = refl
no-pipe (suc k) h none = absurd (none (h (omega arith)))

pub of-pipe : (k : ℕ) → 1 ≤ k / 256 → k ≡ 0 → ⊥
of-pipe zero h e = absurd (omega (arith, h))
of-pipe (suc k) h e = absurd (cc)

-- an event that was made once room had grown was made from the first
pub event-from_still : {E : Type 0} (f : Net → Net) (event : Net) (p q : Pocket) (old mid new : KeptNet) (r : Result (Unit {0}) E) →
    f (net_of p old) ≡ event → IsHoused p old → IsStill old mid →
    OnOk r (Becomes 1 (f (net_of p mid)) p q mid new) → OnOk r (Becomes 1 event p q old new)
event-from_still f event p q old mid new r is housed still =
    on_ok (Becomes 1 (f (net_of p mid)) p q mid new) (Becomes 1 event p q old new) r
    (λ b. shown-as 1 (f (net_of p old)) event p q old new is (from_still f 1 p q old mid new housed still b))

-- the same, of one that makes no packet
pub finish-from_still : {E : Type 0} (f : Net → Net) (event : Net) (p q : Pocket) (old mid new : KeptNet) (r : Result (Unit {0}) E) →
    f (net_of p old) ≡ event → IsHoused p old → IsStill old mid →
    OnOk r (Becomes 0 (f (net_of p mid)) p q mid new) → OnOk r (Becomes 1 event p q old new)
finish-from_still f event p q old mid new r is housed still =
    on_ok (Becomes 0 (f (net_of p mid)) p q mid new) (Becomes 1 event p q old new) r
    (λ b. shown-as 1 (f (net_of p old)) event p q old new is
    (weaker (f (net_of p old)) p q old new (from_still f 0 p q old mid new housed still b)))

-- what isn't there isn't some
pub none-there : {X : Type 0} (o : Option X) → o ≡ None → IsSome o → ⊥
none-there None e some = absurd (cc)
none-there (Some x) e some = absurd (cc)
