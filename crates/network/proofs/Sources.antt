-- What flows and trains do.
use Rattle.std.proofs.Common.{◌≡◌, ℕ, refl, sym, ap, ◌∙◌, subst, List, Option, Some, None}
use Rattle.std.specs.Prelude.{Result, Ok, Err, IfOk, OnOk, OnErr}
use Rattle.emu_model.specs.declared.packets.Load.TheVariants.{Seg}
use Rattle.emu_model.specs.declared.records.Record.{Record}
use Rattle.emu_model.specs.declared.sources.SendSpec.{SendSpec}
use Rattle.emu_model.specs.Net.{Net, initial_net, note_all}
use Rattle.pipe_table.specs.Table.{pipe_keys}
use Rattle.sources.specs.Kept.{KeptTraffic, with_traffic, HasRoomFor}
use Rattle.sources.specs.Sends.{reply_send}
use Rattle.network.specs.Kept.{KeptNet, net_of, line_keys}
use Rattle.network.specs.Changes.{IsStill, Notes, Turns}
use Rattle.network.specs.declared.flow_cache.Lookup.{Lookup}
use Rattle.network.specs.Ready.{CanMake, CanDeliver}
use Rattle.network.proofs.Steps.{notes-shown}

pub on_ok : {T E : Type 0} (P Q : Type 0) (r : Result T E) → (P → Q) → OnOk r P → OnOk r Q
on_ok P Q (Ok x) f h = f h
on_ok P Q (Err e) f h = h

pub on_err : {T E : Type 0} (P Q : Type 0) (r : Result T E) → (P → Q) → OnErr r P → OnErr r Q
on_err P Q (Ok x) f h = h
on_err P Q (Err e) f h = f h

pub if_ok : {T E : Type 0} (P Q : T → Type 0) (r : Result T E) → ((x : T) → P x → Q x) → IfOk r P → IfOk r Q
if_ok P Q (Ok x) f h = f x h
if_ok P Q (Err e) f h = h

pub if_ok_two : {T E : Type 0} (P : Type 0) (Q R : T → Type 0) (r : Result T E) → ((x : T) → P → Q x → R x) → OnOk r P → IfOk r Q → IfOk r R
if_ok_two P Q R (Ok x) f h k = f x h k
if_ok_two P Q R (Err e) f h k = k

-- what holds of the one there is
pub only_one : {A : Type 0} (P : A → Type 0) (x : A) (o : Option A) → Some x ≡ o → P x → (y : A) → o ≡ Some y → P y
only_one P x o e h y is =
    let same : x ≡ y = cc in
    subst P same h

pub none_there : {A : Type 0} (P : A → Type 0) (o : Option A) → None ≡ o → (y : A) → o ≡ Some y → P y
none_there P o e y is = absurd (cc)

-- only what the sources have room for changed
pub traffic-still : (n : KeptNet) (t : KeptTraffic) → ((m : Net) → with_traffic t m ≡ with_traffic n.traffic m) → IsStill n (record n { traffic = t })
traffic-still n t same = record {
  shown = λ p. same (net_of p n);
  line = refl;
  keys = refl;
  seed = refl;
}

-- a flow that answers with this header
pub can-segment : (k first : ℕ) (send : SendSpec) (lookup : Lookup) (n : KeptNet) (t : KeptTraffic) → n.traffic ≡ t → HasRoomFor k t →
    ((m : Net) → Some send ≡ reply_send k (with_traffic t m)) → CanMake send lookup n → CanDeliver (Seg k first) lookup n
can-segment k first send lookup n t is room reply ready =
    let P : KeptTraffic → Type 0 = λ u. HasRoomFor k u × ((s : SendSpec) → ((m : Net) → reply_send k (with_traffic u m) ≡ Some s) → CanMake s lookup n) in
    subst P (sym is) (
      room,
      (λ s there. only_one (λ x. CanMake x lookup n) send (reply_send k (with_traffic t initial_net)) (reply initial_net) ready s (there initial_net)),
    )

pub can-nothing : (k first : ℕ) (lookup : Lookup) (n : KeptNet) → HasRoomFor k n.traffic →
    ((m : Net) → None ≡ reply_send k (with_traffic n.traffic m)) → CanDeliver (Seg k first) lookup n
can-nothing k first lookup n room reply = (
  room,
  (λ s there. none_there (λ x. CanMake x lookup n) (reply_send k (with_traffic n.traffic initial_net)) (reply initial_net) s (there initial_net)),
)

-- a source changed, and records came
pub traffic-noted : (f : Net → Net) (n new : KeptNet) (t : KeptTraffic) (rs : List Record) →
    ((m : Net) → f (with_traffic n.traffic m) ≡ note_all rs (with_traffic t m)) → Notes rs (record n { traffic = t }) new → Turns f n new
traffic-noted f n new t rs done notes = record {
  shown = λ p. notes-shown p rs (record n { traffic = t }) new notes ∙ sym (done (net_of p n));
  line = ap (λ (m : KeptNet). line_keys m.direct.line) notes.rest;
  keys = ap (λ (m : KeptNet). pipe_keys m.table.pipes) notes.rest;
  seed = ap (λ (m : KeptNet). m.table.seed) notes.rest;
  made = ap (λ (m : KeptNet). m.made) notes.rest;
}

pub traffic-turned : (f : Net → Net) (n : KeptNet) (t : KeptTraffic) → ((m : Net) → f (with_traffic n.traffic m) ≡ with_traffic t m) → Turns f n (record n { traffic = t })
traffic-turned f n t done = record {
  shown = λ p. sym (done (net_of p n));
  line = refl;
  keys = refl;
  seed = refl;
  made = refl;
}
