use Rattle.std.proofs.Common.{◌≡◌, ℕ, nat_eq, true, ◌+◌, ◌*◌, List, ◌++◌, map, take, drop, length, sym, ap, ◌∙◌, subst, arith}
use Rattle.std.specs.List.{All}
use Rattle.std.proofs.lemmas.Bool.Decides.{nat_tests}
use Rattle.std.proofs.lemmas.List.{length-map}
use Rattle.pipe_core.proofs.MaskFacts.{no-ids, masked-none, masked-same}
use Rattle.pipe_core.specs.KeyedInstance.{IsTuned}
use Rattle.pipe_core.specs.declared.slot.Slot.{Slot}
use Rattle.pipe_core.specs.Keyed.{KeyedPipe, seen_slot, keys_of, IsPipe}
use Rattle.pipe_core.specs.Steps.{configured_slot}
use Rattle.pipe_core.proofs.PipeFacts.{all-tuned, written, IsPipe-configured, configured-seen, configured-keys}
use Rattle.due_index.specs.Places.{Places}
use Rattle.std.specs.Prelude.{slice_get}
use Rattle.pipe_core.specs.Leaves.{slot_due}
use Rattle.pipe_core.proofs.DueLeaves.{numbers_at}
use Rattle.pipe_core.proofs.pipe.Pipe.configure.Goals as goal
use Rattle.pipe_core.proofs.pipe.Pipe.configure.Goals.{else-not-is_empty-via-then-not-is_empty+else-ne, else-not-is_empty-via-else-not-is_empty}

now_all : (f : Slot → Slot) (n : ℕ) (items seen new : List Slot) → n ≡ length items → seen ≡ items → new ≡ map f seen →
    take n (new ++ drop (length new) items) ≡ map f items
now_all f n items seen new is same e =
    let whole : new ≡ map f items = e ∙ ap (map f) same in
    written n new items is (ap length whole ∙ length-map items f) ∙ whole

pub configure_all-requires : goal.configure_all-requires
configure_all-requires c =
    let s = c.self.inside in
    subst (λ ss. All (λ (x : Slot). IsTuned s.config x.instance) ss) (sym c.deref_mut.ensures.value)
    (all-tuned s.config s.seed s.number s.ids.ids s.slots.items c.self.invariant.0)

pub invariant_of-self : goal.invariant_of-self
invariant_of-self c =
    let s = c.self.inside in
    let f : Slot → Slot = configured_slot s.config c.args.config in (
      subst (IsPipe c.args.config s.seed s.number s.ids.ids)
          (sym (now_all f s.slots.len s.slots.items c.deref_mut.result.now c.configure_all.new.slots (omega (arith, s.slots.ok.0)) c.deref_mut.ensures.value c.configure_all.ensures))
          (IsPipe-configured s.config c.args.config s.seed s.number s.ids.ids s.slots.items c.self.invariant.0),
      ap (λ (p : Places). p.leaves) c.index_all.ensures ∙ ap (map slot_due) c.deref.ensures.value,
      elim c.else-not-is_empty.branch [
        | else-not-is_empty-via-then-not-is_empty+else-ne w ↦
            masked-same s.unmasked c.is_zero-self-inside.result s.config.mask c.args.config.mask s.ids.ids c.self.invariant.2
            c.is_zero-self-inside.ensures.0 (sym w.ne.ensures ∙ w.if-ne.false)
        | else-not-is_empty-via-else-not-is_empty w ↦
            masked-none c.is_zero-self-inside.result c.args.config.mask s.ids.ids c.is_zero-self-inside.ensures.0
            (no-ids s.ids.ids (let none : nat_eq s.slots.len 0 ≡ true = sym c.is_empty.ensures ∙ w.if-not-is_empty.false in
            let few : s.slots.len ≡ 0 = grind (arith, nat_tests, none) in
            omega (arith, few, s.slots.ok.0, ap length c.self.invariant.0.ids_are, length-map s.slots.items (λ (t : Slot). t.id))))
      ],
    )

pub returns-clause-done : goal.returns-clause-done
returns-clause-done c =
    let s = c.self.inside in
    let g : Slot → Slot = configured_slot s.config c.args.config in
    rw (← c.self.view_is) (λ f t. record {
      number = s.number;
      config = c.args.config;
      instances = (ap (map (seen_slot f))
          (now_all g s.slots.len s.slots.items c.deref_mut.result.now c.configure_all.new.slots (omega (arith, s.slots.ok.0)) c.deref_mut.ensures.value c.configure_all.ensures)
          ∙ configured-seen f s.config c.args.config s.slots.items) t;
    })

pub returns-clause-keys : goal.returns-clause-keys
returns-clause-keys c =
    let s = c.self.inside in
    let f : Slot → Slot = configured_slot s.config c.args.config in
    ap keys_of (now_all f s.slots.len s.slots.items c.deref_mut.result.now c.configure_all.new.slots (omega (arith, s.slots.ok.0)) c.deref_mut.ensures.value c.configure_all.ensures)
    ∙ configured-keys s.config c.args.config s.slots.items ∙ ap (λ (z : KeyedPipe). keys_of z.slots) c.self.view_is

pub index_all-requires-clause-numbered : goal.index_all-requires-clause-numbered
index_all-requires-clause-numbered c = λ i x e.
    let s = c.self.inside in
    let f : Slot → Slot = configured_slot s.config c.args.config in
    let here : i ≡ 0 + i = omega arith in
    let whole = now_all f s.slots.len s.slots.items c.deref_mut.result.now c.configure_all.new.slots
    (omega (arith, s.slots.ok.0)) c.deref_mut.ensures.value c.configure_all.ensures in
    let is : IsPipe c.args.config s.seed s.number s.ids.ids (map f s.slots.items) =
    IsPipe-configured s.config c.args.config s.seed s.number s.ids.ids s.slots.items c.self.invariant.0 in
    (λ t. s.number * 256 + here t)
    ∙ numbers_at c.args.config s.seed s.number 0 (map f s.slots.items) is.slots_are i x
    (ap (λ l. slice_get l i) (sym (c.deref.ensures.value ∙ whole)) ∙ e)
