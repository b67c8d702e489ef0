use Rattle.std.proofs.Common.{◌≡◌, ◌-◌, ◌<◌, [], ◌∷◌, ◌++◌, length, Some, sym, subst, ap, ◌∙◌, arith, vec_len, vec_capacity}
use Rattle.std.specs.Prelude.{min}
use Rattle.std.proofs.lemmas.List.{length-map}
use Rattle.emu_model.specs.FlowIds.{instance_of}
use Rattle.pipe_core.specs.declared.slot.Slot.{Slot}
use Rattle.pipe_core.specs.Keyed.{KeyedPipe, seen_pipe, keys_of, IsPipe}
use Rattle.pipe_core.proofs.Makings.{made_next, made_few, IsPipe-push, with_new, new_room, keys-push}
use Rattle.pipe_core.specs.Leaves.{AreLeaves}
use Rattle.pipe_core.specs.Masks.{IsUnder, KeepsIds}
use Rattle.pipe_core.proofs.MaskFacts.{masked-more, keeps-push}
use Rattle.pipe_core.proofs.DueLeaves.{leaves_push}
use Rattle.pipe_core.proofs.pipe.Pipe.find_or_make.Goals as goal

pub invariant_of-self-2 : goal.invariant_of-self-2
invariant_of-self-2 c =
    let s = c.self.inside in
    let i = c.new-made.result in
    let new : Slot = record { id = c.args.id; instance = i } in
    let number : instance_of s.ids.ids c.args.id ≡ Some c.in-Ok.instance = c.in-Ok.ensures.ok in
    let unknown = sym c.in_default.ensures.index in
    let many : length s.ids.ids ≡ length s.slots.items = ap length c.self.invariant.0.ids_are ∙ length-map s.slots.items (λ (t : Slot). t.id) in
    let last : c.in-Ok.instance ≡ length s.slots.items = made_next s.ids.ids c.args.id c.in-Ok.instance unknown number ∙ many in
    let few : length s.slots.items < 256 = omega (arith, made_few s.ids.ids c.args.id c.in-Ok.instance unknown number, many) in
    let d = c.new-made.ensures.draws in (
      subst (λ ss. IsPipe s.config s.seed s.number c.find_or_make.new.self.ids ss) (sym c.push_reserved.ensures.items)
          (IsPipe-push s.config s.seed s.number s.ids.ids c.find_or_make.new.self.ids s.slots.items new c.self.invariant.0
          (sym c.in_default.ensures.found) c.in-Ok.ensures.made few
          (record {
            tuned = c.new-made.ensures.tuned;
            seed_is = ap (λ z. z.seed) d;
            pipe_is = ap (λ z. z.pipe) d;
            number_is = ap (λ z. z.instance) d ∙ last;
          })),
      subst (λ ss. AreLeaves ss c.push.new.self) (sym c.push_reserved.ensures.items)
          (leaves_push s.slots.items c.args.id i s.dues c.push.new.self (s.dues.spare - 1) c.self.invariant.1
          c.new-made.ensures.opening
          (c.push.ensures ∙ ap (λ d. record { leaves = s.dues.leaves ++ d ∷ []; spare = s.dues.spare - 1 }) c.none.ensures)),
      masked-more s.unmasked s.config.mask s.ids.ids c.find_or_make.new.self.ids c.args.id c.self.invariant.2
          (sym c.in_default.ensures.found) c.in-Ok.ensures.made
          (subst (λ (z : KeyedPipe). IsUnder z.config.mask c.args.id) (sym c.self.view_is) c.requires.its),
    )

pub returns-clause-made : goal.returns-clause-made
returns-clause-made c =
    let s = c.self.inside in
    let i = c.new-made.result in
    let new : Slot = record { id = c.args.id; instance = i } in
    let number : instance_of s.ids.ids c.args.id ≡ Some c.in-Ok.instance = c.in-Ok.ensures.ok in
    let unknown = sym c.in_default.ensures.index in
    let many : length s.ids.ids ≡ length s.slots.items = ap length c.self.invariant.0.ids_are ∙ length-map s.slots.items (λ (t : Slot). t.id) in
    let last : c.in-Ok.instance ≡ length s.slots.items = made_next s.ids.ids c.args.id c.in-Ok.instance unknown number ∙ many in
    let old : KeyedPipe = record { seed = s.seed; number = s.number; config = s.config; slots = s.slots.items; spare = min (min (vec_capacity s.slots - vec_len s.slots) s.ids.spare) s.dues.spare } in
    rw (← c.self.view_is) (λ f. with_new f c.args.id c.in-Ok.instance old new last (c.new-made.ensures.opening f c.args.id)
    ∙ (λ t. seen_pipe f (record old { slots = sym c.push_reserved.ensures.items t })))

pub returns-clause-ready : goal.returns-clause-ready
returns-clause-ready c =
    let s = c.self.inside in
    let i = c.new-made.result in
    let new : Slot = record { id = c.args.id; instance = i } in
    let number : instance_of s.ids.ids c.args.id ≡ Some c.in-Ok.instance = c.in-Ok.ensures.ok in
    let unknown = sym c.in_default.ensures.index in
    let many : length s.ids.ids ≡ length s.slots.items = ap length c.self.invariant.0.ids_are ∙ length-map s.slots.items (λ (t : Slot). t.id) in
    let last : c.in-Ok.instance ≡ length s.slots.items = made_next s.ids.ids c.args.id c.in-Ok.instance unknown number ∙ many in
    λ size room t e. new_room size c.in-Ok.instance s.slots.items c.push_reserved.new.self.items c.args.id i t last
    c.push_reserved.ensures.items c.new-made.ensures.opening e

pub returns-clause-keys : goal.returns-clause-keys
returns-clause-keys c =
    let s = c.self.inside in
    let i = c.new-made.result in
    let new : Slot = record { id = c.args.id; instance = i } in
    let number : instance_of s.ids.ids c.args.id ≡ Some c.in-Ok.instance = c.in-Ok.ensures.ok in
    let unknown = sym c.in_default.ensures.index in
    let many : length s.ids.ids ≡ length s.slots.items = ap length c.self.invariant.0.ids_are ∙ length-map s.slots.items (λ (t : Slot). t.id) in
    let last : c.in-Ok.instance ≡ length s.slots.items = made_next s.ids.ids c.args.id c.in-Ok.instance unknown number ∙ many in
    ap keys_of c.push_reserved.ensures.items ∙ keys-push s.slots.items new c.new-made.ensures.keys
    ∙ ap (λ (z : KeyedPipe). keys_of z.slots) c.self.view_is

pub returns-clause-ids : goal.returns-clause-ids
returns-clause-ids c =
    let s = c.self.inside in
    let new : Slot = record { id = c.args.id; instance = c.new-made.result } in
    subst (λ (z : KeyedPipe). KeepsIds z.slots c.push_reserved.new.self.items) c.self.view_is
    (keeps-push s.slots.items c.push_reserved.new.self.items new c.push_reserved.ensures.items)
