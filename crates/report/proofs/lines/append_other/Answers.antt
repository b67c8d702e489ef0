use mir.Val.{bool_byte}
use Rattle.std.proofs.Common.{◌≡◌, ℕ, Bool, true, false, List, [], ◌∷◌, ◌++◌, append_assoc, refl, arith}
use Rattle.std.specs.Prelude.{if◌then◌else◌, codes, decimal}
use Rattle.report.specs.Lines.{spaced}
use Rattle.report.specs.Words.{instance_name}
use Rattle.report.proofs.lines.append_other.Goals as goal

-- a `bool` as a number
bool_byte-if : (busy : Bool) → bool_byte busy ≡ (if busy then 1 else 0)
bool_byte-if true = refl
bool_byte-if false = refl

-- the pieces of an instance's line, one behind the other
joined : (before name waiting bytes busy in_flight drawn : List ℕ) →
    (((((((before ++ codes "instance ") ++ name) ++ (codes " waiting " ++ waiting)) ++ (codes " bytes " ++ bytes))
    ++ (codes " busy " ++ busy)) ++ (codes " flight " ++ in_flight)) ++ (codes " drawn " ++ drawn)) ++ codes "\n"
    ≡ before
    ++ (spaced (codes "instance" ∷ name ∷ codes "waiting" ∷ waiting ∷ codes "bytes" ∷ bytes ∷ codes "busy" ∷ busy
    ∷ codes "flight" ∷ in_flight ∷ codes "drawn" ∷ drawn ∷ [])
    ++ codes "\n")
joined before name waiting bytes busy in_flight drawn = simp append_assoc

pub returns-in-InstanceLine : goal.returns-in-InstanceLine
returns-in-InstanceLine c =
    let l = c.in-InstanceLine in
    record {
      items =
          rw (
            c.in-InstanceLine.is,
            c.append-in-InstanceLine-2.ensures.items,
            c.append_labelled-in-InstanceLine-5.ensures.items,
            c.append_labelled-in-InstanceLine-4.ensures.items,
            c.append_labelled-in-InstanceLine-3.ensures.items,
            c.append_labelled-in-InstanceLine-2.ensures.items,
            c.append_labelled-in-InstanceLine.ensures.items,
            c.append_instance-in-InstanceLine.ensures.items,
            c.append-in-InstanceLine.ensures.items,
            c.from.ensures,
            bool_byte-if l.busy,
          )
          (joined c.args.out.now.items (instance_name l.pipe l.instance) (decimal l.waiting) (decimal l.bytes)
          (decimal (if l.busy then 1 else 0)) (decimal l.in_flight) (decimal l.drawn));
      room = omega arith;
      capacity = omega arith;
    }
