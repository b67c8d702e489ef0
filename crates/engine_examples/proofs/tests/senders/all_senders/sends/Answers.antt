use Rattle.std.proofs.Common.{◌≡◌, ℕ, sym, ◌∙◌, ap, subst, arith}
use Rattle.emu_model.specs.declared.sources.Due.{Due}
use Rattle.emu_model.specs.declared.sources.Class.TheVariants.{NextCommand, Expiry, Emission}
use Rattle.emu_model.specs.Dues.{due}
use Rattle.sources.specs.Kept.{KeptTraffic, IsNumber}
use Rattle.sources.specs.Sends.{IsEmitting, IsAllowed, IsNumbered}
use Rattle.engine_examples.proofs.tests.senders.all_senders.sends.Goals as goal

-- a command is neither an emission nor an expiry
command_allowed : (t : KeptTraffic) (b : Due) (m : ℕ) → b ≡ due NextCommand 0 m → IsAllowed t b
command_allowed t b m e = λ c. absurd (let f = ap (λ (d : Due). d.source.class) e in let g : NextCommand ≡ Emission = sym f ∙ c in cc)

command_numbered : (b : Due) (m : ℕ) → b ≡ due NextCommand 0 m → IsNumbered b
command_numbered b m e =
    let f = ap (λ (d : Due). d.source.class) e in
    (λ c. absurd (let g : NextCommand ≡ Expiry = sym f ∙ c in cc), λ c. absurd (let g : NextCommand ≡ Emission = sym f ∙ c in cc))

pub overflow_cast-due : goal.overflow_cast-due
overflow_cast-due c =
    let fits : IsNumber c.earliest-due.result.source.number = (c.earliest-due.ensures.numbered (command_numbered _ _ c.command.ensures)).1 c.in-Emission.is in
    omega (arith, fits)

pub emit_at-origin-requires-clause-may : goal.emit_at-origin-requires-clause-may
emit_at-origin-requires-clause-may c =
    let may = c.earliest-due.ensures.allowed (command_allowed _ _ _ c.command.ensures) c.in-Emission.is in
    record {
      number = c.in_ok-number.number;
      place = sym c.find.ensures.place ∙ c.in_ok-found.was;
      may = subst (λ (k : ℕ). IsEmitting k c.args.traffic.now) (sym c.in_ok-number.ensures.1) may;
    }
