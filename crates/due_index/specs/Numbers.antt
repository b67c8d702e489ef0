-- A due as one number, so that one comparison orders two dues: by time, then class, then number, as in the order of
-- events. None is after all dues.
use Rattle.std.specs.Prelude.{ℕ, zero, suc, ◌+◌, ◌-◌, ◌*◌, ◌/◌, ◌%◌, ◌^◌, ◌==◌, if◌then◌else◌, Option, Some, None}
use Rattle.emu_model.specs.declared.sources.Class.{Class}
use Rattle.emu_model.specs.declared.sources.Class.TheVariants.{NextCommand, Exit, Finish, Expiry, Emission}
use Rattle.emu_model.specs.declared.sources.Due.{Due}
use Rattle.emu_model.specs.Dues.{due, rank}

abbrev pub none_bits : ℕ
none_bits = 2 ^ 128 - 1

abbrev pub number_bits : Due → ℕ
number_bits d = d.moment * 2 ^ 64 + (rank d.source.class * 2 ^ 32 + d.source.number)

abbrev pub bits_of : Option Due → ℕ
bits_of None = none_bits
bits_of (Some d) = number_bits d

abbrev pub class_at : ℕ → Class
class_at zero = NextCommand
class_at (suc zero) = Exit
class_at (suc (suc zero)) = Finish
class_at (suc (suc (suc zero))) = Expiry
class_at (suc (suc (suc (suc n)))) = Emission

-- the due that a number represents
abbrev pub due_at : ℕ → Due
due_at n = due (class_at (n / 2 ^ 32 % 2 ^ 32)) (n % 2 ^ 32) (n / 2 ^ 64)

abbrev pub due_in : ℕ → Option Due
due_in n = if n == none_bits then None else Some (due_at n)
