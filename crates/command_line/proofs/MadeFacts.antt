-- What was made of a text that was read, and how a strict call ends by it.
use Rattle.std.proofs.Common.{◌≡◌, ℕ, List, Option, Some, None, if◌then◌else◌, inl, inr}
use Rattle.alone.specs.Bytes.{IsRead}
use Rattle.alone.specs.Within.{IsMade}
use Rattle.alone.specs.declared.limits.Format.{Format}
use Rattle.alone.specs.declared.within.Made.{Made}
use Rattle.alone.proofs.ReadFacts.{read_spells}
use Rattle.explain.specs.Account.{Told}
use Rattle.explain.specs.RunAccount.{IsAccountOf}
use Rattle.command_line.specs.Status.{EndsStrictly, EndsWell, is_clean}

-- it is of all that was left to read
pub made_read : (format : Format) (read rest : Option (List ℕ)) (text : List ℕ) (m : Made) → IsRead read rest text → IsMade format (Some text) m →
    (f : Format) × IsMade f read m
made_read format read rest text m was made = (
  format,
  record {
    spelled = (made.spelled.0, read_spells read rest text made.spelled.0 was made.spelled.1, made.spelled.2);
    each = made.each;
  },
)

pub ends_strictly : (made : Made) (told : Told) (n : ℕ) → IsAccountOf made.reports.items told → n ≡ (if is_clean told then 0 else 5) → EndsStrictly made n
ends_strictly made told n account is = inl (told, account, is)

-- memory was refused
pub ends_early : (made : Option Made) (n : ℕ) → n ≡ 3 → EndsWell made n
ends_early (Some made) n is = inr is
ends_early None n is = inr (inr is)
