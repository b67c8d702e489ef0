-- How long the listings of an experiment may become.
use Rattle.std.specs.Prelude.{ℕ, ◌+◌, ◌*◌, min, Bool, not, ◌||◌, ◌==◌, if◌then◌else◌, List, [], ◌∷◌}
use Rattle.emu_model.specs.declared.commands.Command.{Command}
use Rattle.emu_model.specs.declared.commands.Command.TheVariants.{Add, Config, Show, PipeShow}
use Rattle.emu_model.specs.declared.commands.Timed.{Timed}
use Rattle.emu_model.specs.declared.pipes.Mask.{Mask}
use Rattle.explain.specs.declared.sizes.Listed.{Listed}

abbrev pub nothing : Listed
nothing = record { adds = 0; configs = 0; masked = 0; bytes = 0 }

abbrev pub is_masked : Mask → Bool
is_masked m = not (m.proto == 0) || not (m.src == 0) || not (m.dst == 0) || not (m.sport == 0) || not (m.dport == 0)

abbrev pub once_more : ℕ → ℕ
once_more n = min (n + 1) 18446744073709551615

-- 160 bytes for each of 256 rules at most, and for the default
abbrev pub rules_bytes : Listed → ℕ
rules_bytes l = 160 * (min l.adds 256 + 1)

-- 180 bytes for each of 64 pipes at most, and 90 for its instance, or for 256 where it has a mask
abbrev pub pipes_bytes : Listed → ℕ
pipes_bytes l = 180 * min l.configs 64 + 90 * (min l.configs 64 + 255 * min l.masked 64)

abbrev pub with_bytes : ℕ → Listed → Listed
with_bytes n l = record l { bytes = min (l.bytes + n) 18446744073709551615 }

-- behind a command; rules and pipes that are deleted count on
abbrev pub listed_by : Command → Listed → Listed
listed_by (Add r) l = record l { adds = once_more l.adds }
listed_by (Config n c) l = record l { configs = once_more l.configs; masked = min (l.masked + (if is_masked c.mask then 1 else 0)) 18446744073709551615 }
listed_by Show l = with_bytes (rules_bytes l) l
listed_by PipeShow l = with_bytes (pipes_bytes l) l
listed_by _ l = l

abbrev pub listed_from : Listed → List Timed → Listed
listed_from l [] = l
listed_from l (c ∷ cs) = listed_from (listed_by c.command l) cs

abbrev pub listed_bytes : List Timed → ℕ
listed_bytes cs = (listed_from nothing cs).bytes
