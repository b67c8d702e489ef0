-- The value of a single word: protocols, addresses, ports and names.
use Rattle.std.specs.Prelude.{ℕ, Bool, ◌&&◌, ◌||◌, List, [], ◌∷◌, length, Option, Some, None, nat_lt, nat_le, ◌==◌, if◌then◌else◌}
use Rattle.std.specs.List.{list_all}
use Rattle.std.specs.Str.{bytes_eq}
use lib.Chars.{codes}
use Rattle.emu_model.specs.declared.packets.Protocol.{Protocol}
use Rattle.emu_model.specs.declared.packets.Protocol.TheVariants.{Tcp, Udp}
use Rattle.emu_model.specs.declared.rules.ProtocolMatch.{ProtocolMatch}
use Rattle.emu_model.specs.declared.rules.ProtocolMatch.TheVariants.{AnyProtocol, OnlyTcp, OnlyUdp}
use Rattle.control_words.specs.Text.{parts}
use Rattle.control_words.specs.Words.{◌>>=◌}
use Rattle.control_words.specs.Numbers.{number_of}
use Rattle.control_words.specs.declared.raw.RawAddress.{RawAddress}
use Rattle.control_words.specs.declared.raw.RawPrefix.{RawPrefix}
use Rattle.control_words.specs.declared.raw.RawPorts.{RawPorts}

-- `tcp` or `udp`
unfoldable pub protocol_of : List ℕ → Option Protocol
protocol_of word = if bytes_eq word (codes "tcp") then Some Tcp else if bytes_eq word (codes "udp") then Some Udp else None

-- `ip`, `tcp` or `udp`
unfoldable pub match_of : List ℕ → Option ProtocolMatch
match_of word = if bytes_eq word (codes "ip") then Some AnyProtocol else if bytes_eq word (codes "tcp") then Some OnlyTcp else if bytes_eq word (codes "udp") then Some OnlyUdp else None

-- four numbers separated by points
abbrev pub four_of : List (List ℕ) → Option RawAddress
four_of (a ∷ b ∷ c ∷ d ∷ []) = do
  first ← number_of a
  second ← number_of b
  third ← number_of c
  fourth ← number_of d
  Some (record { first = first; second = second; third = third; fourth = fourth })
four_of _ = None

unfoldable pub address_of : List ℕ → Option RawAddress
address_of word = four_of (parts 46 word)

-- an address, or an address, `/` and the number of its bits that count
abbrev pub with_length : List (List ℕ) → Option RawPrefix
with_length (host ∷ []) = do
  address ← address_of host
  Some (record { address = address; length = 32 })
with_length (host ∷ bits ∷ []) = do
  address ← address_of host
  length ← number_of bits
  Some (record { address = address; length = length })
with_length _ = None

abbrev pub any_address : RawPrefix
any_address = record { address = record { first = 0; second = 0; third = 0; fourth = 0 }; length = 0 }

-- `any`, or an address with or without a length
unfoldable pub prefix_of : List ℕ → Option RawPrefix
prefix_of word = if bytes_eq word (codes "any") then Some any_address else with_length (parts 47 word)

-- a port, or two ports separated by `-`
abbrev pub first_to_last : List (List ℕ) → Option RawPorts
first_to_last (p ∷ []) = do
  port ← number_of p
  Some (record { first = port; last = port })
first_to_last (p ∷ q ∷ []) = do
  first ← number_of p
  last ← number_of q
  Some (record { first = first; last = last })
first_to_last _ = None

unfoldable pub ports_of : List ℕ → Option RawPorts
ports_of word = first_to_last (parts 45 word)

abbrev pub is_name_byte : ℕ → Bool
is_name_byte c = (nat_le 97 c && nat_le c 122) || ((nat_le 48 c && nat_le c 57) || (c == 45 || c == 95))

-- 1 to 32 characters of `a` to `z`, `0` to `9`, `-` and `_`
unfoldable pub name_of : List ℕ → Option (List ℕ)
name_of word = if length word == 0 then None else if nat_lt 32 (length word) then None else if list_all is_name_byte word then Some word else None
