-- A line that sends a single packet, parsed from the front.
use Rattle.std.specs.Prelude.{◌≡◌, ℕ, Bool, false, true, ◌||◌, List, [], ◌∷◌, ◌++◌, Some, ◌==◌}
use Rattle.std.specs.List.{list_all}
use Rattle.std.specs.Char.{is_ascii_digit}
use lib.Chars.{codes}
use Rattle.emu_model.specs.declared.commands.Timed.{Timed}
use Rattle.emu_model.specs.declared.packets.Protocol.{Protocol}
use Rattle.emu_model.specs.declared.sources.SendSpec.{SendSpec}
use Rattle.control_words.specs.Text.{words}
use Rattle.control_words.specs.Numbers.{number_of, moment_of}
use Rattle.control_words.specs.Addresses.{address_of, protocol_of}
use Rattle.control_words.specs.declared.raw.RawAddress.{RawAddress}
use Rattle.control_lines.specs.Shape.{send_of, shape_of}
use Rattle.control_lines.specs.Ranges.{address_within, send_within, timed_within}
use Rattle.control_lines.specs.Grammar.{Command}
use Rattle.control_lines.specs.Entries.{is_printable, is_skipped}
use Rattle.control_lines.specs.declared.raw.RawSend.{RawSend}
use Rattle.control_lines.specs.declared.raw.RawTimed.{RawTimed}

abbrev pub inject : List ℕ
inject = codes "inject"

abbrev pub tcp : List ℕ
tcp = codes "tcp"

abbrev pub udp : List ℕ
udp = codes "udp"

-- a word with this value
abbrev pub IsNumber : List ℕ → ℕ → Type 0
IsNumber word n = number_of word ≡ Some n

abbrev pub SpellsMoment : List ℕ → ℕ → Type 0
SpellsMoment word n = moment_of word ≡ Some n

abbrev pub IsProtocol : List ℕ → Protocol → Type 0
IsProtocol word proto = protocol_of word ≡ Some proto

-- an address whose four numbers are in their ranges
abbrev pub IsAddress : List ℕ → ℕ → Type 0
IsAddress word n = (raw : RawAddress) × (address_of word ≡ Some raw) × (address_within raw ≡ Some n)

abbrev pub is_address_byte : ℕ → Bool
is_address_byte c = is_ascii_digit c || c == 46

-- the text is `front`, which has this value and whose bytes are all of one kind, and then the rest
pub record Leads {A : Type 0} (Is : List ℕ → A → Type 0) (kind : ℕ → Bool) (text : List ℕ) (a : A) (rest : List ℕ) : Type 0 where
  pub front : List ℕ
  pub joined : text ≡ front ++ rest
  pub is : Is front a
  pub all : list_all kind front ≡ true

-- the first word of the text has this value and only printable bytes, and the rest has the other words
pub record Takes {A : Type 0} (Is : List ℕ → A → Type 0) (text : List ℕ) (a : A) (rest : List ℕ) : Type 0 where
  pub word : List ℕ
  pub split : words text ≡ word ∷ words rest
  pub printed : list_all is_printable text ≡ list_all is_printable rest
  pub is : Is word a

-- the bytes of the text are printable, and its words are a packet with each number in its range
pub record IsPacket (text : List ℕ) (packet : SendSpec) : Type 0 where
  pub raw : RawSend
  pub printed : list_all is_printable text ≡ true
  pub shape : send_of (words text) ≡ Some (raw, [])
  pub within : send_within raw ≡ Some packet

-- the bytes of the line are printable, and the line is a command with each number in its range
pub record IsPacketLine (line : List ℕ) (timed : Timed) : Type 0 where
  pub raw : RawTimed
  pub printed : list_all is_printable line ≡ true
  pub said : is_skipped (words line) ≡ false
  pub shape : shape_of (words line) ≡ Some (Command raw)
  pub within : timed_within raw ≡ Some timed
