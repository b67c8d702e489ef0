-- What sends, as it is walked and as it is read.
use Rattle.std.proofs.Common.{◌≡◌, ℕ, Bool, true, false, refl, ap}
use Rattle.std.specs.Prelude.{◌&&◌}
use Rattle.std.specs.Option.{is_some}
use lib.Chars.{codes}
use Rattle.control_words.specs.Words.{Words}
use Rattle.control_words.specs.Numbers.{number_of}
use Rattle.control_words.specs.Addresses.{protocol_of, address_of}
use Rattle.control_words.specs.declared.raw.RawAddress.{RawAddress}
use Rattle.control_lines.specs.declared.raw.RawEnds.{RawEnds}
use Rattle.control_lines.specs.declared.raw.RawSend.{RawSend}
use Rattle.control_lines.specs.Ranges.{within, address_within, send_within, train_within}
use Rattle.control_lines.specs.Shape.{ends_of, send_of, train_of}
use Rattle.control.specs.declared.word_fault.Check.{Check}
use Rattle.control.specs.declared.expected.Expected.{Expected}
use Rattle.control.specs.declared.expected.Expected.TheVariants.{Inject, Train, End}
use Rattle.control.specs.declared.expected.EndsWord.{EndsWord}
use Rattle.control.specs.declared.expected.EndsWord.TheVariants as ends
use Rattle.control.specs.declared.expected.PacketWord.{PacketWord}
use Rattle.control.specs.declared.expected.PacketWord.TheVariants as packet
use Rattle.control.specs.declared.expected.TrainWord.TheVariants as train
use Rattle.control.specs.Forms.{asked}
use Rattle.control.specs.Walk.{may_end, next}
use Rattle.control.proofs.RangedLines.{four, five}
use Rattle.control.proofs.Steps.{accepts, meets, reads_step, step, Goes, Plainly, value_step, plain_step, word_step, last_read}

abbrev pub address_so : Check → RawAddress → Bool
address_so check a = asked check (is_some (address_within a))

abbrev pub port_so : Check → ℕ → Bool
port_so check n = asked check (is_some (within n 0 65535))

abbrev pub ends_so : Check → RawEnds → Bool
ends_so check e = ((address_so check e.src && port_so check e.sport) && address_so check e.dst) && port_so check e.dport

-- where the four words stand in a line, and what is expected behind them
pub record EndsStand (check : Check) (place : EndsWord → Expected) (q : Expected) : Type 0 where
  pub source : Goes check (place ends.Source) address_of (λ a. is_some (address_within a)) (place ends.SourcePort)
  pub source_port : Goes check (place ends.SourcePort) number_of (λ n. is_some (within n 0 65535)) (place ends.Destination)
  pub destination : Goes check (place ends.Destination) address_of (λ a. is_some (address_within a)) (place ends.DestinationPort)
  pub destination_port : Goes check (place ends.DestinationPort) number_of (λ n. is_some (within n 0 65535)) q
  pub more : (word : EndsWord) → may_end (place word) ≡ false

pub ends_read : (check : Check) (place : EndsWord → Expected) (q : Expected) → EndsStand check place q → (ws : Words) → accepts check (place ends.Source) ws ≡ meets (ends_of ws) (λ x. ends_so check x.0 && accepts check q x.1)
unfolding ends_of
ends_read check place q stand ws =
    value_step check true (place ends.Source) address_of (λ a. is_some (address_within a)) (place ends.SourcePort) _ _ stand.source (stand.more ends.Source) (λ src.
    value_step check _ (place ends.SourcePort) number_of (λ n. is_some (within n 0 65535)) (place ends.Destination) _ _ stand.source_port (stand.more ends.SourcePort) (λ sport.
    value_step check _ (place ends.Destination) address_of (λ a. is_some (address_within a)) (place ends.DestinationPort) _ _ stand.destination (stand.more ends.Destination) (λ dst.
    value_step check _ (place ends.DestinationPort) number_of (λ n. is_some (within n 0 65535)) q _ _ stand.destination_port (stand.more ends.DestinationPort) (λ dport. refl)
    dst.1) sport.1) src.1) ws

-- the same of a packet's words
pub record PacketStands (check : Check) (place : PacketWord → Expected) (q : Expected) : Type 0 where
  pub protocol : Plainly check (place packet.Protocol) protocol_of (place (packet.Ends ends.Source))
  pub ends : EndsStand check (λ word. place (packet.Ends word)) (place packet.Size)
  pub size : Goes check (place packet.Size) number_of (λ n. is_some (within n 40 1500)) q
  pub more : may_end (place packet.Protocol) ≡ false
  pub more_behind : may_end (place packet.Size) ≡ false

abbrev pub send_so : Check → RawSend → Bool
send_so check s = asked check (is_some (send_within s))

send_is : (check : Check) (s : RawSend) → (ends_so check s.ends && asked check (is_some (within s.size 40 1500))) ≡ send_so check s
unfolding send_within
send_is check s = five check (address_within s.ends.src) (within s.ends.sport 0 65535) (address_within s.ends.dst) (within s.ends.dport 0 65535) (within s.size 40 1500) _

pub send_read : (check : Check) (place : PacketWord → Expected) (q : Expected) → PacketStands check place q → (ws : Words) → accepts check (place packet.Protocol) ws ≡ meets (send_of ws) (λ x. send_so check x.0 && accepts check q x.1)
unfolding send_of
send_read check place q stands ws =
    plain_step check true (place packet.Protocol) protocol_of (place (packet.Ends ends.Source)) _ _ stands.protocol stands.more (λ proto.
    reads_step true _ (ends_of proto.1) (λ x. ends_so check x.0) (λ x. accepts check (place packet.Size) x.1) _ _ (ends_read check (λ word. place (packet.Ends word)) (place packet.Size) stands.ends proto.1) (λ ends.
    value_step check _ (place packet.Size) number_of (λ n. is_some (within n 40 1500)) q _ _ stands.size stands.more_behind (λ size.
    ap (λ (b : Bool). b && accepts check q size.1) (send_is check (record { proto = proto.0; ends = ends.0; size = size.0 })))
    ends.1)) ws

inject_more : (word : EndsWord) → may_end (Inject (packet.Ends word)) ≡ false
inject_more ends.Source = refl
inject_more ends.SourcePort = refl
inject_more ends.Destination = refl
inject_more ends.DestinationPort = refl

pub inject_stands : (check : Check) → PacketStands check (λ word. Inject word) End
unfolding next
inject_stands check = record {
  protocol = λ _. refl;
  ends = record { source = λ _. refl; source_port = λ _. refl; destination = λ _. refl; destination_port = λ _. refl; more = inject_more };
  size = λ _. refl;
  more = refl;
  more_behind = refl;
}

train_more : (word : EndsWord) → may_end (Train (train.Packet (packet.Ends word))) ≡ false
train_more ends.Source = refl
train_more ends.SourcePort = refl
train_more ends.Destination = refl
train_more ends.DestinationPort = refl

pub train_stands : (check : Check) → PacketStands check (λ word. Train (train.Packet word)) (Train train.CountWord)
unfolding next
train_stands check = record {
  protocol = λ _. refl;
  ends = record { source = λ _. refl; source_port = λ _. refl; destination = λ _. refl; destination_port = λ _. refl; more = train_more };
  size = λ _. refl;
  more = refl;
  more_behind = refl;
}

pub train_read : (check : Check) (ws : Words) → accepts check (Train train.Number) ws ≡ meets (train_of ws) (λ t. asked check (is_some (train_within t)))
unfolding next train_of train_within
train_read check ws =
    value_step check true (Train train.Number) number_of (λ n. is_some (within n 1 65535)) (Train (train.Packet packet.Protocol)) _ _ (λ _. refl) refl (λ number.
    reads_step _ _ (send_of number.1) (λ x. send_so check x.0) (λ x. accepts check (Train train.CountWord) x.1) _ _ (send_read check (λ word. Train (train.Packet word)) (Train train.CountWord) (train_stands check) number.1) (λ packet.
    word_step check _ (Train train.CountWord) (codes "count") (Train train.Count) _ _ (λ _. refl) refl (λ from_count.
    value_step check _ (Train train.Count) number_of (λ n. is_some (within n 1 1000000)) (Train train.GapWord) _ _ (λ _. refl) refl (λ count.
    word_step check _ (Train train.GapWord) (codes "gap") (Train train.Gap) _ _ (λ _. refl) refl (λ from_gap.
    step _ _ _ (λ n. asked check (is_some (within n 0 1000000000000))) _ _ (last_read check (Train train.Gap) 0 1000000000000 (λ _. refl) refl from_gap) (λ gap.
    four check (within number.0 1 65535) (send_within packet.0) (within count.0 1 1000000) (within gap 0 1000000000000) _))
    count.1) from_count) packet.1)) ws
