-- A single packet's line, from its words.
use Rattle.std.proofs.Common.{◌≡◌, ℕ, ◌≤◌, eqb, List, [], ◌∷◌, length, Some, None, Ok, refl, sym, ap, ◌∙◌, arith}
use Rattle.std.specs.List.{list_all}
use Rattle.std.proofs.lemmas.Bool.{eqb-true, le-ltb, not_from_true, cond-false}
use Rattle.emu_model.specs.declared.commands.Timed.{Timed}
use Rattle.emu_model.specs.declared.commands.Command.TheVariants as commands
use Rattle.emu_model.specs.declared.packets.Protocol.{Protocol}
use Rattle.emu_model.specs.declared.packets.Protocol.TheVariants.{Tcp, Udp}
use Rattle.emu_model.specs.declared.sources.SendSpec.{SendSpec}
use Rattle.control_words.specs.Text.{words}
use Rattle.control_words.specs.Numbers.{number_of, moment_of}
use Rattle.control_words.specs.Addresses.{protocol_of, address_of}
use Rattle.control_words.specs.declared.raw.RawAddress.{RawAddress}
use Rattle.control_lines.specs.Shape.{send_of, ends_of, shape_of, command_of, source_of}
use Rattle.control_lines.specs.Ranges.{address_within, send_within, timed_within, command_within}
use Rattle.control_lines.specs.Grammar.{Command}
use Rattle.control_lines.specs.Entries.{Does, is_skipped, is_printable, line_within, shaped, entry_of}
use Rattle.control_lines.specs.PacketLine.{inject, tcp, udp, IsNumber, IsAddress, SpellsMoment, IsProtocol, Takes, IsPacket, IsPacketLine}
use Rattle.control_lines.specs.declared.raw.RawSend.{RawSend}
use Rattle.control_lines.specs.declared.raw.RawCommand.TheVariants as raw
use Rattle.control_lines.proofs.PacketWords.{within_is, open_cond}

abbrev sent : Protocol → RawAddress → ℕ → RawAddress → ℕ → ℕ → RawSend
sent proto src sport dst dport size = record { proto = proto; ends = record { src = src; sport = sport; dst = dst; dport = dport }; size = size }

send_at : (a b c d e f : List ℕ) (proto : Protocol) (src dst : RawAddress) (sport dport size : ℕ) → protocol_of a ≡ Some proto → address_of b ≡ Some src → number_of c ≡ Some sport
    → address_of d ≡ Some dst → number_of e ≡ Some dport → number_of f ≡ Some size → send_of (a ∷ b ∷ c ∷ d ∷ e ∷ f ∷ []) ≡ Some (sent proto src sport dst dport size, [])
unfolding send_of ends_of
send_at a b c d e f proto src dst sport dport size p q r s t u = rw (p, q, r, s, t, u) refl

send_inside : (proto : Protocol) (src dst : RawAddress) (from sport to dport size : ℕ) → address_within src ≡ Some from → sport ≤ 65535 → address_within dst ≡ Some to → dport ≤ 65535 → 40 ≤ size → size ≤ 1500
    → send_within (sent proto src sport dst dport size) ≡ Some (record { proto = proto; src = from; sport = sport; dst = to; dport = dport; size = size })
unfolding send_within
send_inside proto src dst from sport to dport size p q r s t u = rw (p, within_is sport 0 65535 (omega arith) q, r, within_is dport 0 65535 (omega arith) s, within_is size 40 1500 t u) refl

pub packet_is : (text r1 r2 r3 r4 r5 : List ℕ) (proto : Protocol) (src sport dst dport size : ℕ) → Takes IsProtocol text proto r1 → Takes IsAddress r1 src r2 → Takes IsNumber r2 sport r3 → sport ≤ 65535
    → Takes IsAddress r3 dst r4 → Takes IsNumber r4 dport r5 → dport ≤ 65535 → Takes IsNumber r5 size [] → 40 ≤ size → size ≤ 1500
    → IsPacket text (record { proto = proto; src = src; sport = sport; dst = dst; dport = dport; size = size })
packet_is text r1 r2 r3 r4 r5 proto src sport dst dport size a b c lc d e le f low high =
    let all = a.split ∙ ap (λ (ws : List (List ℕ)). a.word ∷ ws) (b.split ∙ ap (λ (ws : List (List ℕ)). b.word ∷ ws) (c.split ∙ ap (λ (ws : List (List ℕ)). c.word ∷ ws) (d.split ∙ ap (λ (ws : List (List ℕ)). d.word ∷ ws) (e.split ∙ ap (λ (ws : List (List ℕ)). e.word ∷ ws) f.split)))) in
    record {
      printed = a.printed ∙ (b.printed ∙ (c.printed ∙ (d.printed ∙ (e.printed ∙ f.printed))));
      raw = sent proto b.is.0 sport d.is.0 dport size;
      shape = ap send_of all ∙ send_at a.word b.word c.word d.word e.word f.word proto b.is.0 d.is.0 sport dport size a.is b.is.1 c.is d.is.1 e.is f.is;
      within = send_inside proto b.is.0 d.is.0 src sport dst dport size b.is.2 lc d.is.2 le low high;
    }

none_none : {A : Type 0} (a : A) → None ≡ Some a → ⊥
none_none a e = cc

begins_at : (w : List ℕ) (n : ℕ) → moment_of w ≡ Some n → (digits : List ℕ) × (w ≡ 64 ∷ digits)
unfolding moment_of
begins_at [] n e = absurd (none_none n e)
begins_at (c ∷ cs) n e =
    let h = open_cond (eqb c 64) (number_of cs) n e in
    (cs, ap (λ (x : ℕ). x ∷ cs) (eqb-true c 64 h.0))

line_at : (digits : List ℕ) (ws : List (List ℕ)) (n : ℕ) (send : RawSend) → moment_of (64 ∷ digits) ≡ Some n → send_of ws ≡ Some (send, [])
    → shape_of ((64 ∷ digits) ∷ inject ∷ ws) ≡ Some (Command (record { moment = n; command = raw.Inject send }))
unfolding shape_of command_of source_of
line_at digits ws n send p q = rw (p, q) refl

timed_inside : (n : ℕ) (send : RawSend) (packet : SendSpec) → n ≤ 1000000000000000 → send_within send ≡ Some packet
    → timed_within (record { moment = n; command = raw.Inject send }) ≡ Some (record { moment = n; command = commands.Inject packet })
unfolding timed_within command_within
timed_inside n send packet p q = rw (within_is n 0 1000000000000000 (omega arith) p, q) refl

pub line_is : (line r1 r2 : List ℕ) (n : ℕ) (packet : SendSpec) → Takes SpellsMoment line n r1 → n ≤ 1000000000000000 → words r1 ≡ inject ∷ words r2 → list_all is_printable r1 ≡ list_all is_printable r2 → IsPacket r2 packet
    → IsPacketLine line (record { moment = n; command = commands.Inject packet })
line_is line r1 r2 n packet m le verb printed p =
    let at = begins_at m.word n m.is in
    let all : words line ≡ (64 ∷ at.0) ∷ inject ∷ words r2 = m.split ∙ (ap (λ (w : List ℕ). w ∷ words r1) at.1 ∙ ap (λ (ws : List (List ℕ)). (64 ∷ at.0) ∷ ws) verb) in
    record {
      raw = record { moment = n; command = raw.Inject p.raw };
      printed = m.printed ∙ (printed ∙ p.printed);
      said = ap is_skipped all;
      shape = ap shape_of all ∙ line_at at.0 (words r2) n p.raw (ap moment_of (sym at.1) ∙ m.is) p.shape;
      within = timed_inside n p.raw packet le p.within;
    }

pub protocol_is : (text word rest : List ℕ) (proto : Protocol) → words text ≡ word ∷ words rest → list_all is_printable text ≡ list_all is_printable rest → protocol_of word ≡ Some proto → Takes IsProtocol text proto rest
protocol_is text word rest proto split printed is = record { word = word; split = split; printed = printed; is = is }

pub is_tcp : protocol_of tcp ≡ Some Tcp
unfolding protocol_of
is_tcp = refl

pub is_udp : protocol_of udp ≡ Some Udp
unfolding protocol_of
is_udp = refl

pub packet_entry : (line : List ℕ) (timed : Timed) → length line ≤ 512 → IsPacketLine line timed → entry_of line ≡ Ok (Does timed)
unfolding entry_of line_within
packet_entry line timed short p =
    cond-false _ _ _ (le-ltb 512 (length line) short)
    ∙ (cond-false _ _ _ (not_from_true _ p.printed) ∙ (cond-false _ _ _ p.said ∙ (ap shaped p.shape ∙ rw p.within refl)))
