-- A mask, as it is walked and as it is read.
use Rattle.std.proofs.Common.{◌≡◌, ℕ, ◌≤◌, Bool, true, false, cond, ◌||◌, List, [], ◌∷◌, length, Option, Some, None, refl, sym, ap, ◌∙◌, arith}
use Rattle.std.specs.Prelude.{◌&&◌, unwrap_or}
use Rattle.std.specs.Option.{is_some}
use Rattle.std.specs.Str.{bytes_eq}
use lib.Chars.{codes}
use Rattle.control_words.specs.Words.{Words, ◌>>=◌, said}
use Rattle.control_words.specs.Numbers.{hex_of}
use Rattle.control_words.specs.Phrases.{phrases_within}
use Rattle.control_words.specs.Options.{is_field, field_at, put_field}
use Rattle.control_words.specs.declared.raw_options.Field.{Field}
use Rattle.control_words.specs.declared.raw_options.Field.TheVariants.{SrcIp, DstIp, SrcPort, DstPort, Proto}
use Rattle.control_words.specs.declared.raw_options.RawFields.{RawFields}
use Rattle.control_lines.specs.Ranges.{within}
use Rattle.control.specs.declared.word_fault.Check.{Check}
use Rattle.control.specs.declared.expected.Expected.{Expected}
use Rattle.control.specs.declared.expected.Expected.TheVariants.{Pipe}
use Rattle.control.specs.declared.expected.PipeSeen.{PipeSeen}
use Rattle.control.specs.declared.expected.FieldsSeen.{FieldsSeen}
use Rattle.control.specs.declared.expected.PipeWord.TheVariants as pipe
use Rattle.control.specs.Choices.{unless, field_chosen}
use Rattle.control.specs.Forms.{asked}
use Rattle.control.specs.Walk.{next}
use Rattle.control.proofs.Steps.{accepts, goes, meets, said_step, said_refused, split, and_false, and_assoc, first_in, next_in, before}

abbrev pub made : Option ℕ → Option ℕ → Option ℕ → Option ℕ → Option ℕ → RawFields
made a b c d e = record { src_ip = a; dst_ip = b; src_port = c; dst_port = d; proto = e }

abbrev pub stood : Option ℕ → Option ℕ → Option ℕ → Option ℕ → Option ℕ → FieldsSeen
stood a b c d e = record { src_ip = is_some a; dst_ip = is_some b; src_port = is_some c; dst_port = is_some d; proto = is_some e }

abbrev bits_so : Check → ℕ → Option ℕ → Bool
bits_so check most o = asked check (is_some (within (unwrap_or o 0) 0 most))

-- in the order of the definition
abbrev pub fields_so : Check → RawFields → Bool
fields_so check f = (((bits_so check 255 f.proto && bits_so check 4294967295 f.src_ip) && bits_so check 4294967295 f.dst_ip) && bits_so check 65535 f.src_port) && bits_so check 65535 f.dst_port

-- the fields are read from here on, these having stood before
abbrev pub Read : {R : Type 0} → Check → Bool → PipeSeen → (RawFields → Words → Option R) → (R → Bool) → RawFields → FieldsSeen → Words → Type 0
Read check k s rest g f seen ws = ((k && fields_so check f) && accepts check (Pipe (pipe.Fields s seen)) ws) ≡ meets (rest f ws) g

abbrev pub ReadBehind : {R : Type 0} → Check → Bool → PipeSeen → (RawFields → Words → Option R) → (R → Bool) → Words → Type 0
ReadBehind check k s rest g ws = (a b c d e : Option ℕ) (tail : Words) → length tail ≤ length ws → Read check k s rest g (made a b c d e) (stood a b c d e) tail

abbrev put : {R : Type 0} → (RawFields → Words → Option R) → RawFields → Field × Words → Option R
put rest f a = put_field f a.0 >>= λ d. rest d a.1

-- a condition more, behind those that stand
pub more : (k x n y : Bool) → (x && n) ≡ y → ((k && x) && n) ≡ (k && y)
more k x n y e = sym (and_assoc k x n) ∙ ap (λ (z : Bool). k && z) e

src_ip_read : {R : Type 0} (check : Check) (k : Bool) (s : PipeSeen) (rest : RawFields → Words → Option R) (g : R → Bool) (ws : Words) → ReadBehind check k s rest g ws → (a b c d e : Option ℕ) → ((k && fields_so check (made a b c d e)) && goes check ws (unless (is_some a) (Pipe (pipe.AddressBits s (stood (Some 0) b c d e))))) ≡ meets (said (hex_of 8) SrcIp ws >>= put rest (made a b c d e)) g
unfolding next
src_ip_read check k s rest g ws ih (Some x) b c d e = said_refused _ (hex_of 8) SrcIp _ g ws (λ n tail. refl)
src_ip_read check k s rest g ws ih None b c d e = said_step check _ (Pipe (pipe.AddressBits s (stood (Some 0) b c d e))) (hex_of 8) (λ n. is_some (within n 0 4294967295)) SrcIp (Pipe (pipe.Fields s (stood (Some 0) b c d e))) _ g (λ _. refl) refl ws (λ v tail eq n.
    ap (λ (x : Bool). x && accepts check (Pipe (pipe.Fields s (stood (Some n) b c d e))) tail) (more k _ _ _ (before _ (bits_so check 65535 d) _ _ (before _ (bits_so check 65535 c) _ _ (before _ (bits_so check 4294967295 b) _ _ (next_in check (bits_so check 255 e) (bits_so check 4294967295 (Some n)))))))
    ∙ ih (Some n) b c d e tail (omega (arith, ap length eq)))

dst_ip_read : {R : Type 0} (check : Check) (k : Bool) (s : PipeSeen) (rest : RawFields → Words → Option R) (g : R → Bool) (ws : Words) → ReadBehind check k s rest g ws → (a b c d e : Option ℕ) → ((k && fields_so check (made a b c d e)) && goes check ws (unless (is_some b) (Pipe (pipe.AddressBits s (stood a (Some 0) c d e))))) ≡ meets (said (hex_of 8) DstIp ws >>= put rest (made a b c d e)) g
unfolding next
dst_ip_read check k s rest g ws ih a (Some x) c d e = said_refused _ (hex_of 8) DstIp _ g ws (λ n tail. refl)
dst_ip_read check k s rest g ws ih a None c d e = said_step check _ (Pipe (pipe.AddressBits s (stood a (Some 0) c d e))) (hex_of 8) (λ n. is_some (within n 0 4294967295)) DstIp (Pipe (pipe.Fields s (stood a (Some 0) c d e))) _ g (λ _. refl) refl ws (λ v tail eq n.
    ap (λ (x : Bool). x && accepts check (Pipe (pipe.Fields s (stood a (Some n) c d e))) tail) (more k _ _ _ (before _ (bits_so check 65535 d) _ _ (before _ (bits_so check 65535 c) _ _ (next_in check (bits_so check 255 e && bits_so check 4294967295 a) (bits_so check 4294967295 (Some n))))))
    ∙ ih a (Some n) c d e tail (omega (arith, ap length eq)))

src_port_read : {R : Type 0} (check : Check) (k : Bool) (s : PipeSeen) (rest : RawFields → Words → Option R) (g : R → Bool) (ws : Words) → ReadBehind check k s rest g ws → (a b c d e : Option ℕ) → ((k && fields_so check (made a b c d e)) && goes check ws (unless (is_some c) (Pipe (pipe.PortBits s (stood a b (Some 0) d e))))) ≡ meets (said (hex_of 4) SrcPort ws >>= put rest (made a b c d e)) g
unfolding next
src_port_read check k s rest g ws ih a b (Some x) d e = said_refused _ (hex_of 4) SrcPort _ g ws (λ n tail. refl)
src_port_read check k s rest g ws ih a b None d e = said_step check _ (Pipe (pipe.PortBits s (stood a b (Some 0) d e))) (hex_of 4) (λ n. is_some (within n 0 65535)) SrcPort (Pipe (pipe.Fields s (stood a b (Some 0) d e))) _ g (λ _. refl) refl ws (λ v tail eq n.
    ap (λ (x : Bool). x && accepts check (Pipe (pipe.Fields s (stood a b (Some n) d e))) tail) (more k _ _ _ (before _ (bits_so check 65535 d) _ _ (next_in check ((bits_so check 255 e && bits_so check 4294967295 a) && bits_so check 4294967295 b) (bits_so check 65535 (Some n)))))
    ∙ ih a b (Some n) d e tail (omega (arith, ap length eq)))

dst_port_read : {R : Type 0} (check : Check) (k : Bool) (s : PipeSeen) (rest : RawFields → Words → Option R) (g : R → Bool) (ws : Words) → ReadBehind check k s rest g ws → (a b c d e : Option ℕ) → ((k && fields_so check (made a b c d e)) && goes check ws (unless (is_some d) (Pipe (pipe.PortBits s (stood a b c (Some 0) e))))) ≡ meets (said (hex_of 4) DstPort ws >>= put rest (made a b c d e)) g
unfolding next
dst_port_read check k s rest g ws ih a b c (Some x) e = said_refused _ (hex_of 4) DstPort _ g ws (λ n tail. refl)
dst_port_read check k s rest g ws ih a b c None e = said_step check _ (Pipe (pipe.PortBits s (stood a b c (Some 0) e))) (hex_of 4) (λ n. is_some (within n 0 65535)) DstPort (Pipe (pipe.Fields s (stood a b c (Some 0) e))) _ g (λ _. refl) refl ws (λ v tail eq n.
    ap (λ (x : Bool). x && accepts check (Pipe (pipe.Fields s (stood a b c (Some n) e))) tail) (more k _ _ _ (next_in check (((bits_so check 255 e && bits_so check 4294967295 a) && bits_so check 4294967295 b) && bits_so check 65535 c) (bits_so check 65535 (Some n))))
    ∙ ih a b c (Some n) e tail (omega (arith, ap length eq)))

proto_read : {R : Type 0} (check : Check) (k : Bool) (s : PipeSeen) (rest : RawFields → Words → Option R) (g : R → Bool) (ws : Words) → ReadBehind check k s rest g ws → (a b c d e : Option ℕ) → ((k && fields_so check (made a b c d e)) && goes check ws (unless (is_some e) (Pipe (pipe.ProtocolBits s (stood a b c d (Some 0)))))) ≡ meets (said (hex_of 2) Proto ws >>= put rest (made a b c d e)) g
unfolding next
proto_read check k s rest g ws ih a b c d (Some x) = said_refused _ (hex_of 2) Proto _ g ws (λ n tail. refl)
proto_read check k s rest g ws ih a b c d None = said_step check _ (Pipe (pipe.ProtocolBits s (stood a b c d (Some 0)))) (hex_of 2) (λ n. is_some (within n 0 255)) Proto (Pipe (pipe.Fields s (stood a b c d (Some 0)))) _ g (λ _. refl) refl ws (λ v tail eq n.
    ap (λ (x : Bool). x && accepts check (Pipe (pipe.Fields s (stood a b c d (Some n)))) tail) (more k _ _ _ (before _ (bits_so check 65535 d) _ _ (before _ (bits_so check 65535 c) _ _ (before _ (bits_so check 4294967295 b) _ _ (before _ (bits_so check 4294967295 a) _ _ (first_in check (bits_so check 255 (Some n))))))))
    ∙ ih a b c d (Some n) tail (omega (arith, ap length eq)))

-- one field, and what follows
pub field_read : {R : Type 0} (check : Check) (k : Bool) (s : PipeSeen) (rest : RawFields → Words → Option R) (g : R → Bool) (w : List ℕ) (ws : Words) → ReadBehind check k s rest g ws → (a b c d e : Option ℕ) → ((k && fields_so check (made a b c d e)) && goes check ws (field_chosen s (stood a b c d e) w)) ≡ meets (field_at w ws >>= put rest (made a b c d e)) g
unfolding field_at
field_read check k s rest g w ws ih a b c d e =
    let l = λ (o : Option Expected). (k && fields_so check (made a b c d e)) && goes check ws o in
    let r = λ (o : Option (Field × Words)). meets (o >>= put rest (made a b c d e)) g in
    split l r (bytes_eq w (codes "src-ip")) _ _ _ _ (src_ip_read check k s rest g ws ih a b c d e)
    (split l r (bytes_eq w (codes "dst-ip")) _ _ _ _ (dst_ip_read check k s rest g ws ih a b c d e)
    (split l r (bytes_eq w (codes "src-port")) _ _ _ _ (src_port_read check k s rest g ws ih a b c d e)
    (split l r (bytes_eq w (codes "dst-port")) _ _ _ _ (dst_port_read check k s rest g ws ih a b c d e)
    (split l r (bytes_eq w (codes "proto")) _ _ _ _ (proto_read check k s rest g ws ih a b c d e)
    (and_false _)))))

-- what is done with the last of three things that are read
pub inward : {A B C : Type 0} (o : Option A) (p : A → Option B) (after : B → Option C) (g : C → Bool) → meets ((o >>= p) >>= after) g ≡ meets (o >>= λ a. p a >>= after) g
inward None p after g = refl
inward (Some a) p after g = refl

pub inward_twice : {A B C D : Type 0} (o : Option A) (p : A → Option B) (q : A → B → Option C) (after : C → Option D) (g : D → Bool) → meets ((o >>= λ a. p a >>= λ b. q a b) >>= after) g ≡ meets (o >>= λ a. p a >>= λ b. (q a b >>= after)) g
inward_twice None p q after g = refl
inward_twice (Some a) p q after g = inward (p a) (q a) after g

-- fields as long as they go on, and what follows: `after` them
pub fields_read : {R : Type 0} (check : Check) (k : Bool) (s : PipeSeen) (after : RawFields × Words → Option R) (g : R → Bool) (most : Words) → ((f : RawFields) (tail : Words) → length tail ≤ length most → ((k && fields_so check f) && accepts check (Pipe (pipe.Setting s)) tail) ≡ meets (after (f, tail)) g) → (room : Words) (a b c d e : Option ℕ) (ws : Words) → length ws ≤ length room → length ws ≤ length most → Read check k s (λ f ws. phrases_within is_field field_at put_field room f ws >>= after) g (made a b c d e) (stood a b c d e) ws
unfolding next
fields_read check k s after g most h [] a b c d e [] le less = h (made a b c d e) [] less
fields_read check k s after g most h [] a b c d e (w ∷ ws) le less = absurd (omega (arith, le))
fields_read check k s after g most h (_ ∷ room) a b c d e [] le less = h (made a b c d e) [] less
fields_read check k s after g most h (_ ∷ room) a b c d e (w ∷ ws) le less =
    split (λ (o : Option Expected). (k && fields_so check (made a b c d e)) && goes check ws o) (λ o. meets (o >>= after) g) (is_field w) _ _ _ _
    (field_read check k s (λ f tail. phrases_within is_field field_at put_field room f tail >>= after) g w ws (λ a2 b2 c2 d2 e2 tail shorter. fields_read check k s after g most h room a2 b2 c2 d2 e2 tail (omega (arith, shorter, le)) (omega (arith, shorter, less))) a b c d e
    ∙ sym (inward_twice (field_at w ws) (λ x. put_field (made a b c d e) x.0) (λ x f. phrases_within is_field field_at put_field room f x.1) after g))
    (h (made a b c d e) (w ∷ ws) less)

-- a word that is no field isn't read as one
apart : {A : Type 0} (b1 b2 b3 b4 b5 : Bool) (x1 x2 x3 x4 x5 : Option A) → (b1 || (b2 || (b3 || (b4 || b5)))) ≡ false → cond b1 x1 (cond b2 x2 (cond b3 x3 (cond b4 x4 (cond b5 x5 None)))) ≡ None
apart true b2 b3 b4 b5 x1 x2 x3 x4 x5 e = absurd cc
apart false true b3 b4 b5 x1 x2 x3 x4 x5 e = absurd cc
apart false false true b4 b5 x1 x2 x3 x4 x5 e = absurd cc
apart false false false true b5 x1 x2 x3 x4 x5 e = absurd cc
apart false false false false true x1 x2 x3 x4 x5 e = absurd cc
apart false false false false false x1 x2 x3 x4 x5 e = refl

pub no_field : (w : List ℕ) (ws : Words) → is_field w ≡ false → field_at w ws ≡ None
unfolding is_field field_at
no_field w ws e = apart (bytes_eq w (codes "src-ip")) (bytes_eq w (codes "dst-ip")) (bytes_eq w (codes "src-port")) (bytes_eq w (codes "dst-port")) (bytes_eq w (codes "proto")) _ _ _ _ _ e
