-- The options of a pipe, as they are walked and as they are read.
use Rattle.std.proofs.Common.{◌≡◌, ℕ, ◌≤◌, Bool, true, false, cond, [], ◌∷◌, length, Option, Some, None, refl, sym, ap, ◌∙◌, arith}
use Rattle.std.specs.Prelude.{if◌then◌else◌, ◌&&◌, unwrap_or}
use Rattle.std.specs.Option.{is_some}
use Rattle.std.specs.Str.{bytes_eq}
use lib.Chars.{codes}
use Rattle.control_words.specs.Words.{Words, ◌>>=◌, said}
use Rattle.control_words.specs.Numbers.{rate_of, delay_of, queue_of, fraction_of}
use Rattle.control_words.specs.declared.raw.RawQueue.{RawQueue}
use Rattle.control_words.specs.Phrases.{phrases, phrases_within}
use Rattle.control_words.specs.Options.{any_word, is_field, field_at, put_field, no_fields, fields_of, some_fields, mask_of, mask_at, no_times, times_of, codel_at, bare_of, setting_at, put_setting, no_options, options_of}
use Rattle.control_words.specs.declared.raw_options.Field.{Field}
use Rattle.control_words.specs.declared.raw_options.RawFields.{RawFields}
use Rattle.control_words.specs.declared.raw_options.RawMask.{RawMask}
use Rattle.control_words.specs.declared.raw_options.RawMask.TheVariants.{Everything, Fields}
use Rattle.control_words.specs.declared.raw_options.RawCodel.{RawCodel}
use Rattle.control_words.specs.declared.raw_options.BareDiscipline.{BareDiscipline}
use Rattle.control_words.specs.declared.raw_options.RawDiscipline.{RawDiscipline}
use Rattle.control_words.specs.declared.raw_options.RawDiscipline.TheVariants.{Bare, ControlledDelay}
use Rattle.control_words.specs.declared.raw_options.Setting.{Setting}
use Rattle.control_words.specs.declared.raw_options.Setting.TheVariants as settings
use Rattle.control_words.specs.declared.raw_options.RawConfig.{RawConfig}
use Rattle.control_lines.specs.Ranges.{within, queue_within, fields_within, mask_within, codel_within, discipline_within, config_within}
use Rattle.control.specs.declared.word_fault.Check.{Check}
use Rattle.control.specs.declared.word_fault.Check.TheVariants.{Forms, Ranges}
use Rattle.control.specs.declared.expected.Expected.{Expected}
use Rattle.control.specs.declared.expected.Expected.TheVariants.{Pipe}
use Rattle.control.specs.declared.expected.PipeSeen.{PipeSeen}
use Rattle.control.specs.declared.expected.PipeWord.TheVariants as pipe
use Rattle.control.specs.Choices.{unless, no_fields_seen, no_times_seen, field_chosen}
use Rattle.control.specs.Forms.{asked}
use Rattle.control.specs.Values.{no_pipe}
use Rattle.control.specs.Walk.{next}
use Rattle.control.proofs.RangedLines.{two, five, six}
use Rattle.control.proofs.Steps.{accepts, goes, meets, meets_map, said_step, said_refused, split, and_false, and_true, first_in, next_in, before}
use Rattle.control.proofs.Masks.{fields_so, field_read, fields_read, no_field}
use Rattle.control.proofs.Times.{times_so, times_read}

abbrev made : Option ℕ → Option ℕ → Option RawQueue → Option ℕ → Option RawMask → Option RawDiscipline → RawConfig
made a b c d e f = record { bw = a; delay = b; queue = c; plr = d; mask = e; discipline = f }

abbrev stood : Bool → Bool → Bool → Bool → Bool → Bool → PipeSeen
stood a b c d e f = record { bw = a; delay = b; queue = c; plr = d; mask = e; discipline = f }

abbrev bw_so : Check → Option ℕ → Bool
bw_so check o = asked check (is_some (within (unwrap_or o 0) 0 10000000000))

abbrev delay_so : Check → Option ℕ → Bool
delay_so check o = asked check (is_some (within (unwrap_or o 0) 0 60000))

abbrev queue_so : Check → Option RawQueue → Bool
queue_so check o = asked check (is_some (queue_within o))

abbrev plr_so : Check → Option ℕ → Bool
plr_so check o = asked check (is_some (within (unwrap_or o 0) 0 1000000))

abbrev mask_so : Check → Option RawMask → Bool
mask_so check o = asked check (is_some (mask_within o))

abbrev discipline_so : Check → Option RawDiscipline → Bool
discipline_so check o = asked check (is_some (discipline_within o))

abbrev config_so : Check → RawConfig → Bool
config_so check c = ((((bw_so check c.bw && delay_so check c.delay) && queue_so check c.queue) && plr_so check c.plr) && mask_so check c.mask) && discipline_so check c.discipline

-- the options are read from here on, these having stood before
abbrev Read : Check → Words → RawConfig → Words → Type 0
Read check room c ws = (config_so check c && accepts check (Pipe (pipe.Setting (stood (is_some c.bw) (is_some c.delay) (is_some c.queue) (is_some c.plr) (is_some c.mask) (is_some c.discipline)))) ws) ≡ meets (phrases_within any_word setting_at put_setting room c ws) (λ x. config_so check x.0)

abbrev ReadBehind : Check → Words → Type 0
ReadBehind check room = (a : Option ℕ) (b : Option ℕ) (c : Option RawQueue) (d : Option ℕ) (e : Option RawMask) (f : Option RawDiscipline) (ws : Words) → length ws ≤ length room → Read check room (made a b c d e f) ws

abbrev goes_on : Words → RawConfig → Setting × Words → Option (RawConfig × Words)
goes_on room c a = put_setting c a.0 >>= λ d. phrases_within any_word setting_at put_setting room d a.1

abbrev config_end : Check → RawConfig × Words → Bool
config_end check x = config_so check x.0

bw_read : (check : Check) (room : Words) (a : Option ℕ) (b : Option ℕ) (c : Option RawQueue) (d : Option ℕ) (e : Option RawMask) (f : Option RawDiscipline) (ws : Words) → ReadBehind check room → length ws ≤ length room → (config_so check (made a b c d e f) && goes check ws (unless (is_some a) (Pipe (pipe.Bw (stood true (is_some b) (is_some c) (is_some d) (is_some e) (is_some f)))))) ≡ meets (said rate_of settings.Bw ws >>= goes_on room (made a b c d e f)) (config_end check)
unfolding next
bw_read check room (Some x) b c d e f ws ih le = said_refused _ rate_of settings.Bw _ (config_end check) ws (λ n tail. refl)
bw_read check room None b c d e f ws ih le = said_step check _ (Pipe (pipe.Bw (stood true (is_some b) (is_some c) (is_some d) (is_some e) (is_some f)))) rate_of (λ n. is_some (within n 0 10000000000)) settings.Bw (Pipe (pipe.Setting (stood true (is_some b) (is_some c) (is_some d) (is_some e) (is_some f)))) _ (config_end check) (λ _. refl) refl ws (λ v tail eq n.
    ap (λ (x : Bool). x && accepts check (Pipe (pipe.Setting (stood true (is_some b) (is_some c) (is_some d) (is_some e) (is_some f)))) tail) (before _ (discipline_so check f) _ _ (before _ (mask_so check e) _ _ (before _ (plr_so check d) _ _ (before _ (queue_so check c) _ _ (before _ (delay_so check b) _ _ (first_in check (bw_so check (Some n))))))))
    ∙ ih (Some n) b c d e f tail (omega (arith, ap length eq, le)))

delay_read : (check : Check) (room : Words) (a : Option ℕ) (b : Option ℕ) (c : Option RawQueue) (d : Option ℕ) (e : Option RawMask) (f : Option RawDiscipline) (ws : Words) → ReadBehind check room → length ws ≤ length room → (config_so check (made a b c d e f) && goes check ws (unless (is_some b) (Pipe (pipe.Delay (stood (is_some a) true (is_some c) (is_some d) (is_some e) (is_some f)))))) ≡ meets (said delay_of settings.Delay ws >>= goes_on room (made a b c d e f)) (config_end check)
unfolding next
delay_read check room a (Some x) c d e f ws ih le = said_refused _ delay_of settings.Delay _ (config_end check) ws (λ n tail. refl)
delay_read check room a None c d e f ws ih le = said_step check _ (Pipe (pipe.Delay (stood (is_some a) true (is_some c) (is_some d) (is_some e) (is_some f)))) delay_of (λ n. is_some (within n 0 60000)) settings.Delay (Pipe (pipe.Setting (stood (is_some a) true (is_some c) (is_some d) (is_some e) (is_some f)))) _ (config_end check) (λ _. refl) refl ws (λ v tail eq n.
    ap (λ (x : Bool). x && accepts check (Pipe (pipe.Setting (stood (is_some a) true (is_some c) (is_some d) (is_some e) (is_some f)))) tail) (before _ (discipline_so check f) _ _ (before _ (mask_so check e) _ _ (before _ (plr_so check d) _ _ (before _ (queue_so check c) _ _ (next_in check (bw_so check a) (delay_so check (Some n)))))))
    ∙ ih a (Some n) c d e f tail (omega (arith, ap length eq, le)))

queue_read : (check : Check) (room : Words) (a : Option ℕ) (b : Option ℕ) (c : Option RawQueue) (d : Option ℕ) (e : Option RawMask) (f : Option RawDiscipline) (ws : Words) → ReadBehind check room → length ws ≤ length room → (config_so check (made a b c d e f) && goes check ws (unless (is_some c) (Pipe (pipe.Queue (stood (is_some a) (is_some b) true (is_some d) (is_some e) (is_some f)))))) ≡ meets (said queue_of settings.Queue ws >>= goes_on room (made a b c d e f)) (config_end check)
unfolding next queue_within
queue_read check room a b (Some x) d e f ws ih le = said_refused _ queue_of settings.Queue _ (config_end check) ws (λ n tail. refl)
queue_read check room a b None d e f ws ih le = said_step check _ (Pipe (pipe.Queue (stood (is_some a) (is_some b) true (is_some d) (is_some e) (is_some f)))) queue_of (λ q. is_some (queue_within (Some q))) settings.Queue (Pipe (pipe.Setting (stood (is_some a) (is_some b) true (is_some d) (is_some e) (is_some f)))) _ (config_end check) (λ _. refl) refl ws (λ v tail eq n.
    ap (λ (x : Bool). x && accepts check (Pipe (pipe.Setting (stood (is_some a) (is_some b) true (is_some d) (is_some e) (is_some f)))) tail) (before _ (discipline_so check f) _ _ (before _ (mask_so check e) _ _ (before _ (plr_so check d) _ _ (next_in check (bw_so check a && delay_so check b) (queue_so check (Some n))))))
    ∙ ih a b (Some n) d e f tail (omega (arith, ap length eq, le)))

plr_read : (check : Check) (room : Words) (a : Option ℕ) (b : Option ℕ) (c : Option RawQueue) (d : Option ℕ) (e : Option RawMask) (f : Option RawDiscipline) (ws : Words) → ReadBehind check room → length ws ≤ length room → (config_so check (made a b c d e f) && goes check ws (unless (is_some d) (Pipe (pipe.Plr (stood (is_some a) (is_some b) (is_some c) true (is_some e) (is_some f)))))) ≡ meets (said fraction_of settings.Plr ws >>= goes_on room (made a b c d e f)) (config_end check)
unfolding next
plr_read check room a b c (Some x) e f ws ih le = said_refused _ fraction_of settings.Plr _ (config_end check) ws (λ n tail. refl)
plr_read check room a b c None e f ws ih le = said_step check _ (Pipe (pipe.Plr (stood (is_some a) (is_some b) (is_some c) true (is_some e) (is_some f)))) fraction_of (λ n. is_some (within n 0 1000000)) settings.Plr (Pipe (pipe.Setting (stood (is_some a) (is_some b) (is_some c) true (is_some e) (is_some f)))) _ (config_end check) (λ _. refl) refl ws (λ v tail eq n.
    ap (λ (x : Bool). x && accepts check (Pipe (pipe.Setting (stood (is_some a) (is_some b) (is_some c) true (is_some e) (is_some f)))) tail) (before _ (discipline_so check f) _ _ (before _ (mask_so check e) _ _ (next_in check ((bw_so check a && delay_so check b) && queue_so check c) (plr_so check (Some n)))))
    ∙ ih a b c (Some n) e f tail (omega (arith, ap length eq, le)))

-- what is read twice is refused
refused : {A : Type 0} (c : Bool) (o : Option (A × Words)) (thing : A → Setting) (f : Setting × Words → Option (RawConfig × Words)) (g : RawConfig × Words → Bool) → ((a : A) (tail : Words) → f (thing a, tail) ≡ None) → (c && false) ≡ meets ((o >>= λ x. Some (thing x.0, x.1)) >>= f) g
refused c None thing f g h = and_false c
refused c (Some x) thing f g h = and_false c ∙ sym (ap (λ o. meets o g) (h x.0 x.1))

-- ---- a mask
abbrev as_mask : RawFields × Words → Option (RawMask × Words)
as_mask x = Some (Fields x.0, x.1)

abbrev as_setting : RawMask × Words → Option (Setting × Words)
as_setting x = Some (settings.Mask x.0, x.1)

abbrev begun : Field × Words → Option (Option Field × Words)
begun a = Some (Some a.0, a.1)

abbrev not_begun : Words → Option (Option Field × Words)
not_begun ws = Some (None, ws)

abbrev After : Type 0
After = Setting × Words → Option (RawConfig × Words)

-- what is done with the fields that are read
abbrev masked : After → RawFields × Words → Option (RawConfig × Words)
masked after x = after (settings.Mask (Fields x.0), x.1)

-- the first field, and those behind it
abbrev more_fields : After → Field × Words → Option (RawConfig × Words)
more_fields after a = put_field no_fields a.0 >>= λ d. (fields_of d a.1 >>= masked after)

fields_and : (o : Option (RawFields × Words)) (after : After) (g : RawConfig × Words → Bool) → meets (((o >>= as_mask) >>= as_setting) >>= after) g ≡ meets (o >>= masked after) g
fields_and None after g = refl
fields_and (Some x) after g = refl

first_and : (o : Option RawFields) (ws : Words) (after : After) (g : RawConfig × Words → Bool) → meets ((((o >>= λ d. fields_of d ws) >>= as_mask) >>= as_setting) >>= after) g ≡ meets (o >>= λ d. (fields_of d ws >>= masked after)) g
first_and None ws after g = refl
first_and (Some d) ws after g = fields_and (fields_of d ws) after g

-- the first field of a mask, read as a phrase
begun_and : (b : Bool) (o : Option (Field × Words)) (ws : Words) (after : After) (g : RawConfig × Words → Bool) → (b ≡ false → o ≡ None) → meets (((cond b (o >>= begun) (not_begun ws) >>= λ first. some_fields first >>= as_mask) >>= as_setting) >>= after) g ≡ meets (o >>= more_fields after) g
begun_and true None ws after g h = refl
begun_and true (Some a) ws after g h = first_and (put_field no_fields a.0) a.1 after g
begun_and false o ws after g h = sym (ap (λ (x : Option (Field × Words)). meets (x >>= more_fields after) g) (h refl))

nothing_masked : (check : Check) → true ≡ fields_so check no_fields
nothing_masked Forms = refl
nothing_masked Ranges = refl

fields_are : (check : Check) (x : RawFields) → fields_so check x ≡ mask_so check (Some (Fields x))
unfolding mask_within fields_within
fields_are check x = five check (within (unwrap_or x.proto 0) 0 255) (within (unwrap_or x.src_ip 0) 0 4294967295) (within (unwrap_or x.dst_ip 0) 0 4294967295) (within (unwrap_or x.src_port 0) 0 65535) (within (unwrap_or x.dst_port 0) 0 65535) _

mask_in : (check : Check) (a b : Option ℕ) (c : Option RawQueue) (d : Option ℕ) (f : Option RawDiscipline) (x : RawFields) → (config_so check (made a b c d None f) && fields_so check x) ≡ config_so check (made a b c d (Some (Fields x)) f)
unfolding mask_within
mask_in check a b c d f x =
    ap (λ (z : Bool). config_so check (made a b c d None f) && z) (fields_are check x)
    ∙ before _ (discipline_so check f) _ _ (next_in check (((bw_so check a && delay_so check b) && queue_so check c) && plr_so check d) (mask_so check (Some (Fields x))))

mask_read : (check : Check) (room : Words) (a : Option ℕ) (b : Option ℕ) (c : Option RawQueue) (d : Option ℕ) (e : Option RawMask) (f : Option RawDiscipline) (ws : Words) → ReadBehind check room → length ws ≤ length room → (config_so check (made a b c d e f) && goes check ws (unless (is_some e) (Pipe (pipe.Mask (stood (is_some a) (is_some b) (is_some c) (is_some d) true (is_some f)))))) ≡ meets (mask_at ws >>= goes_on room (made a b c d e f)) (config_end check)
unfolding next mask_of phrases mask_within
mask_read check room a b c d (Some x) f ws ih le = refused _ (mask_of ws) settings.Mask _ (config_end check) (λ m tail. refl)
mask_read check room a b c d None f [] ih le = and_false _
mask_read check room a b c d None f (w ∷ ws) ih le =
    let s = (stood (is_some a) (is_some b) (is_some c) (is_some d) true (is_some f)) in
    let k = config_so check (made a b c d None f) in
    let after = λ (x : RawFields × Words). goes_on room (made a b c d None f) (settings.Mask (Fields x.0), x.1) in
    let h : (x : RawFields) (tail : Words) → length tail ≤ length ws → ((k && fields_so check x) && accepts check (Pipe (pipe.Setting s)) tail) ≡ meets (after (x, tail)) (config_end check) =
    λ x tail shorter. ap (λ (z : Bool). z && accepts check (Pipe (pipe.Setting s)) tail) (mask_in check a b c d f x) ∙ ih a b c d (Some (Fields x)) f tail (omega (arith, shorter, le)) in
    split (λ (o : Option Expected). k && goes check ws o) (λ o. meets ((o >>= as_setting) >>= goes_on room (made a b c d None f)) (config_end check)) (bytes_eq w (codes "all")) _ _ _ _
    (ih a b c d (Some Everything) f ws (omega (arith, le)))
    (ap (λ (z : Bool). z && goes check ws (field_chosen s no_fields_seen w)) (sym (and_true k) ∙ ap (λ (z : Bool). k && z) (nothing_masked check))
    ∙ field_read check k s (λ x tail. fields_of x tail >>= after) (config_end check) w ws (λ a2 b2 c2 d2 e2 tail shorter. fields_read check k s after (config_end check) ws h tail a2 b2 c2 d2 e2 tail (omega arith) shorter) None None None None None
    ∙ sym (begun_and (is_field w) (field_at w ws) (w ∷ ws) (goes_on room (made a b c d None f)) (config_end check) (no_field w ws)))

-- ---- a discipline
times_are : (check : Check) (t : RawCodel) → times_so check t ≡ discipline_so check (Some (ControlledDelay t))
unfolding discipline_within codel_within
times_are check t = two check (within (unwrap_or t.target 5000000) 1000 60000000000) (within (unwrap_or t.interval 100000000) 1000 60000000000) _

nothing_timed : (check : Check) → true ≡ times_so check no_times
nothing_timed Forms = refl
nothing_timed Ranges = refl

discipline_in : (check : Check) (a b : Option ℕ) (c : Option RawQueue) (d : Option ℕ) (e : Option RawMask) (t : RawCodel) → (config_so check (made a b c d e None) && times_so check t) ≡ config_so check (made a b c d e (Some (ControlledDelay t)))
unfolding discipline_within
discipline_in check a b c d e t =
    ap (λ (z : Bool). config_so check (made a b c d e None) && z) (times_are check t)
    ∙ next_in check ((((((bw_so check a && delay_so check b) && queue_so check c) && plr_so check d)) && mask_so check e)) (discipline_so check (Some (ControlledDelay t)))

bare_read : (check : Check) (room : Words) (a : Option ℕ) (b : Option ℕ) (c : Option RawQueue) (d : Option ℕ) (e : Option RawMask) (f : Option RawDiscipline) (o : Option BareDiscipline) (ws : Words) → ReadBehind check room → length ws ≤ length room → (config_so check (made a b c d e f) && goes check ws (if is_some o then unless (is_some f) (Pipe (pipe.Setting (stood (is_some a) (is_some b) (is_some c) (is_some d) (is_some e) true))) else None)) ≡ meets ((o >>= λ x. Some (settings.Discipline (Bare x), ws)) >>= goes_on room (made a b c d e f)) (config_end check)
unfolding discipline_within
bare_read check room a b c d e f None ws ih le = and_false _
bare_read check room a b c d e (Some y) (Some x) ws ih le = and_false _
bare_read check room a b c d e None (Some x) ws ih le = ih a b c d e (Some (Bare x)) ws le

times_and : (o : Option (RawCodel × Words)) (after : Setting × Words → Option (RawConfig × Words)) (g : RawConfig × Words → Bool) → meets ((o >>= λ x. Some (settings.Discipline (ControlledDelay x.0), x.1)) >>= after) g ≡ meets (o >>= λ x. after (settings.Discipline (ControlledDelay x.0), x.1)) g
times_and None after g = refl
times_and (Some x) after g = refl

codel_read : (check : Check) (room : Words) (a : Option ℕ) (b : Option ℕ) (c : Option RawQueue) (d : Option ℕ) (e : Option RawMask) (f : Option RawDiscipline) (ws : Words) → ReadBehind check room → length ws ≤ length room → (config_so check (made a b c d e f) && goes check ws (unless (is_some f) (Pipe (pipe.Times (stood (is_some a) (is_some b) (is_some c) (is_some d) (is_some e) true) no_times_seen)))) ≡ meets (codel_at ws >>= goes_on room (made a b c d e f)) (config_end check)
unfolding phrases
codel_read check room a b c d e (Some x) ws ih le = refused _ (times_of no_times ws) (λ t. settings.Discipline (ControlledDelay t)) _ (config_end check) (λ m tail. refl)
codel_read check room a b c d e None ws ih le =
    let s = (stood (is_some a) (is_some b) (is_some c) (is_some d) (is_some e) true) in
    let k = config_so check (made a b c d e None) in
    let after = λ (x : RawCodel × Words). goes_on room (made a b c d e None) (settings.Discipline (ControlledDelay x.0), x.1) in
    let h : (t : RawCodel) (tail : Words) → length tail ≤ length ws → ((k && times_so check t) && accepts check (Pipe (pipe.Setting s)) tail) ≡ meets (after (t, tail)) (config_end check) =
    λ t tail shorter. ap (λ (z : Bool). z && accepts check (Pipe (pipe.Setting s)) tail) (discipline_in check a b c d e t) ∙ ih a b c d e (Some (ControlledDelay t)) tail (omega (arith, shorter, le)) in
    ap (λ (z : Bool). z && accepts check (Pipe (pipe.Times s no_times_seen)) ws) (sym (and_true k) ∙ ap (λ (z : Bool). k && z) (nothing_timed check))
    ∙ times_read check k s after (config_end check) ws h ws None None ws (omega arith) (omega arith)
    ∙ sym (times_and (times_of no_times ws) (goes_on room (made a b c d e None)) (config_end check))

-- ---- all
settings_read : (check : Check) (room : Words) → ReadBehind check room
unfolding next setting_at
settings_read check [] a b c d e f [] le = and_true _
settings_read check [] a b c d e f (w ∷ ws) le = absurd (omega (arith, le))
settings_read check (_ ∷ room) a b c d e f [] le = and_true _
settings_read check (_ ∷ room) a b c d e f (w ∷ ws) le =
    let less : length ws ≤ length room = omega (arith, le) in
    let l = λ (o : Option Expected). config_so check (made a b c d e f) && goes check ws o in
    let r = λ (o : Option (Setting × Words)). meets (o >>= goes_on room (made a b c d e f)) (config_end check) in
    let ih = settings_read check room in
    split l r (bytes_eq w (codes "bw")) _ _ _ _ (bw_read check room a b c d e f ws ih less)
    (split l r (bytes_eq w (codes "delay")) _ _ _ _ (delay_read check room a b c d e f ws ih less)
    (split l r (bytes_eq w (codes "queue")) _ _ _ _ (queue_read check room a b c d e f ws ih less)
    (split l r (bytes_eq w (codes "plr")) _ _ _ _ (plr_read check room a b c d e f ws ih less)
    (split l r (bytes_eq w (codes "mask")) _ _ _ _ (mask_read check room a b c d e f ws ih less)
    (split l r (bytes_eq w (codes "codel")) _ _ _ _ (codel_read check room a b c d e f ws ih less)
    (bare_read check room a b c d e f (bare_of w) ws ih less))))))

config_is : (check : Check) (c : RawConfig) → config_so check c ≡ asked check (is_some (config_within c))
unfolding config_within
config_is check c = six check (within (unwrap_or c.bw 0) 0 10000000000) (within (unwrap_or c.delay 0) 0 60000) (queue_within c.queue) (within (unwrap_or c.plr 0) 0 1000000) (mask_within c.mask) (discipline_within c.discipline) _

nothing_so : (check : Check) → true ≡ config_so check no_options
unfolding queue_within mask_within discipline_within
nothing_so Forms = refl
nothing_so Ranges = refl

same_meets : {A : Type 0} (o : Option A) (f g : A → Bool) → ((a : A) → f a ≡ g a) → meets o f ≡ meets o g
same_meets None f g h = refl
same_meets (Some a) f g h = h a

pub options_read : (check : Check) (ws : Words) → accepts check (Pipe (pipe.Setting no_pipe)) ws ≡ meets (options_of ws) (λ c. asked check (is_some (config_within c)))
unfolding options_of phrases
options_read check ws =
    ap (λ (x : Bool). x && accepts check (Pipe (pipe.Setting no_pipe)) ws) (nothing_so check)
    ∙ settings_read check ws None None None None None None ws (omega arith)
    ∙ sym (meets_map (phrases_within any_word setting_at put_setting ws no_options ws) (λ x. x.0) (config_so check))
    ∙ same_meets (options_of ws) (config_so check) (λ c. asked check (is_some (config_within c))) (config_is check)
