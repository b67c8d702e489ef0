-- A flow, as it is walked and as it is read.
use Rattle.std.proofs.Common.{◌≡◌, ℕ, ◌≤◌, Bool, true, false, List, [], ◌∷◌, length, Option, Some, None, refl, sym, ap, ◌∙◌, arith}
use Rattle.std.specs.Prelude.{◌&&◌, unwrap_or}
use Rattle.std.specs.Option.{is_some}
use Rattle.std.specs.Str.{bytes_eq}
use lib.Chars.{codes}
use Rattle.control_words.specs.Words.{Words, ◌>>=◌, said}
use Rattle.control_words.specs.Numbers.{number_of, timing_of}
use Rattle.control_words.specs.declared.raw.RawTiming.{RawTiming}
use Rattle.control_words.specs.Phrases.{phrases, phrases_within}
use Rattle.control_words.specs.Options.{any_word, flow_setting_at, put_flow_setting, no_flow_options, flow_options_of}
use Rattle.control_words.specs.declared.raw_options.FlowSetting.{FlowSetting}
use Rattle.control_words.specs.declared.raw_options.FlowSetting.TheVariants as settings
use Rattle.control_words.specs.declared.raw_options.RawFlowOptions.{RawFlowOptions}
use Rattle.control_lines.specs.Ranges.{within, address_within, timing_within, flow_spec_within, flow_within}
use Rattle.control_lines.specs.Shape.{ends_of, flow_of}
use Rattle.control.specs.declared.word_fault.Check.{Check}
use Rattle.control.specs.declared.word_fault.Check.TheVariants.{Forms, Ranges}
use Rattle.control.specs.declared.expected.Expected.TheVariants.{Flow}
use Rattle.control.specs.declared.expected.EndsWord.{EndsWord}
use Rattle.control.specs.declared.expected.EndsWord.TheVariants as ends
use Rattle.control.specs.declared.expected.FlowSeen.{FlowSeen}
use Rattle.control.specs.declared.expected.FlowWord.TheVariants as flow
use Rattle.control.specs.Choices.{unless}
use Rattle.control.specs.Forms.{asked}
use Rattle.control.specs.Values.{no_flow}
use Rattle.control.specs.Walk.{may_end, next}
use Rattle.control.proofs.Steps.{accepts, behind, meets, reads_step, step, value_step, word_step, said_step, said_refused, split, meets_map, and_false, and_true, first_in, next_in, before}
use Rattle.control.proofs.Packets.{ends_so, EndsStand, ends_read}

abbrev made : Option ℕ → Option ℕ → Option RawTiming → RawFlowOptions
made a b c = record { ssthresh = a; window = b; timing = c }

abbrev stood : Option ℕ → Option ℕ → Option RawTiming → FlowSeen
stood a b c = record { ssthresh = is_some a; window = is_some b; timing = is_some c }

abbrev threshold_so : Check → Option ℕ → Bool
threshold_so check o = asked check (is_some (within (unwrap_or o 65535) 1 1000000000))

abbrev window_so : Check → Option ℕ → Bool
window_so check o = asked check (is_some (within (unwrap_or o 65535) 1 65535))

abbrev timing_so : Check → Option RawTiming → Bool
timing_so check o = asked check (is_some (timing_within o))

abbrev options_so : Check → RawFlowOptions → Bool
options_so check o = (threshold_so check o.ssthresh && window_so check o.window) && timing_so check o.timing

-- the options are read from here on, these having stood before
abbrev Read : Check → Words → Option ℕ → Option ℕ → Option RawTiming → Words → Type 0
Read check room a b c ws = (options_so check (made a b c) && accepts check (Flow (flow.Setting (stood a b c))) ws) ≡ meets (phrases_within any_word flow_setting_at put_flow_setting room (made a b c) ws) (λ x. options_so check x.0)

-- what is read behind an option
abbrev goes_on : Words → RawFlowOptions → FlowSetting × Words → Option (RawFlowOptions × Words)
goes_on room c a = put_flow_setting c a.0 >>= λ d. phrases_within any_word flow_setting_at put_flow_setting room d a.1

abbrev ReadBehind : Check → Words → Type 0
ReadBehind check room = (a b : Option ℕ) (c : Option RawTiming) (ws : Words) → length ws ≤ length room → Read check room a b c ws

abbrev options_end : Check → RawFlowOptions × Words → Bool
options_end check x = options_so check x.0

ssthresh_read : (check : Check) (room : Words) (a b : Option ℕ) (c : Option RawTiming) (k : List ℕ) (ws : Words) → ReadBehind check room → length ws ≤ length room → (options_so check (made a b c) && behind check (Flow (flow.Setting (stood a b c))) k ws (unless (is_some a) (Flow (flow.Ssthresh (stood (Some 0) b c))))) ≡ meets (said number_of settings.Ssthresh ws >>= goes_on room (made a b c)) (options_end check)
unfolding next
ssthresh_read check room (Some x) b c k ws ih le = said_refused _ number_of settings.Ssthresh _ (options_end check) ws (λ n tail. refl)
ssthresh_read check room None b c k ws ih le = said_step check _ (Flow (flow.Ssthresh (stood (Some 0) b c))) number_of (λ n. is_some (within n 1 1000000000)) settings.Ssthresh (Flow (flow.Setting (stood (Some 0) b c))) _ (options_end check) (λ _. refl) refl ws (λ v tail e n.
    ap (λ (x : Bool). x && accepts check (Flow (flow.Setting (stood (Some n) b c))) tail) (before _ (timing_so check c) _ _ (before _ (window_so check b) _ _ (first_in check (threshold_so check (Some n)))))
    ∙ ih (Some n) b c tail (omega (arith, ap length e, le)))

window_read : (check : Check) (room : Words) (a b : Option ℕ) (c : Option RawTiming) (k : List ℕ) (ws : Words) → ReadBehind check room → length ws ≤ length room → (options_so check (made a b c) && behind check (Flow (flow.Setting (stood a b c))) k ws (unless (is_some b) (Flow (flow.Window (stood a (Some 0) c))))) ≡ meets (said number_of settings.Window ws >>= goes_on room (made a b c)) (options_end check)
unfolding next
window_read check room a (Some x) c k ws ih le = said_refused _ number_of settings.Window _ (options_end check) ws (λ n tail. refl)
window_read check room a None c k ws ih le = said_step check _ (Flow (flow.Window (stood a (Some 0) c))) number_of (λ n. is_some (within n 1 65535)) settings.Window (Flow (flow.Setting (stood a (Some 0) c))) _ (options_end check) (λ _. refl) refl ws (λ v tail e n.
    ap (λ (x : Bool). x && accepts check (Flow (flow.Setting (stood a (Some n) c))) tail) (before _ (timing_so check c) _ _ (next_in check (threshold_so check a) (window_so check (Some n))))
    ∙ ih a (Some n) c tail (omega (arith, ap length e, le)))

abbrev with_timing : Option ℕ → Option ℕ → FlowSeen
with_timing a b = record { ssthresh = is_some a; window = is_some b; timing = true }

timing_read : (check : Check) (room : Words) (a b : Option ℕ) (c : Option RawTiming) (k : List ℕ) (ws : Words) → ReadBehind check room → length ws ≤ length room → (options_so check (made a b c) && behind check (Flow (flow.Setting (stood a b c))) k ws (unless (is_some c) (Flow (flow.Timing (with_timing a b))))) ≡ meets (said timing_of settings.Timing ws >>= goes_on room (made a b c)) (options_end check)
unfolding next timing_within
timing_read check room a b (Some x) k ws ih le = said_refused _ timing_of settings.Timing _ (options_end check) ws (λ n tail. refl)
timing_read check room a b None k ws ih le = said_step check _ (Flow (flow.Timing (with_timing a b))) timing_of (λ t. is_some (timing_within (Some t))) settings.Timing (Flow (flow.Setting (with_timing a b))) _ (options_end check) (λ _. refl) refl ws (λ v tail e n.
    ap (λ (x : Bool). x && accepts check (Flow (flow.Setting (with_timing a b))) tail) (next_in check (threshold_so check a && window_so check b) (timing_so check (Some n)))
    ∙ ih a b (Some n) tail (omega (arith, ap length e, le)))

settings_read : (check : Check) (room : Words) → ReadBehind check room
unfolding next flow_setting_at
settings_read check [] a b c [] le = and_true _
settings_read check [] a b c (k ∷ ws) le = absurd (omega (arith, le))
settings_read check (_ ∷ room) a b c [] le = and_true _
settings_read check (_ ∷ room) a b c (k ∷ ws) le =
    let less : length ws ≤ length room = omega (arith, le) in
    let l = λ (o : Option _). options_so check (made a b c) && behind check (Flow (flow.Setting (stood a b c))) k ws o in
    let r = λ (o : Option (FlowSetting × Words)). meets (o >>= goes_on room (made a b c)) (options_end check) in
    split l r (bytes_eq k (codes "ssthresh")) _ _ _ _ (ssthresh_read check room a b c k ws (settings_read check room) less)
    (split l r (bytes_eq k (codes "window")) _ _ _ _ (window_read check room a b c k ws (settings_read check room) less)
    (split l r (bytes_eq k (codes "rto")) _ _ _ _ (timing_read check room a b c k ws (settings_read check room) less)
    (and_false _)))

nothing_so : (check : Check) → true ≡ options_so check (made None None None)
unfolding timing_within
nothing_so Forms = refl
nothing_so Ranges = refl

options_read : (check : Check) (ws : Words) → accepts check (Flow (flow.Setting no_flow)) ws ≡ meets (flow_options_of ws) (options_so check)
unfolding flow_options_of phrases
options_read check ws =
    ap (λ (x : Bool). x && accepts check (Flow (flow.Setting no_flow)) ws) (nothing_so check)
    ∙ settings_read check ws None None None ws (omega arith)
    ∙ sym (meets_map (phrases_within any_word flow_setting_at put_flow_setting ws no_flow_options ws) (λ x. x.0) (options_so check))

flow_more : (word : EndsWord) → may_end (Flow (flow.Ends word)) ≡ false
flow_more ends.Source = refl
flow_more ends.SourcePort = refl
flow_more ends.Destination = refl
flow_more ends.DestinationPort = refl

flow_stands : (check : Check) → EndsStand check (λ word. Flow (flow.Ends word)) (Flow flow.SmssWord)
unfolding next
flow_stands check = record { source = λ _. refl; source_port = λ _. refl; destination = λ _. refl; destination_port = λ _. refl; more = flow_more }

abbrev is_so : {A : Type 0} → Check → Option A → Bool
is_so check o = asked check (is_some o)

ten : {N A B C D E F G H I X Y : Type 0} (check : Check) (n : Option N) (a : Option A) (b : Option B) (c : Option C) (d : Option D) (e : Option E) (f : Option F) (g : Option G) (h : Option H) (i : Option I) (make : A → B → C → D → E → F → G → H → I → X) (with : N → X → Y) → ((((is_so check n && (((is_so check a && is_so check b) && is_so check c) && is_so check d)) && is_so check e) && is_so check f) && ((is_so check g && is_so check h) && is_so check i)) ≡ is_so check (n >>= λ m. ((a >>= λ q. b >>= λ r. c >>= λ s. d >>= λ t. e >>= λ u. f >>= λ v. g >>= λ w. h >>= λ x. i >>= λ y. Some (make q r s t u v w x y)) >>= λ z. Some (with m z)))
ten Forms n a b c d e f g h i make with = refl
ten Ranges None a b c d e f g h i make with = refl
ten Ranges (Some m) None b c d e f g h i make with = refl
ten Ranges (Some m) (Some q) None c d e f g h i make with = refl
ten Ranges (Some m) (Some q) (Some r) None d e f g h i make with = refl
ten Ranges (Some m) (Some q) (Some r) (Some s) None e f g h i make with = refl
ten Ranges (Some m) (Some q) (Some r) (Some s) (Some t) None f g h i make with = refl
ten Ranges (Some m) (Some q) (Some r) (Some s) (Some t) (Some u) None g h i make with = refl
ten Ranges (Some m) (Some q) (Some r) (Some s) (Some t) (Some u) (Some v) None h i make with = refl
ten Ranges (Some m) (Some q) (Some r) (Some s) (Some t) (Some u) (Some v) (Some w) None i make with = refl
ten Ranges (Some m) (Some q) (Some r) (Some s) (Some t) (Some u) (Some v) (Some w) (Some x) None make with = refl
ten Ranges (Some m) (Some q) (Some r) (Some s) (Some t) (Some u) (Some v) (Some w) (Some x) (Some y) make with = refl

pub flow_read : (check : Check) (ws : Words) → accepts check (Flow flow.Number) ws ≡ meets (flow_of ws) (λ f. asked check (is_some (flow_within f)))
unfolding next flow_of flow_within flow_spec_within
flow_read check ws =
    value_step check true (Flow flow.Number) number_of (λ n. is_some (within n 1 65535)) (Flow (flow.Ends ends.Source)) _ _ (λ _. refl) refl (λ number.
    reads_step _ _ (ends_of number.1) (λ x. ends_so check x.0) (λ x. accepts check (Flow flow.SmssWord) x.1) _ _ (ends_read check (λ word. Flow (flow.Ends word)) (Flow flow.SmssWord) (flow_stands check) number.1) (λ ends.
    word_step check _ (Flow flow.SmssWord) (codes "smss") (Flow flow.Smss) _ _ (λ _. refl) refl (λ from_smss.
    value_step check _ (Flow flow.Smss) number_of (λ n. is_some (within n 64 1460)) (Flow flow.SegmentsWord) _ _ (λ _. refl) refl (λ smss.
    word_step check _ (Flow flow.SegmentsWord) (codes "segments") (Flow flow.Segments) _ _ (λ _. refl) refl (λ from_segments.
    value_step check _ (Flow flow.Segments) number_of (λ n. is_some (within n 1 1000000)) (Flow (flow.Setting no_flow)) _ _ (λ _. refl) refl (λ segments.
    step _ _ (flow_options_of segments.1) (options_so check) _ _ (options_read check segments.1) (λ o.
    ten check (within number.0 1 65535) (address_within ends.0.src) (within ends.0.sport 0 65535) (address_within ends.0.dst) (within ends.0.dport 0 65535) (within smss.0 64 1460) (within segments.0 1 1000000) (within (unwrap_or o.ssthresh 65535) 1 1000000000) (within (unwrap_or o.window 65535) 1 65535) (timing_within o.timing) _ _))
    from_segments) smss.1) from_smss) ends.1)) ws
