-- The grammar of options: each form is defined by its words, whatever the numbers are.
use Rattle.std.specs.Prelude.{◌≡◌, ℕ, List, [], ◌∷◌, ◌++◌, Option, Some, None, option_to_list}
use Rattle.std.specs.List.{filter_map}
use lib.Chars.{codes}
use Rattle.control_words.specs.Words.{Words}
use Rattle.control_words.specs.Numbers.{number_of, rate_of, delay_of, queue_of, time_of, fraction_of, hex_of, timing_of}
use Rattle.control_words.specs.declared.raw_options.Time.{Time}
use Rattle.control_words.specs.declared.raw_options.Time.TheVariants.{Target, Interval}
use Rattle.control_words.specs.declared.raw_options.RawCodel.{RawCodel}
use Rattle.control_words.specs.declared.raw.RawQueue.{RawQueue}
use Rattle.control_words.specs.declared.raw.RawTiming.{RawTiming}
use Rattle.control_words.specs.declared.raw_options.Field.{Field}
use Rattle.control_words.specs.declared.raw_options.Field.TheVariants.{SrcIp, DstIp, SrcPort, DstPort, Proto}
use Rattle.control_words.specs.declared.raw_options.RawFields.{RawFields}
use Rattle.control_words.specs.declared.raw_options.RawMask.{RawMask}
use Rattle.control_words.specs.declared.raw_options.RawMask.TheVariants.{Everything, Fields}
use Rattle.control_words.specs.declared.raw_options.RawDiscipline.{RawDiscipline}
use Rattle.control_words.specs.declared.raw_options.BareDiscipline.{BareDiscipline}
use Rattle.control_words.specs.declared.raw_options.BareDiscipline.TheVariants.{TailDrop}
use Rattle.control_words.specs.declared.raw_options.RawDiscipline.TheVariants.{Bare, ControlledDelay}
use Rattle.control_words.specs.declared.raw_options.Setting.{Setting}
use Rattle.control_words.specs.declared.raw_options.Setting.TheVariants.{Bw, Delay, Queue, Plr, Mask, Discipline}
use Rattle.control_words.specs.declared.raw_options.RawConfig.{RawConfig}
use Rattle.control_words.specs.declared.raw_options.FlowSetting.{FlowSetting}
use Rattle.control_words.specs.declared.raw_options.FlowSetting.TheVariants.{Ssthresh, Window, Timing}
use Rattle.control_words.specs.declared.raw_options.RawFlowOptions.{RawFlowOptions}

-- these words are phrases for these values, one after the other
abbrev pub Are : {A : Type 0} → (Words → A → Type 0) → Words → List A → Type 0
Are P ws [] = ws ≡ []
Are P ws (a ∷ more) = (front rest : Words) × (ws ≡ front ++ rest) × P front a × Are P rest more

-- a keyword, and a word whose value is `a`
abbrev pub IsPair : {A : Type 0} → List ℕ → (List ℕ → Option A) → Words → A → Type 0
IsPair key says ws a = (v : List ℕ) × (ws ≡ key ∷ v ∷ []) × (says v ≡ Some a)

-- ---- codel {target T, interval T}
abbrev pub IsTime : Words → Time → Type 0
IsTime ws (Target n) = IsPair (codes "target") time_of ws n
IsTime ws (Interval n) = IsPair (codes "interval") time_of ws n

abbrev pub target_in : Time → Option ℕ
target_in (Target n) = Some n
target_in (Interval n) = None

abbrev pub interval_in : Time → Option ℕ
interval_in (Target n) = None
interval_in (Interval n) = Some n

-- each time at most once: `codel` has the one of its kind that is given, or none
abbrev pub HasTimes : List Time → RawCodel → Type 0
HasTimes times codel = (filter_map target_in times ≡ option_to_list codel.target)
    × (filter_map interval_in times ≡ option_to_list codel.interval)

-- ---- mask
abbrev pub IsField : Words → Field → Type 0
IsField ws (SrcIp n) = IsPair (codes "src-ip") (hex_of 8) ws n
IsField ws (DstIp n) = IsPair (codes "dst-ip") (hex_of 8) ws n
IsField ws (SrcPort n) = IsPair (codes "src-port") (hex_of 4) ws n
IsField ws (DstPort n) = IsPair (codes "dst-port") (hex_of 4) ws n
IsField ws (Proto n) = IsPair (codes "proto") (hex_of 2) ws n

abbrev pub src_ip_in : Field → Option ℕ
src_ip_in (SrcIp n) = Some n
src_ip_in _ = None

abbrev pub dst_ip_in : Field → Option ℕ
dst_ip_in (DstIp n) = Some n
dst_ip_in _ = None

abbrev pub src_port_in : Field → Option ℕ
src_port_in (SrcPort n) = Some n
src_port_in _ = None

abbrev pub dst_port_in : Field → Option ℕ
dst_port_in (DstPort n) = Some n
dst_port_in _ = None

abbrev pub proto_in : Field → Option ℕ
proto_in (Proto n) = Some n
proto_in _ = None

-- each field at most once
abbrev pub HasFields : List Field → RawFields → Type 0
HasFields all fields = (filter_map src_ip_in all ≡ option_to_list fields.src_ip)
    × (filter_map dst_ip_in all ≡ option_to_list fields.dst_ip)
    × (filter_map src_port_in all ≡ option_to_list fields.src_port)
    × (filter_map dst_port_in all ≡ option_to_list fields.dst_port)
    × (filter_map proto_in all ≡ option_to_list fields.proto)

-- ---- {OPTION}
-- `all`, or one or more fields
abbrev pub IsMask : Words → RawMask → Type 0
IsMask ws Everything = ws ≡ codes "all" ∷ []
IsMask ws (Fields fields) = (first : Field) × (more : List Field) × Are IsField ws (first ∷ more)
    × HasFields (first ∷ more) fields

abbrev pub bare_word : BareDiscipline → List ℕ
bare_word TailDrop = codes "droptail"

abbrev pub IsDiscipline : Words → RawDiscipline → Type 0
IsDiscipline ws (Bare bare) = ws ≡ bare_word bare ∷ []
IsDiscipline ws (ControlledDelay codel) = (rest : Words) × (times : List Time)
    × (ws ≡ codes "codel" ∷ rest) × Are IsTime rest times × HasTimes times codel

abbrev pub IsSetting : Words → Setting → Type 0
IsSetting ws (Bw n) = IsPair (codes "bw") rate_of ws n
IsSetting ws (Delay n) = IsPair (codes "delay") delay_of ws n
IsSetting ws (Queue queue) = IsPair (codes "queue") queue_of ws queue
IsSetting ws (Plr n) = IsPair (codes "plr") fraction_of ws n
IsSetting ws (Mask mask) = (rest : Words) × (ws ≡ codes "mask" ∷ rest) × IsMask rest mask
IsSetting ws (Discipline discipline) = IsDiscipline ws discipline

abbrev pub bw_in : Setting → Option ℕ
bw_in (Bw n) = Some n
bw_in _ = None

abbrev pub delay_in : Setting → Option ℕ
delay_in (Delay n) = Some n
delay_in _ = None

abbrev pub queue_in : Setting → Option RawQueue
queue_in (Queue queue) = Some queue
queue_in _ = None

abbrev pub plr_in : Setting → Option ℕ
plr_in (Plr n) = Some n
plr_in _ = None

abbrev pub mask_in : Setting → Option RawMask
mask_in (Mask mask) = Some mask
mask_in _ = None

abbrev pub discipline_in : Setting → Option RawDiscipline
discipline_in (Discipline discipline) = Some discipline
discipline_in _ = None

-- each option at most once, and at most one discipline
abbrev pub HasSettings : List Setting → RawConfig → Type 0
HasSettings all config = (filter_map bw_in all ≡ option_to_list config.bw)
    × (filter_map delay_in all ≡ option_to_list config.delay)
    × (filter_map queue_in all ≡ option_to_list config.queue)
    × (filter_map plr_in all ≡ option_to_list config.plr)
    × (filter_map mask_in all ≡ option_to_list config.mask)
    × (filter_map discipline_in all ≡ option_to_list config.discipline)

-- options in any order
abbrev pub AreOptions : Words → RawConfig → Type 0
AreOptions ws config = (all : List Setting) × Are IsSetting ws all × HasSettings all config

-- ---- {FLOWOPTION}
abbrev pub IsFlowSetting : Words → FlowSetting → Type 0
IsFlowSetting ws (Ssthresh n) = IsPair (codes "ssthresh") number_of ws n
IsFlowSetting ws (Window n) = IsPair (codes "window") number_of ws n
IsFlowSetting ws (Timing timing) = IsPair (codes "rto") timing_of ws timing

abbrev pub ssthresh_in : FlowSetting → Option ℕ
ssthresh_in (Ssthresh n) = Some n
ssthresh_in _ = None

abbrev pub window_in : FlowSetting → Option ℕ
window_in (Window n) = Some n
window_in _ = None

abbrev pub timing_in : FlowSetting → Option RawTiming
timing_in (Timing timing) = Some timing
timing_in _ = None

abbrev pub HasFlowSettings : List FlowSetting → RawFlowOptions → Type 0
HasFlowSettings all options = (filter_map ssthresh_in all ≡ option_to_list options.ssthresh)
    × (filter_map window_in all ≡ option_to_list options.window)
    × (filter_map timing_in all ≡ option_to_list options.timing)

abbrev pub AreFlowOptions : Words → RawFlowOptions → Type 0
AreFlowOptions ws options = (all : List FlowSetting) × Are IsFlowSetting ws all
    × HasFlowSettings all options
