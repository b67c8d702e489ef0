-- Parsing the options of a pipe and of a flow.
use Rattle.std.specs.Prelude.{ℕ, Bool, true, ◌||◌, List, Option, Some, None, if◌then◌else◌}
use Rattle.std.specs.Str.{bytes_eq}
use lib.Chars.{codes}
use Rattle.control_words.specs.Words.{Words, ◌>>=◌, next, said}
use Rattle.control_words.specs.Numbers.{number_of, rate_of, delay_of, queue_of, time_of, fraction_of, hex_of, timing_of}
use Rattle.control_words.specs.Phrases.{next_phrase, phrases}
use Rattle.control_words.specs.declared.raw_options.Time.{Time}
use Rattle.control_words.specs.declared.raw_options.Time.TheVariants.{Target, Interval}
use Rattle.control_words.specs.declared.raw_options.RawCodel.{RawCodel}
use Rattle.control_words.specs.declared.raw_options.Field.{Field}
use Rattle.control_words.specs.declared.raw_options.Field.TheVariants.{SrcIp, DstIp, SrcPort, DstPort, Proto}
use Rattle.control_words.specs.declared.raw_options.RawFields.{RawFields}
use Rattle.control_words.specs.declared.raw_options.RawMask.{RawMask}
use Rattle.control_words.specs.declared.raw_options.RawMask.TheVariants.{Everything, Fields}
use Rattle.control_words.specs.declared.raw_options.BareDiscipline.{BareDiscipline}
use Rattle.control_words.specs.declared.raw_options.BareDiscipline.TheVariants.{TailDrop}
use Rattle.control_words.specs.declared.raw_options.RawDiscipline.TheVariants.{Bare, ControlledDelay}
use Rattle.control_words.specs.declared.raw_options.Setting.{Setting}
use Rattle.control_words.specs.declared.raw_options.Setting.TheVariants.{Bw, Delay, Queue, Plr, Mask, Discipline}
use Rattle.control_words.specs.declared.raw_options.RawConfig.{RawConfig}
use Rattle.control_words.specs.declared.raw_options.FlowSetting.{FlowSetting}
use Rattle.control_words.specs.declared.raw_options.FlowSetting.TheVariants.{Ssthresh, Window, Timing}
use Rattle.control_words.specs.declared.raw_options.RawFlowOptions.{RawFlowOptions}

-- the new value, if there is no old one
abbrev pub once : {A : Type 0} → Option A → A → Option (Option A)
once None a = Some (Some a)
once (Some old) a = None

-- ---- codel {target T, interval T}
unfoldable pub is_time : List ℕ → Bool
is_time key = bytes_eq key (codes "target") || bytes_eq key (codes "interval")

unfoldable pub time_at : List ℕ → Words → Option (Time × Words)
time_at key ws = if bytes_eq key (codes "target") then said time_of Target ws
    else if bytes_eq key (codes "interval") then said time_of Interval ws
    else None

abbrev pub put_time : RawCodel → Time → Option RawCodel
put_time c (Target n) = do
  target ← once c.target n
  Some (record c { target = target })
put_time c (Interval n) = do
  interval ← once c.interval n
  Some (record c { interval = interval })

abbrev pub no_times : RawCodel
no_times = record { target = None; interval = None }

abbrev pub times_of : RawCodel → Words → Option (RawCodel × Words)
times_of c ws = phrases is_time time_at put_time c ws

-- ---- mask
unfoldable pub is_field : List ℕ → Bool
is_field key = bytes_eq key (codes "src-ip") || (bytes_eq key (codes "dst-ip") || (bytes_eq key (codes "src-port") || (bytes_eq key (codes "dst-port") || bytes_eq key (codes "proto"))))

unfoldable pub field_at : List ℕ → Words → Option (Field × Words)
field_at key ws = if bytes_eq key (codes "src-ip") then said (hex_of 8) SrcIp ws
    else if bytes_eq key (codes "dst-ip") then said (hex_of 8) DstIp ws
    else if bytes_eq key (codes "src-port") then said (hex_of 4) SrcPort ws
    else if bytes_eq key (codes "dst-port") then said (hex_of 4) DstPort ws
    else if bytes_eq key (codes "proto") then said (hex_of 2) Proto ws
    else None

abbrev pub put_field : RawFields → Field → Option RawFields
put_field c (SrcIp n) = do
  src_ip ← once c.src_ip n
  Some (record c { src_ip = src_ip })
put_field c (DstIp n) = do
  dst_ip ← once c.dst_ip n
  Some (record c { dst_ip = dst_ip })
put_field c (SrcPort n) = do
  src_port ← once c.src_port n
  Some (record c { src_port = src_port })
put_field c (DstPort n) = do
  dst_port ← once c.dst_port n
  Some (record c { dst_port = dst_port })
put_field c (Proto n) = do
  proto ← once c.proto n
  Some (record c { proto = proto })

abbrev pub no_fields : RawFields
no_fields = record { src_ip = None; dst_ip = None; src_port = None; dst_port = None; proto = None }

abbrev pub fields_of : RawFields → Words → Option (RawFields × Words)
fields_of c ws = phrases is_field field_at put_field c ws

-- at least one field
abbrev pub some_fields : Option Field × Words → Option (RawFields × Words)
some_fields first = do
  field ← first.0
  one ← put_field no_fields field
  fields_of one first.1

abbrev pub mask_fields_of : Words → Option (RawMask × Words)
mask_fields_of ws = do
  first ← next_phrase is_field field_at ws
  fields ← some_fields first
  Some (Fields fields.0, fields.1)

unfoldable pub mask_of : Words → Option (RawMask × Words)
mask_of ws = do
  first ← next ws
  if bytes_eq first.0 (codes "all") then Some (Everything, first.1) else mask_fields_of ws

-- ---- {OPTION}
abbrev pub mask_at : Words → Option (Setting × Words)
mask_at ws = do
  mask ← mask_of ws
  Some (Mask mask.0, mask.1)

abbrev pub codel_at : Words → Option (Setting × Words)
codel_at ws = do
  codel ← times_of no_times ws
  Some (Discipline (ControlledDelay codel.0), codel.1)

abbrev pub bare_of : List ℕ → Option BareDiscipline
bare_of key = if bytes_eq key (codes "droptail") then Some TailDrop else None

abbrev pub bare_at : List ℕ → Words → Option (Setting × Words)
bare_at key ws = do
  bare ← bare_of key
  Some (Discipline (Bare bare), ws)

unfoldable pub setting_at : List ℕ → Words → Option (Setting × Words)
setting_at key ws = if bytes_eq key (codes "bw") then said rate_of Bw ws
    else if bytes_eq key (codes "delay") then said delay_of Delay ws
    else if bytes_eq key (codes "queue") then said queue_of Queue ws
    else if bytes_eq key (codes "plr") then said fraction_of Plr ws
    else if bytes_eq key (codes "mask") then mask_at ws
    else if bytes_eq key (codes "codel") then codel_at ws
    else bare_at key ws

abbrev pub put_setting : RawConfig → Setting → Option RawConfig
put_setting c (Bw n) = do
  bw ← once c.bw n
  Some (record c { bw = bw })
put_setting c (Delay n) = do
  delay ← once c.delay n
  Some (record c { delay = delay })
put_setting c (Queue n) = do
  queue ← once c.queue n
  Some (record c { queue = queue })
put_setting c (Plr n) = do
  plr ← once c.plr n
  Some (record c { plr = plr })
put_setting c (Mask n) = do
  mask ← once c.mask n
  Some (record c { mask = mask })
put_setting c (Discipline n) = do
  discipline ← once c.discipline n
  Some (record c { discipline = discipline })

abbrev pub no_options : RawConfig
no_options = record { bw = None; delay = None; queue = None; plr = None; mask = None; discipline = None }

abbrev pub any_word : List ℕ → Bool
any_word word = true

unfoldable pub options_of : Words → Option RawConfig
options_of ws = do
  all ← phrases any_word setting_at put_setting no_options ws
  Some all.0

-- ---- {FLOWOPTION}
unfoldable pub flow_setting_at : List ℕ → Words → Option (FlowSetting × Words)
flow_setting_at key ws = if bytes_eq key (codes "ssthresh") then said number_of Ssthresh ws
    else if bytes_eq key (codes "window") then said number_of Window ws
    else if bytes_eq key (codes "rto") then said timing_of Timing ws
    else None

abbrev pub put_flow_setting : RawFlowOptions → FlowSetting → Option RawFlowOptions
put_flow_setting c (Ssthresh n) = do
  ssthresh ← once c.ssthresh n
  Some (record c { ssthresh = ssthresh })
put_flow_setting c (Window n) = do
  window ← once c.window n
  Some (record c { window = window })
put_flow_setting c (Timing n) = do
  timing ← once c.timing n
  Some (record c { timing = timing })

abbrev pub no_flow_options : RawFlowOptions
no_flow_options = record { ssthresh = None; window = None; timing = None }

unfoldable pub flow_options_of : Words → Option RawFlowOptions
flow_options_of ws = do
  all ← phrases any_word flow_setting_at put_flow_setting no_flow_options ws
  Some all.0
