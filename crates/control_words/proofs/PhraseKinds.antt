-- The kinds of phrases, and that each is added once at most.
use Rattle.std.proofs.Common.{◌≡◌, inl, inr, ℕ, List, [], ◌∷◌, ◌++◌, Option, Some, None, refl, ap, ◌∙◌}
use Rattle.std.specs.Prelude.{option_to_list}
use Rattle.std.specs.List.{filter_map}
use Rattle.std.specs.Str.{bytes_eq}
use Rattle.std.proofs.lemmas.List.{append-nil}
use Rattle.std.proofs.lemmas.Option.{same_Some, none-some}
use lib.Chars.{codes}
use Rattle.control_words.specs.Words.{Words}
use Rattle.control_words.specs.Numbers.{number_of, time_of, hex_of, timing_of}
use Rattle.control_words.specs.Phrases.{next_phrase}
use Rattle.control_words.specs.Options.{is_time, time_at, put_time, is_field, field_at, put_field, put_setting, any_word, flow_setting_at, put_flow_setting}
use Rattle.control_words.specs.Grammar.{IsTime, target_in, interval_in, HasTimes, IsField, src_ip_in, dst_ip_in, src_port_in, dst_port_in, proto_in, HasFields, bw_in, delay_in, queue_in, plr_in, mask_in, discipline_in, HasSettings, IsFlowSetting, ssthresh_in, window_in, timing_in, HasFlowSettings}
use Rattle.control_words.proofs.Phrases.{chosen, put_all, Finds, Shrinks}
use Rattle.control_words.proofs.Pairs.{FindsPairs, pair_found, shrinks_by, finds_by}
use Rattle.control_words.specs.declared.raw_options.Time.{Time}
use Rattle.control_words.specs.declared.raw_options.Time.TheVariants.{Target, Interval}
use Rattle.control_words.specs.declared.raw_options.RawCodel.{RawCodel}
use Rattle.control_words.specs.declared.raw_options.Field.{Field}
use Rattle.control_words.specs.declared.raw_options.Field.TheVariants.{SrcIp, DstIp, SrcPort, DstPort, Proto}
use Rattle.control_words.specs.declared.raw_options.RawFields.{RawFields}
use Rattle.control_words.specs.declared.raw.RawQueue.{RawQueue}
use Rattle.control_words.specs.declared.raw_options.RawMask.{RawMask}
use Rattle.control_words.specs.declared.raw_options.RawDiscipline.{RawDiscipline}
use Rattle.control_words.specs.declared.raw_options.Setting.{Setting}
use Rattle.control_words.specs.declared.raw_options.Setting.TheVariants.{Bw, Delay, Queue, Plr, Mask, Discipline}
use Rattle.control_words.specs.declared.raw_options.RawConfig.{RawConfig}
use Rattle.control_words.specs.declared.raw.RawTiming.{RawTiming}
use Rattle.control_words.specs.declared.raw_options.FlowSetting.{FlowSetting}
use Rattle.control_words.specs.declared.raw_options.FlowSetting.TheVariants.{Ssthresh, Window, Timing}
use Rattle.control_words.specs.declared.raw_options.RawFlowOptions.{RawFlowOptions}

same_option : {A : Type 0} (o r : Option A) → option_to_list o ++ [] ≡ option_to_list r → o ≡ r
same_option None None e = refl
same_option None (Some z) e = absurd cc
same_option (Some y) None e = absurd cc
same_option (Some y) (Some z) e = cc

-- an option doesn't hold two
two : {A : Type 0} (x y : A) (xs : List A) (o : Option A) → x ∷ y ∷ xs ≡ option_to_list o → ⊥
two x y xs None e = cc
two x y xs (Some z) e = cc

pub time_pairs : FindsPairs IsTime time_at
unfolding time_at
time_pairs k ws a rest e =
    let end : Time × Words = (a, rest) in
    elim (chosen (bytes_eq k (codes "target")) _ _ (Some end) e) [
      | inl p ↦ pair_found (codes "target") time_of Target IsTime k ws a rest (λ v n h. (v, refl, h)) p.0 p.1
      | inr q0 ↦
          elim (chosen (bytes_eq k (codes "interval")) _ _ (Some end) q0.1) [
            | inl p ↦ pair_found (codes "interval") time_of Interval IsTime k ws a rest (λ v n h. (v, refl, h)) p.0 p.1
            | inr q1 ↦ absurd (none-some end q1.1)
          ]
    ]

pub time_shrinks : Shrinks time_at
time_shrinks = shrinks_by IsTime time_at time_pairs

pub time_finds : Finds IsTime time_at
time_finds = finds_by IsTime time_at time_pairs

pub time_again : (front rest : Words) (a : Time) → IsTime front a → next_phrase is_time time_at (front ++ rest) ≡ Some (Some a, rest)
unfolding is_time time_at
time_again front rest (Target n) h = ap (λ (f : Words). next_phrase is_time time_at (f ++ rest)) h.1 ∙ rw h.2 refl
time_again front rest (Interval n) h = ap (λ (f : Words). next_phrase is_time time_at (f ++ rest)) h.1 ∙ rw h.2 refl

abbrev times_made : Option ℕ → Option ℕ → RawCodel
times_made x0 x1 = record { target = x0; interval = x1 }

-- what is added is what stands in the end
times_have : (x0 : Option ℕ) (x1 : Option ℕ) (all : List Time) (d : RawCodel) → put_all put_time (times_made x0 x1) all ≡ Some d → (option_to_list x0 ++ filter_map target_in all ≡ option_to_list d.target) × (option_to_list x1 ++ filter_map interval_in all ≡ option_to_list d.interval)
times_have x0 x1 [] d e =
    let s = same_Some (times_made x0 x1) d e in
    (append-nil (option_to_list x0) ∙ ap (λ (x : RawCodel). option_to_list x.target) s, append-nil (option_to_list x1) ∙ ap (λ (x : RawCodel). option_to_list x.interval) s)
times_have None x1 (Target n ∷ all) d e = times_have (Some n) x1 all d e
times_have (Some y) x1 (Target n ∷ all) d e = absurd cc
times_have x0 None (Interval n ∷ all) d e = times_have x0 (Some n) all d e
times_have x0 (Some y) (Interval n ∷ all) d e = absurd cc

times_put : (x0 : Option ℕ) (x1 : Option ℕ) (all : List Time) (d : RawCodel) → (option_to_list x0 ++ filter_map target_in all ≡ option_to_list d.target) × (option_to_list x1 ++ filter_map interval_in all ≡ option_to_list d.interval) → put_all put_time (times_made x0 x1) all ≡ Some d
times_put x0 x1 [] d h =
    let e0 = same_option x0 d.target h.0 in
    let e1 = same_option x1 d.interval h.1 in
    rw (e0, e1) refl
times_put None x1 (Target n ∷ all) d h = times_put (Some n) x1 all d h
times_put (Some y) x1 (Target n ∷ all) d h = absurd (two y n (filter_map target_in all) d.target h.0)
times_put x0 None (Interval n ∷ all) d h = times_put x0 (Some n) all d h
times_put x0 (Some y) (Interval n ∷ all) d h = absurd (two y n (filter_map interval_in all) d.interval h.1)

pub has_times : (all : List Time) (d : RawCodel) → put_all put_time (times_made None None) all ≡ Some d → HasTimes all d
has_times all d e = times_have None None all d e

pub puts_times : (all : List Time) (d : RawCodel) → HasTimes all d → put_all put_time (times_made None None) all ≡ Some d
puts_times all d h = times_put None None all d h

pub field_pairs : FindsPairs IsField field_at
unfolding field_at
field_pairs k ws a rest e =
    let end : Field × Words = (a, rest) in
    elim (chosen (bytes_eq k (codes "src-ip")) _ _ (Some end) e) [
      | inl p ↦ pair_found (codes "src-ip") (hex_of 8) SrcIp IsField k ws a rest (λ v n h. (v, refl, h)) p.0 p.1
      | inr q0 ↦
          elim (chosen (bytes_eq k (codes "dst-ip")) _ _ (Some end) q0.1) [
            | inl p ↦ pair_found (codes "dst-ip") (hex_of 8) DstIp IsField k ws a rest (λ v n h. (v, refl, h)) p.0 p.1
            | inr q1 ↦
                elim (chosen (bytes_eq k (codes "src-port")) _ _ (Some end) q1.1) [
                  | inl p ↦ pair_found (codes "src-port") (hex_of 4) SrcPort IsField k ws a rest (λ v n h. (v, refl, h)) p.0 p.1
                  | inr q2 ↦
                      elim (chosen (bytes_eq k (codes "dst-port")) _ _ (Some end) q2.1) [
                        | inl p ↦ pair_found (codes "dst-port") (hex_of 4) DstPort IsField k ws a rest (λ v n h. (v, refl, h)) p.0 p.1
                        | inr q3 ↦
                            elim (chosen (bytes_eq k (codes "proto")) _ _ (Some end) q3.1) [
                              | inl p ↦ pair_found (codes "proto") (hex_of 2) Proto IsField k ws a rest (λ v n h. (v, refl, h)) p.0 p.1
                              | inr q4 ↦ absurd (none-some end q4.1)
                            ]
                      ]
                ]
          ]
    ]

pub field_shrinks : Shrinks field_at
field_shrinks = shrinks_by IsField field_at field_pairs

pub field_finds : Finds IsField field_at
field_finds = finds_by IsField field_at field_pairs

pub field_again : (front rest : Words) (a : Field) → IsField front a → next_phrase is_field field_at (front ++ rest) ≡ Some (Some a, rest)
unfolding is_field field_at
field_again front rest (SrcIp n) h = ap (λ (f : Words). next_phrase is_field field_at (f ++ rest)) h.1 ∙ rw h.2 refl
field_again front rest (DstIp n) h = ap (λ (f : Words). next_phrase is_field field_at (f ++ rest)) h.1 ∙ rw h.2 refl
field_again front rest (SrcPort n) h = ap (λ (f : Words). next_phrase is_field field_at (f ++ rest)) h.1 ∙ rw h.2 refl
field_again front rest (DstPort n) h = ap (λ (f : Words). next_phrase is_field field_at (f ++ rest)) h.1 ∙ rw h.2 refl
field_again front rest (Proto n) h = ap (λ (f : Words). next_phrase is_field field_at (f ++ rest)) h.1 ∙ rw h.2 refl

abbrev fields_made : Option ℕ → Option ℕ → Option ℕ → Option ℕ → Option ℕ → RawFields
fields_made x0 x1 x2 x3 x4 = record { src_ip = x0; dst_ip = x1; src_port = x2; dst_port = x3; proto = x4 }

-- what is added is what stands in the end
fields_have : (x0 : Option ℕ) (x1 : Option ℕ) (x2 : Option ℕ) (x3 : Option ℕ) (x4 : Option ℕ) (all : List Field) (d : RawFields) → put_all put_field (fields_made x0 x1 x2 x3 x4) all ≡ Some d → (option_to_list x0 ++ filter_map src_ip_in all ≡ option_to_list d.src_ip) × (option_to_list x1 ++ filter_map dst_ip_in all ≡ option_to_list d.dst_ip) × (option_to_list x2 ++ filter_map src_port_in all ≡ option_to_list d.src_port) × (option_to_list x3 ++ filter_map dst_port_in all ≡ option_to_list d.dst_port) × (option_to_list x4 ++ filter_map proto_in all ≡ option_to_list d.proto)
fields_have x0 x1 x2 x3 x4 [] d e =
    let s = same_Some (fields_made x0 x1 x2 x3 x4) d e in
    (append-nil (option_to_list x0) ∙ ap (λ (x : RawFields). option_to_list x.src_ip) s, append-nil (option_to_list x1) ∙ ap (λ (x : RawFields). option_to_list x.dst_ip) s, append-nil (option_to_list x2) ∙ ap (λ (x : RawFields). option_to_list x.src_port) s, append-nil (option_to_list x3) ∙ ap (λ (x : RawFields). option_to_list x.dst_port) s, append-nil (option_to_list x4) ∙ ap (λ (x : RawFields). option_to_list x.proto) s)
fields_have None x1 x2 x3 x4 (SrcIp n ∷ all) d e = fields_have (Some n) x1 x2 x3 x4 all d e
fields_have (Some y) x1 x2 x3 x4 (SrcIp n ∷ all) d e = absurd cc
fields_have x0 None x2 x3 x4 (DstIp n ∷ all) d e = fields_have x0 (Some n) x2 x3 x4 all d e
fields_have x0 (Some y) x2 x3 x4 (DstIp n ∷ all) d e = absurd cc
fields_have x0 x1 None x3 x4 (SrcPort n ∷ all) d e = fields_have x0 x1 (Some n) x3 x4 all d e
fields_have x0 x1 (Some y) x3 x4 (SrcPort n ∷ all) d e = absurd cc
fields_have x0 x1 x2 None x4 (DstPort n ∷ all) d e = fields_have x0 x1 x2 (Some n) x4 all d e
fields_have x0 x1 x2 (Some y) x4 (DstPort n ∷ all) d e = absurd cc
fields_have x0 x1 x2 x3 None (Proto n ∷ all) d e = fields_have x0 x1 x2 x3 (Some n) all d e
fields_have x0 x1 x2 x3 (Some y) (Proto n ∷ all) d e = absurd cc

fields_put : (x0 : Option ℕ) (x1 : Option ℕ) (x2 : Option ℕ) (x3 : Option ℕ) (x4 : Option ℕ) (all : List Field) (d : RawFields) → (option_to_list x0 ++ filter_map src_ip_in all ≡ option_to_list d.src_ip) × (option_to_list x1 ++ filter_map dst_ip_in all ≡ option_to_list d.dst_ip) × (option_to_list x2 ++ filter_map src_port_in all ≡ option_to_list d.src_port) × (option_to_list x3 ++ filter_map dst_port_in all ≡ option_to_list d.dst_port) × (option_to_list x4 ++ filter_map proto_in all ≡ option_to_list d.proto) → put_all put_field (fields_made x0 x1 x2 x3 x4) all ≡ Some d
fields_put x0 x1 x2 x3 x4 [] d h =
    let e0 = same_option x0 d.src_ip h.0 in
    let e1 = same_option x1 d.dst_ip h.1 in
    let e2 = same_option x2 d.src_port h.2 in
    let e3 = same_option x3 d.dst_port h.3 in
    let e4 = same_option x4 d.proto h.4 in
    rw (e0, e1, e2, e3, e4) refl
fields_put None x1 x2 x3 x4 (SrcIp n ∷ all) d h = fields_put (Some n) x1 x2 x3 x4 all d h
fields_put (Some y) x1 x2 x3 x4 (SrcIp n ∷ all) d h = absurd (two y n (filter_map src_ip_in all) d.src_ip h.0)
fields_put x0 None x2 x3 x4 (DstIp n ∷ all) d h = fields_put x0 (Some n) x2 x3 x4 all d h
fields_put x0 (Some y) x2 x3 x4 (DstIp n ∷ all) d h = absurd (two y n (filter_map dst_ip_in all) d.dst_ip h.1)
fields_put x0 x1 None x3 x4 (SrcPort n ∷ all) d h = fields_put x0 x1 (Some n) x3 x4 all d h
fields_put x0 x1 (Some y) x3 x4 (SrcPort n ∷ all) d h = absurd (two y n (filter_map src_port_in all) d.src_port h.2)
fields_put x0 x1 x2 None x4 (DstPort n ∷ all) d h = fields_put x0 x1 x2 (Some n) x4 all d h
fields_put x0 x1 x2 (Some y) x4 (DstPort n ∷ all) d h = absurd (two y n (filter_map dst_port_in all) d.dst_port h.3)
fields_put x0 x1 x2 x3 None (Proto n ∷ all) d h = fields_put x0 x1 x2 x3 (Some n) all d h
fields_put x0 x1 x2 x3 (Some y) (Proto n ∷ all) d h = absurd (two y n (filter_map proto_in all) d.proto h.4)

pub has_fields : (all : List Field) (d : RawFields) → put_all put_field (fields_made None None None None None) all ≡ Some d → HasFields all d
has_fields all d e = fields_have None None None None None all d e

pub puts_fields : (all : List Field) (d : RawFields) → HasFields all d → put_all put_field (fields_made None None None None None) all ≡ Some d
puts_fields all d h = fields_put None None None None None all d h

abbrev settings_made : Option ℕ → Option ℕ → Option RawQueue → Option ℕ → Option RawMask → Option RawDiscipline → RawConfig
settings_made x0 x1 x2 x3 x4 x5 = record { bw = x0; delay = x1; queue = x2; plr = x3; mask = x4; discipline = x5 }

-- what is added is what stands in the end
settings_have : (x0 : Option ℕ) (x1 : Option ℕ) (x2 : Option RawQueue) (x3 : Option ℕ) (x4 : Option RawMask) (x5 : Option RawDiscipline) (all : List Setting) (d : RawConfig) → put_all put_setting (settings_made x0 x1 x2 x3 x4 x5) all ≡ Some d → (option_to_list x0 ++ filter_map bw_in all ≡ option_to_list d.bw) × (option_to_list x1 ++ filter_map delay_in all ≡ option_to_list d.delay) × (option_to_list x2 ++ filter_map queue_in all ≡ option_to_list d.queue) × (option_to_list x3 ++ filter_map plr_in all ≡ option_to_list d.plr) × (option_to_list x4 ++ filter_map mask_in all ≡ option_to_list d.mask) × (option_to_list x5 ++ filter_map discipline_in all ≡ option_to_list d.discipline)
settings_have x0 x1 x2 x3 x4 x5 [] d e =
    let s = same_Some (settings_made x0 x1 x2 x3 x4 x5) d e in
    (append-nil (option_to_list x0) ∙ ap (λ (x : RawConfig). option_to_list x.bw) s, append-nil (option_to_list x1) ∙ ap (λ (x : RawConfig). option_to_list x.delay) s, append-nil (option_to_list x2) ∙ ap (λ (x : RawConfig). option_to_list x.queue) s, append-nil (option_to_list x3) ∙ ap (λ (x : RawConfig). option_to_list x.plr) s, append-nil (option_to_list x4) ∙ ap (λ (x : RawConfig). option_to_list x.mask) s, append-nil (option_to_list x5) ∙ ap (λ (x : RawConfig). option_to_list x.discipline) s)
settings_have None x1 x2 x3 x4 x5 (Bw n ∷ all) d e = settings_have (Some n) x1 x2 x3 x4 x5 all d e
settings_have (Some y) x1 x2 x3 x4 x5 (Bw n ∷ all) d e = absurd cc
settings_have x0 None x2 x3 x4 x5 (Delay n ∷ all) d e = settings_have x0 (Some n) x2 x3 x4 x5 all d e
settings_have x0 (Some y) x2 x3 x4 x5 (Delay n ∷ all) d e = absurd cc
settings_have x0 x1 None x3 x4 x5 (Queue n ∷ all) d e = settings_have x0 x1 (Some n) x3 x4 x5 all d e
settings_have x0 x1 (Some y) x3 x4 x5 (Queue n ∷ all) d e = absurd cc
settings_have x0 x1 x2 None x4 x5 (Plr n ∷ all) d e = settings_have x0 x1 x2 (Some n) x4 x5 all d e
settings_have x0 x1 x2 (Some y) x4 x5 (Plr n ∷ all) d e = absurd cc
settings_have x0 x1 x2 x3 None x5 (Mask n ∷ all) d e = settings_have x0 x1 x2 x3 (Some n) x5 all d e
settings_have x0 x1 x2 x3 (Some y) x5 (Mask n ∷ all) d e = absurd cc
settings_have x0 x1 x2 x3 x4 None (Discipline n ∷ all) d e = settings_have x0 x1 x2 x3 x4 (Some n) all d e
settings_have x0 x1 x2 x3 x4 (Some y) (Discipline n ∷ all) d e = absurd cc

settings_put : (x0 : Option ℕ) (x1 : Option ℕ) (x2 : Option RawQueue) (x3 : Option ℕ) (x4 : Option RawMask) (x5 : Option RawDiscipline) (all : List Setting) (d : RawConfig) → (option_to_list x0 ++ filter_map bw_in all ≡ option_to_list d.bw) × (option_to_list x1 ++ filter_map delay_in all ≡ option_to_list d.delay) × (option_to_list x2 ++ filter_map queue_in all ≡ option_to_list d.queue) × (option_to_list x3 ++ filter_map plr_in all ≡ option_to_list d.plr) × (option_to_list x4 ++ filter_map mask_in all ≡ option_to_list d.mask) × (option_to_list x5 ++ filter_map discipline_in all ≡ option_to_list d.discipline) → put_all put_setting (settings_made x0 x1 x2 x3 x4 x5) all ≡ Some d
settings_put x0 x1 x2 x3 x4 x5 [] d h =
    let e0 = same_option x0 d.bw h.0 in
    let e1 = same_option x1 d.delay h.1 in
    let e2 = same_option x2 d.queue h.2 in
    let e3 = same_option x3 d.plr h.3 in
    let e4 = same_option x4 d.mask h.4 in
    let e5 = same_option x5 d.discipline h.5 in
    rw (e0, e1, e2, e3, e4, e5) refl
settings_put None x1 x2 x3 x4 x5 (Bw n ∷ all) d h = settings_put (Some n) x1 x2 x3 x4 x5 all d h
settings_put (Some y) x1 x2 x3 x4 x5 (Bw n ∷ all) d h = absurd (two y n (filter_map bw_in all) d.bw h.0)
settings_put x0 None x2 x3 x4 x5 (Delay n ∷ all) d h = settings_put x0 (Some n) x2 x3 x4 x5 all d h
settings_put x0 (Some y) x2 x3 x4 x5 (Delay n ∷ all) d h = absurd (two y n (filter_map delay_in all) d.delay h.1)
settings_put x0 x1 None x3 x4 x5 (Queue n ∷ all) d h = settings_put x0 x1 (Some n) x3 x4 x5 all d h
settings_put x0 x1 (Some y) x3 x4 x5 (Queue n ∷ all) d h = absurd (two y n (filter_map queue_in all) d.queue h.2)
settings_put x0 x1 x2 None x4 x5 (Plr n ∷ all) d h = settings_put x0 x1 x2 (Some n) x4 x5 all d h
settings_put x0 x1 x2 (Some y) x4 x5 (Plr n ∷ all) d h = absurd (two y n (filter_map plr_in all) d.plr h.3)
settings_put x0 x1 x2 x3 None x5 (Mask n ∷ all) d h = settings_put x0 x1 x2 x3 (Some n) x5 all d h
settings_put x0 x1 x2 x3 (Some y) x5 (Mask n ∷ all) d h = absurd (two y n (filter_map mask_in all) d.mask h.4)
settings_put x0 x1 x2 x3 x4 None (Discipline n ∷ all) d h = settings_put x0 x1 x2 x3 x4 (Some n) all d h
settings_put x0 x1 x2 x3 x4 (Some y) (Discipline n ∷ all) d h = absurd (two y n (filter_map discipline_in all) d.discipline h.5)

pub has_settings : (all : List Setting) (d : RawConfig) → put_all put_setting (settings_made None None None None None None) all ≡ Some d → HasSettings all d
has_settings all d e = settings_have None None None None None None all d e

pub puts_settings : (all : List Setting) (d : RawConfig) → HasSettings all d → put_all put_setting (settings_made None None None None None None) all ≡ Some d
puts_settings all d h = settings_put None None None None None None all d h

pub flow_setting_pairs : FindsPairs IsFlowSetting flow_setting_at
unfolding flow_setting_at
flow_setting_pairs k ws a rest e =
    let end : FlowSetting × Words = (a, rest) in
    elim (chosen (bytes_eq k (codes "ssthresh")) _ _ (Some end) e) [
      | inl p ↦ pair_found (codes "ssthresh") number_of Ssthresh IsFlowSetting k ws a rest (λ v n h. (v, refl, h)) p.0 p.1
      | inr q0 ↦
          elim (chosen (bytes_eq k (codes "window")) _ _ (Some end) q0.1) [
            | inl p ↦ pair_found (codes "window") number_of Window IsFlowSetting k ws a rest (λ v n h. (v, refl, h)) p.0 p.1
            | inr q1 ↦
                elim (chosen (bytes_eq k (codes "rto")) _ _ (Some end) q1.1) [
                  | inl p ↦ pair_found (codes "rto") timing_of Timing IsFlowSetting k ws a rest (λ v n h. (v, refl, h)) p.0 p.1
                  | inr q2 ↦ absurd (none-some end q2.1)
                ]
          ]
    ]

pub flow_setting_shrinks : Shrinks flow_setting_at
flow_setting_shrinks = shrinks_by IsFlowSetting flow_setting_at flow_setting_pairs

pub flow_setting_finds : Finds IsFlowSetting flow_setting_at
flow_setting_finds = finds_by IsFlowSetting flow_setting_at flow_setting_pairs

pub flow_setting_again : (front rest : Words) (a : FlowSetting) → IsFlowSetting front a → next_phrase any_word flow_setting_at (front ++ rest) ≡ Some (Some a, rest)
unfolding flow_setting_at
flow_setting_again front rest (Ssthresh n) h = ap (λ (f : Words). next_phrase any_word flow_setting_at (f ++ rest)) h.1 ∙ rw h.2 refl
flow_setting_again front rest (Window n) h = ap (λ (f : Words). next_phrase any_word flow_setting_at (f ++ rest)) h.1 ∙ rw h.2 refl
flow_setting_again front rest (Timing n) h = ap (λ (f : Words). next_phrase any_word flow_setting_at (f ++ rest)) h.1 ∙ rw h.2 refl

abbrev flow_settings_made : Option ℕ → Option ℕ → Option RawTiming → RawFlowOptions
flow_settings_made x0 x1 x2 = record { ssthresh = x0; window = x1; timing = x2 }

-- what is added is what stands in the end
flow_settings_have : (x0 : Option ℕ) (x1 : Option ℕ) (x2 : Option RawTiming) (all : List FlowSetting) (d : RawFlowOptions) → put_all put_flow_setting (flow_settings_made x0 x1 x2) all ≡ Some d → (option_to_list x0 ++ filter_map ssthresh_in all ≡ option_to_list d.ssthresh) × (option_to_list x1 ++ filter_map window_in all ≡ option_to_list d.window) × (option_to_list x2 ++ filter_map timing_in all ≡ option_to_list d.timing)
flow_settings_have x0 x1 x2 [] d e =
    let s = same_Some (flow_settings_made x0 x1 x2) d e in
    (append-nil (option_to_list x0) ∙ ap (λ (x : RawFlowOptions). option_to_list x.ssthresh) s, append-nil (option_to_list x1) ∙ ap (λ (x : RawFlowOptions). option_to_list x.window) s, append-nil (option_to_list x2) ∙ ap (λ (x : RawFlowOptions). option_to_list x.timing) s)
flow_settings_have None x1 x2 (Ssthresh n ∷ all) d e = flow_settings_have (Some n) x1 x2 all d e
flow_settings_have (Some y) x1 x2 (Ssthresh n ∷ all) d e = absurd cc
flow_settings_have x0 None x2 (Window n ∷ all) d e = flow_settings_have x0 (Some n) x2 all d e
flow_settings_have x0 (Some y) x2 (Window n ∷ all) d e = absurd cc
flow_settings_have x0 x1 None (Timing n ∷ all) d e = flow_settings_have x0 x1 (Some n) all d e
flow_settings_have x0 x1 (Some y) (Timing n ∷ all) d e = absurd cc

flow_settings_put : (x0 : Option ℕ) (x1 : Option ℕ) (x2 : Option RawTiming) (all : List FlowSetting) (d : RawFlowOptions) → (option_to_list x0 ++ filter_map ssthresh_in all ≡ option_to_list d.ssthresh) × (option_to_list x1 ++ filter_map window_in all ≡ option_to_list d.window) × (option_to_list x2 ++ filter_map timing_in all ≡ option_to_list d.timing) → put_all put_flow_setting (flow_settings_made x0 x1 x2) all ≡ Some d
flow_settings_put x0 x1 x2 [] d h =
    let e0 = same_option x0 d.ssthresh h.0 in
    let e1 = same_option x1 d.window h.1 in
    let e2 = same_option x2 d.timing h.2 in
    rw (e0, e1, e2) refl
flow_settings_put None x1 x2 (Ssthresh n ∷ all) d h = flow_settings_put (Some n) x1 x2 all d h
flow_settings_put (Some y) x1 x2 (Ssthresh n ∷ all) d h = absurd (two y n (filter_map ssthresh_in all) d.ssthresh h.0)
flow_settings_put x0 None x2 (Window n ∷ all) d h = flow_settings_put x0 (Some n) x2 all d h
flow_settings_put x0 (Some y) x2 (Window n ∷ all) d h = absurd (two y n (filter_map window_in all) d.window h.1)
flow_settings_put x0 x1 None (Timing n ∷ all) d h = flow_settings_put x0 x1 (Some n) all d h
flow_settings_put x0 x1 (Some y) (Timing n ∷ all) d h = absurd (two y n (filter_map timing_in all) d.timing h.2)

pub has_flow_settings : (all : List FlowSetting) (d : RawFlowOptions) → put_all put_flow_setting (flow_settings_made None None None) all ≡ Some d → HasFlowSettings all d
has_flow_settings all d e = flow_settings_have None None None all d e

pub puts_flow_settings : (all : List FlowSetting) (d : RawFlowOptions) → HasFlowSettings all d → put_all put_flow_setting (flow_settings_made None None None) all ≡ Some d
puts_flow_settings all d h = flow_settings_put None None None all d h
