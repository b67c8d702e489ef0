-- What is written of an experiment while it runs.
use Rattle.std.proofs.Common.{◌≡◌, ℕ, Bool, cond, zero, suc, ◌+◌, ◌^◌, ◌<◌, List, [], ◌∷◌, ◌++◌, map, sym, ap, ◌∙◌, subst, append_assoc, append-nil, arith}
use Rattle.std.specs.Prelude.{count_by, sum, slice_index_or, flat_map}
use Rattle.std.proofs.lemmas.List.Concat.{flat_map-append}
use Rattle.std.proofs.lemmas.List.Sums.{sum_by-append}
use Rattle.emu_model.specs.declared.commands.Timed.{Timed}
use Rattle.emu_model.specs.declared.commands.Command.TheVariants.{End}
use Rattle.emu_model.specs.declared.records.Record.{Record}
use Rattle.emu_model.specs.declared.records.Counters.{Counters}
use Rattle.emu_model.specs.declared.records.DropCause.TheVariants.{Denied, NoPipe, NoInstance, Lost, Full, Codel, Deleted, Budget}
use Rattle.emu_model.specs.Net.{is_delivery, is_drop_of, drops_of, all_causes, counters_of, held}
use Rattle.emu_model.specs.Step.{State}
use Rattle.emu_model.specs.Alone.{Trace, trace_of}
use Rattle.emu_model.specs.RunLaws.{PacketsAddUp, AddsUp, with_earlier}
use Rattle.packet_store.specs.Pocket.{Pocket}
use Rattle.report.specs.Lines.{line_of, heading_of, report_of}
use Rattle.report.specs.Lines as lines
use Rattle.experiment.specs.Kept.{KeptExperiment, view, IsAlone, IsAloneAfter, IsWaiting, IsHousedIn}
use Rattle.experiment.specs.declared.counts.RecordCounts.{RecordCounts}
use Rattle.experiment.specs.Written.{Written, AreCountsOf, Counts, CanCount, Archived, IsArchived, archived_counts, kept_report, CanWrite, IsCountable, delivered_of, all_drops_of}

-- the counts of two parts of a run add up
count-both : (p : Record → Bool) (rs qs : List Record) → count_by p (rs ++ qs) ≡ count_by p rs + count_by p qs
count-both p rs qs = sum_by-append (λ r. cond (p r) 1 0) rs qs

pub delivered-both : (rs qs : List Record) → delivered_of (rs ++ qs) ≡ delivered_of rs + delivered_of qs
delivered-both rs qs = count-both is_delivery rs qs

-- more was written
pub counts-more : (rs qs : List Record) (c d : RecordCounts) → AreCountsOf rs c → d.delivered ≡ c.delivered + delivered_of qs →
    (all_drops_of rs ≡ c.drops → d.drops ≡ all_drops_of (rs ++ qs)) → AreCountsOf (rs ++ qs) d
counts-more rs qs c d h delivered drops = record {
  delivered = delivered ∙ ap (λ n. n + delivered_of qs) h.delivered ∙ sym (delivered-both rs qs);
  drops = drops (sym h.drops);
}

-- no count is more than the packets that were made
pub adds_alone : PacketsAddUp → (rs : List Record) (p : Pocket) (e : KeptExperiment) → IsAloneAfter rs p e → AddsUp (counters_of (with_earlier rs (view p e)).net)
adds_alone law rs p e is = subst (λ (s : State). AddsUp (counters_of s.net)) (sym is) (law e.spec e.consumed e.steps)

pub adds_waiting : PacketsAddUp → (t : ℕ) (rs : List Record) (p : Pocket) (e : KeptExperiment) → IsWaiting t rs p e → AddsUp (counters_of (with_earlier rs (view p e)).net)
adds_waiting law t rs p e w =
    let c : Timed = record { moment = t; command = End } in
    subst (λ (s : State). AddsUp (counters_of s.net)) (sym (w.alone c [] (omega arith))) (law e.spec (e.consumed ++ c ∷ []) e.steps)

-- what was archived of an experiment by itself can be followed by what it has recorded since
pub can_archive : PacketsAddUp → (a : Archived) (p : Pocket) (e : KeptExperiment) → IsHousedIn p e → IsArchived a p e → CanCount (archived_counts a) e
can_archive law a p e housed h = record {
  pocket = p;
  housed = housed;
  earlier = a.records;
  counts = h.counts;
  adds = adds_alone law a.records p e h.after;
}

module _ (rs qs : List Record) (made kept : ℕ) (few : made < 2 ^ 64)
    (adds : made ≡ delivered_of (rs ++ qs) + kept + sum (all_drops_of (rs ++ qs))) where
  few-delivered : delivered_of rs + delivered_of qs < 2 ^ 64
  few-delivered = omega (arith, few, adds, delivered-both rs qs)

  few-drops : (k : ℕ) → slice_index_or (all_drops_of rs) k 0 + slice_index_or (all_drops_of qs) k 0 < 2 ^ 64
  few-drops zero = omega (arith, few, adds, count-both (is_drop_of Denied) rs qs)
  few-drops (suc zero) = omega (arith, few, adds, count-both (is_drop_of NoPipe) rs qs)
  few-drops (suc (suc zero)) = omega (arith, few, adds, count-both (is_drop_of NoInstance) rs qs)
  few-drops (suc (suc (suc zero))) = omega (arith, few, adds, count-both (is_drop_of Lost) rs qs)
  few-drops (suc (suc (suc (suc zero)))) = omega (arith, few, adds, count-both (is_drop_of Full) rs qs)
  few-drops (suc (suc (suc (suc (suc zero))))) = omega (arith, few, adds, count-both (is_drop_of Codel) rs qs)
  few-drops (suc (suc (suc (suc (suc (suc zero)))))) = omega (arith, few, adds, count-both (is_drop_of Deleted) rs qs)
  few-drops (suc (suc (suc (suc (suc (suc (suc zero))))))) = omega (arith, few, adds, count-both (is_drop_of Budget) rs qs)
  few-drops (suc (suc (suc (suc (suc (suc (suc (suc k)))))))) = omega arith

pub countable : (c : RecordCounts) (e : KeptExperiment) → CanCount c e → e.net.made < 2 ^ 64 → IsCountable c e.net.log.records
countable c e h few =
    let rs : List Record = h.earlier in
    let qs : List Record = e.net.log.records in
    let kept : ℕ = held (view h.pocket e).net in
    record {
      delivered = omega (arith, h.counts.delivered, few-delivered rs qs e.net.made kept few h.adds);
      drops = λ k. subst (λ (ds : List ℕ). slice_index_or ds k 0 + slice_index_or (all_drops_of qs) k 0 < 2 ^ 64) (sym h.counts.drops)
          (few-drops rs qs e.net.made kept few h.adds k);
    }

-- eight counts of each of two parts, added
abbrev pub summed : List ℕ → List ℕ → List ℕ
summed a b =
    (slice_index_or a 0 0 + slice_index_or b 0 0)
    ∷ (slice_index_or a 1 0 + slice_index_or b 1 0)
    ∷ (slice_index_or a 2 0 + slice_index_or b 2 0)
    ∷ (slice_index_or a 3 0 + slice_index_or b 3 0)
    ∷ (slice_index_or a 4 0 + slice_index_or b 4 0)
    ∷ (slice_index_or a 5 0 + slice_index_or b 5 0)
    ∷ (slice_index_or a 6 0 + slice_index_or b 6 0)
    ∷ (slice_index_or a 7 0 + slice_index_or b 7 0)
    ∷ []

-- the drops of both parts
pub drops-both : (rs qs : List Record) → map (λ c. drops_of rs c + drops_of qs c) all_causes ≡ all_drops_of (rs ++ qs)
drops-both rs qs = λ i.
    sym (count-both (is_drop_of Denied) rs qs) i
    ∷ sym (count-both (is_drop_of NoPipe) rs qs) i
    ∷ sym (count-both (is_drop_of NoInstance) rs qs) i
    ∷ sym (count-both (is_drop_of Lost) rs qs) i
    ∷ sym (count-both (is_drop_of Full) rs qs) i
    ∷ sym (count-both (is_drop_of Codel) rs qs) i
    ∷ sym (count-both (is_drop_of Deleted) rs qs) i
    ∷ sym (count-both (is_drop_of Budget) rs qs) i
    ∷ []

-- all was counted
pub counted-all : (earlier : List Record) (t : Written) (p : Pocket) (e : KeptExperiment) → Counts earlier t → e.net.log.records ≡ [] →
    trace_of (with_earlier earlier (view p e))
    ≡ record { records = earlier; counters = record (counters_of (view p e).net) { delivered = t.delivered; drops = t.drops } }
counted-all earlier t p e h none =
    let all : earlier ++ e.net.log.records ≡ earlier = ap (λ (l : List Record). earlier ++ l) none ∙ append-nil earlier in
    λ i. record {
      records = all i;
      counters = record (counters_of (view p e).net) {
        delivered = (ap delivered_of all ∙ sym h.delivered) i;
        drops = (ap all_drops_of all ∙ sym h.drops) i;
      };
    }

-- the lines of what was counted are the report, once the line of the counters stands behind them
pub counted-report : (name : List ℕ) (earlier : List Record) (t : Written) (p : Pocket) (e : KeptExperiment) → Counts earlier t → e.net.log.records ≡ [] →
    (k : Counters) → k ≡ counters_of (view p e).net → (whole : Trace) → trace_of (with_earlier earlier (view p e)) ≡ whole →
    heading_of name ++ flat_map line_of earlier ++ lines.counters_of (record k { delivered = t.delivered; drops = t.drops })
    ≡ report_of name whole.records whole.counters
counted-report name earlier t p e h none k counted whole left =
    let traced : Counters → Trace = λ (x : Counters). record { records = earlier; counters = record x { delivered = t.delivered; drops = t.drops } } in
    ap (λ (x : Trace). report_of name x.records x.counters) (ap traced counted ∙ sym (counted-all earlier t p e h none) ∙ left)

-- nothing was archived yet
pub archived-new : (a : Archived) (p : Pocket) (e : KeptExperiment) → a.records ≡ [] → AreCountsOf [] (archived_counts a) → IsAlone p e → IsArchived a p e
archived-new a p e none counts is = record {
  counts = subst (λ (l : List Record). AreCountsOf l (archived_counts a)) (sym none) counts;
  after = subst (λ (l : List Record). IsAloneAfter l p e) (sym none) is;
}

pub archived-step : (a : Archived) (p q : Pocket) (e f : KeptExperiment) → IsArchived a p e →
    ((earlier : List Record) → IsAloneAfter earlier p e → IsAloneAfter earlier q f) → IsArchived a q f
archived-step a p q e f h after = record { counts = h.counts; after = after a.records h.after }

-- what was archived is the report, with the counters of the experiment as it stands
pub archived-report : (a : Archived) (p : Pocket) (e : KeptExperiment) → IsArchived a p e → e.net.log.records ≡ [] →
    (k : Counters) → k ≡ counters_of (view p e).net → (whole : Trace) → trace_of (with_earlier a.records (view p e)) ≡ whole →
    record { heading = a.heading; records = a.records; counters = record k { delivered = a.delivered; drops = a.drops } }
    ≡ kept_report a.heading whole
archived-report a p e h none k counted whole left =
    let t : Written = record { text = []; delivered = a.delivered; drops = a.drops } in
    let traced : Counters → Trace = λ (x : Counters). record { records = a.records; counters = record x { delivered = a.delivered; drops = a.drops } } in
    ap (kept_report a.heading) (ap traced counted ∙ sym (counted-all a.records t p e (record { delivered = h.counts.delivered; drops = h.counts.drops }) none) ∙ left)
