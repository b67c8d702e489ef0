use Rattle.std.proofs.Common.{◌≡◌, ◌≤◌, ◌+◌, ◌-◌, ◌*◌, ◌++◌, length, drop, vec_len, vec_capacity}
use Rattle.std.specs.List.{flat_map}
use Rattle.emu_model.specs.Dues.{train_dues}
use Rattle.sources.proofs.DueFacts.{kept_dues}
use Rattle.sources.proofs.sources.Traffic.add_dues.Given as goal

abbrev pub invariant-loop-flow : goal.invariant-loop-flow
invariant-loop-flow l = record {
  appended : l.dues.items ++ flat_map (kept_dues l.clock) (drop l.flow-index l.flow-items)
      ≡ l.initial.dues.items ++ flat_map (kept_dues l.clock) l.flow-items;
  room : vec_len l.dues + 2 * (length l.flow-items - l.flow-index) + vec_len l.self-inside.trains ≤ vec_capacity l.dues;
}

abbrev pub invariant-loop-train : goal.invariant-loop-train
invariant-loop-train l = record {
  appended : l.dues.items ++ flat_map train_dues (drop l.train-index l.train-items)
      ≡ l.initial.dues.items ++ flat_map train_dues l.train-items;
  room : vec_len l.dues + (length l.train-items - l.train-index) ≤ vec_capacity l.dues;
}
