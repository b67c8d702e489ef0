-- No more is held than the budget allows: a packet is made only where one more may be held.
use Rattle.std.proofs.Common.{◌≡◌, ℕ, ◌+◌, ◌≤◌, true, refl, Option, Some, None, arith}
use Rattle.emu_laws.proofs.Types.{Packet}
use Rattle.emu_model.specs.Delay.{first_item}
use Rattle.emu_model.specs.Reno.{ack, with_segment, emit, expire}
use Rattle.emu_model.specs.Net.{Net, initial_net, put_flow}
use Rattle.emu_model.specs.Commands.{start_flow}
use Rattle.emu_model.specs.Events.{flying_in}
use Rattle.emu_model.specs.Alone.{alone}
use Rattle.emu_laws.proofs.EachChange.{Keeps, steps_keep}
use Rattle.emu_laws.proofs.FlowsKept.{Anything, anything}
use Rattle.emu_laws.proofs.HeldWeights.{some, weigh, each_one, held_is, weigh-same, weigh-entered, weigh-left, weigh-arrived, weigh-finished, weigh-exited, weigh-configured, weigh-opened, weigh-deleted}
use Rattle.emu_laws.specs.WorkBound.{HeldWithinBudget}

-- 1 for what is there
abbrev pub one_of : {A : Type 0} → Option A → ℕ
one_of None = 0
one_of (Some a) = 1

-- with the packet on its way
unfoldable pub Within : ℕ → Option Packet → Net → Type 0
Within b o n = weigh each_one n + one_of o ≤ b

pub some-is : (o : Option Packet) → some each_one o ≡ one_of o
some-is None = refl
some-is (Some p) = refl

pub within-keeps : (b : ℕ) → Keeps b (λ f. Unit {0}) Anything (Within b)
unfolding Within
within-keeps b = record {
  quiet = λ o n m a h. omega (arith, h, weigh-same each_one n m a.direct a.pipes);
  lost = λ p n h. omega (arith, h);
  made = λ number l send n few true_of h. omega (arith, few, held_is n);
  placed = λ place p n h. h;
  entered = λ now p n h. omega (arith, h, weigh-entered each_one now p n);
  left = λ n h. omega (arith, h, weigh-left each_one n, some-is (first_item n.direct.in_flight));
  arrived = λ seed now k p q n e h. omega (arith, h, weigh-arrived each_one seed now k p q n e);
  finished = λ now pipe k p n e h. omega (arith, h, weigh-finished each_one now pipe k p n e);
  pipe_left = λ pipe k p n e h. omega (arith, h, weigh-exited each_one pipe k p n e, some-is (flying_in k p));
  configured = λ k config p n ok e h. omega (arith, h, weigh-configured each_one k config p n e);
  opened = λ k config n ok e h. omega (arith, h, weigh-opened each_one k config n);
  deleted = λ k p n e h. omega (arith, h, weigh-deleted each_one k p n e);
  came = λ k first p f n is e h. omega (
    arith,
    h,
    weigh-same each_one n (put_flow (record f { came = with_segment first f.came }) n) refl refl,
  );
  acked = λ now k upto p f n is e h. omega (
    arith,
    h,
    weigh-same each_one n (put_flow (record f { sender = ack f.flow now upto f.sender }) n) refl refl,
  );
  expired = λ now k f n e h. omega (
    arith,
    h,
    weigh-same each_one n (put_flow (record f { sender = expire f.flow now f.sender }) n) refl refl,
  );
  emitted = λ now k f n e sends h. omega (
    arith,
    h,
    weigh-same each_one n (put_flow (record f { sender = emit f.flow now f.sender }) n) refl refl,
  );
  stopped = λ k f n e h. omega (arith, h, weigh-same each_one n (put_flow (record f { stopped = true }) n) refl refl);
  started = λ k f n ok new h. omega (arith, h, weigh-same each_one n (start_flow k f n) refl refl);
}

pub none-weighs : weigh each_one initial_net ≡ 0
unfolding weigh
none-weighs = refl

pub held_within_budget : HeldWithinBudget
unfolding Within
held_within_budget spec c n =
    let b : ℕ = spec.budget.packets in
    omega (
      arith,
      held_is (alone spec c n).net,
      steps_keep (λ f. Unit {0}) Anything (Within b) spec c (within-keeps b) (λ k t h e none f there. tt) (anything c)
          (omega (arith, none-weighs)) n,
    )
