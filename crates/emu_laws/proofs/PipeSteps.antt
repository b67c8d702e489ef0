-- PipeSteps: single words of the definitions of pipes, and the counters, each number worked out by hand from the rule in its
-- comment. The loss words were computed apart, as those of LossSteps.
use Rattle.std.specs.Prelude.{◌≡◌, refl, ℕ, ◌-◌, ◌^◌, true, false, Some, None, [], ◌∷◌, replicate, map}
use Rattle.emu_model.specs.declared.packets.Protocol.TheVariants.{Udp}
use Rattle.emu_model.specs.declared.packets.Load.TheVariants.{Plain}
use Rattle.emu_model.specs.declared.packets.Packet.{Packet}
use Rattle.emu_model.specs.declared.pipes.QueueLimit.TheVariants.{Slots}
use Rattle.emu_model.specs.declared.pipes.Discipline.TheVariants.{TailDrop, ControlledDelay}
use Rattle.emu_model.specs.declared.pipes.PipeConfig.{PipeConfig}
use Rattle.emu_model.specs.declared.records.DropCause.TheVariants.{Denied, NoPipe, NoInstance, Lost, Full, Codel, Deleted, Budget}
use Rattle.emu_model.specs.FlowIds.{FlowId}
use Rattle.emu_model.specs.DropTail.{Queued}
use Rattle.emu_model.specs.Codel.{CodelState, initial_control}
use Rattle.emu_model.specs.Pipes.{Instance, PipeState, initial_instance, dequeue, enqueue, drawn_one, draw, pipe_arrive, instance_finish, instance_configure, held_in}
use Rattle.emu_model.specs.Net.{cause_number}
use Rattle.rand_chacha.specs.Block.{block_word, double_rounds, column_round, diagonal_round, quarter_round}
use Rattle.rand_core.specs.Steps.{u32_at}

abbrev packet : ℕ → Packet
packet number = record {
  proto = Udp;
  src = 1;
  sport = 2;
  dst = 3;
  dport = 4;
  size = 1000;
  number = number;
  load = Plain;
  place = record { number = 0; order = 0 };
}

abbrev waiting : ℕ → Queued Packet
waiting number = record { item = packet number; size = 1000; stamp = 5 }

abbrev control : CodelState
control = record { first_above_time = 1; drop_next = 2; count = 3; last_count = 4; dropping = true }

-- a byte takes 1000 ns
abbrev config : PipeConfig
config = record {
  bw = 8000000;
  delay = 10;
  queue = Slots 2;
  plr = 200000;
  mask = record { proto = 0; src = 0; dst = 0; sport = 0; dport = 65535 };
  discipline = TailDrop;
}

abbrev flow_to : ℕ → FlowId
flow_to port = record { proto = 0; src = 0; dst = 0; sport = 0; dport = port }

-- packet 9 is on its way, packet 0 in service since 4, packets 1 and 2 wait
abbrev instance : Instance
instance = record {
  id = flow_to 4;
  waiting = waiting 1 ∷ waiting 2 ∷ [];
  control = control;
  service = Some (record { item = packet 0; period = record { start = 4; sum = 1000; finish = 1000004 } });
  line = record { in_flight = record { item = packet 9; exit = 70 } ∷ []; last = 70 };
  drawn = 2;
}

-- a drop-tail queue gives its first, and leaves CoDel's state
first_of_two :
    dequeue TailDrop 9 control (waiting 1 ∷ waiting 2 ∷ [])
    ≡ record { dropped = []; given = Some (waiting 1); rest = waiting 2 ∷ []; control = control }
first_of_two = refl

first_of_none : dequeue {A = Packet} TailDrop 9 control [] ≡ record { dropped = []; given = None; rest = []; control = control }
first_of_none = refl

-- who comes waits behind the others, since now
comes_last :
    (enqueue 9 (packet 3) instance).waiting
    ≡ waiting 1 ∷ waiting 2 ∷ record { item = packet 3; size = 1000; stamp = 9 } ∷ []
comes_last = refl

-- words are counted, up to 2^128 - 1
words_are_counted : (drawn_one instance).drawn ≡ 3
words_are_counted = refl

most_words_are_counted : (drawn_one (record instance { drawn = 2 ^ 128 - 1 })).drawn ≡ 2 ^ 128 - 1
most_words_are_counted = refl

-- with the seed 7 the words 2 and 3 of instance 3 of pipe 2 are 0.185 and 0.113 of 2^32; word 2 of its instance 0 is 0.857,
-- that of instance 3 of pipe 1 is 0.784, word 0 of this instance 0.694, and word 2 with the seed 0 is 0.714
abbrev second_pipe : ℕ → PipeState
second_pipe plr = record { number = 2; config = record config { plr = plr }; instances = [] }

just_below : draw 7 (second_pipe 200000) 3 instance ≡ true
unfolding block_word double_rounds column_round diagonal_round quarter_round u32_at
just_below = refl

not_the_next_word : draw 7 (second_pipe 150000) 3 instance ≡ false
unfolding block_word double_rounds column_round diagonal_round quarter_round u32_at
not_the_next_word = refl

-- where a pipe has 256 instances of others, a packet is dropped for that, and nothing else changes
abbrev full_pipe : PipeState
full_pipe = record { number = 2; config = config; instances = replicate 256 (initial_instance (flow_to 5)) }

no_instance_for_it :
    pipe_arrive 7 9 (packet 3) full_pipe
    ≡ record { state = full_pipe; dropped = record { packet = packet 3; cause = NoInstance } ∷ [] }
no_instance_for_it = refl

-- packet 0 finishes at 1000004 and leaves 10 ms later; packet 1 is served in the same period, to 4 + 2000 * 1000
goes_on_its_way :
    instance_finish config 1000004 instance
    ≡ record {
      state = record instance {
        waiting = waiting 2 ∷ [];
        service = Some (record { item = packet 1; period = record { start = 4; sum = 2000; finish = 2000004 } });
        line = record {
          in_flight = record { item = packet 9; exit = 70 } ∷ record { item = packet 0; exit = 11000004 } ∷ [];
          last = 11000004;
        };
      };
      dropped = [];
    }
goes_on_its_way = refl

-- configuring ends the period at the finish of the packet in service; another discipline begins with CoDel's state cleared
abbrev cut : Instance
cut = record instance {
  service = Some (record { item = packet 0; period = record { start = 1000004; sum = 0; finish = 1000004 } });
}

same_discipline_goes_on : instance_configure config (record config { bw = 1 }) instance ≡ cut
same_discipline_goes_on = refl

another_discipline_clears :
    instance_configure config (record config { discipline = ControlledDelay 5 100 }) instance
    ≡ record cut { control = initial_control }
another_discipline_clears = refl

-- what it holds, in the order of deletion: on its way, in service, waiting
held_in_order : held_in instance ≡ packet 9 ∷ packet 0 ∷ packet 1 ∷ packet 2 ∷ []
held_in_order = refl

-- the drops of the counters, in the order of docs/reference/report.md
causes_in_order :
    map cause_number (Denied ∷ NoPipe ∷ NoInstance ∷ Lost ∷ Full ∷ Codel ∷ Deleted ∷ Budget ∷ [])
    ≡ 1 ∷ 2 ∷ 3 ∷ 4 ∷ 5 ∷ 6 ∷ 7 ∷ 8 ∷ []
causes_in_order = refl
