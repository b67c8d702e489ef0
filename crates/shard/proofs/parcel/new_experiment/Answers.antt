use Rattle.shard.proofs.parcel.new_experiment.Goals as goal

pub returns : goal.returns
returns c =
    let was = c.in_ok-experiment.ensures in
    record {
      shown = was.opening;
      alone = was.alone;
      housed = λ budget room. let h = was.housed budget room in record { housed = h.housed; room = h.room };
      spec_is = was.given.0;
      consumed = was.given.2;
      going = was.given.4;
      steps = was.given.3;
    }
