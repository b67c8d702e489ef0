use Rattle.control.proofs.LinesWalk.{is_spelled, is_faulty}
use Rattle.control.proofs.Counted.{read_few}
use Rattle.control.proofs.Ranged.{read-scenario}
use Rattle.control.proofs.reading.parse_scenario.Goals as goal

pub returns : goal.returns
returns c = record {
  spelled = is_spelled c.args.bytes.now c.read_all.result c.read_all.ensures.found;
  ranged = read-scenario c.args.bytes.now c.read_all.result (is_spelled c.args.bytes.now c.read_all.result c.read_all.ensures.found);
  few = read_few c.args.bytes.now c.read_all.result (is_spelled c.args.bytes.now c.read_all.result c.read_all.ensures.found);
  only = c.read_all.ensures.only;
  fault = is_faulty c.args.bytes.now c.read_all.result c.read_all.ensures.found;
  faulty = c.read_all.ensures.faulty;
}
