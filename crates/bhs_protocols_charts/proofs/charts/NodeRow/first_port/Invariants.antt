use Rattle.std.proofs.Common.{◌≡◌, drop}
use Rattle.bhs_protocols_charts.specs.Charts as specs
use Rattle.bhs_protocols_charts.specs.Programs as programs
use Rattle.bhs_protocols_charts.proofs.charts.NodeRow.first_port.Given as goal

abbrev pub invariant-loop-state : goal.invariant-loop-state
invariant-loop-state l = record {
  port : l.port ≡ l.state-index;
  first : specs.first_port (programs.test_of l.kind) (drop l.state-index l.state-items) l.state-index
      ≡ specs.first_port (programs.test_of l.kind) l.self.states 0;
}
