use Rattle.std.proofs.Common.{◌≡◌}
use Rattle.bhs_cli.specs.LineStates.{IsPart}
use Rattle.bhs_cli_explore.specs.HostAnswers.{TakesText}
use Rattle.bhs_cli_explore.proofs.hosts.Host.line.Given as goal

abbrev pub invariant-loop : goal.invariant-loop
invariant-loop g l = record {
  part : IsPart l.line.items;
  takes : TakesText g.R.Input.gives l.fn.self l.self l.line.items;
  writer : l.self.writer.now ≡ l.fn.self.writer.now;
}
