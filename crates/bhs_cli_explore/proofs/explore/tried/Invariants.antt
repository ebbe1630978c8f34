use Rattle.std.proofs.Common.{◌≡◌}
use Rattle.bhs_cli_explore.proofs.explore.tried.Given as goal

abbrev pub invariant-loop : goal.invariant-loop
invariant-loop g l = record {
  net : l.explorer.net ≡ l.fn.explorer.net;
  setup : l.explorer.setup ≡ l.fn.explorer.setup;
  held : l.explorer.held ≡ l.fn.explorer.held;
  wakeups : l.explorer.wakeups ≡ l.fn.explorer.wakeups;
}
