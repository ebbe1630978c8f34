use Rattle.std.proofs.Common.{◌≡◌, replicate}
use Rattle.bhs_state.specs.Agents.{newcomer}
use Rattle.bhs_world.proofs.setup_checks.newcomers.Given as goal

abbrev pub invariant-loop : goal.invariant-loop
invariant-loop l = l.agents.items ≡ replicate l.counter newcomer
