use Rattle.std.proofs.Common.{◌≡◌}
use Rattle.bhs_shared_match.specs.Passes.{passes_of}
use Rattle.bhs_shared_match.proofs.locked_match.empty_passes.Given as goal

abbrev pub invariant-loop-agent : goal.invariant-loop-agent
invariant-loop-agent l = l.passes.items ≡ passes_of l.game l.quota l.agent
