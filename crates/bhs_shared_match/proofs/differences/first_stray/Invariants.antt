use Rattle.std.proofs.Common.{map, take}
use Rattle.bhs_shared_match.specs.Settling.{IsLeast, arrived_by}
use Rattle.bhs_shared_match.proofs.differences.first_stray.Given as goal

abbrev pub invariant-loop-pass : goal.invariant-loop-pass
invariant-loop-pass l = IsLeast (map (arrived_by l.play) (take l.pass-index l.passes)) l.best
