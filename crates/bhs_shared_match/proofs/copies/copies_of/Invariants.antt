use Rattle.std.proofs.Common.{◌≡◌, take, map}
use Rattle.bhs_shared_match.specs.Copies.{copy_of}
use Rattle.bhs_shared_match.proofs.copies.copies_of.Given as goal

abbrev pub invariant-loop-one : goal.invariant-loop-one
invariant-loop-one l = l.found.items ≡ map (copy_of l.play.log) (take l.one-index l.few)
