use Rattle.std.proofs.Common.{drop}
use Rattle.std.specs.Prelude.{map}
use Rattle.bhs_replay.specs.Head.{whole}
use Rattle.bhs_replay.proofs.HeadLists.{IsWritingOn}
use Rattle.bhs_replay.proofs.heads.write_row.Given as goal

abbrev pub invariant-loop-number : goal.invariant-loop-number
invariant-loop-number l = IsWritingOn l.initial.out l.out (map whole l.numbers)
    (map whole (drop l.number-index l.numbers))
