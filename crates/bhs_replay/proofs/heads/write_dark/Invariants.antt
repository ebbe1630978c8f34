use Rattle.std.proofs.Common.{drop}
use Rattle.std.specs.Prelude.{map}
use Rattle.bhs_replay.specs.Head.{end_data}
use Rattle.bhs_replay.proofs.HeadLists.{IsWritingOn}
use Rattle.bhs_replay.proofs.heads.write_dark.Given as goal

abbrev pub invariant-loop-end : goal.invariant-loop-end
invariant-loop-end l = IsWritingOn l.initial.out l.out (map end_data l.ends) (map end_data (drop l.end-index l.ends))
