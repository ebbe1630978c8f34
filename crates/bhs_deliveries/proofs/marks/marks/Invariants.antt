use Rattle.std.proofs.Common.{take}
use Rattle.bhs_model.specs.PortMarks.{marks_of}
use Rattle.bhs_deliveries.proofs.MarkLemmas.{IsMarked}
use Rattle.bhs_deliveries.proofs.marks.marks.Given as goal

abbrev pub invariant-loop-pair : goal.invariant-loop-pair
invariant-loop-pair l = IsMarked l.net (take l.pair-index l.pairs) (marks_of l.marks.items)
