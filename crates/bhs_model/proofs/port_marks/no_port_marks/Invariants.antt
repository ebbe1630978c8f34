use Rattle.std.proofs.Common.{◌≡◌}
use Rattle.bhs_model.specs.PortMarks.{marks_of, unmarked}
use Rattle.bhs_model.proofs.port_marks.no_port_marks.Given as goal

abbrev pub invariant-loop : goal.invariant-loop
invariant-loop l = marks_of l.marks.items ≡ unmarked l.counter
