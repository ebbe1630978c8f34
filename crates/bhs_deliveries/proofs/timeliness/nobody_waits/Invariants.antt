use Rattle.std.proofs.Common.{ℕ, ◌≡◌, ◌<◌, None}
use Rattle.bhs_deliveries.specs.Timeliness.{due_of}
use Rattle.bhs_deliveries.proofs.timeliness.nobody_waits.Given as goal

abbrev pub invariant-loop-due : goal.invariant-loop-due
invariant-loop-due l = (agent : ℕ) → agent < l.due-index → due_of l.dues agent ≡ None
