use Rattle.std.proofs.Common.{ℕ, ◌≡◌, ◌<◌, ◌-◌, ◌^◌}
use Rattle.bhs_server.specs.Dealing.{moved_by}
use Rattle.bhs_server.specs.declared.pace.PaceStep.TheVariants.{Turn}
use Rattle.bhs_server.proofs.turns.deal.Given as goal

abbrev pub invariant-loop-dealer : goal.invariant-loop-dealer
invariant-loop-dealer g l =
    (l.dealer ≡ moved_by l.turns l.initial.dealer)
    × ((turn : ℕ) → turn < l.turns → g.P.Pace.says l.fn.pace l.fn.game turn Turn)

abbrev pub decreases-loop-dealer : goal.decreases-loop-dealer
decreases-loop-dealer g l = 2 ^ 32 - l.turns
