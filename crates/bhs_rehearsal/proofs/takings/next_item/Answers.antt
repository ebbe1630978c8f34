use Rattle.std.proofs.Common.{refl, sym, ◌∙◌}
use Rattle.bhs_rehearsal.proofs.TakeLemmas.{takes_none}
use Rattle.bhs_rehearsal.proofs.takings.next_item.Goals as goal

pub returns-then-is_away : goal.returns-then-is_away
returns-then-is_away c = (refl, takes_none _ c.args.agent _ (sym c.is_away.ensures ∙ c.if-is_away.true))
