use Rattle.std.proofs.Common.{sym, ◌∙◌, arith}
use Rattle.bhs_model.specs.Kept.{lost}
use Rattle.bhs_model.specs.Marks.{events_of}
use Rattle.bhs_match.specs.Matches.{world_in}
use Rattle.bhs_referee.proofs.VerdictLemmas.{counted, uncounted}
use Rattle.bhs_referee.proofs.looks.lost.Goals.{then-is_lost, else-is_lost}
use Rattle.bhs_referee.proofs.looks.lost.Goals as goal

pub loop-agent-preserved : goal.loop-agent-preserved
loop-agent-preserved c = elim c.if-is_lost.branch [
  | then-is_lost w ↦ record {
    few = omega (arith, w.lost-is, c.loop-agent.invariant.few);
    count = w.lost-is ∙ counted (lost (world_in c.args.sealed.now) (events_of c.args.sealed.now.log)) c.loop-agent.agent
        c.loop-agent.lost (sym c.is_lost.ensures ∙ w.if-is_lost.true) c.loop-agent.invariant.count;
  }
  | else-is_lost w ↦ record {
    few = omega (arith, w.lost-is, c.loop-agent.invariant.few);
    count = w.lost-is ∙ uncounted (lost (world_in c.args.sealed.now) (events_of c.args.sealed.now.log))
        c.loop-agent.agent
        c.loop-agent.lost (sym c.is_lost.ensures ∙ w.if-is_lost.false) c.loop-agent.invariant.count;
  }
]
