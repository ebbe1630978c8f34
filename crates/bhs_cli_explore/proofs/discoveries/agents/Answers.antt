use Rattle.std.proofs.Common.{refl, ◌∙◌, [], ◌∷◌}
use Rattle.bhs_cli_explore.proofs.ListLemmas.{goes_on}
use Rattle.bhs_cli_explore.proofs.discoveries.agents.Goals as goal

pub loop-agent-preserved : goal.loop-agent-preserved
unfolding lib.Utf8.encode
loop-agent-preserved c = (
  goes_on c.args.agents.now c.loop-agent.agent-index c.loop-agent.before.now _ _ c.loop-agent.invariant.0
      c.as_str.result.now _ c.loop-agent-test.true (c.as_str.ensures.value ∙ c.in_ok-one.ensures.ok)
      c.in_ok-push_str.ensures.bytes,
  (44 ∷ [], (refl, refl)),
)
