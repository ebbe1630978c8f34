use Rattle.std.proofs.Common.{refl, ◌∙◌, [], ◌∷◌}
use Rattle.bhs_cli_explore.proofs.ListLemmas.{pairs_go_on}
use Rattle.bhs_cli_explore.proofs.discoveries.pairs.Goals as goal

pub loop-pair-preserved : goal.loop-pair-preserved
unfolding lib.Utf8.encode
loop-pair-preserved c = (
  pairs_go_on c.args.pairs.now c.loop-pair.pair-index c.loop-pair.before.now _ _ c.loop-pair.invariant.0
      c.as_str.result.now _ c.loop-pair-test.true (c.as_str.ensures.value ∙ c.in_ok-one.ensures.ok)
      c.in_ok-push_str.ensures.bytes,
  (44 ∷ [], (refl, refl)),
)
