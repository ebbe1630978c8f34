use Rattle.std.proofs.Common.{refl, ◌∙◌, [], ◌∷◌}
use Rattle.bhs_cli_explore.proofs.ListLemmas.{goes_on}
use Rattle.bhs_cli_explore.proofs.discoveries.numbers.Goals as goal

pub loop-number-preserved : goal.loop-number-preserved
unfolding lib.Utf8.encode
loop-number-preserved c = (
  goes_on c.args.numbers.now c.loop-number.number-index c.loop-number.before.now _ _ c.loop-number.invariant.0
      c.as_str.result.now _ c.loop-number-test.true (c.as_str.ensures.value ∙ c.in_ok-one.ensures.ok)
      c.in_ok-push_str.ensures.bytes,
  (44 ∷ [], (refl, refl)),
)
