use Rattle.std.proofs.Common.{refl}
use Rattle.rand_core.specs.Steps.{u32_at}
use Rattle.rand_chacha.specs.Block.{block_word, double_rounds, diagonal_round, quarter_round, column_round}
use Rattle.bhs_deliveries.proofs.laws.words_are_those_of_chacha8.Goals as goal

pub returns : goal.returns
unfolding u32_at block_word double_rounds diagonal_round quarter_round column_round
returns c = (refl, refl, refl, refl, refl)
