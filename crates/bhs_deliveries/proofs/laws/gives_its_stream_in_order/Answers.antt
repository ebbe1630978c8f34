use Rattle.bhs_deliveries.proofs.Words.{next_words-dealer_at}
use Rattle.bhs_deliveries.proofs.laws.gives_its_stream_in_order.Goals as goal

pub returns : goal.returns
returns c = next_words-dealer_at
