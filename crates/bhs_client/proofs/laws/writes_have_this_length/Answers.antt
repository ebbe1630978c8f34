use Rattle.bhs_client.proofs.CommandLemmas.{write_line_length}
use Rattle.bhs_client.proofs.laws.writes_have_this_length.Goals as goal

pub returns : goal.returns
returns c = write_line_length
