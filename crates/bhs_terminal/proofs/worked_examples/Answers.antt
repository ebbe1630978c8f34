use Rattle.std.proofs.Common.{refl}
use Rattle.bhs_terminal.proofs.worked_examples.Goals as goal

pub returns : goal.returns
unfolding lib.Utf8.encode
returns c = record { stays = refl; long = refl; feed = refl; escape = refl; second_set = refl; direction = refl }
