use Rattle.std.proofs.Common.{rules}
use Rattle.bhs_model.proofs.DoomLemmas.{no_signs_made}
use Rattle.bhs_model.proofs.destroyers.Destroyers.none.Goals as goal

pub returns : goal.returns
returns c = no_signs_made c.args.net.now _ _ (search rules) (search rules)
