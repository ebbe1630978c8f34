use Rattle.std.proofs.Common.{refl}
use Rattle.bhs_cli_results.specs.Recovery.{recovers_contest, recovers_nothing}
use Rattle.bhs_cli_serve.proofs.recover.recover_named.Goals as goal

pub returns-in-Err : goal.returns-in-Err
returns-in-Err g c = let (fault, is) = c.in-Err.ensures.fault in recovers_nothing fault is refl

pub returns-in-Err-locked_parts : goal.returns-in-Err-locked_parts
returns-in-Err-locked_parts g c = let (fault, is) = c.in-Err-locked_parts.ensures in recovers_nothing fault is refl

pub returns : goal.returns
returns g c = recovers_contest c.in-Ok.lineup c.in-Ok.ensures.made c.recover_matches.ensures
