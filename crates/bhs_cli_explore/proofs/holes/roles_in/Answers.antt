use Rattle.bhs_cli_explore.proofs.RoleLemmas.{role_more}
use Rattle.bhs_cli_explore.proofs.holes.roles_in.Goals as goal

pub loop-file-preserved : goal.loop-file-preserved
loop-file-preserved c = role_more c.args.files.now c.loop-file.file-index c.file-item.result c.loop-file.roles.items _ _
    c.loop-file-test.true c.file-item.is c.in_ok-push.ensures.items c.in_ok-role_of.ensures.arguments
    c.in_ok-role_of.ensures.program c.loop-file.invariant
