use Rattle.std.proofs.Common.{take}
use Rattle.bhs_cli_explore.proofs.RoleLemmas.{AreRolesOf}
use Rattle.bhs_cli_explore.proofs.holes.roles_in.Given as goal

abbrev pub invariant-loop-file : goal.invariant-loop-file
invariant-loop-file l = AreRolesOf (take l.file-index l.files) l.roles.items
