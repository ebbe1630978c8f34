use Rattle.std.proofs.Common.{◌∷◌, take}
use Rattle.bhs_cli_explore.specs.ModuleExploration.{IsTeamOf}
use Rattle.bhs_cli_explore.proofs.modules.team_of.Given as goal

abbrev pub invariant-loop-agent_module : goal.invariant-loop-agent_module
invariant-loop-agent_module g l = IsTeamOf (l.first ∷ take l.agent_module-index l.others) l.team
