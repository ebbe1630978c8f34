use Rattle.std.proofs.Common.{◌≡◌, map, take}
use Rattle.bhs_cli_attest.proofs.attest.files_of.Given as goal

abbrev pub invariant-loop-agent_module : goal.invariant-loop-agent_module
invariant-loop-agent_module g l =
    map (λ file. file.arguments.items) l.all.items ≡ map (λ it. it.arguments) (take l.agent_module-index l.modules)
