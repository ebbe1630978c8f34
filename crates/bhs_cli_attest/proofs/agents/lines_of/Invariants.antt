use Rattle.std.proofs.Common.{map}
use Rattle.std.specs.Prelude.{string_bytes}
use Rattle.bhs_cli_attest.proofs.ReportLemmas.{HasLines}
use Rattle.bhs_cli_attest.proofs.agents.lines_of.Given as goal

abbrev pub invariant-loop-agent : goal.invariant-loop-agent
invariant-loop-agent l =
    HasLines l.sealed l.wakeups (map (λ file. file.arguments.items) l.files) l.agent (string_bytes l.text)
