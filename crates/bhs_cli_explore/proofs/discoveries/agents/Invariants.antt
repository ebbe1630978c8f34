use denote.Shadow.{shadow}
use denote.Text.{Utf8}
use Rattle.std.proofs.Common.{◌≡◌, ◌++◌, codes, drop, string_bytes}
use Rattle.bhs_cli_explore.specs.Discoveries.{items_text}
use Rattle.bhs_cli_explore.proofs.discoveries.agents.Given as goal

abbrev pub invariant-loop-agent : goal.invariant-loop-agent
invariant-loop-agent l = (string_bytes l.text ++ items_text l.before (drop l.agent-index l.agents)
    ≡ codes "[" ++ items_text (codes "") l.agents) × shadow (Utf8 l.before)
