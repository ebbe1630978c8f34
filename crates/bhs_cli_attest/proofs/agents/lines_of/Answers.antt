use Rattle.std.proofs.Common.{◌∙◌, ◌++◌, ap, map, ℕ, List}
use Rattle.std.specs.Prelude.{string_bytes}
use Rattle.bhs_cli_explore.specs.declared.modules.ModuleFile.{ModuleFile}
use Rattle.bhs_cli_attest.proofs.ReportLemmas.{line_differs, line_more}
use Rattle.bhs_cli_attest.proofs.agents.lines_of.Goals as goal

pub returns-then-not-is_attested : goal.returns-then-not-is_attested
returns-then-not-is_attested c =
    line_differs c.args.sealed.now c.args.wakeups (map (λ (file : ModuleFile). file.arguments.items) c.args.files.now)
    c.loop-agent.agent (string_bytes c.loop-agent.text) (string_bytes c.in_ok-line.line)
    (string_bytes c.push_str.new.self) c.in_ok-line.is_attested c.loop-agent.invariant c.in_ok-line.ensures
    (c.in_ok-push_str.ensures.bytes
    ∙ ap (λ (end : List ℕ). string_bytes c.loop-agent.text ++ end) c.as_str.ensures.value)
    c.if-not-is_attested.true

pub loop-agent-preserved : goal.loop-agent-preserved
loop-agent-preserved c =
    line_more c.args.sealed.now c.args.wakeups (map (λ (file : ModuleFile). file.arguments.items) c.args.files.now)
    c.loop-agent.agent (string_bytes c.loop-agent.text) (string_bytes c.in_ok-line.line)
    (string_bytes c.push_str.new.self) c.in_ok-line.is_attested c.loop-agent.invariant c.in_ok-line.ensures
    (c.in_ok-push_str.ensures.bytes
    ∙ ap (λ (end : List ℕ). string_bytes c.loop-agent.text ++ end) c.as_str.ensures.value)
    c.if-not-is_attested.false
