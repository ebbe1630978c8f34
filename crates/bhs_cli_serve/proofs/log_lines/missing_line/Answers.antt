use Rattle.bhs_cli_serve.proofs.log_lines.missing_line.Goals as goal

pub returns : goal.returns
returns c = rw (← c.in_ok-agents.ensures, ← c.as_str-agents.ensures.value) c.format.ensures.ok
