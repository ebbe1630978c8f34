use Rattle.bhs_cli_serve.proofs.log_lines.judged_line.Goals as goal

pub returns : goal.returns
returns c = rw (← c.in_ok-verdict.ensures, ← c.as_str-verdict.ensures.value) c.format.ensures.ok
