use Rattle.bhs_cli_serve.proofs.log_lines.played_line.Goals as goal

pub returns : goal.returns
returns c = rw (← c.ended_words-how.ensures) c.format.ensures.ok
