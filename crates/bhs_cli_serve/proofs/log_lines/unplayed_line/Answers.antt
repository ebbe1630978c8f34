use Rattle.bhs_cli_serve.proofs.log_lines.unplayed_line.Goals as goal

pub returns : goal.returns
returns c = rw (← c.outside_words-how.ensures) c.format.ensures.ok
