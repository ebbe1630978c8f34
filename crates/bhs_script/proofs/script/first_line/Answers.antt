use Rattle.std.proofs.Common.{◌∙◌, ap}
use Rattle.bhs_script.specs.Script.{lines_of}
use Rattle.bhs_script.proofs.LineLemmas.{lines_of-found, lines_of-none}
use Rattle.bhs_script.proofs.script.first_line.Goals as goal

pub returns-in-Some-clause-lines : goal.returns-in-Some-clause-lines
returns-in-Some-clause-lines c =
    let found = rw c.in-Some.is at c.split_line.ensures in
    ap lines_of found.0 ∙ lines_of-found c.in-Some.line.now c.in-Some.rest.now found.1

pub returns-in-None-clause-lines : goal.returns-in-None-clause-lines
returns-in-None-clause-lines c = lines_of-none c.args.text.now (rw c.in-None.is at c.split_line.ensures)
