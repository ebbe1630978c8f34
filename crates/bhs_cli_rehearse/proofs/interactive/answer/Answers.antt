use Rattle.std.proofs.Common.{◌∷◌, ◌∙◌, ◌+◌, refl}
use Rattle.bhs_cli_rehearse.specs.Shells.{progress_of}
use Rattle.bhs_cli_rehearse.specs.Interactive.{unmeant}
use Rattle.bhs_cli_rehearse.specs.declared.interactive.Shell.{Shell}
use Rattle.bhs_cli_rehearse.proofs.InteractiveLemmas.{judged-short, line_answered, next_line, refused_at}
use Rattle.bhs_cli_rehearse.proofs.interactive.answer.Goals as goal

pub returns-then-not-is_meant-clause-stopped : goal.returns-then-not-is_meant-clause-stopped
returns-then-not-is_meant-clause-stopped g c rest =
    let shell = c.args.shell.now in
    let refused = rw c.if-not-is_meant.true at c.in_ok-is_meant.ensures in
    refused_at g.W.Output.takes g.W.Output.flushes shell.games (progress_of shell (10 ∷ rest)) _ _ c.refusal.result
    (unmeant shell.line.items rest (next_line shell rest c.requires.part)
    (judged-short shell.games shell.line.items c.requires.part.short ∙ refused)) c.refusal.ensures

pub returns-clause-answered : goal.returns-clause-answered
returns-clause-answered g c rest =
    let shell = c.args.shell.now in
    let new : Shell = record {
      games = shell.games;
      rehearsal = c.replied.new.rehearsal;
      line = c.clear-2.new.self;
      answered = shell.answered + 1;
      text = c.replied.new.text;
    } in
    let replied = rw (c.if-not-is_meant.false, c.clear.ensures.items) at c.in_ok-is_meant.ensures in
    line_answered g.W.Output.takes shell new _ _ c.requires.part c.replied.new.text.items replied rest
    (rw c.deref.ensures.value at c.in_ok-send.ensures.ok) c.clear-2.ensures.items refl
