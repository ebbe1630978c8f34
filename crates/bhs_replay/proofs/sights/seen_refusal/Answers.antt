use Rattle.std.proofs.Common.{sym, ◌∙◌}
use Rattle.bhs_replay.proofs.BeginningLemmas.{refusal_line}
use Rattle.bhs_replay.proofs.sights.seen_refusal.Goals as goal

pub returns : goal.returns
returns c =
    c.in_ok-line.ensures
    ∙ refusal_line c.in_ok-why.why c.in_ok-word.word.now c.in_ok-line.line.now c.in_ok-word.line.now
    c.in_ok-rest.rest.now (sym c.in_ok-why.ensures) c.in_ok-word.ensures c.in_ok-rest.ensures
