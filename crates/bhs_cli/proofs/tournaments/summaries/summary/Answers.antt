use Rattle.std.proofs.Common.{ℕ, List, ◌++◌, string_bytes, ap, ◌∙◌}
use Rattle.bhs_cli.proofs.SummaryLemmas.{goes_on, ends}
use Rattle.bhs_cli.proofs.tournaments.summaries.summary.Goals as goal

pub loop-game-preserved : goal.loop-game-preserved
loop-game-preserved c = goes_on c.args.ready.now c.loop-game.game (string_bytes c.loop-game.text) _
    c.loop-game.invariant c.index-ready-game.result (string_bytes c.in_ok-line.line) (string_bytes c.push_str.new.self)
    c.loop-game-test.true c.index-ready-game.is c.in_ok-line.ensures
    (c.in_ok-push_str.ensures.bytes ∙ ap (λ (bytes : List ℕ). string_bytes c.loop-game.text ++ bytes)
    c.as_str.ensures.value)

pub returns : goal.returns
returns c = ends c.args.ready.now c.loop-game.game (string_bytes c.loop-game.text) _ c.loop-game.invariant
    c.loop-game-test.false
