use Rattle.std.proofs.Common.{rules, ◌≡◌, ◌∙◌, sym, true}
use Rattle.bhs_cli_results.specs.HeldLinks.{goes_over_held}
use Rattle.bhs_cli_results.proofs.HeldLemmas.{held_here}
use Rattle.bhs_cli_results.proofs.held_links.first_by.Goals as goal

pub returns-then-goes_over_held : goal.returns-then-goes_over_held
returns-then-goes_over_held c =
    let over : goes_over_held c.args.held.now c.loop-place.links c.index-log-place.result.event ≡ true = search rules in
    sym (held_here c.args.held.now c.loop-place.links c.loop-place.place c.args.log.now c.args.sites.now
    c.index-log-place.result c.loop-place-test.true c.requires c.index-log-place.is over)
    ∙ c.loop-place.invariant
