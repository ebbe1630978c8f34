use Rattle.std.proofs.Common.{◌≡◌, drop}
use Rattle.bhs_cli_results.specs.HeldLinks.{held_from}
use Rattle.bhs_cli_results.proofs.held_links.first_by.Given as goal

abbrev pub invariant-loop-place : goal.invariant-loop-place
invariant-loop-place l =
    held_from l.held l.links l.place (drop l.place l.log) (drop l.place l.sites)
    ≡ held_from l.held l.initial.links 0 l.log l.sites
