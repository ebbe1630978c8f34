use Rattle.std.proofs.Common.{List, ℕ, option_map}
use Rattle.std.proofs.lemmas.Result.{err_from_is_err_and}
use Rattle.bhs_deliveries.specs.Links.{first_strange}
use Rattle.bhs_files.specs.declared.faults.FileFault.TheVariants as faults
use Rattle.bhs_tournament.proofs.Passing.{made_with, not_made}
use Rattle.bhs_tournament.proofs.assembly.with_held.Goals as goal

pub returns-in_err-held : goal.returns-in_err-held
returns-in_err-held c =
    let p = err_from_is_err_and c.from_residual.result c.from_residual.ensures.1 in
    rw (p.1, p.2) (not_made (option_map (faults.Held c.args.number) (first_strange c.args.game.net c.args.pairs.now))
    c.args.pairs.now _ c.in_err-held.field-0.0 (rw c.net.ensures at c.in_err-held.ensures))

pub returns : goal.returns
returns c =
    made_with (option_map (faults.Held c.args.number) (first_strange c.args.game.net c.args.pairs.now))
    (λ (held : List (ℕ × ℕ)). record { team = c.args.team; game = c.args.game; held = held }) c.args.pairs.now
    c.in_ok-held.held (rw c.net.ensures at c.in_ok-held.ensures)
