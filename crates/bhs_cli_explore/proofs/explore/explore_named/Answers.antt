use Rattle.std.proofs.Common.{◌∙◌, refl, sym, ap₂, ℕ, List}
use Rattle.std.specs.Prelude.{slice_get}
use Rattle.std.proofs.lemmas.Option.{slice_get_read}
use Rattle.bhs_setups.specs.declared.lineups.Ready.{Ready}
use Rattle.bhs_cli.specs.declared.reporting.faults.Fault.TheVariants.{NoMatch}
use Rattle.bhs_cli_explore.specs.Discoveries.{explores_nothing, explores_on}
use Rattle.bhs_cli_explore.proofs.explore.explore_named.Goals as goal

pub returns-in-Err : goal.returns-in-Err
returns-in-Err g c =
    let (fault, is) = c.in-Err.ensures.fault in
    explores_nothing fault is (record { unread = refl; unwritten = refl })

pub returns-in-Some : goal.returns-in-Some
returns-in-Some g c =
    let read = c.in-Some.ensures.lookup in
    explores_on c.in-Ok.lineup c.in-Ok.ensures.made c.in-Some.ready.now
    (ap₂ (λ (all : List Ready) (n : ℕ). slice_get all n) (sym c.deref.ensures.value) (sym c.from.ensures)
    ∙ slice_get_read c.deref.result.now _ _ c.in-Some.ready.now refl read.3.0 read.1)
    c.explore_match.ensures

pub returns : goal.returns
returns g c =
    explores_nothing (NoMatch c.args.exploration.game) c.report.ensures (record { unread = refl; unwritten = refl })
