use Rattle.std.proofs.Common.{◌≡◌, ◌+◌, ◌-◌, ◌∙◌, refl, arith}
use Rattle.bhs_protocols_charts.proofs.ProgramLemmas.{row_first}
use Rattle.bhs_protocols_charts.proofs.charts.first_row.Goals as goal

pub returns-clause-row : goal.returns-clause-row
returns-clause-row c =
    let first = row_first c.args.text.now c.min-ports.result c.requires
    (c.min-ports.ensures ∙ rw (c.from.ensures, c.value.ensures) refl) in
    let again : 6 + c.min-ports.result - 6 ≡ c.min-ports.result = omega arith in
    rw (c.in_ok-row.ensures, c.value-father.ensures, c.value-2.ensures, again) first
