use Rattle.std.proofs.Common.{◌∙◌}
use Rattle.std.proofs.lemmas.Result.{IfOk-weaker}
use Rattle.bhs_contest.proofs.RowLemmas.{rows_are}
use Rattle.bhs_contest.proofs.table.standings.Goals as goal

pub returns : goal.returns
returns g c =
    let named = c.in_ok-rows.ensures.teams in
    let judged = c.in_ok-rows.ensures.verdicts ∙ (c.deref.ensures.value ∙ c.in_ok-verdicts.ensures) in
    IfOk-weaker c.table.result _ _
    (λ text is.
    let told = rw c.deref-2.ensures.value at is in
    record {
      rows = c.in_ok-rows.rows.items;
      places = told.0;
      rows_are = rows_are c.args.teams.now c.args.sealed.now c.in_ok-rows.rows.items named judged;
      ranked = told.1;
      said = told.2;
    })
    c.table.ensures
