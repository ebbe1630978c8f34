use Rattle.bhs_cli_results.proofs.recover.recover_matches.Goals as goal

pub returns : goal.returns
returns g c = record {
  saved = c.save_matches-saved.result;
  printed = c.print_matches-printed.result;
  saves = c.save_matches-saved.ensures;
  tables = rw c.deref.ensures.value at c.print_matches-printed.ensures;
  coded = c.first_status.ensures;
}
