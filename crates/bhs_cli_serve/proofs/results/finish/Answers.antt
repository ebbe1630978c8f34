use Rattle.bhs_cli_serve.proofs.results.finish.Goals as goal

pub returns : goal.returns
returns g c = record {
  filed = c.write_settled-filed.result;
  printed = c.show_table-printed.result;
  writes = rw c.deref.ensures.value at c.write_settled-filed.ensures;
  tables = c.show_table-printed.ensures;
  coded = c.first_status.ensures;
}
