use Rattle.serve_report.proofs.control.table.Table.take_at.Goals as goal

pub returns-clause-taken : goal.returns-clause-taken
returns-clause-taken g c = record {
  entry = c.remove-entry.result;
  stood = c.remove-entry.ensures.value;
  is = c.drop_held.ensures;
  left = c.remove-entry.ensures.items;
}
