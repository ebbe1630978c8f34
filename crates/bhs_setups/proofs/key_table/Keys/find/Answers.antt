use Rattle.std.proofs.Common.{ap, ◌∙◌}
use Rattle.bhs_setups.specs.KeyTable.{seat_at}
use Rattle.bhs_setups.proofs.KeyTableLemmas.{finds}
use Rattle.bhs_setups.proofs.key_table.Keys.find.Goals as goal

pub returns : goal.returns
returns c = c.copied.ensures ∙ c.get.ensures.value ∙ finds c.args.key.now c.self.inside.seats.entries
    ∙ ap (seat_at c.args.key.now) c.self.view_is
