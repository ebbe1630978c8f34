use Rattle.std.proofs.Common.{◌≡◌, Some, List, sym, ap, ◌∙◌}
use Rattle.std.specs.Prelude.{slice_get, slice_index_or}
use Rattle.std.proofs.lemmas.List.{get_or_read}
use Rattle.bhs_wire.specs.Lines.{seen}
use Rattle.bhs_wire.specs.declared.commands.First.{First}
use Rattle.bhs_rehearsal.specs.Connections.{Says, Connection, unfed}
use Rattle.bhs_rehearsal.specs.Stages.{entry, entry_by, connection_at}
use Rattle.bhs_rehearsal.specs.Rehearsing.{seen_item}
use Rattle.bhs_rehearsal.specs.declared.items.Item.{Item as ItemOfCode}
use Rattle.bhs_rehearsal.proofs.EntryLemmas.{first_says}
use Rattle.bhs_rehearsal.proofs.entries.first_entry.Goals as goal

pub returns-in_ok-first-in-Some-Says : goal.returns-in_ok-first-in-Some-Says
returns-in_ok-first-in-Some-Says c stage games keys connections =
    let here = c.index-connections-conn.result in
    let at : connection_at stage c.args.conn ≡ here =
    ap (λ (all : List Connection). slice_index_or all c.args.conn unfed) connections
    ∙ sym (get_or_read c.args.connections.now c.args.conn here c.requires c.index-connections-conn.is unfed) in
    let first : slice_get here.queue 0 ≡ Some (Says (seen c.in-Some-Says.line)) = sym c.in-Some-Says.ensures
    ∙ ap (λ (item : ItemOfCode). Some (seen_item item)) c.in-Some-Says.field-0-is in
    c.entry_by.ensures stage games keys connections
    ∙ ap (λ (said : First). entry_by stage said) c.in_ok-first-in-Some-Says.ensures.said
    ∙ sym (first_says stage here.queue _ first)
    ∙ ap (λ (connection : Connection). entry stage connection.queue) (sym at)
