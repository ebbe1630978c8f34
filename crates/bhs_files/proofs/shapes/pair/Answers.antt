use Rattle.bhs_files.proofs.Values.{no_pair-few, no_pair-many}
use Rattle.bhs_files.proofs.shapes.pair.Goals as goal

pub returns-in_default : goal.returns-in_default
returns-in_default c = no_pair-few c.in_ok-as_array.field-0.now.items c.as_slice.result.now _ c.in_ok-as_array.ensures
    c.as_slice.ensures.value c.in_default.len_below

pub returns-in_default-2 : goal.returns-in_default-2
returns-in_default-2 c = no_pair-many c.in_ok-as_array.field-0.now.items c.as_slice.result.now _
    c.in_ok-as_array.ensures c.as_slice.ensures.value c.in_default.len_at_least
