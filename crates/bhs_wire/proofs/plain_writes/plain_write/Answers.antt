use Rattle.std.proofs.Common.{Option, None, Some, IfSome}
use Rattle.bhs_wire.proofs.PlainWrites.{plain_write_says}
use Rattle.bhs_wire.proofs.plain_writes.plain_write.Goals as goal

if_some : {A : Type 0} (found : Option A) {P Q : A → Type 0} → ((one : A) → P one → Q one) → IfSome found P
    → IfSome found Q
if_some None gives holds = holds
if_some (Some one) gives holds = gives one holds

pub returns : goal.returns
returns c =
    let line = c.args.line.now in
    if_some c.texts_of.result (λ texts is. plain_write_says line texts.0.now texts.1.now c.utf8.line is)
    c.texts_of.ensures
