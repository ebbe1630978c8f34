use Rattle.std.proofs.Common.{◌∙◌}
use Rattle.std.proofs.lemmas.Result.{IfOk-weaker}
use Rattle.serde_json.specs.Errors.{IsMemory}
use Rattle.bhs_replay.proofs.Spellings.{spelled-read, spelled-unread}
use Rattle.bhs_replay.proofs.event_reader.read_event.Goals as goal

pub returns-in-Ok : goal.returns-in-Ok
returns-in-Ok c = IfOk-weaker c.spelled_in.result _ _
    (λ found is. is ∙ spelled-read c.args.line.now _ c.in-Ok.ensures.ok.0 c.in-Ok.ensures.ok.1) c.spelled_in.ensures

pub returns-in-Err-2 : goal.returns-in-Err-2
returns-in-Err-2 c =
    let refused : IsMemory c.in-Err.error → ⊥ = λ memory. cc (c.is_memory.ensures.1 memory, c.if-is_memory.false) in
    spelled-unread c.args.line.now (c.in-Err.ensures.err refused)
