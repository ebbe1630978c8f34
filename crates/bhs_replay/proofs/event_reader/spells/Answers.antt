use Rattle.std.proofs.Common.{option_map}
use Rattle.bhs_wire.specs.LentReply.{reply_of}
use Rattle.bhs_replay.proofs.EventReads.{event_utf8}
use Rattle.bhs_replay.proofs.Spellings.{spelled-seen}
use Rattle.bhs_replay.proofs.event_reader.spells.Goals as goal

pub returns : goal.returns
returns c = λ line is.
    let event = c.args.event.now in
    let reply = option_map reply_of c.args.reply in
    let typed = c.each_event_is_typed.ensures in
    let answer = c.each_reply_is_typed.ensures in
    spelled-seen line event reply typed.0 answer.numbers
    (event_utf8 event reply typed.0 answer.numbers typed.1 answer.texts) is c.may_stand.result c.may_stand.ensures
