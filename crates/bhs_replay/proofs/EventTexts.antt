-- The text of an event's data is its line.
use Rattle.std.proofs.Common.{◌≡◌, ℕ, List, ◌++◌, codes, decimal, true, Option, Some, None, refl, sym, ap, ◌∙◌}
use Rattle.std.proofs.Common.{append_assoc}
use Rattle.serde_json.specs.Data.{Members}
use Rattle.serde_json.specs.Written.{compact_text, members_text}
use Rattle.serde_json.proofs.OnLiterals.{serde_json_on_literals}
use Rattle.bhs_model.specs.declared.commands.Command.{Command}
use Rattle.bhs_model.specs.declared.commands.Command.TheVariants.{Enter, Look, Write, Depart, Accuse, Leave, Bad}
use Rattle.bhs_model.specs.declared.events.Event.{Event}
use Rattle.bhs_model.specs.declared.events.Event.TheVariants.{Tell, Deliver, Close}
use Rattle.bhs_model.specs.declared.replies.Reply.{Reply}
use Rattle.bhs_wire.specs.Reply.{quoted_text}
use Rattle.bhs_wire.proofs.ReplyLines.{compact_text-data_of}
use Rattle.bhs_replay.specs.EventLine.{said, answered, reply_part, event_line}
use Rattle.bhs_replay.proofs.EventData.{answer_data, reply_member, said_members, event_data}

answer_text : (reply : Option Reply) → compact_text (answer_data reply) ≡ answered reply
unfolding serde_json_on_literals
answer_text None = refl
answer_text (Some reply) = compact_text-data_of reply

part_text : (reply : Option Reply) → members_text true (reply_member reply) ≡ reply_part reply
unfolding serde_json_on_literals
part_text reply = ap (λ text. codes ",\"reply\":" ++ (text ++ codes "}")) (answer_text reply)

regroup : (a b c d : List ℕ) → a ++ (b ++ (c ++ d)) ≡ (a ++ (b ++ c)) ++ d
regroup a b c d = sym (append_assoc a (b ++ c) d ∙ ap (λ t. a ++ t) (append_assoc b c d))

said_text : (command : Command) (rest : Members) → members_text true (said_members command rest) ≡ codes ",\"do\":"
    ++ (said command ++ members_text true rest)
unfolding serde_json_on_literals
said_text Enter rest = refl
said_text Look rest = refl
said_text (Write expect put) rest = ap (λ text. codes ",\"do\":\"write\",\"expect\":" ++ text)
    (regroup (quoted_text expect) (codes ",\"put\":") (quoted_text put) (members_text true rest))
said_text (Depart port) rest = refl
said_text (Accuse port) rest = refl
said_text Leave rest = refl
said_text Bad rest = refl

pub compact_text-event_data : (event : Event) (reply : Option Reply)
    → compact_text (event_data event reply) ≡ event_line event reply
unfolding serde_json_on_literals
compact_text-event_data (Tell agent command) reply =
    ap (λ text. codes "{\"agent\":" ++ (decimal agent ++ text)) (said_text command (reply_member reply)
    ∙ ap (λ text. codes ",\"do\":" ++ (said command ++ text)) (part_text reply))
compact_text-event_data (Deliver agent) reply =
    ap (λ text. codes "{\"agent\":" ++ (decimal agent ++ (codes ",\"do\":\"deliver\"" ++ text))) (part_text reply)
compact_text-event_data Close reply = ap (λ text. codes "{\"do\":\"close\"" ++ text) (part_text reply)
