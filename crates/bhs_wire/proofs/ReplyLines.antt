-- The text of a reply's data is its line.
use Rattle.std.proofs.Common.{◌≡◌, Some, None, refl}
use Rattle.serde_json.specs.Written.{compact_text}
use Rattle.serde_json.proofs.OnLiterals.{serde_json_on_literals}
use Rattle.bhs_model.specs.declared.replies.Reply.{Reply}
use Rattle.bhs_model.specs.declared.replies.Reply.TheVariants.{Here, Written, Changed, Gone, Noted, Bye, Over, No}
use Rattle.bhs_model.specs.declared.replies.Why.{Why}
use Rattle.bhs_model.specs.declared.replies.Why.TheVariants.{Agent, Outside, Twice, Ended, Spent, Away, Line, Port}
use Rattle.bhs_model.specs.declared.replies.Why.TheVariants.{Long}
use Rattle.bhs_wire.specs.Reply.{line}
use Rattle.bhs_wire.proofs.ReplyData.{data_of}

refusal_text : (why : Why) → compact_text (data_of (No why)) ≡ line (No why)
unfolding serde_json_on_literals
refusal_text Agent = refl
refusal_text Outside = refl
refusal_text Twice = refl
refusal_text Ended = refl
refusal_text Spent = refl
refusal_text Away = refl
refusal_text Line = refl
refusal_text Port = refl
refusal_text Long = refl

pub compact_text-data_of : (reply : Reply) → compact_text (data_of reply) ≡ line reply
unfolding serde_json_on_literals
compact_text-data_of (Here ports None board) = refl
compact_text-data_of (Here ports (Some port) board) = refl
compact_text-data_of Written = refl
compact_text-data_of (Changed board) = refl
compact_text-data_of Gone = refl
compact_text-data_of Noted = refl
compact_text-data_of Bye = refl
compact_text-data_of Over = refl
compact_text-data_of (No why) = refusal_text why
