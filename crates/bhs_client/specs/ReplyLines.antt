-- What a line of the server says.
use Rattle.std.specs.Prelude.{ℕ, List, Option, option_and_then}
use Rattle.serde_json.specs.Read.{read}
use Rattle.bhs_model.specs.declared.replies.Reply.{Reply}
use Rattle.bhs_replay.specs.Spelling.{reply_in}

-- the reply that a line spells, if it spells one; further keys of its object are ignored
abbrev pub reply_on : (line : List ℕ) → Option Reply
reply_on line = option_and_then reply_in (read line)
