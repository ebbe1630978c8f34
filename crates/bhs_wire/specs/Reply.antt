-- The line of a reply.
use Rattle.std.specs.Prelude.{ℕ, List, ◌++◌, codes, decimal, Option, Some, None}
use Rattle.serde_json.specs.Data.{string}
use Rattle.serde_json.specs.Written.{compact_text}
use Rattle.bhs_model.specs.declared.replies.Reply.{Reply}
use Rattle.bhs_model.specs.declared.replies.Reply.TheVariants.{Here, Written, Changed, Gone, Noted, Bye, Over, No}
use Rattle.bhs_wire.specs.Why.{word}

-- a text between quotes, with its escapes
abbrev pub quoted_text : List ℕ → List ℕ
quoted_text text = compact_text (string text)

-- the label of the link that the agent came by
abbrev pub label : Option ℕ → List ℕ
label None = codes "null"
label (Some port) = decimal port

-- the line, without its line feed
abbrev pub line : Reply → List ℕ
line (Here ports came board) =
    codes "{\"board\":" ++ (quoted_text board
    ++ (codes ",\"from\":" ++ (label came
    ++ (codes ",\"ok\":\"here\",\"ports\":" ++ (decimal ports ++ codes "}")))))
line Written = codes "{\"ok\":\"written\"}"
line (Changed board) = codes "{\"board\":" ++ (quoted_text board ++ codes ",\"ok\":\"changed\"}")
line Gone = codes "{\"ok\":\"gone\"}"
line Noted = codes "{\"ok\":\"noted\"}"
line Bye = codes "{\"ok\":\"bye\"}"
line Over = codes "{\"ok\":\"over\"}"
line (No why) = codes "{\"no\":\"" ++ (word why ++ codes "\"}")
