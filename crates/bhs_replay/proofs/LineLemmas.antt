-- How a line is put together, part by part.
use Rattle.std.proofs.Common.{◌≡◌, ℕ, List, [], ◌∷◌, ◌++◌, codes, ap, append_assoc}
use Rattle.json.specs.Print.{print}
use Rattle.json.specs.Token.{Token}
use Rattle.serde_json.specs.Data.{string}
use Rattle.serde_json.proofs.OnLiterals.{serde_json_on_literals}
use Rattle.serde_json.proofs.Texts.{print-outline}
use Rattle.bhs_model.specs.declared.commands.Command.TheVariants.{Write}
use Rattle.bhs_wire.specs.Reply.{quoted_text}
use Rattle.bhs_replay.specs.EventLine.{said}

pub print-text : (text : List ℕ) → print (Token.string text ∷ []) ≡ quoted_text text
unfolding serde_json_on_literals
print-text text = print-outline (string text)

pub write_line : (expect put more : List ℕ) → said (Write expect put) ++ more
    ≡ codes "\"write\",\"expect\":" ++ (quoted_text expect ++ (codes ",\"put\":" ++ (quoted_text put ++ more)))
write_line expect put more = ap (λ text. codes "\"write\",\"expect\":" ++ text)
    (append_assoc (quoted_text expect) (codes ",\"put\":" ++ quoted_text put) more)
