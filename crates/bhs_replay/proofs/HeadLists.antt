-- Lists of a head, written item by item.
use Rattle.std.proofs.Common.{◌≡◌, List, ◌++◌}
use Rattle.json.specs.Token.{Token}
use Rattle.json.specs.Tree.{items_tokens}
use Rattle.json.specs.Written.{Written}
use Rattle.serde_json.specs.Data.{Data}
use Rattle.serde_json.specs.View.{items_of}
use Rattle.serde_json.specs.Written.{items_outline}

-- the remaining items of a list as tokens, with the closing bracket
abbrev pub rest_tokens : List Data → List Token
rest_tokens items = items_tokens (items_outline (items_of items))

-- of a list whose begin was written, these items are left
pub record IsWritingOn (old new : Written) (all rest : List Data) : Type 0 where
  pub tokens : new.tokens ++ rest_tokens rest ≡ old.tokens ++ rest_tokens all
  pub before : new.before ≡ old.before
