-- A head as tokens: the concatenation of its parts.
use Rattle.std.specs.Prelude.{ℕ, List, ◌∷◌, ◌++◌, codes, map}
use Rattle.json.specs.Token.{Token}
use Rattle.json.specs.Tree.{json_tokens}
use Rattle.serde_json.specs.Data.{Data}
use Rattle.serde_json.specs.Written.{outline}
use Rattle.bhs_model.specs.declared.setups.Setup.{Setup}
use Rattle.bhs_replay.specs.declared.heads.Version.{Version}
use Rattle.bhs_replay.specs.declared.heads.Version.TheVariants.{One, Two, Three}
use Rattle.bhs_replay.specs.Head.{whole, listed, end_data, hole_data}

abbrev pub data_tokens : Data → List Token
data_tokens value = json_tokens (outline value)

abbrev pub version_number : Version → ℕ
version_number One = 1
version_number Two = 2
version_number Three = 3

-- the members that list what destroys
abbrev pub listing_tokens : Setup → List Token
listing_tokens setup =
    (Token.key (codes "dark") ∷ data_tokens (listed (map end_data setup.dark)))
    ++ (Token.key (codes "holes") ∷ data_tokens (listed (map whole setup.holes)))

-- the members that say what destroys
abbrev pub doom_tokens : Version → Setup → List Token
doom_tokens One setup = Token.key (codes "hole") ∷ data_tokens (hole_data setup.holes)
doom_tokens Two setup = listing_tokens setup
doom_tokens Three setup = listing_tokens setup
