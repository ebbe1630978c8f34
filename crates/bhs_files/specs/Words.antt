use Rattle.std.specs.Prelude.{ℕ, List, codes}
use Rattle.bhs_files.specs.declared.file_keys.FileKey.{FileKey}
use Rattle.bhs_files.specs.declared.file_keys.FileKey.TheVariants.{Nodes, Links, Seed, Match, Team, Network, Home, Hole}
use Rattle.bhs_files.specs.declared.file_keys.FileKey.TheVariants.{Holes, Dark, Quota, Board, Keys, Held}
use Rattle.bhs_files.specs.declared.file_keys.FileKey.TheVariants.{Version, Schedule, DelayScales, DelayOdds}

-- a key as the files spell it
abbrev pub word : FileKey → List ℕ
word Version = codes "version"
word Nodes = codes "nodes"
word Links = codes "links"
word Seed = codes "seed"
word Schedule = codes "schedule"
word DelayScales = codes "delay_scales"
word DelayOdds = codes "delay_odds"
word Match = codes "match"
word Team = codes "team"
word Network = codes "network"
word Home = codes "home"
word Hole = codes "hole"
word Holes = codes "holes"
word Dark = codes "dark"
word Quota = codes "quota"
word Board = codes "board"
word Keys = codes "keys"
word Held = codes "held"
