-- What a tournament file says: the seed, the schedule and the matches, or its first fault.
use Rattle.std.specs.Prelude.{ℕ, ◌+◌, ◌==◌, ◌&&◌, not, is_some, if◌then◌else◌, nat_le, nat_lt, Bool, false, List, []}
use Rattle.std.specs.Prelude.{◌∷◌, map, codes, Option, Some, None, option_to_list, Result, Ok, Err}
use Rattle.std.specs.List.{find}
use Rattle.toml.specs.Data.{Members, no_members, member}
use Rattle.toml.specs.Parse.{parse_document}
use Rattle.bhs_files.specs.declared.faults.FileFault.{FileFault}
use Rattle.bhs_files.specs.declared.faults.FileFault.TheVariants.{Unknown}
use Rattle.bhs_files.specs.declared.file_keys.FileKey.{FileKey}
use Rattle.bhs_files.specs.declared.file_keys.FileKey.TheVariants.{Seed, Match, Team, Network, Home, Hole, Holes, Dark}
use Rattle.bhs_files.specs.declared.file_keys.FileKey.TheVariants.{Quota, Board, Keys, Held}
use Rattle.bhs_files.specs.declared.file_keys.FileKey.TheVariants.{Version, Schedule, DelayScales, DelayOdds}
use Rattle.bhs_files.specs.declared.fixtures.Fixture.{Fixture}
use Rattle.bhs_files.specs.declared.tournaments.Tournament.{Tournament}
use Rattle.bhs_files.specs.Reading.{◌>>=◌, required, optional}
use Rattle.bhs_files.specs.declared.limits.TheConstants.{TOURNAMENT_VERSION}
use Rattle.bhs_files.specs.Documents.{Document, document_in}
use Rattle.bhs_files.specs.Shapes.{number, team, network_name, seed, hole, holes, ends, matches, keys}
use Rattle.bhs_files.specs.Shapes.{is_oblivious, delay_scales, delay_odds}
use Rattle.bhs_files.specs.Names.{is_among}
use Rattle.bhs_files.specs.Words.{word}
use Rattle.bhs_time.specs.Schedules.{DelayLaw}
use Rattle.bhs_time.specs.declared.kinds.ScheduleKind.{ScheduleKind}
use Rattle.bhs_time.specs.declared.kinds.ScheduleKind.TheVariants.{Adaptive, Oblivious}

-- a match of the file, without where it lies in memory
pub record Planned : Type 0 where
  pub version : ℕ
  pub team : List ℕ
  pub network : List ℕ
  pub home : ℕ
  pub holes : List ℕ
  pub dark : List (ℕ × ℕ)
  pub quota : ℕ
  pub board : ℕ
  pub keys : List (List ℕ)
  pub held : List (ℕ × ℕ)

-- a tournament, without where it lies in memory
pub record Plan : Type 0 where
  pub seed : List ℕ
  pub schedule : ScheduleKind
  pub matches : List Planned

abbrev pub planned : Fixture → Planned
planned f = record {
  version = f.version;
  team = f.team;
  network = f.network;
  home = f.home;
  holes = f.holes;
  dark = f.dark;
  quota = f.quota;
  board = f.board;
  keys = f.keys.items;
  held = f.held.items;
}

abbrev pub plan : Tournament → Plan
plan t = record { seed = t.seed; schedule = t.schedule; matches = map planned t.matches.items }

-- the known keys at the top level, or of a match, in a file of this version
abbrev pub known_keys : (version : ℕ) → (game : Option ℕ) → List FileKey
known_keys version None = if nat_lt version 3 then Version ∷ Seed ∷ Match ∷ []
    else Version ∷ Seed ∷ Schedule ∷ DelayScales ∷ DelayOdds ∷ Match ∷ []
known_keys version (Some game) =
    if version == 1 then Team ∷ Network ∷ Home ∷ Hole ∷ Quota ∷ Board ∷ Keys ∷ Held ∷ []
    else Team ∷ Network ∷ Home ∷ Holes ∷ Dark ∷ Quota ∷ Board ∷ Keys ∷ Held ∷ []

-- whether the word is a known key
abbrev pub is_known : (version : ℕ) → (game : Option ℕ) → List ℕ → Bool
is_known version game = is_among (map word (known_keys version game))

-- the keys of a table
abbrev pub table_keys : Members → List (List ℕ)
table_keys no_members = []
table_keys (member key value rest) = key ∷ table_keys rest

-- the first key that is unknown at this place
abbrev pub unknown_key : (version : ℕ) → (game : Option ℕ) → Members → Option (List ℕ)
unknown_key version game members = find (λ key. not (is_known version game key)) (table_keys members)

-- From version 3 on a table has no unknown key.
abbrev pub checked_keys : (version : ℕ) → (game : Option ℕ) → Members → Result Unit FileFault
checked_keys version game members =
    if nat_le 3 version && is_some (unknown_key version game members) then Err (Unknown game) else Ok tt

-- the black holes and the dark links of a match
abbrev pub Dangers : Type 0
Dangers = List ℕ × List (ℕ × ℕ)

-- In version 1 of the file `hole` is the node of the one black hole, or `none`, and no link is dark. In version 2
-- `holes` lists the black holes, and `dark` the dark links, if there are any.
abbrev pub dangers_in : (version : ℕ) → Option ℕ → Members → Result Dangers FileFault
dangers_in version game members =
    if version == 1 then (required game Hole hole members >>= λ hole. Ok (option_to_list hole, []))
    else (required game Holes holes members >>= λ holes. optional game Dark ends [] members >>= λ dark.
    Ok (holes, dark))

-- the match of this number, in a file of this version
unfoldable pub match_in : (version : ℕ) → ℕ → Members → Result Planned FileFault
match_in version game members = do
  checked ← checked_keys version (Some game) members
  team ← required (Some game) Team team members
  network ← required (Some game) Network network_name members
  home ← required (Some game) Home number members
  dangers ← dangers_in version (Some game) members
  quota ← required (Some game) Quota number members
  board ← required (Some game) Board number members
  keys ← required (Some game) Keys keys members
  held ← optional (Some game) Held ends [] members
  Ok (record {
    version = version;
    team = team;
    network = network;
    home = home;
    holes = dangers.0;
    dark = dangers.1;
    quota = quota;
    board = board;
    keys = keys;
    held = held;
  })

-- matches of rising number
unfoldable pub matches_in : (version : ℕ) → ℕ → List Members → Result (List Planned) FileFault
matches_in version game [] = Ok []
matches_in version game (members ∷ rest) = do
  first ← match_in version game members
  others ← matches_in version (game + 1) rest
  Ok (first ∷ others)

-- the law of delays of an oblivious schedule
abbrev pub delays_in : Members → Result DelayLaw FileFault
delays_in members =
    required None DelayScales delay_scales members >>= λ scales.
    required None DelayOdds (delay_odds scales) members >>= λ odds.
    Ok (record { scales = scales; odds = odds })

abbrev pub schedule_if : (is_oblivious : Bool) → Members → Result ScheduleKind FileFault
schedule_if is_oblivious members =
    if is_oblivious then (delays_in members >>= λ law. Ok (Oblivious law)) else Ok Adaptive

-- The schedule: the adaptive one up to version 2, and in version 3 if the file names none.
abbrev pub schedule_in : (version : ℕ) → Members → Result ScheduleKind FileFault
schedule_in version members =
    if nat_lt version 3 then Ok Adaptive
    else (optional None Schedule is_oblivious false members >>= λ is_oblivious. schedule_if is_oblivious members)

unfoldable pub plan_in : Document → Result Plan FileFault
plan_in document = do
  checked ← checked_keys document.0 None document.1
  seed ← required None Seed seed document.1
  schedule ← schedule_in document.0 document.1
  tables ← required None Match matches document.1
  planned ← matches_in document.0 0 tables
  Ok (record { seed = seed; schedule = schedule; matches = planned })

unfoldable pub tournament_in : List ℕ → Result Plan FileFault
tournament_in text = document_in TOURNAMENT_VERSION (parse_document text) >>= plan_in

-- the keys of the matches, each match's by agent
abbrev pub key_lists : Tournament → List (List (List ℕ))
key_lists t = map (λ fixture. fixture.keys.items) t.matches.items
