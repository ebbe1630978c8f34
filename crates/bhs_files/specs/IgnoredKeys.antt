-- The ignored keys of a tournament's file, each with advice on what was meant.
use Rattle.std.specs.Prelude.{ℕ, ◌+◌, ◌==◌, ◌&&◌, ◌||◌, not, is_none, if◌then◌else◌, nat_lt, Bool, true, false}
use Rattle.std.specs.Prelude.{List, [], ◌∷◌, ◌++◌, drop, map, filter, Option, Some, None, Result, Ok, unwrap_or}
use Rattle.std.specs.Prelude.{option_and_then}
use Rattle.std.specs.Option.{option_map_or}
use Rattle.std.specs.List.{find}
use Rattle.std.specs.Result.{result_unwrap_or}
use Rattle.toml.specs.Data.{Members, get_member}
use Rattle.toml.specs.Parse.{parse_document}
use Rattle.bhs_files.specs.declared.faults.FileFault.{FileFault}
use Rattle.bhs_files.specs.declared.file_keys.FileKey.{FileKey}
use Rattle.bhs_files.specs.declared.file_keys.FileKey.TheVariants.{Match, Schedule, DelayScales, DelayOdds}
use Rattle.bhs_files.specs.declared.ignored.Advice.{Advice}
use Rattle.bhs_files.specs.declared.ignored.Advice.TheVariants as advices
use Rattle.bhs_files.specs.declared.ignored.IgnoredKey.{IgnoredKey}
use Rattle.bhs_files.specs.declared.limits.TheConstants.{TOURNAMENT_VERSION}
use Rattle.bhs_files.specs.Documents.{Document, document_in}
use Rattle.bhs_files.specs.Names.{is_among, same_name}
use Rattle.bhs_files.specs.Reading.{◌>>=◌, optional}
use Rattle.bhs_files.specs.Shapes.{matches, is_oblivious}
use Rattle.bhs_files.specs.Tournaments.{known_keys, is_known, table_keys}
use Rattle.bhs_files.specs.Words.{word}

-- the words begin with the same two letters in the other order, and are the same behind them
abbrev pub is_exchanged : List ℕ → List ℕ → Bool
is_exchanged (a ∷ b ∷ rest) (c ∷ d ∷ other) = a == d && (b == c && same_name rest other)
is_exchanged _ _ = false

-- the words are the same but for their first letters: one more, one less, another, or two exchanged
abbrev pub differs_at_front : List ℕ → List ℕ → Bool
differs_at_front one other = same_name (drop 1 one) other || (same_name one (drop 1 other)
    || (same_name (drop 1 one) (drop 1 other) || is_exchanged one other))

-- the words are the same but for one letter more, less or other, or two neighbours exchanged
abbrev pub is_near : List ℕ → List ℕ → Bool
is_near (a ∷ one) (b ∷ other) = if a == b then is_near one other else differs_at_front (a ∷ one) (b ∷ other)
is_near one other = differs_at_front one other

-- the other place of a key: the top level of the file, or a match
abbrev pub other_place : (game : Option ℕ) → Option ℕ
other_place None = Some 0
other_place (Some game) = None

-- a known key of the same place whose spelling is near the word, and which the table lacks
abbrev pub near_key : (version : ℕ) → (game : Option ℕ) → Members → List ℕ → Option FileKey
near_key version game members key =
    find (λ known. is_near key (word known) && is_none (get_member (word known) members)) (known_keys version game)

-- Advice on an ignored key, one of three: the newest version in which the key exists at this place; the other place, if
-- the key belongs there; a known key with a near spelling. Version 3 has keys of delays for the oblivious schedule
-- only.
abbrev pub advice_on : (version : ℕ) → (game : Option ℕ) → Members → List ℕ → Advice
advice_on version game members key =
    if not (nat_lt version 3) then advices.Oblivious
    else (if is_known TOURNAMENT_VERSION game key then advices.Version TOURNAMENT_VERSION
    else (if is_known 1 game key then advices.Version 1
    else (if is_known version (other_place game) key then advices.OtherPlace
    else option_map_or (λ known. advices.Near known) (near_key version game members key) advices.Unlike)))

-- Versions 1 and 2 ignore every unknown key. Version 3 ignores delays without the oblivious schedule, and refuses
-- unknown keys.
abbrev pub is_ignored : (version : ℕ) → (game : Option ℕ) → (is_oblivious : Bool) → List ℕ → Bool
is_ignored version game is_oblivious key =
    if nat_lt version 3 then not (is_known version game key)
    else is_none game && (not is_oblivious && is_among (map word (DelayScales ∷ DelayOdds ∷ [])) key)

-- an ignored key, with the advice on it
abbrev pub ignored_key : (version : ℕ) → (game : Option ℕ) → Members → List ℕ → IgnoredKey
ignored_key version game members key =
    record { version = version; game = game; key = key; advice = advice_on version game members key }

-- the keys of a table that are ignored
abbrev pub ignored_in_table :
    (version : ℕ) → (game : Option ℕ) → (is_oblivious : Bool) → Members → List IgnoredKey
ignored_in_table version game is_oblivious members =
    map (ignored_key version game members) (filter (is_ignored version game is_oblivious) (table_keys members))

-- the same of the tables of matches, the first being of this number
abbrev pub ignored_in_matches : (version : ℕ) → (game : ℕ) → (is_oblivious : Bool) → List Members → List IgnoredKey
ignored_in_matches version game is_oblivious [] = []
ignored_in_matches version game is_oblivious (members ∷ rest) =
    ignored_in_table version (Some game) is_oblivious members
    ++ ignored_in_matches version (game + 1) is_oblivious rest

-- the tables of the matches; none where the key `match` has another shape, at which the file is refused
abbrev pub match_tables : Members → List Members
match_tables members = unwrap_or (option_and_then matches (get_member (word Match) members)) []

-- whether the table names the oblivious schedule, or a word at which the file is refused
abbrev pub may_have_delays : Members → Bool
may_have_delays members = result_unwrap_or (optional None Schedule is_oblivious false members) true

-- the keys of a file that are ignored
abbrev pub ignored_in_document : Document → List IgnoredKey
ignored_in_document document =
    let has_delays : Bool = may_have_delays document.1 in
    ignored_in_table document.0 None has_delays document.1
    ++ ignored_in_matches document.0 0 has_delays (match_tables document.1)

-- the keys of a text that are ignored
abbrev pub ignored_in : List ℕ → Result (List IgnoredKey) FileFault
ignored_in text = document_in TOURNAMENT_VERSION (parse_document text) >>= λ document. Ok (ignored_in_document document)
