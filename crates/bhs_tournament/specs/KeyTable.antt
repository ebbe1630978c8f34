-- The keys of a tournament, and the first that stands twice.
use Rattle.std.specs.Prelude.{◌≡◌, ℕ, ◌+◌, if◌then◌else◌, List, [], ◌∷◌, ◌++◌, slice_get, Option, Some, option_and_then}
use Rattle.std.specs.Prelude.{Result, Ok, Err}
use Rattle.bhs_setups.specs.KeyTable.{Seat, seat_at, has_key}
use Rattle.bhs_files.specs.declared.faults.FileFault.{FileFault}
use Rattle.bhs_files.specs.declared.faults.FileFault.TheVariants.{KeyTwice}

-- the keys of a match, starting at this agent
abbrev pub seats_of_match : ℕ → ℕ → List (List ℕ) → List Seat
seats_of_match game agent [] = []
seats_of_match game agent (key ∷ keys) = (key, (game, agent)) ∷ seats_of_match game (agent + 1) keys

-- the keys of matches, from a match on
abbrev pub seats_from : ℕ → List (List (List ℕ)) → List Seat
seats_from game [] = []
seats_from game (keys ∷ matches) = seats_of_match game 0 keys ++ seats_from (game + 1) matches

-- Appends seats to earlier ones, or refuses the first seat whose key occurs earlier.
abbrev pub distinct : List Seat → List Seat → Result (List Seat) FileFault
distinct earlier [] = Ok earlier
distinct earlier (seat ∷ seats) =
    if has_key seat.0 earlier then Err (KeyTwice seat.1.0 seat.1.1)
    else distinct (earlier ++ seat ∷ []) seats

-- the keys of all matches, or the first that an earlier agent has
abbrev pub key_table : List (List (List ℕ)) → Result (List Seat) FileFault
key_table matches = distinct [] (seats_from 0 matches)

-- the key of an agent of a match
abbrev pub key_of : List (List (List ℕ)) → ℕ → ℕ → Option (List ℕ)
key_of matches game agent = option_and_then (λ keys. slice_get keys agent) (slice_get matches game)

-- each agent's key lets in that agent, and no other key lets anyone in
pub record LetsIn (matches : List (List (List ℕ))) (seats : List Seat) : Type 0 where
  pub finds : (game agent : ℕ) (key : List ℕ) → key_of matches game agent ≡ Some key → seat_at key seats
      ≡ Some (game, agent)
  pub only : (key : List ℕ) (seat : ℕ × ℕ) → seat_at key seats ≡ Some seat → key_of matches seat.0 seat.1 ≡ Some key
