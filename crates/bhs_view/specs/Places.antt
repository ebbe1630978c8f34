-- Places of a log: as an ascending list of numbers, and as a set, which is a list of Bool beside the log.
use Rattle.std.specs.Prelude.{ℕ, suc, Bool, ◌&&◌, Option, Some, None, List, [], ◌∷◌, if◌then◌else◌, nat_eq, nat_le}
use Rattle.std.specs.Prelude.{nat_lt}
use Rattle.std.specs.List.{list_any}

-- the places of a set, ascending, where the first of the set has this number
abbrev pub places_from : (place : ℕ) → List Bool → List ℕ
places_from place [] = []
places_from place (chosen ∷ others) =
    if chosen then place ∷ places_from (suc place) others else places_from (suc place) others

abbrev pub places_of : List Bool → List ℕ
places_of set = places_from 0 set

-- the set of these places, beside a list whose first place has this number
abbrev pub set_from : {A : Type 0} → (place : ℕ) → (places : List ℕ) → List A → List Bool
set_from place places [] = []
set_from place places (x ∷ xs) = list_any (nat_eq place) places ∷ set_from (suc place) places xs

-- The index of the first place that is less than the least admissible place or lies beyond the end; the least is one
-- more than the preceding place.
abbrev pub misplaced_from : (index least count : ℕ) → List ℕ → Option ℕ
misplaced_from index least count [] = None
misplaced_from index least count (place ∷ places) =
    if nat_le least place && nat_lt place count then misplaced_from (suc index) (suc place) count places else Some index

-- the index of the first place that does not exceed its predecessor, or lies beyond the end
abbrev pub misplaced : (count : ℕ) → List ℕ → Option ℕ
misplaced count places = misplaced_from 0 0 count places
