-- Closed sets of places of a match, and the match in which they alone were played.
use Rattle.std.specs.Prelude.{ℕ, suc, ◌≡◌, Bool, not, ◌&&◌, Option, Some, None, List, [], ◌∷◌, if◌then◌else◌, length}
use Rattle.std.specs.List.{list_any}
use Rattle.bhs_model.specs.Cuts.{at_places, Footprint, needs, footprints}
use Rattle.bhs_model.specs.Marks.{events_of}
use Rattle.bhs_match.specs.Matches.{Play, world_in}
use Rattle.bhs_view.specs.declared.restriction.RestrictFault.{RestrictFault}
use Rattle.bhs_view.specs.declared.restriction.RestrictFault.TheVariants.{Places, NotClosed}
use Rattle.bhs_view.specs.Entries.{entries, closed_once}
use Rattle.bhs_view.specs.Places.{set_from, misplaced}

-- the least place that the set lacks and that one of its places needs, where the first place has this number
abbrev pub unclosed_from : (place : ℕ) → List Footprint → (set : List Bool) → Option ℕ
unclosed_from place [] set = None
unclosed_from place (early ∷ footprints) [] = None
unclosed_from place (early ∷ footprints) (chosen ∷ set) =
    if not chosen && list_any (needs early) (at_places footprints set)
    then Some place else unclosed_from (suc place) footprints set

-- these places of a match, as a set
abbrev pub set_in : Play → (places : List ℕ) → List Bool
set_in play places = set_from 0 places play.log

abbrev pub unclosed : Play → (places : List ℕ) → Option ℕ
unclosed play places = unclosed_from 0 (footprints (world_in play) (events_of play.log)) (set_in play places)

abbrev pub fault_of : (index place : Option ℕ) → Option RestrictFault
fault_of (Some index) place = Some (Places index)
fault_of None (Some place) = Some (NotClosed place)
fault_of None None = None

-- why these places of a match are not played by themselves: the first that does not ascend is told, or else the least
-- place that is lacking
abbrev pub first_fault : Play → (places : List ℕ) → Option RestrictFault
first_fault play places = fault_of (misplaced (length play.log) places) (unclosed play places)

-- The match that replays the events at these places of another match, followed by a Close; each event has the reply
-- that it had.
pub record IsRestricted (whole : Play) (places : List ℕ) (part : Play) : Type 0 where
  pub net : part.net ≡ whole.net
  pub setup : part.setup ≡ whole.setup
  pub log : entries part.log ≡ closed_once (at_places (entries whole.log) (set_in whole places))
