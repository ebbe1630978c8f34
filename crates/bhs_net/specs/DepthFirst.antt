use Rattle.std.specs.Prelude.{◌≡◌, ◌≢◌, ℕ, ◌<◌, ◌⊎◌, List, length, slice_index_or}
use Rattle.bhs_net.specs.Links.{End}

-- the place of a node in a table
abbrev pub place_in : List ℕ → ℕ → ℕ
place_in places node = slice_index_or places node 0

-- some port of the row leads to a node whose place is such
abbrev pub LeadsTo : List End → List ℕ → (ℕ → Type 0) → Type 0
LeadsTo row places P = (port : ℕ) × (port < length row) × P (place_in places (slice_index_or row port (0, 0)).0)

-- The row of the node at this place has a neighbour at a lower place, except for the first place; a neighbour at a
-- higher place, except for the last; and the first and the last node are neighbours.
pub record LeadsOn (row : List End) (places : List ℕ) (place last : ℕ) : Type 0 where
  pub down : (place ≡ 0) ⊎ LeadsTo row places (λ other. other < place)
  pub up : (place ≡ last) ⊎ LeadsTo row places (λ other. place < other)
  pub around : (place ≢ 0) ⊎ LeadsTo row places (λ other. other ≡ last)
