-- Which agent of which match a key lets in.
use Rattle.std.specs.Prelude.{ℕ, Bool, nat_eq, if◌then◌else◌, List, [], ◌∷◌, ◌++◌, Option, Some, None}
use Rattle.std.specs.List.{list_any}
use Rattle.std.specs.Cmp.Lexicographic.{pointwise}

-- A key, with the numbers of the match and the agent that it admits.
abbrev pub Seat : Type 0
Seat = List ℕ × (ℕ × ℕ)

-- the two keys have the same bytes
abbrev pub same_key : List ℕ → List ℕ → Bool
same_key = pointwise nat_eq

-- what the key lets in
abbrev pub seat_at : List ℕ → List Seat → Option (ℕ × ℕ)
seat_at key [] = None
seat_at key (seat ∷ seats) = if same_key key seat.0 then Some seat.1 else seat_at key seats

-- the key lets some agent in
abbrev pub has_key : List ℕ → List Seat → Bool
has_key key seats = list_any (λ seat. same_key key seat.0) seats

-- the seats with one more at the end, unless its key lets an agent in already
abbrev pub with_seat : List Seat → Seat → List Seat
with_seat seats seat = if has_key seat.0 seats then seats else seats ++ seat ∷ []
