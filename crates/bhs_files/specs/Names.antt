-- Names in the order in which they are first seen.
use Rattle.std.specs.Prelude.{ℕ, Bool, not, nat_eq, List, [], ◌∷◌, filter}
use Rattle.std.specs.List.{list_any}
use Rattle.std.specs.Cmp.Lexicographic.{pointwise}

-- the two names have the same bytes
abbrev pub same_name : List ℕ → List ℕ → Bool
same_name = pointwise nat_eq

-- removes duplicates: keeps the first occurrence of each name
abbrev pub first_seen : List (List ℕ) → List (List ℕ)
first_seen [] = []
first_seen (name ∷ names) = name ∷ filter (λ other. not (same_name other name)) (first_seen names)

-- whether a list contains the name
abbrev pub is_among : List (List ℕ) → List ℕ → Bool
is_among names name = list_any (same_name name) names
