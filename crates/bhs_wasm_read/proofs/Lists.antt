-- The first place at which a mapped list passes.
use Rattle.std.proofs.Common.{◌≡◌, ◌+◌, Bool, not, cond, List, [], ◌∷◌, map, refl, ap, position}
use Rattle.std.specs.List.{position_or_len}
use Rattle.std.proofs.lemmas.List.{length-map}

first-mapped : {X Y : Type 0} (f : X → Y) (p : Y → Bool) (xs : List X)
    → position_or_len p (map f xs) ≡ position_or_len (λ x. p (f x)) xs
first-mapped f p [] = refl
first-mapped f p (x ∷ xs) = ap (λ n. cond (not (p (f x))) (1 + n) 0) (first-mapped f p xs)

pub position-mapped : {X Y : Type 0} (f : X → Y) (p : Y → Bool) (xs : List X)
    → position p (map f xs) ≡ position (λ x. p (f x)) xs
position-mapped f p xs = rw (first-mapped f p xs, length-map xs f)
