-- How a word picks an agent from the pool of agents on links.
use Rattle.std.specs.Prelude.{ℕ, ◌%◌, List, [], ◌∷◌, length, Option, None, Some}

-- the place that a word picks: the word modulo the length of the pool, and none in an empty pool
abbrev pub picked : {A : Type 0} → (pool : List A) (word : ℕ) → Option ℕ
picked [] word = None
picked (first ∷ others) word = Some (word % length (first ∷ others))
