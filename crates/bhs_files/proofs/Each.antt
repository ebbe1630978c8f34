-- Reading each item of the data gives the results of reading each value.
use Rattle.std.proofs.Common.{◌≡◌, List, [], ◌∷◌, length, Option, refl, arith}
use Rattle.toml.specs.Data.{Data}
use Rattle.toml.specs.View.{view, items_view}
use Rattle.toml.specs.declared.value.Value.{Value}
use Rattle.bhs_files.specs.Shapes.{count}

-- what a shape makes of a value
abbrev pub of_value : {A : Type 0} → (Data → Option A) → Value → Option A
of_value shape value = shape (view value)

-- the data of some values has as many items
pub counts_all : (vs : List Value) → count (items_view vs) ≡ length vs
counts_all [] = refl
counts_all (v ∷ vs) = omega (arith, counts_all vs)
