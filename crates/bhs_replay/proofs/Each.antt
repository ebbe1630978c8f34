-- Reading each item of the data gives the results of reading each value.
use Rattle.std.proofs.Common.{Option}
use Rattle.serde_json.specs.Data.{Data}
use Rattle.serde_json.specs.View.{view}
use Rattle.serde_json.specs.declared.value.Value.{Value}

-- what a shape makes of a value
abbrev pub of_value : {A : Type 0} → (Data → Option A) → Value → Option A
of_value shape value = shape (view value)
