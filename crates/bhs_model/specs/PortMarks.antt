-- Marks of ports, in a row for each node.
use Rattle.std.specs.Prelude.{ℕ, ◌≡◌, ◌≤◌, Bool, true, false, List, [], map, replicate, slice_index_or, slice_set}
use Rattle.std.specs.Prelude.{length, Vec}
use Rattle.std.specs.declared.alloc.Global.{Global}

-- the marks that rows in memory show
abbrev pub marks_of : List (Vec Bool Global) → List (List Bool)
marks_of rows = map (λ row. row.items) rows

-- The marks of a node's ports; none if the node does not exist.
abbrev pub row_at : List (List Bool) → (node : ℕ) → List Bool
row_at marks node = slice_index_or marks node []

-- the mark of a port
abbrev pub mark_at : List (List Bool) → (node port : ℕ) → Bool
mark_at marks node port = slice_index_or (row_at marks node) port false

-- an empty row for each of as many nodes
abbrev pub unmarked : (nodes : ℕ) → List (List Bool)
unmarked nodes = replicate nodes []

-- the marks with that of a port set
abbrev pub marked_at : List (List Bool) → (node port : ℕ) → List (List Bool)
marked_at marks node port = slice_set marks node (slice_set (row_at marks node) port true)

-- Each mark is unchanged, and no row has become shorter.
pub record HasMoreRoom (early late : List (List Bool)) : Type 0 where
  pub rows : length late ≡ length early
  pub same : (node port : ℕ) → mark_at late node port ≡ mark_at early node port
  pub room : (node : ℕ) → length (row_at early node) ≤ length (row_at late node)
