use Rattle.std.specs.Prelude.{ℕ, List, map, String, string_bytes}
use Rattle.std.specs.declared.alloc.Global.{Global}
use Rattle.bhs_setups.specs.KeyTable.{Seat}

-- the entries of the map that holds the keys, by their bytes
abbrev pub by_bytes : List (String Global × (ℕ × ℕ)) → List Seat
by_bytes entries = map (λ entry. (string_bytes entry.0, entry.1)) entries
