-- What a line of a client is, before anyone reads it.
use Rattle.std.specs.Prelude.{ℕ, List, Bool, length, ◌==◌, ◌||◌, nat_lt, if◌then◌else◌}
use Rattle.std.specs.List.{list_all}
use Rattle.bhs_wire.specs.declared.kinds.LineKind.{LineKind}
use Rattle.bhs_wire.specs.declared.kinds.LineKind.TheVariants.{Over, Blank, Whole}
use Rattle.bhs_model.specs.declared.limits.TheConstants.{MAX_LINE}

-- a space, a tab or a carriage return
abbrev pub is_space : ℕ → Bool
is_space byte = byte == 32 || byte == 9 || byte == 13

-- its length is judged first: a line of too many spaces is too long, and not blank
abbrev pub line_kind : List ℕ → LineKind
line_kind line = if nat_lt MAX_LINE (length line) then Over else (if list_all is_space line then Blank else Whole)
