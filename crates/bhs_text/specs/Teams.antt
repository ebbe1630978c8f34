use Rattle.std.specs.Prelude.{ℕ, Bool, ◌&&◌, ◌||◌, ◌==◌, nat_le, List, length}
use Rattle.std.specs.List.{list_all}
use Rattle.bhs_text.specs.declared.teams.TheConstants.{MAX_TEAM}

-- `a` to `z`, `0` to `9`, or `-`
abbrev pub is_team_character : ℕ → Bool
is_team_character c = (nat_le 97 c && nat_le c 122) || (nat_le 48 c && nat_le c 57) || (c == 45)

-- at least one byte, and no more than MAX_TEAM
abbrev pub is_sized : List ℕ → Bool
is_sized bytes = nat_le 1 (length bytes) && nat_le (length bytes) MAX_TEAM

-- the name of a team
abbrev pub is_team : List ℕ → Bool
is_team bytes = is_sized bytes && list_all is_team_character bytes
