-- Matches of a tournament before they are played.
use Rattle.std.specs.Prelude.{◌≡◌, List, []}
use Rattle.std.specs.List.{AllByRecursion}
use Rattle.bhs_setups.specs.declared.lineups.Ready.{Ready}

-- nothing has happened in any match
abbrev pub AreFresh : List Ready → Type 0
AreFresh matches = AllByRecursion (λ ready. ready.game.log ≡ []) matches
