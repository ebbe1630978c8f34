-- The line of a denial.
use Rattle.std.specs.Prelude.{ℕ, List, codes}
use Rattle.bhs_wire.specs.declared.denials.Denial.{Denial}
use Rattle.bhs_wire.specs.declared.denials.Denial.TheVariants.{Enter, Key, Taken}

-- without its line feed
abbrev pub denial_line : Denial → List ℕ
denial_line Enter = codes "{\"no\":\"enter\"}"
denial_line Key = codes "{\"no\":\"key\"}"
denial_line Taken = codes "{\"no\":\"taken\"}"
