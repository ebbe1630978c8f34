-- What came of standard input.
use Rattle.std.specs.Prelude.{ℕ, ◌≤◌, List, length}
use Rattle.bhs_cli_serve.specs.declared.console.ConsoleInput.{ConsoleInput}
use Rattle.bhs_cli_serve.specs.declared.console.ConsoleInput.TheVariants as heard

-- There is room for the bytes that arrived.
abbrev pub IsHeardIn : (room : List ℕ) → ConsoleInput → Type 0
IsHeardIn room (heard.Bytes count) = count ≤ length room
IsHeardIn room came = Unit {0}
