-- What the operator of a contest asks for on standard input.
use Rattle.std.specs.Prelude.{ℕ, List, codes, bytes_eq, take, drop, nat_lt, Option, Some, None, option_and_then}
use Rattle.std.specs.Prelude.{if◌then◌else◌}
use Rattle.bhs_script.specs.Number.{number}
use Rattle.bhs_cli_serve.specs.declared.requests.OperatorRequest.{OperatorRequest}
use Rattle.bhs_cli_serve.specs.declared.requests.OperatorRequest.TheVariants as asked

-- the request to close the match with this number, if it exists
abbrev pub closes_one : (matches : ℕ) → (game : ℕ) → Option OperatorRequest
closes_one matches game = if nat_lt game matches then Some (asked.Close game) else None

-- `close M`: that match M be closed
abbrev pub closes : (matches : ℕ) → (line : List ℕ) → Option OperatorRequest
closes matches line =
    if bytes_eq (take 6 line) (codes "close ") then option_and_then (closes_one matches) (number (drop 6 line))
    else None

-- what a line asks for in a contest of this number of matches; None if it asks for nothing
abbrev pub asked_in : (matches : ℕ) → (line : List ℕ) → Option OperatorRequest
asked_in matches line =
    if bytes_eq line (codes "close") then Some asked.CloseAll
    else (if bytes_eq line (codes "status") then Some asked.Status else closes matches line)
