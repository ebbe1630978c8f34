-- The results of a contest's matches, in order.
use Rattle.std.proofs.Common.{◌≡◌, ◌∙◌, sym, ap, subst, ℕ, ◌+◌, ◌<◌, List, [], ◌∷◌, ◌++◌, length, take, get_or}
use Rattle.std.proofs.Common.{Result, Ok, Err, IfOk, IfErr}
use Rattle.std.proofs.lemmas.List.{take_more}
use Rattle.bhs_setups.specs.declared.lineups.Ready.{Ready}
use Rattle.bhs_standings.specs.declared.rows.Row.{Row}
use Rattle.bhs_cli_results.specs.ContestTables.{AreFound, IsContestRow, IsFound, found_more, row_in, status_in}
use Rattle.bhs_cli.specs.Fault.{IsOfFault}
use Rattle.bhs_cli.specs.Filing.{first_status}

-- the result of a match: its row or its fault
pub found_is : (ready : Ready) (found : Result Row ℕ) → IfOk found (IsContestRow ready) → IfErr found IsOfFault
    → IsFound ready found
found_is ready (Ok row) row_is fault_is = row_is
found_is ready (Err code) row_is fault_is = fault_is

-- one match more
pub found_next : (matches : List Ready) (place : ℕ) (ready : Ready) (rows new : List Row) (code next : ℕ)
    (found : Result Row ℕ) → place < length matches → ready ≡ get_or matches place ready
    → AreFound (take place matches) rows code → IsFound ready found → new ≡ rows ++ row_in found
    → next ≡ first_status code (status_in found) → AreFound (take (place + 1) matches) new next
found_next matches place ready rows new code next found within at all one grown told =
    let front : take (place + 1) matches ≡ take place matches ++ ready ∷ [] =
    take_more matches place ready within ∙ ap (λ (e : Ready). take place matches ++ e ∷ []) (sym at) in
    subst (λ (ms : List Ready). AreFound ms new next) (sym front)
    (subst (λ (rs : List Row). AreFound (take place matches ++ ready ∷ []) rs next) (sym grown)
    (subst (λ (c : ℕ). AreFound (take place matches ++ ready ∷ []) (rows ++ row_in found) c) (sym told)
    (found_more (take place matches) rows code ready found all one)))
