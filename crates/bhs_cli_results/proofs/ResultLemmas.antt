-- Twins, pasts and tables that are printed of replays.
use Rattle.std.proofs.Common.{◌≡◌, ◌⊎◌, inl, inr, refl, ℕ, List, [], ◌∷◌, ◌++◌, ◌+◌, ◌<◌, Bool, true, false, true≢false}
use Rattle.std.proofs.Common.{sym, subst, ◌∙◌, is_ok, length, drop, take, get_or, OnOk, OnErr, IfOk, Result, Ok}
use Rattle.std.proofs.Common.{Err, Some, ap, arith}
use Rattle.std.specs.Prelude.{if◌then◌else◌}
use Rattle.std.specs.Result.{is_err}
use Rattle.std.proofs.lemmas.List.{drop_more, take_more}
use Rattle.bhs_match.specs.Matches.{Play}
use Rattle.bhs_replay.specs.declared.faults.ReplayFault.TheVariants as replays
use Rattle.bhs_view.specs.Twins.{twin_fault}
use Rattle.bhs_view.specs.declared.twins.TwinFault.{TwinFault}
use Rattle.bhs_view.specs.declared.twins.TwinFault.TheVariants as twins
use Rattle.bhs_cli.specs.declared.reporting.faults.Fault.TheVariants.{Twin}
use Rattle.bhs_cli.specs.declared.reporting.faults.Fault.TheVariants.{Memory}
use Rattle.bhs_cli_results.specs.declared.explain.OutputKind.{OutputKind}
use Rattle.bhs_cli.specs.Fault.{of_twin, status}
use Rattle.bhs_standings.specs.declared.rows.Row.{Row}
use Rattle.bhs_cli_words.specs.declared.orders.TableEntry.{TableEntry}
use Rattle.bhs_cli.specs.Filing.{IsReplayed}
use Rattle.bhs_cli_results.specs.Reports.{AreRows, one_more, HasNoTwin, IsRow, line_at, lines_at}
use Rattle.bhs_cli.specs.Showing.{Reports, stops}

-- why there is no twin
module _ {O : Type 0} (Printing : List ℕ → O → O → ℕ → Type 0) (IsReport : List ℕ → Type 0) (play : Play) (node : ℕ)
    (replayed : IsReplayed play)
    (output output' : O) (code : ℕ) (kept : output' ≡ output) where
  told_none : (fault : TwinFault) → (twin_fault play node ≡ Some fault) → code ≡ status (Twin fault)
      → Reports Printing IsReport output output' code ⊎ HasNoTwin node output output' code
  told_none fault told is = inr (record {
    play = play;
    fault = fault;
    replayed = replayed;
    told = told;
    coded = is;
    unwritten = kept;
  })

  pub untwinned : (fault : TwinFault) → (fault ≡ twins.Memory) ⊎ (twin_fault play node ≡ Some fault)
      → code ≡ status (of_twin fault)
      → Reports Printing IsReport output output' code ⊎ HasNoTwin node output output' code
  untwinned twins.Memory which is = inl (stops Memory is kept)
  untwinned twins.Node (inl e) is = cc
  untwinned twins.Node (inr told) is = told_none twins.Node told is
  untwinned twins.Home (inl e) is = cc
  untwinned twins.Home (inr told) is = told_none twins.Home told is
  untwinned twins.Same (inl e) is = cc
  untwinned twins.Same (inr told) is = told_none twins.Same told is
  untwinned (twins.Reached place) (inl e) is = cc
  untwinned (twins.Reached place) (inr told) is = told_none (twins.Reached place) told is

-- the line of the next place, followed by those of the remaining places
pub next_line : (kind : OutputKind) (play : Play) (places : List ℕ) (index d : ℕ) → index < length places
    → lines_at kind play (drop index places) ≡ line_at kind play (get_or places index d)
    ++ lines_at kind play (drop (index + 1) places)
next_line kind play places index d within = ap (lines_at kind play) (drop_more places index d within)

-- one row more
pushed : {T E : Type 0} (r : Result T E) → is_err r ≡ false → is_ok r ≡ true
pushed (Ok x) e = refl
pushed (Err x) e = absurd (true≢false e)

pub row_more : {T E : Type 0} (entries : List TableEntry) (place : ℕ) (entry : TableEntry) (rows new : List Row)
    (row : Row)
    (r : Result T E) → is_err r ≡ false
    → new ≡ (if is_ok r then rows ++ row ∷ [] else rows) → place < length entries → entry ≡ get_or entries place entry
    → AreRows (take place entries) rows → IsRow entry row → AreRows (take (place + 1) entries) new
row_more entries place entry rows new row r fine grown within at all one =
    let all_grown : new ≡ rows ++ row ∷ [] = grown ∙ ap (λ (b : Bool). if b then rows ++ row ∷ [] else rows)
    (pushed r fine) in
    let front : take (place + 1) entries ≡ take place entries ++ entry ∷ [] =
    take_more entries place entry within ∙ ap (λ (e : TableEntry). take place entries ++ e ∷ []) (sym at) in
    subst (λ (es : List TableEntry). AreRows es new) (sym front)
    (subst (λ (rs : List Row). AreRows (take place entries ++ entry ∷ []) rs) (sym all_grown)
    (one_more (take place entries) rows entry row all one))
