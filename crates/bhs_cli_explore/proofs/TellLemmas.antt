-- What is told of several black holes, one after the other.
use Rattle.std.proofs.Common.{◌≡◌, ◌≢◌, ◌∙◌, refl, sym, ap, subst, ℕ, zero, suc, ◌+◌, ◌<◌, ◌==◌, Bool, true, false}
use Rattle.std.proofs.Common.{List, [], ◌∷◌, ◌++◌, None, arith, true≢false, append_assoc, append-nil, drop, get_or}
use Rattle.std.proofs.Common.{inl, inr, if◌then◌else◌, length, map, not, take}
use Rattle.std.specs.Prelude.{Option, is_some}
use Rattle.std.proofs.lemmas.Bool.{cases_eq, eq-eqb, eqb-true, ne_eqb, not_from_false}
use Rattle.std.proofs.lemmas.List.{map-append, take-append-drop, take_more}
use Rattle.std.specs.List.{AllByRecursion}
use Rattle.bhs_stream.specs.Streams.{WriteAnswer}
use Rattle.bhs_cli.specs.declared.reporting.faults.Fault.{Fault}
use Rattle.bhs_cli.specs.declared.reporting.statuses.TheConstants.{DONE}
use Rattle.bhs_cli.specs.Fault.{status}
use Rattle.bhs_cli_explore.specs.Holes.{IsHoleReport, IsSolvedWith, TellsHoles, all_told, tells_fault, tells_last}
use Rattle.bhs_cli_explore.specs.Holes.{AreAllSolved, other_nodes, tells_on}
use Rattle.bhs_cli.specs.Showing.{Prints}
use Rattle.bhs_setups.specs.declared.lineups.Ready.{Ready}
use Rattle.bhs_cli_words.specs.declared.orders.Exploration.{Exploration}
use Rattle.bhs_schedules.specs.declared.results.Bounds.{Bounds}
use Rattle.bhs_schedules.specs.declared.results.Finding.{Finding}
use Rattle.bhs_schedules.specs.declared.results.Finding.TheVariants.{Solves, Comes, Fails, Breaks, Endless, Exceeds}
use Rattle.bhs_wasm.specs.Contents.{Contents}
use Rattle.bhs_net.specs.Network.{nodes_of}
use Rattle.bhs_cli.proofs.ReportLemmas.{not_done}
use Rattle.bhs_cli_explore.proofs.HoleLemmas.{holds_of}
use Rattle.bhs_cli_explore.specs.Discoveries.{found_in, found_status}
use Rattle.bhs_cli_explore.specs.ModuleExploration.{PrintsReport, is_of_one}

-- a report that is printed and says that all was done
done_both : (b : Bool) (printed done : ℕ) → (printed == DONE) ≡ b → (if b then done else printed) ≡ DONE
    → (printed ≡ DONE) × (done ≡ DONE)
done_both true printed done is coded = (eqb-true printed DONE is, coded)
done_both false printed done is coded = absurd (true≢false (sym (eq-eqb printed DONE coded) ∙ is))

module _ {O : Type 0} (takes : O → List ℕ → WriteAnswer → O → Type 0) (flushes : O → Bool → O → Type 0)
    (IsReport : (hole : ℕ) → (text : List ℕ) → (code : ℕ) → Type 0) where
  -- the reports of these holes are printed, and then the rest
  pub tells_then : (there output' : O) (code done : ℕ) (more holes : List ℕ) (output : O) → done ≡ DONE
      → TellsHoles takes flushes IsReport there done holes output
      → TellsHoles takes flushes IsReport output' code more there
      → TellsHoles takes flushes IsReport output' code (holes ++ more) output
  tells_then there output' code done more holes output is (all_told all) told = told
  tells_then there output' code done more holes output is (tells_on hole rest text from next said prints tells) told =
      tells_on hole (rest ++ more) text from next said prints
      (tells_then there output' code done more rest next is tells told)
  tells_then there output' code done more holes output is (tells_last hole rest text ended from said report other) told
      = absurd (other is)
  tells_then there output' code done more holes output is (tells_fault hole rest fault coded) told =
      absurd (not_done fault (sym coded ∙ is))

  -- a search that was not done ends the output
  pub tells_cut : (output' : O) (code : ℕ) (more holes : List ℕ) (output : O) → code ≢ DONE
      → TellsHoles takes flushes IsReport output' code holes output
      → TellsHoles takes flushes IsReport output' code (holes ++ more) output
  tells_cut output' code more holes output other (all_told all) = absurd (other all)
  tells_cut output' code more holes output other (tells_on hole rest text from next said prints tells) =
      tells_on hole (rest ++ more) text from next said prints (tells_cut output' code more rest next other tells)
  tells_cut output' code more holes output other (tells_last hole rest text ended from said report last) =
      tells_last hole (rest ++ more) text ended from said report last
  tells_cut output' code more holes output other (tells_fault hole rest fault coded) =
      tells_fault hole (rest ++ more) fault coded

  -- if every search was done, each hole has a report with the status DONE
  pub all_done : (output' : O) (code : ℕ) (holes : List ℕ) (output : O) → code ≡ DONE
      → TellsHoles takes flushes IsReport output' code holes output
      → AllByRecursion (λ hole. (text : List ℕ) × IsReport hole text DONE) holes
  all_done output' code holes output is (all_told all) = tt
  all_done output' code holes output is (tells_on hole rest text from next said prints tells) =
      ((text, said), all_done output' code rest next is tells)
  all_done output' code holes output is (tells_last hole rest text ended from said report other) = absurd (other is)
  all_done output' code holes output is (tells_fault hole rest fault coded) = absurd (not_done fault (sym coded ∙ is))

  -- ---- one after the other

  -- a report that is printed
  pub told_one : (hole : ℕ) (text : List ℕ) (done : ℕ) (output output' : O) (code : ℕ) → IsReport hole text done
      → PrintsReport takes flushes text done output output' code
      → TellsHoles takes flushes IsReport output' code (hole ∷ []) output
  told_one hole text done output output' code said report = elim (cases_eq code DONE) [
    | inl is ↦
        let both = done_both (report.printed == DONE) report.printed done refl (sym report.coded ∙ is) in
        tells_on hole [] text output output' (subst (IsReport hole text) both.1 said)
        (subst (Prints takes flushes text output output') both.0 report.prints) (all_told is)
    | inr other ↦ tells_last hole [] text done output said report other
  ]

  module _ {X : Type 0} (hole_of : X → ℕ) (all : List X) (place : ℕ) (output output' : O) (code : ℕ) where
    -- one more of several
    pub told_next : (x : X) (there : O) → place < length all → x ≡ get_or all place x
        → TellsHoles takes flushes IsReport there DONE (map hole_of (take place all)) output
        → TellsHoles takes flushes IsReport output' code (hole_of x ∷ []) there
        → TellsHoles takes flushes IsReport output' code (map hole_of (take (place + 1) all)) output
    told_next x there within is before one =
        let front = ap (map hole_of)
        (take_more all place x within ∙ ap (λ (it : X). take place all ++ it ∷ []) (sym is))
        ∙ map-append hole_of (take place all) (x ∷ []) in
        subst (λ (holes : List ℕ). TellsHoles takes flushes IsReport output' code holes output) (sym front)
        (tells_then there output' code DONE (hole_of x ∷ []) (map hole_of (take place all)) output refl before one)

    -- no report follows the one that ends the output
    pub told_whole : code ≢ DONE → TellsHoles takes flushes IsReport output' code (map hole_of (take place all)) output
        → TellsHoles takes flushes IsReport output' code (map hole_of all) output
    told_whole other front =
        subst (λ (holes : List ℕ). TellsHoles takes flushes IsReport output' code holes output)
        (sym (map-append hole_of (take place all) (drop place all)) ∙ ap (map hole_of) (take-append-drop place all))
        (tells_cut output' code (map hole_of (drop place all)) (map hole_of (take place all)) output other front)

  -- a fault before the first report
  pub told_none : (holes : List ℕ) (fault : Fault) (output : O) (code : ℕ) → 0 < length holes → code ≡ status fault
      → TellsHoles takes flushes IsReport output code holes output
  told_none [] fault output code some is = absurd (omega (arith, some))
  told_none (hole ∷ holes) fault output code some is = tells_fault hole holes fault is

  -- ---- a few at a time

  -- the output so far when these holes are left: every search before them was done
  pub record Leaves (all left : List ℕ) (output output' : O) : Type 0 where
    pub before : List ℕ
    pub parted : before ++ left ≡ all
    pub told : TellsHoles takes flushes IsReport output' DONE before output

  module _ (all left : List ℕ) (count : ℕ) (output there output' : O) (code : ℕ) (leaves : Leaves all left output there)
      (told : TellsHoles takes flushes IsReport output' code (take count left) there) where
    few_told : TellsHoles takes flushes IsReport output' code (leaves.before ++ take count left) output
    few_told = tells_then there output' code DONE (take count left) leaves.before output refl leaves.told told

    together : (leaves.before ++ take count left) ++ drop count left ≡ all
    together = append_assoc leaves.before (take count left) (drop count left)
        ∙ (ap (λ (rest : List ℕ). leaves.before ++ rest) (take-append-drop count left) ∙ leaves.parted)

    pub leaves_fewer : code ≡ DONE → Leaves all (drop count left) output output'
    leaves_fewer is = record {
      before = leaves.before ++ take count left;
      parted = together;
      told = subst (λ (it : ℕ). TellsHoles takes flushes IsReport output' it (leaves.before ++ take count left) output)
          is few_told;
    }

    pub leaves_all : code ≢ DONE → TellsHoles takes flushes IsReport output' code all output
    leaves_all other =
        subst (λ (holes : List ℕ). TellsHoles takes flushes IsReport output' code holes output) together
        (tells_cut output' code (drop count left) (leaves.before ++ take count left) output other few_told)

  pub none_left : (all : List ℕ) (output output' : O) → Leaves all [] output output'
      → TellsHoles takes flushes IsReport output' DONE all output
  none_left all output output' leaves =
      subst (λ (holes : List ℕ). TellsHoles takes flushes IsReport output' DONE holes output)
      (sym (append-nil leaves.before) ∙ leaves.parted) leaves.told

-- ---- all of some nodes

-- what holds of all holds of those behind the first few
pub all_drop : (P : ℕ → Type 0) (count : ℕ) (xs : List ℕ) → AllByRecursion P xs → AllByRecursion P (drop count xs)
all_drop P zero xs all = all
all_drop P (suc count) [] all = tt
all_drop P (suc count) (x ∷ xs) all = all_drop P count xs all.1

-- ---- what a report says

-- A finding with the exit status 0 that speaks of all schedules says that they solve.
solves_if : (found : Finding) → found_status found ≡ DONE → is_of_one found ≡ false
    → (bounds : Bounds) × (found ≡ Solves bounds)
solves_if (Solves bounds) is all = (bounds, refl)
solves_if (Comes verdict schedule) is all = absurd (true≢false all)
solves_if (Fails verdict schedule) is all = absurd (omega arith)
solves_if (Breaks agent failure schedule) is all = absurd (omega arith)
solves_if (Endless schedule cycle is_fair) is all = absurd (omega arith)
solves_if (Exceeds agent commands) is all = absurd (omega arith)

-- the report of a black hole says that all was done, where no schedules are drawn
solved_with : (ready : Ready) (exploration : Exploration) (programs : List (Option Contents))
    (arguments : List (List ℕ)) (hole : ℕ) (text : List ℕ) → exploration.drawing ≡ None
    → IsHoleReport ready exploration programs arguments hole text DONE
    → IsSolvedWith ready exploration programs arguments hole
solved_with ready exploration programs arguments hole text all said =
    let report = said.is_report in
    let found = report.is_found in
    let solves = solves_if (found_in report.found) (sym report.told) (found.all (found.kind ∙ ap is_some all)) in
    record {
      roles = said.roles;
      have = said.have;
      run = said.run;
      links = found.links;
      held = found.held;
      bounds = solves.0;
      solved = found.is_found.solved solves.0 solves.1;
    }

-- if all was done, and no schedules were drawn, the match is solved with each black hole
pub all_solved : {O : Type 0} (takes : O → List ℕ → WriteAnswer → O → Type 0) (flushes : O → Bool → O → Type 0)
    (ready : Ready) (exploration : Exploration) (programs : List (Option Contents)) (arguments : List (List ℕ))
    (output output' : O) (code : ℕ)
    → TellsHoles takes flushes (IsHoleReport ready exploration programs arguments) output' code (other_nodes ready)
    output → code ≡ DONE → exploration.drawing ≡ None → AreAllSolved ready exploration programs arguments
all_solved takes flushes ready exploration programs arguments output output' code told is all hole below other =
    let done = all_done takes flushes (IsHoleReport ready exploration programs arguments) output' code
    (other_nodes ready) output is told in
    let said = holds_of
    (λ (node : ℕ). (text : List ℕ) × IsHoleReport ready exploration programs arguments node text DONE)
    (λ (node : ℕ). not (node == ready.game.setup.home)) 0 (nodes_of ready.game.net) hole done (omega arith)
    (omega arith) (not_from_false _ (ne_eqb hole ready.game.setup.home other)) in
    solved_with ready exploration programs arguments hole said.0 all said.1
