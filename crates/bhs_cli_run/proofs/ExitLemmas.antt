-- The exit statuses of what the program does.
use Rattle.std.proofs.Common.{◌≡◌, inl, inr, refl, ℕ, List, Option, None, Some, Bool, true, false, Result, Ok, Err}
use Rattle.bhs_standings.specs.declared.rows.Row.{Row}
use Rattle.std.specs.Prelude.{◌==◌, if◌then◌else◌}
use Rattle.bhs_shared_match.specs.declared.settlement.Settlement.{Settlement}
use Rattle.bhs_server.specs.declared.settlement.Refused.{Refused}
use Rattle.bhs_setups.specs.declared.lineups.Lineup.{Lineup}
use Rattle.bhs_setups.specs.declared.lineups.Ready.{Ready}
use Rattle.bhs_time.specs.declared.kinds.ScheduleKind.{ScheduleKind}
use Rattle.bhs_stream.specs.Streams.{Chunk, WriteAnswer}
use Rattle.bhs_rehearsal.specs.Stages.{Stage}
use Rattle.bhs_cli_words.specs.declared.orders.Order.{Order}
use Rattle.bhs_cli_words.specs.declared.orders.Order.TheVariants as order
use Rattle.bhs_cli_words.specs.declared.orders.Exploration.{Exploration}
use Rattle.bhs_schedules.specs.declared.results.Finding.{Finding}
use Rattle.bhs_schedules.specs.declared.results.Finding.TheVariants as found
use Rattle.bhs_cli.specs.declared.reporting.faults.Fault.TheVariants.{Write, Memory, Twin, Text}
use Rattle.bhs_cli_results.specs.Appeals.{Appeals, upholds, rejects, hears_nothing}
use Rattle.bhs_cli_results.specs.ContestTables.{IsTableOf, TablesContest, TablesMatches, tables_contest}
use Rattle.bhs_cli_results.specs.ContestTables.{tables_found}
use Rattle.bhs_cli_results.specs.ContestTables.{tables_none, tables_nothing}
use Rattle.bhs_cli_results.specs.Recovery.{AreSaved, RecoversContest, all_saved, recovers_contest}
use Rattle.bhs_cli_results.specs.Recovery.{recovers_nothing, unsaved_one}
use Rattle.bhs_cli_results.specs.ContestTables.{AreFound, found_more, nothing_found, IsFound, status_in}
use Rattle.bhs_cli_explore.specs.Discoveries.{Explores, ExploresMatch, found_in, found_status}
use Rattle.bhs_cli_explore.specs.Discoveries.{exploration_done, exploration_ends, explores_nothing, explores_on}
use Rattle.bhs_cli_explore.specs.Holes.{ExploresHoles, TellsHoles, all_told, explores_holes, explores_no_holes}
use Rattle.bhs_cli_explore.specs.Holes.{other_nodes, tells_fault, tells_last, tells_on}
use Rattle.bhs_cli_attest.specs.Attesting.{AttestsReplay, attests, attests_nothing}
use Rattle.bhs_cli_attest.specs.Lines.{all_follow}
use Rattle.bhs_cli_explore.specs.ModuleExploration.{ExploresModules, explores_modules, explores_no_modules}
use Rattle.bhs_cli_rehearse.specs.Rehearsal.{Rehearses, done, unfiled, ends}
use Rattle.bhs_cli_rehearse.specs.RehearsedTournaments.{RehearsesNamed, rehearses_on, refuses_file}
use Rattle.bhs_cli_rehearse.specs.InteractiveTournaments.{InteractsNamed, InteractsWhole, tournament_refused}
use Rattle.bhs_cli_rehearse.specs.InteractiveTournaments.{interaction_done, interaction_ends, interaction_on}
use Rattle.bhs_cli_rehearse.specs.InteractiveTournaments.{interaction_unfiled}
use Rattle.bhs_cli.specs.Showing.{Prints, all, part, held_back, PrintsByLine, whole, cut_off, kept_back, Reports}
use Rattle.bhs_cli.specs.Showing.{prints, stops}
use Rattle.bhs_cli.specs.declared.reporting.statuses.TheConstants.{DONE, FAILING}
use Rattle.bhs_cli_serve.specs.Contests.{Files, all_filed, unfiled_one, Tables, tabled, untabled, Hosts, fares}
use Rattle.bhs_cli_serve.specs.Contests.{fails}
use Rattle.bhs_cli_serve.specs.Contests.{Serves, serves_on, goes_unheard, refuses_contest}
use Rattle.bhs_cli_run.specs.Program.{Does, IsStatus, Obeys, does, lacks_memory}
use Rattle.bhs_cli_run.specs.Program.{Runs, obeys, helps, refuses_words, lacks_room}

-- the exit status of what was printed
module _ {O : Type 0} (takes : O → List ℕ → WriteAnswer → O → Type 0) (flushes : O → Bool → O
    → Type 0) (output output' : O)
    (code : ℕ) where
  of_print : (text : List ℕ) → Prints takes flushes text output output' code → IsStatus code
  of_print text (all is shows) = inl is
  of_print text (part is puts) = inr (inr (Write, is))
  of_print text (held_back is shows) = inr (inr (Write, is))

  of_lines : (text : List ℕ) → PrintsByLine takes flushes text output output' code → IsStatus code
  of_lines text (whole is shows) = inl is
  of_lines text (cut_off fault is stopped) = inr (inr (fault, is))
  of_lines text (kept_back is shows) = inr (inr (Write, is))

  of_report : (Printing : List ℕ → O → O → ℕ → Type 0) (IsReport : List ℕ → Type 0)
      → ((text : List ℕ) → Printing text output output' code → IsStatus code)
      → Reports Printing IsReport output output' code → IsStatus code
  of_report Printing IsReport told (prints text is print) = told text print
  of_report Printing IsReport told (stops fault is kept) = inr (inr (fault, is))

  of_text : (IsReport : List ℕ → Type 0) → Reports (Prints takes flushes) IsReport output output' code → IsStatus code
  of_text IsReport report = of_report _ _ of_print report

  of_many : (IsReport : List ℕ → Type 0) → Reports (PrintsByLine takes flushes) IsReport output output' code
      → IsStatus code
  of_many IsReport report = of_report _ _ of_lines report

  of_appeal : (game : ℕ) → Appeals takes flushes game output output' code → IsStatus code
  of_appeal game (upholds one is on_time report) = of_text _ report
  of_appeal game (rejects one is fault wrong coded kept) = inr (inr (fault, coded))
  of_appeal game (hears_nothing fault coded kept) = inr (inr (fault, coded))

-- the exit status of what was found
of_found : (found : Finding) (code : ℕ) → code ≡ found_status found → IsStatus code
of_found (found.Solves bounds) code is = inl is
of_found (found.Comes verdict schedule) code is = inl is
of_found (found.Fails verdict schedule) code is = inr (inl (inr is))
of_found (found.Breaks agent failure schedule) code is = inr (inl (inr is))
of_found (found.Endless schedule round is_fair) code is = inr (inl (inr is))
of_found (found.Exceeds agent commands) code is = inr (inr (Text, is))

-- the exit status of a contest
of_either : (is_done : Bool) (one two : ℕ) → IsStatus one → IsStatus two
    → IsStatus (if is_done then two else one)
of_either true one two first second = second
of_either false one two first second = first

-- the exit status of what was found of matches
of_one : (ready : Ready) (found : Result Row ℕ) → IsFound ready found → IsStatus (status_in found)
of_one ready (Ok row) is = inl refl
of_one ready (Err code) is = inr (inr is)

of_all : (matches : List Ready) (rows : List Row) (code : ℕ) → AreFound matches rows code → IsStatus code
of_all _ _ _ nothing_found = inl refl
of_all _ _ _ (found_more matches rows code ready found before is) =
    of_either (code == DONE) code (status_in found) (of_all matches rows code before) (of_one ready found is)

-- the exit status of the table of a contest
module _ {O : Type 0} (takes : O → List ℕ → WriteAnswer → O → Type 0) (flushes : O → Bool → O
    → Type 0) (output output' : O)
  where
    of_matches : (matches : List Ready) (code : ℕ) → TablesMatches takes flushes matches output output' code
        → IsStatus code
    of_matches matches code (tables_found rows found printed all_found report is) =
        rw is (of_either (found == DONE) found printed (of_all matches rows found all_found)
        (of_text takes flushes output output' printed (IsTableOf rows) report))
    of_matches matches code (tables_none fault is kept) = inr (inr (fault, is))

    of_contest_table : (code : ℕ) → TablesContest takes flushes output output' code → IsStatus code
    of_contest_table code (tables_contest lineup assembled tables) = of_matches lineup.ready.items code tables
    of_contest_table code (tables_nothing fault is kept) = inr (inr (fault, is))

module _ {P O : Type 0} (files : P → List ℕ → WriteAnswer → P → Type 0) (takes : O → List ℕ → WriteAnswer → O → Type 0)
    (flushes : O → Bool → O → Type 0) where
  of_files : (schedule : ScheduleKind) (settled : List (Result Settlement Refused)) (code : ℕ)
      → Files files schedule settled code → IsStatus code
  of_files schedule settled code (all_filed is filed) = inl is
  of_files schedule settled code (unfiled_one fault is) = inr (inr (fault, is))

  of_saved : (lineup : Lineup) (code : ℕ) → AreSaved files lineup code → IsStatus code
  of_saved lineup code (all_saved is saved) = inl is
  of_saved lineup code (unsaved_one fault is) = inr (inr (fault, is))

  of_recovery : (output output' : O) (code : ℕ) → RecoversContest files takes flushes output output' code
      → IsStatus code
  of_recovery output output' code (recovers_contest lineup assembled recovered) =
      rw recovered.coded (of_either (recovered.saved == DONE) recovered.saved recovered.printed
      (of_saved lineup recovered.saved recovered.saves)
      (of_matches takes flushes output output' lineup.ready.items recovered.printed recovered.tables))
  of_recovery output output' code (recovers_nothing fault is kept) = inr (inr (fault, is))

  of_table : (teams : List (List ℕ)) (settled : List (Result Settlement Refused)) (output output' : O) (code : ℕ)
      → Tables takes flushes teams settled output output' code → IsStatus code
  of_table teams settled output output' code (tabled plays are table) =
      of_text takes flushes output output' code _ table
  of_table teams settled output output' code (untabled fault why is kept) = inr (inr (fault, is))

  of_host : (seed : List ℕ) (schedule : ScheduleKind) (matches : List Ready) (output output' : O) (code : ℕ)
      → Hosts files takes flushes seed schedule matches output output' code → IsStatus code
  of_host seed schedule matches output output' code (fares settled fared ended) =
      rw ended.coded (of_either (ended.filed == DONE) ended.filed ended.printed
      (of_files schedule settled ended.filed ended.writes)
      (of_table _ settled output output' ended.printed ended.tables))
  of_host seed schedule matches output output' code (fails fault unbegun is kept) = inr (inr (fault, is))

module _ {P I O : Type 0} (files : P → List ℕ → WriteAnswer → P → Type 0) (gives : I → Chunk → I → Type 0)
    (takes : O → List ℕ → WriteAnswer → O → Type 0)
    (flushes : O → Bool → O → Type 0) (input input' : I) (output output' : O) (code : ℕ) where
  of_rehearsal : (turns : ℕ) (prefix : Option (List ℕ)) (stage : Stage) → Rehearses files gives takes turns flushes
      prefix stage input input' output output' code → IsStatus code
  of_rehearsal turns prefix stage (done out is filed) = inl is
  of_rehearsal turns prefix stage (unfiled fault is some out) = inr (inr (fault, is))
  of_rehearsal turns prefix stage (ends fault is ended) = inr (inr (fault, is))

  of_named : (prefix : Option (List ℕ)) → RehearsesNamed files gives takes flushes prefix input input' output output'
      code → IsStatus code
  of_named prefix (rehearses_on lineup assembled rehearsal) = of_rehearsal _ _ _ rehearsal
  of_named prefix (refuses_file fault is rests) = inr (inr (fault, is))

  of_interaction : (prefix : Option (List ℕ)) (stage : Stage) → InteractsWhole files gives takes flushes prefix stage
      input input'
      output output' code → IsStatus code
  of_interaction prefix stage (interaction_done games out is filed) = inl is
  of_interaction prefix stage (interaction_unfiled fault is some games out) = inr (inr (fault, is))
  of_interaction prefix stage (interaction_ends fault is ended) = inr (inr (fault, is))

  of_named_interaction : (prefix : Option (List ℕ)) → InteractsNamed files gives takes flushes prefix input input'
      output output'
      code → IsStatus code
  of_named_interaction prefix (interaction_on lineup assembled rehearsal) = of_interaction _ _ rehearsal
  of_named_interaction prefix (tournament_refused fault is rests) = inr (inr (fault, is))

  of_match : (ready : Ready) (exploration : Exploration) → ExploresMatch takes flushes ready exploration output' code
      → IsStatus code
  of_match ready exploration (exploration_done printed) = of_found (found_in printed.found) code printed.told
  of_match ready exploration (exploration_ends fault is) = inr (inr (fault, is))

  of_exploration : (exploration : Exploration) → Explores takes flushes exploration input input' output output' code
      → IsStatus code
  of_exploration exploration (explores_on lineup assembled ready at explored) = of_match ready exploration explored
  of_exploration exploration (explores_nothing fault is rests) = inr (inr (fault, is))

  of_modules : (arguments : List (List ℕ)) (exploration : Exploration) → ExploresModules takes flushes arguments
      exploration output output' code → IsStatus code
  of_modules arguments exploration (explores_modules lineup assembled ready at some roles have text ended said report) =
      rw report.coded (of_either (report.printed == DONE) report.printed ended
      (of_print takes flushes output output' report.printed text report.prints)
      (of_found (found_in said.found) ended said.told))
  of_modules arguments exploration (explores_no_modules fault is kept) = inr (inr (fault, is))

  of_holes : {IsReport : ℕ → List ℕ → ℕ → Type 0} → ((hole : ℕ) (text : List ℕ) (ended : ℕ)
      → IsReport hole text ended → IsStatus ended)
      → (holes : List ℕ) (from : O) → TellsHoles takes flushes IsReport output' code holes from → IsStatus code
  of_holes each holes from (all_told is) = inl is
  of_holes each holes from (tells_on hole rest text out there said shown told) = of_holes each rest there told
  of_holes each holes from (tells_last hole rest text ended out said report not_done) =
      rw report.coded (of_either (report.printed == DONE) report.printed ended
      (of_print takes flushes out output' report.printed text report.prints) (each hole text ended said))
  of_holes each holes from (tells_fault hole rest fault is) = inr (inr (fault, is))

  of_all_holes : (arguments : List (List ℕ)) (exploration : Exploration) → ExploresHoles takes flushes arguments
      exploration output output' code → IsStatus code
  of_all_holes arguments exploration (explores_holes lineup assembled ready at some programs told solved) =
      of_holes (λ hole text ended said. of_found (found_in said.is_report.found) ended said.is_report.told)
      (other_nodes ready) output told
  of_all_holes arguments exploration (explores_no_holes fault is not_done kept) = inr (inr (fault, is))

  of_attestation : (arguments : List (List ℕ)) (wakeups : ℕ) → AttestsReplay takes flushes arguments wakeups output
      output' code → IsStatus code
  of_attestation arguments wakeups (attests play read enough text ended said report) =
      rw report.coded (of_either (report.printed == DONE) report.printed ended
      (of_print takes flushes output output' report.printed text report.prints)
      (rw said.told (of_either (all_follow said.lines) FAILING DONE (inr (inl (inr refl))) (inl refl))))
  of_attestation arguments wakeups (attests_nothing fault is kept) = inr (inr (fault, is))

  of_served : (port : ℕ) → Serves files takes flushes port output output' code → IsStatus code
  of_served port (serves_on lineup assembled heard shows hosts) =
      of_host files takes flushes _ _ _ heard output' code hosts
  of_served port (goes_unheard lineup assembled is print) = inr (inr (Write, is))
  of_served port (refuses_contest fault is kept) = inr (inr (fault, is))

  of_deed : (order : Order) → Does files gives takes flushes order input input' output output' code → IsStatus code
  of_deed (order.Rehearse None prefix) rehearsal = of_rehearsal _ _ _ rehearsal
  of_deed (order.Rehearse (Some name) prefix) named = of_named prefix named
  of_deed (order.RehearseInteractively None prefix) rehearsal = of_interaction _ _ rehearsal
  of_deed (order.RehearseInteractively (Some name) prefix) named = of_named_interaction prefix named
  of_deed (order.Check name) check = of_text takes flushes output output' code _ check.1
  of_deed (order.Judge replay) judged = of_text takes flushes output output' code _ judged.1
  of_deed (order.Appeal replay appeal) appealed = of_appeal takes flushes output output' code _ appealed.1
  of_deed (order.Table entries) table = of_text takes flushes output output' code _ table.1
  of_deed (order.ContestTable name prefix) table = of_contest_table takes flushes output output' code table.1
  of_deed (order.Explain replay agent) past = of_many takes flushes output output' code _ past.1.printed
  of_deed (order.Twin replay node) twin = elim twin.1 [
    | inl report ↦ of_many takes flushes output output' code _ report
    | inr none ↦ inr (inr (Twin none.fault, none.coded))
  ]
  of_deed (order.Recover name) recovered = of_many takes flushes output output' code _ recovered.1
  of_deed (order.RecoverContest name prefix) recovered =
      of_recovery files takes flushes output output' code recovered.1
  of_deed (order.Explore name exploration) explored = of_exploration exploration explored
  of_deed (order.ExploreModules name modules exploration) explored = of_modules _ exploration explored.1
  of_deed (order.ExploreAllHoles name modules exploration) explored = of_all_holes _ exploration explored.1
  of_deed (order.Attest replay modules wakeups) attested = of_attestation _ wakeups attested.1
  of_deed (order.Serve name hosting) served = of_served hosting.port served.1

  of_order : (order : Order) → Obeys files gives takes flushes order input input' output output' code → IsStatus code
  of_order order (does deed) = of_deed order deed
  of_order order (lacks_memory is rests) = inr (inr (Memory, is))

  pub status_of_run : (words : List (List ℕ)) → Runs files gives takes flushes words input input' output output'
      code → IsStatus code
  status_of_run words (obeys order is obeyed) = of_order order obeyed
  status_of_run words (helps text asked unread print) = of_print takes flushes output output' code text print
  status_of_run words (refuses_words refused is rests) = inr (inl (inl is))
  status_of_run words (lacks_room is rests) = inr (inr (Memory, is))
