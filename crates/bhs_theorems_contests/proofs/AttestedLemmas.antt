-- Matches that were attested: their logs are schedules of the files that were explored.
use Rattle.std.proofs.Common.{ℕ, zero, suc, ◌<◌, ◌≡◌, ◌∙◌, Bool, true, false, List, [], ◌∷◌, length, map, get_or, Some}
use Rattle.std.proofs.Common.{refl, sym, ap, ap₂, subst, arith}
use Rattle.std.specs.Prelude.{slice_get, option_map, if◌then◌else◌}
use Rattle.std.specs.List.{AllByRecursion, range_with_len}
use Rattle.std.proofs.lemmas.Bool.{true≢false, and_parts}
use Rattle.std.proofs.lemmas.List.FromFn.{get_or-range_with_len}
use Rattle.std.proofs.lemmas.Option.{get_or_from_slice_get, slice_get-map, slice_get_within}
use Rattle.bhs_match.specs.Matches.{Play}
use Rattle.bhs_model.specs.Draws.{Held}
use Rattle.bhs_model.specs.Marks.{events_of}
use Rattle.bhs_referee.proofs.RestLemmas.{decided_done}
use Rattle.bhs_schedules.specs.declared.results.Bounds.{Bounds}
use Rattle.bhs_schedules.specs.Strategies.{History, Strategies, Strategy}
use Rattle.bhs_wasm_read.specs.Modules.{module_in}
use Rattle.bhs_wasm_team.specs.declared.agents.TheConstants.{FUEL}
use Rattle.bhs_wasm_team.specs.Agents.{strategy_of}
use Rattle.bhs_wasm_team.specs.Roles.{strategies_in}
use Rattle.bhs_explore.specs.Answers.{is_held}
use Rattle.bhs_attest.specs.Attested.{Follows, Player}
use Rattle.bhs_attest.specs.Attestations.{Attests}
use Rattle.bhs_attest.specs.declared.follow.Attestation.{Attestation}
use Rattle.bhs_attest.specs.declared.follow.Attestation.TheVariants as attestations
use Rattle.bhs_attest.specs.Laws.{IsSchedule, player_of, trial_in}
use Rattle.bhs_attest.proofs.Schedules.{followed_logs_are_schedules_lemma}
use Rattle.bhs_cli.specs.declared.reporting.statuses.TheConstants.{DONE, FAILING}
use Rattle.bhs_cli_attest.specs.Attesting.{IsLine}
use Rattle.bhs_cli_attest.specs.Lines.{AgentLine, all_follow, follows}
use Rattle.bhs_theorems_contests.specs.AttestedMatches.{IsAttestedMatch, IsSameFile, LogsOfSchedulesAreSolved}
use Rattle.bhs_theorems_contests.specs.AttestedMatches.{LogsOfSchedulesAreNeverWrong, AttestedMatchesAreSolved}
use Rattle.bhs_theorems_contests.specs.AttestedMatches.{AttestedMatchesAreNeverWrong}
use Rattle.bhs_theorems_contests.proofs.Early.{within_early}
use Rattle.bhs_theorems_contests.proofs.FileContest.{links, roles_solve, runs_as_explored, wakeups}
use Rattle.bhs_theorems_contests.proofs.Final.{judged, never_wrong}
use Rattle.bhs_theorems_contests.proofs.Reached.{reached_by_schedule}

-- ---- logs that are schedules

pub logs_of_schedules_are_solved : LogsOfSchedulesAreSolved
logs_of_schedules_are_solved play held wakeups strategies moves lost schedule done solves =
    judged (trial_in play held wakeups strategies) moves lost solves (events_of play.log) (decided_done play done)
    (reached_by_schedule (trial_in play held wakeups strategies) (events_of play.log) schedule)

pub logs_of_schedules_are_never_wrong : LogsOfSchedulesAreNeverWrong
logs_of_schedules_are_never_wrong play held wakeups strategies moves lost schedule solves rests =
    let reached = reached_by_schedule (trial_in play held wakeups strategies) (events_of play.log) schedule in (
      never_wrong (trial_in play held wakeups strategies) moves lost solves rests (events_of play.log) reached,
      within_early (trial_in play held wakeups strategies) moves lost solves rests (events_of play.log) reached,
    )

-- ---- lines

-- what holds of all lines holds of the line at a place
line_at : (P : AgentLine → Type 0) (lines : List AgentLine) (place : ℕ) (line : AgentLine) → AllByRecursion P lines
    → slice_get lines place ≡ Some line → P line
line_at P [] place line all there = absurd (cc)
line_at P (first ∷ lines) zero line all there = let is : first ≡ line = cc in subst P is all.0
line_at P (first ∷ lines) (suc place) line all there = line_at P lines place line all.1 there

each_follows : (lines : List AgentLine) → all_follow lines ≡ true
    → AllByRecursion (λ (line : AgentLine). follows line.attestation ≡ true) lines
each_follows [] all = tt
each_follows (line ∷ lines) all =
    let both = and_parts (follows line.attestation) (all_follow lines) all in (both.0, each_follows lines both.1)

-- line number n reports on agent number n
own_place : (lines : List AgentLine) (agent : ℕ) (line : AgentLine)
    → map (λ (one : AgentLine). one.agent) lines ≡ range_with_len 0 (length lines)
    → slice_get lines agent ≡ Some line → line.agent ≡ agent
own_place lines agent line numbers there =
    let within : agent < length lines = slice_get_within lines agent line there in
    let said : slice_get (map (λ (one : AgentLine). one.agent) lines) agent ≡ Some line.agent =
    slice_get-map (λ (one : AgentLine). one.agent) lines agent
    ∙ ap (option_map (λ (one : AgentLine). one.agent)) there in
    sym (get_or_from_slice_get (map (λ (one : AgentLine). one.agent) lines) agent line.agent 0 said)
    ∙ ap (λ (all : List ℕ). get_or all agent 0) numbers
    ∙ (let at = get_or-range_with_len 0 (length lines) agent 0 within in omega (arith, at))

-- the exit status of a report is DONE only if all agents follow
done_says : (is_attested : Bool) → DONE ≡ (if is_attested then DONE else FAILING) → is_attested ≡ true
done_says true is = refl
done_says false is = absurd (cc)

-- an agent that follows its strategy has a history
history_of : (player : Player) (play : Play) (attestation : Attestation) → follows attestation ≡ true
    → Attests player play attestation → (history : History) × Follows player play history
history_of player play (attestations.Follows wake_ups in_a_row) is attests = (attests.history, attests.follows)
history_of player play (attestations.Differs place step) is attests = absurd (true≢false (sym is))
history_of player play (attestations.Tires place) is attests = absurd (true≢false (sym is))

-- ---- a match

module _ (play : Play) (bounds : Bounds) (it : IsAttestedMatch play bounds) where
  abbrev held : Held
  held = is_held (links play bounds it.explored)

  abbrev strategies : Strategies
  strategies = strategies_in it.explored.roles FUEL

  abbrev limit : ℕ
  limit = wakeups play bounds it.explored

  each : (agent : ℕ) → agent < play.setup.agents
      → (history : History) × Follows (player_of strategies limit agent) play history
  each agent within =
      let same : IsSameFile it.explored.report.lines it.explored.roles it.attested.lines agent = it.same agent within in
      let compared : AgentLine = same.compared in
      let line : IsLine play limit it.arguments compared =
      line_at (IsLine play limit it.arguments) it.attested.lines agent compared it.attested.are same.is in
      let follow : follows compared.attestation ≡ true =
      line_at (λ (one : AgentLine). follows one.attestation ≡ true) it.attested.lines agent compared
      (each_follows it.attested.lines (done_says (all_follow it.attested.lines) it.attested.told)) same.is in
      let strategy : Strategy = strategy_of line.compared.program compared.arguments FUEL in
      let own : compared.agent ≡ agent =
      own_place it.attested.lines agent compared it.attested.agents same.is in
      let is : strategy ≡ strategies agent =
      runs_as_explored play bounds it.explored agent strategy (record {
        line = same.line;
        own = same.own;
        program = line.compared.program;
        says = ap module_in (sym same.file) ∙ line.compared.is_module;
        runs = ap (λ (arguments : List ℕ). strategy_of line.compared.program arguments FUEL) same.arguments;
      }) in
      subst (λ (player : Player). (history : History) × Follows player play history)
      (ap₂ (λ (number : ℕ) (does : Strategy).
      let player : Player = record { agent = number; strategy = does; wakeups = limit } in player) own is)
      (history_of (record { agent = compared.agent; strategy = strategy; wakeups = limit }) play compared.attestation
      follow line.compared.attests)

  schedule : IsSchedule (trial_in play held limit strategies) (events_of play.log)
  schedule = followed_logs_are_schedules_lemma play held limit strategies it.attested.ended it.free each

pub attested_matches_are_solved : AttestedMatchesAreSolved
attested_matches_are_solved play bounds it done =
    logs_of_schedules_are_solved play (held play bounds it) (limit play bounds it) (strategies play bounds it)
    bounds.moves bounds.lost (schedule play bounds it) done (roles_solve play bounds it.explored).solves

pub attested_matches_are_never_wrong : AttestedMatchesAreNeverWrong
attested_matches_are_never_wrong play bounds it =
    logs_of_schedules_are_never_wrong play (held play bounds it) (limit play bounds it) (strategies play bounds it)
    bounds.moves bounds.lost (schedule play bounds it) (roles_solve play bounds it.explored).solves
    (roles_solve play bounds it.explored).rests
