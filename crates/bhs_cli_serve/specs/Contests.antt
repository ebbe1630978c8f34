-- What a contest over sockets does to its output and to the files of its replays, call by call.
use Rattle.std.specs.Prelude.{◌≡◌, ℕ, Bool, true, List, ◌∷◌, ◌++◌, codes, decimal, length, map, Result, Ok, Err}
use Rattle.std.specs.List.{AllByRecursion}
use Rattle.bhs_stream.specs.Streams.{WriteAnswer}
use Rattle.bhs_time.specs.declared.kinds.ScheduleKind.{ScheduleKind}
use Rattle.bhs_time.specs.declared.kinds.ScheduleKind.TheVariants.{Adaptive, Oblivious}
use Rattle.bhs_setups.specs.declared.lineups.Ready.{Ready}
use Rattle.bhs_setups.specs.declared.lineups.Lineup.{Lineup}
use Rattle.bhs_shared_match.specs.declared.settlement.Settlement.{Settlement}
use Rattle.bhs_replay.specs.Replay.{replay_of}
use Rattle.bhs_server.specs.declared.settlement.Refused.{Refused}
use Rattle.bhs_server.specs.Settling.{HaveFared}
use Rattle.bhs_contest.specs.Hosting.{IsStandings, dealers_of, givens_of}
use Rattle.bhs_cli.specs.Fault.{status}
use Rattle.bhs_cli.specs.Filing.{first_status}
use Rattle.bhs_cli.specs.Showing.{Prints, Reports, Shows, Took}
use Rattle.bhs_cli.specs.Summary.{IsAssembled}
use Rattle.bhs_cli.specs.Turns.{turns_text}
use Rattle.bhs_cli.specs.declared.reporting.faults.Fault.{Fault}
use Rattle.bhs_cli.specs.declared.reporting.faults.Fault.TheVariants as faults
use Rattle.bhs_cli.specs.declared.reporting.statuses.TheConstants.{DONE}

-- the line that says on which port agents can connect
abbrev pub listening : (port : ℕ) → List ℕ
listening port = codes "listening " ++ (decimal port ++ codes "\n")

-- The match with this number is the first unsettled match.
pub record IsFirstUnsettled (settled : List (Result Settlement Refused)) (game : ℕ) : Type 0 where
  pub before : List Settlement
  pub refused : Refused
  pub others : List (Result Settlement Refused)
  pub settled_are : settled ≡ map Ok before ++ Err refused ∷ others
  pub place : game ≡ length before

-- The reason why there is no table: a match has no result, or memory ran out.
abbrev pub IsUntabled : (settled : List (Result Settlement Refused)) → Fault → Type 0
IsUntabled settled (faults.Unsettled game) = IsFirstUnsettled settled game
IsUntabled settled faults.Memory = Unit {0}
IsUntabled settled fault = ⊥

-- why a contest could not begin: memory or threads ran out
abbrev pub IsUnbegun : Fault → Type 0
IsUnbegun faults.Memory = Unit {0}
IsUnbegun faults.Threads = Unit {0}
IsUnbegun fault = ⊥

-- under the oblivious schedule, the turns of a match's events were written to a file with these calls
abbrev pub HasTurns : {P : Type 0} → (P → List ℕ → WriteAnswer → P → Type 0) → ScheduleKind → (turns : List ℕ) → Type 0
HasTurns files Adaptive turns = Unit {0}
HasTurns files (Oblivious law) turns = Took files (turns_text turns)

-- For a settled match, these calls wrote the replay and, where turns exist, the file of turns.
abbrev pub HasReplay : {P : Type 0} → (P → List ℕ → WriteAnswer → P → Type 0) → ScheduleKind → Result Settlement Refused
    → Type 0
HasReplay files schedule (Ok settlement) =
    Took files (replay_of settlement.sealed) × HasTurns files schedule settlement.turns.items
HasReplay files schedule (Err refused) = Unit {0}

-- What the exit status says of the replays of matches that were to be written to files with these calls, and of their
-- turns under the oblivious schedule.
pub data Files {P : Type 0} (files : P → List ℕ → WriteAnswer → P → Type 0) (schedule : ScheduleKind)
    (settled : List (Result Settlement Refused)) (code : ℕ) : Type 0 where
  -- each was written
  all_filed : code ≡ DONE → AllByRecursion (HasReplay files schedule) settled → Files files schedule settled code
  -- one was not written
  unfiled_one : (fault : Fault) → code ≡ status fault → Files files schedule settled code

module _ {O : Type 0} (takes : O → List ℕ → WriteAnswer → O → Type 0) (flushes : O → Bool → O → Type 0) where
  -- the output for the matches of these teams
  pub data Tables (teams : List (List ℕ)) (settled : List (Result Settlement Refused)) (output output' : O) (code : ℕ) :
      Type 0 where
    -- all settled: their table was to be printed
    tabled : (settlements : List Settlement) → settled ≡ map Ok settlements
        → Reports (Prints takes flushes) (IsStandings teams (map (λ one. one.sealed) settlements)) output output' code
        → Tables teams settled output output' code
    -- one has no result, or memory ran out: nothing was printed
    untabled : (fault : Fault) → IsUntabled settled fault → code ≡ status fault → output' ≡ output
        → Tables teams settled output output' code

-- the transition relations of written files and output
module _ {P O : Type 0} (files : P → List ℕ → WriteAnswer → P → Type 0) (takes : O → List ℕ → WriteAnswer → O → Type 0)
    (flushes : O → Bool → O → Type 0) where
  -- The end of a contest with these results: the program writes the replays, then prints the table.
  pub record Ends (schedule : ScheduleKind) (teams : List (List ℕ)) (settled : List (Result Settlement Refused))
      (output output' : O) (code : ℕ) : Type 0 where
    pub filed : ℕ
    pub printed : ℕ
    pub writes : Files files schedule settled filed
    pub tables : Tables takes flushes teams settled output output' printed
    pub coded : code ≡ first_status filed printed

  -- The effect of hosting a contest of these matches under this schedule; each match draws from the stream with its
  -- number, with this seed.
  pub data Hosts (seed : List ℕ) (schedule : ScheduleKind) (matches : List Ready) (output output' : O) (code : ℕ) :
      Type 0 where
    -- each match settled as its sessions were answered, with deliveries that were made in time; or it was refused
    fares : (settled : List (Result Settlement Refused)) →
        HaveFared (givens_of schedule 0 matches) (dealers_of seed 0 matches) settled
        → Ends schedule (map (λ ready. ready.team) matches) settled output output' code →
        Hosts seed schedule matches output output' code
    -- it could not begin
    fails : (fault : Fault) → IsUnbegun fault → code ≡ status fault → output' ≡ output
        → Hosts seed schedule matches output output' code

  -- what came of serving a tournament that is named, on this port
  pub data Serves (port : ℕ) (output output' : O) (code : ℕ) : Type 0 where
    -- it was put together, the program said that it listens, and then there was the contest
    serves_on : (lineup : Lineup) → IsAssembled lineup → (heard : O)
        → Shows takes flushes (listening port) true output heard →
        Hosts lineup.seed lineup.schedule lineup.ready.items heard output' code
        → Serves port output output' code
    -- it was put together, and the program could not say that it listens
    goes_unheard : (lineup : Lineup) → IsAssembled lineup → code ≡ status faults.Write
        → Prints takes flushes (listening port) output output' code → Serves port output output' code
    -- its file is refused or cannot be read, the port or the names of its files cannot be had, or memory or threads
    -- ran out
    refuses_contest : (fault : Fault) → code ≡ status fault → output' ≡ output → Serves port output output' code
