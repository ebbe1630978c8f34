-- The files of a contest stand its own appeal.
use Rattle.std.specs.Prelude.{ℕ, ◌≡◌, Some, Ok, List, Result, slice_get}
use Rattle.bhs_time.specs.declared.kinds.ScheduleKind.TheVariants.{Oblivious}
use Rattle.bhs_time.specs.Schedules.{DelayLaw}
use Rattle.bhs_setups.specs.declared.lineups.Lineup.{Lineup}
use Rattle.bhs_shared_match.specs.declared.settlement.Settlement.{Settlement}
use Rattle.bhs_server.specs.declared.settlement.Refused.{Refused}
use Rattle.bhs_server.specs.Settling.{HaveFared}
use Rattle.bhs_contest.specs.Hosting.{dealers_of, givens_of}
use Rattle.bhs_cli_results.specs.Appeals.{Case, IsOnTime}

-- a settled match of a tournament with its turns, as an appeal to the match of this number
abbrev pub own_case : Lineup → (game : ℕ) → Settlement → Case
own_case lineup game one = record {
  lineup = lineup;
  game = game;
  play = one.sealed;
  turns = one.turns.items;
}

-- Whatever a contest under the oblivious schedule gives back settled stands an appeal to the tournament's match of that
-- number: it is what `print_appealed_verdict` asks of what it upholds.
abbrev pub OwnMatchesStandTheirAppeal : Type 0
OwnMatchesStandTheirAppeal = (lineup : Lineup) (law : DelayLaw) (settled : List (Result Settlement Refused)) (game : ℕ)
    (one : Settlement) → lineup.schedule ≡ Oblivious law →
    HaveFared (givens_of lineup.schedule 0 lineup.ready.items) (dealers_of lineup.seed 0 lineup.ready.items) settled →
    slice_get settled game ≡ Some (Ok one) → IsOnTime (own_case lineup game one)
