-- A tournament that is ready to play, without where it lies in memory.
use Rattle.std.specs.Prelude.{ℕ, List}
use Rattle.bhs_time.specs.declared.kinds.ScheduleKind.{ScheduleKind}
use Rattle.bhs_setups.specs.declared.lineups.Ready.{Ready}
use Rattle.bhs_setups.specs.declared.lineups.Lineup.{Lineup}
use Rattle.bhs_setups.specs.KeyTable.{Seat}

-- the seed, the schedule, the matches and the keys of a tournament
pub record Contest : Type 0 where
  pub seed : List ℕ
  pub schedule : ScheduleKind
  pub matches : List Ready
  pub keys : List Seat

abbrev pub contest : Lineup → Contest
contest lineup = record {
  seed = lineup.seed;
  schedule = lineup.schedule;
  matches = lineup.ready.items;
  keys = lineup.keys;
}
