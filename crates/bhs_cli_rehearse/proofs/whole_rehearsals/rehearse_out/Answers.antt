use Rattle.std.proofs.Common.{map, refl}
use Rattle.bhs_rehearsal.specs.Rehearsing.{game_of}
use Rattle.bhs_cli_rehearse.proofs.whole_rehearsals.rehearse_out.Goals as goal

pub returns-clause-played : goal.returns-clause-played
returns-clause-played g c = (
  record {
    held = c.rehearse.new.writer;
    games = map game_of c.in_ok-ready.ready.items;
    plays = c.in_ok-ready.ensures.played;
    flushed = c.in_ok-finish.ensures.ok;
  },
  refl,
)
