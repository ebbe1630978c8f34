use Rattle.std.proofs.Common.{◌≡◌, subst}
use Rattle.bhs_model.specs.declared.events.Event.TheVariants.{Tell}
use Rattle.bhs_model.specs.Runs.{reply}
use Rattle.bhs_world.specs.Tables.{is_of_board_if}
use Rattle.bhs_match.specs.Matches.{Play, world_in, state_of}
use Rattle.bhs_match.proofs.games.Match.shows.Goals as goal

pub returns : goal.returns
returns c =
    subst (λ (play : Play). c.shows.result ≡ is_of_board_if
    (reply (world_in play) (state_of play) (Tell c.args.agent c.args.command.now))) c.self.view_is
    (c.shows.ensures c.self.inside.log.items c.self.invariant.0.stands)
