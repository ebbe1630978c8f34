-- An agent's past determines its position.
use Rattle.std.proofs.Common.{◌≡◌, ◌≢◌, ℕ, true, false, arith}
use Rattle.bhs_model.specs.Views.{View, Outside, Present, Away, Ended, standing, ports}
use Rattle.bhs_model.specs.Worlds.{World}
use Rattle.bhs_model.specs.Runs.{Position, Before, At, Bound, After, is_bound}
use Rattle.bhs_model.proofs.LegalLemmas.{IsLegal, all_run}
use Rattle.bhs_rehearsal.specs.Games.{Game, world_in, state_of}

abbrev pub FitsHere : World → View → Position → Type 0
FitsHere world view Before = standing view ≡ Outside
FitsHere world view (At node came) = (standing view ≡ Present) × (ports view ≡ world.net.degree node)
FitsHere world view (Bound node port) = standing view ≡ Away
FitsHere world view After = standing view ≡ Ended

legal_fits : (world : World) (view : View) (position : Position) → IsLegal world view position
    → FitsHere world view position
legal_fits world view position legal = grind arith

pub fits_here : (game : Game) (agent : ℕ) → FitsHere (world_in game) ((state_of game).past agent)
    ((state_of game).position agent)
fits_here game agent = legal_fits (world_in game) _ _ (all_run (world_in game) game.log agent)

-- An agent's standing is `Away` exactly if it is on a link.
pub here_stands : (world : World) (view : View) (position : Position) → FitsHere world view position
    → is_bound position ≡ false → standing view ≢ Away
here_stands world view position fits at = grind arith

pub away_stands : (world : World) (view : View) (position : Position) → FitsHere world view position
    → is_bound position ≡ true → standing view ≡ Away
away_stands world view position fits at = grind arith
