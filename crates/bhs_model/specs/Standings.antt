-- The standing of an agent, computed from its position.
use Rattle.bhs_model.specs.Views as views
use Rattle.bhs_model.specs.Runs.{Position, Before, At, Bound, After}

-- the standing at a position
abbrev pub standing_at : Position → views.Standing
standing_at Before = views.Outside
standing_at (At node came) = views.Present
standing_at (Bound node port) = views.Away
standing_at After = views.Ended
