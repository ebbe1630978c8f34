-- The output for a replay's part.
use Rattle.std.specs.Prelude.{◌≡◌, ℕ, List}
use Rattle.bhs_match.specs.Matches.{Play}
use Rattle.bhs_replay.specs.Parts.{IsOfPart}
use Rattle.bhs_replay.specs.Replay.{replay_of}

-- the text is the replay of the match of the whole lines of some text, closed where they stop
pub record IsRecovered (text : List ℕ) : Type 0 where
  pub play : Play
  pub part : IsOfPart play
  pub said : text ≡ replay_of play
