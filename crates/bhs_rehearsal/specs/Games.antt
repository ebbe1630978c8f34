-- Matches of a rehearsal, with the effects of events.
use Rattle.std.specs.Prelude.{ℕ, Bool, Option, List, [], ◌∷◌, ◌++◌, if◌then◌else◌}
use Rattle.bhs_net.specs.Network.{Network}
use Rattle.bhs_model.specs.declared.setups.Setup.{Setup}
use Rattle.bhs_model.specs.declared.events.Event.{Event}
use Rattle.bhs_model.specs.declared.replies.Reply.{Reply}
use Rattle.bhs_model.specs.Worlds.{World}
use Rattle.bhs_model.specs.Runs.{State, run, reply, is_bound}
use Rattle.bhs_model.specs.Kept.{keeps, lost}
use Rattle.bhs_model.specs.Draws.{draw}
use Rattle.bhs_model.specs.Setups.{world_of}
use Rattle.bhs_deliveries.specs.Links.{held_in}
use Rattle.bhs_deliveries.specs.Drawing.{delivery_of}

-- a network, how the match on it is set up, the links that no draw lets an agent arrive over, and the events that
-- were kept
pub record Game : Type 0 where
  pub net : Network
  pub setup : Setup
  pub held : List (ℕ × ℕ)
  pub log : List Event

-- the world of the definitions
abbrev pub world_in : Game → World
world_in game = world_of game.net game.setup

-- how the match stands
abbrev pub state_of : Game → State
state_of game = run (world_in game) game.log

-- the match after an event, logged if kept
abbrev pub played : Game → Event → Game
played game event =
    if keeps (world_in game) (state_of game) (lost (world_in game) game.log) event
    then record game { log = game.log ++ event ∷ [] }
    else game

-- the reply to an event
abbrev pub reply_to : Game → Event → Option Reply
reply_to game event = reply (world_in game) (state_of game) event

-- whether an agent travels on a link
abbrev pub is_away : Game → (agent : ℕ) → Bool
is_away game agent = is_bound ((state_of game).position agent)

-- the event that a word draws, if any
abbrev pub drawn : Game → (word : ℕ) → Option Event
drawn game word = draw (held_in game.held) (state_of game) word

-- the event that delivers an agent: none after the close, or if its link is held
abbrev pub delivered : Game → (agent : ℕ) → Option Event
delivered game agent = delivery_of (held_in game.held) (state_of game) agent
