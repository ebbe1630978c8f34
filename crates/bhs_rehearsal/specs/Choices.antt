-- Whom a delivery delivers: the agent that a word picks, or one that is named.
use Rattle.std.specs.Prelude.{Option}
use Rattle.bhs_model.specs.declared.events.Event.{Event}
use Rattle.bhs_rehearsal.specs.declared.choices.Choice.{Choice}
use Rattle.bhs_rehearsal.specs.declared.choices.Choice.TheVariants.{Word, Agent}
use Rattle.bhs_rehearsal.specs.Games.{Game, drawn, delivered}

-- the event that delivers the chosen agent, if there is one
abbrev pub chosen : Game → Choice → Option Event
chosen game (Word word) = drawn game word
chosen game (Agent agent) = delivered game agent
