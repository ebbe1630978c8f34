-- What it is to solve a match whichever node is the black hole, and to find the black hole. Accusations come last: a
-- team that finds it accuses nobody before all the other nodes were reached.
use Rattle.std.specs.Prelude.{ℕ, ◌≡◌, ◌≢◌, ◌<◌, true, Some, List, [], ◌∷◌, ◌++◌}
use Rattle.bhs_model.specs.Worlds.{World}
use Rattle.bhs_model.specs.Draws.{Held}
use Rattle.bhs_referee.specs.Findings.{findings}
use Rattle.bhs_schedules.specs.Strategies.{Strategies}
use Rattle.bhs_schedules.specs.Schedules.{Trial, under}
use Rattle.bhs_schedules.specs.Everywhere.{EveryScheduleSolves}
use Rattle.bhs_schedules.specs.Endings.{EveryScheduleCanRest}

-- a match in which this node is the only black hole, and nothing is dark
abbrev pub searched : World → Held → (wakeups : ℕ) → Strategies → (hole : ℕ) → Trial
searched world held wakeups strategies hole = record {
  world = record world { holes = hole ∷ []; dark = [] };
  held = held;
  wakeups = wakeups;
  strategies = strategies;
}

-- it is solved under every schedule, and each schedule leads on to where nothing more can happen
pub record SolvesFor (trial : Trial) : Type 0 where
  pub moves : ℕ
  pub lost : ℕ
  pub solves : EveryScheduleSolves trial moves lost
  pub rests : EveryScheduleCanRest trial

abbrev pub SolvesEverywhere : World → Held → (wakeups : ℕ) → Strategies → Type 0
SolvesEverywhere world held wakeups strategies = (hole : ℕ) → hole < world.net.nodes → hole ≢ world.home
    → SolvesFor (searched world held wakeups strategies hole)

-- after this schedule some agent of the match has accused a link
pub record SomeoneHasAccused (trial : Trial) (schedule : List ℕ) : Type 0 where
  pub agent : ℕ
  pub within : agent < trial.world.agents
  pub link : ℕ × ℕ
  pub accused : (findings trial.world (under trial schedule).events).accused agent ≡ Some link

-- No agent ever accuses a link that does not lead to the black hole, and each schedule leads on to an accusation. This
-- asks less than a solved match: nothing of rest, of who is lost, or of what was reached.
pub record FindsFor (trial : Trial) (hole : ℕ) : Type 0 where
  pub right : (schedule : List ℕ) (it : SomeoneHasAccused trial schedule)
      → (trial.world.net.far it.link.0 it.link.1).0 ≡ hole
  pub accuses : (schedule : List ℕ) → (more : List ℕ) × SomeoneHasAccused trial (schedule ++ more)

-- a team finds the black hole, whichever node other than the home base it is
abbrev pub Finds : World → Held → (wakeups : ℕ) → Strategies → Type 0
Finds world held wakeups strategies = (hole : ℕ) → hole < world.net.nodes → hole ≢ world.home
    → FindsFor (searched world held wakeups strategies hole) hole

-- a team that solves the match, whichever node is the black hole, finds it
abbrev pub SolversFind : Type 0
SolversFind = (world : World) (held : Held) (wakeups : ℕ) (strategies : Strategies)
    → SolvesEverywhere world held wakeups strategies → Finds world held wakeups strategies

-- Accusations come last, of a team that finds it: after each schedule, if an agent has accused a link, each node but
-- the home base and the black hole was reached.
abbrev pub AccusationsComeLast : Type 0
AccusationsComeLast = (world : World) (held : Held) (wakeups : ℕ) (strategies : Strategies)
    → Finds world held wakeups strategies
    → (hole : ℕ) → hole < world.net.nodes → hole ≢ world.home → (schedule : List ℕ)
    → SomeoneHasAccused (searched world held wakeups strategies hole) schedule
    → (node : ℕ) → node < world.net.nodes → node ≢ world.home → node ≢ hole
    → (findings (searched world held wakeups strategies hole).world
    (under (searched world held wakeups strategies hole) schedule).events).reached node ≡ true
