-- Why networks of files are those that stay connected without any one node: on another one no team finds the black
-- hole, and none solves the match.
use Rattle.std.specs.Prelude.{ℕ, ◌≢◌, ◌<◌, List}
use Rattle.bhs_net.specs.Network.{Network, IsPortLabelled, nodes_of}
use Rattle.bhs_net.specs.Search.{IsCutIn}
use Rattle.bhs_model.specs.declared.setups.Setup.{Setup}
use Rattle.bhs_model.specs.Setups.{world_of}
use Rattle.bhs_model.specs.Draws.{Held}
use Rattle.bhs_referee.specs.declared.verdicts.Outcome.TheVariants.{Solved}
use Rattle.bhs_schedules.specs.Strategies.{Strategies}
use Rattle.bhs_schedules.specs.Schedules.{under, verdict}
use Rattle.bhs_protocols.specs.LastWord.{searched, Finds}

-- Take a node without which some two others are not joined, and any other home base. If that node is the black hole, no
-- schedule of any team solves the match, whatever the agents know and however many they are: they cannot reach what is
-- behind it.
abbrev pub NoTeamPassesACut : Type 0
NoTeamPassesACut = (net : Network) (setup : Setup) (held : Held) (wakeups : ℕ) (strategies : Strategies) (cut : ℕ)
    → IsPortLabelled net → setup.home < nodes_of net → setup.home ≢ cut → IsCutIn net cut → (schedule : List ℕ)
    → (verdict (searched (world_of net setup) held wakeups strategies cut)
    (under (searched (world_of net setup) held wakeups strategies cut) schedule)).outcome ≢ Solved

-- No team finds the black hole whichever node it is, in the sense of the literature: if that node is the black hole,
-- nobody looks behind it, and so nobody can know that it is not a node there.
abbrev pub NoTeamLooksBehindACut : Type 0
NoTeamLooksBehindACut = (net : Network) (setup : Setup) (held : Held) (wakeups : ℕ) (strategies : Strategies) (cut : ℕ)
    → IsPortLabelled net → setup.home < nodes_of net → setup.home ≢ cut → IsCutIn net cut
    → Finds (world_of net setup) held wakeups strategies → ⊥
