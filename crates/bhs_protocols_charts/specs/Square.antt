-- A search without a map, worked out: the square with a diagonal.
use Rattle.std.specs.Prelude.{◌≡◌, ◌++◌, replicate}
use Rattle.bhs_referee.specs.declared.verdicts.Outcome.TheVariants.{Solved}
use Rattle.bhs_schedules.specs.Schedules.{Trial, under, verdict}
use Rattle.bhs_protocols_unmapped.specs.Degrees.{square}
use Rattle.bhs_protocols_charts.specs.ChartLaws.{chart_trial}
use Rattle.bhs_protocols_charts.specs.Exactly.{chart_limits}
use Rattle.bhs_protocols_charts.specs.Told.{by_parity}

-- Four agents start at node 0, and node 2 is the black hole. They are told four nodes, none of more than three links.
abbrev pub square_trial : Trial
square_trial = chart_trial square (chart_limits 4 9 4 0) by_parity 0 2

-- Agent 0 finds node 1 behind port 0 of the home base, then node 3 behind port 1, and is lost behind port 2. Agent 1
-- claims port 0 of node 1. Agent 2 is lost behind port 1 of that node, and agent 3 behind port 0 of node 3. Agent 1
-- finds that port 0 of node 1 and port 1 of node 3 lead back home. Three ports are left from which nobody has come
-- back. The three other nodes have 7 ports, an odd number, so the black hole has three links: agent 1 accuses the first
-- of these ports. One agent is left of four.
abbrev pub TheSquareIsSolved : Type 0
TheSquareIsSolved =
    verdict square_trial
    (under square_trial (replicate 18 0 ++ replicate 2 1 ++ replicate 6 2 ++ replicate 6 3 ++ replicate 20 1))
    ≡ record { outcome = Solved; moves = 17; lost = 3 }
