-- What the events of a match show that its verdict is given by.
use Rattle.std.specs.Prelude.{ℕ, ◌+◌, Bool, true, false, Option, Some, None, List, [], ◌∷◌}
use Rattle.bhs_model.specs.declared.commands.Command.{Command}
use Rattle.bhs_model.specs.declared.commands.Command.TheVariants.{Accuse}
use Rattle.bhs_model.specs.declared.events.Event.{Event}
use Rattle.bhs_model.specs.declared.events.Event.TheVariants.{Tell, Deliver, Close}
use Rattle.bhs_model.specs.declared.replies.Reply.{Reply}
use Rattle.bhs_model.specs.declared.replies.Reply.TheVariants.{Gone, Noted}
use Rattle.bhs_model.specs.Worlds.{World}
use Rattle.bhs_model.specs.Runs.{Position, At, Bound, State, initial, changed, next, reply}

-- of each agent the link that it accused, by the node where it was and the port; of each node whether an agent
-- arrived there; and how many moves were made
pub record Findings : Type 0 where
  pub accused : ℕ → Option (ℕ × ℕ)
  pub reached : ℕ → Bool
  pub moves : ℕ

-- at first nobody has accused, arrived or moved
abbrev pub nothing_found : Findings
nothing_found = record { accused = λ agent. None; reached = λ node. false; moves = 0 }

-- The link that the agent has accused last: an accusation that is answered Noted names the link at a port of the
-- agent's node.
abbrev pub accused_by : Option Reply → Command → Position → (before : Option (ℕ × ℕ)) → Option (ℕ × ℕ)
accused_by (Some Noted) (Accuse port) (At node came) before = Some (node, port)
accused_by reply command position before = before

-- the number of moves after a command with this reply: a move is a Depart that is answered Gone
abbrev pub moves_by : Option Reply → (before : ℕ) → ℕ
moves_by (Some Gone) before = before + 1
moves_by reply before = before

-- the nodes reached after a Deliver, with this reply, of an agent at this position: a Deliver that is answered is an
-- arrival at the far end of the agent's link
abbrev pub reached_by : World → Option Reply → Position → (before : ℕ → Bool) → ℕ → Bool
reached_by world (Some here) (Bound node port) before = changed before (world.net.far node port).0 true
reached_by world reply position before = before

-- the findings after an event
abbrev pub found_after : World → State → Findings → Event → Findings
found_after world state found (Tell agent command) =
    let answer = reply world state (Tell agent command) in
    record {
      accused = changed found.accused agent (accused_by answer command (state.position agent) (found.accused agent));
      reached = found.reached;
      moves = moves_by answer found.moves;
    }
found_after world state found (Deliver agent) = record {
  accused = found.accused;
  reached = reached_by world (reply world state (Deliver agent)) (state.position agent) found.reached;
  moves = found.moves;
}
found_after world state found Close = found

abbrev pub found_from : World → State → Findings → List Event → Findings
found_from world state found [] = found
found_from world state found (event ∷ events) =
    found_from world (next world state event) (found_after world state found event) events

-- the findings of a match's events
abbrev pub findings : World → List Event → Findings
findings world events = found_from world initial nothing_found events
