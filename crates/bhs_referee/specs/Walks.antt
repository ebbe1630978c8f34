-- The referee's pass over a log and its sites: what it stores of each agent and node, and how each event changes that.
-- Its agreement with the model's verdict is proved.
use Rattle.std.specs.Prelude.{ℕ, ◌+◌, true, false, Option, Some, None, List, [], ◌∷◌}
use Rattle.std.specs.Prelude.{slice_index_or, slice_set, replicate}
use Rattle.bhs_model.specs.declared.commands.Command.{Command}
use Rattle.bhs_model.specs.declared.commands.Command.TheVariants.{Accuse}
use Rattle.bhs_model.specs.declared.events.Event.{Event}
use Rattle.bhs_model.specs.declared.events.Event.TheVariants.{Tell, Deliver, Close}
use Rattle.bhs_model.specs.declared.marks.Mark.{Mark}
use Rattle.bhs_model.specs.declared.marks.Mark.TheVariants.{Gone, Noted}
use Rattle.bhs_model.specs.declared.marks.Kept.{Kept}
use Rattle.bhs_net.specs.declared.faults.TheConstants.{MAX_NODES}
use Rattle.bhs_model.specs.declared.limits.TheConstants.{MAX_AGENTS}
use Rattle.bhs_referee.specs.declared.walks.Walk.{Walk}
use Rattle.bhs_referee.specs.Findings.{Findings}

-- the link that an agent accused; a number without an agent accused none
abbrev pub accused_at : List (Option (ℕ × ℕ)) → ℕ → Option (ℕ × ℕ)
accused_at accused agent = slice_index_or accused agent None

-- the link that an agent has accused after a command with this mark and this site
abbrev pub accused_told : Option Mark → Command → (site : Option ℕ) → Option (ℕ × ℕ) → Option (ℕ × ℕ)
accused_told (Some Noted) (Accuse port) (Some node) before = Some (node, port)
accused_told mark command site before = before

-- the number of moves after a command with this mark
abbrev pub moves_told : Option Mark → ℕ → ℕ
moves_told (Some Gone) moves = moves + 1
moves_told mark moves = moves

abbrev pub walk_told : Walk → (agent : ℕ) → Command → Option Mark → (site : Option ℕ) → Walk
walk_told walk agent command mark site = record {
  accused = slice_set walk.accused agent (accused_told mark command site (accused_at walk.accused agent));
  reached = walk.reached;
  moves = moves_told mark walk.moves;
}

-- the walk after an arrival; without a mark, after a loss
abbrev pub walk_delivered : Walk → Option Mark → (site : Option ℕ) → Walk
walk_delivered walk (Some mark) (Some node) = record walk { reached = slice_set walk.reached node true }
walk_delivered walk mark site = walk

abbrev pub walk_by : Walk → Event → Option Mark → (site : Option ℕ) → Walk
walk_by walk (Tell agent command) mark site = walk_told walk agent command mark site
walk_by walk (Deliver agent) mark site = walk_delivered walk mark site
walk_by walk Close mark site = walk

-- the walk after an event of the log with this site
abbrev pub walk_after : Walk → Kept → (site : Option ℕ) → Walk
walk_after walk kept site = walk_by walk kept.event kept.mark site

-- the walk after these events of the log, with these sites
abbrev pub walk_from : Walk → List Kept → (sites : List (Option ℕ)) → Walk
walk_from walk [] sites = walk
walk_from walk (kept ∷ others) [] = walk
walk_from walk (kept ∷ others) (site ∷ sites) = walk_from (walk_after walk kept site) others sites

-- the walk before the first event
abbrev pub start : Walk
start = record { accused = replicate MAX_AGENTS None; reached = replicate MAX_NODES false; moves = 0 }

-- what a walk has found
abbrev pub found_in : Walk → Findings
found_in walk = record {
  accused = λ agent. accused_at walk.accused agent;
  reached = λ node. slice_index_or walk.reached node false;
  moves = walk.moves;
}
