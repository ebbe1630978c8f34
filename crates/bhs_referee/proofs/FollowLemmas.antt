-- A walk over a log follows the definitions: after each event it has found what they say of the events so far.
use Rattle.std.proofs.Common.{◌≡◌, ℕ, ◌<◌, ◌≤◌, Bool, true, false, Option, Some, None, List, [], ◌∷◌}
use Rattle.std.proofs.Common.{length, map, zero, suc, refl, sym, ap, ◌∙◌, subst, arith, length-set, nat_lt, ◌==◌}
use Rattle.std.specs.Prelude.{slice_index_or, replicate, IfSome}
use Rattle.std.specs.List.{All}
use Rattle.std.proofs.lemmas.List.{length-replicate}
use Rattle.std.proofs.lemmas.List.Elements.{All-head, All-tail}
use Rattle.std.proofs.lemmas.Bool.{and_parts, cond-true, ltb-true}
use Rattle.bhs_net.specs.declared.faults.TheConstants.{MAX_NODES}
use Rattle.bhs_model.specs.declared.limits.TheConstants.{MAX_AGENTS}
use Rattle.bhs_model.specs.declared.commands.Command.{Command}
use Rattle.bhs_model.specs.declared.events.Event.{Event}
use Rattle.bhs_model.specs.declared.events.Event.TheVariants.{Tell, Deliver, Close}
use Rattle.bhs_model.specs.declared.marks.Mark.{Mark}
use Rattle.bhs_model.specs.declared.marks.Kept.{Kept}
use Rattle.bhs_model.specs.declared.replies.Reply.{Reply}
use Rattle.bhs_model.specs.Marks.{read_if, events_of}
use Rattle.bhs_model.specs.Worlds.{World}
use Rattle.bhs_model.specs.Runs.{Position, Before, At, Bound, After, State, initial, changed, next, reply}
use Rattle.bhs_model.specs.InOrder.{replies_from, replies}
use Rattle.bhs_model.specs.Kept.{lost_after, keeps, kept_from, nobody, kept}
use Rattle.bhs_model.specs.Cuts.{node_reached}
use Rattle.bhs_model.specs.Sites.{node_said, site, sites_from, sites}
use Rattle.bhs_model.proofs.KeptLemmas.{first_kept}
use Rattle.bhs_model.proofs.StepLemmas.{changed_same, changed_other}
use Rattle.bhs_world.proofs.ListLemmas.{each_set}
use Rattle.bhs_referee.specs.declared.walks.Walk.{Walk}
use Rattle.bhs_referee.specs.Findings.{Findings, nothing_found, accused_by, moves_by, reached_by, found_after}
use Rattle.bhs_referee.specs.Findings.{found_from, findings}
use Rattle.bhs_referee.specs.Walks.{accused_at, accused_told, moves_told, walk_delivered, walk_by, walk_after}
use Rattle.bhs_referee.specs.Walks.{walk_from, start}

-- what a walk has found is what the definitions say
pub record Follows (walk : Walk) (found : Findings) : Type 0 where
  pub agents : length walk.accused ≡ MAX_AGENTS
  pub nodes : length walk.reached ≡ MAX_NODES
  pub accused : (agent : ℕ) → accused_at walk.accused agent ≡ found.accused agent
  pub reached : (node : ℕ) → slice_index_or walk.reached node false ≡ found.reached node
  pub moves : walk.moves ≡ found.moves

accused_same : (world : World) (log : List Kept) (mark : Option Mark) (command : Command) (position : Position)
    (before : Option (ℕ × ℕ)) → accused_told mark command (node_said world position command) before ≡ accused_by
    (read_if log mark) command position before
accused_same world log mark command position before = grind arith

moves_same : (log : List Kept) (mark : Option Mark) (before : ℕ)
    → moves_told mark before ≡ moves_by (read_if log mark) before
moves_same log mark before = grind arith

delivered_follows : (world : World) (nodes : ℕ) (log : List Kept) (walk : Walk) (found : Findings) (mark : Option Mark)
    (position : Position) → nodes ≤ MAX_NODES → IfSome (node_reached world position) (λ node. node < nodes)
    → Follows walk found
    → Follows (walk_delivered walk mark (node_reached world position))
    (record {
      accused = found.accused;
      reached = reached_by world (read_if log mark) position found.reached;
      moves = found.moves;
    })
delivered_follows world nodes log walk found None position many range follows = follows
delivered_follows world nodes log walk found (Some mark) Before many range follows = follows
delivered_follows world nodes log walk found (Some mark) (At node came) many range follows = follows
delivered_follows world nodes log walk found (Some mark) After many range follows = follows
delivered_follows world nodes log walk found (Some mark) (Bound node port) many range follows =
    let there = (world.net.far node port).0 in
    record {
      agents = follows.agents;
      nodes = length-set walk.reached there true ∙ follows.nodes;
      accused = follows.accused;
      reached = each_set (λ (k : ℕ) (mark : Bool). mark ≡ changed found.reached there true k) walk.reached there true
          false (omega (arith, follows.nodes, range, many)) (sym (changed_same found.reached there true))
          (λ (k : ℕ) (apart : (k == there) ≡ false). follows.reached k ∙ sym
          (changed_other found.reached there k true apart));
      moves = follows.moves;
    }

told_follows : (world : World) (log : List Kept) (walk : Walk) (state : State) (found : Findings) (agent : ℕ)
    (command : Command) (mark : Option Mark) (site : Option ℕ) → Follows walk found → agent < MAX_AGENTS
    → site ≡ node_said world (state.position agent) command → read_if log mark ≡ reply world state (Tell agent command)
    →
    Follows (walk_by walk (Tell agent command) mark site) (found_after world state found (Tell agent command))
told_follows world log walk state found agent command mark site follows within is_site read =
    let position = state.position agent in
    let before = accused_at walk.accused agent in
    let answer = reply world state (Tell agent command) in
    let link = accused_by answer command position (found.accused agent) in
    record {
      agents = length-set walk.accused agent _ ∙ follows.agents;
      nodes = follows.nodes;
      accused = each_set (λ (k : ℕ) (one : Option (ℕ × ℕ)). one ≡ changed found.accused agent link k) walk.accused agent
          _ None (rw follows.agents within)
          (ap (λ (site : Option ℕ). accused_told mark command site before) is_site
          ∙ accused_same world log mark command position before
          ∙ ap (λ (r : Option Reply). accused_by r command position before) read
          ∙ ap (accused_by answer command position) (follows.accused agent)
          ∙ sym (changed_same found.accused agent link))
          (λ (k : ℕ) (apart : (k == agent) ≡ false). follows.accused k
          ∙ sym (changed_other found.accused agent k link apart));
      reached = follows.reached;
      moves = moves_same log mark walk.moves ∙ ap (λ (r : Option Reply). moves_by r walk.moves) read
          ∙ ap (moves_by answer) follows.moves;
    }

by_follows : (world : World) (nodes : ℕ) (log : List Kept) (walk : Walk) (state : State) (lost : ℕ → Bool)
    (found : Findings)
    (event : Event) (mark : Option Mark) → world.agents ≤ MAX_AGENTS → nodes ≤ MAX_NODES
    → IfSome (site world state event) (λ node. node < nodes) → Follows walk found →
    keeps world state lost event ≡ true → read_if log mark ≡ reply world state event →
    Follows (walk_by walk event mark (site world state event)) (found_after world state found event)
by_follows world nodes log walk state lost found (Tell agent command) mark few many range follows is_kept read =
    let within = ltb-true agent world.agents (and_parts (nat_lt agent world.agents) _ is_kept).0 in
    told_follows world log walk state found agent command mark _ follows (omega arith) (cond-true _ _ _ is_kept) read
by_follows world nodes log walk state lost found (Deliver agent) mark few many range follows is_kept read =
    subst (λ (answer : Option Reply). Follows (walk_delivered walk mark (node_reached world (state.position agent)))
    (record {
      accused = found.accused;
      reached = reached_by world answer (state.position agent) found.reached;
      moves = found.moves;
    }))
    read (delivered_follows world nodes log walk found mark (state.position agent) many range follows)
by_follows world nodes log walk state lost found Close mark few many range follows is_kept read = follows

-- the walk over what is left of a log follows the definitions
follows_from : (world : World) (nodes : ℕ) (log rest : List Kept) (walk : Walk) (state : State) (lost : ℕ → Bool)
    (found : Findings) → world.agents ≤ MAX_AGENTS → nodes ≤ MAX_NODES
    → All (λ site. IfSome site (λ node. node < nodes)) (sites_from world state (events_of rest)) → Follows walk found →
    kept_from world state lost (events_of rest) ≡ events_of rest
    → map (λ (one : Kept). read_if log one.mark) rest ≡ replies_from world state (events_of rest) →
    Follows (walk_from walk rest (sites_from world state (events_of rest)))
    (found_from world state found (events_of rest))
follows_from world nodes log [] walk state lost found few many range follows same read = follows
follows_from world nodes log (one ∷ others) walk state lost found few many range follows same read =
    let IsIn : Option ℕ → Type 0 = λ site. IfSome site (λ node. node < nodes) in
    let after = next world state one.event in
    let kept = first_kept world state lost one.event (events_of others) same in
    let first : read_if log one.mark ≡ reply world state one.event = cc in
    let later : map (λ (one : Kept). read_if log one.mark) others ≡ replies_from world after (events_of others) = cc in
    let here = site world state one.event in
    follows_from world nodes log others (walk_after walk one here) after (lost_after world state lost one.event)
    (found_after world state found one.event) few many
    (All-tail IsIn here (sites_from world after (events_of others)) range)
    (by_follows world nodes log walk state lost found one.event one.mark few many
    (All-head IsIn here (sites_from world after (events_of others)) range) follows kept.first first)
    kept.others later

same_everywhere : {A : Type 0} (count k : ℕ) (x : A) → slice_index_or (replicate count x) k x ≡ x
same_everywhere zero k x = refl
same_everywhere (suc count) zero x = refl
same_everywhere (suc count) (suc k) x = same_everywhere count k x

start_follows : Follows start nothing_found
start_follows = record {
  agents = length-replicate {A = Option (ℕ × ℕ)} MAX_AGENTS None;
  nodes = length-replicate MAX_NODES false;
  accused = λ agent. same_everywhere MAX_AGENTS agent None;
  reached = λ node. same_everywhere MAX_NODES node false;
  moves = refl;
}

-- the walk over the log of a match follows the definitions
pub walk_given : (world : World) (nodes : ℕ) (log : List Kept) (found : List (Option ℕ)) (walk : Walk)
    → world.agents ≤ MAX_AGENTS → nodes ≤ MAX_NODES → All (λ site. IfSome site (λ node. node < nodes)) found
    → found ≡ sites world (events_of log) → kept world (events_of log) ≡ events_of log
    → map (λ (one : Kept). read_if log one.mark) log ≡ replies world (events_of log) →
    walk ≡ walk_from start log found → Follows walk (findings world (events_of log))
walk_given world nodes log found walk few many range is_found same read is =
    rw (is, is_found) (follows_from world nodes log log start initial nobody nothing_found few many
    (subst (All (λ site. IfSome site (λ node. node < nodes))) is_found range) start_follows same read)
