-- The footprints of a log's events, and the cut of a number without an agent.
use Rattle.std.proofs.Common.{ℕ, suc, ◌<◌, ◌≤◌, ◌≡◌, Bool, true, false, ◌||◌, Option, Some, None, List, [], ◌∷◌}
use Rattle.std.proofs.Common.{length, map, refl, sym, ap, ◌∙◌, arith, inl, inr, if◌then◌else◌}
use Rattle.std.specs.Prelude.{IfSome, replicate}
use Rattle.std.specs.List.{All, list_any}
use Rattle.std.proofs.lemmas.List.Elements.{All-head, All-tail}
use Rattle.std.proofs.lemmas.Bool.{cond-true, cond-false}
use Rattle.std.proofs.lemmas.Bool.Decides.{eqb_tells}
use Rattle.bhs_net.specs.Network.{Network, nodes_of}
use Rattle.bhs_model.specs.declared.setups.Setup.{Setup}
use Rattle.bhs_model.specs.declared.commands.Command.{Command}
use Rattle.bhs_model.specs.declared.events.Event.{Event}
use Rattle.bhs_model.specs.declared.events.Event.TheVariants.{Tell, Deliver, Close}
use Rattle.bhs_model.specs.Worlds.{World}
use Rattle.bhs_model.specs.Runs.{Position, State, initial, heard, arrives, next, reply}
use Rattle.bhs_model.specs.InOrder.{replies, replies_from}
use Rattle.bhs_model.specs.declared.marks.Mark.{Mark}
use Rattle.bhs_model.specs.Kept.{keeps, kept_from, lost_after, nobody}
use Rattle.bhs_model.specs.Cuts.{at_places, Footprint, footprint, footprints, footprints_from, node_seen, node_written}
use Rattle.bhs_model.specs.Cuts.{node_reached, meet, needs, cut}
use Rattle.bhs_model.proofs.StepLemmas.{by_cases}
use Rattle.bhs_match.proofs.ApplyLemmas.{delivered_within}
use Rattle.bhs_match.proofs.FairLemmas.{IsFair, heard_means, fair_next, fair_initial}
use Rattle.bhs_view.specs.Places.{places_from, places_of}
use Rattle.bhs_model.specs.Sites.{node_said, site, sites, sites_from}
use Rattle.bhs_view.specs.Reading.{IsRead}
use Rattle.bhs_view.specs.Walks.{who_of, seen_by, footprint_by, footprints_at, written_by, AreInRange}
use Rattle.bhs_model.specs.declared.marks.Kept.{Kept}
use Rattle.bhs_model.specs.Marks.{events_of, read_if}
use Rattle.bhs_match.specs.Matches.{Play, world_in}
use Rattle.std.proofs.lemmas.List.{length-replicate}
use Rattle.bhs_model.proofs.KeptLemmas.{first_kept}
use Rattle.bhs_view.proofs.ArrivalLemmas.{arrival_marked, no_arrival_unmarked}

-- a footprint follows from the event and from the node that it sees

written_same : (world : World) (position : Position) (agent : ℕ) (command : Command)
    → written_by (Tell agent command) (node_seen world position command) ≡ node_written position command
written_same world position agent command = grind arith

unseen_unwritten : (agent : ℕ) (command : Command) → written_by (Tell agent command) None ≡ None
unseen_unwritten agent command = grind arith

written_if : (world : World) (position : Position) (agent : ℕ) (command : Command) (is_heard : Bool) →
    written_by (Tell agent command) (if is_heard then node_seen world position command else None) ≡ (if
    is_heard then node_written position command else None)
written_if world position agent command true = written_same world position agent command
written_if world position agent command false = unseen_unwritten agent command

footprint_same : (world : World) (state : State) (event : Event)
    → footprint_by event (footprint world state event).seen ≡ footprint world state event
footprint_same world state (Tell agent command) =
    ap (λ (written : Option ℕ). record {
      who = Some agent;
      seen = (footprint world state (Tell agent command)).seen;
      written = written;
      closes = false;
    })
    (written_if world (state.position agent) agent command (heard world state agent command))
footprint_same world state (Deliver agent) = refl
footprint_same world state Close = refl

seen_said : (world : World) (position : Position) (agent : ℕ) (command : Command) (mark : Option Mark)
    → seen_by (Tell agent command) mark (node_said world position command) ≡ node_seen world position command
seen_said world position agent command mark = grind arith

unsaid_unseen : (agent : ℕ) (command : Command) (mark : Option Mark) → seen_by (Tell agent command) mark None ≡ None
unsaid_unseen agent command mark = grind arith

seen_if : (world : World) (position : Position) (agent : ℕ) (command : Command) (mark : Option Mark) (is_heard : Bool) →
    seen_by (Tell agent command) mark (if is_heard then node_said world position command else None) ≡ (if
    is_heard then node_seen world position command else None)
seen_if world position agent command mark true = seen_said world position agent command mark
seen_if world position agent command mark false = unsaid_unseen agent command mark

-- what a place sees follows from its site
seen_same : (world : World) (state : State) (log : List Kept) (event : Event) (mark : Option Mark)
    → read_if log mark ≡ reply world state event →
    seen_by event mark (site world state event) ≡ (footprint world state event).seen
seen_same world state log (Tell agent command) mark read =
    seen_if world (state.position agent) agent command mark (heard world state agent command)
seen_same world state log (Deliver agent) mark read =
    by_cases (arrives world state agent) _
    (λ arrival.
    let one = arrival_marked world state log agent mark arrival read in
    ap (λ (mark : Option Mark). seen_by (Deliver agent) mark (node_reached world (state.position agent))) one.1
    ∙ sym (cond-true _ _ _ arrival))
    (λ stays.
    ap (λ (mark : Option Mark). seen_by (Deliver agent) mark (node_reached world (state.position agent)))
    (no_arrival_unmarked world state log agent mark stays read) ∙ sym (cond-false _ _ _ stays))
seen_same world state log Close mark read = refl

footprints_same_from : (world : World) (state : State) (whole log : List Kept)
    → map (λ (one : Kept). read_if whole one.mark) log ≡ replies_from world state (events_of log) →
    footprints_at log (sites_from world state (events_of log)) ≡ footprints_from world state (events_of log)
footprints_same_from world state whole [] read = refl
footprints_same_from world state whole (one ∷ log) read =
    let first : read_if whole one.mark ≡ reply world state one.event = cc in
    let later : map (λ (one : Kept). read_if whole one.mark) log ≡ replies_from world (next world state one.event)
    (events_of log) = cc in
    ap (λ (seen : Option ℕ). footprint_by one.event seen ∷ footprints_at log
    (sites_from world (next world state one.event) (events_of log)))
    (seen_same world state whole one.event one.mark first)
    ∙ ap (λ (first : Footprint). first ∷ footprints_at log
    (sites_from world (next world state one.event) (events_of log))) (footprint_same world state one.event)
    ∙ ap (λ (others : List Footprint). footprint world state one.event ∷ others)
    (footprints_same_from world (next world state one.event) whole log later)

pub footprints_same : (world : World) (log : List Kept) → map (λ (one : Kept). read_if log one.mark) log ≡ replies world
    (events_of log) → footprints_at log (sites world (events_of log)) ≡ footprints world (events_of log)
footprints_same world log read = footprints_same_from world initial log log read

-- each place names an agent and a node that there are

seen_in : (P : ℕ → Type 0) (event : Event) (mark : Option Mark) (site : Option ℕ) → IfSome site P
    → IfSome (seen_by event mark site) P
seen_in P event mark site h0 = grind arith

who_in : (world : World) (state : State) (lost : ℕ → Bool) (event : Event) → IsFair world state lost
    → keeps world state lost event ≡ true → IfSome (who_of event) (λ agent. agent < world.agents)
who_in world state lost (Tell agent command) fair is_kept =
    (heard_means world state lost agent command fair is_kept).within
who_in world state lost (Deliver agent) fair is_kept = delivered_within world state lost agent fair is_kept
who_in world state lost Close fair is_kept = tt

places_within : (world : World) (nodes : ℕ) (state : State) (lost : ℕ → Bool) (log : List Kept)
    (sites : List (Option ℕ)) → IsFair world state lost → kept_from world state lost (events_of log) ≡ events_of log →
    All (λ site. IfSome site (λ node. node < nodes)) sites → AreInRange world.agents nodes (footprints_at log sites)
places_within world nodes state lost [] sites fair all range = tt
places_within world nodes state lost (one ∷ log) [] fair all range = tt
places_within world nodes state lost (one ∷ log) (site ∷ sites) fair all range =
    let IsIn : Option ℕ → Type 0 = λ site. IfSome site (λ node. node < nodes) in
    let first = first_kept world state lost one.event (events_of log) all in (
      record {
        who = who_in world state lost one.event fair first.first;
        seen = seen_in (λ node. node < nodes) one.event one.mark site (All-head IsIn site sites range);
      },
      places_within world nodes (next world state one.event) (lost_after world state lost one.event) log sites
          (fair_next world state lost one.event fair) first.others (All-tail IsIn site sites range),
    )

-- the cut of a stranger is empty

strange_who : (agents agent : ℕ) (who : Option ℕ) → agents ≤ agent → IfSome who (λ one. one < agents)
    → meet (Some agent) who ≡ false
strange_who agents agent None strange within = refl
strange_who agents agent (Some one) strange within = elim (eqb_tells agent one) [
  | inl h ↦ absurd (let same = h.1 in omega arith)
  | inr h ↦ h.0
]

pub record IsEmptyCut (agent : ℕ) (footprints : List Footprint) : Type 0 where
  pub chosen : at_places footprints (cut agent footprints) ≡ []
  pub found : (place : ℕ) → places_from place (cut agent footprints) ≡ []

pub strange_cut : (agents nodes agent : ℕ) (footprints : List Footprint) → agents ≤ agent
    → AreInRange agents nodes footprints → IsEmptyCut agent footprints
strange_cut agents nodes agent [] strange within = record { chosen = refl; found = λ place. refl }
strange_cut agents nodes agent (early ∷ footprints) strange within =
    let rest = strange_cut agents nodes agent footprints strange within.1 in
    let own : (meet (Some agent) early.who || list_any (needs early)
    (at_places footprints (cut agent footprints))) ≡ false =
    ap (λ (b : Bool). b || list_any (needs early) (at_places footprints (cut agent footprints)))
    (strange_who agents agent early.who strange within.0.who) ∙ ap (list_any (needs early)) rest.chosen in
    record {
      chosen = cond-false _ _ _ own ∙ rest.chosen;
      found = λ place. cond-false _ _ _ own ∙ rest.found (suc place);
    }

-- the same of a match

pub record IsKnown (play : Play) (sites : List (Option ℕ)) : Type 0 where
  pub footprints : footprints_at play.log sites ≡ footprints (world_in play) (events_of play.log)
  pub count : length sites ≡ length play.log
  pub range : AreInRange play.setup.agents (nodes_of play.net) (footprints_at play.log sites)

pub known : (play : Play) (net : Network) (setup : Setup) (log : List Kept) (found : List (Option ℕ))
    → IsRead play net setup log found → IsKnown play found
known play net setup log found read = record {
  footprints = ap (footprints_at play.log) read.sites ∙ footprints_same (world_in play) play.log read.replies;
  count = read.count;
  range = places_within (world_in play) (nodes_of play.net) initial nobody play.log found (fair_initial (world_in play))
      read.kept read.range;
}

pub stranger : (play : Play) (found : List (Option ℕ)) (agent : ℕ) → IsKnown play found → play.setup.agents ≤ agent →
    places_of (cut agent (footprints (world_in play) (events_of play.log))) ≡ []
stranger play found agent known strange =
    (strange_cut play.setup.agents (nodes_of play.net) agent _ strange (rw known.footprints at known.range)).found 0

pub length_none : (n : ℕ) → length (replicate n false) ≡ n
length_none n = length-replicate n false

pub range_there : (agents nodes for_agents for_nodes : ℕ) (one two : List Footprint) → for_agents ≡ agents
    → for_nodes ≡ nodes → two ≡ one → AreInRange agents nodes one → AreInRange for_agents for_nodes two
range_there agents nodes for_agents for_nodes one two is_agents is_nodes is range = rw (is_agents, is_nodes, is) range
