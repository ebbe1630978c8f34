-- What a match keeps beside its log, and how that follows from the log.
use Rattle.std.specs.Prelude.{ℕ, ◌<◌, ◌≤◌, ◌≡◌, not, Option, Some, None, List, [], ◌∷◌, ◌++◌, ◌==◌, nat_lt}
use Rattle.std.specs.Prelude.{if◌then◌else◌, filter, length, slice_index_or, slice_set, IfSome}
use Rattle.std.specs.List.{All}
use Rattle.bhs_net.specs.Network.{nodes_of}
use Rattle.bhs_model.specs.declared.setups.Setup.{Setup}
use Rattle.bhs_model.specs.declared.commands.Command.{Command}
use Rattle.bhs_model.specs.declared.events.Event.{Event}
use Rattle.bhs_model.specs.declared.events.Event.TheVariants.{Tell, Deliver, Close}
use Rattle.bhs_model.specs.declared.marks.Mark.{Mark}
use Rattle.bhs_model.specs.declared.marks.Kept.{Kept}
use Rattle.bhs_model.specs.Runs.{Position, Before, At, run}
use Rattle.bhs_model.specs.Kept.{kept}
use Rattle.bhs_model.specs.Marks.{events_of}
use Rattle.bhs_model.specs.Cuts.{node_reached}
use Rattle.bhs_model.specs.Sites.{node_said, sites}
use Rattle.bhs_state.specs.Agents.{link_of}
use Rattle.bhs_world.specs.Faults.{IsWithinLimits}
use Rattle.bhs_world.specs.Tables.{Table, agent_at, world_in, StandsFor}
use Rattle.bhs_match.specs.declared.pools.Bound.{Bound}
use Rattle.bhs_match.specs.Matches.{most_kept, arrivals, bounds}

-- the places of an agent's arrivals, and how many there is room for
pub record Shelf : Type 0 where
  pub places : List ℕ
  pub room : ℕ

-- the news of an agent
abbrev pub news_at : List Shelf → (agent : ℕ) → Shelf
news_at news agent = slice_index_or news agent (record { places = []; room = 0 })

-- the node whose whiteboard is seen from a position
abbrev pub node_seen_at : Table → Position → Option ℕ
node_seen_at table Before = Some table.setup.home
node_seen_at table (At node came) = Some node
node_seen_at table position = None

abbrev pub node_seen : Table → (agent : ℕ) → Option ℕ
node_seen table agent = if nat_lt agent table.setup.agents then node_seen_at table
    (agent_at table.agents agent).position else Some table.setup.home

-- the departure node and port of an agent's link
abbrev pub link_at : Table → (agent : ℕ) → Option (ℕ × ℕ)
link_at table agent = if nat_lt agent table.setup.agents then link_of (agent_at table.agents agent).position else None

-- the departure node and port of the link that an event's agent travels on
abbrev pub link_by : Table → Event → Option (ℕ × ℕ)
link_by table (Tell agent command) = link_at table agent
link_by table (Deliver agent) = link_at table agent
link_by table Close = None

-- the pool after an agent's link changes from `was` to `now`
abbrev pub settled : (agent : ℕ) → (was now : Option (ℕ × ℕ)) → List Bound → List Bound
settled agent None (Some link) pool = pool ++ record { agent = agent; node = link.0; port = link.1 } ∷ []
settled agent (Some link) None pool = filter (λ bound. not (bound.agent == agent)) pool
settled agent was now pool = pool

-- the pool after an event
abbrev pub settled_by : Event → (was now : Option (ℕ × ℕ)) → List Bound → List Bound
settled_by (Tell agent command) was now pool = settled agent was now pool
settled_by (Deliver agent) was now pool = settled agent was now pool
settled_by Close was now pool = pool

-- the news with a place more
abbrev pub noted_at : List Shelf → (agent place : ℕ) → List Shelf
noted_at news agent place =
    slice_set news agent (record {
      places = (news_at news agent).places ++ place ∷ [];
      room = (news_at news agent).room;
    })

-- the news after an event that was kept at a place
abbrev pub noted : List Shelf → Event → Option Mark → (place : ℕ) → List Shelf
noted news (Deliver agent) (Some mark) place = noted_at news agent place
noted news event mark place = news

-- the site of a command that is kept, computed from its agent's state
abbrev pub said_by : Table → (agent : ℕ) → Command → Option ℕ
said_by table agent command = if nat_lt agent table.setup.agents
    then node_said (world_in table) (agent_at table.agents agent).position command else None

abbrev pub bound_for : Table → (agent : ℕ) → Option ℕ
bound_for table agent = if nat_lt agent table.setup.agents
    then node_reached (world_in table) (agent_at table.agents agent).position else None

abbrev pub site_by : Table → Event → Option ℕ
site_by table (Tell agent command) = said_by table agent command
site_by table (Deliver agent) = bound_for table agent
site_by table Close = None

-- what a match keeps follows from its log
pub record IsInOrder (table : Table) (log : List Kept) (pool : List Bound) (news : List Shelf) : Type 0 where
  pub within : IsWithinLimits table.net table.setup
  pub stands : StandsFor table log
  pub kept_alone : kept (world_in table) (events_of log) ≡ events_of log
  pub pooled : pool ≡ bounds (run (world_in table) (events_of log))
  pub agents : length news ≡ table.setup.agents
  pub arrived : (agent : ℕ) → agent < table.setup.agents → (news_at news agent).places ≡ arrivals agent log
  pub room : (agent : ℕ) → agent < table.setup.agents → table.setup.quota ≤ (news_at news agent).room

-- These are the sites of the log's events.
pub record AreSites (table : Table) (log : List Kept) (found : List (Option ℕ)) : Type 0 where
  pub same : found ≡ sites (world_in table) (events_of log)
  pub range : All (λ site. IfSome site (λ node. node < nodes_of table.net)) found

-- The allocated room suffices for every run of the match.
pub record HasRoom (setup : Setup) (for_log for_sites for_pool : ℕ) : Type 0 where
  pub log : most_kept setup.agents setup.quota ≤ for_log
  pub sites : most_kept setup.agents setup.quota ≤ for_sites
  pub pool : setup.agents ≤ for_pool

-- there is room for one place more
pub record HasShelf (news : List Shelf) (agent : ℕ) : Type 0 where
  pub within : agent < length news
  pub room : length (news_at news agent).places < (news_at news agent).room

-- The news have room for this event.
abbrev pub CanNote : List Shelf → Event → Option Mark → Type 0
CanNote news (Deliver agent) (Some mark) = HasShelf news agent
CanNote news event mark = Unit {0}
