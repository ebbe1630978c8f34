-- What the words of the command line say: where an agent plays, with which key, and what it runs.
use Rattle.std.specs.Prelude.{ℕ, ◌==◌, List, [], ◌∷◌, Option, Some, None, option_map, option_and_then, codes}
use Rattle.std.specs.Prelude.{if◌then◌else◌, unwrap_or}
use Rattle.std.specs.Str.{bytes_eq}
use Rattle.bhs_net.specs.declared.faults.TheConstants.{MIN_NODES, MAX_NODES}
use Rattle.bhs_cli_words.specs.Arguments.{number_within}
use Rattle.bhs_cli_words.specs.Exploring.{module_in}
use Rattle.bhs_protocols_charts.specs.declared.memories.NetworkFacts.{NetworkFacts}
use Rattle.bhs_protocols_charts.specs.declared.memories.Told.{Told}
use Rattle.bhs_protocols_charts.specs.declared.memories.Told.TheVariants.{Links, Parity}
use Rattle.bhs_client.specs.declared.protocol_agent.Protocol.{Protocol}
use Rattle.bhs_client.specs.declared.protocol_agent.Protocol.TheVariants.{Halves, Shuttle}
use Rattle.bhs_player.specs.declared.words.AgentChoice.{AgentChoice}
use Rattle.bhs_player.specs.declared.words.AgentChoice.TheVariants as runs
use Rattle.bhs_player.specs.declared.words.Entrant.{Entrant}

-- an entrant, without where its words lie in memory
pub record Entering : Type 0 where
  pub host : List ℕ
  pub port : ℕ
  pub key : List ℕ
  pub spurious_wakeups : ℕ
  pub runs : AgentChoice

abbrev pub seen : Entrant → Entering
seen entrant = record {
  host = entrant.host.now;
  port = entrant.port;
  key = entrant.key.now;
  spurious_wakeups = entrant.spurious_wakeups;
  runs = entrant.runs;
}

-- the protocol of this name
abbrev pub protocol_in : List ℕ → Option Protocol
protocol_in word = if bytes_eq word (codes "halves") then Some Halves
    else (if bytes_eq word (codes "shuttle") then Some Shuttle else None)

-- PROTOCOL NODES SIDE: the search of a ring with as many nodes as a file may have, from port 0 or 1 of its home base
abbrev pub search_in : (protocol nodes side : List ℕ) → Option AgentChoice
search_in protocol nodes side =
    option_and_then (λ protocol. option_and_then (λ nodes. option_map (λ side. runs.Protocol protocol nodes side)
    (number_within 0 1 side)) (number_within MIN_NODES MAX_NODES nodes)) (protocol_in protocol)

-- the number of links, or 0 if no node has more than three
abbrev pub told_by : (links : ℕ) → Told
told_by links = if links == 0 then Parity else Links links

-- NODES LINKS: the search by a chart of a network with as many nodes as a file may have
abbrev pub chart_in : (nodes links : List ℕ) → Option AgentChoice
chart_in nodes links =
    option_and_then (λ nodes. option_map (λ links. runs.Chart (record { nodes = nodes; told = told_by links }))
    (number_within 0 4294967295 links)) (number_within MIN_NODES MAX_NODES nodes)

-- what an agent runs: PROTOCOL NODES SIDE, chart NODES LINKS, or --module FILE[:N,..]
abbrev pub choice_in : List (List ℕ) → Option AgentChoice
choice_in (protocol ∷ nodes ∷ number ∷ []) =
    if bytes_eq protocol (codes "chart") then chart_in nodes number else search_in protocol nodes number
choice_in (option ∷ word ∷ []) =
    if bytes_eq option (codes "--module") then option_map (λ it. runs.Module it) (module_in word) else None
choice_in words = None

-- Splits off the option --spurious-wakeups: its number, if the option is given, and the remaining words; None if the
-- number is not below 2^32.
abbrev pub limit_in : List (List ℕ) → Option (Option ℕ × List (List ℕ))
limit_in (option ∷ number ∷ words) =
    if bytes_eq option (codes "--spurious-wakeups")
    then option_map (λ limit. (Some limit, words)) (number_within 0 4294967295 number)
    else Some (None, option ∷ number ∷ words)
limit_in words = Some (None, words)

-- A module has as many spurious wake-ups as `arena explore` tries by default. The theorems on protocols and charts hold
-- for every number, as far as the quota suffices.
abbrev pub default_limit : AgentChoice → ℕ
default_limit (runs.Module it) = 2
default_limit choice = 4294967295

abbrev pub entrant_with : (host : List ℕ) → (port : ℕ) → (key : List ℕ) → (limit : Option ℕ) → AgentChoice → Entering
entrant_with host port key limit runs = record {
  host = host;
  port = port;
  key = key;
  spurious_wakeups = unwrap_or limit (default_limit runs);
  runs = runs;
}

-- HOST PORT KEY, how many spurious wake-ups the agent may have, and what it runs
abbrev pub entrant_in : List (List ℕ) → Option Entering
entrant_in (host ∷ port ∷ key ∷ what) =
    option_and_then (λ port. option_and_then (λ limited. option_map (entrant_with host port key limited.0)
    (choice_in limited.1)) (limit_in what)) (number_within 0 65535 port)
entrant_in words = None
