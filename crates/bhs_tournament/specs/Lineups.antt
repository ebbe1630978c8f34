-- What a tournament and its networks make: matches that can be played, and the keys; or the first fault.
use Rattle.std.specs.Prelude.{ℕ, ◌+◌, not, nat_lt, if◌then◌else◌, List, [], ◌∷◌, map, length, slice_index_or, Option}
use Rattle.std.specs.Prelude.{Some, None, option_map, Result, Ok, Err}
use Rattle.std.specs.List.{position_or_len}
use Rattle.std.specs.Option.{option_or}
use Rattle.bhs_net.specs.Network.{Network}
use Rattle.bhs_model.specs.declared.limits.TheConstants.{SMALL_QUOTA, SMALL_BOARD}
use Rattle.bhs_model.specs.declared.setups.Setup.{Setup}
use Rattle.bhs_model.specs.Setups.{normal}
use Rattle.bhs_world.specs.Faults.{first_fault}
use Rattle.bhs_world.specs.declared.faults.SetupFault.{SetupFault}
use Rattle.bhs_world.specs.declared.faults.SetupFault.TheVariants as setup_faults
use Rattle.bhs_match.specs.Matches.{Play}
use Rattle.bhs_deliveries.specs.Links.{first_strange}
use Rattle.bhs_files.specs.declared.faults.FileFault.{FileFault}
use Rattle.bhs_files.specs.declared.faults.FileFault.TheVariants as faults
use Rattle.bhs_setups.specs.declared.lineups.Ready.{Ready}
use Rattle.bhs_setups.specs.Lineups.{Contest}
use Rattle.bhs_files.specs.Names.{same_name, first_seen}
use Rattle.bhs_tournament.specs.KeyTable.{key_table}
use Rattle.bhs_files.specs.Tournaments.{Plan, Planned}
use Rattle.bhs_files.specs.Reading.{◌>>=◌}

-- ---- a match

-- the names of the networks, in the order in which matches first have them
abbrev pub names_of : List Planned → List (List ℕ)
names_of matches = first_seen (map (λ planned. planned.network) matches)

-- the network at the name's index
abbrev pub network_named : (names : List (List ℕ)) → List Network → (name : List ℕ) → Network
network_named names networks name = slice_index_or networks (position_or_len (same_name name) names) []

-- how a match is set up: an agent for each key
abbrev pub setup_of : Planned → Setup
setup_of planned = record {
  home = planned.home;
  holes = planned.holes;
  dark = planned.dark;
  agents = length planned.keys;
  quota = planned.quota;
  board = planned.board;
}

-- a match on a network, before anything happens
abbrev pub begins : Network → Setup → Play
begins net setup = record { net = net; setup = normal net setup; log = [] }

abbrev pub start_of : Network → Planned → Play
start_of net planned = begins net (setup_of planned)

-- a match that is ready to be played
abbrev pub ready_of : Network → Planned → Ready
ready_of net planned = record { team = planned.team; game = start_of net planned; held = planned.held }

-- ---- faults

-- a fault of a setup as a fault of its tournament
abbrev pub of_setup : (game : ℕ) → SetupFault → FileFault
of_setup game setup_faults.Memory = faults.Memory
of_setup game fault = faults.Setup game fault

-- what a match has too much of for the version of its file: the earlier ones allow less than the model
abbrev pub excess : Planned → Option SetupFault
excess planned =
    if not (nat_lt planned.version 3) then None
    else (if nat_lt SMALL_QUOTA planned.quota then Some setup_faults.Quota
    else (if nat_lt SMALL_BOARD planned.board then Some setup_faults.Board
    else None))

-- The first fault of a setup that has this first fault, or none, and this excess. An excess of commands or bytes has
-- the place of their faults, before that of the dark links alone.
abbrev pub with_excess : (excess first : Option SetupFault) → Option SetupFault
with_excess excess None = excess
with_excess excess (Some setup_faults.Dark) = option_or excess (Some setup_faults.Dark)
with_excess excess (Some fault) = Some fault

-- the fault of a match's setup
abbrev pub setup_fault : Network → (game : ℕ) → Planned → Option FileFault
setup_fault net game planned =
    option_map (faults.Setup game) (with_excess (excess planned) (first_fault net (setup_of planned)))

-- the first of a match's held links that is no port of a node
abbrev pub held_fault : Network → (game : ℕ) → Planned → Option FileFault
held_fault net game planned = option_map (faults.Held game) (first_strange net planned.held)

-- the first fault of matches of rising number
abbrev pub first_of : ((game : ℕ) → Planned → Option FileFault) → ℕ → List Planned → Option FileFault
first_of fault game [] = None
first_of fault game (planned ∷ others) = option_or (fault game planned) (first_of fault (game + 1) others)

-- a fault stands in place of what follows
abbrev pub unless : {A : Type 0} → Option FileFault → Result A FileFault → Result A FileFault
unless None rest = rest
unless (Some fault) rest = Err fault

-- ---- the tournament

-- the network of a planned match
abbrev pub network_for : (matches : List Planned) → List Network → Planned → Network
network_for matches networks planned = network_named (names_of matches) networks planned.network

-- the matches, each on its network, before anything happens
abbrev pub all_ready : Plan → List Network → List Ready
all_ready plan networks = map (λ planned. ready_of (network_for plan.matches networks planned) planned) plan.matches

-- The matches on their networks, where no match has a fault of its setup, no key stands twice, and all held links
-- are ports of nodes. Faults come in this order.
abbrev pub contest_in : Plan → List Network → Result Contest FileFault
contest_in plan networks =
    unless (first_of (λ game planned. setup_fault (network_for plan.matches networks planned) game
    planned) 0 plan.matches)
    (key_table (map (λ planned. planned.keys) plan.matches) >>= λ keys.
    unless (first_of (λ game planned. held_fault (network_for plan.matches networks planned) game
    planned) 0 plan.matches)
    (Ok (record {
      seed = plan.seed;
      schedule = plan.schedule;
      matches = all_ready plan networks;
      keys = keys;
    })))
