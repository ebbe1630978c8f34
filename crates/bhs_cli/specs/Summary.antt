-- What the order to check a tournament prints.
use Rattle.std.specs.Prelude.{◌≡◌, ℕ, ◌+◌, ◌/◌, List, [], ◌∷◌, ◌++◌, codes, decimal, Ok}
use Rattle.std.specs.List.{All}
use Rattle.bhs_net.specs.Network.{Network, nodes_of, ports_of}
use Rattle.bhs_setups.specs.declared.lineups.Ready.{Ready}
use Rattle.bhs_setups.specs.declared.lineups.Lineup.{Lineup}
use Rattle.bhs_files.specs.NetworkFiles.{listing_in, IsNetworkOf}
use Rattle.bhs_files.specs.Tournaments.{Plan, tournament_in}
use Rattle.bhs_tournament.specs.Lineups.{contest_in}
use Rattle.bhs_setups.specs.Lineups.{contest}

-- how many links there are: each has two ports
abbrev pub links_of : Network → ℕ
links_of net = ports_of net / 2

-- the line of a match: its number, its team, and how many nodes, links and agents there are
abbrev pub match_line : (game : ℕ) → Ready → List ℕ
match_line game ready =
    codes "match " ++ (decimal game ++ (codes " " ++ (ready.team
    ++ (codes " nodes " ++ (decimal (nodes_of ready.game.net)
    ++ (codes " links " ++ (decimal (links_of ready.game.net)
    ++ (codes " agents " ++ (decimal ready.game.setup.agents ++ codes "\n")))))))))

-- the lines of matches, the first being of this number
abbrev pub summary_from : (game : ℕ) → List Ready → List ℕ
summary_from game [] = []
summary_from game (ready ∷ others) = match_line game ready ++ summary_from (game + 1) others

-- some text says this network
abbrev pub IsRead : Network → Type 0
IsRead net = (text : List ℕ) × IsNetworkOf (listing_in text) net

-- the lineup is made of a tournament that some text says, on networks each of which some text says
pub record IsAssembled (lineup : Lineup) : Type 0 where
  pub text : List ℕ
  pub plan : Plan
  pub said : tournament_in text ≡ Ok plan
  pub networks : List Network
  pub read : All IsRead networks
  pub made : contest_in plan networks ≡ Ok (contest lineup)

-- the text says what the matches of some tournament are
pub record IsSummary (text : List ℕ) : Type 0 where
  pub lineup : Lineup
  pub assembled : IsAssembled lineup
  pub said : text ≡ summary_from 0 lineup.ready.items
