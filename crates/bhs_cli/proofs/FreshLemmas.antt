-- Nothing has happened in the matches of a tournament that was put together.
use Rattle.std.proofs.Common.{◌≡◌, refl, sym, subst, List, [], ◌∷◌, map}
use Rattle.bhs_net.specs.Network.{Network}
use Rattle.bhs_setups.specs.Fresh.{AreFresh}
use Rattle.bhs_setups.specs.declared.lineups.Ready.{Ready}
use Rattle.bhs_files.specs.Tournaments.{Plan, Planned}
use Rattle.bhs_tournament.specs.Lineups.{all_ready, network_for, ready_of}

each_fresh : (network : Planned → Network) (matches : List Planned)
    → AreFresh (map (λ planned. ready_of (network planned) planned) matches)
each_fresh network [] = tt
each_fresh network (planned ∷ others) = (refl, each_fresh network others)

-- the initial matches of a plan on its networks
pub fresh : (plan : Plan) (networks : List Network) (matches : List Ready) → matches ≡ all_ready plan networks
    → AreFresh matches
fresh plan networks matches are =
    subst AreFresh (sym are) (each_fresh (network_for plan.matches networks) plan.matches)
