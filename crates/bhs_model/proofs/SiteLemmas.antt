-- The sites of a list of events with one event more.
use Rattle.std.proofs.Common.{ℕ, ◌≡◌, Option, List, [], ◌∷◌, ◌++◌, length, refl, ap, arith}
use Rattle.bhs_model.specs.declared.events.Event.{Event}
use Rattle.bhs_model.specs.Worlds.{World}
use Rattle.bhs_model.specs.Runs.{State, next, run_from}
use Rattle.bhs_model.specs.Sites.{site, sites_from}

pub length_sites : (world : World) (state : State) (events : List Event)
    → length (sites_from world state events) ≡ length events
length_sites world state [] = refl
length_sites world state (event ∷ events) = let more = length_sites world (next world state event) events in omega arith

pub sites_more : (world : World) (state : State) (events : List Event) (event : Event)
    → sites_from world state (events ++ event ∷ []) ≡ sites_from world state events
    ++ site world (run_from world state events) event ∷ []
sites_more world state [] event = refl
sites_more world state (first ∷ events) event =
    ap (λ (others : List (Option ℕ)). site world state first ∷ others)
    (sites_more world (next world state first) events event)
