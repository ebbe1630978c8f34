-- A log that is what is kept of itself has commands of the match's agents alone.
use Rattle.std.proofs.Common.{◌≡◌, ℕ, zero, suc, ◌<◌, Bool, true, List, [], ◌∷◌, length}
use Rattle.std.proofs.Common.{subst, arith, get_or, nat_lt}
use Rattle.std.proofs.lemmas.Bool.{and_parts, ltb-true}
use Rattle.bhs_model.specs.declared.commands.Command.{Command}
use Rattle.bhs_model.specs.declared.events.Event.{Event}
use Rattle.bhs_model.specs.declared.events.Event.TheVariants.{Tell, Deliver, Close}
use Rattle.bhs_model.specs.declared.marks.Kept.{Kept}
use Rattle.bhs_model.specs.Kept.{nobody, kept, kept_from, keeps, lost_after}
use Rattle.bhs_model.specs.Marks.{events_of}
use Rattle.bhs_model.specs.Runs.{State, initial, next}
use Rattle.bhs_model.specs.Worlds.{World}
use Rattle.bhs_model.proofs.KeptLemmas.{first_kept}

-- If the event is a command, its agent's number is in range.
abbrev IsOfAgents : (agents : ℕ) → Event → Type 0
IsOfAgents agents (Tell agent command) = agent < agents
IsOfAgents agents event = Unit {0}

of_agents : (world : World) (state : State) (lost : ℕ → Bool) (event : Event) → keeps world state lost event ≡ true
    → IsOfAgents world.agents event
of_agents world state lost (Tell agent command) is =
    ltb-true agent world.agents (and_parts (nat_lt agent world.agents) _ is).0
of_agents world state lost (Deliver agent) is = tt
of_agents world state lost Close is = tt

kept_of_agents : (world : World) (state : State) (lost : ℕ → Bool) (log : List Kept) (place : ℕ) (one : Kept) →
    kept_from world state lost (events_of log) ≡ events_of log → place < length log → one ≡ get_or log place one
    → IsOfAgents world.agents one.event
kept_of_agents world state lost [] place one same inside is = absurd (omega (arith, inside))
kept_of_agents world state lost (first ∷ log) place one same inside is =
    let after = next world state first.event in
    let marks = lost_after world state lost first.event in
    let all = first_kept world state lost first.event (events_of log) same in
    by_place place inside is all.first
    (λ place inside is. kept_of_agents world after marks log place one all.others inside is)
  where
    by_place : (place : ℕ) → place < length (first ∷ log) → one ≡ get_or (first ∷ log) place one
        → keeps world state lost first.event ≡ true →
        ((place : ℕ) → place < length log → one ≡ get_or log place one → IsOfAgents world.agents one.event)
        → IsOfAgents world.agents one.event
    by_place zero inside is first_kept later = rw is (of_agents world state lost first.event first_kept)
    by_place (suc place) inside is first_kept later = later place (omega (arith, inside)) is

-- the agent of a command of a log is below the number of agents
pub agent_within : (world : World) (log : List Kept) (place : ℕ) (one : Kept) (agent : ℕ) (command : Command)
    → kept world (events_of log) ≡ events_of log → place < length log → one ≡ get_or log place one →
    one.event ≡ Tell agent command → agent < world.agents
agent_within world log place one agent command same inside is told =
    subst (IsOfAgents world.agents) told (kept_of_agents world initial nobody log place one same inside is)
