-- The headline theorem for the calls of a rehearsal: the calls, their output, and the stage after them.
use Rattle.std.specs.Prelude.{ℕ, ◌<◌, ◌≡◌, false, Some, List, [], ◌∷◌, ◌++◌}
use Rattle.bhs_model.specs.Views.{View}
use Rattle.bhs_setups.specs.declared.lineups.Lineup.{Lineup}
use Rattle.bhs_rehearsal.specs.declared.faults.RehearsalFault.{RehearsalFault}
use Rattle.bhs_rehearsal.specs.Games.{Game, state_of}
use Rattle.bhs_rehearsal.specs.Stages.{Instruction, connection_at, game_at}
use Rattle.bhs_theorems_isolation.specs.Clients.{nothing_fed, fed_to, commands_fed, bytes_to}
use Rattle.bhs_rehearsal.specs.Rehearsing.{Rehearsing, first_stage, made_of, Obeys, Refuses}

-- The calls that were made of a rehearsal, oldest first: their instructions, what each sent, and the rehearsal behind
-- them. A call that names no connection or no match changes nothing, and is left out.
pub data WasCalled (start : Rehearsing) : List Instruction → List (List (ℕ × List ℕ)) → Rehearsing → Type 0 where
  not_yet : WasCalled start [] [] start
  obeyed : (script : List Instruction) (sent : List (List (ℕ × List ℕ))) (old new : Rehearsing)
      (instruction : Instruction) (outs : List (ℕ × List ℕ)) → WasCalled start script sent old
      → Obeys old instruction outs new → WasCalled start (script ++ instruction ∷ []) (sent ++ outs ∷ []) new
  refused : (script : List Instruction) (sent : List (List (ℕ × List ℕ))) (old new : Rehearsing)
      (instruction : Instruction) (fault : RehearsalFault) → WasCalled start script sent old
      → Refuses old instruction fault new → WasCalled start script sent new

-- a rehearsal of a lineup, with the calls that it got
pub record Called : Type 0 where
  pub lineup : Lineup
  pub connections : ℕ
  pub script : List Instruction
  pub sent : List (List (ℕ × List ℕ))
  pub now : Rehearsing
  pub calls : WasCalled (made_of lineup connections) script sent now

-- the match of a seat, and the past of its agent
abbrev pub its_match : Called → (seat : ℕ × ℕ) → Game
its_match one seat = game_at one.now.stage seat.0

abbrev pub its_past : Called → (seat : ℕ × ℕ) → View
its_past one seat = (state_of (its_match one seat)).past seat.1

-- A connection plays this agent. The logs were empty when the rehearsal was made, and neither the match nor the input
-- of the connection has ended.
pub record StillPlays (one : Called) (conn : ℕ) (seat : ℕ × ℕ) : Type 0 where
  pub begins : (game : ℕ) → (game_at (first_stage one.lineup one.connections) game).log ≡ []
  pub sits : (connection_at one.now.stage conn).seat ≡ Some seat
  pub within : seat.1 < (its_match one seat).setup.agents
  pub still_open : (state_of (its_match one seat)).closed ≡ false
  pub goes_on : (fed_to conn nothing_fed one.script).has_ended ≡ false

-- Two connections of any two rehearsals, in matches of equal quota and of whiteboards of equal size, whose agents have
-- equal pasts and that were fed equal commands, were sent equal bytes by the calls.
abbrev pub EqualPastsAreAnsweredAlike : Type 0
EqualPastsAreAnsweredAlike =
    (one two : Called) (conn conn2 : ℕ) (seat seat2 : ℕ × ℕ) → StillPlays one conn seat → StillPlays two conn2 seat2 →
    (its_match one seat).setup.quota ≡ (its_match two seat2).setup.quota →
    (its_match one seat).setup.board ≡ (its_match two seat2).setup.board →
    its_past one seat ≡ its_past two seat2 →
    commands_fed conn one.script ≡ commands_fed conn2 two.script →
    bytes_to conn one.sent ≡ bytes_to conn2 two.sent
