-- The headline over bytes: what a client is sent is a function of what its agent met.
use Rattle.std.specs.Prelude.{ℕ, ◌≡◌, ◌<◌, false, Some, List, []}
use Rattle.bhs_model.specs.Views.{View}
use Rattle.bhs_setups.specs.KeyTable.{Seat}
use Rattle.bhs_rehearsal.specs.Games.{Game, state_of}
use Rattle.bhs_rehearsal.specs.Stages.{Stage, game_at, connection_at, Instruction, begun, stands_after, sends}
use Rattle.bhs_theorems_isolation.specs.Clients.{nothing_fed, fed_to, commands_fed, bytes_to}

-- ---- a rehearsal that was played

-- the matches as they begin, the keys, how many connections there are, and the script
pub record Rehearsed : Type 0 where
  pub games : List Game
  pub keys : List Seat
  pub connections : ℕ
  pub script : List Instruction

abbrev pub beginning : Rehearsed → Stage
beginning one = begun one.games one.keys one.connections

-- the stage after the script
abbrev pub outcome : Rehearsed → Stage
outcome one = stands_after (beginning one) one.script

-- no event was kept in any match when it began
abbrev pub BeginsEmpty : Rehearsed → Type 0
BeginsEmpty one = (game : ℕ) → (game_at (beginning one) game).log ≡ []

-- all bytes that a connection was sent
abbrev pub sent_in : Rehearsed → (conn : ℕ) → List ℕ
sent_in one conn = bytes_to conn (sends (beginning one) one.script)

-- the match of a seat after the script, and the past of its agent
abbrev pub match_of : Rehearsed → (seat : ℕ × ℕ) → Game
match_of one seat = game_at (outcome one) seat.0

abbrev pub past_of : Rehearsed → (seat : ℕ × ℕ) → View
past_of one seat = (state_of (match_of one seat)).past seat.1

-- ---- equal pasts

-- A connection plays this agent, and neither its match nor its input has ended.
pub record Plays (one : Rehearsed) (conn : ℕ) (seat : ℕ × ℕ) : Type 0 where
  pub begins : BeginsEmpty one
  pub sits : (connection_at (outcome one) conn).seat ≡ Some seat
  pub within : seat.1 < (match_of one seat).setup.agents
  pub still_open : (state_of (match_of one seat)).closed ≡ false
  pub goes_on : (fed_to conn nothing_fed one.script).has_ended ≡ false

-- Two connections in any two rehearsals, in matches of equal quota and whiteboards of equal size, whose agents have
-- equal pasts and that were fed equal commands, were sent equal bytes.
abbrev pub EqualPastsAreSentEqualBytes : Type 0
EqualPastsAreSentEqualBytes =
    (one two : Rehearsed) (conn conn2 : ℕ) (seat seat2 : ℕ × ℕ) → Plays one conn seat → Plays two conn2 seat2 →
    (match_of one seat).setup.quota ≡ (match_of two seat2).setup.quota →
    (match_of one seat).setup.board ≡ (match_of two seat2).setup.board →
    past_of one seat ≡ past_of two seat2 →
    commands_fed conn one.script ≡ commands_fed conn2 two.script →
    sent_in one conn ≡ sent_in two conn2
