-- Effects of one command: on its own agent, and on all other agents.
use Rattle.std.proofs.Common.{◌≡◌, ◌≢◌, ◌∙◌, ℕ, ◌<◌, Bool, true, false, not, ◌&&◌, nat_lt, Option, Some, [], ◌∷◌, refl}
use Rattle.std.proofs.Common.{sym, ap, subst, arith}
use Rattle.std.proofs.lemmas.Bool.{cond-true, lt-ltb}
use Rattle.bhs_model.specs.declared.commands.Command.{Command}
use Rattle.bhs_model.specs.declared.events.Event.{Event}
use Rattle.bhs_model.specs.declared.events.Event.TheVariants.{Tell}
use Rattle.bhs_model.specs.declared.setups.Setup.{Setup}
use Rattle.bhs_model.specs.declared.replies.Reply.{Reply}
use Rattle.bhs_model.specs.declared.replies.Reply.TheVariants as replies
use Rattle.bhs_model.specs.Views.{View, Told, Glance, Standing, Away, Ended, standing, standing_after, ports}
use Rattle.bhs_model.specs.Replying.{answer, accepts, hears, rep}
use Rattle.bhs_model.specs.Worlds.{World}
use Rattle.bhs_model.specs.Runs.{State, Position, glance, is_bound, position_after, heard, told}
use Rattle.bhs_model.proofs.StepLemmas.{changed_same, heard_by_past, refused_by_past, answered_by_past}
use Rattle.bhs_model.proofs.StepLemmas.{next_heard, next_unheard}
use Rattle.bhs_rehearsal.specs.Games.{Game, world_in, state_of, played, reply_to, is_away}
use Rattle.bhs_rehearsal.specs.Connections.{is_last}
use Rattle.bhs_theorems_isolation.proofs.CuttingLemmas.{by_bool}
use Rattle.bhs_theorems_isolation.proofs.AwayLemmas.{state_of-played, setup-played}
use Rattle.bhs_theorems_isolation.proofs.FitLemmas.{fits_here, here_stands}
use Rattle.bhs_theorems_isolation.specs.Met.{Meeting, Hears, Refuses, past_after, command_in, answer_to, takes_commands}
use Rattle.bhs_theorems_isolation.specs.Met.{IsDue}
use Rattle.bhs_model.proofs.LegalLemmas.{either}

-- A match with this setup, including this agent.
pub record IsIn (setup : Setup) (agent : ℕ) (game : Game) : Type 0 where
  pub setup_is : game.setup ≡ setup
  pub within : agent < setup.agents

pub played_in : (setup : Setup) (agent : ℕ) (game : Game) (event : Event) → IsIn setup agent game
    → IsIn setup agent (played game event)
played_in setup agent game event is = record { setup_is = setup-played game event ∙ is.setup_is; within = is.within }

-- ---- one command

-- nobody is closed out by a command
pub closed-told : (game : Game) (agent : ℕ) (command : Command)
    → (state_of (played game (Tell agent command))).closed ≡ (state_of game).closed
closed-told game agent command =
    ap (λ (state : State). state.closed) (state_of-played game (Tell agent command))
    ∙ either (λ (state : State). state.closed ≡ (state_of game).closed)
    (heard (world_in game) (state_of game) agent command) _ (state_of game) refl refl

-- what a command comes to before the close
pub record Answered (setup : Setup) (view new : View) (command : Command) (replied : Option Reply)
    (here_after : Bool) : Type 0 where
  pub meeting : Meeting
  pub command_is : command_in meeting ≡ command ∷ []
  pub replied_is : replied ≡ Some (answer_to setup.board view meeting)
  pub new_is : new ≡ past_after view meeting
  pub due : IsDue setup.quota view meeting
  -- An agent at a node is on no link after a last reply.
  pub stays : is_last (answer_to setup.board view meeting) ≡ true → here_after ≡ true
  -- an agent has ended exactly after a last answer
  pub ends_it : is_last (answer_to setup.board view meeting) ≡ true → takes_commands (standing new) ≡ false
  pub goes_on : is_last (answer_to setup.board view meeting) ≡ false → standing new ≢ Ended

-- Commands other than departures keep an agent at its node, or end it there.
pub stays_here : (world : World) (limit : ℕ) (standing : Standing) (ports : ℕ) (glance : Glance) (position : Position)
    (command : Command) →
    is_last (answer limit standing ports command glance) ≡ true → is_bound position ≡ false
    → is_bound (position_after world position command) ≡ false
stays_here world limit standing ports glance position command last at = grind arith

-- The agent is neither on a link nor ended.
pub takes_here : (standing : Standing) → standing ≢ Away → standing ≢ Ended → takes_commands standing ≡ true
takes_here standing on_no_link lives = grind arith

-- a last answer to a heard command leaves an agent that has ended, and any other does not
last_ends : (limit : ℕ) (standing : Standing) (room : Bool) (ports : ℕ) (command : Command) (glance : Glance)
    → takes_commands standing ≡ true → accepts standing room command ≡ true →
    is_last (answer limit standing ports command glance) ≡ true
    → takes_commands (standing_after standing ports command) ≡ false
last_ends limit standing room ports command glance takes allowed last = grind arith

others_go_on : (limit : ℕ) (standing : Standing) (room : Bool) (ports : ℕ) (command : Command) (glance : Glance)
    → takes_commands standing ≡ true → accepts standing room command ≡ true →
    is_last (answer limit standing ports command glance) ≡ false → standing_after standing ports command ≢ Ended
others_go_on limit standing room ports command glance takes allowed more ended = grind arith

module _ (setup : Setup) (game : Game) (agent : ℕ) (command : Command) (is : IsIn setup agent game)
    (at : is_away game agent ≡ false)
    (lives : standing ((state_of game).past agent) ≢ Ended) where
  abbrev world : World
  world = world_in game

  abbrev state : State
  state = state_of game

  abbrev view : View
  view = state.past agent

  within_game : agent < game.setup.agents
  within_game = subst (λ (own : Setup). agent < own.agents) (sym is.setup_is) is.within

  not_away : standing view ≢ Away
  not_away = here_stands world view (state.position agent) (fits_here game agent) at

  takes : takes_commands (standing view) ≡ true
  takes = takes_here (standing view) not_away lives

  answered_heard : state.closed ≡ false → hears game.setup.quota view command ≡ true →
      Answered game.setup view ((state_of (played game (Tell agent command))).past agent) command
      (reply_to game (Tell agent command)) (not (is_away (played game (Tell agent command)) agent))
  answered_heard still allowed =
      let is_heard : heard world state agent command ≡ true =
      heard_by_past world state agent command within_game still ∙ allowed in
      let stands : state_of (played game (Tell agent command)) ≡ told world state agent command =
      state_of-played game (Tell agent command) ∙ next_heard world state agent command is_heard in
      let seen = glance world state (state.position agent) command in
      let grown : (told world state agent command).past agent ≡ Told view command seen =
      changed_same state.past agent _ in
      let moved : (told world state agent command).position agent ≡ position_after world (state.position agent)
      command = changed_same state.position agent _ in
      record {
        meeting = Hears command seen;
        command_is = refl;
        replied_is = answered_by_past world state agent command is_heard
            ∙ ap (λ (past : View). rep game.setup.board past) grown;
        new_is = ap (λ (after : State). after.past agent) stands ∙ grown;
        due = (takes, allowed);
        stays = λ last. ap (λ (after : State). not (is_bound (after.position agent))) stands
            ∙ ap (λ (position : Position). not (is_bound position)) moved
            ∙ ap not (stays_here world game.setup.board (standing view) (ports view) seen (state.position agent)
            command last at);
        ends_it = λ last. ap (λ (after : State). takes_commands (standing (after.past agent))) stands
            ∙ ap (λ (past : View). takes_commands (standing past)) grown
            ∙ last_ends game.setup.board (standing view) _ (ports view) command seen takes allowed last;
        goes_on = λ more ended. others_go_on game.setup.board (standing view) _ (ports view) command seen
            takes allowed more
            (ap standing (sym grown) ∙ ap (λ (after : State). standing (after.past agent)) (sym stands) ∙ ended);
      }

  answered_refused : state.closed ≡ false → hears game.setup.quota view command ≡ false →
      Answered game.setup view ((state_of (played game (Tell agent command))).past agent) command
      (reply_to game (Tell agent command)) (not (is_away (played game (Tell agent command)) agent))
  answered_refused still refused =
      let unheard : heard world state agent command ≡ false =
      heard_by_past world state agent command within_game still ∙ refused in
      let stands : state_of (played game (Tell agent command)) ≡ state = state_of-played game (Tell agent command)
      ∙ next_unheard world state agent command unheard in
      record {
        meeting = Refuses command;
        command_is = refl;
        replied_is = refused_by_past world state agent command within_game still refused;
        new_is = ap (λ (after : State). after.past agent) stands;
        due = (takes, refused);
        stays = λ last. absurd (cc);
        ends_it = λ last. absurd (cc);
        goes_on = λ more ended. lives (ap (λ (after : State). standing (after.past agent)) (sym stands) ∙ ended);
      }

  pub answered-open : state.closed ≡ false →
      Answered setup view ((state_of (played game (Tell agent command))).past agent) command
      (reply_to game (Tell agent command)) (not (is_away (played game (Tell agent command)) agent))
  answered-open still =
      subst (λ (own : Setup). Answered own view ((state_of (played game (Tell agent command))).past agent) command
      (reply_to game (Tell agent command)) (not (is_away (played game (Tell agent command)) agent)))
      is.setup_is
      (by_bool (hears game.setup.quota view command)
      (λ (accepts : Bool).
      Answered game.setup view ((state_of (played game (Tell agent command))).past agent) command
      (reply_to game (Tell agent command)) (not (is_away (played game (Tell agent command)) agent)))
      (answered_heard still) (answered_refused still))

  -- after the close everything is answered so
  pub answered-closed : state.closed ≡ true → reply_to game (Tell agent command) ≡ Some replies.Over
  answered-closed closed = cond-true _ _ _ (lt-ltb agent game.setup.agents within_game) ∙ cond-true _ _ _ closed

  -- and changes nothing
  pub unheard-closed : state.closed ≡ true → state_of (played game (Tell agent command)) ≡ state
  unheard-closed closed =
      let unheard : heard world state agent command ≡ false =
      ap (λ (is_closed : Bool). nat_lt agent game.setup.agents &&
      (not is_closed && hears game.setup.quota view command)) closed ∙ and_no (nat_lt agent game.setup.agents) in
      state_of-played game (Tell agent command) ∙ next_unheard world state agent command unheard where
        and_no : (one : Bool) → (one && false) ≡ false
        and_no true = refl
        and_no false = refl
