-- Simulation between a match and a slowed one: events and items.
use Rattle.std.proofs.Common.{◌≡◌, ◌∙◌, ℕ, ◌<◌, Bool, true, false, ◌||◌, cond, ◌==◌, not, Option, Some, None, List, []}
use Rattle.std.proofs.Common.{◌∷◌, ◌++◌, refl, sym, ap, subst, arith}
use Rattle.std.proofs.lemmas.Bool.{and_right}
use Rattle.bhs_model.specs.declared.commands.Command.{Command}
use Rattle.bhs_model.specs.declared.commands.Command.TheVariants.{Leave}
use Rattle.bhs_model.specs.declared.events.Event.{Event}
use Rattle.bhs_model.specs.declared.events.Event.TheVariants.{Tell, Deliver, Close}
use Rattle.bhs_model.specs.declared.replies.Reply.{Reply}
use Rattle.bhs_model.specs.Worlds.{World, doomed}
use Rattle.bhs_model.specs.Runs.{State, initial, Position, Before, At, Bound, After, changed, position_after, heard}
use Rattle.bhs_model.specs.Runs.{delivered, is_bound, is_doomed, arrives, next, run_from, reply}
use Rattle.bhs_model.specs.Twins.{Twins, is_struck}
use Rattle.bhs_model.specs.Kept.{keeps, lost}
use Rattle.bhs_model.specs.Draws.{Held, SlowInstead, is_held, delivery_to, pool, pick}
use Rattle.bhs_model.proofs.StepLemmas.{next_no_arrival, no_arrival_no_reply}
use Rattle.bhs_model.proofs.LegalLemmas.{either}
use Rattle.bhs_model.proofs.TwinLemmas.{doomed_not_through, other_world, reply_alike, next_twin}
use Rattle.bhs_model.proofs.SlowLemmas.{MadeAlike, harmless_at, draw_alike}
use Rattle.bhs_deliveries.specs.Links.{held_in}
use Rattle.bhs_wire.specs.Lines.{said_by}
use Rattle.bhs_session.specs.Texts.{text_of, command_by}
use Rattle.bhs_rehearsal.specs.Games.{Game, world_in, state_of, played, reply_to, is_away, drawn}
use Rattle.bhs_rehearsal.specs.Games.{delivered as delivered_event}
use Rattle.bhs_rehearsal.specs.Connections.{Item, Says, Ends, TakenItems, is_last, leaves, answers, taken}
use Rattle.bhs_theorems_isolation.specs.ScriptLaws.{IsSlowFor, slow_of, SlowMatchesBegin}
use Rattle.bhs_theorems_isolation.proofs.CuttingLemmas.{cond_alike}
use Rattle.bhs_theorems_isolation.proofs.TwinLogLemmas.{keeps_alike, twins-both, twins-one}
use Rattle.bhs_model.proofs.AddLemmas.{run-append}

-- ---- an agent on a link has departed by an existing port

abbrev IsOnPort : World → Position → Type 0
IsOnPort world (Bound node port) = port < world.net.degree node
IsOnPort world Before = Unit {0}
IsOnPort world (At node came) = Unit {0}
IsOnPort world After = Unit {0}

told_on_port : (world : World) (position : Position) (command : Command) → IsOnPort world position
    → IsOnPort world (position_after world position command)
told_on_port world position command on = grind arith

abbrev AllOnPorts : World → State → Type 0
AllOnPorts world state = (agent : ℕ) → IsOnPort world (state.position agent)

changed_on_port : (world : World) (state : State) (agent : ℕ) (new : Position) → IsOnPort world new
    → AllOnPorts world state → (other : ℕ) → IsOnPort world (changed state.position agent new other)
changed_on_port world state agent new on all other =
    either (IsOnPort world) (other == agent) new (state.position other) on (all other)

delivered_on_port : (world : World) (state : State) (agent : ℕ) (position : Position) → AllOnPorts world state
    → AllOnPorts world (delivered world state agent position)
delivered_on_port world state agent (Bound node port) all = changed_on_port world state agent _ tt all
delivered_on_port world state agent Before all = all
delivered_on_port world state agent (At node came) all = all
delivered_on_port world state agent After all = all

next_on_port : (world : World) (state : State) (event : Event) → AllOnPorts world state
    → AllOnPorts world (next world state event)
next_on_port world state (Tell agent command) all =
    either (AllOnPorts world) (heard world state agent command) _ state
    (changed_on_port world state agent _ (told_on_port world (state.position agent) command (all agent)) all) all
next_on_port world state (Deliver agent) all =
    either (AllOnPorts world) (arrives world state agent) _ state
    (delivered_on_port world state agent (state.position agent) all) all
next_on_port world state Close all = all

run_on_port : (world : World) (state : State) (events : List Event) → AllOnPorts world state
    → AllOnPorts world (run_from world state events)
run_on_port world state [] all = all
run_on_port world state (event ∷ events) all =
    run_on_port world (next world state event) events (next_on_port world state event all)

on_ports : (game : Game) (agent : ℕ) → IsOnPort (world_in game) ((state_of game).position agent)
on_ports game = run_on_port (world_in game) initial game.log (λ agent. tt)

-- ---- a match and its slowed version

module _ (game slow : Game) (is : IsSlowFor game slow) where
  abbrev IsUnstruck : Event → Type 0
  IsUnstruck event = is_struck (world_in game) (world_in slow) (state_of game) event ≡ false

  -- an event that destroys in neither match
  pub played_slow : (event : Event) → IsUnstruck event → IsSlowFor (played game event) (played slow event)
  played_slow event unstruck =
      cond_alike IsSlowFor (keeps (world_in game) (state_of game) (lost (world_in game) game.log) event)
      (keeps (world_in slow) (state_of slow) (lost (world_in slow) slow.log) event) _ _ _ _
      (keeps_alike (world_in game) (world_in slow) (state_of game) (lost (world_in game) game.log)
      (lost (world_in slow) slow.log) event is.worlds unstruck
      ∙ ap (λ (state : State). keeps (world_in slow) state (lost (world_in slow) slow.log) event) is.stands)
      (λ kept. record {
        worlds = is.worlds;
        harmless = is.harmless;
        held_too = is.held_too;
        stands = run-append (world_in game) initial game.log (event ∷ [])
            ∙ next_twin (world_in game) (world_in slow) (state_of game) event is.worlds unstruck
            ∙ ap (λ (state : State). next (world_in slow) state event) is.stands
            ∙ sym (run-append (world_in slow) initial slow.log (event ∷ []));
        twins = twins-both (world_in game) (world_in slow) game.log slow.log event is.twins is.stands unstruck;
      })
      (λ unkept. is)

  pub reply_slow : (event : Event) → IsUnstruck event → reply_to game event ≡ reply_to slow event
  reply_slow event unstruck =
      let is_other = other_world (world_in game) (world_in slow) is.worlds in
      subst (λ (there : World). reply (world_in game) (state_of game) event ≡ reply there (state_of game) event)
      is_other
      (reply_alike (world_in game) (world_in slow) (state_of game) event
      (subst (λ (there : World). is_struck (world_in game) there (state_of game) event ≡ false)
      (sym is_other) unstruck))
      ∙ ap (λ (state : State). reply (world_in slow) state event) is.stands

  pub away_slow : (agent : ℕ) → is_away game agent ≡ is_away slow agent
  away_slow agent = ap (λ (state : State). is_bound (state.position agent)) is.stands

  -- an event that destroys in the first, and does not happen in the second
  doomed_stays : (agent : ℕ) → is_doomed (world_in game) ((state_of game).position agent) ≡ true
      → arrives (world_in game) (state_of game) agent ≡ false
  doomed_stays agent doomed = and_right (not (state_of game).closed) _
      (doomed_not_through (world_in game) ((state_of game).position agent) doomed)

  -- the links on which the second must hold back
  abbrev held_or_doomed : Held
  held_or_doomed node port = held_in game.held node port || doomed (world_in game) node port

  abbrev instead : SlowInstead (world_in game) (held_in game.held) (world_in slow) held_or_doomed
  instead = record { worlds = is.worlds; harmless = is.harmless; held_too = λ node port. refl }

  pub destroyed_slow : (agent : ℕ) → is_doomed (world_in game) ((state_of game).position agent) ≡ true
      → IsSlowFor (played game (Deliver agent)) slow
  destroyed_slow agent doomed =
      either (λ (new : Game). IsSlowFor new slow)
      (keeps (world_in game) (state_of game) (lost (world_in game) game.log) (Deliver agent)) _ game
      (record {
        worlds = is.worlds;
        harmless = is.harmless;
        held_too = is.held_too;
        stands = run-append (world_in game) initial game.log (Deliver agent ∷ [])
            ∙ next_no_arrival (world_in game) (state_of game) agent (doomed_stays agent doomed) ∙ is.stands;
        twins = twins-one (world_in game) (world_in slow) game.log slow.log agent is.twins doomed
            (harmless_at (world_in game) (held_in game.held) (world_in slow) held_or_doomed instead
            ((state_of game).position agent));
      })
      is

  pub destroyed_unanswered : (agent : ℕ) → is_doomed (world_in game) ((state_of game).position agent) ≡ true
      → reply_to game (Deliver agent) ≡ None
  destroyed_unanswered agent doomed = no_arrival_no_reply (world_in game) (state_of game) agent
      (doomed_stays agent doomed)

  held_alike : (position : Position) → IsOnPort (world_in game) position → is_held held_or_doomed position ≡ is_held
      (held_in slow.held) position
  held_alike position on = grind arith

  let_go_same : (picked : Option ℕ) → delivery_to held_or_doomed (state_of game) picked ≡ delivery_to
      (held_in slow.held) (state_of game) picked
  let_go_same None = refl
  let_go_same (Some agent) =
      ap (λ (back : Bool). cond back None (Some (Deliver agent)))
      (held_alike ((state_of game).position agent) (on_ports game agent))

  -- the delivery of the picked agent, if any
  abbrev made : Game → (State → Option ℕ) → Option Event
  made one picked =
      let state = state_of one in
      cond state.closed None (delivery_to (held_in one.held) state (picked state))

  made_slow : (picked : State → Option ℕ)
      → MadeAlike (world_in game) (world_in slow) (state_of game) (made game picked) (made slow picked)
  made_slow picked =
      let one = picked (state_of game) in
      let same : cond (state_of game).closed None (delivery_to held_or_doomed (state_of game) one) ≡ made slow picked =
      ap (λ (event : Option Event). cond (state_of game).closed None event) (let_go_same one)
      ∙ ap (λ (state : State). cond state.closed None (delivery_to (held_in slow.held) state (picked state))) is.stands
      in
      subst (λ (there : Option Event). MadeAlike (world_in game) (world_in slow) (state_of game) (made game picked)
      there) same
      (draw_alike (world_in game) (held_in game.held) (world_in slow) held_or_doomed instead (state_of game)
      (state_of game).closed one)

  -- what a word draws, and what delivers an agent
  pub drawn_slow : (word : ℕ)
      → MadeAlike (world_in game) (world_in slow) (state_of game) (drawn game word) (drawn slow word)
  drawn_slow word = made_slow (λ (state : State). pick (pool state) word)

  pub delivered_slow : (agent : ℕ) → MadeAlike (world_in game) (world_in slow) (state_of game)
      (delivered_event game agent) (delivered_event slow agent)
  delivered_slow agent = made_slow (λ (state : State). Some agent)

-- ---- items

-- the effects of taking items in both matches
pub record TakenAlike (done slow_done : TakenItems) : Type 0 where
  pub game : IsSlowFor done.game slow_done.game
  pub is_done : done.is_done ≡ slow_done.is_done
  pub left : done.left ≡ slow_done.left
  pub text : done.text ≡ slow_done.text

answers_slow : (reply : Option Reply) (game slow : Game) (others slow_others : TakenItems) → IsSlowFor game slow
    → TakenAlike others slow_others →
    TakenAlike (answers reply game others) (answers reply slow slow_others)
answers_slow None game slow others slow_others is alike = alike
answers_slow (Some reply) game slow others slow_others is alike =
    cond_alike TakenAlike (is_last reply) (is_last reply) _ _ _ _ refl
    (λ last. record { game = is; is_done = refl; left = refl; text = refl })
    (λ goes_on. record {
      game = alike.game;
      is_done = alike.is_done;
      left = alike.left;
      text = ap (λ (more : List ℕ). text_of reply ++ more) alike.text;
    })

leaves_slow : (game slow : Game) (items : List Item) → IsSlowFor game slow
    → TakenAlike (leaves game items) (leaves slow items)
leaves_slow game slow items is = record { game = is; is_done = refl; left = refl; text = refl }

pub taken_slow : (game slow : Game) (agent : ℕ) (items : List Item) → IsSlowFor game slow
    → TakenAlike (taken game agent items) (taken slow agent items)
taken_slow game slow agent [] is = leaves_slow game slow [] is
taken_slow game slow agent (Says line ∷ items) is =
    let event = Tell agent (command_by (said_by line)) in
    let here = answers (reply_to game event) (played game event) (taken (played game event) agent items) in
    let next_slow = played_slow game slow is event refl in
    cond_alike TakenAlike (is_away game agent) (is_away slow agent) _ _ _ _ (away_slow game slow is agent)
    (λ away. leaves_slow game slow (Says line ∷ items) is)
    (λ stays. subst (λ (reply : Option Reply). TakenAlike here
    (answers reply (played slow event) (taken (played slow event) agent items)))
    (reply_slow game slow is event refl)
    (answers_slow (reply_to game event) (played game event) (played slow event) (taken (played game event) agent items)
    (taken (played slow event) agent items)
    next_slow (taken_slow (played game event) (played slow event) agent items next_slow)))
taken_slow game slow agent (Ends ∷ items) is =
    cond_alike TakenAlike (is_away game agent) (is_away slow agent) _ _ _ _ (away_slow game slow is agent)
    (λ away. leaves_slow game slow (Ends ∷ items) is)
    (λ stays. record {
      game = played_slow game slow is (Tell agent Leave) refl;
      is_done = refl;
      left = refl;
      text = refl;
    })

-- ---- matches that begin

pub begin_lemma : SlowMatchesBegin
begin_lemma game held none holds = record {
  worlds = record { net = refl; home = refl; agents = refl; quota = refl; board = refl };
  harmless = λ node port. refl;
  held_too = holds;
  stands = ap (run_from (world_in game) initial) none
      ∙ sym (ap (run_from (world_in (slow_of game held)) initial) none);
  twins = subst (λ (log : List Event). Twins (world_in game) log (world_in (slow_of game held)) log) (sym none)
      (record {
        worlds = record { net = refl; home = refl; agents = refl; quota = refl; board = refl };
        struck = refl;
        reveals_nothing = tt;
        other_reveals_nothing = tt;
      });
}
