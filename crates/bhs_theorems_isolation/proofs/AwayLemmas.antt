-- Non-interference of an event, and of taking an agent's items, with the other agents; and the remaining items.
use Rattle.std.proofs.Common.{◌≡◌, ◌≢◌, ◌∙◌, ℕ, true, false, not, Option, Some, None, List, [], ◌∷◌}
use Rattle.std.proofs.Common.{refl, sym, ap, subst}
use Rattle.std.proofs.lemmas.Bool.{and_parts, cond_both, false_from_ne_true, ne_eqb}
use Rattle.bhs_model.specs.declared.commands.Command.{Command}
use Rattle.bhs_model.specs.declared.commands.Command.TheVariants.{Leave}
use Rattle.bhs_model.specs.declared.events.Event.{Event}
use Rattle.bhs_model.specs.declared.events.Event.TheVariants.{Tell, Deliver, Close}
use Rattle.bhs_model.specs.declared.replies.Reply.{Reply}
use Rattle.bhs_model.specs.Replying.{rep}
use Rattle.bhs_model.specs.Views.{Arrived, Sight, Away}
use Rattle.bhs_model.specs.Worlds.{World}
use Rattle.bhs_model.specs.Runs.{State, initial, Position, Before, At, Bound, After, is_bound, is_let_through, sight_at}
use Rattle.bhs_model.specs.Runs.{heard, arrives, delivered, next, reply}
use Rattle.bhs_model.specs.Kept.{keeps, lost}
use Rattle.bhs_model.proofs.StepLemmas.{changed_same, changed_other, next_no_arrival, arrival_by_past}
use Rattle.bhs_model.proofs.KeptLemmas.{unkept_state}
use Rattle.bhs_model.proofs.LegalLemmas.{either}
use Rattle.bhs_model.proofs.AddLemmas.{run-append}
use Rattle.bhs_wire.specs.Lines.{said_by}
use Rattle.bhs_session.specs.Texts.{command_by}
use Rattle.bhs_rehearsal.specs.Games.{Game, world_in, state_of, played, reply_to, is_away}
use Rattle.bhs_rehearsal.specs.Connections.{Item, Says, Ends, TakenItems, is_last, leaves, answers, taken}
use Rattle.bhs_model.specs.Standings.{standing_at}

-- ---- one event

-- the match after an event stands as the model says, kept or not
pub state_of-played : (game : Game) (event : Event) → state_of (played game event) ≡ next (world_in game)
    (state_of game) event
state_of-played game event =
    let world = world_in game in
    cond_both (keeps world (state_of game) (lost world game.log) event) _ game
    (λ (new : Game). state_of new ≡ next world (state_of game) event)
    (λ kept. run-append world initial game.log (event ∷ []))
    (λ unkept. sym (unkept_state world (state_of game) (lost world game.log) event unkept))

pub setup-played : (game : Game) (event : Event) → (played game event).setup ≡ game.setup
setup-played game event =
    either (λ (new : Game). new.setup ≡ game.setup)
    (keeps (world_in game) (state_of game) (lost (world_in game) game.log) event) _ game refl refl

-- nothing changes for an agent
pub record Alike (agent : ℕ) (game new : Game) : Type 0 where
  pub setup_is : new.setup ≡ game.setup
  pub past : (state_of new).past agent ≡ (state_of game).past agent
  pub away : is_away new agent ≡ is_away game agent
  pub closed : (state_of new).closed ≡ (state_of game).closed

pub alike_itself : (agent : ℕ) (game : Game) → Alike agent game game
alike_itself agent game = record { setup_is = refl; past = refl; away = refl; closed = refl }

pub alike_through : (agent : ℕ) (game new newest : Game) → Alike agent game new → Alike agent new newest
    → Alike agent game newest
alike_through agent game new newest one two = record {
  setup_is = two.setup_is ∙ one.setup_is;
  past = two.past ∙ one.past;
  away = two.away ∙ one.away;
  closed = two.closed ∙ one.closed;
}

-- two states that are the same for an agent
pub record SameFor (agent : ℕ) (state new : State) : Type 0 where
  pub past : new.past agent ≡ state.past agent
  pub away : is_bound (new.position agent) ≡ is_bound (state.position agent)
  pub closed : new.closed ≡ state.closed

same_for : (agent : ℕ) (state : State) → SameFor agent state state
same_for agent state = record { past = refl; away = refl; closed = refl }

alike_by : (agent : ℕ) (game : Game) (event : Event)
    → SameFor agent (state_of game) (next (world_in game) (state_of game) event) → Alike agent game (played game event)
alike_by agent game event same =
    let is = state_of-played game event in
    record {
      setup_is = setup-played game event;
      past = ap (λ (state : State). state.past agent) is ∙ same.past;
      away = ap (λ (state : State). is_bound (state.position agent)) is ∙ same.away;
      closed = ap (λ (state : State). state.closed) is ∙ same.closed;
    }

pub told_others : (world : World) (state : State) (agent : ℕ) (command : Command) (other : ℕ) → other ≢ agent
    → SameFor other state (next world state (Tell agent command))
told_others world state agent command other apart =
    either (SameFor other state) (heard world state agent command) _ state
    (record {
      past = changed_other state.past agent other _ (ne_eqb other agent apart);
      away = ap is_bound (changed_other state.position agent other _ (ne_eqb other agent apart));
      closed = refl;
    })
    (same_for other state)

arrived_others : (world : World) (state : State) (agent : ℕ) (position : Position) (other : ℕ) → other ≢ agent
    → SameFor other state (delivered world state agent position)
arrived_others world state agent (Bound node port) other apart = record {
  past = changed_other state.past agent other _ (ne_eqb other agent apart);
  away = ap is_bound (changed_other state.position agent other _ (ne_eqb other agent apart));
  closed = refl;
}
arrived_others world state agent Before other apart = same_for other state
arrived_others world state agent (At node came) other apart = same_for other state
arrived_others world state agent After other apart = same_for other state

pub delivered_others : (world : World) (state : State) (agent other : ℕ) → other ≢ agent
    → SameFor other state (next world state (Deliver agent))
delivered_others world state agent other apart =
    either (SameFor other state) (arrives world state agent) _ state
    (arrived_others world state agent (state.position agent) other apart) (same_for other state)

pub alike-told : (game : Game) (agent : ℕ) (command : Command) (other : ℕ) → other ≢ agent
    → Alike other game (played game (Tell agent command))
alike-told game agent command other apart = alike_by other game (Tell agent command)
    (told_others (world_in game) (state_of game) agent command other apart)

pub alike-delivered : (game : Game) (agent other : ℕ) → other ≢ agent → Alike other game (played game (Deliver agent))
alike-delivered game agent other apart = alike_by other game (Deliver agent)
    (delivered_others (world_in game) (state_of game) agent other apart)

pub alike-no_arrival : (game : Game) (agent other : ℕ) → arrives (world_in game) (state_of game) agent ≡ false
    → Alike other game (played game (Deliver agent))
alike-no_arrival game agent other none =
    alike_by other game (Deliver agent) (subst (λ (state : State). SameFor other (state_of game) state)
    (sym (next_no_arrival (world_in game) (state_of game) agent none)) (same_for other (state_of game)))

-- ---- an arrival

-- where an agent arrives
pub record Arriving (world : World) (state : State) (agent : ℕ) (position : Position) : Type 0 where
  pub sight : Sight
  pub past_is : (delivered world state agent position).past agent ≡ Arrived (state.past agent) sight
  pub away : standing_at position ≡ Away
  -- Arriving ends the agent's travel.
  pub lands : is_bound ((delivered world state agent position).position agent) ≡ false

arriving_at : (world : World) (state : State) (agent : ℕ) (position : Position)
    → is_let_through world position ≡ true → Arriving world state agent position
arriving_at world state agent (Bound node port) through =
    let far = world.net.far node port in
    record {
      sight = sight_at world state far.0 (Some far.1);
      past_is = changed_same state.past agent _;
      away = refl;
      lands = ap is_bound (changed_same state.position agent _);
    }
arriving_at world state agent Before through = absurd (cc)
arriving_at world state agent (At node came) through = absurd (cc)
arriving_at world state agent After through = absurd (cc)

pub arriving : (world : World) (state : State) (agent : ℕ) → arrives world state agent ≡ true
    → Arriving world state agent (state.position agent)
arriving world state agent comes =
    arriving_at world state agent (state.position agent) (and_parts (not state.closed) _ comes).1

-- it is answered
pub unanswered : (world : World) (state : State) (agent : ℕ) → reply world state (Deliver agent) ≡ None
    → arrives world state agent ≡ false
unanswered world state agent none =
    false_from_ne_true (arrives world state agent) (λ comes.
    let some = arrival_by_past world state agent comes
    ∙ ap (rep world.board) (arriving world state agent comes).past_is in
    cc)

-- without an answer everyone stays
pub alike-unanswered : (game : Game) (agent other : ℕ) → reply_to game (Deliver agent) ≡ None
    → Alike other game (played game (Deliver agent))
alike-unanswered game agent other none =
    alike-no_arrival game agent other (unanswered (world_in game) (state_of game) agent none)

pub away-closed : (game : Game) (other : ℕ) → is_away (played game Close) other ≡ is_away game other
away-closed game other = ap (λ (state : State). is_bound (state.position other)) (state_of-played game Close)

-- ---- items

answers_alike : (reply : Option Reply) (game played_game : Game) (others : TakenItems) (agent : ℕ)
    → Alike agent game played_game → Alike agent game others.game →
    Alike agent game (answers reply played_game others).game
answers_alike None game played_game others agent same later = later
answers_alike (Some reply) game played_game others agent same later =
    either (λ (done : TakenItems). Alike agent game done.game) (is_last reply) _ _ same later

-- taking an agent's items changes nothing for another
pub taken_alike : (game : Game) (agent : ℕ) (items : List Item) (other : ℕ) → other ≢ agent
    → Alike other game (taken game agent items).game
taken_alike game agent [] other apart = alike_itself other game
taken_alike game agent (Says line ∷ items) other apart =
    let command = command_by (said_by line) in
    let next_game = played game (Tell agent command) in
    let same = alike-told game agent command other apart in
    either (λ (done : TakenItems). Alike other game done.game) (is_away game agent) _ _ (alike_itself other game)
    (answers_alike (reply_to game (Tell agent command)) game next_game (taken next_game agent items) other same
    (alike_through other game next_game (taken next_game agent items).game same
    (taken_alike next_game agent items other apart)))
taken_alike game agent (Ends ∷ items) other apart =
    either (λ (done : TakenItems). Alike other game done.game) (is_away game agent) _ _ (alike_itself other game)
    (alike-told game agent Leave other apart)

-- items are left only where the agent is away
abbrev pub IsTakenUp : TakenItems → (agent : ℕ) → Type 0
IsTakenUp done agent = done.is_done ≡ false → is_away done.game agent ≡ false → done.left ≡ []

answers_up : (reply : Option Reply) (next_game : Game) (others : TakenItems) (agent : ℕ) → IsTakenUp others agent
    → IsTakenUp (answers reply next_game others) agent
answers_up None next_game others agent up = up
answers_up (Some reply) next_game others agent up =
    either (λ (done : TakenItems). IsTakenUp done agent) (is_last reply) _ _ (λ goes_on stays. refl) up

pub taken_up : (game : Game) (agent : ℕ) (items : List Item) → IsTakenUp (taken game agent items) agent
taken_up game agent [] = λ goes_on stays. refl
taken_up game agent (Says line ∷ items) =
    let event = Tell agent (command_by (said_by line)) in
    let after = played game event in
    cond_both (is_away game agent) _ _ (λ (done : TakenItems). IsTakenUp done agent)
    (λ away goes_on stays. absurd (cc))
    (λ stays. answers_up (reply_to game event) after (taken after agent items) agent (taken_up after agent items))
taken_up game agent (Ends ∷ items) =
    cond_both (is_away game agent) _ _ (λ (done : TakenItems). IsTakenUp done agent)
    (λ away goes_on stays. absurd (cc))
    (λ stays goes_on still. refl)

-- Nothing is taken if no items are left, or if the agent is on a link.
pub taken_rests : (game : Game) (agent : ℕ) (items : List Item) → (is_away game agent ≡ false → items ≡ [])
    → taken game agent items ≡ leaves game items
taken_rests game agent [] rests = refl
taken_rests game agent (Says line ∷ items) rests =
    cond_both (is_away game agent) _ _ (λ (done : TakenItems). done ≡ leaves game (Says line ∷ items)) (λ away. refl)
    (λ stays. absurd (let none = rests stays in cc))
taken_rests game agent (Ends ∷ items) rests =
    cond_both (is_away game agent) _ _ (λ (done : TakenItems). done ≡ leaves game (Ends ∷ items)) (λ away. refl)
    (λ stays. absurd (let none = rests stays in cc))
