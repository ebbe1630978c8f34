-- Agents that draw a chart: departures and arrivals on any way, and whether an agent can move.
use Rattle.std.proofs.Common.{ℕ, ◌+◌, ◌<◌, ◌≤◌, ◌≡◌, Bool, true, false, not, ◌||◌, ◌==◌, Some, List, ◌∷◌, refl, sym, ap}
use Rattle.std.proofs.Common.{◌∙◌, inl, inr, arith}
use Rattle.std.specs.Prelude.{◌≢◌}
use Rattle.std.proofs.lemmas.Bool.{true≢false, eq-eqb, ne_eqb, lt-ltb}
use Rattle.bhs_model.specs.declared.commands.Command.{Command}
use Rattle.bhs_model.specs.declared.commands.Command.TheVariants.{Depart}
use Rattle.bhs_model.specs.declared.replies.Reply.TheVariants.{Here, Gone}
use Rattle.bhs_model.specs.Worlds.{doomed}
use Rattle.bhs_model.specs.Runs.{Position, At, Bound, changed, is_bound}
use Rattle.bhs_schedules.specs.declared.answers.Step.TheVariants.{Says}
use Rattle.bhs_schedules.specs.Strategies.{Heard}
use Rattle.bhs_protocols.specs.Configurations.{Configuration, can_move_in}
use Rattle.bhs_protocols.specs.Invariants.{GoesOn}
use Rattle.bhs_protocols.proofs.MovingLemmas.{arrives_at, bound_moves, says_moves, grows_by}
use Rattle.bhs_protocols.proofs.TurnLemmas.{departs}
use Rattle.bhs_protocols_charts.specs.Charting.{Charting, after_in, does_in}
use Rattle.bhs_protocols_charts.proofs.ChartState.{Game, Inv, IsPlaced, Holds, Accuses, IsAt, IsOn, held, mem}
use Rattle.bhs_protocols_charts.proofs.ChartState.{trial as trial_of, n as size, degree, far, way_left, commands_left}
use Rattle.bhs_protocols_charts.proofs.ChartState.{turns_left}
use Rattle.bhs_protocols_charts.proofs.ChartNames.{charted_seen}
use Rattle.bhs_protocols_charts.proofs.ChartTurns.{new_of, quietly, told_rewakes, arrived_rewakes, room, accuses_as}
use Rattle.bhs_protocols_charts.proofs.ChartTurns.{says_as, commands_as}

module _ (game : Game) where
  open game use {hole}

  -- a link destroys if it leads to the black hole
  pub doomed_is : (node port : ℕ) → doomed (trial_of game).world node port ≡ (hole == (far game node port).0)
  doomed_is node port = or_none (hole == (far game node port).0)
    where
      or_none : (b : Bool) → ((b || false) || false) ≡ b
      or_none true = refl
      or_none false = refl

  -- else it does not
  pub spared : (node port : ℕ) → (far game node port).0 ≢ hole → doomed (trial_of game).world node port ≡ false
  spared node port safe = doomed_is node port ∙ ne_eqb hole (far game node port).0 (λ same. safe (sym same))

module _ (game : Game) {configuration : Configuration} {left : ℕ} (inv : Inv game configuration left) (agent : ℕ)
    (within : agent < game.terms.agents) where
  open game use {tells, home, hole}
  open configuration use {shown, reached}

  abbrev M : Charting
  M = mem game configuration agent

  abbrev new : Configuration
  new = new_of game inv agent within

  abbrev here : Position
  here = configuration.position agent

  abbrev Onward : Type 0
  Onward = GoesOn (Inv game) left new

  -- the port that the agent has claimed
  pub claim_of : (it : Charting) (end : ℕ × ℕ) → M ≡ it → held it ≡ Some end → Holds game inv.chart inv.place end
  claim_of it end is some = inv.claims.holds agent within end (ap held is ∙ some)

  -- it has a command left
  pub has_room : (it : Charting) (place : Position) → M ≡ it → here ≡ place
      → 1 ≤ commands_left game (configuration.woken agent) (shown home) it place
      → configuration.used agent < game.terms.quota
  has_room it place is at some =
      let owes = commands_as game inv agent within it place is at in
      room game inv agent within (omega (arith, some, owes))

  -- The agent owes less by what this turn costs.
  pub record Pays (it after : Charting) (place there : Position) (cost moved : ℕ) : Type 0 where
    pub way : way_left game after there + moved ≤ way_left game it place
    pub commands : commands_left game (new.woken agent) (shown home) after there + cost
        ≤ commands_left game (configuration.woken agent) (shown home) it place
    pub turns : turns_left game (new.woken agent) (shown home) after there + 1
        ≤ turns_left game (configuration.woken agent) (shown home) it place

  -- it departs
  pub departed : (it : Charting) (node port : ℕ) (at : IsAt game node here) → M ≡ it → does_in it ≡ Says (Depart port)
      → port < degree game node → after_in (size game) tells it (Heard Gone) ≡ it
      → IsPlaced game inv.chart inv.place shown reached (new.woken agent) it (Bound node port)
      → Pays it it (At node at.came) (Bound node port) 1 1 → Onward
  departed it node port at is says has holds placed pays =
      let command : (trial_of game).strategies agent (configuration.history agent) ≡ Says (Depart port) =
      says_as game inv agent within it is (ap is_bound at.at) ∙ says in
      let enough : configuration.used agent < game.terms.quota =
      has_room it (At node at.came) is at.at (let some = pays.commands in omega (arith, some)) in
      quietly game inv agent within
      (departs (trial_of game) configuration agent within node port at.came at.at command enough has) refl
      (λ k apart. told_rewakes game configuration agent within (At node at.came) (Depart port) at.at refl command
      (lt-ltb (configuration.used agent) game.terms.quota enough) k)
      is at.at holds (record {
        charted = inv.charted;
        same_text = refl;
        names = λ other elsewhere father way shows. shows;
        seen_more = λ other was. was;
        holds = refl;
        placed = placed;
        accuses = accuses_as game inv agent within it is;
        way = pays.way;
        commands = pays.commands;
        turns = pays.turns;
      })

  -- it arrives
  pub arrived : (it after : Charting) (node port : ℕ) → M ≡ it → here ≡ Bound node port → (far game node port).0 ≢ hole
      → after_in (size game) tells it (Heard (Here (degree game (far game node port).0) (Some (far game node port).1)
      (shown (far game node port).0))) ≡ after
      → held after ≡ held it
      → IsPlaced game inv.chart inv.place shown (changed reached (far game node port).0 true) (new.woken agent) after
      (At (far game node port).0 (Some (far game node port).1))
      → Accuses game after (configuration.accused agent)
      → Pays it after (Bound node port) (At (far game node port).0 (Some (far game node port).1)) 0 0 → Onward
  arrived it after node port is at safe holds held_same placed accuses pays =
      let target : ℕ = (far game node port).0 in
      let free : doomed (trial_of game).world node port ≡ false = spared game node port safe in
      quietly game inv agent within
      (arrives_at (trial_of game) configuration agent within node port target (far game node port).1 at refl refl free)
      refl
      (λ k apart. arrived_rewakes game configuration agent within node port at free k) is at holds (record {
        charted = charted_seen game (changed reached target true) (grows_by reached target) inv.charted;
        same_text = refl;
        names = λ other elsewhere father way shows. shows;
        seen_more = grows_by reached target;
        holds = held_same;
        placed = placed;
        accuses = accuses;
        way = pays.way;
        commands = pays.commands;
        turns = pays.turns;
      })

  -- ---- whether it can move

  -- who stands at a node and has something to say can
  pub at_moves : (it : Charting) (node : ℕ) (command : Command) → M ≡ it → does_in it ≡ Says command
      → IsAt game node here → can_move_in (trial_of game) configuration agent ≡ true
  at_moves it node command is says at =
      says_moves (trial_of game) configuration agent within (At node at.came) command at.at refl
      (says_as game inv agent within it is (ap is_bound at.at) ∙ says)

  -- An agent on a link has a turn if the link does not lead to the black hole ..
  pub link_moves : (node port : ℕ) → here ≡ Bound node port → (far game node port).0 ≢ hole
      → can_move_in (trial_of game) configuration agent ≡ true
  link_moves node port at safe =
      bound_moves (trial_of game) configuration agent within node port at refl ∙ ap not (spared game node port safe)

  -- .. and only then.
  pub moves_safe : (node port : ℕ) → here ≡ Bound node port → can_move_in (trial_of game) configuration agent ≡ true
      → (far game node port).0 ≢ hole
  moves_safe node port at moves same =
      true≢false (sym moves ∙ bound_moves (trial_of game) configuration agent within node port at refl
      ∙ ap not (doomed_is game node port ∙ eq-eqb hole (far game node port).0 (sym same)))

  -- An agent with a route ahead can move.
  pub way_moves : (it : Charting) (node next : ℕ) (rest : List ℕ) → M ≡ it → does_in it ≡ Says (Depart next)
      → IsOn game node (next ∷ rest) here → (far game node next).0 ≢ hole
      → can_move_in (trial_of game) configuration agent ≡ true
  way_moves it node next rest is says on safe = elim on [
    | inl at ↦ at_moves it node (Depart next) is says at
    | inr at ↦ link_moves node next at safe
  ]
