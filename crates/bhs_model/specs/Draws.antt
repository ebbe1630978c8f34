-- Which link lets its agent arrive is picked by words.
use Rattle.std.specs.Prelude.{ℕ, ◌≡◌, ◌%◌, Bool, false, ◌||◌, Option, Some, None, List, [], ◌∷◌, ◌++◌, length}
use Rattle.std.specs.Prelude.{if◌then◌else◌, filter, slice_get, option_to_list}
use Rattle.bhs_model.specs.declared.commands.Command.{Command}
use Rattle.bhs_model.specs.declared.events.Event.{Event}
use Rattle.bhs_model.specs.declared.events.Event.TheVariants.{Tell, Deliver, Close}
use Rattle.bhs_model.specs.Worlds.{World, doomed}
use Rattle.bhs_model.specs.Twins.{SameButDoom}
use Rattle.bhs_model.specs.Runs.{Position, Bound, State, initial, is_bound, next}

-- the agents that are on a link, destroyed ones too, in order of their last departure
abbrev pub pool : State → List ℕ
pool state = filter (λ agent. is_bound (state.position agent)) state.departed

-- the agent that a word picks
abbrev pub pick : List ℕ → (word : ℕ) → Option ℕ
pick [] word = None
pick (agent ∷ agents) word = slice_get (agent ∷ agents) (word % length (agent ∷ agents))

-- the directed links that let nobody arrive, by departure node and port
abbrev pub Held : Type 0
Held = (node port : ℕ) → Bool

-- whether an agent at this position is held on its link
abbrev pub is_held : Held → Position → Bool
is_held held (Bound node port) = held node port
is_held held position = false

-- the event by which the picked agent's link lets it arrive; none if it is held
abbrev pub delivery_to : Held → State → Option ℕ → Option Event
delivery_to held state None = None
delivery_to held state (Some agent) =
    if is_held held (state.position agent) then None else Some (Deliver agent)

-- the event that a word draws, if any
abbrev pub draw : Held → State → (word : ℕ) → Option Event
draw held state word = if state.closed then None else delivery_to held state (pick (pool state) word)

-- external actions on a match
pub data Act : Type 0 where
  -- an agent says a command
  Says : (agent : ℕ) → Command → Act
  -- a word is drawn
  Draws : (word : ℕ) → Act
  -- the match is ended
  Closes : Act

-- the event that an act makes, if any
abbrev pub event_of_act : Held → State → Act → Option Event
event_of_act held state (Says agent command) = Some (Tell agent command)
event_of_act held state (Draws word) = draw held state word
event_of_act held state Closes = Some Close

-- the state after an optional event
abbrev pub next_if : World → State → Option Event → State
next_if world state None = state
next_if world state (Some event) = next world state event

-- the events that these acts make
abbrev pub played_from : World → Held → State → List Act → List Event
played_from world held state [] = []
played_from world held state (act ∷ acts) =
    let event = event_of_act held state act in
    option_to_list event ++ played_from world held (next_if world state event) acts

abbrev pub played : World → Held → List Act → List Event
played world held acts = played_from world held initial acts

-- the same world without what destroys: the links that would destroy are held as well, as if they were
-- slow for good
pub record SlowInstead (world : World) (held : Held) (slow : World) (still : Held) : Type 0 where
  pub worlds : SameButDoom world slow
  pub harmless : (node port : ℕ) → doomed slow node port ≡ false
  pub held_too : (node port : ℕ) → still node port ≡ (held node port || doomed world node port)
