-- What a word draws in a match: nobody, an agent whose link is held and lets it stay, or an agent that arrives.
use Rattle.std.specs.Prelude.{ℕ, ◌≡◌, Option, Some, None, if◌then◌else◌}
use Rattle.bhs_model.specs.declared.events.Event.{Event}
use Rattle.bhs_model.specs.declared.events.Event.TheVariants.{Deliver}
use Rattle.bhs_model.specs.Runs.{State, is_bound}
use Rattle.bhs_model.specs.Draws.{Held, pool, pick, is_held, delivery_to, draw}
use Rattle.bhs_match.specs.declared.answers.Answer.{Answer}
use Rattle.bhs_match.specs.Matches.{Play}
use Rattle.bhs_match.specs.Games.{IsPlayed}
use Rattle.bhs_deliveries.specs.declared.draws.Drawn.{Drawn}
use Rattle.bhs_deliveries.specs.declared.draws.Drawn.TheVariants.{Nobody, Stays, Delivered}

-- the result of an optional pick
abbrev pub drawn_of : Held → State → Option ℕ → Drawn
drawn_of held state None = Nobody
drawn_of held state (Some agent) = if is_held held (state.position agent) then Stays else Delivered agent

-- what a word draws
abbrev pub drawn : Held → State → (word : ℕ) → Drawn
drawn held state word = if state.closed then Nobody else drawn_of held state (pick (pool state) word)

-- the event that delivers this agent: none after the close, or if its link is held
abbrev pub delivery_of : Held → State → (agent : ℕ) → Option Event
delivery_of held state agent = if state.closed then None else delivery_to held state (Some agent)

-- The result of delivering an agent; an agent on no link is not delivered.
abbrev pub delivered_to : Held → State → (agent : ℕ) → Drawn
delivered_to held state agent =
    if state.closed then Nobody
    else (if is_held held (state.position agent) then Stays
    else (if is_bound (state.position agent) then Delivered agent else Nobody))

-- A match changes by an optional event; without an event it is unchanged.
abbrev pub IsPlayedIf : (old : Play) → Option Event → (new : Play) → Type 0
IsPlayedIf old None new = new ≡ old
IsPlayedIf old (Some event) new = (answer : Answer) × IsPlayed old event answer new

-- the event of a draw
abbrev pub event_of : Drawn → Option Event
event_of Nobody = None
event_of Stays = None
event_of (Delivered agent) = Some (Deliver agent)

-- What is drawn is what the draw of the definitions makes happen: an agent is delivered exactly if that draw is
-- the event that delivers it.
abbrev pub DrawsAreThoseOfTheModel : Type 0
DrawsAreThoseOfTheModel = (held : Held) (state : State) (word : ℕ) → draw held state word
    ≡ event_of (drawn held state word)
