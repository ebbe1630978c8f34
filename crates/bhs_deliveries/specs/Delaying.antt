-- The words of a match under the oblivious schedule: those of its stream pick an agent each turn, and each agent has a
-- stream of its own for its delays.
use Rattle.std.specs.Prelude.{ℕ, ◌≡◌, ◌+◌, ◌*◌, ◌%◌, ◌^◌, ◌<◌, List, slice_index_or, if◌then◌else◌}
use Rattle.rand_chacha.specs.ChaCha.{ChaCha, word_at}
use Rattle.bhs_model.specs.Runs.{State}
use Rattle.bhs_model.specs.Draws.{Held}
use Rattle.bhs_time.specs.Schedules.{Schedule, Words, DelayLaw, oblivious}
use Rattle.bhs_time.specs.TimedRuns.{delivery_in}
use Rattle.bhs_deliveries.specs.declared.draws.Drawn.{Drawn}
use Rattle.bhs_deliveries.specs.declared.draws.Drawn.TheVariants.{Nobody}
use Rattle.bhs_deliveries.specs.Drawing.{delivered_to}
use Rattle.bhs_deliveries.specs.Dealer.{double_rounds, words_of_a_stream, word_of, dealer_at, next_word}

-- the stream of an agent's delays in the match of a stream; streams are numbers of 64 bits
abbrev pub delay_stream : (stream agent : ℕ) → ℕ
delay_stream stream agent = (stream + 2 ^ 32 * (agent + 1)) % 2 ^ 64

-- the words of the match of a stream: the turn at this place picks by the word there, and an agent that departs after
-- this many turns is delayed by the word at that place of its own stream
abbrev pub words_of : (seed : List ℕ) (stream : ℕ) → Words
words_of seed stream = record {
  picks = λ turn. word_of seed stream turn;
  delays = λ agent departed. word_of seed (delay_stream stream agent) departed;
}

-- the oblivious schedule of the match of a stream
abbrev pub schedule_of : (seed : List ℕ) (stream agents : ℕ) → DelayLaw → Schedule
schedule_of seed stream agents law = oblivious (words_of seed stream) agents law

-- the word for the delay of an agent that departs after this many turns
abbrev pub delay_word : ChaCha → (agent departed : ℕ) → ℕ
delay_word dealer agent departed =
    word_at double_rounds dealer.key (delay_stream dealer.stream agent) (departed % words_of_a_stream)

-- the schedule of a turn that picks by a dealer's next word
abbrev pub schedule_by : ChaCha → (agents : ℕ) → DelayLaw → Schedule
schedule_by dealer agents law =
    oblivious (record { picks = λ turn. next_word dealer; delays = delay_word dealer }) agents law

-- the turns of departure that stand in a list, by agent
abbrev pub departed_in : List ℕ → (agent : ℕ) → ℕ
departed_in turns agent = slice_index_or turns agent 0

-- what comes of a turn: what delivering the agent that the schedule picks comes to, if the agent is ready
abbrev pub drawn_in : Held → Schedule → State → (departed : ℕ → ℕ) → (turn : ℕ) → Drawn
drawn_in held schedule state departed turn =
    let agent = schedule.picked turn in
    if schedule.ready agent (departed agent) turn then delivered_to held state agent else Nobody

-- A dealer that has given one word a turn makes each turn deliver as the schedule of its match does.
abbrev pub TurnsFollowTheirSchedule : Type 0
TurnsFollowTheirSchedule = (seed : List ℕ) (stream agents : ℕ) (law : DelayLaw) (held : Held) (state : State)
    (departed : ℕ → ℕ) (turn : ℕ) →
    delivery_in held (schedule_by (dealer_at seed stream turn) agents law) state departed turn
    ≡ delivery_in held (schedule_of seed stream agents law) state departed turn

-- The stream of one agent's delays differs from the stream of every match and of every other agent.
pub record IsApart (stream agent other who : ℕ) : Type 0 where
  pub of_matches : delay_stream stream agent ≡ other → ⊥
  pub of_delays : delay_stream stream agent ≡ delay_stream other who → (stream ≡ other) × (agent ≡ who)

-- Matches have streams below 2 ^ 32, by their numbers; every delay stream differs from these streams and from other
-- delay streams.
abbrev pub DelaysHaveTheirOwnStreams : Type 0
DelaysHaveTheirOwnStreams = (stream agent other who : ℕ) → stream < 2 ^ 32 → other < 2 ^ 32 → agent < 2 ^ 16 →
    who < 2 ^ 16 → IsApart stream agent other who
