-- The oblivious schedule: which agent a turn picks, and when an agent on a link is ready, are fixed by words before the
-- match begins. They depend on the agent's number and on the turn of its departure, and on nothing else that happens.
use Rattle.std.specs.Prelude.{ℕ, ◌+◌, ◌/◌, ◌%◌, ◌^◌, ◌<◌, ◌≤◌, Bool, ◌&&◌, ◌==◌, nat_lt, nat_le, if◌then◌else◌}

-- An oblivious schedule: the agent that each turn picks, and whether an agent that departed at one turn is ready to
-- arrive at another.
pub record Schedule : Type 0 where
  pub picked : (turn : ℕ) → ℕ
  pub ready : (agent departed turn : ℕ) → Bool

-- whether a turn releases an agent that departed at that turn: it picks the agent, and the agent is ready
abbrev pub releases : Schedule → (agent departed turn : ℕ) → Bool
releases schedule agent departed turn = agent == schedule.picked turn && schedule.ready agent departed turn

-- A match's random words: one per turn, plus one per agent and possible turn of departure.
pub record Words : Type 0 where
  pub picks : (turn : ℕ) → ℕ
  pub delays : (agent departed : ℕ) → ℕ

-- the law of delays of a tournament: for how many scales a word may give a delay, and of how many words one gives a
-- delay of a scale
pub record DelayLaw : Type 0 where
  pub scales : ℕ
  pub odds : ℕ

-- at most 24 scales, since no match takes more than 2 ^ 24 turns; and a word in odds for each of them
pub record IsDelayLaw (law : DelayLaw) : Type 0 where
  pub some_odds : 0 < law.odds
  pub few_scales : law.scales ≤ 24
  pub within_odds : law.scales ≤ law.odds

-- How many turns a link takes by this word. For each scale below the number of scales, one word in odds gives a delay
-- of at least 2 ^ scale turns and less than twice as many. Every other word gives no delay.
abbrev pub delay : (odds scales word : ℕ) → ℕ
delay odds scales word =
    if nat_lt (word % odds) scales then 2 ^ (word % odds) + word / odds % (2 ^ (word % odds)) else 0

-- The oblivious schedule of a match by its words: a turn picks one of all agents of the match, wherever they are, and
-- an agent is ready once it has been on its link for its delay.
abbrev pub oblivious : Words → (agents : ℕ) → DelayLaw → Schedule
oblivious words agents law = record {
  picked = λ turn. words.picks turn % agents;
  ready = λ agent departed turn. nat_le (departed + delay law.odds law.scales (words.delays agent departed)) turn;
}
