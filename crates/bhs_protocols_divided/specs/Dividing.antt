-- The protocol of two agents that follow a plan. Each agent explores its part with cautious walks: it crosses a link to
-- a new node, returns, and marks the link. An agent that has explored its part follows the itinerary of its partner
-- over the marked links. At the first unmarked link it writes a division of the unexplored nodes on the whiteboard and
-- explores its half of them; if one node is unexplored, that node is the black hole, and the agent accuses the link.
-- The partner reads the division when it returns over that link.
use Rattle.std.specs.Prelude.{ℕ, zero, suc, ◌+◌, ◌-◌, ◌/◌, ◌%◌, ◌==◌, Bool, List, [], ◌∷◌, length, if◌then◌else◌}
use Rattle.std.specs.Prelude.{nat_lt}
use Rattle.bhs_model.specs.declared.commands.Command.TheVariants.{Enter, Write, Depart, Accuse}
use Rattle.bhs_model.specs.declared.replies.Reply.TheVariants.{Here, Written, Changed, Gone, Noted}
use Rattle.bhs_model.specs.Examples.{none_held}
use Rattle.bhs_model.specs.Worlds.{World}
use Rattle.bhs_schedules.specs.declared.answers.Step.{Step}
use Rattle.bhs_schedules.specs.declared.answers.Step.TheVariants.{Says, Stops}
use Rattle.bhs_schedules.specs.Strategies.{Observation, Heard}
use Rattle.bhs_schedules.specs.Schedules.{Trial}
use Rattle.bhs_protocols.specs.Programs.{Program, strategies_by}
use Rattle.bhs_protocols.specs.Shuttle.{other_in}
use Rattle.bhs_protocols.specs.Halves.{own_in}
use Rattle.bhs_protocols_divided.specs.Plans.{Itinerary, Divisions, Plan, news, explored, count_at, left_at}

-- ---- the whiteboard

-- A whiteboard has five characters. Two for each side, in base 64: how many nodes its agent had explored when it last
-- marked a link here. The fifth: how many divisions there were when an agent last wrote one here.
abbrev pub board_text : (right left told : ℕ) → List ℕ
board_text right left told =
    (32 + right / 64) ∷ (32 + right % 64) ∷ (32 + left / 64) ∷ (32 + left % 64) ∷ (32 + told) ∷ []

abbrev pub told_in : List ℕ → ℕ
told_in (a ∷ b ∷ c ∷ d ∷ e ∷ rest) = e - 32
told_in text = 0

abbrev pub text_by : (side own other told : ℕ) → List ℕ
text_by side own other told = if side == 0 then board_text own other told else board_text other own told

-- ---- the program

-- the phase of an agent: what its next command or reply is for
pub data Phase : Type 0 where
  Begins : Phase
  GoesOut : Phase
  Leaves : Phase
  Tries : Phase
  Turns : Phase
  Returns : Phase
  Writes : Phase
  Follows : Phase
  Passes : Phase
  Tells : Phase
  Ends : Phase

-- The memory of an agent: its side, the divisions that it knows, its step on its own itinerary or on its partner's, the
-- text that it last saw on the whiteboard of its node, and its phase.
pub record Memory : Type 0 where
  pub side : ℕ
  pub divisions : Divisions
  pub step : ℕ
  pub seen : List ℕ
  pub phase : Phase

abbrev pub own_of : Plan → Memory → Itinerary
own_of plan m = plan.itinerary m.divisions m.side

abbrev pub others_of : Plan → Memory → Itinerary
others_of plan m = plan.itinerary m.divisions (1 - m.side)

-- the text of the whiteboard with the new node of this step marked
abbrev pub marked : Plan → Memory → List ℕ
marked plan m = text_by m.side (count_at plan m.divisions m.side m.step) (other_in m.side m.seen) (told_in m.seen)

-- the text of the whiteboard with one more division
abbrev pub told : Memory → List ℕ
told m = text_by m.side (own_in m.side m.seen) (other_in m.side m.seen) (length m.divisions + 1)

-- the next step of an agent in this phase
abbrev pub does_in : Plan → Memory → Phase → Step
does_in plan m Begins = Says Enter
does_in plan m GoesOut = Says (Depart ((own_of plan m).ahead m.step))
does_in plan m Turns = Says (Depart ((own_of plan m).behind m.step))
does_in plan m Writes = Says (Write m.seen (marked plan m))
does_in plan m Follows = Says (Depart ((others_of plan m).ahead m.step))
does_in plan m Tells =
    if left_at plan m.divisions (1 - m.side) m.step == 1
    then Says (Accuse ((others_of plan m).ahead m.step))
    else Says (Write m.seen (told m))
does_in plan m phase = Stops

-- the memory with another step and phase
abbrev pub about : Memory → (step : ℕ) → Phase → Memory
about m step phase = record m { step = step; phase = phase }

-- whether the partner has marked the new node of this step of its itinerary
abbrev pub is_marked : Plan → Memory → (step : ℕ) → Bool
is_marked plan m step =
    nat_lt (explored plan m.divisions (1 - m.side) + news (others_of plan m) step) (other_in m.side m.seen)

-- Skips the marked explorations of the partner's itinerary, at most `rest` steps: the agent then walks on, or stands at
-- an unmarked link.
abbrev pub follows : Plan → Memory → (rest step : ℕ) → Memory
follows plan m zero step = about m step Follows
follows plan m (suc rest) step =
    if (others_of plan m).is_new step
    then (if is_marked plan m step then follows plan m rest (step + 1) else about m step Tells)
    else about m step Follows

abbrev pub follows_from : Plan → Memory → (step : ℕ) → Memory
follows_from plan m step = follows plan m ((others_of plan m).steps - step) step

-- The agent begins this step of its itinerary, or follows its partner's if this was the last one.
abbrev pub comes : Plan → Memory → (step : ℕ) → Memory
comes plan m step = if step == (own_of plan m).steps then follows_from plan m 0 else about m step GoesOut

-- The agent adopts `count` divisions that its partner wrote at this step.
abbrev pub learns : (count : ℕ) → Memory → Memory
learns zero m = m
learns (suc count) m = learns count (record m { divisions = (m.side, m.step) ∷ m.divisions; step = 0 })

-- The agent reads the whiteboard after it has returned from a new node.
abbrev pub learned : Memory → (board : List ℕ) → Memory
learned m board = learns (told_in board - length m.divisions) (record m { seen = board; phase = Writes })

abbrev pub sees : Memory → List ℕ → Memory
sees m board = record m { seen = board }

-- the memory after an observation
abbrev pub after_in : Plan → Memory → Phase → Observation → Memory
after_in plan m Begins (Heard (Here ports came board)) = comes plan (sees m board) 0
after_in plan m GoesOut (Heard Gone) =
    record m { phase = if (own_of plan m).is_new m.step then Tries else Leaves }
after_in plan m Leaves (Heard (Here ports came board)) = comes plan (sees m board) (m.step + 1)
after_in plan m Tries (Heard (Here ports came board)) = record m { phase = Turns }
after_in plan m Turns (Heard Gone) = record m { phase = Returns }
after_in plan m Returns (Heard (Here ports came board)) = learned m board
after_in plan m Writes (Heard Written) = comes plan (sees m (marked plan m)) (m.step + 1)
after_in plan m Writes (Heard (Changed board)) = learned m board
after_in plan m Follows (Heard Gone) = record m { phase = Passes }
after_in plan m Passes (Heard (Here ports came board)) = follows_from plan (sees m board) (m.step + 1)
after_in plan m Tells (Heard Written) =
    comes plan (record m { divisions = (1 - m.side, m.step) ∷ m.divisions; seen = told m }) 0
after_in plan m Tells (Heard (Changed board)) = follows_from plan (sees m board) m.step
after_in plan m Tells (Heard Noted) = record m { phase = Ends }
after_in plan m phase item = m

-- The program of both agents. Agent 0 has the larger part at first.
abbrev pub dividers : Plan → Program Memory
dividers plan = record {
  start = λ agent. record { side = agent; divisions = []; step = 0; seen = []; phase = Begins };
  after = λ m item. after_in plan m m.phase item;
  does = λ m. does_in plan m m.phase;
}

-- the trial in which two agents follow this plan and no link is held
abbrev pub divided_trial : World → (wakeups : ℕ) → Plan → Trial
divided_trial world wakeups plan =
    record { world = world; held = none_held; wakeups = wakeups; strategies = strategies_by (dividers plan) }
