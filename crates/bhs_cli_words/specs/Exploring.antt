-- What the words of `explore` say: its options with their ranges and defaults, and the exploration that they give.
use Rattle.std.specs.Prelude.{ℕ, zero, suc, ◌==◌, nat_lt, Bool, List, [], ◌∷◌, length, Option, Some, None, codes}
use Rattle.std.specs.Prelude.{if◌then◌else◌, option_map}
use Rattle.std.specs.List.{before_first, after_first, position_or_len}
use Rattle.std.specs.Str.{bytes_eq}
use Rattle.clap.specs.Words.{Row, Rule, Shape, Text, first_of}
use Rattle.clap.specs.declared.builder.action.ArgAction.TheVariants.{Append}
use Rattle.bhs_cli_words.specs.Arguments.{NumberOption, behind, command, flag, may_have, must_have, number_in}
use Rattle.bhs_cli_words.specs.Arguments.{all_said, number_of, number_within, numbered, text_in}
use Rattle.bhs_cli_words.specs.declared.orders.AgentModule.{AgentModule}
use Rattle.bhs_cli_words.specs.declared.orders.Drawing.{Drawing}
use Rattle.bhs_cli_words.specs.declared.orders.Exploration.{Exploration}
use Rattle.bhs_model.specs.declared.schedules.Objective.{Objective}
use Rattle.bhs_model.specs.declared.schedules.Objective.TheVariants as objectives
use Rattle.bhs_model.specs.declared.schedules.Scheduler.{Scheduler}
use Rattle.bhs_model.specs.declared.schedules.Scheduler.TheVariants as schedulers
use Rattle.bhs_cli_words.specs.declared.orders.TheConstants.{MAX_ARGUMENTS}

-- at most how many states are visited
abbrev pub states_option : NumberOption
states_option = record { name = codes "max-states"; least = 1; most = 4294967295; default = codes "10000000" }

-- how many spurious wake-ups an agent may have
abbrev pub wakeups_option : NumberOption
wakeups_option = record { name = codes "spurious-wakeups"; least = 0; most = 65535; default = codes "2" }

-- no module, one or more
abbrev pub module_words : Rule
module_words = record (behind (codes "module") (may_have (codes "module"))) { action = Some Append }

abbrev pub explore : Shape
explore = command (codes "explore") (must_have (codes "tournament") ∷ must_have (codes "match")
    ∷ module_words ∷ behind (codes "all-holes") (flag (codes "all-holes")) ∷ numbered states_option
    ∷ numbered wakeups_option
    ∷ behind (codes "draws") (may_have (codes "draws")) ∷ behind (codes "seed") (may_have (codes "seed"))
    ∷ behind (codes "scheduler") (may_have (codes "scheduler"))
    ∷ behind (codes "objective") (may_have (codes "objective")) ∷ [])

-- ---- modules

-- the characters `:` and `,`
abbrev pub is_colon : ℕ → Bool
is_colon byte = byte == 58

abbrev pub is_comma : ℕ → Bool
is_comma byte = byte == 44

-- The text contains a character with this property.
abbrev pub has : (ℕ → Bool) → Text → Bool
has is text = nat_lt (position_or_len is text) (length text)

-- an argument of a module
abbrev pub argument_in : Text → Option ℕ
argument_in = number_within 0 4294967295

-- prepends an argument; invalid parts invalidate the result
abbrev pub before_arguments : Option ℕ → Option (List ℕ) → Option (List ℕ)
before_arguments (Some argument) (Some arguments) = Some (argument ∷ arguments)
before_arguments _ _ = None

-- one number or more, at most this many, with commas between them
unfoldable pub arguments_within : (most : ℕ) → Text → Option (List ℕ)
arguments_within zero word = None
arguments_within (suc most) word =
    if has is_comma word
    then before_arguments (argument_in (before_first is_comma word))
    (arguments_within most (after_first is_comma word))
    else option_map (λ argument. argument ∷ []) (argument_in word)

-- the module that a word FILE[:N,..] says; it is split at its first `:`
abbrev pub module_in : Text → Option AgentModule
module_in word =
    if has is_colon word
    then option_map (λ arguments. record { file = before_first is_colon word; arguments = arguments })
    (arguments_within MAX_ARGUMENTS (after_first is_colon word))
    else Some (record { file = word; arguments = [] })

-- The modules that the words describe; None if a word describes no module.
abbrev pub modules_in : List Text → Option (List AgentModule)
modules_in = all_said module_in

-- ---- what is drawn

-- whose turn it is in a drawn schedule, by its name
abbrev pub scheduler_in : Text → Option Scheduler
scheduler_in word =
    if bytes_eq word (codes "fair") then Some schedulers.Fair
    else (if bytes_eq word (codes "last-departed") then Some schedulers.LastDeparted
    else (if bytes_eq word (codes "starved") then Some schedulers.Starved
    else (if bytes_eq word (codes "slow-agents") then Some schedulers.SlowAgents
    else (if bytes_eq word (codes "slow-links") then Some schedulers.SlowLinks else None))))

-- the objective of drawn schedules, by its name
abbrev pub objective_in : Text → Option Objective
objective_in word =
    if bytes_eq word (codes "moves") then Some objectives.Moves
    else (if bytes_eq word (codes "lost") then Some objectives.Lost else None)

-- The value of an optional word: without it, the seed is 0, all agents are equally likely, and there is no objective.
abbrev pub seed_in : Option Text → Option ℕ
seed_in (Some word) = number_within 0 4294967295 word
seed_in None = Some 0

abbrev pub scheduler_by : Option Text → Option Scheduler
scheduler_by (Some word) = scheduler_in word
scheduler_by None = Some schedulers.Fair

abbrev pub objective_by : Option Text → Option (Option Objective)
objective_by (Some word) = option_map Some (objective_in word)
objective_by None = Some None

-- the drawing with these parameters; None with an invalid parameter
abbrev pub drawing_of : (schedules seed : Option ℕ) → Option Scheduler → (objective : Option (Option Objective))
    → Option Drawing
drawing_of (Some schedules) (Some seed) (Some scheduler) (Some objective) =
    Some (record { schedules = schedules; seed = seed; scheduler = scheduler; objective = objective })
drawing_of _ _ _ _ = None

-- The drawing that the words describe: none without words; the other words require the number of schedules.
unfoldable pub drawing_in : (draws seed scheduler objective : Option Text) → Option (Option Drawing)
drawing_in None None None None = Some None
drawing_in (Some draws) seed scheduler objective =
    option_map Some
    (drawing_of (number_within 1 4294967295 draws) (seed_in seed) (scheduler_by scheduler) (objective_by objective))
drawing_in None seed scheduler objective = None

-- the exploration with these parameters; None with an invalid parameter
abbrev pub exploration_of : (game states wakeups : Option ℕ) → (drawing : Option (Option Drawing)) → Option Exploration
exploration_of (Some game) (Some states) (Some wakeups) (Some drawing) =
    Some (record { game = game; states = states; wakeups = wakeups; drawing = drawing })
exploration_of _ _ _ _ = None

-- the exploration that the words of `explore` say
abbrev pub exploration_in : (game states wakeups : Text) → (drawing : Option (Option Drawing)) → Option Exploration
exploration_in game states wakeups drawing =
    exploration_of (number_in game) (number_of states_option states) (number_of wakeups_option wakeups) drawing

-- the same where the optional words are not given
abbrev pub plain_exploration_in : (game : Text) → Option Exploration
plain_exploration_in game = exploration_in game states_option.default wakeups_option.default (Some None)

-- the schedules that the words of `explore` have drawn
abbrev pub drawing_by : List Row → Option (Option Drawing)
drawing_by rows = drawing_in (first_of (codes "draws") rows) (first_of (codes "seed") rows)
    (first_of (codes "scheduler") rows) (first_of (codes "objective") rows)

-- the exploration that the words of `explore` say
abbrev pub exploration_by : List Row → Option Exploration
exploration_by rows =
    exploration_in (text_in (codes "match") rows) (text_in states_option.name rows) (text_in wakeups_option.name rows)
    (drawing_by rows)
