-- Worked rows on the triangle: each is checked by computing the definitions.
use Rattle.std.specs.Prelude.{ℕ, ◌+◌, ◌*◌, ◌≡◌, Bool, true, false, Some, None, List, [], ◌∷◌, ◌++◌}
use Rattle.bhs_model.specs.declared.commands.Command.TheVariants.{Enter, Look, Depart}
use Rattle.bhs_model.specs.declared.events.Event.{Event}
use Rattle.bhs_model.specs.declared.events.Event.TheVariants.{Tell, Deliver, Close}
use Rattle.bhs_model.specs.Runs.{is_bound, run}
use Rattle.bhs_model.specs.Draws.{Held, Act, Says as DoesSay, Draws, played}
use Rattle.bhs_model.specs.Examples.{triangle, practice, none_held}
use Rattle.bhs_time.specs.TimedViews.{TimedView, Fresh, ToldAt, ArrivedAt, SawThen, NothingThen, SeenThen}
use Rattle.bhs_time.specs.TimedViews.{UnwrittenThen}
use Rattle.bhs_time.specs.TimedViews.{departed_at}
use Rattle.bhs_time.specs.Schedules.{Schedule, Words, releases, delay, oblivious}
use Rattle.bhs_time.specs.TimedRuns.{TimedAct, Says, Passes, Ends, timed_run, timed_events}
use Rattle.bhs_time.specs.Stamps.{Stamped, HasArrival}
use Rattle.bhs_time.specs.TimedLogs.{timed_log}

-- The word of a turn is its number, so even turns pick agent 0 and odd turns agent 1. The word of a departure is its
-- turn.
abbrev pub words : Words
words = record { picks = λ turn. turn; delays = λ agent departed. departed }

-- 4 scales, 1 word in 8 of each: an agent that departs after 2 turns has a delay of 4 turns
abbrev pub with_delays : Schedule
with_delays = oblivious words 2 (record { scales = 4; odds = 8 })

-- no scales, so no delays
abbrev pub without_delays : Schedule
without_delays = oblivious words 2 (record { scales = 0; odds = 8 })

abbrev pub HowLongALinkTakes : Type 0
HowLongALinkTakes =
    (delay 8 4 0 ≡ 1) × (delay 8 4 2 ≡ 4) × (delay 8 4 (2 + 8 * 3) ≡ 7) × (delay 8 4 3 ≡ 8) × (delay 8 4 4 ≡ 0)

abbrev pub WhoIsReleased : Type 0
WhoIsReleased =
    (releases with_delays 0 4 4 ≡ true) × (releases with_delays 1 4 4 ≡ false) × (releases with_delays 1 2 5 ≡ false)
    × (releases with_delays 1 2 7 ≡ true) × (releases with_delays 0 2 6 ≡ true)

-- agent 1 departs after 2 turns, and arrives after 7: the turns after 3 and 5 pick it, but come before 2 + 4
abbrev pub walk : List TimedAct
walk = Passes ∷ Passes ∷ Says 1 Enter ∷ Says 1 (Depart 0) ∷ Passes ∷ Passes ∷ Passes ∷ Passes ∷ Passes ∷ Passes ∷ []

abbrev pub walked : TimedView
walked =
    ArrivedAt
    (ToldAt (ToldAt Fresh 2 Enter (SawThen (SeenThen 2 None UnwrittenThen))) 2 (Depart 0) NothingThen)
    7 (SeenThen 2 (Some 0) UnwrittenThen)

abbrev pub AWalkWithItsTurns : Type 0
AWalkWithItsTurns = (timed_run triangle none_held with_delays walk).pasts 1 ≡ walked

-- the same walk while agent 0 goes into the black hole, and while it walks in the match without one
abbrev pub walk_beside : List TimedAct
walk_beside =
    Says 0 Enter ∷ Says 0 (Depart 1) ∷ Passes ∷ Passes ∷ Says 0 Look ∷ Says 1 Enter ∷ Says 1 (Depart 0)
    ∷ Passes ∷ Passes ∷ Passes ∷ Passes ∷ Passes ∷ Passes ∷ []

abbrev pub OthersShowInNoTurn : Type 0
OthersShowInNoTurn =
    ((timed_run triangle none_held with_delays walk_beside).pasts 1 ≡ walked)
    × ((timed_run practice none_held with_delays walk_beside).pasts 1 ≡ walked)

-- a turn picks an agent at a node as if it were on a link, and the Deliver changes nothing
abbrev pub APickThatDoesNothing : Type 0
APickThatDoesNothing =
    (timed_events triangle none_held without_delays (Says 0 Enter ∷ Passes ∷ Says 0 (Depart 1) ∷ Passes ∷ Passes ∷ [])
    ≡ Tell 0 Enter ∷ Deliver 0 ∷ Tell 0 (Depart 1) ∷ Deliver 1 ∷ Deliver 0 ∷ [])
    × (timed_events triangle none_held with_delays (Says 1 Enter ∷ Says 1
    (Depart 0) ∷ Passes ∷ Passes ∷ Ends ∷ Passes ∷ [])
    ≡ Tell 1 Enter ∷ Tell 1 (Depart 0) ∷ Deliver 1 ∷ Close ∷ [])

-- the log of these acts: the Delivers that change nothing are not kept, and the walker arrives in the turn after 2
abbrev pub stamp : Event → (turn : ℕ) → Stamped
stamp event turn = record { event = event; turn = turn }

abbrev pub ALogWithItsTurns : Type 0
ALogWithItsTurns =
    timed_log triangle none_held without_delays
    (Says 0 Enter ∷ Passes ∷ Says 0 (Depart 0) ∷ Passes ∷ Passes ∷ Says 0 Look ∷ Ends ∷ Passes ∷ [])
    ≡ stamp (Tell 0 Enter) 0 ∷ stamp (Tell 0 (Depart 0)) 1 ∷ stamp (Deliver 0) 2 ∷ stamp (Tell 0 Look) 3
    ∷ stamp Close 3 ∷ []

-- an arrival in the midst of a past: the agent has looked since
abbrev pub AnArrivalInAPast : Type 0
AnArrivalInAPast =
    HasArrival
    ((timed_run triangle none_held with_delays (walk ++ Says 1 Look ∷ [])).pasts 1)
    (ToldAt (ToldAt Fresh 2 Enter (SawThen (SeenThen 2 None UnwrittenThen))) 2 (Depart 0) NothingThen) 7

-- what an agent says on a link does not change the turn of its departure
abbrev pub ADepartureKeepsItsTurn : Type 0
ADepartureKeepsItsTurn =
    departed_at ((timed_run triangle none_held without_delays
    (Says 0 Enter ∷ Passes ∷ Says 0 (Depart 1) ∷ Passes ∷ Says 0 Look ∷ [])).pasts 0) ≡ 1

-- an agent on a held link does not arrive, however many turns pass
abbrev pub the_link_is_held : Held
the_link_is_held node port = true

abbrev pub AHeldLinkHolds : Type 0
AHeldLinkHolds =
    (timed_events triangle the_link_is_held without_delays
    (Says 0 Enter ∷ Says 0 (Depart 0) ∷ Passes ∷ Passes ∷ Passes ∷ [])
    ≡ Tell 0 Enter ∷ Tell 0 (Depart 0) ∷ Deliver 1 ∷ [])
    × (timed_events triangle none_held without_delays
    (Says 0 Enter ∷ Says 0 (Depart 0) ∷ Passes ∷ Passes ∷ Passes ∷ [])
    ≡ Tell 0 Enter ∷ Tell 0 (Depart 0) ∷ Deliver 0 ∷ Deliver 1 ∷ Deliver 0 ∷ [])

-- The adaptive schedule draws from the pool, and shows what it should not: agent 1 walks, and the same word lets it
-- arrive while agent 0 stands at a node, and leaves it on its link once agent 0 was destroyed.
abbrev pub after_one_draw : List Act → Bool
after_one_draw before =
    is_bound ((run triangle (played triangle none_held
    (before ++ DoesSay 1 Enter ∷ DoesSay 1 (Depart 0) ∷ Draws 0 ∷ []))).position 1)

abbrev pub ThePoolTells : Type 0
ThePoolTells =
    (after_one_draw [] ≡ false) × (after_one_draw (DoesSay 0 Enter ∷ []) ≡ false)
    × (after_one_draw (DoesSay 0 Enter ∷ DoesSay 0 (Depart 1) ∷ []) ≡ true)
