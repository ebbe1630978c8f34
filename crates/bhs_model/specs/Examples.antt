-- Worked examples of play on a triangle: what each shows is checked by computing the definitions.
use Rattle.std.specs.Prelude.{ℕ, ◌≡◌, true, false, Option, Some, None, List, [], ◌∷◌, ◌++◌, codes, replicate, ◌==◌}
use Rattle.std.specs.Prelude.{◌&&◌, ◌||◌}
use Rattle.bhs_model.specs.declared.commands.Command.TheVariants.{Enter, Look, Write, Depart, Accuse, Leave, Bad}
use Rattle.bhs_model.specs.declared.events.Event.{Event}
use Rattle.bhs_model.specs.declared.events.Event.TheVariants.{Tell, Deliver, Close}
use Rattle.bhs_model.specs.declared.replies.Reply.{Reply}
use Rattle.bhs_model.specs.declared.replies.Reply.TheVariants.{Here, Written, Changed, Gone, Noted, Bye, Over, No}
use Rattle.bhs_model.specs.declared.replies.Why.TheVariants.{Agent, Outside, Twice, Ended, Spent, Away, Line, Port}
use Rattle.bhs_model.specs.declared.replies.Why.TheVariants.{Long}
use Rattle.bhs_model.specs.Views.{Start, Told, Saw, Seen, Unwritten, WrittenBy}
use Rattle.bhs_model.specs.Worlds.{World}
use Rattle.bhs_model.specs.Setups.{network_of}
use Rattle.bhs_model.specs.Runs.{run}
use Rattle.bhs_model.specs.InOrder.{replies, replies_to}
use Rattle.bhs_model.specs.Places.{written, names}
use Rattle.bhs_model.specs.Kept.{kept, lost}
use Rattle.bhs_model.specs.Twins.{Twins, reveals}
use Rattle.bhs_model.specs.Cuts.{at_places, footprints, is_closed, cut}
use Rattle.bhs_model.specs.Arenas.{Happening, events_of, arena_replies}
use Rattle.bhs_model.specs.Draws.{Held, Act, Says, Draws, Closes, pool, played}

-- Port 0 of node 0 is joined to port 0 of node 1, port 1 of node 1 to port 0 of node 2, and port 1 of
-- node 2 to port 1 of node 0. Two agents start at node 0, and node 2 is the black hole.
abbrev pub triangle : World
triangle = record {
  net = network_of (((1, 0) ∷ (2, 1) ∷ []) ∷ ((0, 0) ∷ (2, 0) ∷ []) ∷ ((1, 1) ∷ (0, 1) ∷ []) ∷ []);
  home = 0;
  holes = 2 ∷ [];
  dark = [];
  agents = 2;
  quota = 10;
  board = 8;
}

-- the same without a black hole
abbrev pub practice : World
practice = record triangle { holes = [] }

-- no link is held
abbrev pub none_held : Held
none_held node port = false

-- a node of two ports with an empty whiteboard, entered there, or come to by the link with label 0
abbrev pub entered : Option Reply
entered = Some (Here 2 None [])

abbrev pub come_by_0 : Option Reply
come_by_0 = Some (Here 2 (Some 0) [])

-- what is answered to these acts, where no link is held
abbrev pub answers : World → List Act → List (Option Reply)
answers world acts = replies world (played world none_held acts)

abbrev pub AnAgentEnters : Type 0
AnAgentEnters = replies triangle (Tell 0 Enter ∷ []) ≡ entered ∷ []

abbrev pub ADepartureAndItsArrival : Type 0
ADepartureAndItsArrival =
    answers triangle (Says 0 Enter ∷ Says 0 (Depart 0) ∷ Draws 0 ∷ [])
    ≡ entered ∷ Some Gone ∷ come_by_0 ∷ []

-- into the black hole: no draw brings the agent out, and it is answered like one that is on a link
abbrev pub to_the_hole : List Act
to_the_hole =
    Says 0 Enter ∷ Says 0 (Depart 0) ∷ Draws 0
    ∷ Says 0 (Depart 1) ∷ Draws 0 ∷ Draws 0
    ∷ Says 0 Look ∷ Closes ∷ Says 0 Look ∷ []

abbrev pub TheBlackHoleIsSilent : Type 0
TheBlackHoleIsSilent =
    answers triangle to_the_hole
    ≡ entered ∷ Some Gone ∷ come_by_0 ∷ Some Gone ∷ None ∷ None ∷ Some (No Away) ∷ None ∷ Some Over ∷ []

-- on a link there is nothing to depart from and nothing to accuse
abbrev pub OnALinkAllButLeaveIsAway : Type 0
OnALinkAllButLeaveIsAway =
    replies triangle (
    Tell 0 Enter ∷ Tell 0 (Depart 0)
    ∷ Tell 0 (Depart 0) ∷ Tell 0 (Accuse 0) ∷ Tell 0 Bad ∷ Tell 0 (Write [] []) ∷ Tell 0 Leave
    ∷ [])
    ≡ entered ∷ Some Gone
    ∷ Some (No Away) ∷ Some (No Away) ∷ Some (No Away) ∷ Some (No Away) ∷ Some Bye
    ∷ []

-- in the practice match the links into node 2 are held: the agent is answered just the same
abbrev pub held_into_2 : Held
held_into_2 node port = (node == 0 && port == 1) || (node == 1 && port == 1)

abbrev pub HeldLinksLookAlike : Type 0
HeldLinksLookAlike =
    replies_to triangle 0 (played triangle none_held to_the_hole)
    ≡ replies_to practice 0 (played practice held_into_2 to_the_hole)

-- the triangle where no node is a black hole, and the link between the nodes 0 and 2 is dark
abbrev pub dark_triangle : World
dark_triangle = record triangle { holes = []; dark = (0, 1) ∷ [] }

-- round the triangle, and then over the dark link from its other end
abbrev pub round_to_the_dark_link : List Act
round_to_the_dark_link =
    Says 0 Enter ∷ Says 0 (Depart 0) ∷ Draws 0
    ∷ Says 0 (Depart 1) ∷ Draws 0
    ∷ Says 0 (Depart 1) ∷ Draws 0 ∷ Says 0 Look ∷ []

-- a dark link destroys in both directions
abbrev pub ADarkLinkIsSilent : Type 0
ADarkLinkIsSilent =
    (answers dark_triangle (Says 0 Enter ∷ Says 0 (Depart 1) ∷ Draws 0 ∷ Closes ∷ [])
    ≡ entered ∷ Some Gone ∷ None ∷ None ∷ [])
    × (answers dark_triangle round_to_the_dark_link
    ≡ entered ∷ Some Gone ∷ come_by_0 ∷ Some Gone ∷ come_by_0 ∷ Some Gone ∷ None ∷ Some (No Away) ∷ [])

-- A dark link is indistinguishable from a link that is held in both directions.
abbrev pub held_between_0_and_2 : Held
held_between_0_and_2 node port = (node == 0 && port == 1) || (node == 2 && port == 1)

abbrev pub ADarkLinkLooksHeld : Type 0
ADarkLinkLooksHeld =
    replies_to dark_triangle 0 (played dark_triangle none_held round_to_the_dark_link)
    ≡ replies_to practice 0 (played practice held_between_0_and_2 round_to_the_dark_link)

-- right or wrong, an accusation is noted
abbrev pub AnAccusationIsNoted : Type 0
AnAccusationIsNoted =
    replies triangle (Tell 0 Enter ∷ Tell 0 (Accuse 1) ∷ Tell 1 Enter ∷ Tell 1 (Accuse 0) ∷ [])
    ≡ entered ∷ Some Noted ∷ entered ∷ Some Noted ∷ []

-- the first write wins; the second agent expected an empty whiteboard, and is shown what stands there
abbrev pub AWriteExpectsWhatItReplaces : Type 0
AWriteExpectsWhatItReplaces =
    replies triangle (
    Tell 0 Enter
    ∷ Tell 1 Enter
    ∷ Tell 0 (Write [] (codes "a"))
    ∷ Tell 1 (Write [] (codes "b"))
    ∷ [])
    ≡ entered ∷ entered ∷ Some Written ∷ Some (Changed (codes "a")) ∷ []

-- A whiteboard, and an answer that shows it, name the last Write there that put its text: not one that failed, but also
-- one that put the empty text.
abbrev pub writes : List Event
writes =
    Tell 0 Enter
    ∷ Tell 1 Enter
    ∷ Tell 0 (Write [] (codes "a"))
    ∷ Tell 1 (Write [] (codes "b"))
    ∷ Tell 0 (Write (codes "a") [])
    ∷ Tell 1 Look
    ∷ []

abbrev pub AWhiteboardNamesItsWrite : Type 0
AWhiteboardNamesItsWrite =
    (written triangle writes 0 ≡ Some 4) × (written triangle writes 1 ≡ None)
    × (names triangle writes ≡ None ∷ None ∷ None ∷ Some 2 ∷ None ∷ Some 4 ∷ [])

-- five letters and the euro sign, which has three bytes
abbrev pub with_euro : List ℕ
with_euro = codes "abcde" ++ 0xe2 ∷ 0x82 ∷ 0xac ∷ []

abbrev pub AWhiteboardHoldsSoManyBytes : Type 0
AWhiteboardHoldsSoManyBytes =
    replies triangle (
    Tell 0 Enter
    ∷ Tell 0 (Write [] (codes "12345678"))
    ∷ Tell 0 (Write (codes "12345678") (codes "123456789"))
    ∷ Tell 0 (Write (codes "12345678") with_euro)
    ∷ Tell 0 Look
    ∷ [])
    ≡ entered ∷ Some Written ∷ Some (No Long) ∷ Some Written ∷ Some (Here 2 None with_euro) ∷ []

-- a command that is refused for its port has used one of the quota
abbrev pub AMissingPortIsUsedUp : Type 0
AMissingPortIsUsedUp =
    replies triangle (Tell 0 Enter ∷ Tell 0 (Depart 2) ∷ replicate 9 (Tell 0 Look) ++ Tell 0 Look ∷ [])
    ≡ entered ∷ Some (No Port) ∷ replicate 9 entered ++ Some (No Spent) ∷ []

abbrev pub LeavingNeedsNoQuota : Type 0
LeavingNeedsNoQuota =
    replies triangle (Tell 0 Enter ∷ replicate 10 (Tell 0 Look) ++ Tell 0 Look ∷ Tell 0 Leave ∷ [])
    ≡ entered ∷ replicate 10 entered ++ Some (No Spent) ∷ Some Bye ∷ []

abbrev pub ABadLineIsUsedUp : Type 0
ABadLineIsUsedUp =
    replies triangle (Tell 0 Enter ∷ Tell 0 Bad ∷ replicate 9 (Tell 0 Look) ++ Tell 0 Look ∷ [])
    ≡ entered ∷ Some (No Line) ∷ replicate 9 entered ++ Some (No Spent) ∷ []

-- each agent has a quota of its own
abbrev pub QuotasAreApart : Type 0
QuotasAreApart =
    replies triangle (Tell 0 Enter ∷ Tell 1 Enter ∷ replicate 10 (Tell 0 Look) ++ Tell 1 Look ∷ [])
    ≡ entered ∷ entered ∷ replicate 10 entered ++ entered ∷ []

-- a draw on the empty pool; a draw of agent 0, which is destroyed; then two agents in the pool, of which
-- word 4 picks the destroyed one, and word 5 the other
abbrev pub pool_acts : List Act
pool_acts =
    Draws 7
    ∷ Says 0 Enter ∷ Says 1 Enter ∷ Says 0 (Depart 1) ∷ Draws 0
    ∷ Says 1 (Depart 0) ∷ Draws 4 ∷ Draws 5 ∷ []

abbrev pub WordsPickFromThePool : Type 0
WordsPickFromThePool =
    played triangle none_held pool_acts
    ≡ Tell 0 Enter ∷ Tell 1 Enter ∷ Tell 0 (Depart 1) ∷ Deliver 0
    ∷ Tell 1 (Depart 0) ∷ Deliver 0 ∷ Deliver 1 ∷ []

abbrev pub TheDestroyedStayInThePool : Type 0
TheDestroyedStayInThePool =
    answers triangle pool_acts
    ≡ entered ∷ entered ∷ Some Gone ∷ None ∷ Some Gone ∷ None ∷ come_by_0 ∷ []

-- agent 1 writes at node 1, and agent 0 looks at node 0
abbrev pub apart : List Event
apart =
    Tell 0 Enter
    ∷ Tell 1 Enter ∷ Tell 1 (Depart 0) ∷ Deliver 1 ∷ Tell 1 (Write [] (codes "b"))
    ∷ Tell 0 Look
    ∷ []

-- and then agent 0 comes to node 1 and sees the text
abbrev pub met : List Event
met = apart ++ Tell 0 (Depart 0) ∷ Deliver 0 ∷ Tell 1 (Depart 0) ∷ Close ∷ []

abbrev pub WhoNeverMeetsIsNotInTheCut : Type 0
WhoNeverMeetsIsNotInTheCut =
    cut 0 (footprints triangle (apart ++ Close ∷ []))
    ≡ true ∷ false ∷ false ∷ false ∷ false ∷ true ∷ false ∷ []

abbrev pub WhoWroteWhatIsSeenIsInTheCut : Type 0
WhoWroteWhatIsSeenIsInTheCut = cut 0 (footprints triangle met) ≡ replicate 8 true ++ false ∷ false ∷ []

-- A failed write still counts as the whiteboard's last write, and agents that see the whiteboard have it in their past.
abbrev pub failing : Event
failing = Tell 1 (Write (codes "x") (codes "b"))

abbrev pub AFailedWriteCounts : Type 0
AFailedWriteCounts =
    (run triangle (Tell 1 Enter ∷ failing ∷ [])).last_write 0
    ≡ WrittenBy (Told
    (Told Start Enter (Saw (Seen 2 None Unwritten)))
    (Write (codes "x") (codes "b")) (Saw (Seen 2 None Unwritten)))

abbrev pub AFailedWriteIsInTheCut : Type 0
AFailedWriteIsInTheCut =
    cut 0 (footprints triangle (Tell 0 Enter ∷ Tell 1 Enter ∷ failing ∷ Tell 0 Look ∷ [])) ≡ replicate 4 true

-- After deleting the events of an agent that was never met, the other agent gets the same answers.
abbrev pub TheCutStandsAlone : Type 0
TheCutStandsAlone =
    replies triangle (at_places apart (cut 0 (footprints triangle apart))) ≡ entered ∷ entered ∷ []

-- a write without the earlier steps of its agent
abbrev pub AStepNeedsTheStepsBefore : Type 0
AStepNeedsTheStepsBefore =
    is_closed (footprints triangle apart) (false ∷ false ∷ false ∷ false ∷ true ∷ []) ≡ false

-- an arrival that sees a whiteboard, without the write on that whiteboard
abbrev pub ASightNeedsTheWrite : Type 0
ASightNeedsTheWrite =
    is_closed (footprints triangle met) (true ∷ false ∷ false ∷ false ∷ false ∷ true ∷ true ∷ true ∷ [])
    ≡ false

-- the agent left node 1 by port 1, and the link has label 0 at node 2
abbrev pub AnArrivalShowsTheLabelThere : Type 0
AnArrivalShowsTheLabelThere =
    answers practice (Says 0 Enter ∷ Says 0 (Depart 0) ∷ Draws 0 ∷ Says 0 (Depart 1) ∷ Draws 0 ∷ [])
    ≡ entered ∷ Some Gone ∷ come_by_0 ∷ Some Gone ∷ come_by_0 ∷ []

-- an agent leaves on its way; an agent leaves that was destroyed
abbrev pub on_its_way : List Event
on_its_way = Tell 0 Enter ∷ Tell 0 (Depart 0) ∷ Tell 0 Look ∷ Tell 0 Leave ∷ Deliver 0 ∷ []

abbrev pub destroyed : List Event
destroyed = Tell 0 Enter ∷ Tell 0 (Depart 1) ∷ Deliver 0 ∷ Tell 0 Look ∷ Tell 0 Leave ∷ []

abbrev pub LeavingOnTheWay : Type 0
LeavingOnTheWay =
    replies triangle on_its_way ≡ entered ∷ Some Gone ∷ Some (No Away) ∷ Some Bye ∷ None ∷ []

abbrev pub TheDestroyedLeaveAlike : Type 0
TheDestroyedLeaveAlike =
    replies triangle destroyed ≡ entered ∷ Some Gone ∷ None ∷ Some (No Away) ∷ Some Bye ∷ []

abbrev pub WhoLeavesLeavesThePool : Type 0
WhoLeavesLeavesThePool = (pool (run triangle on_its_way) ≡ []) × (pool (run triangle destroyed) ≡ [])

-- what is kept: not the second Enter, not the second Deliver into the black hole, and nothing after the
-- Close
abbrev pub WhatIsKept : Type 0
WhatIsKept =
    kept triangle (
    Tell 0 Enter ∷ Tell 0 Enter
    ∷ Tell 0 (Depart 1) ∷ Deliver 0 ∷ Deliver 0
    ∷ Tell 0 Look
    ∷ Close ∷ Close ∷ Tell 0 Look
    ∷ [])
    ≡ Tell 0 Enter ∷ Tell 0 (Depart 1) ∷ Deliver 0 ∷ Tell 0 Look ∷ Close ∷ []

-- agent 0 is lost, and agent 1 is not
abbrev pub WhoIsLost : Type 0
WhoIsLost = (lost triangle destroyed 0 ≡ true) × (lost triangle destroyed 1 ≡ false)

-- the triangle where node 1 is the black hole
abbrev pub other_hole : World
other_hole = record triangle { holes = 1 ∷ [] }

-- while nobody has arrived at node 1, it may as well be the black hole
abbrev pub AnUnreachedNodeMayBeTheHole : Type 0
AnUnreachedNodeMayBeTheHole =
    Twins
    triangle (Tell 0 Enter ∷ Tell 0 (Depart 1) ∷ Deliver 0 ∷ Tell 0 Look ∷ [])
    other_hole (Tell 0 Enter ∷ Tell 0 (Depart 1) ∷ Tell 0 Look ∷ [])

-- an arrival there gives it away
abbrev pub AnArrivalGivesItAway : Type 0
AnArrivalGivesItAway =
    reveals triangle other_hole (run triangle (Tell 0 Enter ∷ Tell 0 (Depart 0) ∷ [])) (Deliver 0) ≡ true

-- a number without an agent; outside; entering twice; after the end; after the close, where the number
-- still comes first
abbrev pub RefusalsInOrder : Type 0
RefusalsInOrder =
    replies triangle (
    Tell 2 Look
    ∷ Tell 0 Look ∷ Tell 0 Leave
    ∷ Tell 0 Enter ∷ Tell 0 Enter
    ∷ Tell 0 Leave ∷ Tell 0 Look ∷ Tell 0 Enter
    ∷ Close ∷ Tell 0 Look ∷ Tell 2 Look
    ∷ [])
    ≡ Some (No Agent)
    ∷ Some (No Outside) ∷ Some (No Outside)
    ∷ entered ∷ Some (No Twice)
    ∷ Some Bye ∷ Some (No Ended) ∷ Some (No Twice)
    ∷ None ∷ Some Over ∷ Some (No Agent)
    ∷ []

-- two matches on the triangle: in match 1 an agent writes, and in match 0 nothing of it is seen
abbrev pub happens : ℕ → Event → Happening
happens game event = record { game = game; event = event }

abbrev pub side_by_side : List Happening
side_by_side =
    happens 0 (Tell 0 Enter)
    ∷ happens 1 (Tell 0 Enter) ∷ happens 1 (Tell 0 (Write [] (codes "a")))
    ∷ happens 0 (Tell 0 Look)
    ∷ []

abbrev pub EachMatchHasItsOwnEvents : Type 0
EachMatchHasItsOwnEvents = events_of 0 side_by_side ≡ Tell 0 Enter ∷ Tell 0 Look ∷ []

abbrev pub AMatchSeesNoOther : Type 0
AMatchSeesNoOther = arena_replies (λ game. triangle) 0 side_by_side ≡ entered ∷ entered ∷ []
