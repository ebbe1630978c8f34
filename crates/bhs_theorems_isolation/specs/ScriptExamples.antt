-- Worked scripts on a triangle, checked by computing the definitions.
use Rattle.std.specs.Prelude.{ℕ, ◌≡◌, List, [], ◌∷◌, ◌++◌, codes}
use Rattle.bhs_setups.specs.KeyTable.{Seat}
use Rattle.bhs_model.specs.declared.commands.Command.TheVariants.{Enter, Depart, Leave}
use Rattle.bhs_model.specs.declared.events.Event.TheVariants.{Tell, Deliver}
use Rattle.bhs_rehearsal.specs.Games.{Game}
use Rattle.bhs_rehearsal.specs.Stages.{Stage, game_at, Instruction, Feeds, EndsInput, Draws, Closes, begun}
use Rattle.bhs_rehearsal.specs.Stages.{stands_after, sends}
use Rattle.bhs_theorems_isolation.specs.ScriptLaws.{IsSlowFor}
use Rattle.bhs_theorems_isolation.specs.Clients.{bytes_to}

-- Port 0 of node 0 is joined to port 0 of node 1, port 1 of node 1 to port 0 of node 2, and port 1 of node 2 to
-- port 1 of node 0. Node 0 is the home base and node 2 the black hole.
abbrev pub triangle : Game
triangle = record {
  net = ((1, 0) ∷ (2, 1) ∷ []) ∷ ((0, 0) ∷ (2, 0) ∷ []) ∷ ((1, 1) ∷ (0, 1) ∷ []) ∷ [];
  setup = record { home = 0; holes = 2 ∷ []; dark = []; agents = 2; quota = 10; board = 8 };
  held = [];
  log = [];
}

-- the same without a black hole, where the links into node 2 are held
abbrev pub slow : Game
slow = record triangle { setup = record triangle.setup { holes = []; dark = [] }; held = (0, 1) ∷ (1, 1) ∷ [] }

-- `ka` lets in agent 0, and `kb` agent 1
abbrev pub keys : List Seat
keys = (codes "ka", (0, 0)) ∷ (codes "kb", (0, 1)) ∷ []

-- one match and two connections
abbrev pub stage_of : Game → Stage
stage_of game = begun (game ∷ []) keys 2

-- ---- what clients write

-- a line with its line feed
abbrev pub line : List ℕ → List ℕ
line text = text ++ 10 ∷ []

-- a client's line
abbrev pub says : (conn : ℕ) → List ℕ → Instruction
says conn text = Feeds conn (line text)

abbrev pub enter_ka : List ℕ
enter_ka = codes "{\"do\":\"enter\",\"key\":\"ka\"}"

abbrev pub enter_kb : List ℕ
enter_kb = codes "{\"do\":\"enter\",\"key\":\"kb\"}"

abbrev pub enter_zz : List ℕ
enter_zz = codes "{\"do\":\"enter\",\"key\":\"zz\"}"

abbrev pub look : List ℕ
look = codes "{\"do\":\"look\"}"

abbrev pub depart_by_0 : List ℕ
depart_by_0 = codes "{\"do\":\"depart\",\"port\":0}"

abbrev pub depart_by_1 : List ℕ
depart_by_1 = codes "{\"do\":\"depart\",\"port\":1}"

-- no node has this number of ports
abbrev pub depart_by_2 : List ℕ
depart_by_2 = codes "{\"do\":\"depart\",\"port\":2}"

abbrev pub write_a : List ℕ
write_a = codes "{\"do\":\"write\",\"expect\":\"\",\"put\":\"a\"}"

abbrev pub write_b : List ℕ
write_b = codes "{\"do\":\"write\",\"expect\":\"\",\"put\":\"b\"}"

abbrev pub leave : List ℕ
leave = codes "{\"do\":\"leave\"}"

-- ---- what they are sent

-- a connection is sent a line
abbrev pub sent : (conn : ℕ) → List ℕ → List (ℕ × List ℕ)
sent conn text = (conn, line text) ∷ []

-- nobody is sent anything
abbrev pub silence : List (ℕ × List ℕ)
silence = []

-- an agent that entered at a node of two ports with an empty whiteboard, and one that came by the link with label 0
abbrev pub here_at_home : List ℕ
here_at_home = codes "{\"board\":\"\",\"from\":null,\"ok\":\"here\",\"ports\":2}"

abbrev pub here_by_0 : List ℕ
here_by_0 = codes "{\"board\":\"\",\"from\":0,\"ok\":\"here\",\"ports\":2}"

abbrev pub gone : List ℕ
gone = codes "{\"ok\":\"gone\"}"

abbrev pub written : List ℕ
written = codes "{\"ok\":\"written\"}"

-- The whiteboard shows an `a`.
abbrev pub changed_to_a : List ℕ
changed_to_a = codes "{\"board\":\"a\",\"ok\":\"changed\"}"

abbrev pub bye : List ℕ
bye = codes "{\"ok\":\"bye\"}"

abbrev pub over : List ℕ
over = codes "{\"ok\":\"over\"}"

-- no such port; the quota is used up
abbrev pub no_port : List ℕ
no_port = codes "{\"no\":\"port\"}"

abbrev pub no_spent : List ℕ
no_spent = codes "{\"no\":\"spent\"}"

-- the first line was no enter; nobody knows its key; the key was used
abbrev pub no_enter : List ℕ
no_enter = codes "{\"no\":\"enter\"}"

abbrev pub no_key : List ℕ
no_key = codes "{\"no\":\"key\"}"

abbrev pub no_taken : List ℕ
no_taken = codes "{\"no\":\"taken\"}"

-- ---- one match

abbrev pub AKeyLetsIn : Type 0
AKeyLetsIn = sends (stage_of triangle) (says 0 enter_ka ∷ []) ≡ sent 0 here_at_home ∷ []

-- an enter that comes in two pieces is answered with the second
abbrev pub ALineMayComeInPieces : Type 0
ALineMayComeInPieces =
    sends (stage_of triangle) (Feeds 0 (codes "{\"do\":\"enter\",") ∷ Feeds 0 (line (codes "\"key\":\"ka\"}")) ∷ [])
    ≡ silence ∷ sent 0 here_at_home ∷ []

-- to node 1, and from there into the black hole: a line is said there, and a draw changes nothing
abbrev pub to_the_hole : List Instruction
to_the_hole =
    says 0 enter_ka ∷ says 0 depart_by_0 ∷ Draws 0 0
    ∷ says 0 depart_by_1 ∷ Draws 0 0 ∷ says 0 look ∷ Draws 0 0 ∷ Closes 0 ∷ Closes 0 ∷ []

-- over is sent once, and the line is not answered
abbrev pub TheBlackHoleIsSilent : Type 0
TheBlackHoleIsSilent =
    sends (stage_of triangle) to_the_hole
    ≡ sent 0 here_at_home ∷ sent 0 gone ∷ sent 0 here_by_0
    ∷ sent 0 gone ∷ silence ∷ silence ∷ silence ∷ sent 0 over ∷ silence ∷ []

abbrev pub HeldLinksSendTheSame : Type 0
HeldLinksSendTheSame = sends (stage_of slow) to_the_hole ≡ sends (stage_of triangle) to_the_hole

-- `slow` is such a match as no client can tell from the triangle
abbrev pub TheSlowTriangleIsSlow : Type 0
TheSlowTriangleIsSlow = IsSlowFor triangle slow

-- a line that comes while the agent is away is answered behind the arrival
abbrev pub LinesWaitForTheArrival : Type 0
LinesWaitForTheArrival =
    sends (stage_of triangle) (says 0 enter_ka ∷ Feeds 0 (line depart_by_0 ++ line look) ∷ Draws 0 0 ∷ [])
    ≡ sent 0 here_at_home ∷ sent 0 gone ∷ ((0, line here_by_0 ++ line here_by_0) ∷ []) ∷ []

-- the first write wins
abbrev pub TheSecondWriterSeesTheFirst : Type 0
TheSecondWriterSeesTheFirst =
    sends (stage_of triangle) (says 0 enter_ka ∷ says 1 enter_kb ∷ says 0 write_a ∷ says 1 write_b ∷ [])
    ≡ sent 0 here_at_home ∷ sent 1 here_at_home ∷ sent 0 written ∷ sent 1 changed_to_a ∷ []

-- the same match with a quota of 3
abbrev pub short : Game
short = record triangle { setup = record triangle.setup { quota = 3 } }

-- A departure by a port that does not exist uses up one of the three commands; a Leave uses none.
abbrev pub TheQuotaIsSpent : Type 0
TheQuotaIsSpent =
    sends (stage_of short) (
    says 0 enter_ka ∷ says 0 depart_by_2 ∷ says 0 look ∷ says 0 look ∷ says 0 look ∷ says 0 leave ∷ says 0 look
    ∷ [])
    ≡ sent 0 here_at_home ∷ sent 0 no_port ∷ sent 0 here_at_home ∷ sent 0 here_at_home ∷ sent 0
    no_spent ∷ sent 0 bye ∷ silence
    ∷ []

-- ---- who is not let in

-- nobody knows the key, and what follows is not looked at
abbrev pub AStrangeKeyIsDenied : Type 0
AStrangeKeyIsDenied =
    sends (stage_of triangle) (says 0 enter_zz ∷ says 0 enter_ka ∷ EndsInput 0 ∷ [])
    ≡ sent 0 no_key ∷ silence ∷ silence ∷ []

-- a key lets in once
abbrev pub AUsedKeyIsDenied : Type 0
AUsedKeyIsDenied =
    sends (stage_of triangle) (says 0 enter_ka ∷ says 1 enter_ka ∷ says 1 enter_kb ∷ [])
    ≡ sent 0 here_at_home ∷ sent 1 no_taken ∷ silence ∷ []

-- the first line must be an enter
abbrev pub AFirstLookIsDenied : Type 0
AFirstLookIsDenied =
    sends (stage_of triangle) (says 0 look ∷ says 0 enter_ka ∷ []) ≡ sent 0 no_enter ∷ silence ∷ []

-- ---- ends

-- who is at a node when the match ends is told so when it says something
abbrev pub ThePresentAreToldLater : Type 0
ThePresentAreToldLater =
    sends (stage_of triangle) (says 0 enter_ka ∷ Closes 0 ∷ says 0 look ∷ says 0 look ∷ [])
    ≡ sent 0 here_at_home ∷ silence ∷ sent 0 over ∷ silence ∷ []

-- a client goes while its agent is away
abbrev pub gone_on_the_way : List Instruction
gone_on_the_way = says 0 enter_ka ∷ says 0 depart_by_0 ∷ EndsInput 0 ∷ Draws 0 0 ∷ []

-- the arrival is sent, and then the agent leaves
abbrev pub AnEndWaitsForTheArrival : Type 0
AnEndWaitsForTheArrival =
    sends (stage_of triangle) gone_on_the_way ≡ sent 0 here_at_home ∷ sent 0 gone ∷ silence ∷ sent 0 here_by_0 ∷ []

abbrev pub TheAgentOfAnEndLeaves : Type 0
TheAgentOfAnEndLeaves =
    (game_at (stands_after (stage_of triangle) gone_on_the_way) 0).log
    ≡ Tell 0 Enter ∷ Tell 0 (Depart 0) ∷ Deliver 0 ∷ Tell 0 Leave ∷ []

-- ---- two matches

-- two matches on the triangle: `ka` lets in agent 0 of the one, and `kb` agent 0 of the other
abbrev pub side_by_side : Stage
side_by_side = begun (triangle ∷ triangle ∷ []) ((codes "ka", (0, 0)) ∷ (codes "kb", (1, 0)) ∷ []) 2

-- instructions for one match, and for both matches alternately
abbrev pub in_one : List Instruction
in_one = says 0 enter_ka ∷ says 0 look ∷ says 0 depart_by_0 ∷ Draws 0 0 ∷ []

abbrev pub in_both : List Instruction
in_both =
    says 1 enter_kb ∷ says 0 enter_ka ∷ says 1 write_b ∷ says 0 look ∷ says 1 depart_by_0
    ∷ says 0 depart_by_0 ∷ Draws 1 0 ∷ Draws 0 0 ∷ Closes 1 ∷ []

abbrev pub TheOtherMatchIsNotHeard : Type 0
TheOtherMatchIsNotHeard = bytes_to 0 (sends side_by_side in_both) ≡ bytes_to 0 (sends side_by_side in_one)

-- ---- what is not there

-- for match 1 and connection 2, if there is one match and there are two connections
abbrev pub for_nobody : List Instruction
for_nobody = Draws 1 0 ∷ Closes 1 ∷ says 2 enter_ka ∷ EndsInput 2 ∷ []

abbrev pub WhatIsNotThereDoesNothing : Type 0
WhatIsNotThereDoesNothing =
    (sends (stage_of triangle) for_nobody ≡ silence ∷ silence ∷ silence ∷ silence ∷ [])
    × (stands_after (stage_of triangle) for_nobody ≡ stage_of triangle)
