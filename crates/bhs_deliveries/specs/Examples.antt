-- Worked examples of held links and draws on the triangle of the model, checked by computing the definitions.
use Rattle.std.specs.Prelude.{ℕ, ◌≡◌, true, false, Some, None, List, [], ◌∷◌, ◌++◌}
use Rattle.bhs_net.specs.Network.{Network}
use Rattle.bhs_model.specs.declared.commands.Command.TheVariants.{Enter, Depart}
use Rattle.bhs_model.specs.declared.events.Event.{Event}
use Rattle.bhs_model.specs.declared.events.Event.TheVariants.{Tell, Deliver, Close}
use Rattle.bhs_model.specs.Examples.{triangle}
use Rattle.bhs_model.specs.Runs.{run}
use Rattle.bhs_deliveries.specs.declared.draws.Drawn.{Drawn}
use Rattle.bhs_deliveries.specs.declared.draws.Drawn.TheVariants.{Nobody, Stays, Delivered}
use Rattle.bhs_deliveries.specs.Links.{held_in, first_strange}
use Rattle.bhs_deliveries.specs.Drawing.{drawn, delivered_to}
use Rattle.bhs_deliveries.specs.Delaying.{delay_stream}

-- port 0 of node 0 is joined to port 0 of node 1, port 1 of node 1 to port 0 of node 2, and port 1 of node 2 to port 1
-- of node 0
abbrev pub three_nodes : Network
three_nodes = ((1, 0) ∷ (2, 1) ∷ []) ∷ ((0, 0) ∷ (2, 0) ∷ []) ∷ ((1, 1) ∷ (0, 1) ∷ []) ∷ []

-- what a word draws after these events, where these links are held
abbrev pub drawn_after : List Event → List (ℕ × ℕ) → (word : ℕ) → Drawn
drawn_after events pairs word = drawn (held_in pairs) (run triangle events) word

abbrev pub TheFirstStrangePairIsTold : Type 0
TheFirstStrangePairIsTold =
    (first_strange three_nodes ((0, 2) ∷ []) ≡ Some 0)
    × (first_strange three_nodes ((0, 1) ∷ (0, 1) ∷ []) ≡ None)
    × (first_strange three_nodes ((0, 1) ∷ (3, 0) ∷ (0, 2) ∷ []) ≡ Some 1)

abbrev pub ALinkIsHeldInOneDirection : Type 0
ALinkIsHeldInOneDirection =
    (held_in ((0, 1) ∷ []) 0 1 ≡ true)
    × (held_in ((0, 1) ∷ []) 2 1 ≡ false)

-- agent 0 departs to the black hole, and then agent 1 to node 1
abbrev pub one_departs : List Event
one_departs = Tell 0 Enter ∷ Tell 1 Enter ∷ Tell 0 (Depart 1) ∷ []

abbrev pub both_depart : List Event
both_depart = one_departs ++ Deliver 0 ∷ Tell 1 (Depart 0) ∷ []

abbrev pub WordsDrawFromThePool : Type 0
WordsDrawFromThePool =
    (drawn_after [] [] 7 ≡ Nobody)
    × (drawn_after one_departs [] 0 ≡ Delivered 0)
    × (drawn_after both_depart [] 4 ≡ Delivered 0)
    × (drawn_after both_depart [] 5 ≡ Delivered 1)

abbrev pub WhoIsHeldStays : Type 0
WhoIsHeldStays =
    (drawn_after both_depart ((0, 1) ∷ []) 4 ≡ Stays)
    × (drawn_after both_depart ((2, 1) ∷ []) 4 ≡ Delivered 0)
    × (drawn_after both_depart ((0, 1) ∷ []) 5 ≡ Delivered 1)

abbrev pub NobodyIsDrawnAfterTheClose : Type 0
NobodyIsDrawnAfterTheClose = drawn_after (both_depart ++ Close ∷ []) [] 5 ≡ Nobody

-- whom a delivery of this agent delivers after these events, where these links are held
abbrev pub delivered_after : List Event → List (ℕ × ℕ) → (agent : ℕ) → Drawn
delivered_after events pairs agent = delivered_to (held_in pairs) (run triangle events) agent

abbrev pub ADeliveryIsOfItsAgent : Type 0
ADeliveryIsOfItsAgent =
    (delivered_after both_depart [] 1 ≡ Delivered 1)
    × (delivered_after both_depart ((0, 1) ∷ []) 0 ≡ Stays)
    × (delivered_after one_departs [] 1 ≡ Nobody)
    × (delivered_after (both_depart ++ Close ∷ []) [] 1 ≡ Nobody)

abbrev pub EachAgentHasItsOwnStream : Type 0
EachAgentHasItsOwnStream = (delay_stream 3 0 ≡ 4294967299) × (delay_stream 0 63 ≡ 274877906944)
