-- A short match on a triangle: one agent enters, writes on the whiteboard, departs, arrives and leaves.
use Rattle.std.specs.Prelude.{List, [], ◌∷◌, codes}
use Rattle.bhs_net.specs.Network.{Network}
use Rattle.bhs_model.specs.declared.commands.Command.TheVariants.{Enter, Write, Depart, Leave}
use Rattle.bhs_model.specs.declared.events.Event.{Event}
use Rattle.bhs_model.specs.declared.events.Event.TheVariants.{Tell, Deliver, Close}
use Rattle.bhs_model.specs.declared.setups.Setup.{Setup}

-- three nodes, each joined to the others: per node the far ends of its ports
abbrev pub triangle : Network
triangle = ((1, 0) ∷ (2, 1) ∷ []) ∷ ((0, 0) ∷ (2, 0) ∷ []) ∷ ((1, 1) ∷ (0, 1) ∷ []) ∷ []

-- the agent starts at node 0, and node 2 is the black hole
abbrev pub short_setup : Setup
short_setup = record { home = 0; holes = 2 ∷ []; dark = []; agents = 1; quota = 10; board = 8 }

abbrev pub short_match : List Event
short_match =
    Tell 0 Enter ∷ Tell 0 (Write [] (codes "safe")) ∷ Tell 0 (Depart 0) ∷ Deliver 0 ∷ Tell 0 Leave ∷ Close ∷ []
