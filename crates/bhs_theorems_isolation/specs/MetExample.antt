-- A worked script, with what its client met, the past of its agent and its bytes.
use Rattle.std.specs.Prelude.{◌≡◌, Some, None, List, [], ◌∷◌, ◌++◌}
use Rattle.bhs_model.specs.declared.commands.Command.TheVariants.{Enter, Look, Depart}
use Rattle.bhs_model.specs.Views.{Nothing, Saw, Seen, Unwritten}
use Rattle.bhs_rehearsal.specs.Stages.{Feeds, Draws}
use Rattle.bhs_theorems_isolation.specs.Met.{Meeting, Hears, Arrives, view_of, bytes}
use Rattle.bhs_rehearsal.specs.Games.{Game}
use Rattle.bhs_theorems_isolation.specs.ScriptHeadline.{Rehearsed, past_of, sent_in, Plays}
use Rattle.bhs_theorems_isolation.specs.ScriptExamples.{triangle, keys, says, line, enter_ka, depart_by_0, look}
use Rattle.bhs_theorems_isolation.specs.ScriptExamples.{here_at_home}
use Rattle.bhs_theorems_isolation.specs.ScriptExamples.{gone, here_by_0}

-- a client says depart and look at once, and its agent arrives then
abbrev pub hasty_look : Rehearsed
hasty_look = record {
  games = triangle ∷ [];
  keys = keys;
  connections = 2;
  script = says 0 enter_ka ∷ Feeds 0 (line depart_by_0 ++ line look) ∷ Draws 0 0 ∷ [];
}

-- it met these: the home base has two ports, and so has the node where it arrives, by the link with label 0
abbrev pub met_there : List Meeting
met_there =
    Hears Enter (Saw (Seen 2 None Unwritten)) ∷ Hears (Depart 0) Nothing
    ∷ Arrives (Seen 2 (Some 0) Unwritten) ∷ Hears Look (Saw (Seen 2 (Some 0) Unwritten)) ∷ []

abbrev pub ThePastIsOfWhatWasMet : Type 0
ThePastIsOfWhatWasMet = past_of hasty_look (0, 0) ≡ view_of met_there

abbrev pub TheBytesAreOfWhatWasMet : Type 0
TheBytesAreOfWhatWasMet = sent_in hasty_look 0 ≡ bytes 8 met_there

abbrev pub TheBytesAreThese : Type 0
TheBytesAreThese = bytes 8 met_there ≡ line here_at_home ++ (line gone ++ (line here_by_0 ++ line here_by_0))

-- the headline speaks of it
abbrev pub TheHeadlineSpeaksOfIt : Type 0
TheHeadlineSpeaksOfIt = Plays hasty_look 0 (0, 0)

-- ---- the same elsewhere

-- Another network: a ring of four nodes, of which node 2 and node 3 are black holes and the link between nodes 1 and 2
-- is dark. Node 0 is the home base, and there are three agents.
abbrev pub ring_of_four : Game
ring_of_four = record {
  net = ((1, 0) ∷ (3, 1) ∷ []) ∷ ((0, 0) ∷ (2, 0) ∷ []) ∷ ((1, 1) ∷ (3, 0) ∷ []) ∷ ((2, 1) ∷ (0, 1) ∷ []) ∷ [];
  setup = record { home = 0; holes = 2 ∷ 3 ∷ []; dark = (1, 1) ∷ []; agents = 3; quota = 10; board = 8 };
  held = [];
  log = [];
}

-- the client says the same there, and its agent arrives before the client looks
abbrev pub look_elsewhere : Rehearsed
look_elsewhere = record {
  games = ring_of_four ∷ [];
  keys = keys;
  connections = 5;
  script = says 0 enter_ka ∷ says 0 depart_by_0 ∷ Draws 0 7 ∷ says 0 look ∷ [];
}

abbrev pub TheHeadlineSpeaksOfTheOther : Type 0
TheHeadlineSpeaksOfTheOther = Plays look_elsewhere 0 (0, 0)

-- the agents cannot tell the networks apart
abbrev pub ThePastsAreEqual : Type 0
ThePastsAreEqual = past_of hasty_look (0, 0) ≡ past_of look_elsewhere (0, 0)

abbrev pub TheBytesAreEqual : Type 0
TheBytesAreEqual = sent_in hasty_look 0 ≡ sent_in look_elsewhere 0
