-- A session of a client whose agent enters, is refused an Enter, departs, arrives and leaves: what it was answered, its
-- text, and what its agent met. And one in another contest, whose agent cannot tell the two apart.
use Rattle.std.specs.Prelude.{ℕ, ◌≡◌, Some, None, List, [], ◌∷◌, ◌++◌}
use Rattle.bhs_model.specs.declared.commands.Command.TheVariants.{Enter, Depart, Leave}
use Rattle.bhs_model.specs.declared.events.Event.TheVariants.{Tell, Deliver, Close}
use Rattle.bhs_model.specs.declared.marks.Mark.TheVariants as marks
use Rattle.bhs_model.specs.declared.replies.Reply.{Reply}
use Rattle.bhs_model.specs.declared.replies.Reply.TheVariants.{Here, Gone, Bye, Over}
use Rattle.bhs_model.specs.Views.{Nothing, Saw, Seen, Unwritten}
use Rattle.bhs_match.specs.Matches.{Play, state_of}
use Rattle.bhs_shared_match.specs.declared.model.Receipt.{Receipt}
use Rattle.bhs_shared_match.specs.Passes.{Passed}
use Rattle.bhs_session.specs.declared.endings.Ended.TheVariants as endings
use Rattle.bhs_session.specs.Phase.{Fresh}
use Rattle.bhs_theorems_isolation.specs.Met.{Meeting, Hears, Refuses, Arrives, view_of, bytes}
use Rattle.bhs_server.specs.Exchanges.{Exchange, Took, Refused, Came, session_text, commands_in, receipts_in, kept_in}
use Rattle.bhs_server.specs.Exchanges.{arrivals_in, AreInTurn}
use Rattle.bhs_session.specs.Texts.{text_of}
use Rattle.bhs_theorems_isolation.specs.ContestMet.{Attended, fed, TookPart, IsToldAll}

abbrev pub receipt : (place : ℕ) → Reply → Receipt
receipt place reply = record { place = place; reply = reply }

-- the exchanges of a session, given the places of its events in the log
abbrev pub said_at : (enters departs arrives leaves : ℕ) → List Exchange
said_at enters departs arrives leaves =
    Took Enter (receipt enters (Here 2 None [])) ∷ Refused Enter ∷ Took (Depart 0) (receipt departs Gone)
    ∷ Came (receipt arrives (Here 2 (Some 0) [])) ∷ Took Leave (receipt leaves Bye) ∷ []

abbrev pub all_said : List Exchange
all_said = said_at 0 1 2 3

abbrev pub all_met : List Meeting
all_met =
    Hears Enter (Saw (Seen 2 None Unwritten)) ∷ Refuses Enter ∷ Hears (Depart 0) Nothing
    ∷ Arrives (Seen 2 (Some 0) Unwritten) ∷ Hears Leave Nothing ∷ []

-- The output consists of the bytes of what the agent met.
abbrev pub TheTextIsOfWhatWasMet : Type 0
TheTextIsOfWhatWasMet = session_text 10 all_said ≡ bytes 8 all_met

-- what the pass holds
abbrev pub TheReceiptsAreThese : Type 0
TheReceiptsAreThese =
    receipts_in all_said ≡ receipt 0 (Here 2 None []) ∷ receipt 1 Gone ∷ receipt 3 Bye ∷ []

abbrev pub TheArrivalIsThis : Type 0
TheArrivalIsThis = arrivals_in all_said ≡ receipt 2 (Here 2 (Some 0) []) ∷ []

-- and all came in turn
abbrev pub AllIsInTurn : Type 0
AllIsInTurn = AreInTurn 10 Fresh [] [] all_said

-- ---- the match

-- A settled match on a triangle, with its log. Node 0 is the home base, node 2 the black hole; there are two agents.
abbrev pub settled : Play
settled = record {
  net = ((1, 0) ∷ (2, 1) ∷ []) ∷ ((0, 0) ∷ (2, 0) ∷ []) ∷ ((1, 1) ∷ (0, 1) ∷ []) ∷ [];
  setup = record { home = 0; holes = 2 ∷ []; dark = []; agents = 2; quota = 10; board = 8 };
  log = record { event = Tell 0 Enter; mark = Some (marks.Here 2 None None) }
      ∷ record { event = Tell 0 (Depart 0); mark = Some marks.Gone }
      ∷ record { event = Deliver 0; mark = Some (marks.Here 2 (Some 0) None) }
      ∷ record { event = Tell 0 Leave; mark = Some marks.Bye } ∷ record { event = Close; mark = None } ∷ [];
}

-- the pass of its first agent
abbrev pub pass : Passed
pass = record {
  game = 0;
  quota = 10;
  agent = 0;
  receipts = receipts_in all_said;
  commands = kept_in all_said;
  arrivals = arrivals_in all_said;
}

-- the session, which read one line more than it took
abbrev pub worked : Attended
worked = record {
  play = settled;
  pass = pass;
  said = commands_in all_said;
  more = Enter ∷ [];
  written = bytes 8 all_met;
  ended = endings.Bye;
}

-- the headline speaks of it
abbrev pub TheHeadlineSpeaksOfIt : Type 0
TheHeadlineSpeaksOfIt = TookPart worked

-- and what its agent met is what the log says
abbrev pub ThePastIsOfWhatWasMet : Type 0
ThePastIsOfWhatWasMet = (state_of settled).past 0 ≡ view_of all_met

-- ---- the same elsewhere

-- A match on a ring of four nodes with what it kept. Node 0 is the home base, nodes 2 and 3 are black holes, the link
-- between nodes 1 and 2 is dark, and there are three agents. Agent 1 enters first, and departs for node 3.
abbrev pub settled_elsewhere : Play
settled_elsewhere = record {
  net = ((1, 0) ∷ (3, 1) ∷ []) ∷ ((0, 0) ∷ (2, 0) ∷ []) ∷ ((1, 1) ∷ (3, 0) ∷ []) ∷ ((2, 1) ∷ (0, 1) ∷ []) ∷ [];
  setup = record { home = 0; holes = 2 ∷ 3 ∷ []; dark = (1, 1) ∷ []; agents = 3; quota = 10; board = 8 };
  log = record { event = Tell 1 Enter; mark = Some (marks.Here 2 None None) }
      ∷ record { event = Tell 0 Enter; mark = Some (marks.Here 2 None None) }
      ∷ record { event = Tell 0 (Depart 0); mark = Some marks.Gone }
      ∷ record { event = Tell 1 (Depart 1); mark = Some marks.Gone }
      ∷ record { event = Deliver 0; mark = Some (marks.Here 2 (Some 0) None) }
      ∷ record { event = Tell 0 Leave; mark = Some marks.Bye } ∷ record { event = Close; mark = None } ∷ [];
}

abbrev pub said_elsewhere : List Exchange
said_elsewhere = said_at 1 2 4 5

abbrev pub pass_elsewhere : Passed
pass_elsewhere = record {
  game = 3;
  quota = 10;
  agent = 0;
  receipts = receipts_in said_elsewhere;
  commands = kept_in said_elsewhere;
  arrivals = arrivals_in said_elsewhere;
}

-- the pass of the second agent
abbrev pub pass_beside : Passed
pass_beside = record {
  game = 3;
  quota = 10;
  agent = 1;
  receipts = receipt 0 (Here 2 None []) ∷ receipt 3 Gone ∷ [];
  commands = Enter ∷ Depart 1 ∷ [];
  arrivals = [];
}

abbrev pub elsewhere : Attended
elsewhere = record {
  play = settled_elsewhere;
  pass = pass_elsewhere;
  said = commands_in said_elsewhere;
  more = Enter ∷ [];
  written = bytes 8 all_met;
  ended = endings.Bye;
}

abbrev pub TheHeadlineSpeaksOfTheOther : Type 0
TheHeadlineSpeaksOfTheOther = TookPart elsewhere

abbrev pub ThePastsAreEqual : Type 0
ThePastsAreEqual = (state_of settled).past 0 ≡ (state_of settled_elsewhere).past 0

abbrev pub TheSameWasFed : Type 0
TheSameWasFed = fed worked ≡ fed elsewhere

-- ---- an agent on a link at the close

-- what the other agent said and was answered: it is on its link for node 3, a black hole, when the match is closed
abbrev pub said_beside : List Exchange
said_beside = Took Enter (receipt 0 (Here 2 None [])) ∷ Took (Depart 1) (receipt 3 Gone) ∷ []

abbrev pub met_beside : List Meeting
met_beside = Hears Enter (Saw (Seen 2 None Unwritten)) ∷ Hears (Depart 1) Nothing ∷ []

-- the session of the second agent, which was told that the match is over
abbrev pub beside : Attended
beside = record {
  play = settled_elsewhere;
  pass = pass_beside;
  said = commands_in said_beside;
  more = [];
  written = bytes 8 met_beside ++ text_of Over;
  ended = endings.Over;
}

abbrev pub TheHeadlineSpeaksOfWhoIsOnALink : Type 0
TheHeadlineSpeaksOfWhoIsOnALink = TookPart beside × IsToldAll beside
