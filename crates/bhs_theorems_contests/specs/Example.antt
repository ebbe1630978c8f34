-- A contest of two agents that search the triangle, worked out by hand: what the law asks of them, and the verdict.
use Rattle.std.specs.Prelude.{ℕ, zero, suc, ◌≡◌, ◌<◌, Some, None, List, [], ◌∷◌, ◌++◌}
use Rattle.bhs_model.specs.declared.commands.Command.TheVariants.{Enter, Depart, Accuse}
use Rattle.bhs_model.specs.declared.events.Event.TheVariants.{Tell, Deliver, Close}
use Rattle.bhs_model.specs.declared.marks.Mark.TheVariants as marks
use Rattle.bhs_model.specs.declared.replies.Reply.TheVariants.{Here, Gone, Noted, Over}
use Rattle.bhs_model.specs.Examples.{none_held}
use Rattle.bhs_model.specs.Marks.{events_of}
use Rattle.bhs_match.specs.Decided.{AreAllDone}
use Rattle.bhs_match.specs.Matches.{Play}
use Rattle.bhs_shared_match.specs.Passes.{Passed}
use Rattle.bhs_referee.specs.declared.verdicts.Outcome.TheVariants.{Solved}
use Rattle.bhs_referee.specs.Verdicts.{verdict_of}
use Rattle.bhs_schedules.specs.Everywhere.{EveryScheduleSolves}
use Rattle.bhs_schedules.specs.Endings.{EveryScheduleCanRest}
use Rattle.bhs_protocols.specs.StandardRings.{standard_ring}
use Rattle.bhs_protocols_triangle.specs.Triangle.{explorers}
use Rattle.bhs_session.specs.declared.endings.Ended.TheVariants as endings
use Rattle.bhs_session.specs.Texts.{text_of}
use Rattle.bhs_server.specs.Exchanges.{Exchange, Took, Came, session_text, commands_in, receipts_in, kept_in}
use Rattle.bhs_server.specs.Exchanges.{arrivals_in}
use Rattle.bhs_theorems_isolation.specs.ContestExample.{receipt}
use Rattle.bhs_theorems_isolation.specs.ContestMet.{Attended}
use Rattle.bhs_attest.specs.Laws.{IsSchedule, trial_in}
use Rattle.bhs_theorems_contests.specs.Contests.{IsPlayedIn, IsPlainMatch, IsOrderly}

-- The triangle, with node 2 as the black hole. Agent 1 goes there and is destroyed. Agent 0 goes to node 1, comes back
-- and accuses the other link.
abbrev pub searched_triangle : Play
searched_triangle = record {
  net = standard_ring 3;
  setup = record { home = 0; holes = 2 ∷ []; dark = []; agents = 2; quota = 10; board = 8 };
  log = record { event = Tell 1 Enter; mark = Some (marks.Here 2 None None) }
      ∷ record { event = Tell 1 (Depart 1); mark = Some marks.Gone }
      ∷ record { event = Deliver 1; mark = None }
      ∷ record { event = Tell 0 Enter; mark = Some (marks.Here 2 None None) }
      ∷ record { event = Tell 0 (Depart 0); mark = Some marks.Gone }
      ∷ record { event = Deliver 0; mark = Some (marks.Here 2 (Some 1) None) }
      ∷ record { event = Tell 0 (Depart 1); mark = Some marks.Gone }
      ∷ record { event = Deliver 0; mark = Some (marks.Here 2 (Some 0) None) }
      ∷ record { event = Tell 0 (Accuse 1); mark = Some marks.Noted }
      ∷ record { event = Close; mark = None } ∷ [];
}

abbrev pub said_by_first : List Exchange
said_by_first =
    Took Enter (receipt 3 (Here 2 None [])) ∷ Took (Depart 0) (receipt 4 Gone)
    ∷ Came (receipt 5 (Here 2 (Some 1) [])) ∷ Took (Depart 1) (receipt 6 Gone)
    ∷ Came (receipt 7 (Here 2 (Some 0) [])) ∷ Took (Accuse 1) (receipt 8 Noted) ∷ []

abbrev pub said_by_second : List Exchange
said_by_second = Took Enter (receipt 0 (Here 2 None [])) ∷ Took (Depart 1) (receipt 1 Gone) ∷ []

abbrev pub pass_of : (agent : ℕ) → List Exchange → Passed
pass_of agent all = record {
  game = 0;
  quota = 10;
  agent = agent;
  receipts = receipts_in all;
  commands = kept_in all;
  arrivals = arrivals_in all;
}

abbrev pub first : Attended
first = record {
  play = searched_triangle;
  pass = pass_of 0 said_by_first;
  said = commands_in said_by_first;
  more = [];
  written = session_text 10 said_by_first;
  ended = endings.Noted;
}

abbrev pub second : Attended
second = record {
  play = searched_triangle;
  pass = pass_of 1 said_by_second;
  said = commands_in said_by_second;
  more = [];
  written = session_text 10 said_by_second ++ text_of Over;
  ended = endings.Over;
}

abbrev pub clients : (agent : ℕ) → Attended
clients zero = first
clients (suc agent) = second

-- the law speaks of this contest
pub record TheLawSpeaksOfIt : Type 0 where
  pub played : (agent : ℕ) → agent < 2 → IsPlayedIn searched_triangle 0 explorers agent (clients agent)
  pub plain : IsPlainMatch none_held searched_triangle
  pub done : AreAllDone searched_triangle
  pub orderly : IsOrderly (trial_in searched_triangle none_held 0 explorers)
  pub solves : EveryScheduleSolves (trial_in searched_triangle none_held 0 explorers) 3 1
  pub rests : EveryScheduleCanRest (trial_in searched_triangle none_held 0 explorers)

-- its log is a schedule of these strategies
abbrev pub ItIsASchedule : Type 0
ItIsASchedule = IsSchedule (trial_in searched_triangle none_held 0 explorers) (events_of searched_triangle.log)

-- and this is its verdict
abbrev pub ItIsSolved : Type 0
ItIsSolved = verdict_of searched_triangle ≡ record { outcome = Solved; moves = 3; lost = 1 }
