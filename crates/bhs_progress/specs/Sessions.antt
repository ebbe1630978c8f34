-- A model of the threads that serve a match: one for each session, and one that takes the turns of the match. A step is
-- what a thread does under the lock of the match, or between two such critical sections. That the system runs each
-- thread is the premise of the laws.
use Rattle.std.specs.Prelude.{ℕ, zero, suc, ◌+◌, ◌-◌, ◌*◌, ◌≡◌, ◌<◌, ◌≤◌, ◌⊎◌, ◌==◌, Bool, true, false, List, [], ◌∷◌}
use Rattle.std.specs.Prelude.{if◌then◌else◌, nat_lt}
use Rattle.bhs_progress.specs.Rounds.{Threads, after, AreRounds}

-- The state of a session's thread. Reading: it takes its next line, and reads from the client if no line is buffered.
-- Waiting: its agent is on a link, and the thread awaits the arrival or the close. Ended.
pub data Stand : Type 0 where
  Takes : Stand
  Waits : Stand
  Ends : Stand

-- a session: its state, how many whole lines it has read, and how many of them it has answered
pub record SessionState : Type 0 where
  pub stand : Stand
  pub read : ℕ
  pub answered : ℕ

-- a match: the turns that are left before the close, whether it is closed, and its sessions
pub record ServedMatch : Type 0 where
  pub turns : ℕ
  pub is_closed : Bool
  pub session : (number : ℕ) → SessionState

-- the effect of a line: the agent stays at a node, departs, or ends
pub data Outcome : Type 0 where
  Stays : Outcome
  Departs : Outcome
  Parts : Outcome

-- The choices of agents, network, draws and clients: the effect of the next line of a session, which agents a turn
-- delivers, and how many lines a read returns. The laws hold for all choices.
pub record Course : Type 0 where
  pub outcome : ServedMatch → (session : ℕ) → Outcome
  pub arrives : ServedMatch → (session : ℕ) → Bool
  pub brings : ServedMatch → (session : ℕ) → ℕ

-- ---- the steps

abbrev pub session_at : Stand → (read answered : ℕ) → SessionState
session_at stand read answered = record { stand = stand; read = read; answered = answered }

abbrev pub stand_by : Outcome → Stand
stand_by Stays = Takes
stand_by Departs = Waits
stand_by Parts = Ends

-- A turn of a session's thread. In a closed match a session ends when it takes a line or waits. In an open match it
-- answers its line, reads without a buffered line, or keeps waiting on its link.
abbrev pub own_by : (is_closed has_line : Bool) → Outcome → (brought : ℕ) → Stand → (read answered : ℕ) → SessionState
own_by true true outcome brought Takes read answered = session_at Ends read answered
own_by false true outcome brought Takes read answered = session_at (stand_by outcome) read (answered + 1)
own_by is_closed false outcome brought Takes read answered = session_at Takes (read + brought) answered
own_by true has_line outcome brought Waits read answered = session_at Ends read answered
own_by false has_line outcome brought Waits read answered = session_at Waits read answered
own_by is_closed has_line outcome brought Ends read answered = session_at Ends read answered

abbrev pub own_turn : Course → ServedMatch → (number : ℕ) → SessionState → SessionState
own_turn course served number it =
    own_by served.is_closed (nat_lt it.answered it.read) (course.outcome served number) (course.brings served number)
    it.stand it.read it.answered

-- the state of a session after a turn that may have delivered its agent
abbrev pub moved : (arrives : Bool) → Stand → Stand
moved true Waits = Takes
moved arrives stand = stand

-- a turn of the match delivers agents; after the last turn the match is closed
abbrev pub match_turn : Course → (turns : ℕ) → ServedMatch → ServedMatch
match_turn course zero served = record served { is_closed = true }
match_turn course (suc turns) served = record served {
  turns = turns;
  session = λ number. record (served.session number) {
    stand = moved (course.arrives served number) (served.session number).stand;
  };
}

abbrev pub session_turn : Course → (number : ℕ) → ServedMatch → ServedMatch
session_turn course number served = record served {
  session = λ other. if other == number then own_turn course served other (served.session other)
      else served.session other;
}

-- the threads: one for each session 0, 1, .., and the last one takes the turns of the match
abbrev pub threads_of : Course → (sessions : ℕ) → Threads ServedMatch
threads_of course sessions = record {
  count = sessions + 1;
  turn = λ served thread. if thread == sessions then match_turn course served.turns served
      else session_turn course thread served;
}

-- ---- progress

-- the session has answered this many lines, or it has ended
abbrev pub HasAnswered : (lines : ℕ) → SessionState → Type 0
HasAnswered lines it = (it.stand ≡ Ends) ⊎ (lines ≤ it.answered)

-- the turns that a match has left, counting its close
abbrev pub time_of : (is_closed : Bool) → (turns : ℕ) → ℕ
time_of true turns = 0
time_of false turns = turns + 1

abbrev pub turns_left : ServedMatch → ℕ
turns_left served = time_of served.is_closed served.turns

-- A session has answered the first `lines` lines that it has read, or has ended, after 2 (lines - answered) + K + 2
-- rounds, where K is the number of turns that are left before the close. This holds for every course, every state and
-- every schedule.
abbrev pub EachLineIsAnswered : Type 0
EachLineIsAnswered = (course : Course) (sessions number lines rounds : ℕ) (served : ServedMatch) (schedule : List ℕ)
    → number < sessions → lines ≤ (served.session number).read → AreRounds (sessions + 1) rounds schedule
    → 2 * (lines - (served.session number).answered) + (turns_left served + 1) ≤ rounds
    → HasAnswered lines ((after (threads_of course sessions) served schedule).session number)

-- ---- an example

-- Session 0 departs by its first line and has a second one; no agent arrives. Session 1 has one line, and its agent
-- stays.
abbrev pub departing : Course
departing = record {
  outcome = λ served number. if number == 0 then Departs else Stays;
  arrives = λ served number. false;
  brings = λ served number. 0;
}

abbrev pub two_sessions : ServedMatch
two_sessions = record {
  turns = 1;
  is_closed = false;
  session = λ number. if number == 0 then session_at Takes 2 0 else session_at Takes 1 0;
}

-- After three rounds the match is closed. Session 0 has ended with its second line unanswered. Session 1 has answered
-- its line and reads from its client.
abbrev pub ThreeRounds : Type 0
ThreeRounds =
    ((after (threads_of departing 2) two_sessions (0 ∷ 1 ∷ 2 ∷ 1 ∷ 0 ∷ 2 ∷ 2 ∷ 0 ∷ 1 ∷ [])).session 0
    ≡ session_at Ends 2 1)
    × ((after (threads_of departing 2) two_sessions (0 ∷ 1 ∷ 2 ∷ 1 ∷ 0 ∷ 2 ∷ 2 ∷ 0 ∷ 1 ∷ [])).session 1
    ≡ session_at Takes 1 1)
