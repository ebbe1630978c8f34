-- The lines that report to the operator of a contest what happens.
use Rattle.std.specs.Prelude.{ℕ, ◌/◌, ◌%◌, List, [], ◌∷◌, ◌++◌, codes, decimal, ◌==◌, if◌then◌else◌}
use Rattle.bhs_session.specs.declared.endings.Ended.{Ended}
use Rattle.bhs_session.specs.declared.endings.Ended.TheVariants as endings
use Rattle.bhs_wire.specs.declared.denials.Denial.{Denial}
use Rattle.bhs_wire.specs.declared.denials.Denial.TheVariants as denials
use Rattle.bhs_server.specs.declared.rejections.Rejection.{Rejection}
use Rattle.bhs_server.specs.declared.rejections.Rejection.TheVariants as rejection
use Rattle.bhs_server.specs.declared.watch.Outside.{Outside}
use Rattle.bhs_server.specs.declared.watch.Outside.TheVariants as outside
use Rattle.bhs_referee.specs.declared.verdicts.Verdict.{Verdict}
use Rattle.bhs_cli_results.specs.Reports.{verdict_line}

-- how a session ended, in words
abbrev pub ended_words : Ended → List ℕ
ended_words endings.Bye = codes "its agent left"
ended_words endings.Noted = codes "its agent accused"
ended_words endings.Over = codes "its match was over"
ended_words endings.Denied = codes "it was denied"
ended_words endings.InputEnded = codes "its input ended"
ended_words endings.ReadFault = codes "a read failed"
ended_words endings.WriteFault = codes "a write failed"
ended_words endings.Memory = codes "memory ran out"
ended_words endings.Turns = codes "it read too often"

-- a session was let in as an agent of a match
abbrev pub plays_line : (session game : ℕ) (team : List ℕ) (agent : ℕ) → List ℕ
plays_line session game team agent =
    codes "serve: session " ++ (decimal session ++ (codes " plays match " ++ (decimal game ++ (codes " (" ++ (team
    ++ (codes ") agent " ++ (decimal agent ++ codes "\n")))))))

-- a session has ended that played this agent of this match
abbrev pub played_line : (session game : ℕ) (team : List ℕ) (agent : ℕ) → Ended → List ℕ
played_line session game team agent ended =
    codes "serve: session " ++ (decimal session ++ (codes " played match " ++ (decimal game ++ (codes " (" ++ (team
    ++ (codes ") agent " ++ (decimal agent ++ (codes ": " ++ (ended_words ended ++ codes "\n")))))))))

-- how many lines of a session were no commands, with the first of them in words
abbrev pub strays_line : (session lines : ℕ) → (first : List ℕ) → List ℕ
strays_line session lines first = if lines == 1
    then codes "serve: session " ++ (decimal session ++ (codes ": 1 line was no command: " ++ (first ++ codes "\n")))
    else codes "serve: session " ++ (decimal session ++ (codes ": " ++ (decimal lines
    ++ (codes " lines were no commands, the first: " ++ (first ++ codes "\n")))))

-- why a first line was denied, in words
abbrev pub denied_words : Denial → List ℕ
denied_words denials.Enter = codes "it was denied, since its first line was no enter"
denied_words denials.Key = codes "it was denied, since no agent has its key"
denied_words denials.Taken = codes "it was denied, since its key was used before"

-- why a client was not served, in words
abbrev pub rejection_words : Rejection → List ℕ
rejection_words rejection.Full = codes "it was not served, since as many sessions go on as may"
rejection_words rejection.Late = codes "it was cut off, since its first line did not come in time"
rejection_words rejection.Memory = codes "it was not served, since memory or threads ran out"

-- why an agent has not entered, in words
abbrev pub outside_words : Outside → List ℕ
outside_words (outside.Denied denial) = denied_words denial
outside_words (outside.Rejection why) = rejection_words why
outside_words (outside.Ended ended) = ended_words ended

-- a client is gone whose agent has not entered
abbrev pub unplayed_line : (session : ℕ) → Outside → List ℕ
unplayed_line session why =
    codes "serve: session " ++ (decimal session ++ (codes " played nobody: " ++ (outside_words why ++ codes "\n")))

-- more clients came and went than lines report
abbrev pub outsiders_line : (clients : ℕ) → List ℕ
outsiders_line clients = codes "serve: " ++ (decimal clients ++ codes " more clients played nobody\n")

-- lines were dropped because earlier lines had not been read
abbrev pub unread_line : (lines : ℕ) → List ℕ
unread_line lines =
    codes "serve: " ++ (decimal lines ++ codes " lines were dropped here, since nobody read the log\n")

-- writing a part failed and is tried again
abbrev pub part_waits_line : (game events : ℕ) → List ℕ
part_waits_line game events =
    codes "serve: the part of match " ++ (decimal game ++ (codes " stops after " ++ (decimal events
    ++ codes " events: write\n")))

-- writing a part succeeds again after a failure
abbrev pub part_goes_on_line : (game events : ℕ) → List ℕ
part_goes_on_line game events =
    codes "serve: the part of match " ++ (decimal game ++ (codes " goes on after " ++ (decimal events
    ++ codes " events\n")))

-- a match was closed after this number of turns: how many events it has, and the verdict
abbrev pub judged_line : (game : ℕ) (team : List ℕ) (turns events : ℕ) → Verdict → List ℕ
judged_line game team turns events verdict =
    codes "serve: match " ++ (decimal game ++ (codes " (" ++ (team ++ (codes ") closed: turns " ++ (decimal turns
    ++ (codes " events " ++ (decimal events ++ (codes ", " ++ verdict_line verdict))))))))

-- the same if memory ran out for the verdict
abbrev pub unjudged_line : (game : ℕ) (team : List ℕ) (turns : ℕ) → List ℕ
unjudged_line game team turns =
    codes "serve: match " ++ (decimal game ++ (codes " (" ++ (team ++ (codes ") closed: turns " ++ (decimal turns
    ++ codes " and no memory to judge it\n")))))

-- how many sessions go on, how many agents have not entered yet, and how many matches are open
abbrev pub sessions_line : (sessions missing matches : ℕ) → List ℕ
sessions_line sessions missing matches =
    codes "serve: sessions " ++ (decimal sessions ++ (codes ", agents to come " ++ (decimal missing
    ++ (codes ", open matches " ++ (decimal matches ++ codes "\n")))))

-- how many turns a match has taken that goes on, out of how many, and how many events its part has
abbrev pub open_line : (game : ℕ) (team : List ℕ) (turns most events : ℕ) → List ℕ
open_line game team turns most events =
    codes "serve: match " ++ (decimal game ++ (codes " (" ++ (team ++ (codes ") is open: turns " ++ (decimal turns
    ++ (codes " of " ++ (decimal most ++ (codes " events " ++ (decimal events ++ codes "\n")))))))))

-- after how many turns a match was closed, and how many events its part has
abbrev pub closed_line : (game : ℕ) (team : List ℕ) (turns events : ℕ) → List ℕ
closed_line game team turns events =
    codes "serve: match " ++ (decimal game ++ (codes " (" ++ (team ++ (codes ") is closed: turns " ++ (decimal turns
    ++ (codes " events " ++ (decimal events ++ codes "\n")))))))

-- a number after a space
abbrev pub number_after_space : ℕ → List ℕ
number_after_space one = codes " " ++ decimal one

abbrev pub numbers : List ℕ → List ℕ
numbers [] = []
numbers (one ∷ others) = number_after_space one ++ numbers others

-- which agents of a match have not entered
abbrev pub missing_line : (game : ℕ) (team agents : List ℕ) → List ℕ
missing_line game team agents =
    codes "serve: match " ++ (decimal game ++ (codes " (" ++ (team ++ (codes ") misses agents" ++ (numbers agents
    ++ codes "\n")))))

-- how the teams would be ranked if all matches were closed now
abbrev pub standings_lines : (table absent : List ℕ) → List ℕ
standings_lines table absent = codes "serve: if all matches were closed now:\n" ++ (table ++ absent)

-- a team without any agent, listed below the table
abbrev pub absent_line : (game : ℕ) (team : List ℕ) → List ℕ
absent_line game team =
    codes "  - " ++ (team ++ (codes ": no agent of match " ++ (decimal game ++ codes " has entered\n")))

-- the operator has matches closed
abbrev pub all_closing_line : List ℕ
all_closing_line = codes "serve: the operator closes all matches\n"

abbrev pub closing_line : (game : ℕ) → List ℕ
closing_line game = codes "serve: the operator closes match " ++ (decimal game ++ codes "\n")

-- lines of the operator asked for nothing
abbrev pub unknown_line : (lines matches : ℕ) → List ℕ
unknown_line lines matches =
    codes "serve: ignored " ++ (decimal lines
    ++ (codes " lines of standard input: expected close, close M with M below " ++ (decimal matches
    ++ codes ", or status\n")))

-- the two digits of a number below 100, followed by more text
abbrev pub two_digits : (number : ℕ) (behind : List ℕ) → List ℕ
two_digits number behind = decimal (number / 10) ++ (decimal (number % 10) ++ behind)

-- a line with the time at which it is reported, this many seconds after the contest began: hours, minutes and seconds
abbrev pub timed_line : (seconds : ℕ) (line : List ℕ) → List ℕ
timed_line seconds line =
    decimal (seconds / 3600) ++ (codes ":" ++ two_digits (seconds / 60 % 60)
    (codes ":" ++ two_digits (seconds % 60) (codes " " ++ line)))
