-- What comes of the matches of a server.
use Rattle.std.specs.Prelude.{ℕ, suc, ◌≡◌, Vec, Option, Some, List, [], ◌∷◌, Result, Ok, Err, drop, length, slice_get}
use Rattle.std.specs.Prelude.{◌==◌, if◌then◌else◌, filter, map, nat_lt}
use Rattle.std.specs.declared.alloc.Global.{Global}
use Rattle.rand_chacha.specs.ChaCha.{ChaCha}
use Rattle.bhs_time.specs.declared.kinds.ScheduleKind.{ScheduleKind}
use Rattle.bhs_time.specs.declared.kinds.ScheduleKind.TheVariants.{Oblivious}
use Rattle.bhs_time.specs.TimedLogs.{IsTimedLog}
use Rattle.bhs_match.specs.Matches.{Play, world_in}
use Rattle.bhs_deliveries.specs.Links.{held_in}
use Rattle.bhs_deliveries.specs.Scheduling.{whole_schedule, stamps_in}
use Rattle.bhs_deliveries.specs.Timeliness.{IsUntimelyAt}
use Rattle.bhs_deliveries.specs.declared.timeliness.Untimely.{Untimely as Why}
use Rattle.bhs_shared_match.specs.Passes.{Passed}
use Rattle.bhs_shared_match.specs.SharedMatches.{Given}
use Rattle.bhs_shared_match.specs.Disputes.{AreInAccord, HasRefused}
use Rattle.bhs_shared_match.specs.declared.settlement.Settlement.{Settlement}
use Rattle.bhs_session.specs.declared.endings.Ended.{Ended}
use Rattle.bhs_server.specs.declared.sessions.Session.{Session}
use Rattle.bhs_server.specs.declared.settlement.Refused.{Refused}
use Rattle.bhs_server.specs.declared.settlement.Refused.TheVariants.{Unsettled, Untimely}

-- the dealer of the same seed and stream at its start
abbrev pub at_start : ChaCha → ChaCha
at_start dealer = record dealer { word_pos = 0 }

-- Under the oblivious schedule by the words of this dealer, a match with its turns is a timed execution: each turn
-- delivers the agent that the words give it, unless its link is held, and none is left out. Under the adaptive
-- schedule, and without a dealer, nothing is asked.
abbrev pub IsTimely : ScheduleKind → Option ChaCha → (held : List (ℕ × ℕ)) → Play → (turns : List ℕ) → Type 0
IsTimely (Oblivious law) (Some dealer) held play turns =
    IsTimedLog (world_in play) (held_in held) (whole_schedule dealer play.setup.agents law) (stamps_in play.log turns)
IsTimely schedule dealer held play turns = Unit {0}

-- the event at this place of a match's log is the first that belongs to no timed execution, for this reason
abbrev pub IsAstray : ScheduleKind → Option ChaCha → (held : List (ℕ × ℕ)) → Play → (turns : List ℕ) → (place : ℕ) → Why
    → Type 0
IsAstray (Oblivious law) (Some dealer) held play turns place why =
    IsUntimelyAt (world_in play) (held_in held) (whole_schedule dealer play.setup.agents law)
    (stamps_in play.log turns) place why
IsAstray schedule dealer held play turns place why = ⊥

-- The match has ended and has the network and setup of its shared match. The passes agree with it and contain all heard
-- commands of its agents. Each event of its log has a turn.
pub record IsSealed (given : Given) (settlement : Settlement) : Type 0 where
  pub passes : List Passed
  pub accord : AreInAccord given settlement.sealed passes
  pub count : length settlement.turns.items ≡ length settlement.sealed.log

-- how a match fared whose turns are by this dealer: it settles and is a timed execution; it settles, and an event of it
-- belongs to none; or it was refused with some passes
abbrev pub HasFared : Given → Option ChaCha → Result Settlement Refused → Type 0
HasFared given dealer (Ok settlement) =
    IsSealed given settlement
    × IsTimely given.schedule dealer given.held settlement.sealed settlement.turns.items
HasFared given dealer (Err (Untimely settlement place why)) =
    IsSealed given settlement
    × IsAstray given.schedule dealer given.held settlement.sealed settlement.turns.items place why
HasFared given dealer (Err (Unsettled unsettled)) = (passes : Vec Passed Global) × HasRefused given passes unsettled

-- how each shared match fared, in order, by the dealers of the same numbers
abbrev pub HaveFared : List Given → List ChaCha → List (Result Settlement Refused) → Type 0
HaveFared [] dealers [] = Unit {0}
HaveFared (given ∷ others) dealers (one ∷ more) =
    HasFared given (slice_get dealers 0) one × HaveFared others (drop 1 dealers) more
HaveFared shared_matches dealers settled = ⊥

-- the passes of the sessions on the match of this number, in the order of the sessions
abbrev pub passes_in : (game : ℕ) → List Session → List Passed
passes_in game [] = []
passes_in game (session ∷ sessions) = if session.played.game == game then session.played.pass ∷ passes_in game sessions
    else passes_in game sessions

-- the sessions on other matches
abbrev pub others_than : (game : ℕ) → List Session → List Session
others_than game [] = []
others_than game (session ∷ sessions) = if session.played.game == game then others_than game sessions
    else session ∷ others_than game sessions

-- These passes settled the match, or made it fail to settle.
abbrev pub IsSettledBy : Given → List Passed → Result Settlement Refused → Type 0
IsSettledBy given passes (Ok settlement) = AreInAccord given settlement.sealed passes
IsSettledBy given passes (Err (Untimely settlement place why)) = AreInAccord given settlement.sealed passes
IsSettledBy given passes (Err (Unsettled unsettled)) = unsettled.passes.items ≡ passes

-- each match, of which the first has this number, was settled or refused with the passes of its sessions
abbrev pub AreSettledBy : (game : ℕ) → List Given → List Session → List (Result Settlement Refused) → Type 0
AreSettledBy game [] sessions [] = Unit {0}
AreSettledBy game (given ∷ others) sessions (one ∷ more) =
    IsSettledBy given (passes_in game sessions) one × AreSettledBy (suc game) others sessions more
AreSettledBy game shared_matches sessions settled = ⊥

-- the sessions on matches below this number
unfoldable pub sessions_on : (matches : ℕ) → List Session → List Session
sessions_on matches = filter (λ session. nat_lt session.played.game matches)

-- The endings of the sessions whose passes settled the matches: exactly one entry per such session, in session order.
pub record HaveEnded (shared_matches : List Given) (settled : List (Result Settlement Refused))
    (ended : List Ended) : Type 0 where
  pub sessions : List Session
  pub each : ended ≡ map (λ session. session.ended) (sessions_on (length shared_matches) sessions)
  pub settled_by : AreSettledBy 0 shared_matches sessions settled
