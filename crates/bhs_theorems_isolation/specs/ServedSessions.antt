-- The sessions of a server, and the matches that settled with their passes.
use Rattle.std.specs.Prelude.{ℕ, ◌≡◌, Some, List, map, Result, Ok, slice_get}
use Rattle.bhs_model.specs.Kept.{kept}
use Rattle.bhs_model.specs.Marks.{events_of, read_if}
use Rattle.bhs_model.specs.InOrder.{replies}
use Rattle.bhs_match.specs.Matches.{Play, world_in}
use Rattle.bhs_shared_match.specs.SharedMatches.{Given}
use Rattle.bhs_shared_match.specs.Passes.{Passed}
use Rattle.bhs_shared_match.specs.declared.settlement.Settlement.{Settlement}
use Rattle.bhs_session.specs.declared.endings.Ended.{Ended}
use Rattle.bhs_server.specs.Ports.{IsOfSharedMatch}
use Rattle.bhs_server.specs.Settling.{HaveEnded}
use Rattle.bhs_server.specs.declared.sessions.Session.{Session}
use Rattle.bhs_server.specs.declared.settlement.Refused.{Refused}
use Rattle.bhs_theorems_isolation.specs.ContestMet.{Attended, TookPart}

-- a session with this pass and ending that took part in this match
pub record HasTakenPart (play : Play) (pass : Passed) (ended : Ended) : Type 0 where
  pub one : Attended
  pub of_match : one.play ≡ play
  pub by_pass : one.pass ≡ pass
  pub with_end : one.ended ≡ ended
  pub took : TookPart one

-- Each session of a server took part in its match if the match settled: `attend` served the session, and the match
-- settled with the session's pass. The match is one that a `Sealed` shows, and the pass has the quota of its match, as
-- `attend` ensures of each.
abbrev pub ServedSessionsTookPart : Type 0
ServedSessionsTookPart = (shared_matches : List Given) (settled : List (Result Settlement Refused))
    (endings : List Ended)
    (all : HaveEnded shared_matches settled endings) (game index : ℕ) (given : Given) (settlement : Settlement)
    (session : Session) → slice_get shared_matches game ≡ Some given → slice_get settled game ≡ Some (Ok settlement)
    → slice_get all.sessions index ≡ Some session → session.played.game ≡ game
    → IsOfSharedMatch shared_matches game session.played.pass
    → kept (world_in settlement.sealed) (events_of settlement.sealed.log) ≡ events_of settlement.sealed.log
    → map (λ entry. read_if settlement.sealed.log entry.mark) settlement.sealed.log
    ≡ replies (world_in settlement.sealed) (events_of settlement.sealed.log)
    → ∥ HasTakenPart settlement.sealed session.played.pass session.ended ∥₁
