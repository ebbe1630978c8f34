-- A match settles with the passes of its sessions, and each session carries a proof that `attend` served it.
use Rattle.std.proofs.Common.{ℕ, zero, suc, ◌≡◌, ◌+◌, subst, refl, arith}
use Rattle.std.proofs.Common.{Bool, true, false, Option, Some, None, List, [], ◌∷◌, Result, Ok, ◌==◌}
use Rattle.std.proofs.Common.{if◌then◌else◌}
use Rattle.std.specs.Prelude.{slice_get}
use Rattle.std.proofs.Math.Logic.{∥∥₁_map}
use Rattle.std.proofs.lemmas.Bool.{eq-eqb}
use Rattle.bhs_shared_match.specs.SharedMatches.{Given}
use Rattle.bhs_shared_match.specs.Disputes.{AreInAccord}
use Rattle.bhs_shared_match.specs.Passes.{Passed}
use Rattle.bhs_shared_match.specs.declared.settlement.Settlement.{Settlement}
use Rattle.bhs_server.specs.Attending.{WasServed}
use Rattle.bhs_server.specs.Settling.{AreSettledBy, IsSettledBy, passes_in}
use Rattle.bhs_server.specs.declared.sessions.Session.{Session}
use Rattle.bhs_server.specs.declared.settlement.Refused.{Refused}
use Rattle.bhs_theorems_isolation.specs.ServedSessions.{ServedSessionsTookPart}

-- a match and its result, where both exist
abbrev IsResultOf : List Passed → Option Given → Option (Result Settlement Refused) → Type 0
IsResultOf passes (Some given) (Some one) = IsSettledBy given passes one
IsResultOf passes (Some given) None = Unit {0}
IsResultOf passes None one = Unit {0}

-- Induction over the matches: a settled match agrees with the passes of its sessions.
accord_at : (from game : ℕ) (shared_matches : List Given) (sessions : List Session)
    (settled : List (Result Settlement Refused))
    (given : Given) (settlement : Settlement) → AreSettledBy from shared_matches sessions settled
    → slice_get shared_matches game ≡ Some given → slice_get settled game ≡ Some (Ok settlement)
    → AreInAccord given settlement.sealed (passes_in (from + game) sessions)
accord_at from game [] sessions [] given settlement all here there = absurd (cc)
accord_at from game [] sessions (one ∷ more) given settlement all here there = absurd all
accord_at from game (first ∷ others) sessions [] given settlement all here there = absurd all
accord_at from zero (first ∷ others) sessions (one ∷ more) given settlement all here there =
    let same : from ≡ from + 0 = omega arith in
    let passes : List Passed = passes_in from sessions in
    let at_given : IsResultOf passes (Some given) (Some one) =
    subst (λ (shared_match : Option Given). IsResultOf passes shared_match (Some one)) here all.0 in
    let at_result : IsResultOf passes (Some given) (Some (Ok settlement)) =
    subst (λ (result : Option (Result Settlement Refused)). IsResultOf passes (Some given) result) there at_given in
    subst (λ (number : ℕ). AreInAccord given settlement.sealed (passes_in number sessions)) same at_result
accord_at from (suc game) (first ∷ others) sessions (one ∷ more) given settlement all here there =
    let same : suc from + game ≡ from + suc game = omega arith in
    subst (λ (number : ℕ). AreInAccord given settlement.sealed (passes_in number sessions)) same
    (accord_at (suc from) game others sessions more given settlement all.1 here there)

-- the index of a session's pass among the passes of its match
record IsHandedIn (passes : List Passed) (pass : Passed) : Type 0 where
  index : ℕ
  there : slice_get passes index ≡ Some pass

first_in : (b : Bool) (pass : Passed) (passes : List Passed) → b ≡ true
    → IsHandedIn (if b then pass ∷ passes else passes) pass
first_in true pass passes is = record { index = 0; there = refl }
first_in false pass passes is = absurd (cc)

later_in : (b : Bool) (first pass : Passed) (passes : List Passed) → IsHandedIn passes pass
    → IsHandedIn (if b then first ∷ passes else passes) pass
later_in true first pass passes later = record { index = suc later.index; there = later.there }
later_in false first pass passes later = later

-- the claim for an optional session
abbrev IsHandedInIf : (game : ℕ) → List Passed → Option Session → Type 0
IsHandedInIf game passes (Some session) = session.played.game ≡ game → IsHandedIn passes session.played.pass
IsHandedInIf game passes None = Unit {0}

handed_in : (game index : ℕ) (sessions : List Session) (session : Session) → slice_get sessions index ≡ Some session
    → session.played.game ≡ game → IsHandedIn (passes_in game sessions) session.played.pass
handed_in game index [] session there own = absurd (cc)
handed_in game zero (first ∷ others) session there own =
    subst (λ (one : Option Session). IsHandedInIf game (passes_in game (first ∷ others)) one) there
    (λ is. first_in (first.played.game == game) first.played.pass (passes_in game others)
    (eq-eqb first.played.game game is)) own
handed_in game (suc index) (first ∷ others) session there own =
    later_in (first.played.game == game) first.played.pass session.played.pass (passes_in game others)
    (handed_in game index others session there own)

pub served_sessions_took_part : ServedSessionsTookPart
served_sessions_took_part shared_matches settled endings all game index given settlement session shared_match result
    there own quota
    is_kept are_replies =
    let accord : AreInAccord given settlement.sealed (passes_in (0 + game) all.sessions) =
    accord_at 0 game shared_matches all.sessions settled given settlement all.settled_by shared_match result in
    let none : 0 + game ≡ game = omega arith in
    let place = handed_in game index all.sessions session there own in
    ∥∥₁_map session.served (λ (served : WasServed session.played.pass session.ended). record {
      one = record {
        play = settlement.sealed;
        pass = session.played.pass;
        said = served.said;
        more = served.more;
        written = served.written;
        ended = session.ended;
      };
      of_match = refl;
      by_pass = refl;
      with_end = refl;
      took = record {
        kept = is_kept;
        replies = are_replies;
        given = given;
        passes = passes_in game all.sessions;
        accord = subst (λ (number : ℕ). AreInAccord given settlement.sealed (passes_in number all.sessions)) none
            accord;
        index = place.index;
        handed_in = place.there;
        shared_matches = shared_matches;
        game = game;
        shared_match = shared_match;
        of_shared_match = quota;
        wrote = served.wrote;
        none_more = served.none_more;
      };
    })
