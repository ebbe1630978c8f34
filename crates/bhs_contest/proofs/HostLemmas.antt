-- Lists of matches that are put under locks.
use Rattle.std.proofs.Common.{◌≡◌, ◌∙◌, ap, sym, ℕ, ◌+◌, List, [], ◌∷◌, ◌++◌, length, map, append_assoc}
use Rattle.std.proofs.Common.{length-append}
use Rattle.rand_chacha.specs.ChaCha.{ChaCha}
use Rattle.bhs_time.specs.declared.kinds.ScheduleKind.{ScheduleKind}
use Rattle.bhs_setups.specs.Fresh.{AreFresh}
use Rattle.bhs_setups.specs.declared.lineups.Ready.{Ready}
use Rattle.bhs_shared_match.specs.SharedMatches.{Given}
use Rattle.bhs_deliveries.specs.Dealer.{dealer_at}
use Rattle.bhs_contest.specs.Hosting.{dealers_of, given_of, givens_of}

-- what came of the first matches, and the matches that are left
pub record Hosts (seed : List ℕ) (schedule : ScheduleKind) (all : List Ready) (teams : List (List ℕ))
    (shared_matches : List Given) (dealers : List ChaCha)
    (left : List Ready) : Type 0 where
  pub fresh : AreFresh left
  pub named : teams ++ map (λ (ready : Ready). ready.team) left ≡ map (λ (ready : Ready). ready.team) all
  pub given : shared_matches ++ givens_of schedule (length shared_matches) left ≡ givens_of schedule 0 all
  pub dealt : dealers ++ dealers_of seed (length dealers) left ≡ dealers_of seed 0 all
  pub paired : length dealers ≡ length shared_matches

-- a list that has gained the first of what was left
moved : {X : Type 0} (done done' : List X) (x : X) (left whole : List X) → done' ≡ done ++ x ∷ []
    → done ++ x ∷ left ≡ whole → done' ++ left ≡ whole
moved done done' x left whole grown so_far =
    ap (λ list. list ++ left) grown ∙ (append_assoc done (x ∷ []) left ∙ so_far)

module _ (seed : List ℕ) (schedule : ScheduleKind) (all : List Ready) (teams teams' : List (List ℕ))
    (shared_matches shared_matches' : List Given)
    (dealers dealers' : List ChaCha) (ready : Ready) (left : List Ready)
    (so_far : Hosts seed schedule all teams shared_matches dealers (ready ∷ left)) where
  -- one more
  pub hosts_more : teams' ≡ teams ++ ready.team ∷ [] → shared_matches' ≡ shared_matches
      ++ given_of schedule (length shared_matches) ready ∷ []
      → dealers' ≡ dealers ++ dealer_at seed (length dealers) 0 ∷ [] →
      Hosts seed schedule all teams' shared_matches' dealers' left
  hosts_more team shared_match dealer =
      let one : length dealers' ≡ length dealers + 1 = ap length dealer ∙ length-append dealers _ in
      let next : length shared_matches' ≡ length shared_matches + 1 = ap length shared_match
      ∙ length-append shared_matches _ in
      record {
        fresh = so_far.fresh.1;
        named = moved teams teams' ready.team _ _ team so_far.named;
        given = ap (λ n. shared_matches' ++ givens_of schedule n left) next
            ∙ moved shared_matches shared_matches' (given_of schedule (length shared_matches) ready) _ _ shared_match
            so_far.given;
        dealt = ap (λ n. dealers' ++ dealers_of seed n left) one
            ∙ moved dealers dealers' (dealer_at seed (length dealers) 0) _ _ dealer so_far.dealt;
        paired = one ∙ ap (λ n. n + 1) so_far.paired ∙ sym next;
      }
