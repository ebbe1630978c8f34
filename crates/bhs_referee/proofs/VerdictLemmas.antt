-- What is said of a walk that follows the definitions is what they say.
use Rattle.std.proofs.Common.{◌≡◌, ℕ, ◌+◌, Bool, true, false, List, [], ◌∷◌, ◌++◌, refl, sym, ap, ap₂, ◌∙◌, add-zero}
use Rattle.std.proofs.Common.{zero-add, if◌then◌else◌}
use Rattle.std.specs.Prelude.{count_by}
use Rattle.std.specs.List.{range_with_len}
use Rattle.std.proofs.lemmas.List.Sums.{sum_by-append}
use Rattle.bhs_net.specs.Network.{Network}
use Rattle.bhs_model.specs.declared.setups.Setup.{Setup}
use Rattle.bhs_model.specs.Setups.{world_of}
use Rattle.bhs_model.specs.Kept.{lost}
use Rattle.bhs_model.specs.Marks.{events_of}
use Rattle.bhs_model.proofs.NormalLemmas.{range_more}
use Rattle.bhs_match.specs.Matches.{Play, world_in, state_of}
use Rattle.bhs_referee.specs.declared.verdicts.Outcome.{Outcome}
use Rattle.bhs_referee.specs.declared.walks.Walk.{Walk}
use Rattle.bhs_referee.specs.Findings.{Findings, findings}
use Rattle.bhs_referee.specs.Verdicts.{outcome_of, verdict_of}
use Rattle.bhs_referee.specs.Walks.{found_in}
use Rattle.bhs_referee.proofs.FollowLemmas.{Follows}

count_last : (test : ℕ → Bool) (xs : List ℕ) (x : ℕ) → count_by test (xs ++ x ∷ []) ≡ count_by test
    xs + (if test x then 1 else 0)
count_last test xs x = sum_by-append (λ (y : ℕ). if test y then 1 else 0) xs (x ∷ [])
    ∙ ap (λ (n : ℕ). count_by test xs + n) (zero-add (if test x then 1 else 0))

-- one number more is counted if it passes
pub counted : (test : ℕ → Bool) (n before : ℕ) → test n ≡ true → before ≡ count_by test (range_with_len 0 n)
    → before + 1 ≡ count_by test (range_with_len 0 (n + 1))
counted test n before passes same = rw (range_more n, count_last test (range_with_len 0 n) n, passes, same) refl

pub uncounted : (test : ℕ → Bool) (n before : ℕ) → test n ≡ false → before ≡ count_by test (range_with_len 0 n)
    → before ≡ count_by test (range_with_len 0 (n + 1))
uncounted test n before fails same = rw (range_more n, count_last test (range_with_len 0 n) n, fails, same)
    (sym (add-zero _))

found_same : (walk : Walk) (found : Findings) → Follows walk found → found_in walk ≡ found
found_same walk found follows i = record {
  accused = λ agent. follows.accused agent i;
  reached = λ node. follows.reached node i;
  moves = follows.moves i;
}

-- The verdict computed by the walk equals the model's verdict.
pub verdict_same : (play : Play) (net : Network) (setup : Setup) (walk : Walk) (outcome : Outcome) (count : ℕ)
    → Follows walk (findings (world_in play) (events_of play.log)) → net ≡ play.net → setup ≡ play.setup →
    outcome ≡ outcome_of (world_of net setup) (state_of play).position (found_in walk)
    → count ≡ count_by (lost (world_in play) (events_of play.log)) (range_with_len 0 setup.agents) →
    record { outcome = outcome; moves = walk.moves; lost = count } ≡ verdict_of play
verdict_same play net setup walk outcome count follows net_is setup_is outcome_is count_is =
    let outcomes = outcome_is ∙ ap₂ (λ (n : Network) (s : Setup). outcome_of (world_of n s) (state_of play).position
    (found_in walk)) net_is setup_is
    ∙ ap (outcome_of (world_in play) (state_of play).position) (found_same _ _ follows) in
    let counts = count_is ∙ ap (λ (s : Setup). count_by (lost (world_in play) (events_of play.log))
    (range_with_len 0 s.agents)) setup_is in
    λ i. record { outcome = outcomes i; moves = follows.moves i; lost = counts i }
