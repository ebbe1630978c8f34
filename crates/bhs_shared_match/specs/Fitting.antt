-- How the count of an agent's heard commands follows from its past. This carries proofs; a reader of contracts needs
-- none of it.
use Rattle.std.specs.Prelude.{ℕ, ◌+◌, ◌<◌, ◌≤◌, ◌≡◌}
use Rattle.bhs_model.specs.Views.{Standing, Outside, Present, Away, Ended, standing, used}
use Rattle.bhs_match.specs.Matches.{Play, state_of}
use Rattle.bhs_shared_match.specs.Tallies.{heard_count}

-- how often an agent in this standing was heard, if it has used this number of commands of its quota
abbrev pub Fits : (quota : ℕ) → Standing → (used heard : ℕ) → Type 0
Fits quota Outside used heard = (heard ≡ 0) × (used ≡ 0)
Fits quota Present used heard = (heard ≡ used + 1) × (used ≤ quota)
Fits quota Away used heard = (heard ≡ used + 1) × (used ≤ quota)
Fits quota Ended used heard = 0 < heard

-- each agent's count fits
abbrev pub AreFit : Play → Type 0
AreFit play = (agent : ℕ) →
    Fits play.setup.quota (standing ((state_of play).past agent)) (used ((state_of play).past agent))
    (heard_count agent play.log)
